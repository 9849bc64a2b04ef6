-- Places where a definition takes another way than its sentence, and that the two come to the same. Statements; the proofs are in crate `laws`.
use Rattle.std.specs.Prelude.{◌≡◌, true, ℕ, ◌+◌, ◌-◌, ◌%◌, ◌<◌}
use Rattle.rules.specs.Lists.{next, prev}
use Rattle.rules.specs.Weld.{is_same, bucket}
use Rattle.rules.specs.declared.Vertex.{Vertex}

-- math.rs: `next` is (i + 1) % n and `prev` is (i + n - 1) % n
abbrev pub NextIsRemainder : Type 0
NextIsRemainder = (i n : ℕ) → i < n → next i n ≡ (i + 1) % n

abbrev pub PrevIsRemainder : Type 0
PrevIsRemainder = (i n : ℕ) → i < n → prev i n ≡ (i + n - 1) % n

-- R3: vertices that are the same stand in one bucket
abbrev pub SameBucket : Type 0
SameBucket = (height : ℕ) (v w : Vertex) → is_same height v w ≡ true → bucket v.x v.z ≡ bucket w.x w.z
