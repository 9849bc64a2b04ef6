-- Two segments whose boxes don't meet: where R1's tests can be answered at once. Definitions and a statement; the proof is in crate `laws`.
use Rattle.std.specs.Prelude.{◌≡◌, Bool, true, false, not, ◌&&◌, ◌||◌, ℕ, ltb}
use Rattle.rules.specs.Plane.{vequal, intersect_prop, intersect}
use Rattle.rules.specs.declared.Point.{Point}

-- on a line: a and b both come before c and d both, so that what lies between a and b doesn't meet what lies between c and d
unfoldable pub before : ℕ → ℕ → ℕ → ℕ → Bool
before a b c d = (ltb a c && ltb a d) && (ltb b c && ltb b d)

-- "their boxes in x and z don't meet": the segments a b and c d. Boxes that share a side or a corner meet
unfoldable pub boxes_apart : Point → Point → Point → Point → Bool
boxes_apart a b c d =
    (before a.x b.x c.x d.x || before c.x d.x a.x b.x)
    || (before a.z b.z c.z d.z || before c.z d.z a.z b.z)

-- "Where both segments have a length and their boxes in x and z don't meet"
unfoldable pub are_apart : Point → Point → Point → Point → Bool
are_apart a b c d = (not (vequal a b) && not (vequal c d)) && boxes_apart a b c d

-- "they neither cross nor touch". "A segment of no length takes today's way, because R1 lets it be touched from outside its box.": the table of examples has it
abbrev pub ApartMiss : Type 0
ApartMiss = (a b c d : Point) → are_apart a b c d ≡ true → (intersect_prop a b c d ≡ false) × (intersect a b c d ≡ false)
