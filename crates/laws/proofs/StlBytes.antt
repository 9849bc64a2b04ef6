-- The bytes of an STL: four bytes are the number that they were written from, and the 50 bytes of a facet its patterns. Assumes nothing.
-- Key: `from_little_lem`; `between_read`: things that stand one after the other, between a beginning and an end, are read back; `facet_long`, `facet_read`.
use Rattle.std.specs.Prelude.{◌≡◌, refl, List, ◌++◌, ℕ, ◌+◌, ◌*◌, ◌/◌, ◌%◌, ◌≤◌, ◌<◌, length, take, get_or, replicate}
use Rattle.std.proofs.Common.{sym, ap, ◌∙◌, div-add-mod', mod-eq_of_lt, arith, length-append, take_at, drop_at, get_or-append-add}
use Rattle.std.proofs.Math.Nat.{div-div-eq-div-mul}
use Rattle.std.proofs.lemmas.List.{get_or-replicate}
use Rattle.std.proofs.Math.ListN.{get_or-append}
use Rattle.mem.specs.Slice.{view, splice, splice_view}
use Rattle.mem.specs.Tab.{blocks}
use Rattle.mem.specs.Packed.{packed, length_packed, unpacked, Every, every_of}
use Rattle.rules.specs.Stl.{little, from_little, facet_bytes, facet_in, IsFacet}
use Rattle.laws.specs.StlBytes.{Small}

-- ---- four bytes

digits : (n a b c d r s t : ℕ) → a * 256 + r ≡ n → b * 256 + s ≡ a → c * 256 + t ≡ b → d ≡ c → r + 256 * s + 65536 * t + 16777216 * d ≡ n
digits n a b c d r s t e f g h = omega arith

pub from_little_lem : (n : ℕ) → n < 4294967296 → from_little (little n) ≡ n
unfolding from_little little
from_little_lem n h =
    let two : n / 256 / 256 ≡ n / 65536 = div-div-eq-div-mul n 256 256 in
    let three : n / 65536 / 256 ≡ n / 16777216 = div-div-eq-div-mul n 65536 256 in
    digits n (n / 256) (n / 65536) (n / 16777216) (n / 16777216 % 256) (n % 256) (n / 256 % 256) (n / 65536 % 256)
    (div-add-mod' n 256) (rw two at (div-add-mod' (n / 256) 256)) (rw three at (div-add-mod' (n / 65536) 256))
    (mod-eq_of_lt (omega arith))

-- ---- things that stand one after the other, between a beginning and an end

module _ {B : Type 0} (enc : B → List ℕ) (k : ℕ) (Fit : B → Type 0) (d : B) (sized : (b : B) → Fit b → length (enc b) ≡ k) where
  pub between_read : (dec : List ℕ → B) → ((b : B) → Fit b → dec (enc b) ≡ b) → (xs ys : List ℕ) (o : ℕ) (bs : List B) → length xs ≡ o → Every Fit d bs
      → blocks dec (xs ++ (packed enc bs ++ ys)) o k (length bs) ≡ bs
  between_read dec back xs ys o bs e all =
      let w = xs ++ (packed enc bs ++ ys) in
      let long : length (packed enc bs) ≡ length bs * k = length_packed enc k Fit d sized bs all in
      let there : view w o (length (packed enc bs)) ≡ packed enc bs =
      ap (take (length (packed enc bs))) (drop_at xs (packed enc bs ++ ys) o e) ∙ take_at (packed enc bs) ys (length (packed enc bs)) refl in
      let same : splice w o (packed enc bs) ≡ w = ap (splice w o) (sym there) ∙ splice_view w o (length (packed enc bs)) in
      let fits : o + length bs * k ≤ length w = simp (length-append) (omega arith) in
      ap (λ (l : List ℕ). blocks dec l o k (length bs)) (sym same) ∙ unpacked enc k Fit d sized w o bs all fits dec back

-- ---- a facet's bytes

little_long : (n : ℕ) → Small n → length (little n) ≡ 4
unfolding little
little_long n h = refl

patterns_long : (f : List ℕ) → IsFacet f → length (packed little f) ≡ 36
patterns_long f h = length_packed little 4 Small 0 little_long f (every_of Small 0 f h.small) ∙ ap (λ (n : ℕ). n * 4) h.nine

pub facet_long : (f : List ℕ) → IsFacet f → length (facet_bytes f) ≡ 50
unfolding facet_bytes
facet_long f h = simp (length-append, patterns_long f h) refl

pub facet_read : (f : List ℕ) → IsFacet f → facet_in (facet_bytes f) ≡ f
unfolding facet_in facet_bytes
facet_read f h =
    let all : Every Small 0 f = every_of Small 0 f h.small in
    rw h.nine at (between_read little 4 Small 0 little_long from_little from_little_lem (replicate 12 0) (replicate 2 0) 12 f refl all)

-- its normal, and its attribute
pub normal_zero : (f : List ℕ) (j : ℕ) → j < 12 → get_or (facet_bytes f) j 0 ≡ 0
unfolding facet_bytes
normal_zero f j h = get_or-append (replicate 12 0) (packed little f ++ replicate 2 0) 0 j h ∙ get_or-replicate 12 j 0 0 h

pub attribute_zero : (f : List ℕ) (i : ℕ) → IsFacet f → i < 2 → get_or (facet_bytes f) (48 + i) 0 ≡ 0
unfolding facet_bytes
attribute_zero f i g h =
    let a : 48 + i ≡ 12 + (36 + i) = omega arith in
    rw a (get_or-append-add (replicate 12 0) (packed little f ++ replicate 2 0) (36 + i) 0
    ∙ (rw (patterns_long f g) at (get_or-append-add (packed little f) (replicate 2 0) i 0))
    ∙ get_or-replicate 2 i 0 0 h)
