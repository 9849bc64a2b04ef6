-- Where a byte stands in a text, and the parts, lines and cells that it makes. Assumes nothing.
-- Key: `place_of`: the first place of a byte; `part_next`, `part_last`: the first part of a text from a place on, and what is left of the text behind it;
-- `parts_cut`: the parts on both sides of such a byte.
use Rattle.std.specs.Prelude.{◌≡◌, Bool, true, false, List, [], ◌∷◌, ◌++◌, ℕ, suc, ◌+◌, ◌≤◌, ◌<◌, eqb, length, take, drop, get_or}
use Rattle.std.proofs.Math.Path.{refl}
use Rattle.std.proofs.Common.{ap, ◌∙◌, add-one, arith, length-drop, drop-drop, eqb-true, eq-eqb}
use Rattle.std.proofs.Math.Seq.{split_at}
use Rattle.mem.specs.Slice.{view}
use Rattle.rules.specs.Lines.{parts, on_first}

-- the first place of the byte b, or the length if there is none
unfoldable pub place_of : ℕ → List ℕ → ℕ
place_of b [] = 0
place_of b (c ∷ cs) = elim (eqb c b) [
  | true ↦ 0
  | false ↦ place_of b cs + 1
]

-- ---- the first byte is the one that is sought, or it isn't
module _ (b c : ℕ) (cs : List ℕ) where
  pub place_here : eqb c b ≡ true → place_of b (c ∷ cs) ≡ 0
  unfolding place_of
  place_here e = rw (e, place_of) refl

  pub place_later : eqb c b ≡ false → place_of b (c ∷ cs) ≡ place_of b cs + 1
  unfolding place_of
  place_later e = rw (e, place_of) refl

  pub parts_here : eqb c b ≡ true → parts b (c ∷ cs) ≡ [] ∷ parts b cs
  unfolding parts
  parts_here e = rw (e, parts) refl

  pub parts_later : eqb c b ≡ false → parts b (c ∷ cs) ≡ on_first c (parts b cs)
  unfolding parts
  parts_later e = rw (e, parts) refl

-- there is always a part
on_some : (c : ℕ) (ps : List (List ℕ)) → 0 < length (on_first c ps)
unfolding on_first
on_some c [] = omega arith
on_some c (p ∷ ps) = omega arith

pub parts_some : (b : ℕ) (l : List ℕ) → 0 < length (parts b l)
unfolding parts
parts_some b [] = omega arith
parts_some b (c ∷ cs) = elim (eqb c b) as (λ (t : Bool). 0 < length {A = List ℕ} (elim t [ true ↦ [] ∷ parts b cs | false ↦ on_first c (parts b cs) ])) [
  | true ↦ omega arith
  | false ↦ on_some c (parts b cs)
]

-- ---- a part ends where its byte stands, and the last one at the end of the text
parts_at : (b : ℕ) (l : List ℕ) → place_of b l < length l → parts b l ≡ take (place_of b l) l ∷ parts b (drop (place_of b l + 1) l)
unfolding on_first
parts_at b [] h = absurd (omega arith)
parts_at b (c ∷ cs) h = (elim (eqb c b) as (λ (t : Bool). eqb c b ≡ t → parts b (c ∷ cs) ≡ take (place_of b (c ∷ cs)) (c ∷ cs) ∷ parts b (drop (place_of b (c ∷ cs) + 1) (c ∷ cs))) [
  | true ↦ λ e. rw (place_here b c cs e) (parts_here b c cs e)
  | false ↦ λ e. let k = place_of b cs in
      let q : place_of b (c ∷ cs) ≡ suc k = place_later b c cs e ∙ add-one k in
      rw (q, add-one (suc k)) (parts_later b c cs e ∙ ap (on_first c) (rw add-one at (parts_at b cs (omega arith))))
]) refl

parts_end : (b : ℕ) (l : List ℕ) → length l ≤ place_of b l → parts b l ≡ l ∷ []
unfolding parts on_first
parts_end b [] h = refl
parts_end b (c ∷ cs) h = (elim (eqb c b) as (λ (t : Bool). eqb c b ≡ t → parts b (c ∷ cs) ≡ (c ∷ cs) ∷ []) [
  | true ↦ λ e. absurd (omega (arith, place_here b c cs e))
  | false ↦ λ e. let q = place_later b c cs e in parts_later b c cs e ∙ ap (on_first c) (parts_end b cs (omega arith))
]) refl

module _ (b : ℕ) (text : List ℕ) (p : ℕ) where
  pub part_next : p + place_of b (drop p text) < length text
      → parts b (drop p text) ≡ view text p (place_of b (drop p text)) ∷ parts b (drop (p + place_of b (drop p text) + 1) text)
  part_next h =
      let k = place_of b (drop p text) in
      let e : p + (k + 1) ≡ p + k + 1 = omega arith in
      parts_at b (drop p text) (rw length-drop (omega arith)) ∙ ap (λ (l : List ℕ). view text p k ∷ parts b l) (rw e at (drop-drop (k + 1) p text))

  pub part_last : length text ≤ p + place_of b (drop p text) → parts b (drop p text) ≡ drop p text ∷ []
  part_last h = parts_end b (drop p text) (rw length-drop (omega arith))

-- ---- the parts on both sides of a byte that parts
on_append : (c : ℕ) (ps qs : List (List ℕ)) → 0 < length ps → on_first c (ps ++ qs) ≡ on_first c ps ++ qs
unfolding on_first
on_append c [] qs h = absurd (omega arith)
on_append c (p ∷ ps) qs h = refl

parts_both : (b : ℕ) (xs ys : List ℕ) → parts b (xs ++ (b ∷ ys)) ≡ parts b xs ++ parts b ys
unfolding parts
parts_both b [] ys = parts_here b b ys (eq-eqb b b refl)
parts_both b (c ∷ xs) ys = (elim (eqb c b) as (λ (t : Bool). eqb c b ≡ t → parts b (c ∷ (xs ++ (b ∷ ys))) ≡ parts b (c ∷ xs) ++ parts b ys) [
  | true ↦ λ e. parts_here b c (xs ++ (b ∷ ys)) e ∙ rw (parts_both b xs ys, parts_here b c xs e) refl
  | false ↦ λ e.
      parts_later b c (xs ++ (b ∷ ys)) e
      ∙ rw (parts_both b xs ys, parts_later b c xs e) (on_append c (parts b xs) (parts b ys) (parts_some b xs))
]) refl

pub place_is : (b : ℕ) (l : List ℕ) → place_of b l < length l → get_or l (place_of b l) 0 ≡ b
place_is b [] h = absurd (omega arith)
place_is b (c ∷ cs) h = (elim (eqb c b) as (λ (t : Bool). eqb c b ≡ t → get_or (c ∷ cs) (place_of b (c ∷ cs)) 0 ≡ b) [
  | true ↦ λ e. rw (place_here b c cs e) (eqb-true c b e)
  | false ↦ λ e.
      let q : place_of b (c ∷ cs) ≡ suc (place_of b cs) = place_later b c cs e ∙ add-one (place_of b cs) in
      rw q (place_is b cs (omega arith))
]) refl

-- such a byte stands at q
pub parts_cut : (b : ℕ) (text : List ℕ) (q : ℕ) → q < length text → get_or text q 0 ≡ b → parts b text ≡ parts b (take q text) ++ parts b (drop (q + 1) text)
parts_cut b text q h x = ap (parts b) (split_at text q 0 h) ∙ rw (x, add-one q) (parts_both b (take q text) (drop (suc q) text))
