-- Two rings of corners joined at a side and its opposite: the join, cut where it was joined, is the two. Assumes nothing.
-- Key: `area_joined`: it has the two areas, added up; `past_ring`: what lies past a side, and the side's start, is the ring turned round.
use Rattle.std.specs.Prelude.{ℕ, suc, ◌+◌, ◌-◌, ◌%◌, ◌≤◌, ◌<◌, ◌≡◌, refl, length, take, drop, get_or}
use Rattle.std.proofs.Common.{arith, mod-eq_of_lt, add-zero, ◌∙◌, ⊎_elim, length-take, length-drop, take-suc, get_or-take, get_or-drop, ext_get_or, get_or-append-add}
use Rattle.std.proofs.Math.Path.{sym, ap, ap₂}
use mathlib.Core.List.{List, [], ◌∷◌, ◌++◌, map}
use Rattle.std.proofs.Math.ListN.{length-append, length-map, get_or-append}
use Rattle.std.proofs.Math.IntN.{◌+ℤ◌}
use Rattle.mem.specs.Cases.{lt_or_le}
use Rattle.mem.specs.Tab.{tab, length_tab, get_or_tab}
use Rattle.rules.specs.declared.Point.{Point}
use Rattle.rules.specs.Plane.{area}
use Rattle.rules.specs.Mesh.{side_start, side_end}
use Rattle.rules.specs.Merge.{past_side}
use Rattle.rules.specs.Outlines.{turned, arc}
use Rattle.laws.proofs.Ring.{mod_once, next_remainder}
use Rattle.laws.proofs.Outlines.{arc_there, arc_back, map_turned, map_arc, cut_area_lem}
use Rattle.laws.proofs.Turned.{turned_area}

-- ---- a ring from past one of its sides on
ring_at : (cs : List ℕ) (e k : ℕ) → e < length cs → k < length cs → get_or cs ((e + 1 + k) % length cs) 0 ≡ get_or (turned cs (e + 1)) k 0
unfolding turned
ring_at cs e k h i = ⊎_elim
    (λ (a : e + 1 + k < length cs). let d = length-drop (e + 1) cs in
    rw (mod-eq_of_lt a, get_or-append (drop (e + 1) cs) (take (e + 1) cs) 0 k (omega arith), get_or-drop (e + 1) cs k 0) refl)
    (λ (a : length cs ≤ e + 1 + k). let d = length-drop (e + 1) cs in
    let q : k ≡ length (drop (e + 1) cs) + (e + 1 + k - length cs) = omega arith in
    rw (mod_once (e + 1 + k) (length cs) a (omega arith))
    (sym (get_or-take (e + 1) cs (e + 1 + k - length cs) 0 (omega arith)) ∙ sym (get_or-append-add (drop (e + 1) cs) (take (e + 1) cs) (e + 1 + k - length cs) 0)
    ∙ ap (λ (j : ℕ). get_or (drop (e + 1) cs ++ take (e + 1) cs) j 0) (sym q)))
    (lt_or_le (e + 1 + k) (length cs))

-- past the side e, and then the side's start: all corners, from the side's end on
pub past_ring : (cs : List ℕ) (e : ℕ) → e < length cs → past_side cs e ++ (get_or cs e 0 ∷ []) ≡ turned cs (e + 1)
unfolding past_side tab turned
past_ring cs e h =
    ends ∙ ext_get_or 0 (tab round (length cs)) (turned cs (e + 1)) lengths
    (λ k i. let j : k < length cs = rw (length_tab round (length cs)) at i in get_or_tab round (length cs) k 0 j ∙ ring_at cs e k h j)
  where
    round : ℕ → ℕ
    round k = get_or cs ((e + 1 + k) % length cs) 0

    lengths : length (tab round (length cs)) ≡ length (drop (e + 1) cs ++ take (e + 1) cs)
    lengths = simp (length_tab, length-append, length-take, length-drop) (omega arith)

    last : round (length cs - 1) ≡ get_or cs e 0
    last =
        let q : (e + 1 + (length cs - 1)) % length cs ≡ e = mod_once (e + 1 + (length cs - 1)) (length cs) (omega arith) (omega arith) ∙ omega arith in
        ap (λ (j : ℕ). get_or cs j 0) q

    ends : tab round (length cs - 1) ++ (get_or cs e 0 ∷ []) ≡ tab round (length cs)
    ends = let q : suc (length cs - 1) ≡ length cs = omega arith in rw (← last) (ap (tab round) q)

pub length_past : (cs : List ℕ) (e : ℕ) → length (past_side cs e) ≡ length cs - 1
unfolding past_side
length_past cs e = length_tab _ (length cs - 1)

-- it begins with the side's end
past_first : (cs : List ℕ) (e : ℕ) → e < length cs → 2 ≤ length cs → take 1 (past_side cs e) ≡ side_end cs e ∷ []
unfolding past_side
past_first cs e h k =
    take-suc (past_side cs e) 0 0 (omega (arith, length_past cs e))
    ∙ ap (λ (c : ℕ). c ∷ []) (get_or_tab (λ k. get_or cs ((e + 1 + k) % length cs) 0) (length cs - 1) 0 0 (omega arith)
    ∙ ap (λ (j : ℕ). get_or cs j 0) (ap (λ (k : ℕ). k % length cs) (add-zero (e + 1)) ∙ sym (next_remainder e (length cs) h)))

-- ---- the join of two rings, at a side of a and the opposite side of b: cut where they were joined, it is the two, each started past its side
module _ (a b : List ℕ) (i j : ℕ) (h : i < length a) (k : j < length b) (la : 2 ≤ length a) (lb : 2 ≤ length b)
    (p : side_start a i ≡ side_end b j) (q : side_end a i ≡ side_start b j) where
  ring : List ℕ
  ring = past_side a i ++ past_side b j

  seam : ℕ
  seam = length (past_side a i)

  arc_a : arc ring 0 seam ≡ turned a (i + 1)
  unfolding ring seam
  arc_a =
      arc_there (past_side a i) (past_side b j)
      ∙ ap (λ (l : List ℕ). past_side a i ++ l) (past_first b j k lb ∙ ap (λ (c : ℕ). c ∷ []) (sym p)) ∙ past_ring a i h

  arc_b : arc ring seam 0 ≡ turned b (j + 1)
  unfolding ring seam
  arc_b =
      arc_back (past_side a i) (past_side b j) (omega (arith, length_past a i))
      ∙ ap (λ (l : List ℕ). past_side b j ++ l) (past_first a i h la ∙ ap (λ (c : ℕ). c ∷ []) q) ∙ past_ring b j k

  module _ (pl : ℕ → Point) where
    arc_area : (x y n : ℕ) (l : List ℕ) → arc ring x y ≡ turned l n → area (arc (map pl ring) x y) ≡ area (map pl l)
    arc_area x y n l e = ap area (sym (map_arc pl ring x y) ∙ ap (map pl) e ∙ map_turned pl l n) ∙ turned_area (map pl l) n

    pub area_joined : area (map pl (past_side a i ++ past_side b j)) ≡ area (map pl a) +ℤ area (map pl b)
    unfolding ring seam
    area_joined =
        let n = length-map ring pl ∙ length-append (past_side a i) (past_side b j) in
        let m = length_past a i in
        let o = length_past b j in
        sym (cut_area_lem (map pl ring) 0 seam (omega arith) (omega arith) (λ e. absurd (omega arith)))
        ∙ ap₂ ◌+ℤ◌ (arc_area 0 seam (i + 1) a arc_a) (arc_area seam 0 (j + 1) b arc_b)
