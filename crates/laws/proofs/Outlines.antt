-- A list of corners that is turned round, reversed or cut: what `rules` states in its file `Outlines`, but for `turned_area`, in `Turned`. Assumes nothing.
-- Key: `reversed_area`, `cut_area_lem`, `cut_ends`, `cut_length`; `arc_there`, `arc_back`: lists of two parts that are cut;
-- `area_seen`, `area_open`: what the sides give as seen from any point.
use Rattle.std.specs.Prelude.{ℕ, ◌+◌, ◌-◌, ◌≤◌, ◌<◌, ◌≡◌, Bool, leb, drop, ℤ, neg_ℤ, ◌+ℤ◌}
use native.Mathlib.Omega.{arith}
use Rattle.std.proofs.Math.Path.{refl, ap}
use Rattle.std.proofs.Common.{sym, ◌∙◌, ⊎_elim, length-take, take-append-drop, length-take-le, get_or-take}
use Rattle.std.proofs.Math.Bool.{true, false, cond}
use mathlib.Core.List.{List, [], ◌∷◌, ◌++◌, map, append_assoc, reverse, reverse-cons}
use borrow.Author.Tests.{le-leb, lt-leb}
use Rattle.std.proofs.Math.ListN.{length, take, length-append, length-drop, get_or-append}
use Rattle.std.proofs.Math.Seq.{drop-append_seam, take-append-le, drop-append-le, take-append-add, take-add, get_or-drop, get_or-append-add}
use Rattle.std.proofs.Math.IntN.{+ℤ_idr, +ℤ_comm}
use Rattle.ints.specs.Ring.{at, nat, neg, ◌⊕◌, is_eq}
use Rattle.mem.specs.Cases.{lt_or_le}
use Rattle.rules.specs.declared.Point.{Point}
use Rattle.rules.specs.Plane.{D, fan, area, origin}
use Rattle.rules.specs.Outlines.{turned, arc, ReversedArea, CutArea, FromTo, CutEnds, CutLength}
use Rattle.laws.proofs.Lists.{map_append, map_take, map_drop}
use Rattle.laws.specs.Sides.{cross, path}
use Rattle.laws.proofs.Sides.{cross_anti, cross_self, D-end, path_through, area_path, area_triangle}
use Rattle.laws.proofs.Turned.{halves, swapped, turned_area}

-- ---- a list of two parts: cut where the second begins and at its start; and what a map makes of a list that is turned or cut
module _ {A : Type 0} where
  pub arc_there : (l m : List A) → arc (l ++ m) 0 (length l) ≡ l ++ take 1 m
  unfolding arc
  arc_there l m = rw (le-leb 0 (length l) (omega arith)) (take-append-add l m 1)

  pub arc_back : (l m : List A) → 0 < length l → arc (l ++ m) (length l) 0 ≡ m ++ take 1 l
  unfolding arc
  arc_back l m h = rw (lt-leb (length l) 0 h, drop-append_seam l m, take-append-le 1 l m h) refl

module _ {A B : Type 0} (f : A → B) where
  pub map_turned : (l : List A) (k : ℕ) → map f (turned l k) ≡ turned (map f l) k
  unfolding turned
  map_turned l k = rw (map_append f (drop k l) (take k l), map_drop f k l, map_take f k l) refl

  pub map_arc : (l : List A) (i j : ℕ) → map f (arc l i j) ≡ arc (map f l) i j
  unfolding arc
  map_arc l i j = go (leb i j)
    where
      go : (b : Bool) → map f (cond b (drop i (take (j + 1) l)) (drop i l ++ take (j + 1) l))
          ≡ cond b (drop i (take (j + 1) (map f l))) (drop i (map f l) ++ take (j + 1) (map f l))
      go true = map_drop f i (take (j + 1) l) ∙ ap (drop i) (map_take f (j + 1) l)
      go false = rw (map_append f (drop i l) (take (j + 1) l), map_drop f i l, map_take f (j + 1) l) refl

-- ---- reversed: each side is walked the other way
path_back : (p : Point) (l : List Point) (q : Point) → path cross q (reverse l ++ (p ∷ [])) ≡ neg_ℤ (path cross p (l ++ (q ∷ [])))
unfolding path
path_back p [] q = rw (cross_anti q p) (is_eq (neg (at (cross p q)) ⊕ nat 0) (neg (at (cross p q) ⊕ nat 0)) (omega arith))
path_back p (r ∷ l) q =
    rw (reverse-cons r l, append_assoc (reverse l) (r ∷ []) (p ∷ []), path_through cross q (reverse l) r (p ∷ []), path_back r l q, cross_anti r p)
    (is_eq (neg (at (path cross r (l ++ (q ∷ [])))) ⊕ (neg (at (cross p r)) ⊕ nat 0)) (neg (at (cross p r) ⊕ at (path cross r (l ++ (q ∷ []))))) (omega arith))

pub reversed_area : ReversedArea
unfolding area
reversed_area [] = refl
reversed_area (p ∷ l) =
    ap area (reverse-cons p l) ∙ swapped (reverse l) (p ∷ []) ∙ area_path p (reverse l) ∙ path_back p l p ∙ ap neg_ℤ (sym (area_path p l))

-- ---- cut: the side from q to p and the side from p to q cancel
cut_parts : (l m : List Point) → 0 < length l → 0 < length m → area (l ++ take 1 m) +ℤ area (m ++ take 1 l) ≡ area (l ++ m)
unfolding path
cut_parts [] m h k = absurd (omega arith)
cut_parts (p ∷ l) [] h k = absurd (omega arith)
cut_parts (p ∷ l) (q ∷ m) h k =
    rw (halves p l q [], halves q m p [], halves p l q m, cross_anti q p)
    (is_eq (at (path cross p (l ++ (q ∷ []))) ⊕ (neg (at (cross p q)) ⊕ nat 0) ⊕ (at (path cross q (m ++ (p ∷ []))) ⊕ (at (cross p q) ⊕ nat 0)))
    (at (path cross p (l ++ (q ∷ []))) ⊕ at (path cross q (m ++ (p ∷ [])))) (omega arith))

-- at i, and at j behind it
module _ (l : List Point) (i j : ℕ) (h : i < j) (k : j < length l) where
  -- from i up to j, and from j round up to i
  there : List Point
  there = drop i (take j l)

  back : List Point
  back = drop j l ++ take i l

  up_to_j : length (take j l) ≡ j
  up_to_j = length-take-le j l (omega arith)

  from_i : drop i l ≡ there ++ drop j l
  unfolding there
  from_i = ap (drop i) (sym (take-append-drop j l)) ∙ drop-append-le i (take j l) (drop j l) (omega (arith, up_to_j))

  whole : turned l i ≡ there ++ back
  unfolding turned back
  whole = ap (λ (s : List Point). s ++ take i l) from_i ∙ append_assoc there (drop j l) (take i l)

  some_there : 0 < length there
  unfolding there
  some_there = omega (arith, length-drop i (take j l), up_to_j)

  some_back : 0 < length (drop j l)
  some_back = omega (arith, length-drop j l)

  arc_ahead : arc l i j ≡ there ++ take 1 back
  unfolding arc there back
  arc_ahead =
      rw (le-leb i j (omega arith), take-add j 1 l, take-append-le 1 (drop j l) (take i l) some_back)
      (drop-append-le i (take j l) (take 1 (drop j l)) (omega (arith, up_to_j)))

  arc_round : arc l j i ≡ back ++ take 1 there
  unfolding arc back
  arc_round =
      rw (lt-leb j i h, take-add i 1 l, ap (take 1) from_i ∙ take-append-le 1 there (drop j l) some_there)
      (sym (append_assoc (drop j l) (take i l) (take 1 there)))

  cut_behind : area (arc l i j) +ℤ area (arc l j i) ≡ area l
  unfolding back
  cut_behind =
      rw (arc_ahead, arc_round)
      (cut_parts there back some_there (omega (arith, length-append (drop j l) (take i l), some_back)) ∙ ap area (sym whole) ∙ turned_area l i)

  lengths_behind : length (arc l i j) + length (arc l j i) ≡ length l + 2
  unfolding arc
  lengths_behind = rw (le-leb i j (omega arith), lt-leb j i h) (simp (length-append, length-drop, length-take) (omega arith))

-- whichever of the two comes first
pub cut_area_lem : CutArea
cut_area_lem l i j h k n = ⊎_elim
    (λ (f : i < j). cut_behind l i j f k)
    (λ (g : j ≤ i). let f : j < i = omega arith in +ℤ_comm (area (arc l i j)) (area (arc l j i)) ∙ cut_behind l j i f h)
    (lt_or_le i j)

pub cut_length : CutLength
cut_length l i j h k n = ⊎_elim
    (λ (f : i < j). lengths_behind l i j f k)
    (λ (g : j ≤ i). let f : j < i = omega arith in omega (arith, lengths_behind l j i f h))
    (lt_or_le i j)

-- the ends of each: in one piece, or past the list's end in two
module _ (l : List Point) (i j : ℕ) (h : i < length l) (k : j < length l) where
  up_to : length (take (j + 1) l) ≡ j + 1
  up_to = length-take-le (j + 1) l (omega arith)

  ends_ahead : i ≤ j → FromTo l i j
  unfolding arc
  ends_ahead f =
      let n : length (drop i (take (j + 1) l)) - 1 ≡ j - i = omega (arith, length-drop i (take (j + 1) l), up_to) in
      let p : i + 0 ≡ i = omega arith in let q : i + (j - i) ≡ j = omega arith in
      record {
        first = rw (le-leb i j f, get_or-drop i (take (j + 1) l) 0 origin, p) (get_or-take (j + 1) l i origin (omega arith));
        last = rw (le-leb i j f, n, get_or-drop i (take (j + 1) l) (j - i) origin, q) (get_or-take (j + 1) l j origin (omega arith));
      }

  ends_round : j < i → FromTo l i j
  unfolding arc
  ends_round f =
      let n : length (drop i l ++ take (j + 1) l) - 1 ≡ length (drop i l) + j = omega (arith, length-append (drop i l) (take (j + 1) l), up_to) in
      let p : i + 0 ≡ i = omega arith in
      record {
        first = rw (lt-leb i j f, get_or-append (drop i l) (take (j + 1) l) origin 0 (omega (arith, length-drop i l)), get_or-drop i l 0 origin, p) refl;
        last = rw (lt-leb i j f, n, get_or-append-add (drop i l) (take (j + 1) l) j origin) (get_or-take (j + 1) l j origin (omega arith));
      }

pub cut_ends : CutEnds
cut_ends l i j h k = ⊎_elim (λ (f : j < i). ends_round l i j h k f) (λ (f : i ≤ j). ends_ahead l i j h k f) (lt_or_le j i)

-- ---- seen from any point v: D over the sides of a path is the area of the path with v put in front
seen_is : (v p : Point) (l : List Point) → path (D v) p l ≡ area (v ∷ (p ∷ l))
unfolding path area fan
seen_is v p [] = refl
seen_is v p (q ∷ l) = ap (λ (z : ℤ). D v p q +ℤ z) (seen_is v q l)

-- an open path p, l, q, closed by the side from q to p
pub area_open : (v p : Point) (l : List Point) (q : Point) → path (D v) p (l ++ (q ∷ [])) ≡ area (p ∷ (l ++ (q ∷ []))) +ℤ D q v p
area_open v p l q =
    seen_is v p (l ++ (q ∷ []))
    ∙ swapped (v ∷ []) (p ∷ (l ++ (q ∷ []))) ∙ ap (λ (s : List Point). area (p ∷ s)) (append_assoc l (q ∷ []) (v ∷ []))
    ∙ sym (cut_parts (p ∷ l) (q ∷ (v ∷ [])) (omega arith) (omega arith)) ∙ ap (λ (z : ℤ). area (p ∷ (l ++ (q ∷ []))) +ℤ z) (area_triangle q v p)

-- the first point once more, at the end
once_more : (p : Point) (l : List Point) → area (p ∷ (l ++ (p ∷ []))) ≡ area (p ∷ l)
unfolding path
once_more p l = halves p l p [] ∙ rw (cross_self p) (+ℤ_idr (path cross p (l ++ (p ∷ [])))) ∙ sym (area_path p l)

pub area_seen : (v p : Point) (l : List Point) → area (p ∷ l) ≡ path (D v) p (l ++ (p ∷ []))
area_seen v p l = sym (area_open v p l p ∙ rw (D-end p v) (+ℤ_idr (area (p ∷ (l ++ (p ∷ []))))) ∙ once_more p l)

-- a list's sides, first the one from its last point to its first
pub area_round : (v : Point) (l : List Point) (q : Point) → area (l ++ (q ∷ [])) ≡ path (D v) q (l ++ (q ∷ []))
area_round v l q = swapped l (q ∷ []) ∙ area_seen v q l
