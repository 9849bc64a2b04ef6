-- The doubled area of a list of corners that is turned round, reversed or cut. Definitions and statements; the proofs are in crate `laws`.
-- "Have these shown for every list of three or more points, over R1's D.": `area` (`Plane`) is the sum of D. They hold for shorter lists too, so that no
-- statement asks for three points. Points may be repeated, stand in line, and sides may cross.
use Rattle.std.specs.Prelude.{◌≡◌, cond, ◌≢◌, List, ◌++◌, reverse, ℕ, ◌+◌, ◌-◌, ◌<◌, leb, neg_ℤ, ◌+ℤ◌, length, take, drop, get_or}
use Rattle.rules.specs.Plane.{area, origin}
use Rattle.rules.specs.declared.Point.{Point}

module _ {A : Type 0} where
  -- the list turned round to start at place k: from k to the end, and then the places before k
  unfoldable pub turned : List A → ℕ → List A
  turned l k = drop k l ++ take k l

  -- from place i round to place j, both in it: the places i to j; or, where j comes before i, from i to the end, and then the places up to j
  unfoldable pub arc : List A → ℕ → ℕ → List A
  arc l i j = cond (leb i j) (drop i (take (j + 1) l)) (drop i l ++ take (j + 1) l)

-- "turning the list of corners round to start elsewhere keeps its area"
abbrev pub TurnedArea : Type 0
TurnedArea = (l : List Point) (k : ℕ) → area (turned l k) ≡ area l

-- "reversing it changes only the sign"
abbrev pub ReversedArea : Type 0
ReversedArea = (l : List Point) → area (reverse l) ≡ neg_ℤ (area l)

-- "cutting it between any two different places gives two lists whose areas add up to it": from i round to j, and from j round to i
abbrev pub CutArea : Type 0
CutArea = (l : List Point) (i j : ℕ) → i < length l → j < length l → i ≢ j → area (arc l i j) +ℤ area (arc l j i) ≡ area l

-- "(the two places stand in both)": from i round to j a list begins with what stands at i and ends with what stands at j, whichever comes first
pub record FromTo (l : List Point) (i j : ℕ) : Type 0 where
  pub first : get_or (arc l i j) 0 origin ≡ get_or l i origin
  pub last : get_or (arc l i j) (length (arc l i j) - 1) origin ≡ get_or l j origin

abbrev pub CutEnds : Type 0
CutEnds = (l : List Point) (i j : ℕ) → i < length l → j < length l → FromTo l i j

-- and no other place stands in both: together the two lists are two longer
abbrev pub CutLength : Type 0
CutLength = (l : List Point) (i j : ℕ) → i < length l → j < length l → i ≢ j → length (arc l i j) + length (arc l j i) ≡ length l + 2
