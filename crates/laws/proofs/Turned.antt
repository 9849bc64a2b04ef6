-- A list of corners that is turned round has the area that it had: what `rules` states in its file `Outlines`. Assumes nothing.
-- Key: `turned_area`; `turned_append`: a list of two parts; `halves`, `swapped`: its area.
use Rattle.std.specs.Prelude.{ℕ, ◌≡◌, drop, ◌+ℤ◌}
use Rattle.std.proofs.Math.Path.{refl, ap}
use Rattle.std.proofs.Common.{sym, ◌∙◌, take-append-drop, drop_at}
use mathlib.Core.List.{List, [], ◌∷◌, ◌++◌, append_assoc, append-nil}
use Rattle.std.proofs.Math.ListN.{length, take}
use Rattle.std.proofs.Math.Seq.{take_at}
use Rattle.std.proofs.Math.IntN.{+ℤ_comm}
use Rattle.rules.specs.declared.Point.{Point}
use Rattle.rules.specs.Plane.{area}
use Rattle.rules.specs.Outlines.{turned, TurnedArea}
use Rattle.laws.specs.Sides.{cross, path}
use Rattle.laws.proofs.Sides.{path_through, area_path}

-- a list of two parts, started at the second
module _ {A : Type 0} where
  pub turned_append : (l m : List A) (k : ℕ) → length l ≡ k → turned (l ++ m) k ≡ m ++ l
  unfolding turned
  turned_append l m k e = rw (drop_at l m k e, take_at l m k e) refl

-- ---- turned: the sides are the same, whichever is first
pub halves : (p : Point) (l : List Point) (q : Point) (m : List Point) → area (p ∷ (l ++ (q ∷ m))) ≡ path cross p (l ++ (q ∷ [])) +ℤ path cross q (m ++ (p ∷ []))
halves p l q m = area_path p (l ++ (q ∷ m)) ∙ ap (path cross p) (append_assoc l (q ∷ m) (p ∷ [])) ∙ path_through cross p l q (m ++ (p ∷ []))

pub swapped : (l m : List Point) → area (l ++ m) ≡ area (m ++ l)
swapped [] m = ap area (sym (append-nil m))
swapped (p ∷ l) [] = ap (λ (s : List Point). area (p ∷ s)) (append-nil l)
swapped (p ∷ l) (q ∷ m) = halves p l q m ∙ +ℤ_comm (path cross p (l ++ (q ∷ []))) (path cross q (m ++ (p ∷ []))) ∙ sym (halves q m p l)

pub turned_area : TurnedArea
unfolding turned
turned_area l k = swapped (drop k l) (take k l) ∙ ap area (take-append-drop k l)
