-- A stored mesh printed: its line, its vertices and its polygons are its text. Assumes nothing.
use mathlib.Core.Path.{◌≡◌, sym, ap, ◌∙◌}
use mathlib.Core.List.{List, [], ◌∷◌, ◌++◌, append-nil}
use Prim.Native.Nat.{ℕ}
use lib.IntN.{ℤ}
use mir.Syntax.{w64}
use mir.Val.{SFits, to_z, of_z}
use Rattle.ints.specs.Machine.{reads_of}
use Rattle.rules.specs.Areas.{stored_area}
use Rattle.rules.specs.Exits.{decoded}
use Rattle.rules.specs.Sheet.{mesh_text}
use Rattle.lines.specs.Pieces.{joined, Going, going_begin}
use Rattle.stored.specs.Stored.{lent_of, stored_in}
use Rattle.sheet.specs.Rows.{mesh_line_of, vertex_rows, polygon_rows}
use Rattle.sheet.specs.Printable.{Printable, mesh_parts}

-- the area's bits, read
pub area_bits : {z a : ℤ} → SFits w64 z → z ≡ a → to_z w64 (of_z w64 z) ≡ a
area_bits f e = (reads_of f).reads ∙ e

module _ {out : List ℕ} {at nvp n k : ℕ} {vs ps ls rs cs : List ℕ} (p : Printable out at nvp n k vs ps ls rs cs) where
  pub mesh_going : (z : ℤ) → z ≡ stored_area (stored_in nvp n k vs ps)
      → Going (mesh_text (decoded nvp n k (lent_of vs ps ls rs cs))) out at (mesh_line_of k n z ∷ (vertex_rows vs k ∷ (polygon_rows nvp n ps ls rs cs ∷ []))) out at
  unfolding joined
  mesh_going z e =
      going_begin _ out at
      (mesh_parts nvp n k vs ps ls rs cs
      ∙ rw (sym e) (ap (λ (l : List ℕ). mesh_line_of k n z ++ (vertex_rows vs k ++ l)) (sym (append-nil (polygon_rows nvp n ps ls rs cs)))))
      p.room
