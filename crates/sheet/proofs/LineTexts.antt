-- Each line of a sheet as the texts that are printed for it, one behind the other. Assumes nothing.
use mathlib.Core.Path.{◌≡◌, refl, sym, ap, ◌∙◌}
use mathlib.Core.Bool.{Bool, cond}
use mathlib.Core.List.{List, [], ◌∷◌, ◌++◌, append_assoc, append-nil}
use Prim.Native.Nat.{ℕ}
use lib.IntN.{ℤ}
use Rattle.mem.specs.Packed.{packed}
use Rattle.rules.specs.Lines.{tab_byte, lf, cell, signed_cell, number_line}
use Rattle.rules.specs.Sheet.{unit_name, mm_name, in_name, cell_name, refused_name, mesh_name, p_name, n_name, refused_text, unit_line, polygon_lines}
use Rattle.lines.specs.Pieces.{joined}
use Rattle.sheet.specs.Rows.{line_of_values, top_text, mesh_line_of, polygon_text}

-- a name and values
abbrev pub line_texts : {B : Type 0} → (B → ℕ) → List ℕ → List B → List (List ℕ)
line_texts says name bs = name ∷ (packed (λ b. cell (says b)) bs ∷ ((lf ∷ []) ∷ []))

pub line_texts_lem : {B : Type 0} (says : B → ℕ) (name : List ℕ) (bs : List B) → line_of_values says name bs ≡ joined (line_texts says name bs)
unfolding joined
line_texts_lem says name bs = refl

abbrev pub refused_texts : ℕ → ℕ → List (List ℕ)
refused_texts number line = refused_name ∷ (cell number ∷ (cell line ∷ ((lf ∷ []) ∷ [])))

pub refused_texts_lem : (number line : ℕ) → refused_text number line ≡ joined (refused_texts number line)
unfolding refused_text number_line packed joined
refused_texts_lem number line =
    ap (λ (l : List ℕ). refused_name ++ l)
    (append_assoc (cell number) (cell line ++ []) (lf ∷ []) ∙ ap (λ (l : List ℕ). cell number ++ (l ++ (lf ∷ []))) (append-nil (cell line)))

abbrev pub unit_texts : Bool → List (List ℕ)
unit_texts inches = unit_name ∷ ((tab_byte ∷ []) ∷ (cond inches in_name mm_name ∷ ((lf ∷ []) ∷ [])))

pub unit_texts_lem : (inches : Bool) → unit_line inches ≡ joined (unit_texts inches)
unfolding unit_line joined
unit_texts_lem inches = refl

abbrev pub top_texts : Bool → ℕ → ℕ → List (List ℕ)
top_texts inches size height = unit_line inches ∷ (number_line cell_name (size ∷ (height ∷ [])) ∷ [])

pub top_texts_lem : (inches : Bool) (size height : ℕ) → top_text inches size height ≡ joined (top_texts inches size height)
unfolding top_text joined
top_texts_lem inches size height = ap (λ (l : List ℕ). unit_line inches ++ l) (sym (append-nil (number_line cell_name (size ∷ (height ∷ [])))))

abbrev pub mesh_texts : ℕ → ℕ → ℤ → List (List ℕ)
mesh_texts k n area = mesh_name ∷ (cell k ∷ (cell n ∷ (signed_cell area ∷ ((lf ∷ []) ∷ []))))

pub mesh_texts_lem : (k n : ℕ) (area : ℤ) → mesh_line_of k n area ≡ joined (mesh_texts k n area)
unfolding mesh_line_of joined
mesh_texts_lem k n area = refl

abbrev pub polygon_texts : ℕ → ℕ → List ℕ → List ℕ → List (List ℕ)
polygon_texts region code corners links = p_name ∷ (cell region ∷ (cell code ∷ (packed cell corners ∷ ((lf ∷ []) ∷ (number_line n_name links ∷ [])))))

pub polygon_texts_lem : (region code : ℕ) (corners links : List ℕ) → polygon_text region code corners links ≡ joined (polygon_texts region code corners links)
unfolding polygon_text polygon_lines number_line packed joined
polygon_texts_lem region code corners links = simp (append_assoc, append-nil)
