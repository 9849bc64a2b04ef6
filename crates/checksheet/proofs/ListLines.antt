-- All lines behind the mesh line: the vertices, the polygons, and no line behind them. Assumes nothing.
use Rattle.std.specs.Prelude.{Result, Ok, Err}
use mathlib.Core.Path.{◌≡◌, refl, ap, ◌∙◌}
use mathlib.Core.List.{List, [], ◌∷◌}
use Prim.Native.Nat.{ℕ, ◌*◌, ◌≤◌, ◌<◌}
use native.Mathlib.Omega.{arith}
use lib.ListN.{length, take, drop}
use Rattle.rules.specs.Lines.{Line, lines_of}
use Rattle.rules.specs.Checks.{vertex_stride}
use Rattle.rules.specs.Sheet.{taken, bad}
use Rattle.rules.specs.CheckSheet.{row_words, read_places, read_polygons}
use Rattle.rules.specs.Checker.{Claim}
use Rattle.lines.specs.Taken.{line_some, line_missing}
use Rattle.sheet.specs.declared.refusal.SheetRefusal.{SheetRefusal}
use Rattle.sheet.specs.declared.refusal.SheetRefusal.TheVariants.{Malformed}
use Rattle.sheet.specs.Refusals.{number_of, line_of, refused_as}
use Rattle.checksheet.specs.declared.progress.Progress.{Progress}
use Rattle.checksheet.specs.Reading.{with_mesh, rest_by, end_of, PlacesRead, PolygonsRead, ListsRead}
use Rattle.checksheet.proofs.Resting.{rest_good}

-- a line behind the last polygon, and none
line_over : (k : ℕ) (ls : List Line) (c : Claim) → 0 < length ls → read_polygons k 0 ls c ≡ bad 22 k
unfolding read_polygons
line_over k [] c h = absurd (omega arith)
line_over k (l ∷ ls) c h = refl

all_read : (k : ℕ) {ls : List Line} (c : Claim) → ls ≡ [] → read_polygons k 0 ls c ≡ taken c
unfolding read_polygons
all_read k c e = rw e refl

module _ {text : List ℕ} {from k : ℕ} {a : Result Progress SheetRefusal} {vs : List ℕ} (places : PlacesRead text from k a vs) (words n : ℕ) where
  -- a vertex's line is bad
  pub lists_bad : {z : SheetRefusal} → a ≡ Err z → (ps ls : List ℕ) → ListsRead text from words k n (Err z) vs ps ls
  unfolding rest_by end_of
  lists_bad g ps ls = record {
    same = λ c z.
        places.same n c
        ∙ ap (λ (x : Result Progress SheetRefusal). rest_by text x (λ line lines. read_polygons line n lines (with_mesh c (take (k * vertex_stride) vs) [] []))) g;
  }

  module _ {p : Progress} (g : a ≡ Ok p) {b : Result Progress SheetRefusal} {ps ls : List ℕ} (polygons : PolygonsRead text p b words n ps ls) where
    on : (c : Claim) → row_words c.mesh.nvp ≡ words → read_places 6 k n (lines_of (drop from text)) (with_mesh c [] [] [])
        ≡ rest_by text b (λ line lines. read_polygons line 0 lines (with_mesh c (take (k * vertex_stride) vs) (take (n * words) ps) (take (n * words) ls)))
    on c z = places.same n c ∙ rest_good text _ g ∙ polygons.same c (take (k * vertex_stride) vs) z

    -- a polygon's line is bad
    pub lists_stopped : {z : SheetRefusal} → b ≡ Err z → ListsRead text from words k n (Err z) vs ps ls
    unfolding rest_by end_of
    lists_stopped h = record {
      same = λ c z.
          on c z
          ∙ ap (λ (x : Result Progress SheetRefusal). rest_by text x (λ line lines. read_polygons line 0 lines (with_mesh c (take (k * vertex_stride) vs) (take (n * words) ps) (take (n * words) ls)))) h;
    }

    module _ {q : Progress} (e : b ≡ Ok q) where
      pub lists_over : q.at < length text → ListsRead text from words k n (Err (Malformed q.line)) vs ps ls
      unfolding end_of refused_as number_of line_of
      lists_over h = record { same = λ c z. on c z ∙ rest_good text _ e ∙ line_over q.line _ _ (line_some text q.at h) }

      pub lists_end : length text ≤ q.at → ListsRead text from words k n (Ok Prim.tt) vs ps ls
      unfolding end_of
      lists_end h = record { same = λ c z. on c z ∙ rest_good text _ e ∙ all_read q.line _ (line_missing text q.at h) }
