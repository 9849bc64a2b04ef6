-- How long the texts are at most: a sheet has at most 32 contours and 96 vertices, and every number at most 20 digits. Assumes nothing.
-- Key: `sheet_short`, `lost_short`.
use mathlib.Core.Path.{◌≡◌, ap}
use mathlib.Core.List.{List, [], ◌∷◌}
use Prim.Native.Nat.{ℕ, zero, suc, ◌+◌, ◌-◌, ◌*◌, ◌≤◌}
use native.Mathlib.Nat.{sub-zero}
use native.Mathlib.Numerals.{add-one}
use native.Mathlib.Omega.{arith}
use lib.ListN.{length, get_or, length-append, length-take}
use Rattle.mem.specs.Loops.{run, over}
use Rattle.mem.specs.Slice.{view}
use Rattle.rules.specs.Lines.{ascii}
use Rattle.rules.specs.Job.{job_stride, sum_over}
use Rattle.rules.specs.Sheet.{contours_most, declared_most, Sheet, cell_name, nvp_name, grid_name, contour_name, v_name}
use Rattle.rules.specs.MendSheet.{heading_text, traced_line, contours_text, sheet_text, lost_name, vertex_line_of, lost_line}
use Rattle.lines.specs.Printing.{line_short}
use Rattle.lines.specs.Pieces.{joined, texts_from, texts_short}
use Rattle.sheet.specs.declared.heading.Heading.{Heading}
use Rattle.sheet.specs.Reading.{sheet_of, with_lists}
use Rattle.sheet.specs.Room.{out_most, unit_short}
use Rattle.mendsheet.specs.Print.{lists_of, contours_of, lost_text_of}
use Rattle.mendsheet.proofs.SheetTexts.{contour_line, sheet_texts_lem}

-- ---- a sheet

heading_short : (s : Sheet) → length (heading_text s) ≤ 148
unfolding heading_text cell_name nvp_name grid_name ascii
heading_short s =
    simp length-append (omega (
      arith,
      unit_short s.inches,
      line_short cell_name (s.size ∷ s.height ∷ []),
      line_short nvp_name (s.job.nvp ∷ []),
      line_short grid_name (s.job.w ∷ s.job.h ∷ s.job.border ∷ []),
    ))

point_short : (ns : List ℕ) (k : ℕ) → length (traced_line ns k) ≤ 86
unfolding traced_line v_name ascii
point_short ns k = let e = simp length-take at (line_short v_name (view ns (k * job_stride) job_stride)) in omega arith

points_short : (ns : List ℕ) (first n : ℕ) → length (texts_from (traced_line ns) first (first + n)) ≤ n * 86
points_short ns first n =
    let e : first + n - first ≡ n = omega arith in
    rw e at (texts_short (traced_line ns) 86 first (first + n) (λ k a b. point_short ns k))

contour_short : (ls rs cs : List ℕ) (c : ℕ) → length (contour_line ls rs cs c) ≤ 71
unfolding contour_name ascii
contour_short ls rs cs c = line_short contour_name (get_or rs c 0 ∷ (get_or cs c 0 ∷ (get_or ls c 0 ∷ [])))

-- f contours from c on
text_short : (ls rs cs ns : List ℕ) (f c first : ℕ) → length (contours_text f (lists_of ls rs cs ns) c first) ≤ f * 71 + run 0 ◌+◌ (λ i. get_or ls i 0) c f * 86
unfolding contours_text run
text_short ls rs cs ns zero c first = omega arith
text_short ls rs cs ns (suc f) c first =
    let n = get_or ls c 0 in
    let e : run 0 ◌+◌ (λ i. get_or ls i 0) (c + 1) f ≡ run 0 ◌+◌ (λ i. get_or ls i 0) (suc c) f = ap (λ (j : ℕ). run 0 ◌+◌ (λ i. get_or ls i 0) j f) (add-one c) in
    simp length-append (omega (arith, contour_short ls rs cs c, points_short ns first n, text_short ls rs cs ns f (c + 1) (first + n)))

contours_short : (ls rs cs ns : List ℕ) → length (contours_of ls rs cs ns) ≤ length ls * 71 + sum_over (λ n. n) ls * 86
unfolding contours_of sum_over over
contours_short ls rs cs ns = rw (sub-zero (length ls)) (text_short ls rs cs ns (length ls) 0 0)

pub sheet_short : (x : Heading) (ls rs cs ns : List ℕ) → length ls ≤ contours_most → sum_over (λ n. n) ls ≤ declared_most
    → length (sheet_text (with_lists (sheet_of x) ls rs cs ns)) ≤ out_most
unfolding joined
sheet_short x ls rs cs ns h k =
    rw (sheet_texts_lem x ls rs cs ns) (simp length-append (omega (arith, heading_short (sheet_of x), contours_short ls rs cs ns)))

-- ---- lost points

line_of_short : (ls : List ℕ) (k : ℕ) → length (lost_line ls k) ≤ 47
unfolding lost_line lost_name ascii
line_of_short ls k = line_short lost_name (k ∷ (vertex_line_of ls k ∷ []))

pub lost_short : (ls lost : List ℕ) → length lost ≤ declared_most → length (lost_text_of ls lost) ≤ out_most
unfolding lost_text_of
lost_short ls lost h =
    let e : length lost - 0 ≡ length lost = omega arith in
    let t = rw e at (texts_short (λ i. lost_line ls (get_or lost i 0)) 47 0 (length lost) (λ i a b. line_of_short ls (get_or lost i 0))) in
    omega arith
