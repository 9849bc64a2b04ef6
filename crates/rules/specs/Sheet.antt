-- The job sheet: the text that is printed, as a function of the bytes that are read. Definitions only.
use Rattle.std.specs.Prelude.{Bool, true, false, ◌||◌, cond, List, [], ◌∷◌, ◌++◌, ℕ, zero, suc, ◌+◌, ltb, length, drop, get_or}
use Rattle.mem.specs.Loops.{over}
use Rattle.rules.specs.Lines.{ascii, tab_byte, lf, is_same_text, Line, lines_of, Numbers, numbers, malformed, numbers_of, cell, signed_cell, number_line}
use Rattle.rules.specs.Weld.{no_vertex}
use Rattle.rules.specs.Mesh.{Polygon, polygon_at}
use Rattle.rules.specs.Job.{Job, count_all}
use Rattle.rules.specs.Checks.{least_lengths, check}
use Rattle.rules.specs.Replies.{refusal_number, refusal_second}
use Rattle.rules.specs.Build.{Outcome, refused, built, after_check}
use Rattle.rules.specs.Exits.{vertex_words, Stored}
use Rattle.rules.specs.Areas.{stored_area}
use Rattle.rules.specs.declared.Vertex.{Vertex}

-- ---- the words of a sheet, and its limits

unfoldable pub unit_name : List ℕ
unit_name = ascii "unit"

unfoldable pub mm_name : List ℕ
mm_name = ascii "mm"

unfoldable pub in_name : List ℕ
in_name = ascii "in"

unfoldable pub cell_name : List ℕ
cell_name = ascii "cell"

unfoldable pub nvp_name : List ℕ
nvp_name = ascii "nvp"

unfoldable pub grid_name : List ℕ
grid_name = ascii "grid"

unfoldable pub contour_name : List ℕ
contour_name = ascii "contour"

unfoldable pub v_name : List ℕ
v_name = ascii "v"

unfoldable pub refused_name : List ℕ
refused_name = ascii "refused"

unfoldable pub mesh_name : List ℕ
mesh_name = ascii "mesh"

unfoldable pub p_name : List ℕ
p_name = ascii "p"

unfoldable pub n_name : List ℕ
n_name = ascii "n"

-- "over 65,536 bytes"
abbrev pub bytes_most : ℕ
bytes_most = 65536

-- "at most 65,535"
abbrev pub number_most : ℕ
number_most = 65535

-- "cells 1 to 16,777,216 thousandths"
abbrev pub cell_least : ℕ
cell_least = 1

abbrev pub cell_most : ℕ
cell_most = 16777216

-- "an area code above 255 is malformed"
abbrev pub code_most : ℕ
code_most = 255

-- "a contour line that is the 33rd or brings the declared lengths above 96"
abbrev pub contours_most : ℕ
contours_most = 32

abbrev pub declared_most : ℕ
declared_most = 96

-- the heading lines: unit, cell, nvp, grid
abbrev pub heading_lines : ℕ
heading_lines = 4

-- ---- what is read

-- a sheet: its unit, the cell's size and height in thousandths of it, and the job
pub record Sheet : Type 0 where
  pub inches : Bool
  pub size : ℕ
  pub height : ℕ
  pub job : Job

-- what was asked for, a sheet say, or a refusal of these two numbers: "`refused→number→line`"
pub data Read (A : Type 0) : Type 0 where
  taken : A → Read A
  bad : ℕ → ℕ → Read A

-- what was read is gone on with, a refusal stays
unfoldable pub and_then : {A B : Type 0} → Read A → (A → Read B) → Read B
and_then (taken a) f = f a
and_then (bad n k) f = bad n k

-- line k, from 0. A missing one is a line without cells, which no reader takes
unfoldable pub line_at : List Line → ℕ → Line
line_at ls k = get_or ls k []

-- "22 (a later one is malformed, misplaced or missing)": line k, from 1, has to have numbers, with which it goes on
unfoldable pub need : {A : Type 0} → ℕ → Numbers → (List ℕ → Read A) → Read A
need k malformed f = bad 22 k
need k (numbers ns) f = f ns

-- "21 (the first isn't a whole `unit` line with mm or in)": a unit has to be there, and it goes on with whether it is inches
unfoldable pub need_unit : {A : Type 0} → Line → (Bool → Read A) → Read A
need_unit (a ∷ (b ∷ [])) f =
    elim (is_same_text a unit_name) [
      | false ↦ bad 21 1
      | true ↦ elim (is_same_text b mm_name) [
        | true ↦ f false
        | false ↦ elim (is_same_text b in_name) [
          | true ↦ f true
          | false ↦ bad 21 1
        ]
      ]
    ]
need_unit [] f = bad 21 1
need_unit (a ∷ []) f = bad 21 1
need_unit (a ∷ (b ∷ (c ∷ cs))) f = bad 21 1

-- "24 (a contour line that is the 33rd or brings the declared lengths above 96)": a contour of length n, behind the contours of j
unfoldable pub too_many : Job → ℕ → Bool
too_many j n = ltb contours_most (length j.lengths + 1) || ltb declared_most (count_all j + n)

-- "contour is region, area code, length"
unfoldable pub with_contour : List ℕ → Sheet → Sheet
with_contour ns s = record {
  inches = s.inches;
  size = s.size;
  height = s.height;
  job = record {
    nvp = s.job.nvp;
    w = s.job.w;
    h = s.job.h;
    border = s.job.border;
    lengths = s.job.lengths ++ (get_or ns 2 0 ∷ []);
    regions = s.job.regions ++ (get_or ns 0 0 ∷ []);
    codes = s.job.codes ++ (get_or ns 1 0 ∷ []);
    numbers = s.job.numbers;
  };
}

-- a vertex is x, y, z and flag
unfoldable pub with_vertex : List ℕ → Sheet → Sheet
with_vertex ns s = record {
  inches = s.inches;
  size = s.size;
  height = s.height;
  job = record {
    nvp = s.job.nvp;
    w = s.job.w;
    h = s.job.h;
    border = s.job.border;
    lengths = s.job.lengths;
    regions = s.job.regions;
    codes = s.job.codes;
    numbers = s.job.numbers ++ ns;
  };
}

-- the numbers of a contour line, and of a vertex line
unfoldable pub contour_numbers : Line → Numbers
contour_numbers l = numbers_of contour_name 0 (number_most ∷ code_most ∷ number_most ∷ []) l

unfoldable pub vertex_numbers : Line → Numbers
vertex_numbers l = numbers_of v_name 0 (number_most ∷ number_most ∷ number_most ∷ number_most ∷ []) l

-- the lines behind the heading. The first of them is line k; `due` vertices of the last contour are still to come. "after 22 on one line"
unfoldable pub read_body : ℕ → ℕ → List Line → Sheet → Read Sheet
read_body k zero [] s = taken s
read_body k (suc due) [] s = bad 22 k
read_body k zero (l ∷ ls) s =
    need k (contour_numbers l) (λ ns. elim (too_many s.job (get_or ns 2 0)) [
      | true ↦ bad 24 k
      | false ↦ read_body (k + 1) (get_or ns 2 0) ls (with_contour ns s)
    ])
read_body k (suc due) (l ∷ ls) s = need k (vertex_numbers l) (λ ns. read_body (k + 1) due ls (with_vertex ns s))

-- the sheet of a heading, before its contours: "grid is w, h, border"
unfoldable pub no_contours : Bool → List ℕ → List ℕ → List ℕ → Sheet
no_contours inches cells nvp grid = record {
  inches = inches;
  size = get_or cells 0 0;
  height = get_or cells 1 0;
  job = record {
    nvp = get_or nvp 0 0;
    w = get_or grid 0 0;
    h = get_or grid 1 0;
    border = get_or grid 2 0;
    lengths = [];
    regions = [];
    codes = [];
    numbers = [];
  };
}

-- the numbers of the heading lines behind the first
unfoldable pub cell_numbers : Line → Numbers
cell_numbers l = numbers_of cell_name cell_least (cell_most ∷ cell_most ∷ []) l

unfoldable pub nvp_numbers : Line → Numbers
nvp_numbers l = numbers_of nvp_name 0 (number_most ∷ []) l

unfoldable pub grid_numbers : Line → Numbers
grid_numbers l = numbers_of grid_name 0 (number_most ∷ number_most ∷ number_most ∷ []) l

-- "then at the first bad line": all lines, in their order; first the heading's
unfoldable pub read_heading : List Line → Read Sheet
read_heading ls =
    need_unit (line_at ls 0) (λ inches.
    need 2 (cell_numbers (line_at ls 1)) (λ cells.
    need 3 (nvp_numbers (line_at ls 2)) (λ nvp.
    need 4 (grid_numbers (line_at ls 3)) (λ grid.
    taken (no_contours inches cells nvp grid)))))

unfoldable pub read_sheet : List Line → Read Sheet
read_sheet ls = and_then (read_heading ls) (read_body (heading_lines + 1) 0 (drop heading_lines ls))

-- ---- what is built

-- what the job comes to, in buffers that are just long enough
unfoldable pub outcome_of : Job → Outcome
outcome_of j = after_check j (check j (least_lengths j))

-- ---- what is printed

-- "`refused→number→line`"
unfoldable pub refused_text : ℕ → ℕ → List ℕ
refused_text number line = number_line refused_name (number ∷ line ∷ [])

unfoldable pub unit_line : Bool → List ℕ
unit_line inches = unit_name ++ (tab_byte ∷ (cond inches in_name mm_name ++ (lf ∷ [])))

-- "`mesh` giving vertices, polygons and doubled area", which is that of the stored polygons
unfoldable pub mesh_line : Stored → List ℕ
mesh_line m = mesh_name ++ (cell (length m.vertices) ++ (cell (length m.polygons) ++ (signed_cell (stored_area m) ++ (lf ∷ []))))

unfoldable pub vertex_line : Vertex → List ℕ
vertex_line v = number_line v_name (vertex_words v)

-- "each polygon's `p` line followed by its `n` line, used corners only": region, area code and corners, and then the links
unfoldable pub polygon_lines : Polygon → List ℕ → List ℕ
polygon_lines p links = number_line p_name (p.region ∷ p.code ∷ p.corners) ++ number_line n_name links

unfoldable pub vertices_text : List Vertex → List ℕ
vertices_text vs = over [] ◌++◌ (λ k. vertex_line (get_or vs k no_vertex)) 0 (length vs)

unfoldable pub polygons_text : List Polygon → List (List ℕ) → List ℕ
polygons_text ps links = over [] ◌++◌ (λ i. polygon_lines (polygon_at ps i) (get_or links i [])) 0 (length ps)

unfoldable pub mesh_text : Stored → List ℕ
mesh_text m = mesh_line m ++ (vertices_text m.vertices ++ polygons_text m.polygons m.links)

-- "A refused build prints its second number as line."
unfoldable pub built_text : Sheet → Outcome → List ℕ
built_text s (refused r) = refused_text (refusal_number r) (refusal_second r)
built_text s (built m links log) =
    unit_line s.inches ++ (number_line cell_name (s.size ∷ s.height ∷ []) ++ mesh_text (record { vertices = m.vertices; polygons = m.polygons; links = links }))

-- what is printed for what was read as far as its end, by f
unfoldable pub read_text : {A : Type 0} → (A → List ℕ) → Read A → List ℕ
read_text f (bad number line) = refused_text number line
read_text f (taken a) = f a

-- what is printed for bytes whose lines are read so. "23 over 65,536 bytes (line 0), before all"
unfoldable pub text_by : {A : Type 0} → (List Line → Read A) → (A → List ℕ) → List ℕ → List ℕ
text_by read f bytes = elim (ltb bytes_most (length bytes)) [
  | true ↦ refused_text 23 0
  | false ↦ read_text f (read (lines_of bytes))
]

-- the sheet is meshed
unfoldable pub text_of : List ℕ → List ℕ
text_of bytes = text_by read_sheet (λ s. built_text s (outcome_of s.job)) bytes
