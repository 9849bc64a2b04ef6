-- How far a sheet has been read, and what the rest of it comes to. Definitions only.
use Rattle.std.specs.Prelude.{◌≡◌, Bool, true, false, ◌||◌, cond, List, [], ◌∷◌, ℕ, ◌+◌, ◌-◌, ◌*◌, ◌≤◌, ◌<◌, ltb, length, take, drop, get_or, set, Option, Some, None, Result, Ok, Err}
use Prim.{Unit}
use Rattle.mem.specs.Slice.{splice}
use Rattle.rules.specs.Lines.{Line, lines_of, Numbers, numbers, malformed}
use Rattle.rules.specs.Job.{job_stride, sum_over}
use Rattle.rules.specs.Sheet.{contour_name, v_name, bytes_most, number_most, code_most, contours_most, declared_most, heading_lines}
use Rattle.rules.specs.Sheet.{Sheet, Read, taken, bad, line_at, need, need_unit, cell_numbers, nvp_numbers, grid_numbers, no_contours, read_body, read_sheet}
use Rattle.lines.specs.Read.{line_end, numbers_at}
use Rattle.sheet.specs.declared.heading.Heading.{Heading}
use Rattle.sheet.specs.declared.body.Progress.{Progress}
use Rattle.sheet.specs.declared.read.JobSheet.{JobSheet}
use Rattle.sheet.specs.declared.refusal.SheetRefusal.{SheetRefusal}
use Rattle.sheet.specs.declared.refusal.SheetRefusal.TheVariants.{Malformed, TooMany}
use Rattle.sheet.specs.Refusals.{refused_as}

-- ---- the heading

-- what the first line is found to be: with a unit the reading goes on behind the line, and otherwise it ends there
unfoldable pub UnitIs : List ℕ → Option (Bool × ℕ) → Type 0
UnitIs text (Some u) = ((f : Bool → Read Sheet) → need_unit (line_at (lines_of text) 0) f ≡ f u.0)
    × (lines_of (drop u.1 text) ≡ drop 1 (lines_of text)) × (u.1 ≤ length text)
UnitIs text None = (f : Bool → Read Sheet) → need_unit (line_at (lines_of text) 0) f ≡ bad 21 1

-- the heading lines behind the first: what the lines ls come to, if they begin with the grid line, with the nvp line, with the cell line
unfoldable pub from_grid : Bool → List ℕ → List ℕ → List Line → Read Sheet
from_grid inches cells nvp ls = need 4 (grid_numbers (line_at ls 0)) (λ grid. taken (no_contours inches cells nvp grid))

unfoldable pub from_nvp : Bool → List ℕ → List Line → Read Sheet
from_nvp inches cells ls = need 3 (nvp_numbers (line_at ls 0)) (λ nvp. from_grid inches cells nvp (drop 1 ls))

unfoldable pub from_cell : Bool → List Line → Read Sheet
from_cell inches ls = need 2 (cell_numbers (line_at ls 0)) (λ cells. from_nvp inches cells (drop 1 ls))

-- the sheet of a heading, before its contours
unfoldable pub sheet_of : Heading → Sheet
sheet_of x = record {
  inches = x.inches;
  size = x.size;
  height = x.height;
  job = record {
    nvp = x.nvp;
    w = x.w;
    h = x.h;
    border = x.border;
    lengths = [];
    regions = [];
    codes = [];
    numbers = [];
  };
}

-- what the heading comes to
unfoldable pub headed_as : Result Heading SheetRefusal → Read Sheet
headed_as (Ok x) = taken (sheet_of x)
headed_as (Err e) = refused_as e

-- what the sheet comes to, as far as its heading tells
unfoldable pub goes_on : List ℕ → Result Heading SheetRefusal → Read Sheet
goes_on text (Ok x) = read_body (heading_lines + 1) 0 (lines_of (drop x.at text)) (sheet_of x)
goes_on text (Err e) = refused_as e

-- the heading's end is within the text, and the lines behind it are these
pub record EndsAt (text : List ℕ) (ls : List Line) (x : Heading) : Type 0 where
  pub within : x.at ≤ length text
  pub rest : lines_of (drop x.at text) ≡ ls

unfoldable pub BehindIs : List ℕ → List Line → Result Heading SheetRefusal → Type 0
BehindIs text ls (Ok x) = EndsAt text ls x
BehindIs text ls (Err e) = Unit {0}

-- they are the lines behind the first four
abbrev pub Behind : List ℕ → Result Heading SheetRefusal → Type 0
Behind text r = BehindIs text (drop heading_lines (lines_of text)) r

-- ---- the body

-- the sheet with these lists in its job
unfoldable pub with_lists : Sheet → List ℕ → List ℕ → List ℕ → List ℕ → Sheet
with_lists s ls rs cs ns = record {
  inches = s.inches;
  size = s.size;
  height = s.height;
  job = record {
    nvp = s.job.nvp;
    w = s.job.w;
    h = s.job.h;
    border = s.job.border;
    lengths = ls;
    regions = rs;
    codes = cs;
    numbers = ns;
  };
}

-- the sheet as far as it has been read
unfoldable pub so_far : Sheet → Progress → List ℕ → List ℕ → List ℕ → List ℕ → Sheet
so_far s p ls rs cs ns = with_lists s (take p.contours ls) (take p.contours rs) (take p.contours cs) (take (p.vertices * job_stride) ns)

-- what the lines that are left come to
unfoldable pub rest_of : List ℕ → Progress → Sheet → Read Sheet
rest_of text p s = read_body p.line p.due (lines_of (drop p.at text)) s

-- the same behind a line that was read, if it was good
unfoldable pub rest_as : List ℕ → Result Progress SheetRefusal → List ℕ → List ℕ → List ℕ → List ℕ → Sheet → Read Sheet
rest_as text (Ok q) ls rs cs ns s = rest_of text q (so_far s q ls rs cs ns)
rest_as text (Err e) ls rs cs ns s = refused_as e

-- what all lines came to
unfoldable pub end_as : Result Progress SheetRefusal → List ℕ → List ℕ → List ℕ → List ℕ → Sheet → Read Sheet
end_as (Ok p) ls rs cs ns s = taken (so_far s p ls rs cs ns)
end_as (Err e) ls rs cs ns s = refused_as e

-- the numbers of a contour line at p, and of a vertex line
unfoldable pub contour_at : List ℕ → Progress → Numbers
contour_at text p = numbers_at text p.at contour_name 0 (number_most ∷ code_most ∷ number_most ∷ [])

unfoldable pub vertex_line_at : List ℕ → Progress → Numbers
vertex_line_at text p = numbers_at text p.at v_name 0 (number_most ∷ number_most ∷ number_most ∷ number_most ∷ [])

-- whether a contour of length n is the 33rd or brings the declared lengths above 96
unfoldable pub is_over : Progress → ℕ → Bool
is_over p n = ltb contours_most (p.contours + 1) || ltb declared_most (p.vertices + n)

-- the place behind a contour line of these numbers
abbrev pub past_contour : List ℕ → Progress → List ℕ → Progress
past_contour text p ns = record {
  line = p.line + 1;
  at = line_end text p.at;
  due = get_or ns 2 0;
  contours = p.contours + 1;
  vertices = p.vertices;
}

unfoldable pub after_contour : List ℕ → Progress → Numbers → Result Progress SheetRefusal
after_contour text p malformed = Err (Malformed p.line)
after_contour text p (numbers ns) = cond (is_over p (get_or ns 2 0)) (Err (TooMany p.line)) (Ok (past_contour text p ns))

-- a list with number i of the line behind what it has of the contours before
unfoldable pub put_contour : ℕ → Progress → Numbers → List ℕ → List ℕ
put_contour i p malformed l = l
put_contour i p (numbers ns) l = cond (is_over p (get_or ns 2 0)) l (set l p.contours (get_or ns i 0))

-- the same of a vertex line
abbrev pub past_vertex : List ℕ → Progress → Progress
past_vertex text p = record {
  line = p.line + 1;
  at = line_end text p.at;
  due = p.due - 1;
  contours = p.contours;
  vertices = p.vertices + 1;
}

unfoldable pub after_vertex : List ℕ → Progress → Numbers → Result Progress SheetRefusal
after_vertex text p malformed = Err (Malformed p.line)
after_vertex text p (numbers ns) = Ok (past_vertex text p)

unfoldable pub put_vertex : Progress → Numbers → List ℕ → List ℕ
put_vertex p malformed l = l
put_vertex p (numbers ns) l = splice l (p.vertices * job_stride) ns

-- a contour line was read
pub record ContourRead (text : List ℕ) (p : Progress) (r : Result Progress SheetRefusal) (ls rs cs ls' rs' cs' : List ℕ) : Type 0 where
  pub next : r ≡ after_contour text p (contour_at text p)
  pub lengths : ls' ≡ put_contour 2 p (contour_at text p) ls
  pub regions : rs' ≡ put_contour 0 p (contour_at text p) rs
  pub codes : cs' ≡ put_contour 1 p (contour_at text p) cs

-- a vertex line was read
pub record VertexRead (text : List ℕ) (p : Progress) (r : Result Progress SheetRefusal) (ns ns' : List ℕ) : Type 0 where
  pub next : r ≡ after_vertex text p (vertex_line_at text p)
  pub numbers : ns' ≡ put_vertex p (vertex_line_at text p) ns

-- the place is within the text, and its line's number is small
pub record Within (text : List ℕ) (p : Progress) : Type 0 where
  pub inside : p.at ≤ length text
  pub short : length text ≤ bytes_most
  pub small : p.line ≤ heading_lines + 1 + p.at
  pub few : p.contours ≤ contours_most
  pub room : p.vertices + p.due ≤ declared_most

-- a contour line can be read, and a vertex line: there is room for 32 contours and 96 vertices
pub record ContourReady (text : List ℕ) (p : Progress) (ls rs cs : List ℕ) : Type 0 where
  pub within : Within text p
  pub lengths : length ls ≡ contours_most
  pub regions : length rs ≡ contours_most
  pub codes : length cs ≡ contours_most

pub record VertexReady (text : List ℕ) (p : Progress) (ns : List ℕ) : Type 0 where
  pub within : Within text p
  pub due : 0 < p.due
  pub numbers : length ns ≡ declared_most * job_stride

-- so far the lists have what the contours declare
pub record Standing (text : List ℕ) (p : Progress) (ls rs cs ns : List ℕ) : Type 0 where
  pub within : Within text p
  pub lengths : length ls ≡ contours_most
  pub regions : length rs ≡ contours_most
  pub codes : length cs ≡ contours_most
  pub numbers : length ns ≡ declared_most * job_stride
  pub declared : sum_over (λ n. n) (take p.contours ls) ≡ p.vertices + p.due

-- there is room for 32 contours and 96 vertices
pub record ListsReady (ls rs cs ns : List ℕ) : Type 0 where
  pub lengths : length ls ≡ contours_most
  pub regions : length rs ≡ contours_most
  pub codes : length cs ≡ contours_most
  pub numbers : length ns ≡ declared_most * job_stride

-- a line can be read
pub record LineReady (text : List ℕ) (p : Progress) (ls rs cs ns : List ℕ) : Type 0 where
  pub standing : Standing text p ls rs cs ns
  pub more : p.at < length text

-- behind a good line the lists have what the contours declare, and the place is further on; behind a bad one they have their room
pub record Further (text : List ℕ) (p q : Progress) (ls rs cs ns : List ℕ) : Type 0 where
  pub standing : Standing text q ls rs cs ns
  pub further : p.at < q.at

unfoldable pub Moved : List ℕ → Progress → Result Progress SheetRefusal → List ℕ → List ℕ → List ℕ → List ℕ → Type 0
Moved text p (Ok q) ls rs cs ns = Further text p q ls rs cs ns
Moved text p (Err e) ls rs cs ns = ListsReady ls rs cs ns

-- a line was read, and the rest comes to the same
pub record Stepped (text : List ℕ) (p : Progress) (r : Result Progress SheetRefusal) (ls rs cs ns ls' rs' cs' ns' : List ℕ) : Type 0 where
  pub moved : Moved text p r ls' rs' cs' ns'
  pub same : (s : Sheet) → rest_of text p (so_far s p ls rs cs ns) ≡ rest_as text r ls' rs' cs' ns' s

-- the lines behind the heading can be read
pub record BodyReady (text : List ℕ) (from : ℕ) (ls rs cs ns : List ℕ) : Type 0 where
  pub inside : from ≤ length text
  pub short : length text ≤ bytes_most
  pub lengths : length ls ≡ contours_most
  pub regions : length rs ≡ contours_most
  pub codes : length cs ≡ contours_most
  pub numbers : length ns ≡ declared_most * job_stride

-- how many contours and vertices there are at the end, if all was read; the lists have their room in any case
pub record Counted (p : Progress) (ls rs cs ns : List ℕ) : Type 0 where
  pub room : ListsReady ls rs cs ns
  pub contours : p.contours ≤ contours_most
  pub vertices : p.vertices ≤ declared_most
  pub declared : sum_over (λ n. n) (take p.contours ls) ≡ p.vertices

unfoldable pub CountedAs : Result Progress SheetRefusal → List ℕ → List ℕ → List ℕ → List ℕ → Type 0
CountedAs (Ok p) ls rs cs ns = Counted p ls rs cs ns
CountedAs (Err e) ls rs cs ns = ListsReady ls rs cs ns

-- what stands in the lists at the end is what was read: for any sheet without contours
pub record BodyRead (text : List ℕ) (from : ℕ) (r : Result Progress SheetRefusal) (ls rs cs ns : List ℕ) : Type 0 where
  pub counted : CountedAs r ls rs cs ns
  pub same : (s : Sheet) → read_body (heading_lines + 1) 0 (lines_of (drop from text)) (with_lists s [] [] [] []) ≡ end_as r ls rs cs ns s

-- ---- the whole

-- what the bytes come to, if their lines are read so: "23 over 65,536 bytes (line 0), before all"
unfoldable pub bytes_by : {A : Type 0} → (List Line → Read A) → List ℕ → Read A
bytes_by read t = elim (ltb bytes_most (length t)) [
  | true ↦ bad 23 0
  | false ↦ read (lines_of t)
]

abbrev pub read_bytes : List ℕ → Read Sheet
read_bytes t = bytes_by read_sheet t

-- the whole w was read as far as its end: behind the heading x, c contours and v vertices stand in the lists, and the contours have these vertices
pub record TakenAs (w : Read Sheet) (x : Heading) (c v : ℕ) (ls rs cs ns : List ℕ) : Type 0 where
  pub room : ListsReady ls rs cs ns
  pub contours : c ≤ contours_most
  pub vertices : v ≤ declared_most
  pub declared : sum_over (λ n. n) (take c ls) ≡ v
  pub same : w ≡ taken (with_lists (sheet_of x) (take c ls) (take c rs) (take c cs) (take (v * job_stride) ns))

-- what the whole w is found to be, and that in a record, which tells what it is of
unfoldable pub FoundAs : Read Sheet → Result JobSheet SheetRefusal → List ℕ → List ℕ → List ℕ → List ℕ → Type 0
FoundAs w (Ok s) ls rs cs ns = TakenAs w s.heading s.contours s.vertices ls rs cs ns
FoundAs w (Err e) ls rs cs ns = w ≡ refused_as e

pub record ReadAs (w : Read Sheet) (r : Result JobSheet SheetRefusal) (ls rs cs ns : List ℕ) : Type 0 where
  pub found : FoundAs w r ls rs cs ns
