-- Request 12 at the terminal: a job sheet with its contours mended, and the points that were lost, each as a text that is a function of the bytes that are
-- read. Definitions only.
use Rattle.std.specs.Prelude.{true, false, List, [], ◌∷◌, ◌++◌, ℕ, zero, suc, ◌+◌, ◌-◌, ◌*◌, ltb, length, get_or}
use Rattle.mem.specs.Loops.{over}
use Rattle.mem.specs.Slice.{view}
use Rattle.rules.specs.Lines.{ascii, number_line}
use Rattle.rules.specs.Job.{Job, job_stride}
use Rattle.rules.specs.MendCall.{mended_job, kept_lengths, kept_words, lost_numbers}
use Rattle.rules.specs.Sheet.{Sheet, heading_lines, cell_name, nvp_name, grid_name, contour_name, v_name, unit_line, read_sheet, text_by}

-- ---- the mended sheet: "heading lines as they were, each contour line with its new length, the kept `v` lines"

unfoldable pub mended_sheet : Sheet → Sheet
mended_sheet s =
    let ms = mended_job s.job.lengths s.job.numbers in
    record {
      inches = s.inches;
      size = s.size;
      height = s.height;
      job = record {
        nvp = s.job.nvp;
        w = s.job.w;
        h = s.job.h;
        border = s.job.border;
        lengths = kept_lengths ms;
        regions = s.job.regions;
        codes = s.job.codes;
        numbers = kept_words ms;
      };
    }

-- a sheet as it is written: unit, cell, nvp and grid
unfoldable pub heading_text : Sheet → List ℕ
heading_text s =
    unit_line s.inches ++ (number_line cell_name (s.size ∷ s.height ∷ [])
    ++ (number_line nvp_name (s.job.nvp ∷ []) ++ number_line grid_name (s.job.w ∷ s.job.h ∷ s.job.border ∷ [])))

-- vertex k: x, y, z and flag
unfoldable pub traced_line : List ℕ → ℕ → List ℕ
traced_line ns k = number_line v_name (view ns (k * job_stride) job_stride)

-- "contour is region, area code, length", and behind it its vertices. Contour c begins at the vertex `first`; f contours are left
unfoldable pub contours_text : ℕ → Job → ℕ → ℕ → List ℕ
contours_text zero j c first = []
contours_text (suc f) j c first =
    let n = get_or j.lengths c 0 in
    number_line contour_name (get_or j.regions c 0 ∷ get_or j.codes c 0 ∷ n ∷ [])
    ++ (over [] ◌++◌ (traced_line j.numbers) first (first + n) ++ contours_text f j (c + 1) (first + n))

unfoldable pub sheet_text : Sheet → List ℕ
sheet_text s = heading_text s ++ contours_text (length s.job.lengths) s.job 0 0

-- what `./mesh --mend` prints
unfoldable pub mend_text : List ℕ → List ℕ
mend_text bytes = text_by read_sheet (λ s. sheet_text (mended_sheet s)) bytes

-- ---- the lost points: "a line for each removal, in order, `lost→NUMBER→LINE`: the vertex's number in the sheet from 0 over all contours, and its line from 1"

unfoldable pub lost_name : List ℕ
lost_name = ascii "lost"

-- how many contour lines stand above vertex k of contours of these lengths
unfoldable pub contour_lines_above : List ℕ → ℕ → ℕ
contour_lines_above [] k = 0
contour_lines_above (n ∷ ls) k = elim (ltb k n) [
  | true ↦ 1
  | false ↦ 1 + contour_lines_above ls (k - n)
]

-- the line of vertex k: behind the heading, those contour lines, and the k vertices before it
unfoldable pub vertex_line_of : List ℕ → ℕ → ℕ
vertex_line_of ls k = heading_lines + contour_lines_above ls k + k + 1

unfoldable pub lost_line : List ℕ → ℕ → List ℕ
lost_line ls k = number_line lost_name (k ∷ vertex_line_of ls k ∷ [])

-- "nothing lost prints nothing"
unfoldable pub lost_lines : Job → List ℕ
lost_lines j =
    let lost = lost_numbers (mended_job j.lengths j.numbers) in
    over [] ◌++◌ (λ i. lost_line j.lengths (get_or lost i 0)) 0 (length lost)

-- what `./mesh --lost` prints
unfoldable pub lost_text : List ℕ → List ℕ
lost_text bytes = text_by read_sheet (λ s. lost_lines s.job) bytes
