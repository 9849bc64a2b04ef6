-- What is printed of a sheet and of its lost points, by the lists that are at hand; and what that asks for. Definitions only.
use Rattle.std.specs.Prelude.{◌≡◌, List, ℕ, ◌*◌, ◌≤◌, length, get_or}
use Rattle.rules.specs.Job.{Job, job_stride, sum_over}
use Rattle.rules.specs.Sheet.{contours_most}
use Rattle.rules.specs.MendSheet.{traced_line, contours_text, sheet_text, lost_line}
use Rattle.lines.specs.Print.{Room}
use Rattle.lines.specs.Pieces.{texts_from}
use Rattle.sheet.specs.declared.heading.Heading.{Heading}
use Rattle.sheet.specs.Reading.{sheet_of, with_lists}

-- ---- a sheet

-- a job of these contours; its heading is of no matter where they are printed
abbrev pub lists_of : List ℕ → List ℕ → List ℕ → List ℕ → Job
lists_of ls rs cs ns = record { nvp = 0; w = 0; h = 0; border = 0; lengths = ls; regions = rs; codes = cs; numbers = ns }

-- the lines of all contours of these lists
unfoldable pub contours_of : List ℕ → List ℕ → List ℕ → List ℕ → List ℕ
contours_of ls rs cs ns = contours_text (length ls) (lists_of ls rs cs ns) 0 0

-- the vertices from `first` up to `end` are there, and there is room for their lines
pub record PointsReady (out : List ℕ) (at : ℕ) (ns : List ℕ) (first end : ℕ) : Type 0 where
  pub order : first ≤ end
  pub there : end * job_stride ≤ length ns
  pub room : Room out (texts_from (traced_line ns) first end) at

-- the contours have a region and a code each, and their vertices are there
pub record ContoursStand (ls rs cs ns : List ℕ) : Type 0 where
  pub regions : length rs ≡ length ls
  pub codes : length cs ≡ length ls
  pub there : sum_over (λ n. n) ls * job_stride ≤ length ns

-- and there is room for their lines
pub record ContoursReady (out : List ℕ) (at : ℕ) (ls rs cs ns : List ℕ) : Type 0 where
  pub stand : ContoursStand ls rs cs ns
  pub room : Room out (contours_of ls rs cs ns) at

-- and for the whole sheet
pub record SheetReady (out : List ℕ) (x : Heading) (ls rs cs ns : List ℕ) : Type 0 where
  pub stand : ContoursStand ls rs cs ns
  pub room : Room out (sheet_text (with_lists (sheet_of x) ls rs cs ns)) 0

-- ---- lost points

-- the lines of these vertices, of contours of lengths ls
unfoldable pub lost_text_of : List ℕ → List ℕ → List ℕ
lost_text_of ls lost = texts_from (λ i. lost_line ls (get_or lost i 0)) 0 (length lost)

pub record LostLineReady (out : List ℕ) (at : ℕ) (ls : List ℕ) (k : ℕ) : Type 0 where
  pub few : length ls ≤ contours_most
  pub room : Room out (lost_line ls k) at

pub record LostReady (out ls lost : List ℕ) : Type 0 where
  pub few : length ls ≤ contours_most
  pub room : Room out (lost_text_of ls lost) 0
