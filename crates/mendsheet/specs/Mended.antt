-- A sheet that was read, as it is handed to the mender, and what is printed for it. Definitions only.
use Rattle.std.specs.Prelude.{◌≡◌, List, ℕ, ◌*◌, ◌≤◌, length}
use Rattle.rules.specs.Job.{job_stride, sum_over}
use Rattle.rules.specs.Sheet.{contours_most, declared_most}
use Rattle.rules.specs.MendCall.{mended_job, lost_numbers}
use Rattle.rules.specs.MendSheet.{mended_sheet, sheet_text}
use Rattle.sheet.specs.declared.heading.Heading.{Heading}
use Rattle.sheet.specs.Reading.{sheet_of, with_lists}
use Rattle.sheet.specs.Room.{out_most}
use Rattle.mendsheet.specs.Print.{lost_text_of}

-- how many words the list and the scratch have, that a sheet's mender is lent
abbrev pub words_lent : ℕ
words_lent = 96

-- contours of these lengths and numbers come from a sheet
pub record FromSheet (ls ns : List ℕ) : Type 0 where
  pub few : length ls ≤ contours_most
  pub declared : sum_over (λ n. n) ls ≤ declared_most
  pub whole : length ns ≡ sum_over (λ n. n) ls * job_stride

-- ---- the mended sheet

unfoldable pub mended_text : Heading → List ℕ → List ℕ → List ℕ → List ℕ → List ℕ
mended_text x ls rs cs ns = sheet_text (mended_sheet (with_lists (sheet_of x) ls rs cs ns))

pub record MendReady (ls rs cs ns out : List ℕ) : Type 0 where
  pub sheet : FromSheet ls ns
  pub regions : length rs ≡ length ls
  pub codes : length cs ≡ length ls
  pub room : out_most ≤ length out

-- ---- the lost points

-- by the lengths ls, and by a copy of them, which is mended
unfoldable pub losses_of : List ℕ → List ℕ → List ℕ → List ℕ
losses_of ls copy ns = lost_text_of ls (lost_numbers (mended_job copy ns))

pub record LossesReady (ls copy ns out : List ℕ) : Type 0 where
  pub few : length ls ≤ contours_most
  pub sheet : FromSheet copy ns
  pub room : out_most ≤ length out
