-- A sheet that was read is handed to the mender: the first parts of its lists are what the mender asks for, and what is printed for them is the sheet's text.
-- Assumes nothing.
use mathlib.Core.Path.{◌≡◌, sym, ◌∙◌}
use mathlib.Core.List.{List}
use Prim.Native.Nat.{ℕ, ◌*◌}
use native.Mathlib.Omega.{arith}
use lib.ListN.{length, take}
use Rattle.rules.specs.Job.{job_stride}
use Rattle.rules.specs.Sheet.{Sheet, Read, read_sheet}
use Rattle.rules.specs.MendSheet.{mended_sheet, sheet_text, mend_text, lost_lines, lost_text}
use Rattle.sheet.specs.declared.heading.Heading.{Heading}
use Rattle.sheet.specs.Parts.{whole_part, whole_numbers}
use Rattle.sheet.specs.Reading.{with_lists, read_bytes, TakenAs}
use Rattle.sheet.specs.Room.{out_most}
use Rattle.sheet.specs.Texts.{taken_text}
use Rattle.mendsheet.specs.Print.{lost_text_of}
use Rattle.mendsheet.specs.Mended.{FromSheet, mended_text, MendReady, losses_of, LossesReady}

module _ {w : Read Sheet} {x : Heading} {c v : ℕ} {ls rs cs ns : List ℕ} (a : TakenAs w x c v ls rs cs ns) where
  from_sheet : FromSheet (take c ls) (take (v * job_stride) ns)
  from_sheet =
      let p = whole_part c ls a.contours a.room.lengths in
      let q = whole_numbers v ns a.vertices a.room.numbers in
      record { few = omega (arith, a.contours); declared = omega (arith, a.declared, a.vertices); whole = omega (arith, a.declared) }

  pub mend_ready : {out : List ℕ} → length out ≡ out_most → MendReady (take c ls) (take c rs) (take c cs) (take (v * job_stride) ns) out
  mend_ready h =
      let p = whole_part c ls a.contours a.room.lengths in
      record {
        sheet = from_sheet;
        regions = sym (whole_part c rs a.contours a.room.regions) ∙ p;
        codes = sym (whole_part c cs a.contours a.room.codes) ∙ p;
        room = omega arith;
      }

  pub losses_asked : {out : List ℕ} → length out ≡ out_most → LossesReady (take c ls) (take c ls) (take (v * job_stride) ns) out
  losses_asked h = record { few = from_sheet.few; sheet = from_sheet; room = omega arith }

module _ (t : List ℕ) {x : Heading} {c v : ℕ} {ls rs cs ns : List ℕ} (a : TakenAs (read_bytes t) x c v ls rs cs ns) where
  pub mend_text_lem : mended_text x (take c ls) (take c rs) (take c cs) (take (v * job_stride) ns) ≡ mend_text t
  unfolding mended_text mend_text
  mend_text_lem = sym (taken_text read_sheet (λ s. sheet_text (mended_sheet s)) t a.same)

  pub lost_text_lem : losses_of (take c ls) (take c ls) (take (v * job_stride) ns) ≡ lost_text t
  unfolding losses_of lost_text_of lost_text lost_lines with_lists
  lost_text_lem = sym (taken_text read_sheet (λ s. lost_lines s.job) t a.same)
