-- What is printed: the verdict by its two numbers, a claim's text, and the text of the whole for each way that the reading ends. Assumes nothing.
use Rattle.std.specs.Prelude.{Result, Ok, Err, ⊤}
use mathlib.Core.Path.{◌≡◌, refl, sym, ap, ◌∙◌, subst}
use mathlib.Core.List.{List, [], ◌∷◌, ◌++◌}
use mathlib.Core.Logic.{⊎_elim, ◌≢◌}
use Prim.Native.Nat.{ℕ, ◌*◌, ◌≤◌, ◌<◌}
use native.Mathlib.Omega.{arith}
use borrow.Author.Tests.{eq-eqb, ne_eqb}
use lib.IntN.{ℤ}
use lib.ListN.{length, take, drop}
use Rattle.mem.specs.Cases.{eq_or_ne}
use Rattle.rules.specs.Lines.{ascii, lf, Line, lines_of}
use Rattle.rules.specs.Checks.{vertex_stride}
use Rattle.rules.specs.Sheet.{bytes_most, Read, taken, bad, and_then, read_heading, refused_text, read_text}
use Rattle.rules.specs.CheckSheet.{row_words, accepted_name, no_mesh_yet, verdict_text, read_mesh, read_claim, check_text}
use Rattle.rules.specs.Checker.{Claim, verdict, verdict_number, verdict_second}
use Rattle.rules.specs.declared.Objection.{Objection}
use Rattle.checker.specs.Asked.{claim_in}
use Rattle.sheet.specs.declared.heading.Heading.{Heading}
use Rattle.sheet.specs.declared.refusal.SheetRefusal.{SheetRefusal}
use Rattle.sheet.specs.declared.refusal.SheetRefusal.TheVariants.{TooLong}
use Rattle.sheet.specs.Refusals.{number_of, line_of, refused_as}
use Rattle.sheet.specs.Reading.{sheet_of, headed_as, BehindIs, Behind}
use Rattle.sheet.specs.Room.{out_most, refused_room}
use Rattle.sheet.specs.Texts.{long_bytes, short_bytes, text_read, bad_text}
use Rattle.checksheet.specs.declared.counts.MeshLine.{MeshLine}
use Rattle.checksheet.specs.Reading.{with_mesh}
use Rattle.checksheet.specs.Claims.{claim_of, ClaimedAs, FoundAs, MeshRead}
use Rattle.checksheet.specs.Answer.{numbers_text, claim_text, answer_text, lines_text, LinesReady}

-- ---- a verdict
pub accepted_short : length (accepted_name ++ (lf ∷ [])) ≡ 9
unfolding accepted_name ascii
accepted_short = refl

module _ (number second : ℕ) where
  pub numbers_accepted : number ≡ 0 → numbers_text number second ≡ accepted_name ++ (lf ∷ [])
  unfolding numbers_text
  numbers_accepted e = rw (eq-eqb number 0 e, numbers_text) refl

  pub numbers_refused : number ≢ 0 → numbers_text number second ≡ refused_text number second
  unfolding numbers_text
  numbers_refused e = rw (ne_eqb number 0 e, numbers_text) refl

  pub numbers_short : length (numbers_text number second) ≤ 50
  numbers_short = ⊎_elim
      (λ (e : number ≡ 0). omega (arith, ap length (numbers_accepted e), accepted_short))
      (λ (e : number ≢ 0). omega (arith, ap length (numbers_refused e), refused_room number second))
      (eq_or_ne number 0)

verdict_numbers : (v : Result ⊤ Objection) → numbers_text (verdict_number v) (verdict_second v) ≡ verdict_text v
unfolding numbers_text verdict_text
verdict_numbers v = refl

-- y is the total as the bits say it
pub answer_is : (x : Heading) (z : ℤ) (vs ps ls : List ℕ) {y : ℤ} {v : Result ⊤ Objection} {number second : ℕ} → y ≡ z
    → v ≡ verdict (claim_in x.nvp x.w x.h x.border y vs ps ls) → number ≡ verdict_number v → second ≡ verdict_second v
    → numbers_text number second ≡ answer_text x z vs ps ls
unfolding answer_text claim_text with_mesh no_mesh_yet sheet_of
answer_is x z vs ps ls {y} {v} t e n s = rw (n, s, ← t) (verdict_numbers v ∙ ap verdict_text e)

-- ---- what is read
claim_short : (c : Claim) → length (claim_text c) ≤ 50
unfolding claim_text
claim_short c = rw (← (verdict_numbers (verdict c))) (numbers_short (verdict_number (verdict c)) (verdict_second (verdict c)))

read_short : (r : Read Claim) → length (read_text claim_text r) ≤ 50
unfolding read_text
read_short (taken c) = claim_short c
read_short (bad n k) = refused_room n k

pub lines_short : (text : List ℕ) (x : Heading) → length (lines_text text x) ≤ 50
unfolding lines_text
lines_short text x = read_short (read_mesh (lines_of (drop x.at text)) (sheet_of x))

module _ (text : List ℕ) (x : Heading) {r : Result MeshLine SheetRefusal} {vs ps ls : List ℕ} (m : MeshRead text x r vs ps ls) where
  pub unread_text : {e : SheetRefusal} → r ≡ Err e → refused_text (number_of e) (line_of e) ≡ lines_text text x
  unfolding FoundAs lines_text read_text refused_as
  unread_text e = sym (ap (read_text claim_text) (subst (λ (q : Result MeshLine SheetRefusal). FoundAs text x q vs ps ls) e m.found))

  module _ {s : MeshLine} (e : r ≡ Ok s) where
    pub claimed : ClaimedAs text x s.places s.polygons s.total vs ps ls
    unfolding FoundAs
    claimed = subst (λ (q : Result MeshLine SheetRefusal). FoundAs text x q vs ps ls) e m.found

    -- y is the total as the bits say it
    pub claimed_text : {rows : ℕ} {y : ℤ} → y ≡ s.total → rows ≡ s.polygons * row_words x.nvp
        → answer_text x y (take (s.places * vertex_stride) vs) (take rows ps) (take rows ls) ≡ lines_text text x
    unfolding lines_text read_text answer_text claim_of
    claimed_text t w = rw (t, w) (sym (ap (read_text claim_text) claimed.same))

-- ---- the whole
module _ (t : List ℕ) where
  pub long_text : bytes_most < length t → check_text t ≡ refused_text (number_of TooLong) (line_of TooLong)
  unfolding check_text number_of line_of
  long_text h = bad_text read_claim (λ c. verdict_text (verdict c)) t (long_bytes read_claim t h)

  module _ (h : length t ≤ bytes_most) {r : Result Heading SheetRefusal} (e : read_heading (lines_of t) ≡ headed_as r) where
    pub refused_text_lem : {z : SheetRefusal} → r ≡ Err z → check_text t ≡ refused_text (number_of z) (line_of z)
    unfolding check_text read_claim headed_as and_then refused_as
    refused_text_lem q = bad_text read_claim (λ c. verdict_text (verdict c)) t (short_bytes read_claim t h ∙ rw (e ∙ ap headed_as q) refl)

    module _ {x : Heading} (q : r ≡ Ok x) (b : Behind t r) where
      pub lines_ready : {out : List ℕ} → length out ≡ out_most → LinesReady t x out
      unfolding BehindIs
      lines_ready o = record { inside = (subst (Behind t) q b).within; short = h; room = omega arith }

      on : read_claim (lines_of t) ≡ read_mesh (lines_of (drop x.at t)) (sheet_of x)
      unfolding read_claim headed_as and_then BehindIs
      on = rw (e ∙ ap headed_as q) (ap (λ (ls : List Line). read_mesh ls (sheet_of x)) (sym (subst (Behind t) q b).rest))

      pub headed_text : check_text t ≡ lines_text t x
      unfolding check_text lines_text claim_text
      headed_text = text_read read_claim (λ c. verdict_text (verdict c)) t ∙ ap (read_text (λ c. verdict_text (verdict c))) (short_bytes read_claim t h ∙ on)
