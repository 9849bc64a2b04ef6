-- What the bytes of a sheet come to, for each way that the reading ends; and what is printed for them by f, for any f. Assumes nothing.
-- Key: `long_read`, `bad_heading`, `good_heading`, `bad_body`, `good_body`: the reading; `bad_as`, `taken_as`, `counted_as`: its answer; `text_read`,
-- `bad_text`, `taken_text`: what is printed, for any reader.
use Rattle.std.specs.Prelude.{◌≡◌, Bool, List, ℕ, ◌+◌, ◌≤◌, ◌<◌, ltb, length, take, Result, Ok, Err, IfOk}
use Rattle.std.proofs.Math.Path.{refl, ap, subst}
use Rattle.std.proofs.Common.{sym, ◌∙◌, lt-ltb, le-ltb}
use Rattle.std.proofs.Math.Bool.{true, false}
use native.Mathlib.Omega.{arith}
use Rattle.rules.specs.Lines.{Line, lines_of}
use Rattle.rules.specs.Sheet.{bytes_most, heading_lines, Sheet, Read, taken, bad, and_then, read_body, read_heading, read_sheet, refused_text, read_text, text_by}
use Rattle.lines.specs.Print.{Printed}
use Rattle.lines.specs.Printing.{printed_as}
use Rattle.sheet.specs.declared.heading.Heading.{Heading}
use Rattle.sheet.specs.declared.body.Progress.{Progress}
use Rattle.sheet.specs.declared.read.JobSheet.{JobSheet}
use Rattle.sheet.specs.declared.refusal.SheetRefusal.{SheetRefusal}
use Rattle.sheet.specs.declared.refusal.SheetRefusal.TheVariants.{TooLong}
use Rattle.sheet.specs.Refusals.{number_of, line_of, refused_as}
use Rattle.sheet.specs.Reading.{sheet_of, headed_as, goes_on, BehindIs, Behind, with_lists, so_far, end_as, Counted, CountedAs, BodyReady, BodyRead}
use Rattle.sheet.specs.Reading.{bytes_by, read_bytes, ListsReady, TakenAs, FoundAs, ReadAs}
use Rattle.sheet.specs.Room.{out_most, printed_short, printed_counts}

-- ---- the bytes

module _ {A : Type 0} (read : List Line → Read A) (t : List ℕ) where
  pub long_bytes : bytes_most < length t → bytes_by read t ≡ bad 23 0
  unfolding bytes_by
  long_bytes h = rw (lt-ltb bytes_most (length t) h, bytes_by) refl

  pub short_bytes : length t ≤ bytes_most → bytes_by read t ≡ read (lines_of t)
  unfolding bytes_by
  short_bytes h = rw (le-ltb bytes_most (length t) h, bytes_by) refl

-- a sheet comes to what its heading comes to, and then to the lines behind it
pub heading_on : (t : List ℕ) (r : Result Heading SheetRefusal) → read_heading (lines_of t) ≡ headed_as r → Behind t r → read_sheet (lines_of t) ≡ goes_on t r
unfolding read_sheet and_then headed_as goes_on BehindIs refused_as
heading_on t (Ok x) e b = rw e (ap (λ (ls : List Line). read_body (heading_lines + 1) 0 ls (sheet_of x)) (sym b.rest))
heading_on t (Err z) e b = rw e refl

-- ---- what is read

module _ (t ls rs cs ns : List ℕ) where
  pub long_read : bytes_most < length t → ReadAs (read_bytes t) (Err TooLong) ls rs cs ns
  unfolding FoundAs refused_as number_of line_of
  long_read h = record { found = long_bytes read_sheet t h }

  module _ (h : length t ≤ bytes_most) (r : Result Heading SheetRefusal) (e : read_heading (lines_of t) ≡ headed_as r) (b : Behind t r) where
    pub bad_heading : (z : SheetRefusal) → r ≡ Err z → ReadAs (read_bytes t) (Err z) ls rs cs ns
    unfolding FoundAs goes_on
    bad_heading z q = record { found = short_bytes read_sheet t h ∙ heading_on t r e b ∙ ap (goes_on t) q }

    pub good_heading : (x : Heading) (a : Result JobSheet SheetRefusal) → r ≡ Ok x → ReadAs (goes_on t (Ok x)) a ls rs cs ns → ReadAs (read_bytes t) a ls rs cs ns
    good_heading x a q s = let z = short_bytes read_sheet t h ∙ heading_on t r e b ∙ ap (goes_on t) q in rw z s

  -- the lines behind a heading
  module _ (x : Heading) {r : Result Progress SheetRefusal} (b : BodyRead t x.at r ls rs cs ns) where
    whole : goes_on t (Ok x) ≡ end_as r ls rs cs ns (sheet_of x)
    unfolding goes_on with_lists sheet_of
    whole = b.same (sheet_of x)

    pub bad_body : {e : SheetRefusal} → r ≡ Err e → ReadAs (goes_on t (Ok x)) (Err e) ls rs cs ns
    unfolding FoundAs end_as
    bad_body q = record { found = whole ∙ ap (λ (a : Result Progress SheetRefusal). end_as a ls rs cs ns (sheet_of x)) q }

    pub good_body : {p : Progress} → r ≡ Ok p
        → ReadAs (goes_on t (Ok x)) (Ok (record { heading = x; contours = p.contours; vertices = p.vertices })) ls rs cs ns
    unfolding FoundAs end_as so_far CountedAs
    good_body {p} q =
        let k : Counted p ls rs cs ns = subst (λ (a : Result Progress SheetRefusal). CountedAs a ls rs cs ns) q b.counted in
        let f : TakenAs (goes_on t (Ok x)) x p.contours p.vertices ls rs cs ns =
        record {
          room = k.room;
          contours = k.contours;
          vertices = k.vertices;
          declared = k.declared;
          same = whole ∙ ap (λ (a : Result Progress SheetRefusal). end_as a ls rs cs ns (sheet_of x)) q;
        } in
        record { found = f }

    -- the lists have their room, whatever was read
    pub held_of : (q : Result Progress SheetRefusal) → r ≡ q → ListsReady ls rs cs ns
    unfolding CountedAs
    held_of (Ok p) q = (subst (λ (a : Result Progress SheetRefusal). CountedAs a ls rs cs ns) q b.counted).room
    held_of (Err e) q = subst (λ (a : Result Progress SheetRefusal). CountedAs a ls rs cs ns) q b.counted

pub body_ready : {ls rs cs ns : List ℕ} (t : List ℕ) (r : Result Heading SheetRefusal) (x : Heading) → r ≡ Ok x → Behind t r → length t ≤ bytes_most → ListsReady ls rs cs ns
    → BodyReady t x.at ls rs cs ns
unfolding BehindIs
body_ready t r x e b h l =
    let k : x.at ≤ length t = (subst (Behind t) e b).within in
    record { inside = k; short = h; lengths = l.lengths; regions = l.regions; codes = l.codes; numbers = l.numbers }

-- ---- what is printed, by f

module _ {A : Type 0} (read : List Line → Read A) (f : A → List ℕ) (t : List ℕ) where
  pub text_read : text_by read f t ≡ read_text f (bytes_by read t)
  unfolding text_by bytes_by read_text
  text_read = elim (ltb bytes_most (length t)) as (λ (b : Bool). elim b [ true ↦ refused_text 23 0 | false ↦ read_text f (read (lines_of t)) ]
      ≡ read_text f (elim b [ true ↦ bad 23 0 | false ↦ read (lines_of t) ])) [
        | true ↦ refl
        | false ↦ refl
      ]

  pub bad_text : {n k : ℕ} → bytes_by read t ≡ bad n k → text_by read f t ≡ refused_text n k
  unfolding read_text
  bad_text e = text_read ∙ ap (read_text f) e

  pub taken_text : {a : A} → bytes_by read t ≡ taken a → text_by read f t ≡ f a
  unfolding read_text
  taken_text e = text_read ∙ ap (read_text f) e

module _ {w : Read Sheet} {r : Result JobSheet SheetRefusal} {ls rs cs ns : List ℕ} (a : ReadAs w r ls rs cs ns) where
  pub bad_as : {e : SheetRefusal} → r ≡ Err e → w ≡ refused_as e
  unfolding FoundAs
  bad_as e = subst (λ (q : Result JobSheet SheetRefusal). FoundAs w q ls rs cs ns) e a.found

  pub taken_as : {s : JobSheet} → r ≡ Ok s → TakenAs w s.heading s.contours s.vertices ls rs cs ns
  unfolding FoundAs
  taken_as e = subst (λ (q : Result JobSheet SheetRefusal). FoundAs w q ls rs cs ns) e a.found

-- what was read keeps within the lists
pub counted_as : {w : Read Sheet} (r : Result JobSheet SheetRefusal) {ls rs cs ns : List ℕ} → ReadAs w r ls rs cs ns
    → IfOk r (λ s. (s.contours ≤ 32) × (s.vertices ≤ 96))
counted_as (Ok s) a = let t = taken_as a refl in (t.contours, t.vertices)
counted_as (Err e) a = tt

-- ---- for the functions that users call

-- a refusal is the answer
pub whole_answer : {piece text v w : List ℕ} {r : ℕ} → length v ≡ out_most → length piece ≤ 50 → Printed piece v w 0 r → text ≡ piece
    → Printed text v w 0 r × ((r ≤ length w) × (r ≡ length (take r w)))
whole_answer l h p e = (printed_as p (sym e), printed_counts p (printed_short p (omega arith)) l)
