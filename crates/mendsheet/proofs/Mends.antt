-- A sheet's contours are always mended: its numbers are whole vertices, as many as its contours have, and the lists that are lent are long enough. What the
-- mender leaves then. Assumes nothing.
-- Key: `sheet_mends`, `sheet_left`; `sheet_ready`, `mended_is`: the mended sheet; `losses_ready`, `losses_are`: the lost points.
use Rattle.std.specs.Prelude.{Result}
use mathlib.Core.Path.{◌≡◌, refl, sym, ap, ◌∙◌}
use mathlib.Core.Bool.{true, false}
use mathlib.Core.List.{List}
use Prim.Native.Nat.{ℕ, ◌*◌, ◌≤◌}
use native.Mathlib.Omega.{arith}
use borrow.Author.Tests.{eq-eqb, le-leb, le-ltb}
use lib.ListN.{length, take, get_or, replicate, length-append}
use lib.Seq.{take_at}
use Rattle.mem.specs.Slice.{splice, length_splice, view_same}
use Rattle.rules.specs.Job.{job_stride, sum_over}
use Rattle.rules.specs.Sheet.{contours_most, declared_most}
use Rattle.rules.specs.MendCall.{MendLent, mended_job, kept_lengths, kept_count, lost_numbers, kept_words, mends, mend_outcome, mend_reply_of, mend_words}
use Rattle.rules.specs.MendCall.{vertices_in, are_whole, lengths_agree, longest, vertices_most, is_short_scratch, is_list_full, mended_numbers, mend_exit_of, mend_exit}
use Rattle.rules.specs.Mend.{Mending}
use Rattle.rules.specs.MendSheet.{mended_sheet, sheet_text}
use Rattle.rules.specs.declared.Mended.{Mended}
use Rattle.rules.specs.declared.MendRefusal.{MendRefusal}
use Rattle.sheet.specs.declared.heading.Heading.{Heading}
use Rattle.sheet.specs.Reading.{sheet_of, with_lists}
use Rattle.sheet.specs.Room.{out_most}
use Rattle.mend.specs.Call.{lent_of}
use Rattle.mendsheet.specs.Print.{lost_text_of, SheetReady, LostReady}
use Rattle.mendsheet.specs.Mended.{words_lent, FromSheet, mended_text, MendReady, losses_of}
use Rattle.mendsheet.proofs.Short.{sheet_short, lost_short}
use Rattle.mendsheet.proofs.Counts.{job_counted, kept_contours, kept_long, longest_most}

-- ---- none of 80, 2, 82 and 81

module _ (b : MendLent) (s : FromSheet b.lengths b.numbers) (list : length b.list ≡ words_lent) (work : length b.work ≡ words_lent) where
  vertices_in_lem : vertices_in b.numbers ≡ sum_over (λ n. n) b.lengths
  unfolding vertices_in
  vertices_in_lem = omega (arith, s.whole)

  are_whole_lem : are_whole b.numbers ≡ true
  unfolding are_whole
  are_whole_lem = eq-eqb (vertices_in b.numbers * job_stride) (length b.numbers) (omega (arith, vertices_in_lem, s.whole))

  agree : lengths_agree b.lengths b.numbers ≡ true
  unfolding lengths_agree
  agree =
      rw (le-leb (length b.lengths) 65535 (omega (arith, s.few)), eq-eqb (sum_over (λ n. n) b.lengths) (vertices_in b.numbers) (sym vertices_in_lem)) refl

  scratch_long : is_short_scratch b ≡ false
  unfolding is_short_scratch
  scratch_long =
      rw (
        le-ltb (length b.work) (longest b.lengths) (omega (arith, longest_most b.lengths, s.declared)),
        le-ltb vertices_most (vertices_in b.numbers) (omega (arith, vertices_in_lem, s.declared)),
      ) refl

  list_long : is_list_full b ≡ false
  unfolding is_list_full
  list_long =
      le-ltb (length b.list) (length (lost_numbers (mended_job b.lengths b.numbers)))
      (omega (arith, job_counted b.lengths b.numbers, s.declared))

  pub sheet_mends : mend_outcome b ≡ mends (mended_job b.lengths b.numbers)
  unfolding mend_outcome
  sheet_mends = rw (are_whole_lem, mend_outcome) (rw agree (rw scratch_long (rw list_long refl)))

-- the list and the scratch, as they are lent
abbrev pub blank : List ℕ
blank = replicate words_lent 0

pub blank_long : length blank ≡ words_lent
blank_long = refl

-- ---- what the mender leaves of a sheet's lists: r is its reply

pub record Mends (ls ns list : List ℕ) (r : Result Mended MendRefusal) (ls' ns' list' : List ℕ) : Type 0 where
  pub lost : get_or (mend_words r) 1 0 ≡ length (lost_numbers (mended_job ls ns))
  pub kept : get_or (mend_words r) 2 0 ≡ kept_count (mended_job ls ns)
  pub lengths : ls' ≡ kept_lengths (mended_job ls ns)
  pub numbers : ns' ≡ mended_numbers (mended_job ls ns)
  pub losses : list' ≡ splice list 0 (lost_numbers (mended_job ls ns))

pub sheet_left : {ls ns ls' ns' list' work' : List ℕ} {r : Result Mended MendRefusal} (list work : List ℕ) → FromSheet ls ns → length list ≡ words_lent → length work ≡ words_lent
    → r ≡ mend_reply_of (mend_outcome (lent_of ls ns list work)) → lent_of ls' ns' list' work' ≡ mend_exit (lent_of ls ns list work)
    → Mends ls ns list r ls' ns' list'
unfolding mend_reply_of mend_words mend_exit mend_exit_of
sheet_left {ls} {ns} list work s l w reply words =
    let b = lent_of ls ns list work in
    let o = sheet_mends b s l w in
    let a = reply ∙ ap mend_reply_of o in
    let e = words ∙ ap (mend_exit_of b) o in
    record {
      lost = ap (λ (q : Result Mended MendRefusal). get_or (mend_words q) 1 0) a;
      kept = ap (λ (q : Result Mended MendRefusal). get_or (mend_words q) 2 0) a;
      lengths = ap (λ (u : MendLent). u.lengths) e;
      numbers = ap (λ (u : MendLent). u.numbers) e;
      losses = ap (λ (u : MendLent). u.list) e;
    }

-- ---- the mended sheet is printed

module _ {ls ns list ls' ns' list' : List ℕ} {r : Result Mended MendRefusal} (s : FromSheet ls ns) (m : Mends ls ns list r ls' ns' list')
    {k : ℕ} (e : k ≡ get_or (mend_words r) 2 0) where
  abbrev ms : List Mending
  ms = mended_job ls ns

  kept_is : k ≡ kept_count ms
  kept_is = e ∙ m.kept

  pub kept_few : k ≤ declared_most
  kept_few = omega (arith, kept_is, job_counted ls ns, s.declared)

  pub kept_there : k * 4 ≤ length ns'
  unfolding mended_numbers
  kept_there = rw m.numbers (simp length-append (omega (arith, kept_is, kept_long ms)))

  kept_words_lem : take (k * 4) ns' ≡ kept_words ms
  unfolding mended_numbers
  kept_words_lem = rw m.numbers (take_at (kept_words ms) (replicate (length (lost_numbers ms) * job_stride) 0) (k * 4) (kept_long ms ∙ omega (arith, kept_is)))

  sum_kept : sum_over (λ n. n) ls' ≡ kept_count ms
  unfolding kept_count
  sum_kept = ap (sum_over (λ n. n)) m.lengths

  contours_kept : length ls' ≡ length ls
  contours_kept = ap length m.lengths ∙ kept_contours ls ns

  module _ (x : Heading) {rs cs out : List ℕ} (ready : MendReady ls rs cs ns out) where
    pub mended_is : sheet_text (with_lists (sheet_of x) ls' rs cs (take (k * 4) ns')) ≡ mended_text x ls rs cs ns
    unfolding mended_text mended_sheet with_lists
    mended_is = rw (m.lengths, kept_words_lem) refl

    pub mended_short : length (mended_text x ls rs cs ns) ≤ out_most
    mended_short =
        rw (← mended_is)
        (sheet_short x ls' rs cs (take (k * 4) ns') (omega (arith, contours_kept, s.few)) (omega (arith, sum_kept, kept_is, kept_few)))

    pub sheet_ready : SheetReady out x ls' rs cs (take (k * 4) ns')
    sheet_ready = record {
      stand = record {
        regions = ready.regions ∙ sym contours_kept;
        codes = ready.codes ∙ sym contours_kept;
        there = rw kept_words_lem (omega (arith, sum_kept, kept_long ms));
      };
      room = rw mended_is (omega (arith, mended_short, ready.room));
    }

-- ---- the lost points are printed

module _ {ls ns list ls' ns' list' : List ℕ} {r : Result Mended MendRefusal} (s : FromSheet ls ns) (m : Mends ls ns list r ls' ns' list')
    {k : ℕ} (e : k ≡ get_or (mend_words r) 1 0) (l : length list ≡ words_lent) where
  abbrev lost_ones : List ℕ
  lost_ones = lost_numbers (mended_job ls ns)

  lost_is : k ≡ length lost_ones
  lost_is = e ∙ m.lost

  lost_few : length lost_ones ≤ declared_most
  lost_few = omega (arith, job_counted ls ns, s.declared)

  pub lost_there : k ≤ length list'
  lost_there = rw (m.losses, length_splice list 0 lost_ones, l) (omega (arith, lost_is, lost_few))

  lost_words : take k list' ≡ lost_ones
  lost_words = rw m.losses (view_same list 0 k lost_ones (sym lost_is) (omega (arith, lost_is, lost_few)))

  module _ (at : List ℕ) where
    pub losses_are : lost_text_of at (take k list') ≡ losses_of at ls ns
    unfolding losses_of
    losses_are = ap (lost_text_of at) lost_words

    pub losses_short : length (losses_of at ls ns) ≤ out_most
    unfolding losses_of
    losses_short = lost_short at lost_ones lost_few

    pub losses_ready : {out : List ℕ} → length at ≤ contours_most → out_most ≤ length out → LostReady out at (take k list')
    losses_ready f h = record { few = f; room = rw losses_are (omega (arith, losses_short)) }
