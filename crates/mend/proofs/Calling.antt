-- What a call comes to, step by step. Assumes nothing.
-- Key: `written`, `ended_full`, `ended_written`: what is left once the scratch was checked; `job-*`: each reply of the call.
use Rattle.std.specs.Prelude.{Result, Ok, Err}
use mathlib.Core.Path.{◌≡◌, refl, sym, ap, ap₂, ◌∙◌}
use mathlib.Core.Bool.{Bool, true, false, ◌&&◌, ◌||◌}
use mathlib.Core.List.{List, [], ◌∷◌, ◌++◌, append-nil}
use Prim.Native.Nat.{ℕ, ◌+◌, ◌-◌, ◌*◌, ◌/◌, ◌≤◌, ◌<◌}
use native.Mathlib.Omega.{arith}
use lib.Dec.{eqb, ltb, leb}
use borrow.Author.Tests.{lt-ltb, le-ltb, le-leb, lt-leb, eq-eqb, ne_eqb, eqb-true, ltb-false}
use lib.ListN.{length, take, drop, replicate, length-replicate, drop_of_length-le}
use Rattle.ints.specs.Bools.{and_right}
use Rattle.mem.specs.Loops.{run, over}
use Rattle.mem.specs.Slice.{splice, splice_eq}
use Rattle.rules.specs.Job.{job_stride, sum_over}
use Rattle.rules.specs.Mend.{Mending}
use Rattle.rules.specs.MendCall.{MendLent, mended_job, kept_lengths, kept_count, kept_words}
use Rattle.rules.specs.MendCall.{lost_numbers, mended_numbers, vertices_in, are_whole, lengths_agree, longest, vertices_most}
use Rattle.rules.specs.MendCall.{is_short_scratch, is_list_full, mend_outcome}
use Rattle.rules.specs.MendCall.{mend_reply_of, scratch_wiped, mend_exit_of, mend_exit, one_contour}
use Rattle.rules.specs.declared.Mended.{Mended}
use Rattle.rules.specs.declared.MendRefusal.{MendRefusal}
use Rattle.rules.specs.declared.MendRefusal.TheVariants.{NotWhole, LengthsDisagree, ShortScratch, ListFull}
use Rattle.checks.specs.Sums.{sum_all}
use Rattle.mend.specs.declared.contours.Tally.{Tally}
use Rattle.mend.specs.Contours.{CountReady, Counted, AllMended}
use Rattle.mend.specs.Call.{lent_of, MendReady, WriteReady, Written, checked_outcome, Ended}

-- ---- the lengths agree

pub too_many : (cs : List ℕ) (n : ℕ) → 65535 < length cs → (leb (length cs) 65535 && eqb (sum_over (λ k. k) cs) n) ≡ false
too_many cs n h = rw (lt-leb (length cs) 65535 h) refl

pub so_many : (cs : List ℕ) (n : ℕ) {r : ℕ} → length cs ≤ 65535 → r ≡ sum_all cs → eqb r n ≡ (leb (length cs) 65535 && eqb (sum_over (λ k. k) cs) n)
unfolding sum_all
so_many cs n h e = rw (le-leb (length cs) 65535 h, e) refl

-- ---- what is written

-- so many points are lost, and so many kept
abbrev mends_to : ℕ → ℕ → Result Mended MendRefusal
mends_to lost kept = Ok (record { lost = lost; kept = kept })

-- the scratch is wiped, whatever its first words were
wiped_same : (ws ws' : List ℕ) (k : ℕ) → k ≤ length ws → length ws' ≡ length ws → drop k ws' ≡ drop k ws → splice ws' 0 (replicate k 0) ≡ splice ws 0
    (replicate k 0)
wiped_same ws ws' k h e f =
    let zeros : List ℕ = replicate k 0 in
    let z : 0 + length zeros ≡ k = omega (arith, length-replicate {A = ℕ} k 0) in
    splice_eq ws' 0 zeros (omega (arith, z, e)) ∙ ap (λ (i : ℕ). zeros ++ drop i ws') z ∙ ap (λ (l : List ℕ). zeros ++ l) f
    ∙ sym (splice_eq ws 0 zeros (omega (arith, z)) ∙ ap (λ (i : ℕ). zeros ++ drop i ws) z)

-- the numbers from o on are zeros
filled_end : (ns : List ℕ) (o k : ℕ) → o + k ≡ length ns → splice ns o (replicate k 0) ≡ take o ns ++ replicate k 0
filled_end ns o k h =
    let zeros : List ℕ = replicate k 0 in
    let n : length zeros ≡ k = length-replicate {A = ℕ} k 0 in
    splice_eq ns o zeros (omega (arith, n)) ∙ ap (λ (l : List ℕ). take o ns ++ (zeros ++ l)) (drop_of_length-le ns {i = o + length zeros} (omega (arith, n)))
    ∙ ap (λ (l : List ℕ). take o ns ++ l) (append-nil zeros)

module _ {cs ns ls ws : List ℕ} {most : ℕ} (r : WriteReady cs ns ls ws most) where
  pub written : {all : Tally} {cs' ns' ls' ws' ns'' ws'' : List ℕ} → AllMended all cs ns ls ws cs' ns' ls' ws'
      → ns'' ≡ splice ns' (all.kept * job_stride) (replicate (length ns' - all.kept * job_stride) 0) → ws'' ≡ splice ws' 0 (replicate most 0)
      → Written (mends_to all.lost all.kept) (lent_of cs ns ls ws) (lent_of cs' ns'' ls' ws'')
  unfolding mend_reply_of mend_exit_of scratch_wiped mended_numbers
  written {all} {cs'} {ns'} {ls'} {ws'} {ns''} {ws''} m p q =
      let ms = mended_job cs ns in
      let k = length ns' - all.kept * job_stride in
      let whole : all.kept * job_stride + all.lost * job_stride ≡ length ns' = omega (arith, m.whole, r.ready.whole, m.long_numbers) in
      let freed : k ≡ length (lost_numbers ms) * job_stride = omega (arith, whole, m.lost) in
      let numbers : ns'' ≡ kept_words ms ++ replicate (length (lost_numbers ms) * job_stride) 0 =
      p ∙ filled_end ns' (all.kept * job_stride) k (omega (arith, whole)) ∙ ap₂ (λ (l : List ℕ) (i : ℕ). l ++ replicate i 0) m.words freed in
      let work : ws'' ≡ splice ws 0 (replicate (longest cs) 0) =
      q ∙ ap (λ (i : ℕ). splice ws' 0 (replicate i 0)) r.ready.longest ∙ wiped_same ws ws' (longest cs) r.ready.count.fits m.long_work m.rest in
      record {
        reply = ap₂ mends_to m.lost m.kept;
        words = ap₂ (λ (l n : List ℕ). lent_of l n ls' ws'') m.lengths numbers
            ∙ ap₂ (λ (l w : List ℕ). lent_of (kept_lengths ms) (kept_words ms ++ replicate (length (lost_numbers ms) * job_stride) 0) l w) m.list work;
      }

-- ---- the list is full, or not

module _ {cs ns ls ws : List ℕ} {most : ℕ} (r : MendReady cs ns ws most) {lost : ℕ} {ns' ls' ws' : List ℕ} (k : Counted lost cs ns ls ws ns' ls' ws') where
  full_is : (b : Bool) → ltb (length ls') lost ≡ b → is_list_full (lent_of cs ns ls ws) ≡ b
  unfolding is_list_full
  full_is b e = ap₂ (λ (l : List ℕ) (i : ℕ). ltb (length l) i) (sym k.list) (sym k.is) ∙ e

  pub ended_full : {ws'' : List ℕ} → length ls' < lost → ws'' ≡ splice ws' 0 (replicate most 0) → Ended (Err ListFull) (lent_of cs ns ls ws) (lent_of cs ns' ls' ws'')
  unfolding checked_outcome mend_reply_of mend_exit_of scratch_wiped
  ended_full {ws''} h q =
      let full = full_is true (lt-ltb (length ls') lost h) in
      let work : ws'' ≡ splice ws 0 (replicate (longest cs) 0) =
      q ∙ ap (λ (i : ℕ). splice ws' 0 (replicate i 0)) r.longest ∙ wiped_same ws ws' (longest cs) r.count.fits k.long_work k.rest in
      record {
        reply = rw (full, checked_outcome) refl;
        words = rw (full, checked_outcome) (ap₂ (λ (n l : List ℕ). lent_of cs n l ws'') k.numbers k.list ∙ ap (lent_of cs ns ls) work);
      }

  pub write_ready : lost ≤ length ls' → WriteReady cs ns' ls' ws' most
  write_ready h =
      let count : CountReady cs ns' ws' = record {
        inside = omega (arith, r.count.inside, ap length k.numbers);
        small = r.count.small;
        fits = omega (arith, r.count.fits, k.long_work);
      } in
      record {
        ready = record { count = count; whole = r.whole ∙ sym (ap length k.numbers); longest = r.longest };
        all = record { count = count; room = omega (arith, h, k.is, ap (λ (n : List ℕ). length (lost_numbers (mended_job cs n))) k.numbers) };
      }

  pub ended_written : {x : Result Mended MendRefusal} {e : MendLent} → lost ≤ length ls' → Written x (lent_of cs ns' ls' ws') e → Ended x (lent_of cs ns ls ws) e
  unfolding checked_outcome mend_reply_of mend_exit_of scratch_wiped
  ended_written {x} {e} h w =
      let ms = mended_job cs ns in
      let full = full_is false (le-ltb (length ls') lost h) in
      let same : mended_job cs ns' ≡ ms = ap (mended_job cs) k.numbers in
      let work : splice ws' 0 (replicate (longest cs) 0) ≡ splice ws 0 (replicate (longest cs) 0) =
      wiped_same ws ws' (longest cs) r.count.fits k.long_work k.rest in
      record {
        reply = rw (full, checked_outcome) (w.reply ∙ ap (λ (l : List Mending). mends_to (length (lost_numbers l)) (kept_count l)) same);
        words = rw (full, checked_outcome) (w.words
            ∙ ap (λ (l : List Mending). lent_of (kept_lengths l) (mended_numbers l) (splice ls' 0 (lost_numbers l)) (splice ws' 0 (replicate (longest cs) 0))) same
            ∙ ap₂ (λ (l v : List ℕ). lent_of (kept_lengths ms) (mended_numbers ms) (splice l 0 (lost_numbers ms)) v) k.list work);
      }

-- ---- the call

abbrev pub Replies : Result Mended MendRefusal → MendLent → MendLent → Type 0
Replies x b e = (x ≡ mend_reply_of (mend_outcome b)) × (e ≡ mend_exit b)

module _ (cs ns ls ws : List ℕ) where
  whole_is : (b : Bool) → eqb (length ns / job_stride * job_stride) (length ns) ≡ b → are_whole ns ≡ b
  unfolding are_whole vertices_in
  whole_is b e = e

  pub job_not_whole : length ns / job_stride * job_stride < length ns → Replies (Err NotWhole) (lent_of cs ns ls ws) (lent_of cs ns ls ws)
  unfolding mend_outcome mend_reply_of mend_exit mend_exit_of
  job_not_whole h = let e = whole_is false (ne_eqb (length ns / job_stride * job_stride) (length ns) (λ
      (q : length ns / job_stride * job_stride ≡ length ns). omega arith)) in
      (rw (e, mend_outcome) refl, rw (e, mend_outcome) refl)

  module _ (whole : are_whole ns ≡ true) where
    pub job_disagrees : lengths_agree cs ns ≡ false → Replies (Err LengthsDisagree) (lent_of cs ns ls ws) (lent_of cs ns ls ws)
    unfolding mend_outcome mend_reply_of mend_exit mend_exit_of
    job_disagrees a = (rw (whole, a, mend_outcome) refl, rw (whole, a, mend_outcome) refl)

    module _ (agree : lengths_agree cs ns ≡ true) where
      pub job_short : is_short_scratch (lent_of cs ns ls ws) ≡ true → Replies (Err ShortScratch) (lent_of cs ns ls ws) (lent_of cs ns ls ws)
      unfolding mend_outcome mend_reply_of mend_exit mend_exit_of
      job_short s = (rw (whole, agree, s, mend_outcome) refl, rw (whole, agree, s, mend_outcome) refl)

      outcome_is : is_short_scratch (lent_of cs ns ls ws) ≡ false → mend_outcome (lent_of cs ns ls ws) ≡ checked_outcome (lent_of cs ns ls ws)
      unfolding mend_outcome checked_outcome
      outcome_is s = rw (whole, agree, s, mend_outcome) refl

      pub job_ended : {x : Result Mended MendRefusal} {e : MendLent} → is_short_scratch (lent_of cs ns ls ws) ≡ false → Ended x (lent_of cs ns ls ws) e → Replies x
          (lent_of cs ns ls ws) e
      unfolding mend_exit
      job_ended s d = (d.reply ∙ ap mend_reply_of (sym (outcome_is s)), d.words ∙ ap (mend_exit_of (lent_of cs ns ls ws)) (sym (outcome_is s)))

-- ---- the tests of the code

pub whole_now : (ns : List ℕ) → length ns ≤ length ns / job_stride * job_stride → are_whole ns ≡ true
unfolding are_whole vertices_in
whole_now ns h = eq-eqb (length ns / job_stride * job_stride) (length ns) (omega arith)

pub agree_now : (cs ns : List ℕ) {r : Bool} (b : Bool) → r ≡ (leb (length cs) 65535 && eqb (sum_over (λ k. k) cs) (length ns / job_stride)) → r ≡ b
    → lengths_agree cs ns ≡ b
unfolding lengths_agree vertices_in
agree_now cs ns b e q = sym e ∙ q

pub short_now : (cs ns ls ws : List ℕ) {most : ℕ} (b : Bool) → most ≡ longest cs → (ltb (length ws) most || ltb vertices_most (length ns / job_stride)) ≡ b
    → is_short_scratch (lent_of cs ns ls ws) ≡ b
unfolding is_short_scratch vertices_in
short_now cs ns ls ws b e q = ap (λ (k : ℕ). ltb (length ws) k || ltb vertices_most (length ns / job_stride)) (sym e) ∙ q

or_both : (a b : Bool) → (a || b) ≡ false → (a ≡ false) × (b ≡ false)
or_both true b e = let z : ◌≡◌ {A = ℕ} 0 1 = cc in absurd (omega arith)
or_both false b e = (refl, e)

pub mend_ready : (cs ns ws : List ℕ) {most : ℕ} → length ns ≤ length ns / job_stride * job_stride
    → (leb (length cs) 65535 && eqb (sum_over (λ k. k) cs) (length ns / job_stride)) ≡ true → most ≡ longest cs
    → (ltb (length ws) most || ltb vertices_most (length ns / job_stride)) ≡ false → MendReady cs ns ws most
mend_ready cs ns ws {most} h a e s =
    let n = length ns / job_stride in
    let sum : sum_over (λ k. k) cs ≡ n = eqb-true (sum_over (λ k. k) cs) n (and_right (leb (length cs) 65535) (eqb (sum_over (λ k. k) cs) n) a) in
    let room = ltb-false (length ws) most (or_both (ltb (length ws) most) (ltb vertices_most n) s).0 in
    let few = ltb-false vertices_most n (or_both (ltb (length ws) most) (ltb vertices_most n) s).1 in
    record {
      count = record { inside = omega (arith, sum); small = omega (arith, sum, few); fits = omega (arith, e, room) };
      whole = omega (arith, sum, h);
      longest = e;
    }

-- ---- one contour

-- what is seen of the reply and the buffers; the length is not
abbrev pub OneReplies : Result Mended MendRefusal → MendLent → List ℕ → List ℕ → List ℕ → Type 0
OneReplies x b ns ls ws = (x ≡ mend_reply_of (mend_outcome b)) × ((ns ≡ (mend_exit b).numbers) × ((ls ≡ (mend_exit b).list) × (ws ≡ (mend_exit b).work)))

one_of : {x : Result Mended MendRefusal} (b e : MendLent) → Replies x b e → OneReplies x b e.numbers e.list e.work
one_of b e r = (r.0, (ap (λ (l : MendLent). l.numbers) r.1, (ap (λ (l : MendLent). l.list) r.1, ap (λ (l : MendLent). l.work) r.1)))

module _ (ns ls ws : List ℕ) where
  pub one_not_whole : length ns / job_stride * job_stride < length ns → OneReplies (Err NotWhole) (one_contour ns ls ws) ns ls ws
  unfolding one_contour
  one_not_whole h = one_of (one_contour ns ls ws) (one_contour ns ls ws) (job_not_whole (vertices_in ns ∷ []) ns ls ws h)

  -- its length agrees
  one_agrees : lengths_agree (vertices_in ns ∷ []) ns ≡ true
  unfolding lengths_agree sum_over over run
  one_agrees = eq-eqb (vertices_in ns + 0) (vertices_in ns) (omega arith)

  one_many : vertices_most < length ns / job_stride → is_short_scratch (lent_of (vertices_in ns ∷ []) ns ls ws) ≡ true
  unfolding is_short_scratch vertices_in
  one_many h = rw (lt-ltb vertices_most (length ns / job_stride) h) (or_true (ltb (length ws) (longest (length ns / job_stride ∷ []))))
    where
      or_true : (b : Bool) → (b || true) ≡ true
      or_true true = refl
      or_true false = refl

  pub one_short : length ns ≤ length ns / job_stride * job_stride → vertices_most < length ns / job_stride
      → OneReplies (Err ShortScratch) (one_contour ns ls ws) ns ls ws
  unfolding one_contour
  one_short h k = one_of (one_contour ns ls ws) (one_contour ns ls ws) (job_short (vertices_in ns ∷ []) ns ls ws (whole_now ns h) one_agrees (one_many k))

  pub one_mended : {x : Result Mended MendRefusal} {cs ns' ls' ws' : List ℕ} → Replies x (lent_of (length ns / job_stride ∷ []) ns ls ws) (lent_of cs ns' ls' ws')
      → OneReplies x (one_contour ns ls ws) ns' ls' ws'
  unfolding one_contour vertices_in
  one_mended {cs = cs} {ns'} {ls'} {ws'} r = one_of (one_contour ns ls ws) (lent_of cs ns' ls' ws') r
