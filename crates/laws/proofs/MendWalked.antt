-- Request 12, as the code has it: a contour is walked once over its numbers, and then its ends are seen to. What a walk leaves, and what the sentences give.
-- Assumes nothing.
-- Key: `walked_same`: the kept are the numbers that are left, with the flags that were written, and the list is the walk's; `walked_dry`: a walk that writes
-- nothing leaves and loses the same; `walked_fine`: a walk stays within its contour.
use Prim.Native.Nat.{ℕ, zero, suc, ◌+◌, ◌*◌, ◌≤◌}
use Rattle.std.proofs.Common.{arith, ◌∙◌, ap}
use Rattle.std.specs.Prelude.{◌≡◌, Bool, false, List, length}
use Rattle.std.proofs.Math.Path.{refl}
use Rattle.std.proofs.Math.Bool.{true}
use Rattle.mem.specs.Loops.{each_ind, times_ind}
use Rattle.rules.specs.Job.{job_stride}
use Rattle.rules.specs.Mend.{traced, mended, mend_loop}
use Rattle.laws.specs.Lists.{none, more}
use Rattle.laws.proofs.Lists.{all_take, all_drop}
use Rattle.laws.specs.MendNumbers.{Numbered, mending_of, up_none, Sound}
use Rattle.laws.specs.MendPass.{Passing, pass}
use Rattle.laws.specs.MendWalk.{pass_start, passed_all}
use Rattle.laws.specs.MendEnds.{part_of, end_turn, ends_by}
use Rattle.laws.specs.MendEnded.{end_start, ended_all}
use Rattle.laws.proofs.MendEnded.{ended_sound, mend_in_numbers}
use Rattle.laws.specs.MendDry.{Placed, with_numbers, ends_with}
use Rattle.laws.proofs.MendDry.{each_dry, each_placed, turns_dry}
use Rattle.laws.specs.MendWithin.{Fine, FineEnds}
use Rattle.laws.proofs.MendWithin.{outside_none, fine_pass, fine_turn}
use Rattle.laws.specs.MendWalked.{walked_by, Walked, Dry}

pub walked_some : (t : Bool) (ns : List ℕ) (first n : ℕ) → 1 ≤ n
    → walked_by t ns first n ≡ part_of (passed_all t ns first n).stack (ended_all t (passed_all t ns first n))
unfolding walked_by
walked_some t ns first zero h = absurd (omega arith)
walked_some t ns first (suc r) h = refl

module _ (ns : List ℕ) (first : ℕ) where
  pub walked_same : (n : ℕ) → (first + n) * job_stride ≤ length ns → mended (traced ns first n) ≡ mending_of (walked_by true ns first n)
  unfolding walked_by mended mend_loop mending_of traced Rattle.mem.specs.Tab.tab
  walked_same zero h = refl
  walked_same (suc r) h = mend_in_numbers ns first (suc r) (omega arith) h

  -- what is left rises, and has its numbers
  pub walked_sound : (n : ℕ) → (first + n) * job_stride ≤ length ns → Sound (walked_by true ns first n)
  unfolding walked_by
  walked_sound zero h = record { rising = up_none; inside = none }
  walked_sound (suc r) h = ended_sound ns first (suc r) (omega arith) h

-- ---- the walk stays within its contour

pub passed_fine : (t : Bool) (ns : List ℕ) (first n : ℕ) → 1 ≤ n → Fine first (first + n) ns (passed_all t ns first n)
unfolding passed_all pass_start
passed_fine t ns first n h = each_ind (pass t (first + n)) (Fine first (first + n) ns) (first + 1) (first + n)
    (λ j w a b f. fine_pass t first (first + n) j ns w (omega arith) b f) (pass_start ns first)
    (record { some = omega arith; low = more (omega arith) none; high = more (omega arith) none; outside = outside_none first (first + n) ns })

pub ended_fine : (t : Bool) (first e : ℕ) (ns : List ℕ) (w : Passing) → Fine first e ns w → FineEnds first e ns w.stack (ended_all t w)
unfolding ended_all ends_by end_start
ended_fine t first e ns w f = times_ind (end_turn t w.stack) (FineEnds first e ns w.stack) (λ v l. fine_turn t v l) (length w.stack) (end_start w)
    (record { within = omega arith; low = f.low; high = f.high; outside = f.outside })

pub walked_fine : (t : Bool) (ns : List ℕ) (first n : ℕ) → Walked first n ns (walked_by t ns first n)
unfolding walked_by part_of
walked_fine t ns first zero = record { low = none; high = none; outside = outside_none first (first + 0) ns }
walked_fine t ns first (suc r) =
    let w = passed_all t ns first (suc r) in
    let v = ended_all t w in
    let f = ended_fine t first (first + suc r) ns w (passed_fine t ns first (suc r) (omega arith)) in
    record { low = all_take v.n (all_drop v.lo f.low); high = all_take v.n (all_drop v.lo f.high); outside = f.outside }

-- ---- a walk that writes nothing

module _ (ns : List ℕ) (first n : ℕ) where
  passed_dry : passed_all false ns first n ≡ with_numbers ns (passed_all true ns first n)
  unfolding passed_all pass_start with_numbers
  passed_dry = each_dry ns true (first + n) (first + 1) (first + n) (pass_start ns first) (λ a b. refl)

  passed_placed : Placed ns (passed_all true ns first n).numbers
  unfolding passed_all pass_start
  passed_placed = each_placed ns true (first + n) (first + 1) (first + n) (pass_start ns first) (λ a b. refl)

ended_dry : (ns : List ℕ) (w : Passing) → Placed ns w.numbers → ended_all false (with_numbers ns w) ≡ ends_with ns (ended_all true w)
unfolding ended_all ends_by end_start with_numbers ends_with
ended_dry ns w h = turns_dry ns true w.stack (length w.stack) (end_start w) h

pub walked_dry : (ns : List ℕ) (first n : ℕ) → Dry ns (walked_by false ns first n) (walked_by true ns first n)
unfolding walked_by part_of with_numbers ends_with
walked_dry ns first zero = record { left = refl; lost = refl; numbers = refl }
walked_dry ns first (suc r) =
    let w = passed_all true ns first (suc r) in
    let e = ap (λ (v : Passing). part_of v.stack (ended_all false v)) (passed_dry ns first (suc r))
    ∙ ap (part_of w.stack) (ended_dry ns w (passed_placed ns first (suc r))) in
    record {
      left = ap (λ (v : Numbered). v.left) e;
      lost = ap (λ (v : Numbered). v.lost) e;
      numbers = ap (λ (v : Numbered). v.numbers) e;
    }
