-- Request 12, as the code has it: what every step of the walk and of the ends keeps, whether it writes flags or not. Assumes nothing.
-- Key: `fine_pass`, `fine_turn`: the numbers stay between first and e, and no number of another contour changes; `grows_pass`, `lost_grows`: the list grows.
use Rattle.std.specs.Prelude.{ℕ, ◌+◌, ◌-◌, ◌*◌, ◌≤◌, ◌<◌, refl, Bool, List, [], ◌∷◌, ◌++◌, length, get_or}
use Rattle.std.proofs.Common.{arith, ◌∙◌, length-append, length-set, length-take-le, drop-set-lt}
use Rattle.std.proofs.lemmas.List.{take-set-le}
use Rattle.mem.specs.Loops.{each, each_ind}
use Rattle.rules.specs.Job.{job_stride}
use Rattle.laws.specs.Lists.{All, none, more}
use Rattle.laws.proofs.Lists.{all_append, all_at, all_take}
use Rattle.laws.specs.MendNumbers.{carried_if}
use Rattle.laws.proofs.MendNumbers.{by_carried}
use Rattle.laws.specs.MendPass.{Passing, top_of, joining, losing, turning, pass}
use Rattle.laws.proofs.MendPass.{by_pass}
use Rattle.laws.specs.MendEnds.{Ending, first_of, last_of, off, off_front, off_back, end_turn}
use Rattle.laws.proofs.MendEnds.{turn_ind}
use Rattle.laws.specs.MendWithin.{Outside, Fine, Grows, FineEnds}

-- ---- numbers that change between the vertices `first` and e alone
pub outside_none : (first e : ℕ) (ns : List ℕ) → Outside first e ns ns
outside_none first e ns = record { size = refl; before = refl; behind = refl }

-- a flag is written at the number that stands at the place i of st, whose numbers are all of this contour
module _ {first e : ℕ} {ns st : List ℕ} (low : All (λ k. first ≤ k) st) (high : All (λ k. k < e) st) where
  outside_at : (t : Bool) (i q : ℕ) {ms : List ℕ} → i < length st → Outside first e ns ms → Outside first e ns (carried_if t ms (get_or st i 0) q)
  outside_at t i q {ms} h o =
      let p = get_or st i 0 in
      let a : first ≤ p = all_at low i 0 h in
      let b : p < e = all_at high i 0 h in
      by_carried (Outside first e ns) t ms p q
      (record {
        size = length-set ms (p * job_stride + 3) 1 ∙ o.size;
        before = take-set-le (first * job_stride) ms (p * job_stride + 3) 1 (omega arith) ∙ o.before;
        behind = drop-set-lt (e * job_stride) ms (p * job_stride + 3) 1 (omega arith) ∙ o.behind;
      })
      o

-- ---- while points are passed

pub fine_pass : (t : Bool) (first e j : ℕ) (ns : List ℕ) (w : Passing) → first ≤ j → j < e → Fine first e ns w → Fine first e ns (pass t e j w)
unfolding joining losing turning
fine_pass t first e j ns w h k f =
    let st = w.stack in
    let n = length st in
    by_pass (Fine first e ns) t e j w
    (record {
      some = omega (arith, length-append st (j ∷ []));
      low = all_append f.low (more h none);
      high = all_append f.high (more k none);
      outside = f.outside;
    })
    (record { some = f.some; low = f.low; high = f.high; outside = outside_at f.low f.high t (n - 1) j (omega arith) f.outside })
    (λ two. record {
      some = omega (arith, length-take-le (n - 1) st (omega arith));
      low = all_take (n - 1) f.low;
      high = all_take (n - 1) f.high;
      outside = outside_at f.low f.high t (n - 2) j (omega arith)
          (outside_at f.low f.high t (n - 2) (top_of st) (omega arith) f.outside);
    })

pub grows_pass : (t : Bool) (e j : ℕ) (w : Passing) → Grows w (pass t e j w)
unfolding joining losing turning
grows_pass t e j w =
    let top = top_of w.stack in
    let joins = length-append w.stack (j ∷ []) in
    let one = length-append w.lost (j ∷ []) in
    let first = length-append w.lost (top ∷ []) in
    let both = length-append (w.lost ++ (top ∷ [])) (j ∷ []) in
    let less = length-take-le (length w.stack - 1) w.stack (omega arith) in
    by_pass (Grows w) t e j w
    (record { count = omega arith; lost = omega arith })
    (record { count = omega arith; lost = omega arith })
    (λ two. record { count = omega arith; lost = omega arith })

pub lost_grows : (t : Bool) (e j n : ℕ) (w : Passing) → length w.lost ≤ length (each (pass t e) j n w).lost
lost_grows t e j n w = each_ind (pass t e) (λ (v : Passing). length w.lost ≤ length v.lost) j n
    (λ i v a b h. omega (arith, (grows_pass t e i v).lost)) w (omega arith)

-- ---- at the ends of the stack st

module _ {first e : ℕ} {ns st : List ℕ} (t : Bool) (w : Ending) (f : FineEnds first e ns st w) where
  fine_off : (lo i q : ℕ) → lo + (w.n - 1) ≤ length st → i < length st → FineEnds first e ns st (off t lo (get_or st i 0) q w)
  fine_off lo i q h k = record { within = h; low = f.low; high = f.high; outside = outside_at f.low f.high t i q k f.outside }

  pub fine_front : 1 ≤ w.n → FineEnds first e ns st (off_front t st w)
  unfolding off_front
  fine_front h = fine_off (w.lo + 1) (w.lo + (w.n - 1)) (first_of st w) (omega arith) (omega arith)

  pub fine_back : 2 ≤ w.n → FineEnds first e ns st (off_back t st w)
  unfolding off_back
  fine_back h = fine_off w.lo (w.lo + (w.n - 2)) (last_of st w) (omega arith) (omega arith)

pub fine_turn : (t : Bool) {first e : ℕ} {ns st : List ℕ} (w : Ending) → FineEnds first e ns st w → FineEnds first e ns st (end_turn t st w)
fine_turn t {first} {e} {ns} {st} w f = turn_ind (FineEnds first e ns st) t st (λ v h g. fine_front t v g h) (λ v h g. fine_back t v g h) w f
