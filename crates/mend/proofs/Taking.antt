-- The loop over the turns at the ends: the state that stands in memory, from which the turns that are left give the whole. Assumes nothing.
-- Key: `taking_begin`, `taking_ready`, `taking_still`, `taking_more`, `taking_end`: the loop's begin, what a turn asks for, a turn that does nothing, one that
-- does something, and the loop's end.
use mathlib.Core.Path.{◌≡◌, refl, sym, ap, ap₂, ◌∙◌, subst}
use mathlib.Core.Bool.{Bool, cond}
use mathlib.Core.List.{List, [], ◌++◌, append-nil}
use Prim.Native.Nat.{ℕ, ◌+◌, ◌-◌, ◌≤◌, ◌<◌}
use native.Mathlib.Omega.{arith}
use lib.ListN.{length, length-append}
use Rattle.mem.specs.Loops.{times, times_end, times_turn, times_still}
use Rattle.laws.proofs.Lists.{all_imp}
use Rattle.laws.specs.MendEnds.{Ending, end_turn}
use Rattle.laws.proofs.MendEnds.{turn_still, turns_grow, turn_count}
use Rattle.laws.specs.MendWithin.{FineEnds}
use Rattle.laws.proofs.MendWithin.{outside_none, fine_turn}
use Rattle.laws.specs.MendDry.{behind}
use Rattle.laws.proofs.MendDry.{turns_behind}
use Rattle.mend.specs.declared.ends.Span.{Span}
use Rattle.mend.specs.Ending.{StandsAt, Held, end_of, TurnReady, Turned, TakeReady, Taken}
use Rattle.mend.proofs.Passing.{room_less}
use Rattle.mend.proofs.Going.{length_listed}
use Rattle.mend.proofs.EndTurns.{here_stands}

pub record Taking (t : Bool) (ns₀ ls₀ st : List ℕ) (from : Span) (ns ls : List ℕ) (at : Span) (turn : ℕ) : Type 0 where
  pub state : Ending
  pub held : Held ns₀ st
  pub stands : StandsAt t ls₀ from.lost state ns ls at
  pub same : times (end_turn t st) from.n (end_of ns₀ from []) ≡ times (end_turn t st) (from.n - turn) state
  pub fine : FineEnds 0 held.e ns₀ st state
  pub count : state.n + length state.lost ≡ from.n
  pub long_numbers : length ns ≡ length ns₀
  pub long_list : length ls ≡ length ls₀

-- of a state, what a turn adds to the list
turn_adds : {t : Bool} {ls₀ ns ls : List ℕ} {k : ℕ} {w : Ending} {at : Span} (st : List ℕ) → StandsAt t ls₀ k w ns ls at
    → length (end_turn t st w).lost ≡ length w.lost + length (end_turn t st (end_of ns at [])).lost
unfolding times behind
turn_adds {t} {ns = ns} {w = w} {at} st s =
    let same : behind w.lost (end_of ns at []) ≡ w = ap₂ (λ (lo n : ℕ). record { lo = lo; n = n; lost = w.lost ++ []; numbers = ns }) s.lo s.n
    ∙ ap₂ (λ (l ms : List ℕ). record { lo = w.lo; n = w.n; lost = l; numbers = ms }) (append-nil w.lost) s.numbers in
    ap (λ (v : Ending). length v.lost) (ap (end_turn t st) (sym same) ∙ turns_behind t st w.lost 1 (end_of ns at []))
    ∙ length-append w.lost (end_turn t st (end_of ns at [])).lost

module _ {t : Bool} {ns₀ ls₀ st : List ℕ} {from : Span} (r : TakeReady t ns₀ ls₀ st from) where
  pub taking_begin : Taking t ns₀ ls₀ st from ns₀ ls₀ from 0
  taking_begin = record {
    state = end_of ns₀ from [];
    held = r.ready.held;
    stands = here_stands t ns₀ ls₀ from;
    same = ap (λ (i : ℕ). times (end_turn t st) i (end_of ns₀ from [])) (omega arith);
    fine = record {
      within = r.ready.within;
      low = all_imp (λ k (a : k < r.ready.held.e). omega arith) r.ready.held.high;
      high = r.ready.held.high;
      outside = outside_none 0 r.ready.held.e ns₀;
    };
    count = omega arith;
    long_numbers = refl;
    long_list = refl;
  }

  module _ {ns ls : List ℕ} {at : Span} {turn : ℕ} (g : Taking t ns₀ ls₀ st from ns ls at turn) where
    pub taking_ready : turn < from.n → TurnReady t ns ls st at
    taking_ready h = record {
      ready = record {
        held = record { e = g.held.e; high = g.held.high; inside = omega (arith, g.held.inside, g.long_numbers); small = g.held.small };
        within = omega (arith, g.stands.lo, g.stands.n, g.fine.within);
      };
      few = omega (arith, g.stands.lost, g.count, r.few);
      room = subst (λ (n : ℕ). cond t (at.lost + length (end_turn t st (end_of ns at [])).lost) 0 ≤ n) (sym g.long_list)
          (room_less t _ _ (length ls₀)
          (omega (
            arith,
            g.stands.lost,
            turn_adds st g.stands,
            turns_grow t st (from.n - turn - 1) (end_turn t st g.state),
            ap (λ (w : Ending). length w.lost) (g.same ∙ times_turn (end_turn t st) (from.n - turn) g.state (omega arith)),
          ))
          r.room);
    }

    -- what stands there after a turn
    pub taking_more : {ns' ls' : List ℕ} {at' : Span} → turn < from.n → Turned t at at' st ns ls ns' ls' → Taking t ns₀ ls₀ st from ns' ls' at' (turn + 1)
    taking_more h p =
        let w = end_turn t st g.state in
        let s = p.stands ls₀ from.lost g.state g.stands in
        let f = fine_turn t g.state g.fine in
        record {
          state = w;
          held = g.held;
          stands = s;
          same = g.same ∙ times_turn (end_turn t st) (from.n - turn) g.state (omega arith)
              ∙ ap (λ (i : ℕ). times (end_turn t st) i w) (omega arith);
          fine = f;
          count = turn_count t st g.state ∙ g.count;
          long_numbers = ap length s.numbers ∙ f.outside.size;
          long_list = ap length s.list ∙ length_listed t ls₀ from.lost w.lost;
        }

    -- a turn that leaves as many is none
    pub taking_still : {ns' ls' : List ℕ} {at' : Span} → Turned t at at' st ns ls ns' ls' → at'.n ≡ at.n → Taken t from at' st ns₀ ls₀ ns' ls'
    taking_still {ns'} {ls'} {at'} p e =
        let w = g.state in
        let s = p.stands ls₀ from.lost w g.stands in
        let still = turn_still t st w (omega (arith, s.n, e, g.stands.n)) in
        record {
          stands = subst (λ (v : Ending). StandsAt t ls₀ from.lost v ns' ls' at')
              (sym (g.same ∙ times_still (end_turn t st) (from.n - turn) w still)) (subst (λ (v : Ending). StandsAt t ls₀ from.lost v ns' ls' at') still s);
        }

    pub taking_end : from.n ≤ turn → Taken t from at st ns₀ ls₀ ns ls
    taking_end h = let z : from.n - turn ≡ 0 = omega arith in record {
      stands = subst (λ (v : Ending). StandsAt t ls₀ from.lost v ns ls at)
          (sym (g.same ∙ ap (λ (i : ℕ). times (end_turn t st) i g.state) z ∙ times_end (end_turn t st) g.state)) g.stands;
    }
