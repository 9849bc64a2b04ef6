-- One contour is walked: the points are passed, and then the ends are seen to. Assumes nothing.
-- Key: `pass_ready`, `take_ready`: what the two steps ask for; `walk_left`: what both leave.
use mathlib.Core.Path.{◌≡◌, refl, sym, ap, ap₂, ◌∙◌, subst}
use mathlib.Core.Bool.{Bool, true, false, cond}
use mathlib.Core.List.{List, [], ◌++◌, append-nil}
use Prim.Native.Nat.{ℕ, zero, suc, ◌+◌, ◌-◌, ◌≤◌, ◌<◌}
use native.Mathlib.Omega.{arith}
use lib.ListN.{length, take, drop, length-append}
use Rattle.mem.specs.Loops.{times}
use Rattle.mem.specs.Slice.{view, splice_append, length_view, take_drop_take}
use Rattle.laws.specs.Lists.{All}
use Rattle.laws.specs.MendPass.{Passing}
use Rattle.laws.specs.MendNumbers.{Numbered}
use Rattle.laws.specs.MendEnds.{Ending, part_of, end_turn, ends_by}
use Rattle.laws.specs.MendEnded.{end_start, ended_all}
use Rattle.laws.specs.MendWalk.{passed_all}
use Rattle.laws.specs.MendDry.{behind}
use Rattle.laws.proofs.MendDry.{turns_behind}
use Rattle.laws.specs.MendWalked.{walked_by}
use Rattle.laws.proofs.MendWalked.{walked_some, passed_fine, ended_fine}
use Rattle.mend.specs.declared.pass.Walk.{Walk}
use Rattle.mend.specs.declared.ends.Span.{Span}
use Rattle.mend.specs.Walking.{listed, Stands, AllReady, AllPassed}
use Rattle.mend.specs.Ending.{StandsAt, end_of, TakeReady, Taken}
use Rattle.mend.specs.Walks.{WalkReady, WalkLeft}
use Rattle.mend.proofs.Passing.{room_less}
use Rattle.mend.proofs.Going.{length_listed, listed_none, begun_of}

-- a list that goes on
listed_then : (t : Bool) (ls : List ℕ) (from : ℕ) (xs ys : List ℕ) → listed t (listed t ls from xs) (from + length xs) ys ≡ listed t ls from (xs ++ ys)
unfolding listed
listed_then true ls from xs ys = splice_append ls from xs ys
listed_then false ls from xs ys = refl

pub not_none : (n : ℕ) → (n ≡ 0 → ⊥) → 1 ≤ n
not_none zero h = absurd (h refl)
not_none (suc n) h = omega arith

-- nothing to walk
pub walk_none : (t : Bool) (ns ls ws : List ℕ) (first n lost : ℕ) → n ≡ 0 → WalkLeft t first n lost (record { lo = 0; n = 0; lost = lost }) ns ls ws ns ls ws
unfolding walked_by
walk_none t ns ls ws first zero lost e = record {
  left = refl;
  count = refl;
  within = omega arith;
  lost = omega arith;
  numbers = refl;
  list = sym (listed_none t ls lost);
  rest = refl;
  size = refl;
}
walk_none t ns ls ws first (suc n) lost e = absurd (omega arith)

-- what the ends lose, behind what was lost before
module _ (t : Bool) (w : Passing) where
  at_ends : Ending
  at_ends = times (end_turn t w.stack) (length w.stack) (record { lo = 0; n = length w.stack; lost = []; numbers = w.numbers })

  ended_behind : ended_all t w ≡ behind w.lost at_ends
  unfolding ended_all ends_by end_start behind at_ends
  ended_behind =
      ap (λ (l : List ℕ). times (end_turn t w.stack) (length w.stack) (record { lo = 0; n = length w.stack; lost = l; numbers = w.numbers }))
      (sym (append-nil w.lost))
      ∙ turns_behind t w.stack w.lost (length w.stack) (record { lo = 0; n = length w.stack; lost = []; numbers = w.numbers })

module _ {t : Bool} {ns ls ws : List ℕ} {first n lost : ℕ} (r : WalkReady t ns ls ws first n lost) (some : 1 ≤ n) where
  passed : Passing
  passed = passed_all t ns first n

  whole_lost : length (walked_by t ns first n).lost ≡ length passed.lost + length (at_ends t passed).lost
  unfolding part_of behind passed
  whole_lost = ap (λ (w : Numbered). length w.lost) (walked_some t ns first n some)
      ∙ ap (λ (w : Ending). length w.lost) (ended_behind t passed) ∙ length-append passed.lost (at_ends t passed).lost

  e_first : first + n - first ≡ n
  e_first = omega arith

  pub pass_ready : AllReady t ns ls ws first (first + n) lost
  unfolding passed
  pass_ready = record {
    some = omega arith;
    fits = omega (arith, r.fits);
    small = r.small;
    few = r.few;
    inside = r.inside;
    room = rw e_first (room_less t _ _ (length ls) (omega (arith, whole_lost)) r.room);
  }

  module _ {at : Walk} {ns' ls' ws' : List ℕ} (p : AllPassed t first (first + n) lost at ns ls ws ns' ls' ws') where
    stands : Stands (begun_of t ls ws first (first + n) lost) passed ns' ls' ws' at
    unfolding passed
    stands = subst (λ (k : ℕ). Stands (begun_of t ls ws first (first + n) lost) (passed_all t ns first k) ns' ls' ws' at) e_first p.stands

    count : at.top + length passed.lost ≡ n
    unfolding passed
    count = subst (λ (k : ℕ). at.top + length (passed_all t ns first k).lost ≡ k) e_first p.count

    pub tall : at.top ≤ length ws'
    tall = omega (arith, count, stands.size, r.fits)

    -- what the ends begin with
    abbrev whole : Span
    whole = record { lo = 0; n = at.top; lost = at.lost }

    begins : times (end_turn t (take at.top ws')) at.top (end_of ns' whole []) ≡ at_ends t passed
    unfolding at_ends
    begins = rw (stands.stack, stands.numbers, stands.tall) refl

    pub take_ready : TakeReady t ns' ls' (take at.top ws') whole
    unfolding passed
    take_ready = record {
      ready = record {
        held = record {
          e = first + n;
          high = subst (All (λ k. k < first + n)) (sym stands.stack) (passed_fine t ns first n some).high;
          inside = omega (arith, ap length stands.numbers, (passed_fine t ns first n some).outside.size, r.inside);
          small = r.small;
        };
        within = omega (arith, lib.Seq.length-take-le at.top ws' tall);
      };
      few = omega (arith, stands.lost, count, r.few, r.small);
      room = subst (λ (k : ℕ). cond t (at.lost + length (times (end_turn t (take at.top ws')) at.top (end_of ns' whole [])).lost) 0 ≤ k)
          (sym (ap length stands.list ∙ length_listed t ls lost passed.lost))
          (room_less t _ _ (length ls) (omega (arith, stands.lost, whole_lost, ap (λ (w : Ending). length w.lost) begins)) r.room);
    }

    pub walk_left : {s : Span} {ns'' ls'' : List ℕ} → Taken t whole s (take at.top ws') ns' ls' ns'' ls'' → WalkLeft t first n lost s ns ls ws ns'' ls'' ws'
    unfolding part_of passed behind
    walk_left {s} {ns''} {ls''} k =
        let z = subst (λ (w : Ending). StandsAt t ls' at.lost w ns'' ls'' s) begins k.stands in
        let v = at_ends t passed in
        let is : walked_by t ns first n ≡ part_of passed.stack (behind passed.lost v) =
        walked_some t ns first n some ∙ ap (part_of passed.stack) (ended_behind t passed) in
        let f : v.lo + v.n ≤ length passed.stack = subst (λ (w : Ending). w.lo + w.n ≤ length passed.stack) (ended_behind t passed)
        (ended_fine t first (first + n) ns passed (passed_fine t ns first n some)).within in
        let here : view ws' s.lo s.n ≡ view passed.stack v.lo v.n =
        ap₂ (view ws') z.lo z.n ∙ sym (take_drop_take ws' at.top v.lo v.n (omega (arith, f, stands.tall)))
        ∙ ap (λ (l : List ℕ). view l v.lo v.n) stands.stack in
        record {
          left = here ∙ ap (λ (w : Numbered). w.left) (sym is);
          count = z.n ∙ sym (ap (λ (w : Numbered). length w.left) is ∙ length_view passed.stack v.lo v.n f);
          within = omega (arith, z.lo, z.n, f, stands.tall, tall);
          lost = omega (arith, z.lost, stands.lost, whole_lost);
          numbers = z.numbers ∙ ap (λ (w : Numbered). w.numbers) (sym is);
          list = z.list ∙ ap₂ (λ (l : List ℕ) (i : ℕ). listed t l i v.lost) stands.list stands.lost
              ∙ listed_then t ls lost passed.lost v.lost ∙ ap (λ (w : Numbered). listed t ls lost w.lost) (sym is);
          rest = ap (λ (i : ℕ). drop i ws') (sym e_first) ∙ stands.rest ∙ ap (λ (i : ℕ). drop i ws) e_first;
          size = stands.size;
        }
