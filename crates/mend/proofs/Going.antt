-- The loop over a contour's points: the state that stands in memory, from which the points that are left give the whole. Assumes nothing.
-- Key: `going_begin`, `going_ready`, `going_more`, `going_end`: the loop's begin, what a pass asks for, its turn and its end.
use mathlib.Core.Path.{◌≡◌, refl, sym, ap, ◌∙◌, subst}
use mathlib.Core.Bool.{Bool, true, false, cond}
use mathlib.Core.List.{List, [], ◌∷◌}
use Prim.Native.Nat.{ℕ, ◌+◌, ◌-◌, ◌≤◌, ◌<◌}
use native.Mathlib.Omega.{arith}
use lib.ListN.{length, set, length-set}
use lib.Seq.{get_or-set_same, drop-set-lt}
use Rattle.mem.specs.Loops.{each, each_turn, each_end}
use Rattle.mem.specs.Slice.{splice_nil, length_splice, take_snoc}
use Rattle.laws.specs.Lists.{All, none, more}
use Rattle.laws.specs.MendPass.{Passing, pass}
use Rattle.laws.specs.MendWalk.{pass_start, passed_all}
use Rattle.laws.specs.MendWithin.{Fine}
use Rattle.laws.proofs.MendWithin.{outside_none, fine_pass, grows_pass, lost_grows}
use Rattle.mend.specs.declared.pass.Walk.{Walk}
use Rattle.mend.specs.Walking.{listed, Begun, Stands, PassReady, Passed, AllReady, AllPassed}
use Rattle.mend.proofs.Passing.{room_less}

-- what the walk of all points begins with
abbrev pub begun_of : Bool → List ℕ → List ℕ → ℕ → ℕ → ℕ → Begun
begun_of t ls ws first e lost = record { writes = t; list = ls; from = lost; work = ws; most = e - first }

pub length_listed : (t : Bool) (ls : List ℕ) (from : ℕ) (xs : List ℕ) → length (listed t ls from xs) ≡ length ls
unfolding listed
length_listed true ls from xs = length_splice ls from xs
length_listed false ls from xs = refl

pub listed_none : (t : Bool) (ls : List ℕ) (from : ℕ) → listed t ls from [] ≡ ls
unfolding listed
listed_none true ls from = splice_nil ls from
listed_none false ls from = refl

pub record Going (t : Bool) (ns₀ ls₀ ws₀ : List ℕ) (first e lost : ℕ) (ns ls ws : List ℕ) (at : Walk) (j : ℕ) : Type 0 where
  pub state : Passing
  pub stands : Stands (begun_of t ls₀ ws₀ first e lost) state ns ls ws at
  pub same : passed_all t ns₀ first (e - first) ≡ each (pass t e) j e state
  pub fine : Fine first e ns₀ state
  pub count : first + length state.stack + length state.lost ≡ j
  pub low : first < j
  pub high : j ≤ e
  pub long_numbers : length ns ≡ length ns₀
  pub long_list : length ls ≡ length ls₀
  pub long_work : length ws ≡ length ws₀

module _ {t : Bool} {ns₀ ls₀ ws₀ : List ℕ} {first e lost : ℕ} (r : AllReady t ns₀ ls₀ ws₀ first e lost) where
  -- the first point is on the stack
  pub going_begin : Going t ns₀ ls₀ (set ws₀ 0 first) first e lost ns₀ ls₀ (set ws₀ 0 first) (record { top = 1; lost = lost }) (first + 1)
  unfolding passed_all pass_start
  going_begin =
      let some : 0 < length ws₀ = omega (arith, r.some, r.fits) in
      let whole : first + (e - first) ≡ e = omega (arith, r.some) in
      record {
        state = record { stack = first ∷ []; lost = []; numbers = ns₀ };
        stands = record {
          tall = refl;
          stack = take_snoc (set ws₀ 0 first) 0 0 (omega (arith, length-set ws₀ 0 first)) ∙ ap (λ (x : ℕ). x ∷ []) (get_or-set_same ws₀ 0 first 0 some);
          lost = omega arith;
          numbers = refl;
          list = sym (listed_none t ls₀ lost);
          rest = refl;
          size = refl;
        };
        same = ap (λ (k : ℕ). each (pass t k) (first + 1) k (record { stack = first ∷ []; lost = []; numbers = ns₀ })) whole;
        fine = record {
          some = omega arith;
          low = more {a = first} (omega arith) none;
          high = more {a = first}
              r.some none;
          outside = outside_none first e ns₀;
        };
        count = omega arith;
        low = omega arith;
        high = omega (arith, r.some);
        long_numbers = refl;
        long_list = refl;
        long_work = refl;
      }

  module _ {ns ls ws ws₁ : List ℕ} {at : Walk} {j : ℕ} (g : Going t ns₀ ls₀ ws₁ first e lost ns ls ws at j) (same-work : length ws₁ ≡ length ws₀)
      (h : j < e) where
    -- after this point the list still grows to what it is in the end
    room_now : cond t (lost + length (pass t e j g.state).lost) 0 ≤ length ls
    room_now = room_less t _ _ (length ls)
        (omega (
          arith,
          lost_grows t e (j + 1) e (pass t e j g.state),
          ap (λ (w : Passing). length w.lost) (g.same ∙ each_turn (pass t e) j e g.state h),
        ))
        (subst (λ (n : ℕ). cond t (lost + length (passed_all t ns₀ first (e - first)).lost) 0 ≤ n) (sym g.long_list) r.room)

    tall_now : at.top < e - first
    tall_now = omega (arith, g.stands.tall, g.count, g.low)

    pub going_ready : PassReady t ns ls ws e j at
    going_ready = record {
      begun = begun_of t ls₀ ws₁ first e lost;
      state = g.state;
      is = refl;
      stands = g.stands;
      meets = record {
        some = omega (arith, g.stands.tall, g.fine.some);
        room = omega (arith, tall_now, g.long_work, same-work, r.fits);
        high = subst (All (λ k. k < e)) (sym g.stands.stack) g.fine.high;
        next = h;
        inside = omega (arith, g.long_numbers, r.inside);
      };
      small = r.small;
      few = omega (arith, g.stands.lost, g.count, r.few, r.small);
      fits = omega (arith, tall_now, g.long_work, same-work, r.fits);
      room = room_now;
    }

    pub going_more : {ns' ls' ws' : List ℕ} {at' : Walk} → Passed t e j at at' ns ls ws ns' ls' ws' → Going t ns₀ ls₀ ws₁ first e lost ns' ls' ws' at' (j + 1)
    going_more {ns'} {ls'} {ws'} p =
        let w = pass t e j g.state in
        let s = p.stands (begun_of t ls₀ ws₁ first e lost) g.state refl tall_now g.stands in
        let f = fine_pass t first e j ns₀ g.state (omega (arith, g.low)) h g.fine in
        record {
          state = w;
          stands = s;
          same = g.same ∙ each_turn (pass t e) j e g.state h;
          fine = f;
          count = omega (arith, (grows_pass t e j g.state).count, g.count);
          low = omega (arith, g.low);
          high = omega arith;
          long_numbers = ap length s.numbers ∙ f.outside.size;
          long_list = ap length s.list ∙ length_listed t ls₀ lost w.lost;
          long_work = s.size;
        }

  pub going_end : {ns ls ws : List ℕ} {at : Walk} {j : ℕ} → Going t ns₀ ls₀ (set ws₀ 0 first) first e lost ns ls ws at j → e ≤ j
      → AllPassed t first e lost at ns₀ ls₀ ws₀ ns ls ws
  going_end {ns} {ls} {ws} {at} {j} g h =
      let s = g.stands in
      let all : passed_all t ns₀ first (e - first) ≡ g.state = g.same ∙ each_end (pass t e) j e g.state h in
      record {
        count = omega (arith, s.tall, g.count, g.high, ap (λ (w : Passing). length w.lost) all);
        stands = subst (λ (w : Passing). Stands (begun_of t ls₀ ws₀ first e lost) w ns ls ws at) (sym all)
            (record {
              tall = s.tall;
              stack = s.stack;
              lost = s.lost;
              numbers = s.numbers;
              list = s.list;
              rest = s.rest ∙ drop-set-lt (e - first) ws₀ 0 first (omega (arith, r.some));
              size = s.size ∙ length-set ws₀ 0 first;
            });
      }
