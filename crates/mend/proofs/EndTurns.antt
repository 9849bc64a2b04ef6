-- A turn at the ends: what each loss needs, and what it comes to. Assumes nothing.
use mathlib.Core.Path.{◌≡◌, refl, sym, ap, ap₂, ◌∙◌, subst}
use mathlib.Core.Bool.{Bool, cond}
use mathlib.Core.List.{List, [], ◌∷◌}
use Prim.Native.Nat.{ℕ, ◌+◌, ◌-◌, ◌≤◌, ◌<◌}
use native.Mathlib.Omega.{arith}
use lib.ListN.{length, get_or}
use Rattle.laws.proofs.MendNumbers.{length_carried_if}
use Rattle.laws.specs.MendEnds.{Ending, off, off_front, off_back, end_turn}
use Rattle.mend.specs.declared.ends.Span.{Span}
use Rattle.mend.specs.declared.ends.Ends.{Ends}
use Rattle.mend.specs.declared.ends.Ends.TheVariants.{Near, Last, LastTwo, Apart}
use Rattle.mend.specs.Ending.{StandsAt, OffReady, Off, end_of, EndsMet, TurnReady, Turned}
use Rattle.mend.proofs.Passing.{room_less}
use Rattle.mend.proofs.Going.{length_listed, listed_none}

-- the case that was found
pub ends_as : {r v : Ends} (ns st : List ℕ) (at : Span) → r ≡ v → EndsMet r ns st at → EndsMet v ns st at
ends_as ns st at q m = subst (λ (r : Ends). EndsMet r ns st at) q m

-- where ends meet there are three points or more
module _ (ns st : List ℕ) (at : Span) where
  pub near_three : EndsMet Near ns st at → 3 ≤ at.n
  unfolding EndsMet
  near_three m = m.0

  pub last_three : EndsMet Last ns st at → 3 ≤ at.n
  unfolding EndsMet
  last_three m = m.0

  pub two_three : EndsMet LastTwo ns st at → 3 ≤ at.n
  unfolding EndsMet
  two_three m = m.0

-- ---- which case it is, of any state that stands there

module _ {t : Bool} {ls₀ : List ℕ} {k : ℕ} {w : Ending} {ns ls : List ℕ} {at : Span} (s : StandsAt t ls₀ k w ns ls at) (st : List ℕ) where
  end_is : end_of ns at w.lost ≡ w
  end_is = ap₂ (λ (lo n : ℕ). record { lo = lo; n = n; lost = w.lost; numbers = ns }) s.lo s.n
      ∙ ap (λ (ms : List ℕ). record { lo = w.lo; n = w.n; lost = w.lost; numbers = ms }) s.numbers

  is_near_lem : EndsMet Near ns st at → end_turn t st w ≡ off_front t st (off_back t st w)
  unfolding EndsMet
  is_near_lem m = ap (end_turn t st) (sym end_is) ∙ m.1 t w.lost ∙ ap (λ (v : Ending). off_front t st (off_back t st v)) end_is

  is_last : EndsMet Last ns st at → end_turn t st w ≡ off_front t st w
  unfolding EndsMet
  is_last m = ap (end_turn t st) (sym end_is) ∙ m.1 t w.lost ∙ ap (off_front t st) end_is

  is_two : EndsMet LastTwo ns st at → end_turn t st w ≡ off_front t st (off_front t st w)
  unfolding EndsMet
  is_two m = ap (end_turn t st) (sym end_is) ∙ m.1 t w.lost ∙ ap (λ (v : Ending). off_front t st (off_front t st v)) end_is

  is_apart_lem : EndsMet Apart ns st at → end_turn t st w ≡ w
  unfolding EndsMet
  is_apart_lem m = ap (end_turn t st) (sym end_is) ∙ m t w.lost ∙ end_is

-- ---- what each loss needs

-- what stands there, with nothing lost yet
pub here_stands : (t : Bool) (ns ls : List ℕ) (at : Span) → StandsAt t ls at.lost (end_of ns at []) ns ls at
here_stands t ns ls at = record { lo = refl; n = refl; lost = omega arith; numbers = refl; list = sym (listed_none t ls at.lost) }

-- the first loss, where the turn makes the list longer by d
off_one : {t : Bool} {ns ls st : List ℕ} {at : Span} (r : TurnReady t ns ls st at) (kept gone d : ℕ) → 3 ≤ at.n → kept < at.lo + at.n → gone < at.lo + at.n
    → 1 ≤ d → length (end_turn t st (end_of ns at [])).lost ≡ d → OffReady t ns ls st kept gone at
off_one {t} {ls = ls} {at = at} r kept gone d three a b h e = record {
  held = r.ready.held;
  kept_in = omega (arith, a, r.ready.within);
  gone_in = omega (arith, b, r.ready.within);
  some = omega arith;
  few = omega (arith, r.few);
  room = room_less t (at.lost + 1) _ (length ls) (omega arith) r.room;
}

-- and a second one, behind the first: the turn makes the list longer by two
off_more : {t : Bool} {ns ls st ns' ls' : List ℕ} {at at' : Span} (r : TurnReady t ns ls st at) (p q lo kept gone : ℕ) → 3 ≤ at.n
    → kept < at.lo + at.n → gone < at.lo + at.n → StandsAt t ls at.lost (off t lo p q (end_of ns at [])) ns' ls' at'
    → length (end_turn t st (end_of ns at [])).lost ≡ 2 → OffReady t ns' ls' st kept gone at'
off_more {t} {ns} {ls} {ns' = ns'} {ls'} {at} {at'} r p q lo kept gone three a b s two =
    let long : length ls' ≡ length ls = ap length s.list ∙ length_listed t ls at.lost (q ∷ []) in
    let size : length ns' ≡ length ns = ap length s.numbers ∙ length_carried_if t ns p q in
    record {
      held = record { e = r.ready.held.e; high = r.ready.held.high; inside = omega (arith, r.ready.held.inside, size); small = r.ready.held.small };
      kept_in = omega (arith, a, r.ready.within);
      gone_in = omega (arith, b, r.ready.within);
      some = omega (arith, s.n);
      few = omega (arith, s.lost, r.few);
      room = subst (λ (n : ℕ). cond t (at'.lost + 1) 0 ≤ n) (sym long) (room_less t (at'.lost + 1) _ (length ls) (omega (arith, s.lost, two)) r.room);
    }

-- what the losses make of the list in which nothing is lost yet
module _ (t : Bool) (ns st : List ℕ) (at : Span) where
  one_off : length (off_front t st (end_of ns at [])).lost ≡ 1
  unfolding off_front
  one_off = refl

  both_off : length (off_front t st (off_back t st (end_of ns at []))).lost ≡ 2
  unfolding off_front off_back
  both_off = refl

  two_off : length (off_front t st (off_front t st (end_of ns at []))).lost ≡ 2
  unfolding off_front
  two_off = refl

-- the last place of what is left
abbrev pub last_at : Span → ℕ
last_at at = at.lo + (at.n - 1)

module _ {t : Bool} {ns ls st : List ℕ} {at : Span} (r : TurnReady t ns ls st at) where
  near_count : EndsMet Near ns st at → length (end_turn t st (end_of ns at [])).lost ≡ 2
  near_count m = ap (λ (v : Ending). length v.lost) (is_near_lem (here_stands t ns ls at) st m) ∙ both_off t ns st at

  two_count : EndsMet LastTwo ns st at → length (end_turn t st (end_of ns at [])).lost ≡ 2
  two_count m = ap (λ (v : Ending). length v.lost) (is_two (here_stands t ns ls at) st m) ∙ two_off t ns st at

  pub near_back : EndsMet Near ns st at → OffReady t ns ls st (last_at at - 1) (last_at at) at
  unfolding EndsMet
  near_back m = off_one r (last_at at - 1) (last_at at) 2 m.0 (omega (arith, m.0)) (omega (arith, m.0)) (omega arith) (near_count m)

  pub near_front : {at' : Span} {ns' ls' : List ℕ} → EndsMet Near ns st at → Off t (last_at at - 1) (last_at at) at.lo at at' st ns ls ns' ls'
      → OffReady t ns' ls' st (last_at at - 1) at.lo at'
  unfolding EndsMet
  near_front m o = off_more r (get_or st (last_at at - 1) 0) (get_or st (last_at at) 0) at.lo (last_at at - 1) at.lo m.0 (omega (arith, m.0)) (omega
      (arith, m.0))
      (o.stands ls at.lost (end_of ns at []) (here_stands t ns ls at)) (near_count m)

  pub last_front : EndsMet Last ns st at → OffReady t ns ls st (last_at at) at.lo at
  unfolding EndsMet
  last_front m = off_one r (last_at at) at.lo 1 m.0 (omega (arith, m.0)) (omega (arith, m.0)) (omega arith)
      (ap (λ (v : Ending). length v.lost) (is_last (here_stands t ns ls at) st m) ∙ one_off t ns st at)

  pub two_front : EndsMet LastTwo ns st at → OffReady t ns ls st (last_at at) at.lo at
  unfolding EndsMet
  two_front m = off_one r (last_at at) at.lo 2 m.0 (omega (arith, m.0)) (omega (arith, m.0)) (omega arith) (two_count m)

  pub two_again : {at' : Span} {ns' ls' : List ℕ} → EndsMet LastTwo ns st at → Off t (last_at at) at.lo (at.lo + 1) at at' st ns ls ns' ls'
      → OffReady t ns' ls' st (last_at at) (at.lo + 1) at'
  unfolding EndsMet
  two_again m o = off_more r (get_or st (last_at at) 0) (get_or st at.lo 0) (at.lo + 1) (last_at at) (at.lo + 1) m.0 (omega (arith, m.0)) (omega
      (arith, m.0))
      (o.stands ls at.lost (end_of ns at []) (here_stands t ns ls at)) (two_count m)

-- ---- what a turn comes to

-- a loss at these places is one at the front, or one at the back
module _ (t : Bool) (st : List ℕ) (w : Ending) {lo i j : ℕ} where
  off_same : {lo' i' j' : ℕ} → lo ≡ lo' → i ≡ i' → j ≡ j' → off t lo (get_or st i 0) (get_or st j 0) w ≡ off t lo' (get_or st i' 0) (get_or st j' 0) w
  off_same {lo'} e f g = ap (λ (k : ℕ). off t k (get_or st i 0) (get_or st j 0) w) e ∙ ap₂ (λ (a b : ℕ). off t lo' (get_or st a 0) (get_or st b 0) w) f g

  off_front_lem : lo ≡ w.lo + 1 → i ≡ w.lo + (w.n - 1) → j ≡ w.lo → off t lo (get_or st i 0) (get_or st j 0) w ≡ off_front t st w
  unfolding off_front
  off_front_lem e f g = off_same e f g

  off_back_lem : lo ≡ w.lo → i ≡ w.lo + (w.n - 2) → j ≡ w.lo + (w.n - 1) → off t lo (get_or st i 0) (get_or st j 0) w ≡ off_back t st w
  unfolding off_back
  off_back_lem e f g = off_same e f g

-- what is left, if it is what the turn comes to
turned_as : {t : Bool} {r : Span} {ns' ls' ls₀ : List ℕ} {k : ℕ} {u : Ending} (st : List ℕ) (w v : Ending) → end_turn t st w ≡ v → u ≡ v
    → StandsAt t ls₀ k u ns' ls' r → StandsAt t ls₀ k (end_turn t st w) ns' ls' r
turned_as {t} {r} {ns'} {ls'} {ls₀} {k} st w v e f s = subst (λ (x : Ending). StandsAt t ls₀ k x ns' ls' r) (f ∙ sym e) s

module _ {t : Bool} {at : Span} (st : List ℕ) {ns ls : List ℕ} where
  pub turned_near : {at' at'' : Span} {ns' ls' ns'' ls'' : List ℕ} → EndsMet Near ns st at → Off t (last_at at - 1) (last_at at) at.lo at at' st ns ls ns' ls'
      → Off t (last_at at - 1) at.lo (at.lo + 1) at' at'' st ns' ls' ns'' ls'' → Turned t at at'' st ns ls ns'' ls''
  unfolding EndsMet
  turned_near m o p = record {
    stands = λ ls₀ k w s.
        let u : Ending = off t at.lo (get_or st (last_at at - 1) 0) (get_or st (last_at at) 0) w in
        let back : u ≡ off_back t st w = off_back_lem t st w s.lo (omega (arith, s.lo, s.n, m.0)) (omega (arith, s.lo, s.n)) in
        let front = off_front_lem t st u {lo = at.lo + 1} {i = last_at at - 1} {j = at.lo} (omega arith) (omega (arith, s.n, m.0)) (omega arith) in
        turned_as st w (off_front t st (off_back t st w)) (is_near_lem s st m) (front ∙ ap (off_front t st) back) (p.stands ls₀ k u (o.stands ls₀ k w s));
  }

  pub turned_last : {at' : Span} {ns' ls' : List ℕ} → EndsMet Last ns st at → Off t (last_at at) at.lo (at.lo + 1) at at' st ns ls ns' ls'
      → Turned t at at' st ns ls ns' ls'
  turned_last m o = record {
    stands = λ ls₀ k w s. turned_as st w (off_front t st w) (is_last s st m)
        (off_front_lem t st w (omega (arith, s.lo)) (omega (arith, s.lo, s.n)) s.lo) (o.stands ls₀ k w s);
  }

  pub turned_two : {at' at'' : Span} {ns' ls' ns'' ls'' : List ℕ} → EndsMet LastTwo ns st at → Off t (last_at at) at.lo (at.lo + 1) at at' st ns ls ns' ls'
      → Off t (last_at at) (at.lo + 1) (at.lo + 2) at' at'' st ns' ls' ns'' ls'' → Turned t at at'' st ns ls ns'' ls''
  unfolding EndsMet
  turned_two m o p = record {
    stands = λ ls₀ k w s.
        let u : Ending = off t (at.lo + 1) (get_or st (last_at at) 0) (get_or st at.lo 0) w in
        let one : u ≡ off_front t st w = off_front_lem t st w (omega (arith, s.lo)) (omega (arith, s.lo, s.n)) s.lo in
        let more = off_front_lem t st u {lo = at.lo + 2} {i = last_at at} {j = at.lo + 1} (omega arith) (omega (arith, s.n, m.0)) (omega arith) in
        turned_as st w (off_front t st (off_front t st w)) (is_two s st m) (more ∙ ap (off_front t st) one) (p.stands ls₀ k u (o.stands ls₀ k w s));
  }

  pub turned_none : EndsMet Apart ns st at → Turned t at at st ns ls ns ls
  turned_none m = record { stands = λ ls₀ k w s. subst (λ (v : Ending). StandsAt t ls₀ k v ns ls at) (sym (is_apart_lem s st m)) s }
