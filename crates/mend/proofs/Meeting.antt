-- Where the next point is met, test by test. Assumes nothing.
use mathlib.Core.Path.{◌≡◌, refl, sym, ap, ◌∙◌}
use mathlib.Core.Bool.{Bool, true, false, ◌&&◌}
use mathlib.Core.List.{List}
use Prim.Native.Nat.{ℕ, ◌+◌, ◌-◌, ◌≤◌, ◌<◌}
use native.Mathlib.Omega.{arith}
use lib.Dec.{ltb}
use borrow.Author.Tests.{lt-ltb, le-ltb}
use lib.ListN.{length, get_or, take}
use lib.Seq.{get_or-take, length-take-le}
use Rattle.laws.proofs.Lists.{all_at}
use Rattle.laws.specs.MendNumbers.{same_place}
use Rattle.laws.proofs.MendPass.{pass_few, pass_lost, pass_turned, pass_joined}
use Rattle.mend.specs.declared.pass.Meets.TheVariants.{Top, Second, Neither}
use Rattle.mend.specs.Losing.{BothIn}
use Rattle.mend.specs.Walking.{MeetsReady, state_of, Met}

module _ (ns ws : List ℕ) (top e j : ℕ) (r : MeetsReady ns ws top e j) where
  long : length (take top ws) ≡ top
  long = length-take-le top ws r.room

  on_stack : (i : ℕ) → i < top → get_or (take top ws) i 0 ≡ get_or ws i 0
  on_stack i h = get_or-take top ws i 0 h

  -- a number of the stack, and j, are of vertices that are there
  pub both_in : (p i : ℕ) → i < top → p ≡ get_or ws i 0 → BothIn ns p j
  both_in p i h q =
      let below = all_at r.high i 0 (omega (arith, long)) in
      let same = on_stack i h in
      record { one = omega (arith, below, same, r.inside); other = omega (arith, r.next, r.inside) }

  -- the tests, as the pass has them
  few : top + (e - j) < 3 → ltb (length (take top ws) + (e - j)) 3 ≡ true
  few h = ap (λ (k : ℕ). ltb (k + (e - j)) 3) long ∙ lt-ltb (top + (e - j)) 3 h

  not_few : 3 ≤ top + (e - j) → ltb (length (take top ws) + (e - j)) 3 ≡ false
  not_few h = ap (λ (k : ℕ). ltb (k + (e - j)) 3) long ∙ le-ltb (top + (e - j)) 3 h

  at_top : (p : ℕ) (t : Bool) → p ≡ get_or ws (top - 1) 0 → same_place ns p j ≡ t → same_place ns (get_or (take top ws) (length (take top ws) - 1) 0) j ≡ t
  at_top p t q a = ap (λ (k : ℕ). same_place ns k j)
      (ap (λ (n : ℕ). get_or (take top ws) (n - 1) 0) long ∙ on_stack (top - 1) (omega (arith, r.some)) ∙ sym q) ∙ a

  at_second : (p : ℕ) (t : Bool) → 2 ≤ top → p ≡ get_or ws (top - 2) 0 → same_place ns p j ≡ t
      → (ltb 1 (length (take top ws)) && same_place ns (get_or (take top ws) (length (take top ws) - 2) 0) j) ≡ t
  at_second p t h q a =
      let same = ap (λ (k : ℕ). same_place ns k j) (ap (λ (n : ℕ). get_or (take top ws) (n - 2) 0) long ∙ on_stack (top - 2) (omega arith) ∙ sym q) ∙ a in
      rw (lt-ltb 1 (length (take top ws)) (omega (arith, long))) same

  low : top < 2 → (ltb 1 (length (take top ws)) && same_place ns (get_or (take top ws) (length (take top ws) - 2) 0) j) ≡ false
  low h = rw (le-ltb 1 (length (take top ws)) (omega (arith, long))) refl

  -- and what is answered
  pub met_few : top + (e - j) < 3 → Met Neither ns ws top e j
  unfolding Met
  met_few h t lost = pass_few t e j (state_of ns ws top lost) (few h)

  module _ (h : 3 ≤ top + (e - j)) (p : ℕ) (q : p ≡ get_or ws (top - 1) 0) where
    pub met_top : same_place ns p j ≡ true → Met Top ns ws top e j
    unfolding Met
    met_top a t lost = pass_lost t e j (state_of ns ws top lost) (not_few h) (at_top p true q a)

    pub met_low : same_place ns p j ≡ false → top < 2 → Met Neither ns ws top e j
    unfolding Met
    met_low a k t lost = pass_joined t e j (state_of ns ws top lost) (not_few h) (at_top p false q a) (low k)

    pub met_second : (x : ℕ) → same_place ns p j ≡ false → 2 ≤ top → x ≡ get_or ws (top - 2) 0 → same_place ns x j ≡ true → Met Second ns ws top e j
    unfolding Met
    met_second x a k f b = (k, λ t lost. pass_turned t e j (state_of ns ws top lost) (not_few h) (at_top p false q a) (at_second x true k f b))

    pub met_neither : (x : ℕ) → same_place ns p j ≡ false → 2 ≤ top → x ≡ get_or ws (top - 2) 0 → same_place ns x j ≡ false → Met Neither ns ws top e j
    unfolding Met
    met_neither x a k f b t lost = pass_joined t e j (state_of ns ws top lost) (not_few h) (at_top p false q a) (at_second x false k f b)
