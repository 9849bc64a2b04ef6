-- Which ends meet, test by test. Assumes nothing.
use mathlib.Core.Path.{◌≡◌, sym, ap₂, ◌∙◌}
use mathlib.Core.Bool.{Bool, true, false}
use mathlib.Core.List.{List}
use Prim.Native.Nat.{ℕ, ◌+◌, ◌-◌, ◌≤◌, ◌<◌}
use native.Mathlib.Omega.{arith}
use borrow.Author.Tests.{lt-ltb, le-ltb}
use lib.ListN.{length, get_or}
use Rattle.rules.specs.MendCall.{vertices_most}
use Rattle.laws.proofs.Lists.{all_at}
use Rattle.laws.specs.MendNumbers.{same_place}
use Rattle.laws.proofs.MendEnds.{turn_few, turn_near, turn_last, turn_last_two, turn_none}
use Rattle.mend.specs.declared.ends.Span.{Span}
use Rattle.mend.specs.declared.ends.Ends.TheVariants.{Near, Last, LastTwo, Apart}
use Rattle.mend.specs.Losing.{BothIn}
use Rattle.mend.specs.Ending.{Held, end_of, EndsMet}

-- two numbers of the stack are of vertices that are there
pub held_both : {ns st : List ℕ} {p q : ℕ} (h : Held ns st) (i j : ℕ) → i < length st → j < length st → p ≡ get_or st i 0 → q ≡ get_or st j 0 → BothIn ns p q
held_both h i j a b e f =
    let one = all_at h.high i 0 a in
    let other = all_at h.high j 0 b in
    record { one = omega (arith, one, e, h.inside); other = omega (arith, other, f, h.inside) }

pub held_small : {ns st : List ℕ} {q : ℕ} (h : Held ns st) (i : ℕ) → i < length st → q ≡ get_or st i 0 → q ≤ vertices_most
held_small h i a e = let one = all_at h.high i 0 a in omega (arith, one, e, h.small)

module _ (ns st : List ℕ) (at : Span) where
  pub met_few : at.n < 3 → EndsMet Apart ns st at
  unfolding EndsMet
  met_few h t lost = turn_few t st (end_of ns at lost) (lt-ltb at.n 3 h)

  module _ (three : 3 ≤ at.n) {first near : ℕ} (is-first : first ≡ get_or st at.lo 0) (is_near_lem : near ≡ get_or st (at.lo + (at.n - 2)) 0) where
    near_is : (b : Bool) → same_place ns near first ≡ b → same_place ns (get_or st (at.lo + (at.n - 2)) 0) (get_or st at.lo 0) ≡ b
    near_is b a = ap₂ (same_place ns) (sym is_near_lem) (sym is-first) ∙ a

    pub met_near : same_place ns near first ≡ true → EndsMet Near ns st at
    unfolding EndsMet
    met_near a = (three, λ t lost. turn_near t st (end_of ns at lost) (le-ltb at.n 3 three) (near_is true a))

    module _ (a : same_place ns near first ≡ false) {last : ℕ} (is_last : last ≡ get_or st (at.lo + (at.n - 1)) 0) where
      last_is : (b : Bool) → same_place ns last first ≡ b → same_place ns (get_or st (at.lo + (at.n - 1)) 0) (get_or st at.lo 0) ≡ b
      last_is b q = ap₂ (same_place ns) (sym is_last) (sym is-first) ∙ q

      pub met_last : same_place ns last first ≡ true → EndsMet Last ns st at
      unfolding EndsMet
      met_last b = (three, λ t lost. turn_last t st (end_of ns at lost) (le-ltb at.n 3 three) (near_is false a) (last_is true b))

      module _ (b : same_place ns last first ≡ false) {second : ℕ} (is-second : second ≡ get_or st (at.lo + 1) 0) where
        pub met_two : same_place ns last second ≡ true → EndsMet LastTwo ns st at
        unfolding EndsMet
        met_two d = (
          three,
          λ t lost. turn_last_two t st (end_of ns at lost) (le-ltb at.n 3 three) (near_is false a) (last_is false b)
              (ap₂ (same_place ns) (sym is_last) (sym is-second) ∙ d),
        )

        pub met_apart : same_place ns last second ≡ false → EndsMet Apart ns st at
        unfolding EndsMet
        met_apart d t lost = turn_none t st (end_of ns at lost) (le-ltb at.n 3 three) (near_is false a) (last_is false b)
            (ap₂ (same_place ns) (sym is_last) (sym is-second) ∙ d)
