-- Corners, none of which is 65,535, end where the first 65,535 behind them stands. Assumes nothing.
use Rattle.std.specs.Prelude.{ℕ, zero, suc, false, eqb, replicate}
use Rattle.std.proofs.Common.{arith, ne_eqb}
use Rattle.std.proofs.Math.Path.{◌≡◌, refl, ap}
use mathlib.Core.List.{List, [], ◌∷◌, ◌++◌}
use Rattle.rules.specs.Links.{none}
use Rattle.rules.specs.Exits.{up_to_none}
use Rattle.laws.specs.Lists
use Rattle.laws.specs.Lists.{All}
use Rattle.laws.specs.Merge.{Below}

none_at_once : (k : ℕ) → up_to_none (replicate k none) ≡ []
unfolding up_to_none
none_at_once zero = refl
none_at_once (suc k) = refl

pub up_to_none_lem : (k : ℕ) {cs : List ℕ} → All (Below none) cs → up_to_none (cs ++ replicate k none) ≡ cs
unfolding up_to_none
up_to_none_lem k Lists.none = none_at_once k
up_to_none_lem k (Lists.more {a = c} {l = cs} h a) =
    let e : eqb c none ≡ false = ne_eqb c none (λ (q : c ≡ none). omega arith) in
    rw e (ap (λ (r : List ℕ). c ∷ r) (up_to_none_lem k a))
