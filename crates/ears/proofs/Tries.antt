-- The search for an ear: a place that is tried or passed, and the ear that is found in the end. Assumes nothing.
use Rattle.std.specs.Prelude.{Option, Some, None}
use Rattle.std.proofs.Common.{MatchOption}
use mathlib.Core.Path.{◌≡◌}
use mathlib.Core.Bool.{Bool, true, false}
use mathlib.Core.List.{List}
use Prim.Native.Nat.{ℕ}
use Rattle.rules.specs.declared.Point.{Point}
use Rattle.rules.specs.declared.Ear.{Ear}
use Rattle.rules.specs.declared.Kind.{Kind}
use Rattle.rules.specs.declared.Kind.TheVariants.{Strict, Loose}
use Rattle.rules.specs.Ears.{is_cuttable, key_from, better, try_ear, least_ear, find_ear}

-- the ear at i is tried where it may be cut, and else passed
module _ {ok : Bool} (kind : Kind) (ps : List Point) (ws : List ℕ) (i : ℕ) (e : Option Ear) (p : ok ≡ is_cuttable kind ps ws i) where
  pub tried : {k : ℕ} {f : Option Ear} → ok ≡ true → k ≡ key_from kind ps ws i → f ≡ better true k i e → f ≡ try_ear kind ps ws i e
  unfolding try_ear
  tried q h g = rw (← p, q, ← h) g

  pub passed : ok ≡ false → e ≡ try_ear kind ps ws i e
  unfolding try_ear better
  passed q = rw (← p, q)

-- the ear that is found is a marked one, or else a loose one
pub found : (ps : List Point) (ws : List ℕ) (o : Option Ear) {r : Option Ear} {P : Type 0} → o ≡ least_ear Strict ps ws
    → MatchOption o P (λ e. r ≡ Some e) → (P → r ≡ least_ear Loose ps ws) → r ≡ find_ear ps ws
unfolding find_ear
found ps ws (Some e) p h f = rw (← p, find_ear) h
found ps ws None p h f = rw (← p, find_ear) (f h)
