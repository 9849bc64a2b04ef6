-- A side that names another back: each way out of the test. Assumes nothing.
use mathlib.Core.Path.{◌≡◌, refl}
use mathlib.Core.Bool.{false}
use mathlib.Core.Logic.{◌≢◌}
use mathlib.Core.List.{List}
use Prim.Native.Nat.{ℕ, ◌<◌}
use lib.Dec.{eqb}
use lib.ListN.{length, get_or}
use borrow.Author.Tests.{eq-eqb, ne_eqb}
use Rattle.rules.specs.Lists.{next}
use Rattle.rules.specs.Links.{none}
use Rattle.rules.specs.Handed.{names_back}
use Rattle.laws.proofs.Lists.{get_d_any}

module _ (cs ls : List ℕ) (a b i q : ℕ) where
  pub not_from : get_or cs q 0 ≢ b → false ≡ names_back cs ls a b i q
  unfolding names_back
  not_from n = rw (ne_eqb (get_or cs q 0) b n) refl

  module _ (from : get_or cs q 0 ≡ b) (e : ℕ) (at : e ≡ next q (length cs)) where
    pub not_to : get_or cs e 0 ≢ a → false ≡ names_back cs ls a b i q
    unfolding names_back
    not_to n = rw (eq-eqb (get_or cs q 0) b from, ← at, ne_eqb (get_or cs e 0) a n) refl

    pub link_decides : q < length ls → get_or cs e 0 ≡ a → eqb (get_or ls q 0) i ≡ names_back cs ls a b i q
    unfolding names_back
    link_decides h t = rw (eq-eqb (get_or cs q 0) b from, ← at, eq-eqb (get_or cs e 0) a t, get_d_any ls q none 0 h) refl
