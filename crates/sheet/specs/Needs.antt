-- A line that has to have numbers: one that isn't good ends the reading, and with a good one it goes on, whatever is read. Assumes nothing.
use Rattle.std.specs.Prelude.{◌≡◌, List, ℕ}
use Rattle.std.proofs.Math.Path.{refl}
use Rattle.rules.specs.Lines.{Numbers, numbers, malformed}
use Rattle.rules.specs.Sheet.{Read, bad, need}

module _ {A : Type 0} (k : ℕ) (f : List ℕ → Read A) {n : Numbers} where
  pub need_bad : n ≡ malformed → need k n f ≡ bad 22 k
  unfolding need
  need_bad e = rw e refl

  pub need_good : {ns : List ℕ} → n ≡ numbers ns → need k n f ≡ f ns
  unfolding need
  need_good e = rw e refl
