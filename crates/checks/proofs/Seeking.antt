-- A search for the first place where a test holds: as long as it fails, the answer of the whole is the answer of the places that are left. So what `find` gives
-- over a range is the rules' search. Assumes nothing.
use Rattle.std.specs.Prelude.{Option, Some, None}
use Rattle.std.specs.Option.{MatchOption}
use mathlib.Core.Path.{◌≡◌, refl, sym, ◌∙◌}
use mathlib.Core.Bool.{Bool, true, false}
use Prim.Native.Nat.{ℕ, zero, suc, ◌+◌, ◌≤◌, ◌<◌}
use native.Mathlib.Omega.{arith}
use Rattle.mem.specs.Loops.{over, Left, turn, next, end}
use Rattle.rules.specs.Lists.{when, or_else}

-- the first place below n where the test holds
abbrev pub first : (ℕ → Bool) → ℕ → Option ℕ
first test n = over None or_else (λ k. when (test k) k) 0 n

-- the places from k on are left to be searched
abbrev Seeking : (ℕ → Bool) → ℕ → ℕ → Type 0
Seeking test n k = Left None or_else (λ i. when (test i) i) (λ r. r) (first test n) n k

module _ (test : ℕ → Bool) (n : ℕ) where
  seek : (k : ℕ) → k ≤ n → ((i : ℕ) → i < k → test i ≡ false) → Seeking test n k
  unfolding when or_else
  seek zero h fails = record { same = refl }
  seek (suc k) h fails =
      let one : suc k ≡ k + 1 = omega arith in
      rw one (next (seek k (omega arith) (λ i l. fails i (omega arith))) (omega arith) (λ r. rw (fails k (omega arith))))

  pub found_first : (r : Option ℕ) → MatchOption r ((k : ℕ) → 0 ≤ k → k < n → test k ≡ false)
      (λ i. (0 ≤ i) × (i < n) × (test i ≡ true) × ((k : ℕ) → 0 ≤ k → k < i → test k ≡ false)) → r ≡ first test n
  unfolding when or_else
  found_first None none = sym (end (seek n (omega arith) (λ k h. none k (omega arith) h)) (omega arith))
  found_first (Some i) hit = sym (turn (seek i (omega arith) (λ k h. hit.3 k (omega arith) h)) hit.1 ∙ rw hit.2 refl)
