-- Answers of three numbers, the third of which is 0: verdicts, and replies about STL. Assumes nothing.
use Rattle.std.specs.Prelude.{Result, Ok, Err, ⊤}
use mathlib.Core.Path.{◌≡◌, refl, ◌∙◌, ap}
use mathlib.Core.List.{List, [], ◌∷◌}
use Prim.Native.Nat.{ℕ, ◌≤◌}
use native.Mathlib.Omega.{arith}
use Rattle.rules.specs.Handed.{fault_number}
use Rattle.rules.specs.Checker.{objection_number, verdict_number}
use Rattle.rules.specs.StlCall.{stl_refusal_number, stl_number, unstl_refusal_number, unstl_number}
use Rattle.rules.specs.declared.Fault.{Fault}
use Rattle.rules.specs.declared.Fault.TheVariants.{BadBuffers, BadCorners, BadLinks}
use Rattle.rules.specs.declared.Objection.{Objection}
use Rattle.rules.specs.declared.Objection.TheVariants.{Unsound, BadPortals, BadArea}
use Rattle.rules.specs.declared.StlRefusal.{StlRefusal}
use Rattle.rules.specs.declared.StlRefusal.TheVariants.{BadMesh, BadScale, ShortFile}
use Rattle.rules.specs.declared.UnstlRefusal.{UnstlRefusal}
use Rattle.rules.specs.declared.UnstlRefusal.TheVariants.{BadLength, NotZero, ShortPoints}

fault_small : (f : Fault) → fault_number f ≤ 80
unfolding fault_number
fault_small BadBuffers = omega arith
fault_small (BadCorners i) = omega arith
fault_small (BadLinks i) = omega arith

-- 32 bits hold a number
pub verdict_small : (v : Result ⊤ Objection) → verdict_number v ≤ 80
unfolding verdict_number objection_number
verdict_small (Ok _) = omega arith
verdict_small (Err (Unsound f)) = fault_small f
verdict_small (Err (BadPortals i)) = omega arith
verdict_small (Err BadArea) = omega arith

pub stl_small : (r : Result ℕ StlRefusal) → stl_number r ≤ 80
unfolding stl_number stl_refusal_number
stl_small (Ok n) = omega arith
stl_small (Err (BadMesh f)) = fault_small f
stl_small (Err BadScale) = omega arith
stl_small (Err ShortFile) = omega arith

pub unstl_small : (r : Result ℕ UnstlRefusal) → unstl_number r ≤ 80
unfolding unstl_number unstl_refusal_number
unstl_small (Ok n) = omega arith
unstl_small (Err BadLength) = omega arith
unstl_small (Err (NotZero i)) = omega arith
unstl_small (Err ShortPoints) = omega arith

-- the numbers n and s of an answer v that is known by an equation
pub answer_words_lem : {A : Type 0} (number second : A → ℕ) {v x : A} {n s r : ℕ} {ws : List ℕ} → v ≡ x → n ≡ number v → s ≡ second v
    → (r ≡ n) × (ws ≡ (n ∷ (s ∷ (0 ∷ [])))) → (r ≡ number x) × (ws ≡ (number x ∷ (second x ∷ (0 ∷ []))))
answer_words_lem number second e p q w = (w.0 ∙ p ∙ ap number e, w.1 ∙ rw (p, q, e) refl)
