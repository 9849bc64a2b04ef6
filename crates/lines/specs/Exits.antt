-- What is returned where `?` ends a function, and what is known where it goes on. Assumes nothing.
-- Key: `found_or`, `refused_or`: behind `ok_or`; `passed_on`: the refusal of a call.
use Rattle.std.specs.Prelude.{◌≡◌, Option, Some, None, Result, Ok, Err}
use Rattle.std.specs.Option.{ok_or}
use Rattle.std.specs.Result.{IsErrAnd}
use Rattle.std.proofs.Math.Path.{refl, ap}
use Rattle.std.proofs.Common.{sym, ◌∙◌}

-- what may be returned for a refusal is that refusal
pub passed_on : {U E : Type 0} {y : E} (r : Result U E) → IsErrAnd r (λ x. x ≡ y) → r ≡ Err y
passed_on (Ok u) h = absurd h
passed_on (Err e) h = ap Err h

-- an error is no value, and a value no error
err_no_ok : {T E : Type 0} {z : E} {x : T} → Err z ≡ Ok x → ⊥
err_no_ok h = cc

same_err : {T E : Type 0} {y z : E} → ◌≡◌ {A = Result T E} (Err y) (Err z) → y ≡ z
same_err h = cc

module _ {T E : Type 0} (z : E) where
  pub found_or : (o : Option T) {q : Result T E} {x : T} → q ≡ ok_or o z → q ≡ Ok x → o ≡ Some x
  found_or (Some y) e f = cc
  found_or None e f = absurd (err_no_ok (sym e ∙ f))

  pub refused_or : {U : Type 0} (o : Option T) {y : E} {q : Result T E} (r : Result U E) → q ≡ ok_or o z → q ≡ Err y → IsErrAnd r (λ x. x ≡ y)
      → (o ≡ None) × (r ≡ Err z)
  refused_or (Some x) r e f h = absurd (err_no_ok (sym f ∙ e))
  refused_or None {y} {q} r e f h = (refl, passed_on r h ∙ ap Err (same_err {T = T} (sym f ∙ e)))
