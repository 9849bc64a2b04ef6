-- A mender's reply as three numbers. Assumes nothing.
use Rattle.std.specs.Prelude.{Result}
use mathlib.Core.Path.{◌≡◌, sym, ap, ◌∙◌}
use mathlib.Core.List.{List, [], ◌∷◌}
use Prim.Native.Nat.{ℕ}
use lib.ListN.{get_or}
use Rattle.rules.specs.MendCall.{mend_words}
use Rattle.rules.specs.declared.Mended.{Mended}
use Rattle.rules.specs.declared.MendRefusal.{MendRefusal}

-- the numbers of a reply that is known by an equation
pub reply_words : {reply case : Result Mended MendRefusal} {r n : ℕ} {ws : List ℕ} (second third : ℕ) → reply ≡ case → mend_words case ≡ (n ∷ (second ∷ (third ∷ [])))
    → (r ≡ n) × (ws ≡ (n ∷ (second ∷ (third ∷ [])))) → (r ≡ get_or (mend_words reply) 0 0) × (ws ≡ mend_words reply)
reply_words second third e w p =
    let same = ap mend_words e ∙ w in
    (p.0 ∙ sym (ap (λ (l : List ℕ). get_or l 0 0) same), p.1 ∙ sym same)

-- and of one that a call promises
pub reply_as : {x y : Result Mended MendRefusal} {r : ℕ} {ws : List ℕ} → x ≡ y → (r ≡ get_or (mend_words x) 0 0) × (ws ≡ mend_words x) → (r ≡ get_or (mend_words y) 0 0) ×
    (ws ≡ mend_words y)
reply_as e p = (p.0 ∙ ap (λ (x : Result Mended MendRefusal). get_or (mend_words x) 0 0) e, p.1 ∙ ap mend_words e)
