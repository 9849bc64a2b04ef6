-- Buffers that are long enough make no difference: a job comes to what the rules say of it without any. Assumes nothing.
-- Key: `enough`.
use Rattle.std.specs.Prelude.{◌≡◌, refl, Bool, ◌||◌, List, ℕ, ◌≤◌, ◌<◌, ltb, length, get_or, Option, None}
use Rattle.std.proofs.Common.{sym, ap, ◌∙◌, le_refl, ltb-false, le-ltb}
use Rattle.mem.specs.Loops.{over_cong}
use Rattle.ints.specs.Bools.{or_right}
use Rattle.rules.specs.Lists.{when, or_else}
use Rattle.rules.specs.Job.{Job}
use Rattle.rules.specs.Checks.{Lent, least_lengths, lengths_of, Checked, passed, refusal, or_next, refuse_at, check_nvp, check_counts, first_high, first_bad_flag, check_v, first_short, check}
use Rattle.rules.specs.Build.{after_check, outcome}
use Rattle.rules.specs.Sheet.{outcome_of}
use Rattle.rules.specs.declared.Refusal.TheVariants.{BadCornerLimit, HighCoordinate, BadFlag, ShortBuffer}
use Rattle.laws.proofs.Checks.{not_refused}

-- 6 does not come
none_short : (ls least : List ℕ) → ((k : ℕ) → k < length least → get_or least k 0 ≤ get_or ls k 0) → first_short ls least ≡ first_short least least
unfolding first_short
none_short ls least h =
    over_cong None or_else (λ k. when (ltb (get_or ls k 0) (get_or least k 0)) k) (λ k. when (ltb (get_or least k 0) (get_or least k 0)) k) 0 (length least)
    (λ k a b. ap (λ (t : Bool). when t k) (le-ltb (get_or ls k 0) (get_or least k 0) (h k b) ∙ sym (le-ltb (get_or least k 0) (get_or least k 0) (le_refl (get_or least k 0)))))

-- what comes behind the first check counts only if that one passes
behind : (c d e : Checked) → (c ≡ passed → d ≡ e) → or_next c d ≡ or_next c e
unfolding or_next
behind passed d e h = h refl
behind (refusal r) d e h = refl

-- nvp has passed
within_twelve : (j : Job) → check_nvp j ≡ passed → j.nvp ≤ 12
unfolding check_nvp
within_twelve j e =
    ltb-false 12 j.nvp (or_right (ltb j.nvp 3) (ltb 12 j.nvp) (not_refused (ltb j.nvp 3 || ltb 12 j.nvp) (BadCornerLimit j.nvp) e))

pub enough : (j : Job) (b : Lent) → (j.nvp ≤ 12 → (k : ℕ) → k < length (least_lengths j) → get_or (least_lengths j) k 0 ≤ get_or (lengths_of b) k 0)
    → outcome j b ≡ outcome_of j
unfolding outcome outcome_of check
enough j b h =
    ap (after_check j) (behind (check_nvp j) _ _ (λ e. ap (λ (f : Option ℕ). or_next (check_counts j) (or_next (refuse_at HighCoordinate (first_high j))
    (or_next (refuse_at BadFlag (first_bad_flag j)) (or_next (check_v j) (refuse_at ShortBuffer f)))))
    (none_short (lengths_of b) (least_lengths j) (h (within_twelve j e)))))
