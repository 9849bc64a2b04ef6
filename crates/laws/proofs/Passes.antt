-- R5: once over the sides, again and again. A pass that uses no side leaves the walk as it is, so that further passes do too: as many passes as sides are left
-- are enough. Assumes nothing.
-- Key: `once_cases`: what a pass does; `passes_enough`, `one_more`: how many are enough.
use Rattle.std.specs.Prelude.{◌≡◌, refl, ◌⊎◌, ℕ, zero, suc, ◌+◌, ◌-◌, ◌≤◌, ◌<◌, length, get_or}
use Rattle.std.proofs.Common.{sym, ap, subst, ◌∙◌, inl, inr, ⊎_elim, arith}
use Rattle.mem.specs.Loops.{times, times_turn, times_still}
use Rattle.rules.specs.Removal.{no_side, Walk, Fit, front, back, neither, fit_of, walk_by, walk_one, walk_once}
use Rattle.rules.specs.declared.Side.{Side}
use Rattle.laws.proofs.Lists.{swap_length}
use Rattle.laws.proofs.Walks.{one_left}

pass_ends : (f : ℕ) (w : Walk) → w.at + f ≡ length w.rest → (times walk_one f w).at ≡ length (times walk_one f w).rest
unfolding times
pass_ends zero w e = omega arith
pass_ends (suc f) w e = pass_ends f (walk_one w) (one_left w f e)

-- one turn uses a side, or steps past one and leaves all else as it is
by_cases : (t : Fit) (s : Side) (w : Walk)
    → (walk_by t s w ≡ record { chain = w.chain; rest = w.rest; at = w.at + 1 }) ⊎ (length (walk_by t s w).rest ≡ length w.rest - 1)
unfolding walk_by
by_cases front s w = inr (swap_length no_side w.rest w.at)
by_cases back s w = inr (swap_length no_side w.rest w.at)
by_cases neither s w = inl refl

one_cases : (w : Walk) → (walk_one w ≡ record { chain = w.chain; rest = w.rest; at = w.at + 1 }) ⊎ (length (walk_one w).rest ≡ length w.rest - 1)
unfolding walk_one
one_cases w = by_cases (fit_of w.chain (get_or w.rest w.at no_side)) (get_or w.rest w.at no_side) w

-- f turns use a side, or leave all as it is but for the place
Passed : ℕ → Walk → Walk → Type 0
Passed f w v = (v ≡ record { chain = w.chain; rest = w.rest; at = w.at + f }) ⊎ (length v.rest < length w.rest)

less_or_same : (f : ℕ) (w v : Walk) → Passed f w v → length v.rest ≤ length w.rest
unfolding Passed
less_or_same f w v p = ⊎_elim
    (λ (e : v ≡ record { chain = w.chain; rest = w.rest; at = w.at + f }). rw e (omega arith))
    (λ (h : length v.rest < length w.rest). omega arith) p

pass_cases : (f : ℕ) (w : Walk) → w.at + f ≡ length w.rest → Passed f w (times walk_one f w)
unfolding times Passed
pass_cases zero w e = let z : w.at + 0 ≡ w.at = omega arith in inl (rw z refl)
pass_cases (suc f) w e =
    let ih = pass_cases f (walk_one w) (one_left w f e) in
    ⊎_elim
    (λ (q : walk_one w ≡ record { chain = w.chain; rest = w.rest; at = w.at + 1 }).
    let z : w.at + 1 + f ≡ w.at + suc f = omega arith in
    rw (← z) (subst (λ (v : Walk). Passed f v (times walk_one f (walk_one w))) q ih))
    (λ (q : length (walk_one w).rest ≡ length w.rest - 1). inr (omega (arith, less_or_same f (walk_one w) (times walk_one f (walk_one w)) ih)))
    (one_cases w)

-- so does a pass
pub once_cases : (w : Walk) → (walk_once (walk_once w) ≡ walk_once w) ⊎ (length (walk_once w).rest < length w.rest)
unfolding walk_once Passed
once_cases w = ⊎_elim
    (λ (e : walk_once w ≡ record { chain = w.chain; rest = w.rest; at = 0 + length w.rest }). inl (ap walk_once e))
    (λ (h : length (walk_once w).rest < length w.rest). inr h)
    (pass_cases (length w.rest) (record { chain = w.chain; rest = w.rest; at = 0 }) (omega arith))

-- and leaves no more sides than there were
pub once_fewer : (w : Walk) → length (walk_once w).rest ≤ length w.rest
unfolding walk_once
once_fewer w =
    let start : Walk = record { chain = w.chain; rest = w.rest; at = 0 } in
    less_or_same (length w.rest) start (walk_once w) (pass_cases (length w.rest) start (omega arith))

pub once_ends : (w : Walk) → (walk_once w).at ≡ length (walk_once w).rest
unfolding walk_once
once_ends w = pass_ends (length w.rest) (record { chain = w.chain; rest = w.rest; at = 0 }) (omega arith)

-- a walk at its place 0 with no side left
pub empty_still : (w : Walk) → length w.rest ≡ 0 → w.at ≡ 0 → walk_once w ≡ w
unfolding walk_once times
empty_still w e z = rw e (go w.at z)
  where
    go : (k : ℕ) → k ≡ 0 → ◌≡◌ {A = Walk} (record { chain = w.chain; rest = w.rest; at = 0 }) (record { chain = w.chain; rest = w.rest; at = k })
    go k q = rw q refl

-- however many passes, if they are as many as sides are left
pub passes_enough : (f g : ℕ) (w : Walk) → w.at ≡ length w.rest → length w.rest ≤ f → length w.rest ≤ g → times walk_once f w ≡ times walk_once g w
unfolding times
passes_enough zero g w a h k = sym (times_still walk_once g w (empty_still w (omega arith) (omega arith)))
passes_enough (suc f) zero w a h k = times_still walk_once (suc f) w (empty_still w (omega arith) (omega arith))
passes_enough (suc f) (suc g) w a h k =
    let ih = passes_enough f g (walk_once w) (once_ends w) in
    ⊎_elim
    (λ (e : walk_once (walk_once w) ≡ walk_once w). times_still walk_once f (walk_once w) e ∙ sym (times_still walk_once g (walk_once w) e))
    (λ (l : length (walk_once w).rest < length w.rest). ih (omega arith) (omega arith))
    (once_cases w)

pub once_still : (w : Walk) → length w.rest ≤ length (walk_once w).rest → walk_once (walk_once w) ≡ walk_once w
once_still w h = ⊎_elim (λ (e : walk_once (walk_once w) ≡ walk_once w). e) (λ (l : length (walk_once w).rest < length w.rest). absurd (omega arith)) (once_cases w)

-- n passes, or one more, where n is above 0 and as many as sides are left
pub one_more : (n : ℕ) (w : Walk) → 0 < n → length w.rest ≤ n → times walk_once (suc n) w ≡ times walk_once n w
unfolding times
one_more n w z h = sym (times_turn walk_once n w z ∙ ⊎_elim
    (λ (e : walk_once (walk_once w) ≡ walk_once w). times_still walk_once (n - 1) (walk_once w) e ∙ sym (times_still walk_once n (walk_once w) e))
    (λ (l : length (walk_once w).rest < length w.rest). passes_enough (n - 1) n (walk_once w) (once_ends w) (omega arith) (omega arith))
    (once_cases w))
