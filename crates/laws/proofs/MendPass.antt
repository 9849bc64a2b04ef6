-- Request 12, as the code has it: the walk over a contour's numbers, one by one, with a stack of those that are left so far. Assumes nothing.
-- Key: `pass`, with its cases `pass_few` to `pass_joined`; `by_pass`: what a pass comes to; `left_joining`, `left_losing`, `left_turning`: what is left then.
use Rattle.std.specs.Prelude.{ℕ, zero, suc, ◌+◌, ◌-◌, ◌≤◌, ◌≡◌, Bool, true, false, ◌&&◌, List, [], ◌∷◌, ◌++◌, ltb, length, get_or, take}
use Rattle.std.proofs.Common.{arith, ◌∙◌, ap, append_assoc, ltb-true, length-append, length-take-le, get_or-take}
use Rattle.std.proofs.Math.Path.{refl}
use Rattle.std.proofs.Math.ListN.{get_or-append}
use Rattle.std.proofs.lemmas.List.{get_or_at}
use Rattle.ints.specs.Bools.{and_left}
use Rattle.mem.specs.Cases.{by_test}
use Rattle.laws.proofs.Lists.{last_split, without_seam}
use Rattle.laws.proofs.Ring.{next_in}
use Rattle.laws.proofs.MendLoss.{then_in}
use Rattle.laws.specs.MendNumbers.{same_place, carried, carried_if, lose_number, lose_two_numbers}
use Rattle.laws.specs.MendPass.{Passing, top_of, second_of, joining, losing, turning, pass, rising, left_of}

-- ---- one number is passed, by what it meets

module _ (writes : Bool) (e j : ℕ) (w : Passing) where
  pub pass_few : ltb (length w.stack + (e - j)) 3 ≡ true → pass writes e j w ≡ joining j w
  unfolding pass
  pass_few q = rw (q, pass) refl

  module _ (q : ltb (length w.stack + (e - j)) 3 ≡ false) where
    pub pass_lost : same_place w.numbers (top_of w.stack) j ≡ true → pass writes e j w ≡ losing writes j w
    unfolding pass
    pass_lost a = rw (q, pass, a) refl

    module _ (a : same_place w.numbers (top_of w.stack) j ≡ false) where
      pub pass_turned : (ltb 1 (length w.stack) && same_place w.numbers (second_of w.stack) j) ≡ true → pass writes e j w ≡ turning writes j w
      unfolding pass
      pass_turned b = rw (q, pass, a, b) refl

      pub pass_joined : (ltb 1 (length w.stack) && same_place w.numbers (second_of w.stack) j) ≡ false → pass writes e j w ≡ joining j w
      unfolding pass
      pass_joined b = rw (q, pass, a, b) refl

-- what holds of each of them holds of the pass
pub by_pass : (P : Passing → Type 0) (t : Bool) (e j : ℕ) (w : Passing)
    → P (joining j w) → P (losing t j w) → (2 ≤ length w.stack → P (turning t j w)) → P (pass t e j w)
by_pass P t e j w joins loses turns =
    let s = length w.stack in
    let back = same_place w.numbers (second_of w.stack) j in
    by_test (ltb (s + (e - j)) 3)
    (λ q. rw (pass_few t e j w q) joins)
    (λ q. by_test (same_place w.numbers (top_of w.stack) j)
    (λ a. rw (pass_lost t e j w q a) loses)
    (λ a. by_test (ltb 1 s && back)
    (λ b. rw (pass_turned t e j w q a b) (turns (ltb-true 1 s (and_left (ltb 1 s) back b))))
    (λ b. rw (pass_joined t e j w q a b) joins)))

pub length_joining : (j : ℕ) (w : Passing) → length (joining j w).stack ≡ length w.stack + 1
unfolding joining
length_joining j w = length-append w.stack (j ∷ [])

pub length_turning : (t : Bool) (j : ℕ) (w : Passing) → length (turning t j w).stack ≡ length w.stack - 1
unfolding turning
length_turning t j w = length-take-le (length w.stack - 1) w.stack (omega arith)

-- ---- the stack, and behind it the numbers that are not yet passed

pub length_rising : (j r : ℕ) → length (rising j r) ≡ r
unfolding rising
length_rising j zero = refl
length_rising j (suc r) = ap suc (length_rising (suc j) r)

pub length_left : (j r : ℕ) (w : Passing) → length (left_of j r w).left ≡ length w.stack + r
unfolding left_of
length_left j r w = length-append w.stack (rising j r) ∙ ap (λ (k : ℕ). length w.stack + k) (length_rising j r)

pub left_joining : (j r : ℕ) (w : Passing) → left_of (suc j) r (joining j w) ≡ left_of j (suc r) w
unfolding left_of joining rising
left_joining j r w = ap (λ (l : List ℕ). record { left = l; lost = w.lost; numbers = w.numbers }) (append_assoc w.stack (j ∷ []) (rising (suc j) r))

-- a loss at the seam of a and what is behind it
lose_seam : (i : ℕ) (a : List ℕ) (x : ℕ) (q ls ns : List ℕ) → length a ≡ i + 1
    → lose_number i (record { left = a ++ (x ∷ q); lost = ls; numbers = ns })
    ≡ record { left = a ++ q; lost = ls ++ (x ∷ []); numbers = carried ns (get_or a i 0) x }
unfolding lose_number
lose_seam i a x q ls ns e =
    let n = length-append a (x ∷ q) in
    rw (
      next_in i (length (a ++ (x ∷ q))) (omega arith),
      without_seam a x q (i + 1) e,
      get_or_at a x q 0 (i + 1) e,
      get_or-append a (x ∷ q) 0 i (omega arith),
    ) refl

pub left_losing : (j r : ℕ) (w : Passing) → 1 ≤ length w.stack
    → lose_number (length w.stack - 1) (left_of j (suc r) w) ≡ left_of (suc j) r (losing true j w)
unfolding left_of losing rising carried_if
left_losing j r w h = lose_seam (length w.stack - 1) w.stack j (rising (suc j) r) w.lost w.numbers (omega arith)

pub left_turning : (j r : ℕ) (w : Passing) → 2 ≤ length w.stack
    → lose_two_numbers (length w.stack - 2) (left_of j (suc r) w) ≡ left_of (suc j) r (turning true j w)
unfolding left_of turning rising carried_if lose_two_numbers
left_turning j r w h =
    let st = w.stack in
    let i = length st - 2 in
    let a = take (length st - 1) st in
    let top = top_of st in
    let rest = rising (suc j) r in
    let n : length a ≡ i + 1 = length-take-le (length st - 1) st (omega arith) ∙ omega arith in
    let e : st ++ (j ∷ rest) ≡ a ++ (top ∷ (j ∷ rest)) =
    ap (λ (l : List ℕ). l ++ (j ∷ rest)) (last_split st 0 (omega arith)) ∙ append_assoc a (top ∷ []) (j ∷ rest) in
    let g : get_or a i 0 ≡ second_of st = get_or-take (length st - 1) st i 0 (omega arith) in
    rw (then_in i (length (st ++ (j ∷ rest))) (omega (arith, length-append st (j ∷ rest))), ← g)
    (ap (λ (l : List ℕ). lose_number i (lose_number i (record { left = l; lost = w.lost; numbers = w.numbers }))) e
    ∙ ap (lose_number i) (lose_seam i a top (j ∷ rest) w.lost w.numbers n)
    ∙ lose_seam i a j rest (w.lost ++ (top ∷ [])) (carried w.numbers (get_or a i 0) top) n)
