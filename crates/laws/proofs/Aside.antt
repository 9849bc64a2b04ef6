-- Numbers on a line that all come before others, or all after them: with whatever weights, they never balance where the others do. So what lies between two
-- numbers isn't aside of them, and a point in line with two others and between them along one axis isn't aside of them along the other. Assumes nothing.
-- Key: `no_balance`, `not_aside`, `not_across`.
use Rattle.std.specs.Prelude.{ℕ, ◌+◌, ◌*◌, ◌-◌, ◌≤◌, ◌<◌, ◌≡◌, Bool, true, false, cond, ◌&&◌, ◌||◌, ◌⊎◌, ◌≢◌, leb, ltb}
use Rattle.std.proofs.Common.{mul-le-mul_right, arith, sym, ap, inl, inr, ⊎_elim, ltb-true, leb-true}
use Rattle.ints.specs.Bools.{and_left, and_right, or_cases, cond_ind}
use Rattle.mem.specs.Cases.{lt_or_le}
use Rattle.rules.specs.Plane.{within}
use Rattle.rules.specs.Boxes.{before}
use Rattle.laws.specs.Aside.{InLine}

-- both a and b come before both c and d: m parts them
record Before (a b c d : ℕ) : Type 0 where
  m : ℕ
  a_in : a ≤ m
  b_in : b ≤ m
  c_out : m < c
  d_out : m < d

before_is : (a b c d : ℕ) → before a b c d ≡ true → Before a b c d
unfolding before
before_is a b c d e =
    let of-a = and_left (ltb a c && ltb a d) (ltb b c && ltb b d) e in
    let of-b = and_right (ltb a c && ltb a d) (ltb b c && ltb b d) e in
    let ac = ltb-true a c (and_left (ltb a c) (ltb a d) of-a) in
    let ad = ltb-true a d (and_right (ltb a c) (ltb a d) of-a) in
    let bc = ltb-true b c (and_left (ltb b c) (ltb b d) of-b) in
    let bd = ltb-true b d (and_right (ltb b c) (ltb b d) of-b) in ⊎_elim
    (λ (l : a < b). record { m = b; a_in = omega arith; b_in = omega arith; c_out = bc; d_out = bd })
    (λ (g : b ≤ a). record { m = a; a_in = omega arith; b_in = g; c_out = ac; d_out = ad })
    (lt_or_le a b)

-- either way round
pub Aside : ℕ → ℕ → ℕ → ℕ → Type 0
Aside a b c d = Before a b c d ⊎ Before c d a b

pub aside_is : (a b c d : ℕ) → (before a b c d || before c d a b) ≡ true → Aside a b c d
unfolding Aside
aside_is a b c d e = ⊎_elim
    (λ (f : before a b c d ≡ true). inl (before_is a b c d f))
    (λ (f : before c d a b ≡ true). inr (before_is c d a b f))
    (or_cases (before a b c d) (before c d a b) e)

pub aside_turned : (a b c d : ℕ) → Aside a b c d → Aside c d a b
unfolding Aside
aside_turned a b c d h = ⊎_elim (λ (f : Before a b c d). inr f) (λ (f : Before c d a b). inl f) h

-- any of a and b, and any of c and d
pub aside_pick : (s t u w : Bool) (a b c d : ℕ) → Aside a b c d → Aside (cond s a b) (cond t a b) (cond u c d) (cond w c d)
unfolding Aside
aside_pick s t u w a b c d h = ⊎_elim
    (λ (f : Before a b c d). inl (picked s t u w a b c d f))
    (λ (f : Before c d a b). inr (picked u w s t c d a b f))
    h
  where
    picked : (s t u w : Bool) (a b c d : ℕ) → Before a b c d → Before (cond s a b) (cond t a b) (cond u c d) (cond w c d)
    picked s t u w a b c d f = record {
      m = f.m;
      a_in = cond_ind (λ n. n ≤ f.m) s f.a_in f.b_in;
      b_in = cond_ind (λ n. n ≤ f.m) t f.a_in f.b_in;
      c_out = cond_ind (λ n. f.m < n) u f.c_out f.d_out;
      d_out = cond_ind (λ n. f.m < n) w f.c_out f.d_out;
    }

aside_swapped : (a b c : ℕ) → Aside a b c c → Aside b a c c
aside_swapped a b c h = aside_pick false true true true a b c c h

-- a and b with the weights p and q never balance where c and d with the weights r and s do
unbalanced : (p q r s a b c d : ℕ) → p + q ≡ r + s → 0 < p + q → Before a b c d → p * a + q * b ≡ r * c + s * d → ⊥
unbalanced p q r s a b c d e o h w = omega (
  arith,
  mul-le-mul_right p h.a_in,
  mul-le-mul_right q h.b_in,
  mul-le-mul_right r h.c_out,
  mul-le-mul_right s h.d_out,
  ap (λ (n : ℕ). n * h.m) e,
)

pub no_balance : (p q r s a b c d : ℕ) → p + q ≡ r + s → 0 < p + q → Aside a b c d → p * a + q * b ≡ r * c + s * d → ⊥
unfolding Aside
no_balance p q r s a b c d e o h w = ⊎_elim
    (λ (f : Before a b c d). unbalanced p q r s a b c d e o f w)
    (λ (f : Before c d a b). unbalanced r s p q c d a b (sym e) (omega arith) f (sym w))
    h

-- ---- what lies between
within_is : (a b c : ℕ) → within a b c ≡ true → ((a ≤ c) × (c ≤ b)) ⊎ ((c ≤ a) × (b ≤ c))
unfolding within
within_is a b c e = ⊎_elim
    (λ (f : (leb a c && leb c b) ≡ true). inl (leb-true a c (and_left (leb a c) (leb c b) f), leb-true c b (and_right (leb a c) (leb c b) f)))
    (λ (f : (leb c a && leb b c) ≡ true). inr (leb-true c a (and_left (leb c a) (leb b c) f), leb-true b c (and_right (leb c a) (leb b c) f)))
    (or_cases (leb a c && leb c b) (leb c a && leb b c) e)

-- w between x and y isn't aside of them
pub not_aside : (x y w : ℕ) → within x y w ≡ true → Aside x y w w → ⊥
unfolding Aside
not_aside x y w e h = ⊎_elim
    (λ (g : (x ≤ w) × (w ≤ y)). go x y w g.0 g.1 h)
    (λ (g : (w ≤ x) × (y ≤ w)). go y x w g.1 g.0 (aside_swapped x y w h))
    (within_is x y w e)
  where
    go : (x y w : ℕ) → x ≤ w → w ≤ y → Aside x y w w → ⊥
    go x y w l g h = ⊎_elim (λ (f : Before x y w w). omega (arith, f.b_in, f.c_out)) (λ (f : Before w w x y). omega (arith, f.a_in, f.c_out)) h

-- w between x and y, which differ: then r is where s and t balance with the weights y − w and w − x
rising : (x s y t w r : ℕ) → x ≢ y → InLine x s y t w r → x ≤ w → w ≤ y → Aside s t r r → ⊥
unfolding InLine
rising x s y t w r n e l g h =
    let p : w ≡ x + (w - x) = omega arith in
    let q : y ≡ x + (w - x) + (y - w) = omega arith in
    go x (y - w) (w - x) s t r (omega arith) (rw (← q, ← p) e) h
  where
    go : (m p q s t r : ℕ) → 0 < p + q → m * t + (m + q + p) * r + (m + q) * s ≡ (m + q + p) * s + (m + q) * t + m * r → Aside s t r r → ⊥
    go m p q s t r o e h = no_balance p q (p + q) 0 s t r r (omega arith) o h (omega arith)

-- so r isn't aside of s and t
pub not_across : (x s y t w r : ℕ) → x ≢ y → InLine x s y t w r → within x y w ≡ true → Aside s t r r → ⊥
unfolding InLine
not_across x s y t w r n e f h = ⊎_elim
    (λ (g : (x ≤ w) × (w ≤ y)). rising x s y t w r n e g.0 g.1 h)
    (λ (g : (w ≤ x) × (y ≤ w)). rising y t x s w r (λ (m : y ≡ x). n (sym m)) (omega arith) g.1 g.0 (aside_swapped s t r h))
    (within_is x y w f)
