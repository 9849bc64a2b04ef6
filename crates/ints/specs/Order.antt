-- Orders of ℤ by `omega`, through `Is` of `Ring`: an order between integers is one between naturals, both ways. The tests `lt_z` and `le_z` that
-- code leaves, as Booleans, and the orders `◌<ℤ◌` and `◌≤ℤ◌`. Bounds on the size of an integer, for what fits an `i32` or an `i64`.
-- Assumes nothing.
use Rattle.std.specs.Prelude.{◌≡◌, refl, Bool, true, false, not, ℕ, zero, suc, ◌+◌, ◌*◌, ◌^◌, ◌≤◌, ◌<◌, T, ℤ, pos, negsuc, neg_ℤ, nat_abs, ◌+ℤ◌, ◌-ℤ◌, ◌*ℤ◌, ◌≤ℤ◌, ◌<ℤ◌}
use Rattle.std.proofs.Common.{sym, ◌∙◌, ap, subst, arith, mul-le-mul, mul-le-mul_right, le_trans, lt_of_le_of_lt, ltb→lt, lt→ltb, leb→le, le→leb}
use Rattle.std.proofs.Math.Nat as Nat
use Rattle.std.specs.Int.Signed.{mag, lt_z, le_z}
use Rattle.std.specs.Int.{Width}
use mir.Val.{SFits, hbits}
use Rattle.ints.specs.Ring.{Is, is_eq, upℤ, dnℤ, at, nat, neg, ◌⊕◌, ◌⊖◌, ◌⊗◌}

-- ---- the tests, at integers whose naturals are known
test_le : (a b : ℤ) → upℤ a + dnℤ b ≤ upℤ b + dnℤ a → T (le_z a b)
test_le (pos x) (pos y) h = le→leb x y (go x y h)
  where
    go : (x y : ℕ) → x + 0 ≤ y + 0 → x ≤ y
    go x y h = omega arith
test_le (pos x) (negsuc y) h = absurd (go x y h)
  where
    go : (x y : ℕ) → x + suc y ≤ 0 + 0 → ⊥
    go x y h = omega arith
test_le (negsuc x) (pos y) h = tt
test_le (negsuc x) (negsuc y) h = le→leb y x (go x y h)
  where
    go : (x y : ℕ) → 0 + suc y ≤ 0 + suc x → y ≤ x
    go x y h = omega arith

le_test : (a b : ℤ) → T (le_z a b) → upℤ a + dnℤ b ≤ upℤ b + dnℤ a
le_test (pos x) (pos y) t = omega (arith, leb→le x y t)
le_test (pos x) (negsuc y) t = absurd t
le_test (negsuc x) (pos y) t = omega arith
le_test (negsuc x) (negsuc y) t = omega (arith, leb→le y x t)

test_lt : (a b : ℤ) → upℤ a + dnℤ b < upℤ b + dnℤ a → T (lt_z a b)
test_lt (pos x) (pos y) h = lt→ltb x y (go x y h)
  where
    go : (x y : ℕ) → x + 0 < y + 0 → x < y
    go x y h = omega arith
test_lt (pos x) (negsuc y) h = absurd (go x y h)
  where
    go : (x y : ℕ) → x + suc y < 0 + 0 → ⊥
    go x y h = omega arith
test_lt (negsuc x) (pos y) h = tt
test_lt (negsuc x) (negsuc y) h = lt→ltb y x (go x y h)
  where
    go : (x y : ℕ) → 0 + suc y < 0 + suc x → y < x
    go x y h = omega arith

lt_test : (a b : ℤ) → T (lt_z a b) → upℤ a + dnℤ b < upℤ b + dnℤ a
lt_test (pos x) (pos y) t = omega (arith, ltb→lt x y t)
lt_test (pos x) (negsuc y) t = absurd t
lt_test (negsuc x) (pos y) t = omega arith
lt_test (negsuc x) (negsuc y) t = omega (arith, ltb→lt y x t)

-- ---- an order, by one of naturals, and back
module _ {a b : ℤ} {p n q m : ℕ} (A : Is a p n) (B : Is b q m) where
  pub is_le : p + m ≤ q + n → a ≤ℤ b
  is_le e = record { le = test_le a b (go (upℤ a) (dnℤ a) (upℤ b) (dnℤ b) A.is B.is) }
    where
      go : (u d v c : ℕ) → p + d ≡ u + n → q + c ≡ v + m → u + c ≤ v + d
      go u d v c h k = omega arith

  pub le_is : a ≤ℤ b → p + m ≤ q + n
  le_is e = go (upℤ a) (dnℤ a) (upℤ b) (dnℤ b) A.is B.is (le_test a b e.le)
    where
      go : (u d v c : ℕ) → p + d ≡ u + n → q + c ≡ v + m → u + c ≤ v + d → p + m ≤ q + n
      go u d v c h k e = omega arith

  pub is_lt : p + m < q + n → a <ℤ b
  is_lt e = record { lt = test_lt a b (go (upℤ a) (dnℤ a) (upℤ b) (dnℤ b) A.is B.is) }
    where
      go : (u d v c : ℕ) → p + d ≡ u + n → q + c ≡ v + m → u + c < v + d
      go u d v c h k = omega arith

  pub lt_is : a <ℤ b → p + m < q + n
  lt_is e = go (upℤ a) (dnℤ a) (upℤ b) (dnℤ b) A.is B.is (lt_test a b e.lt)
    where
      go : (u d v c : ℕ) → p + d ≡ u + n → q + c ≡ v + m → u + c < v + d → p + m < q + n
      go u d v c h k e = omega arith

  pub eq_is : a ≡ b → p + m ≡ q + n
  eq_is e = go (upℤ a) (dnℤ a) (upℤ b) (dnℤ b) A.is B.is (ap upℤ e) (ap dnℤ e)
    where
      go : (u d v c : ℕ) → p + d ≡ u + n → q + c ≡ v + m → u ≡ v → d ≡ c → p + m ≡ q + n
      go u d v c h k e f = omega arith

-- ---- a Boolean test as an equation, which is what a branch of code leaves, and as an order
T_true : (b : Bool) → b ≡ true → T b
T_true true e = tt
T_true false e = subst T (sym e) tt

true_T : (b : Bool) → T b → b ≡ true
true_T true t = refl
true_T false t = absurd t

pub lt_true : {a b : ℤ} → lt_z a b ≡ true → a <ℤ b
lt_true {a} {b} e = record { lt = T_true (lt_z a b) e }

pub true_lt : {a b : ℤ} → a <ℤ b → lt_z a b ≡ true
true_lt {a} {b} h = true_T (lt_z a b) h.lt

pub le_true : {a b : ℤ} → le_z a b ≡ true → a ≤ℤ b
le_true {a} {b} e = record { le = T_true (le_z a b) e }

pub true_le : {a b : ℤ} → a ≤ℤ b → le_z a b ≡ true
true_le {a} {b} h = true_T (le_z a b) h.le

-- the two tests are each other's negation
pub not_lt : (a b : ℤ) → not (lt_z a b) ≡ le_z b a
not_lt a b = go (lt_z a b) (le_z b a) (λ t. lt_test a b t) (λ t. le_test b a t) (λ h. test_lt a b h) (λ h. test_le b a h)
  where
    go : (s t : Bool) → (T s → upℤ a + dnℤ b < upℤ b + dnℤ a) → (T t → upℤ b + dnℤ a ≤ upℤ a + dnℤ b) → (upℤ a + dnℤ b < upℤ b + dnℤ a → T s) → (upℤ b + dnℤ a ≤ upℤ a + dnℤ b → T t) → not s ≡ t
    go true true f g h k = let x = f tt in let y = g tt in absurd (omega arith)
    go true false f g h k = refl
    go false true f g h k = refl
    go false false f g h k = absurd (omega arith)

pub not_le : (a b : ℤ) → not (le_z a b) ≡ lt_z b a
not_le a b = sym (go (lt_z b a) (le_z a b) (not_lt b a))
  where
    go : (s t : Bool) → not s ≡ t → s ≡ not t
    go true true e = sym e
    go true false e = refl
    go false true e = refl
    go false false e = sym e

pub lt_false : {a b : ℤ} → lt_z a b ≡ false → b ≤ℤ a
lt_false {a} {b} e = le_true (sym (not_lt a b) ∙ ap not e)

pub false_lt : {a b : ℤ} → b ≤ℤ a → lt_z a b ≡ false
false_lt {a} {b} h = sym (not_le b a) ∙ ap not (true_le h)

pub le_false : {a b : ℤ} → le_z a b ≡ false → b <ℤ a
le_false {a} {b} e = lt_true (sym (not_le a b) ∙ ap not e)

pub false_le : {a b : ℤ} → b <ℤ a → le_z a b ≡ false
false_le {a} {b} h = sym (not_lt b a) ∙ ap not (true_lt h)

-- ---- size: z is between −k and k
pub record Within (k : ℕ) (z : ℤ) : Type 0 where
  pub size : nat_abs z ≤ k

abs_of : (z : ℤ) → nat_abs z ≡ upℤ z + dnℤ z
abs_of (pos n) = omega arith
abs_of (negsuc n) = omega arith

-- from the two naturals, and back
pub is_within : {z : ℤ} {p n k : ℕ} → Is z p n → p ≤ n + k → n ≤ p + k → Within k z
is_within {z} {p} {n} {k} A h g = record { size = go z A.is }
  where
    go : (z : ℤ) → p + dnℤ z ≡ upℤ z + n → nat_abs z ≤ k
    go (pos x) e = omega arith
    go (negsuc x) e = omega arith

pub within_is : {z : ℤ} {p n k : ℕ} → Is z p n → Within k z → (p ≤ n + k) × (n ≤ p + k)
within_is {z} {p} {n} {k} A w = go z A.is w.size
  where
    go : (z : ℤ) → p + dnℤ z ≡ upℤ z + n → nat_abs z ≤ k → (p ≤ n + k) × (n ≤ p + k)
    go (pos x) e h = omega arith
    go (negsuc x) e h = omega arith

pub within_pos : {k n : ℕ} → n ≤ k → Within k (pos n)
within_pos h = record { size = h }

-- the difference of two naturals up to k
pub within_gap : {k m n : ℕ} → m ≤ k → n ≤ k → Within k (pos m -ℤ pos n)
within_gap {k} {m} {n} h g = is_within (nat m ⊖ nat n) (omega arith) (omega arith)

pub within_add : {j k : ℕ} {a b : ℤ} → Within j a → Within k b → Within (j + k) (a +ℤ b)
within_add {j} {k} {a} {b} h g = let x = within_is (at a) h in let y = within_is (at b) g in is_within (at a ⊕ at b) (omega arith) (omega arith)

pub within_sub : {j k : ℕ} {a b : ℤ} → Within j a → Within k b → Within (j + k) (a -ℤ b)
within_sub {j} {k} {a} {b} h g = let x = within_is (at a) h in let y = within_is (at b) g in is_within (at a ⊖ at b) (omega arith) (omega arith)

abs_neg : (n : ℕ) → nat_abs (neg_ℤ (pos n)) ≡ n
abs_neg zero = refl
abs_neg (suc n) = refl

abs_mul : (a b : ℤ) → nat_abs (a *ℤ b) ≡ nat_abs a * nat_abs b
abs_mul (pos x) (pos y) = refl
abs_mul (pos x) (negsuc y) = abs_neg (x * suc y)
abs_mul (negsuc x) (pos y) = abs_neg (suc x * y)
abs_mul (negsuc x) (negsuc y) = refl

pub within_mul : {j k : ℕ} {a b : ℤ} → Within j a → Within k b → Within (j * k) (a *ℤ b)
within_mul {j} {k} {a} {b} h g = record { size = rw (abs_mul a b) (mul-le-mul h.size g.size) }

pub within_le : {j k : ℕ} {z : ℤ} → j ≤ k → Within j z → Within k z
within_le h w = record { size = le_trans w.size h }

mag_abs : (z : ℤ) → mag z ≤ nat_abs z
mag_abs (pos n) = omega arith
mag_abs (negsuc n) = omega arith

-- what fits a signed width: `within_fits (lit< tt) w`
pub within_fits : {w : Width} {k : ℕ} {z : ℤ} → k < 2 ^ hbits w → Within k z → SFits w z
within_fits {w} {k} {z} h g = record { sfits = lt_of_le_of_lt (le_trans (mag_abs z) g.size) h }

pub fits_within : {w : Width} {z : ℤ} → SFits w z → Within (2 ^ hbits w) z
fits_within {w} {z} h = record { size = go z h.sfits }
  where
    go : (z : ℤ) → mag z < 2 ^ hbits w → nat_abs z ≤ 2 ^ hbits w
    go (pos n) h = omega arith
    go (negsuc n) h = omega arith

-- ---- rules for `omega`: it then reads `a ≤ℤ b`, `a <ℤ b` and `a ≡ b` of integers among the hypotheses, and proves them. An integer is an unknown to it:
-- of a sum, a difference, a negation or a product it is told by an entry `told (at a ⊕ at b)`: `a +ℤ b ≡ c → a ≡ c -ℤ b` is `omega (ints, told (at a ⊕ at b), told (at c ⊖ at b))`
pub told : {z : ℤ} {p n : ℕ} → Is z p n → p + dnℤ z ≡ upℤ z + n
told A = A.is

pub read_le : {a b : ℤ} → a ≤ℤ b → upℤ a + dnℤ b ≤ upℤ b + dnℤ a
read_le {a} {b} h = le_is (at a) (at b) h

pub read_lt : {a b : ℤ} → a <ℤ b → upℤ a + dnℤ b < upℤ b + dnℤ a
read_lt {a} {b} h = lt_is (at a) (at b) h

pub read_eq : {a b : ℤ} → a ≡ b → upℤ a + dnℤ b ≡ upℤ b + dnℤ a
read_eq {a} {b} h = eq_is (at a) (at b) h

pub made_le : {a b : ℤ} → upℤ a + dnℤ b ≤ upℤ b + dnℤ a → a ≤ℤ b
made_le {a} {b} h = is_le (at a) (at b) h

pub made_lt : {a b : ℤ} → upℤ a + dnℤ b < upℤ b + dnℤ a → a <ℤ b
made_lt {a} {b} h = is_lt (at a) (at b) h

pub made_eq : {a b : ℤ} → upℤ a + dnℤ b ≡ upℤ b + dnℤ a → a ≡ b
made_eq {a} {b} h = is_eq (at a) (at b) h

-- of a test, as a branch of code leaves it
pub read_lt_true : (a b : ℤ) → lt_z a b ≡ true → upℤ a + dnℤ b < upℤ b + dnℤ a
read_lt_true a b e = read_lt (lt_true {a = a} {b = b} e)

pub read_lt_false : (a b : ℤ) → lt_z a b ≡ false → upℤ b + dnℤ a ≤ upℤ a + dnℤ b
read_lt_false a b e = read_le (lt_false {a = a} {b = b} e)

pub read_le_true : (a b : ℤ) → le_z a b ≡ true → upℤ a + dnℤ b ≤ upℤ b + dnℤ a
read_le_true a b e = read_le (le_true {a = a} {b = b} e)

pub read_le_false : (a b : ℤ) → le_z a b ≡ false → upℤ b + dnℤ a < upℤ a + dnℤ b
read_le_false a b e = read_lt (le_false {a = a} {b = b} e)

pub made_lt_true : (a b : ℤ) → upℤ a + dnℤ b < upℤ b + dnℤ a → lt_z a b ≡ true
made_lt_true a b h = true_lt (made_lt {a = a} {b = b} h)

pub made_lt_false : (a b : ℤ) → upℤ b + dnℤ a ≤ upℤ a + dnℤ b → lt_z a b ≡ false
made_lt_false a b h = false_lt (made_le {a = b} {b = a} h)

pub made_le_true : (a b : ℤ) → upℤ a + dnℤ b ≤ upℤ b + dnℤ a → le_z a b ≡ true
made_le_true a b h = true_le (made_le {a = a} {b = b} h)

pub made_le_false : (a b : ℤ) → upℤ b + dnℤ a < upℤ a + dnℤ b → le_z a b ≡ false
made_le_false a b h = false_le (made_lt {a = b} {b = a} h)

pub ruleset ints =
    (arith, read_le, read_lt, read_eq, read_lt_true, read_lt_false, read_le_true, read_le_false, made_le, made_lt, made_eq, made_lt_true, made_lt_false, made_le_true, made_le_false)

-- ---- the signs of products
pub mul_pos : {a b : ℤ} → pos 0 <ℤ a → pos 0 <ℤ b → pos 0 <ℤ (a *ℤ b)
mul_pos {a = pos x} {b = pos y} h k = record { lt = lt→ltb 0 (x * y) (Nat.mul-pos (ltb→lt 0 x h.lt) (ltb→lt 0 y k.lt)) }
mul_pos {a = pos x} {b = negsuc y} h k = absurd k.lt
mul_pos {a = negsuc x} {b} h k = absurd h.lt

-- a ≤ b, times what is not negative
pub mul_mono : {a b : ℤ} (c : ℤ) → a ≤ℤ b → pos 0 ≤ℤ c → (a *ℤ c) ≤ℤ (b *ℤ c)
mul_mono {a} {b} (pos z) h k = is_le (at a ⊗ nat z) (at b ⊗ nat z) (omega (arith, mul-le-mul_right z (le_is (at a) (at b) h)))
mul_mono {a} {b} (negsuc z) h k = absurd k.le

-- the other factor of a positive product
pub pos_of_mul : (a b : ℤ) → pos 0 <ℤ a → pos 0 <ℤ (a *ℤ b) → pos 0 <ℤ b
pos_of_mul (pos x) (pos zero) h k = omega (ints, told (nat x ⊗ nat 0))
pos_of_mul (pos x) (pos (suc y)) h k = record { lt = lt→ltb 0 (suc y) (omega arith) }
pos_of_mul (pos x) (negsuc y) h k = omega (ints, told (nat x ⊗ neg (nat (suc y))))
pos_of_mul (negsuc x) b h k = absurd h.lt
