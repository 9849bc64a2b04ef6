-- The two exact cases of the distance that `rules` states. A difference of equal whole numbers is +0, a finite value times a zero is a zero, and so the
-- step along the segment is a zero whatever the segment is. Assumes nothing.
-- Key: `first_end`, `nine`.
use Rattle.std.specs.Prelude.{◌≡◌, refl, Bool, true, false, not, cond, ℕ, zero, suc, ◌+◌, ◌-◌, ◌*◌, ◌^◌, ◌≤◌, ◌<◌, ℤ, pos, ltb, Float}
use Rattle.std.proofs.Common.{sym, ap, ◌∙◌, subst, true≢false, le_refl, mul_assoc, mul_comm, mul-one, zero-mul, mul-zero, mul-pos, arith, le-ltb}
use Rattle.std.proofs.Math.Nat.{sub_self, mul-sub}
use Rattle.std.proofs.Math.Dec.{eqb-suc-zero}
use Rattle.std.specs.Float.{nan, inf, fin, binary32}
use Rattle.std.specs.Float.Ieee.{up, down, round, add, sub, mul, div, neg, sum, lt, of_int, of_bits, unlike}
use Rattle.std.specs.Float.Ieee.Fits.{up_pos, down_pos}
use Rattle.std.specs.Float.Ieee.Exact.{HasValue}
use Rattle.std.specs.Float.Ieee.Back.{round_whole}
use Rattle.std.specs.Float.Ieee.Scale.{round_same}
use Rattle.rules.specs.Distance.{distance_squared, to_segment, clamped, scaled_down, as_float, length_squared, nought, FirstEnd, Nine}
use Rattle.laws.specs.Distance.{IsZero, is_zero, IsFinite, is_finite}

-- "(0,3) to (0,0)-(4,0) gives 9."
pub nine : Nine
unfolding distance_squared to_segment clamped scaled_down of_int of_bits add sub mul div neg lt
nine = refl

-- ---- a point equal to the segment's first end

finite_of : (x : Float) (s : Bool) (a c : ℕ) → HasValue x s a c → IsFinite x
finite_of nan s a c v = absurd v
finite_of (inf t) s a c v = absurd v
finite_of (fin t m e) s a c v = is_finite t m e

round_zero : (s : Bool) (den : ℕ) → 0 < den → round binary32 s 0 den ≡ fin s 0 (pos 0)
unfolding round
round_zero s den h = round_same binary32 s 0 den 0 1 h (omega arith) (sym (zero-mul den))

zero_of : (s : Bool) (num den : ℕ) → num ≡ 0 → 0 < den → IsZero (round binary32 s num den)
zero_of s num den e h = subst IsZero (sym (ap (λ (n : ℕ). round binary32 s n den) e ∙ round_zero s den h)) (is_zero s)

-- a whole number n, over any denominator, is held exactly
whole : (s : Bool) (n num den : ℕ) → n ≤ 2 ^ 24 → 0 < den → num ≡ n * den → HasValue (round binary32 s num den) s n 1
whole s n num den small h e =
    subst (λ (x : Float). HasValue x s n 1)
    (sym (round_same binary32 s num den n 1 h (omega arith) (mul-one num ∙ e)))
    (round_whole binary32 s n small)

pub as_whole : (n : ℕ) → n < 2 ^ 16 → HasValue (as_float n) false n 1
unfolding of_int
as_whole n h = round_whole binary32 false n (omega arith)

-- over a common denominator
over : (x a c d : ℕ) → x * 1 ≡ a * c → x * d ≡ a * (c * d)
over x a c d e = ap (λ (y : ℕ). y * d) (sym (mul-one x) ∙ e) ∙ mul_assoc a c d

over' : (x a c d : ℕ) → x * 1 ≡ a * c → x * d ≡ a * (d * c)
over' x a c d e = over x a c d e ∙ ap (λ (y : ℕ). a * y) (mul_comm c d)

less : (a b c x y : ℕ) → x ≡ a * c → y ≡ b * c → x - y ≡ (a - b) * c
less a b c x y e h = rw (e, h) (cc (mul-sub c a b, mul_comm c (a - b), mul_comm c a, mul_comm c b))

same_sub : (m n : ℕ) (e d : ℤ) (a : ℕ) → m * up e * 1 ≡ a * down e → n * up d * 1 ≡ a * down d → sub binary32 (fin false m e) (fin false n d) ≡ fin false 0 (pos 0)
unfolding sub add neg sum
same_sub m n e d a p q =
    let c = down e * down d in
    let x : m * up e * down d ≡ a * c = over (m * up e) a (down e) (down d) p in
    let y : n * up d * down e ≡ a * c = over' (n * up d) a (down d) (down e) q in
    rw (x, y, le-ltb (a * c) (a * c) (le_refl (a * c)), sub_self (a * c)) (round_zero false c (mul-pos (down_pos e) (down_pos d)))

-- the difference of two whole numbers that are equal is +0
pub sub_same : (x y : Float) (a : ℕ) → HasValue x false a 1 → HasValue y false a 1 → sub binary32 x y ≡ fin false 0 (pos 0)
sub_same nan y a v w = absurd v
sub_same (inf t) y a v w = absurd v
sub_same (fin true m e) y a v w = absurd (true≢false v.0)
sub_same (fin false m e) nan a v w = absurd w
sub_same (fin false m e) (inf t) a v w = absurd w
sub_same (fin false m e) (fin true n d) a v w = absurd (true≢false w.0)
sub_same (fin false m e) (fin false n d) a v w = same_sub m n e d a v.1 w.1

either : (t : Bool) (x y : Float) → IsFinite x → IsFinite y → IsFinite (cond t x y)
either true x y p q = p
either false x y p q = q

diff : (m n : ℕ) (e d : ℤ) (a b : ℕ) → a ≤ 2 ^ 24 → b ≤ 2 ^ 24 → m * up e * 1 ≡ a * down e → n * up d * 1 ≡ b * down d → IsFinite (sub binary32 (fin false m e) (fin false n d))
unfolding sub add neg sum
diff m n e d a b l k p q =
    let c = down e * down d in
    let h : 0 < c = mul-pos (down_pos e) (down_pos d) in
    let x : m * up e * down d ≡ a * c = over (m * up e) a (down e) (down d) p in
    let y : n * up d * down e ≡ b * c = over' (n * up d) b (down d) (down e) q in
    either (ltb (m * up e * down d) (n * up d * down e)) _ _
    (finite_of _ true (b - a) 1 (whole true (b - a) _ c (omega arith) h (less b a c _ _ y x)))
    (finite_of _ false (a - b) 1 (whole false (a - b) _ c (omega arith) h (less a b c _ _ x y)))

-- the difference of two whole numbers is finite
pub sub_finite : (x y : Float) (a b : ℕ) → a ≤ 2 ^ 24 → b ≤ 2 ^ 24 → HasValue x false a 1 → HasValue y false b 1 → IsFinite (sub binary32 x y)
sub_finite nan y a b l k v w = absurd v
sub_finite (inf t) y a b l k v w = absurd v
sub_finite (fin true m e) y a b l k v w = absurd (true≢false v.0)
sub_finite (fin false m e) nan a b l k v w = absurd w
sub_finite (fin false m e) (inf t) a b l k v w = absurd w
sub_finite (fin false m e) (fin true n d) a b l k v w = absurd (true≢false w.0)
sub_finite (fin false m e) (fin false n d) a b l k v w = diff m n e d a b l k v.1 w.1

-- a zero times a finite value, either way round
pub mul_zero_r : (x z : Float) → IsFinite x → IsZero z → IsZero (mul binary32 x z)
unfolding mul
mul_zero_r x z (is_finite s m e) (is_zero t) = zero_of _ _ _ (mul-zero (m * up e)) (mul-pos (down_pos e) (omega arith))

pub mul_zero_l : (x z : Float) → IsFinite x → IsZero z → IsZero (mul binary32 z x)
unfolding mul
mul_zero_l x z (is_finite s m e) (is_zero t) = zero_of _ _ _ (zero-mul (m * up e)) (mul-pos (omega arith) (down_pos e))

pub add_zeros : (x y : Float) → IsZero x → IsZero y → IsZero (add binary32 x y)
unfolding add
add_zeros x y (is_zero true) (is_zero true) = is_zero true
add_zeros x y (is_zero true) (is_zero false) = is_zero false
add_zeros x y (is_zero false) (is_zero true) = is_zero false
add_zeros x y (is_zero false) (is_zero false) = is_zero false

pub clamped_zero : (x : Float) → IsZero x → IsZero (clamped x)
unfolding clamped lt of_bits
clamped_zero x (is_zero true) = is_zero true
clamped_zero x (is_zero false) = is_zero false

either_z : (t : Bool) (x y : Float) → IsZero x → IsZero y → IsZero (cond t x y)
either_z true x y p q = p
either_z false x y p q = q

zero_over : (s t : Bool) (n : ℕ) (d : ℤ) → IsZero (div binary32 (fin s 0 (pos 0)) (fin t (suc n) d))
unfolding div
zero_over s t n d =
    subst (λ (b : Bool). IsZero (cond b (cond true nan (inf (unlike s t))) (round binary32 (unlike s t) (0 * down d) (suc n * up d * 1)))) (sym (eqb-suc-zero n))
    (zero_of (unlike s t) _ _ (zero-mul (down d)) (mul-pos {n = 1} (mul-pos {m = suc n} (omega arith) (up_pos d)) (omega arith)))

-- a zero divided by a d above 0, or not divided
pub scaled_zero : (z d : Float) → IsZero z → IsZero (scaled_down z d)
unfolding scaled_down lt div of_bits
scaled_zero z nan (is_zero s) = is_zero s
scaled_zero z (inf t) (is_zero s) = either_z (not t) _ _ (is_zero _) (is_zero s)
scaled_zero z (fin true zero d) (is_zero s) = is_zero s
scaled_zero z (fin false zero d) (is_zero s) = rw (zero-mul (down d), zero-mul (up d)) (is_zero s)
scaled_zero z (fin t (suc n) d) (is_zero s) = either_z (lt nought (fin t (suc n) d)) _ _ (zero_over s t n d) (is_zero s)

plus_nought : (x a d : ℕ) → x * 1 ≡ a * d → x * 1 + 0 * d ≡ a * (d * 1)
plus_nought x a d p = rw (zero-mul d, mul-one d) (omega arith)

less_nought : (x a d : ℕ) → x * 1 ≡ a * d → x * 1 - 0 * d ≡ a * (d * 1)
less_nought x a d p = rw (zero-mul d, mul-one d) (omega arith)

plus : (m : ℕ) (e : ℤ) (z : Float) (a : ℕ) → a ≤ 2 ^ 24 → m * up e * 1 ≡ a * down e → IsZero z → HasValue (add binary32 (fin false m e) z) false a 1
unfolding add sum
plus m e z a l p (is_zero true) =
    let t : ltb (m * up e * 1) (0 * down e) ≡ false = le-ltb _ _ (subst (λ (n : ℕ). n ≤ m * up e * 1) (sym (zero-mul (down e))) (omega arith)) in
    rw t (whole false a (m * up e * 1 - 0 * down e) (down e * 1) l (mul-pos (down_pos e) (omega arith)) (less_nought (m * up e) a (down e) p))
plus m e z a l p (is_zero false) = whole false a (m * up e * 1 + 0 * down e) (down e * 1) l (mul-pos (down_pos e) (omega arith)) (plus_nought (m * up e) a (down e) p)

-- a whole number plus a zero
pub add_zero_whole : (x z : Float) (a : ℕ) → a ≤ 2 ^ 24 → HasValue x false a 1 → IsZero z → HasValue (add binary32 x z) false a 1
add_zero_whole nan z a l v w = absurd v
add_zero_whole (inf t) z a l v w = absurd v
add_zero_whole (fin true m e) z a l v w = absurd (true≢false v.0)
add_zero_whole (fin false m e) z a l v w = plus m e z a l v.1 w

-- one coordinate: t is a zero, and the point is the segment's first end
along : (t pq : Float) (a : ℕ) → a < 2 ^ 16 → IsZero t → IsFinite pq → sub binary32 (add binary32 (as_float a) (mul binary32 t pq)) (as_float a) ≡ fin false 0 (pos 0)
along t pq a h z k = sub_same _ _ a (add_zero_whole (as_float a) _ a (omega arith) (as_whole a h) (mul_zero_l pq t k z)) (as_whole a h)

squares : (u v : Float) → u ≡ fin false 0 (pos 0) → v ≡ fin false 0 (pos 0) → length_squared u v ≡ fin false 0 (pos 0)
squares u v e h = rw (e, h) (unfold add mul in refl)

-- a component of the dot product, whose second factor is a difference of equals
to_zero : (pq : Float) (a : ℕ) → a < 2 ^ 16 → IsFinite pq → IsZero (mul binary32 pq (sub binary32 (as_float a) (as_float a)))
to_zero pq a h k = mul_zero_r pq _ k (subst IsZero (sym (sub_same (as_float a) (as_float a) a (as_whole a h) (as_whole a h))) (is_zero false))

difference : (a b : ℕ) → a < 2 ^ 16 → b < 2 ^ 16 → IsFinite (sub binary32 (as_float a) (as_float b))
difference a b h k = sub_finite (as_float a) (as_float b) a b (omega arith) (omega arith) (as_whole a h) (as_whole b k)

-- "A point equal to the segment's first end is at distance +0", for every segment
pub first_end : FirstEnd
unfolding distance_squared to_segment of_bits
first_end p q hp hq =
    let fx = difference q.x p.x hq.x_short hp.x_short in
    let fz = difference q.z p.z hq.z_short hp.z_short in
    let d = length_squared (sub binary32 (as_float q.x) (as_float p.x)) (sub binary32 (as_float q.z) (as_float p.z)) in
    let t = clamped_zero _ (scaled_zero _ d (add_zeros _ _ (to_zero _ p.x hp.x_short fx) (to_zero _ p.z hp.z_short fz))) in
    squares _ _ (along _ _ p.x hp.x_short t fx) (along _ _ p.z hp.z_short t fz)
