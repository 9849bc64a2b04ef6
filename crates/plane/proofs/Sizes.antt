-- Coordinates up to 32767, as words and in an i32: what the code makes of them step by step, and what the tests of D's sign read. A difference, a product of
-- two and the difference of two such products fit, by their sizes. Assumes nothing.
use Rattle.std.proofs.Common.{◌≡◌, ℕ, suc, ◌-◌, ◌^◌, ◌<◌, ◌≤◌, eqb, List, get_or, ℤ, pos, negsuc, ◌-ℤ◌, ◌*ℤ◌, refl, lt_of_le_of_lt, arith, lit<, w16, w32, Fits, SFits, to_z, of_z, ne_eqb}
use lib.Signed.{mag}
use Rattle.ints.specs.Order.{within_gap, within_fits}
use Rattle.ints.specs.Machine.{Reads, reads_nat, sub_fits, sub_reads, mul_fits, mul_reads}
use Rattle.rules.specs.Plane.{D, InGrid, is_zero}
use Rattle.rules.specs.declared.Point.{Point}
use Rattle.plane.specs.Points.{point_of, GridWords}
use Rattle.plane.specs.Sizes.{product_size, turn_size}

-- the bits of `m - n` and of `m * n`
abbrev pub less : ℕ → ℕ → ℕ
less m n = of_z w32 (to_z w32 m -ℤ to_z w32 n)

abbrev pub times : ℕ → ℕ → ℕ
times m n = of_z w32 (to_z w32 m *ℤ to_z w32 n)

coordinate : {n : ℕ} → n ≤ 32767 → Reads w32 n (pos n)
coordinate {n} h = reads_nat (omega arith)

-- the difference of two coordinates
module _ {m n : ℕ} (h : m ≤ 32767) (k : n ≤ 32767) where
  gap_fits : SFits w32 (pos m -ℤ pos n)
  gap_fits = within_fits (lit< tt) (within_gap h k)

  pub gap_needs : SFits w32 (to_z w32 m -ℤ to_z w32 n)
  gap_needs = sub_fits (coordinate h) (coordinate k) gap_fits

  gap_reads : Reads w32 (less m n) (pos m -ℤ pos n)
  gap_reads = sub_reads (coordinate h) (coordinate k) gap_fits

-- the product of two differences
module _ {a b c d : ℕ} (h : a ≤ 32767) (k : b ≤ 32767) (i : c ≤ 32767) (j : d ≤ 32767) where
  product_fits : SFits w32 ((pos a -ℤ pos b) *ℤ (pos c -ℤ pos d))
  product_fits = within_fits (lit< tt) (product_size h k i j)

  pub product_needs : SFits w32 (to_z w32 (less a b) *ℤ to_z w32 (less c d))
  product_needs = mul_fits (gap_reads h k) (gap_reads i j) product_fits

  product_reads : Reads w32 (times (less a b) (less c d)) ((pos a -ℤ pos b) *ℤ (pos c -ℤ pos d))
  product_reads = mul_reads (gap_reads h k) (gap_reads i j) product_fits

-- the difference of two such products
module _ {a b c d e f g h : ℕ} (ha : a ≤ 32767) (hb : b ≤ 32767) (hc : c ≤ 32767) (hd : d ≤ 32767) (he : e ≤ 32767) (hf : f ≤ 32767) (hg : g ≤ 32767)
    (hh : h ≤ 32767) where
  turn_fits : SFits w32 ((pos a -ℤ pos b) *ℤ (pos c -ℤ pos d) -ℤ (pos e -ℤ pos f) *ℤ (pos g -ℤ pos h))
  turn_fits = within_fits (lit< tt) (turn_size ha hb hc hd he hf hg hh)

  pub turn_needs : SFits w32 (to_z w32 (times (less a b) (less c d)) -ℤ to_z w32 (times (less e f) (less g h)))
  turn_needs = sub_fits (product_reads ha hb hc hd) (product_reads he hf hg hh) turn_fits

  turn_reads : Reads w32 (less (times (less a b) (less c d)) (times (less e f) (less g h)))
      ((pos a -ℤ pos b) *ℤ (pos c -ℤ pos d) -ℤ (pos e -ℤ pos f) *ℤ (pos g -ℤ pos h))
  turn_reads = sub_reads (product_reads ha hb hc hd) (product_reads he hf hg hh) turn_fits

-- D of three points
module _ {a b c : Point} (A : InGrid a) (B : InGrid b) (C : InGrid c) where
  pub D-reads : Reads w32 (less (times (less b.x a.x) (less c.z a.z)) (times (less c.x a.x) (less b.z a.z))) (D a b c)
  unfolding D
  D-reads = turn_reads B.x_small A.x_small C.z_small A.z_small C.x_small A.x_small B.z_small A.z_small

-- the 0 that a sign is tested against
pub nought : Reads w32 0 (pos 0)
nought = reads_nat (lit< tt)

-- `== 0` compares bits
pub zero_test : (z : ℤ) → mag z < 2 ^ 31 → eqb (of_z w32 z) 0 ≡ is_zero z
zero_test (pos n) f = refl
zero_test (negsuc n) f = ne_eqb (2 ^ 32 - suc n) 0 (λ (e : 2 ^ 32 - suc n ≡ 0). omega arith)

-- words that are coordinates
pub on_grid : {ws : List ℕ} → GridWords ws → (k : ℕ) → InGrid (point_of ws k)
unfolding point_of
on_grid g k = record { x_small = g.small _; z_small = g.small _ }

pub word_fits : {ws : List ℕ} → GridWords ws → (k : ℕ) → Fits w16 (get_or ws k 0)
word_fits g k = record { fits = lt_of_le_of_lt (g.small k) (lit< tt) }
