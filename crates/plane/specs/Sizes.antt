-- How large D is on the grid: a difference of two coordinates is within 32767, a product of two such differences within 32767², and D within twice that.
-- Assumes nothing.
-- Key: `D-within`.
use Rattle.std.specs.Prelude.{ℕ, ◌*◌, ◌≤◌, pos, ◌-ℤ◌, ◌*ℤ◌}
use Rattle.ints.specs.Order.{Within, within_gap, within_mul, within_sub}
use Rattle.rules.specs.Plane.{D, InGrid}
use Rattle.rules.specs.declared.Point.{Point}

-- the product of two differences
pub product_size : {a b c d : ℕ} → a ≤ 32767 → b ≤ 32767 → c ≤ 32767 → d ≤ 32767
    → Within (32767 * 32767) ((pos a -ℤ pos b) *ℤ (pos c -ℤ pos d))
product_size h k i j = within_mul (within_gap h k) (within_gap i j)

-- the difference of two such products
pub turn_size : {a b c d e f g h : ℕ} → a ≤ 32767 → b ≤ 32767 → c ≤ 32767 → d ≤ 32767 → e ≤ 32767 → f ≤ 32767 → g ≤ 32767 → h ≤ 32767
    → Within 2147352578 ((pos a -ℤ pos b) *ℤ (pos c -ℤ pos d) -ℤ (pos e -ℤ pos f) *ℤ (pos g -ℤ pos h))
turn_size ha hb hc hd he hf hg hh = within_sub (product_size ha hb hc hd) (product_size he hf hg hh)

pub D-within : {a b c : Point} → InGrid a → InGrid b → InGrid c → Within 2147352578 (D a b c)
unfolding D
D-within A B C = turn_size B.x_small A.x_small C.z_small A.z_small C.x_small A.x_small B.z_small A.z_small
