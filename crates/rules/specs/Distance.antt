-- "Distance, squared.": from a point to a segment. "16-bit points as f32, one rounding per operation, in the order of math.rs." Definitions only.
use Rattle.std.specs.Prelude.{◌≡◌, cond, ℕ, ◌^◌, ◌<◌, pos, Float}
use Rattle.std.specs.Float.Ieee as Ieee
use Rattle.std.specs.Float.{binary32}
use Rattle.std.specs.Float.Ieee.{lt, of_int}
use Rattle.rules.specs.declared.Point.{Point}

infixl 20 ◌⊕◌
infixl 20 ◌⊖◌
infixl 30 ◌⊗◌
infixl 30 ◌⊘◌
-- a + b, a - b, a * b, a / b in f32, each rounded once
abbrev pub ◌⊕◌ : Float → Float → Float
a ⊕ b = Ieee.add binary32 a b

abbrev pub ◌⊖◌ : Float → Float → Float
a ⊖ b = Ieee.sub binary32 a b

abbrev pub ◌⊗◌ : Float → Float → Float
a ⊗ b = Ieee.mul binary32 a b

abbrev pub ◌⊘◌ : Float → Float → Float
a ⊘ b = Ieee.div binary32 a b

-- +0 and 1
abbrev pub nought : Float
nought = Ieee.of_bits binary32 0

abbrev pub unit : Float
unit = Ieee.of_bits binary32 0x3f80_0000

-- Rust's t.clamp(0.0, 1.0): what is below 0 is +0, what is above 1 is 1, and -0 and a NaN stay
unfoldable pub clamped : Float → Float
clamped t = cond (lt t nought) nought (cond (lt unit t) unit t)

-- math.rs divides t by d only if d is above 0
unfoldable pub scaled_down : Float → Float → Float
scaled_down t d = cond (lt nought d) (t ⊘ d) t

-- x * x + z * z
abbrev pub length_squared : Float → Float → Float
length_squared x z = (x ⊗ x) ⊕ (z ⊗ z)

-- the point (ptx, ptz), the segment from (px, pz) to (qx, qz), all as f32; math.rs's names
unfoldable pub to_segment : Float → Float → Float → Float → Float → Float → Float
unfolding clamped scaled_down
to_segment ptx ptz px pz qx qz =
    let pqx = qx ⊖ px in
    let pqz = qz ⊖ pz in
    let dtx = ptx ⊖ px in
    let dtz = ptz ⊖ pz in
    let d = length_squared pqx pqz in
    let t = clamped (scaled_down ((pqx ⊗ dtx) ⊕ (pqz ⊗ dtz)) d) in
    length_squared ((px ⊕ (t ⊗ pqx)) ⊖ ptx) ((pz ⊕ (t ⊗ pqz)) ⊖ ptz)

-- a 16-bit number as f32
abbrev pub as_float : ℕ → Float
as_float n = of_int binary32 (pos n)

-- from the point pt to the segment from p to q
unfoldable pub distance_squared : Point → Point → Point → Float
unfolding to_segment
distance_squared pt p q = to_segment (as_float pt.x) (as_float pt.z) (as_float p.x) (as_float p.z) (as_float q.x) (as_float q.z)

-- ---- the two exact cases, proved in crate `laws`

-- a point of 16-bit numbers
pub record Short (p : Point) : Type 0 where
  pub x_short : p.x < 2 ^ 16
  pub z_short : p.z < 2 ^ 16

-- "A point equal to the segment's first end is at distance +0"
abbrev pub FirstEnd : Type 0
FirstEnd = (p q : Point) → Short p → Short q → distance_squared p p q ≡ nought

-- "(0,3) to (0,0)-(4,0) gives 9."
abbrev pub Nine : Type 0
Nine = distance_squared (record { x = 0; z = 3 }) (record { x = 0; z = 0 }) (record { x = 4; z = 0 }) ≡ as_float 9
