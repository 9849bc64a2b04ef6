-- The box of a segment, and the segments that are apart from it. Definitions, and that they say what the rules' `are_apart` says.
-- Key: `apart_is_apart`.
use Rattle.std.specs.Prelude.{◌≡◌, ℕ, ◌≤◌, Bool, true, false, cond, not, ◌&&◌, ◌||◌, ltb, nat_lt, refl}
use Rattle.std.proofs.Common.{sym, ◌∙◌, ap₂, true≢false, arith, lt-ltb, le-ltb, ltb-true, ltb-false}
use Rattle.rules.specs.declared.Point.{Point}
use Rattle.rules.specs.Plane.{vequal, InGrid}
use Rattle.rules.specs.Boxes.{before, boxes_apart, are_apart}
use Rattle.plane.specs.declared.bounds.Bounds.{Bounds}

unfoldable pub least : ℕ → ℕ → ℕ
least a b = cond (nat_lt a b) a b

unfoldable pub most : ℕ → ℕ → ℕ
most a b = cond (nat_lt b a) a b

-- the box of two points
abbrev pub box_of : Point → Point → Bounds
box_of a b = record { x0 = least a.x b.x; x1 = most a.x b.x; z0 = least a.z b.z; z1 = most a.z b.z }

-- the box of all points that there are
abbrev pub everywhere : Bounds
everywhere = record { x0 = 0; x1 = 65535; z0 = 0; z1 = 65535 }

-- the box of a segment; "A segment of no length takes today's way": nothing lies beside it
unfoldable pub bounds_of : Point → Point → Bounds
bounds_of a b = cond (vequal a b) everywhere (box_of a b)

-- the segment c d lies beyond one side of the box
unfoldable pub is_beside : Bounds → Point → Point → Bool
is_beside t c d =
    (nat_lt t.x1 c.x && nat_lt t.x1 d.x) || (nat_lt c.x t.x0 && nat_lt d.x t.x0)
    || (nat_lt t.z1 c.z && nat_lt t.z1 d.z) || (nat_lt c.z t.z0 && nat_lt d.z t.z0)

-- and has a length
unfoldable pub is_apart : Bounds → Point → Point → Bool
is_apart t c d = is_beside t c d && not (vequal c d)

-- ---- what is beyond the least or the greatest of two numbers is beyond both
-- the test of the chosen one is the test of both, where it brings the other's with it
chosen : (t p q : Bool) → (t ≡ true → p ≡ true → q ≡ true) → (t ≡ false → q ≡ true → p ≡ true) → cond t p q ≡ (p && q)
chosen true true q f g = sym (f refl refl)
chosen true false q f g = refl
chosen false true q f g = refl
chosen false false true f g = absurd (true≢false (sym (g refl refl)))
chosen false false false f g = refl

choose : (f : ℕ → Bool) (t : Bool) (a b : ℕ) → f (cond t a b) ≡ cond t (f a) (f b)
choose f true a b = refl
choose f false a b = refl

below_least : (c a b : ℕ) → nat_lt c (least a b) ≡ (nat_lt c a && nat_lt c b)
unfolding least
below_least c a b =
    choose (ltb c) (nat_lt a b) a b
    ∙ chosen (nat_lt a b) (nat_lt c a) (nat_lt c b)
    (λ (t : ltb a b ≡ true) (h : ltb c a ≡ true). lt-ltb c b (omega (arith, ltb-true a b t, ltb-true c a h)))
    (λ (t : ltb a b ≡ false) (h : ltb c b ≡ true). lt-ltb c a (omega (arith, ltb-false a b t, ltb-true c b h)))

above_most : (c a b : ℕ) → nat_lt (most a b) c ≡ (nat_lt a c && nat_lt b c)
unfolding most
above_most c a b =
    choose (λ n. ltb n c) (nat_lt b a) a b
    ∙ chosen (nat_lt b a) (nat_lt a c) (nat_lt b c)
    (λ (t : ltb b a ≡ true) (h : ltb a c ≡ true). lt-ltb b c (omega (arith, ltb-true b a t, ltb-true a c h)))
    (λ (t : ltb b a ≡ false) (h : ltb b c ≡ true). lt-ltb a c (omega (arith, ltb-false b a t, ltb-true b c h)))

and_across : (p q r s : Bool) → ((p && q) && (r && s)) ≡ ((p && r) && (q && s))
and_across true true r s = refl
and_across true false true s = refl
and_across true false false s = refl
and_across false q true s = refl
and_across false q false s = refl

-- c d behind a b, and before it
behind : (a b c d : ℕ) → (nat_lt (most a b) c && nat_lt (most a b) d) ≡ before a b c d
unfolding before
behind a b c d = ap₂ ◌&&◌ (above_most c a b) (above_most d a b) ∙ and_across (nat_lt a c) (nat_lt b c) (nat_lt a d) (nat_lt b d)

ahead : (a b c d : ℕ) → (nat_lt c (least a b) && nat_lt d (least a b)) ≡ before c d a b
unfolding before
ahead a b c d = ap₂ ◌&&◌ (below_least c a b) (below_least d a b)

last_two : (p q r : Bool) → ((p || q) || r) ≡ (p || (q || r))
last_two true q r = refl
last_two false q r = refl

-- four tests, by the axis
by_axis : {p q r s x y z w : Bool} → p ≡ x → q ≡ y → r ≡ z → s ≡ w → (p || q || r || s) ≡ ((x || y) || (z || w))
by_axis {x} {y} {z} {w} e f g h = rw (e, f, g, h) (last_two (x || y) z w)

beside_box : (a b c d : Point) → is_beside (box_of a b) c d ≡ boxes_apart a b c d
unfolding is_beside boxes_apart
beside_box a b c d =
    by_axis
    (behind a.x b.x c.x d.x)
    (ahead a.x b.x c.x d.x)
    (behind a.z b.z c.z d.z)
    (ahead a.z b.z c.z d.z)

-- nothing lies beside the box of all points
inside : (n m : ℕ) → n ≤ 32767 → ((nat_lt 65535 n && nat_lt 65535 m) ≡ false) × ((nat_lt n 0 && nat_lt m 0) ≡ false)
inside n m h = (rw (le-ltb 65535 n (omega arith)), rw (le-ltb n 0 (omega arith)))

nothing_beside : (c d : Point) → InGrid c → is_beside everywhere c d ≡ false
unfolding is_beside
nothing_beside c d g =
    let x-in = inside c.x d.x g.x_small in
    let z-in = inside c.z d.z g.z_small in
    rw (x-in.0, x-in.1, z-in.0, z-in.1)

swap : (s t : Bool) → (s && not t) ≡ ((true && not t) && s)
swap true true = refl
swap true false = refl
swap false true = refl
swap false false = refl

pub apart_is_apart : (a b c d : Point) → InGrid c → is_apart (bounds_of a b) c d ≡ are_apart a b c d
unfolding is_apart bounds_of are_apart
apart_is_apart a b c d g = go (vequal a b)
  where
    go : (t : Bool) → (is_beside (cond t everywhere (box_of a b)) c d && not (vequal c d)) ≡ ((not t && not (vequal c d)) && boxes_apart a b c d)
    go true = rw (nothing_beside c d g)
    go false = rw (beside_box a b c d) (swap (boxes_apart a b c d) (vequal c d))
