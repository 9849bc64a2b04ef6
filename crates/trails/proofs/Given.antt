-- One polygon, and a vertex that goes: whether the polygon holds it, and the sides that it gives. Assumes nothing.
use mathlib.Core.Path.{◌≡◌, refl, sym, ap, ◌∙◌}
use mathlib.Core.Bool.{Bool, true, false, cond, ◌||◌}
use mathlib.Core.Logic.{◌≢◌}
use mathlib.Core.List.{List, [], ◌∷◌, ◌++◌, append_assoc, append-nil, map}
use Prim.Native.Nat.{ℕ, ◌+◌, ◌*◌, ◌≤◌, ◌<◌}
use native.Mathlib.Omega.{arith}
use borrow.Author.Tests.{eq-eqb, ne_eqb, lt-ltb}
use lib.Dec.{ltb, eqb}
use Rattle.std.specs.List.{list_any}
use Rattle.std.proofs.Common.{zero-add}
use lib.ListN.{length, get_or, length-append, length-map}
use Rattle.mem.specs.Slice.{splice, splice_nil, splice_append}
use Rattle.mem.specs.Packed.{packed}
use Rattle.mem.specs.Loops.{over, over_turn, over_end}
use Rattle.rules.specs.Lists.{prev, count}
use Rattle.rules.specs.Mesh.{Polygon, polygon_at}
use Rattle.rules.specs.Removal.{holds, untouched_side, side_into, untouched, dropped, dropped_side}
use Rattle.rules.specs.declared.Side.{Side}
use Rattle.laws.proofs.Lists.{map_append}
use Rattle.laws.proofs.Ring.{prev_below}
use Rattle.records.specs.Layout.{polygon_size, polygons_at, most_corners, side_size, side_words, side_records}
use Rattle.records.specs.Values.{corners_of, corners_from, polygon_of, On}
use Rattle.records.specs.Polygons.{length_corners}
use Rattle.records.specs.Corners.{corners_at_lem}
use Rattle.records.specs.Fixed.{side_fixed, fixed_append, fixed_one, fixed_length}
use Rattle.records.specs.declared.polygon.Poly.{Poly}
use Rattle.trails.specs.Sides.{dropped_words, Laid}

-- ---- whether it holds the vertex: whether it is any of its corners

any_count : (v : ℕ) (l : List ℕ) → list_any (λ x. eqb x v) l ≡ ltb 0 (count v l)
unfolding count
any_count v [] = refl
any_count v (x ∷ l) = go (any_count v l) (eqb x v)
  where
    go : list_any (λ y. eqb y v) l ≡ ltb 0 (count v l) → (t : Bool) → (t || list_any (λ y. eqb y v) l) ≡ ltb 0 (cond t 1 0 + count v l)
    go rest true = sym (lt-ltb 0 (1 + count v l) (omega arith))
    go rest false = rest ∙ ap (ltb 0) (sym (zero-add (count v l)))

-- polygon i of the np at o, its corners being looked through in place
pub any_held : (w : List ℕ) (o np i : ℕ) → o + np * polygon_size ≤ length w → i < np → (rem : ℕ)
    → list_any (λ x. eqb x rem) (corners_from w (o + i * polygon_size)) ≡ ltb 0 (holds rem (polygon_at (polygons_at w o np) i))
unfolding holds
any_held w o np i fits h rem = rw (corners_at_lem w o np i fits h) (any_count rem (polygon_at (polygons_at w o np) i).corners)

-- ---- sides in the numbers that hold once the vertex has gone

dropped_append : (rem : ℕ) (xs ys : List Side) → dropped_words rem (xs ++ ys) ≡ dropped_words rem xs ++ dropped_words rem ys
unfolding dropped_words
dropped_append rem xs ys = rw (map_append (dropped_side rem) xs ys) (fixed_append side_fixed (map (dropped_side rem) xs) (map (dropped_side rem) ys))

pub length_dropped : (rem : ℕ) (ss : List Side) → length (dropped_words rem ss) ≡ length ss * side_size
unfolding dropped_words
length_dropped rem ss = fixed_length side_fixed (map (dropped_side rem) ss) ∙ ap (λ (n : ℕ). n * side_size) (length-map ss (dropped_side rem))

pub laid_none : (rem at : ℕ) (w : List ℕ) → Laid rem [] w w at 0
unfolding dropped_words side_records packed
laid_none rem at w = record { count = refl; is = sym (splice_nil w at) }

-- more sides behind those that were written
pub laid_more : {rem : ℕ} {xs ys : List Side} {v w u : List ℕ} {at r k : ℕ} → Laid rem xs v w at r → Laid rem ys w u (at + r * side_size) k
    → Laid rem (xs ++ ys) v u at (r + k)
laid_more {rem} {xs} {ys} {v} {w} {u} {at} {r} {k} a b =
    let l : length (dropped_words rem xs) ≡ r * side_size = length_dropped rem xs ∙ ap (λ (n : ℕ). n * side_size) (sym a.count) in
    record {
      count = rw (length-append xs ys, a.count, b.count);
      is = b.is ∙ rw (a.is, ← l, dropped_append rem xs ys) (splice_append v at (dropped_words rem xs) (dropped_words rem ys));
    }

-- ---- the side that ends at corner j, by its two corners a and b
module _ (rem : ℕ) (p : Poly) (j : ℕ) (l : length p.corners ≡ most_corners) (o : On p j) where
  pub on_prev : {e : ℕ} → e ≡ prev j p.n → On p e
  on_prev q = record { below = rw q (prev_below j p.n o.below); most = o.most }

  pub into : {e a b : ℕ} → e ≡ prev j p.n → a ≡ get_or (corners_of p) e 0 → b ≡ get_or (corners_of p) j 0
      → side_into rem (polygon_of p) j ≡ untouched_side rem (polygon_of p) a b
  unfolding side_into polygon_of
  into q ea eb = rw (length_corners p l o.most, ← q, ea, eb) refl

module _ (rem : ℕ) (p : Polygon) (a b : ℕ) where
  pub touched_start : a ≡ rem → untouched_side rem p a b ≡ []
  unfolding untouched_side
  touched_start h = rw (eq-eqb a rem h) refl

  pub touched_end : a ≢ rem → b ≡ rem → untouched_side rem p a b ≡ []
  unfolding untouched_side
  touched_end n h = rw (ne_eqb a rem n, eq-eqb b rem h) refl

  pub untouched_one : a ≢ rem → b ≢ rem → untouched_side rem p a b ≡ record { start = a; end = b; region = p.region; code = p.code } ∷ []
  unfolding untouched_side
  untouched_one n m = rw (ne_eqb a rem n, ne_eqb b rem m) refl

pub laid_as : {rem : ℕ} {xs ys : List Side} {w u : List ℕ} {at r : ℕ} → xs ≡ ys → Laid rem ys w u at r → Laid rem xs w u at r
laid_as {rem} e d = record { count = d.count ∙ ap length (sym e); is = d.is ∙ rw e refl }

pub laid_one : (rem : ℕ) (p : Poly) (a b at : ℕ) (w : List ℕ) {d e : ℕ} {u : List ℕ} → d ≡ dropped rem a → e ≡ dropped rem b
    → u ≡ splice w at (side_words (record { start = d; end = e; region = p.region; code = p.code }))
    → Laid rem (record { start = a; end = b; region = (polygon_of p).region; code = (polygon_of p).code } ∷ []) w u at 1
unfolding dropped_words dropped_side polygon_of
laid_one rem p a b at w {d} {e} {u} ed ee h =
    let s : Side = record { start = dropped rem a; end = dropped rem b; region = p.region; code = p.code } in
    record { count = refl; is = h ∙ rw (ed, ee, fixed_one side_fixed s) refl }

-- ---- the sides of one polygon, one after the other: those into corners before j are written, and those into j and on are to come
pub record Giving (rem : ℕ) (p : Poly) (v w : List ℕ) (at k j : ℕ) : Type 0 where
  pub given : List Side
  pub same : untouched rem (polygon_of p) ≡ given ++ over [] ◌++◌ (side_into rem (polygon_of p)) j p.n
  pub laid : Laid rem given v w at k
  pub long : length w ≡ length v
  pub room : at + length (untouched rem (polygon_of p)) * side_size ≤ length v

pub giving_none : (rem : ℕ) (p : Poly) (v : List ℕ) (at : ℕ) → length p.corners ≡ most_corners → p.n ≤ most_corners
    → at + length (untouched rem (polygon_of p)) * side_size ≤ length v → Giving rem p v v at 0 0
unfolding untouched polygon_of
giving_none rem p v at l h r = record {
  given = [];
  same = rw (length_corners p l h) refl;
  laid = laid_none rem at v;
  long = refl;
  room = r;
}

module _ {rem : ℕ} {p : Poly} {v w : List ℕ} {at k j : ℕ} (g : Giving rem p v w at k j) where
  module _ (h : j < p.n) where
    turn : untouched rem (polygon_of p) ≡ (g.given ++ side_into rem (polygon_of p) j) ++ over [] ◌++◌ (side_into rem (polygon_of p)) (j + 1) p.n
    turn =
        g.same ∙ ap (λ (x : List Side). g.given ++ x) (over_turn [] ◌++◌ (side_into rem (polygon_of p)) j p.n h)
        ∙ sym (append_assoc g.given (side_into rem (polygon_of p) j) (over [] ◌++◌ (side_into rem (polygon_of p)) (j + 1) p.n))

    pub giving_room : at + k * side_size + length (side_into rem (polygon_of p) j) * side_size ≤ length w
    giving_room =
        let rest = over [] ◌++◌ (side_into rem (polygon_of p)) (j + 1) p.n in
        let s = side_into rem (polygon_of p) j in
        omega (arith, ap length turn, length-append (g.given ++ s) rest, length-append g.given s, g.laid.count, g.long, g.room)

    pub giving_more : {u : List ℕ} {m : ℕ} → Laid rem (side_into rem (polygon_of p) j) w u (at + k * side_size) m → length u ≡ length w
        → Giving rem p v u at (k + m) (j + 1)
    giving_more d l = record {
      given = g.given ++ side_into rem (polygon_of p) j;
      same = turn;
      laid = laid_more g.laid d;
      long = l ∙ g.long;
      room = g.room;
    }

  pub giving_end : p.n ≤ j → Laid rem (untouched rem (polygon_of p)) v w at k
  giving_end h = laid_as {ys = g.given} (g.same ∙ rw (over_end [] ◌++◌ (side_into rem (polygon_of p)) j p.n h) (append-nil g.given)) g.laid
