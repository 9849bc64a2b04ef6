-- A row after a join: whether it is stale, and what it is if it isn't. Assumes nothing.
use mathlib.Core.Path.{◌≡◌, refl, sym, ap, ◌∙◌}
use mathlib.Core.Bool.{Bool, true, false}
use mathlib.Core.List.{List}
use Prim.Native.Nat.{ℕ, ◌+◌, ◌-◌, ◌*◌, ◌≤◌, ◌<◌}
use native.Mathlib.Omega.{arith}
use borrow.Author.Tests.{lt-ltb, le-ltb}
use lib.ListN.{length}
use Rattle.mem.specs.Slice.{splice, splice_view}
use Rattle.rules.specs.Mesh.{Polygon, polygon_at}
use Rattle.rules.specs.Merge.{merge_value}
use Rattle.rules.specs.declared.Pair.{Pair}
use Rattle.laws.specs.Rows.{row_of, is_moved, is_reached, is_rival, is_stale}
use Rattle.laws.proofs.Rows.{still, polygon_stays, row_stays}
use Rattle.laws.specs.Stamps.{stamp_of}
use Rattle.records.specs.Layout.{vertices_at, polygons_at}
use Rattle.records.specs.Polygons.{length_polygons}
use Rattle.polys.specs.declared.field.Field.{Field}
use Rattle.polys.specs.Rows.{row_size, row_record, row_in, stamp_in, Stamped, Renewable, AllRenewable}
use Rattle.polys.proofs.Keeps.{length_read, second_read, stamp_read, Keeping, kept_behind}

-- ---- whether a pair reaches a row

module _ {w : List ℕ} {F : Field} {r s : ℕ} (k : Stamped w F r s) (q l : ℕ) where
  pub reached_before : q ≤ r → is_reached (vertices_at w F.vertices.at F.vertices.n) F.nvp (polygons_at w F.polygons.at F.polygons.n) r q l ≡ false
  unfolding is_reached
  reached_before h = rw (le-ltb r q h)

  pub reached_past : r < q → F.polygons.n ≤ q → is_reached (vertices_at w F.vertices.at F.vertices.n) F.nvp (polygons_at w F.polygons.at F.polygons.n) r q l ≡ false
  unfolding is_reached
  reached_past d h = rw (lt-ltb r q d, le-ltb q (length (polygons_at w F.polygons.at F.polygons.n)) (omega (arith, length_polygons w F.polygons.at F.polygons.n)))

  pub reached_if : {m : Pair} {t : Bool} → r < q → q < F.polygons.n → m ≡ merge_value (vertices_at w F.vertices.at F.vertices.n) F.nvp (polygons_at w F.polygons.at F.polygons.n) r q → t ≡ is_rival l m
      → t ≡ is_reached (vertices_at w F.vertices.at F.vertices.n) F.nvp (polygons_at w F.polygons.at F.polygons.n) r q l
  unfolding is_reached
  reached_if d h e f = f ∙ rw (e, lt-ltb r q d, lt-ltb q (length (polygons_at w F.polygons.at F.polygons.n)) (omega (arith, length_polygons w F.polygons.at F.polygons.n)))

-- ---- a row after a join

module _ {w : List ℕ} {F : Field} {a b r : ℕ} (g : Renewable w F a b r) where
  long : length (polygons_at w F.polygons.at F.polygons.n) ≡ F.polygons.n
  long = length_polygons w F.polygons.at F.polygons.n

  -- whether it is stale
  module _ (m : Pair) {t : Bool} (e : t ≡ is_moved r m.b a b F.polygons.n) where
    moved_is : is_moved r m.b a b (length (polygons_at w F.polygons.at F.polygons.n)) ≡ t
    moved_is = ap (is_moved r m.b a b) long ∙ sym e

    pub stale_moved : t ≡ true → true ≡ is_stale (vertices_at w F.vertices.at F.vertices.n) F.nvp (polygons_at w F.polygons.at F.polygons.n) a b r m.length m.b
    unfolding is_stale
    stale_moved z = rw (moved_is, z) refl

    pub stale_first : {u : Bool} → t ≡ false → u ≡ is_reached (vertices_at w F.vertices.at F.vertices.n) F.nvp (polygons_at w F.polygons.at F.polygons.n) r a m.length → u ≡ true
        → true ≡ is_stale (vertices_at w F.vertices.at F.vertices.n) F.nvp (polygons_at w F.polygons.at F.polygons.n) a b r m.length m.b
    unfolding is_stale
    stale_first z f y = rw (moved_is, z, ← f, y) refl

    pub stale_second : {u v : Bool} → t ≡ false → u ≡ is_reached (vertices_at w F.vertices.at F.vertices.n) F.nvp (polygons_at w F.polygons.at F.polygons.n) r a m.length → u ≡ false
        → v ≡ is_reached (vertices_at w F.vertices.at F.vertices.n) F.nvp (polygons_at w F.polygons.at F.polygons.n) r b m.length
        → v ≡ is_stale (vertices_at w F.vertices.at F.vertices.n) F.nvp (polygons_at w F.polygons.at F.polygons.n) a b r m.length m.b
    unfolding is_stale
    stale_second z f y d = rw (moved_is, z, ← f, y) d

    -- a polygon that neither changed nor moved has the stamp of its row
    pub renew_stamped : {s : ℕ} → t ≡ false → s ≡ stamp_in w F.rows r → Stamped w F r s
    renew_stamped z f =
        let u = still r m.b a b F.polygons.n (sym e ∙ z) in
        let p : polygon_at (polygons_at w F.polygons.at F.polygons.n) r ≡ polygon_at g.ps r = g.after.same r (omega (arith, long, g.below)) u.r_a u.r_b in
        record { kept = g.kept; below = g.below; is = f ∙ stamp_read g.at ∙ ap (λ (x : Polygon). stamp_of x.corners) (sym p) }

  -- a row that is not stale stands as it should
  pub renew_not : {m : Pair} {t : Bool} → m ≡ row_in w F.rows r → t ≡ is_stale (vertices_at w F.vertices.at F.vertices.n) F.nvp (polygons_at w F.polygons.at F.polygons.n) a b r m.length m.b → t ≡ false
      → w ≡ splice w (F.rows + r * row_size) (row_record (vertices_at w F.vertices.at F.vertices.n) F.nvp (polygons_at w F.polygons.at F.polygons.n) r)
  unfolding row_record
  renew_not {m} {t} e f z =
      let vs = vertices_at w F.vertices.at F.vertices.n in
      let qs = polygons_at w F.polygons.at F.polygons.n in
      let ml : m.length ≡ (row_of vs F.nvp g.ps r).length = ap (λ (x : Pair). x.length) e ∙ length_read g.at in
      let mb : m.b ≡ (row_of vs F.nvp g.ps r).b = ap (λ (x : Pair). x.b) e ∙ second_read g.at in
      let y : is_stale vs F.nvp qs a b r (row_of vs F.nvp g.ps r).length (row_of vs F.nvp g.ps r).b ≡ false = rw (ml, mb) at (sym f ∙ z) in
      let h : r < length qs = omega (arith, long, g.below) in
      let same : row_record vs F.nvp g.ps r ≡ row_record vs F.nvp qs r =
      rw (row_stays vs F.nvp g.ps qs a b r g.after h y, polygon_stays vs F.nvp g.ps qs a b r g.after h y) refl in
      sym (splice_view w (F.rows + r * row_size) row_size) ∙ ap (splice w (F.rows + r * row_size)) (g.at.is ∙ same)

-- the rows from r on are renewed: the one before them can be
pub renewable_at : {w₀ : List ℕ} {F : Field} {a b : ℕ} (g : AllRenewable w₀ F a b) {w : List ℕ} {r : ℕ}
    → Keeping w₀ F w r → 0 < r → Renewable w F a b (r - 1)
renewable_at g {w} {r} k some = record {
  kept = kept_behind k some;
  below = omega (arith, k.most);
  ps = g.ps;
  after = rw k.polygons g.after;
  at = record { is = k.below (r - 1) (omega arith) ∙ rw k.vertices (g.at (r - 1) (omega (arith, k.most))).is };
}
