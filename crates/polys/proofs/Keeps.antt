-- The kept rows in the buffer: their words, one row after the other from the last one down, and the best pair from them. Assumes nothing.
-- Key: `keeping_more`: a row more is kept, and nothing else has changed; `row_read`: what is read of a row is the row, against the best so far.
use mathlib.Core.Path.{◌≡◌, refl, sym, ap, ◌∙◌}
use mathlib.Core.Bool.{Bool, true}
use mathlib.Core.Logic.{⊎_elim, ◌≢◌}
use mathlib.Core.List.{List, [], ◌∷◌}
use Prim.Native.Nat.{ℕ, ◌+◌, ◌-◌, ◌*◌, ◌≤◌, ◌<◌}
use native.Mathlib.Omega.{arith}
use borrow.Author.Tests.{eqb-true}
use lib.Bits.{bit_and}
use lib.Dec.{eqb}
use lib.ListN.{length, get_or, set, replicate, length-replicate}
use Rattle.mem.specs.Cases.{lt_or_le, eq_or_ne}
use Rattle.mem.specs.Slice.{splice, length_splice, view_before, view_after, view_same, get_or_view, set_each, stored_each}
use Rattle.mem.specs.Tab.{blocks_after}
use Rattle.mem.specs.Zeros.{swallowed}
use Rattle.rules.specs.Mesh.{Polygon, polygon_at}
use Rattle.rules.specs.Merge.{no_pair, merge_value, greater}
use Rattle.rules.specs.declared.Vertex.{Vertex}
use Rattle.rules.specs.declared.Pair.{Pair}
use Rattle.laws.proofs.Longest.{greater_first}
use Rattle.laws.specs.Rows.{row_of, row_against}
use Rattle.laws.proofs.Rows.{row_is}
use Rattle.laws.specs.Stamps.{stamp_of}
use Rattle.laws.proofs.Stamps.{apart_value}
use Rattle.records.specs.Layout.{vertex_size, polygon_size, vertex_in, polygon_in, vertices_at, polygons_at}
use Rattle.records.specs.Values.{corners_from}
use Rattle.records.specs.Polygons.{length_polygons}
use Rattle.polys.specs.declared.field.Field.{Field}
use Rattle.polys.specs.Rows.{row_size, row_words, row_record, row_at, row_in, stamp_in, wiped, RowIs, RowsReady, RowsReadyIn, RowFits, KeptFrom, Stamped, RowsKept}
use Rattle.polys.proofs.Values.{small_at, corners_in_lem}

-- ---- a row's words

pub row_stored : (w : List ℕ) (at : ℕ) (m : Pair) (s : ℕ)
    → set (set (set (set (set w at m.length) (at + 1) m.b) (at + 2) m.ea) (at + 3) m.eb) (at + 4) s ≡ splice w at (row_words m s)
unfolding row_words set_each
row_stored w at m s = stored_each w at m.length (m.b ∷ m.ea ∷ m.eb ∷ s ∷ [])

record_long : (vs : List Vertex) (nvp : ℕ) (ps : List Polygon) (r : ℕ) → length (row_record vs nvp ps r) ≡ row_size
unfolding row_record row_words
record_long vs nvp ps r = refl

-- a word of a row that is m with the stamp s
word_of : (w : List ℕ) (ro r : ℕ) (xs : List ℕ) (i : ℕ) → row_at w ro r ≡ xs → i < row_size → get_or w (ro + r * row_size + i) 0 ≡ get_or xs i 0
word_of w ro r xs i e h = sym (get_or_view w (ro + r * row_size) row_size i 0 h) ∙ ap (λ (l : List ℕ). get_or l i 0) e

pair_is : (m : Pair) (l a b i j : ℕ) → l ≡ m.length → a ≡ m.a → b ≡ m.b → i ≡ m.ea → j ≡ m.eb
    → ◌≡◌ {A = Pair} (record { length = l; a = a; b = b; ea = i; eb = j }) m
pair_is m l a b i j el ea eb ei ej = rw (el, ea, eb, ei, ej) refl

module _ {w : List ℕ} {ro r nvp : ℕ} {vs : List Vertex} {ps : List Polygon} (e : RowIs w ro r vs nvp ps) where
  pub length_read : (row_in w ro r).length ≡ (row_of vs nvp ps r).length
  unfolding row_in row_record row_words
  length_read = ap (λ (k : ℕ). get_or w k 0) (omega arith) ∙ word_of w ro r (row_record vs nvp ps r) 0 e.is (omega arith)

  pub second_read : (row_in w ro r).b ≡ (row_of vs nvp ps r).b
  unfolding row_in row_record row_words
  second_read = word_of w ro r (row_record vs nvp ps r) 1 e.is (omega arith)

  pub stamp_read : stamp_in w ro r ≡ stamp_of (polygon_at ps r).corners
  unfolding row_record row_words
  stamp_read = word_of w ro r (row_record vs nvp ps r) 4 e.is (omega arith)

  pair_read : (row_of vs nvp ps r).a ≡ r → row_in w ro r ≡ row_of vs nvp ps r
  unfolding row_in row_record row_words
  pair_read own =
      pair_is (row_of vs nvp ps r) _ _ _ _ _ length_read (sym own) second_read (word_of w ro r (row_record vs nvp ps r) 2 e.is (omega arith))
      (word_of w ro r (row_record vs nvp ps r) 3 e.is (omega arith))

  -- what is read of a row is the row, against the best so far
  pub row_read : (s : Pair) {m : Pair} → r < length ps → m ≡ row_in w ro r → greater s m ≡ row_against vs nvp ps r s
  unfolding row_against
  row_read s {m} h f =
      let y = row_of vs nvp ps r in
      ⊎_elim
      (λ (l : s.length < y.length). ap (greater s) (f ∙ pair_read ((row_is vs nvp ps r h).first (omega arith))))
      (λ (l : y.length ≤ s.length). greater_first s m (omega (arith, ap (λ (x : Pair). x.length) f, length_read)) ∙ sym (greater_first s y l))
      (lt_or_le s.length y.length)

-- ---- words behind the polygons are written

module _ {w : List ℕ} {vo nv o np nvp ro : ℕ} (ready : RowsReady w vo nv o np nvp ro) {v : List ℕ} (at : ℕ) (xs : List ℕ) (far : ro ≤ at)
    (e : v ≡ splice w at xs) where
  pub vertices_under : vertices_at v vo nv ≡ vertices_at w vo nv
  unfolding vertices_at
  vertices_under = rw e (blocks_after vertex_in w at vo vertex_size nv xs (omega (arith, ready.ready.behind, ready.behind)))

  pub polygons_under : polygons_at v o np ≡ polygons_at w o np
  unfolding polygons_at
  polygons_under = rw e (blocks_after polygon_in w at o polygon_size np xs (omega (arith, ready.behind)))

  pub size_under : length v ≡ length w
  size_under = ap length e ∙ length_splice w at xs

  pub ready_under : RowsReady v vo nv o np nvp ro
  ready_under = record {
    ready = record {
      placed = record { fits = omega (arith, size_under, ready.ready.placed.fits); grid = rw vertices_under ready.ready.placed.grid };
      behind = ready.ready.behind;
      fits = omega (arith, size_under, ready.ready.fits);
      most = ready.ready.most;
      good = rw polygons_under ready.ready.good;
    };
    behind = ready.behind;
    room = omega (arith, size_under, ready.room);
    few = ready.few;
  }

-- ---- one row after the other, from the last one down

-- fewer rows are asked for
kept_fewer : {w : List ℕ} {F : Field} {f : ℕ} (g : ℕ) → f ≤ g → KeptFrom w F f → KeptFrom w F g
kept_fewer g h k = record { rows = k.rows; at = λ r l m. k.at r (omega arith) m }

-- the rows from r on are kept, those below are as they were, and so is every other word
pub record Keeping (w₀ : List ℕ) (F : Field) (w : List ℕ) (r : ℕ) : Type 0 where
  pub kept : KeptFrom w F r
  pub below : (q : ℕ) → q < r → row_at w F.rows q ≡ row_at w₀ F.rows q
  pub same : wiped w F.rows F.polygons.n ≡ wiped w₀ F.rows F.polygons.n
  pub vertices : vertices_at w F.vertices.at F.vertices.n ≡ vertices_at w₀ F.vertices.at F.vertices.n
  pub polygons : polygons_at w F.polygons.at F.polygons.n ≡ polygons_at w₀ F.polygons.at F.polygons.n
  pub size : length w ≡ length w₀
  pub most : r ≤ F.polygons.n

pub keeping_begin : {w : List ℕ} {F : Field} → RowsReadyIn w F → Keeping w F w F.polygons.n
keeping_begin ready = record {
  kept = record { rows = ready; at = λ r f h. absurd (omega arith) };
  below = λ q h. refl;
  same = refl;
  vertices = refl;
  polygons = refl;
  size = refl;
  most = omega arith;
}

module _ {w₀ : List ℕ} {F : Field} {w : List ℕ} {r : ℕ} (g : Keeping w₀ F w r) (some : 0 < r) where
  pub kept_behind : KeptFrom w F (r - 1 + 1)
  kept_behind = kept_fewer (r - 1 + 1) (omega arith) g.kept

  module _ {v : List ℕ} (e : v ≡ splice w (F.rows + (r - 1) * row_size) (row_record (vertices_at w F.vertices.at F.vertices.n) F.nvp (polygons_at w F.polygons.at F.polygons.n) (r - 1))) where
    row : List ℕ
    row = row_record (vertices_at w F.vertices.at F.vertices.n) F.nvp (polygons_at w F.polygons.at F.polygons.n) (r - 1)

    long : length row ≡ row_size
    unfolding row
    long = record_long (vertices_at w F.vertices.at F.vertices.n) F.nvp (polygons_at w F.polygons.at F.polygons.n) (r - 1)

    room : F.rows + F.polygons.n * row_size ≤ length w
    room = g.kept.rows.room

    wiped_on : wiped v F.rows F.polygons.n ≡ wiped w F.rows F.polygons.n
    unfolding wiped row
    wiped_on = rw e (swallowed w F.rows ((r - 1) * row_size) row (replicate (F.polygons.n * row_size) 0)
        (omega (arith, long, length-replicate {A = ℕ} (F.polygons.n * row_size) 0, g.most)) (omega (arith, length-replicate {A = ℕ} (F.polygons.n * row_size) 0, room)))

    vertices_on : vertices_at v F.vertices.at F.vertices.n ≡ vertices_at w F.vertices.at F.vertices.n
    vertices_on = vertices_under g.kept.rows (F.rows + (r - 1) * row_size) _ (omega arith) e

    polygons_on : polygons_at v F.polygons.at F.polygons.n ≡ polygons_at w F.polygons.at F.polygons.n
    polygons_on = polygons_under g.kept.rows (F.rows + (r - 1) * row_size) _ (omega arith) e

    row_on : row_at v F.rows (r - 1) ≡ row
    unfolding row
    row_on = rw e (view_same w (F.rows + (r - 1) * row_size) row_size row long (omega (arith, room, g.most)))

    others_on : (q : ℕ) → r ≤ q → row_at v F.rows q ≡ row_at w F.rows q
    unfolding row
    others_on q h = rw e (view_after w (F.rows + (r - 1) * row_size) (F.rows + q * row_size) row_size row (omega (arith, long)))

    pub keeping_more : Keeping w₀ F v (r - 1)
    unfolding row
    keeping_more = record {
      kept = record {
        rows = ready_under g.kept.rows (F.rows + (r - 1) * row_size) _ (omega arith) e;
        at = λ q h k. rw (vertices_on, polygons_on) (⊎_elim
            (λ (z : q ≡ r - 1). rw z (record { is = row_on }))
            (λ (z : q ≢ r - 1). record { is = others_on q (omega (arith, z)) ∙ (g.kept.at q (omega (arith, z)) k).is })
            (eq_or_ne q (r - 1)));
      };
      below = λ q h. rw e (view_before w (F.rows + (r - 1) * row_size) (F.rows + q * row_size) row_size _ (omega arith)) ∙ g.below q (omega arith);
      same = wiped_on ∙ g.same;
      vertices = vertices_on ∙ g.vertices;
      polygons = polygons_on ∙ g.polygons;
      size = size_under g.kept.rows (F.rows + (r - 1) * row_size) _ (omega arith) e ∙ g.size;
      most = omega (arith, g.most);
    }

pub keeping_end : {w₀ : List ℕ} {F : Field} {w : List ℕ} {r : ℕ} → Keeping w₀ F w r → r ≤ 0 → RowsKept w₀ w F
keeping_end g h = record { kept = kept_fewer 0 h g.kept; same = g.same }

-- ---- a row and its stamp

-- a stamp made of the corners where they stand
pub stamped_of : {w : List ℕ} {F : Field} (r : ℕ) {s : ℕ} → KeptFrom w F (r + 1) → r < F.polygons.n
    → s ≡ stamp_of (corners_from w (F.polygons.at + r * polygon_size)) → Stamped w F r s
stamped_of r k h e = record { kept = k; below = h; is = e ∙ ap stamp_of (corners_in_lem k.rows.ready r h) }

module _ {w : List ℕ} {F : Field} {r s : ℕ} (k : Stamped w F r s) where
  pub stamped_apart : (q t : ℕ) {u : Bool} {m : Pair} → r < q → q < F.polygons.n → t ≡ stamp_in w F.rows q → u ≡ eqb (bit_and s t) 0 → u ≡ true → m ≡ no_pair
      → m ≡ merge_value (vertices_at w F.vertices.at F.vertices.n) F.nvp (polygons_at w F.polygons.at F.polygons.n) r q
  stamped_apart q t h b f e z n =
      let x : t ≡ stamp_of (polygon_at (polygons_at w F.polygons.at F.polygons.n) q).corners = f ∙ stamp_read (k.kept.at q (omega arith) b) in
      let y : bit_and s t ≡ 0 = eqb-true (bit_and s t) 0 (sym e ∙ z) in
      n ∙ sym (apart_value (vertices_at w F.vertices.at F.vertices.n) F.nvp (polygons_at w F.polygons.at F.polygons.n) r q (rw (k.is, x) at y))

  -- the numbers of the pair are words
  pub row_fits : {m : Pair} → m ≡ row_of (vertices_at w F.vertices.at F.vertices.n) F.nvp (polygons_at w F.polygons.at F.polygons.n) r → RowFits w (F.rows + r * row_size) m
  row_fits {m} e =
      let vs = vertices_at w F.vertices.at F.vertices.n in
      let ps = polygons_at w F.polygons.at F.polygons.n in
      let y = row_of vs F.nvp ps r in
      let l = length_polygons w F.polygons.at F.polygons.n in
      let i = row_is vs F.nvp ps r (omega (arith, k.below)) in
      rw e (⊎_elim
      (λ (a : 0 < y.length).
      let j = i.joinable a in
      let p = small_at k.kept.rows.ready y.a (omega (arith, j.order, j.below)) in
      let q = small_at k.kept.rows.ready y.b (omega (arith, j.below)) in
      record {
        room = omega (arith, k.below, k.kept.rows.room);
        second = omega (arith, j.below, k.kept.rows.few);
        side_a = omega (arith, j.side_a, p);
        side_b = omega (arith, j.side_b, q);
      })
      (λ (a : y.length ≤ 0).
      let n = i.none (omega arith) in
      record {
        room = omega (arith, k.below, k.kept.rows.room);
        second = omega (arith, ap (λ (x : Pair). x.b) n);
        side_a = omega (arith, ap (λ (x : Pair). x.ea) n);
        side_b = omega (arith, ap (λ (x : Pair). x.eb) n);
      })
      (lt_or_le 0 y.length))

  pub row_made : {m : Pair} {v : List ℕ} → m ≡ row_of (vertices_at w F.vertices.at F.vertices.n) F.nvp (polygons_at w F.polygons.at F.polygons.n) r → v ≡ splice w (F.rows + r * row_size) (row_words m s)
      → v ≡ splice w (F.rows + r * row_size) (row_record (vertices_at w F.vertices.at F.vertices.n) F.nvp (polygons_at w F.polygons.at F.polygons.n) r)
  unfolding row_record
  row_made e f = f ∙ rw (e, k.is) refl
