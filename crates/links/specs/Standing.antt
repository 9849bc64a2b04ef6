-- What stands in the edges' tables: read back, written again, and next to other words. Assumes nothing.
-- Key: `standing_now`: tables that hold the records es give them back; `edged_again`: written again, only the last writing shows.
use Rattle.std.specs.Prelude.{◌≡◌, refl, List, [], ℕ, ◌+◌, ◌*◌, ◌≤◌, length, replicate}
use Rattle.std.proofs.Common.{sym, ap, ◌∙◌, arith, le_refl}
use Rattle.mem.specs.Shelves.{Shelves, shelved, length_shelved, shelf_first, shelf_second, shelf_third, shelved_same, shelved_again}
use Rattle.mem.specs.Slice.{view, splice, splice_nil, splice_view, view_before}
use Rattle.mem.specs.Tab.{tab_cong, blocks}
use Rattle.mem.specs.Loops.{block_fits}
use Rattle.mem.specs.Packed.{packed}
use Rattle.mem.specs.Chain.{firsts, nexts, length_firsts, length_nexts, firsts_none, nexts_none}
use Rattle.rules.specs.declared.Edge.{Edge}
use Rattle.records.specs.Layout.{polygon_size, polygon_in, polygons_at, edge_size, edges_at, edge_records}
use Rattle.records.specs.Fixed.{edge_fixed, fixed_count, fixed_length, fixed_are}
use Rattle.links.specs.declared.edges.EdgeTables.{EdgeTables}
use Rattle.links.specs.Tables.{low_of, edged, Room, Edged}

pub length_edged : (w : List ℕ) (t : EdgeTables) (nv : ℕ) (es : List Edge) → length (edged w t nv es) ≡ length w
unfolding edged
length_edged w t nv es = length_shelved w t.firsts _ t.edges _ t.nexts _

-- ---- each table by itself
pub record Holds (w : List ℕ) (t : EdgeTables) (nv : ℕ) (es : List Edge) : Type 0 where
  pub firsts : view w t.firsts nv ≡ firsts (low_of es) nv (length es)
  pub edges : view w t.edges (length es * edge_size) ≡ edge_records es
  pub nexts : view w t.nexts (length es) ≡ nexts (low_of es) (length es)

pub less_room : {w : List ℕ} {t : EdgeTables} {nv m n : ℕ} → m ≤ n → Room w t nv n → Room w t nv m
less_room h r = record {
  firsts = r.firsts;
  edges = omega (arith, r.edges);
  nexts = omega (arith, r.nexts);
  few = omega (arith, r.few);
}

pub same_room : {w u : List ℕ} {t : EdgeTables} {nv n : ℕ} → length u ≡ length w → Room w t nv n → Room u t nv n
same_room e r = record { firsts = r.firsts; edges = r.edges; nexts = omega (arith, r.nexts); few = r.few }

module _ (t : EdgeTables) (nv : ℕ) (es : List Edge) where
  F : List ℕ
  F = firsts (low_of es) nv (length es)

  R : List ℕ
  R = edge_records es

  N : List ℕ
  N = nexts (low_of es) (length es)

  long_F : length F ≡ nv
  unfolding F
  long_F = length_firsts (low_of es) nv (length es)

  long_R : length R ≡ length es * edge_size
  unfolding R
  long_R = fixed_length edge_fixed es

  long_N : length N ≡ length es
  unfolding N
  long_N = length_nexts (low_of es) nv (length es)

  shelves : (w : List ℕ) → Room w t nv (length es) → Shelves w t.firsts nv t.edges (length es * edge_size) t.nexts (length es)
  shelves w r = record { second = r.firsts; third = r.edges; end = r.nexts }

  pub holds_of : (w : List ℕ) {u : List ℕ} → u ≡ edged w t nv es → Room w t nv (length es) → Holds u t nv es
  unfolding edged F R N
  holds_of w e r =
      rw e (record {
        firsts = shelf_first w t.firsts nv F t.edges (length es * edge_size) R t.nexts (length es) N (shelves w r) long_F long_R long_N;
        edges = shelf_second w t.firsts nv F t.edges (length es * edge_size) R t.nexts (length es) N (shelves w r) long_F long_R long_N;
        nexts = shelf_third w t.firsts nv F t.edges (length es * edge_size) R t.nexts (length es) N (shelves w r) long_F long_R long_N;
      })

  -- tables that hold them are written again
  pub edged_of : {w : List ℕ} → Holds w t nv es → w ≡ edged w t nv es
  unfolding edged
  edged_of {w} h = shelved_same w t.firsts nv t.edges (length es * edge_size) t.nexts (length es) h.firsts h.edges h.nexts

  -- what stands in the tables
  module _ {w : List ℕ} (h : Holds w t nv es) (ne : ℕ) (size : length es ≡ ne) (r : Room w t nv ne) where
    pub edges_now : edges_at w t.edges ne ≡ es
    edges_now =
        fixed_are edge_fixed w t.edges ne es (sym (splice_view w t.edges (length es * edge_size)) ∙ ap (splice w t.edges) h.edges) size
        (omega (arith, r.edges, r.nexts))

    pub standing_now : Edged w t nv ne
    standing_now = record { room = r; is = rw edges_now (edged_of h) }

pub holds_now : {w : List ℕ} {t : EdgeTables} {nv ne : ℕ} → Edged w t nv ne → Holds w t nv (edges_at w t.edges ne)
holds_now {w} {t} {nv} {ne} s = holds_of t nv (edges_at w t.edges ne) w s.is (rw (fixed_count edge_fixed w t.edges ne) s.room)

-- ---- written again, with at least as many records
pub edged_again : (w : List ℕ) (t : EdgeTables) (nv : ℕ) (es fs : List Edge) → length es ≤ length fs → Room w t nv (length fs)
    → edged (edged w t nv es) t nv fs ≡ edged w t nv fs
unfolding edged F R N
edged_again w t nv es fs h r =
    shelved_again w t.firsts nv (F t nv fs) t.edges (length fs * edge_size) (R t nv fs) t.nexts (length fs) (N t nv fs)
    (shelves t nv fs w r) (long_F t nv fs) (long_R t nv fs) (long_N t nv fs) (F t nv es) (R t nv es) (N t nv es)
    (omega (arith, long_F t nv es)) (omega (arith, long_R t nv es)) (omega (arith, long_N t nv es))

-- words before the tables
pub edged_before : (w : List ℕ) (t : EdgeTables) (nv : ℕ) (es : List Edge) (o n : ℕ) → o + n ≤ t.firsts → Room w t nv (length es)
    → view (edged w t nv es) o n ≡ view w o n
unfolding edged shelved F R N
edged_before w t nv es o n h r =
    let x = splice w t.firsts (F t nv es) in
    view_before (splice x t.edges (R t nv es)) t.nexts o n (N t nv es) (omega (arith, r.firsts, r.edges))
    ∙ view_before x t.edges o n (R t nv es) (omega (arith, r.firsts))
    ∙ view_before w t.firsts o n (F t nv es) h

-- polygons there
pub polygons_kept : (w : List ℕ) (t : EdgeTables) (nv : ℕ) (es : List Edge) (o np : ℕ) → o + np * polygon_size ≤ t.firsts → Room w t nv (length es)
    → polygons_at (edged w t nv es) o np ≡ polygons_at w o np
unfolding polygons_at blocks
polygons_kept w t nv es o np h r =
    tab_cong _ _ np (λ i a. ap polygon_in (edged_before w t nv es (o + i * polygon_size) polygon_size
    (omega (arith, block_fits i np polygon_size (np * polygon_size) a (le_refl (np * polygon_size)))) r))

-- ---- no record yet: every first word is 0
no_records : edge_records [] ≡ []
unfolding edge_records packed
no_records = refl

pub edged_none : (w : List ℕ) (t : EdgeTables) (nv : ℕ) → splice w t.firsts (replicate nv 0) ≡ edged w t nv []
unfolding edged shelved
edged_none w t nv =
    let x = splice w t.firsts (replicate nv 0) in
    rw (firsts_none (low_of []) nv, no_records, nexts_none (low_of []), splice_nil x t.edges) (sym (splice_nil x t.nexts))
