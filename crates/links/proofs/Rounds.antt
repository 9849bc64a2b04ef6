-- Rounds over sides and polygons: after j of n the buffer is the one at the start with the records of R6's state after j in the tables. Assumes nothing.
use Rattle.std.specs.Prelude.{Some, None}
use mathlib.Core.Path.{◌≡◌, refl, sym, ap, ◌∙◌}
use mathlib.Core.List.{List, [], ◌∷◌, ◌++◌}
use Prim.Native.Nat.{ℕ, ◌+◌, ◌*◌, ◌≤◌, ◌<◌}
use native.Mathlib.Omega.{arith}
use borrow.Author.Tests.{lt-ltb, le-ltb}
use lib.ListN.{length, get_or, drop, length-append, length-set, replicate}
use Rattle.mem.specs.Slice.{splice, length_splice}
use Rattle.mem.specs.Loops.{each, Doing, doing_more, doing_end}
use Rattle.rules.specs.Lists.{next}
use Rattle.rules.specs.Mesh.{Polygon, no_polygon, polygon_at, side_start, side_end}
use Rattle.rules.specs.Links.{no_edge, each_side, record_side, newest, joined_to, join_at, join_side, edges_of}
use Rattle.rules.specs.declared.Edge.{Edge}
use Rattle.laws.proofs.Lists.{all_at}
use Rattle.laws.proofs.Ring.{next_below}
use Rattle.records.specs.Layout.{polygon_size, most_corners, polygons_at, edges_at}
use Rattle.records.specs.Values.{corners_of, Loaded, On}
use Rattle.records.specs.Polygons.{loaded_corners, length_corners, length_polygons}
use Rattle.records.specs.Fixed.{edge_fixed, fixed_count}
use Rattle.records.specs.declared.polygon.Poly.{Poly}
use Rattle.links.specs.declared.edges.EdgeTables.{EdgeTables}
use Rattle.links.specs.Tables.{edged, Room, Edged, Rewritten}
use Rattle.links.specs.Ready.{record_of, join_of, each_of, corners_in, InHand, Sides, SidesRecorded, SidesJoined}
use Rattle.links.proofs.Walks.{newest_in}
use Rattle.links.specs.Counts.{corners_left}
use Rattle.links.specs.Standing.{Holds, holds_of, less_room, same_room, length_edged, edges_now, standing_now, edged_again, edged_none, polygons_kept}

-- ---- w is w₀ with the records es in the tables, m of them
pub record Stage (w₀ : List ℕ) (t : EdgeTables) (nv : ℕ) (w : List ℕ) (m : ℕ) (es : List Edge) : Type 0 where
  pub size : length w ≡ length w₀
  pub count : length es ≡ m
  pub is : w ≡ edged w₀ t nv es

module _ (w₀ : List ℕ) (t : EdgeTables) (nv : ℕ) {w : List ℕ} {m : ℕ} {es : List Edge} (room : Room w₀ t nv m) (s : Stage w₀ t nv w m es) where
  room₀ : Room w₀ t nv (length es)
  room₀ = rw s.count room

  holds : Holds w t nv es
  holds = holds_of t nv es w₀ s.is room₀

  stage_now : Edged w t nv m
  stage_now = standing_now t nv es holds m s.count (same_room s.size room)

  stage_edges : edges_at w t.edges m ≡ es
  stage_edges = edges_now t nv es holds m s.count (same_room s.size room)

  -- polygons in front of the tables
  stage_kept : (o np : ℕ) → o + np * polygon_size ≤ t.firsts → polygons_at w o np ≡ polygons_at w₀ o np
  stage_kept o np h = ap (λ (v : List ℕ). polygons_at v o np) s.is ∙ polygons_kept w₀ t nv es o np h room₀

  -- the records became fs
  stage_next : {u : List ℕ} (fs : List Edge) (k r : ℕ) → Rewritten w u t nv m fs k r → Room w₀ t nv r → Stage w₀ t nv u r fs
  stage_next fs k r x q = record {
    size = ap length x.is ∙ length_edged w t nv fs ∙ s.size;
    count = sym x.count;
    is =
        x.is ∙ ap (λ (v : List ℕ). edged v t nv fs) s.is
        ∙ edged_again w₀ t nv es fs (omega (arith, s.count, x.count, x.least)) (rw (← x.count) q);
  }

-- ---- es are the records after j of n steps, m of them, from ne at the start; `rest` more can come, and there is room for `most`
pub record Going (w₀ : List ℕ) (t : EdgeTables) (nv ne most : ℕ) (step : ℕ → List Edge → List Edge) (whole : List Edge) (n : ℕ) (w : List ℕ) (m j rest : ℕ)
    : Type 0 where
  pub es : List Edge
  pub stage : Stage w₀ t nv w m es
  pub within : j ≤ n
  pub size : length w ≡ length w₀
  pub least : ne ≤ m
  pub left : m + rest ≤ most
  pub doing : Doing step whole n es j

module _ (w₀ : List ℕ) (t : EdgeTables) (nv ne most : ℕ) (step : ℕ → List Edge → List Edge) (n : ℕ) where
  pub going_begin : (rest : ℕ) → Edged w₀ t nv ne → ne + rest ≤ most
      → Going w₀ t nv ne most step (each step 0 n (edges_at w₀ t.edges ne)) n w₀ ne 0 rest
  going_begin rest s h = record {
    es = edges_at w₀ t.edges ne;
    stage = record { size = refl; count = fixed_count edge_fixed w₀ t.edges ne; is = s.is };
    within = omega arith;
    size = refl;
    least = omega arith;
    left = h;
    doing = record { same = refl };
  }

  module _ (room : Room w₀ t nv most) (whole : List Edge) {w : List ℕ} {m j rest : ℕ} (g : Going w₀ t nv ne most step whole n w m j rest) where
    room_now : Room w₀ t nv m
    room_now = less_room (omega (arith, g.left)) room

    pub going_room : (k : ℕ) → k ≤ rest → Room w t nv (m + k)
    going_room k h = same_room g.size (less_room (omega (arith, g.left)) room)

    pub going_now : Edged w t nv m
    going_now = stage_now w₀ t nv room_now g.stage

    pub going_kept : (o np : ℕ) → o + np * polygon_size ≤ t.firsts → polygons_at w o np ≡ polygons_at w₀ o np
    going_kept = stage_kept w₀ t nv room_now g.stage

    -- a step: the records became fs, r of them, and k more
    pub going_more : {u : List ℕ} (fs : List Edge) (k rest' r : ℕ) → j < n → fs ≡ step j (edges_at w t.edges m) → Rewritten w u t nv m fs k r
        → rest' + k ≤ rest → Going w₀ t nv ne most step whole n u r (j + 1) rest'
    going_more {u} fs k rest' r h e x l =
        let s = stage_next w₀ t nv room_now g.stage fs k r x (less_room (omega (arith, g.left, x.most)) room) in
        record {
          es = fs;
          stage = s;
          within = omega arith;
          size = s.size;
          least = omega (arith, g.least, x.least);
          left = omega (arith, g.left, x.most);
          doing = doing_more g.doing h (e ∙ ap (step j) (stage_edges w₀ t nv room_now g.stage));
        }

    pub going_end : (k : ℕ) → n ≤ j → most ≤ ne + k → Rewritten w₀ w t nv ne whole k m
    going_end k h l =
        let e : g.es ≡ whole = doing_end g.doing h in
        record { is = rw (← e) g.stage.is; count = rw (← e) (sym g.stage.count); least = g.least; most = omega (arith, g.left) }

-- a step of a round of n can add as many records as a step can
pub less_after : (added : ℕ → ℕ) → ((m n : ℕ) → added (m + n) ≡ added m + added n) → {n : ℕ} (m k : ℕ) → m + k ≡ n → added m + added k ≤ added n
less_after added adds {n} m k e = omega (arith, adds m k, ap added e)

-- none was added
pub none_more : {w u : List ℕ} {t : EdgeTables} {nv ne : ℕ} {es : List Edge} {r : ℕ} → Rewritten w u t nv ne es 0 r → Rewritten w u t nv ne es 0 ne
none_more x = record { is = x.is; count = omega (arith, x.count, x.least, x.most); least = omega arith; most = omega arith }

-- ---- one side in hand

module _ {w : List ℕ} {t : EdgeTables} {nv ne i : ℕ} {p : Poly} (c : InHand w t nv ne i p) (l : length p.corners ≡ most_corners) (j : ℕ) (on : On p j) where
  es : List Edge
  es = edges_at w t.edges ne

  many : length es ≡ ne
  unfolding es
  many = fixed_count edge_fixed w t.edges ne

  pub start_in : {a : ℕ} → a ≡ side_start (corners_of p) j → a < nv
  start_in e = rw e (all_at c.inside j 0 (rw (length_corners p l on.most) on.below))

  pub recorded : {u : List ℕ} {a b : ℕ} → a ≡ side_start (corners_of p) j → b ≡ side_end (corners_of p) j → a < b
      → u ≡ edged w t nv (edges_at w t.edges ne ++ (record { low = a; high = b; poly = i; side = j; other = i; at = 0 } ∷ []))
      → Rewritten w u t nv ne (record_of (corners_of p) i j (edges_at w t.edges ne)) 1 (ne + 1)
  unfolding record_of es
  recorded {u} {a} {b} ea eb h e = rw (← ea, ← eb, lt-ltb a b h) (record {
    is = e;
    count = sym (length-append es (record { low = a; high = b; poly = i; side = j; other = i; at = 0 } ∷ []) ∙ ap (λ (k : ℕ). k + 1) many);
    least = omega arith;
    most = omega arith;
  })

  pub unrecorded : {a b : ℕ} → a ≡ side_start (corners_of p) j → b ≡ side_end (corners_of p) j → b ≤ a
      → Rewritten w w t nv ne (record_of (corners_of p) i j (edges_at w t.edges ne)) 1 ne
  unfolding record_of es
  unrecorded {a} {b} ea eb h = rw (← ea, ← eb, le-ltb a b h) (record { is = c.now.is; count = sym many; least = omega arith; most = omega arith })

  pub end_in : {b : ℕ} → b ≡ side_end (corners_of p) j → b < nv
  end_in e =
      let n = length_corners p l on.most in
      rw (e, n) (all_at c.inside (next j p.n) 0 (rw n (next_below j p.n (omega (arith, on.below)))))

  module _ {a b : ℕ} (ea : a ≡ side_start (corners_of p) j) (eb : b ≡ side_end (corners_of p) j) where
    pub joined : {u : List ℕ} {k : ℕ} → b < a → Some k ≡ newest b a (edges_at w t.edges ne)
        → u ≡ edged w t nv (join_at i j (edges_at w t.edges ne) (Some k))
        → Rewritten w u t nv ne (join_of (corners_of p) i j (edges_at w t.edges ne)) 0 ne
    unfolding join_of join_at es
    joined {u} {k} h f e = rw (← ea, ← eb, lt-ltb b a h, ← f) (record {
      is = e;
      count = sym (length-set es k (joined_to i j (get_or es k no_edge)) ∙ many);
      least = omega arith;
      most = omega arith;
    })

    pub found_in : {k : ℕ} → Some k ≡ newest b a (edges_at w t.edges ne) → k < ne
    unfolding es
    found_in {k} f = rw many at (newest_in b a es k f)

    pub unjoined : b < a → None ≡ newest b a (edges_at w t.edges ne) → Rewritten w w t nv ne (join_of (corners_of p) i j (edges_at w t.edges ne)) 0 ne
    unfolding join_of join_at es
    unjoined h f = rw (← ea, ← eb, lt-ltb b a h, ← f) (record { is = c.now.is; count = sym many; least = omega arith; most = omega arith })

    pub passed : a ≤ b → Rewritten w w t nv ne (join_of (corners_of p) i j (edges_at w t.edges ne)) 0 ne
    unfolding join_of es
    passed h = rw (← ea, ← eb, le-ltb b a h) (record { is = c.now.is; count = sym many; least = omega arith; most = omega arith })

-- the same polygon, with other records
pub still_in_hand : {w u : List ℕ} {t : EdgeTables} {nv ne m i : ℕ} {p : Poly} → InHand w t nv ne i p → Edged u t nv m → InHand u t nv m i p
still_in_hand c s = record { now = s; inside = c.inside; number = c.number }

-- ---- all polygons

pub records_all : (ps : List Polygon) (n : ℕ) (es : List Edge) → length ps ≡ n → each_side ps (record_side ps) es ≡ each (each_of record_of ps) 0 n es
unfolding each_of record_of each_side record_side
records_all ps n es e = rw (← e) refl

pub joins_all : (ps : List Polygon) (n : ℕ) (es : List Edge) → length ps ≡ n → each_side ps (join_side ps) es ≡ each (each_of join_of ps) 0 n es
unfolding each_of join_of each_side join_side
joins_all ps n es e = rw (← e) refl

-- polygon i, where the buffer still holds the polygons that it held at the start
module _ {w₀ : List ℕ} {o np nv : ℕ} {t : EdgeTables} (sides : Sides w₀ o np nv t) (w : List ℕ) (kept : polygons_at w o np ≡ polygons_at w₀ o np)
    (i : ℕ) (h : i < np) where
  ps : List Polygon
  ps = polygons_at w₀ o np

  here : i < length ps
  unfolding ps
  here = rw (length_polygons w₀ o np) h

  pub small_here : length (polygon_at (polygons_at w o np) i).corners ≤ most_corners
  unfolding ps
  small_here = rw kept (all_at sides.small i no_polygon here)

  module _ {p : Poly} (lp : Loaded (polygon_at (polygons_at w o np) i) p) where
    corners_here : corners_of p ≡ (polygon_at (polygons_at w₀ o np) i).corners
    corners_here = loaded_corners lp ∙ ap (λ (qs : List Polygon). (polygon_at qs i).corners) kept

    pub hand_here : {m : ℕ} → Edged w t nv m → InHand w t nv m i p
    unfolding ps
    hand_here s = record { now = s; inside = rw corners_here (all_at sides.inside i no_polygon here); number = omega (arith, sides.few) }

    pub made_here : (made : List ℕ → ℕ → ℕ → List Edge → List Edge) (es : List Edge)
        → each (made (corners_of p) i) 0 (length (corners_of p)) es ≡ each_of made (polygons_at w₀ o np) i es
    unfolding each_of
    made_here made es = rw corners_here refl

    pub count_here : corners_in (drop (i + 1) (polygons_at w₀ o np)) + p.n ≡ corners_in (drop i (polygons_at w₀ o np))
    unfolding ps
    count_here = omega (arith, corners_left ps i here, lp.count, ap (λ (qs : List Polygon). length (polygon_at qs i).corners) kept)

-- ---- all sides of all polygons, from cleared tables on

-- the buffer still holds the polygons
sides_of : {w₀ w : List ℕ} {o np nv : ℕ} {t : EdgeTables} → Sides w₀ o np nv t → polygons_at w o np ≡ polygons_at w₀ o np → Sides w o np nv t
sides_of s k = record { fits = s.fits; small = rw k s.small; inside = rw k s.inside; few = s.few }

module _ {w : List ℕ} {o np nv : ℕ} {t : EdgeTables} (sides : Sides w o np nv t) (room : Room w t nv (corners_in (polygons_at w o np))) where
  module _ {w₁ : List ℕ} (e₁ : w₁ ≡ splice w t.firsts (replicate nv 0)) where
    stage₁ : Stage w t nv w₁ 0 []
    stage₁ = record { size = ap length e₁ ∙ length_splice w t.firsts (replicate nv 0); count = refl; is = e₁ ∙ edged_none w t nv }

    room₁ : Room w t nv 0
    room₁ = less_room (omega arith) room

    kept₁ : polygons_at w₁ o np ≡ polygons_at w o np
    kept₁ = stage_kept w t nv room₁ stage₁ o np sides.fits

    pub record_ready : Sides w₁ o np nv t × Edged w₁ t nv 0 × Room w₁ t nv (0 + corners_in (polygons_at w₁ o np))
    record_ready = (sides_of sides kept₁, stage_now w t nv room₁ stage₁, rw kept₁ (same_room stage₁.size (less_room (omega arith) room)))

    module _ {w₂ : List ℕ} {r : ℕ} (e₂ : SidesRecorded w₁ w₂ o np nv t 0 r) where
      es₂ : List Edge
      es₂ = each_side (polygons_at w o np) (record_side (polygons_at w o np)) []

      few : r ≤ corners_in (polygons_at w o np)
      few = omega (arith, e₂.most, ap corners_in kept₁)

      room₂ : Room w t nv r
      room₂ = less_room few room

      same₂ : each_side (polygons_at w₁ o np) (record_side (polygons_at w₁ o np)) (edges_at w₁ t.edges 0) ≡ es₂
      unfolding es₂
      same₂ = rw (kept₁, stage_edges w t nv room₁ stage₁) refl

      stage₂ : Stage w t nv w₂ r es₂
      stage₂ = stage_next w t nv room₁ stage₁ es₂ _ r (rw same₂ at e₂) room₂

      kept₂ : polygons_at w₂ o np ≡ polygons_at w o np
      kept₂ = stage_kept w t nv room₂ stage₂ o np sides.fits

      pub join_ready : Sides w₂ o np nv t × Edged w₂ t nv r
      join_ready = (sides_of sides kept₂, stage_now w t nv room₂ stage₂)

      pub linked_sides : {w₃ : List ℕ} → SidesJoined w₂ w₃ o np nv t r
          → Rewritten w w₃ t nv 0 (edges_of (polygons_at w o np)) (corners_in (polygons_at w o np)) r
      unfolding edges_of es₂
      linked_sides {w₃} e₃ =
          let d : each_side (polygons_at w₂ o np) (join_side (polygons_at w₂ o np)) (edges_at w₂ t.edges r) ≡ edges_of (polygons_at w o np) =
          rw (kept₂, stage_edges w t nv room₂ stage₂) refl in
          let s = stage_next w t nv room₂ stage₂ (edges_of (polygons_at w o np)) 0 r (rw d at e₃) room₂ in
          record { is = s.is; count = sym s.count; least = omega arith; most = omega (arith, few) }
