-- The links: each record names sides that there are, so that both of its links stand in the words; a word written is a link set; and all of them written are
-- R6's links. Assumes nothing.
use Rattle.std.specs.Prelude.{Option, Some, None}
use mathlib.Core.Path.{◌≡◌, refl, sym, ap, ◌∙◌}
use mathlib.Core.Bool.{Bool, true, false, cond}
use mathlib.Core.List.{List, [], ◌∷◌}
use mathlib.Core.Logic.{⊎_elim, ◌≢◌}
use Prim.Native.Nat.{ℕ, suc, ◌+◌, ◌-◌, ◌*◌, ◌≤◌, ◌<◌}
use native.Mathlib.Omega.{arith}
use native.Mathlib.Nat.{le_refl}
use borrow.Author.Tests.{eq-eqb, ne_eqb}
use lib.Dec.{eqb, ltb}
use lib.ListN.{length, get_or, set, replicate, length-set, length-replicate, replicate-append-replicate}
use lib.Seq.{get_or-set_same, get_or-set_other}
use Rattle.ints.specs.Bools.{cond_ind}
use Rattle.mem.specs.Slice.{splice, splice_over, length_splice}
use Rattle.mem.specs.Tab.{blocks_after}
use Rattle.mem.specs.Loops.{each, each_ind, Doing, doing_more, doing_end, block_fits}
use Rattle.mem.specs.Cases.{eq_or_ne}
use Rattle.mem.specs.Packed.{packed}
use Rattle.rules.specs.Mesh.{Polygon, no_polygon, polygon_at, side_start, side_end}
use Rattle.rules.specs.Links.{none, no_edge, each_side, record_side, newest, joined_to, join_at, join_side, edges_of, set_link, store_edge, no_links, links_of}
use Rattle.rules.specs.Exits.{padded}
use Rattle.rules.specs.declared.Edge.{Edge}
use Rattle.laws.specs.Lists.{All}
use Rattle.laws.proofs.Lists.{all_at, all_of_lem, all_append}
use Rattle.laws.specs.Links.{Shaped}
use Rattle.laws.proofs.Links.{set_shaped, store_shaped, none_shaped, links_shaped}
use Rattle.records.specs.Layout.{polygon_size, most_corners, polygon_in, polygons_at, Small, edge_size, edge_in, edges_at, link_size}
use Rattle.records.specs.Polygons.{length_polygons}
use Rattle.records.specs.Fixed.{edge_fixed, fixed_count}
use Rattle.links.specs.declared.edges.EdgeTables.{EdgeTables}
use Rattle.links.specs.Tables.{edged, Room, Rewritten}
use Rattle.links.specs.Ready.{corners_in, LinkReady, link_records, link_place, store_words, StoreReady}
use Rattle.links.specs.Linked.{length_links, link_set}
use Rattle.links.specs.Standing.{length_edged, edges_now, holds_of, less_room, same_room, polygons_kept}

-- ---- the sides that a record names

pub record Sound (ps : List Polygon) (e : Edge) : Type 0 where
  pub poly : e.poly < length ps
  pub side : e.side < length (polygon_at ps e.poly).corners
  pub other : e.other < length ps
  pub at : e.at < length (polygon_at ps e.other).corners

-- what the step for each side keeps, all of them keep
side_ind : {S : Type 0} (P : S → Type 0) (ps : List Polygon) (step : ℕ → ℕ → S → S)
    → ((i j : ℕ) (s : S) → i < length ps → j < length (polygon_at ps i).corners → P s → P (step i j s)) → (s : S) → P s → P (each_side ps step s)
unfolding each_side
side_ind P ps step kept s p = each_ind (λ i t. each (step i) 0 (length (polygon_at ps i).corners) t) P 0 (length ps)
    (λ i t a h q. each_ind (step i) P 0 (length (polygon_at ps i).corners) (λ j u b k r. kept i j u h k r) t q) s p

module _ (ps : List Polygon) where
  record_sound : (i j : ℕ) (es : List Edge) → i < length ps → j < length (polygon_at ps i).corners → All (Sound ps) es → All (Sound ps) (record_side ps i j es)
  unfolding record_side
  record_sound i j es h k q =
      let a = side_start (polygon_at ps i).corners j in
      let b = side_end (polygon_at ps i).corners j in
      let e : Edge = record { low = a; high = b; poly = i; side = j; other = i; at = 0 } in
      cond_ind (All (Sound ps)) (ltb a b)
      (all_append q (all_of_lem (e ∷ []) e (λ n l. let z : n ≡ 0 = omega arith in rw z (record { poly = h; side = k; other = h; at = omega arith })))) q

  set_sound : (es : List Edge) (k : ℕ) (e : Edge) → (k < length es → Sound ps e) → All (Sound ps) es → All (Sound ps) (set es k e)
  set_sound es k e f q = all_of_lem (set es k e) no_edge (λ n l.
      let m : n < length es = rw (length-set es k e) at l in
      ⊎_elim (λ (d : n ≡ k). rw (d, get_or-set_same es k e no_edge (omega arith)) (f (omega arith)))
      (λ (d : n ≢ k). rw (get_or-set_other es k n e no_edge d) (all_at q n no_edge m)) (eq_or_ne n k))

  at_sound : (i j : ℕ) (es : List Edge) (f : Option ℕ) → i < length ps → j < length (polygon_at ps i).corners → All (Sound ps) es
      → All (Sound ps) (join_at i j es f)
  unfolding join_at joined_to
  at_sound i j es (Some k) h l q = set_sound es k (joined_to i j (get_or es k no_edge))
      (λ (m : k < length es). let s = all_at q k no_edge m in record { poly = s.poly; side = s.side; other = h; at = l }) q
  at_sound i j es None h l q = q

  join_sound : (i j : ℕ) (es : List Edge) → i < length ps → j < length (polygon_at ps i).corners → All (Sound ps) es → All (Sound ps) (join_side ps i j es)
  unfolding join_side
  join_sound i j es h k q =
      let a = side_start (polygon_at ps i).corners j in
      let b = side_end (polygon_at ps i).corners j in
      cond_ind (All (Sound ps)) (ltb b a) (at_sound i j es (newest b a es) h k q) q

  edges_sound : All (Sound ps) (edges_of ps)
  unfolding edges_of
  edges_sound = side_ind (All (Sound ps)) ps (join_side ps) join_sound _
      (side_ind (All (Sound ps)) ps (record_side ps) record_sound [] (all_of_lem [] no_edge (λ n l. absurd (omega arith))))

-- ---- no link yet: every word is 65,535
module _ (k : ℕ) where
  none_padded : (n : ℕ) → n ≤ k → padded k (replicate n none) ≡ replicate k none
  unfolding padded
  none_padded n h =
      let e : n + (k - n) ≡ k = omega arith in
      rw (length-replicate n none) (replicate-append-replicate n (k - n) none ∙ ap (λ (m : ℕ). replicate m none) e)

none_words : (ps : List Polygon) → ((i : ℕ) → i < length ps → Small (polygon_at ps i)) → link_records (no_links ps) ≡ replicate (length ps * link_size) none
unfolding link_records no_links packed
none_words [] h = refl
none_words (p ∷ ps) h =
    let e : link_size + length ps * link_size ≡ suc (length ps) * link_size = omega arith in
    rw (none_padded link_size (length p.corners) (h 0 (omega arith)), none_words ps (λ i l. h (suc i) (omega arith)))
    (replicate-append-replicate link_size (length ps * link_size) none ∙ ap (λ (m : ℕ). replicate m none) e)

none_linked : (ps : List Polygon) → All Small ps → link_records (no_links ps) ≡ replicate (length ps * link_size) none
none_linked ps h = none_words ps (λ i l. all_at h i no_polygon l)

-- ---- one record's links, for words and for lists

module _ {e f : Edge} (lo : ℕ) (w : List ℕ) (d : e ≡ f) where
  pub stored_none : e.other ≡ e.poly → w ≡ store_words lo f w
  unfolding store_words
  stored_none h = rw (← d, eq-eqb e.other e.poly h)

  pub stored_both : {x y : List ℕ} → e.other ≢ e.poly → x ≡ set w (link_place lo e.poly e.side) e.other
      → y ≡ set x (link_place lo e.other e.at) e.poly → y ≡ store_words lo f w
  unfolding store_words
  stored_both h p q = rw (← d, ne_eqb e.other e.poly h, q, p)

module _ (v : List ℕ) (lo : ℕ) (ps : List Polygon) (ls : List (List ℕ)) (small : All Small ps) (s : Shaped ps ls)
    (fits : lo + length ps * link_size ≤ length v) where
  words_stored : {w : List ℕ} (es : List Edge) (k : ℕ) → w ≡ splice v lo (link_records ls) → Sound ps (get_or es k no_edge)
      → store_words lo (get_or es k no_edge) w ≡ splice v lo (link_records (store_edge es k ls))
  unfolding store_words store_edge
  words_stored {w} es k p q = go (eqb (get_or es k no_edge).other (get_or es k no_edge).poly)
    where
      e : Edge
      e = get_or es k no_edge

      go : (b : Bool) → cond b w (set (set w (link_place lo e.poly e.side) e.other) (link_place lo e.other e.at) e.poly)
          ≡ splice v lo (link_records (cond b ls (set_link e.other e.at e.poly (set_link e.poly e.side e.other ls))))
      go true = p
      go false =
          link_set v lo ps (set_link e.poly e.side e.other ls) small (set_shaped ps e.poly e.side e.other ls s) fits
          (link_set v lo ps ls small s fits p e.poly q.poly e.side e.other q.side) e.other q.other e.at e.poly q.at

-- ---- the links are stored record by record: w₀ is the buffer where that begins, with no link yet

pub record Linkable (w₀ : List ℕ) (o np : ℕ) (t : EdgeTables) (ne lo : ℕ) : Type 0 where
  pub edges : t.edges + ne * edge_size ≤ lo
  pub links : lo + np * link_size ≤ length w₀
  pub small : All Small (polygons_at w₀ o np)
  pub sound : All (Sound (polygons_at w₀ o np)) (edges_at w₀ t.edges ne)
  pub blank : w₀ ≡ splice w₀ lo (link_records (no_links (polygons_at w₀ o np)))

-- after k records
pub record Linking (w₀ : List ℕ) (o np : ℕ) (t : EdgeTables) (ne lo : ℕ) (w : List ℕ) (k : ℕ) : Type 0 where
  pub ls : List (List ℕ)
  pub size : length w ≡ length w₀
  pub shaped : Shaped (polygons_at w₀ o np) ls
  pub is : w ≡ splice w₀ lo (link_records ls)
  pub doing : Doing (store_edge (edges_at w₀ t.edges ne)) (each (store_edge (edges_at w₀ t.edges ne)) 0 ne (no_links (polygons_at w₀ o np))) ne ls k

module _ {w₀ : List ℕ} {o np : ℕ} {t : EdgeTables} {ne lo : ℕ} (able : Linkable w₀ o np t ne lo) where
  ps : List Polygon
  ps = polygons_at w₀ o np

  es : List Edge
  es = edges_at w₀ t.edges ne

  fits : lo + length ps * link_size ≤ length w₀
  unfolding ps
  fits = rw (length_polygons w₀ o np) able.links

  pub linking_begin : Linking w₀ o np t ne lo w₀ 0
  linking_begin = record {
    ls = no_links (polygons_at w₀ o np);
    size = refl;
    shaped = none_shaped (polygons_at w₀ o np);
    is = able.blank;
    doing = record { same = refl };
  }

  module _ (w : List ℕ) {k : ℕ} (g : Linking w₀ o np t ne lo w k) where
    kept : edges_at w t.edges ne ≡ edges_at w₀ t.edges ne
    unfolding edges_at
    kept = ap (λ (v : List ℕ). edges_at v t.edges ne) g.is ∙ blocks_after edge_in w₀ lo t.edges edge_size ne (link_records g.ls) able.edges

    module _ (h : k < ne) where
      sound : Sound ps (get_or es k no_edge)
      unfolding ps es
      sound = all_at able.sound k no_edge (rw (fixed_count edge_fixed w₀ t.edges ne) h)

      place : (i j : ℕ) → i < length ps → j < length (polygon_at ps i).corners → link_place lo i j < length w
      unfolding ps
      place i j a b =
          let c : length (polygon_at ps i).corners ≤ most_corners = all_at able.small i no_polygon a in
          omega (arith, fits, g.size, block_fits i (length ps) link_size (length ps * link_size) a (le_refl (length ps * link_size)))

      pub linking_ready : StoreReady w t ne k lo
      unfolding ps es
      linking_ready = record {
        fits = omega (arith, able.edges, able.links, g.size);
        below = h;
        one = rw kept (place _ _ sound.poly sound.side);
        other = rw kept (place _ _ sound.other sound.at);
      }

      pub linking_more : {u : List ℕ} → u ≡ store_words lo (get_or (edges_at w t.edges ne) k no_edge) w → Linking w₀ o np t ne lo u (k + 1)
      unfolding ps es
      linking_more {u} p = record {
        ls = store_edge es k g.ls;
        size = ap length words ∙ length_splice w₀ lo (link_records (store_edge es k g.ls));
        shaped = store_shaped ps es k g.ls g.shaped;
        is = words;
        doing = doing_more g.doing h refl;
      }
        where
          words : u ≡ splice w₀ lo (link_records (store_edge es k g.ls))
          words =
              p ∙ ap (λ (l : List Edge). store_words lo (get_or l k no_edge) w) kept
              ∙ words_stored w₀ lo ps g.ls able.small g.shaped fits es k g.is sound

    pub linking_end : ne ≤ k → w ≡ splice w₀ lo (link_records (each (store_edge (edges_at w₀ t.edges ne)) 0 ne (no_links (polygons_at w₀ o np))))
    linking_end h = g.is ∙ ap (λ (l : List (List ℕ)). splice w₀ lo (link_records l)) (doing_end g.doing h)

-- ---- R6 as a whole: the records are made, w₃, and every link is 65,535, w₄

module _ {w : List ℕ} {o np nv : ℕ} {t : EdgeTables} {lo : ℕ} (ready : LinkReady w o np nv t lo) {w₃ : List ℕ} {r : ℕ}
    (made : Rewritten w w₃ t nv 0 (edges_of (polygons_at w o np)) (corners_in (polygons_at w o np)) r) where
  room₃ : Room w t nv (length (edges_of (polygons_at w o np)))
  room₃ = less_room (omega (arith, made.count, made.most)) ready.room

  size₃ : length w₃ ≡ length w
  size₃ = ap length made.is ∙ length_edged w t nv (edges_of (polygons_at w o np))

  fill_fits : lo + np * link_size ≤ length w₃
  fill_fits = omega (arith, size₃, ready.links)

  module _ {w₄ : List ℕ} (e₄ : w₄ ≡ splice w₃ lo (replicate (np * link_size) none)) where
    edges_end : t.edges + r * edge_size ≤ lo
    edges_end = omega (arith, made.most, ready.room.edges, ready.behind)

    kept₄ : polygons_at w₄ o np ≡ polygons_at w o np
    unfolding polygons_at
    kept₄ =
        ap (λ (v : List ℕ). polygons_at v o np) e₄
        ∙ blocks_after polygon_in w₃ lo o polygon_size np (replicate (np * link_size) none)
        (omega (arith, ready.sides.fits, ready.room.firsts, ready.room.edges, ready.behind))
        ∙ ap (λ (v : List ℕ). polygons_at v o np) made.is
        ∙ polygons_kept w t nv (edges_of (polygons_at w o np)) o np ready.sides.fits room₃

    edges₄ : edges_at w₄ t.edges r ≡ edges_of (polygons_at w o np)
    unfolding edges_at
    edges₄ =
        ap (λ (v : List ℕ). edges_at v t.edges r) e₄
        ∙ blocks_after edge_in w₃ lo t.edges edge_size r (replicate (np * link_size) none) edges_end
        ∙ edges_now t nv (edges_of (polygons_at w o np)) (holds_of t nv (edges_of (polygons_at w o np)) w made.is room₃) r (sym made.count)
        (same_room {w = w} size₃ (rw made.count room₃))

    none₄ : link_records (no_links (polygons_at w o np)) ≡ replicate (np * link_size) none
    none₄ = none_linked (polygons_at w o np) ready.sides.small ∙ ap (λ (n : ℕ). replicate (n * link_size) none) (length_polygons w o np)

    pub links_ready : Linkable w₄ o np t r lo
    links_ready = record {
      edges = edges_end;
      links = omega (arith, ap length e₄, length_splice w₃ lo (replicate (np * link_size) none), fill_fits);
      small = rw kept₄ ready.sides.small;
      sound = rw (kept₄, edges₄) (edges_sound (polygons_at w o np));
      blank = rw (kept₄, none₄) (e₄ ∙ sym (splice_over w₃ lo (replicate (np * link_size) none) (replicate (np * link_size) none) (omega arith))
          ∙ ap (λ (v : List ℕ). splice v lo (replicate (np * link_size) none)) (sym e₄));
    }

    whole₄ : each (store_edge (edges_at w₄ t.edges r)) 0 r (no_links (polygons_at w₄ o np)) ≡ links_of (polygons_at w o np)
    unfolding links_of
    whole₄ = rw (kept₄, edges₄, made.count) refl

    pub links_made : {u : List ℕ} → u ≡ splice w₄ lo (link_records (each (store_edge (edges_at w₄ t.edges r)) 0 r (no_links (polygons_at w₄ o np))))
        → u ≡ splice (edged w t nv (edges_of (polygons_at w o np))) lo (link_records (links_of (polygons_at w o np)))
    links_made e =
        let ps = polygons_at w o np in
        e ∙ ap (λ (l : List (List ℕ)). splice w₄ lo (link_records l)) whole₄
        ∙ ap (λ (v : List ℕ). splice v lo (link_records (links_of ps))) e₄
        ∙ splice_over w₃ lo (replicate (np * link_size) none) (link_records (links_of ps))
        (omega (arith, length-replicate (np * link_size) none, length_links ps (links_of ps) ready.sides.small (links_shaped ps), length_polygons w o np))
        ∙ ap (λ (v : List ℕ). splice v lo (link_records (links_of ps))) made.is
