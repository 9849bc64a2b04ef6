-- The weld's search: vertices that are the same are in one bucket, so that the first match on the walk along v's bucket, newest first, is the
-- highest-numbered match of all; and the bucket as the code computes it. Assumes nothing.
use Rattle.std.specs.Prelude.{Some, None}
use Rattle.std.proofs.Common.{◌≡◌, ℕ, ◌+◌, ◌-◌, ◌*◌, ◌%◌, ◌^◌, ◌<◌, ◌≤◌, Bool, true, false, ◌&&◌, eqb, leb, ◌≢◌, List, length, get_or, sym, refl, ap}
use Rattle.std.proofs.Common.{◌∙◌, le_refl, add-zero, arith}
use Rattle.std.proofs.Common.{ne_eqb, eqb-true}
use lib.Bits.{bit_and, and_mask}
use Rattle.ints.specs.Bools.{and_left, and_right}
use Rattle.mem.specs.Slice.{view, get_or_view}
use Rattle.mem.specs.Tab.{get_or_blocks}
use Rattle.mem.specs.Loops.{over, run, block_fits, Left, turn, end, next as over-next}
use Rattle.mem.specs.Chain.{highest, firsts_at, nexts_at}
use Rattle.laws.specs.Searches
use Rattle.laws.proofs.Searches as SearchesProofs
use Rattle.laws.proofs.Searches.{walk_in_lem, walk_found, walk_next, walk_less}
use Rattle.rules.specs.Lists.{apart}
use Rattle.rules.specs.Weld.{no_vertex, bucket, is_same, highest_below}
use Rattle.rules.specs.declared.Vertex.{Vertex}
use Rattle.records.specs.Layout.{vertex_size, vertex_in, vertices_at}
use Rattle.records.specs.Vertices.{length_vertices}
use Rattle.weld.specs.declared.find.Tables.{Tables}
use Rattle.weld.specs.Tables.{bucket_count, key_of, agree, Tabled}
use Rattle.weld.specs.Standing.{bucket_below, holds_now}

-- ---- vertices that are the same are in one bucket
same_key : (height : ℕ) (v u : Vertex) → is_same height v u ≡ true → bucket v.x v.z ≡ bucket u.x u.z
unfolding is_same
same_key height v u e =
    let a = eqb v.x u.x in
    let b = leb (apart v.y u.y) height in
    let d = eqb v.z u.z in
    rw (eqb-true v.x u.x (and_left a (b && d) e), eqb-true v.z u.z (and_right b d (and_right a (b && d) e)))

-- ---- the same, coordinate by coordinate

and_true : (b : Bool) → (b && true) ≡ b
and_true true = refl
and_true false = refl

agree_all : (height : ℕ) (v u : Vertex) → is_same height v u ≡ over true ◌&&◌ (agree height v u) 0 3
unfolding is_same agree over run
agree_all height v u = rw (and_true (eqb v.z u.z)) refl

-- the words of one vertex against v, coordinate c
module _ (height : ℕ) (w : List ℕ) (at : ℕ) (v : Vertex) (c : ℕ) where
  pub agree_x : {x : ℕ} → c ≡ 0 → x ≡ v.x → eqb (get_or w at 0) x ≡ agree height (vertex_in (view w at vertex_size)) v c
  unfolding agree vertex_in
  agree_x e f = rw (e, f, get_or_view w at vertex_size 0 0 (omega arith), add-zero at) refl

  pub agree_y : {d h : ℕ} → c ≡ 1 → d ≡ apart (get_or w (at + 1) 0) v.y → h ≡ height → leb d h ≡ agree height (vertex_in (view w at vertex_size)) v c
  unfolding agree vertex_in
  agree_y e f g = rw (e, f, g, get_or_view w at vertex_size 1 0 (omega arith)) refl

  pub agree_z : {z : ℕ} → c ≢ 0 → c ≢ 1 → z ≡ v.z → eqb (get_or w (at + 2) 0) z ≡ agree height (vertex_in (view w at vertex_size)) v c
  unfolding agree vertex_in
  agree_z e f g = rw (ne_eqb c 0 e, ne_eqb c 1 f, g, get_or_view w at vertex_size 2 0 (omega arith)) refl

-- the loop over the coordinates: c of them agree
pub record Agreed (height : ℕ) (v u : Vertex) (c : ℕ) : Type 0 where
  pub left : Left true ◌&&◌ (agree height v u) (λ x. x) (is_same height v u) 3 c

module _ (height : ℕ) (v u : Vertex) where
  pub agreed_none : Agreed height v u 0
  agreed_none = record { left = record { same = agree_all height v u } }

  module _ {c : ℕ} (a : Agreed height v u c) where
    pub agreed_not : c < 3 → agree height v u c ≡ false → is_same height v u ≡ false
    agreed_not h e = turn a.left h ∙ rw e

    pub agreed_more : c < 3 → agree height v u c ≡ true → Agreed height v u (c + 1)
    agreed_more h e = record { left = over-next a.left h (λ r. rw e) }

    pub agreed_all : 3 ≤ c → is_same height v u ≡ true
    agreed_all h = end a.left h

-- ---- the walk along v's bucket

-- number k is the same as v
abbrev pub same_as : ℕ → List Vertex → Vertex → ℕ → Bool
same_as height vs v k = is_same height (get_or vs k no_vertex) v

abbrev pub Walk : ℕ → List Vertex → Vertex → ℕ → ℕ → Type 0
Walk height vs v n link = Searches.Walk (same_as height vs v) (key_of vs) (bucket v.x v.z) n link

keyed : (height : ℕ) (vs : List Vertex) (v : Vertex) (k : ℕ) → same_as height vs v k ≡ true → key_of vs k ≡ bucket v.x v.z
unfolding key_of
keyed height vs v k e = same_key height (get_or vs k no_vertex) v e

pub walk_none : (height : ℕ) (vs : List Vertex) (v : Vertex) (n : ℕ) {link : ℕ} → Walk height vs v n link → link ≤ 0 → None ≡ highest_below height vs v n
unfolding highest_below
walk_none height vs v n r h = SearchesProofs.walk_none (same_as height vs v) (key_of vs) (bucket v.x v.z) (keyed height vs v) n r h

-- ---- the words that the code reads

module _ (w : List ℕ) (t : Tables) (nv : ℕ) (s : Tabled w t nv) where
  vs : List Vertex
  vs = vertices_at w t.vertices nv

  pub walk_first : (height : ℕ) (v : Vertex) {j l : ℕ} → j ≡ bucket v.x v.z → l ≡ get_or w (t.buckets + j) 0
      → Walk height (vertices_at w t.vertices nv) v nv l
  unfolding vs
  walk_first height v {j} {l} f g =
      let b = bucket v.x v.z in
      let n = length_vertices w t.vertices nv in
      record {
        m = nv;
        within = omega arith;
        at =
            g ∙ ap (λ (m : ℕ). get_or w (t.buckets + m) 0) f
            ∙ sym (get_or_view w t.buckets bucket_count b 0 (bucket_below v.x v.z))
            ∙ ap (λ (l : List ℕ). get_or l b 0) (holds_now s).buckets
            ∙ firsts_at (key_of vs) bucket_count (length vs) b (bucket_below v.x v.z)
            ∙ ap (highest (key_of vs) b) n;
        same = refl;
      }

  pub walk_word : {k l : ℕ} → k < nv → l ≡ get_or w (t.nexts + k) 0 → l ≡ highest (key_of (vertices_at w t.vertices nv))
      (key_of (vertices_at w t.vertices nv) k) k
  unfolding vs
  walk_word {k} h e =
      let n = length_vertices w t.vertices nv in
      e ∙ sym (get_or_view w t.nexts (length vs) k 0 (omega arith))
      ∙ ap (λ (l : List ℕ). get_or l k 0) (holds_now s).nexts
      ∙ nexts_at (key_of vs) bucket_count (length vs) k (omega arith)

  -- a turn of the search: the vertex that `link` names is looked at
  module _ (height : ℕ) (v : Vertex) {link : ℕ} (r : Walk height (vertices_at w t.vertices nv) v nv link) (h : 0 < link) where
    k : ℕ
    k = link - 1

    named : k + 1 ≡ link
    unfolding k
    named = omega arith

    step_in : k < nv
    step_in = walk_in_lem (same_as height (vertices_at w t.vertices nv) v) _ _ (keyed height (vertices_at w t.vertices nv) v) nv r k named

    pub step_fits : t.vertices + (link - 1) * vertex_size + vertex_size ≤ length w
    unfolding k
    step_fits = omega (arith, block_fits k nv vertex_size (nv * vertex_size) step_in (le_refl (nv * vertex_size)), s.room.vertices, s.room.nexts)

    pub step_link : t.nexts + (link - 1) < length w
    unfolding k
    step_link = omega (arith, step_in, s.room.nexts)

    seen : vertex_in (view w (t.vertices + (link - 1) * vertex_size) vertex_size) ≡ get_or (vertices_at w t.vertices nv) k no_vertex
    unfolding k vertices_at
    seen = sym (get_or_blocks vertex_in w t.vertices vertex_size nv k no_vertex step_in)

    pub step_less : {l : ℕ} → l ≡ get_or w (t.nexts + (link - 1)) 0 → l < link
    unfolding k
    step_less e = walk_less (same_as height (vertices_at w t.vertices nv) v) _ _ (keyed height (vertices_at w t.vertices nv) v) nv r k named
        (walk_word step_in e)

    module _ {c : ℕ} (a : Agreed height (vertex_in (view w (t.vertices + (link - 1) * vertex_size) vertex_size)) v c) where
      pub step_on : {l : ℕ} → l ≡ get_or w (t.nexts + (link - 1)) 0 → c < 3
          → agree height (vertex_in (view w (t.vertices + (link - 1) * vertex_size) vertex_size)) v c ≡ false → Walk height (vertices_at w t.vertices nv) v nv l
      unfolding k
      step_on e q f =
          walk_next (same_as height (vertices_at w t.vertices nv) v) _ _ (keyed height (vertices_at w t.vertices nv) v) nv r k named (walk_word step_in e)
          (rw seen at (agreed_not height _ v a q f))

      pub step_found : 3 ≤ c → Some (link - 1) ≡ highest_below height (vertices_at w t.vertices nv) v nv
      unfolding k highest_below
      step_found q =
          walk_found (same_as height (vertices_at w t.vertices nv) v) _ _ (keyed height (vertices_at w t.vertices nv) v) nv r k named
          (rw seen at (agreed_all height _ v a q))

-- ---- the bucket as the code computes it

pub hash_made : (x z : ℕ) {a b s : ℕ} → a ≡ (0x8da6_b343 * x) % 2 ^ 32 → b ≡ (0xcb1a_b31f * z) % 2 ^ 32 → s ≡ (a + b) % 2 ^ 32
    → (bit_and s 4095 ≡ bucket x z) × (bit_and s 4095 < bucket_count)
unfolding bucket
hash_made x z {a} {b} {s} ea eb es =
    let e : bit_and s 4095 ≡ ((0x8da6_b343 * x) % 2 ^ 32 + (0xcb1a_b31f * z) % 2 ^ 32) % 2 ^ 32 % 2 ^ 12 = and_mask s 12 ∙ rw (es, ea, eb) refl in
    (e, rw e (bucket_below x z))
