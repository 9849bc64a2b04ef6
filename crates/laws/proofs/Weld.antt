-- R3: a vertex's number always refers to its own x and z, vertices that are there keep their number and place, and new ones are the contour's own.
-- Assumes nothing.
-- Key: `welded`: after a contour the old vertices are there, the new ones are the contour's, and every number stands where its vertex stood.
use Prim.Native.Nat.{ℕ, zero, suc, ◌+◌, ◌<◌}
use native.Mathlib.Omega.{arith}
use Rattle.std.proofs.Common.{add-one, sym, ◌∙◌, ap, ap₂, ⊎_elim, append_assoc, append-nil, eqb-true, eq-eqb, ne_eqb, below_more, length-append, length-set}
use Rattle.std.specs.Prelude.{◌≡◌, Bool, cond, ◌&&◌, ◌⊎◌, List, [], ◌∷◌, ◌++◌, eqb, leb, length, get_or, set, Option, Some, None}
use Rattle.std.proofs.Math.Path.{refl}
use Rattle.std.proofs.Math.Bool.{true, false}
use Rattle.std.proofs.Math.Logic.{inl, inr}
use Rattle.std.proofs.Math.ListN.{get_or-append}
use Rattle.std.proofs.lemmas.List.{get_or_at}
use Rattle.ints.specs.Bools.{and_left, and_right}
use Rattle.mem.specs.Loops.{each_at}
use Rattle.mem.specs.Packed.{every_at, every_of, every_append}
use Rattle.rules.specs.declared.Vertex.{Vertex}
use Rattle.rules.specs.Plane.{on_plane, InGrid}
use Rattle.rules.specs.Lists.{when, or_else, down, apart}
use Rattle.rules.specs.Weld.{no_vertex, is_same, highest_below, number_or, number_of, Welded, flagged, add_vertex, weld_one, weld_all}
use Rattle.rules.specs.Mesh.{place_of}
use Rattle.laws.specs.Lists
use Rattle.laws.proofs.Lists.{all_append, all_imp, every_of_all}
use Rattle.laws.specs.Weld.{Took, Added, OneOf, Welds}

-- ---- the number that a vertex takes
pub same_place : (height : ℕ) (w v : Vertex) → is_same height w v ≡ true → on_plane w ≡ on_plane v
unfolding is_same
same_place height w v e =
    let r = and_right (eqb w.x v.x) (leb (apart w.y v.y) height && eqb w.z v.z) e in
    ap₂ (λ (a b : ℕ). record { x = a; z = b })
    (eqb-true w.x v.x (and_left (eqb w.x v.x) (leb (apart w.y v.y) height && eqb w.z v.z) e))
    (eqb-true w.z v.z (and_right (leb (apart w.y v.y) height) (eqb w.z v.z) r))

module _ (height : ℕ) (vs : List Vertex) (v : Vertex) where
  Fits : ℕ → Option ℕ → Type 0
  Fits n (Some k) = (k < n) × (is_same height (get_or vs k no_vertex) v ≡ true)
  Fits n None = Unit

  fits_or : (k : ℕ) (b : Bool) (r : Option ℕ) → is_same height (get_or vs k no_vertex) v ≡ b → Fits k r → Fits (suc k) (or_else (when b k) r)
  unfolding Fits or_else when
  fits_or k true r e h = (omega arith, e)
  fits_or k false (Some j) e h = (omega (arith, h.0), h.1)
  fits_or k false None e h = tt

  fits : (n : ℕ) → Fits n (highest_below height vs v n)
  unfolding Fits highest_below down
  fits zero = tt
  fits (suc n) = fits_or n (is_same height (get_or vs n no_vertex) v) (highest_below height vs v n) refl (fits n)

  -- what is found is below n
  pub found_below : (n k : ℕ) → Some k ≡ highest_below height vs v n → k < n
  unfolding Fits
  found_below n k e = (rw (← e) at (fits n)).0

  number_from : (r : Option ℕ) → Fits (length vs) r → Took vs (number_or (length vs) r) v ⊎ (number_or (length vs) r ≡ length vs)
  unfolding Fits number_or place_of
  number_from (Some k) h = inl (record { below = h.0; place = same_place height (get_or vs k no_vertex) v h.1 })
  number_from None h = inr refl

  -- the number is that of a vertex at v's place, or new
  pub number_cases : Took vs (number_of height vs v) v ⊎ (number_of height vs v ≡ length vs)
  unfolding number_of
  number_cases = number_from (highest_below height vs v (length vs)) (fits (length vs))

-- ---- one more vertex
pub took_more : {vs : List Vertex} {n : ℕ} {v : Vertex} (t : List Vertex) → Took vs n v → Took (vs ++ t) n v
unfolding place_of
took_more {vs} {n} {v} t h = record { below = omega (arith, h.below, length-append vs t); place = ap on_plane (get_or-append vs t no_vertex n h.below) ∙ h.place }

took_new : (vs : List Vertex) (v : Vertex) → Took (vs ++ (v ∷ [])) (length vs) v
unfolding place_of
took_new vs v = record { below = omega (arith, length-append vs (v ∷ [])); place = ap on_plane (get_or_at vs v [] no_vertex (length vs) refl) }

length_flagged : (flag k : ℕ) (marks : List ℕ) → length (flagged flag k marks) ≡ length marks
unfolding flagged
length_flagged flag k marks = go (eqb flag 1)
  where
    go : (b : Bool) → length (cond b (set marks k 1) marks) ≡ length marks
    go true = length-set marks k 1
    go false = refl

pub vertex_added : (height : ℕ) (v : Vertex) (flag : ℕ) (s : Welded) → Added v s (add_vertex height v flag s)
unfolding add_vertex
vertex_added height v flag s = ⊎_elim old new (number_cases height s.vertices v)
  where
    k : ℕ
    k = number_of height s.vertices v

    old : Took s.vertices k v → Added v s (add_vertex height v flag s)
    old h =
        let q : eqb k (length s.vertices) ≡ false = ne_eqb k (length s.vertices) (λ (e : k ≡ length s.vertices). omega (arith, h.below)) in
        rw q (record {
          more = [];
          grown = sym (append-nil s.vertices);
          few = omega arith;
          fresh = Lists.none;
          number = k;
          took = h;
          listed = refl;
          marked = λ e. length_flagged flag k s.marks ∙ e;
        })

    new : k ≡ length s.vertices → Added v s (add_vertex height v flag s)
    new h =
        let q : eqb k (length s.vertices) ≡ true = eq-eqb k (length s.vertices) h in
        rw q (record {
          more = v ∷ [];
          grown = refl;
          few = omega arith;
          fresh = Lists.more refl Lists.none;
          number = k;
          took = rw h (took_new s.vertices v);
          listed = refl;
          marked = λ e. length_flagged flag k (s.marks ++ (0 ∷ [])) ∙ length-append s.marks (0 ∷ []) ∙ ap (λ (n : ℕ). n + 1) e
              ∙ sym (length-append s.vertices (v ∷ []));
        })

-- ---- all of a contour's vertices

welds_more : (old vs : List Vertex) (i : ℕ) (s t : Welded) → Added (get_or vs i no_vertex) s t → Welds old vs i s → Welds old vs (suc i) t
welds_more old vs i s t a w = record {
  more = w.more ++ a.more;
  grown = a.grown ∙ ap (λ (l : List Vertex). l ++ a.more) w.grown ∙ append_assoc old w.more a.more;
  few = omega (arith, length-append w.more a.more, w.few, a.few);
  fresh = all_append
      (all_imp (λ u (o : OneOf vs i u). record { place = o.place; below = omega (arith, o.below); is = o.is }) w.fresh)
      (all_imp (λ u (e : u ≡ get_or vs i no_vertex). record { place = i; below = omega arith; is = e }) a.fresh);
  listed = ap length a.listed ∙ length-append s.numbers (a.number ∷ []) ∙ ap (λ (n : ℕ). n + 1) w.listed ∙ add-one i;
  took = λ k h. rw a.listed (below_more (λ (k : ℕ). Took t.vertices (get_or (s.numbers ++ (a.number ∷ [])) k 0) (get_or vs k no_vertex)) i
      (λ k h. rw (get_or-append s.numbers (a.number ∷ []) 0 k (omega (arith, w.listed)), a.grown) (took_more a.more (w.took k h)))
      (rw (get_or_at s.numbers a.number [] 0 i w.listed) a.took) k (omega arith));
  marked = a.marked w.marked;
}

pub welded : (height : ℕ) (vs : List Vertex) (flags : List ℕ) (s : Welded) → length s.marks ≡ length s.vertices → s.numbers ≡ []
    → Welds s.vertices vs (length vs) (weld_all height vs flags s)
unfolding weld_all weld_one
welded height vs flags s m e = each_at (weld_one height vs flags) (Welds s.vertices vs) (length vs)
    (λ i t h w. welds_more s.vertices vs i t (add_vertex height (get_or vs i no_vertex) (get_or flags i 0) t)
    (vertex_added height (get_or vs i no_vertex) (get_or flags i 0) t) w) s
    (record {
      more = [];
      grown = sym (append-nil s.vertices);
      few = omega arith;
      fresh = Lists.none;
      listed = ap length e;
      took = λ k h. absurd (omega arith);
      marked = m;
    })

-- ---- vertices on the grid stay there: a new vertex is one of the contour's
pub welded_grid : (height : ℕ) (vs : List Vertex) (flags : List ℕ) (s : Welded) → length s.marks ≡ length s.vertices → s.numbers ≡ []
    → ((k : ℕ) → InGrid (place_of s.vertices k)) → ((k : ℕ) → k < length vs → InGrid (on_plane (get_or vs k no_vertex)))
    → (k : ℕ) → InGrid (place_of (weld_all height vs flags s).vertices k)
unfolding place_of
welded_grid height vs flags s m e old new k =
    let w = welded height vs flags s m e in
    rw w.grown (every_at On no_vertex (s.vertices ++ w.more)
    (every_append On no_vertex s.vertices w.more (every_of On no_vertex s.vertices old)
    (every_of_all On no_vertex (record { x_small = omega arith; z_small = omega arith })
    (all_imp (λ u (o : OneOf vs (length vs) u). rw o.is (new o.place o.below)) w.fresh))) k)
  where
    On : Vertex → Type 0
    On v = InGrid (on_plane v)
