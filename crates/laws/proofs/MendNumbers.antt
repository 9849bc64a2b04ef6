-- Request 12, as the code has it: the points that are left are their original numbers, and a flag is written where the vertex stands. Assumes nothing.
-- Key: `lose_number_lem`, `lose_two_numbers_lem`: a loss by numbers is a loss of the points that they name; `meet_at`: places meet as their numbers do;
-- `kept_place`: a flag that is written changes no place.
use Rattle.std.specs.Prelude.{ℕ, zero, suc, ◌+◌, ◌-◌, ◌*◌, ◌≤◌, ◌<◌, ◌≡◌, Bool, true, false, cond, ◌≢◌, eqb, length, set, take, drop}
use Rattle.std.proofs.Common.{arith, sym, ◌∙◌, eq-eqb, ne_eqb, length-set}
use Rattle.std.proofs.Math.Path.{refl, ap, ap₂}
use mathlib.Core.List.{List, ◌∷◌, ◌++◌, map}
use Rattle.std.proofs.Math.ListN.{get_or, length-map}
use Rattle.std.proofs.Math.Seq.{get_or-set_same, get_or-set_other}
use Rattle.std.proofs.lemmas.List.{set-get_or}
use Rattle.rules.specs.Lists.{next, without}
use Rattle.rules.specs.Plane.{on_plane, origin, vequal}
use Rattle.rules.specs.Job.{job_stride, vertex_at, flag_at}
use Rattle.rules.specs.Mend.{Traced, no_traced, stands_at, trace_places, takes_flag, Mending, place_then, lose_after, lose_two}
use Rattle.laws.specs.Lists.{All, none, more}
use Rattle.laws.proofs.Lists.{all_imp, all_at, all_without, length_without, map_same, map_without, get_or_map_in}
use Rattle.laws.proofs.Ring.{next_below}
use Rattle.laws.proofs.MendLoss.{then_below}
use Rattle.laws.specs.Mend.{left_in, places_in}
use Rattle.laws.specs.MendQuick.{meet}
use Rattle.laws.specs.MendNumbers.{point_of, same_place, carried, carried_if, Up, up_none, up_more, Numbered, mending_of, lose_number, lose_two_numbers, Sound}

-- ---- flags that are written

pub carried_one : (ns : List ℕ) (p q : ℕ) → get_or ns (q * job_stride + 3) 0 ≡ 1 → carried ns p q ≡ set ns (p * job_stride + 3) 1
unfolding carried flag_at
carried_one ns p q e = rw (eq-eqb (get_or ns (q * job_stride + 3) 0) 1 e) refl

pub carried_none : (ns : List ℕ) (p q : ℕ) → (get_or ns (q * job_stride + 3) 0 ≡ 1 → ⊥) → carried ns p q ≡ ns
unfolding carried flag_at
carried_none ns p q e = rw (ne_eqb (get_or ns (q * job_stride + 3) 0) 1 e) refl

-- a 1 is written, or nothing
pub by_carried : (P : List ℕ → Type 0) (t : Bool) (ns : List ℕ) (p q : ℕ) → P (set ns (p * job_stride + 3) 1) → P ns → P (carried_if t ns p q)
unfolding carried_if carried
by_carried P false ns p q a b = b
by_carried P true ns p q a b = go (eqb (flag_at ns q) 1)
  where
    go : (t : Bool) → P (cond t (set ns (p * job_stride + 3) 1) ns)
    go true = a
    go false = b

pub length_carried_if : (t : Bool) (ns : List ℕ) (p q : ℕ) → length (carried_if t ns p q) ≡ length ns
length_carried_if t ns p q = by_carried (λ ms. length ms ≡ length ns) t ns p q (length-set ns (p * job_stride + 3) 1) refl

pub length_carried : (ns : List ℕ) (p q : ℕ) → length (carried ns p q) ≡ length ns
unfolding carried_if
length_carried ns p q = length_carried_if true ns p q

set_vertex : (ns : List ℕ) (p k : ℕ) → vertex_at (set ns (p * job_stride + 3) 1) k ≡ vertex_at ns k
unfolding vertex_at
set_vertex ns p k = rw (
  get_or-set_other ns (p * job_stride + 3) (k * job_stride) 1 0 (λ (e : k * job_stride ≡ p * job_stride + 3). omega arith),
  get_or-set_other ns (p * job_stride + 3) (k * job_stride + 1) 1 0 (λ (e : k * job_stride + 1 ≡ p * job_stride + 3). omega arith),
  get_or-set_other ns (p * job_stride + 3) (k * job_stride + 2) 1 0 (λ (e : k * job_stride + 2 ≡ p * job_stride + 3). omega arith),
) refl

module _ (t : Bool) (ns : List ℕ) (p q : ℕ) where
  pub kept_vertex : (k : ℕ) → vertex_at (carried_if t ns p q) k ≡ vertex_at ns k
  kept_vertex k = by_carried (λ ms. vertex_at ms k ≡ vertex_at ns k) t ns p q (set_vertex ns p k) refl

  -- so that a walk which writes none passes as this one does
  pub kept_place : (a b : ℕ) → same_place (carried_if t ns p q) a b ≡ same_place ns a b
  unfolding same_place
  kept_place a b = rw (kept_vertex a, kept_vertex b) refl

-- ---- numbers that rise
up_lower : {a b : ℕ} {ks : List ℕ} → a ≤ b → Up b ks → Up a ks
up_lower h up_none = up_none
up_lower {a} h (up_more {k} p u) = up_more {b = a} {k = k} (omega arith) u

up_all : {b : ℕ} {ks : List ℕ} → Up b ks → All (λ k. b ≤ k) ks
up_all up_none = none
up_all {b} (up_more {k} p u) = more p (all_imp (λ j (h : suc k ≤ j). omega arith) (up_all u))

up_drop : (n : ℕ) {b : ℕ} {ks : List ℕ} → Up b ks → Up b (drop n ks)
up_drop zero u = u
up_drop (suc n) up_none = up_none
up_drop (suc n) {b} (up_more {k} p u) = up_lower {a = b} {b = suc k} (omega arith) (up_drop n u)

up_cut : (i n : ℕ) {b : ℕ} {ks : List ℕ} → i ≤ n → Up b ks → Up b (take i ks ++ drop n ks)
up_cut zero n h u = up_drop n u
up_cut (suc i) zero h u = absurd (omega arith)
up_cut (suc i) (suc n) h up_none = up_none
up_cut (suc i) (suc n) h (up_more p u) = up_more p (up_cut i n (omega arith) u)

pub up_without : (i : ℕ) {b : ℕ} {ks : List ℕ} → Up b ks → Up b (without ks i)
unfolding without
up_without i u = up_cut i (i + 1) (omega arith) u

-- ---- a flag, as the points have it
module _ (ns : List ℕ) (p : ℕ) where
  raised : p * job_stride + 3 < length ns → point_of (set ns (p * job_stride + 3) 1) p ≡ record { number = p; vertex = vertex_at ns p; flag = 1 }
  unfolding point_of flag_at
  raised h = rw (set_vertex ns p p, get_or-set_same ns (p * job_stride + 3) 1 0 h) refl

  others : (k : ℕ) → k ≢ p → point_of (set ns (p * job_stride + 3) 1) k ≡ point_of ns k
  unfolding point_of flag_at
  others k d = rw (
    set_vertex ns p k,
    get_or-set_other ns (p * job_stride + 3) (k * job_stride + 3) 1 0 (λ (e : k * job_stride + 3 ≡ p * job_stride + 3). d (omega arith)),
  ) refl

-- of rising numbers the one at i is written
raise_map : (ns : List ℕ) {b : ℕ} {ks : List ℕ} (i : ℕ) → Up b ks → i < length ks → get_or ks i 0 * job_stride + 3 < length ns
    → map (point_of (set ns (get_or ks i 0 * job_stride + 3) 1)) ks
    ≡ set (map (point_of ns) ks) i (record { number = get_or ks i 0; vertex = vertex_at ns (get_or ks i 0); flag = 1 })
raise_map ns i up_none h n = absurd (omega arith)
raise_map ns zero (up_more {k} {ks} p u) h n = ap₂ ◌∷◌ (raised ns k n)
    (map_same (point_of (set ns (k * job_stride + 3) 1)) (point_of ns) (λ j (a : suc k ≤ j). others ns k j (λ (e : j ≡ k). omega arith)) (up_all u))
raise_map ns (suc i) (up_more {k} {ks} p u) h n =
    let a : suc k ≤ get_or ks i 0 = all_at (up_all u) i 0 (omega arith) in
    ap₂ ◌∷◌ (others ns (get_or ks i 0) k (λ (e : k ≡ get_or ks i 0). omega arith)) (raise_map ns i u (omega arith) n)

carried_map : (ns : List ℕ) {b : ℕ} {ks : List ℕ} (i q : ℕ) → Up b ks → i < length ks → get_or ks i 0 * job_stride + 3 < length ns
    → map (point_of (carried ns (get_or ks i 0) q)) ks ≡ set (map (point_of ns) ks) i (takes_flag (point_of ns (get_or ks i 0)) (point_of ns q))
unfolding carried takes_flag point_of
carried_map ns {ks = ks} i q u h n = go (eqb (flag_at ns q) 1)
  where
    k : ℕ
    k = get_or ks i 0

    go : (t : Bool) → map (point_of (cond t (set ns (k * job_stride + 3) 1) ns)) ks
        ≡ set (map (point_of ns) ks) i (record { number = k; vertex = vertex_at ns k; flag = cond t 1 (flag_at ns k) })
    go true = raise_map ns i u h n
    go false = let l = map (point_of ns) ks in sym (ap (set l i) (sym (get_or_map_in (point_of ns) ks i 0 no_traced h)) ∙ set-get_or l i no_traced)

-- ---- losses

pub length_points : (w : Numbered) → left_in (mending_of w) ≡ length w.left
unfolding mending_of
length_points w = length-map w.left (point_of w.numbers)

module _ (i : ℕ) (w : Numbered) (s : Sound w) where
  pub lose_sound : Sound (lose_number i w)
  unfolding lose_number
  lose_sound = let k = next i (length w.left) in record {
    rising = up_without k s.rising;
    inside = rw (length_carried w.numbers (get_or w.left i 0) (get_or w.left k 0)) (all_without w.left k s.inside);
  }

  pub lose_number_lem : i < length w.left → mending_of (lose_number i w) ≡ lose_after i (mending_of w)
  unfolding mending_of lose_number lose_after point_of
  lose_number_lem h =
      let k = next i (length w.left) in
      let q = get_or w.left k 0 in
      rw (
        length-map w.left (point_of w.numbers),
        get_or_map_in (point_of w.numbers) w.left i 0 no_traced h,
        get_or_map_in (point_of w.numbers) w.left k 0 no_traced (next_below i (length w.left) (omega arith)),
      ) (ap₂ (λ (ps : List Traced) (ls : List ℕ). record { points = ps; lost = ls })
      (map_without (point_of (carried w.numbers (get_or w.left i 0) q)) w.left k
      ∙ ap (λ (l : List Traced). without l k) (carried_map w.numbers i q s.rising h (all_at s.inside i 0 h)))
      refl)

pub length_lose_number : (i : ℕ) (w : Numbered) → 0 < length w.left → length (lose_number i w).left ≡ length w.left - 1
unfolding lose_number
length_lose_number i w h = length_without w.left (next i (length w.left)) (next_below i (length w.left) h)

module _ (i : ℕ) (w : Numbered) (s : Sound w) where
  pub lose_two_sound : Sound (lose_two_numbers i w)
  unfolding lose_two_numbers
  lose_two_sound = lose_sound (place_then i (length w.left)) (lose_number i w) (lose_sound i w s)

  pub lose_two_numbers_lem : 2 ≤ length w.left → i < length w.left → mending_of (lose_two_numbers i w) ≡ lose_two i (mending_of w)
  unfolding lose_two_numbers lose_two
  lose_two_numbers_lem n h =
      let below = then_below i (length w.left) n h in
      let len = length_lose_number i w (omega arith) in
      lose_number_lem (place_then i (length w.left)) (lose_number i w) (lose_sound i w s) (omega arith)
      ∙ ap₂ (λ (j : ℕ) (m : Mending). lose_after (place_then i j) m) (sym (length_points w)) (lose_number_lem i w s h)

-- ---- tests by number
place_at : (w : Numbered) (i : ℕ) → i < length w.left
    → get_or (places_in (mending_of w)) i origin ≡ on_plane (vertex_at w.numbers (get_or w.left i 0))
unfolding trace_places mending_of point_of
place_at w i h =
    let len = length_points w in
    get_or_map_in stands_at (map (point_of w.numbers) w.left) i no_traced origin (omega arith)
    ∙ ap stands_at (get_or_map_in (point_of w.numbers) w.left i 0 no_traced h)

pub meet_at : (w : Numbered) (i j : ℕ) → i < length w.left → j < length w.left
    → meet (places_in (mending_of w)) i j ≡ same_place w.numbers (get_or w.left i 0) (get_or w.left j 0)
unfolding meet same_place
meet_at w i j h k = ap₂ vequal (place_at w i h) (place_at w j k)
