-- R2: the triangles that are cut have the area of the points, they are n - 2 (`CutTurns`), and their numbers are below n. Assumes nothing.
-- Key: `triangulated`: of three or more points that are cut, the triangles have their area, are two fewer, and name places below their number.
use Rattle.std.specs.Prelude.{ℕ, zero, suc, ◌+◌, ◌-◌, ◌^◌, ◌≤◌, ◌<◌, ◌≡◌, refl, Bool, true, false, cond, ◌&&◌, List, [], ◌∷◌, ◌++◌, map, length, get_or, ℤ, ◌+ℤ◌, Option, Some, None}
use Rattle.std.proofs.Common.{arith, sym, ◌∙◌, ap, take_all}
use Rattle.std.proofs.lemmas.List.{length-map}
use Rattle.std.proofs.Math.Seq.{map-set_same}
use Rattle.std.proofs.Math.IntN.{+ℤ_idl, +ℤ_idr}
use Rattle.mem.specs.Loops.{each_kept, each_ind}
use Rattle.mem.specs.Tab.{tab, length_tab, tab_cong, tab_take, get_or_tab}
use Rattle.ints.specs.Ring.{at, nat, ◌⊕◌, is_eq}
use Rattle.rules.specs.declared.Point.{Point}
use Rattle.rules.specs.declared.Ear.{Ear}
use Rattle.rules.specs.declared.Kind.{Kind}
use Rattle.rules.specs.declared.Kind.TheVariants.{Strict, Loose}
use Rattle.rules.specs.Plane.{area, origin}
use Rattle.rules.specs.Lists.{next, without}
use Rattle.rules.specs.Areas.{sum_of}
use Rattle.rules.specs.Ears.{index_of, with_mark, indices, remark, mark_from, mark_all, is_cuttable, key_from, beats, better, try_ear, least_ear, find_ear, triangle_at, remark_gap, cut_ear, done, cut_all, triangulate}
use Rattle.laws.specs.Lists.{All, none, more}
use Rattle.laws.proofs.Lists.{all_append, all_at, all_of_lem, all_without, sum_append, map_tab, map_without, length_without, get_or_map_in}
use Rattle.laws.proofs.Sides.{area_triangle}
use Rattle.laws.proofs.Ring.{next_below, area_without}
use Rattle.laws.specs.Ears.{Triangle, triangle, cut_area, points_at, Cuts, Triangulated}
use Rattle.laws.proofs.CutTurns.{cut_some, cut_none, not_done, triangles_counted}
use Rattle.laws.proofs.Unmarked.{index_small}

-- ---- marks don't change what a word says
pub index_mark : (on : Bool) (w : ℕ) → index_of (with_mark on w) ≡ index_of w
unfolding index_of with_mark
index_mark true w = omega arith
index_mark false w = omega arith

pub remark_index : (ps : List Point) (i j k : ℕ) (ws : List ℕ) → map index_of (remark ps i j k ws) ≡ map index_of ws
unfolding remark
remark_index ps i j k ws = map-set_same index_of ws k _ 0 (index_mark _ (get_or ws k 0))

pub mark_index : (ps : List Point) (ws : List ℕ) → map index_of (mark_all ps ws) ≡ map index_of ws
unfolding mark_all mark_from
mark_index ps ws = each_kept (mark_from ps (length ws)) (map index_of) (λ i s. remark_index ps i _ _ s) 0 (length ws) ws

pub length_marked : (ps : List Point) (ws : List ℕ) → length (mark_all ps ws) ≡ length ws
length_marked ps ws = sym (length-map (mark_all ps ws) index_of) ∙ ap length (mark_index ps ws) ∙ length-map ws index_of

pub cut_index : (ps : List Point) (i : ℕ) (ws : List ℕ) → map index_of (cut_ear ps i ws) ≡ without (map index_of ws) (next i (length ws))
unfolding cut_ear remark_gap
cut_index ps i ws = remark_index ps _ _ _ _ ∙ remark_index ps _ _ _ _ ∙ map_without index_of ws (next i (length ws))

pub start_index : (ps : List Point) (n : ℕ) → n ≤ 2 ^ 28 → map index_of (mark_all ps (indices n)) ≡ indices n
unfolding indices
start_index ps n h = mark_index ps (tab (λ k. k) n) ∙ map_tab index_of (λ k. k) n ∙ tab_cong index_of (λ k. k) n (λ i k. index_small i (omega arith))

pub length_indices : (n : ℕ) → length (indices n) ≡ n
unfolding indices
length_indices n = length_tab (λ k. k) n

all_indices : (n : ℕ) → All (λ k. k < n) (indices n)
unfolding indices
all_indices n = all_of_lem (tab (λ k. k) n) 0 (λ i h. let e : i < n = rw (length_tab (λ k. k) n) at h in rw (get_or_tab (λ k. k) n i 0 e) e)

-- ---- the ear that is found is one of the places
at_of : Option Ear → ℕ
at_of (Some e) = e.at
at_of None = 0

Found : ℕ → Option Ear → Type 0
Found n o = (e : Ear) → o ≡ Some e → e.at < n

better_in : (ok : Bool) (k i n : ℕ) (o : Option Ear) → i < n → Found n o → Found n (better ok k i o)
unfolding better Found at_of
better_in ok k i n o h f = go (ok && beats k o)
  where
    go : (b : Bool) → Found n (cond b (Some (record { key = k; at = i })) o)
    go true = λ e q. let z : i ≡ e.at = ap at_of q in rw (← z) h
    go false = f

least_in : (kind : Kind) (ps : List Point) (ws : List ℕ) → Found (length ws) (least_ear kind ps ws)
unfolding Found least_ear try_ear
least_in kind ps ws = each_ind (try_ear kind ps ws) (Found (length ws)) 0 (length ws)
    (λ i o l h k. better_in (is_cuttable kind ps ws i) (key_from kind ps ws i) i (length ws) o h k) None (λ e q. cc)

either_in : (n : ℕ) (o p : Option Ear) → Found n o → Found n p → Found n (elim o [ Some e ↦ Some e | None ↦ p ])
either_in n (Some e) p f g = f
either_in n None p f g = g

pub ear_in : (ps : List Point) (ws : List ℕ) (e : Ear) → find_ear ps ws ≡ Some e → e.at < length ws
unfolding Found find_ear
ear_in ps ws = either_in (length ws) (least_ear Strict ps ws) (least_ear Loose ps ws) (least_in Strict ps ws) (least_in Loose ps ws)

-- ---- triangles
-- the triangle at i of the words ws, as one of the numbers js that stand in them
triangle_index : (ws : List ℕ) (i : ℕ) → 0 < length ws → i < length ws
    → triangle_at ws i ≡ get_or (map index_of ws) i 0 ∷ (get_or (map index_of ws) (next i (length ws)) 0 ∷ (get_or (map index_of ws) (next (next i (length ws)) (length ws)) 0 ∷ []))
unfolding triangle_at
triangle_index ws i z h = rw (
  get_or_map_in index_of ws i 0 0 h,
  get_or_map_in index_of ws (next i (length ws)) 0 0 (next_below i (length ws) z),
  get_or_map_in index_of ws (next (next i (length ws)) (length ws)) 0 0 (next_below (next i (length ws)) (length ws) z),
) refl

pub triangle_in : (n : ℕ) (ws : List ℕ) (i : ℕ) → 0 < length ws → i < length ws → All (λ k. k < n) (map index_of ws) → Triangle n (triangle_at ws i)
triangle_in n ws i z h a =
    let e = length-map ws index_of in let p = next_below i (length ws) z in let q = next_below (next i (length ws)) (length ws) z in
    rw (triangle_index ws i z h) (triangle (all_at a i 0 (omega arith)) (all_at a (next i (length ws)) 0 (omega arith)) (all_at a (next (next i (length ws)) (length ws)) 0 (omega arith)))

-- one cut: what goes and what is left have the area of what was
cut_plain : (pt : ℕ → Point) (js : List ℕ) (n i : ℕ) → length js ≡ n → 3 ≤ n → i < n
    → area (map pt js) ≡ area (map pt (get_or js i 0 ∷ (get_or js (next i n) 0 ∷ (get_or js (next (next i n) n) 0 ∷ [])))) +ℤ area (map pt (without js (next i n)))
cut_plain pt js n i e z h =
    let m : length (map pt js) ≡ n = length-map js pt ∙ e in
    let p = next_below i n (omega arith) in let q = next_below (next i n) n (omega arith) in
    let base = area_without (map pt js) i origin (omega arith) (omega arith) in
    (rw m at base)
    ∙ rw (
      get_or_map_in pt js i 0 origin (omega arith),
      get_or_map_in pt js (next i n) 0 origin (omega arith),
      get_or_map_in pt js (next (next i n) n) 0 origin (omega arith),
      map_without pt js (next i n),
      area_triangle (pt (get_or js i 0)) (pt (get_or js (next i n) 0)) (pt (get_or js (next (next i n) n) 0)),
    ) refl

pub cut_one : (ps : List Point) (ws : List ℕ) (i : ℕ) → 3 ≤ length ws → i < length ws
    → area (points_at ps (map index_of ws)) ≡ cut_area ps (triangle_at ws i) +ℤ area (points_at ps (map index_of (cut_ear ps i ws)))
unfolding cut_area points_at
cut_one ps ws i z h = rw (triangle_index ws i (omega arith) h, cut_index ps i ws) (cut_plain (λ k. get_or ps k origin) (map index_of ws) (length ws) i (length-map ws index_of) z h)

pub length_cut : (ps : List Point) (i : ℕ) (ws : List ℕ) → 0 < length ws → length (cut_ear ps i ws) ≡ length ws - 1
length_cut ps i ws h =
    sym (length-map (cut_ear ps i ws) index_of) ∙ ap length (cut_index ps i ws)
    ∙ length_without (map index_of ws) (next i (length ws)) (rw (length-map ws index_of) (next_below i (length ws) h)) ∙ ap (λ (n : ℕ). n - 1) (length-map ws index_of)

points_all : (ps : List Point) → points_at ps (indices (length ps)) ≡ ps
unfolding points_at indices
points_all ps = map_tab (λ k. get_or ps k origin) (λ k. k) (length ps) ∙ tab_take ps (length ps) origin (omega arith) ∙ take_all (length ps) ps (omega arith)

-- ---- all cuts
-- the last three
pub last_area : (ps : List Point) (ws : List ℕ) → length ws ≡ 3 → sum_of (cut_area ps) (triangle_at ws 0 ∷ []) ≡ area (points_at ps (map index_of ws))
unfolding sum_of cut_area points_at triangle_at next
last_area ps [] n = absurd (omega arith)
last_area ps (a ∷ []) n = absurd (omega arith)
last_area ps (a ∷ (b ∷ [])) n = absurd (omega arith)
last_area ps (a ∷ (b ∷ (c ∷ []))) n = +ℤ_idr _
last_area ps (a ∷ (b ∷ (c ∷ (d ∷ l)))) n = absurd (omega arith)

pub cuts_end : (ps : List Point) (ws : List ℕ) (out ts : List (List ℕ)) → length ws ≡ 3 → All (λ k. k < length ps) (map index_of ws) → All (Triangle (length ps)) out
    → out ++ (triangle_at ws 0 ∷ []) ≡ ts → Cuts ps ws out ts
cuts_end ps ws out ts n a b e = rw (← e) (record {
  areas = sum_append (cut_area ps) out (triangle_at ws 0 ∷ []) ∙ ap (λ (z : ℤ). sum_of (cut_area ps) out +ℤ z) (last_area ps ws n);
  inside = all_append b (more (triangle_in (length ps) ws 0 (omega arith) (omega arith) a) none);
})

pub cuts_more : (ps : List Point) (ws : List ℕ) (out ts : List (List ℕ)) (i : ℕ) → 3 ≤ length ws → i < length ws
    → Cuts ps (cut_ear ps i ws) (out ++ (triangle_at ws i ∷ [])) ts → Cuts ps ws out ts
unfolding sum_of
cuts_more ps ws out ts i n h c = record {
  areas = c.areas ∙ rw (sum_append (cut_area ps) out (triangle_at ws i ∷ []), cut_one ps ws i n h)
      (is_eq (at (sum_of (cut_area ps) out) ⊕ (at (cut_area ps (triangle_at ws i)) ⊕ nat 0) ⊕ at (area (points_at ps (map index_of (cut_ear ps i ws)))))
      (at (sum_of (cut_area ps) out) ⊕ (at (cut_area ps (triangle_at ws i)) ⊕ at (area (points_at ps (map index_of (cut_ear ps i ws)))))) (omega arith));
  inside = c.inside;
}

pub cuts : (f : ℕ) (ps : List Point) (ws : List ℕ) (out ts : List (List ℕ)) → length ws ≡ f + 3 → All (λ k. k < length ps) (map index_of ws)
    → All (Triangle (length ps)) out → cut_all f ps ws out ≡ done ts → Cuts ps ws out ts
unfolding cut_all
cuts zero ps ws out ts n a b e = cuts_end ps ws out ts (omega arith) a b (cc)
cuts (suc f) ps ws out ts n a b e =
    (elim (find_ear ps ws) as (λ (o : Option Ear). find_ear ps ws ≡ o → Cuts ps ws out ts) [
      | Some x ↦ λ q.
          let h = ear_in ps ws x q in
          cuts_more ps ws out ts x.at (omega arith) h
          (cuts f ps (cut_ear ps x.at ws) (out ++ (triangle_at ws x.at ∷ [])) ts
          (omega (arith, length_cut ps x.at ws (omega arith)))
          (rw (cut_index ps x.at ws) (all_without (map index_of ws) (next x.at (length ws)) a))
          (all_append b (more (triangle_in (length ps) ws x.at (omega arith) h a) none))
          (sym (cut_some f ps ws out x q) ∙ e))
      | None ↦ λ q. absurd (not_done (length out) ts (sym (cut_none f ps ws out q) ∙ e))
    ]) refl

-- ---- how many they are
pub triangulated : (ps : List Point) (ts : List (List ℕ)) → 3 ≤ length ps → length ps ≤ 2 ^ 28 → triangulate ps ≡ done ts → Triangulated ps ts
unfolding triangulate sum_of
triangulated ps ts h k e =
    let c = cuts (length ps - 3) ps (mark_all ps (indices (length ps))) [] ts lengths (rw (start_index ps (length ps) k) (all_indices (length ps))) none e in
    record {
      areas = c.areas ∙ +ℤ_idl (area (points_at ps (map index_of (mark_all ps (indices (length ps)))))) ∙ ap area (ap (points_at ps) (start_index ps (length ps) k) ∙ points_all ps);
      counts = triangles_counted ps ts h e;
      inside = c.inside;
    }
  where
    lengths : length (mark_all ps (indices (length ps))) ≡ length ps - 3 + 3
    lengths = length_marked ps (indices (length ps)) ∙ length_indices (length ps) ∙ omega arith
