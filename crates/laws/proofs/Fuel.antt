-- The rules' loops, with the fuel that they are given, take every turn that their sentences ask for: what `rules` states in its file `Fuel`. Each turn of a
-- loop lowers what is left by one, and so the fuel is always what is left (of passes over sides: `Passes`). Assumes nothing.
-- Key: `fuel_suffices`.
use Rattle.std.specs.Prelude.{◌≡◌, refl, Bool, true, false, List, [], ◌∷◌, ◌++◌, ℕ, zero, suc, ◌+◌, ◌-◌, ◌≤◌, ◌<◌, ltb, length, get_or, set}
use Rattle.std.proofs.Common.{sym, ap, ◌∙◌, ⊎_elim, arith, lt-ltb, le-ltb, ltb-false, length-set}
use Rattle.mem.specs.Cases.{lt_or_le}
use Rattle.mem.specs.Loops.{times, times_end, times_turn, times_last, times_still, each, steps}
use Rattle.rules.specs.Lists.{swap_remove}
use Rattle.rules.specs.Ears.{indices, mark_all, cut_ear, cut_all, triangulate}
use Rattle.rules.specs.Mesh.{Polygon, no_polygon, polygon_at, Mesh, no_mesh}
use Rattle.rules.specs.Merge.{best_pair, join_pair, joined, merge_loop, merge_all}
use Rattle.rules.specs.Removal.{holds, untouched, TakingOut, take_one, taken_out, Walk, walk_one, walk_once, walk_start, walk, Removal, gone, remove_vertex, remove_from, remove_all}
use Rattle.rules.specs.Job.{Job}
use Rattle.rules.specs.Build.{add_from, add_all}
use Rattle.rules.specs.Fuel.{Cutting, CutFromTheStart, Merging, NoPairLeft, Taking, TakenOut, Passing, WalkedOnce, Walking, NoSideLeftToUse, Trying, TriedFromTheStart, Adding, AddedFromTheStart, FuelSuffices}
use Rattle.rules.specs.declared.Point.{Point}
use Rattle.rules.specs.declared.Vertex.{Vertex}
use Rattle.rules.specs.declared.Pair.{Pair}
use Rattle.laws.proofs.Lists.{swap_length, length_without}
use Rattle.laws.proofs.Ears.{length_cut, length_marked, length_indices}
use Rattle.laws.proofs.CutTurns.{cut_some, cut_none}
use Rattle.laws.proofs.Walks.{one_left}
use Rattle.laws.proofs.Removal.{removal_fills}
use Rattle.laws.proofs.Contours.{add_skip, add_stuck, add_done}
use Rattle.laws.proofs.Build.{from_false, from_gone, from_stuck}
use Rattle.laws.proofs.Passes.{once_ends, passes_enough, once_still, one_more}

-- ---- R2: a cut takes one word away
pub cutting_turns : (ps : List Point) (ws : List ℕ) (out : List (List ℕ)) → Cutting ps ws out
unfolding cut_all
cutting_turns ps ws out =
    record {
      cut = λ e h q.
          let n = length_cut ps e.at ws (omega arith) in
          let p : length ws - 3 ≡ suc (length (cut_ear ps e.at ws) - 3) = omega arith in
          ap (λ (f : ℕ). cut_all f ps ws out) p ∙ cut_some (length (cut_ear ps e.at ws) - 3) ps ws out e q;
      none = λ h q.
          let p : length ws - 3 ≡ suc (length ws - 1 - 3) = omega arith in
          ap (λ (f : ℕ). cut_all f ps ws out) p ∙ cut_none (length ws - 1 - 3) ps ws out q;
      last = λ h. let p : length ws - 3 ≡ 0 = omega arith in ap (λ (f : ℕ). cut_all f ps ws out) p;
    }

pub cut_from_the_start : CutFromTheStart
unfolding triangulate
cut_from_the_start ps =
    let ws = mark_all ps (indices (length ps)) in
    ap (λ (n : ℕ). cut_all (n - 3) ps ws []) (sym (length_marked ps (indices (length ps)) ∙ length_indices (length ps)))

-- ---- R4
some_pair : (vs : List Vertex) (nvp : ℕ) (ps : List Polygon) → 0 < (best_pair vs nvp ps).length → 0 < length ps
unfolding best_pair each steps
some_pair vs nvp [] h = absurd (omega arith)
some_pair vs nvp (p ∷ ps) h = omega arith

pub length_join : (ps : List Polygon) (m : Pair) → length (join_pair ps m) ≡ length ps - 1
unfolding join_pair
length_join ps m =
    let j = joined (polygon_at ps m.a) (polygon_at ps m.b) m.ea m.eb in
    swap_length no_polygon (set ps m.a j) m.b ∙ ap (λ (n : ℕ). n - 1) (length-set ps m.a j)

stop_at : (f : ℕ) (vs : List Vertex) (nvp : ℕ) (ps : List Polygon) → ltb 0 (best_pair vs nvp ps).length ≡ false → merge_loop f vs nvp ps ≡ ps
unfolding merge_loop
stop_at zero vs nvp ps e = refl
stop_at (suc f) vs nvp ps e = rw (merge_loop, e)

join_at_lem : (f : ℕ) (vs : List Vertex) (nvp : ℕ) (ps : List Polygon) → ltb 0 (best_pair vs nvp ps).length ≡ true
    → merge_loop (suc f) vs nvp ps ≡ merge_loop f vs nvp (join_pair ps (best_pair vs nvp ps))
unfolding merge_loop
join_at_lem f vs nvp ps e = rw (merge_loop, e)

pub merging_turns : (vs : List Vertex) (nvp : ℕ) (ps : List Polygon) → Merging vs nvp ps
merging_turns vs nvp ps = record {
  join = λ h.
      let n = length_join ps (best_pair vs nvp ps) in
      let k = some_pair vs nvp ps h in
      let p : length ps ≡ suc (length (join_pair ps (best_pair vs nvp ps))) = omega arith in
      ap (λ (f : ℕ). merge_loop f vs nvp ps) p ∙ join_at_lem (length (join_pair ps (best_pair vs nvp ps))) vs nvp ps (lt-ltb 0 (best_pair vs nvp ps).length h);
  stop = λ h. stop_at (length ps) vs nvp ps (le-ltb 0 (best_pair vs nvp ps).length (omega arith));
}

none_left : (f : ℕ) (vs : List Vertex) (nvp : ℕ) (ps : List Polygon) → length ps ≤ f → (best_pair vs nvp (merge_loop f vs nvp ps)).length ≡ 0
unfolding merge_loop
none_left zero vs nvp ps h = ⊎_elim
    (λ (k : 0 < (best_pair vs nvp ps).length). absurd (omega (arith, some_pair vs nvp ps k)))
    (λ (k : (best_pair vs nvp ps).length ≤ 0). omega arith)
    (lt_or_le 0 (best_pair vs nvp ps).length)
none_left (suc f) vs nvp ps h =
    let m = best_pair vs nvp ps in
    (elim (ltb 0 m.length) as (λ (t : Bool). ltb 0 m.length ≡ t → (best_pair vs nvp (elim t [ true ↦ merge_loop f vs nvp (join_pair ps m) | false ↦ ps ])).length ≡ 0) [
      | true ↦ λ e. none_left f vs nvp (join_pair ps m) (omega (arith, length_join ps m))
      | false ↦ λ e. omega (arith, ltb-false 0 m.length e)
    ]) refl

pub no_pair_left : NoPairLeft
unfolding merge_all
no_pair_left vs nvp ps h = rw (lt-ltb 3 nvp h, merge_all) (none_left (length ps) vs nvp ps (omega arith))

-- ---- R5: polygons are looked at. Each turn takes one out or steps past one
take_left : (rem : ℕ) (s : TakingOut) → s.at < length s.polygons
    → length (take_one rem s).polygons - (take_one rem s).at ≡ length s.polygons - s.at - 1
unfolding take_one
take_left rem s h =
    let p = polygon_at s.polygons s.at in
    let less : TakingOut = record { polygons = swap_remove no_polygon s.polygons s.at; sides = s.sides ++ untouched rem p; at = s.at } in
    let next : TakingOut = record { polygons = s.polygons; sides = s.sides; at = s.at + 1 } in
    elim (ltb 0 (holds rem p)) as (λ (t : Bool). length (elim t as (λ b. TakingOut) [ true ↦ less | false ↦ next ]).polygons
    - (elim t as (λ b. TakingOut) [ true ↦ less | false ↦ next ]).at ≡ length s.polygons - s.at - 1) [
      | true ↦ omega (arith, swap_length no_polygon s.polygons s.at)
      | false ↦ omega arith
    ]

pub taking_turns : (rem : ℕ) (s : TakingOut) → Taking rem s
taking_turns rem s = record {
  look = λ h.
      times_turn (take_one rem) (length s.polygons - s.at) s (omega arith)
      ∙ ap (λ (n : ℕ). times (take_one rem) n (take_one rem s)) (sym (take_left rem s h));
  end = λ h. let p : length s.polygons - s.at ≡ 0 = omega arith in rw p (times_end (take_one rem) s);
}

pub taken_out_lem : TakenOut
unfolding taken_out
taken_out_lem rem ps = let p : length ps - 0 ≡ length ps = omega arith in rw p refl

-- ---- R5: once over the sides. Each turn uses a side or steps past one
pub passing_turns : (w : Walk) → Passing w
passing_turns w = record {
  try = λ h.
      let n = one_left w (length w.rest - w.at - 1) (omega arith) in
      let p : length w.rest - w.at - 1 ≡ length (walk_one w).rest - (walk_one w).at = omega arith in
      times_turn walk_one (length w.rest - w.at) w (omega arith) ∙ ap (λ (n : ℕ). times walk_one n (walk_one w)) p;
  end = λ h. let p : length w.rest - w.at ≡ 0 = omega arith in rw p (times_end walk_one w);
}

pub walked_once : WalkedOnce
unfolding walk_once
walked_once w = let p : length w.rest - 0 ≡ length w.rest = omega arith in rw p refl

-- ---- R5: again and again

pub walking_turns : (w : Walk) → Walking w
walking_turns w = record {
  again = λ h.
      times_turn walk_once (length w.rest) w (omega arith)
      ∙ passes_enough (length w.rest - 1) (length (walk_once w).rest) (walk_once w) (once_ends w) (omega arith) (omega arith);
  stop = λ h k.
      times_turn walk_once (length w.rest) w h
      ∙ times_still walk_once (length w.rest - 1) (walk_once w) (once_still w k);
  end = λ h. rw h (times_end walk_once w);
}

pub no_side_left : NoSideLeftToUse
unfolding walk walk_start
no_side_left sides h = sym (times_last walk_once (length sides) (walk_start sides)) ∙ one_more (length sides) (walk_start sides) h (omega arith)

-- ---- R5: vertices are tried. A removal takes one away, and else the number rises
length_removed : (nvp i : ℕ) (m t : Mesh) (r : Removal) → i < length m.vertices → remove_vertex nvp i m ≡ gone t r → length t.vertices ≡ length m.vertices - 1
length_removed nvp i m t r h q = ap (λ (u : Mesh). length u.vertices) (removal_fills nvp i m t r q).mesh ∙ length_without m.vertices i h

pub trying_turns : (nvp i : ℕ) (m : Mesh) (log : List Removal) → Trying nvp i m log
unfolding remove_from
trying_turns nvp i m log =
    let n = length m.vertices in
    record {
      stays = λ h e.
          let p : n - i ≡ suc (n - (i + 1)) = omega arith in
          ap (λ (f : ℕ). remove_from f nvp i m log) p ∙ from_false (n - (i + 1)) nvp i m log e;
      leaves = λ h e t r q.
          let l = length_removed nvp i m t r h q in
          let p : n - i ≡ suc (length t.vertices - i) = omega arith in
          ap (λ (f : ℕ). remove_from f nvp i m log) p ∙ from_gone (length t.vertices - i) nvp i m log t r e q;
      stuck = λ h e q.
          let p : n - i ≡ suc (n - 1 - i) = omega arith in
          ap (λ (f : ℕ). remove_from f nvp i m log) p ∙ from_stuck (n - 1 - i) nvp i m log e q;
      end = λ h. let p : n - i ≡ 0 = omega arith in ap (λ (f : ℕ). remove_from f nvp i m log) p;
    }

pub tried_from_the_start : TriedFromTheStart
unfolding remove_all
tried_from_the_start nvp m = let p : length m.vertices ≡ length m.vertices - 0 = omega arith in ap (λ (n : ℕ). remove_from n nvp 0 m []) p

-- ---- the contours
pub adding_turns : (j : Job) (c first : ℕ) (m : Mesh) → Adding j c first m (get_or j.lengths c 0)
unfolding add_from
adding_turns j c first m =
    let n = get_or j.lengths c 0 in
    let l = length j.lengths in
    let less : c < l → l - c ≡ suc (l - (c + 1)) = λ (h : c < l). omega arith in
    record {
      skip = λ h k. ap (λ (f : ℕ). add_from f j c first m) (less h) ∙ add_skip (l - (c + 1)) j c first m (lt-ltb n 3 k);
      add = λ h k ts e. ap (λ (f : ℕ). add_from f j c first m) (less h) ∙ add_done (l - (c + 1)) j c first m ts (le-ltb n 3 k) e;
      none = λ h k i e. ap (λ (f : ℕ). add_from f j c first m) (less h) ∙ add_stuck (l - (c + 1)) j c first m i (le-ltb n 3 k) e;
      end = λ h. let p : l - c ≡ 0 = omega arith in ap (λ (f : ℕ). add_from f j c first m) p;
    }

pub added_from_the_start : AddedFromTheStart
unfolding add_all
added_from_the_start j = let p : length j.lengths ≡ length j.lengths - 0 = omega arith in ap (λ (n : ℕ). add_from n j 0 0 no_mesh) p

-- ---- all of it
pub fuel_suffices : FuelSuffices
fuel_suffices = record {
  cut = cut_from_the_start;
  cuts = cutting_turns;
  merges = merging_turns;
  merged = no_pair_left;
  takes = taking_turns;
  taken = taken_out_lem;
  passes = passing_turns;
  passed = walked_once;
  walks = walking_turns;
  walked = no_side_left;
  tries = trying_turns;
  tried = tried_from_the_start;
  adds = adding_turns;
  added = added_from_the_start;
}
