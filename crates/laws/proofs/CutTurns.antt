-- R2's cuts, turn by turn: an ear is found and one triangle more is cut, or none is and the cutting gives up. So the triangles are n - 2, of three corners
-- each. Assumes nothing.
-- Key: `cut_some`, `cut_none`: one turn; `triangles_counted`, `triangles_three`: how many they are.
use Rattle.std.specs.Prelude.{ℕ, zero, suc, ◌+◌, ◌-◌, ◌≤◌, ◌≡◌, refl, List, [], ◌∷◌, ◌++◌, length, Option, Some, None}
use Rattle.std.proofs.Common.{arith, sym, ◌∙◌, length-append}
use Rattle.rules.specs.declared.Point.{Point}
use Rattle.rules.specs.declared.Ear.{Ear}
use Rattle.rules.specs.Ears.{indices, mark_all, find_ear, triangle_at, cut_ear, done, stuck, cut_all, triangulate}
use Rattle.laws.specs.Lists.{All, none, more}
use Rattle.laws.proofs.Lists.{all_append}

-- ---- one turn
pub cut_some : (f : ℕ) (ps : List Point) (ws : List ℕ) (out : List (List ℕ)) (e : Ear) → find_ear ps ws ≡ Some e
    → cut_all (suc f) ps ws out ≡ cut_all f ps (cut_ear ps e.at ws) (out ++ (triangle_at ws e.at ∷ []))
unfolding cut_all
cut_some f ps ws out e q = rw (q, cut_all) refl

pub cut_none : (f : ℕ) (ps : List Point) (ws : List ℕ) (out : List (List ℕ)) → find_ear ps ws ≡ None → cut_all (suc f) ps ws out ≡ stuck (length out)
unfolding cut_all
cut_none f ps ws out q = rw (q, cut_all) refl

pub not_done : (k : ℕ) (ts : List (List ℕ)) → stuck k ≡ done ts → ⊥
not_done k ts e = let z : ◌≡◌ {A = ℕ} 0 1 = cc in omega arith

-- ---- how many they are
counted : (f : ℕ) (ps : List Point) (ws : List ℕ) (out ts : List (List ℕ)) → cut_all f ps ws out ≡ done ts → length ts ≡ length out + suc f
unfolding cut_all
counted zero ps ws out ts e = let q : out ++ (triangle_at ws 0 ∷ []) ≡ ts = cc in rw (← q) (length-append out (triangle_at ws 0 ∷ []))
counted (suc f) ps ws out ts e =
    (elim (find_ear ps ws) as (λ (o : Option Ear). find_ear ps ws ≡ o → length ts ≡ length out + suc (suc f)) [
      | Some x ↦ λ q. let t = triangle_at ws x.at in
          omega (arith, counted f ps (cut_ear ps x.at ws) (out ++ (t ∷ [])) ts (sym (cut_some f ps ws out x q) ∙ e), length-append out (t ∷ []))
      | None ↦ λ q. absurd (not_done (length out) ts (sym (cut_none f ps ws out q) ∙ e))
    ]) refl

three_corners : (ws : List ℕ) (i : ℕ) → length (triangle_at ws i) ≡ 3
unfolding triangle_at
three_corners ws i = refl

threes : (f : ℕ) (ps : List Point) (ws : List ℕ) (out ts : List (List ℕ)) → All (λ t. length t ≡ 3) out → cut_all f ps ws out ≡ done ts → All (λ t. length t ≡ 3) ts
unfolding cut_all
threes zero ps ws out ts a e = let q : out ++ (triangle_at ws 0 ∷ []) ≡ ts = cc in rw (← q) (all_append a (more {a = triangle_at ws 0} (three_corners ws 0) none))
threes (suc f) ps ws out ts a e =
    (elim (find_ear ps ws) as (λ (o : Option Ear). find_ear ps ws ≡ o → All (λ t. length t ≡ 3) ts) [
      | Some x ↦ λ q. let t = triangle_at ws x.at in
          threes f ps (cut_ear ps x.at ws) (out ++ (t ∷ [])) ts (all_append a (more {a = t} (three_corners ws x.at) none)) (sym (cut_some f ps ws out x q) ∙ e)
      | None ↦ λ q. absurd (not_done (length out) ts (sym (cut_none f ps ws out q) ∙ e))
    ]) refl

-- two fewer than the points
pub triangles_counted : (ps : List Point) (ts : List (List ℕ)) → 3 ≤ length ps → triangulate ps ≡ done ts → length ts ≡ length ps - 2
unfolding triangulate
triangles_counted ps ts h e = omega (arith, counted (length ps - 3) ps (mark_all ps (indices (length ps))) [] ts e)

-- of three corners each
pub triangles_three : (ps : List Point) (ts : List (List ℕ)) → triangulate ps ≡ done ts → All (λ t. length t ≡ 3) ts
unfolding triangulate
triangles_three ps ts e = threes (length ps - 3) ps (mark_all ps (indices (length ps))) [] ts none e
