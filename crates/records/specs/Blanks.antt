-- Polygons of which some have gone: those that are left stand first, with blank records behind them. What is read from such records, and what one more
-- that goes, or others in the place of those that are left, make of them. Assumes nothing.
-- Key: `blanked_less`: one polygon fewer, and a blank one more; `blanked_same`: others in the place of those that are left.
use Rattle.std.specs.Prelude.{◌≡◌, refl, List, [], ◌∷◌, ◌++◌, ℕ, suc, ◌+◌, ◌-◌, ◌*◌, ◌≤◌, ◌<◌, length, take, replicate}
use Rattle.std.proofs.Common.{sym, ap, ◌∙◌, append_assoc, append-nil, arith, length-append, take_at}
use Rattle.std.proofs.lemmas.List.{length-replicate}
use Rattle.mem.specs.Slice.{splice, length_splice}
use Rattle.mem.specs.Packed.{Every, every_append, every_same, splice_first}
use Rattle.rules.specs.Mesh.{Polygon, no_polygon}
use Rattle.records.specs.Layout.{polygon_size, polygons_at, polygon_records, Small, Tidy}
use Rattle.records.specs.Polygons.{length_polygons, length_records, records_append, polygons_are, polygons_take}

pub blanks_small : (k : ℕ) → Every Small no_polygon (replicate k no_polygon)
blanks_small k = every_same Small no_polygon k no_polygon (omega arith) (omega arith)

-- of the np polygons that stood at o in w₀, n are left in w, and they are ps
pub record Blanked (w₀ : List ℕ) (o np : ℕ) (w : List ℕ) (ps : List Polygon) (n : ℕ) : Type 0 where
  pub long : length ps ≡ n
  pub within : n ≤ np
  pub small : Every Small no_polygon ps
  pub is : w ≡ splice w₀ o (polygon_records (ps ++ replicate (np - n) no_polygon))

module _ (w₀ : List ℕ) (o np : ℕ) (fits : o + np * polygon_size ≤ length w₀) where
  pub blanked_none : Tidy w₀ o np → Every Small no_polygon (polygons_at w₀ o np) → Blanked w₀ o np w₀ (polygons_at w₀ o np) np
  blanked_none t s =
      let z : np - np ≡ 0 = omega arith in
      record { long = length_polygons w₀ o np; within = omega arith; small = s; is = rw (z, append-nil) t.is }

  module _ {w : List ℕ} {ps : List Polygon} {n : ℕ} (b : Blanked w₀ o np w ps n) where
    all_small : Every Small no_polygon (ps ++ replicate (np - n) no_polygon)
    all_small = every_append Small no_polygon ps (replicate (np - n) no_polygon) b.small (blanks_small (np - n))

    count : length (ps ++ replicate (np - n) no_polygon) ≡ np
    count = simp (length-append, length-replicate) (omega (arith, b.long, b.within))

    pub blanked_size : length w ≡ length w₀
    blanked_size = ap length b.is ∙ length_splice w₀ o _

    pub blanked_are : polygons_at w o n ≡ ps
    blanked_are =
        sym (polygons_take w o np n b.within)
        ∙ ap (take n) (polygons_are w₀ o np (ps ++ replicate (np - n) no_polygon) b.is count all_small fits)
        ∙ take_at ps (replicate (np - n) no_polygon) n b.long

    -- qs in the place of ps
    anew : (qs : List Polygon) → Every Small no_polygon qs → length qs ≡ n
        → splice w o (polygon_records qs) ≡ splice w₀ o (polygon_records (qs ++ replicate (np - n) no_polygon))
    anew qs h e =
        rw (b.is, records_append ps (replicate (np - n) no_polygon), records_append qs (replicate (np - n) no_polygon))
        (splice_first w₀ o (polygon_records ps) (polygon_records (replicate (np - n) no_polygon)) (polygon_records qs)
        (length_records qs h ∙ ap (λ (k : ℕ). k * polygon_size) (e ∙ sym b.long) ∙ sym (length_records ps b.small)))

    pub blanked_tidy : Tidy w o n
    blanked_tidy = record { is = rw blanked_are (b.is ∙ sym (anew ps b.small b.long)) }

    pub blanked_fits : o + n * polygon_size ≤ length w
    blanked_fits = omega (arith, blanked_size, fits, b.within)

    pub blanked_same : {v : List ℕ} (qs : List Polygon) → Every Small no_polygon qs → length qs ≡ n → v ≡ splice w o (polygon_records qs) → Blanked w₀ o np v qs n
    blanked_same qs h e p = record { long = e; within = b.within; small = h; is = p ∙ anew qs h e }

    pub blanked_less : {v : List ℕ} (qs : List Polygon) → 0 < n → Every Small no_polygon qs → length qs ≡ n - 1
        → v ≡ splice w o (polygon_records (qs ++ (no_polygon ∷ []))) → Blanked w₀ o np v qs (n - 1)
    blanked_less qs some h e p =
        let k : np - (n - 1) ≡ suc (np - n) = omega (arith, b.within, some) in
        record {
          long = e;
          within = omega (arith, b.within);
          small = h;
          is =
              p ∙ anew (qs ++ (no_polygon ∷ [])) (every_append Small no_polygon qs (no_polygon ∷ []) h (blanks_small 1)) (simp length-append (omega (arith, e, some)))
              ∙ ap (λ (x : List Polygon). splice w₀ o (polygon_records x)) (rw (append_assoc, k) refl);
        }
