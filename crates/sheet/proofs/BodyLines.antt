-- A contour line and a vertex line, as their readers leave the place and the lists: by the line's numbers, which the reader of lines tells. Assumes nothing.
use Rattle.std.specs.Prelude.{Ok, Err}
use mathlib.Core.Path.{◌≡◌, refl, ap, ◌∙◌}
use mathlib.Core.Bool.{true, false}
use mathlib.Core.List.{List, [], ◌∷◌}
use Prim.Native.Nat.{ℕ, ◌+◌, ◌-◌, ◌*◌, ◌≤◌, ◌<◌}
use native.Mathlib.Omega.{arith}
use lib.Dec.{ltb}
use lib.ListN.{length, get_or, set}
use borrow.Author.Tests.{ltb-false}
use Rattle.ints.specs.Bools.{or_left, or_right}
use Rattle.mem.specs.Slice.{splice, stored_each, set_each}
use Rattle.rules.specs.Lines.{malformed}
use Rattle.rules.specs.Job.{job_stride}
use Rattle.rules.specs.Sheet.{contour_name, v_name, number_most, code_most, contours_most, declared_most}
use Rattle.lines.specs.declared.line.LineRead.{LineRead}
use Rattle.lines.specs.Read.{numbers_at}
use Rattle.lines.specs.Taken.{Good}
use Rattle.sheet.specs.declared.body.Progress.{Progress}
use Rattle.sheet.specs.declared.refusal.SheetRefusal.TheVariants.{Malformed, TooMany}
use Rattle.sheet.specs.Reading.{contour_at, vertex_line_at, is_over, after_contour, put_contour, after_vertex, put_vertex, ContourRead, VertexRead}

abbrev pub ContourGood : List ℕ → ℕ → LineRead 3 → Type 0
ContourGood text at r = Good text at contour_name 0 (number_most ∷ code_most ∷ number_most ∷ []) r

abbrev pub VertexGood : List ℕ → ℕ → LineRead 4 → Type 0
VertexGood text at r = Good text at v_name 0 (number_most ∷ number_most ∷ number_most ∷ number_most ∷ []) r

module _ {text : List ℕ} {at : ℕ} where
  pub contour_most : {r : LineRead 3} → ContourGood text at r
      → (get_or r.numbers 0 0 ≤ number_most) × (get_or r.numbers 1 0 ≤ code_most) × (get_or r.numbers 2 0 ≤ number_most)
  contour_most g = ((g.limits.most 0 (omega arith)).1, (g.limits.most 1 (omega arith)).1, (g.limits.most 2 (omega arith)).1)

  pub vertex_most : {r : LineRead 4} → VertexGood text at r
      → (get_or r.numbers 0 0 ≤ number_most) × (get_or r.numbers 1 0 ≤ number_most) × (get_or r.numbers 2 0 ≤ number_most) × (get_or r.numbers 3 0 ≤ number_most)
  vertex_most g = (
    (g.limits.most 0 (omega arith)).1,
    (g.limits.most 1 (omega arith)).1,
    (g.limits.most 2 (omega arith)).1,
    (g.limits.most 3 (omega arith)).1,
  )

-- a contour that isn't too many
pub not_over : (p : Progress) (n : ℕ) → is_over p n ≡ false → (p.contours < contours_most) × (p.vertices + n ≤ declared_most)
unfolding is_over
not_over p n e = (
  omega (arith, ltb-false contours_most (p.contours + 1) (or_left (ltb contours_most (p.contours + 1)) (ltb declared_most (p.vertices + n)) e)),
  ltb-false declared_most (p.vertices + n) (or_right (ltb contours_most (p.contours + 1)) (ltb declared_most (p.vertices + n)) e),
)

module _ (text : List ℕ) (p : Progress) (ls rs cs : List ℕ) where
  pub contour_bad : numbers_at text p.at contour_name 0 (number_most ∷ code_most ∷ number_most ∷ []) ≡ malformed
      → ContourRead text p (Err (Malformed p.line)) ls rs cs ls rs cs
  unfolding contour_at after_contour put_contour
  contour_bad e = record { next = rw e refl; lengths = rw e refl; regions = rw e refl; codes = rw e refl }

  module _ {r : LineRead 3} (g : ContourGood text p.at r) where
    pub contour_over : is_over p (get_or r.numbers 2 0) ≡ true → ContourRead text p (Err (TooMany p.line)) ls rs cs ls rs cs
    unfolding contour_at after_contour put_contour
    contour_over o = record { next = rw (g.says, o) refl; lengths = rw (g.says, o) refl; regions = rw (g.says, o) refl; codes = rw (g.says, o) refl }

    pub contour_put : is_over p (get_or r.numbers 2 0) ≡ false
        → ContourRead text p (Ok (record { line = p.line + 1; at = r.next; due = get_or r.numbers 2 0; contours = p.contours + 1; vertices = p.vertices })) ls rs cs
        (set ls p.contours (get_or r.numbers 2 0)) (set rs p.contours (get_or r.numbers 0 0)) (set cs p.contours (get_or r.numbers 1 0))
    unfolding contour_at after_contour put_contour
    contour_put o =
        record {
          next = rw (g.says, o, g.ends) refl;
          lengths = rw (g.says, o) refl;
          regions = rw (g.says, o) refl;
          codes = rw (g.says, o) refl;
        }

four_of_lem : (ns : List ℕ) → length ns ≡ 4 → get_or ns 0 0 ∷ get_or ns 1 0 ∷ get_or ns 2 0 ∷ get_or ns 3 0 ∷ [] ≡ ns
four_of_lem [] h = absurd (omega arith)
four_of_lem (a ∷ []) h = absurd (omega arith)
four_of_lem (a ∷ (b ∷ [])) h = absurd (omega arith)
four_of_lem (a ∷ (b ∷ (c ∷ []))) h = absurd (omega arith)
four_of_lem (a ∷ (b ∷ (c ∷ (d ∷ [])))) h = refl
four_of_lem (a ∷ (b ∷ (c ∷ (d ∷ (e ∷ ns))))) h = absurd (omega arith)

module _ (text : List ℕ) (p : Progress) (ns : List ℕ) where
  pub vertex_bad : numbers_at text p.at v_name 0 (number_most ∷ number_most ∷ number_most ∷ number_most ∷ []) ≡ malformed
      → VertexRead text p (Err (Malformed p.line)) ns ns
  unfolding vertex_line_at after_vertex put_vertex
  vertex_bad e = record { next = rw e refl; numbers = rw e refl }

  pub vertex_put : {r : LineRead 4} → VertexGood text p.at r
      → VertexRead text p (Ok (record { line = p.line + 1; at = r.next; due = p.due - 1; contours = p.contours; vertices = p.vertices + 1 })) ns
      (set (set (set (set ns (p.vertices * job_stride) (get_or r.numbers 0 0)) (p.vertices * job_stride + 1) (get_or r.numbers 1 0))
      (p.vertices * job_stride + 2) (get_or r.numbers 2 0)) (p.vertices * job_stride + 3) (get_or r.numbers 3 0))
  unfolding vertex_line_at after_vertex put_vertex set_each
  vertex_put {r} g =
      let k = p.vertices * job_stride in
      let at : ℕ → ℕ = λ i. get_or r.numbers i 0 in
      record {
        next = rw (g.says, g.ends) refl;
        numbers = rw g.says (stored_each ns k (at 0) (at 1 ∷ at 2 ∷ at 3 ∷ []) ∙ ap (splice ns k) (four_of_lem r.numbers g.limits.long));
      }
