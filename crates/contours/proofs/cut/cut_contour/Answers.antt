-- `contours::cut::cut_contour` meets its contract: the part that is lent holds the places, and comes back cut. Assumes nothing.
use mathlib.Core.List.{List}
use mathlib.Core.Path.{◌≡◌, ap, ◌∙◌}
use native.Mathlib.Omega.{arith}
use Prim.Native.Nat.{ℕ, ◌+◌, ◌-◌, ◌*◌}
use lib.ListN.{length}
use Rattle.mem.specs.Slice.{view, lent_part}
use Rattle.rules.specs.Ears.{triangulate}
use Rattle.ears.specs.Part.{answer_of, points_of, cut_in}
use Rattle.contours.proofs.Cuts.{cut_laid, cut_places, cut_words_lem}
use Rattle.contours.proofs.cut.cut_contour.Goals as goal

pub triangulate-requires : goal.triangulate-requires
triangulate-requires c =
    let e : c.args.po + (c.args.n * 6 - 6) - c.args.po ≡ c.args.n * 6 - 6 = omega arith in
    rw e (cut_laid c.requires c.lay_contour.ensures)

pub returns : goal.returns
returns c =
    let n = c.args.n in
    let po = c.args.po in
    let x = c.lay_contour.new.work in
    let e : po + (n * 6 - 6) - po ≡ n * 6 - 6 = omega arith in
    let l : length x ≡ length c.args.work.now = c.lay_contour.auto.work in
    let p = cut_places c.requires c.lay_contour.ensures in record {
      answer = c.triangulate.ensures.answer ∙ ap (λ (k : ℕ). answer_of (triangulate (points_of n (view x po k)))) e ∙ rw p;
      words = cut_words_lem c.requires c.lay_contour.ensures
          (lent_part (λ (t : List ℕ). cut_in n t (triangulate (points_of n t))) x c.triangulate.new.part po (n * 6 - 6) _ e
          c.triangulate.ensures.words c.triangulate.auto.part
          (omega (arith, c.requires.room)));
    }
