use mathlib.Core.List.{List}
use mathlib.Core.Path.{◌≡◌, ap, ◌∙◌}
use native.Mathlib.Omega.{arith}
use Prim.Native.Nat.{ℕ, ◌+◌, ◌-◌, ◌*◌}
use lib.ListN.{length}
use Rattle.mem.specs.Slice.{view, lent_part}
use Rattle.rules.specs.Ears.{triangulate}
use Rattle.ears.specs.Part.{answer_of, points_of, cut_in}
use Rattle.holes.proofs.Fills.{cut_laid, cut_places, cut_words_lem}
use Rattle.holes.proofs.fill.cut_hole.Goals as goal

-- src/fill.rt:48:5
pub triangulate-requires : goal.triangulate-requires
triangulate-requires c =
    let e : c.args.po + (c.args.m * 6 - 6) - c.args.po ≡ c.args.m * 6 - 6 = omega arith in
    rw e (cut_laid c.requires c.lay_points.ensures)

-- src/fill.rt:41:1
pub returns : goal.returns
returns c =
    let m = c.args.m in
    let po = c.args.po in
    let x = c.lay_points.new.work in
    let e : po + (m * 6 - 6) - po ≡ m * 6 - 6 = omega arith in
    let l : length x ≡ length c.args.work.now = c.lay_points.auto.work in
    let p = cut_places c.requires c.lay_points.ensures in record {
      answer = c.triangulate.ensures.answer ∙ ap (λ (k : ℕ). answer_of (triangulate (points_of m (view x po k)))) e ∙ rw p;
      words = cut_words_lem c.requires c.lay_points.ensures
          (lent_part (λ (t : List ℕ). cut_in m t (triangulate (points_of m t))) x c.triangulate.new.part po (m * 6 - 6) _ e
          c.triangulate.ensures.words c.triangulate.auto.part
          (omega (arith, c.requires.room)));
    }
