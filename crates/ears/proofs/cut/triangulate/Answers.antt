-- `ears::cut::triangulate` meets its contract: each call leaves one splice of the part, by which the cutting's answer is the rules' and the words
-- that are left are wiped. Assumes nothing.
use mathlib.Core.Path.{◌≡◌, ap, ◌∙◌}
use mathlib.Core.List.{◌++◌}
use Prim.Native.Nat.{◌-◌, ◌*◌}
use native.Mathlib.Omega.{arith}
use lib.ListN.{length, take, drop}
use Rattle.mem.specs.Slice.{splice, length_splice, lent_sized}
use Rattle.rules.specs.Ears.{indices}
use Rattle.ears.proofs.Cuts.{counted_ready, marked_ready, answered, done_words, stuck_words}
use Rattle.ears.proofs.cut.triangulate.Goals as goal

pub mark_all-requires : goal.mark_all-requires
mark_all-requires c =
    let counted : take (c.args.n * 2) (c.args.part.now) ++ (c.count_up.new.ix ++ drop (c.args.n * 3 - c.args.n * 2) (drop (c.args.n * 2) (c.args.part.now)))
    ≡ splice (c.args.part.now) (c.args.n * 2) (indices (c.args.n)) = let e : c.args.n * 3 - c.args.n * 2 ≡ c.args.n = omega arith in
    lent_sized indices (c.args.part.now) c.count_up.new.ix (c.args.n * 2) (c.args.n) _ e
    c.count_up.ensures c.count_up.auto.ix (omega (arith, c.requires.some, c.requires.size)) in
    counted_ready _ _ c.requires (counted)

pub cut_all-t-requires : goal.cut_all-t-requires
cut_all-t-requires c =
    let counted : take (c.args.n * 2) (c.args.part.now) ++ (c.count_up.new.ix ++ drop (c.args.n * 3 - c.args.n * 2) (drop (c.args.n * 2) (c.args.part.now)))
    ≡ splice (c.args.part.now) (c.args.n * 2) (indices (c.args.n)) = let e : c.args.n * 3 - c.args.n * 2 ≡ c.args.n = omega arith in
    lent_sized indices (c.args.part.now) c.count_up.new.ix (c.args.n * 2) (c.args.n) _ e
    c.count_up.ensures c.count_up.auto.ix (omega (arith, c.requires.some, c.requires.size)) in
    let marked-long : length c.mark_all.new.w ≡ length (c.args.part.now) = c.mark_all.auto.w ∙ ap length (counted) ∙ length_splice (c.args.part.now) (c.args.n * 2) (indices (c.args.n)) in (
      marked_ready _ _ c.requires (counted) c.mark_all.ensures,
      c.requires.some,
      omega (arith, marked-long, c.requires.some, c.requires.size),
    )

pub returns-in-Ok : goal.returns-in-Ok
returns-in-Ok c =
    let counted : take (c.args.n * 2) (c.args.part.now) ++ (c.count_up.new.ix ++ drop (c.args.n * 3 - c.args.n * 2) (drop (c.args.n * 2) (c.args.part.now)))
    ≡ splice (c.args.part.now) (c.args.n * 2) (indices (c.args.n)) = let e : c.args.n * 3 - c.args.n * 2 ≡ c.args.n = omega arith in
    lent_sized indices (c.args.part.now) c.count_up.new.ix (c.args.n * 2) (c.args.n) _ e
    c.count_up.ensures c.count_up.auto.ix (omega (arith, c.requires.some, c.requires.size)) in
    let marked-long : length c.mark_all.new.w ≡ length (c.args.part.now) = c.mark_all.auto.w ∙ ap length (counted) ∙ length_splice (c.args.part.now) (c.args.n * 2) (indices (c.args.n)) in
    let cut-long : length c.cut_all-t.new.w ≡ length (c.args.part.now) = c.cut_all-t.auto.w ∙ marked-long in
    let n = c.args.n in
    let v = c.args.part.now in
    let q = c.in-Ok.is in
    let l = cut-long in
    let ended = c.fill in record { answer = answered n v c.requires (counted) c.mark_all.ensures c.cut_all-t.ensures; words = done_words n v c.requires (counted) c.mark_all.ensures c.cut_all-t.ensures q l ended.ensures }

pub returns-in-Err : goal.returns-in-Err
returns-in-Err c =
    let counted : take (c.args.n * 2) (c.args.part.now) ++ (c.count_up.new.ix ++ drop (c.args.n * 3 - c.args.n * 2) (drop (c.args.n * 2) (c.args.part.now)))
    ≡ splice (c.args.part.now) (c.args.n * 2) (indices (c.args.n)) = let e : c.args.n * 3 - c.args.n * 2 ≡ c.args.n = omega arith in
    lent_sized indices (c.args.part.now) c.count_up.new.ix (c.args.n * 2) (c.args.n) _ e
    c.count_up.ensures c.count_up.auto.ix (omega (arith, c.requires.some, c.requires.size)) in
    let marked-long : length c.mark_all.new.w ≡ length (c.args.part.now) = c.mark_all.auto.w ∙ ap length (counted) ∙ length_splice (c.args.part.now) (c.args.n * 2) (indices (c.args.n)) in
    let cut-long : length c.cut_all-t.new.w ≡ length (c.args.part.now) = c.cut_all-t.auto.w ∙ marked-long in
    let n = c.args.n in
    let v = c.args.part.now in
    let l = cut-long in
    let q = c.in-Err.is in
    let ended = c.fill-in-Err in record { answer = answered n v c.requires (counted) c.mark_all.ensures c.cut_all-t.ensures; words = stuck_words n v c.requires (counted) c.mark_all.ensures c.cut_all-t.ensures q l ended.ensures }
