use Prim.Native.Nat.{◌<◌}
use Rattle.polys.proofs.Rounds.{going_begin, going_some, going_join, going_renew, going_more, going_end}
use borrow.Author.Rules.{rules}
use Rattle.polys.proofs.merge.merge_pairs.Goals as goal

pub loop-f-init : goal.loop-f-init
loop-f-init g c = going_begin c.args.f c.requires.0.rows c.requires.1 c.requires.0

pub returns-then-m-eq0 : goal.returns-then-m-eq0
returns-then-m-eq0 g c =
    going_end c.args.f c.requires.0.rows c.requires.1 c.loop-f.invariant _ c.best-m.ensures c.requires.2 (search rules)

pub join_pair-requires : goal.join_pair-requires
join_pair-requires g c =
    going_join c.args.f c.requires.0.rows c.requires.1 c.loop-f.invariant _ c.best-m.ensures (search rules)

pub overflow_sub-n : goal.overflow_sub-n
overflow_sub-n g c =
    let left-some : 0 < c.loop-f.n = going_some c.args.f c.requires.0.rows c.requires.1 c.loop-f.invariant _ c.best-m.ensures (search rules) in
    let h = left-some in search rules

pub renew-requires : goal.renew-requires
renew-requires g c =
    let some-length : 0 < c.best-m.result.length = search rules in
    let j = c.join_pair in
    going_renew c.args.f c.requires.0.rows c.requires.1 c.loop-f.invariant _ c.best-m.ensures
    (some-length) j.auto.work j.ensures

pub loop-f-smaller : goal.loop-f-smaller
loop-f-smaller g c =
    let left-some : 0 < c.loop-f.n = going_some c.args.f c.requires.0.rows c.requires.1 c.loop-f.invariant _ c.best-m.ensures (search rules) in
    let h = left-some in search rules

pub loop-f-preserved : goal.loop-f-preserved
loop-f-preserved g c =
    let some-length : 0 < c.best-m.result.length = search rules in
    let j = c.join_pair in
    let n = c.renew in
    going_more c.args.f c.requires.0.rows c.requires.1 c.loop-f.invariant _ c.best-m.ensures
    (some-length) j.auto.work j.ensures n.auto.work n.ensures
