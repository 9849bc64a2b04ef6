-- What is left of a sound mesh once a vertex has gone, and the hole around it: the ranges that its filling needs. Assumes nothing.
-- Key: `left_over`.
use Rattle.std.specs.Prelude.{ℕ, ◌<◌, length}
use Rattle.std.proofs.Common.{arith}
use Rattle.std.proofs.lemmas.List.{length-map}
use Rattle.rules.specs.Mesh.{Mesh}
use Rattle.rules.specs.Removal.{taken_out, dropped_in, polygons_left, sides_left, walk}
use Rattle.laws.proofs.Lists.{all_imp}
use Rattle.laws.specs.Merge.{Good, Below}
use Rattle.laws.proofs.Merge.{polygons_few}
use Rattle.laws.specs.Removal.{Sound, Removable}
use Rattle.laws.proofs.Removal.{spares_opened, opened, kept, chained, chain_counts, length_sides, hole_room, all_hole}
use Rattle.laws.specs.Left.{Left}

pub left_over : (nvp rem : ℕ) (m : Mesh) → rem < length m.vertices → Sound nvp m → Removable rem m.polygons → Left nvp rem m
unfolding polygons_left sides_left
left_over nvp rem m here sound may =
    let ps = m.polygons in
    let out = taken_out rem ps in
    let chain = (walk (sides_left rem ps)).chain in
    let n = chain_counts rem ps may in
    let l = length_sides rem ps in
    let room = hole_room chain (omega (arith, may.many)) in
    let long = all_imp (λ p (k : Good (Below (length m.vertices)) nvp p). k.long) sound.good in
    let o = opened m.vertices nvp rem ps sound.good in
    let k = kept m.vertices nvp rem out.polygons here o.good o.free in
    let d = chained m.vertices rem out.sides here o.clear (omega (arith, may.many)) may.used in
    let few = polygons_few (all_imp (λ p (g : Good (Below (length m.vertices)) nvp p). g.long) o.good) in
    record {
      good = k.good;
      inside = all_hole chain d.inside;
      least = room.0;
      most = omega (arith, spares_opened rem ps long may.once, few, length-map out.polygons (dropped_in rem));
    }
