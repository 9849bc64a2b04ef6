-- `removals::remove::remove_vertex` meets its contract: the hole that is left is filled, or it has no ear. Assumes nothing.
use Rattle.removals.proofs.Removes.{open_ready, least, most, at_fits, fill_ready, filled_few, tidy_ready, filled_answer, filled_words, empty_fits}
use Rattle.removals.proofs.Removes.{empty_answer, empty_words}
use borrow.Author.Rules.{rules}
use Rattle.removals.proofs.remove.remove_vertex.Goals as goal

pub open_hole-h-requires : goal.open_hole-h-requires
open_hole-h-requires c = open_ready c.requires

pub overflow_mul-at : goal.overflow_mul-at
overflow_mul-at c = let h = at_fits c.requires c.open_hole-h.ensures in search rules

pub overflow_add-at : goal.overflow_add-at
overflow_add-at c = let h = at_fits c.requires c.open_hole-h.ensures in search rules

pub overflow_sub-h : goal.overflow_sub-h
overflow_sub-h c = let h = least c.requires c.open_hole-h.ensures in search rules

pub overflow_add-h : goal.overflow_add-h
overflow_add-h c = let h = most c.requires c.open_hole-h.ensures in search rules

pub fill_hole-requires : goal.fill_hole-requires
fill_hole-requires c = fill_ready c.requires c.open_hole-h.ensures

pub overflow_add-np : goal.overflow_add-np
overflow_add-np c =
    let o = c.open_hole-h.ensures in
    let e = c.fill_hole.ensures in
    let h = filled_few c.requires o e.words (rw c.in-Some.is at e.answer) in
    search rules

pub tidy_up-requires : goal.tidy_up-requires
tidy_up-requires c =
    let e = c.fill_hole.ensures in
    tidy_ready c.requires c.open_hole-h.ensures e.words (rw c.in-Some.is at e.answer) c.max-far.ensures

pub returns-in-Some : goal.returns-in-Some
returns-in-Some c =
    let r = c.requires in
    let o = c.open_hole-h.ensures in
    let e = c.fill_hole.ensures in
    let a = rw c.in-Some.is at e.answer in
    let g = c.max-far.ensures in
    record { answer = filled_answer r o e.words a g; words = filled_words r o e.words a g c.tidy_up.ensures }

pub wipe_mesh-requires : goal.wipe_mesh-requires
wipe_mesh-requires c =
    let e = c.fill_hole.ensures in
    empty_fits c.requires c.open_hole-h.ensures e.words (rw c.in-None.is at e.answer)

pub returns-in-None : goal.returns-in-None
returns-in-None c =
    let r = c.requires in
    let o = c.open_hole-h.ensures in
    let e = c.fill_hole.ensures in
    let a = rw c.in-None.is at e.answer in
    record { answer = empty_answer r o e.words a; words = empty_words r o e.words a c.wipe_mesh.ensures }
