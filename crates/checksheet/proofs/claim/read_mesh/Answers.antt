-- `checksheet::claim::read_mesh` meets its contract: the mesh line, and what is behind it. Assumes nothing.
use Rattle.lines.specs.Exits.{found_or, refused_or, passed_on}
use Rattle.checksheet.proofs.MeshesRead.{mesh_open, mesh_missed, lists_asked, mesh_claimed, mesh_unread}
use Rattle.checksheet.proofs.claim.read_mesh.Goals as goal

pub returns-then-e-text : goal.returns-then-e-text
returns-then-e-text c =
    mesh_open c.args.text.now c.args.x c.find-e.ensures.0 c.if-e-text.true _ _ _

pub returns-in_err-mesh : goal.returns-in_err-mesh
returns-in_err-mesh c =
    let none = refused_or _ _ _ c.ok_or.ensures.value c.in_err-mesh.was c.from_residual.ensures.1 in
    rw none.1 (mesh_missed c.args.text.now c.args.x c.find-e.ensures.0 c.if-e-text.false c.mesh_cells.ensures none.0 _ _ _)

pub read_lists-requires : goal.read_lists-requires
read_lists-requires c =
    lists_asked c.args.text.now c.args.x c.find-e.ensures.0 c.if-e-text.false c.mesh_cells.ensures
    (found_or _ _ c.ok_or.ensures.value c.in_ok-mesh.was) c.requires c.row_words-words.ensures

pub returns-in_err-read_lists : goal.returns-in_err-read_lists
returns-in_err-read_lists c =
    rw (passed_on _ c.from_residual-in_err-read_lists.ensures.1)
    (mesh_unread c.args.text.now c.args.x c.find-e.ensures.0 c.if-e-text.false c.mesh_cells.ensures
    (found_or _ _ c.ok_or.ensures.value c.in_ok-mesh.was) c.row_words-words.ensures c.read_lists.ensures c.in_err-read_lists.was)

pub returns : goal.returns
returns c =
    mesh_claimed c.args.text.now c.args.x c.find-e.ensures.0 c.if-e-text.false c.mesh_cells.ensures
    (found_or _ _ c.ok_or.ensures.value c.in_ok-mesh.was) c.row_words-words.ensures c.read_lists.ensures c.in_ok-read_lists.was
