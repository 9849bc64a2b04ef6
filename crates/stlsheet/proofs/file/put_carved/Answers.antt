-- `stlsheet::file::put_carved` meets its contract: the mesh is written, or the line of its refusal. Assumes nothing.
use Rattle.std.specs.Prelude.{Result}
use mathlib.Core.Path.{◌≡◌, sym, ap, ◌∙◌}
use mathlib.Core.List.{List}
use Prim.Native.Nat.{ℕ, ◌+◌, ◌*◌, ◌≤◌}
use native.Mathlib.Omega.{arith}
use lib.Ieee.{Float}
use lib.ListN.{length, take}
use lib.Seq.{length-take-le}
use Rattle.rules.specs.Checks.{vertex_stride}
use Rattle.rules.specs.Handed.{Handed}
use Rattle.rules.specs.Units.{thousandths}
use Rattle.rules.specs.Stl.{Scale}
use Rattle.rules.specs.StlCall.{stl_reply, stl_exit}
use Rattle.rules.specs.StlText.{scale_of}
use Rattle.rules.specs.declared.StlRefusal.{StlRefusal}
use Rattle.checker.specs.Asked.{handed_in}
use Rattle.stl.specs.Steps.{scale_in}
use Rattle.sheet.specs.declared.heading.Heading.{Heading}
use Rattle.sheet.specs.Room.{out_most, refused_room}
use Rattle.stlsheet.specs.Carving.{carved_in}
use Rattle.stlsheet.proofs.Written.{file_fits, file_printed, line_printed, scale_is}
use borrow.Author.Rules.{rules}
use Rattle.stlsheet.proofs.file.put_carved.Goals as goal

-- what is given: the mesh in it, and its scale
abbrev mesh : Heading → ℕ → ℕ → List ℕ → List ℕ → List ℕ → Handed
mesh x n k vs ps ls = let rows = n * x.nvp in handed_in x.nvp (take (k * vertex_stride) vs) (take rows ps) (take rows ls)

abbrev scale : Heading → Scale
scale x = scale_of x.inches x.size x.height

-- the call of the writer: what it answers, and what it leaves
module _ (x : Heading) (m : Handed) where
  answered : (room : ℕ) {d h : Float} {r : Result ℕ StlRefusal} → d ≡ thousandths x.size → h ≡ thousandths x.height → r ≡ stl_reply m (scale_in x.inches d h) room
      → r ≡ stl_reply m (scale x) room
  answered room p q e = e ∙ ap (λ (s : Scale). stl_reply m s room) (scale_is x.inches x.size x.height p q)

  left_as : (out : List ℕ) {d h : Float} {w : List ℕ} → d ≡ thousandths x.size → h ≡ thousandths x.height → w ≡ stl_exit m (scale_in x.inches d h) out
      → w ≡ stl_exit m (scale x) out
  left_as out p q e = e ∙ ap (λ (s : Scale). stl_exit m s out) (scale_is x.inches x.size x.height p q)

pub slice_bounds-write_stl-end : goal.slice_bounds-write_stl-end
slice_bounds-write_stl-end c = sym (length-take-le (c.args.k * vertex_stride) c.args.vertices.now c.requires.vertices)

pub slice_bounds-write_stl-end-2 : goal.slice_bounds-write_stl-end-2
slice_bounds-write_stl-end-2 c = sym (length-take-le (c.args.n * c.args.x.nvp) c.args.polygons.now c.requires.polygons)

pub slice_bounds-write_stl-end-3 : goal.slice_bounds-write_stl-end-3
slice_bounds-write_stl-end-3 c = sym (length-take-le (c.args.n * c.args.x.nvp) c.args.neighbours.now c.requires.links)

-- a file was written: its length is small
pub overflow_mul-result : goal.overflow_mul-result
overflow_mul-result c =
    let a = c.args in
    let m = mesh a.x a.n a.k a.vertices.now a.polygons.now a.neighbours.now in
    let answer = answered a.x m (length a.out.now) c.thousandths-size.ensures c.thousandths-height.ensures c.write_stl-reply.ensures.answer in
    let fits = (file_fits m (scale a.x) (length a.out.now) c.in-Ok.facets (sym answer ∙ c.in-Ok.is)).fits in
    let small : 84 + c.in-Ok.facets * 50 ≤ out_most = omega (arith, fits, c.requires.room) in
    search rules

pub overflow_add-result : goal.overflow_add-result
overflow_add-result c =
    let a = c.args in
    let m = mesh a.x a.n a.k a.vertices.now a.polygons.now a.neighbours.now in
    let answer = answered a.x m (length a.out.now) c.thousandths-size.ensures c.thousandths-height.ensures c.write_stl-reply.ensures.answer in
    let fits = (file_fits m (scale a.x) (length a.out.now) c.in-Ok.facets (sym answer ∙ c.in-Ok.is)).fits in
    let small : 84 + c.in-Ok.facets * 50 ≤ out_most = omega (arith, fits, c.requires.room) in
    search rules

pub put_refused-requires : goal.put_refused-requires
put_refused-requires c =
    let room : length c.write_stl-reply.new.file ≡ out_most = c.write_stl-reply.auto.file ∙ c.requires.room in
    omega (arith, refused_room c.stl_refusal_number.result c.stl_refusal_second.result, room)

pub returns-in-Ok : goal.returns-in-Ok
unfolding carved_in
returns-in-Ok c =
    let a = c.args in
    let m = mesh a.x a.n a.k a.vertices.now a.polygons.now a.neighbours.now in
    let answer = answered a.x m (length a.out.now) c.thousandths-size.ensures c.thousandths-height.ensures c.write_stl-reply.ensures.answer in
    let bytes = left_as a.x m a.out.now c.thousandths-size.ensures c.thousandths-height.ensures c.write_stl-reply.ensures.bytes in
    file_printed m (scale a.x) a.out.now answer bytes c.in-Ok.facets c.in-Ok.is

pub returns-in-Err : goal.returns-in-Err
unfolding carved_in
returns-in-Err c =
    let a = c.args in
    let m = mesh a.x a.n a.k a.vertices.now a.polygons.now a.neighbours.now in
    let answer = answered a.x m (length a.out.now) c.thousandths-size.ensures c.thousandths-height.ensures c.write_stl-reply.ensures.answer in
    let bytes = left_as a.x m a.out.now c.thousandths-size.ensures c.thousandths-height.ensures c.write_stl-reply.ensures.bytes in
    line_printed m (scale a.x) a.out.now answer bytes c.in-Err.refusal c.stl_refusal_number.result c.stl_refusal_second.result
    c.put_refused.ensures c.in-Err.is c.stl_refusal_number.ensures c.stl_refusal_second.ensures
