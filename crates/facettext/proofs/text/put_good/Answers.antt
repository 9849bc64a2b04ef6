-- `facettext::text::put_good` meets its contract: the unit, the count and the lines of the facets are printed one behind the other. Assumes nothing.
use mathlib.Core.Path.{◌≡◌}
use mathlib.Core.List.{List}
use Prim.Native.Nat.{ℕ}
use native.Mathlib.Omega.{arith}
use lib.ListN.{drop}
use Rattle.rules.specs.Lines.{ascii}
use Rattle.rules.specs.Sheet.{unit_name, mm_name, unit_line}
use Rattle.rules.specs.Stl.{count_in, facets_in, facets_read}
use Rattle.rules.specs.StlText.{facets_name, reading_text}
use Rattle.lines.specs.Pieces.{Going, going_begin, going_room, going_more, going_place, going_byte, going_end}
use Rattle.lines.specs.Printing.{printed_same_length}
use Rattle.facettext.proofs.Facets.{good_texts, good_texts_lem}
use Rattle.facettext.proofs.Readings.{right_is}
use Rattle.facettext.proofs.text.put_good.Goals as goal

-- i texts are printed
abbrev Done : List ℕ → List ℕ → ℕ → ℕ → List ℕ → ℕ → Type 0
Done file out n i w to = Going (reading_text (facets_read (facets_in file))) out 0 (drop i (good_texts file n)) w to

pub get_u32-n-requires : goal.get_u32-n-requires
get_u32-n-requires c = omega (arith, (right_is c.args.file.now c.requires.file_value).long)

pub put_text-a-requires : goal.put_text-a-requires
unfolding unit_line unit_name mm_name ascii count_in
put_text-a-requires c =
    let counted : c.get_u32-n.result ≡ count_in c.args.file.now = c.get_u32-n.ensures in
    let begun : Done c.args.file.now c.args.out.now c.get_u32-n.result 0 c.args.out.now 0 =
    going_begin _ _ _ (good_texts_lem c.args.file.now c.get_u32-n.result counted) c.requires.room in
    going_room begun

pub put_text-b-requires : goal.put_text-b-requires
unfolding facets_name ascii count_in unit_line unit_name mm_name
put_text-b-requires c =
    let counted : c.get_u32-n.result ≡ count_in c.args.file.now = c.get_u32-n.ensures in
    let begun : Done c.args.file.now c.args.out.now c.get_u32-n.result 0 c.args.out.now 0 =
    going_begin _ _ _ (good_texts_lem c.args.file.now c.get_u32-n.result counted) c.requires.room in
    let unit : Done c.args.file.now c.args.out.now c.get_u32-n.result 1 c.put_text-a.new.out c.put_text-a.result = going_more begun c.put_text-a.ensures in
    going_room unit

pub put_cell-c-requires : goal.put_cell-c-requires
unfolding count_in unit_line unit_name mm_name ascii facets_name
put_cell-c-requires c =
    let counted : c.get_u32-n.result ≡ count_in c.args.file.now = c.get_u32-n.ensures in
    let begun : Done c.args.file.now c.args.out.now c.get_u32-n.result 0 c.args.out.now 0 =
    going_begin _ _ _ (good_texts_lem c.args.file.now c.get_u32-n.result counted) c.requires.room in
    let unit : Done c.args.file.now c.args.out.now c.get_u32-n.result 1 c.put_text-a.new.out c.put_text-a.result = going_more begun c.put_text-a.ensures in
    let named : Done c.args.file.now c.args.out.now c.get_u32-n.result 2 c.put_text-b.new.out c.put_text-b.result = going_more unit c.put_text-b.ensures in
    going_room named

pub bounds-out-c : goal.bounds-out-c
unfolding count_in unit_line unit_name mm_name ascii facets_name
bounds-out-c c =
    let counted : c.get_u32-n.result ≡ count_in c.args.file.now = c.get_u32-n.ensures in
    let begun : Done c.args.file.now c.args.out.now c.get_u32-n.result 0 c.args.out.now 0 =
    going_begin _ _ _ (good_texts_lem c.args.file.now c.get_u32-n.result counted) c.requires.room in
    let unit : Done c.args.file.now c.args.out.now c.get_u32-n.result 1 c.put_text-a.new.out c.put_text-a.result = going_more begun c.put_text-a.ensures in
    let named : Done c.args.file.now c.args.out.now c.get_u32-n.result 2 c.put_text-b.new.out c.put_text-b.result = going_more unit c.put_text-b.ensures in
    let numbered : Done c.args.file.now c.args.out.now c.get_u32-n.result 3 c.put_cell-c.new.out c.put_cell-c.result = going_more named c.put_cell-c.ensures in
    going_place numbered

pub overflow_add-c : goal.overflow_add-c
unfolding count_in unit_line unit_name mm_name ascii facets_name
overflow_add-c c =
    let counted : c.get_u32-n.result ≡ count_in c.args.file.now = c.get_u32-n.ensures in
    let begun : Done c.args.file.now c.args.out.now c.get_u32-n.result 0 c.args.out.now 0 =
    going_begin _ _ _ (good_texts_lem c.args.file.now c.get_u32-n.result counted) c.requires.room in
    let unit : Done c.args.file.now c.args.out.now c.get_u32-n.result 1 c.put_text-a.new.out c.put_text-a.result = going_more begun c.put_text-a.ensures in
    let named : Done c.args.file.now c.args.out.now c.get_u32-n.result 2 c.put_text-b.new.out c.put_text-b.result = going_more unit c.put_text-b.ensures in
    let numbered : Done c.args.file.now c.args.out.now c.get_u32-n.result 3 c.put_cell-c.new.out c.put_cell-c.result = going_more named c.put_cell-c.ensures in
    omega (arith, going_place numbered)

pub put_facet_lines-requires : goal.put_facet_lines-requires
unfolding count_in unit_line unit_name mm_name ascii facets_name
put_facet_lines-requires c =
    let counted : c.get_u32-n.result ≡ count_in c.args.file.now = c.get_u32-n.ensures in
    let begun : Done c.args.file.now c.args.out.now c.get_u32-n.result 0 c.args.out.now 0 =
    going_begin _ _ _ (good_texts_lem c.args.file.now c.get_u32-n.result counted) c.requires.room in
    let unit : Done c.args.file.now c.args.out.now c.get_u32-n.result 1 c.put_text-a.new.out c.put_text-a.result = going_more begun c.put_text-a.ensures in
    let named : Done c.args.file.now c.args.out.now c.get_u32-n.result 2 c.put_text-b.new.out c.put_text-b.result = going_more unit c.put_text-b.ensures in
    let numbered : Done c.args.file.now c.args.out.now c.get_u32-n.result 3 c.put_cell-c.new.out c.put_cell-c.result = going_more named c.put_cell-c.ensures in
    let r = right_is c.args.file.now c.requires.file_value in
    record { n_value = counted; n_in_bounds = omega (arith, r.fits, counted); room = going_room (going_byte numbered) }

pub returns : goal.returns
unfolding count_in unit_line unit_name mm_name ascii facets_name
returns c =
    let counted : c.get_u32-n.result ≡ count_in c.args.file.now = c.get_u32-n.ensures in
    let begun : Done c.args.file.now c.args.out.now c.get_u32-n.result 0 c.args.out.now 0 =
    going_begin _ _ _ (good_texts_lem c.args.file.now c.get_u32-n.result counted) c.requires.room in
    let unit : Done c.args.file.now c.args.out.now c.get_u32-n.result 1 c.put_text-a.new.out c.put_text-a.result = going_more begun c.put_text-a.ensures in
    let named : Done c.args.file.now c.args.out.now c.get_u32-n.result 2 c.put_text-b.new.out c.put_text-b.result = going_more unit c.put_text-b.ensures in
    let numbered : Done c.args.file.now c.args.out.now c.get_u32-n.result 3 c.put_cell-c.new.out c.put_cell-c.result = going_more named c.put_cell-c.ensures in
    going_end (going_more (going_byte numbered) c.put_facet_lines.ensures)

pub shape_of-out : goal.shape_of-out
shape_of-out c = printed_same_length (returns c)
