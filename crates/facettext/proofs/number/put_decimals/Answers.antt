-- `facettext::number::put_decimals` meets its contract: the whole part, the point and the four decimals are printed one behind the other. Assumes nothing.
use mathlib.Core.Path.{◌≡◌, sym, ap}
use mathlib.Core.List.{List, [], ◌∷◌, ◌++◌, append-nil}
use Prim.Native.Nat.{ℕ, ◌/◌, ◌%◌}
use native.Mathlib.Omega.{arith}
use lib.ListN.{drop}
use Rattle.rules.specs.Lines.{ascii, decimal}
use Rattle.rules.specs.StlText.{four_digits, decimals}
use Rattle.lines.specs.Pieces.{joined, Going, going_begin, going_room, going_more, going_place, going_byte, going_end}
use Rattle.lines.specs.Printing.{printed_same_length}
use Rattle.facettext.proofs.number.put_decimals.Goals as goal

abbrev texts : ℕ → List (List ℕ)
texts n = decimal (n / 10000) ∷ ((46 ∷ []) ∷ (four_digits (n % 10000) ∷ []))

texts-are : (n : ℕ) → decimals n ≡ joined (texts n)
unfolding decimals joined ascii
texts-are n = ap (λ (l : List ℕ). decimal (n / 10000) ++ (46 ∷ l)) (sym (append-nil (four_digits (n % 10000))))

-- i texts are printed
abbrev Done : ℕ → List ℕ → ℕ → ℕ → List ℕ → ℕ → Type 0
Done n out at i w to = Going (decimals n) out at (drop i (texts n)) w to

pub put_decimal-a-requires : goal.put_decimal-a-requires
put_decimal-a-requires c =
    let begun : Done c.args.n c.args.out.now c.args.at 0 c.args.out.now c.args.at = going_begin _ _ _ (texts-are c.args.n) c.requires in
    going_room begun

pub bounds-out-a : goal.bounds-out-a
bounds-out-a c =
    let begun : Done c.args.n c.args.out.now c.args.at 0 c.args.out.now c.args.at = going_begin _ _ _ (texts-are c.args.n) c.requires in
    let whole : Done c.args.n c.args.out.now c.args.at 1 c.put_decimal-a.new.out c.put_decimal-a.result = going_more begun c.put_decimal-a.ensures in
    going_place whole

pub overflow_add-a : goal.overflow_add-a
overflow_add-a c =
    let begun : Done c.args.n c.args.out.now c.args.at 0 c.args.out.now c.args.at = going_begin _ _ _ (texts-are c.args.n) c.requires in
    let whole : Done c.args.n c.args.out.now c.args.at 1 c.put_decimal-a.new.out c.put_decimal-a.result = going_more begun c.put_decimal-a.ensures in
    omega (arith, going_place whole)

pub put_four-requires : goal.put_four-requires
put_four-requires c =
    let begun : Done c.args.n c.args.out.now c.args.at 0 c.args.out.now c.args.at = going_begin _ _ _ (texts-are c.args.n) c.requires in
    let whole : Done c.args.n c.args.out.now c.args.at 1 c.put_decimal-a.new.out c.put_decimal-a.result = going_more begun c.put_decimal-a.ensures in
    record { n_bound = omega arith; room = going_room (going_byte whole) }

pub returns : goal.returns
returns c =
    let begun : Done c.args.n c.args.out.now c.args.at 0 c.args.out.now c.args.at = going_begin _ _ _ (texts-are c.args.n) c.requires in
    let whole : Done c.args.n c.args.out.now c.args.at 1 c.put_decimal-a.new.out c.put_decimal-a.result = going_more begun c.put_decimal-a.ensures in
    going_end (going_more (going_byte whole) c.put_four.ensures)

pub shape_of-out : goal.shape_of-out
shape_of-out c = printed_same_length (returns c)
