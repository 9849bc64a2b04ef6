-- The line of a facet; the lines of a file's facets, as the loop prints them; and the texts of a good file. Assumes nothing.
-- Key: `line_texts_lem`; `lines_over`: the loop; `good_texts_lem`; `good_room`: how long that is.
use mathlib.Core.Path.{◌≡◌, refl, sym, ap, ◌∙◌}
use mathlib.Core.Bool.{false}
use mathlib.Core.List.{List, [], ◌∷◌, ◌++◌, append-nil, append_assoc}
use Prim.Native.Nat.{ℕ, ◌+◌, ◌-◌, ◌*◌, ◌≤◌}
use native.Mathlib.Omega.{arith}
use lib.ListN.{length, drop, get_or, replicate, length-append, length-drop}
use lib.Seq.{take_all}
use Rattle.mem.specs.Slice.{view, splice, splice_whole}
use Rattle.mem.specs.Loops.{over, over_cong}
use Rattle.mem.specs.Tab.{blocks, length_blocks, get_or_blocks}
use Rattle.mem.specs.Packed.{packed}
use Rattle.rules.specs.Lines.{ascii, lf, cell, number_line}
use Rattle.rules.specs.Sheet.{unit_name, mm_name, unit_line}
use Rattle.rules.specs.Stl.{from_little, count_in, facet_in, facets_in, facets_read, no_facet}
use Rattle.rules.specs.StlText.{coordinate_text, facets_name, facet_line, facet_lines, reading_text}
use Rattle.lines.specs.Pieces.{joined, texts_from, texts_short}
use Rattle.lines.specs.Printing.{cell_short}
use Rattle.facettext.proofs.Lengths.{line_short}

-- ---- the line of a facet

abbrev pub line_texts : List ℕ → List (List ℕ)
line_texts f = coordinate_text (get_or f 0 0) ∷ (packed (λ p. 9 ∷ coordinate_text p) (drop 1 f) ∷ ((lf ∷ []) ∷ []))

pub line_texts_lem : (f : List ℕ) → facet_line f ≡ joined (line_texts f)
unfolding facet_line joined
line_texts_lem f = refl

-- all but the first, as they are lent
pub others_lent : (f : List ℕ) → view f 1 (length f - 1) ≡ drop 1 f
others_lent f = take_all (length f - 1) (drop 1 f) (omega (arith, length-drop 1 f))

-- ---- the lines of a file's facets

-- the line of facet k
abbrev pub row : List ℕ → ℕ → List ℕ
row bs k = facet_line (facet_in (view bs (84 + k * 50) 50))

pub facet_nine : (bs : List ℕ) → length (facet_in bs) ≡ 9
unfolding facet_in
facet_nine bs = length_blocks from_little bs 12 4 9

-- they are stored over nine zeros
pub words_are : (bs : List ℕ) {ws : List ℕ} → ws ≡ splice (replicate 9 0) 0 (facet_in bs) → ws ≡ facet_in bs
words_are bs e = e ∙ splice_whole (replicate 9 0) (facet_in bs) (facet_nine bs)

facets_count : (bs : List ℕ) → length (facets_in bs) ≡ count_in bs
unfolding facets_in
facets_count bs = length_blocks facet_in bs 84 50 (count_in bs)

pub lines_over : (bs : List ℕ) (n : ℕ) → n ≡ count_in bs → facet_lines (facets_in bs) ≡ texts_from (row bs) 0 n
unfolding facet_lines facets_in
lines_over bs n e =
    ap (over [] ◌++◌ (λ k. facet_line (get_or (blocks facet_in bs 84 50 (count_in bs)) k no_facet)) 0) (facets_count bs ∙ sym e)
    ∙ over_cong [] ◌++◌ (λ k. facet_line (get_or (blocks facet_in bs 84 50 (count_in bs)) k no_facet)) (row bs) 0 n
    (λ k a h. ap facet_line (get_or_blocks facet_in bs 84 50 (count_in bs) k no_facet (rw e at h)))

-- ---- a good file

abbrev pub good_texts : List ℕ → ℕ → List (List ℕ)
good_texts bs n = unit_line false ∷ (facets_name ∷ (cell n ∷ ((lf ∷ []) ∷ (facet_lines (facets_in bs) ∷ []))))

pub good_texts_lem : (bs : List ℕ) (n : ℕ) → n ≡ count_in bs → reading_text (facets_read (facets_in bs)) ≡ joined (good_texts bs n)
unfolding reading_text number_line packed joined
good_texts_lem bs n e = rw (facets_count bs, e) (simp (append_assoc, append-nil))

pub good_room : (bs : List ℕ) → count_in bs ≤ 1309 → length (reading_text (facets_read (facets_in bs))) ≤ 272000
unfolding joined unit_line unit_name mm_name facets_name ascii
good_room bs h =
    let n = count_in bs in
    let z : n - 0 ≡ n = omega arith in
    let t = rw z at (texts_short (row bs) 207 0 n (λ k a b. line_short (facet_in (view bs (84 + k * 50) 50)) (facet_nine (view bs (84 + k * 50) 50)))) in
    rw (good_texts_lem bs n refl) (simp length-append (omega (arith, t, cell_short n, ap length (lines_over bs n refl))))
