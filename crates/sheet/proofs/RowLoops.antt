-- The lines of vertices and of polygons as the loops print them: line i is made of the words of vertex i, and of polygon i. Assumes nothing.
use mathlib.Core.Path.{◌≡◌, refl, ap, ◌∙◌}
use mathlib.Core.List.{List, [], ◌∷◌, ◌++◌}
use Prim.Native.Nat.{ℕ, ◌+◌, ◌*◌, ◌≤◌}
use native.Mathlib.Omega.{arith}
use lib.ListN.{length, take, get_or}
use Rattle.mem.specs.Slice.{view, length_view}
use Rattle.mem.specs.Tab.{tab, length_tab, get_or_tab}
use Rattle.mem.specs.Loops.{over, over_cong, block_fits}
use Rattle.rules.specs.Lines.{number_line}
use Rattle.rules.specs.Weld.{no_vertex}
use Rattle.rules.specs.Mesh.{no_polygon}
use Rattle.rules.specs.Checks.{vertex_stride}
use Rattle.rules.specs.Exits.{vertex_words, vertex_of, up_to_none, stored_polygon, stored_links}
use Rattle.rules.specs.Sheet.{v_name, vertex_line, polygon_lines, vertices_text, polygons_text}
use Rattle.rules.specs.declared.Vertex.{Vertex}
use Rattle.lines.specs.Pieces.{texts_from}
use Rattle.stored.specs.Stored.{lent_of, stored_vertices}
use Rattle.stored.specs.Counts.{corners_there}
use Rattle.sheet.specs.Rows.{polygon_text, vertex_rows, polygon_rows}

-- ---- vertices

-- the line of vertex i of a buffer
abbrev pub vertex_row : List ℕ → ℕ → List ℕ
vertex_row vs i = number_line v_name (view vs (i * 3) 3)

words_again : (ws : List ℕ) → length ws ≡ 3 → vertex_words (vertex_of ws) ≡ ws
unfolding vertex_words vertex_of
words_again [] e = absurd (omega arith)
words_again (a ∷ []) e = absurd (omega arith)
words_again (a ∷ (b ∷ [])) e = absurd (omega arith)
words_again (a ∷ (b ∷ (c ∷ []))) e = refl
words_again (a ∷ (b ∷ (c ∷ (d ∷ ws)))) e = absurd (omega arith)

pub vertices_over : (vs : List ℕ) (k : ℕ) → k * vertex_stride ≤ length vs → vertex_rows vs k ≡ texts_from (vertex_row vs) 0 k
unfolding vertex_rows vertices_text stored_vertices vertex_line
vertices_over vs k h =
    let g : ℕ → Vertex = λ i. vertex_of (view vs (i * 3) 3) in
    ap (over [] ◌++◌ (λ i. vertex_line (get_or (tab g k) i no_vertex)) 0) (length_tab g k)
    ∙ over_cong [] ◌++◌ (λ i. vertex_line (get_or (tab g k) i no_vertex)) (vertex_row vs) 0 k
    (λ i a b. ap vertex_line (get_or_tab g k i no_vertex b) ∙ ap (number_line v_name) (words_again (view vs (i * 3) 3) (length_view vs (i * 3) 3 (block_fits i k 3 (length vs) b h))))

-- ---- polygons

-- the lines of polygon i of some buffers
abbrev pub polygon_row : ℕ → List ℕ → List ℕ → List ℕ → List ℕ → ℕ → List ℕ
polygon_row nvp ps ls rs cs i =
    polygon_text (get_or rs i 0) (get_or cs i 0) (up_to_none (view ps (i * nvp) nvp)) (view ls (i * nvp) (length (up_to_none (view ps (i * nvp) nvp))))

pub polygons_over : (nvp n : ℕ) (ps ls rs cs : List ℕ) → polygon_rows nvp n ps ls rs cs ≡ texts_from (polygon_row nvp ps ls rs cs) 0 n
unfolding polygon_rows polygons_text polygon_text lent_of stored_polygon stored_links
polygons_over nvp n ps ls rs cs =
    let b = lent_of [] ps ls rs cs in
    let p = stored_polygon nvp b in
    let l = stored_links nvp b in
    let f : ℕ → List ℕ = λ i. polygon_lines (get_or (tab p n) i no_polygon) (get_or (tab l n) i []) in
    ap (over [] ◌++◌ f 0) (length_tab p n)
    ∙ over_cong [] ◌++◌ f (polygon_row nvp ps ls rs cs) 0 n (λ i a h. rw (get_or_tab p n i no_polygon h, get_or_tab l n i [] h) refl)

-- it is printed of m words of ps, the c corners among them being lent as j words, and as many links
pub row_printed : (nvp : ℕ) (ps ls rs cs : List ℕ) (i m c j : ℕ) → m ≡ nvp → j ≡ c → i * nvp + nvp ≤ length ps
    → (c ≡ length (up_to_none (view ps (i * nvp) m))) × (take c (view ps (i * nvp) m) ≡ up_to_none (view ps (i * nvp) m))
    → polygon_text (get_or rs i 0) (get_or cs i 0) (view ps (i * nvp) j) (view ls (i * nvp) j) ≡ polygon_row nvp ps ls rs cs i
row_printed nvp ps ls rs cs i m c j e q h r =
    let k : c ≡ length (up_to_none (view ps (i * nvp) nvp)) = rw e at r.0 in
    rw (corners_there ps (i * nvp) nvp m c e h r j q, q, k) refl
