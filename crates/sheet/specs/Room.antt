-- How long the printed text is at most: every number has at most 20 digits, and a sheet has at most 96 vertices and 96 polygons of 12 corners.
-- Assumes nothing.
-- Key: `built_room`: what is printed for a job fits 65,536 bytes; `refused_room`: so does every refusal.
use Rattle.std.specs.Prelude.{◌≡◌, Bool, true, false, List, [], ◌∷◌, ◌++◌, ℕ, ◌-◌, ◌*◌, ◌≤◌, ◌<◌, length, take, get_or}
use Rattle.std.proofs.Common.{sym, le_refl, le_trans, arith, length-append, length-take-le, ⊎_elim}
use Rattle.std.proofs.Math.ListN.{get_or-eq_default}
use Rattle.mem.specs.Cases.{lt_or_le}
use Rattle.rules.specs.Lines.{ascii, cell, signed_cell, number_line}
use Rattle.rules.specs.Weld.{no_vertex}
use Rattle.rules.specs.Mesh.{Polygon, polygon_at, no_polygon}
use Rattle.rules.specs.Job.{count_all}
use Rattle.rules.specs.Checks.{Lent}
use Rattle.rules.specs.Replies.{refusal_number, refusal_second}
use Rattle.rules.specs.Build.{Outcome, refused, built, outcome}
use Rattle.rules.specs.Exits.{vertex_words, Stored}
use Rattle.rules.specs.Areas.{stored_area}
use Rattle.rules.specs.Sheet.{declared_most, Sheet, refused_text, refused_name, unit_name, mm_name, in_name, cell_name, mesh_name, v_name, p_name, n_name, unit_line, mesh_line, vertex_line, polygon_lines, vertices_text, polygons_text, mesh_text, built_text}
use Rattle.rules.specs.declared.Vertex.{Vertex}
use Rattle.lines.specs.Print.{Printed}
use Rattle.lines.specs.Printing.{printed_same_length, decimal_short, signed_short, line_short}
use Rattle.lines.specs.Pieces.{texts_from, texts_short}
use Rattle.laws.specs.Lists.{All}
use Rattle.laws.proofs.Lists.{all_at}
use Rattle.laws.specs.Merge.{Good, Below}
use Rattle.laws.proofs.Build.{bounded}
use Rattle.laws.specs.Links.{Shaped}
use Rattle.laws.proofs.Links.{links_shaped, portals_shaped}
use Rattle.laws.proofs.Checks.{T-below-V, V-below-all}
use Rattle.laws.proofs.Reached.{built_links, built_passed}
use Rattle.rules.specs.Links.{links_of}

-- how many bytes an output has
abbrev pub out_most : ℕ
out_most = 65536

-- what is printed from the beginning on ends within the output
pub printed_short : {piece v w : List ℕ} {r : ℕ} → Printed piece v w 0 r → length piece ≤ out_most → r ≤ out_most
printed_short p h = omega (arith, p.next)

-- and its count is that of bytes in it
pub printed_counts : {piece v w : List ℕ} {r : ℕ} → Printed piece v w 0 r → r ≤ out_most → length v ≡ out_most → (r ≤ length w) × (r ≡ length (take r w))
printed_counts {piece} {v} {w} {r} p h e =
    let n : r ≤ length w = rw (printed_same_length p, e) h in
    (n, sym (length-take-le r w n))

-- ---- lines

pub refused_room : (number line : ℕ) → length (refused_text number line) ≤ 50
unfolding refused_text refused_name ascii
refused_room number line = line_short refused_name (number ∷ line ∷ [])

pub unit_short : (inches : Bool) → length (unit_line inches) ≤ 8
unfolding unit_line unit_name mm_name in_name ascii
unit_short true = le_refl 8
unit_short false = le_refl 8

vertex_short : (v : Vertex) → length (vertex_line v) ≤ 65
unfolding vertex_line v_name ascii vertex_words
vertex_short v = line_short v_name (vertex_words v)

polygon_short : (p : Polygon) (links : List ℕ) → length p.corners ≤ 12 → length links ≤ 12 → length (polygon_lines p links) ≤ 550
unfolding polygon_lines p_name n_name ascii
polygon_short p links h k =
    rw length-append (omega (arith, line_short p_name (p.region ∷ p.code ∷ p.corners), line_short n_name links))

mesh_line_short : (m : Stored) → length (mesh_line m) ≤ 69
unfolding mesh_line mesh_name ascii cell signed_cell
mesh_line_short m = rw (length-append, length-append, length-append, length-append)
    (omega (arith, decimal_short (length m.vertices), decimal_short (length m.polygons), signed_short (stored_area m)))

-- ---- the whole

over_short : (f : ℕ → List ℕ) (b n : ℕ) → ((k : ℕ) → length (f k) ≤ b) → length (texts_from f 0 n) ≤ n * b
over_short f b n h = let z : n - 0 ≡ n = omega arith in rw z at (texts_short f b 0 n (λ k i j. h k))

vertices_short : (vs : List Vertex) → length (vertices_text vs) ≤ length vs * 65
unfolding vertices_text
vertices_short vs = over_short (λ k. vertex_line (get_or vs k no_vertex)) 65 (length vs) (λ k. vertex_short (get_or vs k no_vertex))

polygons_short : (ps : List Polygon) (links : List (List ℕ)) → ((k : ℕ) → length (polygon_at ps k).corners ≤ 12) → ((k : ℕ) → length (get_or links k []) ≤ 12)
    → length (polygons_text ps links) ≤ length ps * 550
unfolding polygons_text
polygons_short ps links h k =
    over_short (λ i. polygon_lines (polygon_at ps i) (get_or links i [])) 550 (length ps) (λ i. polygon_short (polygon_at ps i) (get_or links i []) (h i) (k i))

pub few_corners : {n nvp : ℕ} (ps : List Polygon) → All (Good (Below n) nvp) ps → nvp ≤ 12 → (k : ℕ) → length (polygon_at ps k).corners ≤ 12
few_corners {n} {nvp} ps g h k =
    ⊎_elim
    (λ (a : k < length ps). le_trans (all_at g k no_polygon a).short h)
    (λ (a : length ps ≤ k). rw (get_or-eq_default ps no_polygon {n = k} a) (omega arith))
    (lt_or_le k (length ps))

text_short : (s : Sheet) (m : Stored) → length m.vertices ≤ 96 → length m.polygons ≤ 96 → ((k : ℕ) → length (polygon_at m.polygons k).corners ≤ 12)
    → ((k : ℕ) → length (get_or m.links k []) ≤ 12)
    → length (unit_line s.inches ++ (number_line cell_name (s.size ∷ s.height ∷ []) ++ mesh_text m)) ≤ out_most
unfolding mesh_text cell_name ascii
text_short s m v n h k =
    rw (length-append, length-append, length-append, length-append)
    (omega (
      arith,
      unit_short s.inches,
      line_short cell_name (s.size ∷ s.height ∷ []),
      mesh_line_short m,
      vertices_short m.vertices,
      polygons_short m.polygons m.links h k,
    ))

pub built_room : (s : Sheet) (b : Lent) (o : Outcome) → outcome s.job b ≡ o → count_all s.job ≤ declared_most → length (built_text s o) ≤ out_most
unfolding built_text
built_room s b (refused r) e h = omega (arith, refused_room (refusal_number r) (refusal_second r))
built_room s b (built m links log) e h =
    let j = s.job in
    let p = built_passed j m links log b e in
    let d = bounded j b m links log e in
    let t : Shaped m.polygons links =
    rw (built_links j m links log b e) (portals_shaped m.vertices j.w j.h j.border m.polygons (links_of m.polygons) (links_shaped m.polygons)) in
    let v = le_trans (V-below-all j) h in
    let c : (k : ℕ) → length (polygon_at m.polygons k).corners ≤ 12 = λ k. few_corners m.polygons d.sound.good p.nvp_high k in
    text_short s (record { vertices = m.vertices; polygons = m.polygons; links = links }) (le_trans d.vertices v) (le_trans d.polygons (le_trans (T-below-V j) v)) c
    (λ k. rw (t.sides k) (c k))
