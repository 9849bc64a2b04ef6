-- One record in the tables: what a new one makes of the words, and what one that is joined does. Each write is the rewriting of one table. Assumes nothing.
use Rattle.std.specs.Prelude.{Some}
use mathlib.Core.Path.{◌≡◌, refl, sym, ap, ◌∙◌}
use mathlib.Core.List.{List, [], ◌∷◌, ◌++◌}
use mathlib.Core.Logic.{⊎_elim, ◌≢◌}
use Prim.Native.Nat.{ℕ, ◌+◌, ◌*◌, ◌≤◌, ◌<◌}
use native.Mathlib.Omega.{arith}
use native.Mathlib.Nat.{le_refl}
use lib.ListN.{length, get_or, set, length-append, length-set, get_or-append}
use lib.Seq.{get_or_at, get_or-set_same, get_or-set_other}
use Rattle.mem.specs.Slice.{view, splice, splice_view, view_after}
use Rattle.mem.specs.Shelves.{chained_put, shelved}
use Rattle.mem.specs.Loops.{block_fits}
use Rattle.mem.specs.Cases.{eq_or_ne}
use Rattle.mem.specs.Chain.{nexts}
use Rattle.rules.specs.Links.{no_edge, joined_to, join_at}
use Rattle.rules.specs.declared.Edge.{Edge}
use Rattle.records.specs.Layout.{edge_size, edge_words, edges_at, edge_records}
use Rattle.records.specs.Fixed.{edge_fixed, fixed_count, fixed_append, fixed_length, fixed_one, fixed_put}
use Rattle.links.specs.declared.edges.EdgeTables.{EdgeTables}
use Rattle.links.specs.Tables.{low_of, edged, Room, Edged}
use Rattle.links.specs.Standing.{holds_now}

six : (e : Edge) → length (edge_words e) ≡ edge_size
unfolding edge_words
six e = refl

-- a record in hand is joined
pub joined_made : (i j : ℕ) {e f : Edge} → e ≡ f
    → ◌≡◌ {A = Edge} (record { low = e.low; high = e.high; poly = e.poly; side = e.side; other = i; at = j }) (joined_to i j f)
unfolding joined_to
joined_made i j p = ap (joined_to i j) p

module _ (w : List ℕ) (t : EdgeTables) (nv ne : ℕ) (s : Edged w t nv ne) where
  es : List Edge
  es = edges_at w t.edges ne

  many : length es ≡ ne
  unfolding es
  many = fixed_count edge_fixed w t.edges ne

  -- ---- a new record
  module _ (e : Edge) (r : Room w t nv (ne + 1)) (low : e.low < nv) where
    b : ℕ
    b = e.low

    key_old : (j : ℕ) → j < length es → low_of es j ≡ low_of (es ++ (e ∷ [])) j
    unfolding low_of
    key_old j h = ap (λ (x : Edge). x.low) (sym (get_or-append es (e ∷ []) no_edge j h))

    key_new : low_of (es ++ (e ∷ [])) (length es) ≡ b
    unfolding low_of b
    key_new = ap (λ (x : Edge). x.low) (get_or_at es e [] no_edge (length es) refl)

    in_range : low_of (es ++ (e ∷ [])) (length es) < nv
    unfolding b
    in_range = rw key_new low

    -- the steps of `put_edge`: y is the buffer once the record is stored
    pub put_steps : {y : List ℕ} → y ≡ splice (set w (t.firsts + e.low) (ne + 1)) (t.edges + ne * edge_size) (edge_words e)
        → set y (t.nexts + ne) (get_or w (t.firsts + e.low) 0) ≡ edged w t nv (edges_at w t.edges ne ++ (e ∷ []))
    unfolding edged es b
    put_steps {y} ey =
        let R = edge_records es in
        let l : length R ≡ ne * edge_size = fixed_length edge_fixed es ∙ ap (λ (k : ℕ). k * edge_size) many in
        let six : length (edge_words e) ≡ edge_size = edge_fixed.sized e in
        let more : length (es ++ (e ∷ [])) ≡ ne + 1 = length-append es (e ∷ []) ∙ ap (λ (k : ℕ). k + 1) many in
        let words : edge_records (es ++ (e ∷ [])) ≡ R ++ edge_words e =
        fixed_append edge_fixed es (e ∷ []) ∙ ap (λ (k : List ℕ). R ++ k) (fixed_one edge_fixed e) in
        let put = chained_put w t.firsts nv t.edges R t.nexts (length es) (low_of es) (low_of (es ++ (e ∷ []))) (edge_words e) r.firsts
        (omega (arith, r.edges)) (omega (arith, r.nexts, many)) key_old in_range (holds_now s).firsts (rw l (rw many at (holds_now s).edges)) (holds_now s).nexts in
        ap (λ (x : List ℕ). set x (t.nexts + ne) (get_or w (t.firsts + e.low) 0)) ey ∙ rw (more, words) (rw (l, key_new, many) at put)

  -- ---- a record is joined
  module _ (k i j : ℕ) (h : k < ne) where
    f : Edge
    f = joined_to i j (get_or es k no_edge)

    -- it still starts where it did
    same_low : (n : ℕ) → low_of (set es k f) n ≡ low_of es n
    unfolding low_of f joined_to
    same_low n = ⊎_elim
        (λ (q : n ≡ k). rw q (ap (λ (x : Edge). x.low) (get_or-set_same es k f no_edge (omega (arith, many)))))
        (λ (q : n ≢ k). ap (λ (x : Edge). x.low) (get_or-set_other es k n f no_edge q))
        (eq_or_ne n k)

    same_lows : low_of (set es k f) ≡ low_of es
    same_lows = λ (p : 𝕀). λ n. same_low n p

    room : k * edge_size + edge_size ≤ ne * edge_size
    room = block_fits k ne edge_size (ne * edge_size) h (le_refl (ne * edge_size))

    record_joined : splice w t.edges (edge_records (set es k f)) ≡ splice w (t.edges + k * edge_size) (edge_words f)
    unfolding es
    record_joined =
        sym (fixed_put edge_fixed w t.edges ne es
        (sym (splice_view w t.edges (length es * edge_size)) ∙ ap (splice w t.edges) (holds_now s).edges) many
        (omega (arith, s.room.edges, s.room.nexts)) k f h)

    pub join_steps : {g : Edge} → g ≡ joined_to i j (get_or (edges_at w t.edges ne) k no_edge) → splice w (t.edges + k * edge_size) (edge_words g)
        ≡ edged w t nv (join_at i j (edges_at w t.edges ne) (Some k))
    unfolding edged shelved join_at es f
    join_steps {g} e =
        let a = t.edges + k * edge_size in
        let x = splice w a (edge_words f) in
        let q : view x t.nexts (length es) ≡ nexts (low_of es) (length es) =
        view_after w a t.nexts (length es) (edge_words f) (omega (arith, six f, room, s.room.edges)) ∙ (holds_now s).nexts in
        rw (e, same_lows, length-set es k f, ← (holds_now s).firsts, splice_view w t.firsts nv, record_joined, ← q)
        (sym (splice_view x t.nexts (length es)))
