-- The search for a free record: all records of a side start at its lower vertex, so that the first free one on the walk along that vertex's records, newest
-- first, is the newest of all. Assumes nothing.
use Rattle.std.specs.Prelude.{Some, None}
use mathlib.Core.Path.{◌≡◌, refl, sym, ap, ◌∙◌}
use mathlib.Core.Bool.{Bool, true, false, ◌&&◌}
use mathlib.Core.List.{List}
use Prim.Native.Nat.{ℕ, ◌+◌, ◌-◌, ◌≤◌, ◌<◌}
use native.Mathlib.Omega.{arith}
use borrow.Author.Tests.{eqb-true}
use lib.Dec.{eqb}
use lib.ListN.{length, get_or}
use Rattle.ints.specs.Bools.{and_left}
use Rattle.mem.specs.Slice.{get_or_view}
use Rattle.mem.specs.Chain.{highest, firsts_at, nexts_at}
use Rattle.laws.specs.Searches.{found, Walk}
use Rattle.laws.proofs.Searches.{walk_none, walk_in_lem, walk_found, walk_next, walk_less, found_in}
use Rattle.rules.specs.Links.{no_edge, is_free, newest}
use Rattle.rules.specs.declared.Edge.{Edge}
use Rattle.records.specs.Layout.{edges_at}
use Rattle.records.specs.Fixed.{edge_fixed, fixed_count}
use Rattle.links.specs.declared.edges.EdgeTables.{EdgeTables}
use Rattle.links.specs.Tables.{low_of, Edged}
use Rattle.links.specs.Standing.{holds_now}

-- record k is free
abbrev pub free_at : ℕ → ℕ → List Edge → ℕ → Bool
free_at low high es k = is_free low high (get_or es k no_edge)

-- a free record starts at the lower vertex
starts : (low high : ℕ) (es : List Edge) (k : ℕ) → free_at low high es k ≡ true → low_of es k ≡ low
unfolding is_free low_of
starts low high es k e =
    let f = get_or es k no_edge in
    eqb-true f.low low (and_left (eqb f.low low) (eqb f.high high && eqb f.other f.poly) e)

-- ---- the words that the code reads

-- the word of the next record to look at, in the buffer
pub record Search (w : List ℕ) (t : EdgeTables) (nv ne low high link : ℕ) : Type 0 where
  pub walk : Walk (free_at low high (edges_at w t.edges ne)) (low_of (edges_at w t.edges ne)) low ne link

module _ (w : List ℕ) (t : EdgeTables) (nv ne : ℕ) (s : Edged w t nv ne) (low high : ℕ) where
  es : List Edge
  es = edges_at w t.edges ne

  many : length es ≡ ne
  unfolding es
  many = fixed_count edge_fixed w t.edges ne

  pub search_first : {l : ℕ} → low < nv → l ≡ get_or w (t.firsts + low) 0 → Search w t nv ne low high l
  unfolding es
  search_first h g = record {
    walk = record {
      m = ne;
      within = omega arith;
      at =
          g ∙ sym (get_or_view w t.firsts nv low 0 h)
          ∙ ap (λ (l : List ℕ). get_or l low 0) (holds_now s).firsts
          ∙ firsts_at (low_of es) nv (length es) low h
          ∙ ap (highest (low_of es) low) many;
      same = refl;
    };
  }

  word : {k l : ℕ} → k < ne → l ≡ get_or w (t.nexts + k) 0 → l ≡ highest (low_of es) (low_of es k) k
  unfolding es
  word {k} h e =
      e ∙ sym (get_or_view w t.nexts (length es) k 0 (omega (arith, many)))
      ∙ ap (λ (l : List ℕ). get_or l k 0) (holds_now s).nexts
      ∙ nexts_at (low_of es) nv (length es) k (omega (arith, many))

  as_newest : found (free_at low high es) ne ≡ newest low high es
  unfolding newest
  as_newest = ap (found (free_at low high es)) (sym many)

  -- a turn of the search: the record that `link` names is looked at
  module _ {link : ℕ} (r : Search w t nv ne low high link) where
    pub search_none : link ≤ 0 → None ≡ newest low high (edges_at w t.edges ne)
    unfolding es
    search_none h = walk_none (free_at low high es) (low_of es) low (starts low high es) ne r.walk h ∙ as_newest

    module _ (h : 0 < link) where
      named : link - 1 + 1 ≡ link
      named = omega arith

      pub search_in : link - 1 < ne
      search_in = walk_in_lem (free_at low high (edges_at w t.edges ne)) (low_of (edges_at w t.edges ne)) low (starts low high (edges_at w t.edges ne)) ne r.walk (link - 1) named

      pub search_found : is_free low high (get_or (edges_at w t.edges ne) (link - 1) no_edge) ≡ true → Some (link - 1) ≡ newest low high (edges_at w t.edges ne)
      unfolding es
      search_found e = walk_found (free_at low high es) (low_of es) low (starts low high es) ne r.walk (link - 1) named e ∙ as_newest

      module _ {l : ℕ} (q : l ≡ get_or w (t.nexts + (link - 1)) 0) where
        pub search_next : is_free low high (get_or (edges_at w t.edges ne) (link - 1) no_edge) ≡ false → Search w t nv ne low high l
        unfolding es
        search_next e = record { walk = walk_next (free_at low high es) (low_of es) low (starts low high es) ne r.walk (link - 1) named (word search_in q) e }

        pub search_less : l < link
        unfolding es
        search_less = walk_less (free_at low high es) (low_of es) low (starts low high es) ne r.walk (link - 1) named (word search_in q)

-- the test on a record in hand
pub free_made : (low high : ℕ) {e f : Edge} {b t : Bool} → e ≡ f → b ≡ is_free low high e → b ≡ t → is_free low high f ≡ t
free_made low high p q r = ap (is_free low high) (sym p) ∙ sym q ∙ r

-- what is found is one of the records
pub newest_in : (low high : ℕ) (es : List Edge) (k : ℕ) → Some k ≡ newest low high es → k < length es
unfolding newest
newest_in low high es k e = found_in (free_at low high es) (length es) k e
