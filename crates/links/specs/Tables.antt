-- The words of the edges' tables: for each vertex the newest record that starts there, the records, and for each record the next older one of its vertex; and
-- what the functions on them ask for. Definitions only.
use Rattle.std.specs.Prelude.{◌≡◌, List, ℕ, ◌+◌, ◌*◌, ◌^◌, ◌≤◌, ◌<◌, length, get_or}
use Rattle.mem.specs.Chain.{firsts, nexts}
use Rattle.mem.specs.Shelves.{shelved}
use Rattle.rules.specs.Links.{no_edge}
use Rattle.rules.specs.declared.Edge.{Edge}
use Rattle.records.specs.Layout.{edge_size, edges_at, edge_records}
use Rattle.links.specs.declared.edges.EdgeTables.{EdgeTables}

-- the vertex where record k starts
unfoldable pub low_of : List Edge → ℕ → ℕ
low_of es k = (get_or es k no_edge).low

-- the records es in the tables at t, of nv vertices: each vertex's first record, the records, each record's next; every other word is w's
unfoldable pub edged : List ℕ → EdgeTables → ℕ → List Edge → List ℕ
edged w t nv es =
    shelved w t.firsts (firsts (low_of es) nv (length es)) t.edges (edge_records es) t.nexts (nexts (low_of es) (length es))

-- the tables have room for nv vertices and n records, and each lies behind the one before
pub record Room (w : List ℕ) (t : EdgeTables) (nv n : ℕ) : Type 0 where
  pub firsts : t.firsts + nv ≤ t.edges
  pub edges : t.edges + n * edge_size ≤ t.nexts
  pub nexts : t.nexts + n ≤ length w
  pub few : n < 2 ^ 32

-- ne records stand in the tables, and nothing but them
pub record Edged (w : List ℕ) (t : EdgeTables) (nv ne : ℕ) : Type 0 where
  pub room : Room w t nv ne
  pub is : w ≡ edged w t nv (edges_at w t.edges ne)

-- the ne records that stood in w's tables became es, r of them: at least as many, and at most k more. `is` and `count` fix all; the others follow from them,
-- and spare the callers the way there
pub record Rewritten (w u : List ℕ) (t : EdgeTables) (nv ne : ℕ) (es : List Edge) (k r : ℕ) : Type 0 where
  pub is : u ≡ edged w t nv es
  pub count : r ≡ length es
  pub least : ne ≤ r
  pub most : r ≤ ne + k
