-- Request 7 at the terminal: a printed mesh that is read and checked, and the verdict as a text, a function of the bytes that are read. Definitions only.
use Rattle.std.specs.Prelude.{true, false, cond, List, [], ◌∷◌, ◌++◌, ℕ, zero, suc, ◌+◌, ◌-◌, eqb, leb, ℤ, length, take, drop, get_or, replicate, Option, Some, None, Result, ⊤}
use Rattle.rules.specs.Lines.{ascii, lf, Line, Numbers, malformed, numbers_of, signed_in}
use Rattle.rules.specs.Exits.{padded}
use Rattle.rules.specs.Sheet.{number_most, code_most, heading_lines, mesh_name, v_name, p_name, n_name, refused_text, text_by}
use Rattle.rules.specs.Sheet.{Sheet, Read, taken, bad, and_then, line_at, need, read_heading}
use Rattle.rules.specs.Checker.{Claim, verdict, verdict_number, verdict_second}
use Rattle.rules.specs.declared.Objection.{Objection}

-- ---- limits

-- the most vertices, and the most polygons, that a `mesh` line may speak of. 65,536 bytes hold no more: a vertex, and a polygon with its links, take 8 at least
abbrev pub count_most : ℕ
count_most = 8192

-- a link may be any number of 32 bits: the checker says what is wrong with it
abbrev pub link_most : ℕ
link_most = 4294967295

-- the claimed total, above zero or below
abbrev pub total_most : ℕ
total_most = 9223372036854775807

-- how many words a polygon's corners have: nvp, and no more than 12 (a greater nvp is refused with 40, whatever the polygons are)
unfoldable pub row_words : ℕ → ℕ
row_words nvp = cond (leb nvp 12) nvp 12

-- ---- what is read: "a mesh as `./mesh` prints it, with the job's `nvp` and `grid` lines behind its `cell` line"

-- a whole number has to be there
unfoldable pub need_whole : {A : Type 0} → ℕ → Option ℤ → (ℤ → Read A) → Read A
need_whole k (Some z) f = f z
need_whole k None f = bad 22 k

-- "`mesh` giving vertices, polygons and doubled area": four cells, the last of which has a sign. It is line k
unfoldable pub need_mesh : {A : Type 0} → ℕ → Line → (ℕ → ℕ → ℤ → Read A) → Read A
need_mesh k l f = elim (eqb (length l) 4) [
  | true ↦ need k (numbers_of mesh_name 0 (count_most ∷ count_most ∷ []) (take 3 l))
      (λ ns. need_whole k (signed_in total_most (get_or l 3 [])) (λ z. f (get_or ns 0 0) (get_or ns 1 0) z))
  | false ↦ bad 22 k
]

-- a `v` line: x, y, z
unfoldable pub place_numbers : Line → Numbers
place_numbers l = numbers_of v_name 0 (number_most ∷ number_most ∷ number_most ∷ []) l

-- a `p` line: region, area code, and corners, as many as there are cells and at most `most`
unfoldable pub corner_numbers : ℕ → Line → Numbers
corner_numbers most l = elim (leb (length l) (3 + most)) [
  | true ↦ numbers_of p_name 0 (number_most ∷ code_most ∷ replicate (length l - 3) number_most) l
  | false ↦ malformed
]

-- its `n` line: as many links as it has corners
unfoldable pub link_numbers : ℕ → Line → Numbers
link_numbers n l = numbers_of n_name 0 (replicate n link_most) l

unfoldable pub with_place : List ℕ → Claim → Claim
with_place ns c = record {
  mesh = record { nvp = c.mesh.nvp; vertices = c.mesh.vertices ++ ns; polygons = c.mesh.polygons; links = c.mesh.links };
  w = c.w;
  h = c.h;
  border = c.border;
  total = c.total;
}

-- "Unused corners and their links are 65,535."
unfoldable pub with_polygon : List ℕ → List ℕ → Claim → Claim
with_polygon corners links c =
    let n = row_words c.mesh.nvp in
    record {
      mesh = record {
        nvp = c.mesh.nvp;
        vertices = c.mesh.vertices;
        polygons = c.mesh.polygons ++ padded n corners;
        links = c.mesh.links ++ padded n links;
      };
      w = c.w;
      h = c.h;
      border = c.border;
      total = c.total;
    }

-- the lines behind the vertices: `due` polygons are still to come, and then no line. The first of them is line k
unfoldable pub read_polygons : ℕ → ℕ → List Line → Claim → Read Claim
read_polygons k zero [] c = taken c
read_polygons k zero (l ∷ ls) c = bad 22 k
read_polygons k (suc due) ls c =
    need k (corner_numbers (row_words c.mesh.nvp) (line_at ls 0)) (λ ns.
    need (k + 1) (link_numbers (length ns - 2) (line_at ls 1)) (λ ms.
    read_polygons (k + 2) due (drop 2 ls) (with_polygon (drop 2 ns) ms c)))

-- the lines behind the `mesh` line: `due` vertices are still to come, and then n polygons
unfoldable pub read_places : ℕ → ℕ → ℕ → List Line → Claim → Read Claim
read_places k zero n ls c = read_polygons k n ls c
read_places k (suc due) n ls c = need k (place_numbers (line_at ls 0)) (λ ns. read_places (k + 1) due n (drop 1 ls) (with_place ns c))

-- a claim before its mesh
unfoldable pub no_mesh_yet : Sheet → ℤ → Claim
no_mesh_yet s total = record {
  mesh = record { nvp = s.job.nvp; vertices = []; polygons = []; links = [] };
  w = s.job.w;
  h = s.job.h;
  border = s.job.border;
  total = total;
}

-- the lines behind the heading
unfoldable pub read_mesh : List Line → Sheet → Read Claim
read_mesh ls s = need_mesh (heading_lines + 1) (line_at ls 0) (λ k n z. read_places (heading_lines + 2) k n (drop 1 ls) (no_mesh_yet s z))

unfoldable pub read_claim : List Line → Read Claim
read_claim ls = and_then (read_heading ls) (read_mesh (drop heading_lines ls))

-- ---- what is printed: "`accepted` or `refused→number→polygon`"

unfoldable pub accepted_name : List ℕ
accepted_name = ascii "accepted"

unfoldable pub verdict_text : Result ⊤ Objection → List ℕ
verdict_text v = elim (eqb (verdict_number v) 0) [
  | true ↦ accepted_name ++ (lf ∷ [])
  | false ↦ refused_text (verdict_number v) (verdict_second v)
]

-- what `./mesh --check` prints
unfoldable pub check_text : List ℕ → List ℕ
check_text bytes = text_by read_claim (λ c. verdict_text (verdict c)) bytes
