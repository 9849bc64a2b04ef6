-- What the types of a job's numbers allow, and that what a build writes fits the words of its buffers. Statements; the proofs are in crate `laws`.
use Rattle.std.specs.Prelude.{◌≡◌, List, [], ℕ, ◌^◌, ◌≤◌, ◌<◌, length, get_or}
use Rattle.rules.specs.Weld.{no_vertex}
use Rattle.rules.specs.Mesh.{Mesh, polygon_at}
use Rattle.rules.specs.Removal.{Removal}
use Rattle.rules.specs.Links.{none}
use Rattle.rules.specs.Job.{Job, count_v, count_t}
use Rattle.rules.specs.Checks.{Lent}
use Rattle.rules.specs.Build.{built, outcome}

-- "grid width w, height h, border size (16 bits); contours, each with a length, a region (16 bits) and an area code (8 bits); four 16-bit numbers a vertex".
-- The document leaves nvp and the lengths open: they are 32 bits wide
pub record Widths (j : Job) : Type 0 where
  pub nvp : j.nvp < 2 ^ 32
  pub w : j.w < 2 ^ 16
  pub h : j.h < 2 ^ 16
  pub border : j.border < 2 ^ 16
  pub lengths : (c : ℕ) → get_or j.lengths c 0 < 2 ^ 32
  pub regions : (c : ℕ) → get_or j.regions c 0 < 2 ^ 16
  pub codes : (c : ℕ) → get_or j.codes c 0 < 2 ^ 8
  pub numbers : (k : ℕ) → get_or j.numbers k 0 < 2 ^ 16

-- "areas have 8 bits, the rest 16", and the links 32: what is written of a mesh m with links ls fits; a corner is never 65,535, which ends a polygon; and
-- no polygon has the number 65,535, which says none
pub record Fits (m : Mesh) (ls : List (List ℕ)) : Type 0 where
  pub x : (k : ℕ) → (get_or m.vertices k no_vertex).x < 2 ^ 16
  pub y : (k : ℕ) → (get_or m.vertices k no_vertex).y < 2 ^ 16
  pub z : (k : ℕ) → (get_or m.vertices k no_vertex).z < 2 ^ 16
  pub corners : (i k : ℕ) → get_or (polygon_at m.polygons i).corners k 0 < none
  pub polygons : length m.polygons < none
  pub regions : (i : ℕ) → (polygon_at m.polygons i).region < 2 ^ 16
  pub codes : (i : ℕ) → (polygon_at m.polygons i).code < 2 ^ 8
  pub links : (i k : ℕ) → get_or (get_or ls i []) k none ≤ 65539

abbrev pub WrittenFits : Type 0
WrittenFits = (j : Job) (b : Lent) (m : Mesh) (ls : List (List ℕ)) (log : List Removal) → Widths j → outcome j b ≡ built m ls log → Fits m ls

-- "`TooManyPolygons` can't arise.": a mesh has at most T polygons and V vertices, so that they find room in the buffers
pub record HasRoom (j : Job) (m : Mesh) : Type 0 where
  pub polygons : length m.polygons ≤ count_t j
  pub vertices : length m.vertices ≤ count_v j

abbrev pub AlwaysRoom : Type 0
AlwaysRoom = (j : Job) (b : Lent) (m : Mesh) (ls : List (List ℕ)) (log : List Removal) → outcome j b ≡ built m ls log → HasRoom j m
