-- The rules' loops count down a number, their fuel, since a definition has to end. Here is said of each, with the fuel that it is given, that it does what
-- its sentence says, turn by turn, and that no turn is missing at its end. No fuel stands in these lines. Statements; the proofs are in crate `laws`.
use Rattle.std.specs.Prelude.{◌≡◌, true, false, List, [], ◌∷◌, ◌++◌, map, ℕ, ◌+◌, ◌-◌, ◌≤◌, ◌<◌, length, get_or, Some, None}
use Rattle.mem.specs.Loops.{times}
use Rattle.rules.specs.Plane.{on_plane}
use Rattle.rules.specs.Ears.{Ears, done, stuck, indices, mark_all, find_ear, cut_ear, triangle_at, cut_all, triangulate}
use Rattle.rules.specs.Mesh.{Polygon, Mesh, no_mesh}
use Rattle.rules.specs.Merge.{best_pair, join_pair, merge_loop, merge_all}
use Rattle.rules.specs.Removal.{TakingOut, take_one, taken_out, Walk, walk_one, walk_once, walk, Removal, gone, no_ears, remove_vertex, Removals, removed, stuck_at, goes, remove_from, remove_all}
use Rattle.rules.specs.Job.{Job, contour_vertices, contour_flags}
use Rattle.rules.specs.Build.{Contours, added, no_ear_in, weld_height, add_contour, add_from, add_all}
use Rattle.rules.specs.declared.Point.{Point}
use Rattle.rules.specs.declared.Ear.{Ear}
use Rattle.rules.specs.declared.Side.{Side}
use Rattle.rules.specs.declared.Vertex.{Vertex}

-- ---- R2: "While more than 3 remain"

abbrev pub cutting : List Point → List ℕ → List (List ℕ) → Ears
cutting ps ws out = cut_all (length ws - 3) ps ws out

pub record Cutting (ps : List Point) (ws : List ℕ) (out : List (List ℕ)) : Type 0 where
  pub cut : (e : Ear) → 3 < length ws → find_ear ps ws ≡ Some e → cutting ps ws out ≡ cutting ps (cut_ear ps e.at ws) (out ++ (triangle_at ws e.at ∷ []))
  pub none : 3 < length ws → find_ear ps ws ≡ None → cutting ps ws out ≡ stuck (length out)
  pub last : length ws ≤ 3 → cutting ps ws out ≡ done (out ++ (triangle_at ws 0 ∷ []))

-- what the cutting starts with
abbrev pub CutFromTheStart : Type 0
CutFromTheStart = (ps : List Point) → triangulate ps ≡ cutting ps (mark_all ps (indices (length ps))) []

-- ---- R4: until no pair is left

abbrev pub merging : List Vertex → ℕ → List Polygon → List Polygon
merging vs nvp ps = merge_loop (length ps) vs nvp ps

pub record Merging (vs : List Vertex) (nvp : ℕ) (ps : List Polygon) : Type 0 where
  pub join : 0 < (best_pair vs nvp ps).length → merging vs nvp ps ≡ merging vs nvp (join_pair ps (best_pair vs nvp ps))
  pub stop : (best_pair vs nvp ps).length ≡ 0 → merging vs nvp ps ≡ ps

-- no pair is left when it ends
abbrev pub NoPairLeft : Type 0
NoPairLeft = (vs : List Vertex) (nvp : ℕ) (ps : List Polygon) → 3 < nvp → (best_pair vs nvp (merge_all vs nvp ps)).length ≡ 0

-- ---- R5: "Polygons are looked at from 0 up."

abbrev pub taking : ℕ → TakingOut → TakingOut
taking rem s = times (take_one rem) (length s.polygons - s.at) s

pub record Taking (rem : ℕ) (s : TakingOut) : Type 0 where
  pub look : s.at < length s.polygons → taking rem s ≡ taking rem (take_one rem s)
  pub end : length s.polygons ≤ s.at → taking rem s ≡ s

abbrev pub TakenOut : Type 0
TakenOut = (rem : ℕ) (ps : List Polygon) → taken_out rem ps ≡ taking rem (record { polygons = ps; sides = []; at = 0 })

-- ---- R5: the walk "goes over the sides"

abbrev pub passing : Walk → Walk
passing w = times walk_one (length w.rest - w.at) w

pub record Passing (w : Walk) : Type 0 where
  pub try : w.at < length w.rest → passing w ≡ passing (walk_one w)
  pub end : length w.rest ≤ w.at → passing w ≡ w

abbrev pub WalkedOnce : Type 0
WalkedOnce = (w : Walk) → walk_once w ≡ passing (record { chain = w.chain; rest = w.rest; at = 0 })

-- ---- R5: "again and again"

abbrev pub walking : Walk → Walk
walking w = times walk_once (length w.rest) w

pub record Walking (w : Walk) : Type 0 where
  pub again : length (walk_once w).rest < length w.rest → walking w ≡ walking (walk_once w)
  pub stop : 0 < length w.rest → length w.rest ≤ length (walk_once w).rest → walking w ≡ walk_once w
  pub end : length w.rest ≡ 0 → walking w ≡ w

-- once more would change nothing
abbrev pub NoSideLeftToUse : Type 0
NoSideLeftToUse = (sides : List Side) → 0 < length sides → walk_once (walk sides) ≡ walk sides

-- ---- R5: "Marked vertices from 0 up; after a removal the same number is tried again."

abbrev pub trying : ℕ → ℕ → Mesh → List Removal → Removals
trying nvp i m log = remove_from (length m.vertices - i) nvp i m log

pub record Trying (nvp i : ℕ) (m : Mesh) (log : List Removal) : Type 0 where
  pub stays : i < length m.vertices → goes i m ≡ false → trying nvp i m log ≡ trying nvp (i + 1) m log
  pub leaves : i < length m.vertices → goes i m ≡ true → (m' : Mesh) (r : Removal) → remove_vertex nvp i m ≡ gone m' r
      → trying nvp i m log ≡ trying nvp i m' (log ++ (r ∷ []))
  pub stuck : i < length m.vertices → goes i m ≡ true → remove_vertex nvp i m ≡ no_ears → trying nvp i m log ≡ stuck_at i
  pub end : length m.vertices ≤ i → trying nvp i m log ≡ removed m log

abbrev pub TriedFromTheStart : Type 0
TriedFromTheStart = (nvp : ℕ) (m : Mesh) → remove_all nvp m ≡ trying nvp 0 m []

-- ---- "Contours in order"

abbrev pub adding : Job → ℕ → ℕ → Mesh → Contours
adding j c first m = add_from (length j.lengths - c) j c first m

-- n: the contour's length
pub record Adding (j : Job) (c first : ℕ) (m : Mesh) (n : ℕ) : Type 0 where
  pub skip : c < length j.lengths → n < 3 → adding j c first m ≡ adding j (c + 1) (first + n) m
  pub add : c < length j.lengths → 3 ≤ n → (ts : List (List ℕ)) → triangulate (map on_plane (contour_vertices j.numbers first n)) ≡ done ts
      → adding j c first m
      ≡ adding j (c + 1) (first + n)
      (add_contour weld_height j.nvp (get_or j.regions c 0) (get_or j.codes c 0) (contour_vertices j.numbers first n) (contour_flags j.numbers first n) ts m)
  pub none : c < length j.lengths → 3 ≤ n → (k : ℕ) → triangulate (map on_plane (contour_vertices j.numbers first n)) ≡ stuck k
      → adding j c first m ≡ no_ear_in c k
  pub end : length j.lengths ≤ c → adding j c first m ≡ added m

abbrev pub AddedFromTheStart : Type 0
AddedFromTheStart = (j : Job) → add_all j ≡ adding j 0 0 no_mesh

-- ---- all of it

pub record FuelSuffices : Type 0 where
  pub cut : CutFromTheStart
  pub cuts : (ps : List Point) (ws : List ℕ) (out : List (List ℕ)) → Cutting ps ws out
  pub merges : (vs : List Vertex) (nvp : ℕ) (ps : List Polygon) → Merging vs nvp ps
  pub merged : NoPairLeft
  pub takes : (rem : ℕ) (s : TakingOut) → Taking rem s
  pub taken : TakenOut
  pub passes : (w : Walk) → Passing w
  pub passed : WalkedOnce
  pub walks : (w : Walk) → Walking w
  pub walked : NoSideLeftToUse
  pub tries : (nvp i : ℕ) (m : Mesh) (log : List Removal) → Trying nvp i m log
  pub tried : TriedFromTheStart
  pub adds : (j : Job) (c first : ℕ) (m : Mesh) → Adding j c first m (get_or j.lengths c 0)
  pub added : AddedFromTheStart
