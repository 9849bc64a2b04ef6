-- Request 12: a contour is mended, which takes doubled points and spikes out of it. "It runs before the build only when asked." Definitions, and what is
-- proved of them.
use Rattle.std.specs.Prelude.{◌≡◌, Bool, true, false, ◌||◌, cond, ◌⊎◌, List, [], ◌∷◌, ◌++◌, map, ℕ, zero, suc, ◌+◌, ◌-◌, ◌≤◌, ◌<◌, eqb, ltb, length, get_or, set, Option, Some, None}
use Rattle.mem.specs.Loops.{over}
use Rattle.mem.specs.Tab.{tab}
use Rattle.rules.specs.Lists.{next, when, or_else, without, count}
use Rattle.rules.specs.Plane.{origin, on_plane, area, vequal}
use Rattle.rules.specs.Job.{vertex_at, flag_at}
use Rattle.rules.specs.declared.Point.{Point}
use Rattle.rules.specs.declared.Vertex.{Vertex}

-- a point of a trace: "its original number", x, y and z, and its flag
pub record Traced : Type 0 where
  pub number : ℕ
  pub vertex : Vertex
  pub flag : ℕ

abbrev pub no_traced : Traced
no_traced = record { number = 0; vertex = record { x = 0; y = 0; z = 0 }; flag = 0 }

-- the n points of a contour from the vertex `first` of the numbers ns on
unfoldable pub traced : List ℕ → ℕ → ℕ → List Traced
traced ns first n = tab (λ k. record { number = first + k; vertex = vertex_at ns (first + k); flag = flag_at ns (first + k) }) n

-- where they stand on the plane
abbrev pub stands_at : Traced → Point
stands_at p = on_plane p.vertex

unfoldable pub trace_places : List Traced → List Point
trace_places ps = map stands_at ps

-- ---- where a rule applies, "round the end too": l is a ring of places

-- "a point equal in x and z to the one after it": the point at i
unfoldable pub is_doubled : List Point → ℕ → Bool
is_doubled l i = vequal (get_or l i origin) (get_or l (next i (length l)) origin)

-- "a point, another, and the first's x and z again": the point at i
unfoldable pub is_spike : List Point → ℕ → Bool
is_spike l i = vequal (get_or l i origin) (get_or l (next (next i (length l)) (length l)) origin)

unfoldable pub is_at_fault : List Point → ℕ → Bool
is_at_fault l i = is_doubled l i || is_spike l i

-- "Take the lowest place that applies"
unfoldable pub lowest_fault : List Point → Option ℕ
lowest_fault l = over None or_else (λ i. when (is_at_fault l i) i) 0 (length l)

-- ---- what is lost

-- the points that are left, in their order, and the numbers of those that were lost
pub record Mending : Type 0 where
  pub points : List Traced
  pub lost : List ℕ

-- "The kept point takes a 1 if any lost one had it.": p is kept, and q is lost
unfoldable pub takes_flag : Traced → Traced → Traced
takes_flag p q = record { number = p.number; vertex = p.vertex; flag = cond (eqb q.flag 1) 1 p.flag }

-- the point at i "loses that later one". "List each removal, in order, with its original number."
unfoldable pub lose_after : ℕ → Mending → Mending
lose_after i m =
    let k = next i (length m.points) in
    let q = get_or m.points k no_traced in
    record {
      points = without (set m.points i (takes_flag (get_or m.points i no_traced) q)) k;
      lost = m.lost ++ (q.number ∷ []);
    }

-- where the point at i of n stands once the one after it has gone: one lower if that was the first of all
unfoldable pub place_then : ℕ → ℕ → ℕ
place_then i n = cond (ltb (i + 1) n) i (i - 1)

-- a point, another, and the first's x and z again "lose the latter two": the one after it, and then the one that is after it now
unfoldable pub lose_two : ℕ → Mending → Mending
lose_two i m = lose_after (place_then i (length m.points)) (lose_after i m)

-- the step at place i, where a rule applies: "Where both apply at one place, the first does."
unfoldable pub mend_at : ℕ → Mending → Mending
mend_at i m = elim (is_doubled (trace_places m.points) i) [ true ↦ lose_after i m | false ↦ lose_two i m ]

-- ---- the whole

-- "Go on till neither applies or under three points are left." Each step takes a point away, so that f steps are enough for f points (`MendSettles`)
unfoldable pub mend_loop : ℕ → Mending → Mending
mend_loop zero m = m
mend_loop (suc f) m = elim (ltb (length m.points) 3) [
  | true ↦ m
  | false ↦ elim (lowest_fault (trace_places m.points)) [
    | Some i ↦ mend_loop f (mend_at i m)
    | None ↦ m
  ]
]

unfoldable pub mended : List Traced → Mending
mended ps = mend_loop (length ps) (record { points = ps; lost = [] })

-- ---- what is proved, in crate `laws`

-- "The doubled area stays exactly as it was"
abbrev pub MendKeepsArea : Type 0
MendKeepsArea = (ps : List Traced) → area (trace_places (mended ps).points) ≡ area (trace_places ps)

-- "neither applies or under three points are left"
abbrev pub Settled : List Point → Type 0
Settled l = (length l < 3) ⊎ ((i : ℕ) → i < length l → is_at_fault l i ≡ false)

-- "Go on till neither applies or under three points are left.": it is so at the end
abbrev pub MendSettles : Type 0
MendSettles = (ps : List Traced) → Settled (trace_places (mended ps).points)

-- "mending twice changes nothing more": of points qs that stand where the kept ones do (they may be numbered afresh) none is lost, and no flag changes
abbrev pub MendTwice : Type 0
MendTwice = (ps qs : List Traced) → trace_places qs ≡ trace_places (mended ps).points → mended qs ≡ record { points = qs; lost = [] }

-- the list k has some of the elements of l, in their order
pub data InOrder {A : Type 0} : List A → List A → Type 0 where
  ends : InOrder [] []
  keeps : {x : A} {k l : List A} → InOrder k l → InOrder (x ∷ k) (x ∷ l)
  skips : {x : A} {k l : List A} → InOrder k l → InOrder k (x ∷ l)

-- what mending never changes of a point: all but its flag
pub record Unflagged : Type 0 where
  pub number : ℕ
  pub vertex : Vertex

abbrev pub unflagged : Traced → Unflagged
unflagged p = record { number = p.number; vertex = p.vertex }

unfoldable pub traced_numbers : List Traced → List ℕ
traced_numbers ps = map (λ p. p.number) ps

-- kept and lost together are the points that were handed in, each as often as it was (points that are traced have a number each, and so each is there once);
-- and the kept ones are in their order, with their own x, y and z
pub record MendParts (ps : List Traced) : Type 0 where
  pub together : (k : ℕ) → count k (traced_numbers (mended ps).points) + count k (mended ps).lost ≡ count k (traced_numbers ps)
  pub order : InOrder (map unflagged (mended ps).points) (map unflagged ps)

abbrev pub MendParted : Type 0
MendParted = (ps : List Traced) → MendParts ps

-- so many points are kept and lost as were handed in, and of some points one is kept
pub record MendCounts (ps : List Traced) : Type 0 where
  pub all : length (mended ps).points + length (mended ps).lost ≡ length ps
  pub most : length (mended ps).lost ≤ length ps - 1

abbrev pub MendCounted : Type 0
MendCounted = (ps : List Traced) → MendCounts ps

-- "The kept point takes a 1 if any lost one had it.": of the whole, some kept point has a 1 exactly if some point had
unfoldable pub has_one : List Traced → Bool
has_one [] = false
has_one (p ∷ ps) = eqb p.flag 1 || has_one ps

abbrev pub MendKeepsFlags : Type 0
MendKeepsFlags = (ps : List Traced) → has_one (mended ps).points ≡ has_one ps
