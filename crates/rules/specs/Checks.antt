-- Replies 1 to 6: the lent buffers with their least lengths, and the checks in their order. Definitions only.
use Rattle.std.specs.Prelude.{Bool, not, ◌&&◌, ◌||◌, cond, List, [], ◌∷◌, ℕ, ◌+◌, ◌*◌, eqb, leb, ltb, length, get_or, Option, Some, None}
use Rattle.mem.specs.Loops.{over}
use Rattle.rules.specs.Lists.{when, or_else}
use Rattle.rules.specs.Job.{Job, job_stride, vertex_at, flag_at, count_all, count_v, count_t}
use Rattle.rules.specs.declared.Vertex.{Vertex}
use Rattle.rules.specs.declared.Refusal.{Refusal}
use Rattle.rules.specs.declared.Refusal.TheVariants.{BadCornerLimit, CountsDisagree, HighCoordinate, BadFlag, TooManyVertices, ShortBuffer}

-- the lent buffers, in the document's order. `codes` is what the document calls areas: the polygons' area codes
pub record Lent : Type 0 where
  pub vertices : List ℕ
  pub polygons : List ℕ
  pub neighbours : List ℕ
  pub regions : List ℕ
  pub codes : List ℕ
  pub flags : List ℕ
  pub work : List ℕ

-- how many words a stored vertex has: x, y and z
abbrev pub vertex_stride : ℕ
vertex_stride = 3

-- "work 4,096 + 128·V"
unfoldable pub work_words : Job → ℕ
work_words j = 4096 + 128 * count_v j

-- "Buffers and least lengths: vertices 3V, polygons T·nvp, neighbours T·nvp (32-bit), regions T, areas T, flags T, work 4,096 + 128·V (32-bit)"
unfoldable pub least_lengths : Job → List ℕ
least_lengths j =
    let t = count_t j in
    (vertex_stride * count_v j) ∷ (t * j.nvp) ∷ (t * j.nvp) ∷ t ∷ t ∷ t ∷ work_words j ∷ []

unfoldable pub lengths_of : Lent → List ℕ
lengths_of b =
    length b.vertices ∷ length b.polygons ∷ length b.neighbours ∷ length b.regions ∷ length b.codes ∷ length b.flags ∷ length b.work ∷ []

-- ---- "Checked in this order; the first that applies is given"

pub data Checked : Type 0 where
  passed : Checked
  refusal : Refusal → Checked

unfoldable pub or_next : Checked → Checked → Checked
or_next passed c = c
or_next (refusal r) c = refusal r

unfoldable pub refuse_if : Bool → Refusal → Checked
refuse_if bad r = cond bad (refusal r) passed

unfoldable pub refuse_at : (ℕ → Refusal) → Option ℕ → Checked
refuse_at r (Some k) = refusal (r k)
refuse_at r None = passed

-- 1: "nvp below 3 or above 12"; "nvp"
unfoldable pub check_nvp : Job → Checked
check_nvp j = refuse_if (ltb j.nvp 3 || ltb 12 j.nvp) (BadCornerLimit j.nvp)

-- 2: "vertex numbers, lengths, regions and area codes don't agree in count, or over 65,535 contours": a region and a code for each length, and four
-- numbers for each vertex that the lengths speak of
unfoldable pub counts_agree : Job → Bool
counts_agree j =
    let n = length j.lengths in
    eqb (length j.regions) n && (eqb (length j.codes) n && (eqb (length j.numbers) (count_all j * job_stride) && leb n 65535))

unfoldable pub check_counts : Job → Checked
check_counts j = refuse_if (not (counts_agree j)) CountsDisagree

-- 3: "x or z above 32,767"; "first such vertex, from 0, skipped contours counted"
unfoldable pub is_high : Vertex → Bool
is_high v = ltb 32767 v.x || ltb 32767 v.z

unfoldable pub first_high : Job → Option ℕ
first_high j = over None or_else (λ k. when (is_high (vertex_at j.numbers k)) k) 0 (count_all j)

-- 4: "flag other than 0 or 1"; "first such vertex, likewise"
unfoldable pub first_bad_flag : Job → Option ℕ
first_bad_flag j = over None or_else (λ k. when (ltb 1 (flag_at j.numbers k)) k) 0 (count_all j)

-- 5: "V above 65,535"; "V"
unfoldable pub check_v : Job → Checked
check_v j = refuse_if (ltb 65535 (count_v j)) (TooManyVertices (count_v j))

-- 6: "a lent buffer too short"; "first such, in the order below, from 0". have: the buffers' lengths; least: the least ones
unfoldable pub first_short : List ℕ → List ℕ → Option ℕ
first_short have least = over None or_else (λ k. when (ltb (get_or have k 0) (get_or least k 0)) k) 0 (length least)

-- the first of replies 1 to 6 that applies; ls are the lengths of the lent buffers
unfoldable pub check : Job → List ℕ → Checked
check j ls =
    or_next (check_nvp j)
    (or_next (check_counts j)
    (or_next (refuse_at HighCoordinate (first_high j))
    (or_next (refuse_at BadFlag (first_bad_flag j))
    (or_next (check_v j)
    (refuse_at ShortBuffer (first_short ls (least_lengths j)))))))
