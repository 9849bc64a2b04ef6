-- Request 12, as it is called: the contours of a job, or one contour, are mended in place. The replies, and what the lent buffers hold at the end for each of
-- them. Definitions, and what is proved of them.
use Rattle.std.specs.Prelude.{◌≡◌, Bool, true, false, ◌&&◌, ◌||◌, cond, List, [], ◌∷◌, ◌++◌, map, ℕ, ◌+◌, ◌*◌, ◌/◌, eqb, ltb, leb, length, get_or, replicate, Result, Ok, Err}
use Rattle.mem.specs.Loops.{over}
use Rattle.mem.specs.Slice.{splice}
use Rattle.mem.specs.Packed.{packed}
use Rattle.rules.specs.Job.{job_stride, sum_over}
use Rattle.rules.specs.Areas.{contour_areas}
use Rattle.rules.specs.Mend.{Traced, traced, Mending, mended}
use Rattle.rules.specs.declared.Mended.{Mended}
use Rattle.rules.specs.declared.MendRefusal.{MendRefusal}
use Rattle.rules.specs.declared.MendRefusal.TheVariants.{NotWhole, LengthsDisagree, ShortScratch, ListFull}

-- what is lent: the lengths of the contours and their numbers, both mended in place; a list for the points that are lost; and scratch
pub record MendLent : Type 0 where
  pub lengths : List ℕ
  pub numbers : List ℕ
  pub list : List ℕ
  pub work : List ℕ

-- ---- what is mended

-- the points of contours of lengths ls, numbered through the job; `first` is the number of the first of them
unfoldable pub traced_from : List ℕ → ℕ → List ℕ → List (List Traced)
traced_from ns first [] = []
traced_from ns first (n ∷ ls) = traced ns first n ∷ traced_from ns (first + n) ls

-- all contours of a job: each is mended by itself
unfoldable pub mended_job : List ℕ → List ℕ → List Mending
mended_job ls ns = map mended (traced_from ns 0 ls)

-- how many points each contour keeps: the number of contours stays
unfoldable pub kept_lengths : List Mending → List ℕ
kept_lengths ms = map (λ m. length m.points) ms

unfoldable pub kept_count : List Mending → ℕ
kept_count ms = sum_over (λ n. n) (kept_lengths ms)

-- "List each removal, in order, with its original number.": contour by contour
unfoldable pub lost_numbers : List Mending → List ℕ
lost_numbers ms = packed (λ m. m.lost) ms

-- the words of a point, and of all points that are kept: they close up over the contours
unfoldable pub traced_words : Traced → List ℕ
traced_words p = p.vertex.x ∷ p.vertex.y ∷ p.vertex.z ∷ p.flag ∷ []

unfoldable pub kept_words : List Mending → List ℕ
kept_words ms = packed (λ m. packed traced_words m.points) ms

-- ---- what a call comes to

pub data MendOutcome : Type 0 where
  notWhole lengthsDisagree shortScratch listFull : MendOutcome
  mends : List Mending → MendOutcome

-- how many vertices the numbers are
unfoldable pub vertices_in : List ℕ → ℕ
vertices_in ns = length ns / job_stride

-- 80: "not whole vertices"
unfoldable pub are_whole : List ℕ → Bool
are_whole ns = eqb (vertices_in ns * job_stride) (length ns)

-- document 01's 2, of the two lists that are here: they "don't agree in count, or over 65,535 contours"
unfoldable pub lengths_agree : List ℕ → List ℕ → Bool
lengths_agree ls ns = leb (length ls) 65535 && eqb (sum_over (λ n. n) ls) (vertices_in ns)

-- the longest contour
unfoldable pub longer : ℕ → ℕ → ℕ
longer a b = cond (ltb a b) b a

unfoldable pub longest : List ℕ → ℕ
longest ls = over 0 longer (λ c. get_or ls c 0) 0 (length ls)

-- the scratch has 32-bit words, and so has the list: more vertices than these can number are not mended
abbrev pub vertices_most : ℕ
vertices_most = 4294967295

-- 82, our own: the scratch is to hold a number for each vertex of the longest contour
unfoldable pub is_short_scratch : MendLent → Bool
is_short_scratch b = ltb (length b.work) (longest b.lengths) || ltb vertices_most (vertices_in b.numbers)

-- 81: "list full, exactly when one more is due": there are more removals than room, over all contours
unfoldable pub is_list_full : MendLent → Bool
is_list_full b = ltb (length b.list) (length (lost_numbers (mended_job b.lengths b.numbers)))

-- the first that applies
unfoldable pub mend_outcome : MendLent → MendOutcome
mend_outcome b =
    elim (are_whole b.numbers) [
      | false ↦ notWhole
      | true ↦ elim (lengths_agree b.lengths b.numbers) [
        | false ↦ lengthsDisagree
        | true ↦ elim (is_short_scratch b) [
          | true ↦ shortScratch
          | false ↦ elim (is_list_full b) [
            | true ↦ listFull
            | false ↦ mends (mended_job b.lengths b.numbers)
          ]
        ]
      ]
    ]

-- ---- what is answered

-- of 0 the second number is how many points were lost, the third how many are kept
unfoldable pub mend_reply_of : MendOutcome → Result Mended MendRefusal
mend_reply_of notWhole = Err NotWhole
mend_reply_of lengthsDisagree = Err LengthsDisagree
mend_reply_of shortScratch = Err ShortScratch
mend_reply_of listFull = Err ListFull
mend_reply_of (mends ms) = Ok (record { lost = length (lost_numbers ms); kept = kept_count ms })

-- a refusal's number
unfoldable pub mend_refusal_number : MendRefusal → ℕ
mend_refusal_number LengthsDisagree = 2
mend_refusal_number NotWhole = 80
mend_refusal_number ListFull = 81
mend_refusal_number ShortScratch = 82

-- a reply's three numbers
unfoldable pub mend_words : Result Mended MendRefusal → List ℕ
mend_words (Ok m) = 0 ∷ m.lost ∷ m.kept ∷ []
mend_words (Err r) = mend_refusal_number r ∷ 0 ∷ 0 ∷ []

-- ---- what the buffers hold at the end

-- the words of the scratch that were used are 0, the others untouched
unfoldable pub scratch_wiped : MendLent → List ℕ
scratch_wiped b = splice b.work 0 (replicate (longest b.lengths) 0)

-- "Freed numbers at the end become 0."
unfoldable pub mended_numbers : List Mending → List ℕ
mended_numbers ms = kept_words ms ++ replicate (length (lost_numbers ms) * job_stride) 0

-- a refusal writes neither lengths, numbers nor list; and but for 81, which is known only once the contours were walked, not the scratch
unfoldable pub mend_exit_of : MendLent → MendOutcome → MendLent
mend_exit_of b notWhole = b
mend_exit_of b lengthsDisagree = b
mend_exit_of b shortScratch = b
mend_exit_of b listFull = record { lengths = b.lengths; numbers = b.numbers; list = b.list; work = scratch_wiped b }
mend_exit_of b (mends ms) = record { lengths = kept_lengths ms; numbers = mended_numbers ms; list = splice b.list 0 (lost_numbers ms); work = scratch_wiped b }

unfoldable pub mend_exit : MendLent → MendLent
mend_exit b = mend_exit_of b (mend_outcome b)

-- ---- one contour

-- a contour by itself is the job of this one contour, which has all the numbers
unfoldable pub one_contour : List ℕ → List ℕ → List ℕ → MendLent
one_contour ns list work = record { lengths = vertices_in ns ∷ []; numbers = ns; list = list; work = work }

-- ---- what is proved, in crate `laws`

-- "The doubled area stays exactly as it was": of the job that stands in the buffers after the call, as the build reckons it (`Areas`)
abbrev pub MendKeepsJobArea : Type 0
MendKeepsJobArea = (b : MendLent) → contour_areas (mend_exit b).numbers 0 (mend_exit b).lengths ≡ contour_areas b.numbers 0 b.lengths
