-- The contours of a job: what is asked for, and what is left. Definitions only.
use Rattle.std.specs.Prelude.{◌≡◌, true, List, ◌++◌, ℕ, ◌+◌, ◌*◌, ◌≤◌, length, take, drop}
use Rattle.mem.specs.Slice.{splice}
use Rattle.mem.specs.Packed.{packed}
use Rattle.rules.specs.Job.{job_stride, sum_over}
use Rattle.rules.specs.Mend.{traced, mended}
use Rattle.rules.specs.MendCall.{vertices_most, traced_words, mended_job, kept_lengths, kept_count, kept_words, lost_numbers, longest}
use Rattle.mend.specs.declared.contours.Tally.{Tally}
use Rattle.mend.specs.Walks.{WalkReady}

-- ---- one contour

pub record ContourReady (ns ls ws : List ℕ) (first n to lost : ℕ) : Type 0 where
  pub walk : WalkReady true ns ls ws first n lost
  pub down : to ≤ first

pub record ContourMended (first n to from : ℕ) (r : Tally) (ns ls ws ns' ls' ws' : List ℕ) : Type 0 where
  pub count : r.kept ≡ length (mended (traced ns first n)).points
  pub lost : r.lost ≡ from + length (mended (traced ns first n)).lost
  pub list : ls' ≡ splice ls from (mended (traced ns first n)).lost
  pub kept : take ((to + r.kept) * job_stride) ns' ≡ take (to * job_stride) ns ++ packed traced_words (mended (traced ns first n)).points
  pub behind : drop ((first + n) * job_stride) ns' ≡ drop ((first + n) * job_stride) ns
  pub long_numbers : length ns' ≡ length ns
  pub rest : drop n ws' ≡ drop n ws
  pub long_work : length ws' ≡ length ws

-- ---- all contours

-- the numbers are those of the contours, they are not too many, and the scratch has a word for each point of the longest
pub record CountReady (cs ns ws : List ℕ) : Type 0 where
  pub inside : sum_over (λ n. n) cs * job_stride ≤ length ns
  pub small : sum_over (λ n. n) cs ≤ vertices_most
  pub fits : longest cs ≤ length ws

-- only the scratch is written, and of it the words for the longest contour
pub record Counted (r : ℕ) (cs ns ls ws ns' ls' ws' : List ℕ) : Type 0 where
  pub is : r ≡ length (lost_numbers (mended_job cs ns))
  pub numbers : ns' ≡ ns
  pub list : ls' ≡ ls
  pub rest : drop (longest cs) ws' ≡ drop (longest cs) ws
  pub long_work : length ws' ≡ length ws

-- and the list has room
pub record AllReady (cs ns ls ws : List ℕ) : Type 0 where
  pub count : CountReady cs ns ws
  pub room : length (lost_numbers (mended_job cs ns)) ≤ length ls

pub record AllMended (r : Tally) (cs ns ls ws cs' ns' ls' ws' : List ℕ) : Type 0 where
  pub kept : r.kept ≡ kept_count (mended_job cs ns)
  pub lost : r.lost ≡ length (lost_numbers (mended_job cs ns))
  pub lengths : cs' ≡ kept_lengths (mended_job cs ns)
  pub words : take (r.kept * job_stride) ns' ≡ kept_words (mended_job cs ns)
  pub whole : r.kept + r.lost ≡ sum_over (λ n. n) cs
  pub list : ls' ≡ splice ls 0 (lost_numbers (mended_job cs ns))
  pub long_numbers : length ns' ≡ length ns
  pub rest : drop (longest cs) ws' ≡ drop (longest cs) ws
  pub long_work : length ws' ≡ length ws
