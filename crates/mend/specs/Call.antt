-- The calls: what is lent, and what the steps of a call ask for and leave. Definitions only.
use Rattle.std.specs.Prelude.{◌≡◌, true, false, List, ℕ, ◌*◌, length, Result}
use Rattle.rules.specs.Job.{job_stride, sum_over}
use Rattle.rules.specs.MendCall.{MendLent, MendOutcome, mends, listFull, mended_job, is_list_full, longest, mend_reply_of, mend_exit_of}
use Rattle.rules.specs.declared.Mended.{Mended}
use Rattle.rules.specs.declared.MendRefusal.{MendRefusal}
use Rattle.mend.specs.Contours.{CountReady, AllReady}

-- what is lent: lengths, numbers, list and scratch
abbrev pub lent_of : List ℕ → List ℕ → List ℕ → List ℕ → MendLent
lent_of cs ns ls ws = record { lengths = cs; numbers = ns; list = ls; work = ws }

-- the numbers are just those of the contours, and `most` is the longest of these
pub record MendReady (cs ns ws : List ℕ) (most : ℕ) : Type 0 where
  pub count : CountReady cs ns ws
  pub whole : sum_over (λ n. n) cs * job_stride ≡ length ns
  pub longest : most ≡ longest cs

pub record WriteReady (cs ns ls ws : List ℕ) (most : ℕ) : Type 0 where
  pub ready : MendReady cs ns ws most
  pub all : AllReady cs ns ls ws

-- the contours are mended
pub record Written (r : Result Mended MendRefusal) (b e : MendLent) : Type 0 where
  pub reply : r ≡ mend_reply_of (mends (mended_job b.lengths b.numbers))
  pub words : e ≡ mend_exit_of b (mends (mended_job b.lengths b.numbers))

-- or the list is full
unfoldable pub checked_outcome : MendLent → MendOutcome
checked_outcome b = elim (is_list_full b) [ true ↦ listFull | false ↦ mends (mended_job b.lengths b.numbers) ]

pub record Ended (r : Result Mended MendRefusal) (b e : MendLent) : Type 0 where
  pub reply : r ≡ mend_reply_of (checked_outcome b)
  pub words : e ≡ mend_exit_of b (checked_outcome b)
