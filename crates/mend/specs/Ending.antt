-- The two ends of the stack lose what they have to lose: what stands in memory, what is asked for, and what is left. Definitions only.
use Rattle.std.specs.Prelude.{◌≡◌, Bool, cond, List, [], ℕ, ◌+◌, ◌*◌, ◌≤◌, ◌<◌, length, get_or}
use Rattle.mem.specs.Loops.{times}
use Rattle.rules.specs.Job.{job_stride}
use Rattle.rules.specs.MendCall.{vertices_most}
use Rattle.laws.specs.Lists.{All}
use Rattle.laws.specs.MendEnds.{Ending, off, off_front, off_back, end_turn}
use Rattle.mend.specs.declared.ends.Span.{Span}
use Rattle.mend.specs.declared.ends.Ends.{Ends}
use Rattle.mend.specs.declared.ends.Ends.TheVariants.{Near, Last, LastTwo, Apart}
use Rattle.mend.specs.Walking.{listed}

-- the state w of the ends as it stands in memory; the lost numbers stand in the list ls₀ from k on, where something is written
pub record StandsAt (t : Bool) (ls₀ : List ℕ) (k : ℕ) (w : Ending) (ns ls : List ℕ) (at : Span) : Type 0 where
  pub lo : at.lo ≡ w.lo
  pub n : at.n ≡ w.n
  pub lost : at.lost ≡ k + length w.lost
  pub numbers : ns ≡ w.numbers
  pub list : ls ≡ listed t ls₀ k w.lost

-- the numbers on the stack are of vertices that are there
pub record Held (ns st : List ℕ) : Type 0 where
  pub e : ℕ
  pub high : All (λ k. k < e) st
  pub inside : e * job_stride ≤ length ns
  pub small : e ≤ vertices_most

-- ---- one is lost at an end

-- the two places are on the stack, and some points are left
pub record OffReady (t : Bool) (ns ls st : List ℕ) (kept gone : ℕ) (at : Span) : Type 0 where
  pub held : Held ns st
  pub kept_in : kept < length st
  pub gone_in : gone < length st
  pub some : 1 ≤ at.n
  pub few : at.lost ≤ vertices_most + 1
  pub room : cond t (at.lost + 1) 0 ≤ length ls

pub record Off (t : Bool) (kept gone lo : ℕ) (at r : Span) (st ns ls ns' ls' : List ℕ) : Type 0 where
  pub stands : (ls₀ : List ℕ) (k : ℕ) (w : Ending) → StandsAt t ls₀ k w ns ls at
      → StandsAt t ls₀ k (off t lo (get_or st kept 0) (get_or st gone 0) w) ns' ls' r

-- ---- which ends meet

pub record EndsReady (ns st : List ℕ) (at : Span) : Type 0 where
  pub held : Held ns st
  pub within : at.lo + at.n ≤ length st

-- the state of which only the part that is left and the numbers are known
abbrev pub end_of : List ℕ → Span → List ℕ → Ending
end_of ns at lost = record { lo = at.lo; n = at.n; lost = lost; numbers = ns }

-- what the turn comes to
unfoldable pub EndsMet : Ends → List ℕ → List ℕ → Span → Type 0
EndsMet Near ns st at = (3 ≤ at.n) × ((t : Bool) (lost : List ℕ) → end_turn t st (end_of ns at lost) ≡ off_front t st (off_back t st (end_of ns at lost)))
EndsMet Last ns st at = (3 ≤ at.n) × ((t : Bool) (lost : List ℕ) → end_turn t st (end_of ns at lost) ≡ off_front t st (end_of ns at lost))
EndsMet LastTwo ns st at = (3 ≤ at.n) × ((t : Bool) (lost : List ℕ) → end_turn t st (end_of ns at lost) ≡ off_front t st (off_front t st (end_of ns at lost)))
EndsMet Apart ns st at = (t : Bool) (lost : List ℕ) → end_turn t st (end_of ns at lost) ≡ end_of ns at lost

-- ---- one turn

pub record TurnReady (t : Bool) (ns ls st : List ℕ) (at : Span) : Type 0 where
  pub ready : EndsReady ns st at
  pub few : at.lost ≤ vertices_most
  pub room : cond t (at.lost + length (end_turn t st (end_of ns at [])).lost) 0 ≤ length ls

pub record Turned (t : Bool) (at r : Span) (st ns ls ns' ls' : List ℕ) : Type 0 where
  pub stands : (ls₀ : List ℕ) (k : ℕ) (w : Ending) → StandsAt t ls₀ k w ns ls at → StandsAt t ls₀ k (end_turn t st w) ns' ls' r

-- ---- all turns

pub record TakeReady (t : Bool) (ns ls st : List ℕ) (at : Span) : Type 0 where
  pub ready : EndsReady ns st at
  pub few : at.lost + at.n ≤ vertices_most
  pub room : cond t (at.lost + length (times (end_turn t st) at.n (end_of ns at [])).lost) 0 ≤ length ls

pub record Taken (t : Bool) (at r : Span) (st ns ls ns' ls' : List ℕ) : Type 0 where
  pub stands : StandsAt t ls at.lost (times (end_turn t st) at.n (end_of ns at [])) ns' ls' r
