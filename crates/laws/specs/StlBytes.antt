-- The patterns that four bytes of an STL hold. Definitions only.
use Rattle.std.specs.Prelude.{ℕ, ◌<◌}

-- a pattern
abbrev pub Small : ℕ → Type 0
Small n = n < 4294967296
