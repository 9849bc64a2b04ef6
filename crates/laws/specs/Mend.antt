-- Request 12: the points that are left, the steps that mending takes, and what each does to the counts. Definitions only.
use Prim.Native.Nat.{ℕ, ◌+◌, ◌≤◌, ◌<◌}
use Rattle.std.specs.Prelude.{◌≡◌, true, false, length}
use mathlib.Core.List.{List}
use Rattle.rules.specs.declared.Point.{Point}
use Rattle.rules.specs.Mend.{trace_places, is_doubled, is_spike, Mending, lose_after}
use Rattle.rules.specs.Mend.{lose_two}

-- how many points are left, and where they stand
abbrev pub left_in : Mending → ℕ
left_in m = length m.points

abbrev pub places_in : Mending → List Point
places_in m = trace_places m.points

-- a step: at some place one is lost, or two
pub data Step (m : Mending) : Mending → Type 0 where
  one_lost : (i : ℕ) → 3 ≤ left_in m → i < left_in m → is_doubled (places_in m) i ≡ true → Step m (lose_after i m)
  two_lost : (i : ℕ) → 3 ≤ left_in m → i < left_in m → is_doubled (places_in m) i ≡ false → is_spike (places_in m) i ≡ true → Step m (lose_two i m)

-- points and list together stay as many, and there are fewer points, though never none
pub record Counts (m n : Mending) : Type 0 where
  pub all : left_in n + length n.lost ≡ left_in m + length m.lost
  pub fewer : left_in n < left_in m
  pub some : 0 < left_in n
