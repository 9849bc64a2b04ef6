-- Three points in line, each by two numbers. Definitions only.
use Rattle.std.specs.Prelude.{ℕ, ◌+◌, ◌*◌, ◌≡◌}

-- three points in line: x, y, w along the one axis, s, t, r along the other
unfoldable pub InLine : ℕ → ℕ → ℕ → ℕ → ℕ → ℕ → Type 0
InLine x s y t w r = x * t + y * r + w * s ≡ y * s + w * t + x * r
