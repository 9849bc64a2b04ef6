-- R5, the walk: sums over the chain and over the sides that are left, and what a walk keeps. Definitions only.
use Prim.Native.Nat.{ℕ, ◌+◌, ◌<◌}
use Rattle.std.specs.Prelude.{◌≡◌, List, [], ◌∷◌, length, ℤ, pos, ◌+ℤ◌}
use Rattle.rules.specs.declared.Side.{Side}
use Rattle.rules.specs.declared.ChainPoint.{ChainPoint}
use Rattle.rules.specs.Removal.{Walk}
use Rattle.rules.specs.Areas.{sum_of}
use Rattle.laws.specs.Lists.{All}
use Rattle.laws.specs.Sides.{path}

-- the sum of g over a chain's sides, from its first point to its last
abbrev pub between : (ℕ → ℕ → ℤ) → ChainPoint → ChainPoint → ℤ
between g a b = g a.vertex b.vertex

unfoldable pub chain_sum : (ℕ → ℕ → ℤ) → List ChainPoint → ℤ
chain_sum g [] = pos 0
chain_sum g (c ∷ cs) = path (between g) c cs

-- what g gives for a side
unfoldable pub on_side : (ℕ → ℕ → ℤ) → Side → ℤ
on_side g s = g s.start s.end

-- P holds of all vertices; z is the sum of g over the chain and the sides that are left, and n the count of points and sides
pub record Walked (P : ℕ → Type 0) (g : ℕ → ℕ → ℤ) (z : ℤ) (n : ℕ) (w : Walk) : Type 0 where
  pub some : 0 < length w.chain
  pub total : chain_sum g w.chain +ℤ sum_of (on_side g) w.rest ≡ z
  pub counts : length w.chain + length w.rest ≡ n
  pub points : All (λ (c : ChainPoint). P c.vertex) w.chain
  pub starts : All (λ (s : Side). P s.start) w.rest
  pub ends : All (λ (s : Side). P s.end) w.rest
