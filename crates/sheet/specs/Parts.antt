-- The first elements of the lists that were read, lent as parts: they are as many as was counted. Assumes nothing.
use Rattle.std.specs.Prelude.{◌≡◌, List, ℕ, ◌*◌, ◌≤◌, length, take}
use Rattle.std.proofs.Common.{sym, arith, length-take-le}
use Rattle.rules.specs.Sheet.{contours_most, declared_most}

pub whole_part : (n : ℕ) (l : List ℕ) → n ≤ contours_most → length l ≡ contours_most → n ≡ length (take n l)
whole_part n l h e = sym (length-take-le n l (omega arith))

pub whole_numbers : (n : ℕ) (l : List ℕ) → n ≤ declared_most → length l ≡ 384 → n * 4 ≡ length (take (n * 4) l)
whole_numbers n l h e = sym (length-take-le (n * 4) l (omega arith))
