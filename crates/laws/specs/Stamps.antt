-- Stamps: a word for a polygon's corners, one of 32 bits for each. Definitions only.
use Rattle.std.specs.Prelude.{List, ℕ, ◌%◌, ◌^◌, length, get_or}
use Rattle.std.specs.Int.Bits.{bit_or}
use Rattle.mem.specs.Loops.{each}

-- the bit of corner c
unfoldable pub stamp_bit : ℕ → ℕ
stamp_bit c = 2 ^ (c % 32)

-- the stamp so far, with that of corner i of cs
unfoldable pub stamp_with : List ℕ → ℕ → ℕ → ℕ
stamp_with cs i s = bit_or s (stamp_bit (get_or cs i 0))

-- the stamp of a list of corners
unfoldable pub stamp_of : List ℕ → ℕ
stamp_of cs = each (stamp_with cs) 0 (length cs) 0
