-- The code's 1000.0 is the definition's 1000. Assumes nothing.
use Rattle.std.proofs.Common.{◌≡◌, pos, refl}
use lib.Ieee.{binary32, of_int, of_bits}

pub thousand : of_bits binary32 0x447a_0000 ≡ of_int binary32 (pos 1000)
unfolding of_bits of_int
thousand = refl
