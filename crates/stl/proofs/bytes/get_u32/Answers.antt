-- `stl::bytes::get_u32` meets its contract: the four bytes that it reads are those of the definition. Assumes nothing.
use native.Mathlib.Omega.{arith}
use Rattle.laws.proofs.StlWords.{four_bytes}
use Rattle.stl.proofs.bytes.get_u32.Goals as goal

pub returns : goal.returns
returns c = omega (arith, c.from_le_bytes.ensures, four_bytes c.args.bytes.now c.args.at)
