-- `facettext::number::put_bits` meets its contract: the mark, and then the loop prints the digits, the highest first. Assumes nothing.
use Rattle.facettext.proofs.Bits.{Bits}
use Rattle.facettext.proofs.number.put_bits.Given as goal

abbrev pub invariant-loop-i : goal.invariant-loop-i
invariant-loop-i l = Bits l.initial.out l.at l.p l.out l.shift l.i
