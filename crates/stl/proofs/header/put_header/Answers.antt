-- `stl::header::put_header` meets its contract: the count stands behind the zeros. Assumes nothing.
use Rattle.laws.proofs.StlWords.{header_written}
use Rattle.stl.proofs.header.put_header.Goals as goal

pub returns : goal.returns
returns c =
    let a = c.args in
    header_written a.out.now a.n c.put_zeros.ensures c.put_u32.ensures
