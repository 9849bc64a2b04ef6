-- `facettext::text::put_file_refused` meets its contract: the number and the second number are those of the reply. Assumes nothing.
use Rattle.rules.specs.StlCall.{unstl_number, unstl_second}
use Rattle.facettext.proofs.text.put_file_refused.Goals as goal

pub put_refused-requires : goal.put_refused-requires
unfolding unstl_number unstl_second
put_refused-requires c = rw (c.unstl_number.ensures, c.unstl_second.ensures) c.requires

pub returns : goal.returns
unfolding unstl_number unstl_second
returns c = rw (c.unstl_number.ensures, c.unstl_second.ensures) at c.put_refused.ensures
