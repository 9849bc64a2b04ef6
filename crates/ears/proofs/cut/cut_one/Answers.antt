-- `ears::cut::cut_one` meets its contract: each arm is the definition with its test known; the ear is one of the places, and its triangle is written
-- past the index words. Assumes nothing.
use Rattle.ears.proofs.Cuts.{ear_place, turned, still, far_ready}
use Rattle.ears.proofs.cut.cut_one.Goals as goal

pub put_triangle-requires : goal.put_triangle-requires
put_triangle-requires c =
    (ear_place _ _ _ 0 c.requires.0 c.ear_in.ensures c.in-Some.ear c.in-Some.is, c.requires.2, c.requires.3)

pub cut_ear-requires : goal.cut_ear-requires
cut_ear-requires c = (
  far_ready _ _ _ _ _ c.requires.0 c.requires.2 c.put_triangle.ensures,
  ear_place _ _ _ 0 c.requires.0 c.ear_in.ensures c.in-Some.ear c.in-Some.is,
  c.requires.1,
)

pub returns : goal.returns
returns c = record {
  found = rw (← c.ear_in.ensures, c.in-Some.is);
  words = turned _ _ _ _ c.requires.0 c.ear_in.ensures c.in-Some.ear c.requires.2 c.in-Some.is c.put_triangle.ensures c.cut_ear.ensures;
}

pub returns-in_default : goal.returns-in_default
returns-in_default c = record {
  found = rw (← c.ear_in.ensures, c.in_default.is);
  words = still _ _ _ _ c.requires.0 c.ear_in.ensures c.in_default.is;
}
