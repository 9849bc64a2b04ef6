-- `polymesh::replies::refusal_second` meets its contract: each arm is the table's second number with its variant known. Assumes nothing.
use mathlib.Core.Path.{refl}
use Rattle.rules.specs.Replies.{refusal_second}
use Rattle.polymesh.proofs.replies.refusal_second.Goals as goal

pub returns-in-BadCornerLimit : goal.returns-in-BadCornerLimit
unfolding refusal_second
returns-in-BadCornerLimit c = rw c.in-BadCornerLimit.is refl

pub returns-in-CountsDisagree : goal.returns-in-CountsDisagree
unfolding refusal_second
returns-in-CountsDisagree c = rw c.in-CountsDisagree.is refl

pub returns-in-HighCoordinate : goal.returns-in-HighCoordinate
unfolding refusal_second
returns-in-HighCoordinate c = rw c.in-HighCoordinate.is refl

pub returns-in-BadFlag : goal.returns-in-BadFlag
unfolding refusal_second
returns-in-BadFlag c = rw c.in-BadFlag.is refl

pub returns-in-TooManyVertices : goal.returns-in-TooManyVertices
unfolding refusal_second
returns-in-TooManyVertices c = rw c.in-TooManyVertices.is refl

pub returns-in-ShortBuffer : goal.returns-in-ShortBuffer
unfolding refusal_second
returns-in-ShortBuffer c = rw c.in-ShortBuffer.is refl

pub returns-in-NoEarInContour : goal.returns-in-NoEarInContour
unfolding refusal_second
returns-in-NoEarInContour c = rw c.in-NoEarInContour.is refl

pub returns-in-NoEarInHole : goal.returns-in-NoEarInHole
unfolding refusal_second
returns-in-NoEarInHole c = rw c.in-NoEarInHole.is refl
