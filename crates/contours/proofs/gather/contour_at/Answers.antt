-- `contours::gather::contour_at` meets its contract: it reads the lists at the contour's number. Assumes nothing.
use mathlib.Core.Path.{refl}
use native.Mathlib.Omega.{arith}
use Rattle.contours.proofs.gather.contour_at.Goals as goal

pub overflow_cast-result : goal.overflow_cast-result
overflow_cast-result c = record { fits = omega (arith) }

pub returns : goal.returns
returns c = refl
