-- Answers for `plane::cells::shifted`.
use mir.Facts.{to_z-of_z}
use Rattle.plane.proofs.cells.CellCode.{shift_fits, shift_is}
use Rattle.plane.proofs.cells.shifted.Goals as goal

pub returns : goal.returns
returns c = shift_is _ _ (to_z-of_z c.ranges.cell) c.requires _ (to_z-of_z (shift_fits _ _ (to_z-of_z c.ranges.cell) c.requires))
