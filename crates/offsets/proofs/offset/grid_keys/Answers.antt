-- Answers for `offsets::offset::grid_keys`.
use Prim.Native.Nat.{◌*◌}
use mathlib.Core.Path.{◌≡◌, refl}
use native.Mathlib.Omega.{arith}
use native.Mathlib.Nat.{mod-lt}
use lib.ListN.{length-set}
use Rattle.plane.proofs.neighbours.Fills.{fill_none}
use Rattle.offsets.proofs.Grids.{row_below, side_square, grid_more}
use Rattle.offsets.proofs.offset.grid_keys.Goals as goal

pub loop-i-init : goal.loop-i-init
loop-i-init c = (omega arith, refl, fill_none _ _)

pub loop-i-preserved : goal.loop-i-preserved
loop-i-preserved c = (
  omega arith,
  simp length-set (omega arith),
  grid_more _ _ _ _ _ _ c.requires.is_side (omega arith) c.loop-i.invariant.2 c.offset_number.ensures,
)
