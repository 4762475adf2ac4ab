-- Answers for `audit::overlaps::left_keys`.
use mathlib.Core.Path.{◌≡◌}
use Prim.Native.Nat.{◌<◌}
use native.Mathlib.Omega.{arith}
use lib.ListN.{length}
use Rattle.numbers.specs.Ops.{order_key}
use Rattle.numbers.proofs.float.Keys.{finite_no_nan}
use Rattle.plane.proofs.neighbours.Fills.{fill_none, fill_more}
use Rattle.audit.specs.Stages.Sweep.{left_at}
use Rattle.audit.proofs.overlaps.Sweeps.{left_keyed}
use Rattle.audit.proofs.overlaps.left_keys.Goals as goal

pub loop-s-init : goal.loop-s-init
loop-s-init c = fill_none _ _

pub order_key-requires : goal.order_key-requires
order_key-requires c = finite_no_nan _ (c.requires.finite_boxes.at _ (omega arith))

pub loop-s-preserved : goal.loop-s-preserved
loop-s-preserved c = let h : c.loop-s.s < length c.args.keys.now = omega arith in
    cc (c.order_key.ensures, c.loop-s.invariant, fill_more (λ t. order_key (left_at c.args.boxes.now t)) _ c.loop-s.s h)

pub returns : goal.returns
returns c = let e : c.loop-s.s ≡ c.args.stations = omega arith in left_keyed _ _ c.type_inv.boxes c.requires.finite_boxes c.requires.all_boxes _ _ (rw e at c.loop-s.invariant)
