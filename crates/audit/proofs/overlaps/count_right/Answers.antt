-- Answers for `audit::overlaps::count_right`.
use Rattle.std.proofs.Common.{◌+◌, ◌<◌, length, arith}
use Rattle.plane.proofs.neighbours.Places.{in_part}
use Rattle.audit.proofs.overlaps.Sweeps.{found_yes, found_no, found_stop, either_paired}
use Rattle.audit.proofs.overlaps.count_right.Goals as goal
use Rattle.audit.proofs.overlaps.count_right.Goals.{then-paired, else-paired}

pub returns-then-p-b-clause-counted : goal.returns-then-p-b-clause-counted
returns-then-p-b-clause-counted c =
    let h : c.args.place + 1 + c.loop-i.i-index < length c.args.order.now = omega arith in
    found_stop _ _ _ c.args.place _ _ _ (c.args.place + 1 + c.loop-i.i-index) _ _ (in_part c.args.order.now (c.args.place + 1) (length c.args.order.now) c.loop-i.i-index (omega arith)) c.type_inv.boxes c.requires.finite_boxes c.requires.all_boxes c.requires.sorted (c.requires.sorted.below _ c.requires.in_order) h c.box_at-p.ensures c.box_at-b.ensures c.if-p-b.true c.loop-i.invariant.1

pub loop-i-preserved : goal.loop-i-preserved
loop-i-preserved c =
    let q = c.args.place + 1 + c.loop-i.i-index in
    let h : q < length c.args.order.now = omega arith in
    let e = in_part c.args.order.now (c.args.place + 1) (length c.args.order.now) c.loop-i.i-index (omega arith) in
    let v = either_paired _ _ _ _ _ _ _ (c.requires.sorted.below _ c.requires.in_order) (rw e (c.requires.sorted.below q h)) c.box_at-p.ensures c.box_at-b.ensures c.paired.ensures in
    elim c.if-paired.branch [
      | then-paired w ↦ rw w.found-is (omega arith, found_yes _ _ _ c.args.place _ q _ _ _ _ e (omega arith) h v w.if-paired.true c.loop-i.invariant.1)
      | else-paired w ↦ rw w.found-is (omega arith, found_no _ _ _ c.args.place _ q _ _ _ _ e (omega arith) h v w.if-paired.false c.loop-i.invariant.1)
    ]
