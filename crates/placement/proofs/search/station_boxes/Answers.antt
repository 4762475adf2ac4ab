-- Answers for `placement::search::station_boxes`.
use Prim.Native.Nat.{◌+◌}
use mathlib.Core.Path.{refl, ap, ◌∙◌}
use native.Mathlib.Omega.{arith}
use Rattle.network.proofs.Occupied.{has_buses, has_none}
use Rattle.network.specs.Views.{boxes_in}
use Rattle.placement.proofs.Placing.{boxes_none, boxes_yes, boxes_no, boxes_end}
use Rattle.placement.proofs.search.station_boxes.Goals as goal
use Rattle.placement.proofs.search.station_boxes.Goals.{then-is_occupied, else-is_occupied}

pub loop-s-init : goal.loop-s-init
loop-s-init c = (omega arith, refl, boxes_none _ _ _ _ _ _)

pub loop-s-preserved : goal.loop-s-preserved
loop-s-preserved c =
    elim c.if-is_occupied.branch [
      | then-is_occupied w ↦ rw w.frames-is ((
        omega arith,
        omega (arith, w.put_box.auto, c.loop-s.invariant.1),
        ap (boxes_in (c.loop-s.s + 1)) w.put_box.ensures ∙ boxes_yes c.args.measures c.args.measured.now.k c.args.measured.now.counts.now c.args.measured.now.blocks.now c.args.places.now c.loop-s.s c.loop-s.frames _ c.loop-s-test.true
            (omega (arith, c.requires.frames_room, c.loop-s.invariant.1)) (has_buses _ _ c.is_occupied.ensures w.if-is_occupied.true) w.station_box.ensures c.loop-s.invariant.2,
      ))
      | else-is_occupied w ↦ rw w.frames-is ((
        omega arith,
        omega (arith, w.put_box-else-is_occupied.auto, c.loop-s.invariant.1),
        ap (boxes_in (c.loop-s.s + 1)) w.put_box-else-is_occupied.ensures ∙ boxes_no c.args.measures c.args.measured.now.k c.args.measured.now.counts.now c.args.measured.now.blocks.now c.args.places.now c.loop-s.s c.loop-s.frames c.loop-s-test.true
            (omega (arith, c.requires.frames_room, c.loop-s.invariant.1)) (has_none _ _ c.is_occupied.ensures w.if-is_occupied.false) c.loop-s.invariant.2,
      ))
    ]

pub returns : goal.returns
returns c =
    boxes_end _ _ _ _ _ c.loop-s.s _ (omega arith) c.loop-s.invariant.2
