-- Answers for `placement::free_places::is_free`.
use mathlib.Core.Path.{ap, ◌∙◌}
use Rattle.plane.specs.declared.geometry.Box.{Box}
use Rattle.plane.specs.Overlap.{overlap}
use Rattle.placement.proofs.free_places.Searching.{free_hit, free_miss, free_end}
use Rattle.placement.proofs.free_places.is_free.Goals as goal

pub returns-then-overlaps : goal.returns-then-overlaps
returns-then-overlaps c = free_hit c.args.wanted c.args.boxes.now c.args.sorted.now c.args.part.first c.args.part.end c.requires.part_inside c.requires.boxes_inside _ c.loop-j-test.true _ (c.overlaps.ensures ∙ ap (λ (q : Box). overlap c.args.wanted q) c.box_at.ensures) c.if-overlaps.true c.loop-j.invariant

pub loop-j-preserved : goal.loop-j-preserved
loop-j-preserved c = free_miss c.args.wanted c.args.boxes.now c.args.sorted.now c.args.part.first c.args.part.end c.requires.part_inside c.requires.boxes_inside _ c.loop-j-test.true _ (c.overlaps.ensures ∙ ap (λ (q : Box). overlap c.args.wanted q) c.box_at.ensures) c.if-overlaps.false c.loop-j.invariant

pub returns : goal.returns
returns c = free_end c.args.wanted c.args.boxes.now c.args.sorted.now c.args.part.first c.args.part.end c.requires.part_inside c.requires.boxes_inside _ c.loop-j-test.false c.loop-j.invariant
