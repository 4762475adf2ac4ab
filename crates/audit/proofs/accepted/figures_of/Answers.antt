-- Answers for `audit::accepted::figures_of`.
use Rattle.audit.proofs.accepted.Figuring.{displaced, spaced, figured}
use Rattle.audit.proofs.accepted.figures_of.Goals as goal

pub returns : goal.returns
returns c =
    figured _ _ _ c.requires.counted c.requires.counts_are _ _ _ _ _ _ _ _ _ _
    (displaced _ _ _ c.requires.counted c.requires.counts_are _ _ _ c.seeds.ensures c.displacements.ensures)
    (spaced _ _ _ c.requires.counted c.requires.counts_are _ _ _ _ _ c.middles.ensures c.coordinates-n.ensures.coordinates_written
    c.coordinates-n.ensures.occupied_count c.spacings.ensures)
    c.coordinates-n.ensures.occupied_count c.count_overlaps-overlaps.ensures c.count_through-through.ensures
    c.relative_lengths-lengths.ensures.relative_after c.relative_lengths-lengths.ensures.counted
