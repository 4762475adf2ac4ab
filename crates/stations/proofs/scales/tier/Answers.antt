-- Answers for `stations::scales::tier`.
use borrow.Author.Tests.{le-leb, lt-leb}
use Rattle.stations.specs.Scale.{tier}
use Rattle.stations.proofs.scales.tier.Goals as goal

pub returns-then-options-count : goal.returns-then-options-count
unfolding tier
returns-then-options-count c = simp (le-leb _ _ c.if-options-count.true)

pub returns-then-options-count-2 : goal.returns-then-options-count-2
unfolding tier
returns-then-options-count-2 c = simp (lt-leb _ _ c.if-options-count.false, le-leb _ _ c.if-options-count-2.true)

pub returns : goal.returns
unfolding tier
returns c = simp (lt-leb _ _ c.if-options-count.false, lt-leb _ _ c.if-options-count-2.false)
