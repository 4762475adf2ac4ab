-- Answers for `small::draw::draw_small`.
use Rattle.small.proofs.Parts.{held_by}
use Rattle.small.proofs.draw.draw_small.Goals as goal

pub returns-clause-is : goal.returns-clause-is
returns-clause-is c = held_by _ _ _ _ _ _ _ _ _ (c.requires.few_stations, c.requires.few_crossings) c.tx_schematic_layout.ensures.is
