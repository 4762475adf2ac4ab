-- Answers for `plane::laws::tested_parts`.
use Rattle.plane.proofs.cells.CellWords.{tested_part_words}
use Rattle.plane.proofs.laws.tested_parts.Goals as goal

pub returns : goal.returns
returns c = tested_part_words
