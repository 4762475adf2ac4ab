-- Answers for `plane::laws::entries`.
use Rattle.plane.proofs.geometry.Entries.{hits_enters, enters_entry}
use Rattle.plane.proofs.laws.entries.Goals as goal

pub returns-clause-hit : goal.returns-clause-hit
returns-clause-hit c = hits_enters

pub returns-clause-entry : goal.returns-clause-entry
returns-clause-entry c = enters_entry
