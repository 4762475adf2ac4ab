-- Answers for `doubling::laws::doubling`.
use Rattle.doubling.proofs.Calls.{scaling, doubling, times_scaled}
use Rattle.doubling.proofs.laws.doubling.Goals as goal

pub returns-clause-scaled : goal.returns-clause-scaled
returns-clause-scaled c k O N A xy' S L L' W W' X X' room = scaling k O N A xy' S L L' W W' X X' room

pub returns-clause-doubled : goal.returns-clause-doubled
returns-clause-doubled c = doubling

pub returns-clause-by_product : goal.returns-clause-by_product
returns-clause-by_product c = times_scaled
