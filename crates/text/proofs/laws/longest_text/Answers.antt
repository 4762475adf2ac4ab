-- Answers for `text::laws::longest_text`.
use Rattle.text.proofs.listing.Laws.{longest}
use Rattle.text.proofs.laws.longest_text.Goals as goal

pub returns : goal.returns
returns c = longest
