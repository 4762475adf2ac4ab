-- Answers for `fit::scale::sized_ends`.
use borrow.Author.Rules.{rules}
use Rattle.audit.specs.Scale.{sized_ends}
use Rattle.audit.proofs.fit.AllTo.{all_to_is}
use Rattle.audit.proofs.fit.scale.sized_ends.Goals as goal

pub returns : goal.returns
unfolding sized_ends
returns c = all_to_is _ _ _ (search rules)
