-- Answers for `fit::fit::all_moderate`.
use borrow.Author.Rules.{rules}
use Rattle.audit.specs.Fit.{all_moderate}
use Rattle.audit.proofs.fit.AllTo.{all_to_is}
use Rattle.audit.proofs.fit.fit.all_moderate.Goals as goal

pub returns : goal.returns
unfolding all_moderate
returns c = all_to_is _ _ _ (search rules)
