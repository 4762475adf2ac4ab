-- Answers for `fit::fit::all_named`.
use borrow.Author.Rules.{rules}
use Rattle.audit.specs.Fit.{all_named}
use Rattle.audit.proofs.fit.AllTo.{all_to_is}
use Rattle.audit.proofs.fit.fit.all_named.Goals as goal

pub returns : goal.returns
unfolding all_named
returns c = all_to_is _ _ _ (search rules)
