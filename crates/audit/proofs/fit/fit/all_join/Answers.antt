-- Answers for `fit::fit::all_join`.
use Rattle.std.proofs.Common.{rules, arith, refl, length}
use borrow.Author.Tests.{tests}
use Rattle.std.proofs.lemmas.Iterator.{YieldsList-from_range}
use Rattle.std.proofs.lemmas.Iterator.Search.{all_from_yields_List}
use Rattle.audit.specs.Fit.{joins, all_join}
use Rattle.audit.proofs.fit.AllTo.{all_to_range}
use Rattle.audit.proofs.fit.fit.all_join.Goals as goal

pub returns : goal.returns
unfolding all_join
returns c = all_to_range _ _ _ (all_from_yields_List (joins (length c.args.drawing.now.sub.now) c.args.drawing.now.from.now c.args.drawing.now.to.now c.args.drawing.now.roles.now) _ _ _ c.all.ensures.ran (YieldsList-from_range 0 (length c.args.drawing.now.from.now) (length c.args.drawing.now.from.now) refl (omega arith)) (λ x b q k. search (rules, tests)))
