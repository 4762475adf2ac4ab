-- Answers for `fit::fit::all_ordered`.
use Rattle.std.proofs.Common.{rules, arith, refl}
use borrow.Author.Tests.{tests}
use Rattle.std.proofs.lemmas.Iterator.{YieldsList-from_range}
use Rattle.std.proofs.lemmas.Iterator.Search.{all_from_yields_List}
use Rattle.plane.specs.Plane.{box_at}
use Rattle.audit.specs.Fit.{ordered, all_ordered}
use Rattle.audit.proofs.fit.AllTo.{all_to_range}
use Rattle.audit.proofs.fit.fit.all_ordered.Goals as goal

pub returns : goal.returns
unfolding all_ordered
returns c = all_to_range _ _ _ (all_from_yields_List (λ s. ordered (box_at c.args.boxes.now s)) _ _ _ c.all.ensures.ran (YieldsList-from_range 0 c.args.stations c.args.stations refl (omega arith)) (λ x b q k. search (rules, tests)))
