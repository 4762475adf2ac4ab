-- Answers for `tansygate::drawings::drawn_with`.
use Rattle.std.proofs.Common.{rules, ap, ◌∙◌}
use Rattle.drawing.specs.Answer.{Call}
use Rattle.lent.specs.Held.{held_network}
use Rattle.tansygate.specs.Lists.{lists_in}
use Rattle.tansygate.specs.Work.{work_in, crossings_in}
use Rattle.tansygate.proofs.Drew.{same_call}
use Rattle.tansygate.proofs.drawings.drawn_with.Goals as goal

pub returns-clause-answer : goal.returns-clause-answer
returns-clause-answer c = c.drawn_in.ensures.answer ∙ ap (λ (d : Call). d.answer) (same_call c.args.options (held_network c.args.network.now) (lists_in c.args.lists) _ (work_in c.args.store) _ (crossings_in c.args.store) (search rules) (search rules))

pub returns-clause-lists : goal.returns-clause-lists
returns-clause-lists c = c.drawn_in.ensures.lists ∙ ap (λ (d : Call). d.lists) (same_call c.args.options (held_network c.args.network.now) (lists_in c.args.lists) _ (work_in c.args.store) _ (crossings_in c.args.store) (search rules) (search rules))
