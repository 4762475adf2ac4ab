-- Answers for `tansygate::audits::audited_with`.
use Rattle.std.proofs.Common.{rules, ap, ◌∙◌}
use Rattle.audit.specs.Answer.{Call}
use Rattle.audit.specs.Held.{held_drawing}
use Rattle.tansygate.specs.Audited.{figures_in, store_in}
use Rattle.tansygate.proofs.Findings.{same_call}
use Rattle.tansygate.proofs.audits.audited_with.Goals as goal

pub returns-clause-answer : goal.returns-clause-answer
returns-clause-answer c =
    c.audited_in.ensures.answer
    ∙ ap (λ (d : Call). d.answer) (same_call (held_drawing c.args.drawn.now) (figures_in c.args.findings) _ (store_in c.args.store) (search rules))

pub returns-clause-lists : goal.returns-clause-lists
returns-clause-lists c =
    c.audited_in.ensures.lists
    ∙ ap (λ (d : Call). d.lists) (same_call (held_drawing c.args.drawn.now) (figures_in c.args.findings) _ (store_in c.args.store) (search rules))
