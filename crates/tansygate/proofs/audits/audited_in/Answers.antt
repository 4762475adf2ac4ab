-- Answers for `tansygate::audits::audited_in`.
use Rattle.std.proofs.Common.{rules, refl, ◌∙◌}
use Rattle.audit.specs.Held.{held_drawing, held_work}
use Rattle.tansygate.specs.Audited.{figures_in}
use Rattle.tansygate.proofs.Findings.{laid_over, lists_held}
use Rattle.tansygate.proofs.audits.audited_in.Goals as goal

pub returns-clause-answer : goal.returns-clause-answer
returns-clause-answer c =
    (laid_over (held_drawing c.args.drawn.now) (figures_in c.args.findings) _ _ _ (held_work c.args.work.now) _
    c.audited_lists-answer.ensures.answer c.audited_lists-answer.ensures.lists (search rules) refl).0

pub returns-clause-lists : goal.returns-clause-lists
returns-clause-lists c =
    (laid_over (held_drawing c.args.drawn.now) (figures_in c.args.findings) _ _ _ (held_work c.args.work.now) _
    c.audited_lists-answer.ensures.answer c.audited_lists-answer.ensures.lists (search rules)
    (lists_held c.args.findings _ _ _ (c.audited_lists-answer.auto.displacement ∙ c.as_mut_slice.ensures.len)
    (c.audited_lists-answer.auto.spacing ∙ c.as_mut_slice-2.ensures.len) (c.audited_lists-answer.auto.relative ∙ c.as_mut_slice-3.ensures.len))).1
