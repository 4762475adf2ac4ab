-- Answers for `tansygate::drawings::drawn_in`.
use Rattle.std.proofs.Common.{rules, refl, ◌∙◌}
use Rattle.lent.specs.Held.{held_network, held_work, held_crossings}
use Rattle.tansygate.specs.Lists.{lists_in}
use Rattle.tansygate.proofs.Drew.{laid_over, lists_held}
use Rattle.tansygate.proofs.drawings.drawn_in.Goals as goal

pub returns-clause-answer : goal.returns-clause-answer
returns-clause-answer c = (laid_over c.args.options (held_network c.args.network.now) (lists_in c.args.lists) _ _ _ (held_work c.args.work.now) (held_crossings c.args.crossings.now) _ c.drawn_lists-answer.ensures.answer c.drawn_lists-answer.ensures.lists (search rules) refl).0

pub returns-clause-lists : goal.returns-clause-lists
returns-clause-lists c = (laid_over c.args.options (held_network c.args.network.now) (lists_in c.args.lists) _ _ _ (held_work c.args.work.now) (held_crossings c.args.crossings.now) _ c.drawn_lists-answer.ensures.answer c.drawn_lists-answer.ensures.lists (search rules) (lists_held c.args.lists _ _ _ _ _ _ _ (c.drawn_lists-answer.auto.positions ∙ c.as_mut_slice.ensures.len) (c.drawn_lists-answer.auto.bars ∙ c.as_mut_slice-2.ensures.len) (c.drawn_lists-answer.auto.boxes ∙ c.as_mut_slice-3.ensures.len) (c.drawn_lists-answer.auto.scales ∙ c.as_mut_slice-4.ensures.len) (c.drawn_lists-answer.auto.roles ∙ c.as_mut_slice-5.ensures.len) (c.drawn_lists-answer.auto.pieces ∙ c.as_mut_slice-6.ensures.len) (c.drawn_lists-answer.auto.branches ∙ c.as_mut_slice-7.ensures.len))).1
