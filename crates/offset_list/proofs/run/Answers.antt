-- Answers for `offset_list::run`.
use mathlib.Core.Path.{sym, subst}
use Rattle.offset_list.proofs.Generated.{front}
use Rattle.offset_list.proofs.run.Goals as goal

pub returns-clause-succeeds : goal.returns-clause-succeeds
returns-clause-succeeds g c = λ takes. c.put.ensures.succeeds (subst (g.W.Sink.takes _) (sym (front _ _ _ _ c.print_table-count.ensures.byte_count c.print_table-count.ensures.out_after)) takes)
