-- Answers for `drawlist::write_list`.
use mathlib.Core.Path.{sym, subst}
use Rattle.drawlist.proofs.Listed.{front}
use Rattle.drawlist.proofs.write_list.Goals as goal

pub returns-clause-succeeds : goal.returns-clause-succeeds
returns-clause-succeeds g c = λ takes. c.put.ensures.succeeds (subst (g.W.Sink.takes _) (sym (front _ _ _ _ c.list_of-count.ensures.byte_count c.list_of-count.ensures.out_after)) takes)
