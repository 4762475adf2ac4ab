-- Answers for `drawlist::run`.
use Rattle.std.proofs.Common.{rules, IsOk}
use Rattle.std.specs.Io.KnownBytes.{Appends}
use Rattle.drawlist.proofs.Listed.{known_text, text_written}
use Rattle.drawlist.proofs.run.Goals as goal

pub returns-clause-written : goal.returns-clause-written
returns-clause-written g c = text_written _ _ _ _ (Appends _ _) (search rules) c.in_ok-count.ensures.bytes c.write_list.ensures.written

pub returns-clause-succeeds : goal.returns-clause-succeeds
returns-clause-succeeds g c = λ gives. known_text _ _ _ (λ t. g.W.Sink.takes c.args.output.now t → IsOk c.write_list.result) (search rules) c.in_ok-count.ensures.bytes c.write_list.ensures.succeeds
