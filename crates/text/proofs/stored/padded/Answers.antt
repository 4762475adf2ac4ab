-- Answers for `text::stored::padded`.
use Rattle.std.proofs.Common.{◌∙◌}
use Rattle.text.proofs.stored.Numbers.{padded_is}
use Rattle.text.proofs.stored.padded.Goals as goal

pub returns : goal.returns
returns c = c.number.ensures ∙ padded_is _ _ _ c.min-n.ensures c.copy_from_slice.ensures.after
