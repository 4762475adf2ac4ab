-- Answers for `drawlist::draw::list_drawing`.
use mathlib.Core.Path.{ap, ◌∙◌}
use native.Mathlib.Omega.{arith}
use Rattle.text.specs.Output.{refusal}
use Rattle.text.proofs.listing.Writing.{printed}
use Rattle.drawlist.proofs.Listed.{text_drawn, text_refused, few_pieces}
use Rattle.drawlist.proofs.draw.list_drawing.Goals as goal

pub print-requires : goal.print-requires
print-requires c = omega (arith, few_pieces _ _ _ _ _ c.plot.ensures _ c.in-Ok.is)

pub returns-in-Ok : goal.returns-in-Ok
returns-in-Ok c =
    let both = printed _ _ _ _ _ (text_drawn _ _ _ _ _ c.plot.ensures _ c.in-Ok.is) c.print.ensures.byte_count c.print.ensures.out_after in record { byte_count = both.0; out_after = both.1 }

pub returns-in-Err : goal.returns-in-Err
returns-in-Err c =
    let both = printed _ _ _ _ _ (ap refusal c.number.ensures ∙ text_refused _ _ _ _ _ c.plot.ensures _ c.in-Err.is) c.print_refusal.ensures.byte_count c.print_refusal.ensures.out_after in record { byte_count = both.0; out_after = both.1 }
