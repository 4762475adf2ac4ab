-- Answers for `drawlist::draw::list_of`.
use mathlib.Core.Path.{◌∙◌, ap, sym}
use Rattle.text.specs.Output.{refusal}
use Rattle.text.proofs.listing.Writing.{printed}
use Rattle.drawlist.proofs.Listed.{output_drawn, output_malformed}
use Rattle.drawlist.proofs.draw.list_of.Goals as goal

pub returns-in-Some : goal.returns-in-Some
returns-in-Some c =
    let both = printed _ _ _ _ _ (output_drawn _ _ _ _ _ _ _ _ _ _ _ _ _ _ (sym c.parse.ensures.counts ∙ c.in-Some.is) c.parse.ensures.sub_after c.parse.ensures.kv_after c.parse.ensures.from_after c.parse.ensures.to_after c.parse.ensures.live_after c.parse.ensures.xy_after) c.list_drawing.ensures.byte_count c.list_drawing.ensures.out_after in record { byte_count = both.0; out_after = both.1 }

pub returns-in-None : goal.returns-in-None
returns-in-None c =
    let both = printed _ _ _ _ _ (ap refusal c.number.ensures ∙ output_malformed _ (sym c.parse.ensures.counts ∙ c.in-None.is)) c.print_refusal.ensures.byte_count c.print_refusal.ensures.out_after in record { byte_count = both.0; out_after = both.1 }
