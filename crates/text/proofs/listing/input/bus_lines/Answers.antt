-- Answers for `text::listing::input::bus_lines`.
use Rattle.std.proofs.Common.{sym, ◌∙◌}
use Rattle.text.specs.Stages.Places.{field_of}
use Rattle.text.proofs.listing.Reading.{one_bus}
use Rattle.text.proofs.listing.input.bus_lines.Goals as goal

pub loop-n-preserved : goal.loop-n-preserved
unfolding field_of
loop-n-preserved c =
    let p = c.put_bus.ensures in
    one_bus c.loop-n.invariant (c.requires.sub_room, c.requires.kv_room, c.requires.xy_room) c.loop-n-test.true (sym c.at_names.ensures ∙ c.if-at_names.false) c.in_ok-bus.bus.value c.in_ok-bus.bus.next c.in_ok-bus.ensures p.sub_after p.kv_after p.xy_after
