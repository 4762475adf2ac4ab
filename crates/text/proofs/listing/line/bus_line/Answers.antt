-- Answers for `text::listing::line::bus_line`.
use Rattle.std.proofs.Common.{arith, ◌-◌, ◌^◌}
use Rattle.text.proofs.fields.Bounds.{whole_most}
use Rattle.text.specs.Stages.Places.{field_of}
use Rattle.text.proofs.listing.line.bus_line.Goals as goal

pub overflow_cast-result : goal.overflow_cast-result
unfolding field_of
overflow_cast-result c = omega (arith, whole_most _ (2 ^ 32 - 1) _ _ _ c.in_ok-sub.ensures)
