-- What the loops of `text::listing::input::bus_lines` keep.
use Rattle.text.proofs.listing.Reading.{BusesRead}
use Rattle.text.proofs.listing.input.bus_lines.Given as goal

abbrev pub invariant-loop-n : goal.invariant-loop-n
invariant-loop-n l = BusesRead l.text l.at l.initial.sub l.initial.kv l.initial.xy l.sub l.kv l.xy l.i l.n
