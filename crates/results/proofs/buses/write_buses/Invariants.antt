-- What the loops of `results::buses::write_buses` keep.
use Rattle.results.proofs.Turns.{Drawn}
use Rattle.results.proofs.buses.write_buses.Given as goal

abbrev pub invariant-loop-i : goal.invariant-loop-i
invariant-loop-i l = Drawn l.sub l.measures l.buses l.blocks l.frames l.initial.positions l.initial.bars l.i l.positions l.bars
