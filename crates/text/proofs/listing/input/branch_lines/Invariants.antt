-- What the loops of `text::listing::input::branch_lines` keep.
use Rattle.text.proofs.listing.Reading.{BranchesRead}
use Rattle.text.proofs.listing.input.branch_lines.Given as goal

abbrev pub invariant-loop-n : goal.invariant-loop-n
invariant-loop-n l = BranchesRead l.text l.at l.initial.from l.initial.to l.initial.live l.from l.to l.live l.i l.n
