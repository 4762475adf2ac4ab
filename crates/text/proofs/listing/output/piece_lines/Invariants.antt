-- What the loops of `text::listing::output::piece_lines` keep.
use Rattle.std.proofs.Common.{◌≡◌, ◌+◌, ◌*◌, ◌≤◌, length}
use Rattle.numbers.specs.Table.{joined}
use Rattle.text.specs.Spell.{put_at}
use Rattle.text.specs.Output.{piece_line}
use Rattle.text.proofs.listing.output.piece_lines.Given as goal

abbrev pub invariant-loop-i : goal.invariant-loop-i
invariant-loop-i l =
    let lines = joined (piece_line l.roles l.pieces l.branches) l.i in
    (l.p ≤ l.at + 83 * l.i) × (l.p ≡ l.at + length lines) × (l.out ≡ put_at l.initial.out l.at lines)
