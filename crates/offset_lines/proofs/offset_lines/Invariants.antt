-- What the loops of `offset_lines::offset_lines` keep.
use Rattle.std.proofs.Common.{◌≡◌, ◌+◌, ◌*◌, ◌≤◌, length}
use Rattle.offsets.specs.Stages.OffsetList.{offsets_in}
use Rattle.text.specs.Spell.{put_at}
use Rattle.offset_lines.specs.Stages.Text.{offset_lines}
use Rattle.offset_lines.proofs.offset_lines.Given as goal

abbrev pub invariant-loop-i : goal.invariant-loop-i
invariant-loop-i l =
    let lines = offset_lines (offsets_in l.i l.keys l.sorted) in
    (l.p ≤ l.at + 24 * l.i) × (l.p ≡ l.at + length lines) × (l.out ≡ put_at l.initial.out l.at lines)
