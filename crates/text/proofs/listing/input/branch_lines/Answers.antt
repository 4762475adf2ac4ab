-- Answers for `text::listing::input::branch_lines`.
use Rattle.text.specs.Stages.Places.{field_of}
use Rattle.text.proofs.listing.Reading.{one_branch}
use Rattle.text.proofs.listing.input.branch_lines.Goals as goal

pub loop-n-preserved : goal.loop-n-preserved
unfolding field_of
loop-n-preserved c =
    let p = c.put_branch.ensures in
    one_branch c.loop-n.invariant (c.requires.from_room, c.requires.to_room, c.requires.live_room) c.loop-n-test.true c.if-text-i.false c.in_ok-branch.branch.value c.in_ok-branch.branch.next c.in_ok-branch.ensures p.from_after p.to_after p.live_after
