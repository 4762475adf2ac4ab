-- Answers for `streams::source::read_at`.
use Rattle.std.proofs.Common.{arith, length-take-le}
use borrow.Rule.Slice.PartMut.{take_put}
use Rattle.streams.proofs.Fronts.{in_place}
use Rattle.streams.proofs.source.read_at.Goals as goal

pub returns-clause-front : goal.returns-clause-front
returns-clause-front g c = take_put _ _ c.args.room.now _ (omega (arith, c.requires))

pub returns-clause-bytes : goal.returns-clause-bytes
returns-clause-bytes g c =
    in_place _ _ c.read_once.result _ c.read_once.new.room _ c.args.at (length-take-le _ c.args.room.now (omega (arith, c.requires)))
    c.read_once.ensures.bound c.read_once.ensures.bytes
