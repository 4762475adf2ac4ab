-- Answers for `numbers::hypot::cut`.
use Prim.Native.Nat.{◌*◌, ◌≤◌}
use native.Mathlib.Omega.{arith}
use Rattle.numbers.proofs.hypot.Words.{cut_is}
use Rattle.numbers.proofs.hypot.cut.Goals as goal

pub returns : goal.returns
returns c =
    let d : 2 * c.args.shift ≤ 54 = omega arith in
    cut_is c.square-b.result.hi c.square-b.result.lo (c.args.shorter * c.args.shorter) (2 * c.args.shift) c.square-b.ensures d
