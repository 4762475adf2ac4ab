-- Answers for `numbers::hypot::near`.
use mathlib.Core.Path.{◌≡◌, sym, ◌∙◌, subst}
use Prim.Native.Nat.{ℕ, ◌+◌, ◌-◌, ◌*◌, ◌^◌}
use native.Mathlib.Omega.{arith}
use Rattle.numbers.specs.Stages.Steps.{Close}
use Rattle.numbers.proofs.hypot.Lengths.{near_close}
use Rattle.numbers.proofs.hypot.near.Goals as goal

pub returns : goal.returns
returns c =
    let w = c.wide_root-r in
    let x = c.args.longer in
    let y = c.args.shorter in
    let d : x.e ≡ y.e + (x.e - y.e) = omega (arith, c.requires.sides.order) in
    record {
      number = c.rounded.ensures.number;
      value = c.rounded.ensures.value _
          (subst (λ (z : ℕ). Close (x.m * 2 ^ x.e * (x.m * 2 ^ x.e) + y.m * 2 ^ y.e * (y.m * 2 ^ y.e)) w.result.root (w.result.rest + z) x.e) (sym c.cut.ensures)
          (near_close x.m x.e y.m y.e (x.e - y.e) w.result.root w.result.rest d ((c.wide_root-r.ensures.sum ∙ c.squares.ensures.sum)) w.ensures.left));
    }
