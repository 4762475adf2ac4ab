-- Answers for `channels::spacing::spread`.
use Rattle.channels.proofs.spacing.Filling.{fill_start, fill_step, fill_end}
use mathlib.Core.Path.{◌≡◌, ap, sym, ◌∙◌}
use Prim.Native.Nat.{◌+◌, ◌<◌}
use lib.ListN.{length}
use native.Mathlib.Nat.{zero-add}
use native.Mathlib.Omega.{arith}
use Rattle.numbers.specs.Order.{up_from}
use Rattle.numbers.proofs.order.Laws.{length_up, get_d_up}
use Rattle.channels.specs.Space.{even_at}
use Rattle.channels.proofs.spacing.spread.Goals as goal

pub loop-i-init : goal.loop-i-init
loop-i-init c = fill_start _ _ _ (omega (arith, length_up 0 (c.args.last + 1)))

pub loop-i-preserved : goal.loop-i-preserved
loop-i-preserved c =
    let n = c.args.last + 1 in
    let long : length (up_from 0 n) ≡ n = length_up 0 n in
    let h : c.loop-i.i < n = omega arith in
    fill_step _ _ _ (omega arith) _ _ _ 0 (omega arith) (c.even_at.ensures ∙ ap (even_at _ _) (sym (get_d_up 0 n c.loop-i.i h ∙ zero-add _))) c.loop-i.invariant
