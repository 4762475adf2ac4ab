-- Answers for `plane::neighbours::sweep::keys_by_x`.
use mathlib.Core.Path.{sym, ◌∙◌}
use native.Mathlib.Omega.{arith}
use Rattle.numbers.proofs.float.Keys.{finite_no_nan}
use Rattle.plane.proofs.neighbours.Numbers.{numbered_none, numbered_more}
use Rattle.plane.proofs.neighbours.sweep.keys_by_x.Goals as goal

pub loop-i-init : goal.loop-i-init
loop-i-init c = numbered_none _ _ _

pub order_key-requires : goal.order_key-requires
order_key-requires c = finite_no_nan _ (sym c.is_finite.ensures ∙ c.if-not-is_finite.false)

pub loop-i-preserved : goal.loop-i-preserved
loop-i-preserved c = rw c.order_key.ensures (numbered_more _ _ _ _ c.loop-i.invariant (sym c.is_finite.ensures ∙ c.if-not-is_finite.false) (c.type_inv.xy _) (omega arith) (omega arith))
