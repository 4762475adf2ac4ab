-- Answers for `numbers::float::key::order_key_total`.
use Rattle.std.proofs.Common.{◌<◌, ℕ, T, sym, ◌∙◌, subst}
use Rattle.numbers.proofs.float.Patterns.{key_fits}
use Rattle.numbers.proofs.float.key.order_key_total.Goals as goal

pub returns-clause-below_highest : goal.returns-clause-below_highest
returns-clause-below_highest c = subst (λ (n : ℕ). n < _) (sym c.order_key.ensures) (key_fits _ (subst T (sym c.well_formed.0.1) tt) (sym c.is_nan.ensures.value ∙ c.if-is_nan.false))
