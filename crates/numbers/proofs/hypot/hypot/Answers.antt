-- Answers for `numbers::hypot::hypot`.
use mathlib.Core.Path.{◌∙◌, sym, subst}
use native.Mathlib.Nat.{le_of_lt}
use lib.Dec.{T}
use Rattle.numbers.proofs.float.Whole.{finite_at, bits_at, grains_back, at_last, at_last_2}
use Rattle.numbers.proofs.hypot.HypotenuseLaw.{is_hypotenuse}
use Rattle.numbers.proofs.hypot.hypot.Goals as goal

pub bits_of-requires : goal.bits_of-requires
bits_of-requires c =
    record { in_order = c.if-q-p.true; finite = bits_at c.args.side c.abs-a.result c.abs-a.ensures ((subst T (sym c.well_formed.0.1) tt)) ((finite_at c.args.side c.abs-a.result c.abs-a.ensures ((subst T (sym c.well_formed.0.1) tt)) c.if-a-i.false (sym c.is_nan.ensures.value ∙ c.if-is_nan.false))) }

pub returns-then-q-p-clause-computed : goal.returns-then-q-p-clause-computed
returns-then-q-p-clause-computed c =
    at_last c.args.side c.args.other c.bits_of.result _ _ c.bits_of.ensures (grains_back c.args.side c.abs-a.result c.abs-a.ensures ((subst T (sym c.well_formed.0.1) tt))) (grains_back c.args.other c.abs-b.result c.abs-b.ensures ((subst T (sym c.well_formed.1.0.1) tt))) ((finite_at c.args.side c.abs-a.result c.abs-a.ensures ((subst T (sym c.well_formed.0.1) tt)) c.if-a-i.false (sym c.is_nan.ensures.value ∙ c.if-is_nan.false))) ((finite_at c.args.other c.abs-b.result c.abs-b.ensures ((subst T (sym c.well_formed.1.0.1) tt)) c.if-b-i.false (sym c.is_nan-2.ensures.value ∙ c.if-is_nan-2.false)))

pub bits_of-requires-2 : goal.bits_of-requires-2
bits_of-requires-2 c =
    record { in_order = le_of_lt c.if-q-p.false; finite = bits_at c.args.other c.abs-b.result c.abs-b.ensures ((subst T (sym c.well_formed.1.0.1) tt)) ((finite_at c.args.other c.abs-b.result c.abs-b.ensures ((subst T (sym c.well_formed.1.0.1) tt)) c.if-b-i.false (sym c.is_nan-2.ensures.value ∙ c.if-is_nan-2.false))) }

pub returns-clause-computed : goal.returns-clause-computed
returns-clause-computed c =
    at_last_2 c.args.side c.args.other c.bits_of-2.result _ _ c.bits_of-2.ensures (grains_back c.args.side c.abs-a.result c.abs-a.ensures ((subst T (sym c.well_formed.0.1) tt))) (grains_back c.args.other c.abs-b.result c.abs-b.ensures ((subst T (sym c.well_formed.1.0.1) tt))) ((finite_at c.args.side c.abs-a.result c.abs-a.ensures ((subst T (sym c.well_formed.0.1) tt)) c.if-a-i.false (sym c.is_nan.ensures.value ∙ c.if-is_nan.false))) ((finite_at c.args.other c.abs-b.result c.abs-b.ensures ((subst T (sym c.well_formed.1.0.1) tt)) c.if-b-i.false (sym c.is_nan-2.ensures.value ∙ c.if-is_nan-2.false)))

pub returns-then-q-p-clause-exact : goal.returns-then-q-p-clause-exact
returns-then-q-p-clause-exact c = is_hypotenuse _ _ _ (returns-then-q-p-clause-computed c)

pub returns-clause-exact : goal.returns-clause-exact
returns-clause-exact c = is_hypotenuse _ _ _ (returns-clause-computed c)
