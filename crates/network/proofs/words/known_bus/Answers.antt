-- Answers for `network::words::known_bus`.
use Rattle.std.proofs.Common.{◌≡◌, ℕ, Bool, true, false, ℤ, pos, negsuc, ltb, sym, refl, ap, ◌∙◌, w64, FitsSigned, arith}
use lib.IntN.{nat_abs}
use mir.Facts.{to_z-of_z}
use Rattle.std.specs.Bool.{then_some}
use Rattle.std.specs.Int.{FitsUnsignedBits}
use Rattle.std.specs.Prelude.{Some, None, Result, Ok, Err}
use Rattle.std.specs.Result.{OkIff, result_ok}
use Rattle.std.proofs.lemmas.Option.{same_Some, none-some}
use Rattle.numbers.specs.Order.{pick}
use Rattle.network.specs.Words.{known}
use Rattle.network.proofs.words.known_bus.Goals as goal

-- a number that `try_from` converts is not below 0
converted : {E : Type 0} (n i : ℕ) (r : Result ℕ E) (z : ℤ) → result_ok r ≡ Some i → OkIff r (FitsUnsignedBits 64 z) (nat_abs z) → then_some (ltb i n) i ≡ known n z
unfolding known
converted n i (Ok x) (pos j) e k = ap (λ (y : ℕ). then_some (ltb y n) y) (sym (same_Some x i e) ∙ k.1) ∙ by-test (ltb j n)
  where
    by-test : (b : Bool) → then_some b j ≡ pick b (Some j) None
    by-test true = refl
    by-test false = refl
converted n i (Ok x) (negsuc j) e k = absurd k.0
converted n i (Err y) z e k = absurd (none-some i e)

-- one that it refuses is below 0
refused : {E : Type 0} (n : ℕ) (r : Result ℕ E) (z : ℤ) → result_ok r ≡ None → OkIff r (FitsUnsignedBits 64 z) (nat_abs z) → FitsSigned w64 z → None ≡ known n z
unfolding known
refused n (Ok x) z e k f = absurd (none-some x (sym e))
refused n (Err y) (pos j) e k f = absurd (k (omega (arith, f.sfits)))
refused n (Err y) (negsuc j) e k f = refl

pub returns-in_err-i : goal.returns-in_err-i
returns-in_err-i c = let q = to_z-of_z c.ranges.number in c.from_residual.ensures ∙ refused c.args.buses c.try_from.result c.args.number (sym c.ok.ensures.value ∙ c.in_err-i.was) (rw q at c.try_from.ensures) c.ranges.number

pub returns : goal.returns
returns c = let q = to_z-of_z c.ranges.number in c.then_some.ensures ∙ converted c.args.buses c.in_ok-i.i c.try_from.result c.args.number (sym c.ok.ensures.value ∙ c.in_ok-i.was) (rw q at c.try_from.ensures)
