-- Answers for `default` of `network::options::Options`.
use mathlib.Core.Path.{refl}
use lib.Ieee.{of_bits, div}
use Rattle.network.specs.Options.{defaults}
use Rattle.network.proofs.options.OptionsDefault.default.Goals as goal

pub returns : goal.returns
unfolding defaults of_bits div
returns c = (refl, refl)
