-- Refusals 1 to 7 by their tests.
-- Assumes nothing.
use mathlib.Core.Path.{◌≡◌, sym}
use Rattle.network.specs.declared.options.Options.{Options}
use Rattle.std.specs.Prelude.{Some}
use Rattle.network.specs.declared.refusals.Refusal.{Refusal}
use Rattle.network.specs.Refusal.{shape_refusal}
use Rattle.drawing.specs.declared.lengths.ListLengths.{ListLengths}
use Rattle.drawing.specs.Network.{Network}
use Rattle.drawing.specs.Answer.{early}

module _ (O : Options) (N : Network) (R : ListLengths) where
  pub by_shape : (r : Refusal) → Some r ≡ shape_refusal N.station N.kv N.from N.to → Some r ≡ early O N R
  unfolding early
  by_shape r e = rw (sym e)
