-- The clearance. Definitions only.
use Rattle.std.specs.Prelude.{Float}
use Rattle.std.specs.Float.{binary64}
use Rattle.std.specs.Float.Ieee.{of_bits}
use Rattle.numbers.specs.Ops.{◌⊗◌}

-- the clearance, 0.8 × unit
unfoldable pub clearance_of : Float → Float
clearance_of unit = of_bits binary64 0x3FE9_9999_9999_999A ⊗ unit
