-- Spacing is the median of each occupied seed's least positive distance to another (1 if none). Unit = fill × spacing /
-- typical (docs/RULES.md, 'Spacing and unit'). Definitions only.
use Rattle.std.specs.Prelude.{ℕ, List, [], ◌∷◌, length, Float, unwrap_or}
use Rattle.numbers.specs.Small.{max_of}
use Rattle.numbers.specs.Ops.{f1, ◌⊗◌, ◌⊘◌}
use Rattle.numbers.specs.Table.{table}
use Rattle.numbers.specs.Median.{median_of}
use Rattle.plane.specs.declared.geometry.Point.{Point}
use Rattle.plane.specs.Near.{nearest}
use Rattle.network.specs.Words.{occupied}
use Rattle.network.specs.Seed.{place_at}
use Rattle.stations.specs.Size.{Size, sides}

-- the seeds of these stations, two numbers each
unfoldable pub coordinates : List Point → List ℕ → List Float
coordinates seeds [] = []
coordinates seeds (s ∷ ss) = (place_at seeds s).x ∷ (place_at seeds s).y ∷ coordinates seeds ss

-- the median of the least positive distance of each of these n points to another of them
unfoldable pub spacing_of : List Float → ℕ → Float
spacing_of ps n = unwrap_or (median_of (table (nearest ps n) n)) f1

-- that of the occupied stations' seeds
unfoldable pub spacing : List Point → List ℕ → Float
unfolding coordinates spacing_of
spacing seeds counts = let ss = occupied counts in spacing_of (coordinates seeds ss) (length ss)

-- typical is the median larger side, at least 1 (1 without stations)
unfoldable pub typical : List Size → List ℕ → Float
typical zs counts = max_of (unwrap_or (median_of (sides zs (occupied counts))) f1) f1

-- of a fill, the spacing and the typical side
unfoldable pub unit_for : Float → Float → Float → Float
unit_for fill spacing side = fill ⊗ spacing ⊘ side
