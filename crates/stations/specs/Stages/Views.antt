-- How the lent list of blocks holds stations: width, height and scale side by side for each. Definitions only.
use Rattle.std.specs.Prelude.{ℕ, ◌+◌, ◌*◌, List, get_or, Float}
use Rattle.std.specs.Float.{nan}
use Rattle.numbers.specs.Table.{table, strided}
use Rattle.stations.specs.Size.{Size}

-- the size of station s
abbrev pub size_in : List Float → ℕ → Size
size_in l s = record { w = get_or l (3 * s) nan; h = get_or l (3 * s + 1) nan }

-- the sizes and the scales of the first k stations
unfoldable pub sizes_in : ℕ → List Float → List Size
sizes_in k l = table (size_in l) k

abbrev pub scales_in : ℕ → List Float → List Float
scales_in k l = strided 3 2 nan k l

-- how many rows each of the first k stations has, beside its bus count in a list of two numbers each
abbrev pub row_counts_in : ℕ → List ℕ → List ℕ
row_counts_in k l = strided 2 1 0 k l
