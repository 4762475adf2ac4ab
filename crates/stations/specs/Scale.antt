-- Scale: other occupied seeds at most tier radius × spacing away are counted (none if that product is 0); the second
-- tier is tested before the first (docs/RULES.md, 'Scales'). Definitions only.
use Rattle.std.specs.Prelude.{ℕ, List, leb, length, Float}
use Rattle.numbers.specs.Ops.{f1, ◌⊗◌}
use Rattle.numbers.specs.Order.{pick}
use Rattle.numbers.specs.Table.{table, how_many}
use Rattle.plane.specs.declared.geometry.Point.{Point}
use Rattle.plane.specs.Near.{neighbours}
use Rattle.network.specs.declared.options.Options.{Options}
use Rattle.network.specs.Words.{is_occupied, occupied}
use Rattle.stations.specs.Unit.{coordinates}

-- the scale of a station with so many neighbours
unfoldable pub tier : Options → ℕ → Float
tier O c = pick (leb O.tier_count_2 c) O.tier_scale_2 (pick (leb O.tier_count_1 c) O.tier_scale_1 f1)

-- how many occupied stations have a lower number than s
unfoldable pub occupied_below : List ℕ → ℕ → ℕ
occupied_below counts s = how_many (is_occupied counts) s

-- the scale of station s by the n points of occupied stations; that of a station that isn't occupied is 1
unfoldable pub scale_at : Options → List Float → ℕ → Float → List ℕ → ℕ → Float
unfolding tier occupied_below
scale_at O ps n tier_distance counts s =
    let c = tier O (neighbours ps n tier_distance (occupied_below counts s)) in pick (is_occupied counts s) c f1

unfoldable pub scales_of : Options → List Float → ℕ → Float → List ℕ → List Float
unfolding scale_at
scales_of O ps n spacing counts = table (scale_at O ps n (O.tier_radius ⊗ spacing) counts) (length counts)

-- the scales by the spacing
unfoldable pub scales : Options → List Point → List ℕ → Float → List Float
unfolding coordinates scales_of
scales O seeds counts spacing =
    let ss = occupied counts in scales_of O (coordinates seeds ss) (length ss) spacing counts
