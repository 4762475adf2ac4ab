-- What the stages of a drawing leave in the lent work lists. Definitions only.
use Rattle.std.specs.Prelude.{ℕ, ◌≡◌, List, ℤ, length, Float}
use Rattle.plane.specs.declared.geometry.Point.{Point}
use Rattle.network.specs.declared.options.Options.{Options}
use Rattle.network.specs.declared.lists.Network.{Network}
use Rattle.network.specs.Words.{bus_counts, kinds}
use Rattle.network.specs.Seed as Seed
use Rattle.network.specs.Views.{counts_in, columns_in, from_rows_in, to_rows_in, points_in, boxes_in}
use Rattle.stations.specs.Column as Column
use Rattle.stations.specs.Row as Row
use Rattle.stations.specs.declared.measures.Measures.{Measures}
use Rattle.stations.specs.declared.measures.Typical.{Typical}
use Rattle.stations.specs.Size as Size
use Rattle.stations.specs.Unit as Unit
use Rattle.stations.specs.Scale as Scale
use Rattle.stations.specs.Stages.Views.{sizes_in, scales_in}
use Rattle.offsets.specs.Offset.{offsets}
use Rattle.placement.specs.Turns.{placement_order}
use Rattle.placement.specs.Place as Place
use Rattle.placement.specs.Stages.Views.{half_sides_listed}

-- What is the same at every fill: the stations' bus counts, the buses' columns, the branches' rows, the sizes and
-- scales, and what the unit follows from.
pub record Interiors (o : Options) (sub kv : List ℕ) (from to : List ℤ) (service : List ℕ) (xy : List Float) (k : ℕ)
    (typical : Typical) (stations buses ends : List ℕ) (blocks : List Float) : Type 0 where
  pub counts : counts_in k stations ≡ bus_counts sub
  pub columns : columns_in (length sub) buses ≡ Column.columns sub kv
  pub from_rows : from_rows_in (length from) ends ≡ Row.from_rows sub (Seed.seeds sub xy) (kinds sub from to service)
  pub to_rows : to_rows_in (length from) ends ≡ Row.to_rows sub (Seed.seeds sub xy) (kinds sub from to service)
  pub sizes : sizes_in k blocks ≡ Size.sizes o.block_options sub (kinds sub from to service) (bus_counts sub)
  pub scales :
      scales_in k blocks
      ≡ Scale.scales o (Seed.seeds sub xy) (bus_counts sub) (Unit.spacing (Seed.seeds sub xy) (bus_counts sub))
  pub spacing : typical.spacing ≡ Unit.spacing (Seed.seeds sub xy) (bus_counts sub)
  pub side :
      typical.side
      ≡ Unit.typical (Size.sizes o.block_options sub (kinds sub from to service) (bus_counts sub)) (bus_counts sub)

-- the same of a lent network
abbrev pub InteriorsOf : Options → Network → ℕ → Typical → List ℕ → List ℕ → List ℕ → List Float → Type 0
InteriorsOf o net = Interiors o net.sub.now net.kv.now net.from.now net.to.now net.service.now net.xy.now

-- The stations' places and boxes, by their half sides and seeds.
pub record Settled (sub kv : List ℕ) (k : ℕ) (measures : Measures) (search : ℕ) (blocks : List Float)
    (seeds : List Point) (stations : List ℕ) (places frames : List Float) : Type 0 where
  pub counts : counts_in k stations ≡ bus_counts sub
  pub placed :
      points_in k places
      ≡ Place.places (half_sides_listed measures k blocks) (offsets search) seeds
      (placement_order sub kv (bus_counts sub))
  pub boxes : boxes_in k frames ≡ Place.boxes (half_sides_listed measures k blocks) (bus_counts sub)
      (points_in k places)
