-- Width bar gap × (buses − 1) + 2 × padding; height max(rows, shortest bar) + 2 × padding, in blocks (docs/RULES.md,
-- 'Sizes'). Definitions only.
use Rattle.std.specs.Prelude.{ℕ, ◌-◌, List, map, length, get_or, Float}
use Rattle.numbers.specs.Small.{max_of}
use Rattle.numbers.specs.Ops.{num, f0, f2, ◌⊕◌, ◌⊗◌}
use Rattle.numbers.specs.Table.{table}
use Rattle.network.specs.declared.words.Kind.{Kind}
use Rattle.network.specs.declared.options.BlockOptions.{BlockOptions}
use Rattle.stations.specs.Row.{rows_in}

-- a width and a height
pub record Size : Type 0 where
  pub w : Float
  pub h : Float

-- the width of so many buses, the height of so many rows
unfoldable pub width_for : BlockOptions → ℕ → Float
width_for G buses = G.bar_gap ⊗ num (buses - 1) ⊕ f2 ⊗ G.pad

unfoldable pub height_for : BlockOptions → ℕ → Float
unfolding max_of
height_for G rows = max_of (num rows) G.min_bar ⊕ f2 ⊗ G.pad

-- of a station with so many buses and so many rows
unfoldable pub size_for : BlockOptions → ℕ → ℕ → Size
unfolding width_for height_for
size_for G buses rows = record { w = width_for G buses; h = height_for G rows }

-- of each station, by the number of its buses and of its rows
unfoldable pub sizes_for : BlockOptions → List ℕ → List ℕ → List Size
unfolding size_for
sizes_for G counts rows = table (λ s. size_for G (get_or counts s 0) (get_or rows s 0)) (length counts)

-- that of the network
unfoldable pub sizes : BlockOptions → List ℕ → List Kind → List ℕ → List Size
sizes G sub ks counts = table (λ s. size_for G (get_or counts s 0) (rows_in sub ks s)) (length counts)

abbrev pub size_at : List Size → ℕ → Size
size_at zs s = get_or zs s (record { w = f0; h = f0 })

abbrev pub larger : Size → Float
larger z = max_of z.w z.h

-- the larger side of each of these stations
unfoldable pub sides : List Size → List ℕ → List Float
unfolding max_of
sides zs ss = map (λ s. larger (size_at zs s)) ss
