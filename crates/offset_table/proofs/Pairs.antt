-- A list that is the table's pairs. Assumes nothing.
use mathlib.Core.Path.{◌≡◌, ap, ◌∙◌}
use mathlib.Core.List.{List}
use Prim.Native.Nat.{ℕ, ◌≤◌}
use Rattle.offsets.specs.declared.offset.Offset.{Offset}
use Rattle.offsets.specs.Offset.{offsets}
use Rattle.offset_table.specs.Table.{table_pairs, table_pair, pair_at, skipped}
use Rattle.offset_table.proofs.Rule.{table_offsets}

module _ (os : List Offset) (H : os ≡ table_pairs) where
  pub pair_held : (j : ℕ) → pair_at os j ≡ table_pair j
  unfolding pair_at table_pair
  pair_held j = ap (λ (l : List Offset). pair_at l j) H

  -- those within a search are its offsets
  pub within_held : (search : ℕ) → search ≤ 20 → skipped search os ≡ offsets search
  within_held search S = ap (skipped search) H ∙ table_offsets search S
