-- What the steps of `sizes_and_scales` leave, together. Assumes nothing.
use mathlib.Core.Path.{◌≡◌, ap, ◌∙◌}
use mathlib.Core.List.{List}
use Prim.Native.Nat.{ℕ, ◌*◌}
use lib.ListN.{length, take}
use lib.Ieee.{Float}
use Rattle.network.specs.declared.options.BlockOptions.{BlockOptions}
use Rattle.network.specs.declared.options.Options.{Options}
use Rattle.network.specs.Words.{occupied}
use Rattle.network.specs.Views.{counts_in, points_in}
use Rattle.stations.specs.Size.{Size, sizes_for}
use Rattle.stations.specs.Unit.{coordinates, spacing_of, spacing, typical}
use Rattle.stations.specs.Scale.{scales_of, scales}
use Rattle.stations.specs.Stages.Views.{sizes_in, scales_in, row_counts_in}
use Rattle.stations.proofs.units.Near.{spacing_is}
use Rattle.stations.proofs.scales.NearScales.{scales_is}

module _ (k n : ℕ) (st : List ℕ) (places path : List Float) where
  abbrev cs : List ℕ
  cs = counts_in k st

  abbrev zs : BlockOptions → List Size
  zs G = sizes_for G cs (row_counts_in k st)

  module _ (e : n ≡ length (occupied cs)) (t : take (2 * n) path ≡ coordinates (points_in k places) (occupied cs)) (sp : Float) (g : sp ≡ spacing_of path n) where
    pub sp_is : sp ≡ spacing (points_in k places) cs
    sp_is = g ∙ spacing_is path n (points_in k places) cs e t

    pub side_left : (O : Options) (blocks : List Float) (side : Float) → sizes_in k blocks ≡ zs O.block_options → side ≡ typical (sizes_in k blocks) cs → side ≡ typical (zs O.block_options) cs
    side_left O blocks side z s = s ∙ ap (λ (x : List Size). typical x cs) z

    pub scales_left : (O : Options) (blocks : List Float) → scales_in k blocks ≡ scales_of O path n sp cs
        → scales_in k blocks ≡ scales O (points_in k places) cs (spacing (points_in k places) cs)
    scales_left O blocks q = q ∙ scales_is path n (points_in k places) cs e t O sp ∙ ap (scales O (points_in k places) cs) sp_is
