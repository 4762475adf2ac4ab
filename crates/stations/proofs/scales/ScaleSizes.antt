-- Scales are at most 1, and their sign is clear. Assumes nothing.
use mathlib.Core.Path.{◌≡◌, sym, subst}
use Prim.Native.Nat.{ℕ, ◌<◌}
use mathlib.Core.Bool.{Bool, true, false}
use mathlib.Core.List.{List}
use lib.Dec.{T, leb}
use lib.ListN.{length, get_or}
use lib.Ieee.{Float, nan, inf, fin, le, binary64, of_bits, of_fields, odd}
use lib.Ieee.Positive.{positive, above, above_of_le}
use Rattle.numbers.specs.Ops.{f1, ◌⊗◌}
use Rattle.numbers.specs.Small.{is_finite}
use Rattle.numbers.specs.Size.{AtMost, most_test}
use Rattle.numbers.proofs.float.Keys.{plus}
use Rattle.numbers.proofs.float.SizeLaws.{most_lit, between_most, f1_most}
use Rattle.numbers.specs.Order.{pick}
use Rattle.numbers.proofs.order.Tables.{get_d_table}
use Rattle.plane.specs.declared.geometry.Point.{Point}
use Rattle.plane.specs.Near.{neighbours}
use Rattle.network.specs.declared.options.Options.{Options}
use Rattle.network.specs.Options.{between}
use Rattle.network.specs.Words.{is_occupied, occupied}
use Rattle.stations.specs.Unit.{coordinates}
use Rattle.stations.specs.Scale.{tier, occupied_below, scale_at, scales_of, scales}
use Rattle.stations.proofs.sizes.SideSizes.{table_at, both}

pub record Scaled (x : Float) : Type 0 where
  pub most : AtMost 1074 x
  pub clear : T (plus x)

-- 1/64
least_most : AtMost 1074 (of_bits binary64 0x3F90_0000_0000_0000)
unfolding most_test is_finite of_bits of_fields odd
least_most = most_lit 1074 (of_bits binary64 0x3F90_0000_0000_0000) tt

least_above : T (positive (of_bits binary64 0x3F90_0000_0000_0000))
unfolding of_bits of_fields odd
least_above = tt

above_plus : (x : Float) → T (above x) → T (is_finite x) → T (plus x)
unfolding is_finite plus
above_plus nan h f = absurd f
above_plus (inf s) h f = absurd f
above_plus (fin true m e) h f = absurd h
above_plus (fin false m e) h f = tt

pub scale_in : (x : Float) → between (of_bits binary64 0x3F90_0000_0000_0000) x f1 ≡ true → Scaled x
unfolding between
scale_in x h =
    let k = both (le (of_bits binary64 0x3F90_0000_0000_0000) x) (le x f1) h in
    let m : AtMost 1074 x = between_most 1074 x (of_bits binary64 0x3F90_0000_0000_0000) f1 k.0 k.1 least_most f1_most in
    record { most = m; clear = above_plus x (above_of_le (of_bits binary64 0x3F90_0000_0000_0000) x least_above k.0) m.finite }

one_scaled : Scaled f1
unfolding plus of_bits of_fields odd
one_scaled = record { most = f1_most; clear = tt }

module _ (O : Options) (first : Scaled O.tier_scale_1) (second : Scaled O.tier_scale_2) where
  pick_scaled : (b : Bool) (x y : Float) → Scaled x → Scaled y → Scaled (pick b x y)
  pick_scaled true x y h k = h
  pick_scaled false x y h k = k

  tier_scaled : (c : ℕ) → Scaled (tier O c)
  unfolding tier
  tier_scaled c =
      pick_scaled (leb O.tier_count_2 c) O.tier_scale_2 (pick (leb O.tier_count_1 c) O.tier_scale_1 f1) second
      (pick_scaled (leb O.tier_count_1 c) O.tier_scale_1 f1 first one_scaled)

  scale_at_lem : (ps : List Float) (n : ℕ) (tier_distance : Float) (counts : List ℕ) (s : ℕ) → Scaled (scale_at O ps n tier_distance counts s)
  unfolding scale_at
  scale_at_lem ps n tier_distance counts s =
      pick_scaled (is_occupied counts s) (tier O (neighbours ps n tier_distance (occupied_below counts s))) f1 (tier_scaled (neighbours ps n tier_distance (occupied_below counts s))) one_scaled

  module _ (seeds : List Point) (counts : List ℕ) (median_spacing : Float) where
    tier_distance : Float
    tier_distance = O.tier_radius ⊗ median_spacing

    of : ℕ → Float
    of s = scale_at O (coordinates seeds (occupied counts)) (length (occupied counts)) tier_distance counts s

    pub scales_all : (s : ℕ) → Scaled (get_or (scales O seeds counts median_spacing) s f1)
    unfolding scales scales_of of tier_distance
    scales_all s = table_at Scaled of (length counts) s f1 (λ i l. scale_at_lem (coordinates seeds (occupied counts)) (length (occupied counts)) tier_distance counts i) one_scaled

    pub scales_at : (s : ℕ) (d : Float) → s < length counts → Scaled (get_or (scales O seeds counts median_spacing) s d)
    unfolding scales scales_of of tier_distance
    scales_at s d l =
        subst Scaled (sym (get_d_table of (length counts) s d l)) (scale_at_lem (coordinates seeds (occupied counts)) (length (occupied counts)) tier_distance counts s)
