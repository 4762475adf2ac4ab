-- The options of a drawing: their ranges, and the default ones (docs/RULES.md, 'Options'). Definitions only.
use Rattle.std.specs.Prelude.{ℕ, Bool, false, ◌&&◌, leb, ℤ, pos, negsuc, Float}
use Rattle.std.specs.Float.{binary64}
use Rattle.std.specs.Float.Ieee.{lt, le, of_bits}
use Rattle.numbers.specs.Ops.{f0, f1, f2, f3}
use Rattle.network.specs.declared.options.BlockOptions.{BlockOptions}
use Rattle.network.specs.declared.options.Options.{Options}

-- The default bar gap, padding, shortest bar and buffer, in blocks: 2, 1, 2 and 1.
abbrev pub default_block_options : BlockOptions
default_block_options = record { bar_gap = f2; pad = f1; min_bar = f2; buffer = f1 }

-- The default options: fill 0.45, tier radius 3, tier counts 12 and 30, tier scales 2/3 and 4/9, search 10,
-- 10 iterations.
unfoldable pub defaults : Options
defaults = record {
  fill = of_bits binary64 0x3FDC_CCCC_CCCC_CCCD;
  tier_radius = f3;
  tier_count_1 = 12;
  tier_count_2 = 30;
  tier_scale_1 = of_bits binary64 0x3FE5_5555_5555_5555;
  tier_scale_2 = of_bits binary64 0x3FDC_71C7_1C71_C71C;
  search = pos 10;
  route_iterations = 10;
  block_options = default_block_options;
}

-- x is from lo to hi
unfoldable pub between : Float → Float → Float → Bool
between lo x hi = le lo x && le x hi

-- A search is from 0 to 20.
unfoldable pub search_fits : ℤ → Bool
search_fits (pos s) = leb s 20
search_fits (negsuc s) = false

-- Bar gap, padding, shortest bar and buffer are each from 0.5 to 8.
unfoldable pub block_option_fits : Float → Bool
block_option_fits x = between (of_bits binary64 0x3FE0_0000_0000_0000) x (of_bits binary64 0x4020_0000_0000_0000)

unfoldable pub block_options_fit : BlockOptions → Bool
block_options_fit G =
    block_option_fits G.bar_gap && (block_option_fits G.pad && (block_option_fits G.min_bar && block_option_fits G.buffer))

-- Fill above 0 and at most 16; tier radius 0 to 1,000; tier counts any; tier scales 1/64 to 1; search 0 to 20; the
-- block options as above; route iterations 0 to 100.
unfoldable pub in_range : Options → Bool
in_range O =
    lt f0 O.fill && (le O.fill (of_bits binary64 0x4030_0000_0000_0000)
    && (between f0 O.tier_radius (of_bits binary64 0x408F_4000_0000_0000)
    && (between (of_bits binary64 0x3F90_0000_0000_0000) O.tier_scale_1 f1
    && (between (of_bits binary64 0x3F90_0000_0000_0000) O.tier_scale_2 f1
    && (search_fits O.search && (block_options_fit O.block_options && leb O.route_iterations 100))))))

-- the search as a number of offsets, 0 where it is below 0
unfoldable pub search_of : ℤ → ℕ
search_of (pos s) = s
search_of (negsuc s) = 0
