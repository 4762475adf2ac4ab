-- What one fill gives. Definitions only.
use Rattle.std.specs.Prelude.{ℕ, ◌≡◌, Bool, true, false, ◌&&◌, Option, Some, None, is_none}
use Rattle.network.specs.declared.options.Options.{Options}
use Rattle.drawing.specs.declared.answer.Plot.{Plot}
use Rattle.drawing.specs.declared.lengths.ListLengths.{ListLengths}
use Rattle.drawing.specs.Network.{Network, Lists}
use Rattle.drawing.specs.Drawing.{drawing, all_free}
use Rattle.drawing.specs.Answer.{late, plot_of, lists_of, lists_after}
use Rattle.fill.specs.declared.answer.Largest.{Largest}
use Rattle.fill.specs.Fill.{at_fill, greatest}

-- Of an input that has passed: nothing refuses its drawing, and every box finds a free place.
unfoldable pub passes : Options → Network → ListLengths → Bool
passes o N R = is_none (late (drawing o N) R) && all_free o N

-- The drawing is written where it passes, and no list where it doesn't.
abbrev pub AfterFill : Options → Network → ListLengths → Lists → Option Plot → Lists → Type 0
AfterFill o N R L None L' = (passes o N R ≡ false) × (L' ≡ L)
AfterFill o N R L (Some p) L' =
    (passes o N R ≡ true) × (p ≡ plot_of (drawing o N)) × (L' ≡ lists_after None (lists_of (drawing o N)) L)

-- the largest fill that passes, of 1/64 to so many sixty-fourths
abbrev pub largest_pass : Options → Network → ListLengths → ℕ → Option ℕ
largest_pass O N R = greatest (λ k. passes (at_fill O k) N R)

-- The answer after these fills, and the result lists.
abbrev pub AfterFills : Options → Network → ListLengths → ℕ → Lists → Option Largest → Lists → Type 0
AfterFills O N R most L None L' = (largest_pass O N R most ≡ None) × (L' ≡ L)
AfterFills O N R most L (Some a) L' =
    (largest_pass O N R most ≡ Some a.sixty_fourths)
    × (a.plot ≡ plot_of (drawing (at_fill O a.sixty_fourths) N))
    × (L' ≡ lists_after None (lists_of (drawing (at_fill O a.sixty_fourths) N)) L)
