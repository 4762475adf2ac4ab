-- Bars and positions (docs/RULES.md, 'Bars and row ends'). With f = unit × scale, a bar's x is
-- left + (padding + bar gap × column) × f and a row's y is top + (padding + row + 0.5) × f. Definitions only.
use Rattle.std.specs.Prelude.{ℕ, zero, suc, min, max, List, eqb, length, get_or, Float}
use Rattle.std.specs.Float.Ieee.{lt}
use Rattle.numbers.specs.Ops.{num, f0, f½, f2, ◌⊕◌, ◌⊖◌, ◌⊗◌, ◌⊘◌}
use Rattle.numbers.specs.Order.{pick}
use Rattle.numbers.specs.Table.{table}
use Rattle.plane.specs.declared.geometry.Point.{Point}
use Rattle.plane.specs.declared.geometry.Box.{Box}
use Rattle.plane.specs.Plane.{point, box_in}
use Rattle.network.specs.declared.words.Kind.{Kind}
use Rattle.network.specs.declared.words.Kind.TheVariants.{Undrawn, Open, Internal, Line}
use Rattle.network.specs.Words.{kind_at, station_of}
use Rattle.network.specs.declared.options.BlockOptions.{BlockOptions}
use Rattle.stations.specs.declared.bars.Bar.{Bar}

unfoldable pub bar_x : BlockOptions → Box → Float → ℕ → Float
bar_x G box f column = box.left ⊕ (G.pad ⊕ G.bar_gap ⊗ num column) ⊗ f

unfoldable pub row_y : BlockOptions → Box → Float → ℕ → Float
row_y G box f row = box.top ⊕ (G.pad ⊕ num row ⊕ f½) ⊗ f

-- the rows of a bus: none, or the first and the last
pub data Span : Type 0 where
  bare : Span
  rows : ℕ → ℕ → Span

-- a bus's rows as the list of buses holds them: its first row, and one more than its last, 0 where it has none
unfoldable pub span_of : ℕ → ℕ → Span
span_of first zero = bare
span_of first (suc last) = rows first last

-- the rows of a bus with the row r
unfoldable pub include : ℕ → Span → Span
include r bare = rows r r
include r (rows a b) = rows (min a r) (max b r)

-- with the row of a branch between two buses, if bus i is one of them
unfoldable pub include_end : ℕ → ℕ → ℕ → ℕ → ℕ → Span → Span
include_end i a b ra rb s = pick (eqb a i) (include ra s) (pick (eqb b i) (include rb s) s)

unfoldable pub include_branch : ℕ → ℕ → ℕ → Kind → Span → Span
include_branch i ra rb Undrawn s = s
include_branch i ra rb (Open a b) s = s
include_branch i ra rb (Internal a b) s = include_end i a b ra rb s
include_branch i ra rb (Line a b) s = include_end i a b ra rb s

-- the rows of bus i on the first e branches
unfoldable pub span_to : List Kind → List ℕ → List ℕ → ℕ → ℕ → Span
span_to ks fromRows toRows i zero = bare
span_to ks fromRows toRows i (suc e) =
    include_branch i (get_or fromRows e 0) (get_or toRows e 0) (kind_at ks e) (span_to ks fromRows toRows i e)

-- from its first row's y − 0.5 × f to its last row's y + 0.5 × f, without rows from top + padding × f to
-- top + (padding + shortest bar) × f
unfoldable pub bar_ends : BlockOptions → Box → Float → Float → Span → Bar
bar_ends G box f x bare = record { x = x; y0 = box.top ⊕ G.pad ⊗ f; y1 = box.top ⊕ (G.pad ⊕ G.min_bar) ⊗ f }
bar_ends G box f x (rows a b) = record { x = x; y0 = row_y G box f a ⊖ f½ ⊗ f; y1 = row_y G box f b ⊕ f½ ⊗ f }

-- If shorter than shortest bar × f it gets that length about its middle.
abbrev pub bar_middle : Bar → Float
bar_middle b = (b.y0 ⊕ b.y1) ⊘ f2

unfoldable pub lengthened : BlockOptions → Float → Bar → Bar
lengthened G f b =
    let l : Bar = record { x = b.x; y0 = bar_middle b ⊖ G.min_bar ⊗ f ⊘ f2; y1 = bar_middle b ⊕ G.min_bar ⊗ f ⊘ f2 } in
    pick (lt (b.y1 ⊖ b.y0) (G.min_bar ⊗ f)) l b

unfoldable pub bar_for : BlockOptions → Box → Float → ℕ → Span → Bar
bar_for G box f column s = lengthened G f (bar_ends G box f (bar_x G box f column) s)

-- the rows of all buses
unfoldable pub spans : List ℕ → List Kind → List ℕ → List ℕ → List Span
spans sub ks fromRows toRows = table (λ i. span_to ks fromRows toRows i (length ks)) (length sub)

-- the block of station s, where `fs` are the stations' blocks, unit × scale each
abbrev pub block_at : List Float → ℕ → Float
block_at fs s = get_or fs s f0

-- the bars of all buses, by their columns and rows, and the stations' blocks and boxes
unfoldable pub bars : BlockOptions → List ℕ → List ℕ → List Span → List Float → List Box → List Bar
bars G sub columns spans fs bs =
    table
    (λ i. bar_for G (box_in bs (station_of sub i)) (block_at fs (station_of sub i)) (get_or columns i 0)
    (get_or spans i bare))
    (length sub)

abbrev pub bar_at : List Bar → ℕ → Bar
bar_at bs i = get_or bs i (record { x = f0; y0 = f0; y1 = f0 })

-- `positions` holds its x and middle.
unfoldable pub position : Bar → Point
position b = point b.x (bar_middle b)

-- A row end has its bar's x and its row's y.
unfoldable pub row_end : BlockOptions → List ℕ → List Float → List Box → List Bar → ℕ → ℕ → Point
row_end G sub fs bs bars i row =
    point (bar_at bars i).x (row_y G (box_in bs (station_of sub i)) (block_at fs (station_of sub i)) row)
