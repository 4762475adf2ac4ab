-- Bars, positions, row ends and exits have bounds: boxes within 2 ^ 70, blocks within 2 ^ 46, columns below 2 ^ 12, rows below 2 ^ 13, block options of at most 8. Assumes nothing.
use Prim.Native.Nat.{ℕ, zero, suc, ◌+◌, ◌-◌, ◌^◌, ◌≤◌}
use native.Mathlib.Omega.{arith}
use mathlib.Core.Bool.{Bool, true, false}
use mathlib.Core.List.{List}
use lib.Dec.{eqb, lit≤}
use lib.ListN.{length, get_or}
use lib.Ieee.{Float, lt, le}
use Rattle.numbers.specs.Ops.{num, f0, f½, f2, ◌⊕◌, ◌⊖◌, ◌⊗◌, ◌⊘◌}
use Rattle.numbers.specs.Size.{AtMost}
use Rattle.numbers.proofs.float.SizeLaws.{most_weaken, add_under, sub_under, mul_most, div_most, whole_most, f0_most, f½_most, f2_least}
use Rattle.numbers.specs.Order.{pick}
use Rattle.plane.specs.declared.geometry.Point.{Point}
use Rattle.plane.specs.declared.geometry.Box.{Box}
use Rattle.plane.proofs.geometry.PointSizes.{Near, Edges}
use Rattle.network.specs.declared.words.Kind.{Kind}
use Rattle.network.specs.declared.words.Kind.TheVariants.{Undrawn, Open, Internal, Line}
use Rattle.network.specs.Words.{kind_at, station_of}
use Rattle.network.specs.Seed.{place_at}
use Rattle.network.specs.declared.options.BlockOptions.{BlockOptions}
use Rattle.stations.proofs.sizes.SideSizes.{table_at, Narrow}
use Rattle.plane.specs.Plane.{box_in}
use Rattle.stations.specs.declared.bars.Bar.{Bar}
use Rattle.stations.specs.Bar.{bar_x, row_y, Span, bare, rows, include, include_end, include_branch, span_to, bar_ends, bar_middle, lengthened, bar_for, spans, block_at, bars, bar_at, position, row_end}
use Rattle.stations.specs.Exit.{exit_x, exit}

-- ---- a bus's rows are at most n, where the rows of the branches' ends are
abbrev pub Spanned : ℕ → Span → Type 0
Spanned n bare = Unit {0}
Spanned n (rows a b) = (a ≤ n) × (b ≤ n)

include_spanned : (n r : ℕ) (s : Span) → r ≤ n → Spanned n s → Spanned n (include r s)
unfolding include
include_spanned n r bare h k = (h, h)
include_spanned n r (rows a b) h k = let x : a ≤ n = k.0 in let y : b ≤ n = k.1 in (omega arith, omega arith)

end_spanned : (n i a b ra rb : ℕ) (s : Span) → ra ≤ n → rb ≤ n → Spanned n s → Spanned n (include_end i a b ra rb s)
unfolding include_end
end_spanned n i a b ra rb s h k z = go (eqb a i) (eqb b i)
  where
    go : (x y : Bool) → Spanned n (pick x (include ra s) (pick y (include rb s) s))
    go true y = include_spanned n ra s h z
    go false true = include_spanned n rb s k z
    go false false = z

branch_spanned : (n i ra rb : ℕ) (c : Kind) (s : Span) → ra ≤ n → rb ≤ n → Spanned n s → Spanned n (include_branch i ra rb c s)
unfolding include_branch
branch_spanned n i ra rb Undrawn s h k z = z
branch_spanned n i ra rb (Open a b) s h k z = z
branch_spanned n i ra rb (Internal a b) s h k z = end_spanned n i a b ra rb s h k z
branch_spanned n i ra rb (Line a b) s h k z = end_spanned n i a b ra rb s h k z

module _ (n : ℕ) (ks : List Kind) (fromRows toRows : List ℕ) (F : (e : ℕ) → get_or fromRows e 0 ≤ n) (G : (e : ℕ) → get_or toRows e 0 ≤ n) where
  to_spanned : (i e : ℕ) → Spanned n (span_to ks fromRows toRows i e)
  unfolding span_to
  to_spanned i zero = tt
  to_spanned i (suc e) = branch_spanned n i (get_or fromRows e 0) (get_or toRows e 0) (kind_at ks e) (span_to ks fromRows toRows i e) (F e) (G e) (to_spanned i e)

  pub spans_spanned : (sub : List ℕ) (i : ℕ) → Spanned n (get_or (spans sub ks fromRows toRows) i bare)
  unfolding spans
  spans_spanned sub i = table_at (Spanned n) (λ j. span_to ks fromRows toRows j (length ks)) (length sub) i bare (λ j l. to_spanned j (length ks)) tt

-- ---- bars
pub record Barred (k : ℕ) (b : Bar) : Type 0 where
  pub x : AtMost k b.x
  pub y0 : AtMost k b.y0
  pub y1 : AtMost k b.y1

middle_most : (k : ℕ) (b : Bar) → k + 1 ≤ 2097 → Barred k b → AtMost k (bar_middle b)
middle_most k b K B = div_most (k + 1) (1074 + 1) k (b.y0 ⊕ b.y1) f2 (omega arith) (omega arith) (add_under k k (k + 1) b.y0 b.y1 (omega arith) (omega arith) K B.y0 B.y1) f2_least

pub position_near : (k : ℕ) (b : Bar) → k + 1 ≤ 2097 → Barred k b → Near k (position b)
unfolding position
position_near k b K B = record { x = B.x; y = middle_most k b K B }

module _ (G : BlockOptions) (N : Narrow G) where
  module _ (box : Box) (f : Float) (B : Edges (1074 + 70) box) (F : AtMost (1074 + 46) f) where
    -- so many blocks from an edge
    off : (a x : Float) → AtMost (1074 + 70) a → AtMost (1074 + 16) x → AtMost (1074 + 71) (a ⊕ x ⊗ f)
    off a x h k =
        add_under (1074 + 70) (1074 + 62) (1074 + 71) a (x ⊗ f) (lit≤ tt) (lit≤ tt) (lit≤ tt) h
        (mul_most (1074 + 16) (1074 + 46) (1074 + 62) x f (lit≤ tt) (lit≤ tt) k F)

    pub bar_x_most : (column : ℕ) → column ≤ 2 ^ 12 → AtMost (1074 + 71) (bar_x G box f column)
    unfolding bar_x
    bar_x_most column l =
        off box.left (G.pad ⊕ G.bar_gap ⊗ num column) B.0
        (add_under (1074 + 3) (1074 + 15) (1074 + 16) G.pad (G.bar_gap ⊗ num column) (lit≤ tt) (lit≤ tt) (lit≤ tt) N.pad
        (mul_most (1074 + 3) (1074 + 12) (1074 + 15) G.bar_gap (num column) (lit≤ tt) (lit≤ tt) N.bar_gap (whole_most column 12 (1074 + 12) l (lit≤ tt) (lit≤ tt))))

    pub row_y_most : (row : ℕ) → row ≤ 2 ^ 13 → AtMost (1074 + 71) (row_y G box f row)
    unfolding row_y
    row_y_most row l =
        off box.top (G.pad ⊕ num row ⊕ f½) B.1
        (add_under (1074 + 14) (1074 - 1) (1074 + 16) (G.pad ⊕ num row) f½ (lit≤ tt) (lit≤ tt) (lit≤ tt)
        (add_under (1074 + 3) (1074 + 13) (1074 + 14) G.pad (num row) (lit≤ tt) (lit≤ tt) (lit≤ tt) N.pad (whole_most row 13 (1074 + 13) l (lit≤ tt) (lit≤ tt))) f½_most)

    half_block : AtMost (1074 + 46) (f½ ⊗ f)
    half_block = mul_most (1074 - 1) (1074 + 46) (1074 + 46) f½ f (lit≤ tt) (lit≤ tt) f½_most F

    bar_ends_most : (x : Float) (s : Span) → AtMost (1074 + 71) x → Spanned (2 ^ 13) s → Barred (1074 + 72) (bar_ends G box f x s)
    unfolding bar_ends
    bar_ends_most x bare h s = record {
      x = most_weaken (1074 + 71) (1074 + 72) x (lit≤ tt) h;
      y0 = most_weaken (1074 + 71) (1074 + 72) (box.top ⊕ G.pad ⊗ f) (lit≤ tt) (off box.top G.pad B.1 (most_weaken (1074 + 3) (1074 + 16) G.pad (lit≤ tt) N.pad));
      y1 =
          most_weaken (1074 + 71) (1074 + 72) (box.top ⊕ (G.pad ⊕ G.min_bar) ⊗ f) (lit≤ tt)
          (off box.top (G.pad ⊕ G.min_bar) B.1 (add_under (1074 + 3) (1074 + 3) (1074 + 16) G.pad G.min_bar (lit≤ tt) (lit≤ tt) (lit≤ tt) N.pad N.min_bar));
    }
    bar_ends_most x (rows a b) h s = record {
      x = most_weaken (1074 + 71) (1074 + 72) x (lit≤ tt) h;
      y0 = sub_under (1074 + 71) (1074 + 46) (1074 + 72) (row_y G box f a) (f½ ⊗ f) (lit≤ tt) (lit≤ tt) (lit≤ tt) (row_y_most a s.0) half_block;
      y1 = add_under (1074 + 71) (1074 + 46) (1074 + 72) (row_y G box f b) (f½ ⊗ f) (lit≤ tt) (lit≤ tt) (lit≤ tt) (row_y_most b s.1) half_block;
    }

    shortest : AtMost (1074 + 48) (G.min_bar ⊗ f ⊘ f2)
    shortest = div_most (1074 + 49) (1074 + 1) (1074 + 48) (G.min_bar ⊗ f) f2 (lit≤ tt) (lit≤ tt) (mul_most (1074 + 3) (1074 + 46) (1074 + 49) G.min_bar f (lit≤ tt) (lit≤ tt) N.min_bar F) f2_least

    lengthened_most : (b : Bar) → Barred (1074 + 72) b → Barred (1074 + 73) (lengthened G f b)
    unfolding lengthened
    lengthened_most b h = go (lt (b.y1 ⊖ b.y0) (G.min_bar ⊗ f))
      where
        mid : AtMost (1074 + 72) (bar_middle b)
        mid = middle_most (1074 + 72) b (lit≤ tt) h

        wide : (x : Float) → AtMost (1074 + 72) x → AtMost (1074 + 73) x
        wide x k = most_weaken (1074 + 72) (1074 + 73) x (lit≤ tt) k

        longer : Bar
        longer = record { x = b.x; y0 = bar_middle b ⊖ G.min_bar ⊗ f ⊘ f2; y1 = bar_middle b ⊕ G.min_bar ⊗ f ⊘ f2 }

        go : (t : Bool) → Barred (1074 + 73) (pick t longer b)
        go true = record {
          x = wide b.x h.x;
          y0 = sub_under (1074 + 72) (1074 + 48) (1074 + 73) (bar_middle b) (G.min_bar ⊗ f ⊘ f2) (lit≤ tt) (lit≤ tt) (lit≤ tt) mid shortest;
          y1 = add_under (1074 + 72) (1074 + 48) (1074 + 73) (bar_middle b) (G.min_bar ⊗ f ⊘ f2) (lit≤ tt) (lit≤ tt) (lit≤ tt) mid shortest;
        }
        go false = record { x = wide b.x h.x; y0 = wide b.y0 h.y0; y1 = wide b.y1 h.y1 }

    pub bar_most : (column : ℕ) (s : Span) → column ≤ 2 ^ 12 → Spanned (2 ^ 13) s → Barred (1074 + 73) (bar_for G box f column s)
    unfolding bar_for
    bar_most column s l h = lengthened_most (bar_ends G box f (bar_x G box f column) s) (bar_ends_most (bar_x G box f column) s (bar_x_most column l) h)

  module _ (sub columns : List ℕ) (ss : List Span) (fs : List Float) (bs : List Box) (C : (i : ℕ) → get_or columns i 0 ≤ 2 ^ 12) (S : (i : ℕ) → Spanned (2 ^ 13) (get_or ss i bare))
      (F : (s : ℕ) → AtMost (1074 + 46) (block_at fs s)) (B : (s : ℕ) → Edges (1074 + 70) (box_in bs s)) where
    pub bars_most : (i : ℕ) → Barred (1074 + 73) (bar_at (bars G sub columns ss fs bs) i)
    unfolding bars
    bars_most i =
        table_at (Barred (1074 + 73)) (λ j. bar_for G (box_in bs (station_of sub j)) (block_at fs (station_of sub j)) (get_or columns j 0) (get_or ss j bare)) (length sub) i (record { x = f0; y0 = f0; y1 = f0 })
        (λ j l. bar_most (box_in bs (station_of sub j)) (block_at fs (station_of sub j)) (B (station_of sub j)) (F (station_of sub j)) (get_or columns j 0) (get_or ss j bare) (C j) (S j))
        (record { x = f0_most (1074 + 73); y0 = f0_most (1074 + 73); y1 = f0_most (1074 + 73) })

  -- ---- row ends
  pub row_end_near : (sub : List ℕ) (fs : List Float) (bs : List Box) (bars : List Bar) (i row : ℕ) → row ≤ 2 ^ 13
      → Edges (1074 + 70) (box_in bs (station_of sub i)) → AtMost (1074 + 46) (block_at fs (station_of sub i)) → Barred (1074 + 73) (bar_at bars i) → Near (1074 + 73) (row_end G sub fs bs bars i row)
  unfolding row_end
  row_end_near sub fs bs bars i row l B F R = record {
    x = R.x;
    y = most_weaken (1074 + 71) (1074 + 73) (row_y G (box_in bs (station_of sub i)) (block_at fs (station_of sub i)) row) (lit≤ tt) (row_y_most (box_in bs (station_of sub i)) (block_at fs (station_of sub i)) B F row l);
  }

-- ---- exits
pub exit_near : (k : ℕ) (bs : List Box) (places : List Point) (s t : ℕ) (y : Float) → 1074 + 70 ≤ k → Edges (1074 + 70) (box_in bs s) → AtMost k y → Near k (exit bs places s t y)
unfolding exit exit_x
exit_near k bs places s t y K B h = record { x = go (le (place_at places s).x (place_at places t).x); y = h }
  where
    go : (b : Bool) → AtMost k (pick b (box_in bs s).right (box_in bs s).left)
    go true = most_weaken (1074 + 70) k (box_in bs s).right K B.2
    go false = most_weaken (1074 + 70) k (box_in bs s).left K B.0
