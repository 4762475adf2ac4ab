-- From the boxes to the bars and the bounds, without iterations: where every coordinate of a network is doubled, every block, bar and the bounds are doubled. The definitions are those that `planned` and `drawing` put together.
-- Assumes nothing.
use mathlib.Core.Path.{sym, subst}
use mathlib.Core.Bool.{Bool, true, false, cond}
use mathlib.Core.List.{List, [], ◌∷◌, map}
use Prim.Native.Nat.{ℕ, zero, suc, ◌+◌, ◌*◌, ◌^◌, ◌≤◌, ◌<◌, zero-le, min, max}
use native.Mathlib.Nat.{le_refl, le_trans, lt_of_not-le, not-suc-le-zero}
use native.Mathlib.Omega.{arith}
use native.Mathlib.Decide.{dec_le}
use lib.Dec.{T, eqb, lit≤}
use lib.ListN.{length, get_or, get_or-map, get_or-eq_default}
use lib.Ieee.{Float, nan, inf, fin, lt}
use lib.Ieee.Bits.{is_true}
use Rattle.numbers.specs.Small.{is_finite, min_of}
use Rattle.numbers.specs.Ops.{f0}
use Rattle.numbers.specs.Double.{Doubles}
use Rattle.numbers.proofs.float.DoublePairs.{widen_doubles, zero_doubles}
use Rattle.numbers.specs.Order.{pick}
use Rattle.numbers.specs.Table.{table}
use Rattle.numbers.proofs.order.Tables.{get_d_table, length_table, how_many_le}
use Rattle.plane.specs.declared.geometry.Point.{Point}
use Rattle.plane.specs.declared.geometry.Box.{Box}
use Rattle.network.specs.declared.options.Options.{Options}
use Rattle.network.specs.declared.words.Kind.{Kind}
use Rattle.network.specs.declared.words.Kind.TheVariants.{Undrawn, Open, Internal, Line}
use Rattle.network.specs.Words.{kind_at, station_of, occupied, bus_counts}
use Rattle.network.specs.Seed.{seeds}
use Rattle.stations.specs.Column.{column, columns}
use Rattle.stations.specs.Row.{row, from_row, to_row, from_rows, to_rows}
use Rattle.plane.specs.Plane.{box_in}
use Rattle.placement.specs.Place.{boxes}
use Rattle.placement.specs.Search.{HalfSides, half_sides_at}
use Rattle.stations.specs.declared.bars.Bar.{Bar}
use Rattle.stations.specs.Bar.{Span, bare, rows, include, include_end, include_branch, span_to, spans, bar_for, bars, bar_at, block_at}
use Rattle.results.specs.Bounds.{around, around_all, nowhere, bounds_of}
use Rattle.stations.specs.Doubles.{DoublesPoint}
use Rattle.placement.specs.Doubles.{DoublesBox, DoublesHalfSides}
use Rattle.doubling.specs.Twice.{TwiceBox, DoubledMap}
use Rattle.doubling.proofs.Bars.{DoublesBar, Block, Rows, bar_doubles}
use Rattle.doubling.proofs.Runs.{bounds_doubled}
use Rattle.doubling.proofs.Stage.{InRanges, doubles_table, seeds₁, seeds₂, half_sides₁, half_sides₂, places₁, places₂, rows_from, rows_to, half_sides_of, box_of}

-- ---- rows are at most 2 ^ 13
row_le : (sub : List ℕ) (qs : List Point) (ks : List Kind) (s e : ℕ) → length ks ≤ 2 ^ 13 → row sub qs ks s e ≤ 2 ^ 13
unfolding row
row_le sub qs ks s e h = le_trans (how_many_le _ (length ks)) h

from_le : (sub : List ℕ) (qs : List Point) (ks : List Kind) → length ks ≤ 2 ^ 13 → (e : ℕ) (k : Kind) → from_row sub qs ks e k ≤ 2 ^ 13
unfolding from_row
from_le sub qs ks h e Undrawn = zero-le
from_le sub qs ks h e (Open a b) = zero-le
from_le sub qs ks h e (Internal a b) = row_le sub qs ks (station_of sub a) e h
from_le sub qs ks h e (Line a b) = row_le sub qs ks (station_of sub a) e h

to_le : (sub : List ℕ) (qs : List Point) (ks : List Kind) → length ks ≤ 2 ^ 13 → (e : ℕ) (k : Kind) → to_row sub qs ks e k ≤ 2 ^ 13
unfolding to_row
to_le sub qs ks h e Undrawn = zero-le
to_le sub qs ks h e (Open a b) = zero-le
to_le sub qs ks h e (Internal a b) = row_le sub qs ks (station_of sub b) e h
to_le sub qs ks h e (Line a b) = row_le sub qs ks (station_of sub b) e h

table_in : {A : Type 0} (P : A → Type 0) (f : ℕ → A) (n : ℕ) (d : A) → ((s : ℕ) → P (f s)) → P d → (s : ℕ) → P (get_or (table f n) s d)
table_in P f n d h k s = go (dec_le n s)
  where
    go : Dec (n ≤ s) → P (get_or (table f n) s d)
    go (yes l) = subst P (sym (get_or-eq_default (table f n) d (subst (λ (z : ℕ). z ≤ s) (sym (length_table f n)) l))) k
    go (no l) = subst P (sym (get_d_table f n s d (lt_of_not-le l))) (h s)

-- the rows of a bus, from rows of branches that are at most 2 ^ 13
pick_rows : (b : Bool) (s t : Span) → Rows s → Rows t → Rows (pick b s t)
pick_rows true s t h k = h
pick_rows false s t h k = k

include_rows : (r : ℕ) (s : Span) → r ≤ 2 ^ 13 → Rows s → Rows (include r s)
unfolding include
include_rows r bare h k = (h, h)
include_rows r (rows a b) h k = (least a r k.0 h, most b r k.1 h)
  where
    least : (a r : ℕ) → a ≤ 2 ^ 13 → r ≤ 2 ^ 13 → min a r ≤ 2 ^ 13
    least a r h k = omega arith

    most : (a r : ℕ) → a ≤ 2 ^ 13 → r ≤ 2 ^ 13 → max a r ≤ 2 ^ 13
    most a r h k = omega arith

branch_rows : (i ra rb : ℕ) (k : Kind) (s : Span) → ra ≤ 2 ^ 13 → rb ≤ 2 ^ 13 → Rows s → Rows (include_branch i ra rb k s)
unfolding include_branch include_end
branch_rows i ra rb Undrawn s h k r = r
branch_rows i ra rb (Open a b) s h k r = r
branch_rows i ra rb (Internal a b) s h k r = pick_rows (eqb a i) (include ra s) (pick (eqb b i) (include rb s) s) (include_rows ra s h r) (pick_rows (eqb b i) (include rb s) s (include_rows rb s k r) r)
branch_rows i ra rb (Line a b) s h k r = pick_rows (eqb a i) (include ra s) (pick (eqb b i) (include rb s) s) (include_rows ra s h r) (pick_rows (eqb b i) (include rb s) s (include_rows rb s k r) r)

span_rows : (ks : List Kind) (fr tr : List ℕ) → ((e : ℕ) → (get_or fr e 0 ≤ 2 ^ 13) × (get_or tr e 0 ≤ 2 ^ 13)) → (i e : ℕ) → Rows (span_to ks fr tr i e)
unfolding span_to
span_rows ks fr tr h i zero = tt
span_rows ks fr tr h i (suc e) = branch_rows i (get_or fr e 0) (get_or tr e 0) (kind_at ks e) (span_to ks fr tr i e) (h e).0 (h e).1 (span_rows ks fr tr h i e)

columns_le : (sub kv : List ℕ) → length sub ≤ 2 ^ 12 → (i : ℕ) → get_or (columns sub kv) i 0 ≤ 2 ^ 12
unfolding columns column
columns_le sub kv h = table_in (λ n. n ≤ 2 ^ 12) _ (length sub) 0 (λ i. le_trans (how_many_le _ (length sub)) h) zero-le

-- ---- boxes and places, up to 2 ^ 1208 grains
pub box_wide : {b b' : Box} → DoublesBox 116 (2 ^ 1180 + 80 * 2 ^ 1200 + 2 ^ 1200) b b' → DoublesBox 116 (2 ^ 1208) b b'
box_wide h = record { left = to h.left; top_side = to h.top_side; right = to h.right; bottom = to h.bottom }
  where
    to : {x x' : Float} → Doubles 116 (2 ^ 1180 + 80 * 2 ^ 1200 + 2 ^ 1200) x x' → Doubles 116 (2 ^ 1208) x x'
    to f = widen_doubles 116 (2 ^ 1208) (le_refl 116) (lit≤ tt) f

pub point_wide : {p p' : Point} → DoublesPoint 116 (2 ^ 1180 + 80 * 2 ^ 1200) p p' → DoublesPoint 116 (2 ^ 1208) p p'
point_wide h = record { x = widen_doubles 116 (2 ^ 1208) (le_refl 116) (lit≤ tt) h.x; y = widen_doubles 116 (2 ^ 1208) (le_refl 116) (lit≤ tt) h.y }

box_doubled : {lo top : ℕ} {b b' : Box} → DoublesBox lo top b b' → TwiceBox b b'
box_doubled h = record { left = h.left.is; top = h.top_side.is; right = h.right.is; bottom = h.bottom.is }

-- a list of blocks, of half sides that double
block_at_lem : (fs fs' : List HalfSides) → ((s : ℕ) → DoublesHalfSides 116 (2 ^ 1200) (half_sides_at fs s) (half_sides_at fs' s)) → (s : ℕ) → Block (block_at (map (λ (r : HalfSides). r.f) fs) s) (block_at (map (λ (r : HalfSides). r.f) fs') s)
block_at_lem fs fs' h s =
    subst (λ (x : Float). Block x (block_at (map (λ (r : HalfSides). r.f) fs') s)) (sym (get_or-map (λ (r : HalfSides). r.f) fs s none))
    (subst (λ (x : Float). Block (half_sides_at fs s).f x) (sym (get_or-map (λ (r : HalfSides). r.f) fs' s none)) (h s).f)
  where
    none : HalfSides
    none = record { half = record { w = f0; h = f0 }; f = f0; buffer = f0 }

-- ---- the bounds of some boxes with finite left sides have one
min_finite : (x y : Float) → T (is_finite x) → T (is_finite y) → T (is_finite (min_of x y))
unfolding min_of
min_finite x y h k = go (lt y x)
  where
    go : (b : Bool) → T (is_finite (cond b y x))
    go true = k
    go false = h

min_first : (y : Float) → T (is_finite y) → T (is_finite (min_of (inf false) y))
unfolding min_of is_finite lt
min_first nan h = absurd h
min_first (inf s) h = absurd h
min_first (fin s m e) h = tt

around_finite : (bs : List Box) → ((s : ℕ) → T (is_finite (box_in bs s).left)) → (b : Box) → T (is_finite b.left) → (ss : List ℕ) → T (is_finite (around_all bs b ss).left)
unfolding around_all around
around_finite bs h b k [] = k
around_finite bs h b k (s ∷ ss) = around_finite bs h (around b (box_in bs s)) (min_finite b.left (box_in bs s).left k (h s)) ss

bounds_finite : (bs : List Box) → ((s : ℕ) → T (is_finite (box_in bs s).left)) → (ss : List ℕ) → 0 < length ss → T (is_finite (around_all bs nowhere ss).left)
unfolding around_all around
bounds_finite bs h [] k = absurd (not-suc-le-zero k)
bounds_finite bs h (s ∷ ss) k = around_finite bs h (around nowhere (box_in bs s)) (min_first (box_in bs s).left (h s)) ss

module _ (O : Options) (sub kv : List ℕ) (ks : List Kind) (xy : List Float) (search : ℕ) (F : InRanges O sub ks xy) (xy' : List Float) (D : DoubledMap xy xy') where
  abbrev pub fr : List ℕ
  fr = from_rows sub (seeds₁ O sub kv ks xy search F xy' D) ks

  abbrev pub tr : List ℕ
  tr = to_rows sub (seeds₁ O sub kv ks xy search F xy' D) ks

  pub few : (e : ℕ) → (get_or fr e 0 ≤ 2 ^ 13) × (get_or tr e 0 ≤ 2 ^ 13)
  unfolding from_rows to_rows
  few e = (
    table_in (λ n. n ≤ 2 ^ 13) (λ i. from_row sub (seeds sub xy) ks i (kind_at ks i)) (length ks) 0 (λ i. from_le sub (seeds sub xy) ks F.branches i (kind_at ks i)) zero-le e,
    table_in (λ n. n ≤ 2 ^ 13) (λ i. to_row sub (seeds sub xy) ks i (kind_at ks i)) (length ks) 0 (λ i. to_le sub (seeds sub xy) ks F.branches i (kind_at ks i)) zero-le e,
  )

  abbrev pub boxes₁ : List Box
  boxes₁ = boxes (half_sides₁ O sub kv ks xy search F xy' D) (bus_counts sub) (places₁ O sub kv ks xy search F xy' D)

  abbrev pub boxes₂ : List Box
  boxes₂ = boxes (half_sides₂ O sub kv ks xy search F xy' D) (bus_counts sub) (places₂ O sub kv ks xy search F xy' D)

  abbrev pub blocks₁ : List Float
  blocks₁ = map (λ (r : HalfSides). r.f) (half_sides₁ O sub kv ks xy search F xy' D)

  abbrev pub blocks₂ : List Float
  blocks₂ = map (λ (r : HalfSides). r.f) (half_sides₂ O sub kv ks xy search F xy' D)

  abbrev pub bars₁ : List Bar
  bars₁ = bars O.block_options sub (columns sub kv) (spans sub ks fr tr) blocks₁ boxes₁

  abbrev pub fr₂ : List ℕ
  fr₂ = from_rows sub (seeds₂ O sub kv ks xy search F xy' D) ks

  abbrev pub tr₂ : List ℕ
  tr₂ = to_rows sub (seeds₂ O sub kv ks xy search F xy' D) ks

  abbrev pub bars₂ : List Bar
  bars₂ = bars O.block_options sub (columns sub kv) (spans sub ks fr₂ tr₂) blocks₂ boxes₂

  pub block_of : (s : ℕ) → Block (block_at blocks₁ s) (block_at blocks₂ s)
  block_of = block_at_lem (half_sides₁ O sub kv ks xy search F xy' D) (half_sides₂ O sub kv ks xy search F xy' D) (half_sides_of O sub kv ks xy search F xy' D)

  spans_in : (i : ℕ) → Rows (get_or (spans sub ks fr tr) i bare)
  unfolding spans
  spans_in = table_in Rows (λ i. span_to ks fr tr i (length ks)) (length sub) bare (λ i. span_rows ks fr tr few i (length ks)) tt

  bar_at_lem : (i : ℕ) → DoublesBar 63 (2 ^ 1220) (bar_at bars₁ i) (bar_at (bars O.block_options sub (columns sub kv) (spans sub ks fr tr) blocks₂ boxes₂) i)
  unfolding bars
  bar_at_lem =
      doubles_table (DoublesBar 63 (2 ^ 1220))
      (λ i. bar_for O.block_options (box_in boxes₁ (station_of sub i)) (block_at blocks₁ (station_of sub i)) (get_or (columns sub kv) i 0) (get_or (spans sub ks fr tr) i bare))
      (λ i. bar_for O.block_options (box_in boxes₂ (station_of sub i)) (block_at blocks₂ (station_of sub i)) (get_or (columns sub kv) i 0) (get_or (spans sub ks fr tr) i bare)) (length sub) none
      (λ i. bar_doubles O.block_options F.block_options (box_in boxes₁ (station_of sub i)) (box_in boxes₂ (station_of sub i)) (block_at blocks₁ (station_of sub i)) (block_at blocks₂ (station_of sub i)) (box_wide (box_of O sub kv ks xy search F xy' D (station_of sub i))) (block_of (station_of sub i))
      (get_or (columns sub kv) i 0) (get_or (spans sub ks fr tr) i bare) (columns_le sub kv F.buses i) (spans_in i))
      (record { x = zero_doubles 63 (2 ^ 1220); y0 = zero_doubles 63 (2 ^ 1220); y1 = zero_doubles 63 (2 ^ 1220) })
    where
      none : Bar
      none = record { x = f0; y0 = f0; y1 = f0 }

  pub bar_of : (i : ℕ) → DoublesBar 63 (2 ^ 1220) (bar_at bars₁ i) (bar_at bars₂ i)
  bar_of i =
      subst (λ (f : List ℕ). DoublesBar 63 (2 ^ 1220) (bar_at bars₁ i) (bar_at (bars O.block_options sub (columns sub kv) (spans sub ks f tr₂) blocks₂ boxes₂) i)) (sym (rows_from O sub kv ks xy search F xy' D))
      (subst (λ (t : List ℕ). DoublesBar 63 (2 ^ 1220) (bar_at bars₁ i) (bar_at (bars O.block_options sub (columns sub kv) (spans sub ks fr t) blocks₂ boxes₂) i)) (sym (rows_to O sub kv ks xy search F xy' D)) (bar_at_lem i))

  -- the bounds, where a station is occupied
  pub bounds_of_lem : 0 < length (occupied (bus_counts sub)) → TwiceBox (bounds_of boxes₁ (occupied (bus_counts sub))) (bounds_of boxes₂ (occupied (bus_counts sub)))
  bounds_of_lem h =
      bounds_doubled boxes₁ boxes₂ (λ s. box_doubled (box_of O sub kv ks xy search F xy' D s)) (occupied (bus_counts sub))
      (is_true (is_finite (around_all boxes₁ nowhere (occupied (bus_counts sub))).left) (bounds_finite boxes₁ (λ s. (box_of O sub kv ks xy search F xy' D s).left.stepped.number.finite) (occupied (bus_counts sub)) h))
