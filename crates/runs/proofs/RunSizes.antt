-- The points of every run have a bound, where those of bars, boxes and waypoints have; so they are finite. Assumes nothing.
use mathlib.Core.Path.{◌≡◌, refl, ap, ◌∙◌}
use Prim.Native.Nat.{ℕ, zero, suc, ◌+◌, ◌^◌, ◌≤◌, ◌<◌}
use native.Mathlib.Omega.{arith}
use mathlib.Core.Bool.{Bool, true, false, cond, ◌&&◌}
use mathlib.Core.List.{List, [], ◌∷◌, ◌++◌}
use lib.Dec.{T, lit≤}
use lib.ListN.{length, get_or}
use lib.Ieee.{Float}
use Rattle.numbers.specs.Small.{is_finite}
use Rattle.numbers.specs.Size.{AtMost}
use Rattle.numbers.proofs.float.SizeLaws.{most_weaken}
use Rattle.numbers.proofs.float.Each.{Each}
use Rattle.numbers.specs.Table.{table_from}
use Rattle.plane.specs.declared.geometry.Point.{Point}
use Rattle.plane.specs.declared.geometry.Box.{Box}
use Rattle.plane.proofs.geometry.PointSizes.{Near, Edges}
use Rattle.network.specs.declared.words.Kind.{Kind}
use Rattle.network.specs.declared.words.Kind.TheVariants.{Undrawn, Open, Internal, Line}
use Rattle.network.specs.Words.{kind_at, station_of}
use Rattle.stations.proofs.sizes.SideSizes.{Narrow}
use Rattle.plane.specs.Plane.{box_in}
use Rattle.boxes.specs.Detour.{detour}
use Rattle.boxes.proofs.detour.DetourSizes.{Points, points_append, detour_near}
use Rattle.stations.specs.declared.bars.Bar.{Bar}
use Rattle.stations.specs.Bar.{block_at, bar_at, position}
use Rattle.stations.specs.Exit.{exit}
use Rattle.stations.proofs.bars.BarSizes.{Barred, position_near, row_end_near, exit_near}
use Rattle.runs.specs.Run.{RunScene, row_end_at, led_path, line_points, run_for, run_of, runs}
use Rattle.runs.specs.Finite.{all_of, finite_point, finite_box, finite_bar}

-- ---- finite, by a bound
is_true : (b : Bool) → T b → b ≡ true
is_true true h = refl
is_true false h = absurd h

both_true : (a b : Bool) → a ≡ true → b ≡ true → (a && b) ≡ true
both_true a b p q = ap (λ (t : Bool). t && b) p ∙ q

pub most_finite : (k : ℕ) (x : Float) → AtMost k x → is_finite x ≡ true
most_finite k x h = is_true (is_finite x) h.finite

pub near_finite : (k : ℕ) (p : Point) → Near k p → finite_point p ≡ true
unfolding finite_point
near_finite k p h = both_true (is_finite p.x) (is_finite p.y) (most_finite k p.x h.x) (most_finite k p.y h.y)

pub edges_finite : (k : ℕ) (b : Box) → Edges k b → finite_box b ≡ true
unfolding finite_box
edges_finite k b h =
    both_true (is_finite b.left) (is_finite b.top && (is_finite b.right && is_finite b.bottom)) (most_finite k b.left h.0)
    (both_true (is_finite b.top) (is_finite b.right && is_finite b.bottom) (most_finite k b.top h.1)
    (both_true (is_finite b.right) (is_finite b.bottom) (most_finite k b.right h.2) (most_finite k b.bottom h.3)))

pub barred_finite : (k : ℕ) (b : Bar) → Barred k b → finite_bar b ≡ true
unfolding finite_bar
barred_finite k b h =
    both_true (is_finite b.x) (is_finite b.y0 && is_finite b.y1) (most_finite k b.x h.x)
    (both_true (is_finite b.y0) (is_finite b.y1) (most_finite k b.y0 h.y0) (most_finite k b.y1 h.y1))

-- a test that every element of a list passes
pub all_of_lem : {A : Type 0} (p : A → Bool) (l : List A) (d : A) → ((i : ℕ) → i < length l → p (get_or l i d) ≡ true) → all_of p l ≡ true
unfolding all_of
all_of_lem p [] d h = refl
all_of_lem p (x ∷ xs) d h = both_true (p x) (all_of p xs) (h 0 (omega arith)) (all_of_lem p xs d (λ i l. h (suc i) (omega arith)))

pub all_table : {A : Type 0} (p : A → Bool) (f : ℕ → A) (a n : ℕ) → ((i : ℕ) → p (f i) ≡ true) → all_of p (table_from f a n) ≡ true
unfolding all_of table_from
all_table p f a zero h = refl
all_table p f a (suc n) h = both_true (p (f a)) (all_of p (table_from f (suc a) n)) (h a) (all_table p f (suc a) n h)

pub all_each : (k : ℕ) (l : List Float) → Each (AtMost k) l → all_of is_finite l ≡ true
unfolding all_of
all_each k [] h = refl
all_each k (x ∷ xs) h = both_true (is_finite x) (all_of is_finite xs) (most_finite k x h.0) (all_each k xs h.1)

points_finite : (k : ℕ) (l : List Point) → Points k l → all_of finite_point l ≡ true
unfolding all_of
points_finite k [] h = refl
points_finite k (p ∷ ps) h = both_true (finite_point p) (all_of finite_point ps) (near_finite k p h.0) (points_finite k ps h.1)

-- ---- a scene whose parts have bounds
pub record Bounded (k : ℕ) (S : RunScene) : Type 0 where
  pub from_rows : (e : ℕ) → get_or S.from_rows e 0 ≤ 2 ^ 13
  pub to_rows : (e : ℕ) → get_or S.to_rows e 0 ≤ 2 ^ 13
  pub block_options : Narrow S.block_options
  pub blocks : (s : ℕ) → AtMost (1074 + 46) (block_at S.blocks s)
  pub boxes : (s : ℕ) → Edges (1074 + 70) (box_in S.boxes s)
  pub bars : (i : ℕ) → Barred (1074 + 73) (bar_at S.bars i)
  pub clearance : AtMost (1074 + 46) S.clearance
  pub ways : (e : ℕ) → Points k (get_or S.ways e [])

pub row_end_at_near : (S : RunScene) (i row : ℕ) → row ≤ 2 ^ 13 → Narrow S.block_options → ((s : ℕ) → Edges (1074 + 70) (box_in S.boxes s)) → ((s : ℕ) → AtMost (1074 + 46) (block_at S.blocks s)) → ((i : ℕ) → Barred (1074 + 73) (bar_at S.bars i)) → Near (1074 + 73) (row_end_at S i row)
unfolding row_end_at
row_end_at_near S i row l G B F R = row_end_near S.block_options G S.sub S.blocks S.boxes S.bars i row l (B (station_of S.sub i)) (F (station_of S.sub i)) (R i)

module _ (k : ℕ) (K : 1074 + 74 ≤ k) (L : k ≤ 2096) (S : RunScene) (B : Bounded k S) where
  wider : (p : Point) → Near (1074 + 73) p → Near k p
  wider p h = record { x = most_weaken (1074 + 73) k p.x (omega arith) h.x; y = most_weaken (1074 + 73) k p.y (omega arith) h.y }

  row_end_point : (i row : ℕ) → row ≤ 2 ^ 13 → Near k (row_end_at S i row)
  row_end_point i row l = wider (row_end_at S i row) (row_end_at_near S i row l B.block_options B.boxes B.blocks B.bars)

  position_at : (i : ℕ) → Near k (position (bar_at S.bars i))
  position_at i = wider (position (bar_at S.bars i)) (position_near (1074 + 73) (bar_at S.bars i) (lit≤ tt) (B.bars i))

  led_near : (s t : ℕ) (path : List Point) → Points k path → Points k (led_path S s t path)
  unfolding led_path
  led_near s t path h = go S.led
    where
      go : (b : Bool) → Points k (cond b (detour S.boxes S.occupied S.clearance s t path) path)
      go true = detour_near k (omega arith) (omega arith) S.boxes S.occupied S.clearance s t B.boxes B.clearance path h
      go false = h

  line_near : (s t : ℕ) (via : List Point) (p q : Point) → Points k via → Near k p → Near k q → Points k (line_points S s t via p q)
  unfolding line_points
  line_near s t via p q W P Q =
      let x = exit S.boxes S.places s t p.y in
      let y = exit S.boxes S.places t s q.y in
      let X : Near k x = exit_near k S.boxes S.places s t p.y (omega arith) (B.boxes s) P.y in
      let Y : Near k y = exit_near k S.boxes S.places t s q.y (omega arith) (B.boxes t) Q.y in
      (P, points_append k (led_path S s t (x ∷ (via ++ (y ∷ [])))) (q ∷ []) (led_near s t (x ∷ (via ++ (y ∷ []))) (X, points_append k via (y ∷ []) W (Y, tt))) (Q, tt))

  for_near : (ra rb : ℕ) (via : List Point) (c : Kind) → ra ≤ 2 ^ 13 → rb ≤ 2 ^ 13 → Points k via → Points k (run_for S ra rb via c)
  unfolding run_for
  for_near ra rb via Undrawn h i W = tt
  for_near ra rb via (Open a b) h i W = (position_at a, (position_at b, tt))
  for_near ra rb via (Internal a b) h i W = (row_end_point a ra h, (row_end_point b rb i, tt))
  for_near ra rb via (Line a b) h i W = line_near (station_of S.sub a) (station_of S.sub b) via (row_end_at S a ra) (row_end_at S b rb) W (row_end_point a ra h) (row_end_point b rb i)

  pub run_near : (e : ℕ) → Points k (run_of S e)
  unfolding run_of
  run_near e = for_near (get_or S.from_rows e 0) (get_or S.to_rows e 0) (get_or S.ways e []) (kind_at S.kinds e) (B.from_rows e) (B.to_rows e) (B.ways e)

  pub runs_finite : all_of (all_of finite_point) (runs S) ≡ true
  unfolding runs
  runs_finite = all_table (all_of finite_point) (run_of S) 0 (length S.kinds) (λ e. points_finite k (run_of S e) (run_near e))
