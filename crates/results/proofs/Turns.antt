-- The loops that write result lists: what one turn adds. Assumes nothing.
use mathlib.Core.Path.{◌≡◌, refl, ap, ◌∙◌}
use mathlib.Core.List.{List}
use Prim.Native.Nat.{ℕ, ◌+◌, ◌*◌, ◌≤◌, ◌<◌}
use native.Mathlib.Omega.{arith}
use lib.ListN.{length, get_or, set}
use lib.Seq.{sets}
use lib.Ieee.{Float, nan}
use Rattle.numbers.specs.Table.{table_from, table, strided}
use Rattle.plane.specs.declared.geometry.Point.{Point}
use Rattle.plane.specs.declared.geometry.Box.{Box}
use Rattle.plane.specs.Plane.{box_at}
use Rattle.network.specs.Words.{station_of}
use Rattle.network.specs.Views.{boxes_in}
use Rattle.stations.specs.declared.measures.Measures.{Measures}
use Rattle.stations.specs.declared.bars.Bar.{Bar}
use Rattle.stations.specs.Bar.{position}
use Rattle.runs.specs.Stages.Views.{bar_of}
use Rattle.runs.specs.Lists.{flat, point_numbers, box_numbers, bar_numbers}
use Rattle.results.proofs.Writes.{Written, written_none, written_more, written_one, flat_none, flat_more, table_more, two_stores, four_stores}

-- the numbers of one more element of a table, stored behind those before it
next : {A B : Type 0} (f : A → List B) (g : ℕ → A) (c i : ℕ) (vs old l m : List B) → length vs ≡ c → c * i + c ≤ length old → vs ≡ f (g i) → m ≡ sets l (c * i) vs
    → Written (flat f (table g i)) (c * i) old l → Written (flat f (table g (i + 1))) (c * (i + 1)) old m
next f g c i vs old l m n h e q w =
    let k : c * i + length vs ≤ length old = omega arith in
    let z : c * (i + 1) ≡ c * i + length vs = omega arith in
    written_more (flat f (table g i)) (flat f (table g (i + 1))) old l m vs (c * i) (c * (i + 1)) k q (flat_more f g i vs e) z w

first : {A B : Type 0} (f : A → List B) (g : ℕ → A) (c : ℕ) (old : List B) → c * 0 ≡ 0 → Written (flat f (table g 0)) (c * 0) old old
first f g c old e = rw e (written_none (flat f (table g 0)) old (flat_none f g))

-- ---- buses
module _ (sub : List ℕ) (measures : Measures) (buses : List ℕ) (blocks frames : List Float) where
  abbrev pub bus_bar : ℕ → Bar
  bus_bar i = bar_of measures buses blocks frames (station_of sub i) i

  pub bar_here : (s i : ℕ) (x : Bar) → s ≡ station_of sub i → x ≡ bar_of measures buses blocks frames s i → x ≡ bus_bar i
  bar_here s i x e q = q ∙ ap (λ (t : ℕ). bar_of measures buses blocks frames t i) e

  -- the positions and bars of the first i
  pub record Drawn (p₀ b₀ : List Float) (i : ℕ) (p b : List Float) : Type 0 where
    pub points : Written (flat (λ b. point_numbers (position b)) (table bus_bar i)) (2 * i) p₀ p
    pub bars : Written (flat bar_numbers (table bus_bar i)) (4 * i) b₀ b

  pub drawn_none : (p b : List Float) → Drawn p b 0 p b
  drawn_none p b = record { points = first (λ b. point_numbers (position b)) bus_bar 2 p refl; bars = first bar_numbers bus_bar 4 b refl }

  pub drawn_more : (p₀ b₀ p b p' b' : List Float) (i s : ℕ) (x : Bar) (q : Point) → 2 * i + 2 ≤ length p₀ → 4 * i + 4 ≤ length b₀
      → s ≡ station_of sub i → x ≡ bar_of measures buses blocks frames s i → q ≡ position x → p' ≡ set (set p (2 * i) q.x) (2 * i + 1) q.y
      → b' ≡ set (set (set (set b (4 * i) x.x) (4 * i + 1) x.y0) (4 * i + 2) x.x) (4 * i + 3) x.y1 → Drawn p₀ b₀ i p b → Drawn p₀ b₀ (i + 1) p' b'
  drawn_more p₀ b₀ p b p' b' i s x q h k e f g u v d =
      let z : x ≡ bus_bar i = bar_here s i x e f in
      record {
        points = next (λ b. point_numbers (position b)) bus_bar 2 i (point_numbers q) p₀ p p' refl h (ap point_numbers (g ∙ ap position z))
            (u ∙ two_stores p (2 * i) q.x q.y) d.points;
        bars = next bar_numbers bus_bar 4 i (bar_numbers x) b₀ b b' refl k (ap bar_numbers z)
            (v ∙ four_stores b (4 * i) x.x x.y0 x.x x.y1) d.bars;
      }

-- ---- stations
module _ (frames blocks : List Float) where
  -- the boxes and scales of the first s
  pub record Framed (b₀ c₀ : List Float) (s : ℕ) (b c : List Float) : Type 0 where
    pub boxes : Written (flat box_numbers (boxes_in s frames)) (4 * s) b₀ b
    pub scales : Written (strided 3 2 nan s blocks) s c₀ c

  pub framed_none : (b c : List Float) → Framed b c 0 b c
  unfolding boxes_in strided table_from
  framed_none b c = record { boxes = first box_numbers (box_at frames) 4 b refl; scales = written_none (strided 3 2 nan 0 blocks) c refl }

  pub framed_more : (b₀ c₀ b c b' : List Float) (s : ℕ) (x : Box) → 4 * s + 4 ≤ length b₀ → s < length c₀ → x ≡ box_at frames s
      → b' ≡ set (set (set (set b (4 * s) x.left) (4 * s + 1) x.top) (4 * s + 2) x.right) (4 * s + 3) x.bottom
      → Framed b₀ c₀ s b c → Framed b₀ c₀ (s + 1) b' (set c s (get_or blocks (3 * s + 2) nan))
  unfolding boxes_in strided
  framed_more b₀ c₀ b c b' s x h k e u f =
      record {
        boxes = next box_numbers (box_at frames) 4 s (box_numbers x) b₀ b b' refl h (ap box_numbers e)
            (u ∙ four_stores b (4 * s) x.left x.top x.right x.bottom) f.boxes;
        scales = written_one (strided 3 2 nan s blocks) (strided 3 2 nan (s + 1) blocks) c₀ c (get_or blocks (3 * s + 2) nan) s k
            (table_more (λ i. get_or blocks (3 * i + 2) nan) s (get_or blocks (3 * s + 2) nan) refl) f.scales;
      }
