-- Displacement and spacing station by station, and the middles of all boxes. Assumes nothing.
use mathlib.Core.Path.{◌≡◌, refl, sym, ap, ◌∙◌}
use mathlib.Core.Bool.{Bool}
use mathlib.Core.List.{List, [], ◌∷◌, ◌++◌}
use Prim.Native.Nat.{ℕ, suc, ◌+◌, ◌*◌, ◌≤◌, ◌<◌}
use native.Mathlib.Omega.{arith}
use native.Mathlib.Numerals.{add-one}
use lib.ListN.{length, get_or, take, drop, get_or-append}
use lib.Seq.{drop_at}
use lib.Ieee.{Float, nan}
use Rattle.numbers.specs.Ops.{◌⊘◌}
use Rattle.numbers.specs.Table.{table}
use Rattle.numbers.proofs.order.Tables.{length_table, get_d_table, how_many_le, length_which}
use Rattle.numbers.proofs.order.Strides.{length_strided}
use Rattle.plane.specs.declared.geometry.Point.{Point}
use Rattle.plane.specs.declared.geometry.Box.{Box}
use Rattle.plane.specs.Plane.{point_at, box_at, origin, no_box, box_in}
use Rattle.plane.specs.Near.{distance, nearest}
use Rattle.network.specs.Words.{is_occupied, occupied}
use Rattle.network.specs.Seed.{place_at}
use Rattle.network.specs.Views.{counts_in, points_in, boxes_in}
use Rattle.network.proofs.Views.{put_point, points_zero, points_push, get_d_points, get_d_boxes, boxes_suc, boxes_zero}
use Rattle.stations.specs.Unit.{coordinates}
use Rattle.stations.proofs.units.Near.{nearest_take}
use Rattle.numbers.specs.Over.{over}
use Rattle.network.proofs.Rest.{onward, onward_yes, onward_end}
use Rattle.audit.specs.Figure.{middle, middles, displacements, shorter, by_sides, spacings_from, spacings}

-- ---- what is left of a list over the occupied stations
module _ (k : ℕ) (st : List ℕ) (boxes seeds : List Float) where
  abbrev pub displaced : List ℕ → List Float
  displaced ss = displacements (points_in k seeds) (boxes_in k boxes) ss

  pub displaced_yes : (s : ℕ) (p q : Point) (b : Box) (v : Float) → s < k → 0 < get_or st (2 * s) 0 → p ≡ point_at seeds s → b ≡ box_at boxes s → q ≡ middle b → v ≡ distance p q
      → displaced (onward k st s) ≡ v ∷ displaced (onward k st (s + 1))
  unfolding displacements
  displaced_yes s p q b v h o e f g d =
      let x : v ≡ distance (place_at (points_in k seeds) s) (middle (box_in (boxes_in k boxes) s)) =
      d ∙ ap (λ (y : Point). distance y q) (e ∙ sym (get_d_points k s seeds origin h))
      ∙ ap (distance (place_at (points_in k seeds) s)) (g ∙ ap middle (f ∙ sym (get_d_boxes k s boxes no_box h))) in
      ap displaced (onward_yes k st s h o) ∙ ap (λ (y : Float). y ∷ displaced (onward k st (s + 1))) (sym x)

  pub displaced_end : (s : ℕ) → k ≤ s → displaced (onward k st s) ≡ []
  unfolding displacements
  displaced_end s h = ap displaced (onward_end k st s h)

module _ (k : ℕ) (st : List ℕ) (boxes ds : List Float) where
  abbrev pub sided : ℕ → List ℕ → List Float
  sided c ss = by_sides ds (boxes_in k boxes) c ss

  pub sided_yes : (s c : ℕ) (b : Box) (d w : Float) → s < k → 0 < get_or st (2 * s) 0 → d ≡ get_or ds c nan → b ≡ box_at boxes s → w ≡ shorter b
      → sided c (onward k st s) ≡ (d ⊘ w) ∷ sided (c + 1) (onward k st (s + 1))
  unfolding by_sides
  sided_yes s c b d w h o e f g =
      let x : w ≡ shorter (box_in (boxes_in k boxes) s) = g ∙ ap shorter (f ∙ sym (get_d_boxes k s boxes no_box h)) in
      ap (sided c) (onward_yes k st s h o)
      ∙ ap (λ (y : Float). y ⊘ shorter (box_in (boxes_in k boxes) s) ∷ sided (suc c) (onward k st (s + 1))) (sym e)
      ∙ ap (λ (y : Float). d ⊘ y ∷ sided (suc c) (onward k st (s + 1))) (sym x)
      ∙ ap (λ (i : ℕ). d ⊘ w ∷ sided i (onward k st (s + 1))) (sym (add-one c))

  pub sided_end : (s c : ℕ) → k ≤ s → sided c (onward k st s) ≡ []
  unfolding by_sides
  sided_end s c h = ap (sided c) (onward_end k st s h)

-- no more stations are occupied than there are
pub occupied_few : (k : ℕ) (st : List ℕ) → length (occupied (counts_in k st)) ≤ k
unfolding occupied
occupied_few k st =
    let p : ℕ → Bool = is_occupied (counts_in k st) in
    let n : ℕ = length (counts_in k st) in
    omega (arith, length_which p n, how_many_le p n, length_strided 2 0 0 k st)

-- ---- a list that leads with the nearest distances of n points
module _ (path : List Float) (n : ℕ) (bs : List Box) (old ds : List Float) (e : ds ≡ table (nearest path n) n ++ drop n old) where
  nearest_here : (i : ℕ) → i < n → get_or ds i nan ≡ nearest path n i
  nearest_here i h =
      let z : i < length (table (nearest path n) n) = omega (arith, length_table (nearest path n) n) in
      ap (λ (l : List Float). get_or l i nan) e ∙ get_or-append (table (nearest path n) n) (drop n old) nan i z ∙ get_d_table (nearest path n) n i nan h

  from_nearest : (i : ℕ) (ss : List ℕ) → i + length ss ≤ n → by_sides ds bs i ss ≡ spacings_from path n bs i ss
  unfolding by_sides spacings_from
  from_nearest i [] h = refl
  from_nearest i (s ∷ ss) h =
      let g : i < n = omega arith in
      let j : suc i + length ss ≤ n = omega arith in
      ap (λ (d : Float). d ⊘ shorter (box_in bs s) ∷ by_sides ds bs (suc i) ss) (nearest_here i g)
      ∙ ap (λ (l : List Float). nearest path n i ⊘ shorter (box_in bs s) ∷ l) (from_nearest (suc i) ss j)

  length_spaced : (i : ℕ) (ss : List ℕ) → length (spacings_from path n bs i ss) ≡ length ss
  unfolding spacings_from
  length_spaced i [] = refl
  length_spaced i (s ∷ ss) = ap suc (length_spaced (suc i) ss)

  -- divided by the sides it leads with the spacings, and past them it is as it was before the distances
  pub spaced_over : (ss : List ℕ) (l : List Float) → n ≡ length ss → l ≡ over (by_sides ds bs 0 ss) ds → l ≡ over (spacings_from path n bs 0 ss) old
  unfolding over
  spaced_over ss l q r =
      let new : List Float = spacings_from path n bs 0 ss in
      let w : length new ≡ n = length_spaced 0 ss ∙ sym q in
      let t : drop (length new) ds ≡ drop (length new) old =
      ap (drop (length new)) e ∙ drop_at (table (nearest path n) n) (drop n old) (length new) (length_table (nearest path n) n ∙ sym w)
      ∙ ap (λ (i : ℕ). drop i old) (sym w) in
      r ∙ ap (λ (x : List Float). over x ds) (from_nearest 0 ss (omega (arith, q))) ∙ ap (λ (x : List Float). new ++ x) t

-- only the first n points count
from_front : (path : List Float) (n : ℕ) (bs : List Box) (i : ℕ) (ss : List ℕ) → i + length ss ≤ n → spacings_from path n bs i ss ≡ spacings_from (take (2 * n) path) n bs i ss
unfolding spacings_from
from_front path n bs i [] h = refl
from_front path n bs i (s ∷ ss) h =
    let g : i < n = omega arith in
    let j : suc i + length ss ≤ n = omega arith in
    ap (λ (d : Float). d ⊘ shorter (box_in bs s) ∷ spacings_from path n bs (suc i) ss) (sym (nearest_take path n i g))
    ∙ ap (λ (l : List Float). nearest (take (2 * n) path) n i ⊘ shorter (box_in bs s) ∷ l) (from_front path n bs (suc i) ss j)

pub spacings_is : (path : List Float) (n : ℕ) (bs : List Box) (ss : List ℕ) (ps : List Point) → n ≡ length ss → ps ≡ middles bs → take (2 * n) path ≡ coordinates ps ss
    → spacings_from path n bs 0 ss ≡ spacings bs ss
unfolding spacings
spacings_is path n bs ss ps e m t =
    from_front path n bs 0 ss (omega (arith, e))
    ∙ ap (λ (l : List Float). spacings_from l n bs 0 ss) (t ∙ ap (λ (x : List Point). coordinates x ss) m)
    ∙ ap (λ (k : ℕ). spacings_from (coordinates (middles bs) ss) k bs 0 ss) e

-- ---- the middles of the first s boxes
pub middles_none : (boxes points : List Float) → points_in 0 points ≡ middles (boxes_in 0 boxes)
unfolding middles
middles_none boxes points = points_zero points ∙ sym (ap middles (boxes_zero boxes))

middles_append : (bs : List Box) (b : Box) → middles (bs ++ (b ∷ [])) ≡ middles bs ++ (middle b ∷ [])
unfolding middles
middles_append [] b = refl
middles_append (x ∷ bs) b = ap (λ (l : List Point). middle x ∷ l) (middles_append bs b)

pub middles_more : (boxes points after : List Float) (s : ℕ) (b : Box) (c : Point) → 2 * s + 1 < length points → b ≡ box_at boxes s → c ≡ middle b
    → after ≡ put_point points s c.x c.y → points_in s points ≡ middles (boxes_in s boxes) → points_in (s + 1) after ≡ middles (boxes_in (s + 1) boxes)
middles_more boxes points after s b c h e f g i =
    rw (add-one s)
    (ap (points_in (suc s)) g ∙ points_push s points c.x c.y h
    ∙ ap (λ (l : List Point). l ++ (c ∷ [])) i
    ∙ ap (λ (x : Point). middles (boxes_in s boxes) ++ (x ∷ [])) (f ∙ ap middle e)
    ∙ sym (ap middles (boxes_suc s boxes) ∙ middles_append (boxes_in s boxes) (box_at boxes s)))

-- the loop of `middles`
pub ruleset middles_laws = (middles_none, middles_more)
