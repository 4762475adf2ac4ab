-- What `first_hit` hands to the look along a piece, and what it makes of its end. Assumes nothing.
use mathlib.Core.Path.{◌≡◌, refl, sym, ap, ◌∙◌, subst}
use mathlib.Core.List.{List}
use mathlib.Core.Logic.{∥∥₁_elim}
use mathlib.Core.Bool.{Bool, true, false, cond}
use Prim.Native.Nat.{ℕ, ◌*◌, ◌≤◌, ◌<◌}
use native.Mathlib.Nat.{mul-le-mul_left, mul-le-mul_right, ℕ_set}
use native.Mathlib.Bridge.{le_prop}
use native.Mathlib.Omega.{arith}
use lib.Ieee.{Float, le}
use lib.ListN.{length, get_or}
use Rattle.numbers.specs.Ops.{f1}
use Rattle.plane.specs.declared.geometry.Point.{Point}
use Rattle.plane.specs.declared.geometry.Box.{Box}
use Rattle.std.specs.Prelude.{Option, Some, None, option_map}
use Rattle.std.specs.Coded.{Coded-set, coded_ℕ, coded_option}
use Rattle.boxes.specs.First.{first_hit}
use Rattle.boxes.specs.declared.grid.Grid.{Grid}
use Rattle.boxes.specs.Stages.Cells.{grid_in, Sized, Entered, Indexed}
use Rattle.boxes.specs.declared.first_hit.search.Near.{Near}
use Rattle.boxes.specs.Stages.Looks.{best_of, hit_of, Sure}

-- ---- the grid
-- its numbers of columns and rows
abbrev pub Held : Grid → Type 0
Held g = (1 ≤ g.columns) × (1 ≤ g.rows) × (g.columns ≤ 16384) × (g.rows ≤ 16384)

held_of : (boxes : List Box) (stations l : List ℕ) (g : Grid) (k : ℕ) → g ≡ grid_in boxes l → length boxes ≡ k → k ≤ 4096 → Entered boxes stations l → Held g
held_of boxes stations l g k e many h entered = subst Held (sym e) (held (grid_in boxes l) entered.sized)
  where
    held : (g : Grid) → Sized g (4 * length boxes) → Held g
    held g z =
        let x : g.columns * 1 ≤ g.columns * g.rows = mul-le-mul_left g.columns z.rows in
        let y : 1 * g.rows ≤ g.columns * g.rows = mul-le-mul_right g.rows z.columns in
        let w : g.columns * g.rows ≤ 4 * length boxes = z.cells in
        (z.columns, z.rows, omega arith, omega arith)

held_prop : (g : Grid) → IsProp (Held g)
held_prop g = hlevel (le_prop, ℕ_set)

pub grid_held : (boxes : List Box) (stations l : List ℕ) (g : Grid) (k : ℕ) → g ≡ grid_in boxes l → length boxes ≡ k → k ≤ 4096 → ∥ Indexed boxes stations l ∥₁ → 0 < get_or l 0 0 → Held g
grid_held boxes stations l g k e many h indexed some = ∥∥₁_elim indexed (held_prop g) (λ i. held_of boxes stations l g k e many h (i.entered some))

-- ---- the answer
hit_found : (n : Near) → hit_of n ≡ option_map (λ (first : Float × ℕ). first.1) (best_of n)
unfolding hit_of best_of
hit_found n = go (le n.entry f1)
  where
    go : (x : Bool) → cond x (Some n.station) None ≡ option_map (λ (first : Float × ℕ). first.1) (cond x (Some (n.entry, n.station)) None)
    go true = refl
    go false = refl

hit_of_entered : (boxes : List Box) (stations l : List ℕ) (p q : Point) (a b : ℕ) (m : Option Near) (n : Near) → m ≡ Some n → Sure boxes p q a b l m → Entered boxes stations l
    → hit_of n ≡ first_hit boxes stations p q a b
unfolding Sure first_hit
hit_of_entered boxes stations l p q a b m n e s entered = hit_found n ∙ ap (option_map (λ (first : Float × ℕ). first.1)) (subst (Sure boxes p q a b l) e s stations entered)

pub done_hit : (boxes : List Box) (stations l : List ℕ) (p q : Point) (a b : ℕ) (m : Option Near) (n : Near) → m ≡ Some n → Sure boxes p q a b l m → ∥ Indexed boxes stations l ∥₁ → 0 < get_or l 0 0
    → hit_of n ≡ first_hit boxes stations p q a b
done_hit boxes stations l p q a b m n e s indexed some =
    ∥∥₁_elim indexed (Coded-set (coded_option coded_ℕ) _ _) (λ i. hit_of_entered boxes stations l p q a b m n e s (i.entered some))
