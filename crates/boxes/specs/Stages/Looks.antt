-- What the parts of `first_hit` hand to one another: the box entered first so far, after the chains of a window, and
-- along a piece. Definitions only.
use Rattle.std.specs.Prelude.{ℕ, zero, suc, ◌+◌, ◌-◌, ◌*◌, min, ◌≡◌, Bool, true, false, cond, List, Float, Option, Some}
use Rattle.std.specs.Prelude.{None}
use Rattle.std.specs.Float.Ieee.{lt, le}
use Rattle.numbers.specs.Ops.{f1, f2}
use Rattle.plane.specs.declared.geometry.Point.{Point}
use Rattle.plane.specs.declared.geometry.Box.{Box}
use Rattle.plane.specs.Plane.{box_in}
use Rattle.boxes.specs.First.{entry_at, comes_first, sooner, look}
use Rattle.boxes.specs.declared.grid.Grid.{Grid}
use Rattle.boxes.specs.declared.first_hit.search.Near.{Near}
use Rattle.boxes.specs.Stages.Cells.{column_of, row_of, chain_at, next_at, Entered, In}
use Rattle.plane.specs.Stages.Window.{is_apart}

-- ---- the box entered first so far, as an entry and a station: an entry above 1 is none
unfoldable pub near : Float → ℕ → Near
near t s = record { entry = t; station = s }

unfoldable pub best_of : Near → Option (Float × ℕ)
best_of n = cond (le n.entry f1) (Some (n.entry, n.station)) None

unfoldable pub hit_of : Near → Option ℕ
hit_of n = cond (le n.entry f1) (Some n.station) None

-- `sooner`, so written
unfoldable pub closer : ℕ → Option Float → Near → Near
closer s None n = n
closer s (Some t) n = cond (comes_first t s n.entry n.station) (near t s) n

-- ---- looks, k the number of stations and l the list
module _ (boxes : List Box) (p q : Point) (a b k : ℕ) (l : List ℕ) (w : Box) where
  -- after one more station's box, unless it lies apart from the window
  unfoldable pub passed : ℕ → Near → Near
  passed s n = cond (is_apart w (box_in boxes s)) n (closer s (entry_at boxes p q a b s) n)

  -- after those of the chain that begins with h, one more than a station, or 0: at most f of them
  unfoldable pub chain_to : ℕ → ℕ → Near → Near
  chain_to zero h n = n
  chain_to (suc f) zero n = n
  chain_to (suc f) (suc s) n = chain_to f (min (next_at k l s) s) (passed s n)

  unfoldable pub after_chain : ℕ → Near → Near
  after_chain c n = chain_to (chain_at l c) (chain_at l c) n

  -- after m chains from chain c on
  unfoldable pub after_chains : ℕ → ℕ → Near → Near
  after_chains c zero n = n
  after_chains c (suc m) n = after_chains (suc c) m (after_chain c n)

  -- after m rows of a grid from row r on, each from column i to column j
  unfoldable pub after_rows : Grid → ℕ → ℕ → ℕ → ℕ → Near → Near
  after_rows g i j r zero n = n
  after_rows g i j r (suc m) n = after_rows g i j (suc r) m (after_chains (1 + r * g.columns + i) (suc j - i) n)

  -- after the boxes that span more, and those of the window's cells: a box may begin one column or row before the
  -- window
  unfoldable pub after_window : Grid → Near → Near
  after_window g n =
      let i = column_of g w.left - 1 in
      let r = row_of g w.top - 1 in
      after_rows g i (column_of g w.right) r (suc (row_of g w.bottom) - r) (after_chain 0 n)

-- ---- along a piece
-- Of the stations entered in the list, whatever they are: a look at them all that goes on from n ends as one from
-- nothing, and those entered before t don't come before n.
pub record Marched (boxes : List Box) (p q : Point) (a b : ℕ) (l : List ℕ) (t : Float) (n : Near) : Type 0 where
  pub fair : le n.entry f1 ≡ false → n.entry ≡ f2
  pub sound : (stations : List ℕ) → Entered boxes stations l
      → look boxes p q a b stations (best_of n) ≡ look boxes p q a b stations None
  pub before : (stations : List ℕ) → Entered boxes stations l
      → (s : ℕ) → In s stations → (v : Float) → entry_at boxes p q a b s ≡ Some v → lt v t ≡ true
      → sooner s (Some v) (best_of n) ≡ best_of n

-- the box entered first so far is entered by u, or the piece ends there
unfoldable pub is_done : Near → Float → Bool
is_done n u = cond (le f1 u) true (le n.entry u)

-- what a search says of the stations entered in the list, whatever they are
unfoldable pub Sure : List Box → Point → Point → ℕ → ℕ → List ℕ → Option Near → Type 0
Sure boxes p q a b l None = Unit {0}
Sure boxes p q a b l (Some n) =
    (stations : List ℕ) → Entered boxes stations l → best_of n ≡ look boxes p q a b stations None
