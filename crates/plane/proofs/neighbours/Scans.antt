-- One turn of the scan over all points: the nearest so far, and how many were near. Assumes nothing.
use mathlib.Core.Path.{◌≡◌, refl, sym, ap, ◌∙◌}
use mathlib.Core.Bool.{Bool, true, false, not, ◌&&◌}
use mathlib.Core.List.{List}
use Prim.Native.Nat.{ℕ, suc, ◌+◌, ◌*◌, ◌≤◌, zero-le}
use native.Mathlib.Numerals.{add-one}
use lib.ListN.{get_or}
use lib.Ieee.{Float, nan, inf, lt, le}
use borrow.Author.Tests.{eq-eqb, ne_eqb}
use Rattle.numbers.specs.Hypot.{hypot_of}
use Rattle.numbers.specs.Ops.{◌⊖◌, f0}
use Rattle.numbers.specs.Order.{pick}
use Rattle.numbers.specs.Table.{how_many}
use Rattle.numbers.proofs.order.Tables.{how_many_yes, how_many_no, how_many_le, how_many_zero}
use Rattle.plane.specs.Near.{distance, nearer, nearest_to, nearest, near, within, neighbours}
use Rattle.numbers.proofs.float.Signs.{inf_bits}
use Rattle.plane.proofs.neighbours.Fills.{fill_none, fill_more}

module _ (ps : List Float) (i : ℕ) where
  -- the distance to point j, as the code has it
  abbrev pub away_by : ℕ → Float
  away_by j = hypot_of (get_or ps (2 * j) nan ⊖ get_or ps (2 * i) nan) (get_or ps (2 * j + 1) nan ⊖ get_or ps (2 * i + 1) nan)

  -- point i itself changes nothing, another is taken where it is nearer
  pub nearest_same : (j : ℕ) (b : Float) → b ≡ nearest_to ps i j → j ≡ i → b ≡ nearest_to ps i (j + 1)
  unfolding nearest_to
  nearest_same j b e h = rw (add-one, eq-eqb j i h) e

  pub nearest_other : (j : ℕ) (b r : Float) → b ≡ nearest_to ps i j → (j ≡ i → ⊥) → r ≡ nearer b (away_by j) → r ≡ nearest_to ps i (j + 1)
  unfolding nearest_to distance
  nearest_other j b r e h k = rw (add-one, ne_eqb j i h) (k ∙ ap (λ (t : Float). nearer t (away_by j)) e)

  -- the count goes up where the point is another and near
  module _ (radius : Float) where
    own : (j : ℕ) → j ≡ i → near ps radius i j ≡ false
    unfolding near distance
    own j h = ap (λ (t : Bool). not t && le (away_by j) radius) (eq-eqb j i h)

    other : (j : ℕ) (v : Bool) → (j ≡ i → ⊥) → v ≡ le (away_by j) radius → near ps radius i j ≡ v
    unfolding near distance
    other j v h e = ap (λ (t : Bool). not t && le (away_by j) radius) (ne_eqb j i h) ∙ sym e

    pub near_same : (j c : ℕ) → c ≡ how_many (near ps radius i) j → j ≡ i → c ≡ how_many (near ps radius i) (j + 1)
    near_same j c e h = rw add-one (e ∙ sym (how_many_no (near ps radius i) j (own j h)))

    pub near_more : (j c : ℕ) (v : Bool) → c ≡ how_many (near ps radius i) j → (j ≡ i → ⊥) → v ≡ le (away_by j) radius → v ≡ true
        → c + 1 ≡ how_many (near ps radius i) (j + 1)
    near_more j c v e h k y = rw (add-one c, add-one j) (ap suc e ∙ sym (how_many_yes (near ps radius i) j (other j v h k ∙ y)))

    pub near_less : (j c : ℕ) (v : Bool) → c ≡ how_many (near ps radius i) j → (j ≡ i → ⊥) → v ≡ le (away_by j) radius → v ≡ false
        → c ≡ how_many (near ps radius i) (j + 1)
    near_less j c v e h k y = rw add-one (e ∙ sym (how_many_no (near ps radius i) j (other j v h k ∙ y)))

-- there are no more neighbours than points
module _ (ps : List Float) (n : ℕ) (radius : Float) (i : ℕ) where
  pub within_le : within ps n radius i ≤ n
  unfolding within
  within_le = how_many_le (near ps radius i) n

  pub neighbours_le : neighbours ps n radius i ≤ n
  unfolding neighbours
  neighbours_le = go (lt f0 radius)
    where
      go : (b : Bool) → pick b (within ps n radius i) 0 ≤ n
      go true = within_le
      go false = zero-le

  pub within_is : within ps n radius i ≡ how_many (near ps radius i) n
  unfolding within
  within_is = refl

  pub neighbours_none : lt f0 radius ≡ false → neighbours ps n radius i ≡ 0
  unfolding neighbours
  neighbours_none h = ap (λ (b : Bool). pick b (within ps n radius i) 0) h

module _ (ps : List Float) (n i : ℕ) where
  pub nearest_start : nearest_to ps i 0 ≡ inf false
  unfolding nearest_to
  nearest_start = refl

  pub nearest_is : nearest ps n i ≡ nearest_to ps i n
  unfolding nearest
  nearest_is = refl

-- points near point i, one more each time
pub ruleset near_laws = (how_many_zero, near_same, near_more, near_less, within_is)

-- the nearest distance, one point more each time
pub ruleset nearest_laws = (inf_bits, nearest_same, nearest_other, nearest_start, nearest_is)

pub ruleset counts_laws = (fill_none, fill_more, neighbours_le)
