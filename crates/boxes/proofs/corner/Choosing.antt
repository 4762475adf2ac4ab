-- The cheapest of the corners, one after the other. Assumes nothing.
use mathlib.Core.Path.{◌≡◌, refl, sym, ap, ◌∙◌}
use mathlib.Core.Bool.{Bool, true, false, cond}
use mathlib.Core.List.{List, ◌∷◌}
use Prim.Native.Nat.{ℕ, ◌+◌, ◌≤◌, ◌<◌}
use native.Mathlib.Numerals.{add-one}
use borrow.Author.Tests.{lt-ltb, le-ltb}
use lib.Dec.{ltb}
use lib.ListN.{length, get_or, drop, drop_of_length-le}
use lib.Seq.{drop-cons}
use Rattle.plane.specs.declared.geometry.Point.{Point}
use Rattle.plane.specs.declared.geometry.Box.{Box}
use Rattle.std.specs.Prelude.{Option, Some}
use Rattle.boxes.specs.Corner.{cost_key, avoids, avoiding, cheaper, cheapest}

-- one more point beside the cheapest so far, d
module _ (p q c d : Point) (best : Option Point) (a b : ℕ) (e : best ≡ Some d) (f : a ≡ cost_key p q c) (g : b ≡ cost_key p q d) where
  by : cond (ltb a b) (Some c) (Some d) ≡ cheaper p q best c
  unfolding cheaper
  by = ap (λ (m : ℕ). cond (ltb m b) (Some c) (Some d)) f ∙ ap (λ (m : ℕ). cond (ltb (cost_key p q c) m) (Some c) (Some d)) g ∙ ap (λ (x : Option Point). cheaper p q x c) (sym e)

  pub cheaper_new : a < b → Some c ≡ cheaper p q best c
  cheaper_new h = ap (λ (t : Bool). cond t (Some c) (Some d)) (sym (lt-ltb a b h)) ∙ by

  pub cheaper_old : b ≤ a → Some d ≡ cheaper p q best c
  cheaper_old h = ap (λ (t : Bool). cond t (Some c) (Some d)) (sym (le-ltb a b h)) ∙ by

-- the points of a list taken in turn
pub one_more : (p q : Point) (l : List Point) (i : ℕ) (best x : Option Point) (d : Point) → i < length l → x ≡ cheaper p q best (get_or l i d)
    → cheapest p q best (drop i l) ≡ cheapest p q x (drop (i + 1) l)
unfolding cheapest
one_more p q l i best x d h e =
    ap (cheapest p q best) (drop-cons l i d h ∙ ap (λ (n : ℕ). get_or l i d ∷ drop n l) (sym (add-one i)))
    ∙ ap (λ (z : Option Point). cheapest p q z (drop (i + 1) l)) (sym e)

pub all_taken : (p q : Point) (l : List Point) (i : ℕ) (best : Option Point) → length l ≤ i → best ≡ cheapest p q best (drop i l)
unfolding cheapest
all_taken p q l i best h = ap (cheapest p q best) (sym (drop_of_length-le l h))

module _ (p q : Point) (b : Box) where
  -- the cheapest so far after one more point, where that clears the box
  abbrev after : Option Point → Point → Option Point
  after best c = cond (avoids p q b c) (cheaper p q best c) best

  clear_step : (best : Option Point) (c : Point) (cs : List Point) → cheapest p q best (avoiding p q b (c ∷ cs)) ≡ cheapest p q (after best c) (avoiding p q b cs)
  unfolding cheapest avoiding
  clear_step best c cs = go (avoids p q b c)
    where
      go : (t : Bool) → cheapest p q best (cond t (c ∷ avoiding p q b cs) (avoiding p q b cs)) ≡ cheapest p q (cond t (cheaper p q best c) best) (avoiding p q b cs)
      go true = refl
      go false = refl

  pub clear_more : (l : List Point) (i : ℕ) (best x : Option Point) (d : Point) → i < length l → x ≡ after best (get_or l i d)
      → cheapest p q best (avoiding p q b (drop i l)) ≡ cheapest p q x (avoiding p q b (drop (i + 1) l))
  clear_more l i best x d h e =
      ap (λ (z : List Point). cheapest p q best (avoiding p q b z)) (drop-cons l i d h ∙ ap (λ (n : ℕ). get_or l i d ∷ drop n l) (sym (add-one i)))
      ∙ clear_step best (get_or l i d) (drop (i + 1) l) ∙ ap (λ (z : Option Point). cheapest p q z (avoiding p q b (drop (i + 1) l))) (sym e)

  pub all_clear_taken : (l : List Point) (i : ℕ) (best : Option Point) → length l ≤ i → best ≡ cheapest p q best (avoiding p q b (drop i l))
  unfolding cheapest avoiding
  all_clear_taken l i best h = ap (λ (z : List Point). cheapest p q best (avoiding p q b z)) (sym (drop_of_length-le l h))
