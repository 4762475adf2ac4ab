-- Points and sizes of two drawings side by side, the second one's doubled: each of its numbers is the double of the
-- first one's, which is a multiple of 2 ^ lo grains and at most `top` grains in size. Definitions only.
use Rattle.std.specs.Prelude.{ℕ, List, [], ◌∷◌}
use Rattle.numbers.specs.Double.{Doubles}
use Rattle.plane.specs.declared.geometry.Point.{Point}
use Rattle.stations.specs.Size.{Size}

pub record DoublesPoint (lo top : ℕ) (p p' : Point) : Type 0 where
  pub x : Doubles lo top p.x p'.x
  pub y : Doubles lo top p.y p'.y

pub record DoublesSize (lo top : ℕ) (z z' : Size) : Type 0 where
  pub w : Doubles lo top z.w z'.w
  pub h : Doubles lo top z.h z'.h

-- two lists, element by element
abbrev pub Paired : {A : Type 0} → (A → A → Type 0) → List A → List A → Type 0
Paired R [] [] = Unit
Paired R [] (y ∷ ys) = ⊥
Paired R (x ∷ xs) [] = ⊥
Paired R (x ∷ xs) (y ∷ ys) = R x y × Paired R xs ys
