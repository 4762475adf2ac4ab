-- What the readers of lines give, field by field. Assumes nothing.
use mathlib.Core.Path.{◌≡◌, refl, ap}
use mathlib.Core.Bool.{◌&&◌, Bool}
use mathlib.Core.List.{List, [], ◌∷◌}
use Prim.Native.Nat.{ℕ}
use lib.Dec.{eqb}
use Rattle.std.specs.List.{starts_with}
use Rattle.text.specs.Field.{Read, got, wrong}
use Rattle.text.proofs.fields.Bounds.{whole_most}
use Rattle.std.proofs.lemmas.List.{take_all}
use lib.ListN.{drop_of_length-le, length-drop}
use mir.ValLaws.{to_z-of_z}
use Rattle.text.specs.Line.{begins, and_then}

-- one value, then what follows it
module _ {A B : Type 0} {r : Read A} (f : A → List ℕ → Read B) where
  pub then_got : {a : A} {l : List ℕ} → r ≡ got a l → and_then r f ≡ f a l
  unfolding and_then
  then_got {a} {l} e = ap (λ (x : Read A). and_then x f) e

  pub then_wrong : r ≡ wrong → and_then r f ≡ wrong
  unfolding and_then
  then_wrong e = ap (λ (x : Read A). and_then x f) e

-- a text against given bytes
pub begins_is : (w l : List ℕ) → begins w l ≡ starts_with eqb l w
unfolding begins
begins_is [] l = refl
begins_is (c ∷ w) [] = refl
begins_is (c ∷ w) (b ∷ l) = ap (λ (t : Bool). eqb c b && t) (begins_is w l)

pub ruleset begins_laws = (begins_is, take_all, drop_of_length-le, length-drop)

pub ruleset line_laws = (whole_most, then_got, then_wrong, to_z-of_z)
