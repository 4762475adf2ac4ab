-- `hypot_of` is the hypotenuse: an infinite side gives infinity, else NaN gives NaN, else it is the exact root rounded once. Assumes nothing.
use mathlib.Core.Path.{◌≡◌, sym, subst}
use lib.Ieee.{Float}
use Rattle.numbers.specs.Hypot.{hypot_of}
use Rattle.numbers.specs.Laws.{IsHypotenuse}
use Rattle.numbers.proofs.float.RoundLaws.{hypot_rounded, hypot_inf, hypot_nan}

pub is_hypotenuse : (x y r : Float) → r ≡ hypot_of x y → IsHypotenuse x y r
is_hypotenuse x y r e =
    subst (IsHypotenuse x y) (sym e) (record {
      infinite = λ s h. hypot_inf x y s h;
      no_number = λ f g h. hypot_nan x y f g h;
      finite = λ s t a b h k. hypot_rounded x y s t a b h k;
    })
