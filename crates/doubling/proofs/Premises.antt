-- What doubling asks of a coordinate, as tests of floats, gives its range: a nonzero one is at least 2 ^ -500 and at most 5 × 10 ^ 11 in size. Assumes nothing.
use mathlib.Core.Path.{◌≡◌, refl, sym, ap, ◌∙◌, subst}
use mathlib.Core.Logic.{◌⊎◌, inl, inr}
use mathlib.Core.Bool.{Bool, true, false, ◌&&◌}
use mathlib.Core.List.{List, map}
use Prim.Native.Nat.{ℕ, ◌+◌, ◌*◌, ◌^◌, ◌≤◌}
use native.Mathlib.Nat.{le_trans, le_of_eq}
use lib.Dec.{T, lit≤}
use lib.ListN.{get_or, get_or-map}
use lib.Ieee.{Float, nan, binary64, fits, lt, eq, of_bits}
use borrow.Author.Tests.{ltb-false}
use Rattle.numbers.specs.Small.{abs_of, is_finite}
use Rattle.numbers.specs.Hypot.{grains}
use Rattle.numbers.specs.Ops.{f0}
use Rattle.numbers.specs.Double.{twice, scaled, Finite, Stepped}
use Rattle.numbers.proofs.float.Signs.{abs_at}
use Rattle.numbers.proofs.float.Whole.{abs_grains}
use Rattle.numbers.proofs.float.DoubleLaws.{lt_twice, abs_twice, finite_twice}
use Rattle.numbers.proofs.float.DoubleKeys.{lt_abs}
use Rattle.numbers.proofs.float.DoubleRange.{number_stepped}
use Rattle.network.specs.Refusal.{above}
use Rattle.doubling.specs.Twice.{DoubledMap}
use Rattle.doubling.specs.Doubling.{least, Allowed}
use Rattle.doubling.proofs.Seeds.{Mapped}

zero_grains : grains f0 ≡ 0
unfolding grains of_bits
zero_grains = refl

-- ---- every number doubled, as data: one such list
nan_twice : twice nan ≡ nan
unfolding twice
nan_twice = refl

at_twice : (xy : List Float) (k : ℕ) → get_or (map twice xy) k nan ≡ twice (get_or xy k nan)
at_twice xy k = ap (λ (d : Float). get_or (map twice xy) k d) (sym nan_twice) ∙ get_or-map twice xy k nan

pub map_doubled : (xy : List Float) → DoubledMap xy (map twice xy)
map_doubled xy i = record {
  first = λ e f. at_twice xy (2 * i);
  second = λ e f. at_twice xy (2 * i + 1);
  absent = λ e. ap (λ (x : Float). is_finite x && is_finite (get_or (map twice xy) (2 * i + 1) nan)) (at_twice xy (2 * i)) ∙ ap (λ (x : Float). is_finite (twice (get_or xy (2 * i) nan)) && is_finite x) (at_twice xy (2 * i + 1)) ∙ ap (λ (b : Bool). b && is_finite (twice (get_or xy (2 * i + 1) nan))) (finite_twice (get_or xy (2 * i) nan)) ∙ ap (λ (b : Bool). is_finite (get_or xy (2 * i) nan) && b) (finite_twice (get_or xy (2 * i + 1) nan)) ∙ e;
}

-- ---- a number between two constants in size, or 0
module _ (x low high : Float) (f : Finite x) (g : Finite low) (h : Finite high) (a : abs_of low ≡ low) (b : abs_of high ≡ high) where
  at_most : lt high (abs_of x) ≡ false → grains x ≤ grains high
  at_most e = ltb-false (grains high) (grains x) (sym (lt_abs high x h f) ∙ ap (λ (y : Float). lt y (abs_of x)) b ∙ e)

  pub at_least : lt (abs_of x) low ≡ false → grains low ≤ grains x
  at_least e = ltb-false (grains x) (grains low) (sym (lt_abs x low f g) ∙ ap (λ (y : Float). lt (abs_of x) y) a ∙ e)

  pub between_stepped : (lo top : ℕ) → (eq x f0 ≡ false → lt (abs_of x) low ≡ false) → lt high (abs_of x) ≡ false → 2 ^ (52 + lo) ≤ grains low → grains high ≤ top → Stepped lo top x
  between_stepped lo top p q i j = number_stepped x lo top f (go (eq x f0) refl) (le_trans (at_most q) j)
    where
      go : (t : Bool) → eq x f0 ≡ t → (grains x ≡ 0) ⊎ (2 ^ (52 + lo) ≤ grains x)
      go true e = inl (sym (abs_grains x) ∙ ap grains (sym (abs_at x f.held e)) ∙ zero_grains)
      go false e = inr (le_trans i (at_least (p e)))

pub least_number : Finite least
unfolding fits is_finite of_bits
least_number = record { held = tt; finite = tt }

-- 5 × 10 ^ 11: twice that is 10 ^ 12
abbrev pub farthest : Float
farthest = of_bits binary64 0x425D_1A94_A200_0000

pub farthest_number : Finite farthest
unfolding fits is_finite of_bits
farthest_number = record { held = tt; finite = tt }

pub least_plus : abs_of least ≡ least
unfolding abs_of of_bits
least_plus = refl

pub farthest_plus : abs_of farthest ≡ farthest
unfolding abs_of of_bits
farthest_plus = refl

least_grains : grains least ≡ 2 ^ 574
unfolding grains of_bits
least_grains = refl

farthest_grains : grains farthest ≡ 500_000_000_000 * 2 ^ 1074
unfolding grains of_bits
farthest_grains = refl

edge : of_bits binary64 0x426D_1A94_A200_0000 ≡ twice farthest
unfolding twice of_bits
edge = refl

-- above 10 ^ 12 once it is doubled: above 5 × 10 ^ 11
pub above_twice : (x : Float) → above (twice x) ≡ lt farthest (abs_of x)
unfolding above
above_twice x = ap (λ (y : Float). lt (of_bits binary64 0x426D_1A94_A200_0000) y) (abs_twice x) ∙ ap (λ (y : Float). lt y (twice (abs_of x))) edge ∙ lt_twice farthest (abs_of x)

near_once : (x : Float) → Allowed 1 x → lt farthest (abs_of x) ≡ false
unfolding scaled
near_once x a = sym (above_twice x) ∙ a.near

pub coordinate_stepped : (x : Float) → T (fits binary64 x) → T (is_finite x) → Allowed 1 x → Stepped 522 (2 ^ 1113) x
coordinate_stepped x f g a =
    between_stepped x least farthest (record { held = f; finite = g }) least_number farthest_number least_plus farthest_plus 522 (2 ^ 1113) a.large (near_once x a) (le_of_eq (sym least_grains)) (le_trans (le_of_eq farthest_grains) (lit≤ tt))

-- ---- the map points of a network
module _ (xy : List Float) (F : (k : ℕ) → T (fits binary64 (get_or xy k nan))) (A : (i : ℕ) → is_finite (get_or xy (2 * i) nan) ≡ true → is_finite (get_or xy (2 * i + 1) nan) ≡ true → Allowed 1 (get_or xy (2 * i) nan) × Allowed 1 (get_or xy (2 * i + 1) nan)) where
  pub mapped : Mapped 522 (2 ^ 1113) xy
  mapped i p q = (
    coordinate_stepped (get_or xy (2 * i) nan) (F (2 * i)) (subst T (sym p) tt) (A i p q).0,
    coordinate_stepped (get_or xy (2 * i + 1) nan) (F (2 * i + 1)) (subst T (sym q) tt) (A i p q).1,
  )
