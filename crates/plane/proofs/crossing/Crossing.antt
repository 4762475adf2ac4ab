-- Sizes of what `segments_cross` and `line_param` compute. Two segments that cross are long enough: were both differences of one's ends tiny, the product of the two turns would be rounded to zero.
-- Where two lines aren't parallel, the place is a number from 0 to 1. Assumes nothing.
use mathlib.Core.Path.{◌≡◌, refl, sym, ◌∙◌, subst}
use mathlib.Core.Logic.{◌⊎◌, inl, inr}
use Prim.Native.Nat.{ℕ, ◌+◌, ◌-◌, ◌*◌, ◌≤◌}
use native.Mathlib.Omega.{arith}
use mathlib.Core.Bool.{Bool, true, false, ◌&&◌, cond, true≢false}
use lib.Dec.{T, lit<, lit≤}
use lib.Ieee.{Float, lt, of_bits, of_fields, odd}
use Rattle.numbers.specs.Small.{is_finite, max_of, clamp_of}
use Rattle.numbers.specs.Hypot.{hypot_of}
use Rattle.numbers.specs.Ops.{◌⊖◌, ◌⊗◌, ◌⊘◌, f0, f1, least_normal}
use Rattle.numbers.specs.Size.{AtMost, AtLeast}
use Rattle.numbers.proofs.float.Keys.{plus}
use Rattle.numbers.proofs.float.Signs.{zero_bits}
use Rattle.numbers.proofs.float.SizeLaws.{most_weaken, most_or_least, sub_most, sub_under, mul_most, mul_gone, mul_least, hypot_most, max_most, max_least, size_least, clamp_most, zero_not_below, f0_most, f1_most, tiny_most, tiny_least, normal_most, normal_least}
use Rattle.numbers.proofs.float.Quotients.{div_number}
use Rattle.numbers.proofs.float.Bounds.{size_of, plus_unsigned, mul_unsigned, max_unsigned, hypot_plus}
use Rattle.plane.specs.declared.geometry.Point.{Point}
use Rattle.plane.proofs.geometry.PointSizes.{Near}
use Rattle.plane.specs.declared.crossing.Param.TheVariants.{At, Parallel}
use Rattle.plane.specs.Cross.{orient, crosses, parallel, param, fraction_or, tiny}

-- ---- a turn round a short side
-- the side's two parts are at most k, the coordinates at most m
turn_most : (m k g : ℕ) (a b p : Point) → m + 1 ≤ 2097 → k + m + 2 ≤ g + 1074 → 1 ≤ g → g ≤ 2097 → Near m a → Near m p → AtMost k (b.x ⊖ a.x) → AtMost k (b.y ⊖ a.y) → AtMost g (orient a b p)
unfolding orient
turn_most m k g a b p M K G L A P h i =
    sub_under (g - 1) (g - 1) g ((b.x ⊖ a.x) ⊗ (p.y ⊖ a.y)) ((b.y ⊖ a.y) ⊗ (p.x ⊖ a.x)) (omega arith) (omega arith) L
    (mul_most k (m + 1) (g - 1) (b.x ⊖ a.x) (p.y ⊖ a.y) (omega arith) (omega arith) h (sub_most m p.y a.y (omega arith) P.y A.y))
    (mul_most k (m + 1) (g - 1) (b.y ⊖ a.y) (p.x ⊖ a.x) (omega arith) (omega arith) i (sub_most m p.x a.x (omega arith) P.x A.x))

-- so the product of two turns is no number below zero
turns_gone : (m k : ℕ) (a b p q : Point) → m ≤ 2096 → k + m ≤ 1608 → Near m a → Near m p → Near m q → AtMost k (b.x ⊖ a.x) → AtMost k (b.y ⊖ a.y) → lt (orient a b p ⊗ orient a b q) f0 ≡ false
turns_gone m k a b p q M K A P Q h i =
    subst (λ (z : Float). lt (orient a b p ⊗ orient a b q) z ≡ false) (sym zero_bits)
    (zero_not_below 1 (orient a b p ⊗ orient a b q) (lit< tt)
    (mul_gone 536 536 (orient a b p) (orient a b q) (lit≤ tt)
    (turn_most m k 536 a b p (omega arith) (omega arith) (lit≤ tt) (lit≤ tt) A P h i)
    (turn_most m k 536 a b q (omega arith) (omega arith) (lit≤ tt) (lit≤ tt) A Q h i)))

-- where that product is below zero, one of the parts is at least 2 ^ (k - 1074)
turns_least : (m k : ℕ) (a b p q : Point) → m ≤ 2096 → k + m ≤ 1608 → Near m a → Near m b → Near m p → Near m q → lt (orient a b p ⊗ orient a b q) f0 ≡ true → AtLeast k (b.x ⊖ a.x) ⊎ AtLeast k (b.y ⊖ a.y)
turns_least m k a b p q M K A B P Q t =
    go (most_or_least k (b.x ⊖ a.x) (sub_most m b.x a.x M B.x A.x).finite) (most_or_least k (b.y ⊖ a.y) (sub_most m b.y a.y M B.y A.y).finite)
  where
    go : AtMost k (b.x ⊖ a.x) ⊎ AtLeast k (b.x ⊖ a.x) → AtMost k (b.y ⊖ a.y) ⊎ AtLeast k (b.y ⊖ a.y) → AtLeast k (b.x ⊖ a.x) ⊎ AtLeast k (b.y ⊖ a.y)
    go (inr h) z = inl h
    go (inl h) (inr i) = inr i
    go (inl h) (inl i) = absurd (true≢false (sym t ∙ turns_gone m k a b p q M K A P Q h i))

and_first : (a b : Bool) → (a && b) ≡ true → a ≡ true
and_first true b h = refl
and_first false b h = h

and_second : (a b : Bool) → (a && b) ≡ true → b ≡ true
and_second true b h = h
and_second false b h = absurd (true≢false (sym h))

-- p q and a b cross. Then a b is no shorter than 2 ^ (k - 1074), and p q isn't either
module _ (m k : ℕ) (p q a b : Point) (M : m ≤ 2096) (K : k + m ≤ 1608) (P : Near m p) (Q : Near m q) (A : Near m a) (B : Near m b) where
  pub crossing_least : crosses p q a b ≡ true → AtLeast k (b.x ⊖ a.x) ⊎ AtLeast k (b.y ⊖ a.y)
  unfolding crosses
  crossing_least h = turns_least m k a b p q M K A B P Q (and_first (lt (orient a b p ⊗ orient a b q) f0) (lt (orient p q a ⊗ orient p q b) f0) h)

  pub crossed_least : crosses p q a b ≡ true → AtLeast k (q.x ⊖ p.x) ⊎ AtLeast k (q.y ⊖ p.y)
  unfolding crosses
  crossed_least h = turns_least m k p q a b M K P Q A B (and_second (lt (orient a b p ⊗ orient a b q) f0) (lt (orient p q a ⊗ orient p q b) f0) h)

-- the numbers of a drawing: coordinates within 2 ^ 71, a difference of at least 2 ^ -611, so of 2 ^ -650
pub crossing_71 : (p q a b : Point) → Near (1074 + 71) p → Near (1074 + 71) q → Near (1074 + 71) a → Near (1074 + 71) b → crosses p q a b ≡ true
    → AtLeast (1074 - 611) (b.x ⊖ a.x) ⊎ AtLeast (1074 - 611) (b.y ⊖ a.y)
crossing_71 p q a b P Q A B h = crossing_least (1074 + 71) (1074 - 611) p q a b (lit≤ tt) (lit≤ tt) P Q A B h

-- ---- where two lines meet
tiny_plus : T (plus tiny)
unfolding plus of_bits of_fields odd
tiny_plus = tt

normal_plus : T (plus least_normal)
unfolding plus of_bits of_fields odd
normal_plus = tt

-- directions of parts that are at most 2 ^ (n - 1074)
module _ (n : ℕ) (r s : Point) (N : 2 * n ≤ 3168) (R : Near n r) (S : Near n s) where
  lengths : AtMost 2096 (hypot_of r.x r.y ⊗ hypot_of s.x s.y)
  lengths =
      mul_most (n + 1) (n + 1) 2096 (hypot_of r.x r.y) (hypot_of s.x s.y) (omega arith) (lit≤ tt)
      (hypot_most n n (n + 1) r.x r.y (omega arith) (omega arith) (omega arith) R.x R.y)
      (hypot_most n n (n + 1) s.x s.y (omega arith) (omega arith) (omega arith) S.x S.y)

  widest : AtMost 2096 (max_of (hypot_of r.x r.y ⊗ hypot_of s.x s.y) least_normal)
  widest = max_most 2096 (hypot_of r.x r.y ⊗ hypot_of s.x s.y) least_normal lengths (most_weaken (1074 - 1022) 2096 least_normal (lit≤ tt) normal_most)

  bound_finite : AtMost 2096 (tiny ⊗ max_of (hypot_of r.x r.y ⊗ hypot_of s.x s.y) least_normal)
  bound_finite = mul_most (1074 - 39) 2096 2096 tiny (max_of (hypot_of r.x r.y ⊗ hypot_of s.x s.y) least_normal) (lit≤ tt) (lit≤ tt) tiny_most widest

  bound_least : AtLeast 12 (tiny ⊗ max_of (hypot_of r.x r.y ⊗ hypot_of s.x s.y) least_normal)
  bound_least =
      mul_least (1074 - 40) (1074 - 1022) 12 tiny (max_of (hypot_of r.x r.y ⊗ hypot_of s.x s.y) least_normal) (lit≤ tt) (lit≤ tt) tiny_least
      (max_least (1074 - 1022) (hypot_of r.x r.y ⊗ hypot_of s.x s.y) least_normal lengths.finite normal_plus normal_least) bound_finite.finite

  -- the divisor is at least 2 ^ -1062
  pub divisor_least : (d : Float) → T (is_finite d) → parallel d r s ≡ false → AtLeast 12 d
  unfolding parallel
  divisor_least d f h = size_least 12 d (tiny ⊗ max_of (hypot_of r.x r.y ⊗ hypot_of s.x s.y) least_normal) f (bound-plus bound_finite.finite) h bound_least
    where
      bound-plus : T (is_finite (tiny ⊗ max_of (hypot_of r.x r.y ⊗ hypot_of s.x s.y) least_normal)) → T (plus (tiny ⊗ max_of (hypot_of r.x r.y ⊗ hypot_of s.x s.y) least_normal))
      bound-plus f =
          (size_of (tiny ⊗ max_of (hypot_of r.x r.y ⊗ hypot_of s.x s.y) least_normal)
          (mul_unsigned tiny (max_of (hypot_of r.x r.y ⊗ hypot_of s.x s.y) least_normal) (plus_unsigned tiny tiny_plus)
          (max_unsigned (hypot_of r.x r.y ⊗ hypot_of s.x s.y) least_normal
          (mul_unsigned (hypot_of r.x r.y) (hypot_of s.x s.y) (plus_unsigned (hypot_of r.x r.y) (hypot_plus r.x r.y R.x.finite R.y.finite)) (plus_unsigned (hypot_of s.x s.y) (hypot_plus s.x s.y S.x.finite S.y.finite)))
          (plus_unsigned least_normal normal_plus))) f).1

-- the place is at most 1 in size, whatever the quotient
pub place_most : (m : ℕ) (p q u w : Point) (other : Float) → m ≤ 1500 → Near m p → Near m q → Near m u → Near m w → AtMost 1074 other → AtMost 1074 (fraction_or (param p q u w) other)
unfolding param fraction_or
place_most m p q u w other M P Q U W o = at (parallel denom r s) refl
  where
    r : Point
    r = record { x = q.x ⊖ p.x; y = q.y ⊖ p.y }

    s : Point
    s = record { x = w.x ⊖ u.x; y = w.y ⊖ u.y }

    denom : Float
    denom = r.x ⊗ s.y ⊖ r.y ⊗ s.x

    over : Float
    over = (u.x ⊖ p.x) ⊗ r.y ⊖ (u.y ⊖ p.y) ⊗ r.x

    part : (a b : Float) → AtMost m a → AtMost m b → AtMost (m + 1) (a ⊖ b)
    part a b h i = sub_most m a b (omega arith) h i

    R : Near (m + 1) r
    R = record { x = part q.x p.x Q.x P.x; y = part q.y p.y Q.y P.y }

    S : Near (m + 1) s
    S = record { x = part w.x u.x W.x U.x; y = part w.y u.y W.y U.y }

    cross-finite : (a b c d : Float) → AtMost (m + 1) a → AtMost (m + 1) b → AtMost (m + 1) c → AtMost (m + 1) d → T (is_finite (a ⊗ b ⊖ c ⊗ d))
    cross-finite a b c d h i j k =
        (sub_most 2096 (a ⊗ b) (c ⊗ d) (lit≤ tt) (mul_most (m + 1) (m + 1) 2096 a b (omega arith) (lit≤ tt) h i) (mul_most (m + 1) (m + 1) 2096 c d (omega arith) (lit≤ tt) j k)).finite

    at : (b : Bool) → parallel denom r s ≡ b → AtMost 1074 (fraction_or (cond b Parallel (At (clamp_of (over ⊘ denom) f0 f1))) other)
    at true e = o
    at false e =
        clamp_most 1074 (over ⊘ denom) f0 f1
        (div_number 12 over denom (cross-finite (u.x ⊖ p.x) r.y (u.y ⊖ p.y) r.x (part u.x p.x U.x P.x) R.y (part u.y p.y U.y P.y) R.x)
        (divisor_least (m + 1) r s (omega arith) R S denom (cross-finite r.x s.y r.y s.x R.x S.y R.y S.x) e))
        (f0_most 1074) f1_most
