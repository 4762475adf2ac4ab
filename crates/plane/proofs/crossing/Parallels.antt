-- Where a cross product reaches the bound that the sums of the sides' sizes give, it is not below the bound that the lengths give. Assumes nothing.
use mathlib.Core.Path.{◌≡◌, refl, sym, subst}
use mathlib.Core.Bool.{Bool, true, false}
use lib.Dec.{T}
use lib.Ieee.{Float, nan, inf, fin, lt, le, fits, binary64, of_bits, of_fields, odd}
use Rattle.numbers.specs.Small.{abs_of, is_finite, max_of}
use Rattle.numbers.specs.Hypot.{hypot_of}
use Rattle.numbers.specs.Ops.{◌⊕◌, ◌⊗◌, least_normal}
use Rattle.numbers.proofs.float.Keys.{plus, le_self, not_both}
use Rattle.numbers.proofs.float.Bounds.{Size, unsigned, size_of, plus_number, plus_unsigned, abs_unsigned, add_unsigned, mul_unsigned, max_unsigned, abs_finite, add_finite, mul_finite, max_finite, le_finite, le_through, max_mono, mul_mono, hypot_plus, hypot_under}
use Rattle.plane.specs.Plane.{point}
use Rattle.plane.specs.Cross.{parallel, tiny}

-- the sum of the sides' sizes
abbrev pub sides : Float → Float → Float
sides x y = abs_of x ⊕ abs_of y

-- the bound that two lengths p and q give; c stands for 1e-12 and l for the least normal number
abbrev pub bound : Float → Float → Float → Float → Float
bound c l p q = c ⊗ max_of (p ⊗ q) l

untrue : (b : Bool) → (T b → ⊥) → b ≡ false
untrue true h = absurd (h tt)
untrue false h = refl

not_under : (b : Float) → lt (inf false) b ≡ false
unfolding lt
not_under nan = refl
not_under (inf t) = refl
not_under (fin t n d) = refl

-- ---- the bound grows with the lengths
bound_unsigned : (c l p q : Float) → T (plus c) → T (plus l) → T (unsigned p) → T (unsigned q) → T (unsigned (bound c l p q))
bound_unsigned c l p q C L P Q = mul_unsigned c (max_of (p ⊗ q) l) (plus_unsigned c C) (max_unsigned (p ⊗ q) l (mul_unsigned p q P Q) (plus_unsigned l L))

bound_mono : (c l p p' q q' : Float) → Size c → T (plus l) → Size p → Size p' → Size q → Size q' → T (is_finite (bound c l p' q')) → T (le p p') → T (le q q') → T (le (bound c l p q) (bound c l p' q'))
bound_mono c l p p' q q' C L P P' Q Q' F h k =
    let U : T (unsigned (p ⊗ q)) = mul_unsigned p q (plus_unsigned p P.1) (plus_unsigned q Q.1) in
    let U' : T (unsigned (p' ⊗ q')) = mul_unsigned p' q' (plus_unsigned p' P'.1) (plus_unsigned q' Q'.1) in
    let M' : T (is_finite (max_of (p' ⊗ q') l)) = (mul_finite c (max_of (p' ⊗ q') l) F).1 in
    let A' : Size (p' ⊗ q') = size_of (p' ⊗ q') U' (max_finite (p' ⊗ q') l U' M') in
    let g : T (le (p ⊗ q) (p' ⊗ q')) = mul_mono p p' q q' P P' Q Q' h k in
    let A : Size (p ⊗ q) = size_of (p ⊗ q) U (le_finite (p ⊗ q) (p' ⊗ q') U A'.0 g) in
    let i : T (le (max_of (p ⊗ q) l) (max_of (p' ⊗ q') l)) = max_mono (p ⊗ q) (p' ⊗ q') l A.1 A'.1 L g in
    let W : T (unsigned (max_of (p ⊗ q) l)) = max_unsigned (p ⊗ q) l U (plus_unsigned l L) in
    let W' : T (unsigned (max_of (p' ⊗ q') l)) = max_unsigned (p' ⊗ q') l U' (plus_unsigned l L) in
    mul_mono c c (max_of (p ⊗ q) l) (max_of (p' ⊗ q') l) C C
    (size_of (max_of (p ⊗ q) l) W (le_finite (max_of (p ⊗ q) l) (max_of (p' ⊗ q') l) W M' i)) (size_of (max_of (p' ⊗ q') l) W' M')
    (le_self c (plus_number c C.1)) i

-- ---- a direction whose sides' sum is finite
sides_unsigned : (x y : Float) → T (unsigned (sides x y))
sides_unsigned x y = add_unsigned (abs_of x) (abs_of y) (abs_unsigned x) (abs_unsigned y)

module _ (x y : Float) (X : T (fits binary64 x)) (Y : T (fits binary64 y)) (F : T (is_finite (sides x y))) where
  finite : T (is_finite x) × T (is_finite y)
  finite = let z = add_finite (abs_of x) (abs_of y) F in (abs_finite x z.0, abs_finite y z.1)

  length_under : T (le (hypot_of x y) (sides x y))
  length_under = hypot_under x y X Y finite.0 finite.1

  length_size : Size (hypot_of x y)
  length_size =
      let U : T (unsigned (hypot_of x y)) = plus_unsigned (hypot_of x y) (hypot_plus x y finite.0 finite.1) in
      size_of (hypot_of x y) U (le_finite (hypot_of x y) (sides x y) U F length_under)

-- ---- z at or above the bound by the sums is not below the bound by the lengths
module _ (c l x y u v : Float) (C : Size c) (L : T (plus l)) (X : T (fits binary64 x)) (Y : T (fits binary64 y)) (G : T (fits binary64 u)) (H : T (fits binary64 v)) where
  at_finite : (z : Float) → T (plus z) → T (is_finite z) → T (le (bound c l (sides x y) (sides u v)) z) → lt z (bound c l (hypot_of x y) (hypot_of u v)) ≡ false
  at_finite z P Z h =
      let a = sides x y in
      let b = sides u v in
      let b' = bound c l a b in
      let B : T (unsigned b') = bound_unsigned c l a b C.1 L (sides_unsigned x y) (sides_unsigned u v) in
      let F : T (is_finite b') = le_finite b' z B Z h in
      let f = mul_finite a b (max_finite (a ⊗ b) l (mul_unsigned a b (sides_unsigned x y) (sides_unsigned u v)) (mul_finite c (max_of (a ⊗ b) l) F).1) in
      let p : Size (hypot_of x y) = length_size x y X Y f.0 in
      let q : Size (hypot_of u v) = length_size u v G H f.1 in
      let low = bound c l (hypot_of x y) (hypot_of u v) in
      let m : T (le low b') =
      bound_mono c l (hypot_of x y) a (hypot_of u v) b C L p (size_of a (sides_unsigned x y) f.0) q (size_of b (sides_unsigned u v) f.1) F (length_under x y X Y f.0) (length_under u v G H f.1)
      in
      let W : T (unsigned low) = bound_unsigned c l (hypot_of x y) (hypot_of u v) C.1 L (plus_unsigned (hypot_of x y) p.1) (plus_unsigned (hypot_of u v) q.1) in
      let O : Size low = size_of low W (le_finite low b' W F m) in
      untrue (lt z low) (λ t. not_both z low t (le_through low b' z O.1 (size_of b' B F).1 P m h))

  at_size : (z : Float) → T (unsigned z) → T (le (bound c l (sides x y) (sides u v)) z) → lt z (bound c l (hypot_of x y) (hypot_of u v)) ≡ false
  unfolding unsigned lt plus is_finite
  at_size nan P h = refl
  at_size (inf true) P h = absurd P
  at_size (inf false) P h = not_under (bound c l (hypot_of x y) (hypot_of u v))
  at_size (fin true m e) P h = absurd P
  at_size (fin false m e) P h = at_finite (fin false m e) tt tt h

tiny_size : Size tiny
unfolding of_bits of_fields odd is_finite plus
tiny_size = (tt, tt)

least_plus : T (plus least_normal)
unfolding of_bits of_fields odd plus
least_plus = tt

pub not_parallel : (d x y u v : Float) → T (fits binary64 x) → T (fits binary64 y) → T (fits binary64 u) → T (fits binary64 v) → le (bound tiny least_normal (sides x y) (sides u v)) (abs_of d) ≡ true
    → parallel d (point x y) (point u v) ≡ false
unfolding parallel
not_parallel d x y u v X Y G H h = at_size tiny least_normal x y u v tiny_size least_plus X Y G H (abs_of d) (abs_unsigned d) (subst T (sym h) tt)
