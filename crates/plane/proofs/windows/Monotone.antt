-- Differences with a finite number and quotients by one rise or fall with their first operand, infinite ones included; signs turned turn the order. Assumes nothing.
use mathlib.Core.Path.{◌≡◌, refl, sym, ap, ◌∙◌, subst}
use Prim.Native.Nat.{ℕ, ◌*◌}
use mathlib.Core.Bool.{Bool, true, false, not, cond}
use lib.Dec.{T, eqb}
use lib.IntN.{ℤ}
use lib.Ieee.{Float, nan, inf, fin, binary64, up, down, unlike, lt, le, eq, neg, add, sub, div, round, is_nan, of_bits}
use lib.Ieee.Positive.{positive}
use Rattle.numbers.specs.Small.{is_finite}
use Rattle.numbers.specs.Ops.{◌⊖◌, ◌⊘◌, f0}
use Rattle.numbers.proofs.float.Keys.{le_neg, le_self, not_both}
use Rattle.numbers.proofs.float.Floors.{round_neg}
use Rattle.numbers.proofs.float.Sums.{sub_mono}
use Rattle.numbers.proofs.float.Quotients.{above_positive, div_mono}
use Rattle.numbers.proofs.float.Ordered.{lift, le_left, le_right, low_le, le_high, float_trans, not_below, below_through, same_le, same_ge, le_same, below_le, not_above}

-- ---- signs
twice : (x : Float) → neg (neg x) ≡ x
unfolding neg
twice nan = refl
twice (inf true) = refl
twice (inf false) = refl
twice (fin true m e) = refl
twice (fin false m e) = refl

pub neg_finite : (x : Float) → T (is_finite x) → T (is_finite (neg x))
unfolding is_finite neg
neg_finite nan h = h
neg_finite (inf s) h = h
neg_finite (fin s m e) h = h

below_turned : (x y : Float) → lt x y ≡ true → lt (neg y) (neg x) ≡ true
below_turned x y h = go (lt (neg y) (neg x)) refl
  where
    turned : T (le (neg y) (neg x))
    turned = le_neg x y (below_le x y h)

    go : (b : Bool) → lt (neg y) (neg x) ≡ b → lt (neg y) (neg x) ≡ true
    go true e = e
    go false e =
        let k : T (le (neg (neg y)) (neg (neg x))) = le_neg (neg x) (neg y) (not_below (neg y) (neg x) (le_left (neg y) (neg x) turned) (le_right (neg y) (neg x) turned) e) in
        absurd (not_both x y (lift (lt x y) h) (subst (λ (v : Float). T (le v x)) (twice y) (subst (λ (v : Float). T (le (neg (neg y)) v)) (twice x) k)))

-- ---- zero turned is zero
zeros : T (le (neg f0) f0) × T (le f0 (neg f0))
unfolding neg le lt eq of_bits
zeros = (tt, tt)

pub above_turned : (d : Float) → lt f0 d ≡ true → lt (neg d) f0 ≡ true
above_turned d h =
    let k : lt (neg d) (neg f0) ≡ true = below_turned f0 d h in
    below_through (neg d) (neg d) (neg f0) f0 (le_self (neg d) (le_left (neg d) (neg f0) (below_le (neg d) (neg f0) k))) k zeros.0

pub under_turned : (d : Float) → lt d f0 ≡ true → lt f0 (neg d) ≡ true
under_turned d h =
    let k : lt (neg f0) (neg d) ≡ true = below_turned d f0 h in
    below_through f0 (neg f0) (neg d) (neg d) zeros.1 k (le_self (neg d) (le_right (neg f0) (neg d) (below_le (neg f0) (neg d) k)))

-- what equals zero is neither below nor above, and turned it equals zero
pub level_not_below : (d : Float) → eq d f0 ≡ true → lt d f0 ≡ true → ⊥
level_not_below d h k = not_both d f0 (lift (lt d f0) k) (same_ge d f0 h)

pub level_not_above : (d : Float) → eq d f0 ≡ true → lt f0 d ≡ true → ⊥
level_not_above d h k = not_both f0 d (lift (lt f0 d) k) (same_le d f0 h)

pub level_turned : (d : Float) → eq d f0 ≡ true → eq (neg d) f0 ≡ true
level_turned d h = le_same (neg d) f0 under (not_above f0 (neg d) over)
  where
    under : T (le (neg d) f0)
    under = float_trans (neg d) (neg f0) f0 (le_neg f0 d (same_ge d f0 h)) zeros.0

    over : T (le f0 (neg d))
    over = float_trans f0 (neg f0) (neg d) zeros.1 (le_neg d f0 (same_le d f0 h))

finite_le : (x : Float) → T (is_finite x) → T (le x x)
unfolding is_finite is_nan
finite_le nan f = absurd f
finite_le (inf s) f = absurd f
finite_le (fin s m e) f = le_self (fin s m e) tt

-- ---- a difference with a finite number
pub sub_number : (x z : Float) → T (is_finite z) → T (not (is_nan x)) → T (not (is_nan (x ⊖ z)))
unfolding is_finite is_nan
sub_number nan z f h = absurd h
sub_number (inf s) nan f h = absurd f
sub_number (inf s) (inf t) f h = absurd f
sub_number (inf s) (fin t n d) f h = unfold sub add neg in tt
sub_number (fin s m e) z f h = le_left (fin s m e ⊖ z) (fin s m e ⊖ z) (sub_mono (fin s m e) (fin s m e) z z tt tt f f (finite_le (fin s m e) tt) (finite_le z f))

low_sub : (z : Float) → T (is_finite z) → inf true ⊖ z ≡ inf true
unfolding is_finite sub add neg
low_sub nan f = absurd f
low_sub (inf s) f = absurd f
low_sub (fin s m e) f = refl

high_sub : (z : Float) → T (is_finite z) → inf false ⊖ z ≡ inf false
unfolding is_finite sub add neg
high_sub nan f = absurd f
high_sub (inf s) f = absurd f
high_sub (fin s m e) f = refl

pub sub_rises : (x y z : Float) → T (is_finite z) → T (le x y) → T (le (x ⊖ z) (y ⊖ z))
unfolding le lt eq is_finite
sub_rises nan y z f h = absurd h
sub_rises (inf true) y z f h = subst (λ (v : Float). T (le v (y ⊖ z))) (sym (low_sub z f)) (low_le (y ⊖ z) (sub_number y z f (le_right (inf true) y h)))
sub_rises (inf false) nan z f h = absurd h
sub_rises (inf false) (inf true) z f h = absurd h
sub_rises (inf false) (inf false) z f h = subst (λ (v : Float). T (le v v)) (sym (high_sub z f)) tt
sub_rises (inf false) (fin t n d) z f h = absurd h
sub_rises (fin s m e) nan z f h = absurd h
sub_rises (fin s m e) (inf true) z f h = absurd h
sub_rises (fin s m e) (inf false) z f h = subst (λ (v : Float). T (le (fin s m e ⊖ z) v)) (sym (high_sub z f)) (le_high (fin s m e ⊖ z) (sub_number (fin s m e) z f (le_left (fin s m e) (inf false) h)))
sub_rises (fin s m e) (fin t n d) z f h = sub_mono (fin s m e) (fin t n d) z z tt tt f f h (finite_le z f)

pub sub_number_2 : (z x : Float) → T (is_finite z) → T (not (is_nan x)) → T (not (is_nan (z ⊖ x)))
unfolding is_finite is_nan
sub_number_2 nan x f h = absurd f
sub_number_2 (inf s) x f h = absurd f
sub_number_2 (fin t n d) nan f h = absurd h
sub_number_2 (fin t n d) (inf s) f h = unfold sub add neg in tt
sub_number_2 (fin t n d) (fin s m e) f h = le_left (fin t n d ⊖ fin s m e) (fin t n d ⊖ fin s m e) (sub_mono (fin t n d) (fin t n d) (fin s m e) (fin s m e) tt tt tt tt (finite_le (fin t n d) tt) (finite_le (fin s m e) tt))

sub_low : (z : Float) → T (is_finite z) → z ⊖ inf true ≡ inf false
unfolding is_finite sub add neg
sub_low nan f = absurd f
sub_low (inf s) f = absurd f
sub_low (fin s m e) f = refl

sub_high : (z : Float) → T (is_finite z) → z ⊖ inf false ≡ inf true
unfolding is_finite sub add neg
sub_high nan f = absurd f
sub_high (inf s) f = absurd f
sub_high (fin s m e) f = refl

pub sub_falls : (x y z : Float) → T (is_finite z) → T (le x y) → T (le (z ⊖ y) (z ⊖ x))
unfolding le lt eq is_finite
sub_falls nan y z f h = absurd h
sub_falls (inf true) y z f h = subst (λ (v : Float). T (le (z ⊖ y) v)) (sym (sub_low z f)) (le_high (z ⊖ y) (sub_number_2 z y f (le_right (inf true) y h)))
sub_falls (inf false) nan z f h = absurd h
sub_falls (inf false) (inf true) z f h = absurd h
sub_falls (inf false) (inf false) z f h = subst (λ (v : Float). T (le v v)) (sym (sub_high z f)) tt
sub_falls (inf false) (fin t n d) z f h = absurd h
sub_falls (fin s m e) nan z f h = absurd h
sub_falls (fin s m e) (inf true) z f h = absurd h
sub_falls (fin s m e) (inf false) z f h = subst (λ (v : Float). T (le v (z ⊖ fin s m e))) (sym (sub_high z f)) (low_le (z ⊖ fin s m e) (sub_number_2 z (fin s m e) f (le_left (fin s m e) (inf false) h)))
sub_falls (fin s m e) (fin t n d) z f h = sub_mono z z (fin t n d) (fin s m e) f f tt tt (finite_le z f) h

-- ---- a quotient by a number above zero, and by one below
div_number : (x d : Float) → T (positive d) → T (not (is_nan x)) → T (not (is_nan (x ⊘ d)))
unfolding is_nan is_finite
div_number nan d p h = absurd h
div_number (inf s) nan p h = absurd p
div_number (inf s) (inf t) p h = absurd p
div_number (inf s) (fin t n g) p h = unfold div in tt
div_number (fin s m e) d p h = le_left (fin s m e ⊘ d) (fin s m e ⊘ d) (div_mono (fin s m e) (fin s m e) d tt tt p (finite_le (fin s m e) tt))

inf_div : (s : Bool) (d : Float) → T (positive d) → inf s ⊘ d ≡ inf s
unfolding div
inf_div s nan p = absurd p
inf_div s (inf t) p = absurd p
inf_div s (fin true n g) p = absurd p
inf_div true (fin false n g) p = refl
inf_div false (fin false n g) p = refl

div_rises : (x y d : Float) → T (positive d) → T (le x y) → T (le (x ⊘ d) (y ⊘ d))
unfolding le lt eq is_finite
div_rises nan y d p h = absurd h
div_rises (inf true) y d p h = subst (λ (v : Float). T (le v (y ⊘ d))) (sym (inf_div true d p)) (low_le (y ⊘ d) (div_number y d p (le_right (inf true) y h)))
div_rises (inf false) nan d p h = absurd h
div_rises (inf false) (inf true) d p h = absurd h
div_rises (inf false) (inf false) d p h = subst (λ (v : Float). T (le v v)) (sym (inf_div false d p)) tt
div_rises (inf false) (fin t n g) d p h = absurd h
div_rises (fin s m e) nan d p h = absurd h
div_rises (fin s m e) (inf true) d p h = absurd h
div_rises (fin s m e) (inf false) d p h = subst (λ (v : Float). T (le (fin s m e ⊘ d) v)) (sym (inf_div false d p)) (le_high (fin s m e ⊘ d) (div_number (fin s m e) d p (le_left (fin s m e) (inf false) h)))
div_rises (fin s m e) (fin t n g) d p h = div_mono (fin s m e) (fin t n g) d tt tt p h

turned_round : (s : Bool) (a c : ℕ) → round binary64 (unlike s true) a c ≡ neg (round binary64 (unlike s false) a c)
turned_round false a c = sym (round_neg a c)
turned_round true a c = sym (twice (round binary64 false a c)) ∙ ap neg (round_neg a c)

div_turned : (x : Float) (n : ℕ) (g : ℤ) → x ⊘ fin true n g ≡ neg (x ⊘ fin false n g)
unfolding div neg
div_turned nan n g = refl
div_turned (inf true) n g = refl
div_turned (inf false) n g = refl
div_turned (fin s m e) n g = go (eqb n 0) (eqb m 0) s
  where
    go : (a b s : Bool) → cond a (cond b nan (inf (unlike s true))) (round binary64 (unlike s true) (m * up e * down g) (n * up g * down e)) ≡ neg (cond a (cond b nan (inf (unlike s false))) (round binary64 (unlike s false) (m * up e * down g) (n * up g * down e)))
    go true true s = refl
    go true false true = refl
    go true false false = refl
    go false b s = turned_round s (m * up e * down g) (n * up g * down e)

-- by a number above zero a quotient rises, by one below it falls
pub quotient_rises : (p q q' : Float) → T (is_finite p) → lt f0 p ≡ true → T (le q q') → T (le (q ⊘ p) (q' ⊘ p))
unfolding of_bits
quotient_rises p q q' f h k = div_rises q q' p (above_positive p f h) k

pub quotient_falls : (p q q' : Float) → T (is_finite p) → lt p f0 ≡ true → T (le q q') → T (le (q' ⊘ p) (q ⊘ p))
unfolding is_finite
quotient_falls nan q q' f h k = absurd f
quotient_falls (inf s) q q' f h k = absurd f
quotient_falls (fin false n g) q q' f h k = absurd (unfold of_bits neg in above_positive (fin true n g) tt (under_turned (fin false n g) h))
quotient_falls (fin true n g) q q' f h k =
    subst (λ (v : Float). T (le v (q ⊘ fin true n g))) (sym (div_turned q' n g))
    (subst (λ (v : Float). T (le (neg (q' ⊘ fin false n g)) v)) (sym (div_turned q n g))
    (le_neg (q ⊘ fin false n g) (q' ⊘ fin false n g) (quotient_rises (fin false n g) q q' tt (unfold neg in under_turned (fin true n g) h) k)))
