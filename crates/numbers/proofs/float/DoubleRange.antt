-- How far apart and how large the results of operations are, of numbers that are multiples of 2 ^ lo grains and at most `top` grains in size: what the laws of doubling ask for.
-- Assumes nothing.
use Rattle.std.proofs.Common.{◌≡◌, ℕ, zero, suc, ◌+◌, ◌-◌, ◌*◌, ◌/◌, ◌^◌, ◌<◌, ◌≤◌, Bool, true, false, cond, ◌&&◌, T, ltb, ◌⊎◌, sym, refl, ap, ◌∙◌, subst, inl, inr, zero-le, le_trans, le_of_eq, lt_of_lt_of_le, lt_of_le_of_lt, le_of_lt, mul-le-mul_right, mul_assoc, mul_comm, mul-le-mul, eq-or-lt_of_le, mul-lt-mul_of_pos_right, mul-pos, lt_of_not-le, zero-mul, not-le_of_lt, le_of_mul-le-mul_right, mul-div_cancel, arith, lit<, lit≤, pow_pos, pow_mono, pow-add, shl_lt}
use native.Mathlib.Decide.{dec_le}
use mathlib.Core.Bool.{beq}
use lib.Ieee.{Float, nan, inf, fin, size, neg, lt, add, sub, sum, mul, div, round, fits, binary64}
use lib.Ieee.Digits.{back}
use lib.Ieee.Exact.{HasValue, round_exact}
use lib.Ieee.Fits.{kept-lt, round-fits}
use lib.Ieee.Order.{drop, kept}
use lib.Ieee.Scale.{round_same, grid}
use Rattle.numbers.specs.Small.{abs_of, is_finite, max_of, min_of, clamp_of}
use Rattle.numbers.specs.Hypot.{grains, nearest_root, hypot_of}
use Rattle.numbers.specs.Rounding.{Value, distance_between, Nearest}
use Rattle.numbers.specs.Double.{twice, Finite, Doublable, Stepped, Limit}
use Rattle.numbers.proofs.float.Pack.{grains_of}
use Rattle.numbers.proofs.float.Sums.{zero_round}
use Rattle.numbers.proofs.float.Whole.{abs_fits, abs_grains}
use Rattle.numbers.proofs.float.Hypots.{quarters, quarters_lt, quarters_eq, nearest_round}
use Rattle.numbers.proofs.float.RoundLaws.{value_of, rounded, quarters_ge, finite_of}
use Rattle.numbers.proofs.float.DoubleRound.{neg_finite, round_value, round_under}
use Rattle.numbers.proofs.float.OperationLaws.{add_is}
use Rattle.numbers.proofs.float.DoubleOps.{product_is, quotient_is, hypot_is}

-- ---- a limit is a value of the format
limit_value : (v : ℕ) → Limit v → (q : ℕ) × (k : ℕ) × Value v q k
limit_value v l =
    let w = 2 ^ 1074 in
    let x = round binary64 false v w in
    let H : HasValue x false v w = round_exact binary64 false v w l.q l.k (pow_pos 1074) l.digits (subst (λ (z : ℕ). z < 2 ^ 2098) l.is (lt_of_lt_of_le l.room (lit≤ tt))) (ap (λ (z : ℕ). z * w) l.is) in
    let X = value_of x (round-fits binary64 false v w) (finite_of x false v w H) in
    (X.1, X.2, subst (λ (z : ℕ). Value z X.1 X.2) (grains_of x false v H) X.4)

-- below it no fraction is rounded to infinity, and none above it
limit_finite : (num den top : ℕ) → Limit top → num * 2 ^ 1074 ≤ top * den → 0 < den → num < (2 ^ 1024 - 2 ^ 970) * den
limit_finite num den top l h D =
    cancel num ((2 ^ 1024 - 2 ^ 970) * den) (2 ^ 1074)
    (lt_of_le_of_lt h (lt_of_lt_of_le (mul-lt-mul_of_pos_right (lt_of_lt_of_le l.room (lit≤ tt)) D) (le_of_eq (flat (2 ^ 1024 - 2 ^ 970) (2 ^ 1074)))))
  where
    cancel : (a b w : ℕ) → a * w < b * w → a < b
    cancel a b w h = lt_of_not-le (λ (g : b ≤ a). not-le_of_lt h (mul-le-mul_right w g))

    flat : (a w : ℕ) → a * w * den ≡ a * den * w
    flat a w = omega arith

nearest_below : (s : Bool) (num den top : ℕ) (x : Float) → 0 < den → Limit top → num * 2 ^ 1074 ≤ top * den → (N : Nearest s num den x) → N.v ≤ top
nearest_below s num den top x D l h N =
    let t = limit_value top l in
    go (dec_le N.v top) (N.nearest top t.0 t.1 t.2)
  where
    clash : (n a b : ℕ) → n ≤ b → b < a → distance_between n a ≤ distance_between n b → ⊥
    clash n a b h k g = omega arith

    go : Dec (N.v ≤ top) → distance_between (num * 2 ^ 1074) (N.v * den) ≤ distance_between (num * 2 ^ 1074) (top * den) → N.v ≤ top
    go (yes k) g = k
    go (no f) g = absurd (clash (num * 2 ^ 1074) (N.v * den) (top * den) h (mul-lt-mul_of_pos_right (lt_of_not-le f) D) g)

-- from 2 ^ (52 + lo) on
nearest_above : (s : Bool) (num den lo : ℕ) (x : Float) → 0 < den → lo ≤ 2045 → 2 ^ (52 + lo) * den ≤ num * 2 ^ 1074 → (N : Nearest s num den x) → 2 ^ (52 + lo) ≤ N.v
nearest_above s num den lo x D r h N = go (dec_le (2 ^ (52 + lo)) N.v) (N.nearest (2 ^ (52 + lo)) (2 ^ 52) lo (record { is = pow-add 2 52 lo; digits = lit< tt; normal = λ _. lit≤ tt; range = r }))
  where
    clash : (n a b : ℕ) → b ≤ n → a < b → distance_between n a ≤ distance_between n b → ⊥
    clash n a b h k g = omega arith

    go : Dec (2 ^ (52 + lo) ≤ N.v) → distance_between (num * 2 ^ 1074) (N.v * den) ≤ distance_between (num * 2 ^ 1074) (2 ^ (52 + lo) * den) → 2 ^ (52 + lo) ≤ N.v
    go (yes k) g = k
    go (no f) g = absurd (clash (num * 2 ^ 1074) (N.v * den) (2 ^ (52 + lo) * den) h (mul-lt-mul_of_pos_right (lt_of_not-le f) D) g)

-- a value from 2 ^ (52 + lo) on is a multiple of 2 ^ lo
value_grid : (v q k lo : ℕ) → Value v q k → 2 ^ (52 + lo) ≤ v → v ≡ q * 2 ^ (k - lo) * 2 ^ lo
value_grid v q k lo V' h =
    V'.is
    ∙ ap (λ (z : ℕ). q * 2 ^ z) (sym (back k lo reach))
    ∙ ap (λ (z : ℕ). q * z) (pow-add 2 (k - lo) lo)
    ∙ sym (mul_assoc q (2 ^ (k - lo)) (2 ^ lo))
  where
    room : (k : ℕ) → (lo ≤ k → ⊥) → 53 + k ≤ 52 + lo
    room k f = omega arith

    go : Dec (lo ≤ k) → lo ≤ k
    go (yes l) = l
    go (no f) = absurd (not-le_of_lt (shl_lt 53 k V'.digits) (le_trans (pow_mono (room k f)) (le_trans h (le_of_eq V'.is))))

    reach : lo ≤ k
    reach = go (dec_le lo k)

-- ---- a fraction from 2 ^ (52 + lo) grains to `top`, rounded
nearest_stepped : (s : Bool) (num den lo top : ℕ) (x : Float) → 0 < den → T (fits binary64 x) → lo ≤ 2045 → Limit top → 2 ^ (52 + lo) * den ≤ num * 2 ^ 1074 → num * 2 ^ 1074 ≤ top * den → Nearest s num den x → Stepped lo top x
nearest_stepped s num den lo top x D f r l h k N =
    let g : grains x ≡ N.v = grains_of x s N.v N.size in
    record {
      number = record { held = f; finite = finite_of x s N.v (2 ^ 1074) N.size };
      count = N.q * 2 ^ (N.k - lo);
      grid = g ∙ value_grid N.v N.q N.k lo N.value (nearest_above s num den lo x D r h N);
      size = le_trans (le_of_eq g) (nearest_below s num den top x D l k N);
    }

pub round_stepped : (s : Bool) (num den lo top : ℕ) → 0 < den → lo ≤ 2045 → Limit top → 2 ^ (52 + lo) * den ≤ num * 2 ^ 1074 → num * 2 ^ 1074 ≤ top * den → Stepped lo top (round binary64 s num den)
round_stepped s num den lo top D r l h k =
    nearest_stepped s num den lo top (round binary64 s num den) D (round-fits binary64 s num den) r l h k ((rounded s num den D).finite (limit_finite num den top l k D))

-- ---- a whole number of grains, rounded
pub whole_stepped : (s : Bool) (v m lo top : ℕ) → v ≡ m * 2 ^ lo → v ≤ top → Limit top → Stepped lo top (round binary64 s v (2 ^ 1074))
whole_stepped s v m lo top e h l = record {
  number = record { held = round-fits binary64 s v w; finite = finite_of x s N.v w N.size };
  count = part.0;
  grid = part.1;
  size = le_trans (le_of_eq (grains_of x s N.v N.size)) (nearest_below s v w top x (pow_pos 1074) l (mul-le-mul_right (2 ^ 1074) h) N);
}
  where
    w : ℕ
    w = 2 ^ 1074

    x : Float
    x = round binary64 s v (2 ^ 1074)

    N : Nearest s v (2 ^ 1074) (round binary64 s v (2 ^ 1074))
    N = (rounded s v (2 ^ 1074) (pow_pos 1074)).finite (limit_finite v (2 ^ 1074) top l (mul-le-mul_right (2 ^ 1074) h) (pow_pos 1074))

    k : ℕ
    k = size v - 53

    fine : grid binary64 v (2 ^ 1074) < 2 ^ 2098
    fine = round_under s v (2 ^ 1074) (finite_of (round binary64 s v (2 ^ 1074)) s N.v (2 ^ 1074) N.size)

    is-k : drop 53 (v * 2 ^ 1074) (2 ^ 1074) ≡ size v - 53
    is-k = ap (λ (z : ℕ). size z - 53) (mul-div_cancel v (pow_pos 1074))

    coarse : lo ≤ k → (c : ℕ) × (grains (round binary64 s v (2 ^ 1074)) ≡ c * 2 ^ lo)
    coarse r =
        let c = kept 53 (v * 2 ^ 1074) (2 ^ 1074) in (
          c * 2 ^ (k - lo),
          grains_of (round binary64 s v (2 ^ 1074)) s (grid binary64 v (2 ^ 1074)) (round_value s v (2 ^ 1074) fine)
              ∙ ap (λ (z : ℕ). c * 2 ^ z) (is-k ∙ sym (back k lo r))
              ∙ ap (λ (z : ℕ). c * z) (pow-add 2 (k - lo) lo)
              ∙ sym (mul_assoc c (2 ^ (k - lo)) (2 ^ lo)),
        )

    less : (a b : ℕ) → (a ≤ b → ⊥) → b ≤ a
    less a b f = omega arith

    exact : k ≤ lo → (c : ℕ) × (grains (round binary64 s v (2 ^ 1074)) ≡ c * 2 ^ lo)
    exact r =
        let q = m * 2 ^ (lo - k) in
        let i : v ≡ q * 2 ^ k = e ∙ ap (λ (z : ℕ). m * 2 ^ z) (sym (back lo k r)) ∙ ap (λ (z : ℕ). m * z) (pow-add 2 (lo - k) k) ∙ sym (mul_assoc m (2 ^ (lo - k)) (2 ^ k)) in
        let few : q < 2 ^ 53 = subst (λ (z : ℕ). z < 2 ^ 53) (ap (λ (z : ℕ). z / 2 ^ k) i ∙ mul-div_cancel q (pow_pos k)) (kept-lt 53 v) in (
          m,
          grains_of (round binary64 s v (2 ^ 1074)) s v (round_exact binary64 s v (2 ^ 1074) q k (pow_pos 1074) few (subst (λ (z : ℕ). z < 2 ^ 2098) i (lt_of_le_of_lt h (lt_of_lt_of_le l.room (lit≤ tt)))) (ap (λ (z : ℕ). z * 2 ^ 1074) i)) ∙ e,
        )

    part : (c : ℕ) × (grains (round binary64 s v (2 ^ 1074)) ≡ c * 2 ^ lo)
    part = go (dec_le lo k)
      where
        go : Dec (lo ≤ k) → (c : ℕ) × (grains (round binary64 s v (2 ^ 1074)) ≡ c * 2 ^ lo)
        go (yes r) = coarse r
        go (no f) = exact (less lo k f)

-- ---- a number that is 0 or from 2 ^ (52 + lo) grains to `top`
pub number_stepped : (x : Float) (lo top : ℕ) → Finite x → (grains x ≡ 0) ⊎ (2 ^ (52 + lo) ≤ grains x) → grains x ≤ top → Stepped lo top x
number_stepped x lo top f (inl e) h = record { number = f; count = 0; grid = e ∙ sym (zero-mul (2 ^ lo)); size = h }
number_stepped x lo top f (inr l) h =
    let X = value_of x f.held f.finite in
    record { number = f; count = X.1 * 2 ^ (X.2 - lo); grid = value_grid (grains x) X.1 X.2 lo X.4 l; size = h }

-- ---- what a range says
pub stepped_doublable : {lo top : ℕ} {x : Float} → Stepped lo top x → top < 2 ^ 2097 → Doublable x
stepped_doublable w h = record { number = w.number; room = lt_of_le_of_lt w.size h }

pub limit_doublable : {lo top : ℕ} {x : Float} → Stepped lo top x → Limit top → Doublable x
limit_doublable w l = stepped_doublable w l.room

-- 0, or 2 ^ lo grains at least
pub stepped_cases : {lo top : ℕ} {x : Float} → Stepped lo top x → (grains x ≡ 0) ⊎ (2 ^ lo ≤ grains x)
stepped_cases {lo} {top} {x} w = go w.count w.grid
  where
    go : (c : ℕ) → grains x ≡ c * 2 ^ lo → (grains x ≡ 0) ⊎ (2 ^ lo ≤ grains x)
    go zero e = inl (e ∙ zero-mul (2 ^ lo))
    go (suc c) e = inr (le_trans (at c (2 ^ lo)) (le_of_eq (sym e)))
      where
        at : (c p : ℕ) → p ≤ suc c * p
        at c p = omega arith

-- a finer grid, a higher limit
pub widen_to : {lo top : ℕ} {x : Float} (lo' top' : ℕ) → lo' ≤ lo → top ≤ top' → Stepped lo top x → Stepped lo' top' x
widen_to {lo} {top} {x} lo' top' h k w = record {
  number = w.number;
  count = w.count * 2 ^ (lo - lo');
  grid = w.grid ∙ ap (λ (z : ℕ). w.count * 2 ^ z) (sym (back lo lo' h)) ∙ ap (λ (z : ℕ). w.count * z) (pow-add 2 (lo - lo') lo') ∙ sym (mul_assoc w.count (2 ^ (lo - lo')) (2 ^ lo'));
  size = le_trans w.size k;
}

-- ---- the sign, the size, and choices
neg_grains : (x : Float) → grains (neg x) ≡ grains x
unfolding grains neg
neg_grains nan = refl
neg_grains (inf s) = refl
neg_grains (fin s m e) = refl

pub neg_stepped : {lo top : ℕ} {x : Float} → Stepped lo top x → Stepped lo top (neg x)
neg_stepped {lo} {top} {x} w = record { number = neg_finite x w.number; count = w.count; grid = neg_grains x ∙ w.grid; size = le_trans (le_of_eq (neg_grains x)) w.size }

abs_same : (z : Float) → is_finite z ≡ is_finite (abs_of z)
unfolding is_finite abs_of
abs_same nan = refl
abs_same (inf s) = refl
abs_same (fin s m e) = refl

pub abs_stepped : {lo top : ℕ} {x : Float} → Stepped lo top x → Stepped lo top (abs_of x)
abs_stepped {lo} {top} {x} w = record {
  number = record { held = abs_fits x w.number.held; finite = subst T (abs_same x) w.number.finite };
  count = w.count;
  grid = abs_grains x ∙ w.grid;
  size = le_trans (le_of_eq (abs_grains x)) w.size;
}

pub cond_stepped : {lo top : ℕ} {x y : Float} (b : Bool) → Stepped lo top x → Stepped lo top y → Stepped lo top (cond b x y)
cond_stepped true f g = f
cond_stepped false f g = g

pub max_stepped : {lo top : ℕ} {x y : Float} → Stepped lo top x → Stepped lo top y → Stepped lo top (max_of x y)
unfolding max_of
max_stepped {lo} {top} {x} {y} f g = cond_stepped (lt x y) g f

pub min_stepped : {lo top : ℕ} {x y : Float} → Stepped lo top x → Stepped lo top y → Stepped lo top (min_of x y)
unfolding min_of
min_stepped {lo} {top} {x} {y} f g = cond_stepped (lt y x) g f

pub clamp_stepped : {lo top : ℕ} {x y z : Float} → Stepped lo top x → Stepped lo top y → Stepped lo top z → Stepped lo top (clamp_of x y z)
unfolding clamp_of
clamp_stepped {lo} {top} {x} {y} {z} f g h = cond_stepped (lt x y) g (cond_stepped (lt z x) h f)

-- ---- sums
minus_mul : (a b p : ℕ) → a * p - b * p ≡ (a - b) * p
minus_mul a b p = go (dec_le b a)
  where
    at : (c : ℕ) → c + b ≡ a → a * p - b * p ≡ c * p
    at c e = let z : (c + b) * p ≡ a * p = ap (λ (u : ℕ). u * p) e in omega arith

    sum_back : (x y : ℕ) → y ≤ x → x - y + y ≡ x
    sum_back x y h = omega arith

    none : (x y : ℕ) → x ≤ y → x - y ≡ 0
    none x y h = omega arith

    go : Dec (b ≤ a) → a * p - b * p ≡ (a - b) * p
    go (yes h) = at (a - b) (sum_back a b h)
    go (no f) =
        let l : a ≤ b = le_of_lt (lt_of_not-le f) in
        none (a * p) (b * p) (mul-le-mul_right p l) ∙ sym (zero-mul p) ∙ ap (λ (z : ℕ). z * p) (sym (none a b l))

sum_stepped : (s : Bool) (a : ℕ) (t : Bool) (b m n lo top : ℕ) → a ≡ m * 2 ^ lo → b ≡ n * 2 ^ lo → a + b ≤ top → Limit top → Stepped lo top (sum binary64 s a t b (2 ^ 1074))
unfolding sum
sum_stepped s a t b m n lo top h k r l =
    cond_stepped (beq s t) (whole_stepped s (a + b) (m + n) lo top (total (2 ^ lo) h k) r l)
    (cond_stepped (ltb a b) (whole_stepped t (b - a) (n - m) lo top (left b a n m k h) (le_trans (part b a) (le_trans (le_of_eq (swap b a)) r)) l)
    (whole_stepped (s && ltb b a) (a - b) (m - n) lo top (left a b m n h k) (le_trans (part a b) r) l))
  where
    total : (p : ℕ) → a ≡ m * p → b ≡ n * p → a + b ≡ (m + n) * p
    total p h k = omega arith

    left : (x y i j : ℕ) → x ≡ i * 2 ^ lo → y ≡ j * 2 ^ lo → x - y ≡ (i - j) * 2 ^ lo
    left x y i j h k = ap (λ (z : ℕ). z - y) h ∙ ap (λ (z : ℕ). i * 2 ^ lo - z) k ∙ minus_mul i j (2 ^ lo)

    part : (x y : ℕ) → x - y ≤ x + y
    part x y = omega arith

    swap : (x y : ℕ) → x + y ≡ y + x
    swap x y = omega arith

pub add_stepped : {lo t u : ℕ} {x y : Float} → Stepped lo t x → Stepped lo u y → Limit (t + u) → Stepped lo (t + u) (add binary64 x y)
add_stepped {lo} {t} {u} {x} {y} f g l =
    let X = value_of x f.number.held f.number.finite in
    let Y = value_of y g.number.held g.number.finite in
    subst (Stepped lo (t + u)) (sym (add_is x y X.0 Y.0 (grains x) (grains y) (2 ^ 1074) (pow_pos 1074) X.3 Y.3))
    (sum_stepped X.0 (grains x) Y.0 (grains y) f.count g.count lo (t + u) f.grid g.grid (both f.size g.size) l)
  where
    both : {a b : ℕ} → a ≤ t → b ≤ u → a + b ≤ t + u
    both {a} {b} h k = omega arith

pub sub_stepped : {lo t u : ℕ} {x y : Float} → Stepped lo t x → Stepped lo u y → Limit (t + u) → Stepped lo (t + u) (sub binary64 x y)
unfolding sub
sub_stepped f g l = add_stepped f (neg_stepped g) l

-- ---- products: of multiples of 2 ^ i and 2 ^ j grains, a multiple of 2 ^ (i + j - 1074)
pub mul_stepped : {i j t u : ℕ} {x y : Float} (lo top : ℕ) → Stepped i t x → Stepped j u y → lo + 1074 ≡ i + j → t * u ≤ top * 2 ^ 1074 → Limit top → Stepped lo top (mul binary64 x y)
mul_stepped {i} {j} {t} {u} {x} {y} lo top f g e h l =
    let P = product_is x y f.number g.number in
    let m = f.count * g.count in
    let v = m * 2 ^ lo in
    let w = 2 ^ 1074 in
    let p : grains x * grains y ≡ v * w = ap (λ (z : ℕ). z * grains y) f.grid ∙ ap (λ (z : ℕ). f.count * 2 ^ i * z) g.grid ∙ flat f.count g.count (2 ^ i) (2 ^ j) ∙ ap (λ (z : ℕ). m * z) (sym (pow-add 2 i j) ∙ ap (λ (z : ℕ). 2 ^ z) (sym e) ∙ pow-add 2 lo 1074) ∙ sym (mul_assoc m (2 ^ lo) w) in
    subst (Stepped lo top) (sym (P.1 ∙ round_same binary64 P.0 (grains x * grains y) (w * w) v w (mul-pos (pow_pos 1074) (pow_pos 1074)) (pow_pos 1074) (ap (λ (z : ℕ). z * w) p ∙ mul_assoc v w w)))
    (whole_stepped P.0 v m lo top refl (le_of_mul-le-mul_right (le_trans (le_of_eq (sym p)) (le_trans (mul-le-mul f.size g.size) h)) (pow_pos 1074)) l)
  where
    flat : (a b p q : ℕ) → a * p * (b * q) ≡ a * b * (p * q)
    flat a b p q = omega arith

-- ---- quotients: 0, or from 2 ^ (52 + lo) to `top`
pub div_stepped : {i j t u : ℕ} {x y : Float} (lo top : ℕ) → Stepped i t x → Stepped j u y → 0 < grains y → lo ≤ 2045 → 2 ^ (52 + lo) * u ≤ 2 ^ i * 2 ^ 1074 → t * 2 ^ 1074 ≤ top * 2 ^ j → Limit top → Stepped lo top (div binary64 x y)
div_stepped {i} {j} {t} {u} {x} {y} lo top f g p r h k l = subst (Stepped lo top) (sym P.1) (go (stepped_cases f) (stepped_cases g))
  where
    P : (s : Bool) × (div binary64 x y ≡ round binary64 s (grains x) (grains y)) × (div binary64 (twice x) y ≡ round binary64 s (2 * grains x) (grains y))
    P = quotient_is x y f.number g.number p

    none : (b : ℕ) → 0 < b → b ≡ 0 → ⊥
    none b p e = omega arith

    go : (grains x ≡ 0) ⊎ (2 ^ i ≤ grains x) → (grains y ≡ 0) ⊎ (2 ^ j ≤ grains y) → Stepped lo top (round binary64 P.0 (grains x) (grains y))
    go a (inl e) = absurd (none (grains y) p e)
    go (inl e) (inr b) =
        subst (Stepped lo top) (zero_round P.0 (2 ^ 1074) (pow_pos 1074) ∙ sym (ap (λ (z : ℕ). round binary64 P.0 z (grains y)) e ∙ zero_round P.0 (grains y) p))
        (whole_stepped P.0 0 0 lo top (sym (zero-mul (2 ^ lo))) zero-le l)
    go (inr a) (inr b) =
        round_stepped P.0 (grains x) (grains y) lo top p r l
        (le_trans (le_of_eq (mul_comm (2 ^ (52 + lo)) (grains y))) (le_trans (mul-le-mul_right (2 ^ (52 + lo)) g.size) (le_trans (le_of_eq (mul_comm u (2 ^ (52 + lo)))) (le_trans h (mul-le-mul_right (2 ^ 1074) a)))))
        (le_trans (mul-le-mul_right (2 ^ 1074) f.size) (le_trans k (le_trans (le_of_eq (mul_comm top (2 ^ j))) (le_trans (mul-le-mul_right top b) (le_of_eq (mul_comm (grains y) top))))))

-- ---- hypot: 0, or from 2 ^ (52 + lo) to `top`
quarters_le : (n h : ℕ) → 4 * n ≤ h * h → quarters n ≤ 2 * h
quarters_le n h l = elim (eq-or-lt_of_le l) [ inl e ↦ le_of_eq (quarters_eq n h e) | inr k ↦ le_of_lt (quarters_lt n h k) ]

root_stepped : (n lo top : ℕ) → lo ≤ 2045 → 2 ^ (52 + lo) * 2 ^ (52 + lo) ≤ n → n ≤ top * top → Limit top → Stepped lo top (nearest_root n)
root_stepped n lo top r h k l =
    subst (Stepped lo top) (sym (nearest_round n))
    (round_stepped false (quarters n) (2 ^ 1076) lo top (pow_pos 1076) r l
    (low (2 ^ (52 + lo)) (quarters n) (2 ^ 1074) (quarters_ge n (2 * 2 ^ (52 + lo)) (four (2 ^ (52 + lo)) h)))
    (high top (quarters n) (2 ^ 1074) (quarters_le n (2 * top) (four-2 top k))))
  where
    four : (p : ℕ) → p * p ≤ n → 2 * p * (2 * p) ≤ 4 * n
    four p h = omega arith

    four-2 : (p : ℕ) → n ≤ p * p → 4 * n ≤ 2 * p * (2 * p)
    four-2 p h = omega arith

    low : (p q w : ℕ) → 2 * (2 * p) ≤ q → p * (4 * w) ≤ q * w
    low p q w h = let z : 2 * (2 * p) * w ≤ q * w = mul-le-mul_right w h in omega arith

    high : (p q w : ℕ) → q ≤ 2 * (2 * p) → q * w ≤ p * (4 * w)
    high p q w h = let z : q * w ≤ 2 * (2 * p) * w = mul-le-mul_right w h in omega arith

pub hypot_stepped : {i t u : ℕ} {x y : Float} (lo top : ℕ) → Stepped i t x → Stepped i u y → i ≡ 52 + lo → lo ≤ 2045 → t * t + u * u ≤ top * top → Limit top → Stepped lo top (hypot_of x y)
hypot_stepped {i} {t} {u} {x} {y} lo top f g e r h l = subst (Stepped lo top) (sym (hypot_is x y f.number g.number)) (go (stepped_cases f) (stepped_cases g))
  where
    most : grains x * grains x + grains y * grains y ≤ top * top
    most = le_trans (both (mul-le-mul f.size f.size) (mul-le-mul g.size g.size)) h
      where
        both : {p q i j : ℕ} → p ≤ i → q ≤ j → p + q ≤ i + j
        both {p} {q} {i} {j} h k = omega arith

    some : 2 ^ i * 2 ^ i ≤ grains x * grains x + grains y * grains y → Stepped lo top (nearest_root (grains x * grains x + grains y * grains y))
    some k = root_stepped (grains x * grains x + grains y * grains y) lo top r (subst (λ (z : ℕ). 2 ^ z * 2 ^ z ≤ grains x * grains x + grains y * grains y) e k) most l

    first : (p q k : ℕ) → k ≤ p → k ≤ p + q
    first p q k h = omega arith

    second : (p q k : ℕ) → k ≤ q → k ≤ p + q
    second p q k h = omega arith

    zero-root : nearest_root (0 * 0 + 0 * 0) ≡ round binary64 false 0 (2 ^ 1074)
    zero-root = unfold nearest_root round in refl

    go : (grains x ≡ 0) ⊎ (2 ^ i ≤ grains x) → (grains y ≡ 0) ⊎ (2 ^ i ≤ grains y) → Stepped lo top (nearest_root (grains x * grains x + grains y * grains y))
    go (inr p) q = some (first (grains x * grains x) (grains y * grains y) (2 ^ i * 2 ^ i) (mul-le-mul p p))
    go (inl p) (inr q) = some (second (grains x * grains x) (grains y * grains y) (2 ^ i * 2 ^ i) (mul-le-mul q q))
    go (inl p) (inl q) =
        subst (Stepped lo top) (sym (ap (λ (z : ℕ). nearest_root (z * z + grains y * grains y)) p ∙ ap (λ (z : ℕ). nearest_root (0 * 0 + z * z)) q ∙ zero-root))
        (whole_stepped false 0 0 lo top (sym (zero-mul (2 ^ lo))) zero-le l)
