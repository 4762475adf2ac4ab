-- Laws of the clip test's entry: a box is entered just where it is hit, and the entry is the largest of 0 and, in each direction that
-- the piece moves in, (edge first met − start) / (end − start). Assumes nothing.
use mathlib.Core.Path.{◌≡◌, refl, sym, ap, ◌∙◌, subst}
use Prim.Native.Nat.{ℕ, zero, suc, ◌+◌, ◌-◌, ◌*◌, ◌≤◌, ◌<◌}
use native.Mathlib.Nat.{mul-pos, zero-mul}
use native.Mathlib.Omega.{arith}
use mathlib.Core.Bool.{Bool, true, false, not, cond, ◌&&◌, ◌||◌, beq, true≢false}
use lib.Dec.{T, ltb, eqb, lit<}
use lib.IntN.{pos}
use lib.Ieee.{Float, nan, inf, fin, binary64, up, down, unlike, below, lt, eq, neg, add, sub, sum, div, round, of_bits}
use lib.Ieee.Fits.{up_pos, down_pos}
use borrow.Author.Tests.{ne_eqb, eqb-true, ltb-true, ltb-false, le-ltb}
use mathlib.Core.Logic.{◌⊎◌, inl, inr}
use Rattle.numbers.specs.Small.{max_of, min_of}
use Rattle.numbers.specs.Ops.{◌⊖◌, ◌⊘◌, f0, f1}
use Rattle.numbers.proofs.float.Keys.{plus, not_both, le_of_lt_float}
use Rattle.numbers.proofs.float.Floors.{round_neg}
use Rattle.numbers.proofs.float.Sums.{zero_round, add_commutes}
use Rattle.plane.specs.declared.geometry.Point.{Point}
use Rattle.plane.specs.declared.geometry.Box.{Box}
use Rattle.std.specs.Prelude.{Option, Some, None, is_some, option_map}
use Rattle.plane.specs.Clip.{part, cut, clip_by, clipped, hits}
use Rattle.plane.specs.Entry.{enters, along_side, entry_of}
use Rattle.plane.proofs.geometry.Clips.{right_test}

-- a box is entered just where it is hit
pub hits_enters : (p q : Point) (b : Box) → hits p q b ≡ is_some (enters p q b)
unfolding hits enters
hits_enters p q b = go (clipped p q b)
  where
    go : (c : Option (Float × Float)) → is_some c ≡ is_some (option_map (λ part. part.0) c)
    go None = refl
    go (Some (t0, t1)) = refl

-- ---- signs
twice : (x : Float) → neg (neg x) ≡ x
unfolding neg
twice nan = refl
twice (inf true) = refl
twice (inf false) = refl
twice (fin true m e) = refl
twice (fin false m e) = refl

neg_round : (s : Bool) (a c : ℕ) → neg (round binary64 s a c) ≡ round binary64 (not s) a c
neg_round false a c = round_neg a c
neg_round true a c = ap neg (sym (round_neg a c)) ∙ twice (round binary64 false a c)

neg_eq : (d : Float) → eq (neg d) f0 ≡ eq d f0
unfolding eq neg of_bits
neg_eq nan = refl
neg_eq (inf s) = refl
neg_eq (fin s m e) = same (m * up e * 1) (0 * down e) (zero-mul (down e)) (beq (not s) false) (beq s false)
  where
    one : (x t u : Bool) → (x && (t || x)) ≡ (x && (u || x))
    one true true true = refl
    one true true false = refl
    one true false true = refl
    one true false false = refl
    one false t u = refl

    same : (a z : ℕ) → z ≡ 0 → (t u : Bool) → (eqb a z && (t || eqb a 0)) ≡ (eqb a z && (u || eqb a 0))
    same a z h t u = rw h (one (eqb a 0) t u)

neg_lt : (d : Float) → lt (neg d) f0 ≡ lt f0 d
unfolding lt neg of_bits
neg_lt nan = refl
neg_lt (inf true) = refl
neg_lt (inf false) = refl
neg_lt (fin true m e) = le-ltb _ _ (least (m * up e * 1) (0 * down e) (zero-mul (down e)))
  where
    least : (a z : ℕ) → z ≡ 0 → z ≤ a
    least a z h = omega arith
neg_lt (fin false m e) = same (m * up e * 1) (0 * down e) (zero-mul (down e))
  where
    same : (a z : ℕ) → z ≡ 0 → ltb 0 (a + z) ≡ ltb z a
    same a z h = let k : a + z ≡ a = omega arith in rw (k, h)

signs : (s t : Bool) → unlike (not s) (not t) ≡ unlike s t
signs true true = refl
signs true false = refl
signs false true = refl
signs false false = refl

like : (s t : Bool) → beq (not s) (not t) ≡ beq s t
like true true = refl
like true false = refl
like false true = refl
like false false = refl

-- both signs turned leave a quotient
div_signs : (x y : Float) → (neg x) ⊘ (neg y) ≡ x ⊘ y
unfolding div neg
div_signs nan y = refl
div_signs (inf s) nan = refl
div_signs (inf s) (inf t) = refl
div_signs (inf s) (fin t n d) = ap inf (signs s t)
div_signs (fin s m e) nan = refl
div_signs (fin s m e) (inf t) = ap (λ (b : Bool). fin b 0 (pos 0)) (signs s t)
div_signs (fin s m e) (fin t n d) = ap (λ (b : Bool). cond (eqb n 0) (cond (eqb m 0) nan (inf b)) (round binary64 b (m * up e * down d) (n * up d * down e))) (signs s t)

-- ---- a sum with both signs turned is turned, but for a zero
Turned : Float → Float → Type 0
Turned x y = (y ≡ neg x) ⊎ ((x ≡ fin false 0 (pos 0)) × (y ≡ fin false 0 (pos 0)))

sum_turned : (s : Bool) (a : ℕ) (t : Bool) (b c : ℕ) → 0 < c → Turned (sum binary64 s a t b c) (sum binary64 (not s) a (not t) b c)
unfolding sum Turned
sum_turned s a t b c C = subst (λ (x : Bool). Turned (sum binary64 s a t b c) (cond x (round binary64 (not s) (a + b) c) (cond (ltb a b) (round binary64 (not t) (b - a) c) (round binary64 (not s && ltb b a) (a - b) c)))) (sym (like s t)) (go (beq s t) (ltb a b) (ltb b a) refl refl)
  where
    go : (x y z : Bool) → ltb a b ≡ y → ltb b a ≡ z → Turned (cond x (round binary64 s (a + b) c) (cond y (round binary64 t (b - a) c) (round binary64 (s && z) (a - b) c))) (cond x (round binary64 (not s) (a + b) c) (cond y (round binary64 (not t) (b - a) c) (round binary64 (not s && z) (a - b) c)))
    go true y z h k = inl (sym (neg_round s (a + b) c))
    go false true z h k = inl (sym (neg_round t (b - a) c))
    go false false true h k = inl (and s)
      where
        and : (s : Bool) → round binary64 (not s && true) (a - b) c ≡ neg (round binary64 (s && true) (a - b) c)
        and true = sym (neg_round true (a - b) c)
        and false = sym (neg_round false (a - b) c)
    go false false false h k = inr (none s, none (not s))
      where
        level : a - b ≡ 0
        level = omega (arith, ltb-false b a k)

        none : (s : Bool) → round binary64 (s && false) (a - b) c ≡ fin false 0 (pos 0)
        none true = ap (λ (x : ℕ). round binary64 false x c) level ∙ zero_round false c C
        none false = ap (λ (x : ℕ). round binary64 false x c) level ∙ zero_round false c C

add_turned : (x y : Float) → Turned (add binary64 x y) (add binary64 (neg x) (neg y))
unfolding add neg Turned
add_turned nan y = inl refl
add_turned (inf s) nan = inl refl
add_turned (inf s) (inf t) = inl (ap (λ (b : Bool). cond b (inf (not s)) nan) (like s t) ∙ go (beq s t))
  where
    go : (b : Bool) → cond b (inf (not s)) nan ≡ neg (cond b (inf s) nan)
    go true = refl
    go false = refl
add_turned (inf s) (fin t n d) = inl refl
add_turned (fin s m e) nan = inl refl
add_turned (fin s m e) (inf t) = inl refl
add_turned (fin s m e) (fin t n d) = sum_turned s (m * up e * down d) t (n * up d * down e) (down e * down d) (mul-pos (down_pos e) (down_pos d))

sub_turned : (x y : Float) → Turned (x ⊖ y) (y ⊖ x)
unfolding sub
sub_turned x y = subst (Turned (add binary64 x (neg y))) (add_commutes (neg x) y) (subst (λ (v : Float). Turned (add binary64 x (neg y)) (add binary64 (neg x) v)) (twice y) (add_turned x (neg y)))

-- ---- one direction
max_zero : (t : Float) (s : Bool) → T (plus t) → max_of t (fin s 0 (pos 0)) ≡ t
unfolding plus max_of lt
max_zero nan s h = absurd h
max_zero (inf true) s h = absurd h
max_zero (inf false) s h = refl
max_zero (fin true m e) s h = absurd h
max_zero (fin false m e) true h = refl
max_zero (fin false m e) false h = ap (λ (b : Bool). cond b (fin false 0 (pos 0)) (fin false m e)) (le-ltb (m * up e * 1) (0 * down e) (least (m * up e * 1) (0 * down e) (zero-mul (down e))))
  where
    least : (a z : ℕ) → z ≡ 0 → z ≤ a
    least a z h = omega arith

-- a zero over a number above 0 is a zero
zero_over : (d : Float) (t : Bool) → lt f0 d ≡ true → (s : Bool) × (div binary64 (fin t 0 (pos 0)) d ≡ fin s 0 (pos 0))
unfolding lt div of_bits
zero_over nan t h = absurd (true≢false (sym h))
zero_over (inf u) t h = (unlike t u, refl)
zero_over (fin true n g) t h = absurd (true≢false (sym h))
zero_over (fin false n g) t h = (unlike t false, go n (some n (up g) (down g) (ltb-true _ _ h)))
  where
    some : (n u d : ℕ) → 0 * d < n * u * 1 → 0 < n
    some zero u d h = absurd (none u d h)
      where
        none : (u d : ℕ) → 0 * d < 0 * u * 1 → ⊥
        none u d h = omega arith
    some (suc n) u d h = one n
      where
        one : (n : ℕ) → 0 < suc n
        one n = omega arith

    go : (n : ℕ) → 0 < n → cond (eqb n 0) nan (round binary64 (unlike t false) (0 * 1 * down g) (n * up g * 1)) ≡ fin (unlike t false) 0 (pos 0)
    go n h = ap (λ (b : Bool). cond b nan (round binary64 (unlike t false) (0 * 1 * down g) (n * up g * 1))) (ne_eqb n 0 (apart n h)) ∙ ap (λ (x : ℕ). round binary64 (unlike t false) x (n * up g * 1)) (nothing (down g)) ∙ zero_round (unlike t false) (n * up g * 1) (mul-pos (mul-pos h (up_pos g)) (lit< tt))
      where
        apart : (n : ℕ) → 0 < n → n ≡ 0 → ⊥
        apart n h e = omega arith

        nothing : (x : ℕ) → 0 * 1 * x ≡ 0
        nothing x = omega arith

-- the side first met, by the clip's quotient and by `along_side`'s
swap_max : (t x y d : Float) → T (plus t) → lt f0 d ≡ true → max_of t ((x ⊖ y) ⊘ neg d) ≡ max_of t ((y ⊖ x) ⊘ d)
swap_max t x y d h k = go (sub_turned y x)
  where
    zeros : x ⊖ y ≡ fin false 0 (pos 0) → max_of t ((x ⊖ y) ⊘ neg d) ≡ t
    zeros e = let z = zero_over d true k in ap (λ (v : Float). max_of t (v ⊘ neg d)) e ∙ ap (max_of t) (turn ∙ z.1) ∙ max_zero t z.0 h
      where
        turn : fin false 0 (pos 0) ⊘ neg d ≡ fin true 0 (pos 0) ⊘ d
        turn = unfold neg in div_signs (fin true 0 (pos 0)) d

    zeros-2 : y ⊖ x ≡ fin false 0 (pos 0) → max_of t ((y ⊖ x) ⊘ d) ≡ t
    zeros-2 e = let z = zero_over d false k in ap (λ (v : Float). max_of t (v ⊘ d)) e ∙ ap (max_of t) z.1 ∙ max_zero t z.0 h

    go : Turned (y ⊖ x) (x ⊖ y) → max_of t ((x ⊖ y) ⊘ neg d) ≡ max_of t ((y ⊖ x) ⊘ d)
    go = unfold Turned in λ (w : (x ⊖ y ≡ neg (y ⊖ x)) ⊎ ((y ⊖ x ≡ fin false 0 (pos 0)) × (x ⊖ y ≡ fin false 0 (pos 0)))). by w
      where
        by : (x ⊖ y ≡ neg (y ⊖ x)) ⊎ ((y ⊖ x ≡ fin false 0 (pos 0)) × (x ⊖ y ≡ fin false 0 (pos 0))) → max_of t ((x ⊖ y) ⊘ neg d) ≡ max_of t ((y ⊖ x) ⊘ d)
        by (inl e) = ap (λ (v : Float). max_of t (v ⊘ neg d)) e ∙ ap (max_of t) (div_signs (y ⊖ x) d)
        by (inr e) = zeros e.1 ∙ sym (zeros-2 e.0)

-- what is left begins at t
StartsAt : Option (Float × Float) → Float → Type 0
StartsAt None t = Unit {0}
StartsAt (Some (t0, t1)) t = t0 ≡ t

part_starts : (t0 t1 : Float) → StartsAt (part t0 t1) t0
unfolding part StartsAt
part_starts t0 t1 = go (lt t1 t0)
  where
    go : (b : Bool) → StartsAt (cond b None (Some (t0, t1))) t0
    go true = tt
    go false = refl

clip_starts : (p q t u : Float) → (eq p f0 ≡ true → lt p f0 ≡ false) → StartsAt (clip_by p q (Some (t, u))) (cond (lt p f0) (max_of t (q ⊘ p)) t)
unfolding clip_by cut StartsAt
clip_starts p q t u h = go (eq p f0) (lt q f0) (lt p f0) h
  where
    go : (a b c : Bool) → (a ≡ true → c ≡ false) → StartsAt (cond a (cond b None (Some (t, u))) (cut c (q ⊘ p) t u)) (cond c (max_of t (q ⊘ p)) t)
    go true true c h = tt
    go true false true h = absurd (true≢false (h refl))
    go true false false h = refl
    go false b true h = part_starts (max_of t (q ⊘ p)) u
    go false b false h = part_starts t (min_of u (q ⊘ p))

-- a zero is not below 0, and what is above 0 is not below
zero_not_below : (d : Float) → eq d f0 ≡ true → lt d f0 ≡ false
unfolding eq lt of_bits
zero_not_below nan h = refl
zero_not_below (inf s) h = absurd (true≢false (sym h))
zero_not_below (fin s m e) h = go s (m * up e * 1) (0 * down e) (zero-mul (down e)) h
  where
    first : (a b : Bool) → (a && b) ≡ true → a ≡ true
    first true b h = refl
    first false b h = h

    go : (s : Bool) (a z : ℕ) → z ≡ 0 → (eqb a z && (beq s false || eqb a 0)) ≡ true → below s a false z ≡ false
    go true a z e h = let k : a ≡ z = eqb-true a z (first _ _ h) in le-ltb 0 (a + z) (omega arith)
    go false a z e h = le-ltb a z (omega arith)

above_not_below : (d : Float) → lt f0 d ≡ true → lt d f0 ≡ false
above_not_below d h = go (lt d f0) refl
  where
    lift : (b : Bool) → b ≡ true → T b
    lift true h = tt
    lift false h = absurd (true≢false (sym h))

    go : (b : Bool) → lt d f0 ≡ b → lt d f0 ≡ false
    go false e = e
    go true e = absurd (not_both f0 d (lift _ h) (le_of_lt_float d f0 (lift _ e)))

-- one direction of the clip test
module _ (low high start d : Float) where
  side_starts : (t u : Float) → T (plus t) → StartsAt (clip_by d (high ⊖ start) (clip_by (neg d) (start ⊖ low) (Some (t, u)))) (along_side low high start d t)
  side_starts t u h = go (clip_by (neg d) (start ⊖ low) (Some (t, u))) (clip_starts (neg d) (start ⊖ low) t u (zero_not_below (neg d)))
    where
      first : cond (lt (neg d) f0) (max_of t ((start ⊖ low) ⊘ neg d)) t ≡ cond (lt f0 d) (max_of t ((low ⊖ start) ⊘ d)) t
      first = ap (λ (b : Bool). cond b (max_of t ((start ⊖ low) ⊘ neg d)) t) (neg_lt d) ∙ by (lt f0 d) refl
        where
          by : (b : Bool) → lt f0 d ≡ b → cond b (max_of t ((start ⊖ low) ⊘ neg d)) t ≡ cond b (max_of t ((low ⊖ start) ⊘ d)) t
          by true e = swap_max t start low d h e
          by false e = refl

      second : (a : Float) → a ≡ cond (lt (neg d) f0) (max_of t ((start ⊖ low) ⊘ neg d)) t → cond (lt d f0) (max_of a ((high ⊖ start) ⊘ d)) a ≡ along_side low high start d t
      second a e = ap (λ (x : Float). cond (lt d f0) (max_of x ((high ⊖ start) ⊘ d)) x) (e ∙ first) ∙ unfold along_side in by (lt f0 d) (lt d f0) (above_not_below d)
        where
          by : (b c : Bool) → (b ≡ true → c ≡ false) → cond c (max_of (cond b (max_of t ((low ⊖ start) ⊘ d)) t) ((high ⊖ start) ⊘ d)) (cond b (max_of t ((low ⊖ start) ⊘ d)) t) ≡ cond b (max_of t ((low ⊖ start) ⊘ d)) (cond c (max_of t ((high ⊖ start) ⊘ d)) t)
          by true true k = absurd (true≢false (k refl))
          by true false k = refl
          by false c k = refl

      go : (c : Option (Float × Float)) → StartsAt c (cond (lt (neg d) f0) (max_of t ((start ⊖ low) ⊘ neg d)) t) → StartsAt (clip_by d (high ⊖ start) c) (along_side low high start d t)
      go None k = unfold clip_by StartsAt in tt
      go (Some (a, v)) k = subst (StartsAt (clip_by d (high ⊖ start) (Some (a, v)))) (second a (unfold StartsAt in k)) (clip_starts d (high ⊖ start) a v (zero_not_below d))

-- ---- both directions
above_plus : (t r : Float) → T (plus t) → lt t r ≡ true → T (plus r)
unfolding plus lt
above_plus nan r h k = absurd h
above_plus (inf true) r h k = absurd h
above_plus (inf false) nan h k = absurd (true≢false (sym k))
above_plus (inf false) (inf s) h k = absurd (true≢false (sym k))
above_plus (inf false) (fin s m e) h k = absurd (true≢false (sym k))
above_plus (fin true m e) r h k = absurd h
above_plus (fin false m e) nan h k = absurd (true≢false (sym k))
above_plus (fin false m e) (inf true) h k = absurd (true≢false (sym k))
above_plus (fin false m e) (inf false) h k = tt
above_plus (fin false m e) (fin true n g) h k = absurd (true≢false (sym k))
above_plus (fin false m e) (fin false n g) h k = tt

max_plus : (t r : Float) → T (plus t) → T (plus (max_of t r))
unfolding max_of
max_plus t r h = go (lt t r) refl
  where
    go : (b : Bool) → lt t r ≡ b → T (plus (cond b r t))
    go true k = above_plus t r h k
    go false k = h

along_plus : (low high start d t : Float) → T (plus t) → T (plus (along_side low high start d t))
unfolding along_side
along_plus low high start d t h = go (lt f0 d) (lt d f0)
  where
    go : (a b : Bool) → T (plus (cond a (max_of t ((low ⊖ start) ⊘ d)) (cond b (max_of t ((high ⊖ start) ⊘ d)) t)))
    go true b = max_plus t ((low ⊖ start) ⊘ d) h
    go false true = max_plus t ((high ⊖ start) ⊘ d) h
    go false false = h

none_plus : T (plus f0)
unfolding plus of_bits
none_plus = tt

pub place_plus : (p q : Point) (b : Box) → T (plus (entry_of p q b))
unfolding entry_of
place_plus p q b = along_plus b.top b.bottom p.y (q.y ⊖ p.y) _ (along_plus b.left b.right p.x (q.x ⊖ p.x) f0 none_plus)

clipped_starts : (p q : Point) (b : Box) → StartsAt (clipped p q b) (entry_of p q b)
unfolding clipped entry_of
clipped_starts p q b = go (right_test p q b) (side_starts b.left b.right p.x (q.x ⊖ p.x) f0 f1 none_plus)
  where
    along-x : Float
    along-x = along_side b.left b.right p.x (q.x ⊖ p.x) f0

    go : (c : Option (Float × Float)) → StartsAt c along-x → StartsAt (clip_by (q.y ⊖ p.y) (b.bottom ⊖ p.y) (clip_by (neg (q.y ⊖ p.y)) (p.y ⊖ b.top) c)) (along_side b.top b.bottom p.y (q.y ⊖ p.y) along-x)
    go None h = unfold clip_by StartsAt in tt
    go (Some (t, u)) h = at (unfold StartsAt in h)
      where
        at : t ≡ along-x → StartsAt (clip_by (q.y ⊖ p.y) (b.bottom ⊖ p.y) (clip_by (neg (q.y ⊖ p.y)) (p.y ⊖ b.top) (Some (t, u)))) (along_side b.top b.bottom p.y (q.y ⊖ p.y) along-x)
        at e =
            subst (λ (x : Float). StartsAt (clip_by (q.y ⊖ p.y) (b.bottom ⊖ p.y) (clip_by (neg (q.y ⊖ p.y)) (p.y ⊖ b.top) (Some (t, u)))) (along_side b.top b.bottom p.y (q.y ⊖ p.y) x)) e
            (side_starts b.top b.bottom p.y (q.y ⊖ p.y) t u (subst (λ (x : Float). T (plus x)) (sym e) (along_plus b.left b.right p.x (q.x ⊖ p.x) f0 none_plus)))

-- a box that is hit is entered at the largest of 0 and, in each direction that the piece moves in, (edge first met − start) / (end − start)
pub enters_entry : (p q : Point) (b : Box) → enters p q b ≡ cond (hits p q b) (Some (entry_of p q b)) None
unfolding enters hits
enters_entry p q b = go (clipped p q b) (clipped_starts p q b)
  where
    go : (c : Option (Float × Float)) → StartsAt c (entry_of p q b) → option_map (λ part. part.0) c ≡ cond (is_some c) (Some (entry_of p q b)) None
    go None h = refl
    go (Some (t0, t1)) h = unfold StartsAt in ap Some h
