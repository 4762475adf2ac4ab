-- What the readers of fields give at a place of a text. Assumes nothing.
use mathlib.Core.Path.{◌≡◌, refl, sym, ap, ◌∙◌}
use mathlib.Core.Bool.{Bool, true, false}
use mathlib.Core.List.{List, [], ◌∷◌}
use Prim.Native.Nat.{ℕ, zero, suc, ◌+◌, ◌-◌, ◌*◌, ◌^◌, ◌≤◌, ◌<◌}
use native.Mathlib.Omega.{arith}
use native.Mathlib.Nat.{pow-suc, pow-le-pow_right}
use native.Mathlib.Numerals.{add-one}
use lib.ListN.{length, drop, get_or, drop_of_length-le, length-drop}
use Rattle.std.specs.List.{slice_range}
use Rattle.std.proofs.lemmas.List.{take_all, get_or-take}
use Rattle.std.proofs.lemmas.Bool.Decides.{nat_tests}
use lib.Dec.{eqb, ltb, lit<}
use lib.Seq.{drop-cons, drop-drop}
use borrow.Author.Tests.{lt-leb, lt-ltb, le-ltb, eq-eqb, ne_eqb}
use Rattle.text.specs.Field.{wrong, digit, closed, digits_to, limited, hexadecimal, positive, whole, pattern, minus, plus, bus_number}

-- the bytes from a place on: the one there and those after it
pub at_cons : (t : List ℕ) (i : ℕ) → i < length t → drop i t ≡ get_or t i 0 ∷ drop (i + 1) t
at_cons t i h = drop-cons t i 0 h ∙ ap (λ (n : ℕ). get_or t i 0 ∷ drop n t) (sym (add-one i))

-- what tells the byte at a place, and a test of it
pub ruleset test_laws = (at_cons, drop_of_length-le, nat_tests)

-- by a test's two values
pub on_test : {P : Type 0} (b : Bool) → (b ≡ true → P) → (b ≡ false → P) → P
on_test true f g = f refl
on_test false f g = g refl

-- digits only make a number larger
pub over_limit : (stop most v : ℕ) (l : List ℕ) → most < v → limited most (digits_to stop v l) ≡ wrong
unfolding digits_to limited
over_limit stop most v [] h = refl
over_limit stop most v (c ∷ l) h =
    on_test (eqb c stop) (λ e. simp (e, digits_to, limited, lt-leb v most h))
    (λ e. on_test (ltb (digit c) 10) (λ f. simp (e, f, digits_to) (over_limit stop most (v * 10 + digit c) l (omega arith))) (λ f. simp (e, f, digits_to)))

-- hexadecimal digits: a text too short for them, another byte, a digit
pub hex_short : (stop k v : ℕ) (l : List ℕ) → length l < k → hexadecimal stop k v l ≡ wrong
unfolding hexadecimal
hex_short stop zero v l h = absurd (omega arith)
hex_short stop (suc k) v [] h = refl
hex_short stop (suc k) v (c ∷ l) h =
    on_test (ltb (digit c) 16) (λ e. simp (hexadecimal, e) (hex_short stop k (v * 16 + digit c) l (omega arith))) (λ e. simp (hexadecimal, e))

module _ (l : List ℕ) (stop k v d : ℕ) (lt : k < 16) (h : k < length l) (is : d ≡ digit (get_or l k 0)) where
  left_over : 16 - k ≡ suc (16 - (k + 1))
  left_over = omega arith

  hex_other : 15 < d → hexadecimal stop (16 - k) v (drop k l) ≡ wrong
  unfolding hexadecimal
  hex_other g = let j : 16 ≤ digit (get_or l k 0) = omega arith in simp (left_over, at_cons l k h, hexadecimal, le-ltb _ _ j)

  hex_more : d ≤ 15 → hexadecimal stop (16 - k) v (drop k l) ≡ hexadecimal stop (16 - (k + 1)) (v * 16 + d) (drop (k + 1) l)
  unfolding hexadecimal
  hex_more g =
      let j : digit (get_or l k 0) < 16 = omega arith in
      simp (left_over, at_cons l k h, hexadecimal, lt-ltb _ _ j, is)

-- k digits stand for less than 16 ^ k
pub hex_grows : (k v d : ℕ) → v < 16 ^ k → d ≤ 15 → v * 16 + d < 16 ^ (k + 1)
hex_grows k v d h g = let e : 16 ^ (k + 1) ≡ 16 ^ k * 16 = ap (λ (n : ℕ). 16 ^ n) (add-one k) ∙ pow-suc 16 k in omega arith

pub hex_room : (k v : ℕ) → v < 16 ^ k → k < 16 → v < 16 ^ 15
hex_room k v h l = let j : k ≤ 15 = omega arith in let e : 16 ^ k ≤ 16 ^ 15 = pow-le-pow_right (lit< tt) j in omega arith

pub hex_done : (stop k v : ℕ) (l : List ℕ) → 16 ≤ k → hexadecimal stop (16 - k) v l ≡ closed stop v l
unfolding hexadecimal
hex_done stop k v l h = let e : 16 - k ≡ 0 = omega arith in rw e

-- the bits of a float, by the 16 bytes from a place of a text on
module _ (t x digits : List ℕ) (at stop k v d : ℕ) (rest : x ≡ slice_range t at (length t)) (room : 16 ≤ length x) (first : digits ≡ slice_range x 0 16)
    (h : k < 16) (is : d ≡ digit (get_or digits k 0)) where
  rest_is : x ≡ drop at t
  rest_is = rest ∙ take_all (length t - at) (drop at t) (omega (arith, length-drop at t))

  long : k < length (drop at t)
  long = omega (arith, ap length rest_is)

  first_is : d ≡ digit (get_or (drop at t) k 0)
  first_is = is ∙ ap (λ (l : List ℕ). digit (get_or l k 0)) first ∙ ap digit (get_or-take 16 x k 0 h) ∙ ap (λ (l : List ℕ). digit (get_or l k 0)) rest_is

  pub pattern_other : 15 < d → hexadecimal stop (16 - k) v (drop k (drop at t)) ≡ wrong
  pattern_other g = hex_other (drop at t) stop k v d h long first_is g

  pub pattern_more : d ≤ 15 → hexadecimal stop (16 - k) v (drop k (drop at t)) ≡ hexadecimal stop (16 - (k + 1)) (v * 16 + d) (drop (k + 1) (drop at t))
  pattern_more g = hex_more (drop at t) stop k v d h long first_is g

pub pattern_short : (stop at : ℕ) (t : List ℕ) → length t < at + 16 → pattern stop (drop at t) ≡ wrong
unfolding pattern
pattern_short stop at t h = hex_short stop 16 0 (drop at t) (omega (arith, length-drop at t))

pub pattern_done : (stop at k v : ℕ) (t : List ℕ) → k ≡ 16 → hexadecimal stop (16 - k) v (drop k (drop at t)) ≡ closed stop v (drop (at + 16) t)
pattern_done stop at k v t e = rw (e, drop-drop 16 at t) (hex_done stop 16 v (drop (at + 16) t) (omega arith))

pub ruleset pattern_laws = (pattern_short, pattern_done, hex_room)

-- a bus number, by its first byte
module _ (t : List ℕ) (i stop : ℕ) where
  pub bus_number_end : length t ≤ i → bus_number stop (drop i t) ≡ wrong
  unfolding bus_number
  bus_number_end h = simp (drop_of_length-le t h)

  pub bus_number_minus : i < length t → get_or t i 0 ≡ 45 → bus_number stop (drop i t) ≡ minus (positive stop (2 ^ 63) (drop (i + 1) t))
  unfolding bus_number
  bus_number_minus h e = simp (at_cons t i h, bus_number, eq-eqb _ _ e)

  pub bus_number_plus : i < length t → (get_or t i 0 ≡ 45 → ⊥) → bus_number stop (drop i t) ≡ plus (whole stop (2 ^ 63 - 1) (drop i t))
  unfolding bus_number
  bus_number_plus h e = simp (at_cons t i h, bus_number, ne_eqb _ _ e)
