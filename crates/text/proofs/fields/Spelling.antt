-- Digits written into a list: what is put in two parts, or from its last byte on; how many digits a number has. Assumes nothing.
use mir.ValLaws.{to_z-of_z}
use mathlib.Core.Path.{◌≡◌, refl, sym, ap, subst, ◌∙◌}
use mathlib.Core.Bool.{true, false}
use mathlib.Core.List.{List, [], ◌∷◌, ◌++◌}
use Prim.Native.Nat.{ℕ, zero, suc, ◌+◌, ◌-◌, ◌*◌, ◌/◌, ◌%◌, ◌^◌, ◌≤◌, ◌<◌}
use native.Mathlib.Omega.{arith}
use native.Mathlib.Nat.{add-zero, add-suc, suc-add, pow-suc, pow-le-pow_right}
use native.Mathlib.Numerals.{add-one}
use lib.Dec.{T, ltb, lit<}
use lib.IntN.{ℤ, pos, negsuc, nat_abs}
use lib.Signed.{lt_z}
use lib.Ieee.{Float, nan, inf, fin, eq, is_nan, of_bits, to_bits, binary64}
use lib.ListN.{length, set, drop, length-append}
use lib.Seq.{sets, sets-eq, length-sets, set_comm}
use borrow.Author.Tests.{lt-ltb, le-ltb, ltb-true}
use Rattle.numbers.specs.Over.{over}
use Rattle.text.proofs.fields.Fields.{on_test}
use Rattle.text.specs.Spell.{glyph, digits, places_in, number_field, signed_field, shown, float_field, put_at}

-- ---- bytes put at a place
pub put_two : (a b l : List ℕ) (i : ℕ) → put_at (put_at l i a) (i + length a) b ≡ put_at l i (a ++ b)
unfolding put_at
put_two [] b l i = ap (λ (n : ℕ). sets l n b) (add-zero i)
put_two (x ∷ a) b l i = ap (λ (n : ℕ). sets (sets (set l i x) (suc i) a) n b) (add-suc i (length a) ∙ sym (suc-add i (length a))) ∙ put_two a b (set l i x) (suc i)

pub put_one : (l : List ℕ) (i x : ℕ) → put_at l i (x ∷ []) ≡ set l i x
unfolding put_at
put_one l i x = refl

set_past : (s l : List ℕ) (i j x : ℕ) → j + length s ≤ i → sets (set l i x) j s ≡ set (sets l j s) i x
set_past [] l i j x h = refl
set_past (y ∷ s) l i j x h =
    ap (λ (t : List ℕ). sets t (suc j) s) (set_comm l i j x y (λ e. absurd (omega (arith, e)))) ∙ set_past s (set l j y) i (suc j) x (omega arith)

set_before : (s l : List ℕ) (i j x : ℕ) → i < j → sets (set l i x) j s ≡ set (sets l j s) i x
set_before [] l i j x h = refl
set_before (y ∷ s) l i j x h =
    ap (λ (t : List ℕ). sets t (suc j) s) (set_comm l i j x y (λ e. absurd (omega (arith, e)))) ∙ set_before s (set l j y) i (suc j) x (omega arith)

pub put_front : (l : List ℕ) (i x : ℕ) (s : List ℕ) → set (put_at l (i + 1) s) i x ≡ put_at l i (x ∷ s)
unfolding put_at
put_front l i x s = ap (λ (n : ℕ). set (sets l n s) i x) (add-one i) ∙ sym (set_before s l i (suc i) x (omega arith))

pub length_put : (l : List ℕ) (i : ℕ) (s : List ℕ) → length (put_at l i s) ≡ length l
unfolding put_at
length_put l i s = length-sets l i s

pub put_over : (l s : List ℕ) → length s ≤ length l → put_at l 0 s ≡ over s l
unfolding put_at over
put_over l s h = let e : 0 + length s ≡ length s = omega arith in sets-eq s l 0 (omega arith) ∙ ap (λ (n : ℕ). s ++ drop n l) e

-- a byte and what follows it
pub put_after : (l : List ℕ) (at x : ℕ) (s : List ℕ) → put_at (set l at x) (at + 1) s ≡ put_at l at (x ∷ s)
unfolding put_at
put_after l at x s = ap (λ (n : ℕ). sets (set l at x) n s) (add-one at)

-- ---- the loop of `spell`
pub length_digits : (base k n : ℕ) → length (digits base k n) ≡ k
unfolding digits
length_digits base zero n = refl
length_digits base (suc k) n = length-append (digits base k (n / base)) (glyph (n % base) ∷ []) ∙ omega (arith, length_digits base k (n / base))

-- the last of i digits is there, where the others are to be
pub spelled_more : (base rest at i g : ℕ) (l : List ℕ) → g ≡ glyph (rest % base) → 0 < i
    → put_at (set l (at + (i - 1)) g) at (digits base (i - 1) (rest / base)) ≡ put_at l at (digits base i rest)
unfolding digits put_at
spelled_more base rest at i g l e h =
    let d = digits base (i - 1) (rest / base) in
    let n : i ≡ suc (i - 1) = omega arith in
    let k : at + length d ≡ at + (i - 1) = omega (arith, length_digits base (i - 1) (rest / base)) in
    set_past d l (at + (i - 1)) at g (omega arith)
    ∙ ap (λ (j : ℕ). sets (sets l at d) j (g ∷ [])) (sym k)
    ∙ put_two d (g ∷ []) l at
    ∙ ap (λ (c : ℕ). put_at l at (d ++ (c ∷ []))) e
    ∙ ap (λ (j : ℕ). put_at l at (digits base j rest)) (sym n)

pub spelled_all : (base rest at i : ℕ) (l : List ℕ) → i ≤ 0 → l ≡ put_at l at (digits base i rest)
unfolding digits put_at
spelled_all base rest at i l h = let z : i ≡ 0 = omega arith in rw z

pub ruleset spell_laws = (spelled_more, spelled_all)

-- ---- how many digits a number has
pub places_more : (f n : ℕ) → 9 < n → n ≤ f → places_in f n ≡ suc (places_in (f - 1) (n / 10))
unfolding places_in
places_more zero n h l = absurd (omega arith)
places_more (suc f) n h l = let e : suc f - 1 ≡ f = omega arith in let g : 10 ≤ n = omega arith in simp (places_in, le-ltb n 10 g, e)

pub places_last : (f n : ℕ) → n ≤ 9 → places_in f n ≡ 1
unfolding places_in
places_last zero n h = refl
places_last (suc f) n h = let g : n < 10 = omega arith in simp (places_in, lt-ltb n 10 g)

-- from 10 ^ k to 10 ^ (k + 1)
pub places_are : (k f n : ℕ) → n ≤ f → 10 ^ k ≤ n → n < 10 * 10 ^ k → places_in f n ≡ k + 1
places_are zero f n l h g = places_last f n (omega arith)
places_are (suc k) f n l h g =
    let p : 10 ^ suc k ≡ 10 ^ k * 10 = pow-suc 10 k in
    let z : 0 ≤ k = omega arith in let o : 1 ≤ 10 ^ k = pow-le-pow_right (lit< tt) z in
    omega (arith, places_more f n (omega arith) l, places_are k (f - 1) (n / 10) (omega arith) (omega arith) (omega arith))

pub ruleset places_laws = (places_are, places_last)

-- a number below 10 ^ k has at most k digits
pub few_places : (k f n : ℕ) → n < 10 ^ suc k → places_in f n ≤ suc k
unfolding places_in
few_places k zero n h = omega arith
few_places zero (suc f) n h = let e : places_in (suc f) n ≡ 1 = places_last (suc f) n (omega arith) in omega arith
few_places (suc k) (suc f) n h =
    on_test (ltb n 10)
    (λ e. let q : places_in (suc f) n ≡ 1 = simp (places_in, e) in omega arith)
    (λ e. let q : places_in (suc f) n ≡ suc (places_in f (n / 10)) = simp (places_in, e) in
    let p : 10 ^ suc (suc k) ≡ 10 ^ suc k * 10 = pow-suc 10 (suc k) in
    let d : n / 10 < 10 ^ suc k = omega arith in
    omega (arith, few_places k f (n / 10) d))

-- ---- the bits of a float
pub shown_zero : (x : Float) → eq x (of_bits binary64 0) ≡ true → shown x ≡ 0
unfolding shown
shown_zero x e = simp (shown, e)

pub shown_other : (x : Float) → eq x (of_bits binary64 0) ≡ false → shown x ≡ to_bits binary64 x
unfolding shown
shown_other x e = simp (shown, e)

pub shown_nan : (x : Float) → is_nan x ≡ true → shown x ≡ 0x7FF8_0000_0000_0000
unfolding shown is_nan
shown_nan nan e = refl
shown_nan (inf s) e = cc
shown_nan (fin s m k) e = cc

pub ruleset shown_laws = (shown_zero, shown_other, shown_nan)

-- ---- a number with its sign
pub signed_minus : (stop : ℕ) (n : ℤ) → lt_z n (pos 0) ≡ true → signed_field stop n ≡ 45 ∷ number_field stop (nat_abs n)
unfolding signed_field
signed_minus stop (pos n) h = absurd (omega (arith, ltb-true n 0 h))
signed_minus stop (negsuc n) h = refl

pub signed_plus : (stop : ℕ) (n : ℤ) → lt_z n (pos 0) ≡ false → signed_field stop n ≡ number_field stop (nat_abs n)
unfolding signed_field
signed_plus stop (pos n) h = refl
signed_plus stop (negsuc n) h = absurd (subst T h tt)

-- ---- fields
pub put_closed : (l d : List ℕ) (at k stop : ℕ) → length d ≡ k → set (put_at l at d) (at + k) stop ≡ put_at l at (d ++ (stop ∷ []))
put_closed l d at k stop e =
    let n : at + k ≡ at + length d = omega arith in
    sym (put_one (put_at l at d) (at + k) stop) ∙ ap (λ (j : ℕ). put_at (put_at l at d) j (stop ∷ [])) n ∙ put_two d (stop ∷ []) l at

pub number_length : (stop n : ℕ) → length (number_field stop n) ≡ places_in n n + 1
unfolding number_field
number_length stop n = length-append (digits 10 (places_in n n) n) (stop ∷ []) ∙ omega (arith, length_digits 10 (places_in n n) n)

pub u32_places : (n : ℕ) → n < 2 ^ 32 → places_in n n ≤ 10
u32_places n h = few_places 9 n n (omega arith)

pub float_length : (stop : ℕ) (x : Float) → length (float_field stop x) ≡ 17
unfolding float_field
float_length stop x = length-append (digits 16 16 (shown x)) (stop ∷ []) ∙ omega (arith, length_digits 16 16 (shown x))

-- what the two functions leave, from what `spell` leaves
pub number_put : (l m : List ℕ) (at k stop n : ℕ) → k ≡ places_in n n → m ≡ put_at l at (digits 10 k n) → set m (at + k) stop ≡ put_at l at (number_field stop n)
unfolding number_field
number_put l m at k stop n e h =
    ap (λ (t : List ℕ). set t (at + k) stop) h ∙ put_closed l (digits 10 k n) at k stop (length_digits 10 k n)
    ∙ ap (λ (j : ℕ). put_at l at (digits 10 j n ++ (stop ∷ []))) e

pub float_put : (l m : List ℕ) (at stop : ℕ) (x : Float) → m ≡ put_at l at (digits 16 16 (shown x)) → set m (at + 16) stop ≡ put_at l at (float_field stop x)
unfolding float_field
float_put l m at stop x h =
    ap (λ (t : List ℕ). set t (at + 16) stop) h ∙ put_closed l (digits 16 16 (shown x)) at 16 stop (length_digits 16 16 (shown x))

pub ruleset number_laws = (u32_places, number_length, number_put)

pub ruleset float_laws = (float_length, float_put)

pub ruleset signed_laws = (signed_minus, signed_plus, put_after, u32_places, number_length, to_z-of_z)
