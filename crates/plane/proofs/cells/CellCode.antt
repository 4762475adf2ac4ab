-- The cell of an edge by the tests that the code makes. Assumes nothing.
use mathlib.Core.Path.{◌≡◌, refl, sym, ap, ◌∙◌, subst}
use mathlib.Core.Logic.{⊎_elim}
use mathlib.Core.Bool.{Bool, true, false, cond, true≢false}
use Prim.Native.Nat.{ℕ, zero, suc, ◌+◌, ◌-◌, ◌*◌, ◌/◌, ◌^◌, ◌≤◌, ◌<◌, min}
use native.Mathlib.Nat.{div-lt_iff_lt-mul}
use native.Mathlib.Omega.{arith}
use borrow.Author.Tests.{ltb-true, ltb-false, le-ltb}
use lib.IntN.{ℤ, pos, negsuc, neg_ℤ, nat_abs, ◌+ℤ◌}
use lib.Signed.{mag}
use lib.Ieee.{Float, nan, inf, fin, binary64, up, down, lt, neg, of_bits, of_fields, odd}
use lib.Ieee.Fits.{down_pos}
use mir.Syntax.{w64}
use mir.Val.{SFits, to_z, of_z}
use mir.Facts.{to_z-of_z}
use Rattle.numbers.specs.Floor.{size_down, size_up, floor_int}
use Rattle.numbers.specs.Ops.{f0, ◌⊘◌}
use Rattle.numbers.proofs.order.Merging.{le_or_lt}
use Rattle.plane.specs.Stages.Cells.{held, cell_number, shifted, cell_of, cell_key}

-- ---- a cell plus 2^52
plus_is : (z : ℤ) → nat_abs z ≤ 2 ^ 52 → z +ℤ pos 4503599627370496 ≡ pos (shifted z)
unfolding shifted
plus_is (pos n) h = refl
plus_is (negsuc n) h = ap (λ (t : Bool). cond t (negsuc (suc n - suc 4503599627370496)) (pos (4503599627370496 - suc n))) (le-ltb 4503599627370496 (suc n) h)

shifted_small : (z : ℤ) → nat_abs z ≤ 2 ^ 52 → shifted z ≤ 2 ^ 53
unfolding shifted
shifted_small (pos n) h = omega arith
shifted_small (negsuc n) h = omega arith

module _ (z z' : ℤ) (e : z' ≡ z) (h : nat_abs z ≤ 2 ^ 52) where
  read : z' +ℤ pos 4503599627370496 ≡ pos (shifted z)
  read = ap (λ (x : ℤ). x +ℤ pos 4503599627370496) e ∙ plus_is z h

  pub shift_fits : SFits w64 (z' +ℤ pos 4503599627370496)
  shift_fits = subst (SFits w64) (sym read) (record { sfits = omega (arith, shifted_small z h) })

  module _ (d : ℤ) (g : d ≡ z' +ℤ pos 4503599627370496) where
    pub shift_is : nat_abs d ≡ shifted z
    shift_is = ap nat_abs (g ∙ read)

-- ---- the floor of a number between -2^52 and 2^52
abbrev high : Float
high = of_bits binary64 0x4330_0000_0000_0000

neg_size : (n : ℕ) → nat_abs (neg_ℤ (pos n)) ≡ n
neg_size zero = refl
neg_size (suc n) = refl

module _ (m u d : ℕ) (p : 0 < d) (h : m * u * 1 < 1 * 2 ^ 52 * d) where
  down_small : m * u / d ≤ 2 ^ 52
  down_small = let g : m * u < 2 ^ 52 * d = omega arith in omega (arith, (div-lt_iff_lt-mul {k = d} {x = m * u} {y = 2 ^ 52} p).1 g)

  up_small : (m * u + (d - 1)) / d ≤ 2 ^ 52
  up_small = let g : m * u + (d - 1) < (2 ^ 52 + 1) * d = omega arith in omega (arith, (div-lt_iff_lt-mul {k = d} {x = m * u + (d - 1)} {y = 2 ^ 52 + 1} p).1 g)

pub floor_small : (t : Float) → lt (neg high) t ≡ true → lt t high ≡ true → nat_abs (floor_int t) ≤ 2 ^ 52
unfolding lt neg of_bits of_fields odd floor_int size_down size_up
floor_small nan h k = omega arith
floor_small (inf s) h k = omega arith
floor_small (fin false m e) h k = down_small m (up e) (down e) (down_pos e) (ltb-true _ _ k)
floor_small (fin true m e) h k = omega (arith, neg_size ((m * up e + (down e - 1)) / down e), up_small m (up e) (down e) (down_pos e) (ltb-true _ _ h))

held_small : (z : ℤ) → nat_abs z ≤ 2 ^ 52 → held z ≡ z
unfolding held
held_small (pos n) h = ap pos (at n h)
  where
    at : (n : ℕ) → n ≤ 2 ^ 52 → min n (2 ^ 52) ≡ n
    at n h = omega arith
held_small (negsuc n) h = ap negsuc (at n h)
  where
    at : (n : ℕ) → suc n ≤ 2 ^ 52 → min n (2 ^ 52 - 1) ≡ n
    at n h = omega arith

nan_right : (x : Float) → lt x nan ≡ true → ⊥
unfolding lt
nan_right nan h = true≢false (sym h)
nan_right (inf s) h = true≢false (sym h)
nan_right (fin s m e) h = true≢false (sym h)

inf_out : (s : Bool) → lt (neg high) (inf s) ≡ true → lt (inf s) high ≡ true → ⊥
unfolding lt neg of_bits of_fields odd
inf_out true h k = true≢false (sym h)
inf_out false h k = true≢false (sym k)

between : (t : Float) → lt (neg high) t ≡ true → lt t high ≡ true → cell_number t ≡ floor_int t
unfolding cell_number
between nan h k = absurd (nan_right (neg high) h)
between (inf s) h k = absurd (inf_out s h k)
between (fin s m e) h k = held_small (floor_int (fin s m e)) (floor_small (fin s m e) h k)

-- ---- the other numbers
le_div : (a d k : ℕ) → 0 < d → k * d ≤ a → k ≤ a / d
le_div a d k p h = ⊎_elim (λ (g : k ≤ a / d). g) (λ (g : a / d < k). absurd (never ((div-lt_iff_lt-mul {k = d} {x = a} {y = k} p).0 g))) (le_or_lt k (a / d))
  where
    never : a < k * d → ⊥
    never g = omega arith

full : (n : ℕ) → 2 ^ 52 ≤ n → min n (2 ^ 52) ≡ 2 ^ 52
full n h = omega arith

held_low : (n : ℕ) → 2 ^ 52 ≤ n → held (neg_ℤ (pos n)) ≡ negsuc (2 ^ 52 - 1)
unfolding held
held_low zero h = absurd (never h)
  where
    never : 2 ^ 52 ≤ 0 → ⊥
    never h = omega arith
held_low (suc n) h = ap negsuc (at n h)
  where
    at : (n : ℕ) → 2 ^ 52 ≤ suc n → min n (2 ^ 52 - 1) ≡ 2 ^ 52 - 1
    at n h = omega arith

above : (t : Float) → lt (neg high) t ≡ true → lt t high ≡ false → cell_number t ≡ pos (2 ^ 52)
unfolding cell_number lt neg of_bits of_fields odd floor_int size_down held
above nan h k = absurd (true≢false (sym h))
above (inf true) h k = absurd (true≢false (sym h))
above (inf false) h k = refl
above (fin true m e) h k = absurd (never (m * up e) (down e) (down_pos e) (ltb-false _ _ k))
  where
    never : (a d : ℕ) → 0 < d → a * 1 + 1 * 2 ^ 52 * d ≤ 0 → ⊥
    never a d p h = omega arith
above (fin false m e) h k = ap pos (full (m * up e / down e) (le_div (m * up e) (down e) (2 ^ 52) (down_pos e) (flat (m * up e) (down e) (ltb-false _ _ k))))
  where
    flat : (a d : ℕ) → 1 * 2 ^ 52 * d ≤ a * 1 → 2 ^ 52 * d ≤ a
    flat a d h = omega arith

under : (t : Float) → lt (neg high) t ≡ false → lt t f0 ≡ true → cell_number t ≡ negsuc (2 ^ 52 - 1)
unfolding cell_number lt neg of_bits of_fields odd floor_int size_up
under nan h k = absurd (true≢false (sym k))
under (inf true) h k = refl
under (inf false) h k = absurd (true≢false (sym k))
under (fin false m e) h k = absurd (never (m * up e * 1) (down e) (ltb-true _ _ k))
  where
    never : (a d : ℕ) → a < 0 * d → ⊥
    never a d h = omega arith
under (fin true m e) h k =
    held_low ((m * up e + (down e - 1)) / down e) (le_div (m * up e + (down e - 1)) (down e) (2 ^ 52) (down_pos e) (flat (m * up e) (down e) (ltb-false _ _ h)))
  where
    flat : (a d : ℕ) → 1 * 2 ^ 52 * d ≤ a * 1 → 2 ^ 52 * d ≤ a + (d - 1)
    flat a d h = omega arith

neither : (t : Float) → lt (neg high) t ≡ false → lt t f0 ≡ false → cell_number t ≡ pos 0
unfolding cell_number lt neg of_bits of_fields odd
neither nan h k = refl
neither (inf true) h k = absurd (true≢false k)
neither (inf false) h k = absurd (true≢false h)
neither (fin false m e) h k = absurd (never (down e) (m * up e * 1) (down_pos e) (ltb-false _ _ h))
  where
    never : (d a : ℕ) → 0 < d → 1 * 2 ^ 52 * d + a ≤ 0 → ⊥
    never d a p h = omega arith
neither (fin true m e) h k = absurd (never (down e) (m * up e * 1) (down_pos e) (ltb-false _ _ h) (ltb-false _ _ k))
  where
    never : (d a : ℕ) → 0 < d → 1 * 2 ^ 52 * d ≤ a → a + 0 * d ≤ 0 → ⊥
    never d a p h k = omega arith

-- ---- the ways out
module _ (t : Float) where
  pub key_between : lt (neg high) t ≡ true → lt t high ≡ true → (r : ℕ) (z : ℤ) → r ≡ shifted z → z ≡ floor_int t → r ≡ shifted (cell_number t)
  key_between h k r z f g = f ∙ ap shifted (g ∙ sym (between t h k))

  pub key_above : lt (neg high) t ≡ true → lt t high ≡ false → 9007199254740992 ≡ shifted (cell_number t)
  unfolding shifted
  key_above h k = ap shifted (sym (above t h k))

  pub key_under : lt (neg high) t ≡ false → lt t f0 ≡ true → 0 ≡ shifted (cell_number t)
  unfolding shifted
  key_under h k = ap shifted (sym (under t h k))

  pub key_neither : lt (neg high) t ≡ false → lt t f0 ≡ false → 4503599627370496 ≡ shifted (cell_number t)
  unfolding shifted
  key_neither h k = ap shifted (sym (neither t h k))

pub floor_requires : (z : ℤ) (t : Float) → z ≡ floor_int t → lt (neg high) t ≡ true → lt t high ≡ true → nat_abs z ≤ 2 ^ 52
floor_requires z t e h k = subst (λ (x : ℤ). nat_abs x ≤ 2 ^ 52) (sym e) (floor_small t h k)

-- what the machine reads back of the floor
mag_small : (z : ℤ) → mag z ≤ nat_abs z
mag_small (pos n) = omega arith
mag_small (negsuc n) = omega arith

pub floor_back : (z : ℤ) (t : Float) → z ≡ floor_int t → lt (neg high) t ≡ true → lt t high ≡ true → to_z w64 (of_z w64 z) ≡ floor_int t
floor_back z t e h k = to_z-of_z {w = w64} (record { sfits = omega (arith, mag_small z, floor_requires z t e h k) }) ∙ e

-- ---- the cell of an edge, stored
abbrev stored : Float → Float → Bool → ℕ
stored unit edge b = shifted (cond b (cell_number (edge ⊘ unit)) (pos 0))

pub cell_within : (unit edge : Float) → lt f0 unit ≡ true → cell_key unit edge ≡ shifted (cell_number (edge ⊘ unit))
unfolding cell_key cell_of
cell_within unit edge h = ap (stored unit edge) h

pub cell_flat : (unit edge : Float) → lt f0 unit ≡ false → cell_key unit edge ≡ 4503599627370496
unfolding cell_key cell_of shifted
cell_flat unit edge h = ap (stored unit edge) h

pub ruleset cell_laws = (cell_within, cell_flat)
