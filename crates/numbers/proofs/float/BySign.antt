-- Signed numbers by their sign: what the definitions say of one below 0 and of one from 0 on. z' is what the machine reads back of z.
-- Assumes nothing.
use Rattle.std.proofs.Common.{◌≡◌, ℕ, true, false, T, ℤ, pos, negsuc, sym, subst, arith, ltb-true}
use lib.Signed.{lt_z}

-- what holds of numbers of one sign holds of one that is read back
pub if_below : (P : ℤ → ℤ → Type 0) → ((n : ℕ) → P (negsuc n) (negsuc n)) → (z' z : ℤ) → z' ≡ z → lt_z z' (pos 0) ≡ true → P z' z
if_below P f z' z e h = subst (λ (t : ℤ). P t z) (sym e) (go z (subst (λ (t : ℤ). lt_z t (pos 0) ≡ true) e h))
  where
    go : (z : ℤ) → lt_z z (pos 0) ≡ true → P z z
    go (pos n) h = absurd (omega (arith, ltb-true n 0 h))
    go (negsuc n) h = f n

pub from_zero : (P : ℤ → ℤ → Type 0) → ((n : ℕ) → P (pos n) (pos n)) → (z' z : ℤ) → z' ≡ z → lt_z z' (pos 0) ≡ false → P z' z
from_zero P f z' z e h = subst (λ (t : ℤ). P t z) (sym e) (go z (subst (λ (t : ℤ). lt_z t (pos 0) ≡ false) e h))
  where
    go : (z : ℤ) → lt_z z (pos 0) ≡ false → P z z
    go (pos n) h = f n
    go (negsuc n) h = absurd (subst T h tt)
