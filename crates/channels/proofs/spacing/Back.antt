-- A wish is read back from its key. Assumes nothing.
use mathlib.Core.Path.{◌≡◌, refl, ap, ◌∙◌}
use mathlib.Core.Bool.{Bool, cond}
use mathlib.Core.List.{List, [], ◌∷◌, map}
use Prim.Native.Nat.{ℕ, zero, suc, ◌+◌, ◌-◌, ◌^◌, ◌≤◌, ◌<◌}
use native.Mathlib.Omega.{arith}
use native.Mathlib.Decide.{dec_le}
use lib.Dec.{T, leb}
use lib.ListN.{get_or}
use lib.Ieee.{Float, nan, inf, fin, is_nan, fits, binary64, of_bits, to_bits, of_fields, odd}
use lib.Ieee.Bits.{of_bits-to_bits, to_bits-lt}
use borrow.Author.Tests.{le-leb, lt-leb}
use Rattle.numbers.specs.Key.{key_of}
use Rattle.numbers.proofs.float.Keys.{key_low, key_high}
use Rattle.numbers.specs.Order.{key_at}
use Rattle.channels.specs.Space.{wish_key, wish_of, in_order, read_back}

-- the pattern of a key
abbrev pattern : ℕ → ℕ
pattern k = cond (leb (2 ^ 63) k) (k - 2 ^ 63) (2 ^ 64 - 1 - k)

pub pattern_high : (k : ℕ) → 2 ^ 63 ≤ k → pattern k ≡ k - 2 ^ 63
pattern_high k h = ap (λ (b : Bool). cond b (k - 2 ^ 63) (2 ^ 64 - 1 - k)) (le-leb (2 ^ 63) k h)

pub pattern_low : (k : ℕ) → k < 2 ^ 63 → pattern k ≡ 2 ^ 64 - 1 - k
pattern_low k h = ap (λ (b : Bool). cond b (k - 2 ^ 63) (2 ^ 64 - 1 - k)) (lt-leb (2 ^ 63) k h)

pattern_key : (b : ℕ) → b < 2 ^ 64 → pattern (key_of b) ≡ b
pattern_key b h = go (dec_le (2 ^ 63) b)
  where
    go : Dec (2 ^ 63 ≤ b) → pattern (key_of b) ≡ b
    go (yes p) = let e : key_of b ≡ 2 ^ 64 - 1 - b = key_high b p in ap pattern e ∙ pattern_low (2 ^ 64 - 1 - b) (omega arith) ∙ omega arith
    go (no f) = let l : b < 2 ^ 63 = omega arith in ap pattern (key_low b l) ∙ pattern_high (b + 2 ^ 63) (omega arith) ∙ omega arith

-- no number has the key 0 either
pub no_wish : wish_of 0 ≡ nan
unfolding wish_of of_bits of_fields odd
no_wish = refl

pub read_back_lem : (x : Float) → T (fits binary64 x) → wish_of (wish_key x) ≡ x
unfolding wish_of wish_key is_nan of_bits of_fields odd
read_back_lem nan h = refl
read_back_lem (inf s) h = ap (of_bits binary64) (pattern_key (to_bits binary64 (inf s)) (to_bits-lt binary64 (inf s) h)) ∙ of_bits-to_bits binary64 (inf s) h
read_back_lem (fin s m e) h = ap (of_bits binary64) (pattern_key (to_bits binary64 (fin s m e)) (to_bits-lt binary64 (fin s m e) h)) ∙ of_bits-to_bits binary64 (fin s m e) h

-- of every wish of a list, and of none past its end
back_at : (ws : List Float) → ((i : ℕ) → T (fits binary64 (get_or ws i nan))) → (j : ℕ) → wish_of (key_at (map wish_key ws) j) ≡ get_or ws j nan
back_at [] f j = no_wish
back_at (w ∷ ws) f zero = read_back_lem w (f 0)
back_at (w ∷ ws) f (suc j) = back_at ws (λ i. f (suc i)) j

pub back_all : (ws : List Float) → ((i : ℕ) → T (fits binary64 (get_or ws i nan))) → (order : List ℕ) → read_back (map wish_key ws) order ≡ in_order ws order
unfolding read_back in_order
back_all ws f [] = refl
back_all ws f (j ∷ js) = ap (λ (x : Float). x ∷ read_back (map wish_key ws) js) (back_at ws f j) ∙ ap (λ (l : List Float). get_or ws j nan ∷ l) (back_all ws f js)
