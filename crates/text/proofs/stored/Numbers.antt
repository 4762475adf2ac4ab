-- A number's digits, taken one after another, and with zeros behind them.
use Rattle.std.proofs.Common.{◌≡◌, ℕ, ◌+◌, ◌-◌, ◌*◌, ◌%◌, ◌^◌, List, [], ◌∷◌, ◌++◌, length, map, take, drop, replicate, arith, refl, ap, ◌∙◌}
use Rattle.std.specs.Prelude.{min}
use Rattle.std.specs.List.{fold}
use Rattle.std.specs.Int.Digits.{number_from_digits_after}
use Rattle.std.proofs.Math.Nat.{mod-add-mod}
use Rattle.std.proofs.lemmas.List.{take_min, drop-replicate}
use Rattle.std.proofs.lemmas.Nat.{mul-mod_first}
use Rattle.text.specs.Words.{digit, number, padded}

-- a number of 64 bits and one digit more
abbrev pub with_digit : ℕ → ℕ → ℕ
with_digit v b = (v * 16 % 2 ^ 64 + digit b) % 2 ^ 64

folded_from : (n : ℕ) (bs : List ℕ) → fold with_digit (n % 2 ^ 64) bs ≡ number_from_digits_after 16 n (map digit bs) % 2 ^ 64
folded_from n [] = refl
folded_from n (b ∷ bs) =
    let one : with_digit (n % 2 ^ 64) b ≡ (n * 16 + digit b) % 2 ^ 64 = ap (λ x. (x + digit b) % 2 ^ 64) (mul-mod_first n 16 (2 ^ 64)) ∙ mod-add-mod (n * 16) (2 ^ 64) (digit b) in
    ap (λ x. fold with_digit x bs) one ∙ folded_from (n * 16 + digit b) bs

pub folded : (bs : List ℕ) → fold with_digit 0 bs ≡ number bs
unfolding number
folded bs = folded_from 0 bs

-- sixteen digits of which the first are given
pub padded_is : (ds new : List ℕ) (n : ℕ) → n ≡ min (length ds) 16 → new ≡ take n ds → number (new ++ drop {A = ℕ} n (replicate 16 48)) ≡ padded ds
unfolding padded
padded_is ds new n e f =
    let s : n ≡ min 16 (length ds) = omega (arith, e) in
    let k : 16 - n ≡ 16 - length ds = omega (arith, e) in
    let front : new ≡ take 16 ds = f ∙ ap (λ i. take i ds) s ∙ take_min 16 ds in
    let back : drop {A = ℕ} n (replicate 16 48) ≡ replicate {A = ℕ} (16 - length ds) 48 = drop-replicate {X = ℕ} n 16 48 ∙ ap (λ i. replicate i 48) k in
    rw (front, back)
