-- Whether a test that counts finds any: as `any` over a range answers it, and as one that was found or none does.
-- Assumes nothing.
use Prim.Native.Nat.{ℕ, zero, suc, ◌+◌, ◌<◌, ◌≤◌}
use mathlib.Core.Path.{◌≡◌, refl, sym, ap, ◌∙◌}
use mathlib.Core.Bool.{Bool, true, false, not, ◌||◌}
use mathlib.Core.List.{List, [], ◌∷◌}
use native.Mathlib.Numerals.{add-one}
use native.Mathlib.Omega.{arith}
use borrow.Author.Tests.{lt-ltb, le-ltb}
use lib.Dec.{ltb}
use lib.ListN.{length, get_or}
use Rattle.std.specs.Bool.{MatchBool}
use Rattle.std.specs.List.{list_any, range_with_len}
use Rattle.numbers.specs.Order.{pick, count, up_from}
use Rattle.numbers.specs.Table.{how_many}
use Rattle.numbers.proofs.order.Tables.{how_many_zero, how_many_yes, how_many_no, how_many_mono}
use Rattle.network.specs.Refusal.{is_voltage, stray_voltage}

module _ (p : ℕ → Bool) where
  any_counted : (l : List ℕ) → list_any p l ≡ ltb 0 (count p l)
  unfolding count
  any_counted [] = refl
  any_counted (x ∷ xs) = go (p x) (any_counted xs)
    where
      go : (b : Bool) → list_any p xs ≡ ltb 0 (count p xs) → (b || list_any p xs) ≡ ltb 0 (pick b (suc (count p xs)) (count p xs))
      go true h = sym (lt-ltb 0 (suc (count p xs)) (omega arith))
      go false h = h

  range_up : (a n : ℕ) → range_with_len a n ≡ up_from a n
  unfolding up_from
  range_up a zero = refl
  range_up a (suc n) = ap (λ (b : ℕ). a ∷ range_with_len b n) (add-one a) ∙ ap (λ (l : List ℕ). a ∷ l) (range_up (suc a) n)

  -- of the numbers below n
  pub any_below : (n : ℕ) → list_any p (range_with_len 0 n) ≡ ltb 0 (how_many p n)
  any_below n = ap (list_any p) (range_up 0 n) ∙ any_counted (up_from 0 n)

  none_below : (n : ℕ) → ((k : ℕ) → k < n → p k ≡ false) → how_many p n ≡ 0
  none_below zero h = how_many_zero p
  none_below (suc n) h = how_many_no p n (h n (omega arith)) ∙ none_below n (λ k l. h k (omega arith))

  -- one found, or none
  pub found_or_none : (n : ℕ) (r : Bool) → MatchBool r ((k : ℕ) × (k < n) × (p k ≡ true)) ((k : ℕ) → k < n → p k ≡ false) → r ≡ ltb 0 (how_many p n)
  found_or_none n true h =
      let y : how_many p (suc h.0) ≡ suc (how_many p h.0) = how_many_yes p h.0 h.2 in
      let m : how_many p (suc h.0) ≤ how_many p n = how_many_mono p (suc h.0) n h.1 in
      sym (lt-ltb 0 (how_many p n) (omega arith))
  found_or_none n false h = let z : how_many p n ≡ 0 = none_below n h in sym (le-ltb 0 (how_many p n) (omega arith))

-- one voltage that is none makes a stray one
module _ (kv : List ℕ) where
  stray_at : ℕ → Bool
  stray_at i = not (is_voltage (get_or kv i 0))

  pub stray_found : (i : ℕ) (r : Bool) → i < length kv → r ≡ is_voltage (get_or kv i 0) → r ≡ false → true ≡ stray_voltage kv
  unfolding stray_voltage stray_at
  stray_found i r h e f =
      let y : how_many stray_at (suc i) ≡ suc (how_many stray_at i) = how_many_yes stray_at i (ap not (sym e) ∙ ap not f) in
      let m : how_many stray_at (suc i) ≤ how_many stray_at (length kv) = how_many_mono stray_at (suc i) (length kv) h in
      sym (lt-ltb 0 (how_many stray_at (length kv)) (omega arith))
