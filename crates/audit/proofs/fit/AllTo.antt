-- Whether all of 0, .., n - 1 pass a test: each of them where all do, and what `all` over a list or a range gives. Assumes nothing.
use mathlib.Core.Path.{◌≡◌, refl, sym, ◌∙◌, subst}
use mathlib.Core.Logic.{⊎_elim}
use mathlib.Core.Bool.{Bool, true, false, true≢false, ◌&&◌}
use Prim.Native.Nat.{ℕ, zero, suc, ◌≤◌, ◌<◌}
use native.Mathlib.Omega.{arith}
use Rattle.std.specs.Bool.{Decides, one_answer}
use Rattle.std.specs.List.{list_all, range_with_len}
use Rattle.std.proofs.Common.{zero-add, get_or}
use Rattle.std.proofs.lemmas.List.FromFn.{length-range_with_len, get_or-range_with_len}
use Rattle.std.proofs.lemmas.List.Sums.{AllPass-from_list_all, list_all-from_AllPass}
use Rattle.numbers.proofs.order.Merging.{le_or_lt}
use Rattle.numbers.specs.Order.{all_to}

module _ (p : ℕ → Bool) where
  -- each of those that all pass it
  pub all_to_at : (n i : ℕ) → all_to p n ≡ true → i < n → p i ≡ true
  unfolding all_to
  all_to_at zero i e h = absurd (omega arith)
  all_to_at (suc n) i e h = ⊎_elim
      (λ (l : n ≤ i).
      let q : n ≡ i = omega arith in
      subst (λ (x : ℕ). p x ≡ true) q (last (all_to p n) (p n) e))
      (λ (l : i < n). all_to_at n i (first (all_to p n) (p n) e) l)
      (le_or_lt n i)
    where
      first : (a b : Bool) → a && b ≡ true → a ≡ true
      first true b e = refl
      first false b e = e

      last : (a b : Bool) → a && b ≡ true → b ≡ true
      last true b e = e
      last false b e = absurd (true≢false (sym e))

  all_to_each : (n : ℕ) → ((i : ℕ) → i < n → p i ≡ true) → all_to p n ≡ true
  unfolding all_to
  all_to_each zero h = refl
  all_to_each (suc n) h = rw (all_to_each n (λ i l. h i (omega arith)), h n (omega arith)) refl

  pub all_to_is : (n : ℕ) (b : Bool) → Decides b ((i : ℕ) → i < n → p i ≡ true) → b ≡ all_to p n
  all_to_is n b h = one_answer b (all_to p n) h (λ e i l. all_to_at n i e l, all_to_each n)

  pub all_to_range : (n : ℕ) (b : Bool) → b ≡ list_all p (range_with_len 0 n) → b ≡ all_to p n
  all_to_range n b h = h ∙ all_to_is n (list_all p (range_with_len 0 n)) (at_each, λ each. list_all-from_AllPass p (range_with_len 0 n) (λ k d l. let m : k < n = subst (λ (x : ℕ). k < x) (length-range_with_len 0 n) l in rw (get_or-range_with_len 0 n k d m, zero-add k) (each k m)))
    where
      at_each : list_all p (range_with_len 0 n) ≡ true → (i : ℕ) → i < n → p i ≡ true
      at_each e i l =
          let q : get_or (range_with_len 0 n) i 0 ≡ i = get_or-range_with_len 0 n i 0 l ∙ zero-add i in
          subst (λ (x : ℕ). p x ≡ true) q (AllPass-from_list_all {X = ℕ} p (range_with_len 0 n) e i 0 (subst (λ (x : ℕ). i < x) (sym (length-range_with_len 0 n)) l))
