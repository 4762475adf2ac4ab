-- What a scan has still before it: the rest of a table, and of the occupied stations. Assumes nothing.
use mathlib.Core.Path.{◌≡◌, sym, ap, ◌∙◌}
use mathlib.Core.List.{List, [], ◌∷◌}
use Prim.Native.Nat.{ℕ, suc, ◌+◌, ◌-◌, ◌*◌, ◌≤◌, ◌<◌}
use native.Mathlib.Omega.{arith}
use native.Mathlib.Numerals.{add-one}
use lib.ListN.{get_or}
use Rattle.numbers.specs.Order.{up_from, keep}
use Rattle.numbers.specs.Table.{table_from, which}
use Rattle.numbers.proofs.order.Laws.{keep_yes, keep_no}
use Rattle.numbers.proofs.order.Strides.{length_strided}
use Rattle.network.specs.Words.{is_occupied, occupied}
use Rattle.network.specs.Views.{counts_in}
use Rattle.network.proofs.Occupied.{is_occupied_lem, not_occupied}

left_more : (n j : ℕ) → j < n → n - j ≡ suc (n - (j + 1))
left_more n j h = omega arith

left_none : (n j : ℕ) → n ≤ j → n - j ≡ 0
left_none n j h = omega arith

module _ {A : Type 0} (f : ℕ → A) where
  abbrev pub rest : ℕ → ℕ → List A
  rest n j = table_from f j (n - j)

  pub rest_start : (n : ℕ) → rest n 0 ≡ table_from f 0 n
  rest_start n = ap (table_from f 0) (sub-none n)
    where
      sub-none : (n : ℕ) → n - 0 ≡ n
      sub-none n = omega arith

  pub rest_more : (n j : ℕ) → j < n → rest n j ≡ f j ∷ rest n (j + 1)
  unfolding table_from
  rest_more n j h = ap (table_from f j) (left_more n j h) ∙ ap (λ (i : ℕ). f j ∷ table_from f i (n - (j + 1))) (sym (add-one j))

  pub rest_end : (n j : ℕ) → n ≤ j → rest n j ≡ []
  unfolding table_from
  rest_end n j h = ap (table_from f j) (left_none n j h)

-- the occupied stations from s on, by the counts in a list of two numbers for each station
module _ (k : ℕ) (st : List ℕ) where
  abbrev pub onward : ℕ → List ℕ
  onward s = keep (is_occupied (counts_in k st)) (up_from s (k - s))

  pub onward_start : onward 0 ≡ occupied (counts_in k st)
  unfolding occupied
  onward_start =
      let e : k - 0 ≡ k = omega arith in
      ap (λ (n : ℕ). which (is_occupied (counts_in k st)) n) (e ∙ sym (length_strided 2 0 0 k st))

  up_rest : (s : ℕ) → s < k → up_from s (k - s) ≡ s ∷ up_from (s + 1) (k - (s + 1))
  unfolding up_from
  up_rest s h = ap (up_from s) (left_more k s h) ∙ ap (λ (i : ℕ). s ∷ up_from i (k - (s + 1))) (sym (add-one s))

  pub onward_yes : (s : ℕ) → s < k → 0 < get_or st (2 * s) 0 → onward s ≡ s ∷ onward (s + 1)
  onward_yes s h p =
      ap (keep (is_occupied (counts_in k st))) (up_rest s h)
      ∙ keep_yes (is_occupied (counts_in k st)) s (up_from (s + 1) (k - (s + 1))) (is_occupied_lem k s st h p)

  pub onward_no : (s : ℕ) → s < k → get_or st (2 * s) 0 ≤ 0 → onward s ≡ onward (s + 1)
  onward_no s h p =
      ap (keep (is_occupied (counts_in k st))) (up_rest s h)
      ∙ keep_no (is_occupied (counts_in k st)) s (up_from (s + 1) (k - (s + 1))) (not_occupied k s st h p)

  pub onward_end : (s : ℕ) → k ≤ s → onward s ≡ []
  unfolding up_from keep
  onward_end s h = ap (λ (n : ℕ). keep (is_occupied (counts_in k st)) (up_from s n)) (left_none k s h)
