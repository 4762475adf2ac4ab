-- A loop that writes a list from the front, each element by its number. Assumes nothing.
use mathlib.Core.Path.{◌≡◌, refl, sym, ap, ◌∙◌}
use mathlib.Core.List.{List, [], ◌∷◌, ◌++◌, append_assoc, append-nil}
use Prim.Native.Nat.{ℕ, suc, ◌+◌, ◌*◌, ◌≤◌, ◌<◌}
use native.Mathlib.Omega.{arith}
use native.Mathlib.Numerals.{add-one}
use lib.ListN.{length, drop, get_or, set, length-set, drop_of_length-le}
use lib.Seq.{drop-cons, set_at}
use Rattle.numbers.specs.Table.{table, strided}
use Rattle.numbers.proofs.order.Tables.{length_table, table_zero, table_suc}

-- the first i elements are f 0, .., the others are as in d
pub record Tabled {A : Type 0} (f : ℕ → A) (d now : List A) (i : ℕ) : Type 0 where
  pub long : length now ≡ length d
  pub list : now ≡ table f i ++ drop i d

module _ {A : Type 0} (f : ℕ → A) (d : List A) where
  pub table_start : Tabled f d d 0
  table_start = record { long = refl; list = ap (λ (l : List A). l ++ d) (sym (table_zero f)) }

  pub table_step : (now : List A) (i : ℕ) (v : A) → i < length d → v ≡ f i → Tabled f d now i → Tabled f d (set now i v) (i + 1)
  table_step now i v h e r =
      record {
        long = length-set now i v ∙ r.long;
        list =
            ap (λ (l : List A). set l i v) (r.list ∙ ap (λ (l : List A). table f i ++ l) (drop-cons d i v h))
            ∙ set_at (table f i) (get_or d i v) (drop (suc i) d) v i (length_table f i)
            ∙ sym (append_assoc (table f i) (v ∷ []) (drop (suc i) d))
            ∙ ap (λ (w : A). (table f i ++ (w ∷ [])) ++ drop (suc i) d) e
            ∙ ap (λ (l : List A). l ++ drop (suc i) d) (sym (table_suc f i))
            ∙ ap (λ (n : ℕ). table f n ++ drop n d) (sym (add-one i));
      }

  pub table_end : (now : List A) (i : ℕ) → i ≡ length d → Tabled f d now i → now ≡ table f (length d)
  table_end now i e r =
      let short : length d ≤ i = omega arith in
      r.list ∙ ap (λ (l : List A). table f i ++ l) (drop_of_length-le d short) ∙ append-nil (table f i) ∙ ap (table f) e

-- the first of each element's three numbers
pub keys_end : (numbers d now : List ℕ) (i : ℕ) → i ≡ length d → Tabled (λ k. get_or numbers (3 * k + 0) 0) d now i
    → now ≡ strided 3 0 0 (length d) numbers
unfolding strided
keys_end numbers d now i e r = table_end (λ k. get_or numbers (3 * k + 0) 0) d now i e r

pub ruleset table_laws = (table_start, keys_end)
