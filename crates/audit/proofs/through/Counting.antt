-- How many of 0, .., n - 1 pass a test, by the library's words. Assumes nothing.
use Rattle.std.proofs.Common.{◌≡◌, ℕ, zero, suc, ◌+◌, Bool, true, false, cond, List, ◌∷◌, refl, sym, ap, ◌∙◌, add-one, arith}
use Rattle.std.specs.List.{count_by, range_with_len}
use Rattle.std.proofs.lemmas.List.Recursion.{is_count_by}
use Rattle.numbers.specs.Order.{count, pick, up_from}
use Rattle.numbers.specs.Table.{how_many}

range_up : (a n : ℕ) → range_with_len a n ≡ up_from a n
unfolding up_from
range_up a zero = refl
range_up a (suc n) = ap (λ (l : List ℕ). a ∷ l) (ap (λ (b : ℕ). range_with_len b n) (add-one a) ∙ range_up (suc a) n)

pub how_many_ranged : (p : ℕ → Bool) (n : ℕ) → count_by p (range_with_len 0 n) ≡ how_many p n
unfolding count
how_many_ranged p n = ap (count_by p) (range_up 0 n) ∙ sym (is_count_by (count p) p refl (λ x xs. by-test (p x) (count p xs)) (up_from 0 n))
  where
    by-test : (b : Bool) (k : ℕ) → pick b (suc k) k ≡ cond b (1 + k) k
    by-test true k = omega arith
    by-test false k = refl
