-- A walk over a sorted list: of those that pass a test, the ones passed before place p are those that stand before the number at p.
-- Assumes nothing.
use mathlib.Core.Path.{◌≡◌, refl, sym, ap, ◌∙◌}
use mathlib.Core.Bool.{Bool, true, false}
use mathlib.Core.List.{List, [], ◌∷◌}
use Prim.Native.Nat.{ℕ, zero, suc, ◌<◌}
use native.Mathlib.Nat.{le_of_suc-le-suc, not-suc-le-zero}
use lib.Dec.{ltb}
use lib.ListN.{length, take, get_or}
use Rattle.numbers.specs.Order.{pick, sort_by, up_from, count, before}
use Rattle.numbers.specs.Table.{how_many}
use Rattle.numbers.proofs.order.Laws.{Chain, all_map, all_at, count_no, count_none, count_nil, count_sort, chain_sort, chain_up, length_up}
use Rattle.numbers.proofs.order.Merging.{length_sort}

neither : (b r : Bool) → r ≡ false → pick b r false ≡ false
neither true r e = e
neither false r e = refl

both : (b r : Bool) → r ≡ true → pick b r false ≡ b
both true r e = e
both false r e = refl

one : (t u : ℕ → Bool) (x : ℕ) (k l : List ℕ) → t x ≡ u x → count t k ≡ count u l → count t (x ∷ k) ≡ count u (x ∷ l)
unfolding count
one t u x k l e f = ap (λ (b : Bool). pick b (suc (count t k)) (count t k)) e ∙ ap (λ (n : ℕ). pick (u x) (suc n) n) f

-- in a list in the order R
pub prefix_chain : (R : ℕ → ℕ → Bool) (t : ℕ → Bool) (l : List ℕ) (p : ℕ) → p < length l → Chain R l
    → count t (take p l) ≡ count (λ j. pick (t j) (R j (get_or l p 0)) false) l
prefix_chain R t [] p h c = absurd (not-suc-le-zero h)
prefix_chain R t (x ∷ xs) zero h c =
    let q : ℕ → Bool = λ j. pick (t j) (R j x) false in
    count_nil t
    ∙ sym (count_no q x xs (neither (t x) (R x x) c.0)
    ∙ count_none q xs (all_map (λ y. (R x y ≡ true) × (R y x ≡ false)) (λ y. q y ≡ false) (λ y e. neither (t y) (R y x) e.1) xs c.1))
prefix_chain R t (x ∷ xs) (suc i) h c =
    let l : i < length xs = le_of_suc-le-suc h in
    let y : ℕ = get_or xs i 0 in
    one t (λ j. pick (t j) (R j y) false) x (take i xs) xs
    (sym (both (t x) (R x y) (all_at (λ y. (R x y ≡ true) × (R y x ≡ false)) xs i l c.1).0)) (prefix_chain R t xs i l c.2)

-- and of 0, .., n - 1 sorted by a key
pub prefix_law : (key : ℕ → ℕ) (t : ℕ → Bool) (n p : ℕ) → p < n
    → count t (take p (sort_by key (up_from 0 n))) ≡ how_many (λ j. pick (t j) (before key ltb j (get_or (sort_by key (up_from 0 n)) p 0)) false) n
prefix_law key t n p h =
    let l : List ℕ = sort_by key (up_from 0 n) in
    let k : p < length l = rw (length_sort key (up_from 0 n), length_up 0 n) h in
    prefix_chain (before key ltb) t l p k (chain_sort key ltb (up_from 0 n) (chain_up 0 n))
    ∙ count_sort key (λ j. pick (t j) (before key ltb j (get_or l p 0)) false) (up_from 0 n)
