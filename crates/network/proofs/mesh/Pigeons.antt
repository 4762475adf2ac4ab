-- Numbers given to the half-edges of a mesh are at most as many as it has half-edges, and so are its channels. Assumes nothing.
use mathlib.Core.Path.{◌≡◌, refl, ◌∙◌}
use mathlib.Core.Logic.{⊎_elim}
use mathlib.Core.Bool.{Bool, true, false}
use mathlib.Core.List.{List, [], ◌∷◌}
use Prim.Native.Nat.{ℕ, zero, suc, ◌+◌, ◌≤◌, ◌<◌, zero-le}
use native.Mathlib.Omega.{arith}
use lib.Dec.{ltb, eqb}
use lib.ListN.{length}
use borrow.Author.Tests.{lt-ltb, le-ltb, eq-eqb, ne_eqb}
use Rattle.numbers.specs.Order.{count}
use Rattle.numbers.specs.Table.{table}
use Rattle.numbers.proofs.order.Laws.{count_yes, count_no, count_nil, count_at}
use Rattle.numbers.proofs.order.Tables.{length_table, get_d_table}
use Rattle.numbers.proofs.order.Merging.{le_or_lt}
use Rattle.network.specs.Mesh.{low_at, high_at}

few : (p : ℕ → Bool) (l : List ℕ) → count p l ≤ length l
few p [] = omega (arith, count_nil p)
few p (x ∷ xs) = go (p x) refl (few p xs)
  where
    go : (b : Bool) → p x ≡ b → count p xs ≤ length xs → count p (x ∷ xs) ≤ suc (length xs)
    go true e h = omega (arith, count_yes p x xs e)
    go false e h = omega (arith, count_no p x xs e)

-- those of a list below k + 1 are those below k and those that are k
abbrev Split : ℕ → List ℕ → Type 0
Split k l = count (λ y. ltb y (suc k)) l ≡ count (λ y. ltb y k) l + count (λ y. eqb y k) l

split_more : (k x : ℕ) (xs : List ℕ) → Split k xs → Split k (x ∷ xs)
split_more k x xs s = ⊎_elim (λ (h : k ≤ x). ⊎_elim (λ (g : x ≤ k). here (omega arith)) above (le_or_lt x k)) below (le_or_lt k x)
  where
    within : x < suc k → count (λ y. ltb y (suc k)) (x ∷ xs) ≡ suc (count (λ y. ltb y (suc k)) xs)
    within h = count_yes (λ y. ltb y (suc k)) x xs (lt-ltb x (suc k) h)

    past : k ≤ x → count (λ y. ltb y k) (x ∷ xs) ≡ count (λ y. ltb y k) xs
    past h = count_no (λ y. ltb y k) x xs (le-ltb x k h)

    apart : (x ≡ k → ⊥) → count (λ y. eqb y k) (x ∷ xs) ≡ count (λ y. eqb y k) xs
    apart n = count_no (λ y. eqb y k) x xs (ne_eqb x k n)

    below : x < k → Split k (x ∷ xs)
    below h = omega (arith, within (omega arith), count_yes (λ y. ltb y k) x xs (lt-ltb x k h), apart (λ q. omega arith))

    here : x ≡ k → Split k (x ∷ xs)
    here e = omega (arith, within (omega arith), past (omega arith), count_yes (λ y. eqb y k) x xs (eq-eqb x k e))

    above : k < x → Split k (x ∷ xs)
    above h = omega (arith, count_no (λ y. ltb y (suc k)) x xs (le-ltb x (suc k) h), past (omega arith), apart (λ q. omega arith))

split : (k : ℕ) (l : List ℕ) → Split k l
split k [] = omega (arith, count_nil (λ x. ltb x (suc k)), count_nil (λ x. ltb x k), count_nil (λ x. eqb x k))
split k (x ∷ xs) = split_more k x xs (split k xs)

covers : (k : ℕ) (l : List ℕ) → ((c : ℕ) → c < k → 0 < count (λ x. eqb x c) l) → k ≤ count (λ x. ltb x k) l
covers zero l h = zero-le
covers (suc k) l h = omega (arith, split k l, covers k l (λ c e. h c (omega arith)), h k (omega arith))

-- if each c below k is f of a number below n, then k is at most n
pub pigeons : (f : ℕ → ℕ) (n k : ℕ) → ((c : ℕ) → c < k → (h : ℕ) × (h < n) × (f h ≡ c)) → k ≤ n
pigeons f n k h = omega (arith, few (λ x. ltb x k) (table f n), covers k (table f n) found, length_table f n)
  where
    found : (c : ℕ) → c < k → 0 < count (λ x. eqb x c) (table f n)
    found c e =
        let w = h c e in
        count_at (λ x. eqb x c) (table f n) w.0 (omega (arith, w.1, length_table f n)) (eq-eqb _ c (get_d_table f n w.0 0 w.1 ∙ w.2))

-- Channels are as many as pairs of vertices without direction: where each of k numbers is that of some half-edge's pair, k is at most the mesh length.
pub channels_few : (corners : List ℕ) (number : ℕ → ℕ → ℕ) (k : ℕ)
    → ((c : ℕ) → c < k → (h : ℕ) × (h < length corners) × (number (low_at corners h) (high_at corners h) ≡ c)) → k ≤ length corners
channels_few corners number k h = pigeons (λ e. number (low_at corners e) (high_at corners e)) (length corners) k h
