-- Loops that fill a list from the front, and loops that fill one number of several side by side.
-- Assumes nothing.
use mathlib.Core.Path.{◌≡◌, refl, sym, ap, ◌∙◌}
use mathlib.Core.List.{List, [], ◌∷◌, ◌++◌}
use Prim.Native.Nat.{ℕ, ◌+◌, ◌*◌, ◌≤◌, ◌<◌}
use native.Mathlib.Omega.{arith}
use native.Mathlib.Numerals.{add-one}
use lib.ListN.{length, take, get_or, set, length-set}
use lib.Seq.{take-suc-set, get_or-take, length-take-le}
use Rattle.numbers.specs.Order.{key_at}
use Rattle.numbers.specs.Table.{table, strided}
use Rattle.numbers.proofs.order.Tables.{table_zero, table_suc, get_d_table}
use Rattle.numbers.proofs.order.Strides.{is_table, strided_zero, strided_push, strided_other}

pub front_zero : (f : ℕ → ℕ) → [] ≡ table f 0
front_zero f = sym (table_zero f)

pub front_next : (f : ℕ → ℕ) (l : List ℕ) (i v : ℕ) → i < length l → v ≡ f i → take i l ≡ table f i → take (i + 1) (set l i v) ≡ table f (i + 1)
front_next f l i v h e t = rw (add-one i, take-suc-set l i v h, table_suc f i) (cc)

pub side_zero : (c o : ℕ) (f : ℕ → ℕ) (l : List ℕ) → strided c o 0 0 l ≡ table f 0
side_zero c o f l = strided_zero c o 0 l ∙ sym (table_zero f)

pub side_next : (c o : ℕ) (f : ℕ → ℕ) (l : List ℕ) (i j v : ℕ) → o < c → j ≡ c * i + o → j < length l → v ≡ f i
    → strided c o 0 i l ≡ table f i → strided c o 0 (i + 1) (set l j v) ≡ table f (i + 1)
side_next c o f l i j v h e r q t =
    let k : c * i + o < length l = omega arith in
    ap (λ (x : ℕ). strided c o 0 (i + 1) (set l x v)) e ∙ ap (λ (x : ℕ). strided c o 0 x (set l (c * i + o) v)) (add-one i)
    ∙ strided_push c o 0 i l v h k
    ∙ sym (ap (table f) (add-one i) ∙ table_suc f i ∙ ap (λ (x : ℕ). table f i ++ (x ∷ [])) (sym q) ∙ ap (λ (m : List ℕ). m ++ (v ∷ [])) (sym t))

-- the front of a list by its elements, and an element of a front that is a table
pub front_table : (n : ℕ) (l : List ℕ) → n ≤ length l → take n l ≡ table (key_at l) n
front_table n l h = is_table (key_at l) n (take n l) 0 (length-take-le n l h) (λ k g. get_or-take n l k 0 g)

pub front_at : (f : ℕ → ℕ) (n : ℕ) (l : List ℕ) → take n l ≡ table f n → (i : ℕ) → i < n → get_or l i 0 ≡ f i
front_at f n l e i h = sym (get_or-take n l i 0 h) ∙ ap (λ (m : List ℕ). get_or m i 0) e ∙ get_d_table f n i 0 h

-- the first two of four numbers side by side
pub two_next : (f g : ℕ → ℕ) (l : List ℕ) (i v w : ℕ) → 4 * i + 1 < length l → v ≡ f i → w ≡ g i → strided 4 0 0 i l ≡ table f i → strided 4 1 0 i l ≡ table g i
    → (strided 4 0 0 (i + 1) (set (set l (4 * i) v) (4 * i + 1) w) ≡ table f (i + 1)) × (strided 4 1 0 (i + 1) (set (set l (4 * i) v) (4 * i + 1) w) ≡ table g (i + 1))
two_next f g l i v w h p q r s =
    let z : 4 * i ≡ 4 * i + 0 = omega arith in
    let k : 4 * i + 1 < length (set l (4 * i) v) = rw (length-set l (4 * i) v) h in (
      strided_other 4 0 0 1 (i + 1) i (set l (4 * i) v) w (omega arith) (omega arith) (λ t. omega arith)
          ∙ side_next 4 0 f l i (4 * i) v (omega arith) z (omega arith) p r,
      side_next 4 1 g (set l (4 * i) v) i (4 * i + 1) w (omega arith) refl k q
          (ap (λ (j : ℕ). strided 4 1 0 i (set l j v)) z ∙ strided_other 4 1 0 0 i i l v (omega arith) (omega arith) (λ t. omega arith) ∙ s),
    )
