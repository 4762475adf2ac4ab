-- What holds of every element of a list. Assumes nothing.
use Prim.Native.Nat.{ℕ, zero, suc, ◌<◌}
use mathlib.Core.Bool.{Bool, true, false}
use mathlib.Core.List.{List, [], ◌∷◌, ◌++◌, map}
use native.Mathlib.Nat.{not-suc-le-zero, le_of_suc-le-suc}
use native.Mathlib.Omega.{arith}
use lib.ListN.{length, get_or}
use Rattle.numbers.specs.Order.{pick}
use Rattle.numbers.specs.Table.{table_from, joined}

unfoldable pub Every : {A : Type 0} → (A → Type 0) → List A → Type 0
Every P [] = Unit {0}
Every P (x ∷ xs) = P x × Every P xs

pub every_at : {A : Type 0} (P : A → Type 0) (l : List A) (d : A) (i : ℕ) → Every P l → P d → P (get_or l i d)
unfolding Every
every_at P [] d i h k = k
every_at P (x ∷ xs) d zero h k = h.0
every_at P (x ∷ xs) d (suc i) h k = every_at P xs d i h.1 k

pub every_table : {A : Type 0} (P : A → Type 0) (f : ℕ → A) (i n : ℕ) → ((j : ℕ) → P (f j)) → Every P (table_from f i n)
unfolding Every table_from
every_table P f i zero h = tt
every_table P f i (suc n) h = (h i, every_table P f (suc i) n h)

pub every_map : {A B : Type 0} (P : B → Type 0) (f : A → B) (l : List A) → ((x : A) → P (f x)) → Every P (map f l)
unfolding Every
every_map P f [] h = tt
every_map P f (x ∷ xs) h = (h x, every_map P f xs h)

pub every_append : {A : Type 0} (P : A → Type 0) (l m : List A) → Every P l → Every P m → Every P (l ++ m)
unfolding Every
every_append P [] m h k = k
every_append P (x ∷ xs) m h k = (h.0, every_append P xs m h.1 k)

pub every_joined : {A : Type 0} (P : A → Type 0) (f : ℕ → List A) (n : ℕ) → ((e : ℕ) → e < n → Every P (f e)) → Every P (joined f n)
unfolding joined
every_joined P f zero h = unfold Every in tt
every_joined P f (suc n) h = every_append P (joined f n) (f n) (every_joined P f n (λ e k. h e (omega arith))) (h n (omega arith))

pub pick_every : {A : Type 0} (P : A → Type 0) (b : Bool) (l m : List A) → Every P l → Every P m → Every P (pick b l m)
pick_every P true l m h k = h
pick_every P false l m h k = k

pub every_within : {A : Type 0} (P : A → Type 0) (l : List A) (d : A) (i : ℕ) → i < length l → Every P l → P (get_or l i d)
unfolding Every
every_within P [] d i h k = absurd (not-suc-le-zero h)
every_within P (x ∷ xs) d zero h k = k.0
every_within P (x ∷ xs) d (suc i) h k = every_within P xs d i (le_of_suc-le-suc h) k.1
