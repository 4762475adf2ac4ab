-- Lists by the number of their elements: what stands at each place, and which and how many numbers pass a test.
-- Definitions only.
use Rattle.std.specs.Prelude.{ℕ, zero, suc, ◌+◌, ◌*◌, Bool, List, [], ◌∷◌, ◌++◌, get_or}
use Rattle.numbers.specs.Order.{up_from, count, keep}

-- f at i, i + 1, .., n of them
unfoldable pub table_from : {A : Type 0} → (ℕ → A) → ℕ → ℕ → List A
table_from f i zero = []
table_from f i (suc n) = f i ∷ table_from f (suc i) n

-- f at 0, .., n - 1
abbrev pub table : {A : Type 0} → (ℕ → A) → ℕ → List A
table f n = table_from f 0 n

-- the lists f 0, .., f (n - 1), one after the other
unfoldable pub joined : {A : Type 0} → (ℕ → List A) → ℕ → List A
joined f zero = []
joined f (suc n) = joined f n ++ f n

-- how many of 0, .., n - 1 pass a test
abbrev pub how_many : (ℕ → Bool) → ℕ → ℕ
how_many p n = count p (up_from 0 n)

-- which of 0, .., n - 1 pass it
abbrev pub which : (ℕ → Bool) → ℕ → List ℕ
which p n = keep p (up_from 0 n)

-- the elements at o, c + o, 2 c + o, .. of a list that holds c side by side, k of them; d past its end
unfoldable pub strided : {A : Type 0} → ℕ → ℕ → A → ℕ → List A → List A
strided c o d k l = table (λ i. get_or l (c * i + o) d) k
