-- What one store or one call leaves, over plain lists: a channel's number and marks, the ways of branches, a branch's path. Assumes nothing.
use mathlib.Core.Path.{◌≡◌, refl, ap, ◌∙◌}
use mathlib.Core.Logic.{⊎_elim}
use mathlib.Core.List.{List}
use Prim.Native.Nat.{ℕ, ◌+◌, ◌*◌, ◌≤◌, ◌<◌}
use native.Mathlib.Omega.{arith}
use lib.ListN.{length, get_or, set, length-set}
use lib.Seq.{get_or-set_same}
use Rattle.numbers.proofs.order.Merging.{le_or_lt}
use Rattle.numbers.proofs.order.Strides.{read_other, strided_other}
use Rattle.routing.specs.Stages.Store.{SameRows, HoldVertices}
use Rattle.routing.specs.declared.crossings.line_vertices.LineVertices.{LineVertices}

-- ---- ways

-- the last two of branch e's four numbers stored
abbrev pub put_pair : List ℕ → ℕ → ℕ → ℕ → List ℕ
put_pair l e a b = set (set l (4 * e + 2) a) (4 * e + 3) b

module _ (l : List ℕ) (e a b : ℕ) where
  pub pair_rows : (m : ℕ) → SameRows m l (put_pair l e a b)
  pair_rows m =
      record {
        from = strided_other 4 0 0 3 m e (set l (4 * e + 2) a) b (omega arith) (omega arith) (λ z. omega arith) ∙ strided_other 4 0 0 2 m e l a (omega arith) (omega arith) (λ z. omega arith);
        to = strided_other 4 1 0 3 m e (set l (4 * e + 2) a) b (omega arith) (omega arith) (λ z. omega arith) ∙ strided_other 4 1 0 2 m e l a (omega arith) (omega arith) (λ z. omega arith);
      }

  pub length_pair : length (put_pair l e a b) ≡ length l
  length_pair = length-set (set l (4 * e + 2) a) (4 * e + 3) b ∙ length-set l (4 * e + 2) a

  pub pair_first : 4 * e + 3 < length l → get_or (put_pair l e a b) (4 * e + 2) 0 ≡ a
  pair_first h = read_other 4 e e 2 3 (set l (4 * e + 2) a) b 0 (omega arith) (omega arith) (λ z w. omega arith) ∙ get_or-set_same l (4 * e + 2) a 0 (omega arith)

  pub pair_second : 4 * e + 3 < length l → get_or (put_pair l e a b) (4 * e + 3) 0 ≡ b
  pair_second h = get_or-set_same (set l (4 * e + 2) a) (4 * e + 3) b 0 (omega (arith, length-set l (4 * e + 2) a))

  pub pair_other : (j o : ℕ) → o < 4 → (j ≡ e → ⊥) → get_or (put_pair l e a b) (4 * j + o) 0 ≡ get_or l (4 * j + o) 0
  pair_other j o h n =
      read_other 4 e j o 3 (set l (4 * e + 2) a) b 0 h (omega arith) (λ z w. n z) ∙ read_other 4 e j o 2 l a 0 h (omega arith) (λ z w. n z)

pub rows_then : (m : ℕ) (a b c : List ℕ) → SameRows m a b → SameRows m b c → SameRows m a c
rows_then m a b c p q = record { from = q.from ∙ p.from; to = q.to ∙ p.to }

pub rows_same : (m : ℕ) (a : List ℕ) → SameRows m a a
rows_same m a = record { from = refl; to = refl }

module _ (ways : ℕ → LineVertices) (m : ℕ) (before : List ℕ) where
  pub vertices_more : (n : ℕ) (now : List ℕ) (w : LineVertices) → 4 * n + 3 < length now → w ≡ ways n → HoldVertices ways m n before now
      → HoldVertices ways m (n + 1) before (put_pair now n w.start w.end)
  vertices_more n now w l q v =
      record {
        rows = rows_then m before now (put_pair now n w.start w.end) v.rows (pair_rows now n w.start w.end m);
        starts = λ j h. ⊎_elim (λ (g : n ≤ j). let z : j ≡ n = omega arith in rw z (pair_first now n w.start w.end l ∙ ap (λ (x : LineVertices). x.start) q)) (λ (g : j < n). pair_other now n w.start w.end j 2 (omega arith) (λ z. omega arith) ∙ v.starts j g) (le_or_lt n j);
        ends = λ j h. ⊎_elim (λ (g : n ≤ j). let z : j ≡ n = omega arith in rw z (pair_second now n w.start w.end l ∙ ap (λ (x : LineVertices). x.end) q)) (λ (g : j < n). pair_other now n w.start w.end j 3 (omega arith) (λ z. omega arith) ∙ v.ends j g) (le_or_lt n j);
      }
