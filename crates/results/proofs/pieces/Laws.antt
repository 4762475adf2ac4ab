-- Laws of the pieces through points: one point more, and how many.
-- Assumes nothing.
use mathlib.Core.Path.{◌≡◌, refl, sym, ap, ◌∙◌}
use mathlib.Core.Bool.{Bool, true, false}
use mathlib.Core.List.{List, [], ◌∷◌, ◌++◌, append-nil, append_assoc}
use Prim.Native.Nat.{ℕ, zero, suc, ◌+◌, ◌-◌, ◌≤◌, ◌<◌}
use native.Mathlib.Omega.{arith}
use native.Mathlib.Numerals.{add-one}
use lib.ListN.{length, length-append}
use lib.Ieee.{Float}
use Rattle.numbers.specs.Order.{pick}
use Rattle.numbers.specs.Table.{table_from, table, joined}
use Rattle.numbers.proofs.order.Tables.{table_suc, joined_zero, joined_suc}
use Rattle.plane.specs.declared.geometry.Point.{Point}
use Rattle.plane.specs.Plane.{point_at}
use Rattle.network.specs.Views.{points_in}
use Rattle.runs.specs.Run.{Piece, apart, pieces}
use Rattle.results.specs.Stages.Pieces.{piece, Counted}

-- ---- the piece between two points, and between points j and j + 1 of a list
unfoldable pub piece_from : ℕ → Point → Point → List Piece
piece_from e p q = pick (apart p q) (piece e p q ∷ []) []

abbrev pub piece_at : ℕ → List Float → ℕ → List Piece
piece_at e l j = piece_from e (point_at l j) (point_at l (j + 1))

pub piece_from_yes : (e : ℕ) (p q : Point) → apart p q ≡ true → piece_from e p q ≡ piece e p q ∷ []
unfolding piece_from
piece_from_yes e p q h = ap (λ (b : Bool). pick b (piece e p q ∷ []) []) h

pub piece_from_no : (e : ℕ) (p q : Point) → apart p q ≡ false → piece_from e p q ≡ []
unfolding piece_from
piece_from_no e p q h = ap (λ (b : Bool). pick b (piece e p q ∷ []) []) h

pieces_cons : (e : ℕ) (p q : Point) (ps : List Point) → pieces e (p ∷ (q ∷ ps)) ≡ piece_from e p q ++ pieces e (q ∷ ps)
unfolding pieces piece_from
pieces_cons e p q ps = go (apart p q) (pieces e (q ∷ ps))
  where
    go : (b : Bool) (rest : List Piece) → pick b (piece e p q ∷ rest) rest ≡ pick b (piece e p q ∷ []) [] ++ rest
    go true rest = refl
    go false rest = refl

pieces_one : (e : ℕ) (p : Point) → pieces e (p ∷ []) ≡ []
unfolding pieces
pieces_one e p = refl

pub pieces_none : (e : ℕ) → pieces e [] ≡ []
unfolding pieces
pieces_none e = refl

-- one point more after two or more
pieces_snoc : (e : ℕ) (ps : List Point) (p q : Point) → pieces e (ps ++ (p ∷ q ∷ [])) ≡ pieces e (ps ++ (p ∷ [])) ++ piece_from e p q
pieces_snoc e [] p q =
    pieces_cons e p q [] ∙ ap (λ (l : List Piece). piece_from e p q ++ l) (pieces_one e q) ∙ append-nil (piece_from e p q)
    ∙ ap (λ (l : List Piece). l ++ piece_from e p q) (sym (pieces_one e p))
pieces_snoc e (a ∷ []) p q =
    pieces_cons e a p (q ∷ []) ∙ ap (λ (l : List Piece). piece_from e a p ++ l) (pieces_snoc e [] p q)
    ∙ sym (append_assoc (piece_from e a p) (pieces e (p ∷ [])) (piece_from e p q))
    ∙ ap (λ (l : List Piece). l ++ piece_from e p q) (sym (pieces_cons e a p []))
pieces_snoc e (a ∷ (b ∷ ps)) p q =
    pieces_cons e a b (ps ++ (p ∷ q ∷ [])) ∙ ap (λ (l : List Piece). piece_from e a b ++ l) (pieces_snoc e (b ∷ ps) p q)
    ∙ sym (append_assoc (piece_from e a b) (pieces e (b ∷ (ps ++ (p ∷ [])))) (piece_from e p q))
    ∙ ap (λ (l : List Piece). l ++ piece_from e p q) (sym (pieces_cons e a b (ps ++ (p ∷ []))))

-- the pieces through the first c points, one after the other
pub pieces_are : (e : ℕ) (l : List Float) (n : ℕ) → pieces e (table (point_at l) (suc n)) ≡ joined (piece_at e l) n
unfolding table_from
pieces_are e l zero = pieces_one e (point_at l 0) ∙ sym (joined_zero (piece_at e l))
pieces_are e l (suc n) =
    ap (pieces e) (table_suc (point_at l) (suc n) ∙ ap (λ (z : List Point). z ++ (point_at l (suc n) ∷ [])) (table_suc (point_at l) n) ∙ append_assoc (table (point_at l) n) (point_at l n ∷ []) (point_at l (suc n) ∷ []))
    ∙ pieces_snoc e (table (point_at l) n) (point_at l n) (point_at l (suc n))
    ∙ ap (λ (z : List Piece). z ++ piece_from e (point_at l n) (point_at l (suc n))) (ap (pieces e) (sym (table_suc (point_at l) n)) ∙ pieces_are e l n)
    ∙ ap (λ (z : ℕ). joined (piece_at e l) n ++ piece_from e (point_at l n) (point_at l z)) (sym (add-one n)) ∙ sym (joined_suc (piece_at e l) n)

pub pieces_in : (e : ℕ) (l : List Float) (c : ℕ) → pieces e (points_in c l) ≡ joined (piece_at e l) (c - 1)
unfolding points_in table_from
pieces_in e l zero = pieces_none e ∙ sym (joined_zero (piece_at e l))
pieces_in e l (suc n) = pieces_are e l n ∙ ap (joined (piece_at e l)) (omega arith)

pub joined_next : (e : ℕ) (l : List Float) (j : ℕ) → joined (piece_at e l) (j + 1) ≡ joined (piece_at e l) j ++ piece_at e l j
joined_next e l j = ap (joined (piece_at e l)) (add-one j) ∙ joined_suc (piece_at e l) j

-- ---- the loop that counts: after j pairs of points, of c points
pub record Counting (l : List Float) (c n j : ℕ) : Type 0 where
  pub within : j ≤ c - 1
  pub small : n ≤ j
  pub counted : (e : ℕ) → n ≡ length (joined (piece_at e l) j)

pub count_none : (l : List Float) (c : ℕ) → Counting l c 0 0
count_none l c = record { within = omega arith; small = omega arith; counted = λ e. ap length (sym (joined_zero (piece_at e l))) }

module _ (l : List Float) (c n j : ℕ) (h : j + 1 < c) (I : Counting l c n j) where
  more : (e x : ℕ) → length (piece_at e l j) ≡ x → length (joined (piece_at e l) (j + 1)) ≡ n + x
  more e x k = ap length (joined_next e l j) ∙ length-append (joined (piece_at e l) j) (piece_at e l j) ∙ (omega (arith, I.counted e))

  pub count_yes : apart (point_at l j) (point_at l (j + 1)) ≡ true → Counting l c (n + 1) (j + 1)
  count_yes t =
      record {
        within = omega arith;
        small = omega (arith, I.small);
        counted = λ e. sym (more e 1 (ap length (piece_from_yes e (point_at l j) (point_at l (j + 1)) t)));
      }

  pub count_no : apart (point_at l j) (point_at l (j + 1)) ≡ false → Counting l c n (j + 1)
  count_no t =
      record {
        within = omega arith;
        small = omega (arith, I.small);
        counted = λ e. omega (arith, more e 0 (ap length (piece_from_no e (point_at l j) (point_at l (j + 1)) t)));
      }

pub count_all : (l : List Float) (c n j : ℕ) → c ≤ j + 1 → Counting l c n j → Counted n (points_in c l)
count_all l c n j h I e =
    let k : j ≡ c - 1 = omega (arith, I.within) in
    I.counted e ∙ ap (λ (z : ℕ). length (joined (piece_at e l) z)) k ∙ ap length (sym (pieces_in e l c))

-- ---- lengths of joined lists
module _ {A : Type 0} (f : ℕ → List A) where
  pub joined_length_suc : (n : ℕ) → length (joined f (suc n)) ≡ length (joined f n) + length (f n)
  joined_length_suc n = ap length (joined_suc f n) ∙ length-append (joined f n) (f n)

  pub joined_mono : (n k : ℕ) → length (joined f n) ≤ length (joined f (n + k))
  joined_mono n zero = let e : n + 0 ≡ n = omega arith in rw e (omega arith)
  joined_mono n (suc k) =
      let e : n + suc k ≡ suc (n + k) = omega arith in
      let h : length (joined f n) ≤ length (joined f (n + k)) = joined_mono n k in
      rw e (omega (arith, joined_length_suc (n + k)))

  pub joined_before : (n m : ℕ) → n < m → length (joined f n) + length (f n) ≤ length (joined f m)
  joined_before n m h =
      let e : suc n + (m - suc n) ≡ m = omega arith in
      let g : length (joined f (suc n)) ≤ length (joined f (suc n + (m - suc n))) = joined_mono (suc n) (m - suc n) in
      let k : length (joined f (suc n)) ≤ length (joined f m) = rw e at g in
      omega (arith, joined_length_suc n)
