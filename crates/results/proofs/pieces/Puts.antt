-- Laws of lists with pieces written into them: none, one, more behind, and room.
-- Assumes nothing.
use mathlib.Core.Path.{◌≡◌, refl, sym, ap, ◌∙◌, subst}
use mathlib.Core.Bool.{true, false}
use mathlib.Core.List.{List, [], ◌∷◌, ◌++◌, map, append_assoc}
use Prim.Native.Nat.{ℕ, suc, ◌+◌, ◌*◌, ◌-◌, ◌≤◌, ◌<◌}
use native.Mathlib.Omega.{arith}
use native.Mathlib.Numerals.{add-one}
use lib.ListN.{length, take, drop, set, length-append, length-map, length-drop, take-append-drop}
use lib.Seq.{take_at, drop_at, drop-drop, length-take-le, sets-eq}
use lib.Ieee.{Float}
use Rattle.numbers.specs.Table.{joined}
use Rattle.numbers.proofs.order.Tables.{joined_zero, joined_suc}
use Rattle.plane.specs.Plane.{point_at}
use Rattle.network.specs.Views.{points_in}
use Rattle.runs.specs.Run.{Piece, apart, pieces}
use Rattle.runs.specs.Lists.{flat, piece_numbers}
use Rattle.plane.specs.declared.geometry.Point.{Point}
use Rattle.results.specs.Stages.Pieces.{piece, branch_of, Put}
use Rattle.results.proofs.pieces.Laws.{piece_from, piece_at, piece_from_yes, piece_from_no, pieces_in, joined_before}

-- ---- one list: xs stands from `at` on, the rest is as before
abbrev pasted : {A : Type 0} → ℕ → List A → List A → List A
pasted at xs l = take at l ++ (xs ++ drop (at + length xs) l)

module _ {A : Type 0} (at : ℕ) (xs l : List A) (h : at + length xs ≤ length l) where
  front : length (take at l ++ xs) ≡ at + length xs
  front = let g : at ≤ length l = omega arith in simp (length-append, length-take-le at l g)

  regroup : pasted at xs l ≡ (take at l ++ xs) ++ drop (at + length xs) l
  regroup = sym (append_assoc (take at l) xs (drop (at + length xs) l))

  length_pasted : length (pasted at xs l) ≡ length l
  length_pasted = ap length regroup ∙ length-append (take at l ++ xs) (drop (at + length xs) l) ∙ (omega (arith, front, length-drop (at + length xs) l))

  pasted_more : (ys : List A) → pasted (at + length xs) ys (pasted at xs l) ≡ pasted at (xs ++ ys) l
  pasted_more ys =
      let k : ℕ = at + length xs in
      let p : List A = take at l ++ xs in
      let d : List A = drop (k + length ys) l in
      let e1 : take k (p ++ drop k l) ≡ p = take_at p (drop k l) k front in
      let e2 : drop (k + length ys) (p ++ drop k l) ≡ d =
      sym (drop-drop (length ys) k (p ++ drop k l)) ∙ ap (drop (length ys)) (drop_at p (drop k l) k front) ∙ drop-drop (length ys) k l in
      let e3 : k + length ys ≡ at + length (xs ++ ys) = omega (arith, length-append xs ys) in
      ap (λ (z : List A). pasted k ys z) regroup ∙ ap (λ (z : List A). z ++ (ys ++ drop (k + length ys) (p ++ drop k l))) e1
      ∙ ap (λ (z : List A). p ++ (ys ++ z)) e2 ∙ append_assoc (take at l) xs (ys ++ d) ∙ ap (λ (z : List A). take at l ++ z) (sym (append_assoc xs ys d))
      ∙ ap (λ (z : ℕ). take at l ++ ((xs ++ ys) ++ drop z l)) e3

paste_none : {A : Type 0} (at : ℕ) (l : List A) → l ≡ take at l ++ ([] ++ drop at l)
paste_none at l = sym (take-append-drop at l)

-- ---- numbers and branches
pub length_flat : (ps : List Piece) → length (flat piece_numbers ps) ≡ 4 * length ps
unfolding flat
length_flat [] = refl
length_flat (p ∷ ps) = omega (arith, length_flat ps)

flat_append : (ps qs : List Piece) → flat piece_numbers (ps ++ qs) ≡ flat piece_numbers ps ++ flat piece_numbers qs
unfolding flat
flat_append [] qs = refl
flat_append (p ∷ ps) qs = ap (λ (z : List Float). piece_numbers p ++ z) (flat_append ps qs)

map_append : (ps qs : List Piece) → map branch_of (ps ++ qs) ≡ map branch_of ps ++ map branch_of qs
map_append [] qs = refl
map_append (p ∷ ps) qs = ap (λ (z : List ℕ). p.branch ∷ z) (map_append ps qs)

pub put_none : (at : ℕ) (n : List Float) (b : List ℕ) → Put at at [] n n b b
unfolding flat
put_none at n b = record { count = omega arith; four = paste_none (4 * at) n; one = paste_none at b }

pub put_one : (k e : ℕ) (p q : Point) (n : List Float) (b : List ℕ) → 4 * (k + 1) ≤ length n → k + 1 ≤ length b
    → Put k (k + 1) (piece e p q ∷ []) n (set (set (set (set n (4 * k) p.x) (4 * k + 1) p.y) (4 * k + 2) q.x) (4 * k + 3) q.y) b (set b k e)
unfolding flat
put_one k e p q n b h g =
    let a1 : 4 * k + 1 ≡ suc (4 * k) = omega arith in
    let a2 : 4 * k + 2 ≡ suc (suc (4 * k)) = omega arith in
    let a3 : 4 * k + 3 ≡ suc (suc (suc (4 * k))) = omega arith in
    let a4 : 4 * (k + 1) ≡ 4 * k + 4 = omega arith in
    record {
      count = refl;
      four = rw (a1, a2, a3, a4) (sets-eq (piece_numbers (piece e p q)) n (4 * k) (omega arith) ∙ append_assoc (take (4 * k) n) (piece_numbers (piece e p q)) (drop (4 * k + 4) n));
      one = sets-eq (e ∷ []) b k g ∙ append_assoc (take k b) (e ∷ []) (drop (k + 1) b);
    }

-- written pieces leave the lists as long as they were
module _ {at r : ℕ} {ps : List Piece} {n n' : List Float} {b b' : List ℕ} (w : Put at r ps n n' b b') where
  as_four : n' ≡ pasted (4 * at) (flat piece_numbers ps) n
  as_four =
      let e : 4 * r ≡ 4 * at + length (flat piece_numbers ps) = omega (arith, w.count, length_flat ps) in
      rw e at w.four

  as_one : b' ≡ pasted at (map branch_of ps) b
  as_one =
      let e : r ≡ at + length (map branch_of ps) = w.count ∙ ap (λ (z : ℕ). at + z) (sym (length-map ps branch_of)) in
      rw e at w.one

  pub put_length_four : 4 * r ≤ length n → length n' ≡ length n
  put_length_four h = ap length as_four ∙ length_pasted (4 * at) (flat piece_numbers ps) n (omega (arith, w.count, length_flat ps))

  pub put_length_one : r ≤ length b → length b' ≡ length b
  put_length_one h = ap length as_one ∙ length_pasted at (map branch_of ps) b (omega (arith, w.count, length-map ps branch_of))

-- pieces written behind others
pub put_more : {at r s : ℕ} {ps qs : List Piece} {n n' n'' : List Float} {b b' b'' : List ℕ} → Put at r ps n n' b b' → Put r s qs n' n'' b' b''
    → 4 * s ≤ length n → s ≤ length b → Put at s (ps ++ qs) n n'' b b''
put_more {at} {r} {s} {ps} {qs} {n} {n'} {n''} {b} {b'} {b''} v w h g =
    let x : List Float = flat piece_numbers ps in
    let y : List Float = flat piece_numbers qs in
    let i : List ℕ = map branch_of ps in
    let j : List ℕ = map branch_of qs in
    let f1 : 4 * r ≡ 4 * at + length x = omega (arith, v.count, length_flat ps) in
    let f2 : 4 * s ≡ 4 * at + length x + length y = omega (arith, v.count, w.count, length_flat ps, length_flat qs) in
    let f3 : 4 * s ≡ 4 * at + length (x ++ y) = omega (arith, length-append x y) in
    let o1 : r ≡ at + length i = omega (arith, v.count, length-map ps branch_of) in
    let o2 : s ≡ at + length i + length j = omega (arith, v.count, w.count, length-map ps branch_of, length-map qs branch_of) in
    let o3 : s ≡ at + length (i ++ j) = omega (arith, length-append i j) in
    let four : n'' ≡ pasted (4 * at) (x ++ y) n =
    as_four w ∙ ap (λ (z : ℕ). pasted z y n') f1 ∙ ap (λ (z : List Float). pasted (4 * at + length x) y z) (as_four v) ∙ pasted_more (4 * at) x n (omega arith) y in
    let one : b'' ≡ pasted at (i ++ j) b =
    as_one w ∙ ap (λ (z : ℕ). pasted z j b') o1 ∙ ap (λ (z : List ℕ). pasted (at + length i) j z) (as_one v) ∙ pasted_more at i b (omega arith) j in
    record {
      count = omega (arith, v.count, w.count, length-append ps qs);
      four = four ∙ ap (λ (z : ℕ). take (4 * at) n ++ ((x ++ y) ++ drop z n)) (sym f3) ∙ ap (λ (z : List Float). take (4 * at) n ++ (z ++ drop (4 * s) n)) (sym (flat_append ps qs));
      one = one ∙ ap (λ (z : ℕ). take at b ++ ((i ++ j) ++ drop z b)) (sym o3) ∙ ap (λ (z : List ℕ). take at b ++ (z ++ drop s b)) (sym (map_append ps qs));
    }

pub put_of : {at r : ℕ} {ps qs : List Piece} {n n' : List Float} {b b' : List ℕ} → Put at r ps n n' b b' → ps ≡ qs → Put at r qs n n' b b'
put_of {at} {r} {ps} {qs} {n} {n'} {b} {b'} w e = subst (λ (z : List Piece). Put at r z n n' b b') e w

-- ---- a loop that writes the lists F 0, .., F (m - 1), one after the other: after j of them
pub record Filling (F : ℕ → List Piece) (m at : ℕ) (n n' : List Float) (b b' : List ℕ) (k j : ℕ) : Type 0 where
  pub within : j ≤ m
  pub put : Put at k (joined F j) n n' b b'
  pub room4 : 4 * (at + length (joined F m)) ≤ length n
  pub room1 : at + length (joined F m) ≤ length b
  pub sized4 : length n' ≡ length n
  pub sized1 : length b' ≡ length b

module _ (F : ℕ → List Piece) (m at : ℕ) where
  pub fill_none : (n : List Float) (b : List ℕ) → 4 * (at + length (joined F m)) ≤ length n → at + length (joined F m) ≤ length b → Filling F m at n n b b at 0
  fill_none n b h g =
      record { within = omega arith; put = put_of (put_none at n b) (sym (joined_zero F)); room4 = h; room1 = g; sized4 = refl; sized1 = refl }

  module _ {n n' : List Float} {b b' : List ℕ} {k j : ℕ} (I : Filling F m at n n' b b' k j) where
    pub fill_room : j < m → (4 * (k + length (F j)) ≤ length n') × (k + length (F j) ≤ length b')
    fill_room h =
        let z : length (joined F j) + length (F j) ≤ length (joined F m) = joined_before F j m h in
        let e : k ≡ at + length (joined F j) = I.put.count in
        (omega (arith, I.room4, I.sized4), omega (arith, I.room1, I.sized1))

    pub fill_more : {r : ℕ} {n'' : List Float} {b'' : List ℕ} → j < m → Put k r (F j) n' n'' b' b'' → Filling F m at n n'' b b'' r (j + 1)
    fill_more {r} h w =
        let q = fill_room h in
        let c : r ≡ k + length (F j) = w.count in
        let x4 : 4 * r ≤ length n' = omega (arith, q.0) in
        let x1 : r ≤ length b' = omega (arith, q.1) in
        record {
          within = omega arith;
          put = put_of (put_more I.put w (omega (arith, x4, I.sized4)) (omega (arith, x1, I.sized1))) (sym (ap (joined F) (add-one j) ∙ joined_suc F j));
          room4 = I.room4;
          room1 = I.room1;
          sized4 = put_length_four w x4 ∙ I.sized4;
          sized1 = put_length_one w x1 ∙ I.sized1;
        }

    pub fill_skip : j < m → F j ≡ [] → Filling F m at n n' b b' k (j + 1)
    fill_skip h e = fill_more h (put_of (put_none k n' b') (sym e))

    pub fill_end : m ≤ j → Put at k (joined F m) n n' b b'
    fill_end h =
        let e : j ≡ m = omega (arith, I.within) in
        put_of I.put (ap (joined F) e)

-- ---- the pieces through the points of a list
module _ (l : List Float) (c e at : ℕ) where
  pub points_none : (n : List Float) (b : List ℕ) → 4 * (at + length (pieces e (points_in c l))) ≤ length n → at + length (pieces e (points_in c l)) ≤ length b
      → Filling (piece_at e l) (c - 1) at n n b b at 0
  points_none n b h g =
      let z : length (pieces e (points_in c l)) ≡ length (joined (piece_at e l) (c - 1)) = ap length (pieces_in e l c) in
      fill_none (piece_at e l) (c - 1) at n b (omega arith) (omega arith)

  module _ {n n' : List Float} {b b' : List ℕ} {k j : ℕ} (I : Filling (piece_at e l) (c - 1) at n n' b b' k j) where
    module _ (h : j + 1 < c) where
      pub points_room : apart (point_at l j) (point_at l (j + 1)) ≡ true → (4 * (k + 1) ≤ length n') × (k + 1 ≤ length b')
      points_room t =
          let z : length (piece_at e l j) ≡ 1 = ap length (piece_from_yes e (point_at l j) (point_at l (j + 1)) t) in
          let q = fill_room (piece_at e l) (c - 1) at I (omega arith) in
          (omega (arith, q.0), omega (arith, q.1))

      pub points_yes : {n'' : List Float} {b'' : List ℕ} (p q : Point) → p ≡ point_at l j → q ≡ point_at l (j + 1) → apart p q ≡ true
          → Put k (k + 1) (piece e p q ∷ []) n' n'' b' b'' → Filling (piece_at e l) (c - 1) at n n'' b b'' (k + 1) (j + 1)
      points_yes p q f g t w =
          let z : piece e p q ∷ [] ≡ piece_at e l j = sym (piece_from_yes e p q t) ∙ ap (λ (x : Point). piece_from e x q) f ∙ ap (λ (x : Point). piece_from e (point_at l j) x) g in
          fill_more (piece_at e l) (c - 1) at I (omega arith) (put_of w z)

      pub points_no : apart (point_at l j) (point_at l (j + 1)) ≡ false → Filling (piece_at e l) (c - 1) at n n' b b' k (j + 1)
      points_no t = fill_skip (piece_at e l) (c - 1) at I (omega arith) (piece_from_no e (point_at l j) (point_at l (j + 1)) t)

    pub points_end : c ≤ j + 1 → Put at k (pieces e (points_in c l)) n n' b b'
    points_end h = put_of (fill_end (piece_at e l) (c - 1) at I (omega arith)) (sym (pieces_in e l c))
