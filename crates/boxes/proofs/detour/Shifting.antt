-- Points of a path moved one up, one put in between, and the path as a list of points after it. Assumes nothing.
use mathlib.Core.Path.{◌≡◌, refl, sym, ap, ◌∙◌}
use mathlib.Core.List.{List, [], ◌∷◌, ◌++◌, append_assoc}
use Prim.Native.Nat.{ℕ, zero, suc, ◌+◌, ◌-◌, ◌*◌, ◌≤◌, ◌<◌}
use native.Mathlib.Omega.{arith}
use native.Mathlib.Numerals.{add-one}
use lib.ListN.{length, get_or, take, drop, set, get_or-append, length-drop}
use lib.Seq.{take-set-le, take-take, take-append-le, get_or-take, get_or-drop, get_or-append_right, length-take-le, length-paste}
use lib.Ieee.{Float, nan}
use Rattle.numbers.specs.Table.{table_from}
use Rattle.numbers.proofs.order.Tables.{length_table_from}
use Rattle.plane.specs.declared.geometry.Point.{Point}
use Rattle.plane.specs.Plane.{point, point_at}
use Rattle.network.proofs.Views.{put_point, point_same, point_other}
use Rattle.boxes.specs.Stages.Paths.{path_in, PutIn}

-- ---- putting a point in: the numbers from 2 i to before 2 e are copied two places up, and c is written where they were
module _ (i end : ℕ) (c : Point) (was : List Float) (h : i ≤ end) (room : 2 * end + 1 < length was) where
  abbrev up : List Float
  up = take (2 * end - 2 * i) (drop (2 * i) was)

  abbrev rest : List Float
  rest = up ++ drop (2 * i + 2 + (2 * end - 2 * i)) was

  abbrev copied : List Float
  copied = (take (2 * i + 2) was ++ up) ++ drop (2 * i + 2 + (2 * end - 2 * i)) was

  in_two : copied ≡ take (2 * i + 2) was ++ rest
  in_two = append_assoc (take (2 * i + 2) was) up (drop (2 * i + 2 + (2 * end - 2 * i)) was)

  front : length (take (2 * i + 2) was) ≡ 2 * i + 2
  front = length-take-le (2 * i + 2) was (omega arith)

  size : length copied ≡ length was
  size = length-paste was (2 * i + 2) (drop (2 * i) was) (2 * end - 2 * i) (omega arith) (omega (arith, length-drop (2 * i) was))

  many : length up ≡ 2 * end - 2 * i
  many = length-take-le (2 * end - 2 * i) (drop (2 * i) was) (omega (arith, length-drop (2 * i) was))

  moved_at : (j : ℕ) → 2 * i ≤ j → j < 2 * end → get_or copied (j + 2) nan ≡ get_or was j nan
  moved_at j l k =
      let e : j + 2 - length (take (2 * i + 2) was) ≡ j - 2 * i = omega (arith, front) in
      let f : 2 * i + (j - 2 * i) ≡ j = omega arith in
      ap (λ (l : List Float). get_or l (j + 2) nan) in_two
      ∙ get_or-append_right (take (2 * i + 2) was) rest (j + 2) nan (omega (arith, front))
      ∙ ap (λ (x : ℕ). get_or rest x nan) e
      ∙ get_or-append up (drop (2 * i + 2 + (2 * end - 2 * i)) was) nan (j - 2 * i) (omega (arith, many))
      ∙ get_or-take (2 * end - 2 * i) (drop (2 * i) was) (j - 2 * i) nan (omega arith)
      ∙ get_or-drop (2 * i) was (j - 2 * i) nan ∙ ap (λ (x : ℕ). get_or was x nan) f

  moved_point : (m : ℕ) → i ≤ m → m < end → point_at copied (m + 1) ≡ point_at was m
  moved_point m l k =
      let e : 2 * (m + 1) ≡ 2 * m + 2 = omega arith in
      let f : 2 * (m + 1) + 1 ≡ 2 * m + 1 + 2 = omega arith in
      ap (λ (x : ℕ). point (get_or copied x nan) (get_or copied (2 * (m + 1) + 1) nan)) e
      ∙ ap (λ (x : ℕ). point (get_or copied (2 * m + 2) nan) (get_or copied x nan)) f
      ∙ ap (λ (x : Float). point x (get_or copied (2 * m + 1 + 2) nan)) (moved_at (2 * m) (omega arith) (omega arith))
      ∙ ap (point (get_or was (2 * m) nan)) (moved_at (2 * m + 1) (omega arith) (omega arith))

  before : take (2 * i) (put_point copied i c.x c.y) ≡ take (2 * i) was
  before =
      take-set-le (2 * i) (set copied (2 * i) c.x) (2 * i + 1) c.y (omega arith) ∙ take-set-le (2 * i) copied (2 * i) c.x (omega arith)
      ∙ ap (take (2 * i)) in_two ∙ take-append-le (2 * i) (take (2 * i + 2) was) rest (omega (arith, front)) ∙ take-take (2 * i) (2 * i + 2) was (omega arith)

  pub put_in_made : PutIn i end c was (put_point copied i c.x c.y)
  put_in_made = record {
    before = before;
    here = point_same copied i c.x c.y (omega (arith, size));
    moved = λ m q r. point_other copied i (m + 1) c.x c.y (λ z. omega arith) ∙ moved_point m q r;
  }

-- a point before a kept part
pub point_before : (i m : ℕ) (was now : List Float) → take (2 * i) now ≡ take (2 * i) was → m < i → point_at now m ≡ point_at was m
point_before i m was now e h = ap (λ (x : Float). point x (get_or now (2 * m + 1) nan)) (at (2 * m) (omega arith)) ∙ ap (point (get_or was (2 * m) nan)) (at (2 * m + 1) (omega arith))
  where
    at : (n : ℕ) → n < 2 * i → get_or now n nan ≡ get_or was n nan
    at n k = sym (get_or-take (2 * i) now n nan k) ∙ ap (λ (l : List Float). get_or l n nan) e ∙ get_or-take (2 * i) was n nan k

-- ---- parts of a path
module _ {A : Type 0} where
  like : (f g : ℕ → A) (i j n : ℕ) → ((x : ℕ) → x < n → f (i + x) ≡ g (j + x)) → table_from f i n ≡ table_from g j n
  unfolding table_from
  like f g i j zero h = refl
  like f g i j (suc n) h =
      ap (λ (a : A). a ∷ table_from f (suc i) n) (ap f (plain i) ∙ h 0 (omega arith) ∙ ap g (sym (plain j)))
      ∙ ap (λ (t : List A). g j ∷ t) (like f g (suc i) (suc j) n (λ x l. ap f (on i x) ∙ h (suc x) (omega arith) ∙ ap g (sym (on j x))))
    where
      plain : (a : ℕ) → a ≡ a + 0
      plain a = omega arith

      on : (a x : ℕ) → suc a + x ≡ a + suc x
      on a x = omega arith

  snoc : (f : ℕ → A) (i n : ℕ) → table_from f i (suc n) ≡ table_from f i n ++ (f (i + n) ∷ [])
  unfolding table_from
  snoc f i zero = let e : i ≡ i + 0 = omega arith in ap (λ (a : ℕ). f a ∷ []) e
  snoc f i (suc n) = let e : suc i + n ≡ i + suc n = omega arith in ap (λ (t : List A). f i ∷ t) (snoc f (suc i) n ∙ ap (λ (a : ℕ). table_from f (suc i) n ++ (f a ∷ [])) e)

  joined : (f : ℕ → A) (i n m : ℕ) → table_from f i n ++ table_from f (i + n) m ≡ table_from f i (n + m)
  unfolding table_from
  joined f i zero m = let e : i + 0 ≡ i = omega arith in let g : 0 + m ≡ m = omega arith in ap (λ (a : ℕ). table_from f a m) e ∙ ap (table_from f i) (sym g)
  joined f i (suc n) m =
      let e : i + suc n ≡ suc i + n = omega arith in
      let g : suc (n + m) ≡ suc n + m = omega arith in
      ap (λ (a : ℕ). f i ∷ (table_from f (suc i) n ++ table_from f a m)) e ∙ ap (λ (t : List A). f i ∷ t) (joined f (suc i) n m) ∙ ap (table_from f i) g

pub path_join : (i n m : ℕ) (l : List Float) → m ≤ n → path_in i m l ++ path_in (i + m) (n - m) l ≡ path_in i n l
unfolding path_in
path_join i n m l h = let e : m + (n - m) ≡ n = omega arith in joined (point_at l) i m (n - m) ∙ ap (table_from (point_at l) i) e

pub length_path : (i n : ℕ) (l : List Float) → length (path_in i n l) ≡ n
unfolding path_in
length_path i n l = length_table_from (point_at l) i n

pub path_zero : (i : ℕ) (l : List Float) → path_in i 0 l ≡ []
unfolding path_in table_from
path_zero i l = refl

pub path_more : (i n : ℕ) (l : List Float) → path_in i (n + 1) l ≡ path_in i n l ++ (point_at l (i + n) ∷ [])
unfolding path_in
path_more i n l = ap (table_from (point_at l) i) (add-one n) ∙ snoc (point_at l) i n

-- the first point, and the rest
pub path_cons : (i n m : ℕ) (l : List Float) → n ≡ suc m → path_in i n l ≡ point_at l i ∷ path_in (i + 1) m l
unfolding path_in table_from
path_cons i n m l e = ap (table_from (point_at l) i) e ∙ ap (λ (a : ℕ). point_at l i ∷ table_from (point_at l) a m) (sym (add-one i))

module _ (i end : ℕ) (c : Point) (was now : List Float) (P : PutIn i end c was now) where
  pub path_kept : (a n : ℕ) → a + n ≤ i → path_in a n now ≡ path_in a n was
  unfolding path_in
  path_kept a n h = like (point_at now) (point_at was) a a n (λ x l. point_before i (a + x) was now P.before (omega arith))

  pub path_moved : (n : ℕ) → i + n ≡ end → path_in i (n + 1) now ≡ c ∷ path_in i n was
  unfolding path_in
  path_moved n e =
      path_cons i (n + 1) n now (add-one n)
      ∙ ap (λ (x : Point). x ∷ path_in (i + 1) n now) P.here
      ∙ ap (λ (t : List Point). c ∷ t) (like (point_at now) (point_at was) (i + 1) i n (λ x l. let f : i + 1 + x ≡ i + x + 1 = omega arith in ap (point_at now) f ∙ P.moved (i + x) (omega arith) (omega arith)))

  pub start_kept : (f : ℕ) → f ≤ i → take (2 * f) now ≡ take (2 * f) was
  start_kept f h = part now ∙ ap (take (2 * f)) P.before ∙ sym (part was)
    where
      part : (l : List Float) → take (2 * f) l ≡ take (2 * f) (take (2 * i) l)
      part l = sym (take-take (2 * f) (2 * i) l (omega arith))
