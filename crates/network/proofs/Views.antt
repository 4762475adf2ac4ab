-- Laws of the points and boxes that a list of numbers holds: length, element, one more, one changed, equality.
-- Assumes nothing.
use mathlib.Core.Path.{◌≡◌, refl, ap, ◌∙◌}
use mathlib.Core.Logic.{◌≢◌}
use mathlib.Core.List.{List, [], ◌∷◌, ◌++◌}
use Prim.Native.Nat.{ℕ, suc, ◌+◌, ◌*◌, ◌<◌}
use native.Mathlib.Omega.{arith}
use lib.ListN.{length, get_or, set, length-set}
use lib.Seq.{get_or-set_same, get_or-set_other}
use lib.Ieee.{Float, nan}
use Rattle.numbers.specs.Table.{table_from}
use Rattle.numbers.proofs.order.Tables.{length_table, get_d_table, table_suc, table_ext}
use Rattle.numbers.proofs.order.Strides.{table_push, table_set}
use Rattle.plane.specs.declared.geometry.Point.{Point}
use Rattle.plane.specs.declared.geometry.Box.{Box}
use Rattle.plane.specs.Plane.{point, point_at, box_at}
use Rattle.network.specs.Views.{points_in, boxes_in}

-- ---- the numbers of one element: what is read there and beside it after they were stored
abbrev pub put_point : List Float → ℕ → Float → Float → List Float
put_point l i a b = set (set l (2 * i) a) (2 * i + 1) b

abbrev pub put_box : List Float → ℕ → Box → List Float
put_box l i b = set (set (set (set l (4 * i) b.left) (4 * i + 1) b.top) (4 * i + 2) b.right) (4 * i + 3) b.bottom

-- a number read elsewhere, and where it was stored
beside : (l : List Float) (i j : ℕ) (v : Float) → j ≢ i → get_or (set l i v) j nan ≡ get_or l j nan
beside l i j v n = get_or-set_other l i j v nan n

pub point_same : (l : List Float) (i : ℕ) (a b : Float) → 2 * i + 1 < length l → point_at (put_point l i a b) i ≡ point a b
point_same l i a b h =
    let p : 2 * i < length l = omega arith in
    let q : 2 * i + 1 < length (set l (2 * i) a) = simp length-set h in
    let e : get_or (put_point l i a b) (2 * i) nan ≡ a = beside (set l (2 * i) a) (2 * i + 1) (2 * i) b (λ e. omega arith) ∙ get_or-set_same l (2 * i) a nan p in
    let f : get_or (put_point l i a b) (2 * i + 1) nan ≡ b = get_or-set_same (set l (2 * i) a) (2 * i + 1) b nan q in
    ap (λ (x : Float). point x (get_or (put_point l i a b) (2 * i + 1) nan)) e ∙ ap (λ (x : Float). point a x) f

-- a list read at 2 j + o, o below 2, after a point was stored
point_kept : (l : List Float) (i k : ℕ) (a b : Float) → k ≢ 2 * i → k ≢ 2 * i + 1 → get_or (put_point l i a b) k nan ≡ get_or l k nan
point_kept l i k a b m n = beside (set l (2 * i) a) (2 * i + 1) k b n ∙ beside l (2 * i) k a m

pub point_other : (l : List Float) (i j : ℕ) (a b : Float) → j ≢ i → point_at (put_point l i a b) j ≡ point_at l j
point_other l i j a b n =
    ap (λ (x : Float). point x (get_or (put_point l i a b) (2 * j + 1) nan)) (point_kept l i (2 * j) a b (λ e. n (omega arith)) (λ e. n (omega arith)))
    ∙ ap (λ (x : Float). point (get_or l (2 * j) nan) x) (point_kept l i (2 * j + 1) a b (λ e. n (omega arith)) (λ e. n (omega arith)))

abbrev box_of : Float → Float → Float → Float → Box
box_of a b c d = record { left = a; top = b; right = c; bottom = d }

box_cong : (a b c d a' b' c' d' : Float) → a ≡ a' → b ≡ b' → c ≡ c' → d ≡ d' → box_of a b c d ≡ box_of a' b' c' d'
box_cong a b c d a' b' c' d' e f g h = cc

box_kept : (l : List Float) (i k : ℕ) (b : Box) → k ≢ 4 * i → k ≢ 4 * i + 1 → k ≢ 4 * i + 2 → k ≢ 4 * i + 3 → get_or (put_box l i b) k nan ≡ get_or l k nan
box_kept l i k b m n o p =
    beside (set (set (set l (4 * i) b.left) (4 * i + 1) b.top) (4 * i + 2) b.right) (4 * i + 3) k b.bottom p
    ∙ beside (set (set l (4 * i) b.left) (4 * i + 1) b.top) (4 * i + 2) k b.right o
    ∙ beside (set l (4 * i) b.left) (4 * i + 1) k b.top n ∙ beside l (4 * i) k b.left m

pub box_other : (l : List Float) (i j : ℕ) (b : Box) → j ≢ i → box_at (put_box l i b) j ≡ box_at l j
box_other l i j b n =
    box_cong _ _ _ _ _ _ _ _
    (box_kept l i (4 * j) b (λ e. n (omega arith)) (λ e. n (omega arith)) (λ e. n (omega arith)) (λ e. n (omega arith)))
    (box_kept l i (4 * j + 1) b (λ e. n (omega arith)) (λ e. n (omega arith)) (λ e. n (omega arith)) (λ e. n (omega arith)))
    (box_kept l i (4 * j + 2) b (λ e. n (omega arith)) (λ e. n (omega arith)) (λ e. n (omega arith)) (λ e. n (omega arith)))
    (box_kept l i (4 * j + 3) b (λ e. n (omega arith)) (λ e. n (omega arith)) (λ e. n (omega arith)) (λ e. n (omega arith)))

pub box_same : (l : List Float) (i : ℕ) (b : Box) → 4 * i + 3 < length l → box_at (put_box l i b) i ≡ b
box_same l i b h = box_cong _ _ _ _ _ _ _ _ e f g k
  where
    l1 : List Float
    l1 = set l (4 * i) b.left

    l2 : List Float
    l2 = set l1 (4 * i + 1) b.top

    l3 : List Float
    l3 = set l2 (4 * i + 2) b.right

    p0 : 4 * i < length l
    p0 = omega arith

    p1 : 4 * i + 1 < length l1
    p1 = simp length-set (omega arith)

    p2 : 4 * i + 2 < length l2
    p2 = simp length-set (omega arith)

    p3 : 4 * i + 3 < length l3
    p3 = simp length-set (omega arith)

    e : get_or (put_box l i b) (4 * i) nan ≡ b.left
    e = beside l3 (4 * i + 3) (4 * i) b.bottom (λ z. omega arith) ∙ beside l2 (4 * i + 2) (4 * i) b.right (λ z. omega arith)
        ∙ beside l1 (4 * i + 1) (4 * i) b.top (λ z. omega arith) ∙ get_or-set_same l (4 * i) b.left nan p0

    f : get_or (put_box l i b) (4 * i + 1) nan ≡ b.top
    f = beside l3 (4 * i + 3) (4 * i + 1) b.bottom (λ z. omega arith) ∙ beside l2 (4 * i + 2) (4 * i + 1) b.right (λ z. omega arith)
        ∙ get_or-set_same l1 (4 * i + 1) b.top nan p1

    g : get_or (put_box l i b) (4 * i + 2) nan ≡ b.right
    g = beside l3 (4 * i + 3) (4 * i + 2) b.bottom (λ z. omega arith) ∙ get_or-set_same l2 (4 * i + 2) b.right nan p2

    k : get_or (put_box l i b) (4 * i + 3) nan ≡ b.bottom
    k = get_or-set_same l3 (4 * i + 3) b.bottom nan p3

-- ---- the first k of them
pub length_points : (k : ℕ) (l : List Float) → length (points_in k l) ≡ k
unfolding points_in
length_points k l = length_table (point_at l) k

pub get_d_points : (k i : ℕ) (l : List Float) (d : Point) → i < k → get_or (points_in k l) i d ≡ point_at l i
unfolding points_in
get_d_points k i l d h = get_d_table (point_at l) k i d h

pub points_zero : (l : List Float) → points_in 0 l ≡ []
unfolding points_in table_from
points_zero l = refl

pub points_suc : (k : ℕ) (l : List Float) → points_in (suc k) l ≡ points_in k l ++ (point_at l k ∷ [])
unfolding points_in
points_suc k l = table_suc (point_at l) k

pub points_ext : (k : ℕ) (l m : List Float) → ((i : ℕ) → i < k → point_at l i ≡ point_at m i) → points_in k l ≡ points_in k m
unfolding points_in
points_ext k l m h = table_ext (point_at l) (point_at m) k h

pub points_push : (k : ℕ) (l : List Float) (a b : Float) → 2 * k + 1 < length l → points_in (suc k) (put_point l k a b) ≡ points_in k l ++ (point a b ∷ [])
unfolding points_in
points_push k l a b h =
    table_push (point_at l) (point_at (put_point l k a b)) k (point a b) (point_same l k a b h) (λ j q. point_other l k j a b (λ e. omega arith))

pub points_set : (k i : ℕ) (l : List Float) (a b : Float) → i < k → 2 * i + 1 < length l → points_in k (put_point l i a b) ≡ set (points_in k l) i (point a b)
unfolding points_in
points_set k i l a b g h =
    table_set (point_at l) (point_at (put_point l i a b)) k i (point a b) g (point_same l i a b h) (λ j q n. point_other l i j a b n)

pub length_boxes : (k : ℕ) (l : List Float) → length (boxes_in k l) ≡ k
unfolding boxes_in
length_boxes k l = length_table (box_at l) k

pub get_d_boxes : (k i : ℕ) (l : List Float) (d : Box) → i < k → get_or (boxes_in k l) i d ≡ box_at l i
unfolding boxes_in
get_d_boxes k i l d h = get_d_table (box_at l) k i d h

pub boxes_zero : (l : List Float) → boxes_in 0 l ≡ []
unfolding boxes_in table_from
boxes_zero l = refl

pub boxes_suc : (k : ℕ) (l : List Float) → boxes_in (suc k) l ≡ boxes_in k l ++ (box_at l k ∷ [])
unfolding boxes_in
boxes_suc k l = table_suc (box_at l) k

pub boxes_ext : (k : ℕ) (l m : List Float) → ((i : ℕ) → i < k → box_at l i ≡ box_at m i) → boxes_in k l ≡ boxes_in k m
unfolding boxes_in
boxes_ext k l m h = table_ext (box_at l) (box_at m) k h

pub boxes_push : (k : ℕ) (l : List Float) (b : Box) → 4 * k + 3 < length l → boxes_in (suc k) (put_box l k b) ≡ boxes_in k l ++ (b ∷ [])
unfolding boxes_in
boxes_push k l b h = table_push (box_at l) (box_at (put_box l k b)) k b (box_same l k b h) (λ j q. box_other l k j b (λ e. omega arith))

pub boxes_set : (k i : ℕ) (l : List Float) (b : Box) → i < k → 4 * i + 3 < length l → boxes_in k (put_box l i b) ≡ set (boxes_in k l) i b
unfolding boxes_in
boxes_set k i l b g h = table_set (box_at l) (box_at (put_box l i b)) k i b g (box_same l i b h) (λ j q n. box_other l i j b n)
