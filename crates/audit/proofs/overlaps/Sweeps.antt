-- Stations sorted by their boxes' left sides, and a scan of those behind one of them: one place more, the stop, and the end. Assumes nothing.
use mathlib.Core.Path.{◌≡◌, refl, sym, ap, ◌∙◌, subst}
use mathlib.Core.Bool.{Bool, true, false}
use mathlib.Core.List.{List, [], ◌∷◌, ◌++◌}
use Prim.Native.Nat.{ℕ, suc, ◌+◌, ◌-◌, ◌*◌, ◌≤◌, ◌<◌}
use native.Mathlib.Omega.{arith}
use native.Mathlib.Numerals.{add-one}
use lib.Dec.{T}
use lib.ListN.{length, get_or, take, drop, length-drop, get_or-append}
use lib.Seq.{take_at, get_or-drop, drop-cons}
use lib.Ieee.{Float, nan, le, fits, binary64}
use Rattle.numbers.specs.Small.{is_finite}
use Rattle.numbers.specs.Ops.{order_key}
use Rattle.numbers.proofs.float.Keys.{order_key_le, finite_no_nan}
use Rattle.numbers.specs.Order.{key_at, count, sort_by}
use Rattle.numbers.specs.Table.{table}
use Rattle.numbers.proofs.order.Merging.{length_sort}
use Rattle.numbers.proofs.order.Laws.{All, all_at, all_sort, sorted, count_yes, count_no, count_none}
use Rattle.numbers.proofs.order.Tables.{length_table, get_d_table, all_which}
use Rattle.numbers.proofs.order.Strides.{length_strided}
use Rattle.plane.specs.declared.geometry.Box.{Box}
use Rattle.plane.specs.Plane.{box_at, no_box, box_in}
use Rattle.network.specs.Words.{is_occupied, occupied}
use Rattle.network.specs.Views.{counts_in, boxes_in}
use Rattle.network.proofs.Views.{get_d_boxes}
use Rattle.placement.proofs.Clear.{Good}
use Rattle.audit.specs.Overlaps.{overlapping, overlaps}
use Rattle.audit.specs.Stages.Sweep.{left_at, Finite, Keyed, Sorted, Lefts, paired, either, pairs}
use Rattle.audit.proofs.overlaps.Pairs.{pairs_sorted}
use Rattle.audit.proofs.overlaps.Stops.{stop}

-- ---- the order
occupied_below : (k : ℕ) (st : List ℕ) → All (λ s. s < k) (occupied (counts_in k st))
unfolding occupied
occupied_below k st =
    all_which (is_occupied (counts_in k st)) (λ s. s < k) (length (counts_in k st)) (λ i h o. subst (λ (n : ℕ). i < n) (length_strided 2 0 0 k st) h)

module _ (boxes : List Float) (k : ℕ) where
  module _ (F : (i : ℕ) → T (fits binary64 (get_or boxes i nan))) (G : Finite boxes) (B : 4 * k ≤ length boxes) (ks old : List ℕ)
      (e : ks ≡ table (λ s. order_key (left_at boxes s)) k ++ drop k old) where
    no_nan : (s : ℕ) → s < k → is_finite (left_at boxes s) ≡ true
    no_nan s h = G.at (4 * s) (omega arith)

    key_here : (s : ℕ) → s < k → key_at ks s ≡ order_key (left_at boxes s)
    key_here s h =
        let f : ℕ → ℕ = λ s. order_key (left_at boxes s) in
        let z : s < length (table f k) = omega (arith, length_table f k) in
        ap (λ (l : List ℕ). get_or l s 0) e ∙ get_or-append (table f k) (drop k old) 0 s z ∙ get_d_table f k s 0 h

    pub left_keyed : Keyed boxes k ks
    left_keyed = record {
      rising = λ i j h l m.
          order_key_le (left_at boxes i) (left_at boxes j) (F (4 * i)) (F (4 * j)) (finite_no_nan (left_at boxes i) (no_nan i h)) (finite_no_nan (left_at boxes j) (no_nan j l))
          (subst (λ (t : ℕ). t ≤ order_key (left_at boxes j)) (key_here i h) (subst (λ (t : ℕ). key_at ks i ≤ t) (key_here j l) m));
    }

  module _ (ks : List ℕ) (K : Keyed boxes k ks) where
    module _ (ss : List ℕ) (A : All (λ s. s < k) ss) (n : ℕ) (N : n ≡ length ss) (o o' : List ℕ) (t : take n o ≡ ss)
        (m : o' ≡ take 0 o ++ (sort_by (key_at ks) (take (n - 0) (drop 0 o)) ++ drop n o)) where
      abbrev order : List ℕ
      order = sort_by (key_at ks) ss

      size : length order ≡ n
      size = length_sort (key_at ks) ss ∙ sym N

      front : take n o' ≡ order
      front =
          let z : n - 0 ≡ n = omega arith in
          ap (take n) (m ∙ ap (λ (i : ℕ). sort_by (key_at ks) (take i o) ++ drop n o) z ∙ ap (λ (l : List ℕ). sort_by (key_at ks) l ++ drop n o) t) ∙ take_at order (drop n o) n size

      below : (q : ℕ) → q < length order → get_or order q 0 < k
      below q h = all_at (λ s. s < k) order q h (all_sort (key_at ks) (λ s. s < k) ss A)

      rising : (i j : ℕ) → i ≤ j → j < length order → T (le (left_at boxes (get_or order i 0)) (left_at boxes (get_or order j 0)))
      rising i j h l =
          let g : i < length order = omega arith in
          K.rising (get_or order i 0) (get_or order j 0) (below i g) (below j l) (sorted (key_at ks) ss i j h (subst (λ (x : ℕ). j < x) (length_sort (key_at ks) ss) l))

      pub lefts_sorted : Lefts boxes k ss n o'
      lefts_sorted = record { key = key_at ks; listed = front; sorted = subst (Sorted boxes k) (sym front) (record { below = below; rising = rising }) }

pub lefts_occupied : (boxes : List Float) (k : ℕ) (st ks : List ℕ) (n : ℕ) (o o' : List ℕ) → Keyed boxes k ks → n ≡ length (occupied (counts_in k st)) → take n o ≡ occupied (counts_in k st)
    → o' ≡ take 0 o ++ (sort_by (key_at ks) (take (n - 0) (drop 0 o)) ++ drop n o) → Lefts boxes k (occupied (counts_in k st)) n o'
lefts_occupied boxes k st ks n o o' K N t m = lefts_sorted boxes k ks K (occupied (counts_in k st)) (occupied_below k st) n N o o' t m

-- the pairs in this order are all overlaps
pub lefts_pairs : (boxes : List Float) (k : ℕ) (bs : List Box) (ss : List ℕ) (n : ℕ) (o : List ℕ) (r : ℕ) → Lefts boxes k ss n o → r ≡ pairs bs (take n o) → r ≡ overlaps bs ss
lefts_pairs boxes k bs ss n o r L e = e ∙ ap (pairs bs) L.listed ∙ pairs_sorted bs L.key ss

-- ---- two of the stations
-- the test of two stations is that of their boxes
pub either_paired : (boxes : List Float) (k s t : ℕ) (p q : Box) (b : Bool) → s < k → t < k → p ≡ box_at boxes s → q ≡ box_at boxes t → b ≡ paired p q s t
    → either (boxes_in k boxes) s t ≡ b
unfolding either overlapping paired
either_paired boxes k s t p q b h l e f g =
    let bs : List Box = boxes_in k boxes in
    let u : box_in bs s ≡ p = get_d_boxes k s boxes no_box h ∙ sym e in
    let v : box_in bs t ≡ q = get_d_boxes k t boxes no_box l ∙ sym f in
    ap (λ (x : Box). paired x (box_in bs t) s t) u ∙ ap (λ (x : Box). paired p x s t) v ∙ sym g

all_by : (P : ℕ → Type 0) (l : List ℕ) → ((i : ℕ) → i < length l → P (get_or l i 0)) → All P l
all_by P [] f = tt
all_by P (x ∷ xs) f = (f 0 (omega arith), all_by P xs (λ i h. f (suc i) (omega arith)))

-- ---- the scan behind place c
-- r of station s's pairs with those behind place c are found before place q
abbrev pub Found : List Float → ℕ → List ℕ → ℕ → ℕ → ℕ → ℕ → Type 0
Found boxes k o c s q r = r + count (either (boxes_in k boxes) s) (drop q o) ≡ count (either (boxes_in k boxes) s) (drop (c + 1) o)

module _ (boxes : List Float) (k : ℕ) (o : List ℕ) (c : ℕ) where
  abbrev bs : List Box
  bs = boxes_in k boxes

  next : (q : ℕ) → q < length o → drop q o ≡ get_or o q 0 ∷ drop (q + 1) o
  next q h = drop-cons o q 0 h ∙ ap (λ (i : ℕ). get_or o q 0 ∷ drop i o) (sym (add-one q))

  module _ (s : ℕ) where
    -- t is the station at place q, and m the next place
    pub found_yes : (q m r t : ℕ) (b : Bool) → t ≡ get_or o q 0 → m ≡ q + 1 → q < length o → either bs s t ≡ b → b ≡ true → Found boxes k o c s q r → Found boxes k o c s m (r + 1)
    found_yes q m r t b i j h e y f =
        rw j (omega (arith, f, ap (count (either bs s)) (next q h) ∙ count_yes (either bs s) (get_or o q 0) (drop (q + 1) o) (ap (either bs s) (sym i) ∙ e ∙ y)))

    pub found_no : (q m r t : ℕ) (b : Bool) → t ≡ get_or o q 0 → m ≡ q + 1 → q < length o → either bs s t ≡ b → b ≡ false → Found boxes k o c s q r → Found boxes k o c s m r
    found_no q m r t b i j h e y f =
        rw j (omega (arith, f, ap (count (either bs s)) (next q h) ∙ count_no (either bs s) (get_or o q 0) (drop (q + 1) o) (ap (either bs s) (sym i) ∙ e ∙ y)))

    -- none of those left overlaps
    rest_none : (q r : ℕ) → ((i : ℕ) → q ≤ i → i < length o → either bs s (get_or o i 0) ≡ false) → Found boxes k o c s q r → r ≡ count (either bs s) (drop (c + 1) o)
    rest_none q r z f = omega (arith, f, count_none (either bs s) (drop q o) (all_by (λ t. either bs s t ≡ false) (drop q o) here))
      where
        here : (i : ℕ) → i < length (drop q o) → either bs s (get_or (drop q o) i 0) ≡ false
        here i h =
            let l : q + i < length o = omega (arith, length-drop q o) in
            subst (λ (t : ℕ). either bs s t ≡ false) (sym (get_or-drop q o i 0)) (z (q + i) (omega arith) l)

    pub found_stop : (p b : Box) (q r t : ℕ) → t ≡ get_or o q 0 → ((i : ℕ) → T (fits binary64 (get_or boxes i nan))) → Finite boxes → 4 * k ≤ length boxes → Sorted boxes k o
        → s < k → q < length o → p ≡ box_at boxes s → b ≡ box_at boxes t → le p.right b.left ≡ true → Found boxes k o c s q r → r ≡ count (either bs s) (drop (c + 1) o)
    found_stop p b q r w n F G B S h l e g y f = rest_none q r past f
      where
        good : (i : ℕ) → i < 4 * k → Good (get_or boxes i nan)
        good i m = (F i, subst T (sym (G.at i (omega arith))) tt)

        met : T (le (get_or boxes (4 * s + 2) nan) (left_at boxes (get_or o q 0)))
        met = subst T (sym (sym (ap (λ (x : Box). le x.right b.left) e ∙ ap (λ (x : Box). le (get_or boxes (4 * s + 2) nan) x.left) (g ∙ ap (box_at boxes) n)) ∙ y)) tt

        past : (i : ℕ) → q ≤ i → i < length o → either bs s (get_or o i 0) ≡ false
        past i u v =
            let t : ℕ = get_or o i 0 in
            let a : get_or o q 0 < k = S.below q l in
            let d : t < k = S.below i v in
            either_paired boxes k s t (box_at boxes s) (box_at boxes t) false h d refl refl
            (sym (stop (box_at boxes s) (box_at boxes t) (left_at boxes (get_or o q 0)) s t (good (4 * s + 2) (omega arith)) (good (4 * get_or o q 0) (omega arith)) (good (4 * t) (omega arith)) met (S.rising q i u v)))
