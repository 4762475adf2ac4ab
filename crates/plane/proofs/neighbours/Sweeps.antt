-- A scan from one place of an order by x to the right and to the left: one place more, the stop, and what it has found at the end. Assumes nothing.
use mathlib.Core.Path.{◌≡◌, refl, sym, ap, ◌∙◌, subst}
use mathlib.Core.Logic.{◌⊎◌, inl, inr, ⊎_elim}
use mathlib.Core.Bool.{Bool, true, false, not, ◌&&◌}
use mathlib.Core.List.{List}
use Prim.Native.Nat.{ℕ, zero, suc, ◌+◌, ◌*◌, ◌^◌, ◌≤◌, ◌<◌}
use native.Mathlib.Omega.{arith}
use native.Mathlib.Nat.{eq-or-lt_of_le}
use native.Mathlib.Numerals.{add-one}
use lib.Dec.{T, eqb}
use lib.ListN.{get_or}
use lib.Ieee.{Float, nan, inf, fin, lt, le, neg, fits, binary64}
use lib.Ieee.Fits.{inf-fits, nan-fits, round-fits}
use borrow.Author.Tests.{eq-eqb, ne_eqb, eqb-true, eqb-false}
use Rattle.numbers.specs.Small.{is_finite}
use Rattle.numbers.specs.Hypot.{hypot_of, grains, nearest_root}
use Rattle.numbers.specs.Ops.{◌⊖◌, f0, order_key}
use Rattle.numbers.proofs.float.Hypots.{quarters, nearest_round}
use Rattle.numbers.specs.Order.{pick}
use Rattle.numbers.specs.Table.{how_many}
use Rattle.numbers.proofs.order.Merging.{le_or_lt}
use Rattle.numbers.proofs.order.Tables.{how_many_yes, how_many_no, how_many_zero, how_many_ext}
use Rattle.plane.specs.Near.{distance, nearer, nearest_to, nearest, near, within}
use Rattle.plane.specs.Stages.Sweep.{x_at, Swept, away, in_radius, Others, Least}
use Rattle.plane.proofs.neighbours.Scans.{away_by, neighbours_none}
use Rattle.plane.proofs.neighbours.Leasts.{least_above, least_none, least_same, least_more, least_one}
use Rattle.plane.proofs.neighbours.Places.{place_below, place_once, entry_of, place_count}
use Rattle.plane.proofs.neighbours.Stops.{stop_right, stop_left}

hypot_fits : (x y : Float) → T (fits binary64 (hypot_of x y))
unfolding hypot_of
hypot_fits nan nan = nan-fits binary64
hypot_fits nan (inf t) = inf-fits binary64 false
hypot_fits nan (fin t n d) = nan-fits binary64
hypot_fits (inf s) y = inf-fits binary64 false
hypot_fits (fin s m e) nan = nan-fits binary64
hypot_fits (fin s m e) (inf t) = inf-fits binary64 false
hypot_fits (fin s m e) (fin t n d) = root (grains (fin s m e) * grains (fin s m e) + grains (fin t n d) * grains (fin t n d))
  where
    root : (k : ℕ) → T (fits binary64 (nearest_root k))
    root k = subst (λ (v : Float). T (fits binary64 v)) (sym (nearest_round k)) (round-fits binary64 false (quarters k) (2 ^ 1076))

-- ---- one of lo, .., hi - 1 and another than c
module _ (c : ℕ) where
  last_or : (lo h q : ℕ) → Others c lo (h + 1) q → Others c lo h q ⊎ (q ≡ h)
  last_or lo h q z = ⊎_elim (λ e. inr e) (λ l. inl (z.0, l, z.2)) (eq-or-lt_of_le (under z.1))
    where
      under : q < h + 1 → q ≤ h
      under l = omega arith

  first_or : (l hi q : ℕ) → Others c l hi q → Others c (l + 1) hi q ⊎ (q ≡ l)
  first_or l hi q z = ⊎_elim (λ e. inr (sym e)) (λ k. inl (over k, z.1, z.2)) (eq-or-lt_of_le z.0)
    where
      over : l < q → l + 1 ≤ q
      over k = omega arith

-- whether a point is within the radius, by the number j that the scan reads at place h
pub radius_by : (ps : List Float) (o : List ℕ) (x y radius : Float) (h j : ℕ) (v : Bool) → j ≡ get_or o h 0
    → v ≡ le (hypot_of (get_or ps (2 * j) nan ⊖ x) (get_or ps (2 * j + 1) nan ⊖ y)) radius → v ≡ in_radius ps o x y radius h
radius_by ps o x y radius h j v e m = m ∙ ap (λ (i : ℕ). le (hypot_of (get_or ps (2 * i) nan ⊖ x) (get_or ps (2 * i + 1) nan ⊖ y)) radius) e

-- ---- the least distance along the order
module _ (ps : List Float) (n : ℕ) (o : List ℕ) (x y : Float) (c : ℕ) where
  fit : (q : ℕ) → T (fits binary64 (away ps o x y q))
  fit q = hypot_fits (get_or ps (2 * get_or o q 0) nan ⊖ x) (get_or ps (2 * get_or o q 0 + 1) nan ⊖ y)

  pub least_start : (h : ℕ) → h ≡ c + 1 → Least (away ps o x y) (Others c c h) (inf false)
  least_start h e = least_none (away ps o x y) fit (Others c c h) (λ q z. z.2 (omega (arith, z.0, z.1)))

  least_right : (h : ℕ) (b : Float) → c < h → Least (away ps o x y) (Others c c h) b → Least (away ps o x y) (Others c c (h + 1)) (nearer b (away ps o x y h))
  least_right h b l k =
      least_more (away ps o x y) fit (Others c c h) (Others c c (h + 1)) b k (λ q z. (z.0, omega (arith, z.1), z.2)) h
      (omega arith, omega arith, λ e. omega arith) (last_or c c h)

  -- by the number j that the scan reads at place h
  pub right_by : (h q j : ℕ) (b v : Float) → j ≡ get_or o h 0 → q ≡ h + 1 → v ≡ nearer b (hypot_of (get_or ps (2 * j) nan ⊖ x) (get_or ps (2 * j + 1) nan ⊖ y)) → c < h
      → Least (away ps o x y) (Others c c h) b → Least (away ps o x y) (Others c c q) v
  right_by h q j b v e f g p k =
      let z : v ≡ nearer b (away ps o x y h) = g ∙ ap (λ (i : ℕ). nearer b (hypot_of (get_or ps (2 * i) nan ⊖ x) (get_or ps (2 * i + 1) nan ⊖ y))) e in
      subst (λ (t : ℕ). Least (away ps o x y) (Others c c t) v) (sym f) (subst (Least (away ps o x y) (Others c c (h + 1))) (sym z) (least_right h b p k))

  least_left : (q : ℕ) (b : Float) → q < c → c < n → Least (away ps o x y) (Others c (q + 1) n) b → Least (away ps o x y) (Others c q n) (nearer b (away ps o x y q))
  least_left q b m u k =
      least_more (away ps o x y) fit (Others c (q + 1) n) (Others c q n) b k (λ i z. (omega (arith, z.0), z.1, z.2)) q
      (omega arith, omega arith, λ e. omega arith) (first_or c q n)

  -- by the number j that the scan reads at place q
  pub left_by : (l q j : ℕ) (b v : Float) → j ≡ get_or o q 0 → l ≡ q + 1 → v ≡ nearer b (hypot_of (get_or ps (2 * j) nan ⊖ x) (get_or ps (2 * j + 1) nan ⊖ y)) → l ≤ c → c < n
      → Least (away ps o x y) (Others c l n) b → Least (away ps o x y) (Others c q n) v
  left_by l q j b v e f g m u k =
      let z : v ≡ nearer b (away ps o x y q) = g ∙ ap (λ (i : ℕ). nearer b (hypot_of (get_or ps (2 * i) nan ⊖ x) (get_or ps (2 * i + 1) nan ⊖ y))) e in
      subst (Least (away ps o x y) (Others c q n)) (sym z) (least_left q b (omega (arith, f)) u (subst (λ (t : ℕ). Least (away ps o x y) (Others c t n) b) f k))

  module _ (S : Swept ps n o) (X : is_finite x ≡ true) where
    pub least_stop_right : (h j : ℕ) (b : Float) → j ≡ get_or o h 0 → h ≤ n → Least (away ps o x y) (Others c c h) b → lt b (x_at ps j ⊖ x) ≡ true → Least (away ps o x y) (Others c c n) b
    least_stop_right h j b e m k t =
        least_same (away ps o x y) fit (Others c c h) (Others c c n) b k (λ q z. (z.0, omega (arith, z.1, m), z.2)) (λ q z. go q z (le_or_lt h q))
      where
        s : lt b (x_at ps (get_or o h 0) ⊖ x) ≡ true
        s = subst (λ (i : ℕ). lt b (x_at ps i ⊖ x) ≡ true) e t

        go : (q : ℕ) → Others c c n q → (h ≤ q) ⊎ (q < h) → Others c c h q ⊎ (le (away ps o x y q) b ≡ false)
        go q z (inr g) = inl (z.0, g, z.2)
        go q z (inl g) = inr (stop_right ps n o S x y b X (least_above (away ps o x y) fit (Others c c h) b k) h s q g z.1)

    pub least_stop_left : (l h j : ℕ) (b : Float) → j ≡ get_or o h 0 → l ≡ h + 1 → l ≤ n → Least (away ps o x y) (Others c l n) b → lt b (neg (x_at ps j ⊖ x)) ≡ true → Least (away ps o x y) (Others c 0 n) b
    least_stop_left l h j b e f m k t =
        least_same (away ps o x y) fit (Others c l n) (Others c 0 n) b k (λ q z. (omega arith, z.1, z.2)) (λ q z. go q z (le_or_lt l q))
      where
        s : lt b (neg (x_at ps (get_or o h 0) ⊖ x)) ≡ true
        s = subst (λ (i : ℕ). lt b (neg (x_at ps i ⊖ x)) ≡ true) e t

        go : (q : ℕ) → Others c 0 n q → (l ≤ q) ⊎ (q < l) → Others c l n q ⊎ (le (away ps o x y q) b ≡ false)
        go q z (inl g) = inl (g, z.1, z.2)
        go q z (inr g) = inr (stop_left ps n o S x y b X (least_above (away ps o x y) fit (Others c l n) b k) h (omega (arith, f, m)) s q (omega (arith, f, g)))

-- ---- the least distance by the points' numbers
module _ (ps : List Float) (i : ℕ) where
  away_fits : (j : ℕ) → T (fits binary64 (away_by ps i j))
  away_fits j = hypot_fits (get_or ps (2 * j) nan ⊖ get_or ps (2 * i) nan) (get_or ps (2 * j + 1) nan ⊖ get_or ps (2 * i + 1) nan)

  nearest_least : (n : ℕ) → Least (away_by ps i) (Others i 0 n) (nearest_to ps i n)
  unfolding nearest_to distance
  nearest_least zero = least_none (away_by ps i) away_fits (Others i 0 0) (λ q z. omega (arith, z.1))
  nearest_least (suc j) = go (eqb j i) refl (nearest_least j)
    where
      up : (q : ℕ) → Others i 0 j q → Others i 0 (suc j) q
      up q z = (z.0, omega (arith, z.1), z.2)

      own : j ≡ i → (q : ℕ) → Others i 0 j q ⊎ (q ≡ j) → Others i 0 (suc j) q → Others i 0 j q ⊎ (le (away_by ps i q) (nearest_to ps i j) ≡ false)
      own e q (inl k) z = inl k
      own e q (inr k) z = absurd (z.2 (k ∙ e))

      split : (q : ℕ) → Others i 0 (suc j) q → Others i 0 j q ⊎ (q ≡ j)
      split q z = last_or i 0 j q (subst (λ (t : ℕ). Others i 0 t q) (sym (add-one j)) z)

      go : (t : Bool) → eqb j i ≡ t → Least (away_by ps i) (Others i 0 j) (nearest_to ps i j)
          → Least (away_by ps i) (Others i 0 (suc j)) (pick t (nearest_to ps i j) (nearer (nearest_to ps i j) (away_by ps i j)))
      go true e k = least_same (away_by ps i) away_fits (Others i 0 j) (Others i 0 (suc j)) (nearest_to ps i j) k up (λ q z. own (eqb-true j i e) q (split q z) z)
      go false e k = least_more (away_by ps i) away_fits (Others i 0 j) (Others i 0 (suc j)) (nearest_to ps i j) k up j (omega arith, omega arith, eqb-false j i e) split

module _ (ps : List Float) (n : ℕ) (o : List ℕ) (S : Swept ps n o) (c : ℕ) (h : c < n) where
  abbrev point : ℕ
  point = get_or o c 0

  pub least_nearest : (r : Float) → Least (away ps o (get_or ps (2 * point) nan) (get_or ps (2 * point + 1) nan)) (Others c 0 n) r → r ≡ nearest ps n point
  unfolding nearest
  least_nearest r k = least_one (away_by ps point) (away_fits ps point) (Others point 0 n) r (nearest_to ps point n) moved (nearest_least ps point n)
    where
      hit : (r ≡ inf false) ⊎ ((q : ℕ) × Others c 0 n q × (r ≡ away_by ps point (get_or o q 0)) × (lt f0 (away_by ps point (get_or o q 0)) ≡ true))
          → (r ≡ inf false) ⊎ ((j : ℕ) × Others point 0 n j × (r ≡ away_by ps point j) × (lt f0 (away_by ps point j) ≡ true))
      hit (inl e) = inl e
      hit (inr z) = inr (get_or o z.0 0, (omega arith, place_below ps n o S z.0 z.1.1, λ e. z.1.2 (place_once ps n o S z.0 c z.1.1 h e)), z.2, z.3)

      moved : Least (away_by ps point) (Others point 0 n) r
      moved = record {
        hit = hit k.hit;
        under = λ j z p.
            let q = entry_of ps n o S j z.1 in
            subst (λ (t : ℕ). order_key r ≤ order_key (away_by ps point t)) q.2
            (k.under q.0 (omega arith, q.1, λ e. z.2 (sym q.2 ∙ ap (λ (t : ℕ). get_or o t 0) e)) (subst (λ (t : ℕ). lt f0 (away_by ps point t) ≡ true) (sym q.2) p));
      }

-- ---- how many are within the radius
-- after a place, and before one
module _ (f : ℕ → Bool) where
  pub many_none : (h n : ℕ) → h ≤ n → ((q : ℕ) → h ≤ q → q < n → f q ≡ false) → how_many f h ≡ how_many f n
  many_none h zero m z = ap (how_many f) (omega arith)
  many_none h (suc n) m z = ⊎_elim (λ e. ap (how_many f) e) (λ l. many_none h n (under l) (λ q a b. z q a (omega arith)) ∙ sym (how_many_no f n (z n (under l) (omega arith)))) (eq-or-lt_of_le m)
    where
      under : h < suc n → h ≤ n
      under l = omega arith

  -- without one of the first n
  many_but : (g : ℕ → Bool) (c n : ℕ) → c < n → g c ≡ false → ((q : ℕ) → q < n → (q ≡ c → ⊥) → g q ≡ f q) → how_many g n + how_many f (c + 1) ≡ how_many f c + how_many f n
  many_but g c zero m e z = omega arith
  many_but g c (suc n) m e z =
      ⊎_elim same (λ l. more (f n) refl (z n (omega arith) (λ u. omega arith)) (many_but g c n (omega arith) e (λ i a b. z i (omega arith) b))) (eq-or-lt_of_le m)
    where
      same : suc c ≡ suc n → how_many g (suc n) + how_many f (c + 1) ≡ how_many f c + how_many f (suc n)
      same k =
          let p : c ≡ n = omega arith in
          let q : how_many g c ≡ how_many f c = how_many_ext g f c (λ i l. z i (omega arith) (λ u. omega arith)) in
          rw (add-one, ← p) (omega (arith, q, how_many_no g c e))

      more : (t : Bool) → f n ≡ t → g n ≡ f n → how_many g n + how_many f (c + 1) ≡ how_many f c + how_many f n → how_many g (suc n) + how_many f (c + 1) ≡ how_many f c + how_many f (suc n)
      more true e r q = omega (arith, how_many_yes f n e, how_many_yes g n (r ∙ e), q)
      more false e r q = omega (arith, how_many_no f n e, how_many_no g n (r ∙ e), q)

-- one place more to the right, and to the left
module _ (f : ℕ → Bool) where
  pub many_right : (a h q k : ℕ) (v : Bool) → q ≡ h + 1 → k + a ≡ how_many f h → v ≡ f h → v ≡ true → k + 1 + a ≡ how_many f q
  many_right a h q k v g e m y = rw (g, add-one h) (omega (arith, e, how_many_yes f h (sym m ∙ y)))

  pub none_right : (a h q k : ℕ) (v : Bool) → q ≡ h + 1 → k + a ≡ how_many f h → v ≡ f h → v ≡ false → k + a ≡ how_many f q
  none_right a h q k v g e m y = rw (g, add-one h) (e ∙ sym (how_many_no f h (sym m ∙ y)))

  pub many_left : (a l q k : ℕ) (v : Bool) → l ≡ q + 1 → k + how_many f l ≡ a → v ≡ f q → v ≡ true → k + 1 + how_many f q ≡ a
  many_left a l q k v g e m y = omega (arith, e, ap (how_many f) (g ∙ add-one q), how_many_yes f q (sym m ∙ y))

  pub none_left : (a l q k : ℕ) (v : Bool) → l ≡ q + 1 → k + how_many f l ≡ a → v ≡ f q → v ≡ false → k + how_many f q ≡ a
  none_left a l q k v g e m y = omega (arith, e, ap (how_many f) (g ∙ add-one q), how_many_no f q (sym m ∙ y))

  -- where none is left, all are counted
  pub all_left : (a l k : ℕ) → k + how_many f l ≡ a → how_many f l ≡ 0 → k ≡ a
  all_left a l k e m = omega (arith, e, m)

module _ (ps : List Float) (n : ℕ) (o : List ℕ) (x y radius : Float) (S : Swept ps n o) (X : is_finite x ≡ true) (R : lt f0 radius ≡ true) where
  pub many_stop_right : (h j : ℕ) → j ≡ get_or o h 0 → h ≤ n → lt radius (x_at ps j ⊖ x) ≡ true → how_many (in_radius ps o x y radius) h ≡ how_many (in_radius ps o x y radius) n
  many_stop_right h j e m t = many_none (in_radius ps o x y radius) h n m (λ q a b. stop_right ps n o S x y radius X R h (subst (λ (i : ℕ). lt radius (x_at ps i ⊖ x) ≡ true) e t) q a b)

  pub many_stop_left : (l h j : ℕ) → j ≡ get_or o h 0 → l ≡ h + 1 → l ≤ n → lt radius (neg (x_at ps j ⊖ x)) ≡ true → how_many (in_radius ps o x y radius) l ≡ 0
  many_stop_left l h j e f m t =
      let s : lt radius (neg (x_at ps (get_or o h 0) ⊖ x)) ≡ true = subst (λ (i : ℕ). lt radius (neg (x_at ps i ⊖ x)) ≡ true) e t in
      sym (many_none (in_radius ps o x y radius) 0 l (omega arith) (λ q a b. stop_left ps n o S x y radius X R h (omega (arith, f, m)) s q (omega (arith, f, b))))
      ∙ how_many_zero (in_radius ps o x y radius)

module _ (ps : List Float) (n : ℕ) (o : List ℕ) (radius : Float) (S : Swept ps n o) (c : ℕ) (h : c < n) where
  abbrev middle : ℕ
  middle = get_or o c 0

  abbrev reached : ℕ → Bool
  reached = in_radius ps o (get_or ps (2 * middle) nan) (get_or ps (2 * middle + 1) nan) radius

  pub many_within : (a b : ℕ) → a + how_many reached (c + 1) ≡ how_many reached n → b ≡ how_many reached c → a + b ≡ within ps n radius middle
  unfolding within near distance
  many_within a b e k =
      let g : ℕ → Bool = λ q. near ps radius middle (get_or o q 0) in
      let t : how_many g n ≡ how_many (near ps radius middle) n = place_count ps n o S (near ps radius middle) in
      let u : how_many g n + how_many reached (c + 1) ≡ how_many reached c + how_many reached n = many_but reached g c n h own other in
      omega (arith, e, k, t, u)
    where
      own : near ps radius middle (get_or o c 0) ≡ false
      own = ap (λ (t : Bool). not t && reached c) (eq-eqb middle middle refl)

      other : (q : ℕ) → q < n → (q ≡ c → ⊥) → near ps radius middle (get_or o q 0) ≡ reached q
      other q l f = ap (λ (t : Bool). not t && reached q) (ne_eqb (get_or o q 0) middle (λ e. f (place_once ps n o S q c l h e)))

-- a count at a place of the order: the place is one of a point, and none are near where the radius is not above 0
pub ruleset count_laws = (place_below, neighbours_none)
