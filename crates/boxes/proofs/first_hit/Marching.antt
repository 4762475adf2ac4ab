-- A look along a piece, window by window: after each every station entered by its end is covered, and at the end the box entered first is found. Assumes nothing.
use mathlib.Core.Path.{◌≡◌, refl, sym, ap, ◌∙◌, subst}
use mathlib.Core.List.{List}
use mathlib.Core.Bool.{Bool, true, false, cond, ◌||◌, true≢false}
use Prim.Native.Nat.{ℕ, zero, suc, ◌+◌, ◌*◌, ◌≤◌, ◌<◌, min}
use native.Mathlib.Nat.{mul-le-mul_right}
use native.Mathlib.Omega.{arith}
use lib.Dec.{T, eqb}
use lib.ListN.{length}
use lib.Ieee.{Float, lt, le, of_bits, of_fields, odd}
use Rattle.numbers.specs.Ops.{f0, f1, f2}
use Rattle.numbers.proofs.float.Keys.{not_both, le_of_lt_float, le_self}
use Rattle.plane.specs.declared.geometry.Point.{Point}
use Rattle.plane.specs.declared.geometry.Box.{Box}
use Rattle.std.specs.Prelude.{Option, Some, None}
use Rattle.plane.specs.Entry.{enters}
use Rattle.plane.specs.Plane.{box_in}
use Rattle.plane.specs.Stages.Window.{plain_piece, window_holds, is_apart, Reaches}
use Rattle.plane.proofs.windows.WindowLaws.{place_low, place_high, window_law, reaches_not_apart}
use Rattle.numbers.proofs.float.Ordered.{lift, fall, le_left, float_trans, below_through}
use Rattle.boxes.specs.First.{entry_at, comes_first, sooner, look}
use Rattle.boxes.proofs.first_box.Folding.{nearer, which_of, never_both}
use Rattle.boxes.specs.declared.grid.Grid.{Grid}
use Rattle.boxes.specs.Stages.Cells.{cell_at, column_of, row_of, chain_of, grid_in, chain_at, next_at, In, Sized, Chained, Entered, InWindow, wide, cell}
use Rattle.boxes.proofs.grid.CellLaws.{reach_cells}
use Rattle.boxes.specs.declared.first_hit.search.Near.{Near}
use Rattle.boxes.specs.Stages.Looks.{near, best_of, closer, passed, after_window, Marched, is_done, Sure}
use Rattle.boxes.proofs.first_hit.Folds.{Low, Fair, closer_fair, Covered, Sound, After, covered_now, covered_still, sound_still, look_covered}
use Rattle.boxes.proofs.first_hit.Passing.{window_keeps, window_brings}

-- ---- a window's cells have chains
cell_below : (unit low x : Float) (most : ℕ) → 1 ≤ most → cell_at unit low most x < most
unfolding cell_at
cell_below unit low x most h = omega arith

chain_below : (r c columns rows : ℕ) → r < rows → c < columns → 1 + r * columns + c ≤ columns * rows
chain_below r c columns rows h k = let d : suc r * columns ≤ rows * columns = mul-le-mul_right columns h in omega arith

window_below : (g : Grid) (n : ℕ) → Sized g n → (w : Box) (c : ℕ) → InWindow g w c → c ≤ g.columns * g.rows
unfolding column_of row_of
window_below g n z w c wide = omega arith
window_below g n z w c (cell x y lo hi left right) =
    let d : row_of g w.bottom < g.rows = cell_below g.height g.top w.bottom g.rows z.rows in
    let e : column_of g w.right < g.columns = cell_below g.width g.left w.right g.columns z.columns in
    chain_below x y g.columns g.rows (omega arith) (omega arith)

-- ---- chains fall
module _ (g : Grid) (boxes : List Box) (stations : List ℕ) (k : ℕ) (l : List ℕ) (chained : Chained g boxes stations k l) where
  falls : (s : ℕ) → In s stations → next_at k l s ≤ s
  falls s i = go (next_at k l s) refl
    where
      go : (x : ℕ) → next_at k l s ≡ x → x ≤ s
      go zero e = omega arith
      go (suc r) e = (chained.nexts s i r e).0

  follows : (s : ℕ) → In s stations → (r : ℕ) → min (next_at k l s) s ≡ suc r → In r stations
  follows s i r e = let d : next_at k l s ≤ s = falls s i in (chained.nexts s i r (omega arith)).1

-- ---- the end of a look
missed : (s : ℕ) (e : Option Float) (best : Option (Float × ℕ)) → e ≡ None → sooner s e best ≡ best
unfolding sooner
missed s e best h = ap (λ (y : Option Float). sooner s y best) h

done_by : (n : Near) (u : Float) → is_done n u ≡ true → le f1 u ≡ false → T (le n.entry u)
unfolding is_done
done_by n u d h = lift (le n.entry u) (rw h at d)

-- a station entered after u doesn't come before a box entered by then
beyond : (n : Near) (u v : Float) (s : ℕ) → is_done n u ≡ true → T (le v f1) → lt u v ≡ true → sooner s (Some v) (best_of n) ≡ best_of n
unfolding best_of sooner
beyond n u v s d h k = go (le f1 u) refl
  where
    Stays : Bool → Type 0
    Stays x = sooner s (Some v) (cond x (Some (n.entry, n.station)) None) ≡ cond x (Some (n.entry, n.station)) None

    behind-it : lt n.entry v ≡ true → (y : Bool) → comes_first v s n.entry n.station ≡ y → cond {A = Option (Float × ℕ)} y (Some (v, s)) (Some (n.entry, n.station)) ≡ Some (n.entry, n.station)
    behind-it c true e = absurd (never_both v s n.entry n.station (which_of v s n.entry n.station e) (nearer c))
    behind-it c false e = refl

    go : (x : Bool) → le f1 u ≡ x → Stays (le n.entry f1)
    go true e = absurd (not_both u v (lift (lt u v) k) (float_trans v f1 u h (lift (le f1 u) e)))
    go false e =
        let c : lt n.entry v ≡ true = below_through n.entry u v v (done_by n u d e) k (le_self v (le_left v f1 h)) in
        let z : T (le n.entry f1) = float_trans n.entry v f1 (le_of_lt_float n.entry v (lift (lt n.entry v) c)) h in
        subst Stays (sym (fall (le n.entry f1) z)) (behind-it c (comes_first v s n.entry n.station) refl)

module _ (boxes : List Box) (p q : Point) (a b : ℕ) where
  -- ---- where a station's box is entered
  enters_at : (s : ℕ) (v : Float) → entry_at boxes p q a b s ≡ Some v → enters p q (box_in boxes s) ≡ Some v
  unfolding entry_at
  enters_at s v h = go (eqb s a || eqb s b) h
    where
      go : (x : Bool) → cond x None (enters p q (box_in boxes s)) ≡ Some v → enters p q (box_in boxes s) ≡ Some v
      go true h = absurd (let z : ◌≡◌ {A = ℕ} 0 1 = cc in omega arith)
      go false h = h

  low_at : (s : ℕ) → Low (entry_at boxes p q a b s)
  unfolding Low
  low_at s = go (entry_at boxes p q a b s) refl
    where
      go : (e : Option Float) → entry_at boxes p q a b s ≡ e → Low e
      go None h = tt
      go (Some v) h = place_high p q (box_in boxes s) v (enters_at s v h)

  pub marched_start : (l : List ℕ) → Marched boxes p q a b l f0 (near f2 0)
  unfolding near best_of le lt of_bits of_fields odd
  marched_start l =
      record {
        fair = λ h. refl;
        sound = λ stations e. refl;
        before = λ stations e s i v h k. absurd (true≢false (sym k ∙ place_low p q (box_in boxes s) v (enters_at s v h)));
      }

  -- ---- one window
  module _ (l : List ℕ) (w : Box) where
    abbrev Next : Near → Near
    Next n = after_window boxes p q a b (length boxes) l w (grid_in boxes l) n

    -- what is kept by folding a station in is kept by passing it
    pass : (P : Near → Type 0) (s : ℕ) (n : Near) → P n → P (After boxes p q a b s n) → P (passed boxes p q a b (length boxes) l w s n)
    unfolding passed
    pass P s n x y = go (is_apart w (box_in boxes s))
      where
        go : (t : Bool) → P (cond t n (closer s (entry_at boxes p q a b s) n))
        go true = x
        go false = y

    fair_next : (n : Near) → Fair n → Fair (Next n)
    fair_next n f =
        window_keeps boxes p q a b (length boxes) l w (λ s. Unit {0}) (λ s i r e. tt) (grid_in boxes l) (λ c i s e. tt) Fair
        (λ s i n f. pass Fair s n f (closer_fair s (entry_at boxes p q a b s) n (low_at s) f)) n f

    module _ (stations : List ℕ) (e : Entered boxes stations l) where
      heads : (c : ℕ) → InWindow (grid_in boxes l) w c → (s : ℕ) → chain_at l c ≡ suc s → In s stations
      heads c i = e.chained.heads c (window_below (grid_in boxes l) (4 * length boxes) e.sized w c i)

      sound_next : (n : Near) → Fair n → Sound boxes p q a b stations n → Sound boxes p q a b stations (Next n)
      sound_next n f h =
          (window_keeps boxes p q a b (length boxes) l w (λ s. In s stations) (follows (grid_in boxes l) boxes stations (length boxes) l e.chained) (grid_in boxes l) heads P keep n (f, h)).1
        where
          P : Near → Type 0
          P n = Fair n × Sound boxes p q a b stations n

          keep : (s : ℕ) → In s stations → (n : Near) → P n → P (passed boxes p q a b (length boxes) l w s n)
          keep s i n x =
              pass P s n x
              (closer_fair s (entry_at boxes p q a b s) n (low_at s) x.0, sound_still boxes p q a b s n (low_at s) x.0 stations i x.1)

      module _ (r : ℕ) where
        Has : Near → Type 0
        Has n = Fair n × Covered boxes p q a b r n

        keep_fair : (s : ℕ) → In s stations → (n : Near) → Fair n → Fair (passed boxes p q a b (length boxes) l w s n)
        keep_fair s i n f = pass Fair s n f (closer_fair s (entry_at boxes p q a b s) n (low_at s) f)

        keep_has : (s : ℕ) → In s stations → (n : Near) → Has n → Has (passed boxes p q a b (length boxes) l w s n)
        unfolding Has
        keep_has s i n x =
            pass Has s n x
            (closer_fair s (entry_at boxes p q a b s) n (low_at s) x.0, covered_still boxes p q a b s n (low_at s) x.0 r x.1)

        covered_next : (n : Near) → Fair n → Covered boxes p q a b r n → Covered boxes p q a b r (Next n)
        unfolding Has
        covered_next n f h =
            (window_keeps boxes p q a b (length boxes) l w (λ s. In s stations) (follows (grid_in boxes l) boxes stations (length boxes) l e.chained) (grid_in boxes l) heads Has keep_has n (f, h)).1

        bring : is_apart w (box_in boxes r) ≡ false → (n : Near) → Fair n → Has (passed boxes p q a b (length boxes) l w r n)
        unfolding passed Has
        bring h n f =
            subst (λ (x : Bool). Has (cond x n (closer r (entry_at boxes p q a b r) n))) (sym h)
            (closer_fair r (entry_at boxes p q a b r) n (low_at r) f, covered_now boxes p q a b r n (low_at r) f)

        -- a station whose box reaches the window
        reached : In r stations → Reaches w (box_in boxes r) → (n : Near) → Fair n → Covered boxes p q a b r (Next n)
        unfolding Has
        reached i h n f =
            (window_brings boxes p q a b (length boxes) l w (λ s. In s stations) (follows (grid_in boxes l) boxes stations (length boxes) l e.chained) (grid_in boxes l) heads
            Fair Has keep_fair keep_has r (bring (reaches_not_apart w (box_in boxes r) h))
            (falls (grid_in boxes l) boxes stations (length boxes) l e.chained)
            (chain_of (grid_in boxes l) (box_in boxes r)) (reach_cells (grid_in boxes l) (4 * length boxes) w (box_in boxes r) e.sized h)
            (e.chained.each r i) n f).1

  -- ---- from t to u
  module _ (l : List ℕ) (t u : Float) (w : Box) (plain : plain_piece p q ≡ true) (holds : window_holds p q t u w ≡ true) (n : Near) (m : Marched boxes p q a b l t n) where
    abbrev Then : Near
    Then = after_window boxes p q a b (length boxes) l w (grid_in boxes l) n

    -- a station that isn't entered after u
    passed_by : (stations : List ℕ) → Entered boxes stations l → (s : ℕ) → In s stations → (v : Float) → entry_at boxes p q a b s ≡ Some v → lt u v ≡ false → Covered boxes p q a b s Then
    passed_by stations e s i v h k = go (lt v t) refl
      where
        go : (x : Bool) → lt v t ≡ x → Covered boxes p q a b s Then
        go true o = covered_next l w stations e s n m.fair (subst (λ (y : Option Float). sooner s y (best_of n) ≡ best_of n) (sym h) (m.before stations e s i v h o))
        go false o = reached l w stations e s i (window_law p q t u v w (box_in boxes s) plain (e.finite s i) holds (enters_at s v h) o k) n m.fair

    pub marched_step : Marched boxes p q a b l u Then
    marched_step =
        record {
          fair = fair_next l w n m.fair;
          sound = λ stations e. sound_next l w stations e n m.fair (m.sound stations e);
          before = λ stations e s i v h k. subst (λ (y : Option Float). sooner s y (best_of Then) ≡ best_of Then) h (passed_by stations e s i v h (other v k (lt u v) refl));
        }
      where
        other : (v : Float) → lt v u ≡ true → (x : Bool) → lt u v ≡ x → lt u v ≡ false
        other v k true h = absurd (not_both v u (lift (lt v u) k) (le_of_lt_float u v (lift (lt u v) h)))
        other v k false h = h

    pub marched_end : is_done Then u ≡ true → (stations : List ℕ) → Entered boxes stations l → best_of Then ≡ look boxes p q a b stations None
    marched_end d stations e = sym (look_covered boxes p q a b stations (best_of Then) each) ∙ marched_step.sound stations e
      where
        each : (s : ℕ) → In s stations → Covered boxes p q a b s Then
        each s i = go (entry_at boxes p q a b s) refl
          where
            go : (y : Option Float) → entry_at boxes p q a b s ≡ y → Covered boxes p q a b s Then
            go None h = missed s (entry_at boxes p q a b s) (best_of Then) h
            go (Some v) h = by (lt u v) refl
              where
                by : (x : Bool) → lt u v ≡ x → Covered boxes p q a b s Then
                by true k = subst (λ (y : Option Float). sooner s y (best_of Then) ≡ best_of Then) (sym h) (beyond Then u v s d (place_high p q (box_in boxes s) v (enters_at s v h)) k)
                by false k = passed_by stations e s i v h k

    -- the same of a grid and a number of stations that are those of the list
    module _ (g : Grid) (k : ℕ) (next : Near) (grid : g ≡ grid_in boxes l) (many : length boxes ≡ k) (e : next ≡ after_window boxes p q a b k l w g n) where
      same : Then ≡ next
      same = ap (λ (x : ℕ). after_window boxes p q a b x l w (grid_in boxes l) n) many ∙ ap (λ (x : Grid). after_window boxes p q a b k l w x n) (sym grid) ∙ sym e

      pub marched_on : Marched boxes p q a b l u next
      marched_on = subst (Marched boxes p q a b l u) same marched_step

      pub marched_done : is_done next u ≡ true → Sure boxes p q a b l (Some next)
      unfolding Sure
      marched_done d = subst (λ (x : Near). is_done x u ≡ true → (stations : List ℕ) → Entered boxes stations l → best_of x ≡ look boxes p q a b stations None) same marched_end d
