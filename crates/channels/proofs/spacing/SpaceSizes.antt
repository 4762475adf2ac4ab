-- Places of wishes on a channel are finite: within 2 ^ 32, for at most 2 ^ 28 wishes. Where wishes fit, the least step is at most 4, so each step of a pass adds at most 4, exactly. Assumes nothing.
use mathlib.Core.Path.{◌≡◌, refl, sym, subst}
use mathlib.Core.Bool.{Bool, true, false, not, cond}
use mathlib.Core.List.{List, [], ◌∷◌, map}
use Prim.Native.Nat.{ℕ, zero, suc, ◌+◌, ◌-◌, ◌*◌, ◌^◌, ◌≤◌, ◌<◌}
use native.Mathlib.Nat.{le_trans, le_of_eq, zero-lt-suc}
use native.Mathlib.Omega.{arith}
use lib.Dec.{T, eqb-suc-zero, lit<, lit≤}
use lib.ListN.{length, get_or, set}
use lib.Ieee.{Float, nan, lt, is_nan}
use Rattle.numbers.specs.Ops.{◌⊕◌, ◌⊖◌, ◌⊗◌, ◌⊘◌, f2, num}
use Rattle.numbers.specs.Small.{max_of, min_of, clamp_of}
use Rattle.numbers.specs.Size.{Within, AtMost, AtLeast}
use Rattle.numbers.proofs.float.Keys.{plus}
use Rattle.numbers.proofs.float.Bounds.{size_of, plus_unsigned, mul_unsigned}
use Rattle.numbers.proofs.float.SizeLaws.{exact_whole, within_weaken, most_weaken, add_within, sub_within, add_under, sub_most, mul_most, div_most, clamp_most, most_number, max_within, min_within, most_whole, whole_bound, whole_most, whole_least, whole_plus, factor_most, size_most, abs_plus, f2_least}
use Rattle.numbers.proofs.float.Each.{Each, each_map, each_set, each_at}
use Rattle.numbers.specs.Order.{up_from, sort_by, key_at}
use Rattle.numbers.proofs.order.Laws.{All, all_below, all_sort}
use Rattle.channels.specs.declared.channel.Channel.{Channel}
use Rattle.channels.specs.Space.{wish_key, wish_order, in_order, even_at, forward, forward_all, back_one, backward, crowded, spaced, put_all, placed}
use Rattle.channels.proofs.spacing.Spacing.{length_forward_all, length_in_order}

-- a whole number from 1 to 2 ^ 28
few_most : (n : ℕ) → n ≤ 2 ^ 28 → AtMost 1102 (num n)
few_most n h = whole_most n 28 1102 h (lit≤ tt) (lit≤ tt)

one_least : (n : ℕ) → 0 < n → n ≤ 2 ^ 28 → AtLeast 1074 (num n)
one_least n p h = whole_least n 0 p (lit≤ tt) (few_most n h).finite

-- ---- a channel: its ends are at most 1 in size, its least step has its sign clear and a bound
pub record Ready (g : ℕ) (c : Channel) : Type 0 where
  pub lo : AtMost 1074 c.lo
  pub hi : AtMost 1074 c.hi
  pub least_step : AtMost g c.least_step
  pub clear : T (plus c.least_step)

module _ (g : ℕ) (c : Channel) (G : g ≤ 2000) (R : Ready g c) where
  width : AtMost 1075 (c.hi ⊖ c.lo)
  width = sub_most 1074 c.hi c.lo (lit≤ tt) R.hi R.lo

  -- ---- spread evenly
  even_most : (last i : ℕ) → last ≤ 2 ^ 28 → i ≤ 2 ^ 28 → AtMost 1106 (even_at c last i)
  unfolding even_at
  even_most zero i m l =
      most_weaken 1074 1106 ((c.lo ⊕ c.hi) ⊘ f2) (lit≤ tt)
      (div_most 1075 (1074 + 1) 1074 (c.lo ⊕ c.hi) f2 (lit≤ tt) (lit≤ tt) (add_under 1074 1074 1075 c.lo c.hi (lit≤ tt) (lit≤ tt) (lit≤ tt) R.lo R.hi) f2_least)
  even_most (suc n) i m l =
      subst (λ (b : Bool). AtMost 1106 (cond b ((c.lo ⊕ c.hi) ⊘ f2) (c.lo ⊕ (c.hi ⊖ c.lo) ⊗ num i ⊘ num (suc n)))) (sym (eqb-suc-zero n))
      (add_under 1074 1103 1106 c.lo ((c.hi ⊖ c.lo) ⊗ num i ⊘ num (suc n)) (lit≤ tt) (lit≤ tt) (lit≤ tt) R.lo
      (div_most 1103 1074 1103 ((c.hi ⊖ c.lo) ⊗ num i) (num (suc n)) (lit≤ tt) (lit≤ tt)
      (mul_most 1075 1102 1103 (c.hi ⊖ c.lo) (num i) (lit≤ tt) (lit≤ tt) width (whole_most i 28 1102 l (lit≤ tt) (lit≤ tt)))
      (one_least (suc n) (zero-lt-suc n) m)))

  evens : (last a n : ℕ) → last ≤ 2 ^ 28 → a + n ≤ 2 ^ 28 → Each (AtMost 1106) (map (even_at c last) (up_from a n))
  unfolding up_from
  evens last a zero m l = tt
  evens last a (suc n) m l = (even_most last a m (omega arith), evens last (suc a) n m (omega arith))

  -- ---- wishes that fit: the least step is at most 4
  least_step_most : (last : ℕ) → 0 < last → last ≤ 2 ^ 28 → crowded c last ≡ false → Within 4 1 c.least_step
  unfolding crowded
  least_step_most last p l h =
      let P = num last ⊗ c.least_step in
      let F : AtMost 2097 P = mul_most 1102 g 2097 (num last) c.least_step (omega arith) (lit≤ tt) (few_most last l) R.least_step in
      let C : T (plus P) = (size_of P (mul_unsigned (num last) c.least_step (plus_unsigned (num last) (whole_plus last)) (plus_unsigned c.least_step R.clear)) F.finite).1 in
      let B : AtMost 1075 P = size_most 1075 P (c.hi ⊖ c.lo) F.finite (subst (λ (v : Float). lt (c.hi ⊖ c.lo) v ≡ false) (sym (abs_plus P C)) h) width in
      most_whole 2 c.least_step (factor_most 1075 (num last) c.least_step (lit≤ tt) R.least_step.finite (one_least last p l) B)

  clamped : (w : Float) → T (not (is_nan w)) → Within 1 1 (clamp_of w c.lo c.hi)
  clamped w n = most_whole 0 (clamp_of w c.lo c.hi) (clamp_most 1074 w c.lo c.hi n R.lo R.hi)

  end_one : Within 1 1 c.hi
  end_one = most_whole 0 c.hi R.hi

  module _ (D : Within 4 1 c.least_step) where
    -- the pass up, after a place within b
    up_within : (b : ℕ) (t : Float) (ws : List Float) → 1 ≤ b → b + 4 * length ws ≤ 2 ^ 53 → Within b 1 t → Each (λ w. T (not (is_nan w))) ws → Each (Within (b + 4 * length ws) 1) (forward c t ws)
    unfolding forward
    up_within b t [] k l h n = tt
    up_within b t (w ∷ ws) k l h n =
        let u = max_of (clamp_of w c.lo c.hi) (t ⊕ c.least_step) in
        let U : Within (b + 4) 1 u = max_within (b + 4) 1 (clamp_of w c.lo c.hi) (t ⊕ c.least_step) (within_weaken 1 1 (b + 4) 1 (clamp_of w c.lo c.hi) (lit< tt) (omega arith) (clamped w n.0)) (add_within b 4 1 t c.least_step (lit< tt) (exact_whole (b + 4) (omega arith)) h D) in
        let W : Each (Within (b + 4 + 4 * length ws) 1) (forward c u ws) = up_within (b + 4) u ws (omega arith) (omega arith) U n.1 in
        let e : b + 4 + 4 * length ws ≡ b + 4 * suc (length ws) = omega arith in
        (within_weaken (b + 4) 1 (b + 4 * suc (length ws)) 1 u (lit< tt) (omega arith) U, subst (λ (a : ℕ). Each (Within a 1) (forward c u ws)) e W)

    up_all : (ws : List Float) → 1 + 4 * length ws ≤ 2 ^ 53 → Each (λ w. T (not (is_nan w))) ws → Each (Within (1 + 4 * length ws) 1) (forward_all c ws)
    unfolding forward_all
    up_all [] l n = tt
    up_all (w ∷ ws) l n =
        let t = clamp_of w c.lo c.hi in
        let W : Each (Within (1 + 4 * length ws) 1) (forward c t ws) = up_within 1 t ws (lit≤ tt) (omega arith) (clamped w n.0) n.1 in (
          within_weaken 1 1 (1 + 4 * suc (length ws)) 1 t (lit< tt) (omega arith) (clamped w n.0),
          each_map (Within (1 + 4 * length ws) 1) (Within (1 + 4 * suc (length ws)) 1) (λ x h. within_weaken (1 + 4 * length ws) 1 (1 + 4 * suc (length ws)) 1 x (lit< tt) (omega arith) h) (forward c t ws) W,
        )

    -- the pass down
    back_within : (b : ℕ) (t : Float) (us : List Float) → 1 ≤ b → b + 4 ≤ 2 ^ 53 → Within b 1 t → Each (Within b 1) us → Each (Within (b + 4) 1) (back_one c t us)
    back_within b t [] k l h n = (min_within (b + 4) 1 t c.hi (more t h) (within_weaken 1 1 (b + 4) 1 c.hi (lit< tt) (omega arith) end_one), tt)
      where
        more : (x : Float) → Within b 1 x → Within (b + 4) 1 x
        more x h = within_weaken b 1 (b + 4) 1 x (lit< tt) (omega arith) h
    back_within b t (u ∷ us) k l h n =
        (min_within (b + 4) 1 t (u ⊖ c.least_step) (more t h) (sub_within b 4 1 u c.least_step (lit< tt) (exact_whole (b + 4) l) n.0 D), (more u n.0, each_map (Within b 1) (Within (b + 4) 1) more us n.1))
      where
        more : (x : Float) → Within b 1 x → Within (b + 4) 1 x
        more x h = within_weaken b 1 (b + 4) 1 x (lit< tt) (omega arith) h

    down_all : (b : ℕ) (ts : List Float) → 1 ≤ b → b + 4 * length ts ≤ 2 ^ 53 → Each (Within b 1) ts → Each (Within (b + 4 * length ts) 1) (backward c ts)
    unfolding backward
    down_all b [] k l h = tt
    down_all b (t ∷ ts) k l h =
        let W : Each (Within (b + 4 * length ts) 1) (backward c ts) = down_all b ts k (omega arith) h.1 in
        let e : b + 4 * length ts + 4 ≡ b + 4 * suc (length ts) = omega arith in
        subst (λ (a : ℕ). Each (Within a 1) (back_one c t (backward c ts))) e
        (back_within (b + 4 * length ts) t (backward c ts) (omega arith) (omega arith) (within_weaken b 1 (b + 4 * length ts) 1 t (lit< tt) (omega arith) h.0) W)

    passes : (ws : List Float) → length ws ≤ 2 ^ 28 → Each (λ w. T (not (is_nan w))) ws → Each (AtMost 1106) (backward c (forward_all c ws))
    passes ws l n =
        let k = length ws in
        let e : length (forward_all c ws) ≡ k = length_forward_all c ws in
        let A : Each (Within (1 + 4 * k) 1) (forward_all c ws) = up_all ws (omega arith) n in
        let B : Each (Within (1 + 4 * k + 4 * length (forward_all c ws)) 1) (backward c (forward_all c ws)) = down_all (1 + 4 * k) (forward_all c ws) (omega arith) (omega arith) A in
        each_map (Within (1 + 4 * k + 4 * length (forward_all c ws)) 1) (AtMost 1106) (λ x h. whole_bound (1 + 4 * k + 4 * length (forward_all c ws)) 32 1106 x (omega arith) (lit≤ tt) h) (backward c (forward_all c ws)) B

  -- ---- all wishes
  each_cond : (P : Float → Type 0) (b : Bool) (x y : List Float) → (b ≡ true → Each P x) → (b ≡ false → Each P y) → Each P (cond b x y)
  each_cond P true x y f h = f refl
  each_cond P false x y f h = h refl

  pub spaced_most : (ws : List Float) → length ws ≤ 2 ^ 28 → Each (λ w. T (not (is_nan w))) ws → Each (AtMost 1106) (spaced c ws)
  unfolding spaced
  spaced_most ws l n =
      each_cond (AtMost 1106) (crowded c (length ws - 1)) (map (even_at c (length ws - 1)) (up_from 0 (length ws))) (backward c (forward_all c ws))
      (λ e. evens (length ws - 1) 0 (length ws) (omega arith) (omega arith)) (λ e. fit ws l n e)
    where
      few : (w : Float) → T (not (is_nan w)) → AtMost 1106 (min_of (clamp_of w c.lo c.hi) c.hi)
      few w n = whole_bound 1 0 1106 (min_of (clamp_of w c.lo c.hi) c.hi) (lit≤ tt) (lit≤ tt) (min_within 1 1 (clamp_of w c.lo c.hi) c.hi (clamped w n) end_one)

      fit : (ws : List Float) → length ws ≤ 2 ^ 28 → Each (λ w. T (not (is_nan w))) ws → crowded c (length ws - 1) ≡ false → Each (AtMost 1106) (backward c (forward_all c ws))
      fit [] l n e = unfold backward forward_all in tt
      fit (w ∷ []) l n e = unfold backward forward_all forward in (few w n.0, tt)
      fit (w ∷ v ∷ ws) l n e = passes (least_step_most (length (w ∷ v ∷ ws) - 1) (omega arith) (omega arith) e) (w ∷ v ∷ ws) l n

  pub put_most : (xs : List ℕ) (ts ps : List Float) → Each (AtMost 1106) ts → Each (AtMost 1106) ps → Each (AtMost 1106) (put_all xs ts ps)
  unfolding put_all
  put_most [] ts ps h k = k
  put_most (x ∷ xs) [] ps h k = k
  put_most (x ∷ xs) (t ∷ ts) ps h k = put_most xs ts (set ps x t) h.1 (each_set (AtMost 1106) ps x t h.0 k)

  ordered : (P : Float → Type 0) (ws : List Float) (o : List ℕ) → Each P ws → All (λ j. j < length ws) o → Each P (map (λ j. get_or ws j nan) o)
  ordered P ws [] h a = tt
  ordered P ws (j ∷ o) h a = (each_at P ws j nan a.0 h, ordered P ws o h a.1)

  -- wishes that are numbers of a bound get places of a bound, in their order and each at its wish's number
  pub ordered_most : (ws : List Float) → length ws ≤ 2 ^ 28 → Each (AtMost 1106) ws → Each (AtMost 1106) (spaced c (in_order ws (wish_order ws)))
  unfolding wish_order in_order
  ordered_most ws l h =
      let o = sort_by (key_at (map wish_key ws)) (up_from 0 (length ws)) in
      let a : All (λ j. j < length ws) o = all_sort (key_at (map wish_key ws)) (λ j. j < length ws) (up_from 0 (length ws)) (all_below 0 (length ws) (length ws) (omega arith)) in
      let n : Each (λ w. T (not (is_nan w))) (map (λ j. get_or ws j nan) o) = ordered (λ w. T (not (is_nan w))) ws o (each_map (AtMost 1106) (λ w. T (not (is_nan w))) (λ w k. most_number 1106 w k) ws h) a in
      spaced_most (map (λ j. get_or ws j nan) o) (le_trans (le_of_eq (length_in_order ws)) l) n

  pub placed_most : (ws : List Float) → length ws ≤ 2 ^ 28 → Each (AtMost 1106) ws → Each (AtMost 1106) (placed c ws)
  unfolding placed
  placed_most ws l h = put_most (wish_order ws) (spaced c (in_order ws (wish_order ws))) ws (ordered_most ws l h) h
