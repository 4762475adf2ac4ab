-- Spacing gives each wish of a channel exactly one place, and keeps their number. Assumes nothing.
use mathlib.Core.Path.{◌≡◌, refl, sym, ap, ◌∙◌}
use mathlib.Core.Bool.{Bool, true, false, cond}
use mathlib.Core.List.{List, [], ◌∷◌, map}
use Prim.Native.Nat.{ℕ, zero, suc, ◌-◌, ◌<◌, zero-le, suc-le-suc}
use native.Mathlib.Omega.{arith}
use native.Mathlib.Nat.{le_of_suc-le-suc, not-suc-le-zero}
use lib.ListN.{length, get_or, set, length-set, length-map}
use lib.Seq.{get_or-set_same, get_or-set_other}
use lib.Ieee.{Float, nan}
use Rattle.numbers.specs.Ops.{◌⊕◌}
use Rattle.numbers.specs.Small.{max_of, clamp_of}
use Rattle.numbers.specs.Order.{up_from, key_at, rank}
use Rattle.numbers.proofs.order.Laws.{length_up, rank_law, rank_below, place_law, below_sort}
use Rattle.numbers.proofs.order.Merging.{length_sort}
use Rattle.channels.specs.declared.channel.Channel.{Channel}
use Rattle.channels.specs.Space.{wish_key, wish_order, in_order, even_at, forward, forward_all, back_one, backward, crowded, spaced, put_all, placed}

module _ (c : Channel) where
  length_forward : (t : Float) (ws : List Float) → length (forward c t ws) ≡ length ws
  unfolding forward
  length_forward t [] = refl
  length_forward t (w ∷ ws) = ap suc (length_forward (max_of (clamp_of w c.lo c.hi) (t ⊕ c.least_step)) ws)

  pub length_forward_all : (ws : List Float) → length (forward_all c ws) ≡ length ws
  unfolding forward_all
  length_forward_all [] = refl
  length_forward_all (w ∷ ws) = ap suc (length_forward (clamp_of w c.lo c.hi) ws)

  length_back_one : (t : Float) (us : List Float) → length (back_one c t us) ≡ suc (length us)
  length_back_one t [] = refl
  length_back_one t (u ∷ us) = refl

  length_backward : (ts : List Float) → length (backward c ts) ≡ length ts
  unfolding backward
  length_backward [] = refl
  length_backward (t ∷ ts) = length_back_one t (backward c ts) ∙ ap suc (length_backward ts)

  either : (b : Bool) (n : ℕ) (x y : List Float) → length x ≡ n → length y ≡ n → length (cond b x y) ≡ n
  either true n x y hx hy = hx
  either false n x y hx hy = hy

  -- as many places as wishes
  pub length_spaced : (ws : List Float) → length (spaced c ws) ≡ length ws
  unfolding spaced
  length_spaced ws =
      either
      (crowded c (length ws - 1))
      (length ws)
      _
      _
      (length-map (up_from 0 (length ws)) (even_at c (length ws - 1)) ∙ length_up 0 (length ws))
      (length_backward (forward_all c ws) ∙ length_forward_all ws)

-- where wish j stands in the order of the wishes: how many stand before it
abbrev pub wish_rank : List Float → ℕ → ℕ
wish_rank ws j = rank (key_at (map wish_key ws)) (length ws) j

module _ (ws : List Float) where
  -- the order names as many wishes as there are
  pub length_order : length (wish_order ws) ≡ length ws
  unfolding wish_order
  length_order = length_sort (key_at (map wish_key ws)) (up_from 0 (length ws)) ∙ length_up 0 (length ws)

  pub length_in_order : length (in_order ws (wish_order ws)) ≡ length ws
  unfolding in_order
  length_in_order = length-map (wish_order ws) (λ j. get_or ws j nan) ∙ length_order

  -- wish j stands in the order at its rank, and only there
  pub wish_found : (j : ℕ) → j < length ws → get_or (wish_order ws) (wish_rank ws j) 0 ≡ j
  unfolding wish_order
  wish_found j h = rank_law (key_at (map wish_key ws)) (length ws) j h

  pub wish_once : (p : ℕ) → p < length ws → wish_rank ws (get_or (wish_order ws) p 0) ≡ p
  unfolding wish_order
  wish_once p h = place_law (key_at (map wish_key ws)) (length ws) p h

  pub wish_below : (p : ℕ) → p < length ws → get_or (wish_order ws) p 0 < length ws
  unfolding wish_order
  wish_below p h = below_sort (key_at (map wish_key ws)) (length ws) p h

-- ---- places put at their wishes

-- no place is lost or made
pub length_put : (xs : List ℕ) (ts ps : List Float) → length (put_all xs ts ps) ≡ length ps
unfolding put_all
length_put [] ts ps = refl
length_put (x ∷ xs) [] ps = refl
length_put (x ∷ xs) (t ∷ ts) ps = length_put xs ts (set ps x t) ∙ length-set ps x t

-- a number that the list does not name keeps its place
pub put_other : (xs : List ℕ) (ts ps : List Float) (j : ℕ) → ((q : ℕ) → q < length xs → get_or xs q 0 ≡ j → ⊥) → get_or (put_all xs ts ps) j nan ≡ get_or ps j nan
unfolding put_all
put_other [] ts ps j f = refl
put_other (x ∷ xs) [] ps j f = refl
put_other (x ∷ xs) (t ∷ ts) ps j f =
    put_other xs ts (set ps x t) j (λ q h. f (suc q) (suc-le-suc h))
    ∙ get_or-set_other ps x j t nan (λ e. f 0 (suc-le-suc zero-le) (sym e))

-- a number that it names at p, and not after it, has the place at p
pub put_at : (xs : List ℕ) (ts ps : List Float) (p : ℕ) → p < length xs → length ts ≡ length xs → get_or xs p 0 < length ps
    → ((q : ℕ) → p < q → q < length xs → get_or xs q 0 ≡ get_or xs p 0 → ⊥) → get_or (put_all xs ts ps) (get_or xs p 0) nan ≡ get_or ts p nan
unfolding put_all
put_at [] ts ps p h e k f = absurd (not-suc-le-zero h)
put_at (x ∷ xs) [] ps p h e k f = absurd (omega (arith, e))
put_at (x ∷ xs) (t ∷ ts) ps zero h e k f =
    put_other xs ts (set ps x t) x (λ q g. f (suc q) (suc-le-suc zero-le) (suc-le-suc g)) ∙ get_or-set_same ps x t nan k
put_at (x ∷ xs) (t ∷ ts) ps (suc p) h e k f =
    put_at xs ts (set ps x t) p (le_of_suc-le-suc h) (omega (arith, e)) (omega (arith, k, length-set ps x t)) (λ q a b. f (suc q) (suc-le-suc a) (suc-le-suc b))

module _ (c : Channel) (ws : List Float) where
  -- the number of wishes stays
  pub length_placed : length (placed c ws) ≡ length ws
  unfolding placed
  length_placed = length_put (wish_order ws) (spaced c (in_order ws (wish_order ws))) ws

  -- the wish that stands at p in the order gets place p
  pub placed_at : (p : ℕ) → p < length ws → get_or (placed c ws) (get_or (wish_order ws) p 0) nan ≡ get_or (spaced c (in_order ws (wish_order ws))) p nan
  unfolding placed
  placed_at p h =
      let o : List ℕ = wish_order ws in
      let long : length o ≡ length ws = length_order ws in
      put_at o (spaced c (in_order ws o)) ws p (omega arith) (length_spaced c (in_order ws o) ∙ length_in_order ws ∙ sym long) (wish_below ws p h)
      (λ q a b e. let s : q ≡ p = sym (wish_once ws q (omega arith)) ∙ ap (wish_rank ws) e ∙ wish_once ws p h in omega arith)

  -- each wish gets one place: that of its rank
  pub placed_wish : (j : ℕ) → j < length ws → get_or (placed c ws) j nan ≡ get_or (spaced c (in_order ws (wish_order ws))) (wish_rank ws j) nan
  placed_wish j h =
      ap (λ (i : ℕ). get_or (placed c ws) i nan) (sym (wish_found ws j h))
      ∙ placed_at (wish_rank ws j) (rank_below (key_at (map wish_key ws)) (length ws) j h)
