-- The two passes of spacing, as the loops of the code take them. Assumes nothing.
use mathlib.Core.Path.{◌≡◌, refl, sym, ap, ◌∙◌}
use mathlib.Core.List.{List, [], ◌∷◌, ◌++◌, append_assoc, append-nil}
use Prim.Native.Nat.{ℕ, suc, ◌+◌, ◌-◌, ◌≤◌, ◌<◌}
use native.Mathlib.Omega.{arith}
use native.Mathlib.Numerals.{add-one}
use lib.ListN.{length, get_or, drop, take, set, length-append, drop_of_length-le}
use lib.Seq.{drop-cons, set_at, get_or_at, take-suc, length-take-le, take_all, set-append_left}
use lib.ListN.{get_or-append}
use lib.Ieee.{Float, nan}
use Rattle.numbers.specs.Small.{max_of, min_of, clamp_of}
use Rattle.channels.specs.declared.channel.Channel.{Channel}
use Rattle.numbers.specs.Ops.{◌⊕◌, ◌⊖◌}
use Rattle.channels.specs.Space.{forward, forward_all, back_one, backward}

-- the loop over the places ws between a place t₀ that is final and the end
module _ (c : Channel) (t₀ : Float) (ws : List Float) where
  -- i places are final, the last of them t
  pub record Forth (now : List Float) (i : ℕ) (t : Float) : Type 0 where
    pub done : List Float
    pub count : length done ≡ i
    pub list : now ≡ done ++ drop i ws
    pub all : forward c t₀ ws ≡ done ++ forward c t (drop i ws)

  pub forth_start : Forth ws 0 t₀
  forth_start = record { done = []; count = refl; list = refl; all = refl }

  pub forth_step : (now : List Float) (i : ℕ) (t y u : Float) → i < length ws → y ≡ clamp_of (get_or now i nan) c.lo c.hi → u ≡ max_of y (t ⊕ c.least_step) → Forth now i t → Forth (set now i u) (i + 1) u
  unfolding forward
  forth_step now i t y u h f g r =
      let w : Float = get_or ws i nan in
      let cons : drop i ws ≡ w ∷ drop (suc i) ws = drop-cons ws i nan h in
      let at : now ≡ r.done ++ (w ∷ drop (suc i) ws) = r.list ∙ ap (λ z. r.done ++ z) cons in
      let read : get_or now i nan ≡ w = ap (λ z. get_or z i nan) at ∙ get_or_at r.done w (drop (suc i) ws) nan i r.count in
      let value : u ≡ max_of (clamp_of w c.lo c.hi) (t ⊕ c.least_step) = g ∙ ap (λ z. max_of z (t ⊕ c.least_step)) (f ∙ ap (λ z. clamp_of z c.lo c.hi) read) in
      record {
        done = r.done ++ (u ∷ []);
        count = length-append r.done (u ∷ []) ∙ ap (λ z. z + 1) r.count;
        list = ap (λ z. set z i u) at ∙ set_at r.done w (drop (suc i) ws) u i r.count ∙ simp (append_assoc, add-one);
        all = r.all ∙ ap (λ z. r.done ++ forward c t z) cons ∙ ap (λ z. r.done ++ (z ∷ forward c z (drop (suc i) ws))) (sym value) ∙ simp (append_assoc, add-one);
      }

  pub forth_end : (now : List Float) (i : ℕ) (t : Float) → length ws ≤ i → Forth now i t → now ≡ forward c t₀ ws
  unfolding forward
  forth_end now i t h r =
      let none : drop i ws ≡ [] = drop_of_length-le ws h in
      r.list ∙ ap (λ y. r.done ++ y) none ∙ sym (r.all ∙ ap (λ y. r.done ++ forward c t y) none)

-- ---- the second pass: the last place is final, and those before it follow

-- the places ws before a place t₀ that is final
unfoldable pub back : Channel → Float → List Float → List Float
back c t₀ [] = t₀ ∷ []
back c t₀ (w ∷ ws) = back_one c w (back c t₀ ws)

back_all : (c : Channel) (ws : List Float) (x : Float) → backward c (ws ++ (x ∷ [])) ≡ back c (min_of x c.hi) ws
unfolding back backward
back_all c [] x = refl
back_all c (w ∷ ws) x = ap (back_one c w) (back_all c ws x)

module _ (c : Channel) (t₀ : Float) (ws : List Float) where
  -- the places from i on are final, the first of them t
  pub record Back (now : List Float) (i : ℕ) (t : Float) : Type 0 where
    pub rest : List Float
    pub list : now ++ (t₀ ∷ []) ≡ take i ws ++ (t ∷ rest)
    pub all : back c t₀ (drop i ws) ≡ t ∷ rest

  pub back_start : Back ws (length ws) t₀
  unfolding back
  back_start =
      record {
        rest = [];
        list = ap (λ z. z ++ (t₀ ∷ [])) (sym (take_all (length ws) ws (omega arith)));
        all = ap (back c t₀) (drop_of_length-le ws (omega arith));
      }

  pub back_step : (now : List Float) (i : ℕ) (t u : Float) → 0 < i → i ≤ length ws → length now ≡ length ws → u ≡ min_of (get_or now (i - 1) nan) (t ⊖ c.least_step) → Back now i t → Back (set now (i - 1) u) (i - 1) u
  unfolding back
  back_step now i t u h k m g r =
      let j : ℕ = i - 1 in
      let e : i ≡ suc j = omega arith in
      let w : Float = get_or ws j nan in
      let cons : drop j ws ≡ w ∷ drop i ws = drop-cons ws j nan (omega arith) ∙ ap (λ z. w ∷ drop z ws) (sym e) in
      let front : take i ws ≡ take j ws ++ (w ∷ []) = ap (λ z. take z ws) e ∙ take-suc ws j nan (omega arith) in
      let at : now ++ (t₀ ∷ []) ≡ take j ws ++ (w ∷ t ∷ r.rest) = r.list ∙ ap (λ z. z ++ (t ∷ r.rest)) front ∙ append_assoc (take j ws) (w ∷ []) (t ∷ r.rest) in
      let size : length (take j ws) ≡ j = length-take-le j ws (omega arith) in
      let read : get_or now j nan ≡ w = sym (get_or-append now (t₀ ∷ []) nan j (omega arith)) ∙ ap (λ z. get_or z j nan) at ∙ get_or_at (take j ws) w (t ∷ r.rest) nan j size in
      let value : u ≡ min_of w (t ⊖ c.least_step) = g ∙ ap (λ z. min_of z (t ⊖ c.least_step)) read in
      record {
        rest = t ∷ r.rest;
        list = sym (set-append_left now (t₀ ∷ []) j u (omega arith)) ∙ ap (λ z. set z j u) at ∙ set_at (take j ws) w (t ∷ r.rest) u j size;
        all = ap (back c t₀) cons ∙ ap (back_one c w) r.all ∙ ap (λ z. z ∷ t ∷ r.rest) (sym value);
      }

  pub back_end : (now : List Float) (i : ℕ) (t : Float) → i ≤ 0 → Back now i t → now ++ (t₀ ∷ []) ≡ back c t₀ ws
  back_end now i t h r =
      let z : i ≡ 0 = omega arith in
      r.list ∙ ap (λ k. take k ws ++ (t ∷ r.rest)) z ∙ sym r.all ∙ ap (λ k. back c t₀ (drop k ws)) z

-- by what the code read: the last place x, and the others
pub backward_made : (c : Channel) (l ws now : List Float) (x t₀ t : Float) (i : ℕ) → l ≡ ws ++ (x ∷ []) → t₀ ≡ min_of x c.hi → i ≤ 0 → Back c t₀ ws now i t → now ++ (t₀ ∷ []) ≡ backward c l
backward_made c l ws now x t₀ t i e f h r = back_end c t₀ ws now i t h r ∙ ap (λ z. back c z ws) f ∙ sym (back_all c ws x) ∙ ap (backward c) (sym e)

pub ruleset back_laws = (back_start, back_step)
