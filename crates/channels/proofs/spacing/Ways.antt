-- No wishes are their places; and the steps from wishes to their places. Assumes nothing.
use mathlib.Core.Path.{◌≡◌, refl, sym, ap, ◌∙◌}
use mathlib.Core.Bool.{Bool, true, false, cond}
use mathlib.Core.List.{List, [], ◌∷◌, map}
use Prim.Native.Nat.{ℕ, ◌+◌, ◌-◌}
use native.Mathlib.Omega.{arith}
use lib.Dec.{T}
use lib.ListN.{length, get_or}
use lib.Ieee.{Float, nan, fits, binary64}
use Rattle.numbers.specs.Order.{up_from, key_at, sort_by}
use Rattle.channels.specs.declared.channel.Channel.{Channel}
use Rattle.channels.specs.Space.{wish_key, read_back, wish_order, in_order, even_at, crowded, forward_all, backward, spaced}
use Rattle.channels.proofs.spacing.Back.{back_all}

module _ (c : Channel) where
  abbrev chosen : Bool → List Float → List Float
  chosen b ws = cond b (map (even_at c (length ws - 1)) (up_from 0 (length ws))) (backward c (forward_all c ws))

  no_wish : (b : Bool) → chosen b [] ≡ []
  unfolding up_from forward_all backward
  no_wish true = refl
  no_wish false = refl

  -- no wishes are their places
  pub empty : (ws : List Float) → length ws ≡ 0 → ws ≡ spaced c ws
  unfolding spaced
  empty [] h = sym (no_wish (crowded c 0))
  empty (w ∷ ws) h = absurd (omega (arith, h))

  pub steps : (w l l' : List Float) (ks o o' : List ℕ) → ((i : ℕ) → T (fits binary64 (get_or w i nan)))
      → ks ≡ map wish_key w → o ≡ up_from 0 (length w) → o' ≡ sort_by (key_at ks) o → l ≡ read_back ks o' → l' ≡ spaced c l
      → (o' ≡ wish_order w) × (l' ≡ spaced c (in_order w (wish_order w)))
  unfolding wish_order
  steps w l l' ks o o' f k a s g p =
      let sorted : o' ≡ wish_order w = s ∙ ap (λ (x : List ℕ). sort_by (key_at x) o) k ∙ ap (sort_by (key_at (map wish_key w))) a in
      (sorted, p ∙ ap (spaced c) (g ∙ ap (λ (x : List ℕ). read_back x o') k ∙ back_all w f o' ∙ ap (in_order w) sorted))
