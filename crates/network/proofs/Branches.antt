-- What a branch's kind says of its buses: they are known, in one station or in two.
-- Assumes nothing.
use Prim.Native.Nat.{ℕ, ◌<◌}
use mathlib.Core.Path.{◌≡◌, refl, sym, ◌∙◌, subst}
use mathlib.Core.Bool.{Bool, true, false}
use mathlib.Core.List.{List}
use native.Mathlib.Omega.{arith}
use borrow.Author.Tests.{ltb-true, eqb-true, eqb-false}
use lib.Dec.{eqb, ltb}
use lib.IntN.{ℤ, pos, negsuc}
use lib.ListN.{length, get_or}
use Rattle.numbers.specs.Order.{pick}
use Rattle.std.specs.Prelude.{Option, Some, None}
use Rattle.network.specs.declared.words.Kind.{Kind}
use Rattle.network.specs.declared.words.Kind.TheVariants.{Undrawn}
use Rattle.network.specs.Words.{station_of, known, live, kind_by, kind_for, kind_of, Safe}

known_below : (n : ℕ) (z : ℤ) (a : ℕ) → known n z ≡ Some a → a < n
unfolding known
known_below n (pos i) a e = go (ltb i n) refl e
  where
    go : (b : Bool) → ltb i n ≡ b → pick b (Some i) None ≡ Some a → a < n
    go true q e = let z : i ≡ a = cc in omega (arith, ltb-true i n q)
    go false q e = absurd (cc)
known_below n (negsuc i) a e = absurd (cc)

module _ (sub : List ℕ) where
  safe_by : (a b : ℕ) → a < length sub → b < length sub → (s l o : Bool) → eqb (station_of sub a) (station_of sub b) ≡ o → Safe sub (kind_by s l o a b)
  unfolding Safe kind_by
  safe_by a b f g true l o e = tt
  safe_by a b f g false false o e = (f, g)
  safe_by a b f g false true true e = (f, g, eqb-true (station_of sub a) (station_of sub b) e)
  safe_by a b f g false true false e = (f, g, eqb-false (station_of sub a) (station_of sub b) e)

  safe_for : (l : Bool) (s t : Option ℕ) → ((a : ℕ) → s ≡ Some a → a < length sub) → ((b : ℕ) → t ≡ Some b → b < length sub) → Safe sub (kind_for sub l s t)
  unfolding Safe kind_for
  safe_for l None t f g = tt
  safe_for l (Some a) None f g = tt
  safe_for l (Some a) (Some b) f g = safe_by a b (f a refl) (g b refl) (eqb a b) l (eqb (station_of sub a) (station_of sub b)) refl

  pub kind_safe : (from to : List ℤ) (service : List ℕ) (e : ℕ) → Safe sub (kind_of sub from to service e)
  unfolding kind_of
  kind_safe from to service e =
      safe_for (live service e) (known (length sub) (get_or from e (negsuc 0))) (known (length sub) (get_or to e (negsuc 0)))
      (λ a h. known_below (length sub) (get_or from e (negsuc 0)) a h) (λ b h. known_below (length sub) (get_or to e (negsuc 0)) b h)

  -- the kind by what is known of the two ends
  module _ (from to : List ℤ) (service : List ℕ) (e : ℕ) where
    answered : (r : Kind) → r ≡ kind_of sub from to service e → (r ≡ kind_of sub from to service e) × Safe sub r
    answered r q = (q, subst (Safe sub) (sym q) (kind_safe from to service e))

    pub from_unknown : (s : Option ℕ) → s ≡ known (length sub) (get_or from e (negsuc 0)) → s ≡ None
        → (Undrawn ≡ kind_of sub from to service e) × Safe sub Undrawn
    unfolding kind_of kind_for
    from_unknown s f u = answered Undrawn (rw (sym f ∙ u))

    pub to_unknown : (a : ℕ) (s t : Option ℕ) → s ≡ known (length sub) (get_or from e (negsuc 0)) → t ≡ known (length sub) (get_or to e (negsuc 0)) → s ≡ Some a → t ≡ None
        → (Undrawn ≡ kind_of sub from to service e) × Safe sub Undrawn
    unfolding kind_of kind_for
    to_unknown a s t f g u v = answered Undrawn (rw (sym f ∙ u, sym g ∙ v))

    pub both_known : (a b : ℕ) (s t : Option ℕ) (l : Bool) (r : Kind) → s ≡ known (length sub) (get_or from e (negsuc 0)) → t ≡ known (length sub) (get_or to e (negsuc 0))
        → s ≡ Some a → t ≡ Some b → l ≡ live service e → r ≡ kind_by (eqb a b) l (eqb (station_of sub a) (station_of sub b)) a b → (r ≡ kind_of sub from to service e) × Safe sub r
    unfolding kind_of kind_for
    both_known a b s t l r f g u v w q = answered r (rw (sym f ∙ u, sym g ∙ v, ← w) q)
