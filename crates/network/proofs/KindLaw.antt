-- What a branch is, by the network's lists (docs/RULES.md, 'Branches and stations'): open where its service flag is 0, else internal in one station and a line between two.
-- Assumes nothing.
use Prim.Native.Nat.{ℕ, ◌≤◌, ◌<◌}
use mathlib.Core.Path.{◌≡◌, refl, ap, ◌∙◌}
use mathlib.Core.Logic.{◌≢◌, ⊎_elim}
use mathlib.Core.Bool.{Bool, true, false, not}
use mathlib.Core.List.{List}
use native.Mathlib.Omega.{arith}
use borrow.Author.Tests.{lt-ltb, ltb-true, eq-eqb, ne_eqb, eqb-false}
use lib.Dec.{eqb, ltb}
use lib.IntN.{ℤ, pos, negsuc}
use lib.ListN.{length, get_or, get_or-eq_default}
use Rattle.numbers.specs.Order.{pick}
use Rattle.numbers.proofs.order.Merging.{le_or_lt}
use Rattle.numbers.proofs.order.Tables.{get_d_any}
use Rattle.std.specs.Prelude.{Option, Some, None}
use Rattle.network.specs.declared.words.Kind.TheVariants.{Undrawn, Open, Internal, Line}
use Rattle.network.specs.Words.{station_of, known, live, kind_by, kind_for, kind_of}

-- ---- the words, over the lists

-- the from bus of branch e is a, its to bus b: both below the bus count, and different
abbrev pub Joins : List ℕ → List ℤ → List ℤ → ℕ → ℕ → ℕ → Type 0
Joins sub from to e a b =
    (get_or from e (negsuc 0) ≡ pos a) × (a < length sub) × (get_or to e (negsuc 0) ≡ pos b) × (b < length sub) × (a ≢ b)

-- its service flag is there and is 0; it is absent or another number
abbrev pub FlagIs0 : List ℕ → ℕ → Type 0
FlagIs0 service e = (e < length service) × (get_or service e 0 ≡ 0)

abbrev pub IsLive : List ℕ → ℕ → Type 0
IsLive service e = e < length service → get_or service e 0 ≢ 0

-- ---- the definition's words

known_is : (n : ℕ) (z : ℤ) (a : ℕ) → z ≡ pos a → a < n → known n z ≡ Some a
unfolding known
known_is n z a e h = ap (known n) e ∙ ap (λ (b : Bool). pick b (Some a) None) (lt-ltb a n h)

known_back : (n : ℕ) (z : ℤ) (a : ℕ) → known n z ≡ Some a → (z ≡ pos a) × (a < n)
unfolding known
known_back n (pos i) a e = go (ltb i n) refl e
  where
    go : (b : Bool) → ltb i n ≡ b → pick b (Some i) None ≡ Some a → (pos i ≡ pos a) × (a < n)
    go true q e = let z : i ≡ a = cc in (ap pos z, omega (arith, ltb-true i n q))
    go false q e = absurd (cc)
known_back n (negsuc i) a e = absurd (cc)

flag_open : (service : List ℕ) (e : ℕ) → FlagIs0 service e → live service e ≡ false
unfolding live
flag_open service e h = ap (λ (n : ℕ). not (eqb n 0)) (get_d_any service e 1 0 h.0 ∙ h.1)

flag_live : (service : List ℕ) (e : ℕ) → IsLive service e → live service e ≡ true
unfolding live
flag_live service e h = ⊎_elim
    (λ (k : length service ≤ e). ap (λ (n : ℕ). not (eqb n 0)) (get_or-eq_default service 1 {n = e} k))
    (λ (k : e < length service).
    ap (λ (n : ℕ). not (eqb n 0)) (get_d_any service e 1 0 k) ∙ ap not (ne_eqb (get_or service e 0) 0 (h k)))
    (le_or_lt (length service) e)

-- ---- the laws

module _ (sub : List ℕ) (from to : List ℤ) (service : List ℕ) (e : ℕ) where
  between : (a b : ℕ) (l one : Bool) → Joins sub from to e a b → live service e ≡ l → eqb (station_of sub a) (station_of sub b) ≡ one
      → kind_of sub from to service e ≡ kind_by false l one a b
  unfolding kind_of kind_for
  between a b l one j v o =
      ap (λ (s : Option ℕ). kind_for sub (live service e) s (known (length sub) (get_or to e (negsuc 0)))) (known_is (length sub) (get_or from e (negsuc 0)) a j.0 j.1)
      ∙ ap (kind_for sub (live service e) (Some a)) (known_is (length sub) (get_or to e (negsuc 0)) b j.2 j.3)
      ∙ ap (λ (u : Bool). kind_by u (live service e) (eqb (station_of sub a) (station_of sub b)) a b) (ne_eqb a b j.4)
      ∙ ap (λ (u : Bool). kind_by false u (eqb (station_of sub a) (station_of sub b)) a b) v
      ∙ ap (λ (u : Bool). kind_by false l u a b) o

  pub kind_open : (a b : ℕ) → Joins sub from to e a b → FlagIs0 service e → kind_of sub from to service e ≡ Open a b
  unfolding kind_by
  kind_open a b j f = between a b false (eqb (station_of sub a) (station_of sub b)) j (flag_open service e f) refl

  pub kind_internal : (a b : ℕ) → Joins sub from to e a b → IsLive service e → station_of sub a ≡ station_of sub b → kind_of sub from to service e ≡ Internal a b
  unfolding kind_by
  kind_internal a b j f s = between a b true true j (flag_live service e f) (eq-eqb (station_of sub a) (station_of sub b) s)

  pub kind_line : (a b : ℕ) → Joins sub from to e a b → IsLive service e → station_of sub a ≢ station_of sub b → kind_of sub from to service e ≡ Line a b
  unfolding kind_by
  kind_line a b j f s = between a b true false j (flag_live service e f) (ne_eqb (station_of sub a) (station_of sub b) s)

  -- every other branch is undrawn
  pub kind_other : ((a b : ℕ) → Joins sub from to e a b → ⊥) → kind_of sub from to service e ≡ Undrawn
  unfolding kind_of
  kind_other n = by-ends (known (length sub) (get_or from e (negsuc 0))) (known (length sub) (get_or to e (negsuc 0))) refl refl
    where
      by-ends : (s t : Option ℕ) → known (length sub) (get_or from e (negsuc 0)) ≡ s → known (length sub) (get_or to e (negsuc 0)) ≡ t → kind_for sub (live service e) s t ≡ Undrawn
      by-ends None t p q = unfold kind_for in refl
      by-ends (Some a) None p q = unfold kind_for in refl
      by-ends (Some a) (Some b) p q = unfold kind_for in same (eqb a b) refl
        where
          same : (u : Bool) → eqb a b ≡ u → kind_by u (live service e) (eqb (station_of sub a) (station_of sub b)) a b ≡ Undrawn
          same true h = unfold kind_by in refl
          same false h =
              let f = known_back (length sub) (get_or from e (negsuc 0)) a p in
              let t = known_back (length sub) (get_or to e (negsuc 0)) b q in
              absurd (n a b (f.0, f.1, t.0, t.1, eqb-false a b h))
