-- Which branches have a row in a station, and that of two rows there the lower number is that of the branch that stands before the other in this order:
-- live branches inside the station first, by branch number; then live line ends, by the other station's seed y in totalOrder, then branch number. Assumes nothing.
use mathlib.Core.Path.{◌≡◌, refl, sym, ap, ◌∙◌}
use mathlib.Core.Logic.{◌⊎◌, inl, inr, ⊎_elim}
use mathlib.Core.Bool.{Bool, true, false, ◌||◌, true≢false}
use mathlib.Core.List.{List}
use Prim.Native.Nat.{ℕ, suc, ◌<◌, ◌^◌}
use native.Mathlib.Omega.{arith}
use borrow.Author.Tests.{lt-ltb, ltb-true, eq-eqb, eqb-true}
use lib.Dec.{T, eqb, ltb}
use lib.ListN.{length}
use lib.Ieee.{binary64, fits, to_bits}
use lib.Ieee.Bits.{to_bits-lt}
use Rattle.numbers.specs.Ops.{order_key}
use Rattle.numbers.specs.TotalOrder as Total
use Rattle.numbers.proofs.float.Keys.{key_injective}
use Rattle.numbers.proofs.float.TotalOrder.{key_before, before_key}
use Rattle.numbers.specs.Order.{pick, before}
use Rattle.plane.specs.declared.geometry.Point.{Point}
use Rattle.network.specs.declared.words.Kind.{Kind}
use Rattle.network.specs.declared.words.Kind.TheVariants.{Undrawn, Open, Internal, Line}
use Rattle.network.specs.Words.{kind_at, station_of}
use Rattle.network.specs.Seed.{place_at}
use Rattle.stations.specs.Row.{has_row, row_key, row}
use Rattle.stations.proofs.rows.Orders.{place_order, before_told, before_tells}

-- ---- the rule's words, of a branch of this kind and a station s

-- a live branch inside it
abbrev pub Inside : List ℕ → ℕ → Kind → Type 0
Inside sub s c = (a : ℕ) × (b : ℕ) × (c ≡ Internal a b) × (station_of sub a ≡ s)

-- a live line with one end in it, the other in station t
abbrev pub LineEnd : List ℕ → ℕ → ℕ → Kind → Type 0
LineEnd sub s t c =
    (a : ℕ) × (b : ℕ) × (c ≡ Line a b) × (((station_of sub a ≡ s) × (station_of sub b ≡ t)) ⊎ ((station_of sub b ≡ s) × (station_of sub a ≡ t)))

abbrev pub HasRow : List ℕ → ℕ → Kind → Type 0
HasRow sub s c = Inside sub s c ⊎ ((t : ℕ) × LineEnd sub s t c)

-- the pattern of station t's seed y
abbrev pub seed_bits : List Point → ℕ → ℕ
seed_bits seeds t = to_bits binary64 (place_at seeds t).y

-- branch d of kind c stands before branch e of kind k
abbrev pub StandsBefore : List ℕ → List Point → ℕ → ℕ → Kind → ℕ → Kind → Type 0
StandsBefore sub seeds s d c e k =
    (Inside sub s c × Inside sub s k × (d < e))
    ⊎ ((Inside sub s c × ((u : ℕ) × LineEnd sub s u k))
    ⊎ ((t : ℕ) × (u : ℕ) × LineEnd sub s t c × LineEnd sub s u k × (T (Total.before (seed_bits seeds t) (seed_bits seeds u)) ⊎ ((seed_bits seeds t ≡ seed_bits seeds u) × (d < e)))))

-- ---- which branches have a row
module _ (sub : List ℕ) (s : ℕ) where
  one_of : (a b : ℕ) → eqb (station_of sub a) s || eqb (station_of sub b) s ≡ true → HasRow sub s (Line a b)
  one_of a b h = go (eqb (station_of sub a) s) refl (eqb (station_of sub b) s) refl h
    where
      go : (u : Bool) → eqb (station_of sub a) s ≡ u → (v : Bool) → eqb (station_of sub b) s ≡ v → u || v ≡ true → HasRow sub s (Line a b)
      go true e v f t = inr (station_of sub b, (a, b, refl, inl (eqb-true (station_of sub a) s e, refl)))
      go false e true f t = inr (station_of sub a, (a, b, refl, inr (eqb-true (station_of sub b) s f, refl)))
      go false e false f t = absurd (true≢false (sym t))

  pub has_row_lem : (c : Kind) → has_row sub s c ≡ true → HasRow sub s c
  unfolding has_row
  has_row_lem Undrawn h = absurd (true≢false (sym h))
  has_row_lem (Open a b) h = absurd (true≢false (sym h))
  has_row_lem (Internal a b) h = inl (a, b, refl, eqb-true (station_of sub a) s h)
  has_row_lem (Line a b) h = one_of a b h

  inside_has : (a b : ℕ) → station_of sub a ≡ s → has_row sub s (Internal a b) ≡ true
  unfolding has_row
  inside_has a b e = eq-eqb (station_of sub a) s e

  line_has : (a b : ℕ) → (station_of sub a ≡ s) ⊎ (station_of sub b ≡ s) → has_row sub s (Line a b) ≡ true
  unfolding has_row
  line_has a b (inl e) = ap (λ (u : Bool). u || eqb (station_of sub b) s) (eq-eqb (station_of sub a) s e)
  line_has a b (inr e) = ap (λ (u : Bool). eqb (station_of sub a) s || u) (eq-eqb (station_of sub b) s e) ∙ or-true (eqb (station_of sub a) s)
    where
      or-true : (u : Bool) → u || true ≡ true
      or-true true = refl
      or-true false = refl

  pub row_has : (c : Kind) → HasRow sub s c → has_row sub s c ≡ true
  row_has c (inl h) = ap (has_row sub s) h.2 ∙ inside_has h.0 h.1 h.3
  row_has c (inr h) = ap (has_row sub s) h.1.2 ∙ line_has h.1.0 h.1.1 (⊎_elim (λ k. inl k.0) (λ k. inr k.0) h.1.3)

-- ---- their order
module _ (sub : List ℕ) (seeds : List Point) (ks : List Kind) (F : (t : ℕ) → T (fits binary64 (place_at seeds t).y)) (s : ℕ) where
  inside_key : (c : Kind) → Inside sub s c → row_key sub seeds s c ≡ 0
  unfolding row_key
  inside_key c h = ap (row_key sub seeds s) h.2

  line_key : (c : Kind) (t : ℕ) → LineEnd sub s t c → row_key sub seeds s c ≡ suc (order_key (place_at seeds t).y)
  unfolding row_key
  line_key c t h = ap (row_key sub seeds s) h.2 ∙ ap (λ (x : ℕ). suc (order_key (place_at seeds x).y)) (other h.0 h.1 h.3)
    where
      other : (a b : ℕ) → ((station_of sub a ≡ s) × (station_of sub b ≡ t)) ⊎ ((station_of sub b ≡ s) × (station_of sub a ≡ t))
          → station_of sub (pick (eqb (station_of sub a) s) b a) ≡ t
      other a b (inl k) = ap (λ (u : Bool). station_of sub (pick u b a)) (eq-eqb (station_of sub a) s k.0) ∙ k.1
      other a b (inr k) = go (eqb (station_of sub a) s) refl
        where
          go : (u : Bool) → eqb (station_of sub a) s ≡ u → station_of sub (pick u b a) ≡ t
          go true e = k.0 ∙ sym (eqb-true (station_of sub a) s e) ∙ k.1
          go false e = k.1

  abbrev key : ℕ → ℕ
  key e = row_key sub seeds s (kind_at ks e)

  bits_below : (t : ℕ) → seed_bits seeds t < 2 ^ 64
  bits_below t = to_bits-lt binary64 (place_at seeds t).y (F t)

  module _ (d e : ℕ) where
    abbrev Stands : Type 0
    Stands = StandsBefore sub seeds s d (kind_at ks d) e (kind_at ks e)

    abbrev Keyed : Type 0
    Keyed = (key d < key e) ⊎ ((key d ≡ key e) × (ltb d e ≡ true))

    lines_told : (t u : ℕ) → LineEnd sub s t (kind_at ks d) → LineEnd sub s u (kind_at ks e) → Keyed
        → T (Total.before (seed_bits seeds t) (seed_bits seeds u)) ⊎ ((seed_bits seeds t ≡ seed_bits seeds u) × (d < e))
    lines_told t u h k (inl l) =
        inl (key_before (seed_bits seeds t) (seed_bits seeds u) (bits_below t) (bits_below u)
        (omega (arith, line_key (kind_at ks d) t h, line_key (kind_at ks e) u k)))
    lines_told t u h k (inr l) =
        inr (
          key_injective (seed_bits seeds t) (seed_bits seeds u) (bits_below t) (bits_below u)
              (omega (arith, line_key (kind_at ks d) t h, line_key (kind_at ks e) u k, l.0)),
          ltb-true d e l.1,
        )

    told : HasRow sub s (kind_at ks d) → HasRow sub s (kind_at ks e) → Keyed → Stands
    told (inl h) (inl k) (inl l) = absurd (omega (arith, inside_key (kind_at ks d) h, inside_key (kind_at ks e) k))
    told (inl h) (inl k) (inr l) = inl (h, k, ltb-true d e l.1)
    told (inl h) (inr k) l = inr (inl (h, k))
    told (inr h) (inl k) (inl l) = absurd (omega (arith, inside_key (kind_at ks e) k))
    told (inr h) (inl k) (inr l) = absurd (omega (arith, line_key (kind_at ks d) h.0 h.1, inside_key (kind_at ks e) k, l.0))
    told (inr h) (inr k) l =
        inr (inr (h.0, k.0, h.1, k.1, lines_told h.0 k.0 h.1 k.1 l))

    tells : Stands → Keyed
    tells (inl h) = inr (inside_key (kind_at ks d) h.0 ∙ sym (inside_key (kind_at ks e) h.1), lt-ltb d e h.2)
    tells (inr (inl h)) =
        inl (omega (arith, inside_key (kind_at ks d) h.0, line_key (kind_at ks e) h.1.0 h.1.1))
    tells (inr (inr h)) = ⊎_elim
        (λ (b : T (Total.before (seed_bits seeds h.0) (seed_bits seeds h.1))).
        inl (omega (arith, line_key (kind_at ks d) h.0 h.2, line_key (kind_at ks e) h.1 h.3, before_key (seed_bits seeds h.0) (seed_bits seeds h.1) (bits_below h.0) (bits_below h.1) b)))
        (λ (b : (seed_bits seeds h.0 ≡ seed_bits seeds h.1) × (d < e)).
        inr (line_key (kind_at ks d) h.0 h.2 ∙ ap (λ (n : ℕ). suc (Rattle.numbers.specs.Key.key_of n)) b.0 ∙ sym (line_key (kind_at ks e) h.1 h.3), lt-ltb d e b.1))
        h.4

    pub rows_order : d < length ks → HasRow sub s (kind_at ks d) → e < length ks → HasRow sub s (kind_at ks e)
        → (row sub seeds ks s d < row sub seeds ks s e → Stands) × (Stands → row sub seeds ks s d < row sub seeds ks s e)
    unfolding row
    rows_order h p k q =
        let o = place_order key (λ i. has_row sub s (kind_at ks i)) (length ks) d e h (row_has sub s (kind_at ks d) p) k (row_has sub s (kind_at ks e) q) in
        (λ l. told p q (before_told key ltb d e (o.0 l)), λ z. o.1 (before_tells key ltb d e (tells z)))
