-- A bus's first and last row: the least and the greatest number of the rows that its branches have. Assumes nothing.
use mathlib.Core.Path.{◌≡◌, refl, sym, ap, subst, ◌∙◌}
use mathlib.Core.Logic.{◌⊎◌, inl, inr, ⊎_elim}
use mathlib.Core.Bool.{Bool, true, false}
use mathlib.Core.List.{List}
use Prim.Native.Nat.{ℕ, zero, suc, ◌≤◌, ◌<◌, min, max}
use native.Mathlib.Omega.{arith}
use native.Mathlib.Nat.{not-suc-le-zero, eq-or-lt_of_le, le_of_suc-le-suc, min-eq_left, min-eq_right, max-eq_left, max-eq_right, min-le_left, min-le_right, le-max_left, le-max_right, le_trans}
use borrow.Author.Tests.{eqb-true, eqb-false}
use lib.Dec.{eqb}
use lib.ListN.{length, get_or}
use Rattle.numbers.specs.Order.{pick}
use Rattle.numbers.proofs.order.Merging.{le_or_lt}
use Rattle.numbers.proofs.order.Tables.{get_d_table}
use Rattle.plane.specs.declared.geometry.Point.{Point}
use Rattle.network.specs.declared.words.Kind.{Kind}
use Rattle.network.specs.declared.words.Kind.TheVariants.{Undrawn, Open, Internal, Line}
use Rattle.network.specs.Words.{kind_at, station_of}
use Rattle.stations.specs.Row.{row, from_row, to_row, from_rows, to_rows}
use Rattle.stations.specs.Bar.{Span, bare, rows, include, include_end, include_branch, span_to}

-- ---- branches with rows: internal ones and lines

-- a live branch from bus a to bus b
abbrev pub Live : Kind → ℕ → ℕ → Type 0
Live c a b = (c ≡ Internal a b) ⊎ (c ≡ Line a b)

undrawn_not : (a b : ℕ) → Live Undrawn a b → ⊥
undrawn_not a b (inl e) = let z : ◌≡◌ {A = ℕ} 0 1 = cc in omega arith
undrawn_not a b (inr e) = let z : ◌≡◌ {A = ℕ} 0 1 = cc in omega arith

open_not : (x y a b : ℕ) → Live (Open x y) a b → ⊥
open_not x y a b (inl e) = let z : ◌≡◌ {A = ℕ} 0 1 = cc in omega arith
open_not x y a b (inr e) = let z : ◌≡◌ {A = ℕ} 0 1 = cc in omega arith

internal_one : (x y a b : ℕ) → Live (Internal x y) a b → (a ≡ x) × (b ≡ y)
internal_one x y a b (inl e) = (cc, cc)
internal_one x y a b (inr e) = absurd (let z : ◌≡◌ {A = ℕ} 0 1 = cc in omega arith)

line_one : (x y a b : ℕ) → Live (Line x y) a b → (a ≡ x) × (b ≡ y)
line_one x y a b (inl e) = absurd (let z : ◌≡◌ {A = ℕ} 0 1 = cc in omega arith)
line_one x y a b (inr e) = (cc, cc)

-- ---- spans of the rows r that the first n branches e have, Q e r

module _ (Q : ℕ → ℕ → Type 0) where
  abbrev pub Some : ℕ → ℕ → Type 0
  Some n r = (e : ℕ) × (e < n) × Q e r

  -- no row, or the least and the greatest
  abbrev pub SpanIs : ℕ → Span → Type 0
  SpanIs n bare = (e r : ℕ) → e < n → Q e r → ⊥
  SpanIs n (rows a b) = Some n a × Some n b × ((e r : ℕ) → e < n → Q e r → (a ≤ r) × (r ≤ b))

  later : (n r : ℕ) → Some n r → Some (suc n) r
  later n r (e, h, q) = (e, omega arith, q)

  last : (n e : ℕ) → e < suc n → (e ≡ n) ⊎ (e < n)
  last n e h = eq-or-lt_of_le (le_of_suc-le-suc h)

  span_none : SpanIs 0 bare
  span_none e r h q = not-suc-le-zero h

  span_same : (n : ℕ) (s : Span) → SpanIs n s → ((r : ℕ) → Q n r → ⊥) → SpanIs (suc n) s
  span_same n bare h k = λ e r l q. ⊎_elim (λ (z : e ≡ n). k r (subst (λ (x : ℕ). Q x r) z q)) (λ (z : e < n). h e r z q) (last n e l)
  span_same n (rows a b) h k =
      (later n a h.0, later n b h.1, λ e r l q. ⊎_elim (λ (z : e ≡ n). absurd (k r (subst (λ (x : ℕ). Q x r) z q))) (λ (z : e < n). h.2 e r z q) (last n e l))

  span_more : (n : ℕ) (s : Span) (r : ℕ) → SpanIs n s → Q n r → ((x : ℕ) → Q n x → x ≡ r) → SpanIs (suc n) (include r s)
  unfolding include
  span_more n bare r h q one =
      let own : Some (suc n) r = (n, omega arith, q) in (
        own,
        own,
        λ e x l p. ⊎_elim
            (λ (z : e ≡ n). let w : x ≡ r = one x (subst (λ (y : ℕ). Q y x) z p) in (omega arith, omega arith))
            (λ (z : e < n). absurd (h e x z p))
            (last n e l),
      )
  span_more n (rows a b) r h q one =
      let own : Some (suc n) r = (n, omega arith, q) in (
        least (le_or_lt a r) own,
        greatest (le_or_lt b r) own,
        λ e x l p. ⊎_elim
            (λ (z : e ≡ n). inside x (inl (one x (subst (λ (y : ℕ). Q y x) z p))))
            (λ (z : e < n). inside x (inr (h.2 e x z p)))
            (last n e l),
      )
    where
      least : (a ≤ r) ⊎ (r < a) → Some (suc n) r → Some (suc n) (min a r)
      least (inl l) own = subst (Some (suc n)) (sym (min-eq_left l)) (later n a h.0)
      least (inr l) own = let m : r ≤ a = omega arith in subst (Some (suc n)) (sym (min-eq_right m)) own

      greatest : (b ≤ r) ⊎ (r < b) → Some (suc n) r → Some (suc n) (max b r)
      greatest (inl l) own = subst (Some (suc n)) (sym (max-eq_right l)) own
      greatest (inr l) own = let m : r ≤ b = omega arith in subst (Some (suc n)) (sym (max-eq_left m)) (later n b h.1)

      inside : (x : ℕ) → (x ≡ r) ⊎ ((a ≤ x) × (x ≤ b)) → (min a r ≤ x) × (x ≤ max b r)
      inside x (inl w) = (subst (λ (y : ℕ). min a r ≤ y) (sym w) (min-le_right a r), subst (λ (y : ℕ). y ≤ max b r) (sym w) (le-max_right b r))
      inside x (inr w) = (le_trans (min-le_left a r) w.0, le_trans w.1 (le-max_left b r))

-- ---- the rows of bus i
module _ (sub : List ℕ) (seeds : List Point) (ks : List Kind) (i : ℕ) where
  -- a live branch of bus i, internal or a line, has row r in the bus's station
  abbrev pub RowAt : ℕ → ℕ → Type 0
  RowAt e r =
      (a : ℕ) × (b : ℕ) × Live (kind_at ks e) a b × ((a ≡ i) ⊎ (b ≡ i)) × (r ≡ row sub seeds ks (station_of sub i) e)

  abbrev from : List ℕ
  from = from_rows sub seeds ks

  abbrev to : List ℕ
  to = to_rows sub seeds ks

  -- what includes branch e's row: its kind, and the rows of its ends
  module _ (n : ℕ) (h : n < length ks) (s : Span) (S : SpanIs RowAt n s) where
    from_is : get_or from n 0 ≡ from_row sub seeds ks n (kind_at ks n)
    unfolding from_rows
    from_is = get_d_table _ (length ks) n 0 h

    to_is : get_or to n 0 ≡ to_row sub seeds ks n (kind_at ks n)
    unfolding to_rows
    to_is = get_d_table _ (length ks) n 0 h

    -- a branch that has no row leaves the span as it is
    rowless : (c : Kind) → kind_at ks n ≡ c → ((a b : ℕ) → Live c a b → ⊥) → SpanIs RowAt (suc n) s
    rowless c e f = span_same RowAt n s S (λ r q. f q.0 q.1 (subst (λ (k : Kind). Live k q.0 q.1) e q.2))

    ended : (a b : ℕ) (c : Kind) → kind_at ks n ≡ c → Live c a b → ((x y : ℕ) → Live c x y → (x ≡ a) × (y ≡ b))
        → get_or from n 0 ≡ row sub seeds ks (station_of sub a) n → get_or to n 0 ≡ row sub seeds ks (station_of sub b) n
        → SpanIs RowAt (suc n) (include_end i a b (get_or from n 0) (get_or to n 0) s)
    unfolding include_end
    ended a b c e k one f t = go (eqb a i) refl (eqb b i) refl
      where
        own : Live (kind_at ks n) a b
        own = subst (λ (x : Kind). Live x a b) (sym e) k

        at : (j : ℕ) (r : ℕ) → j ≡ i → (a ≡ i) ⊎ (b ≡ i) → r ≡ row sub seeds ks (station_of sub j) n → SpanIs RowAt (suc n) (include r s)
        at j r z w g =
            let q : r ≡ row sub seeds ks (station_of sub i) n = g ∙ ap (λ (x : ℕ). row sub seeds ks (station_of sub x) n) z in
            span_more RowAt n s r S (a, b, own, w, q) (λ x p. p.4 ∙ sym q)

        go : (u : Bool) → eqb a i ≡ u → (v : Bool) → eqb b i ≡ v → SpanIs RowAt (suc n) (pick u (include (get_or from n 0) s) (pick v (include (get_or to n 0) s) s))
        go true p v q = let z : a ≡ i = eqb-true a i p in at a (get_or from n 0) z (inl z) f
        go false p true q = let z : b ≡ i = eqb-true b i q in at b (get_or to n 0) z (inr z) t
        go false p false q = span_same RowAt n s S (λ r w.
            let z = one w.0 w.1 (subst (λ (x : Kind). Live x w.0 w.1) e w.2) in
            ⊎_elim (λ (x : w.0 ≡ i). eqb-false a i p (sym z.0 ∙ x)) (λ (x : w.1 ≡ i). eqb-false b i q (sym z.1 ∙ x)) w.3)

    by_kind : (c : Kind) → kind_at ks n ≡ c → SpanIs RowAt (suc n) (include_branch i (get_or from n 0) (get_or to n 0) c s)
    unfolding include_branch
    by_kind Undrawn e = rowless Undrawn e undrawn_not
    by_kind (Open x y) e = rowless (Open x y) e (open_not x y)
    by_kind (Internal x y) e = ended x y (Internal x y) e (inl refl) (internal_one x y) (from_is ∙ unfold from_row in ap (from_row sub seeds ks n) e) (to_is ∙ unfold to_row in ap (to_row sub seeds ks n) e)
    by_kind (Line x y) e = ended x y (Line x y) e (inr refl) (line_one x y) (from_is ∙ unfold from_row in ap (from_row sub seeds ks n) e) (to_is ∙ unfold to_row in ap (to_row sub seeds ks n) e)

  span_to_lem : (n : ℕ) → n ≤ length ks → SpanIs RowAt n (span_to ks from to i n)
  unfolding span_to
  span_to_lem zero h = span_none RowAt
  span_to_lem (suc n) h =
      let l : n < length ks = h in
      let m : n ≤ length ks = omega arith in
      by_kind n l (span_to ks from to i n) (span_to_lem n m) (kind_at ks n) refl

  -- all rows of a bus
  pub span_law : SpanIs RowAt (length ks) (span_to ks (from_rows sub seeds ks) (to_rows sub seeds ks) i (length ks))
  span_law = let m : length ks ≤ length ks = omega arith in span_to_lem (length ks) m
