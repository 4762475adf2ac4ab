-- Stations are placed by top `kv` falling, bus count falling, number. Assumes nothing.
--     bus_occupied, occupied_bus     a station is occupied exactly if a bus carries its number
--     tops, top_is                   its top `kv`, by IEEE 754's totalOrder of the patterns
--     order_law                      of two turns the earlier is that of the station that these words place first
use mathlib.Core.Path.{◌≡◌, refl, sym, ap, subst, ◌∙◌}
use mathlib.Core.Logic.{◌⊎◌, inl, inr, ⊎_elim}
use mathlib.Core.Bool.{Bool, true, false, not}
use mathlib.Core.List.{List}
use Prim.Native.Nat.{ℕ, zero, suc, ◌≤◌, ◌<◌, ◌^◌, max}
use native.Mathlib.Omega.{arith}
use native.Mathlib.Nat.{not-suc-le-zero, zero-add, eq-or-lt_of_le, le_of_suc-le-suc, max-eq_left, max-eq_right}
use borrow.Author.Tests.{lt-ltb, ltb-true, le-leb, eq-eqb, eqb-true}
use lib.Dec.{T, eqb, ltb}
use lib.ListN.{length, get_or}
use Rattle.numbers.specs.Key.{key_of}
use Rattle.numbers.specs.TotalOrder as Total
use Rattle.numbers.proofs.float.TotalOrder.{total_order_lem, key_before}
use Rattle.numbers.specs.Order.{pick, up_from, before}
use Rattle.numbers.proofs.order.Merging.{le_or_lt}
use Rattle.numbers.proofs.order.Laws.{count_at, occurs, length_up, get_d_up}
use Rattle.numbers.proofs.order.Tables.{get_d_table, how_many_le}
use Rattle.network.specs.Words.{station_of, station_count, buses_in, bus_counts, is_occupied}
use Rattle.network.proofs.Stations.{station_below}
use Rattle.stations.specs.Column.{voltage, falling}
use Rattle.stations.proofs.rows.Orders.{chain_order, before_told, before_tells}
use Rattle.stations.proofs.columns.Falls.{falls, falls_same, voltage_falls, voltage_same}
use Rattle.placement.specs.Turns.{top_to, placement_order}
use Rattle.placement.proofs.turns.Queue.{order_chain}

-- ---- the order in words

-- a bus carries the number s
abbrev pub HasBus : List ℕ → ℕ → Type 0
HasBus sub s = (i : ℕ) × (i < length sub) × (station_of sub i ≡ s)

-- v is the top `kv` of station s: that of one of its buses, and before none of theirs in totalOrder
abbrev pub Top : List ℕ → List ℕ → ℕ → ℕ → Type 0
Top sub kv s v =
    (i : ℕ) × (i < length sub) × (station_of sub i ≡ s) × (get_or kv i 0 ≡ v) × ((j : ℕ) → j < length sub → station_of sub j ≡ s → Total.before v (get_or kv j 0) ≡ false)

-- station s of top `kv` v is placed before station t of top `kv` w
abbrev pub PlacedBefore : List ℕ → ℕ → ℕ → ℕ → ℕ → Type 0
PlacedBefore sub s v t w =
    T (Total.before w v) ⊎ ((v ≡ w) × ((buses_in sub t < buses_in sub s) ⊎ ((buses_in sub s ≡ buses_in sub t) × (s < t))))

-- ---- occupied stations
module _ (sub : List ℕ) where
  count_is : (s : ℕ) → s < station_count sub → get_or (bus_counts sub) s 0 ≡ buses_in sub s
  unfolding bus_counts
  count_is s h = get_d_table (buses_in sub) (station_count sub) s 0 h

  bus_counted : (s : ℕ) → HasBus sub s → 0 < buses_in sub s
  unfolding buses_in
  bus_counted s (i, h, e) =
      let u : get_or (up_from 0 (length sub)) i 0 ≡ i = get_d_up 0 (length sub) i h ∙ zero-add i in
      count_at (λ j. eqb (station_of sub j) s) (up_from 0 (length sub)) i (rw (length_up 0 (length sub)) h)
      (ap (λ (j : ℕ). eqb (station_of sub j) s) u ∙ eq-eqb (station_of sub i) s e)

  bus_below : (s : ℕ) → HasBus sub s → s < station_count sub
  bus_below s (i, h, e) = subst (λ (n : ℕ). n < station_count sub) e (station_below sub i h)

  pub bus_occupied : (s : ℕ) → HasBus sub s → is_occupied (bus_counts sub) s ≡ true
  bus_occupied s h =
      let p : 0 < get_or (bus_counts sub) s 0 = subst (λ (n : ℕ). 0 < n) (sym (count_is s (bus_below s h))) (bus_counted s h) in
      lt-ltb 0 (get_or (bus_counts sub) s 0) p

  pub occupied_bus : (s : ℕ) → s < station_count sub → is_occupied (bus_counts sub) s ≡ true → HasBus sub s
  unfolding buses_in
  occupied_bus s h o =
      let p : 0 < buses_in sub s = subst (λ (n : ℕ). 0 < n) (count_is s h) (ltb-true 0 (get_or (bus_counts sub) s 0) o) in
      let q = occurs (λ j. eqb (station_of sub j) s) (up_from 0 (length sub)) p in
      let l : q.0 < length sub = subst (λ (n : ℕ). q.0 < n) (length_up 0 (length sub)) q.1 in
      let u : get_or (up_from 0 (length sub)) q.0 0 ≡ q.0 = get_d_up 0 (length sub) q.0 l ∙ zero-add q.0 in
      (q.0, l, sym (ap (station_of sub) u) ∙ eqb-true (station_of sub (get_or (up_from 0 (length sub)) q.0 0)) s q.2)

-- ---- top voltages
module _ (sub kv : List ℕ) (s : ℕ) where
  above_top : (n j : ℕ) → j < n → station_of sub j ≡ s → voltage kv j ≤ top_to sub kv s n
  unfolding top_to
  above_top zero j h e = absurd (not-suc-le-zero h)
  above_top (suc n) j h e = ⊎_elim
      (λ (q : j ≡ n). own q)
      (λ (q : j < n). more (above_top n j q e) (eqb (station_of sub n) s))
      (eq-or-lt_of_le (le_of_suc-le-suc h))
    where
      own : j ≡ n → voltage kv j ≤ pick (eqb (station_of sub n) s) (max (top_to sub kv s n) (voltage kv n)) (top_to sub kv s n)
      own q =
          let t : eqb (station_of sub n) s ≡ true = eq-eqb (station_of sub n) s (ap (station_of sub) (sym q) ∙ e) in
          let m : voltage kv j ≡ voltage kv n = ap (voltage kv) q in
          subst (λ (b : Bool). voltage kv j ≤ pick b (max (top_to sub kv s n) (voltage kv n)) (top_to sub kv s n)) (sym t) (omega arith)

      more : voltage kv j ≤ top_to sub kv s n → (b : Bool) → voltage kv j ≤ pick b (max (top_to sub kv s n) (voltage kv n)) (top_to sub kv s n)
      more l true = omega arith
      more l false = l

  -- one of its buses among the first n has it
  abbrev Reached : ℕ → Type 0
  Reached n = (j : ℕ) × (j < n) × (station_of sub j ≡ s) × (top_to sub kv s n ≡ voltage kv j)

  reached_or_0 : (n : ℕ) → (top_to sub kv s n ≡ 0) ⊎ Reached n
  unfolding top_to
  reached_or_0 zero = inl refl
  reached_or_0 (suc n) = go (eqb (station_of sub n) s) refl (reached_or_0 n)
    where
      go : (b : Bool) → eqb (station_of sub n) s ≡ b → (top_to sub kv s n ≡ 0) ⊎ Reached n
          → (pick b (max (top_to sub kv s n) (voltage kv n)) (top_to sub kv s n) ≡ 0)
          ⊎ ((j : ℕ) × (j < suc n) × (station_of sub j ≡ s) × (pick b (max (top_to sub kv s n) (voltage kv n)) (top_to sub kv s n) ≡ voltage kv j))
      go false t (inl z) = inl z
      go false t (inr r) = inr (r.0, omega (arith, r.1), r.2, r.3)
      go true t old = ⊎_elim
          (λ (l : top_to sub kv s n ≤ voltage kv n). inr (n, omega arith, eqb-true (station_of sub n) s t, max-eq_right l))
          (λ (l : voltage kv n < top_to sub kv s n). kept l old)
          (le_or_lt (top_to sub kv s n) (voltage kv n))
        where
          kept : voltage kv n < top_to sub kv s n → (top_to sub kv s n ≡ 0) ⊎ Reached n
              → (max (top_to sub kv s n) (voltage kv n) ≡ 0) ⊎ ((j : ℕ) × (j < suc n) × (station_of sub j ≡ s) × (max (top_to sub kv s n) (voltage kv n) ≡ voltage kv j))
          kept l (inl z) = absurd (omega arith)
          kept l (inr r) = let m : voltage kv n ≤ top_to sub kv s n = omega arith in inr (r.0, omega (arith, r.1), r.2, max-eq_left m ∙ r.3)

  reached : HasBus sub s → Reached (length sub)
  reached (i, h, e) = ⊎_elim
      (λ (z : top_to sub kv s (length sub) ≡ 0). (i, h, e, omega (arith, above_top (length sub) i h e)))
      (λ (r : Reached (length sub)). r)
      (reached_or_0 (length sub))

  module _ (P : (j : ℕ) → get_or kv j 0 < 2 ^ 64) where
    not_before : (i j : ℕ) → voltage kv j ≤ voltage kv i → Total.before (get_or kv i 0) (get_or kv j 0) ≡ false
    unfolding Total.before
    not_before i j l = ap not (total_order_lem (get_or kv j 0) (get_or kv i 0) (P j) (P i) ∙ le-leb (voltage kv j) (voltage kv i) l)

    pub tops : HasBus sub s → (v : ℕ) × Top sub kv s v
    tops b =
        let r = reached b in
        (get_or kv r.0 0, (r.0, r.1, r.2, refl, λ j h e. not_before r.0 j (omega (arith, r.3, above_top (length sub) j h e))))

    pub top_is : (v : ℕ) → Top sub kv s v → top_to sub kv s (length sub) ≡ key_of v
    top_is v t =
        let r = reached (t.0, t.1, t.2) in
        let up : voltage kv t.0 ≤ top_to sub kv s (length sub) = above_top (length sub) t.0 t.1 t.2 in
        let own : voltage kv t.0 ≡ key_of v = ap key_of t.3 in
        ⊎_elim
        (λ (l : top_to sub kv s (length sub) ≤ key_of v). omega arith)
        (λ (l : key_of v < top_to sub kv s (length sub)).
        let w : v < 2 ^ 64 = subst (λ (n : ℕ). n < 2 ^ 64) t.3 (P t.0) in
        let m : key_of v < voltage kv r.0 = omega (arith, r.3) in
        absurd (subst T (t.4 r.0 r.1 r.2) (key_before v (get_or kv r.0 0) w (P r.0) m)))
        (le_or_lt (top_to sub kv s (length sub)) (key_of v))

-- ---- the order
module _ (sub kv : List ℕ) (P : (j : ℕ) → get_or kv j 0 < 2 ^ 64) (few : length sub < 2 ^ 64) where
  abbrev top_key : ℕ → ℕ
  top_key s = falling (top_to sub kv s (length sub))

  abbrev count_key : ℕ → ℕ
  count_key s = falling (get_or (bus_counts sub) s 0)

  abbrev order : List ℕ
  order = placement_order sub kv (bus_counts sub)

  module _ (s v t w : ℕ) (S : Top sub kv s v) (U : Top sub kv t w) where
    small : (x : ℕ) → buses_in sub x < 2 ^ 64
    unfolding buses_in
    small x = omega (arith, how_many_le (λ i. eqb (station_of sub i) x) (length sub))

    v_small : v < 2 ^ 64
    v_small = subst (λ (n : ℕ). n < 2 ^ 64) S.3 (P S.0)

    w_small : w < 2 ^ 64
    w_small = subst (λ (n : ℕ). n < 2 ^ 64) U.3 (P U.0)

    s_top : top_key s ≡ falling (key_of v)
    s_top = ap falling (top_is sub kv s P v S)

    t_top : top_key t ≡ falling (key_of w)
    t_top = ap falling (top_is sub kv t P w U)

    s_count : count_key s ≡ falling (buses_in sub s)
    s_count = ap falling (count_is sub s (bus_below sub s (S.0, S.1, S.2)))

    t_count : count_key t ≡ falling (buses_in sub t)
    t_count = ap falling (count_is sub t (bus_below sub t (U.0, U.1, U.2)))

    counts_told : (count_key s < count_key t) ⊎ ((count_key s ≡ count_key t) × (ltb s t ≡ true))
        → (buses_in sub t < buses_in sub s) ⊎ ((buses_in sub s ≡ buses_in sub t) × (s < t))
    counts_told (inl l) = inl ((falls (buses_in sub s) (buses_in sub t) (small s) (small t)).0 (omega (arith, s_count, t_count)))
    counts_told (inr l) = inr (falls_same (buses_in sub s) (buses_in sub t) (small s) (small t) (sym s_count ∙ l.0 ∙ t_count), ltb-true s t l.1)

    told : before top_key (before count_key ltb) s t ≡ true → PlacedBefore sub s v t w
    told h = ⊎_elim
        (λ (l : top_key s < top_key t). inl ((voltage_falls v w v_small w_small).0 (omega (arith, s_top, t_top))))
        (λ (l : (top_key s ≡ top_key t) × (before count_key ltb s t ≡ true)).
        inr (voltage_same v w v_small w_small (sym s_top ∙ l.0 ∙ t_top), counts_told (before_told count_key ltb s t l.1)))
        (before_told top_key (before count_key ltb) s t h)

    counts_tell : (buses_in sub t < buses_in sub s) ⊎ ((buses_in sub s ≡ buses_in sub t) × (s < t)) → before count_key ltb s t ≡ true
    counts_tell (inl l) =
        let f : falling (buses_in sub s) < falling (buses_in sub t) = (falls (buses_in sub s) (buses_in sub t) (small s) (small t)).1 l in
        before_tells count_key ltb s t (inl (omega (arith, s_count, t_count)))
    counts_tell (inr l) = before_tells count_key ltb s t (inr (s_count ∙ ap falling l.0 ∙ sym t_count, lt-ltb s t l.1))

    tells : PlacedBefore sub s v t w → before top_key (before count_key ltb) s t ≡ true
    tells (inl h) =
        let f : falling (key_of v) < falling (key_of w) = (voltage_falls v w v_small w_small).1 h in
        before_tells top_key (before count_key ltb) s t (inl (omega (arith, s_top, t_top)))
    tells (inr h) =
        before_tells top_key (before count_key ltb) s t (inr (s_top ∙ ap (λ (x : ℕ). falling (key_of x)) h.0 ∙ sym t_top, counts_tell h.1))

  pub order_law : (i j : ℕ) → i < length (placement_order sub kv (bus_counts sub)) → j < length (placement_order sub kv (bus_counts sub)) → (v w : ℕ)
      → Top sub kv (get_or (placement_order sub kv (bus_counts sub)) i 0) v → Top sub kv (get_or (placement_order sub kv (bus_counts sub)) j 0) w
      → (i < j → PlacedBefore sub (get_or (placement_order sub kv (bus_counts sub)) i 0) v (get_or (placement_order sub kv (bus_counts sub)) j 0) w)
      × (PlacedBefore sub (get_or (placement_order sub kv (bus_counts sub)) i 0) v (get_or (placement_order sub kv (bus_counts sub)) j 0) w → i < j)
  order_law i j h k v w S U =
      let c = chain_order (before top_key (before count_key ltb)) order (order_chain sub kv (bus_counts sub)) i j h k in
      (λ l. told (get_or order i 0) v (get_or order j 0) w S U (c.0 l), λ z. c.1 (tells (get_or order i 0) v (get_or order j 0) w S U z))
