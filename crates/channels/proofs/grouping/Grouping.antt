-- The loops that group crossings by channel, and that each channel's crossings stand together. Assumes nothing.
use mathlib.Core.Path.{◌≡◌, refl, sym, ap, ◌∙◌, subst}
use mathlib.Core.Logic.{⊎_elim}
use mathlib.Core.Bool.{Bool, true, false}
use mathlib.Core.List.{List, [], ◌∷◌, ◌++◌}
use Prim.Native.Nat.{ℕ, zero, suc, ◌+◌, ◌-◌, ◌*◌, ◌≤◌, ◌<◌, zero-le}
use native.Mathlib.Omega.{arith}
use native.Mathlib.Numerals.{add-one}
use lib.Dec.{eqb, ltb}
use lib.ListN.{length, get_or, take, drop, set, length-set, length-drop, drop_of_length-le}
use lib.Seq.{drop-cons, take-suc, take_all, length-take-le, get_or-take, get_or-drop, get_or-set_same, get_or-set_other}
use borrow.Author.Tests.{eq-eqb, ne_eqb}
use Rattle.numbers.specs.Order.{key_at, keep}
use Rattle.numbers.specs.Table.{table, which, strided}
use Rattle.numbers.proofs.order.Laws.{keep_yes, keep_no}
use Rattle.numbers.proofs.order.Merging.{le_or_lt}
use Rattle.numbers.proofs.order.Tables.{how_many_le, table_ext}
use Rattle.numbers.proofs.order.Strides.{is_table, strided_zero, strided_push, strided_other, strided_past, get_d_strided, length_strided}
use Rattle.channels.specs.Round.{round_of, first_at, around}
use Rattle.channels.proofs.half_edges.Rounds.{length_round, vertex_at, round_rises, first_is, before_first, from_first, around_first}
use Rattle.channels.specs.Stages.Grouped.{start_in, member_in, Copied, Started, Grouped}

-- ---- the order copied beside the crossings

pub record Copying (order before now : List ℕ) (j : ℕ) : Type 0 where
  pub upto : j ≤ length order
  pub long : length now ≡ length before
  pub third : strided 3 2 0 j now ≡ take j order
  pub sides : (o : ℕ) → o < 2 → (k : ℕ) → strided 3 o 0 k now ≡ strided 3 o 0 k before

module _ (order before : List ℕ) where
  pub copy_start : Copying order before before 0
  copy_start = record { upto = zero-le; long = refl; third = strided_zero 3 2 0 before; sides = λ o h k. refl }

  pub copy_step : (now : List ℕ) (j v : ℕ) → j < length order → 3 * length order ≤ length before → v ≡ get_or order j 0 → Copying order before now j
      → Copying order before (set now (3 * j + 2) v) (j + 1)
  copy_step now j v h room e r =
      record {
        upto = omega arith;
        long = length-set now (3 * j + 2) v ∙ r.long;
        third =
            ap (λ (n : ℕ). strided 3 2 0 n (set now (3 * j + 2) v)) (add-one j)
            ∙ strided_push 3 2 0 j now v (omega arith) (omega (arith, r.long))
            ∙ ap (λ (l : List ℕ). l ++ (v ∷ [])) r.third
            ∙ ap (λ (t : ℕ). take j order ++ (t ∷ [])) e
            ∙ sym (take-suc order j 0 h)
            ∙ ap (λ (n : ℕ). take n order) (sym (add-one j));
        sides = λ o l k. strided_other 3 o 0 2 k j now v (omega arith) (omega arith) (λ q. omega arith) ∙ r.sides o l k;
      }

  pub copy_end : (now : List ℕ) (j : ℕ) → length order ≤ j → Copying order before now j → Copied order before now
  copy_end now j h r =
      let e : j ≡ length order = omega (arith, r.upto) in
      record {
        third = ap (λ (n : ℕ). strided 3 2 0 n now) (sym e) ∙ r.third ∙ take_all j order h;
        sides = r.sides;
      }

-- ---- where each channel's crossings begin

pub round_long : (keys order : List ℕ) → order ≡ round_of keys → length order ≡ length keys
round_long keys order q = ap length q ∙ length_round keys

-- none begins past the crossings
pub start_within : (keys order : List ℕ) → order ≡ round_of keys → (c : ℕ) → first_at keys c ≤ length order
unfolding first_at
start_within keys order q c = omega (arith, how_many_le (λ h. ltb (get_or keys h 0) c) (length keys), round_long keys order q)

-- a channel's crossings begin where all before are of lower ones and the next isn't, or nowhere
module _ (keys order : List ℕ) (q : order ≡ round_of keys) (c j : ℕ) where
  pub found_here : (k : ℕ) → k ≡ key_at keys (get_or order j 0) → j < length order → c ≤ k → ((i : ℕ) → i < j → vertex_at keys i < c) → j ≡ first_at keys c
  found_here k e l g h =
      let here : k ≡ vertex_at keys j = e ∙ ap (λ (s : List ℕ). key_at keys (get_or s j 0)) q in
      first_is keys c j (omega (arith, round_long keys order q)) h (λ i b u. omega (arith, round_rises keys j i b u, here))

  pub found_none : length order ≤ j → ((i : ℕ) → i < j → vertex_at keys i < c) → length order ≡ first_at keys c
  found_none l h =
      first_is keys c (length order) (omega (arith, round_long keys order q)) (λ i b. h i (omega arith)) (λ i b u. absurd (omega (arith, round_long keys order q)))

module _ (m : ℕ) (keys before : List ℕ) where
  pub start_none : Started m 0 keys before before
  start_none = record { starts = λ c h. absurd (omega arith); rows = λ o h j. refl; counts = refl }

  pub start_done : (now : List ℕ) (c k : ℕ) → c ≡ k → Started m c keys before now → Started m k keys before now
  start_done now c k e r = subst (λ (t : ℕ). Started m t keys before now) e r

  -- channel c's start is put behind those before it
  module _ (now : List ℕ) (c j : ℕ) (room : 4 * (m + c) + 4 ≤ length now) (q : j ≡ first_at keys c) (r : Started m c keys before now) where
    abbrev next : List ℕ
    next = set now (4 * (m + c) + 3) j

    here : start_in m next c ≡ j
    unfolding start_in
    here = get_or-set_same now (4 * (m + c) + 3) j 0 (omega arith)

    others : (d : ℕ) → d < c → start_in m next d ≡ start_in m now d
    unfolding start_in
    others d g = get_or-set_other now (4 * (m + c) + 3) (4 * (m + d) + 3) j 0 (λ e. omega arith)

    pub start_put : Started m (c + 1) keys before next
    start_put =
        record {
          starts =
              λ d g. ⊎_elim
              (λ (l : c ≤ d). let e : d ≡ c = omega arith in subst (λ (t : ℕ). start_in m next t ≡ first_at keys t) (sym e) (here ∙ q))
              (λ (l : d < c). others d l ∙ r.starts d l)
              (le_or_lt c d);
          rows = λ o g k. strided_other 4 o 0 3 k (m + c) now j (omega arith) (omega arith) (λ q. omega arith) ∙ r.rows o g k;
          counts = strided_past 4 3 0 3 m (m + c) now j (omega arith) (omega arith) (omega arith) ∙ r.counts;
        }

-- ---- a channel's part

-- where none from a on passes, none is kept
keep_none : (p : ℕ → Bool) (l : List ℕ) (n a : ℕ) → length l ≤ a + n → ((j : ℕ) → a ≤ j → j < length l → p (get_or l j 0) ≡ false) → keep p (drop a l) ≡ []
unfolding keep
keep_none p l zero a h f = let short : length l ≤ a = omega arith in ap (keep p) (drop_of_length-le l short)
keep_none p l (suc n) a h f =
    ⊎_elim
    (λ (short : length l ≤ a). ap (keep p) (drop_of_length-le l short))
    (λ (g : a < length l). ap (keep p) (drop-cons l a 0 g) ∙ keep_no p (get_or l a 0) (drop (suc a) l) (f a (omega arith) g) ∙ keep_none p l n (suc a) (omega arith) (λ j i u. f j (omega arith) u))
    (le_or_lt (length l) a)

-- where k from a on pass, and none behind them, those are kept
keep_consecutive : (p : ℕ → Bool) (l : List ℕ) (k a : ℕ) → a + k ≤ length l → ((j : ℕ) → a ≤ j → j < a + k → p (get_or l j 0) ≡ true)
    → ((j : ℕ) → a + k ≤ j → j < length l → p (get_or l j 0) ≡ false) → keep p (drop a l) ≡ take k (drop a l)
keep_consecutive p l zero a h f g = keep_none p l (length l) a (omega arith) (λ j i u. g j (omega arith) u)
keep_consecutive p l (suc k) a h f g =
    let cons : drop a l ≡ get_or l a 0 ∷ drop (suc a) l = drop-cons l a 0 (omega arith) in
    ap (keep p) cons
    ∙ keep_yes p (get_or l a 0) (drop (suc a) l) (f a (omega arith) (omega arith))
    ∙ ap (λ (t : List ℕ). get_or l a 0 ∷ t) (keep_consecutive p l k (suc a) (omega arith) (λ j i u. f j (omega arith) (omega arith)) (λ j i u. g j (omega arith) u))
    ∙ sym (ap (take (suc k)) cons)

module _ (keys : List ℕ) where
  first_in : (v : ℕ) → first_at keys v ≤ length keys
  unfolding first_at
  first_in v = how_many_le _ (length keys)

  pub first_rises : (v : ℕ) → first_at keys v ≤ first_at keys (v + 1)
  first_rises v =
      ⊎_elim (λ (h : first_at keys v ≤ first_at keys (v + 1)). h)
      (λ (h : first_at keys (v + 1) < first_at keys v).
      absurd (omega (arith, before_first keys v (first_at keys (v + 1)) h, from_first keys (v + 1) (first_at keys (v + 1)) (omega (arith, first_in v)) (omega arith))))
      (le_or_lt (first_at keys v) (first_at keys (v + 1)))

  consecutive : (v : ℕ) → around keys v ≡ table (λ i. get_or (round_of keys) (first_at keys v + i) 0) (first_at keys (v + 1) - first_at keys v)
  consecutive v =
      let a = first_at keys v in
      let k = first_at keys (v + 1) - first_at keys v in
      let in₁ = first_in (v + 1) in
      let rise = first_rises v in
      let long = length_round keys in
      around_first keys v
      ∙ keep_consecutive _ (round_of keys) k a (omega arith)
      (λ j i u. eq-eqb (vertex_at keys j) v (omega (arith, from_first keys v j (omega arith) i, before_first keys (v + 1) j (omega arith))))
      (λ j i u. ne_eqb (vertex_at keys j) v (λ e. omega (arith, from_first keys (v + 1) j (omega arith) (omega arith))))
      ∙ is_table _ k (take k (drop a (round_of keys))) 0 (length-take-le k (drop a (round_of keys)) (simp length-drop (omega arith)))
      (λ i h. get_or-take k (drop a (round_of keys)) i 0 h ∙ get_or-drop a (round_of keys) i 0)

-- ---- by what the code made

module _ (m channels n : ℕ) (ks order ends numbers ends' numbers' : List ℕ) (hk : ks ≡ strided 3 0 0 n numbers) (ho : order ≡ round_of ks) (copied : Copied order numbers numbers')
    (started : Started m (channels + 1) ks ends ends') where
  keys_long : length ks ≡ n
  keys_long = ap length hk ∙ length_strided 3 0 0 n numbers

  order_long : length order ≡ n
  order_long = ap length ho ∙ length_round ks ∙ keys_long

  member_at : (j : ℕ) → j < n → member_in numbers' j ≡ get_or (round_of ks) j 0
  unfolding member_in
  member_at j h =
      sym (get_d_strided 3 2 0 n j numbers' 0 h)
      ∙ ap (λ (k : ℕ). get_or (strided 3 2 0 k numbers') j 0) (sym order_long)
      ∙ ap (λ (l : List ℕ). get_or l j 0) (copied.third ∙ ho)

  start_is : (c : ℕ) → c < channels + 1 → start_in m ends' c ≡ first_at ks c
  start_is c h = started.starts c h

  members_are : (c : ℕ) → c < channels
      → table (λ i. member_in numbers' (start_in m ends' c + i)) (start_in m ends' (c + 1) - start_in m ends' c) ≡ which (λ x. eqb (get_or (strided 3 0 0 n numbers) x 0) c) n
  unfolding around
  members_are c h =
      let a = start_is c (omega arith) in
      let b = start_is (c + 1) (omega arith) in
      let long = keys_long in
      let in₁ = first_in ks (c + 1) in
      ap (λ (s : ℕ). table (λ i. member_in numbers' (s + i)) (start_in m ends' (c + 1) - s)) a
      ∙ ap (λ (t : ℕ). table (λ i. member_in numbers' (first_at ks c + i)) (t - first_at ks c)) b
      ∙ table_ext _ _ (first_at ks (c + 1) - first_at ks c) (λ i g. member_at (first_at ks c + i) (omega arith))
      ∙ sym (consecutive ks c)
      ∙ ap (λ (k : ℕ). which (λ x. eqb (get_or ks x 0) c) k) long
      ∙ ap (λ (l : List ℕ). which (λ x. eqb (get_or l x 0) c) n) hk

  pub grouped : Grouped m channels n ends numbers ends' numbers'
  grouped =
      record {
        rising = λ c h. rw (start_is c (omega arith), start_is (c + 1) (omega arith)) (first_rises ks c);
        within = λ c h. let b = start_is (c + 1) (omega arith) in omega (arith, first_in ks (c + 1), keys_long);
        members = members_are;
        sides = copied.sides;
        rows = started.rows;
        counts = started.counts;
      }
