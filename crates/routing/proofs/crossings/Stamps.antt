-- Half-edges marked: which are, and what else a list holds. Assumes nothing.
use mathlib.Core.Path.{◌≡◌, refl, sym, ap, ◌∙◌}
use mathlib.Core.Logic.{⊎_elim}
use mathlib.Core.Bool.{Bool, true, false, true≢false}
use mathlib.Core.List.{List, [], ◌∷◌}
use Prim.Native.Nat.{ℕ, ◌+◌, ◌*◌, ◌≤◌, ◌<◌}
use native.Mathlib.Omega.{arith}
use native.Mathlib.Nat.{zero-add}
use lib.Dec.{eqb}
use lib.ListN.{length, get_or, set, take, length-set}
use lib.Seq.{get_or-set_same, get_or-set_other, take-set-le}
use borrow.Author.Tests.{eq-eqb, eqb-true, eqb-false}
use Rattle.numbers.specs.Order.{pick, up_from, keep, count}
use Rattle.numbers.proofs.order.Laws.{count_nil, count_yes, count_no, count_at, occurs, count_keep, length_up, get_d_up}
use Rattle.numbers.proofs.order.Merging.{le_or_lt}
use Rattle.network.specs.Mesh.{at, end_at}
use Rattle.channels.specs.Round.{around}
use Rattle.routing.specs.Stages.Store.{half_edges_from, stamp}

-- g is one of a list
abbrev pub Has : ℕ → List ℕ → Type 0
Has g hs = 0 < count (λ x. eqb x g) hs

module _ (m v : ℕ) where
  pub length_stamp : (hs l : List ℕ) → length (stamp m v hs l) ≡ length l
  unfolding stamp
  length_stamp [] l = refl
  length_stamp (h ∷ hs) l = length_stamp hs (set l (4 * (m + h) + 1) v) ∙ length-set l (4 * (m + h) + 1) v

  -- other numbers are as before
  pub stamp_rest : (hs l : List ℕ) (i : ℕ) → ((h : ℕ) → i ≡ 4 * (m + h) + 1 → ⊥) → get_or (stamp m v hs l) i 0 ≡ get_or l i 0
  unfolding stamp
  stamp_rest [] l i n = refl
  stamp_rest (h ∷ hs) l i n = stamp_rest hs (set l (4 * (m + h) + 1) v) i n ∙ get_or-set_other l (4 * (m + h) + 1) i v 0 (n h)

  -- the branches' numbers too
  pub stamp_beside : (hs l : List ℕ) → take (4 * m) (stamp m v hs l) ≡ take (4 * m) l
  unfolding stamp
  stamp_beside [] l = refl
  stamp_beside (h ∷ hs) l = stamp_beside hs (set l (4 * (m + h) + 1) v) ∙ take-set-le (4 * m) l (4 * (m + h) + 1) v (omega arith)

  module _ (g : ℕ) where
    abbrev place : ℕ
    place = 4 * (m + g) + 1

    pub stamp_out : (hs l : List ℕ) → (Has g hs → ⊥) → get_or (stamp m v hs l) place 0 ≡ get_or l place 0
    unfolding stamp
    stamp_out [] l n = refl
    stamp_out (h ∷ hs) l n = go (stamp_out hs (set l (4 * (m + h) + 1) v)) (eqb h g) refl
      where
        go : ((Has g hs → ⊥) → get_or (stamp m v hs (set l (4 * (m + h) + 1) v)) place 0 ≡ get_or (set l (4 * (m + h) + 1) v) place 0) → (t : Bool) → eqb h g ≡ t
            → get_or (stamp m v hs (set l (4 * (m + h) + 1) v)) place 0 ≡ get_or l place 0
        go f true e = absurd (n (omega (arith, count_yes (λ x. eqb x g) h hs e)))
        go f false e =
            f (λ k. n (omega (arith, count_no (λ x. eqb x g) h hs e)))
            ∙ get_or-set_other l (4 * (m + h) + 1) place v 0 (λ z. eqb-false h g e (omega arith))

    pub stamp_in : (hs l : List ℕ) → place < length l → Has g hs → get_or (stamp m v hs l) place 0 ≡ v
    unfolding stamp
    stamp_in [] l h k = absurd (omega (arith, count_nil (λ x. eqb x g)))
    stamp_in (h ∷ hs) l i k =
        let l' = set l (4 * (m + h) + 1) v in
        let j : place < length l' = omega (arith, length-set l (4 * (m + h) + 1) v) in
        ⊎_elim
        (λ (z : count (λ x. eqb x g) hs ≤ 0). stamp_out hs l' (λ y. omega arith) ∙ last z (eqb h g) refl)
        (λ (z : 0 < count (λ x. eqb x g) hs). stamp_in hs l' j z)
        (le_or_lt (count (λ x. eqb x g) hs) 0)
      where
        last : count (λ x. eqb x g) hs ≤ 0 → (t : Bool) → eqb h g ≡ t → get_or (set l (4 * (m + h) + 1) v) place 0 ≡ v
        last z true e = let q : h ≡ g = eqb-true h g e in rw q (get_or-set_same l place v 0 i)
        last z false e = absurd (omega (arith, count_no (λ x. eqb x g) h hs e))

-- ---- the half-edges from v to w

module _ (corners : List ℕ) (v w g : ℕ) where
  abbrev test : ℕ → Bool
  test j = pick (eqb (at corners j) v) (pick (eqb (end_at corners j) w) (eqb j g) false) false

  counted : count (λ x. eqb x g) (half_edges_from corners v w) ≡ count test (up_from 0 (length corners))
  unfolding half_edges_from around
  counted =
      count_keep (λ h. eqb (end_at corners h) w) (λ x. eqb x g) (keep (λ h. eqb (at corners h) v) (up_from 0 (length corners)))
      ∙ count_keep (λ h. eqb (at corners h) v) (λ j. pick (eqb (end_at corners j) w) (eqb j g) false) (up_from 0 (length corners))

  pub edges_from_has : g < length corners → at corners g ≡ v → end_at corners g ≡ w → Has g (half_edges_from corners v w)
  edges_from_has l p q =
      let i : g < length (up_from 0 (length corners)) = omega (arith, length_up 0 (length corners)) in
      let e : get_or (up_from 0 (length corners)) g 0 ≡ g = get_d_up 0 (length corners) g l ∙ zero-add g in
      let t : test g ≡ true = simp (eq-eqb (at corners g) v p, eq-eqb (end_at corners g) w q, eq-eqb g g refl) in
      let z : 0 < count test (up_from 0 (length corners)) = count_at test (up_from 0 (length corners)) g i (ap test e ∙ t) in
      omega (arith, counted)

  tested : (j : ℕ) → test j ≡ true → (at corners g ≡ v) × (end_at corners g ≡ w)
  tested j t = go (eqb (at corners j) v) refl (eqb (end_at corners j) w) refl (eqb j g) refl t
    where
      go : (a : Bool) → eqb (at corners j) v ≡ a → (b : Bool) → eqb (end_at corners j) w ≡ b → (c : Bool) → eqb j g ≡ c → pick a (pick b c false) false ≡ true
          → (at corners g ≡ v) × (end_at corners g ≡ w)
      go true p true q true r z =
          let e : j ≡ g = eqb-true j g r in
          (ap (at corners) (sym e) ∙ eqb-true _ _ p, ap (end_at corners) (sym e) ∙ eqb-true _ _ q)
      go true p true q false r z = absurd (true≢false (sym z))
      go true p false q c r z = absurd (true≢false (sym z))
      go false p b q c r z = absurd (true≢false (sym z))

  pub edges_from_is : Has g (half_edges_from corners v w) → (at corners g ≡ v) × (end_at corners g ≡ w)
  edges_from_is h =
      let z : 0 < count test (up_from 0 (length corners)) = omega (arith, counted) in
      let o = occurs test (up_from 0 (length corners)) z in
      tested (get_or (up_from 0 (length corners)) o.0 0) o.2
