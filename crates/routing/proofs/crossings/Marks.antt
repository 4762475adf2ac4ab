-- Channels as the lists hold them: at most as many as half-edges, and one channel more. Assumes nothing.
use mathlib.Core.Path.{◌≡◌, refl, sym, ap, ◌∙◌}
use mathlib.Core.Logic.{◌⊎◌, inl, inr, ⊎_elim}
use mathlib.Core.Bool.{Bool, true, false, true≢false}
use mathlib.Core.List.{List, [], ◌∷◌, ◌++◌}
use Prim.Native.Nat.{ℕ, suc, ◌+◌, ◌*◌, ◌≤◌, ◌<◌, min, max}
use native.Mathlib.Omega.{arith}
use lib.Dec.{eqb}
use lib.ListN.{length, get_or, set, take, length-set, length-append, get_or-append}
use lib.Seq.{get_or-set_same, get_or-set_other, get_or-append_seam, take-set-le}
use borrow.Author.Tests.{lt-ltb, le-ltb, eqb-true}
use Rattle.numbers.specs.Order.{pick, count}
use Rattle.numbers.proofs.order.Merging.{le_or_lt}
use Rattle.network.specs.Mesh.{at, end_at, low_at, high_at}
use Rattle.network.proofs.mesh.Pigeons.{channels_few}
use Rattle.network.proofs.mesh.Tests.{both}
use Rattle.routing.specs.Route.{MeshScene, Keyed, no_channel, number_of, make_channel}
use Rattle.routing.specs.Stages.Views.{HalfEdged}
use Rattle.routing.specs.Stages.Store.{half_edges_from, stamp, with_marks, mark_of, Marked}
use Rattle.routing.proofs.crossings.Numbers.{keyed, same_key, number_le, number_front, number_new, number_other, made_low, made_high}
use Rattle.routing.proofs.crossings.Stamps.{Has, length_stamp, stamp_rest, stamp_beside, stamp_out, stamp_in, edges_from_has, edges_from_is}

mark_yes : (k c : ℕ) → c < k → mark_of k c ≡ suc c
unfolding mark_of
mark_yes k c h = ap (λ (t : Bool). pick t (suc c) 0) (lt-ltb c k h)

mark_no : (k c : ℕ) → k ≤ c → mark_of k c ≡ 0
unfolding mark_of
mark_no k c h = ap (λ (t : Bool). pick t (suc c) 0) (le-ltb c k h)

-- two vertices without direction are those of another pair, one way or the other
ways_round : (a b c d : ℕ) → min a b ≡ min c d → max a b ≡ max c d → ((a ≡ c) × (b ≡ d)) ⊎ ((a ≡ d) × (b ≡ c))
ways_round a b c d p q = ⊎_elim (λ (h : a ≤ b). ⊎_elim (λ (k : c ≤ d). inl (omega arith, omega arith)) (λ (k : d < c). inr (omega arith, omega arith)) (le_or_lt c d)) (λ (h : b < a). ⊎_elim (λ (k : c ≤ d). inr (omega arith, omega arith)) (λ (k : d < c). inl (omega arith, omega arith)) (le_or_lt c d)) (le_or_lt a b)

module _ (m : ℕ) (corners : List ℕ) where
  abbrev number_at : List Keyed → ℕ → ℕ
  number_at ks h = number_of (low_at corners h) (high_at corners h) ks

  module _ (ks : List Keyed) (ends : List ℕ) (v : Marked m corners ks ends) where
    pub marked_few : length ks ≤ length corners
    marked_few = channels_few corners (λ a b. number_of a b ks) (length ks) each
      where
        each : (c : ℕ) → c < length ks → (h : ℕ) × (h < length corners) × (number_at ks h ≡ c)
        each c l =
            let e = v.half_edges c l in
            let p : low_at corners (get_or ends (4 * (m + c) + 2) 0) ≡ (get_or ks c no_channel).low = e.low in
            let q : high_at corners (get_or ends (4 * (m + c) + 2) 0) ≡ (get_or ks c no_channel).high = e.high in
            let o : number_of (get_or ks c no_channel).low (get_or ks c no_channel).high ks ≡ c = v.own c l in
            (get_or ends (4 * (m + c) + 2) 0, e.inside, cc)

    module _ (h : ℕ) (inside : h < length corners) where
      abbrev mark : ℕ
      mark = get_or ends (4 * (m + h) + 1) 0

      -- a mark of 0 says that there is no channel yet, any other which it is
      pub mark_none : mark ≡ 0 → number_at ks h ≡ length ks
      mark_none z =
          ⊎_elim
          (λ (g : length ks ≤ number_at ks h). omega (arith, number_le (low_at corners h) (high_at corners h) ks))
          (λ (g : number_at ks h < length ks). absurd (omega (arith, v.marks h inside, mark_yes (length ks) (number_at ks h) g)))
          (le_or_lt (length ks) (number_at ks h))

      pub mark_some : (c : ℕ) → mark ≡ suc c → (number_at ks h ≡ c) × (c < length ks)
      mark_some c z =
          ⊎_elim
          (λ (g : length ks ≤ number_at ks h). absurd (omega (arith, v.marks h inside, mark_no (length ks) (number_at ks h) g)))
          (λ (g : number_at ks h < length ks). (omega (arith, v.marks h inside, mark_yes (length ks) (number_at ks h) g), omega (arith, v.marks h inside, mark_yes (length ks) (number_at ks h) g)))
          (le_or_lt (length ks) (number_at ks h))

  -- ---- a channel more

  module _ (h k : ℕ) (ends : List ℕ) where
    abbrev from : ℕ
    from = at corners h

    abbrev to : ℕ
    to = end_at corners h

    abbrev noted : List ℕ
    noted = set ends (4 * (m + k) + 2) h

    abbrev first : List ℕ
    first = stamp m (suc k) (half_edges_from corners from to) noted

    pub with_length : length (with_marks corners m h k ends) ≡ length ends
    unfolding with_marks
    with_length = length_stamp m (suc k) (half_edges_from corners to from) first ∙ length_stamp m (suc k) (half_edges_from corners from to) noted ∙ length-set ends (4 * (m + k) + 2) h

    pub with_beside : take (4 * m) (with_marks corners m h k ends) ≡ take (4 * m) ends
    unfolding with_marks
    with_beside =
        stamp_beside m (suc k) (half_edges_from corners to from) first ∙ stamp_beside m (suc k) (half_edges_from corners from to) noted ∙ take-set-le (4 * m) ends (4 * (m + k) + 2) h (omega arith)

    with_rest : (i : ℕ) → ((g : ℕ) → i ≡ 4 * (m + g) + 1 → ⊥) → get_or (with_marks corners m h k ends) i 0 ≡ get_or noted i 0
    unfolding with_marks
    with_rest i n = stamp_rest m (suc k) (half_edges_from corners to from) first i n ∙ stamp_rest m (suc k) (half_edges_from corners from to) noted i n

    module _ (g : ℕ) where
      abbrev place : ℕ
      place = 4 * (m + g) + 1

      with_in : place < length ends → Has g (half_edges_from corners from to) ⊎ Has g (half_edges_from corners to from) → get_or (with_marks corners m h k ends) place 0 ≡ suc k
      unfolding with_marks
      with_in l e =
          let i : place < length noted = omega (arith, length-set ends (4 * (m + k) + 2) h) in
          let j : place < length first = omega (arith, length_stamp m (suc k) (half_edges_from corners from to) noted) in
          ⊎_elim
          (λ (z : count (λ x. eqb x g) (half_edges_from corners to from) ≤ 0).
          stamp_out m (suc k) g (half_edges_from corners to from) first (λ y. omega arith)
          ∙ stamp_in m (suc k) g (half_edges_from corners from to) noted i (⊎_elim (λ (y : Has g (half_edges_from corners from to)). y) (λ (y : Has g (half_edges_from corners to from)). absurd (omega arith)) e))
          (λ (z : 0 < count (λ x. eqb x g) (half_edges_from corners to from)). stamp_in m (suc k) g (half_edges_from corners to from) first j z)
          (le_or_lt (count (λ x. eqb x g) (half_edges_from corners to from)) 0)

      with_out : (Has g (half_edges_from corners from to) → ⊥) → (Has g (half_edges_from corners to from) → ⊥) → get_or (with_marks corners m h k ends) place 0 ≡ get_or ends place 0
      unfolding with_marks
      with_out p q =
          stamp_out m (suc k) g (half_edges_from corners to from) first q ∙ stamp_out m (suc k) g (half_edges_from corners from to) noted p
          ∙ get_or-set_other ends (4 * (m + k) + 2) place h 0 (λ z. omega arith)

      -- a marked half-edge has the two vertices of h
      has_key : Has g (half_edges_from corners from to) ⊎ Has g (half_edges_from corners to from) → (low_at corners g ≡ low_at corners h) × (high_at corners g ≡ high_at corners h)
      unfolding low_at high_at
      has_key e =
          ⊎_elim
          (λ (y : Has g (half_edges_from corners from to)). let w = edges_from_is corners from to g y in (omega (arith, w.0, w.1), omega (arith, w.0, w.1)))
          (λ (y : Has g (half_edges_from corners to from)). let w = edges_from_is corners to from g y in (omega (arith, w.0, w.1), omega (arith, w.0, w.1)))
          e

      key_has : g < length corners → low_at corners g ≡ low_at corners h → high_at corners g ≡ high_at corners h → Has g (half_edges_from corners from to) ⊎ Has g (half_edges_from corners to from)
      unfolding low_at high_at
      key_has l p q =
          ⊎_elim
          (λ (w : (at corners g ≡ from) × (end_at corners g ≡ to)). inl (edges_from_has corners from to g l w.0 w.1))
          (λ (w : (at corners g ≡ to) × (end_at corners g ≡ from)). inr (edges_from_has corners to from g l w.0 w.1))
          (ways_round (at corners g) (end_at corners g) from to p q)

  module _ (S : MeshScene) (ks : List Keyed) (ends : List ℕ) (h : ℕ) (v : Marked m corners ks ends) (inside : h < length corners) (room : 4 * (m + length corners) + 4 ≤ length ends) (none : number_at ks h ≡ length ks) where
    abbrev k : ℕ
    k = length ks

    abbrev made : Keyed
    made = make_channel S (low_at corners h) (high_at corners h)

    abbrev more : List Keyed
    more = ks ++ (made ∷ [])

    abbrev list : List ℕ
    list = with_marks corners m h k ends

    low : made.low ≡ low_at corners h
    low = made_low S (low_at corners h) (high_at corners h) ks

    high : made.high ≡ high_at corners h
    high = made_high S (low_at corners h) (high_at corners h) ks

    long : length more ≡ suc k
    long = length-append ks (made ∷ []) ∙ omega arith

    old_channel : (c : ℕ) → c < k → get_or more c no_channel ≡ get_or ks c no_channel
    old_channel c l = get_or-append ks (made ∷ []) no_channel c l

    new_channel : get_or more k no_channel ≡ made
    new_channel = get_or-append_seam ks made [] no_channel

    old_edge : (c : ℕ) → c < k → get_or list (4 * (m + c) + 2) 0 ≡ get_or ends (4 * (m + c) + 2) 0
    old_edge c l = with_rest h k ends (4 * (m + c) + 2) (λ g z. omega arith) ∙ get_or-set_other ends (4 * (m + k) + 2) (4 * (m + c) + 2) h 0 (λ z. omega arith)

    new_edge : get_or list (4 * (m + k) + 2) 0 ≡ h
    new_edge = with_rest h k ends (4 * (m + k) + 2) (λ g z. omega arith) ∙ get_or-set_same ends (4 * (m + k) + 2) h 0 (omega (arith, marked_few ks ends v))

    half_edges : (c : ℕ) → c < length more → HalfEdged corners (get_or more c no_channel) (get_or list (4 * (m + c) + 2) 0)
    half_edges c l = ⊎_elim (λ (z : k ≤ c). last c (omega (arith, long))) (λ (z : c < k). old c z) (le_or_lt k c)
      where
        old : (c : ℕ) → c < k → HalfEdged corners (get_or more c no_channel) (get_or list (4 * (m + c) + 2) 0)
        old c z = rw (old_channel c z, old_edge c z) (v.half_edges c z)

        last : (c : ℕ) → c ≡ k → HalfEdged corners (get_or more c no_channel) (get_or list (4 * (m + c) + 2) 0)
        last c e = rw (e, new_channel, new_edge) (record { inside = inside; low = sym low; high = sym high })

    own : (c : ℕ) → c < length more → number_of (get_or more c no_channel).low (get_or more c no_channel).high more ≡ c
    own c l = ⊎_elim (λ (z : k ≤ c). last c (omega (arith, long))) (λ (z : c < k). old c z) (le_or_lt k c)
      where
        old : (c : ℕ) → c < k → number_of (get_or more c no_channel).low (get_or more c no_channel).high more ≡ c
        old c z =
            let o : number_of (get_or ks c no_channel).low (get_or ks c no_channel).high ks ≡ c = v.own c z in
            ap (λ (x : Keyed). number_of x.low x.high more) (old_channel c z)
            ∙ number_front (get_or ks c no_channel).low (get_or ks c no_channel).high ks (made ∷ []) (omega arith) ∙ o

        last : (c : ℕ) → c ≡ k → number_of (get_or more c no_channel).low (get_or more c no_channel).high more ≡ c
        last c e =
            rw e
            (ap (λ (x : Keyed). number_of x.low x.high more) new_channel ∙ ap (λ (x : ℕ). number_of x made.high more) low ∙ ap (λ (x : ℕ). number_of (low_at corners h) x more) high
            ∙ number_new (low_at corners h) (high_at corners h) ks made none (same_key (low_at corners h) (high_at corners h) made low high))

    module _ (g : ℕ) (l : g < length corners) where
      abbrev here : ℕ
      here = 4 * (m + g) + 1

      -- a half-edge of another channel, or of none
      apart : ((low_at corners g ≡ low_at corners h) × (high_at corners g ≡ high_at corners h) → ⊥) → get_or list here 0 ≡ get_or ends here 0
      apart n = with_out h k ends g (λ y. n (has_key h k ends g (inl y))) (λ y. n (has_key h k ends g (inr y)))

      known : number_at ks g < k → get_or list here 0 ≡ mark_of (length more) (number_at more g)
      known z =
          let f : number_at more g ≡ number_at ks g = number_front (low_at corners g) (high_at corners g) ks (made ∷ []) z in
          let a : get_or list here 0 ≡ get_or ends here 0 = apart (λ w. let p : low_at corners g ≡ low_at corners h = w.0 in let q : high_at corners g ≡ high_at corners h = w.1 in let e : number_at ks g ≡ number_at ks h = cc in omega arith) in
          a ∙ v.marks g l ∙ mark_yes k (number_at ks g) z ∙ sym (mark_yes (length more) (number_at ks g) (omega (arith, long))) ∙ ap (mark_of (length more)) (sym f)

      fresh : number_at ks g ≡ k → (t : Bool) → keyed (low_at corners g) (high_at corners g) made ≡ t → get_or list here 0 ≡ mark_of (length more) (number_at more g)
      fresh z true e =
          let w = both (eqb made.low (low_at corners g)) (eqb made.high (high_at corners g)) e in
          let p : low_at corners g ≡ low_at corners h = sym (eqb-true _ _ w.0) ∙ low in
          let q : high_at corners g ≡ high_at corners h = sym (eqb-true _ _ w.1) ∙ high in
          with_in h k ends g (omega arith) (key_has h k ends g l p q)
          ∙ sym (mark_yes (length more) k (omega (arith, long))) ∙ ap (mark_of (length more)) (sym (number_new (low_at corners g) (high_at corners g) ks made z e))
      fresh z false e =
          apart (λ w. absurd (true≢false (sym (same_key (low_at corners g) (high_at corners g) made (low ∙ sym w.0) (high ∙ sym w.1)) ∙ e)))
          ∙ v.marks g l ∙ mark_no k (number_at ks g) (omega arith)
          ∙ sym (mark_no (length more) (suc k) (omega (arith, long))) ∙ ap (mark_of (length more)) (sym (number_other (low_at corners g) (high_at corners g) ks made z e))

      marks : get_or list here 0 ≡ mark_of (length more) (number_at more g)
      marks =
          ⊎_elim
          (λ (z : k ≤ number_at ks g). fresh (omega (arith, number_le (low_at corners g) (high_at corners g) ks)) (keyed (low_at corners g) (high_at corners g) made) refl)
          known
          (le_or_lt k (number_at ks g))

    pub marked_more : Marked m corners more list
    marked_more = record { half_edges = half_edges; own = own; marks = marks }
