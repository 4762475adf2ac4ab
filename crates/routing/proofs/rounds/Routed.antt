-- What tracing leaves: each crossing stands on its branch's path at its step, in a channel that was made between its vertices. Assumes nothing.
use mathlib.Core.Path.{◌≡◌, refl, sym, ap, ◌∙◌, subst}
use mathlib.Core.Logic.{⊎_elim}
use mathlib.Core.Bool.{Bool, true, false, cond, ◌&&◌}
use mathlib.Core.List.{List, [], ◌∷◌, ◌++◌}
use Rattle.std.specs.Prelude.{Option, Some, None}
use Prim.Native.Nat.{ℕ, zero, suc, ◌+◌, ◌≤◌, ◌<◌, zero-le, suc-le-suc}
use native.Mathlib.Omega.{arith}
use native.Mathlib.Nat.{add-zero, add-suc}
use lib.Dec.{ltb, eqb}
use lib.ListN.{length, get_or, length-append, get_or-append}
use lib.Seq.{get_or-append_seam}
use borrow.Author.Tests.{ltb-true}
use Rattle.numbers.proofs.order.Merging.{le_or_lt}
use Rattle.plane.specs.Plane.{point_at}
use Rattle.network.specs.Mesh.{low_at, high_at}
use Rattle.channels.specs.Trace.{traced}
use Rattle.routing.specs.Route.{MeshScene, RoutedLine, Routing, Keyed, Crossing, KeptCrossings, no_channel, no_crossing, no_kept_crossings, no_routing, vertex_of, number_of, make_channel, with_channel, crossing_of, cross, cross_all, add_walk, add_branch, traced_to, routing}

-- ---- one element more

module _ {A : Type 0} (l : List A) (y d : A) where
  pub length_more : length (l ++ (y ∷ [])) ≡ suc (length l)
  length_more = length-append l (y ∷ []) ∙ add-suc (length l) 0 ∙ ap suc (add-zero (length l))

  pub at_old : (i : ℕ) → i < length l → get_or (l ++ (y ∷ [])) i d ≡ get_or l i d
  at_old i h = get_or-append l (y ∷ []) d i h

  pub at_new : (i : ℕ) → i ≡ length l → get_or (l ++ (y ∷ [])) i d ≡ y
  at_new i e = ap (λ (k : ℕ). get_or (l ++ (y ∷ [])) k d) e ∙ get_or-append_seam l y [] d

  -- what holds of the old ones and of the new one
  pub by_more : (P : ℕ → A → Type 0) → ((i : ℕ) → i < length l → P i (get_or l i d)) → P (length l) y → (i : ℕ) → i < length (l ++ (y ∷ [])) → P i (get_or (l ++ (y ∷ [])) i d)
  by_more P f g i h =
      ⊎_elim
      (λ (k : length l ≤ i). let e : i ≡ length l = omega (arith, length_more) in subst (λ (a : A). P i a) (sym (at_new i e)) (subst (λ (j : ℕ). P j y) (sym e) g))
      (λ (k : i < length l). subst (λ (a : A). P i a) (sym (at_old i k)) (f i k))
      (le_or_lt (length l) i)

-- ---- channels

number_within : (a b : ℕ) (ks : List Keyed) → number_of a b ks ≤ length ks
unfolding number_of
number_within a b [] = zero-le
number_within a b (k ∷ ks) = go (eqb k.low a && eqb k.high b) (number_within a b ks)
  where
    go : (t : Bool) → number_of a b ks ≤ length ks → cond t 0 (suc (number_of a b ks)) ≤ suc (length ks)
    go true h = zero-le
    go false h = suc-le-suc h

module _ (S : MeshScene) where
  -- every channel is the one between its vertices
  pub record Made (ks : List Keyed) : Type 0 where
    pub each : (c : ℕ) → c < length ks → get_or ks c no_channel ≡ make_channel S (get_or ks c no_channel).low (get_or ks c no_channel).high

  module _ (a b : ℕ) (ks : List Keyed) where
    own : make_channel S a b ≡ make_channel S (make_channel S a b).low (make_channel S a b).high
    unfolding make_channel
    own = refl

    abbrev Grown : List Keyed → Type 0
    Grown ls = (length ks ≤ length ls) × (number_of a b ks < length ls) × (Made ks → Made ls)

    grown : Grown (with_channel S a b ks)
    unfolding with_channel
    grown = go (ltb (number_of a b ks) (length ks)) refl
      where
        go : (t : Bool) → ltb (number_of a b ks) (length ks) ≡ t → Grown (cond t ks (ks ++ (make_channel S a b ∷ [])))
        go true e = (omega arith, ltb-true (number_of a b ks) (length ks) e, λ m. m)
        go false e =
            let long = length_more ks (make_channel S a b) no_channel in
            (omega arith, omega (arith, number_within a b ks), λ m. record { each = by_more ks (make_channel S a b) no_channel (λ i k. k ≡ make_channel S k.low k.high) m.each own })

  -- ---- a walk: k crossings of branch e behind the first n

  -- crossing x is on its path, at its step
  pub record Placed (ps : List KeptCrossings) (e x : ℕ) (c : Crossing) : Type 0 where
    pub branch : c.branch < e
    pub on_line : (get_or ps c.branch no_kept_crossings).first + c.on_line ≡ x

  pub record Own (e n x : ℕ) (c : Crossing) : Type 0 where
    pub branch : c.branch ≡ e
    pub on_line : n + c.on_line ≡ x

  pub record Walking (e n k : ℕ) (r : Routing) : Type 0 where
    pub long : length r.crossings ≡ n + k
    pub kept_crossings : length r.kept_crossings ≡ e
    pub inside : (b : ℕ) → b < e → (get_or r.kept_crossings b no_kept_crossings).first + (get_or r.kept_crossings b no_kept_crossings).count ≤ n
    pub old : (x : ℕ) → x < n → Placed r.kept_crossings e x (get_or r.crossings x no_crossing)
    pub new : (x : ℕ) → n ≤ x → x < n + k → Own e n x (get_or r.crossings x no_crossing)
    pub numbered : (x : ℕ) → x < n + k → (get_or r.crossings x no_crossing).channel < length r.channels
    pub made : Made r.channels

  module _ (va vb e n k h : ℕ) (r : Routing) (w : Walking e n k r) where
    abbrev low_h : ℕ
    low_h = low_at S.corners h

    abbrev high_h : ℕ
    high_h = high_at S.corners h

    abbrev one : Crossing
    one = crossing_of S va vb e k h r.channels

    one_is : (one.branch ≡ e) × (one.on_line ≡ k) × (one.channel ≡ number_of low_h high_h r.channels)
    unfolding crossing_of
    one_is = (refl, refl, refl)

    step_own : Own e n (n + k) one
    step_own = record { branch = one_is.0; on_line = ap (λ (t : ℕ). n + t) one_is.1 }

    before_old : (x : ℕ) → x < n + k → get_or (r.crossings ++ (one ∷ [])) x no_crossing ≡ get_or r.crossings x no_crossing
    before_old x g = at_old r.crossings one no_crossing x (omega (arith, w.long))

    new_is : get_or (r.crossings ++ (one ∷ [])) (n + k) no_crossing ≡ one
    new_is = at_new r.crossings one no_crossing (n + k) (sym w.long)

    pub cross_step : Walking e n (suc k) (cross S va vb e k h r)
    unfolding cross
    cross_step =
        let g = grown low_h high_h r.channels in
        record {
          long = length_more r.crossings one no_crossing ∙ omega (arith, w.long);
          kept_crossings = w.kept_crossings;
          inside = w.inside;
          old = λ x l. subst (Placed r.kept_crossings e x) (sym (before_old x (omega arith))) (w.old x l);
          new =
              λ x i l. ⊎_elim
              (λ (q : n + k ≤ x). let z : n + k ≡ x = omega arith in subst (λ (t : ℕ). Own e n t (get_or (r.crossings ++ (one ∷ [])) t no_crossing)) z (subst (Own e n (n + k)) (sym new_is) step_own))
              (λ (q : x < n + k). subst (Own e n x) (sym (before_old x q)) (w.new x i q))
              (le_or_lt (n + k) x);
          numbered =
              λ x l. ⊎_elim
              (λ (q : n + k ≤ x).
              let z : n + k ≡ x = omega arith in
              subst (λ (t : ℕ). (get_or (r.crossings ++ (one ∷ [])) t no_crossing).channel < length (with_channel S low_h high_h r.channels)) z
              (rw (new_is) (omega (arith, one_is.2, g.1))))
              (λ (q : x < n + k). rw (before_old x q) (let z = w.numbered x q in omega (arith, g.0)))
              (le_or_lt (n + k) x);
          made = g.2 w.made;
        }

  pub cross_all_lem : (va vb e n : ℕ) (hs : List ℕ) (k : ℕ) (r : Routing) → Walking e n k r → Walking e n (k + length hs) (cross_all S va vb e k hs r)
  unfolding cross_all
  cross_all_lem va vb e n [] k r w = subst (λ (t : ℕ). Walking e n t r) (sym (add-zero k)) w
  cross_all_lem va vb e n (h ∷ hs) k r w =
      subst (λ (t : ℕ). Walking e n t (cross_all S va vb e (suc k) hs (cross S va vb e k h r))) (shift k (length hs)) (cross_all_lem va vb e n hs (suc k) (cross S va vb e k h r) (cross_step va vb e n k h r w))
    where
      shift : (a b : ℕ) → suc a + b ≡ a + suc b
      shift a b = omega arith

  cross_paths : (va vb e : ℕ) (hs : List ℕ) (k : ℕ) (r : Routing) → (cross_all S va vb e k hs r).kept_crossings ≡ r.kept_crossings
  unfolding cross_all cross
  cross_paths va vb e [] k r = refl
  cross_paths va vb e (h ∷ hs) k r = cross_paths va vb e hs (suc k) (cross S va vb e k h r)

  -- ---- branches

  -- e branches are traced
  abbrev pub Traced : ℕ → Routing → Type 0
  Traced e r = Walking e (length r.crossings) 0 r

  module _ (e n k : ℕ) (r : Routing) (p : KeptCrossings) (w : Walking e n k r) (first : 0 < k → p.first ≡ n) (fits : p.first + p.count ≤ n + k) where
    abbrev ended : Routing
    ended = record { channels = r.channels; crossings = r.crossings; kept_crossings = r.kept_crossings ++ (p ∷ []) }

    old_path : (b : ℕ) → b < e → get_or (r.kept_crossings ++ (p ∷ [])) b no_kept_crossings ≡ get_or r.kept_crossings b no_kept_crossings
    old_path b g = at_old r.kept_crossings p no_kept_crossings b (omega (arith, w.kept_crossings))

    own_path : get_or (r.kept_crossings ++ (p ∷ [])) e no_kept_crossings ≡ p
    own_path = at_new r.kept_crossings p no_kept_crossings e (sym w.kept_crossings)

    from_old : (x : ℕ) (c : Crossing) → Placed r.kept_crossings e x c → Placed (r.kept_crossings ++ (p ∷ [])) (suc e) x c
    from_old x c q = record { branch = omega (arith, q.branch); on_line = rw (old_path c.branch q.branch) q.on_line }

    from_new : (x : ℕ) (c : Crossing) → 0 < k → Own e n x c → Placed (r.kept_crossings ++ (p ∷ [])) (suc e) x c
    from_new x c g q = record { branch = omega (arith, q.branch); on_line = rw (q.branch, own_path, first g) q.on_line }

    pub end_branch : Traced (suc e) ended
    end_branch =
        record {
          long = sym (add-zero (length r.crossings));
          kept_crossings = length_more r.kept_crossings p no_kept_crossings ∙ ap suc w.kept_crossings;
          inside =
              λ b g. ⊎_elim
              (λ (q : e ≤ b). let z : e ≡ b = omega arith in subst (λ (t : ℕ). (get_or (r.kept_crossings ++ (p ∷ [])) t no_kept_crossings).first + (get_or (r.kept_crossings ++ (p ∷ [])) t no_kept_crossings).count ≤ length r.crossings) z (rw (own_path) (omega (arith, w.long))))
              (λ (q : b < e). rw (old_path b q) (omega (arith, w.inside b q, w.long)))
              (le_or_lt e b);
          old =
              λ x l. ⊎_elim
              (λ (q : n ≤ x). from_new x _ (omega (arith, w.long)) (w.new x q (omega (arith, w.long))))
              (λ (q : x < n). from_old x _ (w.old x q))
              (le_or_lt n x);
          new = λ x i l. absurd (omega arith);
          numbered = λ x l. w.numbered x (omega (arith, w.long));
          made = w.made;
        }

  none_placed : Traced 0 no_routing
  none_placed =
      record {
        long = refl;
        kept_crossings = refl;
        inside = λ b h. absurd (omega arith);
        old = λ x h. absurd (omega arith);
        new = λ x i h. absurd (omega arith);
        numbered = λ x h. absurd (omega arith);
        made = record { each = λ c h. absurd (omega arith) };
      }

  count_within : (t : Bool) (n : ℕ) → cond t n 0 ≤ n
  count_within true n = omega arith
  count_within false n = zero-le

  add_one_branch : (e : ℕ) (l : Option RoutedLine) (r : Routing) → Traced e r → Traced (suc e) (add_branch S e l r)
  unfolding add_branch add_walk
  add_one_branch e None r w = end_branch e (length r.crossings) 0 r no_kept_crossings w (λ h. absurd (omega arith)) zero-le
  add_one_branch e (Some l) r w =
      let va = vertex_of l.sa S.occupied in
      let vb = vertex_of l.sb S.occupied in
      let t = traced S.corners S.twins (λ v. point_at S.centres v) va vb in
      let n = length r.crossings in
      let all = cross_all S va vb e 0 t.half_edges r in
      let p : KeptCrossings = record { first = n; count = cond t.kept (length t.half_edges) 0 } in
      subst
      (λ (ps : List KeptCrossings). Traced (suc e) (record { channels = all.channels; crossings = all.crossings; kept_crossings = ps ++ (p ∷ []) }))
      (cross_paths va vb e t.half_edges 0 r)
      (end_branch e n (0 + length t.half_edges) all p (cross_all_lem va vb e n t.half_edges 0 r w) (λ h. refl) (omega (arith, count_within t.kept (length t.half_edges))))

  traced_to_lem : (e : ℕ) → Traced e (traced_to S e)
  unfolding traced_to
  traced_to_lem zero = none_placed
  traced_to_lem (suc e) = add_one_branch e (get_or S.lines e None) (traced_to S e) (traced_to_lem e)

  pub routed : Traced (length S.lines) (routing S)
  unfolding routing
  routed = traced_to_lem (length S.lines)
