-- How many crossings there are: at most as many for each branch as the mesh is long, and as many places after the rounds. Assumes nothing.
use mathlib.Core.Path.{◌≡◌, refl, sym, ap, ◌∙◌, subst}
use mathlib.Core.Logic.{⊎_elim}
use mathlib.Core.Bool.{Bool, true, false, cond}
use mathlib.Core.List.{List, [], ◌∷◌, ◌++◌}
use Rattle.std.specs.Prelude.{Option, Some, None}
use Prim.Native.Nat.{ℕ, zero, suc, ◌+◌, ◌*◌, ◌≤◌, ◌<◌, zero-le}
use native.Mathlib.Omega.{arith}
use lib.ListN.{length, get_or, length-append, length-map, get_or-append}
use lib.Seq.{get_or-append_seam}
use lib.Ieee.{Float}
use Rattle.numbers.proofs.order.Merging.{le_or_lt}
use Rattle.channels.proofs.spacing.Spacing.{length_put}
use Rattle.channels.specs.Trace.{Walk, traced}
use Rattle.channels.proofs.walk.Walks.{traced_short}
use Rattle.routing.specs.Route.{MeshScene, Routing, Crossing, KeptCrossings, RoutedLine, no_kept_crossings, vertex_of, centre_at, add_walk, add_branch, traced_to, routing, space_one, spaced_to, rounds_to}
use Rattle.routing.proofs.tracing.Tracing.{cross_long}

-- ---- places after the rounds

module _ (S : MeshScene) (r : Routing) where
  pub length_one : (c : ℕ) (ps : List Float) → length (space_one S r c ps) ≡ length ps
  unfolding space_one
  length_one c ps = length_put _ _ ps

  length_spaced : (c : ℕ) (ps : List Float) → length (spaced_to S r c ps) ≡ length ps
  unfolding spaced_to
  length_spaced zero ps = refl
  length_spaced (suc c) ps = length_one c (spaced_to S r c ps) ∙ length_spaced c ps

  pub length_rounds : (n : ℕ) → length (rounds_to S r n) ≡ length r.crossings
  unfolding rounds_to
  length_rounds zero = length-map r.crossings (λ (x : Crossing). x.fraction)
  length_rounds (suc n) = length_spaced (length r.channels) (rounds_to S r n) ∙ length_rounds n

-- ---- crossings

-- after e branches: at most n for each
pub record Few (n e : ℕ) (r : Routing) : Type 0 where
  pub kept_crossings : length r.kept_crossings ≡ e
  pub many : length r.crossings ≤ e * n
  pub each : (i : ℕ) → i < e → (get_or r.kept_crossings i no_kept_crossings).count ≤ n

few_more : (n e : ℕ) (r q : Routing) (p : KeptCrossings) → q.kept_crossings ≡ r.kept_crossings ++ (p ∷ []) → length q.crossings ≤ length r.crossings + n → p.count ≤ n → Few n e r → Few n (suc e) q
few_more n e r q p list more count f =
    record {
      kept_crossings = ap length list ∙ length-append r.kept_crossings (p ∷ []) ∙ omega (arith, f.kept_crossings);
      many = omega (arith, f.many);
      each = λ i h. subst (λ (l : List KeptCrossings). (get_or l i no_kept_crossings).count ≤ n) (sym list) (⊎_elim (λ (z : e ≤ i). last i (omega arith)) (λ (z : i < e). old i z) (le_or_lt e i));
    }
  where
    old : (i : ℕ) → i < e → (get_or (r.kept_crossings ++ (p ∷ [])) i no_kept_crossings).count ≤ n
    old i z = subst (λ (x : KeptCrossings). x.count ≤ n) (sym (get_or-append r.kept_crossings (p ∷ []) no_kept_crossings i (omega (arith, f.kept_crossings)))) (f.each i z)

    last : (i : ℕ) → i ≡ e → (get_or (r.kept_crossings ++ (p ∷ [])) i no_kept_crossings).count ≤ n
    last i z = subst (λ (x : KeptCrossings). x.count ≤ n) (sym (ap (λ (k : ℕ). get_or (r.kept_crossings ++ (p ∷ [])) k no_kept_crossings) (z ∙ sym f.kept_crossings) ∙ get_or-append_seam r.kept_crossings p [] no_kept_crossings)) count

kept_few : (t : Bool) (n : ℕ) → cond t n 0 ≤ n
kept_few true n = omega arith
kept_few false n = zero-le

module _ (S : MeshScene) where
  abbrev long : ℕ
  long = length S.corners

  few_walk : (va vb e : ℕ) (w : Walk) (r : Routing) → length w.half_edges ≤ long → Few long e r → Few long (suc e) (add_walk S va vb e w r)
  unfolding add_walk
  few_walk va vb e w r h f =
      few_more long e r (add_walk S va vb e w r) (record { first = length r.crossings; count = cond w.kept (length w.half_edges) 0 }) refl
      (omega (arith, cross_long S va vb e 0 w.half_edges r)) (omega (arith, kept_few w.kept (length w.half_edges))) f

  few_branch : (e : ℕ) (l : Option RoutedLine) (r : Routing) → Few long e r → Few long (suc e) (add_branch S e l r)
  unfolding add_branch
  few_branch e None r f = few_more long e r (add_branch S e None r) no_kept_crossings refl (omega arith) zero-le f
  few_branch e (Some l) r f =
      let va = vertex_of l.sa S.occupied in
      let vb = vertex_of l.sb S.occupied in
      few_walk va vb e (traced S.corners S.twins (centre_at S) va vb) r (traced_short S.corners S.twins (centre_at S) va vb) f

  few_to : (e : ℕ) → Few long e (traced_to S e)
  unfolding traced_to
  few_to zero = record { kept_crossings = refl; many = zero-le; each = λ i h. absurd (omega arith) }
  few_to (suc e) = few_branch e (get_or S.lines e None) (traced_to S e) (few_to e)

  pub routing_short : Few (length S.corners) (length S.lines) (routing S)
  unfolding routing
  routing_short = few_to (length S.lines)
