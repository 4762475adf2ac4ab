-- Every channel is that of a half-edge of the mesh, so there are at most as many channels as half-edges. Assumes nothing.
use mathlib.Core.Path.{◌≡◌, sym, ap, ◌∙◌, subst}
use mathlib.Core.Logic.{⊎_elim}
use mathlib.Core.Bool.{true}
use mathlib.Core.List.{List, [], ◌∷◌, ◌++◌}
use Rattle.std.specs.Prelude.{Option, Some, None}
use Prim.Native.Nat.{ℕ, zero, suc, ◌≤◌, ◌<◌}
use native.Mathlib.Omega.{arith}
use lib.ListN.{length, get_or, length-append}
use Rattle.numbers.proofs.order.Laws.{All}
use Rattle.numbers.proofs.order.Merging.{le_or_lt}
use Rattle.network.specs.Mesh.{low_at, high_at, mesh_ok}
use Rattle.network.proofs.mesh.Meshes.{Sound, mesh_sound}
use Rattle.network.proofs.mesh.Pigeons.{channels_few}
use Rattle.channels.specs.Trace.{traced}
use Rattle.channels.proofs.walk.Walks.{traced_in}
use Rattle.routing.specs.Route.{MeshScene, Routing, Keyed, RoutedLine, no_channel, number_of, vertex_of, centre_at, make_channel, with_channel, cross, cross_all, add_walk, add_branch, traced_to, routing}
use Rattle.routing.specs.Stages.Views.{HalfEdged}
use Rattle.routing.proofs.crossings.Numbers.{same_key, number_le, number_front, number_new, number_keyed, with_old, with_new, made_low, made_high}

module _ (S : MeshScene) where
  abbrev low_of : ℕ → ℕ
  low_of h = low_at S.corners h

  abbrev high_of : ℕ → ℕ
  high_of h = high_at S.corners h

  -- each number is that of a half-edge
  abbrev Known : List Keyed → Type 0
  Known ks = (c : ℕ) → c < length ks → (h : ℕ) × (h < length S.corners) × (number_of (low_of h) (high_of h) ks ≡ c)

  module _ (h : ℕ) (ks : List Keyed) (l : h < length S.corners) (f : Known ks) where
    abbrev made : Keyed
    made = make_channel S (low_of h) (high_of h)

    known_new : number_of (low_of h) (high_of h) ks ≡ length ks → Known (ks ++ (made ∷ []))
    known_new full c g = ⊎_elim (λ (z : length ks ≤ c). last z) (λ (z : c < length ks). old z) (le_or_lt (length ks) c)
      where
        old : c < length ks → (i : ℕ) × (i < length S.corners) × (number_of (low_of i) (high_of i) (ks ++ (made ∷ [])) ≡ c)
        old z = let w = f c z in (w.0, w.1, number_front (low_of w.0) (high_of w.0) ks (made ∷ []) (omega (arith, w.2)) ∙ w.2)

        last : length ks ≤ c → (i : ℕ) × (i < length S.corners) × (number_of (low_of i) (high_of i) (ks ++ (made ∷ [])) ≡ c)
        last z =
            let e : length ks ≡ c = omega (arith, length-append ks (made ∷ [])) in
            (h, l, number_new (low_of h) (high_of h) ks made full (same_key (low_of h) (high_of h) made (made_low S (low_of h) (high_of h) ks) (made_high S (low_of h) (high_of h) ks)) ∙ e)

    known_more : Known (with_channel S (low_of h) (high_of h) ks)
    known_more =
        ⊎_elim
        (λ (z : length ks ≤ number_of (low_of h) (high_of h) ks).
        let e : number_of (low_of h) (high_of h) ks ≡ length ks = omega (arith, number_le (low_of h) (high_of h) ks) in
        subst Known (sym (with_new S (low_of h) (high_of h) ks e)) (known_new e))
        (λ (z : number_of (low_of h) (high_of h) ks < length ks). subst Known (sym (with_old S (low_of h) (high_of h) ks z)) f)
        (le_or_lt (length ks) (number_of (low_of h) (high_of h) ks))

  known_all : (va vb e k : ℕ) (hs : List ℕ) (r : Routing) → All (λ h. h < length S.corners) hs → Known r.channels → Known (cross_all S va vb e k hs r).channels
  unfolding cross_all cross
  known_all va vb e k [] r i f = f
  known_all va vb e k (h ∷ hs) r i f = known_all va vb e (suc k) hs (cross S va vb e k h r) i.1 (known_more h r.channels i.0 f)

  module _ (n : ℕ) (ok : mesh_ok S.corners S.twins n ≡ true) where
    sound : Sound S.corners S.twins n
    sound = mesh_sound S.corners S.twins n ok

    known_branch : (e : ℕ) (l : Option RoutedLine) (r : Routing) → Known r.channels → Known (add_branch S e l r).channels
    unfolding add_branch add_walk
    known_branch e None r f = f
    known_branch e (Some l) r f =
        let va = vertex_of l.sa S.occupied in
        let vb = vertex_of l.sb S.occupied in
        known_all va vb e 0 (traced S.corners S.twins (centre_at S) va vb).half_edges r (traced_in S.corners S.twins (centre_at S) va vb n sound) f

    known_to : (e : ℕ) → Known (traced_to S e).channels
    unfolding traced_to
    known_to zero = λ c h. absurd (omega arith)
    known_to (suc e) = known_branch e (get_or S.lines e None) (traced_to S e) (known_to e)

    known : Known (routing S).channels
    unfolding routing
    known = known_to (length S.lines)

    -- at most as many channels as the mesh is long
    pub routing_few : length (routing S).channels ≤ length S.corners
    routing_few = channels_few S.corners (λ a b. number_of a b (routing S).channels) (length (routing S).channels) known

    -- each between the vertices of a half-edge of the mesh
    pub channel_edge : (c : ℕ) → c < length (routing S).channels → (h : ℕ) × HalfEdged S.corners (get_or (routing S).channels c no_channel) h
    channel_edge c l =
        let w = known c l in
        let ks = (routing S).channels in
        let q : number_of (low_of w.0) (high_of w.0) ks ≡ c = w.2 in
        let z = number_keyed (low_of w.0) (high_of w.0) ks (omega arith) in
        (w.0, record { inside = w.1; low = sym z.0 ∙ ap (λ (i : ℕ). (get_or ks i no_channel).low) q; high = sym z.1 ∙ ap (λ (i : ℕ). (get_or ks i no_channel).high) q })
