-- Where stations stand within bounds, each channel that lines cross is ready for spacing and runs between two occupied stations, each crossing is a line's, and its place is at most 1 in size. Assumes nothing.
use mathlib.Core.Path.{◌≡◌, refl, sym, subst}
use mathlib.Core.Logic.{◌⊎◌, inl, inr, ⊎_elim}
use mathlib.Core.Bool.{Bool, true, false, cond}
use mathlib.Core.List.{List, [], ◌∷◌, ◌++◌}
use Rattle.std.specs.Prelude.{Option, Some, None}
use Prim.Native.Nat.{ℕ, zero, suc, ◌+◌, ◌≤◌, ◌<◌}
use native.Mathlib.Nat.{min-eq_left, min-eq_right, max-eq_left, max-eq_right, le_of_lt}
use native.Mathlib.Omega.{arith}
use lib.Dec.{T, ltb, lit≤}
use lib.ListN.{length, get_or, get_or-eq_default}
use lib.Ieee.{nan, of_bits, of_fields, odd}
use Rattle.numbers.specs.Small.{is_finite}
use Rattle.numbers.specs.Size.{AtMost, most_test}
use Rattle.numbers.proofs.float.Keys.{plus}
use Rattle.numbers.proofs.float.SizeLaws.{most_lit}
use Rattle.numbers.proofs.order.Laws.{All}
use Rattle.numbers.proofs.order.Merging.{le_or_lt}
use Rattle.plane.proofs.crossing.Crossing.{place_most}
use Rattle.plane.proofs.geometry.PointSizes.{Near}
use Rattle.channels.proofs.spacing.SpaceSizes.{Ready}
use Rattle.channels.proofs.spacing.Crossed.{Stands, crossed_ready, crossed_ready_back}
use Rattle.network.specs.Mesh.{next, at, end_at, low_at, high_at}
use Rattle.channels.specs.Trace.{crosses_half_edge, traced}
use Rattle.channels.proofs.walk.Crossed.{traced_over}
use Rattle.plane.specs.Plane.{box_in}
use Rattle.routing.specs.Route.{MeshScene, RoutedLine, Routing, Keyed, Crossing, half, no_channel, no_crossing, vertex_of, number_of, station_at, centre_at, make_channel, with_channel, crossing_of, cross, cross_all, add_walk, add_branch, traced_to, routing}
use Rattle.routing.proofs.rounds.Routed.{by_more}

half_most : AtMost 1074 half
unfolding most_test is_finite of_bits of_fields odd
half_most = most_lit 1074 half tt

-- the lower and the higher vertex of a half-edge are its start and its end, or its end and its start
low_high : (corners : List ℕ) (h : ℕ) → ((low_at corners h ≡ at corners h) × (high_at corners h ≡ end_at corners h)) ⊎ ((low_at corners h ≡ end_at corners h) × (high_at corners h ≡ at corners h))
unfolding low_at high_at
low_high corners h =
    ⊎_elim
    (λ (l : at corners h ≤ end_at corners h). inl (min-eq_left l, max-eq_right l))
    (λ (l : end_at corners h < at corners h). inr (min-eq_right (le_of_lt l), max-eq_left (le_of_lt l)))
    (le_or_lt (at corners h) (end_at corners h))

-- ---- what a scene's stations and lines are to have, for exits within 2 ^ (k - 1074)
pub record Lined (k : ℕ) (S : MeshScene) (l : RoutedLine) : Type 0 where
  pub start : vertex_of l.sa S.occupied < length S.occupied
  pub end : vertex_of l.sb S.occupied < length S.occupied
  pub exit0 : Near k l.exit0
  pub exit1 : Near k l.exit1

pub record Firm (k : ℕ) (S : MeshScene) : Type 0 where
  pub stands : (v : ℕ) → v < length S.occupied → Stands (centre_at S v) (box_in S.boxes (station_at S v)) (get_or S.scales (station_at S v) nan)
  pub clearance : AtMost (1074 + 46) S.clearance
  pub clear : T (plus S.clearance)
  pub corners : (h : ℕ) → h < length S.corners → at S.corners h < length S.occupied
  pub lines : (e : ℕ) (l : RoutedLine) → get_or S.lines e None ≡ Some l → Lined k S l

-- ---- what its channels and crossings then have
module _ (S : MeshScene) where
  pub record Open (c : Keyed) : Type 0 where
    pub low : c.low < length S.occupied
    pub high : c.high < length S.occupied
    pub ready : Ready (1074 + 720) c.channel

  pub record Own (x : Crossing) : Type 0 where
    pub line : RoutedLine
    pub is : get_or S.lines x.branch None ≡ Some line
    pub place : AtMost 1074 x.fraction

  pub record Fine (r : Routing) : Type 0 where
    pub channels : (c : ℕ) → c < length r.channels → Open (get_or r.channels c no_channel)
    pub crossings : (x : ℕ) → x < length r.crossings → Own (get_or r.crossings x no_crossing)

  module _ (k : ℕ) (F : Firm k S) where
    -- every vertex is an occupied station's, past the mesh's end the first one's
    vertex_in : 0 < length S.occupied → (h : ℕ) → at S.corners h < length S.occupied
    vertex_in p h =
        ⊎_elim
        (λ (l : length S.corners ≤ h). subst (λ (v : ℕ). v < length S.occupied) (sym (get_or-eq_default S.corners 0 {n = h} l)) p)
        (λ (l : h < length S.corners). F.corners h l)
        (le_or_lt (length S.corners) h)

    end_in : 0 < length S.occupied → (h : ℕ) → end_at S.corners h < length S.occupied
    unfolding end_at
    end_in p h = vertex_in p (next h)

    module _ (va vb : ℕ) (A : va < length S.occupied) (B : vb < length S.occupied) where
      some_in : 0 < length S.occupied
      some_in = omega arith

      abbrev Known : ℕ → ℕ → Type 0
      Known a b = (a < length S.occupied) × (b < length S.occupied) × Ready (1074 + 720) (make_channel S a b).channel

      -- the channel of a half-edge that the line crosses, counted from its start or from its end
      forth : (h : ℕ) → crosses_half_edge S.corners (centre_at S) va vb h ≡ true → Known (at S.corners h) (end_at S.corners h)
      unfolding make_channel crosses_half_edge
      forth h e =
          let i = vertex_in some_in h in
          let j = end_in some_in h in
          let U = F.stands (at S.corners h) i in
          let W = F.stands (end_at S.corners h) j in
          (i, j, crossed_ready (centre_at S va) (centre_at S vb) (centre_at S (at S.corners h)) (centre_at S (end_at S.corners h)) _ _ _ _ S.clearance (F.stands va A).place (F.stands vb B).place U W F.clearance F.clear e)

      back : (h : ℕ) → crosses_half_edge S.corners (centre_at S) va vb h ≡ true → Known (end_at S.corners h) (at S.corners h)
      unfolding make_channel crosses_half_edge
      back h e =
          let i = vertex_in some_in h in
          let j = end_in some_in h in
          let U = F.stands (at S.corners h) i in
          let W = F.stands (end_at S.corners h) j in
          (j, i, crossed_ready_back (centre_at S va) (centre_at S vb) (centre_at S (at S.corners h)) (centre_at S (end_at S.corners h)) _ _ _ _ S.clearance (F.stands va A).place (F.stands vb B).place U W F.clearance F.clear e)

      known : (h : ℕ) → crosses_half_edge S.corners (centre_at S) va vb h ≡ true → Known (low_at S.corners h) (high_at S.corners h)
      known h e = go (low_at S.corners h) (high_at S.corners h) (low_high S.corners h)
        where
          go : (a b : ℕ) → ((a ≡ at S.corners h) × (b ≡ end_at S.corners h)) ⊎ ((a ≡ end_at S.corners h) × (b ≡ at S.corners h)) → Known a b
          go a b (inl q) = subst (λ (x : ℕ). Known x b) (sym q.0) (subst (λ (y : ℕ). Known (at S.corners h) y) (sym q.1) (forth h e))
          go a b (inr q) = subst (λ (x : ℕ). Known x b) (sym q.0) (subst (λ (y : ℕ). Known (end_at S.corners h) y) (sym q.1) (back h e))

      open_made : (a b : ℕ) → Known a b → Open (make_channel S a b)
      unfolding make_channel
      open_made a b q = record { low = q.0; high = q.1; ready = q.2 }

      with_open : (a b : ℕ) (ks : List Keyed) → Known a b → ((c : ℕ) → c < length ks → Open (get_or ks c no_channel)) → (c : ℕ) → c < length (with_channel S a b ks) → Open (get_or (with_channel S a b ks) c no_channel)
      unfolding with_channel
      with_open a b ks q f = go (ltb (number_of a b ks) (length ks))
        where
          go : (t : Bool) → (c : ℕ) → c < length (cond t ks (ks ++ (make_channel S a b ∷ []))) → Open (get_or (cond t ks (ks ++ (make_channel S a b ∷ []))) c no_channel)
          go true = f
          go false = by_more ks (make_channel S a b) no_channel (λ i c. Open c) f (open_made a b q)

      module _ (e : ℕ) (l : RoutedLine) (L : get_or S.lines e None ≡ Some l) where
        own_made : (i h : ℕ) (ks : List Keyed) → Known (low_at S.corners h) (high_at S.corners h) → Own (crossing_of S va vb e i h ks)
        unfolding crossing_of
        own_made i h ks q = record {
          line = l;
          is = L;
          place =
              place_most (1074 + 70) (centre_at S va) (centre_at S vb) (centre_at S (low_at S.corners h)) (centre_at S (high_at S.corners h)) half (lit≤ tt)
              (F.stands va A).place (F.stands vb B).place (F.stands (low_at S.corners h) q.0).place (F.stands (high_at S.corners h) q.1).place half_most;
        }

        cross_fine : (i h : ℕ) (r : Routing) → crosses_half_edge S.corners (centre_at S) va vb h ≡ true → Fine r → Fine (cross S va vb e i h r)
        unfolding cross
        cross_fine i h r c f =
            let q = known h c in
            record {
              channels = with_open (low_at S.corners h) (high_at S.corners h) r.channels q f.channels;
              crossings = by_more r.crossings (crossing_of S va vb e i h r.channels) no_crossing (λ j x. Own x) f.crossings (own_made i h r.channels q);
            }

        all_fine : (i : ℕ) (hs : List ℕ) (r : Routing) → All (λ h. crosses_half_edge S.corners (centre_at S) va vb h ≡ true) hs → Fine r → Fine (cross_all S va vb e i hs r)
        unfolding cross_all
        all_fine i [] r a f = f
        all_fine i (h ∷ hs) r a f = all_fine (suc i) hs (cross S va vb e i h r) a.1 (cross_fine i h r a.0 f)

    branch_fine : (e : ℕ) (o : Option RoutedLine) (r : Routing) → get_or S.lines e None ≡ o → Fine r → Fine (add_branch S e o r)
    unfolding add_branch add_walk
    branch_fine e None r E f = record { channels = f.channels; crossings = f.crossings }
    branch_fine e (Some l) r E f =
        let va = vertex_of l.sa S.occupied in
        let vb = vertex_of l.sb S.occupied in
        let K = F.lines e l E in
        let z = all_fine va vb K.start K.end e l E 0 (traced S.corners S.twins (centre_at S) va vb).half_edges r (traced_over S.corners S.twins (centre_at S) va vb) f in
        record { channels = z.channels; crossings = z.crossings }

    to_fine : (e : ℕ) → Fine (traced_to S e)
    unfolding traced_to
    to_fine zero = record { channels = λ c h. absurd (omega arith); crossings = λ x h. absurd (omega arith) }
    to_fine (suc e) = branch_fine e (get_or S.lines e None) (traced_to S e) refl (to_fine e)

    pub routing_fine : Fine (routing S)
    unfolding routing
    routing_fine = to_fine (length S.lines)
