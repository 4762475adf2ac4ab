-- The rounds of spacing keep every crossing's place within 2 ^ 32, so every waypoint has a bound. Assumes nothing.
use mathlib.Core.Path.{◌≡◌, refl, sym, ◌∙◌, subst}
use mathlib.Core.Bool.{Bool, true, false, cond}
use mathlib.Core.List.{List, [], ◌∷◌, map}
use Rattle.std.specs.Prelude.{Option, Some, None}
use Prim.Native.Nat.{ℕ, zero, suc, ◌+◌, ◌-◌, ◌*◌, ◌^◌, ◌≤◌, ◌<◌}
use native.Mathlib.Nat.{le_trans, le_of_eq, mul-le-mul}
use native.Mathlib.Omega.{arith}
use lib.Dec.{ltb, eqb, lit≤}
use lib.ListN.{length, get_or, length-map}
use lib.Ieee.{Float, nan}
use borrow.Author.Tests.{ltb-true, eqb-false}
use Rattle.numbers.specs.Ops.{f0, ◌⊕◌, ◌⊖◌, ◌⊗◌}
use Rattle.numbers.specs.Size.{AtMost}
use Rattle.numbers.proofs.float.SizeLaws.{most_weaken, add_under, sub_most, mul_most, f0_most}
use Rattle.numbers.proofs.float.Each.{Each, each_at}
use Rattle.numbers.specs.Order.{up_from}
use Rattle.numbers.proofs.order.Laws.{All, all_map}
use Rattle.numbers.proofs.order.Tables.{all_which, how_many_le, length_which}
use Rattle.plane.specs.declared.geometry.Point.{Point}
use Rattle.plane.specs.declared.crossing.Param.{Param}
use Rattle.plane.specs.declared.crossing.Param.TheVariants.{At, Parallel}
use Rattle.plane.specs.Cross.{param, fraction_or}
use Rattle.plane.proofs.crossing.Crossing.{place_most}
use Rattle.plane.proofs.geometry.PointSizes.{Near}
use Rattle.channels.specs.Space.{wish_order, in_order, spaced}
use Rattle.channels.proofs.spacing.SpaceSizes.{put_most, ordered_most}
use Rattle.boxes.proofs.detour.DetourSizes.{Points}
use Rattle.routing.specs.Route.{MeshScene, RoutedLine, Routing, Crossing, no_crossing, centre_at, crossing_at, channel_at, kept_crossings_at, point_on, point_of, members, exit_of, wish, space_one, spaced_to, rounds_to, routing, waypoints}
use Rattle.routing.proofs.rounds.Routed.{Traced, routed}
use Rattle.routing.proofs.rounds.CrossedSizes.{Firm, Fine, routing_fine}
use Rattle.routing.specs.Routes.{crossings_of}
use Rattle.routing.proofs.routes.Few.{length_one, routing_short}

-- a place held to 0..1, or another of any bound
place_under : (m g : ℕ) (p q u w : Point) (other : Float) → m ≤ 1500 → 1074 ≤ g → Near m p → Near m q → Near m u → Near m w → AtMost g other → AtMost g (fraction_or (param p q u w) other)
unfolding fraction_or
place_under m g p q u w other M G P Q U W o = go (param p q u w) (place_most m p q u w f0 M P Q U W (f0_most 1074))
  where
    go : (z : Param) → AtMost 1074 (fraction_or z f0) → AtMost g (fraction_or z other)
    go (At t) h = most_weaken 1074 g t G h
    go Parallel h = o

map_each : (P : Float → Type 0) (f : ℕ → Float) (l : List ℕ) → All (λ x. P (f x)) l → Each P (map f l)
map_each P f [] a = tt
map_each P f (x ∷ xs) a = (a.0, map_each P f xs a.1)

places_each : (l : List Crossing) → ((x : ℕ) → x < length l → AtMost 1074 (get_or l x no_crossing).fraction) → Each (AtMost 1106) (map (λ (x : Crossing). x.fraction) l)
places_each [] h = tt
places_each (x ∷ xs) h = (most_weaken 1074 1106 x.fraction (lit≤ tt) (h 0 (omega arith)), places_each xs (λ i l. h (suc i) (omega arith)))

points_up : (k : ℕ) (f : ℕ → Point) (a n : ℕ) → ((x : ℕ) → x < a + n → Near k (f x)) → Points k (map f (up_from a n))
unfolding up_from
points_up k f a zero h = tt
points_up k f a (suc n) h = (h a (omega arith), points_up k f (suc a) n (λ x l. h x (omega arith)))

module _ (k : ℕ) (K : 1074 + 104 ≤ k) (M : k ≤ 1500) (S : MeshScene) (F : Firm k S) (few : length S.lines ≤ 8192) (short : length S.corners ≤ 24576) where
  abbrev r : Routing
  r = routing S

  abbrev total : ℕ
  total = length (routing S).crossings

  fine : Fine S (routing S)
  fine = routing_fine S k F

  traced : Traced S (length S.lines) (routing S)
  traced = routed S

  crossings_few : total ≤ 2 ^ 28
  crossings_few =
      let p : length S.lines * length S.corners ≤ 8192 * 24576 = mul-le-mul few short in
      le_trans (routing_short S).many (le_trans p (lit≤ tt))

  in_channel : (x : ℕ) → x < total → (crossing_at S (routing S) x).channel < length (routing S).channels
  in_channel x l = traced.numbered x (omega arith)

  -- ---- a place on a channel
  module _ (c : ℕ) (l : c < length (routing S).channels) where
    low_near : Near (1074 + 70) (centre_at S (channel_at S (routing S) c).low)
    low_near = (F.stands (channel_at S (routing S) c).low (fine.channels c l).low).place

    high_near : Near (1074 + 70) (centre_at S (channel_at S (routing S) c).high)
    high_near = (F.stands (channel_at S (routing S) c).high (fine.channels c l).high).place

    along : (t a b : Float) → AtMost 1106 t → AtMost (1074 + 70) a → AtMost (1074 + 70) b → AtMost k (a ⊕ t ⊗ (b ⊖ a))
    along t a b h A B =
        add_under (1074 + 70) (1074 + 103) k a (t ⊗ (b ⊖ a)) (omega arith) (omega arith) (omega arith) A
        (mul_most 1106 (1074 + 71) (1074 + 103) t (b ⊖ a) (lit≤ tt) (lit≤ tt) h (sub_most (1074 + 70) b a (lit≤ tt) B A))

    on_near : (t : Float) → AtMost 1106 t → Near k (point_on S (routing S) c t)
    unfolding point_on
    on_near t h = record { x = along t _ _ h low_near.x high_near.x; y = along t _ _ h low_near.y high_near.y }

    wide : (p : Point) → Near (1074 + 70) p → Near k p
    wide p h = record { x = most_weaken (1074 + 70) k p.x (omega arith) h.x; y = most_weaken (1074 + 70) k p.y (omega arith) h.y }

  -- ---- places of all crossings
  record Spread (ps : List Float) : Type 0 where
    long : length ps ≡ total
    each : Each (AtMost 1106) ps

  module _ (ps : List Float) (P : Spread ps) where
    at_place : (x : ℕ) → x < total → AtMost 1106 (get_or ps x nan)
    at_place x l = each_at (AtMost 1106) ps x nan (omega (arith, P.long)) P.each

    point_near : (x : ℕ) → x < total → Near k (point_of S (routing S) ps x)
    unfolding point_of
    point_near x l = on_near (crossing_at S (routing S) x).channel (in_channel x l) (get_or ps x nan) (at_place x l)

    module _ (x : ℕ) (l : x < total) where
      abbrev c : Crossing
      c = crossing_at S (routing S) x

      abbrev count : ℕ
      count = (kept_crossings_at S (routing S) c.branch).count

      exit_near : (second : Bool) → Near k (exit_of S (routing S) second (get_or S.lines c.branch None))
      exit_near second =
          let o = fine.crossings x l in
          subst (λ (z : Option RoutedLine). Near k (exit_of S (routing S) second z)) (sym o.is) (go second o.line (F.lines c.branch o.line o.is).exit0 (F.lines c.branch o.line o.is).exit1)
        where
          go : (b : Bool) (z : RoutedLine) → Near k z.exit0 → Near k z.exit1 → Near k (exit_of S (routing S) b (Some z))
          go false z h i = unfold exit_of in h
          go true z h i = unfold exit_of in i

      before_near : Near k (cond (eqb c.on_line 0) (exit_of S (routing S) false (get_or S.lines c.branch None)) (point_of S (routing S) ps (x - 1)))
      before_near = go (eqb c.on_line 0)
        where
          go : (b : Bool) → Near k (cond b (exit_of S (routing S) false (get_or S.lines c.branch None)) (point_of S (routing S) ps (x - 1)))
          go true = exit_near false
          go false = point_near (x - 1) (omega arith)

      behind_near : c.on_line < count → Near k (cond (eqb (suc c.on_line) count) (exit_of S (routing S) true (get_or S.lines c.branch None)) (point_of S (routing S) ps (suc x)))
      behind_near h = go (eqb (suc c.on_line) count) refl
        where
          go : (b : Bool) → eqb (suc c.on_line) count ≡ b → Near k (cond b (exit_of S (routing S) true (get_or S.lines c.branch None)) (point_of S (routing S) ps (suc x)))
          go true e = exit_near true
          go false e =
              let o = traced.old x l in
              let i = traced.inside c.branch o.branch in
              let d = eqb-false (suc c.on_line) count e in
              point_near (suc x) (inner (kept_crossings_at S (routing S) c.branch).first c.on_line count x total o.on_line i h d)
            where
              inner : (first on_line count x total : ℕ) → first + on_line ≡ x → first + count ≤ total → on_line < count → (suc on_line ≡ count → ⊥) → suc x < total
              inner first on_line count x total s i h d = omega arith

      wish_most : AtMost 1106 (wish S (routing S) ps x)
      unfolding wish
      wish_most = go (ltb c.on_line count) refl
        where
          n : ℕ
          n = c.channel

          go : (b : Bool) → ltb c.on_line count ≡ b
              → AtMost 1106
              (cond b
              (fraction_or
              (param
              (cond (eqb c.on_line 0) (exit_of S (routing S) false (get_or S.lines c.branch None)) (point_of S (routing S) ps (x - 1)))
              (cond (eqb (suc c.on_line) count) (exit_of S (routing S) true (get_or S.lines c.branch None)) (point_of S (routing S) ps (suc x)))
              (centre_at S (channel_at S (routing S) c.channel).low)
              (centre_at S (channel_at S (routing S) c.channel).high))
              (get_or ps x nan))
              (get_or ps x nan))
          go true e =
              place_under k 1106 _ _ _ _ (get_or ps x nan) M (lit≤ tt) before_near (behind_near (ltb-true c.on_line count e))
              (wide n (in_channel x l) _ (low_near n (in_channel x l))) (wide n (in_channel x l) _ (high_near n (in_channel x l))) (at_place x l)
          go false e = at_place x l

    -- ---- one channel spaced
    members_in : (c : ℕ) → All (λ x. x < total) (members S (routing S) c)
    unfolding members
    members_in c = all_which (λ x. eqb (crossing_at S (routing S) x).channel c) (λ x. x < total) total (λ x l e. l)

    members_few : (c : ℕ) → length (members S (routing S) c) ≤ 2 ^ 28
    unfolding members
    members_few c =
        let p : ℕ → Bool = (λ x. eqb (crossing_at S (routing S) x).channel c) in
        le_trans (le_of_eq (length_which p total)) (le_trans (how_many_le p total) crossings_few)

    one_spread : (c : ℕ) → c < length (routing S).channels → Spread (space_one S (routing S) c ps)
    unfolding space_one
    one_spread c l =
        let ms = members S (routing S) c in
        let ws = map (wish S (routing S) ps) ms in
        let o = wish_order ws in
        let R = (fine.channels c l).ready in
        let C = (channel_at S (routing S) c).channel in
        let W : Each (AtMost 1106) ws = map_each (AtMost 1106) (wish S (routing S) ps) ms (all_map (λ x. x < total) (λ x. AtMost 1106 (wish S (routing S) ps x)) (λ x h. wish_most x h) ms (members_in c)) in
        record {
          long = length_one S (routing S) c ps ∙ P.long;
          each =
              put_most (1074 + 720) C (lit≤ tt) R (map (λ j. get_or ms j 0) o) (spaced C (in_order ws o)) ps
              (ordered_most (1074 + 720) C (lit≤ tt) R ws (le_trans (le_of_eq (length-map ms (wish S (routing S) ps))) (members_few c)) W) P.each;
        }

  to_spread : (c : ℕ) (ps : List Float) → c ≤ length (routing S).channels → Spread ps → Spread (spaced_to S (routing S) c ps)
  unfolding spaced_to
  to_spread zero ps l P = P
  to_spread (suc c) ps l P = one_spread (spaced_to S (routing S) c ps) (to_spread c ps (omega arith) P) c l

  rounds_spread : (n : ℕ) → Spread (rounds_to S (routing S) n)
  unfolding rounds_to
  rounds_spread zero = record { long = length-map (routing S).crossings (λ (x : Crossing). x.fraction); each = places_each (routing S).crossings (λ x l. (fine.crossings x l).place) }
  rounds_spread (suc n) = to_spread (length (routing S).channels) (rounds_to S (routing S) n) (omega arith) (rounds_spread n)

  -- the places of crossings after n rounds
  pub crossings_most : (n : ℕ) → Each (AtMost 1106) (crossings_of S n)
  unfolding crossings_of
  crossings_most n = (rounds_spread n).each

  -- the waypoints of branch e at these places
  pub ways_near : (n e : ℕ) → e < length S.lines → Points k (waypoints S (routing S) (crossings_of S n) e)
  unfolding waypoints crossings_of
  ways_near n e l =
      points_up k (point_of S (routing S) (rounds_to S (routing S) n)) (kept_crossings_at S (routing S) e).first (kept_crossings_at S (routing S) e).count
      (λ x h. point_near (rounds_to S (routing S) n) (rounds_spread n) x (let i = traced.inside e l in omega arith))
