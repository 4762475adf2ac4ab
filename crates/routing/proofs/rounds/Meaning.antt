-- The rounds over the lists are the rounds of the definition (Route), where the lists hold the routing. Assumes nothing.
use mathlib.Core.Path.{◌≡◌, refl, sym, ap, ◌∙◌}
use mathlib.Core.Logic.{⊎_elim}
use mathlib.Core.Bool.{true, false, cond}
use mathlib.Core.List.{List, [], ◌∷◌, map}
use Rattle.std.specs.Prelude.{Option, None}
use Prim.Native.Nat.{ℕ, zero, suc, ◌+◌, ◌-◌, ◌*◌, ◌≤◌, ◌<◌, zero-le, suc-le-suc}
use native.Mathlib.Omega.{arith}
use native.Mathlib.Numerals.{add-one}
use lib.Dec.{ltb, eqb}
use lib.ListN.{length, get_or, take, set, length-map, length-take}
use lib.Seq.{get_or-take, take-set-le, take-set-lt, set_out}
use lib.Ieee.{Float, nan}
use borrow.Author.Tests.{lt-ltb, le-ltb, le-leb, lt-leb, eq-eqb, ne_eqb}
use Rattle.numbers.specs.Order.{up_from}
use Rattle.numbers.specs.Table.{table}
use Rattle.numbers.proofs.order.Laws.{all_at, all_keep, all_below, get_d_map}
use Rattle.numbers.proofs.order.Merging.{le_or_lt}
use Rattle.numbers.proofs.order.Tables.{get_d_table, length_table, table_ext}
use Rattle.numbers.proofs.order.Strides.{is_table}
use Rattle.plane.specs.declared.geometry.Point.{Point}
use Rattle.plane.specs.Cross.{param, fraction_or}
use Rattle.channels.specs.declared.channel.Channel.{Channel}
use Rattle.channels.specs.Space.{wish_order, in_order, spaced, put_all}
use Rattle.channels.proofs.spacing.Spacing.{length_order, wish_below}
use Rattle.runs.specs.Stages.Views.{first_exit, second_exit}
use Rattle.routing.specs.Route.{MeshScene, RoutedLine, Routing, Crossing, crossing_at, channel_at, kept_crossings_at, centre_at, point_on, point_of, members, exit_of, wish, space_one, spaced_to, rounds_to}
use Rattle.routing.specs.Stages.RoundLists.{RoundLists, edge_held, start_held, point_held, low_in, high_in, between, read_channel, point_in, before_in, behind_in, wish_in, space_by, space_in, spaced_in, rounds_in}
use Rattle.channels.specs.Stages.Grouped.{member_in}

-- what the lists say of the routing, crossing by crossing and channel by channel
pub record Means (S : MeshScene) (r : Routing) (occupied : ℕ) (H : RoundLists) : Type 0 where
  pub channel : (x : ℕ) → x < length r.crossings → get_or H.numbers (3 * x) 0 ≡ (crossing_at S r x).channel
  pub branch : (x : ℕ) → x < length r.crossings → get_or H.numbers (3 * x + 1) 0 ≡ (crossing_at S r x).branch
  pub known : (x : ℕ) → x < length r.crossings → (crossing_at S r x).channel < length r.channels
  pub on_line : (x : ℕ) → x < length r.crossings → get_or H.ends (4 * (crossing_at S r x).branch + 2) 0 + (crossing_at S r x).on_line ≡ x
  pub count : (x : ℕ) → x < length r.crossings → get_or H.ends (4 * (crossing_at S r x).branch + 3) 0 ≡ (kept_crossings_at S r (crossing_at S r x).branch).count
  pub inside : (x : ℕ) → x < length r.crossings
      → get_or H.ends (4 * (crossing_at S r x).branch + 2) 0 + (kept_crossings_at S r (crossing_at S r x).branch).count ≤ length r.crossings
  pub leaves : (x : ℕ) → x < length r.crossings → first_exit H.base H.places (crossing_at S r x).branch ≡ exit_of S r false (get_or S.lines (crossing_at S r x).branch None)
  pub enters : (x : ℕ) → x < length r.crossings → second_exit H.base H.places (crossing_at S r x).branch ≡ exit_of S r true (get_or S.lines (crossing_at S r x).branch None)
  pub low : (c : ℕ) → c < length r.channels → low_in H.corners H.centres (edge_held H c) ≡ centre_at S (channel_at S r c).low
  pub high : (c : ℕ) → c < length r.channels → high_in H.corners H.centres (edge_held H c) ≡ centre_at S (channel_at S r c).high
  pub range : (c : ℕ) → c < length r.channels → read_channel occupied H.centres c ≡ (channel_at S r c).channel
  pub consecutive : (c : ℕ) → c < length r.channels → table (λ i. member_in H.numbers (start_held H c + i)) (start_held H (c + 1) - start_held H c) ≡ members S r c

-- ---- lists

take_short : (n : ℕ) (l : List Float) → length (take n l) ≤ n
take_short n l = simp length-take (omega arith)

take_set : (n : ℕ) (l : List Float) (i : ℕ) (v : Float) → take n (set l i v) ≡ set (take n l) i v
take_set n l i v =
    ⊎_elim
    (λ (h : n ≤ i). take-set-le n l i v h ∙ sym (set_out (take n l) i v (omega (arith, take_short n l))))
    (λ (h : i < n). take-set-lt n l i v h)
    (le_or_lt n i)

pub take_put : (n : ℕ) (xs : List ℕ) (ts l : List Float) → take n (put_all xs ts l) ≡ put_all xs ts (take n l)
unfolding put_all
take_put n [] ts l = refl
take_put n (x ∷ xs) [] l = refl
take_put n (x ∷ xs) (t ∷ ts) l = take_put n xs ts (set l x t) ∙ ap (put_all xs ts) (take_set n l x t)

map_at : {A : Type 0} (f g : ℕ → A) (l : List ℕ) → ((p : ℕ) → p < length l → f (get_or l p 0) ≡ g (get_or l p 0)) → map f l ≡ map g l
map_at f g [] h = refl
map_at f g (x ∷ xs) h = ap (λ (a : _). a ∷ map f xs) (h 0 (suc-le-suc zero-le)) ∙ ap (λ (t : List _). g x ∷ t) (map_at f g xs (λ p k. h (suc p) (suc-le-suc k)))

map_table : (f : ℕ → Float) (at : ℕ → ℕ) (n : ℕ) → map f (table at n) ≡ table (λ i. f (at i)) n
map_table f at n =
    is_table (λ i. f (at i)) n (map f (table at n)) nan (length-map (table at n) f ∙ length_table at n)
    (λ k h. get_d_map f (table at n) k nan (omega (arith, length_table at n)) ∙ ap f (get_d_table at n k 0 h))

module _ (S : MeshScene) (r : Routing) (occupied : ℕ) (H : RoundLists) (M : Means S r occupied H) where
  abbrev X : ℕ
  X = length r.crossings

  -- ---- points and wishes

  point_by : (ps : List Float) (x : ℕ) → point_of S r ps x ≡ between (centre_at S (channel_at S r (crossing_at S r x).channel).low) (centre_at S (channel_at S r (crossing_at S r x).channel).high) (get_or ps x nan)
  unfolding point_of point_on between
  point_by ps x = refl

  pub point_is : (l : List Float) (x : ℕ) → x < X → point_held H l x ≡ point_of S r (take X l) x
  unfolding point_in
  point_is l x h =
      let c = (crossing_at S r x).channel in
      ap (λ (k : ℕ). between (low_in H.corners H.centres (edge_held H k)) (high_in H.corners H.centres (edge_held H k)) (get_or l x nan)) (M.channel x h)
      ∙ ap (λ (u : Point). between u (high_in H.corners H.centres (edge_held H c)) (get_or l x nan)) (M.low c (M.known x h))
      ∙ ap (λ (w : Point). between (centre_at S (channel_at S r c).low) w (get_or l x nan)) (M.high c (M.known x h))
      ∙ ap (between (centre_at S (channel_at S r c).low) (centre_at S (channel_at S r c).high)) (sym (get_or-take X l x nan h))
      ∙ sym (point_by (take X l) x)

  module _ (l : List Float) (x : ℕ) (h : x < X) where
    abbrev ps : List Float
    ps = take X l

    abbrev own : Crossing
    own = crossing_at S r x

    abbrev first : ℕ
    first = get_or H.ends (4 * own.branch + 2) 0

    abbrev count : ℕ
    count = (kept_crossings_at S r own.branch).count

    abbrev line : Option RoutedLine
    line = get_or S.lines own.branch None

    before_is : before_in H l own.branch first x ≡ cond (eqb own.on_line 0) (exit_of S r false line) (point_of S r ps (x - 1))
    unfolding before_in
    before_is =
        let at = M.on_line x h in
        ⊎_elim
        (λ (z : own.on_line ≤ 0).
        rw (le-leb x first (omega arith), eq-eqb own.on_line 0 (omega arith)) (M.leaves x h))
        (λ (z : 0 < own.on_line). rw (lt-leb x first (omega arith), ne_eqb own.on_line 0 (λ e. omega arith)) (point_is l (x - 1) (omega arith)))
        (le_or_lt own.on_line 0)

    behind_is : own.on_line < count → behind_in H l own.branch (first + count) x ≡ cond (eqb (suc own.on_line) count) (exit_of S r true line) (point_of S r ps (suc x))
    unfolding behind_in
    behind_is g =
        let at = M.on_line x h in
        let most = M.inside x h in
        ⊎_elim
        (λ (z : count ≤ suc own.on_line). rw (le-leb (first + count) (x + 1) (omega arith), eq-eqb (suc own.on_line) count (omega arith)) (M.enters x h))
        (λ (z : suc own.on_line < count).
        rw (lt-leb (first + count) (x + 1) (omega arith), ne_eqb (suc own.on_line) count (λ e. omega arith))
        (point_is l (x + 1) (omega arith) ∙ ap (point_of S r ps) (add-one x)))
        (le_or_lt count (suc own.on_line))

    -- by the crossing's own numbers
    wish_by : wish_in H l x ≡ cond (ltb x (first + count)) (fraction_or (param (before_in H l own.branch first x) (behind_in H l own.branch (first + count) x) (centre_at S (channel_at S r own.channel).low) (centre_at S (channel_at S r own.channel).high)) (get_or ps x nan)) (get_or ps x nan)
    unfolding wish_in
    wish_by = rw (M.branch x h, M.channel x h, M.count x h, M.low own.channel (M.known x h), M.high own.channel (M.known x h), get_or-take X l x nan h)

    pub wish_is : wish_in H l x ≡ wish S r ps x
    unfolding wish
    wish_is =
        let at = M.on_line x h in
        wish_by
        ∙ ⊎_elim
        (λ (z : count ≤ own.on_line). rw (le-ltb x (first + count) (omega arith), le-ltb own.on_line count z))
        (λ (z : own.on_line < count). rw (lt-ltb x (first + count) (omega arith), lt-ltb own.on_line count z, before_is, behind_is z))
        (le_or_lt count own.on_line)

  -- ---- channels and rounds

  member_below : (c i : ℕ) → i < length (members S r c) → get_or (members S r c) i 0 < X
  unfolding members
  member_below c i h = all_at (λ x. x < X) (members S r c) i h (all_keep (λ x. x < X) _ (up_from 0 X) (all_below 0 X X (omega arith)))

  module _ (c : ℕ) (g : c < length r.channels) (l : List Float) where
    abbrev at : ℕ → ℕ
    at i = member_in H.numbers (start_held H c + i)

    abbrev n : ℕ
    n = start_held H (c + 1) - start_held H c

    abbrev ms : List ℕ
    ms = members S r c

    n_is : length ms ≡ n
    n_is = sym (ap length (M.consecutive c g)) ∙ length_table at n

    at_is : (i : ℕ) → i < n → at i ≡ get_or ms i 0
    at_is i h = sym (get_d_table at n i 0 h) ∙ ap (λ (k : List ℕ). get_or k i 0) (M.consecutive c g)

    at_below : (i : ℕ) → i < n → at i < X
    at_below i h = rw (at_is i h) (member_below c i (omega (arith, n_is)))

    wishes_are : table (λ i. wish_in H l (at i)) n ≡ map (wish S r (take X l)) ms
    wishes_are =
        table_ext (λ i. wish_in H l (at i)) (λ i. wish S r (take X l) (at i)) n (λ i h. wish_is l (at i) (at_below i h))
        ∙ sym (map_table (wish S r (take X l)) at n)
        ∙ ap (map (wish S r (take X l))) (M.consecutive c g)

    abbrev ws : List Float
    ws = map (wish S r (take X l)) ms

    order_below : (p : ℕ) → p < length (wish_order ws) → get_or (wish_order ws) p 0 < n
    order_below p h = let z = wish_below ws p (omega (arith, length_order ws)) in omega (arith, length-map ms (wish S r (take X l)), n_is)

    pub space_is : take X (space_in occupied H c l) ≡ space_one S r c (take X l)
    unfolding space_in space_by space_one
    space_is =
        take_put X _ _ l
        ∙ ap (λ (k : List Float). put_all (map at (wish_order k)) (spaced (read_channel occupied H.centres c) (in_order k (wish_order k))) (take X l)) wishes_are
        ∙ ap (λ (k : Channel). put_all (map at (wish_order ws)) (spaced k (in_order ws (wish_order ws))) (take X l)) (M.range c g)
        ∙ ap (λ (k : List ℕ). put_all k (spaced (channel_at S r c).channel (in_order ws (wish_order ws))) (take X l)) (map_at at (λ j. get_or ms j 0) (wish_order ws) (λ p h. at_is _ (order_below p h)))

  pub spaced_is : (c : ℕ) → c ≤ length r.channels → (l : List Float) → take X (spaced_in occupied H c l) ≡ spaced_to S r c (take X l)
  unfolding spaced_in spaced_to
  spaced_is zero h l = refl
  spaced_is (suc c) h l = space_is c h (spaced_in occupied H c l) ∙ ap (space_one S r c) (spaced_is c (omega arith) l)

  pub rounds_are : (n : ℕ) (l : List Float) → take X l ≡ rounds_to S r 0 → take X (rounds_in occupied H (length r.channels) n l) ≡ rounds_to S r n
  unfolding rounds_in rounds_to
  rounds_are zero l e = e
  rounds_are (suc n) l e = spaced_is (length r.channels) (omega arith) (rounds_in occupied H (length r.channels) n l) ∙ ap (spaced_to S r (length r.channels)) (rounds_are n l e)
