-- All pieces as the two passes take them, how many they are, and the loops over all branches.
-- Assumes nothing.
use mathlib.Core.Path.{◌≡◌, refl, sym, ap, ◌∙◌, subst}
use mathlib.Core.Bool.{Bool, true, false, not}
use mathlib.Core.List.{List, [], ◌∷◌, ◌++◌, map, append-nil, append_assoc}
use Prim.Native.Nat.{ℕ, zero, suc, ◌+◌, ◌*◌, ◌^◌, ◌-◌, ◌≤◌, ◌<◌}
use native.Mathlib.Omega.{arith}
use borrow.Author.Tests.{ltb-true, ltb-false, ne_eqb}
use lib.Dec.{ltb}
use lib.IntN.{ℤ, negsuc}
use lib.ListN.{length, drop, get_or, length-append, length-map, get_or-eq_default}
use lib.Ieee.{Float}
use Rattle.numbers.specs.Order.{pick}
use Rattle.numbers.specs.Table.{joined}
use Rattle.numbers.proofs.order.Tables.{length_table, get_d_table, joined_zero, joined_suc, joined_ext}
use Rattle.plane.specs.declared.geometry.Point.{Point}
use Rattle.network.specs.declared.words.Kind.{Kind}
use Rattle.network.specs.declared.words.Kind.TheVariants.{Undrawn, Open, Internal, Line}
use Rattle.network.specs.Words.{station_of, known, kind_for, kind_of, kind_at, kinds, Safe}
use Rattle.network.proofs.Branches.{kind_safe}
use Rattle.network.specs.Views.{points_in}
use Rattle.stations.specs.declared.measures.Measures.{Measures}
use Rattle.runs.specs.Run.{Piece, apart, pieces, is_line, all_pieces}
use Rattle.runs.specs.Lists.{flat, piece_numbers}
use Rattle.numbers.specs.Over.{over}
use Rattle.runs.specs.Stages.Views.{Lead, RunLists, held, open_from, internal_from, line_from, run_from, run_in, other_run, waypoint_count, first_waypoint, Fits, Ran}
use Rattle.runs.proofs.Paths.{run_few, other_is}
use Rattle.runs.specs.declared.requests.LineRequest.{LineRequest}
use Rattle.results.specs.Stages.Pieces.{piece, branch_of, Put}
use Rattle.results.specs.Stages.Runs.{run_at, runs_in, pass_run, pass_at, pass_in, others_in, batch_in, FitAll, HasRoom}
use Rattle.runs.specs.Stages.Requests.{Lists, lists, nothing_at, line_request, request_of, FilledTo}
use Rattle.results.specs.Stages.Passes.{RoomFor, Passed}
use Rattle.results.specs.Stages.Lines.{request_run, request_pieces, list_pieces, Asks, AskAll}
use Rattle.results.proofs.pieces.Laws.{pieces_none, joined_length_suc, joined_mono}
use Rattle.results.proofs.pieces.Puts.{put_of, length_flat}
use Rattle.results.proofs.piece_list.Adding.{Going, go_none, go_room, go_more, passed_of, passed_none, passed_more, ran_room, ran_passed}

-- ---- joined lists: how long at most, one behind the other, and none past an end
module _ {A : Type 0} (f : ℕ → List A) where
  pub joined_at_most : (c n : ℕ) → ((i : ℕ) → i < n → length (f i) ≤ c) → length (joined f n) ≤ c * n
  joined_at_most c zero h = rw joined_zero (omega arith)
  joined_at_most c (suc n) h =
      let g : length (joined f n) ≤ c * n = joined_at_most c n (λ i k. h i (omega arith)) in
      let k : length (f n) ≤ c = h n (omega arith) in
      omega (arith, joined_length_suc f n)

  pub joined_plus : (a k : ℕ) → joined f (a + k) ≡ joined f a ++ joined (λ (i : ℕ). f (a + i)) k
  joined_plus a zero =
      let e : a + 0 ≡ a = omega arith in
      ap (joined f) e ∙ sym (append-nil (joined f a)) ∙ ap (λ (z : List A). joined f a ++ z) (sym (joined_zero (λ (i : ℕ). f (a + i))))
  joined_plus a (suc k) =
      let e : a + suc k ≡ suc (a + k) = omega arith in
      ap (joined f) e ∙ joined_suc f (a + k) ∙ ap (λ (z : List A). z ++ f (a + k)) (joined_plus a k)
      ∙ append_assoc (joined f a) (joined (λ (i : ℕ). f (a + i)) k) (f (a + k)) ∙ ap (λ (z : List A). joined f a ++ z) (sym (joined_suc (λ (i : ℕ). f (a + i)) k))

  module _ (m : ℕ) (past : (i : ℕ) → m ≤ i → f i ≡ []) where
    past_by : (k : ℕ) → joined f (m + k) ≡ joined f m
    past_by zero = let e : m + 0 ≡ m = omega arith in ap (joined f) e
    past_by (suc k) =
        let e : m + suc k ≡ suc (m + k) = omega arith in
        ap (joined f) e ∙ joined_suc f (m + k) ∙ ap (λ (z : List A). joined f (m + k) ++ z) (past (m + k) (omega arith)) ∙ append-nil (joined f (m + k)) ∙ past_by k

    pub joined_past : (a : ℕ) → m ≤ a → joined f a ≡ joined f m
    joined_past a h = let e : a ≡ m + (a - m) = omega arith in ap (joined f) e ∙ past_by (a - m)

    pub joined_most : (a : ℕ) → length (joined f a) ≤ length (joined f m)
    joined_most a = go (ltb a m) refl
      where
        go : (b : Bool) → ltb a m ≡ b → length (joined f a) ≤ length (joined f m)
        go true q =
            let l : a < m = ltb-true a m q in
            let e : a + (m - a) ≡ m = omega arith in
            omega (arith, joined_mono f a (m - a), ap (λ (k : ℕ). length (joined f k)) e)
        go false q = let l : m ≤ a = ltb-false a m q in omega (arith, ap length (joined_past a l))

-- ---- how many pieces there are
few_points : (e : ℕ) (ps : List Point) (n : ℕ) → length ps ≤ n → length (pieces e ps) ≤ n
unfolding pieces
few_points e [] n h = omega arith
few_points e (p ∷ []) n h = omega arith
few_points e (p ∷ (q ∷ ps)) n h = go (apart p q) (piece e p q) (few_points e (q ∷ ps) (n - 1) (omega arith))
  where
    go : (b : Bool) (x : Piece) → length (pieces e (q ∷ ps)) ≤ n - 1 → length (pick b (x ∷ pieces e (q ∷ ps)) (pieces e (q ∷ ps))) ≤ n
    go true x k = omega arith
    go false x k = omega arith

-- ---- what the passes take together
module _ (H : RunLists) (from to : List ℤ) (service : List ℕ) where
  abbrev kind : ℕ → Kind
  kind e = kind_of H.sub from to service e

  others_pass : (e : ℕ) → e < length from
      → pick (is_line (kind_at (kinds H.sub from to service) e)) [] (pieces e (get_or (runs_in H from to service) e [])) ≡ pass_at false H from to service e
  unfolding pass_run kinds runs_in pieces
  others_pass e h =
      rw (get_d_table (kind_of H.sub from to service) (length from) e Undrawn h, get_d_table (run_at H from to service) (length from) e [] h)
      (go (is_line (kind e)) (run_at H from to service e))
    where
      go : (b : Bool) (ps : List Point) → pick b [] (pieces e ps) ≡ pieces e (pick (pick b false (not false)) ps [])
      go true ps = refl
      go false ps = refl

  lines_pass : (e : ℕ) → e < length from
      → pick (is_line (kind_at (kinds H.sub from to service) e)) (pieces e (get_or (runs_in H from to service) e [])) [] ≡ pass_at true H from to service e
  unfolding pass_run kinds runs_in pieces
  lines_pass e h =
      rw (get_d_table (kind_of H.sub from to service) (length from) e Undrawn h, get_d_table (run_at H from to service) (length from) e [] h)
      (go (is_line (kind e)) (run_at H from to service e))
    where
      go : (b : Bool) (ps : List Point) → pick b (pieces e ps) [] ≡ pieces e (pick (pick b true (not true)) ps [])
      go true ps = refl
      go false ps = refl

  length_kinds : length (kinds H.sub from to service) ≡ length from
  unfolding kinds
  length_kinds = length_table (kind_of H.sub from to service) (length from)

  pub all_passes : all_pieces (kinds H.sub from to service) (runs_in H from to service) ≡ pass_in false H from to service ++ pass_in true H from to service
  unfolding all_pieces pass_in
  all_passes =
      let ks : List Kind = kinds H.sub from to service in
      let rs : List (List Point) = runs_in H from to service in
      let f : ℕ → List Piece = λ e. pick (is_line (kind_at ks e)) [] (pieces e (get_or rs e [])) in
      let g : ℕ → List Piece = λ e. pick (is_line (kind_at ks e)) (pieces e (get_or rs e [])) [] in
      ap (λ (n : ℕ). joined f n ++ joined g n) length_kinds
      ∙ ap (λ (l : List Piece). l ++ joined g (length from)) (joined_ext f (pass_at false H from to service) (length from) others_pass)
      ∙ ap (λ (l : List Piece). joined (pass_at false H from to service) (length from) ++ l) (joined_ext g (pass_at true H from to service) (length from) lines_pass)

  pass_few : (e : ℕ) → waypoint_count H.ends e < 2 ^ 31 → length (pass_at true H from to service e) ≤ 2147483656
  unfolding pass_run
  pass_few e h =
      few_points e (pass_run true H from to service e) 2147483656 (go (pick (is_line (kind e)) true (not true)))
    where
      go : (b : Bool) → length (pick b (run_at H from to service e) []) ≤ 2147483656
      go true = omega (arith, run_few H e (kind e))
      go false = omega arith

  pub pass_small : ((e : ℕ) → e < length from → waypoint_count H.ends e < 2 ^ 31) → length from ≤ 8192 → length (pass_in true H from to service) ≤ 2147483656 * 8192
  unfolding pass_in
  pass_small fit small =
      let z : length (joined (pass_at true H from to service) (length from)) ≤ 2147483656 * length from =
      joined_at_most (pass_at true H from to service) 2147483656 (length from) (λ i h. pass_few i (fit i h)) in
      omega arith

  -- ---- the branches that are no lines, by the lists that they are drawn from
  abbrev other : ℕ → List Point
  other e = other_run H.sub H.measures H.buses H.ends H.blocks H.frames e (kind e)

  other_pass : (e : ℕ) → other e ≡ pass_run false H from to service e
  unfolding pass_run
  other_pass e = other_is H e (kind e) ∙ go (is_line (kind e)) (run_at H from to service e)
    where
      go : (b : Bool) (ps : List Point) → pick b [] ps ≡ pick (pick b false (not false)) ps []
      go true ps = refl
      go false ps = refl

  pub others_are : others_in H.sub H.measures H.buses H.ends H.blocks H.frames from to service ≡ pass_in false H from to service
  unfolding others_in pass_in
  others_are = joined_ext (λ (e : ℕ). pieces e (other e)) (pass_at false H from to service) (length from) (λ e h. ap (pieces e) (other_pass e))

-- ---- no branch past the last
no_line : true ≡ is_line Undrawn → ⊥
unfolding is_line
no_line y = let z : ◌≡◌ {A = ℕ} 0 1 = ap (λ (b : Bool). pick b 0 1) y in omega arith

module _ (sub : List ℕ) (from to : List ℤ) (service : List ℕ) (e : ℕ) where
  pub past_kind : length from ≤ e → kind_of sub from to service e ≡ Undrawn
  unfolding kind_of kind_for known
  past_kind h = rw (get_or-eq_default from (negsuc 0) h)

  pub line_below : is_line (kind_of sub from to service e) ≡ true → e < length from
  line_below q = go (ltb e (length from)) refl
    where
      go : (b : Bool) → ltb e (length from) ≡ b → e < length from
      go true z = ltb-true e (length from) z
      go false z = absurd (no_line (sym q ∙ ap is_line (past_kind (ltb-false e (length from) z))))

-- ---- requests as branches' runs
module _ (H : RunLists) where
  abbrev held_lists : Lists
  held_lists = lists H.sub H.measures H.buses H.ends H.blocks H.places H.frames

  request_branch : (e : ℕ) (K : Kind) → (request_of held_lists e K).e ≡ e
  unfolding request_of nothing_at line_request
  request_branch e Undrawn = refl
  request_branch e (Open a b) = refl
  request_branch e (Internal a b) = refl
  request_branch e (Line a b) = refl

  request_pass : (e : ℕ) (K : Kind) → Safe H.sub K → request_run H.lead H.frames H.ends (request_of held_lists e K) ≡ pick (pick (is_line K) true (not true)) (run_in H e K) []
  unfolding request_run request_of nothing_at line_request is_line run_in run_from line_from Safe
  request_pass e Undrawn s = refl
  request_pass e (Open a b) s = refl
  request_pass e (Internal a b) s = refl
  request_pass e (Line a b) s =
      ap (λ (z : Bool). pick z [] (line_from H.sub H.measures H.buses H.blocks H.places H.frames H.lead e a b (get_or H.ends (4 * e) 0) (get_or H.ends (4 * e + 1) 0) (first_waypoint H.ends e) (waypoint_count H.ends e)))
      (ne_eqb (station_of H.sub a) (station_of H.sub b) s.2)

  request_asks : (path : List Float) (e : ℕ) (K : Kind) → (is_line K ≡ true → Fits H.ends path e × (e < 2 ^ 31)) → Asks H.ends path (request_of held_lists e K)
  unfolding request_of nothing_at line_request is_line
  request_asks path e Undrawn h d = absurd (d refl)
  request_asks path e (Open a b) h d = absurd (d refl)
  request_asks path e (Internal a b) h d = absurd (d refl)
  request_asks path e (Line a b) h d = h refl

  module _ (from to : List ℤ) (service : List ℕ) (start : ℕ) (list : List LineRequest) (F : FilledTo held_lists from to service start 16 list) (count : length list ≡ 16) where
    pub batch_asks : (path : List Float) → FitAll from H.ends path → length from ≤ 8192 → AskAll H.ends path list
    batch_asks path fit small i h =
        subst (Asks H.ends path) (sym (F i (omega arith)))
        (request_asks path (start + i) (kind_of H.sub from to service (start + i))
        (λ q. let l : start + i < length from = line_below H.sub from to service (start + i) q in (fit (start + i) l, omega arith)))

    run_in_lem : (i : ℕ) → i < 16 → request_run H.lead H.frames H.ends (get_or list i (nothing_at 0)) ≡ pass_run true H from to service (start + i)
    unfolding pass_run
    run_in_lem i h =
        ap (request_run H.lead H.frames H.ends) (F i h)
        ∙ request_pass (start + i) (kind_of H.sub from to service (start + i)) (kind_safe H.sub from to service (start + i))

    branch_in : (i : ℕ) → i < 16 → (get_or list i (nothing_at 0)).e ≡ start + i
    branch_in i h = ap (λ (r : LineRequest). r.e) (F i h) ∙ request_branch (start + i) (kind_of H.sub from to service (start + i))

    pieces_in_batch : (i : ℕ) → i < 16 → request_pieces H.lead H.frames H.ends (get_or list i (nothing_at 0)) ≡ pass_at true H from to service (start + i)
    unfolding request_pieces
    pieces_in_batch i h =
        ap (λ (e : ℕ). pieces e (request_run H.lead H.frames H.ends (get_or list i (nothing_at 0)))) (branch_in i h) ∙ ap (pieces (start + i)) (run_in_lem i h)

    pub batch_pieces : list_pieces H.lead H.frames H.ends list ≡ batch_in H from to service start
    unfolding list_pieces batch_in
    batch_pieces =
        ap (joined (λ (i : ℕ). request_pieces H.lead H.frames H.ends (get_or list i (nothing_at 0)))) count
        ∙ joined_ext (λ (i : ℕ). request_pieces H.lead H.frames H.ends (get_or list i (nothing_at 0))) (λ (i : ℕ). pass_at true H from to service (start + i)) 16 pieces_in_batch

    pub batch_room : (w : Bool) (at : ℕ) (n : List Float) (b : List ℕ) → RoomFor w at (batch_in H from to service start) n b → RoomFor w at (list_pieces H.lead H.frames H.ends list) n b
    batch_room w at n b h = subst (λ (z : List Piece). RoomFor w at z n b) (sym batch_pieces) h

-- ---- the loop over the branches that are no lines: after e branches
module _ (sub : List ℕ) (measures : Measures) (buses ends : List ℕ) (blocks frames : List Float) (e : ℕ) (K : Kind) where
  other_short : length (other_run sub measures buses ends blocks frames e K) ≤ 2
  unfolding other_run open_from internal_from
  other_short = go K
    where
      go : (K : Kind) → length (other_run sub measures buses ends blocks frames e K) ≤ 2
      go Undrawn = omega arith
      go (Open a b) = omega arith
      go (Internal a b) = omega arith
      go (Line a b) = omega arith

  pub other_few : (c : ℕ) (path : List Float) → Ran c path (other_run sub measures buses ends blocks frames e K) → c < 2 ^ 32
  other_few c path R = omega (arith, R.count, other_short)

pub few_others : (sub : List ℕ) (measures : Measures) (buses ends : List ℕ) (blocks frames : List Float) (from to : List ℤ) (service : List ℕ)
    → length from ≤ 8192 → length (others_in sub measures buses ends blocks frames from to service) ≤ 2 * 8192
unfolding others_in
few_others sub measures buses ends blocks frames from to service small =
    let f : ℕ → List Piece = λ e. pieces e (other_run sub measures buses ends blocks frames e (kind_of sub from to service e)) in
    let z : length (joined f (length from)) ≤ 2 * length from =
    joined_at_most f 2 (length from) (λ e h. few_points e (other_run sub measures buses ends blocks frames e (kind_of sub from to service e)) 2 (other_short sub measures buses ends blocks frames e (kind_of sub from to service e))) in
    omega arith

module _ (sub : List ℕ) (measures : Measures) (buses ends : List ℕ) (blocks frames : List Float) (from to : List ℤ) (service : List ℕ) (w : Bool) (at : ℕ) (path n : List Float) (b : List ℕ) where
  abbrev other_at : ℕ → List Point
  other_at e = other_run sub measures buses ends blocks frames e (kind_of sub from to service e)

  unfoldable pub Others : ℕ → ℕ → List Float → List Float → List ℕ → Type 0
  Others e s path' n' b' = Going w (λ (i : ℕ). pieces i (other_at i)) (length from) at n b e s n' b' × (length path' ≡ length path)

  pub others_none : RoomFor w at (others_in sub measures buses ends blocks frames from to service) n b → Others 0 at path n b
  unfolding Others others_in
  others_none h = (go_none w _ (length from) at n b h, refl)

  module _ (e s : ℕ) (path' n' : List Float) (b' : List ℕ) (I : Others e s path' n' b') (l : e < length from) (c : ℕ) (path'' : List Float) (R : Ran c path'' (other_at e)) where
    pub others_room : RoomFor w s (pieces e (points_in c path'')) n' b'
    unfolding Others
    others_room = ran_room R w e s n' b' (go_room w _ (length from) at n b I.0 l)

    pub others_more : (r : ℕ) (n'' : List Float) (b'' : List ℕ) → Passed w s r (pieces e (points_in c path'')) n' n'' b' b''
        → length path'' ≡ length path' → length n'' ≡ length n' → length b'' ≡ length b' → Others (e + 1) r path'' n'' b''
    unfolding Others
    others_more r n'' b'' P d f g = (go_more w _ (length from) at n b I.0 l (ran_passed R w e P) f g, d ∙ I.1)

  pub others_all : (e s : ℕ) (path' n' : List Float) (b' : List ℕ) → e ≡ length from → Others e s path' n' b'
      → Passed w at s (others_in sub measures buses ends blocks frames from to service) n n' b b'
  unfolding Others others_in
  others_all e s path' n' b' l I = passed_of I.0.passed (ap (joined (λ (i : ℕ). pieces i (other_at i))) l)

-- ---- the loop over blocks of lines: after the branches below `start`
module _ (H : RunLists) (from to : List ℤ) (service : List ℕ) (w : Bool) (at : ℕ) (path n : List Float) (b : List ℕ) where
  abbrev F : ℕ → List Piece
  F = pass_at true H from to service

  past_run : (e : ℕ) → length from ≤ e → pass_run true H from to service e ≡ []
  unfolding pass_run is_line
  past_run e h = ap (λ (K : Kind). pick (pick (is_line K) true (not true)) (run_at H from to service e) []) (past_kind H.sub from to service e h)

  past_pieces : (e : ℕ) → length from ≤ e → F e ≡ []
  past_pieces e h = ap (pieces e) (past_run e h) ∙ pieces_none e

  pub record Batched (start s : ℕ) (path' n' : List Float) (b' : List ℕ) : Type 0 where
    pub passed : Passed w at s (joined F start) n n' b b'
    pub room : RoomFor w at (joined F (length from)) n b
    pub sized4 : length n' ≡ length n
    pub sized1 : length b' ≡ length b
    pub sized : length path' ≡ length path

  unfoldable pub Batches : ℕ → ℕ → List Float → List Float → List ℕ → Type 0
  Batches start s path' n' b' = Batched start s path' n' b'

  pub batches_none : RoomFor w at (pass_in true H from to service) n b → Batches 0 at path n b
  unfolding Batches pass_in
  batches_none h =
      record {
        passed = passed_of (passed_none w at n b) (sym (joined_zero F));
        room = h;
        sized4 = refl;
        sized1 = refl;
        sized = refl;
      }

  module _ (start s : ℕ) (path' n' : List Float) (b' : List ℕ) (I : Batches start s path' n' b') where
    batch_most : length (joined F start) + length (batch_in H from to service start) ≤ length (joined F (length from))
    unfolding batch_in
    batch_most =
        let z : length (joined F (start + 16)) ≤ length (joined F (length from)) = joined_most F (length from) past_pieces (start + 16) in
        omega (arith, ap length (joined_plus F start 16), length-append (joined F start) (joined (λ (i : ℕ). F (start + i)) 16))

    pub batches_room : RoomFor w s (batch_in H from to service start) n' b'
    unfolding Batches
    batches_room =
        let e : s ≡ at + length (joined F start) = I.passed.count in
        let z = batch_most in
        (omega (arith, I.room.0), λ k. (omega (arith, (I.room.1 k).0, I.sized4), omega (arith, (I.room.1 k).1, I.sized1)))

    pub batches_more : (r : ℕ) (path'' n'' : List Float) (b'' : List ℕ) → Passed w s r (batch_in H from to service start) n' n'' b' b''
        → length path'' ≡ length path' → length n'' ≡ length n' → length b'' ≡ length b' → Batches (start + 16) r path'' n'' b''
    unfolding Batches batch_in
    batches_more r path'' n'' b'' P d f g =
        let z = batch_most in
        let y = length-append (joined F start) (joined (λ (i : ℕ). F (start + i)) 16) in
        record {
          passed =
              passed_of (passed_more I.passed P (omega (arith, I.room.0), λ k. (omega (arith, (I.room.1 k).0), omega (arith, (I.room.1 k).1))))
              (sym (joined_plus F start 16));
          room = I.room;
          sized4 = f ∙ I.sized4;
          sized1 = g ∙ I.sized1;
          sized = d ∙ I.sized;
        }

    pub batches_end : length from ≤ start → Passed w at s (pass_in true H from to service) n n' b b'
    unfolding Batches pass_in
    batches_end l = passed_of I.passed (joined_past F (length from) past_pieces start l)

pub ruleset other_laws = (others_none, others_room, others_more, other_few)

pub ruleset batch_laws = (batches_none, batches_room, batches_more)

-- ---- both passes
module _ {r : ℕ} {ps : List Piece} {n n' : List Float} {b b' : List ℕ} (w : Put 0 r ps n n' b b') where
  pub whole_four : n' ≡ over (flat piece_numbers ps) n
  unfolding over
  whole_four =
      let e : 4 * r ≡ length (flat piece_numbers ps) = omega (arith, w.count, length_flat ps) in
      w.four ∙ ap (λ (k : ℕ). flat piece_numbers ps ++ drop k n) e

  pub whole_one : b' ≡ over (map branch_of ps) b
  unfolding over
  whole_one =
      let e : r ≡ length (map branch_of ps) = omega (arith, w.count, length-map ps branch_of) in
      w.one ∙ ap (λ (k : ℕ). map branch_of ps ++ drop k b) e

module _ (H : RunLists) (from to : List ℤ) (service : List ℕ) where
  abbrev all : List Piece
  all = all_pieces (kinds H.sub from to service) (runs_in H from to service)

  abbrev others : List Piece
  others = others_in H.sub H.measures H.buses H.ends H.blocks H.frames from to service

  sum : length all ≡ length others + length (pass_in true H from to service)
  sum = ap length (all_passes H from to service) ∙ length-append (pass_in false H from to service) (pass_in true H from to service)
      ∙ ap (λ (z : List Piece). length z + length (pass_in true H from to service)) (sym (others_are H from to service))

  -- the two passes, one after the other
  module _ (path : List Float) (fit : FitAll from H.ends path) (small : length from ≤ 8192) (n : List Float) (b : List ℕ) (room : HasRoom all n b) where
    pub both_written : {s r : ℕ} {n' n'' : List Float} {b' b'' : List ℕ} → Passed true 0 s others n n' b b' → Passed true s r (pass_in true H from to service) n' n'' b' b''
        → Put 0 r all n n'' b b''
    both_written P Q =
        let k : length (others ++ pass_in true H from to service) ≡ length all = length-append others (pass_in true H from to service) ∙ sym sum in
        let t = few_others H.sub H.measures H.buses H.ends H.blocks H.frames from to service small in
        let X = passed_more P Q (omega (arith, length-append others (pass_in true H from to service), pass_small H from to service (λ e h. omega (arith, (fit e h).1)) small), λ h. (omega (arith, room.0), omega (arith, room.1))) in
        put_of (X.written refl) (ap (λ (y : List Piece). y ++ pass_in true H from to service) (others_are H from to service) ∙ sym (all_passes H from to service))

module _ (sub : List ℕ) (measures : Measures) (buses ends : List ℕ) (blocks places frames : List Float) (L : Lead) (from to : List ℤ) (service : List ℕ) where
  abbrev its : RunLists
  its = held sub measures buses ends blocks places frames L

  pub all_count : length (all_pieces (kinds sub from to service) (runs_in its from to service))
      ≡ length (others_in sub measures buses ends blocks frames from to service) + length (pass_in true its from to service)
  all_count = sum its from to service

pub ruleset count_laws = (all_count, few_others, pass_small)
