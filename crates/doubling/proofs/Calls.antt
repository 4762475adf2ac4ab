-- Doubling: two calls of layout, one of them with every coordinate scaled by 2 ^ k. Both give the same number, and where it is drawn the result lists hold the drawing scaled (`scaling`). Assumes nothing.
use mathlib.Core.Path.{◌≡◌, refl, sym, ap, ◌∙◌, subst}
use mathlib.Core.List.{List, [], ◌∷◌, map}
use Prim.Native.Nat.{ℕ, suc, ◌+◌, ◌*◌, ◌≤◌, ◌<◌}
use native.Mathlib.Omega.{arith}
use lib.ListN.{length, take, drop, length-append, length-map}
use lib.Seq.{take_at, drop_at}
use lib.Ieee.{Float}
use Rattle.numbers.specs.Double.{scaled}
use Rattle.numbers.proofs.order.Tables.{length_table}
use Rattle.network.specs.declared.options.Options.{Options}
use Rattle.network.specs.Words.{station_count, bus_counts, kind_of, kinds}
use Rattle.network.specs.Seed.{bus_point}
use Rattle.stations.specs.Scale.{scales}
use Rattle.placement.specs.Place.{boxes}
use Rattle.stations.specs.Bar.{bars, position}
use Rattle.runs.specs.Run.{Piece, role}
use Rattle.runs.specs.Lists.{flat, point_numbers, box_numbers, bar_numbers, piece_numbers, after}
use Rattle.numbers.specs.Over.{over}
use Rattle.std.specs.Prelude.{Option, Some, None, Result, Ok, Err}
use Rattle.network.specs.declared.refusals.Refusal.{Refusal}
use Rattle.network.specs.Refusal.{number_of}
use Rattle.drawing.specs.declared.lengths.ListLengths.{ListLengths}
use Rattle.drawing.specs.declared.answer.Plot.{Plot}
use Rattle.drawing.specs.Network.{Network, Lists, Work, Crossings}
use Rattle.drawing.specs.Drawing.{Drawing, planned, drawing}
use Rattle.drawing.specs.Answer.{room_of, early, late, lists_of, lists_after, plot_of, answer_for, call_late, call_early, layout_of}
use Rattle.doubling.specs.Doubling.{Asked, ScaledMap, ScaledList, SameList, ScaledDrawing, ScaledCalls, with_map}
use Rattle.doubling.proofs.Stage.{counts_length}
use Rattle.doubling.proofs.Passed.{Passed}
use Rattle.doubling.proofs.Powers.{Times, times_of}
use Rattle.doubling.specs.Example.{times}
use Rattle.doubling.proofs.Buses.{seeds_ext, drawing_ext, same_bus, bus_moved, bus_times}
use Rattle.doubling.proofs.Early.{cut_at, cut_seeds, passed, early_same}

-- ---- lists
flat_length : {A B : Type 0} (g : A → List B) (n : ℕ) → ((x : A) → length (g x) ≡ n) → (l : List A) → length (flat g l) ≡ n * length l
unfolding flat
flat_length g n h [] = none n
  where
    none : (n : ℕ) → 0 ≡ n * 0
    none n = omega arith
flat_length g n h (x ∷ l) = length-append (g x) (flat g l) ∙ more (length (g x)) (length (flat g l)) n (length l) (h x) (flat_length g n h l)
  where
    more : (a b n m : ℕ) → a ≡ n → b ≡ n * m → a + b ≡ n * suc m
    more a b n m e f = omega arith

-- a list that is written over: the first n are the new ones, the others as before
pub record Written {A : Type 0} (n : ℕ) (new before l : List A) : Type 0 where
  pub filled : n ≤ length l
  pub front : take n l ≡ new
  pub kept : drop n l ≡ drop n before

written : {A : Type 0} (n : ℕ) (new before : List A) → length new ≡ n → Written n new before (over new before)
unfolding over
written n new before e = record {
  filled = long n (length new) (length (drop (length new) before)) e (length-append new (drop (length new) before));
  front = take_at new (drop (length new) before) n e;
  kept = drop_at new (drop (length new) before) n e ∙ ap (λ (k : ℕ). drop k before) e;
}
  where
    long : (n a b : ℕ) {c : ℕ} → a ≡ n → c ≡ a + b → n ≤ c
    long n a b e f = omega arith

scaled_list : (k n : ℕ) (new before l new' before' l' : List Float) → Written n new before l → Written n new' before' l' → new' ≡ map (scaled k) new → ScaledList k n before l before' l'
scaled_list k n new before l new' before' l' w w' e = record {
  filled = w.filled;
  filled' = w'.filled;
  numbers = w'.front ∙ e ∙ ap (map (scaled k)) (sym w.front);
  kept = w.kept;
  kept' = w'.kept;
}

same_list : {A : Type 0} (n : ℕ) (new before l new' before' l' : List A) → Written n new before l → Written n new' before' l' → new' ≡ new → SameList n before l before' l'
same_list n new before l new' before' l' w w' e = record { filled = w.filled; filled' = w'.filled; numbers = w'.front ∙ e ∙ sym w.front; kept = w.kept; kept' = w'.kept }

-- ---- how long the parts of a drawing are
module _ (O : Options) (N : Network) where
  bars_length : length (drawing O N).bars ≡ length N.station
  unfolding drawing planned bars
  bars_length = length_table _ (length N.station)

  boxes_length : length (drawing O N).boxes ≡ station_count N.station
  unfolding drawing planned boxes
  boxes_length = length_table _ (length (bus_counts N.station)) ∙ counts_length N.station

  scales_length : length (drawing O N).scales ≡ station_count N.station
  unfolding drawing planned scales
  scales_length = length_table _ (length (bus_counts N.station)) ∙ counts_length N.station

  roles_length : length (drawing O N).roles ≡ length N.from
  unfolding drawing kinds
  roles_length = length-map (kinds N.station N.from N.to N.service) role ∙ length_table (kind_of N.station N.from N.to N.service) (length N.from)

-- the lists after a call that draws, by how long each part is
module _ (O : Options) (N : Network) (L : Lists) where
  times_length : {a b : ℕ} (n : ℕ) → a ≡ n * b → {c : ℕ} → b ≡ c → a ≡ n * c
  times_length n e f = e ∙ ap (λ (k : ℕ). n * k) f

  positions_written : Written (2 * length N.station) (lists_of (drawing O N)).positions L.positions (lists_after None (lists_of (drawing O N)) L).positions
  unfolding lists_after lists_of after
  positions_written = written _ (flat (λ b. point_numbers (position b)) (drawing O N).bars) L.positions (times_length 2 (flat_length (λ b. point_numbers (position b)) 2 (λ b. refl) (drawing O N).bars) (bars_length O N))

  bars_written : Written (4 * length N.station) (lists_of (drawing O N)).bars L.bars (lists_after None (lists_of (drawing O N)) L).bars
  unfolding lists_after lists_of after
  bars_written = written _ (flat bar_numbers (drawing O N).bars) L.bars (times_length 4 (flat_length bar_numbers 4 (λ b. refl) (drawing O N).bars) (bars_length O N))

  boxes_written : Written (4 * station_count N.station) (lists_of (drawing O N)).boxes L.boxes (lists_after None (lists_of (drawing O N)) L).boxes
  unfolding lists_after lists_of after
  boxes_written = written _ (flat box_numbers (drawing O N).boxes) L.boxes (times_length 4 (flat_length box_numbers 4 (λ b. refl) (drawing O N).boxes) (boxes_length O N))

  scales_written : Written (station_count N.station) (lists_of (drawing O N)).scales L.scales (lists_after None (lists_of (drawing O N)) L).scales
  unfolding lists_after lists_of after
  scales_written = written _ (drawing O N).scales L.scales (scales_length O N)

  roles_written : Written (length N.from) (lists_of (drawing O N)).roles L.roles (lists_after None (lists_of (drawing O N)) L).roles
  unfolding lists_after lists_of after
  roles_written = written _ (drawing O N).roles L.roles (roles_length O N)

  pieces_written : (p : ℕ) → length (drawing O N).pieces ≡ p → Written (4 * p) (lists_of (drawing O N)).pieces L.pieces (lists_after None (lists_of (drawing O N)) L).pieces
  unfolding lists_after lists_of after
  pieces_written p e = written _ (flat piece_numbers (drawing O N).pieces) L.pieces (times_length 4 (flat_length piece_numbers 4 (λ b. refl) (drawing O N).pieces) e)

  branches_written : (p : ℕ) → length (drawing O N).pieces ≡ p → Written p (lists_of (drawing O N)).branches L.branches (lists_after None (lists_of (drawing O N)) L).branches
  unfolding lists_after lists_of after
  branches_written p e = written p (map (λ (q : Piece). q.branch) (drawing O N).pieces) L.branches (length-map (drawing O N).pieces (λ (q : Piece). q.branch) ∙ e)

-- ---- the calls
refused_drawn : (r : Refusal) (p : Plot) → ◌≡◌ {A = Result Plot Refusal} (Err r) (Ok p) → ⊥
refused_drawn r p e = cc

drawn_plot : (p q : Plot) → ◌≡◌ {A = Result Plot Refusal} (Ok p) (Ok q) → p ≡ q
drawn_plot p q e = cc

module _ (k : ℕ) (O : Options) (N : Network) (xy' : List Float) (T : Times k (drawing O N) (drawing O (with_map N xy'))) (L L' : Lists) (W W' : Work) (X X' : Crossings) where
  late_calls : (r : Option Refusal) → ScaledCalls k N L L' (call_late r (drawing O N) L W X) (call_late r (drawing O (with_map N xy')) L' W' X')
  unfolding call_late answer_for number_of
  late_calls (Some r) = record { number = refl; drawn = λ p e. absurd (refused_drawn r p e) }
  late_calls None = record { number = refl; drawn = drawn }
    where
      plot : Plot
      plot = plot_of (drawing O N)

      plot' : Plot
      plot' = plot_of (drawing O (with_map N xy'))

      drawing-of : ScaledDrawing k N L L' (call_late None (drawing O N) L W X) (call_late None (drawing O (with_map N xy')) L' W' X') plot plot'
      drawing-of = record {
        unit = T.unit;
        bounds = T.bounds;
        piece_count = T.piece_count;
        positions = scaled_list k _ (lists_of (drawing O N)).positions L.positions _ (lists_of (drawing O (with_map N xy'))).positions L'.positions _ (positions_written O N L) (positions_written O (with_map N xy') L') T.positions;
        bars = scaled_list k _ (lists_of (drawing O N)).bars L.bars _ (lists_of (drawing O (with_map N xy'))).bars L'.bars _ (bars_written O N L) (bars_written O (with_map N xy') L') T.bars;
        boxes = scaled_list k _ (lists_of (drawing O N)).boxes L.boxes _ (lists_of (drawing O (with_map N xy'))).boxes L'.boxes _ (boxes_written O N L) (boxes_written O (with_map N xy') L') T.boxes;
        scales = same_list _ (lists_of (drawing O N)).scales L.scales _ (lists_of (drawing O (with_map N xy'))).scales L'.scales _ (scales_written O N L) (scales_written O (with_map N xy') L') T.scales;
        roles = same_list _ (lists_of (drawing O N)).roles L.roles _ (lists_of (drawing O (with_map N xy'))).roles L'.roles _ (roles_written O N L) (roles_written O (with_map N xy') L') T.roles;
        pieces = scaled_list k _ (lists_of (drawing O N)).pieces L.pieces _ (lists_of (drawing O (with_map N xy'))).pieces L'.pieces _ (pieces_written O N L _ refl) (pieces_written O (with_map N xy') L' _ T.piece_count) T.pieces;
        branches = same_list _ (lists_of (drawing O N)).branches L.branches _ (lists_of (drawing O (with_map N xy'))).branches L'.branches _ (branches_written O N L _ refl) (branches_written O (with_map N xy') L' _ T.piece_count) T.branches;
      }

      drawn : (p : Plot) → ◌≡◌ {A = Result Plot Refusal} (Ok plot) (Ok p) → (p' : Plot) × ◌≡◌ {A = Result Plot Refusal} (Ok plot') (Ok p') × ScaledDrawing k N L L' (call_late None (drawing O N) L W X) (call_late None (drawing O (with_map N xy')) L' W' X') p p'
      drawn p e = (plot', refl, subst (λ (q : Plot). ScaledDrawing k N L L' (call_late None (drawing O N) L W X) (call_late None (drawing O (with_map N xy')) L' W' X') q plot') (drawn_plot plot p e) drawing-of)

-- ---- doubling
module _ (k : ℕ) (O : Options) (N : Network) (A : Asked k O N) (xy' : List Float) (S : ScaledMap k (length N.station) N.xy xy') where
  -- both drawings, through the map cut to the buses' coordinates
  drawings : (R : ListLengths) → early O N R ≡ None → Times k (drawing O N) (drawing O (with_map N xy'))
  drawings R e =
      let P = passed k O N A R e in
      let c = take (2 * length N.station) N.xy in
      subst (λ (x : Drawing). Times k x (drawing O (with_map N xy'))) (drawing_ext O N N.xy c (cut_seeds k O N A))
      (subst (Times k (drawing O (with_map N c))) (sym (drawing_ext O N (times k c) xy' (seeds_ext N.station (times k c) xy' (bus P)))) (times_of O N A.iterations k c P))
    where
      even : (i n : ℕ) → i < n → 2 * i < 2 * n
      even i n l = omega arith

      odd : (i n : ℕ) → i < n → 2 * i + 1 < 2 * n
      odd i n l = omega arith

      bus : Passed k O N.station (kinds N.station N.from N.to N.service) (take (2 * length N.station) N.xy) → (i : ℕ) → i < length N.station → bus_point xy' i ≡ bus_point (times k (take (2 * length N.station) N.xy)) i
      bus P i l =
          let c = take (2 * length N.station) N.xy in
          same_bus k c (times k c) xy' i (bus_times k c i (P.held (2 * i)) (P.held (2 * i + 1)) (λ h. P.allowed i h.0 h.1))
          (bus_moved k N.xy c xy' i (cut_at k O N A (2 * i) (even i (length N.station) l)) (cut_at k O N A (2 * i + 1) (odd i (length N.station) l)) (S i l))

  module _ (L L' : Lists) (W W' : Work) (X X' : Crossings) (room : room_of L' W' X' ≡ room_of L W X) where
    -- by the early refusal of both
    by_early : (r : Option Refusal) → early O N (room_of L W X) ≡ r → ScaledCalls k N L L' (call_early r O N L W X) (call_early r O (with_map N xy') L' W' X')
    unfolding call_early number_of
    by_early (Some r) e = record { number = refl; drawn = λ p h. absurd (refused_drawn r p h) }
    by_early None e =
        let t = drawings (room_of L W X) e in
        subst (λ (r : Option Refusal). ScaledCalls k N L L' (call_late (late (drawing O N) (room_of L W X)) (drawing O N) L W X) (call_late r (drawing O (with_map N xy')) L' W' X'))
        (sym (ap (λ (R : ListLengths). late (drawing O (with_map N xy')) R) room ∙ t.late_same (room_of L W X)))
        (late_calls k O N xy' t L L' W W' X X' (late (drawing O N) (room_of L W X)))

    -- Layout with a map scaled by 2 ^ k, whatever lists of the same lengths are lent and whatever they held.
    pub scaling : ScaledCalls k N L L' (layout_of O N L W X) (layout_of O (with_map N xy') L' W' X')
    unfolding layout_of
    scaling =
        subst (λ (r : Option Refusal). ScaledCalls k N L L' (call_early (early O N (room_of L W X)) O N L W X) (call_early r O (with_map N xy') L' W' X'))
        (sym (ap (early O (with_map N xy')) room ∙ early_same k O N A xy' S (room_of L W X)))
        (by_early (early O N (room_of L W X)) refl)

-- The map made by the format's own product with 2: once for doubling, k times for 2 ^ k.
pub times_scaled : (k : ℕ) (O : Options) (N : Network) → Asked k O N → ScaledMap k (length N.station) N.xy (times k N.xy)
times_scaled k O N A i l = bus_times k N.xy i (A.held.map (2 * i)) (A.held.map (2 * i + 1)) (A.points i l)

pub doubling : (O : Options) (N : Network) (A : Asked 1 O N) (L L' : Lists) (W W' : Work) (X X' : Crossings) → room_of L' W' X' ≡ room_of L W X
    → ScaledCalls 1 N L L' (layout_of O N L W X) (layout_of O (with_map N (times 1 N.xy)) L' W' X')
doubling O N A L L' W W' X X' room = scaling 1 O N A (times 1 N.xy) (times_scaled 1 O N A) L L' W W' X X' room
