-- The exits of branches, by their kind and in a list that is written from branch to branch. Assumes nothing.
use mathlib.Core.Path.{◌≡◌, refl, sym, ap, ◌∙◌, subst}
use mathlib.Core.Logic.{⊎_elim}
use mathlib.Core.List.{List}
use Rattle.std.specs.Prelude.{Option}
use Prim.Native.Nat.{ℕ, ◌+◌, ◌*◌, ◌≤◌, ◌<◌}
use native.Mathlib.Omega.{arith}
use lib.IntN.{ℤ}
use lib.ListN.{length, get_or, length-set}
use lib.Ieee.{Float, nan, binary64, of_bits}
use Rattle.numbers.proofs.order.Merging.{le_or_lt}
use Rattle.numbers.proofs.order.Strides.{get_d_first, get_d_strided}
use Rattle.plane.specs.Plane.{point_at}
use Rattle.network.specs.declared.words.Kind.{Kind}
use Rattle.network.specs.declared.words.Kind.TheVariants.{Undrawn, Open, Internal, Line}
use Rattle.network.specs.Words.{station_of, kind_of, Safe}
use Rattle.network.specs.Views.{from_rows_in, to_rows_in}
use Rattle.network.proofs.Branches.{kind_safe}
use Rattle.network.proofs.Views.{put_point, point_same, point_other}
use Rattle.stations.specs.declared.measures.Measures.{Measures}
use Rattle.runs.specs.Stages.Views.{exit_of, first_exit, second_exit}
use Rattle.routing.specs.Route as Route
use Rattle.routing.specs.Stages.Views.{TracedLists, grid, exit_at, line_between, line_for, line_in}
use Rattle.routing.specs.declared.exits.Exits.{Exits}
use Rattle.routing.specs.Stages.Exits.{exits_of, exits_in, Exited}

pub not_a_number : of_bits binary64 0x7FF8_0000_0000_0000 ≡ nan
unfolding of_bits
not_a_number = refl

-- ---- in a list, from branch to branch

module _ (sub : List ℕ) (from to : List ℤ) (service : List ℕ) (measures : Measures) (ends : List ℕ) (blocks frames : List Float) where
  abbrev pub grid_by : List Float → TracedLists
  grid_by places = grid sub from to service measures ends blocks places frames

  -- the first e branches' exits stand in the list l, which was l₀
  pub record Standing (l₀ l : List Float) (e : ℕ) : Type 0 where
    pub kept : (s : ℕ) → s < length sub → point_at l s ≡ point_at l₀ s
    pub first : (i : ℕ) → i < e → first_exit (length sub) l i ≡ (exits_in (grid_by l₀) i).first
    pub second : (i : ℕ) → i < e → second_exit (length sub) l i ≡ (exits_in (grid_by l₀) i).second

  unfoldable pub ExitedTo : List Float → List Float → ℕ → Type 0
  ExitedTo l₀ l e = Standing l₀ l e

  pub exited_none : (l₀ : List Float) → ExitedTo l₀ l₀ 0
  unfolding ExitedTo
  exited_none l₀ = record { kept = λ s h. refl; first = λ i h. absurd (omega arith); second = λ i h. absurd (omega arith) }

  pub exited_kept : (l₀ l : List Float) (e s : ℕ) → ExitedTo l₀ l e → s < length sub → point_at l s ≡ point_at l₀ s
  unfolding ExitedTo
  exited_kept l₀ l e s E h = E.kept s h

  module _ (below : (i : ℕ) → i < length sub → station_of sub i < length sub) where
    -- branches are the same to routing where the stations' places are
    module _ (l l₀ : List Float) (kept : (s : ℕ) → s < length sub → point_at l s ≡ point_at l₀ s) where
      line_kept : (ra rb : ℕ) (K : Kind) → Safe sub K → line_for (grid_by l) ra rb K ≡ line_for (grid_by l₀) ra rb K
      unfolding Safe line_for line_between exit_at exit_of
      line_kept ra rb Undrawn h = refl
      line_kept ra rb (Open a b) h = refl
      line_kept ra rb (Internal a b) h = refl
      line_kept ra rb (Line a b) h = cc (kept (station_of sub a) (below a h.0), kept (station_of sub b) (below b h.1))

      pub exits_kept : (e : ℕ) → exits_in (grid_by l) e ≡ exits_in (grid_by l₀) e
      unfolding exits_in line_in
      exits_kept e = ap exits_of (line_kept (get_or ends (4 * e) 0) (get_or ends (4 * e + 1) 0) (kind_of sub from to service e) (kind_safe sub from to service e))

    module _ (l₀ l : List Float) (e : ℕ) (x : Exits) (room : 2 * length sub + 4 * e + 4 ≤ length l) (E : ExitedTo l₀ l e) (is : x ≡ exits_in (grid_by l) e) where
      abbrev l₁ : List Float
      l₁ = put_point l (length sub + 2 * e) x.first.x x.first.y

      abbrev l₂ : List Float
      l₂ = put_point l₁ (length sub + 2 * e + 1) x.second.x x.second.y

      is_first : x ≡ exits_in (grid_by l₀) e
      unfolding ExitedTo
      is_first = is ∙ exits_kept l l₀ E.kept e

      -- a point before the two, the first and the second
      at_before : (j : ℕ) → j < length sub + 2 * e → point_at l₂ j ≡ point_at l j
      at_before j h =
          point_other l₁ (length sub + 2 * e + 1) j x.second.x x.second.y (λ z. omega arith)
          ∙ point_other l (length sub + 2 * e) j x.first.x x.first.y (λ z. omega arith)

      at_first : first_exit (length sub) l₂ e ≡ (exits_in (grid_by l₀) e).first
      at_first =
          point_other l₁ (length sub + 2 * e + 1) (length sub + 2 * e) x.second.x x.second.y (λ z. omega arith)
          ∙ point_same l (length sub + 2 * e) x.first.x x.first.y (omega arith)
          ∙ ap (λ (t : Exits). t.first) is_first

      at_second : second_exit (length sub) l₂ e ≡ (exits_in (grid_by l₀) e).second
      at_second =
          let long : length l₁ ≡ length l = simp length-set refl in
          point_same l₁ (length sub + 2 * e + 1) x.second.x x.second.y (omega arith) ∙ ap (λ (t : Exits). t.second) is_first

      pub exited_more : ExitedTo l₀ l₂ (e + 1)
      unfolding ExitedTo
      exited_more =
          record {
            kept = λ s h. at_before s (omega arith) ∙ E.kept s h;
            first = λ i h. ⊎_elim (λ (z : e ≤ i). let y : e ≡ i = omega arith in subst (λ (t : ℕ). first_exit (length sub) l₂ t ≡ (exits_in (grid_by l₀) t).first) y at_first) (λ (z : i < e). at_before (length sub + 2 * i) (omega arith) ∙ E.first i z) (le_or_lt e i);
            second = λ i h. ⊎_elim (λ (z : e ≤ i). let y : e ≡ i = omega arith in subst (λ (t : ℕ). second_exit (length sub) l₂ t ≡ (exits_in (grid_by l₀) t).second) y at_second) (λ (z : i < e). at_before (length sub + 2 * i + 1) (omega arith) ∙ E.second i z) (le_or_lt e i);
          }

    module _ (l₀ l : List Float) (e : ℕ) (E : ExitedTo l₀ l e) (i : ℕ) (h : i < e) where
      pub exited_first : first_exit (length sub) l i ≡ (exits_in (grid_by l) i).first
      unfolding ExitedTo
      exited_first = E.first i h ∙ ap (λ (t : Exits). t.first) (sym (exits_kept l l₀ E.kept i))

      pub exited_second : second_exit (length sub) l i ≡ (exits_in (grid_by l) i).second
      unfolding ExitedTo
      exited_second = E.second i h ∙ ap (λ (t : Exits). t.second) (sym (exits_kept l l₀ E.kept i))

pub ruleset exited = (exited_none, exited_kept, exited_more, exited_first, exited_second)

-- ---- by rows alone: whatever routes are written beside them

module _ (sub : List ℕ) (from to : List ℤ) (service : List ℕ) (measures : Measures) (blocks places frames : List Float) (before behind : List ℕ) where
  abbrev with : List ℕ → TracedLists
  with ends = grid sub from to service measures ends blocks places frames

  line_for_lem : (ra rb : ℕ) (x : Kind) → line_for (with behind) ra rb x ≡ line_for (with before) ra rb x
  unfolding line_for line_between exit_at
  line_for_lem ra rb Undrawn = refl
  line_for_lem ra rb (Open a b) = refl
  line_for_lem ra rb (Internal a b) = refl
  line_for_lem ra rb (Line a b) = refl

  module _ (fromRows : from_rows_in (length from) behind ≡ from_rows_in (length from) before) (toRows : to_rows_in (length from) behind ≡ to_rows_in (length from) before) where
    pub line_same : (e : ℕ) → e < length from → line_in (with behind) e ≡ line_in (with before) e
    unfolding line_in
    line_same e h =
        let x = kind_of sub from to service e in
        let a : get_or behind (4 * e) 0 ≡ get_or before (4 * e) 0 = sym (get_d_first 4 0 (length from) e behind 0 h) ∙ ap (λ (l : List ℕ). get_or l e 0) fromRows ∙ get_d_first 4 0 (length from) e before 0 h in
        let b : get_or behind (4 * e + 1) 0 ≡ get_or before (4 * e + 1) 0 = sym (get_d_strided 4 1 0 (length from) e behind 0 h) ∙ ap (λ (l : List ℕ). get_or l e 0) toRows ∙ get_d_strided 4 1 0 (length from) e before 0 h in
        ap (λ (r : ℕ). line_for (with behind) r (get_or behind (4 * e + 1) 0) x) a
        ∙ ap (λ (r : ℕ). line_for (with behind) (get_or before (4 * e) 0) r x) b
        ∙ line_for_lem (get_or before (4 * e) 0) (get_or before (4 * e + 1) 0) x

    pub exited_rows : Exited (with before) → Exited (with behind)
    unfolding exits_in
    exited_rows E =
        record {
          first = λ e h. E.first e h ∙ ap (λ (l : Option Route.RoutedLine). (exits_of l).first) (sym (line_same e h));
          second = λ e h. E.second e h ∙ ap (λ (l : Option Route.RoutedLine). (exits_of l).second) (sym (line_same e h));
        }
