-- Points put at the front of a list, one after the other; a path between two of them; the run of a branch.
-- Assumes nothing.
use mathlib.Core.Path.{◌≡◌, refl, sym, ap, ◌∙◌}
use mathlib.Core.Logic.{◌≢◌}
use mathlib.Core.Bool.{Bool, true, false}
use mathlib.Core.List.{List, [], ◌∷◌, ◌++◌}
use Prim.Native.Nat.{ℕ, zero, suc, ◌+◌, ◌*◌, ◌≤◌, ◌<◌}
use native.Mathlib.Omega.{arith}
use lib.ListN.{length, set, length-set, length-append}
use lib.Seq.{take-set-le}
use lib.Ieee.{Float}
use Rattle.stations.specs.declared.measures.Measures.{Measures}
use Rattle.numbers.specs.Order.{pick}
use Rattle.plane.specs.declared.geometry.Point.{Point}
use Rattle.plane.specs.Plane.{point_at}
use Rattle.network.specs.Words.{station_of, occupied}
use Rattle.network.specs.Views.{counts_in, points_in, boxes_in}
use Rattle.network.proofs.Views.{put_point, point_same, point_other, points_zero, points_push}
use Rattle.boxes.specs.Detour.{detour}
use Rattle.boxes.specs.Stages.Paths.{path_in, Led}
use Rattle.boxes.proofs.detour.Shifting.{point_before, path_zero, path_more, path_cons, length_path}
use Rattle.boxes.proofs.detour.Detours.{length_detour, led_short}
use Rattle.network.specs.declared.words.Kind.{Kind}
use Rattle.network.specs.declared.words.Kind.TheVariants.{Undrawn, Open, Internal, Line}
use Rattle.runs.specs.Run.{is_line}
use Rattle.runs.specs.Stages.Views.{Lead, RunLists, lead, held, open_from, internal_from, led_in, led_run, line_from, run_from, first_waypoint, waypoint_count, run_in, other_run}

-- two points at the front of a list
pub two_put : (l : List Float) (p q : Point) → 8 ≤ length l → points_in 2 (put_point (put_point l 0 p.x p.y) 1 q.x q.y) ≡ p ∷ q ∷ []
two_put l p q h =
    let r : length (put_point l 0 p.x p.y) ≡ length l = simp length-set refl in
    points_push 1 (put_point l 0 p.x p.y) q.x q.y (omega arith)
    ∙ ap (λ (z : List Point). z ++ (q ∷ [])) (points_push 0 l p.x p.y (omega arith) ∙ ap (λ (z : List Point). z ++ (p ∷ [])) (points_zero l))

-- ---- a path behind the first point

-- a point stored beside a path
path_kept : (i n j : ℕ) (l : List Float) (x y : Float) → ((m : ℕ) → i ≤ m → m < i + n → m ≢ j) → path_in i n (put_point l j x y) ≡ path_in i n l
path_kept i zero j l x y h = path_zero i (put_point l j x y) ∙ sym (path_zero i l)
path_kept i (suc n) j l x y h =
    path_cons i (suc n) n (put_point l j x y) refl
    ∙ ap (λ (t : Point). t ∷ path_in (i + 1) n (put_point l j x y)) (point_other l j i x y (h i (omega arith) (omega arith)))
    ∙ ap (λ (t : List Point). point_at l i ∷ t) (path_kept (i + 1) n j l x y (λ m a b. h m (omega arith) (omega arith)))
    ∙ sym (path_cons i (suc n) n l refl)

-- a point stored behind a path
path_push : (i n j : ℕ) (l : List Float) (p : Point) → j ≡ i + n → 2 * j + 1 < length l → path_in i (n + 1) (put_point l j p.x p.y) ≡ path_in i n l ++ (p ∷ [])
path_push i n j l p e h =
    path_more i n (put_point l j p.x p.y)
    ∙ ap (λ (t : List Point). t ++ (point_at (put_point l j p.x p.y) (i + n) ∷ [])) (path_kept i n j l p.x p.y (λ m a b z. omega arith))
    ∙ ap (λ (m : ℕ). path_in i n l ++ (point_at (put_point l j p.x p.y) m ∷ [])) (sym e)
    ∙ ap (λ (t : Point). path_in i n l ++ (t ∷ [])) (point_same l j p.x p.y h)

-- copying points, after j of them
unfoldable pub Copied : ℕ → ℕ → ℕ → List Float → List Float → List Float → Type 0
Copied i w j ways was now = Led i j (path_in w j ways) was now

pub copy_none : (i w : ℕ) (ways l : List Float) → Copied i w 0 ways l l
unfolding Copied
copy_none i w ways l = record { before = refl; path = path_zero i l ∙ sym (path_zero w ways) }

pub copy_more : (i w j : ℕ) (ways was now : List Float) → Copied i w j ways was now → 2 * (i + j) + 1 < length now
    → Copied i w (j + 1) ways was (put_point now (i + j) (point_at ways (w + j)).x (point_at ways (w + j)).y)
unfolding Copied
copy_more i w j ways was now L h =
    let p = point_at ways (w + j) in
    record {
      before =
          take-set-le (2 * i) (set now (2 * (i + j)) p.x) (2 * (i + j) + 1) p.y (omega arith)
          ∙ take-set-le (2 * i) now (2 * (i + j)) p.x (omega arith) ∙ L.before;
      path = path_push i j (i + j) now p refl h ∙ ap (λ (t : List Point). t ++ (p ∷ [])) L.path ∙ sym (path_more w j ways);
    }

pub copy_all : (i w n : ℕ) (ways was now : List Float) → Copied i w n ways was now → Led i n (path_in w n ways) was now
unfolding Copied
copy_all i w n ways was now L = L

pub ruleset copied = (copy_none, copy_more, copy_all)

-- a first point, a path copied behind it, and a last point
pub middle : (n : ℕ) (a b : Point) (via : List Point) (l l2 : List Float) → Led 2 n via (put_point l 1 a.x a.y) l2 → 3 < length l → 2 * (n + 2) + 1 < length l2
    → path_in 1 (n + 2) (put_point l2 (n + 2) b.x b.y) ≡ a ∷ (via ++ (b ∷ []))
middle n a b via l l2 L g h =
    let s : n + 2 ≡ suc (n + 1) = omega arith in
    let l3 = put_point l2 (n + 2) b.x b.y in
    path_cons 1 (n + 2) (n + 1) l3 s
    ∙ ap (λ (t : Point). t ∷ path_in 2 (n + 1) l3) first
    ∙ ap (λ (t : List Point). a ∷ t) (path_push 2 n (n + 2) l2 b (omega arith) h ∙ ap (λ (t : List Point). t ++ (b ∷ [])) L.path)
  where
    first : point_at (put_point l2 (n + 2) b.x b.y) 1 ≡ a
    first = point_other l2 (n + 2) 1 b.x b.y (λ z. omega arith) ∙ point_before 2 1 (put_point l 1 a.x a.y) l2 L.before (omega arith) ∙ point_same l 1 a.x a.y g

-- a point before a path and one behind it
pub ends_put : (r : ℕ) (p q : Point) (l : List Float) → 2 * (r + 2) ≤ length l
    → points_in (r + 2) (put_point (put_point l 0 p.x p.y) (r + 1) q.x q.y) ≡ p ∷ (path_in 1 r l ++ (q ∷ []))
unfolding path_in points_in
ends_put r p q l h =
    let s : r + 2 ≡ suc (r + 1) = omega arith in
    path_cons 0 (r + 2) (r + 1) l2 s ∙ ap (λ (t : Point). t ∷ path_in 1 (r + 1) l2) first ∙ ap (λ (t : List Point). p ∷ t) rest
  where
    l1 : List Float
    l1 = put_point l 0 p.x p.y

    l2 : List Float
    l2 = put_point l1 (r + 1) q.x q.y

    first : point_at l2 0 ≡ p
    first = point_other l1 (r + 1) 0 q.x q.y (λ z. omega arith) ∙ point_same l 0 p.x p.y (omega arith)

    rest : path_in 1 (r + 1) l2 ≡ path_in 1 r l ++ (q ∷ [])
    rest =
        let same : length l1 ≡ length l = simp length-set refl in
        path_push 1 r (r + 1) l1 q (omega arith) (omega arith)
        ∙ ap (λ (t : List Point). t ++ (q ∷ [])) (path_kept 1 r 0 l p.x p.y (λ m a b z. omega arith))

pub ends_count : (i r : ℕ) (q : Point) (l : List Float) → length (path_in i r l ++ (q ∷ [])) ≡ r + 1
ends_count i r q l = length-append (path_in i r l) (q ∷ []) ∙ ap (λ (n : ℕ). n + 1) (length_path i r l)

-- a path led round boxes, and how many points it has then
module _ (clearance : Float) (k : ℕ) (stations : List ℕ) (frames : List Float) (s t r count : ℕ) (was now : List Float)
    (L : Led 1 r (detour (boxes_in k frames) (occupied (counts_in k stations)) clearance s t (path_in 1 count was)) was now) where
  pub led_round : path_in 1 r now ≡ detour (boxes_in k frames) (occupied (counts_in k stations)) clearance s t (path_in 1 count was)
  led_round = L.path

  pub led_more : r ≤ count + 4
  led_more = led_short (boxes_in k frames) (occupied (counts_in k stations)) clearance s t 1 r count was now L

pub ruleset leads = (led_round, led_more)

-- the runs of all branches that are no lines
pub other_is : (H : RunLists) (e : ℕ) (K : Kind) → other_run H.sub H.measures H.buses H.ends H.blocks H.frames e K ≡ pick (is_line K) [] (run_in H e K)
unfolding other_run is_line run_in run_from
other_is H e Undrawn = refl
other_is H e (Open a b) = refl
other_is H e (Internal a b) = refl
other_is H e (Line a b) = refl

-- a run has at most eight points more than waypoints
led_few : (led : Bool) (clearance : Float) (k : ℕ) (stations : List ℕ) (frames : List Float) (s t : ℕ) (path : List Point)
    → length (led_in led clearance k stations frames s t path) ≤ 4 + length path
unfolding led_in
led_few true clearance k stations frames s t path = length_detour (boxes_in k frames) (occupied (counts_in k stations)) clearance s t path
led_few false clearance k stations frames s t path = omega arith

ends_few : (w n : ℕ) (ways : List Float) (p q x y : Point) (after : List Point) → length after ≤ 4 + length (x ∷ (path_in w n ways ++ (y ∷ [])))
    → length (p ∷ (after ++ (q ∷ []))) ≤ n + 8
ends_few w n ways p q x y after h = omega (arith, length-append (path_in w n ways) (y ∷ []), length_path w n ways, length-append after (q ∷ []))

pub line_few : (L : Lead) (frames : List Float) (s t w n : ℕ) (p q x y : Point) → length (led_run L frames s t p q x y w n) ≤ n + 8
unfolding led_run
line_few L frames s t w n p q x y =
    let path : List Point = x ∷ (path_in w n L.ways ++ (y ∷ [])) in
    ends_few w n L.ways p q x y (led_in L.led L.clearance L.k L.stations frames s t path)
    (led_few L.led L.clearance L.k L.stations frames s t path)

pub run_few : (H : RunLists) (e : ℕ) (K : Kind) → length (run_in H e K) ≤ waypoint_count H.ends e + 8
unfolding run_in run_from open_from internal_from line_from
run_few H e Undrawn = omega arith
run_few H e (Open a b) = omega arith
run_few H e (Internal a b) = omega arith
run_few H e (Line a b) = line_few H.lead H.frames (station_of H.sub a) (station_of H.sub b) (first_waypoint H.ends e) (waypoint_count H.ends e) _ _ _ _

-- where lines aren't led, no clearance is read
module _ (sub : List ℕ) (M : Measures) (buses ends : List ℕ) (blocks places frames : List Float) (k : ℕ) (stations : List ℕ) (ways : List Float) (g h : Float) where
  pub run_unled : (e : ℕ) (K : Kind)
      → run_in (held sub M buses ends blocks places frames (lead false g k stations ways)) e K ≡ run_in (held sub M buses ends blocks places frames (lead false h k stations ways)) e K
  unfolding run_in run_from line_from led_run led_in
  run_unled e Undrawn = refl
  run_unled e (Open a b) = refl
  run_unled e (Internal a b) = refl
  run_unled e (Line a b) = refl
