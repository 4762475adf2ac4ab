-- A channel's part by the steps of the code, with its boxes handed on as parts of their list. Assumes nothing.
use mathlib.Core.Path.{◌≡◌, refl, ◌∙◌, subst}
use mathlib.Core.Logic.{⊎_elim, ◌≢◌}
use mathlib.Core.List.{List}
use Prim.Native.Nat.{ℕ, ◌+◌, ◌*◌, ◌≤◌, ◌<◌}
use native.Mathlib.Omega.{arith}
use lib.ListN.{length, get_or, take, drop, set, length-set}
use lib.Seq.{get_or-take, get_or-drop, get_or-set_same, get_or-set_other, take-set-le}
use lib.Ieee.{Float, nan}
use Rattle.plane.specs.Plane.{point_at}
use Rattle.channels.specs.declared.channel.Channel.{Channel}
use Rattle.network.specs.Mesh.{low_at, high_at}
use Rattle.numbers.proofs.order.Merging.{le_or_lt}
use Rattle.routing.specs.Stages.RoundLists.{half_edge_in, low_in, high_in, channel_between, read_channel, put_channel, Cornered, Ranged}

pub part_at : (l : List Float) (a n i : ℕ) → i < n → get_or (take n (drop a l)) i nan ≡ get_or l (a + i) nan
part_at l a n i h = get_or-take n (drop a l) i nan h ∙ get_or-drop a l i nan

-- ---- a channel set in a list: read again, read beside it, and the points before it

abbrev channel : Float → Float → Float → Channel
channel a b c = record { lo = a; hi = b; least_step = c }

channel_cong : (a b c a' b' c' : Float) → a ≡ a' → b ≡ b' → c ≡ c' → channel a b c ≡ channel a' b' c'
channel_cong a b c a' b' c' e f g = cc

beside : (l : List Float) (i j : ℕ) (v : Float) → j ≢ i → get_or (set l i v) j nan ≡ get_or l j nan
beside l i j v n = get_or-set_other l i j v nan n

module _ (l : List Float) (c d : ℕ) (r : Channel) where
  abbrev i : ℕ
  i = 2 * c + 3 * d

  abbrev l₁ : List Float
  l₁ = set l i r.lo

  abbrev l₂ : List Float
  l₂ = set l₁ (i + 1) r.hi

  pub put_points : take (2 * c) (put_channel l c d r) ≡ take (2 * c) l
  put_points =
      take-set-le (2 * c) l₂ (i + 2) r.least_step (omega arith) ∙ take-set-le (2 * c) l₁ (i + 1) r.hi (omega arith) ∙ take-set-le (2 * c) l i r.lo (omega arith)

  pub put_same : i + 3 ≤ length l → read_channel c (put_channel l c d r) d ≡ r
  unfolding read_channel
  put_same h =
      let g : i < length l = omega arith in
      let g₁ : i + 1 < length l₁ = simp length-set (omega arith) in
      let g₂ : i + 2 < length l₂ = simp length-set (omega arith) in
      let e : get_or (put_channel l c d r) i nan ≡ r.lo = beside l₂ (i + 2) i r.least_step (λ z. omega arith) ∙ beside l₁ (i + 1) i r.hi (λ z. omega arith) ∙ get_or-set_same l i r.lo nan g in
      let f : get_or (put_channel l c d r) (i + 1) nan ≡ r.hi = beside l₂ (i + 2) (i + 1) r.least_step (λ z. omega arith) ∙ get_or-set_same l₁ (i + 1) r.hi nan g₁ in
      let k : get_or (put_channel l c d r) (i + 2) nan ≡ r.least_step = get_or-set_same l₂ (i + 2) r.least_step nan g₂ in
      channel_cong _ _ _ _ _ _ e f k

  -- a number before them
  put_before : (j : ℕ) → j < i → get_or (put_channel l c d r) j nan ≡ get_or l j nan
  put_before j h = beside l₂ (i + 2) j r.least_step (λ z. omega arith) ∙ beside l₁ (i + 1) j r.hi (λ z. omega arith) ∙ beside l i j r.lo (λ z. omega arith)

  pub put_other : (b : ℕ) → b < d → read_channel c (put_channel l c d r) b ≡ read_channel c l b
  unfolding read_channel
  put_other b h =
      let e : get_or (put_channel l c d r) (2 * c + 3 * b) nan ≡ get_or l (2 * c + 3 * b) nan = put_before (2 * c + 3 * b) (omega arith) in
      let f : get_or (put_channel l c d r) (2 * c + 3 * b + 1) nan ≡ get_or l (2 * c + 3 * b + 1) nan = put_before (2 * c + 3 * b + 1) (omega arith) in
      let k : get_or (put_channel l c d r) (2 * c + 3 * b + 2) nan ≡ get_or l (2 * c + 3 * b + 2) nan = put_before (2 * c + 3 * b + 2) (omega arith) in
      cc

-- ---- channels in a list, from channel to channel

module _ (unit : Float) (blocks frames : List Float) (stations corners : List ℕ) (m : ℕ) (ends : List ℕ) (c : ℕ) where
  -- a channel is the same where the mesh's points are
  module _ (l l₀ : List Float) (same : take (2 * c) l ≡ take (2 * c) l₀) where
    point_kept : (v : ℕ) → v < c → point_at l v ≡ point_at l₀ v
    point_kept v h =
        let a : get_or (take (2 * c) l) (2 * v) nan ≡ get_or l (2 * v) nan = get_or-take (2 * c) l (2 * v) nan (omega arith) in
        let b : get_or (take (2 * c) l) (2 * v + 1) nan ≡ get_or l (2 * v + 1) nan = get_or-take (2 * c) l (2 * v + 1) nan (omega arith) in
        let a₀ : get_or (take (2 * c) l₀) (2 * v) nan ≡ get_or l₀ (2 * v) nan = get_or-take (2 * c) l₀ (2 * v) nan (omega arith) in
        let b₀ : get_or (take (2 * c) l₀) (2 * v + 1) nan ≡ get_or l₀ (2 * v + 1) nan = get_or-take (2 * c) l₀ (2 * v + 1) nan (omega arith) in
        cc

    pub range_kept : (h : ℕ) → Cornered frames stations corners c h → channel_between unit blocks frames stations l corners h ≡ channel_between unit blocks frames stations l₀ corners h
    unfolding channel_between low_in high_in
    range_kept h r = cc (point_kept (low_at corners h) r.low, point_kept (high_at corners h) r.high)

  -- after d channels
  unfoldable pub RangedTo : ℕ → List Float → List Float → Type 0
  RangedTo d l₀ l = Ranged unit blocks frames stations corners m ends c d l₀ l

  pub ranged_none : (l₀ : List Float) → RangedTo 0 l₀ l₀
  unfolding RangedTo
  ranged_none l₀ = record { kept = refl; ranges = λ d h. absurd (omega arith) }

  pub ranged_more : (l₀ l : List Float) (d : ℕ) (r : Channel) → 2 * c + 3 * d + 3 ≤ length l → Cornered frames stations corners c (half_edge_in m ends d)
      → r ≡ channel_between unit blocks frames stations l corners (half_edge_in m ends d) → RangedTo d l₀ l → RangedTo (d + 1) l₀ (put_channel l c d r)
  unfolding RangedTo
  ranged_more l₀ l d r room k q R =
      let l' = put_channel l c d r in
      record {
        kept = put_points l c d r ∙ R.kept;
        ranges =
            λ b g.
            ⊎_elim
            (λ (z : d ≤ b).
            let y : d ≡ b = omega arith in
            subst (λ (t : ℕ). read_channel c l' t ≡ channel_between unit blocks frames stations l₀ corners (half_edge_in m ends t)) y
            (put_same l c d r room ∙ q ∙ range_kept l l₀ R.kept (half_edge_in m ends d) k))
            (λ (z : b < d). put_other l c d r b z ∙ R.ranges b z)
            (le_or_lt d b);
      }

  pub ranged_done : (l₀ l : List Float) (channels : ℕ) → RangedTo channels l₀ l → Ranged unit blocks frames stations corners m ends c channels l₀ l
  unfolding RangedTo
  ranged_done l₀ l channels R = R

pub ruleset ranged = (ranged_none, ranged_more, ranged_done)
