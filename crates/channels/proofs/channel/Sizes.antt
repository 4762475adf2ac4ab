-- A channel between two places that differ enough has finite numbers: its ends lie in 0..1, and its least step has a bound. 'Enough' is what crossed segments give (geometry, Crossing). Assumes nothing.
use mathlib.Core.Path.{◌≡◌, refl, sym, subst}
use mathlib.Core.Logic.{◌⊎◌, inl, inr}
use Prim.Native.Nat.{ℕ, ◌+◌, ◌-◌, ◌*◌, ◌≤◌}
use native.Mathlib.Nat.{le_of_lt, lt_of_not-le}
use native.Mathlib.Omega.{arith}
use native.Mathlib.Decide.{dec_le}
use mathlib.Core.Bool.{Bool, true, false, cond}
use lib.Dec.{T, lit<, lit≤}
use lib.Ieee.{Float, inf, lt, fits, binary64, of_bits, of_fields, odd}
use lib.Ieee.Fits.{sub-fits}
use lib.Ieee.Positive.{num, den}
use Rattle.numbers.specs.Ops.{◌⊕◌, ◌⊖◌, ◌⊗◌, ◌⊘◌, f0, f1, f2, least_normal}
use Rattle.numbers.specs.Small.{max_of, min_of, abs_of, is_finite, clamp_of}
use Rattle.numbers.specs.Hypot.{hypot_of}
use Rattle.numbers.specs.Size.{AtMost, AtLeast}
use Rattle.numbers.proofs.float.Keys.{plus}
use Rattle.numbers.proofs.float.Extremes.{max_first}
use Rattle.numbers.proofs.float.Hypots.{hypot_comm}
use Rattle.numbers.proofs.float.Bounds.{hypot_plus}
use Rattle.numbers.proofs.float.SizeLaws.{most_weaken, most_cond, add_under, sub_under, sub_most, mul_most, div_most, hypot_most, hypot_least, hypot_least_2, min_most, min_either, either_min, abs_least, clamp_most, most_number, most_below_least, least_not_below, least_larger, size_over, f0_most, f1_most, f2_least, tiny_most, tiny_least, normal_most}
use Rattle.numbers.proofs.float.Quotients.{larger_side}
use Rattle.plane.specs.declared.geometry.Point.{Point}
use Rattle.plane.specs.declared.geometry.Box.{Box}
use Rattle.plane.proofs.geometry.PointSizes.{Near}
use Rattle.channels.specs.Channel.{tiny, reach_on, reach, held, channel_of}

-- the four edges of b are at most 2 ^ (n - 1074)
pub record Boxed (n : ℕ) (b : Box) : Type 0 where
  pub left : AtMost n b.left
  pub top : AtMost n b.top
  pub right : AtMost n b.right
  pub bottom : AtMost n b.bottom

tiny_plus : T (plus tiny)
unfolding plus of_bits of_fields odd
tiny_plus = tt

-- ---- the reach along a direction
half_most : (n : ℕ) (a b : Float) → n ≤ 2096 → AtMost n a → AtMost n b → AtMost n ((a ⊖ b) ⊘ f2)
half_most n a b N h i = div_most (n + 1) (1074 + 1) n (a ⊖ b) f2 (omega arith) (omega arith) (sub_most n a b N h i) f2_least

-- over a part that is above 1e-12 in size: at most 2 ^ 40 times as far
on_most : (n : ℕ) (half d : Float) → n + 40 ≤ 2097 → AtMost n half → T (is_finite d) → lt tiny (abs_of d) ≡ true → AtMost (n + 40) (half ⊘ abs_of d)
on_most n half d N h f t = div_most n (1074 - 40) (n + 40) half (abs_of d) (omega arith) N h (abs_least (1074 - 40) d (size_over (1074 - 40) tiny d f tiny_plus t tiny_least))

reach_on_lem : (n : ℕ) (half d : Float) → n + 40 ≤ 2097 → AtMost n half → T (is_finite d) → AtMost (n + 40) (reach_on half d) ⊎ (reach_on half d ≡ inf false)
unfolding reach_on
reach_on_lem n half d N h f = go (lt tiny (abs_of d)) refl
  where
    go : (b : Bool) → lt tiny (abs_of d) ≡ b → AtMost (n + 40) (cond b (half ⊘ abs_of d) (inf false)) ⊎ (cond b (half ⊘ abs_of d) (inf false) ≡ inf false)
    go true e = inl (on_most n half d N h f e)
    go false e = inr refl

reach_far : (n : ℕ) (half d : Float) → n + 40 ≤ 2097 → AtMost n half → AtLeast 1073 d → AtMost (n + 40) (reach_on half d)
unfolding reach_on
reach_far n half d N h i =
    let t : lt tiny (abs_of d) ≡ true = most_below_least (1074 - 39) 1073 tiny d (lit< tt) tiny_most i in
    subst (λ (b : Bool). AtMost (n + 40) (cond b (half ⊘ abs_of d) (inf false))) (sym t) (on_most n half d N h i.finite t)

pub reach_most : (n : ℕ) (b : Box) (dx dy : Float) → n + 40 ≤ 2097 → Boxed n b → T (is_finite dx) → T (is_finite dy) → AtLeast 1073 dx ⊎ AtLeast 1073 dy → AtMost (n + 40) (reach b dx dy)
unfolding reach
reach_most n b dx dy N B f g (inl h) =
    min_either (n + 40) (reach_on ((b.right ⊖ b.left) ⊘ f2) dx) (reach_on ((b.bottom ⊖ b.top) ⊘ f2) dy)
    (reach_far n ((b.right ⊖ b.left) ⊘ f2) dx N (half_most n b.right b.left (omega arith) B.right B.left) h)
    (reach_on_lem n ((b.bottom ⊖ b.top) ⊘ f2) dy N (half_most n b.bottom b.top (omega arith) B.bottom B.top) g)
reach_most n b dx dy N B f g (inr h) =
    either_min (n + 40) (reach_on ((b.right ⊖ b.left) ⊘ f2) dx) (reach_on ((b.bottom ⊖ b.top) ⊘ f2) dy)
    (reach_on_lem n ((b.right ⊖ b.left) ⊘ f2) dx N (half_most n b.right b.left (omega arith) B.right B.left) f)
    (reach_far n ((b.bottom ⊖ b.top) ⊘ f2) dy N (half_most n b.bottom b.top (omega arith) B.bottom B.top) h)

-- ---- the ends
pub held_most : (k : ℕ) (lo hi least_step : Float) → k ≤ 2095 → AtMost k lo → AtMost k hi → AtMost 1074 (held lo hi least_step).lo × AtMost 1074 (held lo hi least_step).hi
unfolding held
held_most k lo hi least_step K h i =
    let mid : AtMost k ((lo ⊕ hi) ⊘ f2) = div_most (k + 1) (1074 + 1) k (lo ⊕ hi) f2 (omega arith) (omega arith) (add_under k k (k + 1) lo hi (omega arith) (omega arith) (omega arith) h i) f2_least in
    (unit (cond (lt hi lo) ((lo ⊕ hi) ⊘ f2) lo) (most_cond k (lt hi lo) ((lo ⊕ hi) ⊘ f2) lo mid h), unit (cond (lt hi lo) ((lo ⊕ hi) ⊘ f2) hi) (most_cond k (lt hi lo) ((lo ⊕ hi) ⊘ f2) hi mid i))
  where
    unit : (x : Float) → AtMost k x → AtMost 1074 (clamp_of x f0 f1)
    unit x h = clamp_most 1074 x f0 f1 (most_number k x h) (f0_most 1074) f1_most

-- ---- the direction: x and y are the differences of the places, k shows one of them to be no less than 2 ^ (k - 1074)
module _ (m k : ℕ) (x y : Float) (M : m ≤ 2095) (K : 53 ≤ k) (L : k ≤ 2097) (N : m + 1074 ≤ 2097 + k) (F : T (fits binary64 x)) (G : T (fits binary64 y)) (X : AtMost m x) (Y : AtMost m y) (D : AtLeast k x ⊎ AtLeast k y) where
  finite_length : T (is_finite (hypot_of x y))
  finite_length = (hypot_most m m (m + 1) x y (omega arith) (omega arith) (omega arith) X Y).finite

  hypot_far : AtLeast k (hypot_of x y)
  hypot_far = go D
    where
      go : AtLeast k x ⊎ AtLeast k y → AtLeast k (hypot_of x y)
      go (inl h) = hypot_least k x y L h Y.finite finite_length
      go (inr h) = hypot_least_2 k x y L X.finite h finite_length

  -- the length is the hypotenuse itself
  pub length_is : max_of (hypot_of x y) least_normal ≡ hypot_of x y
  length_is = max_first (hypot_of x y) least_normal (least_not_below (1074 - 1022) k least_normal (hypot_of x y) (omega arith) normal_most hypot_far (hypot_plus x y X.finite Y.finite))

  pub length_far : AtLeast k (max_of (hypot_of x y) least_normal)
  length_far = subst (AtLeast k) (sym length_is) hypot_far

  part_finite : (z : Float) → AtMost m z → T (is_finite (z ⊘ max_of (hypot_of x y) least_normal))
  part_finite z h = (div_most m k 2097 z (max_of (hypot_of x y) least_normal) (omega arith) (lit≤ tt) h length_far).finite

  larger_part : AtLeast 1073 (x ⊘ max_of (hypot_of x y) least_normal) ⊎ AtLeast 1073 (y ⊘ max_of (hypot_of x y) least_normal)
  larger_part =
      subst (λ (v : Float). AtLeast 1073 (x ⊘ v) ⊎ AtLeast 1073 (y ⊘ v)) (sym length_is) (go (dec_le (num y * den x) (num x * den y)))
    where
      first : num y * den x ≤ num x * den y → AtLeast k x ⊎ AtLeast k y → AtLeast k x
      first l (inl h) = h
      first l (inr h) = least_larger k x y X.finite l h

      second : num x * den y ≤ num y * den x → AtLeast k x ⊎ AtLeast k y → AtLeast k y
      second l (inr h) = h
      second l (inl h) = least_larger k y x Y.finite l h

      go : Dec (num y * den x ≤ num x * den y) → AtLeast 1073 (x ⊘ hypot_of x y) ⊎ AtLeast 1073 (y ⊘ hypot_of x y)
      go (yes l) = inl (larger_side x y F G (most_weaken m 2096 x (omega arith) X) Y.finite l k L (first l D)).1
      go (no g) =
          let l : num x * den y ≤ num y * den x = le_of_lt (lt_of_not-le g) in
          inr (subst (λ (v : Float). AtLeast 1073 (y ⊘ v)) (hypot_comm y x) (larger_side y x G F (most_weaken m 2096 y (omega arith) Y) X.finite l k L (second l D)).1)

-- ---- the channel: places and boxes at most 2 ^ (n - 1074), the clearance's two parts at most d and e
pub channel_most : (n k d e g : ℕ) (u w : Point) (bu bw : Box) (su sw clearance : Float) → 53 ≤ k → k ≤ 2097 → n ≤ 2000 → d + e ≤ n + 40 + 1074 → n + 41 + 1074 ≤ 2094 + k → n + 40 + 1074 ≤ g + k → g ≤ 2097
    → Near n u → Near n w → Boxed n bu → Boxed n bw → AtMost d clearance → AtMost e su → AtMost e sw → AtLeast k (w.x ⊖ u.x) ⊎ AtLeast k (w.y ⊖ u.y)
    → AtMost 1074 (channel_of u w bu bw su sw clearance).lo × AtMost 1074 (channel_of u w bu bw su sw clearance).hi × AtMost g (channel_of u w bu bw su sw clearance).least_step
unfolding channel_of held
channel_most n k d e g u w bu bw su sw clearance K L N E H I G U W BU BW A B C D =
    let ax = w.x ⊖ u.x in
    let ay = w.y ⊖ u.y in
    let len = max_of (hypot_of ax ay) least_normal in
    let dx = ax ⊘ len in
    let dy = ay ⊘ len in
    let X : AtMost (n + 1) ax = sub_most n w.x u.x (omega arith) W.x U.x in
    let Y : AtMost (n + 1) ay = sub_most n w.y u.y (omega arith) W.y U.y in
    let F : T (fits binary64 ax) = sub-fits binary64 w.x u.x in
    let F' : T (fits binary64 ay) = sub-fits binary64 w.y u.y in
    let far : AtLeast k len = length_far (n + 1) k ax ay (omega arith) K L (omega arith) F F' X Y D in
    let fx : T (is_finite dx) = part_finite (n + 1) k ax ay (omega arith) K L (omega arith) F F' X Y D ax X in
    let fy : T (is_finite dy) = part_finite (n + 1) k ax ay (omega arith) K L (omega arith) F F' X Y D ay Y in
    let one : AtLeast 1073 dx ⊎ AtLeast 1073 dy = larger_part (n + 1) k ax ay (omega arith) K L (omega arith) F F' X Y D in
    let room : AtMost (n + 40) (clearance ⊗ min_of su sw) = mul_most d e (n + 40) clearance (min_of su sw) E (omega arith) A (min_most e su sw B C) in
    let end : (b : Box) → Boxed n b → AtMost 2094 ((reach b dx dy ⊕ clearance ⊗ min_of su sw) ⊘ len) = (λ b z.
    div_most (n + 41) k 2094 (reach b dx dy ⊕ clearance ⊗ min_of su sw) len (omega arith) (lit≤ tt)
    (add_under (n + 40) (n + 40) (n + 41) (reach b dx dy) (clearance ⊗ min_of su sw) (omega arith) (omega arith) (omega arith) (reach_most n b dx dy (omega arith) z fx fy one) room) far) in
    let lo = (reach bu dx dy ⊕ clearance ⊗ min_of su sw) ⊘ len in
    let hi = f1 ⊖ (reach bw dx dy ⊕ clearance ⊗ min_of su sw) ⊘ len in
    let ends = held_most 2095 lo hi (clearance ⊗ min_of su sw ⊘ len) (lit≤ tt) (most_weaken 2094 2095 lo (lit≤ tt) (end bu BU))
    (sub_under 1074 2094 2095 f1 ((reach bw dx dy ⊕ clearance ⊗ min_of su sw) ⊘ len) (lit≤ tt) (lit≤ tt) (lit≤ tt) f1_most (end bw BW)) in
    (ends.0, ends.1, div_most (n + 40) k g (clearance ⊗ min_of su sw) len I G room far)
