-- Where no coordinate is refused by 6, every seed lies within 10 ^ 12 either way: a sum of c points lies within c times that, exactly, and the mean within it. Assumes nothing.
use mathlib.Core.Path.{◌≡◌, refl, sym, subst}
use Prim.Native.Nat.{ℕ, zero, suc, ◌+◌, ◌*◌, ◌^◌, ◌≤◌, ◌<◌}
use native.Mathlib.Nat.{le_trans, le_of_eq, mul-le-mul_right, zero-lt-suc}
use native.Mathlib.Omega.{arith}
use mathlib.Core.Bool.{Bool, true, false, ◌&&◌, ◌||◌, true≢false}
use mathlib.Core.List.{List}
use lib.Dec.{T, eqb, lit<, lit≤}
use lib.ListN.{length, get_or}
use lib.Ieee.{Float, nan, binary64, of_bits, of_fields, odd}
use borrow.Author.Tests.{ltb-false}
use Rattle.numbers.specs.Ops.{f0}
use Rattle.numbers.specs.Small.{abs_of, is_finite}
use Rattle.numbers.specs.Size.{Within}
use Rattle.numbers.proofs.float.SizeLaws.{within_weaken, sum_step, mean_within, exact_whole, limit_within, limit_most}
use Rattle.numbers.specs.Order.{pick}
use Rattle.numbers.specs.Table.{how_many}
use Rattle.numbers.proofs.order.Tables.{how_many_yes, how_many_no, how_many_le, how_many_mono}
use Rattle.plane.specs.declared.geometry.Point.{Point}
use Rattle.plane.proofs.geometry.PointSizes.{Near}
use Rattle.plane.specs.Plane.{point, origin}
use Rattle.network.specs.Words.{station_of, buses_in}
use Rattle.network.specs.Refusal.{above, far_out, too_far}
use Rattle.network.specs.Seed.{point_of, bus_point, plus, sum_to, mean, seed_of}

-- both coordinates are at most c times 10 ^ 12 in size
pub record Times (c : ℕ) (p : Point) : Type 0 where
  pub x : Within (c * 10 ^ 12) 1 p.x
  pub y : Within (c * 10 ^ 12) 1 p.y

-- ---- one bus
none_far : (p : ℕ → Bool) (n i : ℕ) → how_many p n ≡ 0 → i < n → p i ≡ false
none_far p n i h l = go (p i) refl
  where
    some : (a b : ℕ) → a ≡ suc b → a ≤ 0 → ⊥
    some a b e k = omega arith

    go : (b : Bool) → p i ≡ b → p i ≡ false
    go false e = e
    go true e = absurd (some (how_many p (suc i)) (how_many p i) (how_many_yes p i e) (le_trans (how_many_mono p (suc i) n l) (le_of_eq h)))

zero_times : (b : ℕ) → Within b 1 f0
unfolding is_finite of_bits of_fields odd
zero_times b = record { finite = tt; size = none b }
  where
    none : (b : ℕ) → 0 * 2 ^ 0 * 1 ≤ b * 1
    none b = omega arith

-- the terms of a sum start here
origin_times : (c : ℕ) → Times c origin
origin_times c = record { x = zero_times (c * 10 ^ 12); y = zero_times (c * 10 ^ 12) }

or_first : (a b : Bool) → (a || b) ≡ false → a ≡ false
or_first true b h = h
or_first false b h = refl

or_second : (a b : Bool) → (a || b) ≡ false → b ≡ false
or_second true b h = absurd (true≢false h)
or_second false b h = h

pub point_times : (a b : Float) → far_out a b ≡ false → Times 1 (point_of a b)
unfolding far_out point_of
point_times a b h = go (is_finite a) (is_finite b) refl refl h
  where
    near : (x : Float) → is_finite x ≡ true → above x ≡ false → Within (1 * 10 ^ 12) 1 x
    near x f e = limit_within x (subst T (sym f) tt) (at e)
      where
        at : above x ≡ false → lib.Ieee.lt (of_bits binary64 0x426D_1A94_A200_0000) (abs_of x) ≡ false
        at e = unfold above in e

    go : (s t : Bool) → is_finite a ≡ s → is_finite b ≡ t → (s && (t && (above a || above b))) ≡ false → Times 1 (pick (s && t) (point a b) origin)
    go false t f g h = origin_times 1
    go true false f g h = origin_times 1
    go true true f g h = record { x = near a f (or_first (above a) (above b) h); y = near b g (or_second (above a) (above b) h) }

-- ---- sums
module _ (sub : List ℕ) (xy : List Float) (few : length sub ≤ 4096) (near : too_far (length sub) xy ≡ false) where
  bus_times : (i : ℕ) → i < length sub → Times 1 (bus_point xy i)
  unfolding bus_point too_far
  bus_times i l = point_times (get_or xy (2 * i) nan) (get_or xy (2 * i + 1) nan) (none_far (λ i. far_out (get_or xy (2 * i) nan) (get_or xy (2 * i + 1) nan)) (length sub) i (zero_of (ltb-false 0 (how_many (λ i. far_out (get_or xy (2 * i) nan) (get_or xy (2 * i + 1) nan)) (length sub)) near)) l)
    where
      zero_of : {a : ℕ} → a ≤ 0 → a ≡ 0
      zero_of h = omega arith

  counted : ℕ → ℕ → ℕ
  counted s i = how_many (λ j. eqb (station_of sub j) s) i

  room : (c : ℕ) → c + 1 ≤ 4096 → (c + 1) * 10 ^ 12 ≤ 2 ^ 53
  room c h = le_trans (mul-le-mul_right (10 ^ 12) h) (lit≤ tt)

  plus_times : (c : ℕ) (p q : Point) → c + 1 ≤ 4096 → Times c p → Times 1 q → Times (c + 1) (plus p q)
  plus_times c p q l P Q = record {
    x = sum_step c (10 ^ 12) p.x q.x (room c l) P.x Q.x;
    y = sum_step c (10 ^ 12) p.y q.y (room c l) P.y Q.y;
  }

  sum_times : (s i : ℕ) → i ≤ length sub → Times (counted s i) (sum_to sub xy s i)
  unfolding sum_to counted
  sum_times s zero l = origin_times (how_many (λ j. eqb (station_of sub j) s) 0)
  sum_times s (suc i) l =
      go (eqb (station_of sub i) s) refl (sum_times s i (omega arith))
    where
      next : (a b : ℕ) → a ≡ suc b → b + 1 ≡ a
      next a b e = omega arith

      go : (b : Bool) → eqb (station_of sub i) s ≡ b → Times (how_many (λ j. eqb (station_of sub j) s) i) (sum_to sub xy s i)
          → Times (how_many (λ j. eqb (station_of sub j) s) (suc i)) (pick b (plus (sum_to sub xy s i) (bus_point xy i)) (sum_to sub xy s i))
      go true e h =
          let c = how_many (λ j. eqb (station_of sub j) s) i in
          let m : c ≤ i = how_many_le (λ j. eqb (station_of sub j) s) i in
          subst (λ (a : ℕ). Times a (plus (sum_to sub xy s i) (bus_point xy i))) (next (how_many (λ j. eqb (station_of sub j) s) (suc i)) c (how_many_yes (λ j. eqb (station_of sub j) s) i e))
          (plus_times c (sum_to sub xy s i) (bus_point xy i) (omega arith) h (bus_times i l))
      go false e h = subst (λ (a : ℕ). Times a (sum_to sub xy s i)) (sym (how_many_no (λ j. eqb (station_of sub j) s) i e)) h

  -- ---- means
  one : (p : Point) (c : ℕ) → c ≤ 4096 → Times c p → Times 1 (mean c p)
  unfolding mean
  one p zero l h = record {
    x = within_weaken (0 * 10 ^ 12) 1 (1 * 10 ^ 12) 1 p.x (lit< tt) (lit≤ tt) h.x;
    y = within_weaken (0 * 10 ^ 12) 1 (1 * 10 ^ 12) 1 p.y (lit< tt) (lit≤ tt) h.y;
  }
  one p (suc c) l h = record {
    x = mean_within (suc c) (10 ^ 12) 1 p.x (zero-lt-suc c) (le_trans l (lit≤ tt)) (lit< tt) (exact_whole (10 ^ 12) (lit≤ tt)) h.x;
    y = mean_within (suc c) (10 ^ 12) 1 p.y (zero-lt-suc c) (le_trans l (lit≤ tt)) (lit< tt) (exact_whole (10 ^ 12) (lit≤ tt)) h.y;
  }

  pub seed_times : (s : ℕ) → Times 1 (seed_of sub xy s)
  unfolding seed_of buses_in counted
  seed_times s = one (sum_to sub xy s (length sub)) (how_many (λ j. eqb (station_of sub j) s) (length sub)) (le_trans (how_many_le (λ j. eqb (station_of sub j) s) (length sub)) few) (sum_times s (length sub) (le_of_eq refl))

  pub seed_near : (s : ℕ) → Near (1074 + 40) (seed_of sub xy s)
  seed_near s = let h = seed_times s in record { x = limit_most (seed_of sub xy s).x h.x; y = limit_most (seed_of sub xy s).y h.y }
