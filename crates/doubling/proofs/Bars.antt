-- Bars and positions of two drawings, the second one's boxes and blocks doubled: every bar is doubled. Assumes nothing.
use mathlib.Core.Path.{◌≡◌, refl, sym, subst}
use mathlib.Core.Bool.{Bool, true, false}
use Prim.Native.Nat.{ℕ, ◌*◌, ◌^◌, ◌≤◌}
use native.Mathlib.Nat.{le_refl, le_trans, mul-le-mul_right}
use lib.Dec.{lit≤, lit<}
use lib.Ieee.{Float, fits, lt, of_bits}
use Rattle.numbers.specs.Small.{is_finite}
use Rattle.numbers.specs.Hypot.{grains}
use Rattle.numbers.specs.Ops.{num, f½, f2, ◌⊕◌, ◌⊖◌, ◌⊗◌, ◌⊘◌}
use Rattle.numbers.specs.Double.{Stepped, Doubles}
use Rattle.numbers.proofs.float.DoubleRange.{widen_to, add_stepped, mul_stepped}
use Rattle.numbers.proofs.float.DoublePairs.{lt_of_doubles, widen_doubles, add_doubles, sub_doubles, mul_doubles_2, div_doubles, num_stepped}
use Rattle.numbers.specs.Order.{pick}
use Rattle.plane.specs.declared.geometry.Box.{Box}
use Rattle.network.specs.declared.options.BlockOptions.{BlockOptions}
use Rattle.stations.specs.declared.bars.Bar.{Bar}
use Rattle.stations.specs.Bar.{Span, bare, rows, bar_x, row_y, bar_ends, bar_middle, lengthened, bar_for}
use Rattle.placement.specs.Doubles.{DoublesBox}
use Rattle.doubling.specs.Doubling.{EachBlockOption}
use Rattle.doubling.proofs.Sizes.{BlockOption, power, two, two_positive}

-- ---- coefficients of up to 2 ^ 16 blocks
half : Stepped 1073 (2 ^ 1073) f½
unfolding fits is_finite grains of_bits
half = record { number = record { held = tt; finite = tt }; count = 1; grid = refl; size = le_refl (2 ^ 1073) }

column_stepped : (G : BlockOptions) → EachBlockOption BlockOption G → (n : ℕ) → n ≤ 2 ^ 12 → Stepped 1021 (2 ^ 1090) (G.pad ⊕ G.bar_gap ⊗ num n)
column_stepped G E n h =
    let b : Stepped 1021 (2 ^ 1089) (G.bar_gap ⊗ num n) = mul_stepped 1021 (2 ^ 1089) E.bar_gap (small n h) refl (lit≤ tt) (power 1089 (lit< tt)) in
    add_stepped (widen_to 1021 (2 ^ 1089) (le_refl 1021) (lit≤ tt) E.pad) b (power 1090 (lit< tt))
  where
    small : (n : ℕ) → n ≤ 2 ^ 12 → Stepped 1074 (2 ^ 12 * 2 ^ 1074) (num n)
    small n h = widen_to 1074 (2 ^ 12 * 2 ^ 1074) (le_refl 1074) (mul-le-mul_right (2 ^ 1074) h) (num_stepped n (le_trans h (lit≤ tt)))

row_stepped : (G : BlockOptions) → EachBlockOption BlockOption G → (n : ℕ) → n ≤ 2 ^ 13 → Stepped 1021 (2 ^ 1090) (G.pad ⊕ num n ⊕ f½)
row_stepped G E n h =
    let a : Stepped 1021 (2 ^ 1088) (num n) = widen_to 1021 (2 ^ 1088) (lit≤ tt) (le_trans (mul-le-mul_right (2 ^ 1074) h) (lit≤ tt)) (num_stepped n (le_trans h (lit≤ tt))) in
    let b : Stepped 1021 (2 ^ 1089) (G.pad ⊕ num n) = add_stepped (widen_to 1021 (2 ^ 1088) (le_refl 1021) (lit≤ tt) E.pad) a (power 1089 (lit< tt)) in
    add_stepped b (widen_to 1021 (2 ^ 1089) (lit≤ tt) (lit≤ tt) half) (power 1090 (lit< tt))

pub record DoublesBar (lo top : ℕ) (b b' : Bar) : Type 0 where
  pub x : Doubles lo top b.x b'.x
  pub y0 : Doubles lo top b.y0 b'.y0
  pub y1 : Doubles lo top b.y1 b'.y1

-- the rows of a bus are below 2 ^ 13
abbrev pub Rows : Span → Type 0
Rows bare = Unit
Rows (rows a b) = (a ≤ 2 ^ 13) × (b ≤ 2 ^ 13)

-- ---- blocks of multiples of 2 ^ 222 grains and up to 2 ^ 1200, boxes of multiples of 2 ^ 116 and up to 2 ^ 1208: what the stage before gives, widened
abbrev pub Block : Float → Float → Type 0
Block f f' = Doubles 222 (2 ^ 1200) f f'

-- a coefficient times a block
part : {f f' c : Float} → Block f f' → Stepped 1021 (2 ^ 1090) c → Doubles 116 (2 ^ 1216) (c ⊗ f) (c ⊗ f')
part f c = widen_doubles 116 (2 ^ 1216) (lit≤ tt) (le_refl (2 ^ 1216)) (mul_doubles_2 169 (2 ^ 1216) c f refl (lit≤ tt) (lit≤ tt) (power 1216 (lit< tt)))

module _ (G : BlockOptions) (E : EachBlockOption BlockOption G) (box box' : Box) (f f' : Float) (B : DoublesBox 116 (2 ^ 1208) box box') (F : Block f f') where
  wide : {x x' : Float} → Doubles 116 (2 ^ 1208) x x' → Doubles 116 (2 ^ 1216) x x'
  wide h = widen_doubles 116 (2 ^ 1216) (le_refl 116) (lit≤ tt) h

  bar_x_lem : (n : ℕ) → n ≤ 2 ^ 12 → Doubles 116 (2 ^ 1217) (bar_x G box f n) (bar_x G box' f' n)
  unfolding bar_x
  bar_x_lem n h = add_doubles (wide B.left) (part F (column_stepped G E n h)) (power 1217 (lit< tt))

  pub row_y_lem : (n : ℕ) → n ≤ 2 ^ 13 → Doubles 116 (2 ^ 1217) (row_y G box f n) (row_y G box' f' n)
  unfolding row_y
  row_y_lem n h = add_doubles (wide B.top_side) (part F (row_stepped G E n h)) (power 1217 (lit< tt))

  pad_part : Stepped 1021 (2 ^ 1090) G.pad
  pad_part = widen_to 1021 (2 ^ 1090) (le_refl 1021) (lit≤ tt) E.pad

  half_part : Stepped 1021 (2 ^ 1090) f½
  half_part = widen_to 1021 (2 ^ 1090) (lit≤ tt) (lit≤ tt) half

  bare_part : Stepped 1021 (2 ^ 1090) (G.pad ⊕ G.min_bar)
  bare_part = widen_to 1021 (2 ^ 1090) (le_refl 1021) (lit≤ tt) (add_stepped E.pad E.min_bar (power 1078 (lit< tt)))

  to_18 : {x x' : Float} → Doubles 116 (2 ^ 1217) x x' → Doubles 116 (2 ^ 1218) x x'
  to_18 h = widen_doubles 116 (2 ^ 1218) (le_refl 116) (lit≤ tt) h

  to_17 : {x x' : Float} → Doubles 116 (2 ^ 1216) x x' → Doubles 116 (2 ^ 1217) x x'
  to_17 h = widen_doubles 116 (2 ^ 1217) (le_refl 116) (lit≤ tt) h

  bar_ends_doubles : (x x' : Float) (s : Span) → Rows s → Doubles 116 (2 ^ 1217) x x' → DoublesBar 116 (2 ^ 1218) (bar_ends G box f x s) (bar_ends G box' f' x' s)
  unfolding bar_ends
  bar_ends_doubles x x' bare h k = record {
    x = to_18 k;
    y0 = to_18 (add_doubles (wide B.top_side) (part F pad_part) (power 1217 (lit< tt)));
    y1 = to_18 (add_doubles (wide B.top_side) (part F bare_part) (power 1217 (lit< tt)));
  }
  bar_ends_doubles x x' (rows a b) h k = record {
    x = to_18 k;
    y0 = sub_doubles (row_y_lem a h.0) (to_17 (part F half_part)) (power 1218 (lit< tt));
    y1 = add_doubles (row_y_lem b h.1) (to_17 (part F half_part)) (power 1218 (lit< tt));
  }

-- the middle: 116 - 53
pub middle_doubles : (b b' : Bar) → DoublesBar 116 (2 ^ 1218) b b' → Doubles 63 (2 ^ 1219) (bar_middle b) (bar_middle b')
middle_doubles b b' h = div_doubles 63 (2 ^ 1219) (add_doubles h.y0 h.y1 (power 1219 (lit< tt))) two two_positive (lit≤ tt) (lit≤ tt) (lit≤ tt) (power 1219 (lit< tt))

pick_bar : {lo top : ℕ} {p p' q q' : Bar} (b : Bool) → DoublesBar lo top p p' → DoublesBar lo top q q' → DoublesBar lo top (pick b p q) (pick b p' q')
pick_bar true f g = f
pick_bar false f g = g

module _ (G : BlockOptions) (E : EachBlockOption BlockOption G) (f f' : Float) (F : Block f f') where
  -- shortest bar × f, and half of it
  shortest : Doubles 169 (2 ^ 1203) (G.min_bar ⊗ f) (G.min_bar ⊗ f')
  shortest = mul_doubles_2 169 (2 ^ 1203) E.min_bar F refl (lit≤ tt) (lit≤ tt) (power 1203 (lit< tt))

  shortest_half : Doubles 63 (2 ^ 1219) (G.min_bar ⊗ f ⊘ f2) (G.min_bar ⊗ f' ⊘ f2)
  shortest_half = widen_doubles 63 (2 ^ 1219) (lit≤ tt) (lit≤ tt) (div_doubles 116 (2 ^ 1203) shortest two two_positive (lit≤ tt) (lit≤ tt) (lit≤ tt) (power 1203 (lit< tt)))

  pub lengthened_doubles : (b b' : Bar) → DoublesBar 116 (2 ^ 1218) b b' → DoublesBar 63 (2 ^ 1220) (lengthened G f b) (lengthened G f' b')
  unfolding lengthened
  lengthened_doubles b b' h =
      let long : Bar = record { x = b.x; y0 = bar_middle b ⊖ G.min_bar ⊗ f ⊘ f2; y1 = bar_middle b ⊕ G.min_bar ⊗ f ⊘ f2 } in
      let long' : Bar = record { x = b'.x; y0 = bar_middle b' ⊖ G.min_bar ⊗ f' ⊘ f2; y1 = bar_middle b' ⊕ G.min_bar ⊗ f' ⊘ f2 } in
      let x : Doubles 63 (2 ^ 1220) b.x b'.x = widen_doubles 63 (2 ^ 1220) (lit≤ tt) (lit≤ tt) h.x in
      let made : DoublesBar 63 (2 ^ 1220) long long' = record { x = x; y0 = sub_doubles (middle_doubles b b' h) shortest_half (power 1220 (lit< tt)); y1 = add_doubles (middle_doubles b b' h) shortest_half (power 1220 (lit< tt)) } in
      let kept : DoublesBar 63 (2 ^ 1220) b b' = record { x = x; y0 = widen_doubles 63 (2 ^ 1220) (lit≤ tt) (lit≤ tt) h.y0; y1 = widen_doubles 63 (2 ^ 1220) (lit≤ tt) (lit≤ tt) h.y1 } in
      let test : lt (b'.y1 ⊖ b'.y0) (G.min_bar ⊗ f') ≡ lt (b.y1 ⊖ b.y0) (G.min_bar ⊗ f) = lt_of_doubles (sub_doubles h.y1 h.y0 (power 1219 (lit< tt))) shortest in
      subst (λ (t : Bool). DoublesBar 63 (2 ^ 1220) (pick (lt (b.y1 ⊖ b.y0) (G.min_bar ⊗ f)) long b) (pick t long' b')) (sym test) (pick_bar (lt (b.y1 ⊖ b.y0) (G.min_bar ⊗ f)) made kept)

pub bar_doubles : (G : BlockOptions) → EachBlockOption BlockOption G → (box box' : Box) (f f' : Float) → DoublesBox 116 (2 ^ 1208) box box' → Block f f' → (column : ℕ) (s : Span) → column ≤ 2 ^ 12 → Rows s → DoublesBar 63 (2 ^ 1220) (bar_for G box f column s) (bar_for G box' f' column s)
unfolding bar_for
bar_doubles G E box box' f f' B F column s h k = lengthened_doubles G E f f' F (bar_ends G box f (bar_x G box f column) s) (bar_ends G box' f' (bar_x G box' f' column) s) (bar_ends_doubles G E box box' f f' B F (bar_x G box f column) (bar_x G box' f' column) s k (bar_x_lem G E box box' f f' B F column h))
