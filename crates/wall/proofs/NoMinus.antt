-- Numbers without a minus sign: the unit, the scales and every station's block are such, and so is its buffer.
-- Assumes nothing.
use Rattle.std.specs.Prelude.{unwrap_or}
use Prim.Native.Nat.{ℕ, zero, suc, ◌+◌, ◌-◌, ◌*◌, ◌/◌, ◌^◌, ◌<◌, compare}
use mathlib.Core.Path.{◌≡◌, refl, sym, subst}
use mathlib.Core.Bool.{Bool, true, false, not, cond}
use mathlib.Core.List.{List, [], ◌∷◌}
use native.Mathlib.Omega.{arith}
use lib.Dec.{T, ltb, eqb, leb, lt→ltb}
use lib.Count.{count_trailing_zeros}
use lib.ListN.{length, get_or}
use lib.Ieee.{Float, nan, inf, fin, binary64, up, down, unlike, mul, div, add, lt, le, units, odd, round, size, of_bits, of_fields}
use lib.Ieee.Fits.{down_pos, round_is, and_l, and_r}
use lib.Ieee.Positive.{positive, above, above_of_le}
use Rattle.numbers.specs.Small.{max_of, min_of, is_finite}
use Rattle.numbers.specs.Hypot.{hypot_of, grains, nearest_root, root_in}
use Rattle.numbers.specs.Ops.{f0, f1, f2, order_key, ◌⊗◌}
use Rattle.numbers.specs.Order.{pick}
use Rattle.numbers.specs.Median.{finite_of, insert_float, sort_floats, middle, median_of}
use Rattle.plane.specs.declared.geometry.Point.{Point}
use Rattle.plane.specs.Plane.{point_at}
use Rattle.plane.specs.Near.{distance, nearer, nearest_to, nearest, neighbours}
use Rattle.network.specs.declared.options.Options.{Options}
use Rattle.network.specs.Options.{between, block_option_fits}
use Rattle.network.specs.Words.{is_occupied, occupied}
use Rattle.stations.specs.Size.{Size, size_at}
use Rattle.stations.specs.Unit.{coordinates, spacing_of, spacing, typical, unit_for}
use Rattle.stations.specs.Scale.{tier, occupied_below, scale_at, scales_of, scales}
use Rattle.placement.specs.Search.{HalfSides, half_sides_at, half_sides_for, half_sides}
use Rattle.placement.proofs.Clear.{Outward}
use Rattle.drawing.specs.Drawing.{measures_of}
use Rattle.wall.proofs.Every.{Every, every_at, every_table}

abbrev pub NoMinus : Float → Type 0
NoMinus nan = Unit {0}
NoMinus (inf s) = T (not s)
NoMinus (fin s m e) = T (not s)

-- ---- the operations

out_nm : (x : Float) → Outward x → NoMinus x
out_nm nan p = tt
out_nm (inf s) p = p
out_nm (fin s m e) p = p

odd_out : (d q k l : ℕ) → Outward (odd d false q k l)
unfolding odd
odd_out d zero k l = tt
odd_out d (suc q) k l = tt

units_out : (q k : ℕ) → Outward (units binary64 false q k)
unfolding units
units_out q k = go (ltb (q * 2 ^ k) (2 ^ 2098))
  where
    go : (b : Bool) → Outward (cond b (odd 54 false q k 1074) (inf false))
    go true = odd_out 54 q k 1074
    go false = tt

units_nm : (q k : ℕ) → NoMinus (units binary64 false q k)
units_nm q k = out_nm (units binary64 false q k) (units_out q k)

round_out : (n c : ℕ) → Outward (round binary64 false n c)
round_out n c = subst Outward (sym (round_is binary64 false n c)) (units_out _ _)

round_nm : (n c : ℕ) → NoMinus (round binary64 false n c)
round_nm n c = out_nm (round binary64 false n c) (round_out n c)

cond_nm : (b : Bool) (x y : Float) → NoMinus x → NoMinus y → NoMinus (cond b x y)
cond_nm true x y p q = p
cond_nm false x y p q = q

mul_nm : (x y : Float) → NoMinus x → NoMinus y → NoMinus (mul binary64 x y)
unfolding mul
mul_nm nan y p q = tt
mul_nm (inf true) y p q = absurd p
mul_nm (inf false) nan p q = tt
mul_nm (inf false) (inf true) p q = absurd q
mul_nm (inf false) (inf false) p q = tt
mul_nm (inf false) (fin true n d) p q = absurd q
mul_nm (inf false) (fin false n d) p q = cond_nm (eqb n 0) nan (inf false) tt tt
mul_nm (fin true m e) y p q = absurd p
mul_nm (fin false m e) nan p q = tt
mul_nm (fin false m e) (inf true) p q = absurd q
mul_nm (fin false m e) (inf false) p q = cond_nm (eqb m 0) nan (inf false) tt tt
mul_nm (fin false m e) (fin true n d) p q = absurd q
mul_nm (fin false m e) (fin false n d) p q = round_nm (m * up e * (n * up d)) (down e * down d)

div_nm : (x y : Float) → NoMinus x → NoMinus y → NoMinus (div binary64 x y)
unfolding div
div_nm nan y p q = tt
div_nm (inf true) y p q = absurd p
div_nm (inf false) nan p q = tt
div_nm (inf false) (inf t) p q = tt
div_nm (inf false) (fin true n d) p q = absurd q
div_nm (inf false) (fin false n d) p q = tt
div_nm (fin true m e) y p q = absurd p
div_nm (fin false m e) nan p q = tt
div_nm (fin false m e) (inf true) p q = absurd q
div_nm (fin false m e) (inf false) p q = tt
div_nm (fin false m e) (fin true n d) p q = absurd q
div_nm (fin false m e) (fin false n d) p q =
    cond_nm (eqb n 0) (cond (eqb m 0) nan (inf false)) (round binary64 false (m * up e * down d) (n * up d * down e)) (cond_nm (eqb m 0) nan (inf false) tt tt)
    (round_nm (m * up e * down d) (n * up d * down e))

root_nm : (n : ℕ) → NoMinus (nearest_root n)
unfolding nearest_root root_in size units
root_nm n =
    let k = (size n + 1) / 2 - 53 in
    let q = root_in 53 (n / 4 ^ k) in
    let h = (2 * q + 1) * 2 ^ k in
    units_nm (lib.Ieee.nearest q (compare (4 * n) (h * h))) k

hypot_nm : (x y : Float) → NoMinus (hypot_of x y)
unfolding hypot_of grains nearest_root
hypot_nm nan nan = tt
hypot_nm nan (inf t) = tt
hypot_nm nan (fin t n d) = tt
hypot_nm (inf s) y = tt
hypot_nm (fin s m e) nan = tt
hypot_nm (fin s m e) (inf t) = tt
hypot_nm (fin s m e) (fin t n d) =
    root_nm (grains (fin s m e) * grains (fin s m e) + grains (fin t n d) * grains (fin t n d))

f0_nm : NoMinus f0
unfolding of_bits of_fields odd
f0_nm = tt

f1_nm : NoMinus f1
unfolding of_bits of_fields odd count_trailing_zeros
f1_nm = tt

over_nm : (x : Float) → T (lt f0 x) → NoMinus x
unfolding lt of_bits of_fields odd
over_nm nan h = tt
over_nm (inf s) h = h
over_nm (fin true m e) h = absurd h
over_nm (fin false m e) h = tt

above_nm : (x : Float) → T (above x) → NoMinus x
above_nm nan h = tt
above_nm (inf s) h = h
above_nm (fin true m e) h = absurd h
above_nm (fin false m e) h = tt

-- 1/64
least_scale : T (positive (of_bits binary64 0x3F90_0000_0000_0000))
unfolding of_bits of_fields odd count_trailing_zeros
least_scale = tt

pub scale_nm : (x : Float) → T (between (of_bits binary64 0x3F90_0000_0000_0000) x f1) → NoMinus x
unfolding between
scale_nm x h =
    above_nm x (above_of_le (of_bits binary64 0x3F90_0000_0000_0000) x least_scale (and_l (le (of_bits binary64 0x3F90_0000_0000_0000) x) (le x f1) h))

-- 0.5
least_option : T (positive (of_bits binary64 0x3FE0_0000_0000_0000))
unfolding of_bits of_fields odd count_trailing_zeros
least_option = tt

below_finite : (x : Float) → NoMinus x → T (le x (of_bits binary64 0x4020_0000_0000_0000)) → T (is_finite x)
unfolding le is_finite of_bits of_fields odd
below_finite nan p h = h
below_finite (inf true) p h = absurd p
below_finite (inf false) p h = h
below_finite (fin s m e) p h = tt

pub option_range : (x : Float) → T (block_option_fits x) → NoMinus x × T (is_finite x)
unfolding block_option_fits between
option_range x h =
    let l = le (of_bits binary64 0x3FE0_0000_0000_0000) x in
    let u = le x (of_bits binary64 0x4020_0000_0000_0000) in
    let n : NoMinus x = above_nm x (above_of_le (of_bits binary64 0x3FE0_0000_0000_0000) x least_option (and_l l u h)) in
    (n, below_finite x n (and_r l u h))

-- a maximum with 1
part : (p d : ℕ) → 0 < d → 0 < p + 1 * 1 * d
part p d D = let e : 1 * 1 * d ≡ d = native.Mathlib.Nat.one-mul d in omega arith

not_below : (y : Float) → lt y f1 ≡ false → NoMinus y
unfolding lt of_bits of_fields odd count_trailing_zeros
not_below nan h = tt
not_below (inf true) h = absurd (subst T h tt)
not_below (inf false) h = tt
not_below (fin true m e) h = absurd (subst T h (lt→ltb 0 (m * up e * 1 + 1 * 1 * down e) (part (m * up e * 1) (down e) (down_pos e))))
not_below (fin false m e) h = tt

least_one : (x : Float) → NoMinus (max_of x f1)
unfolding max_of
least_one x = go (lt x f1) refl
  where
    go : (b : Bool) → lt x f1 ≡ b → NoMinus (cond b f1 x)
    go true e = f1_nm
    go false e = not_below x e

-- ---- lists

finite_every : (P : Float → Type 0) (l : List Float) → Every P l → Every P (finite_of l)
unfolding finite_of Every
finite_every P [] h = tt
finite_every P (x ∷ xs) h = go (is_finite x) (finite_every P xs h.1)
  where
    go : (b : Bool) → Every P (finite_of xs) → Every P (pick b (x ∷ finite_of xs) (finite_of xs))
    go true k = (h.0, k)
    go false k = k

insert_every : (P : Float → Type 0) (x : Float) (l : List Float) → P x → Every P l → Every P (insert_float x l)
unfolding insert_float Every
insert_every P x [] p h = (p, tt)
insert_every P x (y ∷ ys) p h = go (leb (order_key x) (order_key y)) (insert_every P x ys p h.1)
  where
    go : (b : Bool) → Every P (insert_float x ys) → Every P (pick b (x ∷ y ∷ ys) (y ∷ insert_float x ys))
    go true k = (p, h)
    go false k = (h.0, k)

sort_every : (P : Float → Type 0) (l : List Float) → Every P l → Every P (sort_floats l)
unfolding sort_floats Every
sort_every P [] h = tt
sort_every P (x ∷ xs) h = insert_every P x (sort_floats xs) h.0 (sort_every P xs h.1)

median_every : (P : Float → Type 0) (l : List Float) (d : Float) → Every P l → P d → P (unwrap_or (median_of l) d)
unfolding median_of middle Every
median_every P l d h p = go (sort_floats (finite_of l)) (sort_every P (finite_of l) (finite_every P l h))
  where
    go : (s : List Float) → Every P s → P (unwrap_or (middle s) d)
    go [] k = p
    go (x ∷ xs) k = every_at P (x ∷ xs) x (length (x ∷ xs) / 2) k k.0

-- ---- the unit

nearest_nm : (ps : List Float) (i j : ℕ) → NoMinus (nearest_to ps i j)
unfolding nearest_to nearer distance min_of
nearest_nm ps i zero = tt
nearest_nm ps i (suc j) = pick-nm (eqb j i) (nearest_to ps i j) (nearer (nearest_to ps i j) (distance (point_at ps i) (point_at ps j))) (nearest_nm ps i j) (nearer-nm (nearest_to ps i j) (nearest_nm ps i j))
  where
    pick-nm : (b : Bool) (x y : Float) → NoMinus x → NoMinus y → NoMinus (pick b x y)
    pick-nm true x y p q = p
    pick-nm false x y p q = q

    nearer-nm : (b : Float) → NoMinus b → NoMinus (nearer b (distance (point_at ps i) (point_at ps j)))
    nearer-nm b h =
        let d = distance (point_at ps i) (point_at ps j) in
        pick-nm (lt f0 d) (cond (lt d b) d b) b (cond_nm (lt d b) d b (hypot_nm _ _) h) h

spacing_nm : (seeds : List Point) (counts : List ℕ) → NoMinus (spacing seeds counts)
unfolding spacing spacing_of nearest
spacing_nm seeds counts =
    median_every NoMinus _ f1 (every_table NoMinus _ 0 (length (occupied counts)) (λ i. nearest_nm (coordinates seeds (occupied counts)) i (length (occupied counts)))) f1_nm

typical_nm : (zs : List Size) (counts : List ℕ) → NoMinus (typical zs counts)
unfolding typical
typical_nm zs counts = least_one _

pub unit_nm : (fill : Float) (seeds : List Point) (counts : List ℕ) (zs : List Size) → T (lt f0 fill) → NoMinus (unit_for fill (spacing seeds counts) (typical zs counts))
unfolding unit_for
unit_nm fill seeds counts zs h =
    div_nm (fill ⊗ spacing seeds counts) (typical zs counts) (mul_nm fill (spacing seeds counts) (over_nm fill h) (spacing_nm seeds counts)) (typical_nm zs counts)

-- ---- the scales

tier_nm : (O : Options) (c : ℕ) → NoMinus O.tier_scale_1 → NoMinus O.tier_scale_2 → NoMinus (tier O c)
unfolding tier
tier_nm O c p q = go (leb O.tier_count_2 c) (leb O.tier_count_1 c)
  where
    go : (u v : Bool) → NoMinus (pick u O.tier_scale_2 (pick v O.tier_scale_1 f1))
    go true v = q
    go false true = p
    go false false = f1_nm

scales_nm : (O : Options) (seeds : List Point) (counts : List ℕ) (median_spacing : Float) (s : ℕ) → NoMinus O.tier_scale_1 → NoMinus O.tier_scale_2
    → NoMinus (get_or (scales O seeds counts median_spacing) s f1)
unfolding scales scales_of scale_at
scales_nm O seeds counts median_spacing s p q = every_at NoMinus _ f1 s (every_table NoMinus _ 0 (length counts) (λ j. one j)) f1_nm
  where
    one : (j : ℕ) → NoMinus (scale_at O (coordinates seeds (occupied counts)) (length (occupied counts)) (O.tier_radius ⊗ median_spacing) counts j)
    one j =
        let c = neighbours (coordinates seeds (occupied counts)) (length (occupied counts)) (O.tier_radius ⊗ median_spacing) (occupied_below counts j) in
        go (is_occupied counts j) (tier O c) (tier_nm O c p q)
      where
        go : (b : Bool) (x : Float) → NoMinus x → NoMinus (pick b x f1)
        go true x h = h
        go false x h = f1_nm

-- ---- the blocks

finite_mul : (x y : Float) → T (is_finite (mul binary64 x y)) → T (is_finite y)
unfolding mul is_finite
finite_mul nan y h = absurd h
finite_mul (inf s) nan h = absurd h
finite_mul (inf s) (inf t) h = absurd h
finite_mul (inf s) (fin t n d) h = tt
finite_mul (fin s m e) nan h = absurd h
finite_mul (fin s m e) (inf t) h = go (eqb m 0) (unlike s t) h
  where
    go : (b u : Bool) → T (is_finite (cond b nan (inf u))) → ⊥
    go true u k = k
    go false u k = k
finite_mul (fin s m e) (fin t n d) h = tt

finite_div : (x y : Float) → T (is_finite (div binary64 x y)) → T (is_finite x)
unfolding div is_finite
finite_div nan y h = absurd h
finite_div (inf s) nan h = absurd h
finite_div (inf s) (inf t) h = absurd h
finite_div (inf s) (fin t n d) h = absurd h
finite_div (fin s m e) y h = tt

pub finite_add : (x y : Float) → T (is_finite (add binary64 x y)) → T (is_finite y)
unfolding add is_finite
finite_add nan y h = absurd h
finite_add (inf s) nan h = absurd h
finite_add (inf true) (inf true) h = absurd h
finite_add (inf true) (inf false) h = absurd h
finite_add (inf false) (inf true) h = absurd h
finite_add (inf false) (inf false) h = absurd h
finite_add (inf s) (fin t n d) h = tt
finite_add (fin s m e) nan h = absurd h
finite_add (fin s m e) (inf t) h = absurd h
finite_add (fin s m e) (fin t n d) h = tt

-- ---- the product of two finite numbers without minus sign, which may be infinite

product_out : (x y : Float) → NoMinus x → NoMinus y → T (is_finite x) → T (is_finite y) → Outward (mul binary64 x y)
unfolding mul is_finite
product_out nan y p q f g = absurd f
product_out (inf s) y p q f g = absurd f
product_out (fin true m e) y p q f g = absurd p
product_out (fin false m e) nan p q f g = absurd g
product_out (fin false m e) (inf t) p q f g = absurd g
product_out (fin false m e) (fin true n d) p q f g = absurd q
product_out (fin false m e) (fin false n d) p q f g = round_out (m * up e * (n * up d)) (down e * down d)

-- a block has no minus sign, and is finite if the half width is; a buffer has none and is finite
abbrev pub Block : HalfSides → Type 0
Block r = NoMinus r.f × (T (is_finite r.half.w) → T (is_finite r.f)) × NoMinus r.buffer × T (is_finite r.buffer)

f0_finite : T (is_finite f0)
unfolding is_finite of_bits of_fields odd
f0_finite = tt

pub block : (O : Options) (seeds : List Point) (counts : List ℕ) (median_spacing unit : Float) (zs : List Size) → NoMinus unit → NoMinus O.tier_scale_1 → NoMinus O.tier_scale_2
    → NoMinus O.block_options.buffer → T (is_finite O.block_options.buffer) → (s : ℕ) → Block (half_sides_at (half_sides (measures_of O unit) (scales O seeds counts median_spacing) zs) s)
unfolding half_sides half_sides_for
block O seeds counts median_spacing unit zs h p q b c s =
    every_at Block _ _ s
    (every_table Block (λ s. half_sides_for (measures_of O unit) (get_or (scales O seeds counts median_spacing) s f1) (size_at zs s)) 0 (length zs)
    (λ s. (
      mul_nm unit (get_or (scales O seeds counts median_spacing) s f1) h (scales_nm O seeds counts median_spacing s p q),
      λ k. finite_mul (size_at zs s).w (unit ⊗ get_or (scales O seeds counts median_spacing) s f1) (finite_div ((size_at zs s).w ⊗ (unit ⊗ get_or (scales O seeds counts median_spacing) s f1)) f2 k),
      b,
      c,
    )))
    (f0_nm, (λ k. f0_finite), f0_nm, f0_finite)

-- the buffer of a station whose half width is finite
pub buffer_out : (r : HalfSides) → Block r → T (is_finite r.half.w) → Outward (r.f ⊗ r.buffer)
buffer_out r b h = product_out r.f r.buffer b.0 b.2 (b.1 h) b.3
