-- What refusals 1 to 7 promise where none applies.
-- Assumes nothing.
use mathlib.Core.Path.{◌≡◌, refl, sym}
use mathlib.Core.Bool.{Bool, true, false, not, ◌&&◌, ◌||◌, true≢false}
use Prim.Native.Nat.{ℕ, ◌+◌, ◌*◌, ◌≤◌, zero-le, ◌/◌, min}
use native.Mathlib.Omega.{arith}
use lib.Dec.{ltb, leb}
use lib.IntN.{ℤ, pos, negsuc}
use lib.ListN.{length}
use lib.Ieee.{binary64, lt, le, of_bits}
use borrow.Author.Tests.{ltb-false, leb-true}
use Rattle.network.specs.declared.options.Options.{Options}
use Rattle.numbers.specs.Ops.{f0, f1}
use Rattle.network.specs.Options.{in_range, between, search_fits, block_options_fit, search_of}
use Rattle.network.specs.Words.{station_count}
use Rattle.std.specs.Prelude.{Option, Some, None}
use Rattle.std.specs.Option.{option_or}
use Rattle.network.specs.declared.refusals.Refusal.{Refusal}
use Rattle.network.specs.declared.refusals.Refusal.TheVariants as Refusals
use Rattle.network.specs.Refusal.{refuse, shape_refusal, too_far}
use Rattle.boxes.specs.Length.{index_length}
use Rattle.drawing.specs.declared.lengths.ListLengths.{ListLengths}
use Rattle.drawing.specs.Network.{Network}
use Rattle.drawing.specs.Answer.{early, mesh_length, sorting, short_results, short_work, crossing_room}
use Rattle.network.proofs.refusals.Shapes.{Shape, shape_fits, test_on}

-- The lent lists have the lengths that a network of this shape asks.
pub record Fits (o : Options) (N : Network) (R : ListLengths) : Type 0 where
  pub shape : Shape N.station N.kv N.from N.to
  pub range : in_range o ≡ true
  pub near : too_far (length N.station) N.xy ≡ false
  pub search : search_of o.search ≤ 20
  pub positions : 2 * length N.station ≤ R.positions
  pub bars : 4 * length N.station ≤ R.bars
  pub boxes : 4 * station_count N.station ≤ R.boxes
  pub scales : station_count N.station ≤ R.scales
  pub roles : length N.from ≤ R.roles
  pub stations : 2 * length N.station ≤ R.stations
  pub buses : 3 * length N.station ≤ R.buses
  pub ends : 4 * length N.from + 4 * mesh_length N + 4 ≤ R.ends
  pub sorted : length N.station + 2 * length N.from + mesh_length N ≤ R.sorted
  pub spare : length N.station + 2 * length N.from + mesh_length N ≤ R.spare
  pub keys : length N.station + 2 * length N.from + mesh_length N ≤ R.keys
  pub places : 2 * length N.station + 4 * length N.from ≤ R.places
  pub blocks : 3 * length N.station ≤ R.blocks
  pub frames : 4 * length N.station ≤ R.frames
  pub path : 2 * length N.station + 3 * mesh_length N + 16 ≤ R.path

-- The first of these lengths is enough, and the rest are not too short.
enough : (have need : ℕ) (rest : Bool) → (ltb have need || rest) ≡ false → (need ≤ have) × (rest ≡ false)
enough have need rest h = split (ltb have need) refl h
  where
    split : (t : Bool) → ltb have need ≡ t → (t || rest) ≡ false → (need ≤ have) × (rest ≡ false)
    split true e h = absurd (true≢false h)
    split false e h = (ltb-false have need e, h)

both : (a b : Bool) → (a && b) ≡ true → (a ≡ true) × (b ≡ true)
both true b h = (refl, h)
both false b h = absurd (true≢false (sym h))

sixth : (a b c d e f g : Bool) → (a && (b && (c && (d && (e && (f && g)))))) ≡ true → f ≡ true
sixth a b c d e f g h =
    let h1 = (both a (b && (c && (d && (e && (f && g))))) h).1 in
    let h2 = (both b (c && (d && (e && (f && g)))) h1).1 in
    let h3 = (both c (d && (e && (f && g))) h2).1 in
    let h4 = (both d (e && (f && g)) h3).1 in
    let h5 = (both e (f && g) h4).1 in
    (both f g h5).0

none_of : (s : Option Refusal) (a b c d : Bool)
    → None ≡ option_or s (refuse a (Some Refusals.OptionRange) (refuse b (Some Refusals.TooFar) (refuse c (Some Refusals.ListTooShort) (refuse d (Some Refusals.ListTooShort) None))))
    → (None ≡ s) × (a ≡ false) × (b ≡ false) × (c ≡ false) × (d ≡ false)
none_of (Some s) a b c d h = cc
none_of None true b c d h = cc
none_of None false true c d h = cc
none_of None false false true d h = cc
none_of None false false false true h = cc
none_of None false false false false h = (refl, refl, refl, refl, refl)

search_small : (s : ℤ) → search_fits s ≡ true → search_of s ≤ 20
unfolding search_fits search_of
search_small (pos s) h = leb-true s 20 h
search_small (negsuc s) h = zero-le

search_in : (o : Options) → in_range o ≡ true → search_of o.search ≤ 20
unfolding in_range
search_in o h =
    search_small o.search
    (sixth
    (lt f0 o.fill)
    (le o.fill (of_bits binary64 0x4030_0000_0000_0000))
    (between f0 o.tier_radius (of_bits binary64 0x408F_4000_0000_0000))
    (between (of_bits binary64 0x3F90_0000_0000_0000) o.tier_scale_1 f1)
    (between (of_bits binary64 0x3F90_0000_0000_0000) o.tier_scale_2 f1)
    (search_fits o.search)
    (block_options_fit o.block_options && leb o.route_iterations 100)
    h)

-- Five lengths.
five : (a a' b b' c c' d d' e e' : ℕ)
    → (ltb a a' || (ltb b b' || (ltb c c' || (ltb d d' || ltb e e')))) ≡ false
    → (a' ≤ a) × (b' ≤ b) × (c' ≤ c) × (d' ≤ d) × (e' ≤ e)
five a a' b b' c c' d d' e e' h =
    let p = enough a a' (ltb b b' || (ltb c c' || (ltb d d' || ltb e e'))) h in
    let q = enough b b' (ltb c c' || (ltb d d' || ltb e e')) p.1 in
    let r = enough c c' (ltb d d' || ltb e e') q.1 in
    let s = enough d d' (ltb e e') r.1 in
    (p.0, q.0, r.0, s.0, ltb-false e e' s.1)

pub fits_of : (o : Options) (N : Network) (R : ListLengths) → None ≡ early o N R → Fits o N R
unfolding early short_results short_work
fits_of o N R h =
    let n = length N.station in
    let m = length N.from in
    let k = station_count N.station in
    let s = sorting n m (mesh_length N) in
    let z =
    none_of
    (shape_refusal N.station N.kv N.from N.to)
    (not (in_range o))
    (too_far n N.xy)
    (short_results n m k R)
    (short_work n m (mesh_length N) R)
    h
    in
    let p = five R.positions (2 * n) R.bars (4 * n) R.boxes (4 * k) R.scales k R.roles m z.3 in
    let rest : Bool =
    ltb R.keys s || (ltb R.places (2 * n + 4 * m) || (ltb R.blocks (3 * n) || (ltb R.frames (4 * n) || (ltb R.path (2 * n + 3 * mesh_length N + 16) || ltb R.sorted (index_length n)))))
    in
    let w1 =
    enough R.stations (2 * n)
    (ltb R.buses (3 * n) || (ltb R.ends (4 * m + 4 * mesh_length N + 4) || (ltb R.sorted s || (ltb R.spare s || rest))))
    z.4
    in
    let w2 = enough R.buses (3 * n) (ltb R.ends (4 * m + 4 * mesh_length N + 4) || (ltb R.sorted s || (ltb R.spare s || rest))) w1.1 in
    let w3 = enough R.ends (4 * m + 4 * mesh_length N + 4) (ltb R.sorted s || (ltb R.spare s || rest)) w2.1 in
    let w4 = enough R.sorted s (ltb R.spare s || rest) w3.1 in
    let w5 = enough R.spare s rest w4.1 in
    let w6 =
    enough R.keys s
    (ltb R.places (2 * n + 4 * m) || (ltb R.blocks (3 * n) || (ltb R.frames (4 * n) || (ltb R.path (2 * n + 3 * mesh_length N + 16) || ltb R.sorted (index_length n)))))
    w5.1
    in
    let w = five R.places (2 * n + 4 * m) R.blocks (3 * n) R.frames (4 * n) R.path (2 * n + 3 * mesh_length N + 16) R.sorted (index_length n) w6.1 in
    record {
      shape = shape_fits _ _ _ _ z.0;
      range = test_on _ z.1;
      near = z.2;
      search = search_in o (test_on _ z.1);
      positions = p.0;
      bars = p.1;
      boxes = p.2;
      scales = p.3;
      roles = p.4;
      stations = w1.0;
      buses = w2.0;
      ends = w3.0;
      sorted = w4.0;
      spare = w5.0;
      keys = w6.0;
      places = w.0;
      blocks = w.1;
      frames = w.2;
      path = w.3;
    }

-- The crossing list holds no more than each of its six lists.
pub room_parts : (R : ListLengths) (x : ℕ) → x ≡ crossing_room R
    → (3 * x ≤ R.numbers) × (x ≤ R.crossings) × (2 * x ≤ R.ways) × (x ≤ R.sorted) × (x ≤ R.spare) × (x ≤ R.keys)
unfolding crossing_room
room_parts R x e =
    let h : x ≡ min (R.numbers / 3) (min R.crossings (min (R.ways / 2) (min R.sorted (min R.spare R.keys)))) = e in
    (omega (arith, h), omega (arith, h), omega (arith, h), omega (arith, h), omega (arith, h), omega (arith, h))
