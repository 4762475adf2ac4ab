-- Options in range have a fill of at most 16: the unit's bound stands on it. Assumes nothing.
use mathlib.Core.Path.{◌≡◌, refl, sym, subst}
use Prim.Native.Nat.{◌+◌}
use mathlib.Core.Bool.{Bool, true, false, ◌&&◌, true≢false}
use lib.Dec.{T}
use lib.Ieee.{lt, le, binary64, of_bits, of_fields, odd}
use Rattle.numbers.specs.Ops.{f0}
use Rattle.numbers.specs.Small.{is_finite}
use Rattle.numbers.specs.Size.{AtMost, most_test}
use Rattle.numbers.proofs.float.Keys.{le_of_lt_float}
use Rattle.numbers.proofs.float.SizeLaws.{most_lit, between_most, f0_most}
use Rattle.network.specs.declared.options.Options.{Options}
use Rattle.network.specs.Options.{in_range}

both : (a b : Bool) → (a && b) ≡ true → (a ≡ true) × (b ≡ true)
both true b h = (refl, h)
both false b h = absurd (true≢false (sym h))

sixteen : AtMost (1074 + 4) (of_bits binary64 0x4030_0000_0000_0000)
unfolding most_test is_finite of_bits of_fields odd
sixteen = most_lit (1074 + 4) (of_bits binary64 0x4030_0000_0000_0000) tt

pub fill_most : (O : Options) → in_range O ≡ true → AtMost (1074 + 4) O.fill
unfolding in_range
fill_most O h =
    let p = both (lt f0 O.fill) _ h in
    let q = both (le O.fill (of_bits binary64 0x4030_0000_0000_0000)) _ p.1 in
    between_most (1074 + 4) O.fill f0 (of_bits binary64 0x4030_0000_0000_0000) (le_of_lt_float f0 O.fill (subst T (sym p.0) tt)) (subst T (sym q.0) tt) (f0_most (1074 + 4)) sixteen
