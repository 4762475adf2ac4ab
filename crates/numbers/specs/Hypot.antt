-- The correctly rounded length of the hypotenuse (docs/RULES.md, 'Hypot'). Lengths are counted in grains of 2 ^ -1074,
-- the least positive f64, of which every finite f64 is a whole number. Definitions only.
use Rattle.std.specs.Prelude.{ℕ, zero, suc, ◌+◌, ◌-◌, ◌*◌, ◌/◌, ◌^◌, false, cond, nat_le, Float}
use Prim.Native.Nat.{compare}
use Rattle.std.specs.Float.{nan, inf, fin, binary64}
use Rattle.std.specs.Float.Ieee.{up, down, size, nearest, units}

-- how many grains the size of a finite float is
unfoldable pub grains : Float → ℕ
grains nan = 0
grains (inf s) = 0
grains (fin s m e) = m * up e * 2 ^ 1074 / down e

-- the whole part of n's square root, for an n below 4 ^ d: the root of n / 4 has all its binary digits but the last
unfoldable pub root_in : ℕ → ℕ → ℕ
root_in zero n = 0
root_in (suc d) n = let s = 2 * root_in d (n / 4) in s + cond (nat_le ((s + 1) * (s + 1)) n) 1 0

-- The f64 nearest to n's square root, in grains, a tie to the even one. Of the root's whole part, which has half as
-- many digits as n, the 53 leading ones, q, are kept, and k dropped: q is the whole part of the root of n / 4 ^ k. Half
-- way from q * 2 ^ k to the next multiple of 2 ^ k lies (2 * q + 1) * 2 ^ k / 2, which is compared with the root by the
-- squares of their doubles.
unfoldable pub nearest_root : ℕ → Float
unfolding root_in size units
nearest_root n =
    let k = (size n + 1) / 2 - 53 in
    let q = root_in 53 (n / 4 ^ k) in
    let h = (2 * q + 1) * 2 ^ k in
    units binary64 false (nearest q (compare (4 * n) (h * h))) k

-- An infinite side gives infinity, even beside a NaN.
unfoldable pub hypot_of : Float → Float → Float
unfolding grains nearest_root
hypot_of nan nan = nan
hypot_of nan (inf t) = inf false
hypot_of nan (fin t n d) = nan
hypot_of (inf s) y = inf false
hypot_of (fin s m e) nan = nan
hypot_of (fin s m e) (inf t) = inf false
hypot_of (fin s m e) (fin t n d) =
    let a = grains (fin s m e) in
    let b = grains (fin t n d) in
    nearest_root (a * a + b * b)
