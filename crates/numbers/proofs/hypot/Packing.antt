-- The bits of the nearest f64 to a root. Assumes nothing.
use mathlib.Core.Path.{◌≡◌, sym, ap, ◌∙◌, subst}
use Prim.Native.Nat.{ℕ, min, ◌+◌, ◌*◌, ◌/◌, ◌%◌, ◌^◌, ◌≤◌, ◌<◌}
use native.Mathlib.Decide.{dec_le}
use native.Mathlib.Nat.{le_of_lt, le_refl, min-eq_left, min-eq_right}
use native.Mathlib.Omega.{arith}
use mathlib.Core.Bool.{Bool, true, false, cond}
use lib.Dec.{eqb}
use lib.Ieee.{units, binary64}
use Rattle.numbers.specs.Stages.Steps.{Close, Nearest, up_by}
use Rattle.numbers.specs.Hypot.{nearest_root}
use Rattle.numbers.proofs.float.Pack.{bits_under, bits_over}
use Rattle.numbers.proofs.float.Rounding.{nearest_is, halved}

pub up_le : (q h x : ℕ) → up_by q h x ≤ 1
up_le q h x = go (eqb h 0) (eqb x 0)
  where
    last : q % 2 ≤ 1
    last = omega arith

    go : (a b : Bool) → cond a 0 (cond b (q % 2) 1) ≤ 1
    go true b = omega arith
    go false true = last
    go false false = omega arith

module _ (r x e u : ℕ) (small : r < 2 ^ 54) (normal : 0 < e → 2 ^ 53 ≤ r) (up : u ≡ up_by (r / 2) (r % 2) x) where
  one : u ≤ 1
  one = subst (λ (a : ℕ). a ≤ 1) (sym up) (up_le (r / 2) (r % 2) x)

  kept_le : r / 2 + u ≤ 2 ^ 53
  kept_le = let h = one in omega arith

  kept_ge : 0 < e → 2 ^ 52 ≤ r / 2 + u
  kept_ge h = let n : 2 ^ 53 ≤ r = normal h in omega arith

  is : (n : ℕ) → Close n r x e → units binary64 false (r / 2 + u) e ≡ nearest_root n
  is n c = ap (λ (a : ℕ). units binary64 false (r / 2 + a) e) up ∙ sym (nearest_is n r x e c small normal)

  packed_under : e * 2 ^ 52 + (r / 2 + u) < 0x7ff0_0000_0000_0000 → Nearest (e * 2 ^ 52 + (r / 2 + u)) r x e
  packed_under h = record {
    number = le_of_lt h;
    value = λ n c. bits_under (r / 2 + u) e kept_le kept_ge h ∙ is n c;
  }

  packed_over : 0x7ff0_0000_0000_0000 ≤ e * 2 ^ 52 + (r / 2 + u) → Nearest 0x7ff0_0000_0000_0000 r x e
  packed_over h = record {
    number = le_refl 0x7ff0_0000_0000_0000;
    value = λ n c. bits_over (r / 2 + u) e kept_le kept_ge h ∙ is n c;
  }

  pub packed_held : (b : ℕ) → b ≡ min (e * 2 ^ 52 + (r / 2 + u)) 0x7ff0_0000_0000_0000 → Nearest b r x e
  packed_held b h = go (dec_le 0x7ff0_0000_0000_0000 (e * 2 ^ 52 + (r / 2 + u)))
    where
      go : Dec (0x7ff0_0000_0000_0000 ≤ e * 2 ^ 52 + (r / 2 + u)) → Nearest b r x e
      go (yes k) = subst (λ (z : ℕ). Nearest z r x e) (sym (h ∙ min-eq_right k)) (packed_over k)
      go (no f) = let k : e * 2 ^ 52 + (r / 2 + u) < 0x7ff0_0000_0000_0000 = omega arith in subst (λ (z : ℕ). Nearest z r x e) (sym (h ∙ min-eq_left (le_of_lt k))) (packed_under k)

pub nearest_halved : (b r x e : ℕ) → Nearest b (r / 2) (x + r % 2) (e + 1) → Nearest b r x e
nearest_halved b r x e h = record {
  number = h.number;
  value = λ n c. h.value n (halved n r x e c);
}
