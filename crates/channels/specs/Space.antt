-- The fractions of a channel's wishes (docs/RULES.md, 'Spacing on a channel'). Definitions only.
use Rattle.std.specs.Prelude.{ℕ, ◌-◌, ◌^◌, Bool, cond, List, [], ◌∷◌, map, eqb, leb, length, get_or, set, Float}
use Rattle.std.specs.Float.{nan, binary64}
use Rattle.std.specs.Float.Ieee.{lt, is_nan, of_bits}
use Rattle.numbers.specs.Ops.{◌⊕◌, ◌⊖◌, ◌⊗◌, ◌⊘◌, f2, num, order_key}
use Rattle.numbers.specs.Small.{max_of, min_of, clamp_of}
use Rattle.numbers.specs.Order.{sort_by, up_from, key_at}
use Rattle.channels.specs.declared.channel.Channel.{Channel}

-- the key of a wish in the total order (docs/RULES.md, 'Total order'), a NaN behind all numbers
unfoldable pub wish_key : Float → ℕ
wish_key x = cond (is_nan x) (2 ^ 64 - 1) (order_key x)

-- the wish that has a key: that of no number is a NaN's pattern
unfoldable pub wish_of : ℕ → Float
wish_of k = of_bits binary64 (cond (leb (2 ^ 63) k) (k - 2 ^ 63) (2 ^ 64 - 1 - k))

-- the wishes of these numbers, each by its key
unfoldable pub read_back : List ℕ → List ℕ → List Float
read_back keys order = map (λ j. wish_of (key_at keys j)) order

-- the numbers 0, 1, .. of the wishes in their order: by the total order of the wishes, then by number
unfoldable pub wish_order : List Float → List ℕ
wish_order ws = let keys = map wish_key ws in sort_by (key_at keys) (up_from 0 (length ws))

-- the wishes of these numbers
unfoldable pub in_order : List Float → List ℕ → List Float
in_order ws order = map (λ j. get_or ws j nan) order

-- spread evenly: the fraction of number i of those to `last`
unfoldable pub even_at : Channel → ℕ → ℕ → Float
even_at c last i = cond (eqb last 0) ((c.lo ⊕ c.hi) ⊘ f2) (c.lo ⊕ (c.hi ⊖ c.lo) ⊗ num i ⊘ num last)

-- the pass up: each wish held to the channel, and at least the least step past the fraction before it
unfoldable pub forward : Channel → Float → List Float → List Float
forward c before [] = []
forward c before (w ∷ ws) = let t = max_of (clamp_of w c.lo c.hi) (before ⊕ c.least_step) in t ∷ forward c t ws

unfoldable pub forward_all : Channel → List Float → List Float
forward_all c [] = []
forward_all c (w ∷ ws) = let t = clamp_of w c.lo c.hi in t ∷ forward c t ws

-- t before fractions that are final: at least the least step before the first of them, or where there is none, not past
-- the channel's end
abbrev pub back_one : Channel → Float → List Float → List Float
back_one c t [] = min_of t c.hi ∷ []
back_one c t (u ∷ us) = min_of t (u ⊖ c.least_step) ∷ u ∷ us

-- the pass down, from the last fraction to the first
unfoldable pub backward : Channel → List Float → List Float
backward c [] = []
backward c (t ∷ ts) = back_one c t (backward c ts)

-- whether wishes numbered to `last` do not fit
unfoldable pub crowded : Channel → ℕ → Bool
crowded c last = lt (c.hi ⊖ c.lo) (num last ⊗ c.least_step)

-- the fractions of wishes that stand in their order
unfoldable pub spaced : Channel → List Float → List Float
spaced c ws =
    let n = length ws in
    cond (crowded c (n - 1)) (map (even_at c (n - 1)) (up_from 0 n)) (backward c (forward_all c ws))

-- each number of a list gets its fraction of another
unfoldable pub put_all : List ℕ → List Float → List Float → List Float
put_all [] ts ps = ps
put_all (x ∷ xs) [] ps = ps
put_all (x ∷ xs) (t ∷ ts) ps = put_all xs ts (set ps x t)

-- the fractions of a channel's wishes, each at its wish's number
unfoldable pub placed : Channel → List Float → List Float
placed c ws = let o = wish_order ws in put_all o (spaced c (in_order ws o)) ws
