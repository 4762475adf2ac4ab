-- The numbers of refusals, and refusals 1 to 4, 15 and 6, each by its condition (docs/RULES.md, 'Refusals').
-- Definitions only.
use Rattle.std.specs.Prelude.{ℕ, ◌+◌, ◌*◌, Bool, true, false, not, ◌&&◌, ◌||◌, eqb, ltb, ℤ, Float}
use Rattle.std.specs.Prelude.{List, length, get_or, Option, Some, None, Result, Ok, Err}
use Rattle.std.specs.Float.{nan, binary64}
use Rattle.std.specs.Float.Ieee.{lt, of_bits}
use Rattle.numbers.specs.Small.{abs_of, is_finite}
use Rattle.numbers.specs.Ops.{f0}
use Rattle.numbers.specs.Table.{how_many}
use Rattle.network.specs.Words.{station_count}
use Rattle.network.specs.declared.refusals.Refusal.{Refusal}
use Rattle.network.specs.declared.refusals.Refusal.TheVariants.{TooMany, KvLength, ToLength, StationNumber}
use Rattle.network.specs.declared.refusals.Refusal.TheVariants.{OptionRange, TooFar, ListTooShort, IllSized, Mesh}
use Rattle.network.specs.declared.refusals.Refusal.TheVariants.{Crossings, Pieces, NoFit, Malformed, Voltage, NoFill}

-- the number of a refusal; 12 is no refusal's
abbrev pub number : Refusal → ℕ
number TooMany = 1
number KvLength = 2
number ToLength = 3
number StationNumber = 4
number OptionRange = 5
number TooFar = 6
number ListTooShort = 7
number IllSized = 8
number Mesh = 9
number Crossings = 10
number Pieces = 11
number NoFit = 13
number Malformed = 14
number Voltage = 15
number NoFill = 18

-- Refusal 1: more than 4,096 buses or 8,192 branches
abbrev pub too_many : List ℕ → List ℤ → Bool
too_many sub from = ltb 4096 (length sub) || ltb 8192 (length from)

-- Refusal 2: `kv` isn't as long as the bus list
abbrev pub kv_unlike : List ℕ → List ℕ → Bool
kv_unlike sub kv = not (eqb (length kv) (length sub))

-- Refusal 3: `to` isn't as long as `from`
abbrev pub to_unlike : List ℤ → List ℤ → Bool
to_unlike from to = not (eqb (length to) (length from))

-- Refusal 4: a substation number is not below the bus count
abbrev pub number_too_high : List ℕ → Bool
number_too_high sub = ltb (length sub) (station_count sub)

-- Refusal 15: a `kv` isn't finite and above zero; `kv` holds bit patterns
unfoldable pub is_voltage : ℕ → Bool
is_voltage pattern = let v = of_bits binary64 pattern in is_finite v && lt f0 v

unfoldable pub stray_voltage : List ℕ → Bool
stray_voltage kv = ltb 0 (how_many (λ i. not (is_voltage (get_or kv i 0))) (length kv))

-- Refusal 6: a bus with two finite coordinates has one above 10^12 in size
unfoldable pub above : Float → Bool
above x = lt (of_bits binary64 0x426D_1A94_A200_0000) (abs_of x)

unfoldable pub far_out : Float → Float → Bool
far_out x y = is_finite x && (is_finite y && (above x || above y))

unfoldable pub too_far : ℕ → List Float → Bool
too_far n xy = ltb 0 (how_many (λ i. far_out (get_or xy (2 * i) nan) (get_or xy (2 * i + 1) nan)) n)

-- r where the condition holds, else what comes after it
abbrev pub refuse : {A : Type 0} → Bool → A → A → A
refuse true r later = r
refuse false r later = later

-- a value, unless it is refused
abbrev pub unless : {A : Type 0} → Option Refusal → A → Result A Refusal
unless None a = Ok a
unless (Some r) a = Err r

-- the number of an answer: 0, or the refusal's
unfoldable pub number_of : {A : Type 0} → Result A Refusal → ℕ
number_of (Ok a) = 0
number_of (Err r) = number r

-- 1 to 4, then 15, none where none applies: 15 stands directly after 4 and before 5, although its number is higher
-- (docs/RULES.md, 'Order of refusals')
unfoldable pub shape_refusal : List ℕ → List ℕ → List ℤ → List ℤ → Option Refusal
shape_refusal sub kv from to =
    refuse (too_many sub from) (Some TooMany)
    (refuse (kv_unlike sub kv) (Some KvLength)
    (refuse (to_unlike from to) (Some ToLength)
    (refuse (number_too_high sub) (Some StationNumber)
    (refuse (stray_voltage kv) (Some Voltage) None))))
