-- Doubling as laws of two calls of layout. The functions of `doubling::laws` promise them. Definitions only.
use Rattle.std.specs.Prelude.{◌≡◌, ℕ, List, [], ◌∷◌, length, Float}
use Rattle.numbers.specs.Ops.{f1, f2}
use Rattle.network.specs.declared.options.Options.{Options}
use Rattle.drawing.specs.Network.{Network, Lists, Work, Crossings}
use Rattle.drawing.specs.Answer.{room_of, layout_of}
use Rattle.doubling.specs.Doubling.{Asked, ScaledMap, ScaledCalls, with_map}
use Rattle.doubling.specs.Example.{times, times2, straight, pair, points, close, unit_of}

-- Layout with a map scaled by 2 ^ k, whatever lists of the same lengths are lent and whatever they held.
abbrev pub Scales : Type 0
Scales = (k : ℕ) (O : Options) (N : Network) → Asked k O N → (xy' : List Float) → ScaledMap k (length N.station) N.xy xy'
    → (L L' : Lists) (W W' : Work) (X X' : Crossings) → room_of L' W' X' ≡ room_of L W X
    → ScaledCalls k N L L' (layout_of O N L W X) (layout_of O (with_map N xy') L' W' X')

-- the same of a map with every coordinate times 2
abbrev pub Doubles : Type 0
Doubles = (O : Options) (N : Network) → Asked 1 O N
    → (L L' : Lists) (W W' : Work) (X X' : Crossings) → room_of L' W' X' ≡ room_of L W X
    → ScaledCalls 1 N L L' (layout_of O N L W X) (layout_of O (with_map N (times 1 N.xy)) L' W' X')

-- the coordinates times 2, k times, by the format's own product are such a map
abbrev pub TimesScales : Type 0
TimesScales = (k : ℕ) (O : Options) (N : Network) → Asked k O N → ScaledMap k (length N.station) N.xy (times k N.xy)

-- what is asked can be met
abbrev pub CanBeAsked : Type 0
CanBeAsked = Asked 1 straight (pair points)

-- Stations 2 ^ -1072 apart have the unit 0, and doubled the least positive f64.
abbrev pub CloseUnit : Type 0
CloseUnit = (unit_of (0 ∷ 1 ∷ []) close ≡ 0) × (unit_of (0 ∷ 1 ∷ []) (times2 close) ≡ 1)

-- A lone station's unit, 0.45 / 4, stays when its point is doubled.
abbrev pub LoneUnit : Type 0
LoneUnit = (unit_of (0 ∷ []) (f1 ∷ f1 ∷ []) ≡ 0x3FBC_CCCC_CCCC_CCCD) × (unit_of (0 ∷ []) (f2 ∷ f2 ∷ []) ≡ 0x3FBC_CCCC_CCCC_CCCD)
