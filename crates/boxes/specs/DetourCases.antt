-- Calls of `first_hit` and `detour`, which antt computes (docs/RULES.md, 'The box entered first', 'Detour'). Floats stand by their bits,
-- every zero as +0.
use Rattle.std.specs.Prelude.{◌≡◌, refl, ℕ, suc, ◌+◌, ◌*◌, ◌/◌, cond, List, [], ◌∷◌, map, eqb, length, get_or, drop}
use Rattle.std.specs.Prelude.{Some, None}
use Rattle.std.specs.Float.{binary64}
use Rattle.std.specs.Float.Ieee.{of_bits, to_bits, round, lt, eq, neg, add, sub, mul, div}
use Rattle.numbers.specs.Hypot.{hypot_of}
use Rattle.numbers.specs.Key.{key_of}
use Rattle.numbers.specs.Small.{abs_of, max_of, min_of}
use Rattle.numbers.specs.Order.{up_from}
use Rattle.numbers.specs.Table.{table_from}
use Rattle.plane.specs.declared.geometry.Point.{Point}
use Rattle.plane.specs.Plane.{point}
use Rattle.plane.specs.Clip.{part, cut, clip_by, clipped, hits}
use Rattle.plane.specs.Entry.{enters}
use Rattle.network.specs.Views.{boxes_in}
use Rattle.boxes.specs.First.{entry_at, comes_first, sooner, look, first_hit}
use Rattle.boxes.specs.Corner.{corners_of, cost, cost_key, avoids, avoiding, cheaper, cheapest, corner}
use Rattle.boxes.specs.Detour.{detour_on, detour_to, detour}

-- point i of a list
abbrev at : List ℕ → ℕ → Point
at l i = point (of_bits binary64 (get_or l (2 * i) 0)) (of_bits binary64 (get_or l (2 * i + 1) 0))

-- no station: none is left out
abbrev none : ℕ
none = 4294967295

-- a piece and then boxes: 0 where none is hit, else one more than the first one's number
unfoldable hit : List ℕ → ℕ
hit l =
    let k = length (drop 4 l) / 4 in
    let boxes = boxes_in k (map (of_bits binary64) (drop 4 l)) in
    let all = up_from 0 k in
    elim (first_hit boxes all (at l 0) (at l 1) none none) [ None ↦ 0 | Some s ↦ suc s ]

unfoldable numbers : List Point → List ℕ
numbers [] = []
numbers (p ∷ ps) = to_bits binary64 p.x ∷ to_bits binary64 p.y ∷ numbers ps

-- a path of two points, a gap and then boxes: the path led round them
unfoldable led : List ℕ → List ℕ
led l =
    let k = length (drop 5 l) / 4 in
    let boxes = boxes_in k (map (of_bits binary64) (drop 5 l)) in
    let all = up_from 0 k in
    let path = detour boxes all (of_bits binary64 (get_or l 4 0)) none none (at l 0 ∷ at l 1 ∷ []) in
    map (λ b. cond (eqb b 0x8000_0000_0000_0000) 0 b) (numbers path)

-- unfolds all that a call computes with
unfoldable opened : ℕ
unfolding hit numbers led of_bits to_bits round lt eq neg add sub mul div hypot_of key_of abs_of max_of min_of
    up_from table_from part cut clip_by clipped hits boxes_in enters entry_at comes_first sooner look first_hit
    corners_of cost cost_key avoids avoiding cheaper cheapest corner detour_on detour_to detour
opened = 0

-- The last four: a box touched at its corner only; the box entered first though the other's middle is nearer; two boxes
-- entered at one fraction; two boxes that the piece begins in.
first_hits : map hit
    ((0xBFE6_29C6_FD4B_DACC ∷ 0xBFD6_CBA2_75EE_49E8 ∷ 0x3FF9_5EA5_DB17_2224 ∷ 0x4004_9354_3EA0_7F94
    ∷ 0xC005_A2A2_259B_3B24 ∷ 0xC000_A8F9_7902_9C17 ∷ 0xC001_A2A2_259B_3B24 ∷ 0xBFF1_51F2_F205_382E
    ∷ 0x3FE7_E89B_F377_2D60 ∷ 0x3FF9_6DB4_869C_F850 ∷ 0x3FF3_F44D_F9BB_96B0 ∷ 0x4004_B6DA_434E_7C28 ∷ []) ∷
    (0xBE21_2E0B_E826_D695 ∷ 0xBE39_C511_DC3A_41E0 ∷ 0x3E35_798E_E230_8C3A ∷ 0xBE29_C511_DC3A_41E0
    ∷ 0xBE29_C511_DC3A_41E0 ∷ 0xBE29_C511_DC3A_41E0 ∷ 0xBE25_798E_E230_8C3B ∷ 0xBE25_798E_E230_8C3B
    ∷ 0x3E35_798E_E230_8C3A ∷ 0xBE31_2E0B_E826_D695 ∷ 0x3E3E_1094_D643_F784 ∷ 0xBE29_C511_DC3A_41E0 ∷ []) ∷
    (0x4010_0000_0000_0000 ∷ 0 ∷ 0xBFF0_0000_0000_0000 ∷ 0xC014_0000_0000_0000 ∷ 0x4008_0000_0000_0000
    ∷ 0xC018_0000_0000_0000 ∷ 0x4008_0000_0000_0000 ∷ 0xC016_0000_0000_0000 ∷ 0xBFF0_0000_0000_0000
    ∷ 0x4008_0000_0000_0000 ∷ 0x3FF0_0000_0000_0000 ∷ 0x4010_0000_0000_0000 ∷ 0 ∷ 0xC010_0000_0000_0000 ∷ 0
    ∷ 0xC00C_0000_0000_0000 ∷ 0xC000_0000_0000_0000 ∷ 0x4014_0000_0000_0000 ∷ 0xBFF0_0000_0000_0000
    ∷ 0x4018_0000_0000_0000 ∷ []) ∷
    (0xBFD3_3333_3333_3334 ∷ 0xBFD9_9999_9999_999A ∷ 0xBFD9_9999_9999_999A ∷ 0x3FE3_3333_3333_3334
    ∷ 0x3FE0_0000_0000_0000 ∷ 0xBFE0_0000_0000_0000 ∷ 0x3FE1_9999_9999_999A ∷ 0xBFD9_9999_9999_999A
    ∷ 0xBFE3_3333_3333_3334 ∷ 0xBFD9_9999_9999_999A ∷ 0xBFE0_0000_0000_0001 ∷ 0xBFD3_3333_3333_3334
    ∷ 0x3FE0_0000_0000_0000 ∷ 0x3FD3_3333_3333_3334 ∷ 0x3FE3_3333_3333_3333 ∷ 0x3FE0_0000_0000_0000
    ∷ 0xBFD9_9999_9999_999A ∷ 0x3FE3_3333_3333_3334 ∷ 0xBFD9_9999_9999_999A ∷ 0x3FE9_9999_9999_999A
    ∷ 0x3FB9_9999_9999_999A ∷ 0xBFC9_9999_9999_999A ∷ 0x3FC9_9999_9999_999A ∷ 0 ∷ []) ∷
    (0x0000_0934_45B8_7316 ∷ 0x8000_0934_45B8_7316 ∷ 0x8000_52D6_737C_0BC2 ∷ 0x8000_52D6_737C_0BC2
    ∷ 0x0000_6E73_44A5_6502 ∷ 0x0000_2E05_5C9A_3F6C ∷ 0x0000_6E73_44A5_6502 ∷ 0x0000_406D_E80B_2597
    ∷ 0x8000_49A2_2DC3_98AC ∷ 0 ∷ 0x8000_24D1_16E1_CC56 ∷ 0x0000_0934_45B8_7316 ∷ []) ∷
    (0xBFF9_9E08_D2A8_AEA0 ∷ 0xC005_9F81_1509_0B7F ∷ 0xBFD2_4659_D960_2300 ∷ 0x400E_C06B_52F0_F7CC
    ∷ 0xC004_DCAB_BD0D_8DD1 ∷ 0x4004_D08B_2A6C_6778 ∷ 0xC004_DCAB_BD0D_8DD1 ∷ 0x400C_D08B_2A6C_6778
    ∷ 0xC00C_1723_9B3B_CD5C ∷ 0x4016_51EC_23DE_A4B0 ∷ 0xC004_1723_9B3B_CD5C ∷ 0x4018_51EC_23DE_A4B0 ∷ []) ∷
    (0xBFF0_0000_0000_0000 ∷ 0x3FF0_0000_0000_0000 ∷ 0x3FF0_0000_0000_0000 ∷ 0xBFF0_0000_0000_0000 ∷ 0 ∷ 0
    ∷ 0x3FF0_0000_0000_0000 ∷ 0x3FF0_0000_0000_0000 ∷ []) ∷
    (0 ∷ 0 ∷ 0x4024_0000_0000_0000 ∷ 0 ∷ 0x4008_0000_0000_0000 ∷ 0xBFE0_0000_0000_0000 ∷ 0x4010_0000_0000_0000
    ∷ 0x3FE0_0000_0000_0000 ∷ 0x4000_0000_0000_0000 ∷ 0xBFF0_0000_0000_0000 ∷ 0x4028_0000_0000_0000
    ∷ 0x3FF0_0000_0000_0000 ∷ []) ∷
    (0 ∷ 0 ∷ 0x4024_0000_0000_0000 ∷ 0 ∷ 0x4000_0000_0000_0000 ∷ 0 ∷ 0x4008_0000_0000_0000 ∷ 0x3FF0_0000_0000_0000
    ∷ 0x4000_0000_0000_0000 ∷ 0xBFF0_0000_0000_0000 ∷ 0x4008_0000_0000_0000 ∷ 0 ∷ []) ∷
    (0 ∷ 0 ∷ 0x3FF0_0000_0000_0000 ∷ 0x3FF0_0000_0000_0000 ∷ 0xBFF0_0000_0000_0000 ∷ 0xBFF0_0000_0000_0000
    ∷ 0x4000_0000_0000_0000 ∷ 0x3FE0_0000_0000_0000 ∷ 0xC000_0000_0000_0000 ∷ 0xC000_0000_0000_0000
    ∷ 0x3FE0_0000_0000_0000 ∷ 0x4000_0000_0000_0000 ∷ []) ∷ [])
    ≡ 2 ∷ 2 ∷ 3 ∷ 4 ∷ 0 ∷ 0 ∷ 1 ∷ 2 ∷ 1 ∷ 1 ∷ []
unfolding opened
first_hits = refl

-- one, one, four and two points put in
detours : map led
    ((0x8000_6E73_44A5_6502 ∷ 0x0000_5C0A_B934_7ED7 ∷ 0x0000_5C0A_B934_7ED7 ∷ 0x0000_5C0A_B934_7ED7
    ∷ 0x0000_1268_8B70_E62B ∷ 0 ∷ 0x8000_24D1_16E1_CC56 ∷ 0x0000_1268_8B70_E62B ∷ 0x8000_1268_8B70_E62B
    ∷ 0x8000_5C0A_B934_7ED7 ∷ 0x8000_49A2_2DC3_98AC ∷ 0x8000_49A2_2DC3_98AC ∷ 0x8000_3739_A252_B281
    ∷ 0x8000_49A2_2DC3_98AC ∷ 0x0000_5C0A_B934_7ED7 ∷ 0x8000_49A2_2DC3_98AC ∷ 0x0000_80DB_D016_4B2D ∷ []) ∷
    (0xC012_9AEE_CFC0_EE2A ∷ 0xC013_C972_0359_E2EA ∷ 0x4005_0D22_7A08_BE68 ∷ 0x4014_B6E3_6CEB_15C4
    ∷ 0x3FE9_9999_9999_999A ∷ 0x3FED_FD8B_1691_0C20 ∷ 0xC00E_B048_07B9_E572 ∷ 0x3FFE_FEC5_8B48_8610
    ∷ 0xC006_B048_07B9_E572 ∷ 0x3FE2_5CA1_F396_1690 ∷ 0x3FFD_6CD6_024D_B768 ∷ 0x4004_9728_7CE5_85A4
    ∷ 0x4006_B66B_0126_DBB4 ∷ 0xC012_DC18_2FF0_8846 ∷ 0x4016_D2BA_4EDF_A6A2 ∷ 0xC005_B830_5FE1_108C
    ∷ 0x4018_D2BA_4EDF_A6A2 ∷ 0x4015_2C87_C5A1_8404 ∷ 0xBFF8_1EB8_AFD8_B738 ∷ 0x4017_2C87_C5A1_8404
    ∷ 0xBFE0_3D71_5FB1_6E70 ∷ 0xC009_730B_2BC1_80C7 ∷ 0xC014_63E7_3968_04EE ∷ 0xC001_730B_2BC1_80C7
    ∷ 0xC012_63E7_3968_04EE ∷ []) ∷
    (0x3E29_C511_DC5F_269C ∷ 0xBE21_2E0B_E84B_BB51 ∷ 0xBE35_798E_E230_8C3A ∷ 0x3E11_2E0B_E870_A00C
    ∷ 0x3E11_2E0B_E826_D695 ∷ 0x3E21_2E0B_E826_D695 ∷ 0xBE21_2E0B_E826_D695 ∷ 0x3E29_C511_DC3A_41E0
    ∷ 0xBE19_C511_DC3A_41E0 ∷ 0xBE11_2E0B_E870_A00C ∷ 0x3E29_C511_DC3A_41E0 ∷ 0x3E11_2E0B_E7DD_0D1E
    ∷ 0x3E31_2E0B_E826_D695 ∷ []) ∷
    (0 ∷ 0 ∷ 0x402C_0000_0000_0000 ∷ 0 ∷ 0x3FF0_0000_0000_0000 ∷ 0x4008_0000_0000_0000 ∷ 0xBFE0_0000_0000_0000
    ∷ 0x4010_0000_0000_0000 ∷ 0x3FE0_0000_0000_0000 ∷ 0x4000_0000_0000_0000 ∷ 0xBFF0_0000_0000_0000
    ∷ 0x4028_0000_0000_0000 ∷ 0x3FF0_0000_0000_0000 ∷ []) ∷ [])
    ≡
    (0x8000_6E73_44A5_6502 ∷ 0x0000_5C0A_B934_7ED7 ∷ 0x8000_406D_E80B_2596 ∷ 0x0000_52D6_737C_0BC1
    ∷ 0x0000_5C0A_B934_7ED7 ∷ 0x0000_5C0A_B934_7ED7 ∷ []) ∷
    (0xC012_9AEE_CFC0_EE2A ∷ 0xC013_C972_0359_E2EA ∷ 0x3FC6_3F54_9B25_270C ∷ 0x4009_E99E_345A_0EE7
    ∷ 0x4005_0D22_7A08_BE68 ∷ 0x4014_B6E3_6CEB_15C4 ∷ []) ∷
    (0x3E29_C511_DC5F_269C ∷ 0xBE21_2E0B_E84B_BB51 ∷ 0x3E19_C511_DC3A_41E0 ∷ 0xBE11_2E0B_E826_D696
    ∷ 0x3E19_C511_DC3A_41E0 ∷ 0xBE11_2E0B_E826_D696 ∷ 0x3E19_C511_DC3A_41E0 ∷ 0xBE11_2E0B_E826_D696
    ∷ 0x3E19_C511_DC3A_41E0 ∷ 0xBE11_2E0B_E826_D696 ∷ 0xBE35_798E_E230_8C3A ∷ 0x3E11_2E0B_E870_A00C ∷ []) ∷
    (0 ∷ 0 ∷ 0x3FF8_0000_0000_0000 ∷ 0xBFF8_0000_0000_0000 ∷ 0x4029_0000_0000_0000 ∷ 0xBFF8_0000_0000_0000
    ∷ 0x402C_0000_0000_0000 ∷ 0 ∷ []) ∷ []
unfolding opened
detours = refl
