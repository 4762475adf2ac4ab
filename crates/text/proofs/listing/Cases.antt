-- The worked input and output of drawlist (docs/RULES.md, 'Worked cases'), malformed texts and single fields, computed. Assumes nothing.
use mathlib.Core.Path.{◌≡◌, refl}
use mathlib.Core.Bool.{Bool, true, false}
use mathlib.Core.List.{List, [], ◌∷◌, ◌++◌, map}
use Prim.Native.Nat.{ℕ, zero, suc}
use lib.IntN.{pos, negsuc}
use lib.ListN.{replicate}
use lib.Ieee.{of_bits, binary64}
use Rattle.text.specs.Field.{got, wrong, bus_number}
use Rattle.text.specs.Line.{bus_names, branch_names}
use Rattle.text.specs.Input.{parsed}
use Rattle.text.specs.Output.{piece_names, listing, refusal}
use Rattle.text.specs.Spell.{number_field, shown}

-- `4059000000000000` and sixteen zeros
abbrev hundred : List ℕ
hundred = 52 ∷ 48 ∷ 53 ∷ 57 ∷ replicate 12 48

abbrev zero_digits : List ℕ
zero_digits = replicate 16 48

-- `0 4059000000000000 0000000000000000 0000000000000000`, with other bytes in the place of its number, its first space, its kv and its line end
abbrev bus : List ℕ → List ℕ → List ℕ → List ℕ → List ℕ
bus number space kv end = number ++ space ++ kv ++ (32 ∷ []) ++ zero_digits ++ (32 ∷ []) ++ zero_digits ++ end

abbrev good_bus : List ℕ
good_bus = bus (48 ∷ []) (32 ∷ []) hundred (10 ∷ [])

-- `0 1 1`
abbrev branch : List ℕ
branch = 48 ∷ 32 ∷ 49 ∷ 32 ∷ 49 ∷ 10 ∷ []

abbrev text : List ℕ → List ℕ → List ℕ
text buses branches = bus_names ++ buses ++ branch_names ++ branches

abbrev ok : List ℕ → Bool
ok t = (parsed t).well_formed

example : parsed (text (good_bus ++ good_bus) branch)
    ≡ record {
      well_formed = true;
      buses = record {
        sub = 0 ∷ 0 ∷ [];
        kv = 0x4059_0000_0000_0000 ∷ 0x4059_0000_0000_0000 ∷ [];
        xy = of_bits binary64 0 ∷ of_bits binary64 0 ∷ of_bits binary64 0 ∷ of_bits binary64 0 ∷ [];
      };
      branches = record { from = pos 0 ∷ []; to = pos 1 ∷ []; live = 1 ∷ [] };
    }
unfolding parsed bus_names branch_names
example = refl

-- l, k times over
abbrev times : ℕ → List ℕ → List ℕ
times zero l = []
times (suc k) l = l ++ times k l

-- well-formed: nothing but the names, one of each, a capital digit in kv, 64 of each
well_formed : map ok (
    text [] []
    ∷ text good_bus branch
    ∷ text (bus (48 ∷ []) (32 ∷ []) (65 ∷ replicate 15 48) (10 ∷ [])) branch
    ∷ text (times 64 good_bus) (times 64 branch)
    ∷ []) ≡ replicate 4 true
unfolding parsed bus_names branch_names
well_formed = refl

-- malformed: a lower-case digit, two spaces, `007`, an empty field, no LF at the end, a byte after it, 65 buses, 65 branches
malformed : map ok (
    text (bus (48 ∷ []) (32 ∷ []) (97 ∷ replicate 15 48) (10 ∷ [])) branch
    ∷ text (bus (48 ∷ []) (32 ∷ 32 ∷ []) hundred (10 ∷ [])) branch
    ∷ text (bus (48 ∷ 48 ∷ 55 ∷ []) (32 ∷ []) hundred (10 ∷ [])) branch
    ∷ text (bus [] (32 ∷ []) hundred (10 ∷ [])) branch
    ∷ text good_bus (48 ∷ 32 ∷ 49 ∷ 32 ∷ 49 ∷ [])
    ∷ text good_bus (branch ++ (32 ∷ []))
    ∷ text (times 65 good_bus) branch
    ∷ text good_bus (times 65 branch)
    ∷ []) ≡ replicate 8 false
unfolding parsed bus_names branch_names
malformed = refl

-- `922337203685477580`, and a last digit
abbrev large : ℕ → List ℕ
large last = 57 ∷ 50 ∷ 50 ∷ 51 ∷ 51 ∷ 55 ∷ 50 ∷ 48 ∷ 51 ∷ 54 ∷ 56 ∷ 53 ∷ 52 ∷ 55 ∷ 55 ∷ 53 ∷ 56 ∷ 48 ∷ last ∷ 32 ∷ []

-- bus numbers: `-1`, `-0`, `-07`, `+1`, the least and the largest i64, and the next one each way
bus_numbers : map (bus_number 32) (
    (45 ∷ 49 ∷ 32 ∷ [])
    ∷ (45 ∷ 48 ∷ 32 ∷ [])
    ∷ (45 ∷ 48 ∷ 55 ∷ 32 ∷ [])
    ∷ (43 ∷ 49 ∷ 32 ∷ [])
    ∷ (45 ∷ large 56)
    ∷ large 55
    ∷ (45 ∷ large 57)
    ∷ large 56
    ∷ [])
    ≡ got (negsuc 0) [] ∷ wrong ∷ wrong ∷ wrong ∷ got (negsuc 0x7FFF_FFFF_FFFF_FFFF) [] ∷ got (pos 0x7FFF_FFFF_FFFF_FFFF) [] ∷ wrong ∷ wrong ∷ []
unfolding bus_number
bus_numbers = refl

-- ---- the worked output, of one piece of branch 0 with role 1: `0 1 BFC0000000000000 BFB0000000000000 3FC0000000000000 BFB0000000000000`
abbrev eighth : List ℕ
eighth = 67 ∷ replicate 13 48

drawing : listing (1 ∷ []) (map (of_bits binary64) (0xBFC0_0000_0000_0000 ∷ 0xBFB0_0000_0000_0000 ∷ 0x3FC0_0000_0000_0000 ∷ 0xBFB0_0000_0000_0000 ∷ [])) (0 ∷ []) 1
    ≡ piece_names ++ (48 ∷ 32 ∷ 49 ∷ 32 ∷ [])
    ++ (66 ∷ 70 ∷ eighth) ++ (32 ∷ 66 ∷ 70 ∷ 66 ∷ replicate 13 48) ++ (32 ∷ 51 ∷ 70 ∷ eighth) ++ (32 ∷ 66 ∷ 70 ∷ 66 ∷ replicate 13 48) ++ (10 ∷ [])
unfolding listing
drawing = refl

-- -0 and 0; 4294967295, 10 and 9; `refused 14`
zeros : map shown (of_bits binary64 0x8000_0000_0000_0000 ∷ of_bits binary64 0 ∷ []) ≡ 0 ∷ 0 ∷ []
unfolding shown
zeros = refl

numbers : map (number_field 10) (4294967295 ∷ 10 ∷ 9 ∷ 0 ∷ [])
    ≡ (52 ∷ 50 ∷ 57 ∷ 52 ∷ 57 ∷ 54 ∷ 55 ∷ 50 ∷ 57 ∷ 53 ∷ 10 ∷ []) ∷ (49 ∷ 48 ∷ 10 ∷ []) ∷ (57 ∷ 10 ∷ []) ∷ (48 ∷ 10 ∷ []) ∷ []
unfolding number_field
numbers = refl

malformed_refusal : refusal 14 ≡ 114 ∷ 101 ∷ 102 ∷ 117 ∷ 115 ∷ 101 ∷ 100 ∷ 32 ∷ 49 ∷ 52 ∷ 10 ∷ []
unfolding refusal
malformed_refusal = refl
