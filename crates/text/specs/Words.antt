-- The words of a stored line: numbers in hexadecimal digits, with one space between them. Definitions only.
use Rattle.std.specs.Prelude.{ℕ, ◌-◌, ◌%◌, ◌^◌, ◌==◌, nat_lt, List, ◌++◌, length, map, replicate, take, if◌then◌else◌}
use Rattle.std.specs.List.{slice_split}
use Rattle.std.specs.Int.Digits.{number_from_digits}

-- what a digit stands for: `0` to `9` and the capitals `A` to `F`; 0 for any other byte
abbrev pub digit : ℕ → ℕ
digit b =
    if nat_lt b 48 then 0 else (if nat_lt b 58 then b - 48 else (if nat_lt b 65 then 0 else
    (if nat_lt b 71 then b - 55 else 0)))

-- the number that digits stand for, of more than sixteen the last sixteen
unfoldable pub number : List ℕ → ℕ
number ds = number_from_digits 16 (map digit ds) % 2 ^ 64

-- the number of the first sixteen digits, with a `0` behind them for each that is missing
unfoldable pub padded : List ℕ → ℕ
padded ds = number (take 16 ds ++ replicate (16 - length ds) 48)

-- the numbers between a text's spaces
unfoldable pub words : List ℕ → List ℕ
words bs = map number (slice_split (λ b. b == 32) bs)
