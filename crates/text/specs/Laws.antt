-- What a well-formed text must be. The functions of `text::laws` promise it. Definitions only.
use Rattle.std.specs.Prelude.{◌≡◌, ℕ, ◌≤◌, true, List, length}
use Rattle.text.specs.Input.{parsed}

-- a longer text is malformed: 11 + 64 * 62 + 13 + 64 * 46 bytes
abbrev pub AtMost6936 : Type 0
AtMost6936 = (t : List ℕ) → (parsed t).well_formed ≡ true → length t ≤ 6936
