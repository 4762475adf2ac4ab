-- What the worked cases of crossings must give. A function of `routing::laws` promises it. Definitions only.
use Rattle.std.specs.Prelude.{◌≡◌}
use Rattle.routing.specs.Cases.{crossings_given, crossings_said}

-- each gives what it should
abbrev pub CrossingsHold : Type 0
CrossingsHold = crossings_given ≡ crossings_said
