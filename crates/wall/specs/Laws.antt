-- What the worked cases must give. A function of `wall::laws` promises it. Definitions only.
use Rattle.std.specs.Prelude.{◌≡◌}
use Rattle.wall.specs.Cases.{table, given, said}

-- each row gives what it says
abbrev pub CasesHold : Type 0
CasesHold = given table ≡ said table
