-- Answers for `stations::spans::include_ends`.
use Rattle.stations.proofs.spans.Rows.{ends_included}
use Rattle.stations.proofs.spans.include_ends.Goals as goal

pub returns : goal.returns
returns c = ends_included _ _ _ _ _ _ _ c.requires.from_inside c.requires.to_inside c.requires.two_buses c.include.ensures c.include-2.ensures
