-- Answers for `drawing::laws::seeds`.
use Rattle.drawing.proofs.Finite.{seeds_within}
use Rattle.drawing.proofs.laws.seeds.Goals as goal

pub returns : goal.returns
returns c O N buses near s l = let t = seeds_within O N buses near s l in (t.x, t.y)
