-- Answers for `boxes::laws::ways`.
use Rattle.boxes.proofs.corner.CostSizes.{cost_most}
use Rattle.boxes.proofs.laws.ways.Goals as goal

pub returns : goal.returns
returns c k K p q r P Q R =
    cost_most k K p q r (record { x = P.0; y = P.1 }) (record { x = Q.0; y = Q.1 }) (record { x = R.0; y = R.1 })
