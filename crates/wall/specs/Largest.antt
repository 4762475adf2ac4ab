-- What is claimed of the drawing at the largest fill. A function of `wall::laws` promises it. Definitions only.
use Rattle.std.specs.Prelude.{◌≡◌, Ok}
use Rattle.network.specs.declared.options.Options.{Options}
use Rattle.drawing.specs.Network.{Network, Lists, Work, Crossings}
use Rattle.audit.specs.declared.findings.answer.Figures.{Figures}
use Rattle.audit.specs.Drawn as Audit
use Rattle.audit.specs.Answer.{audit_of}
use Rattle.fill.specs.declared.answer.Largest.{Largest}
use Rattle.fill.specs.Fill.{at_fill, largest_fill_of}
use Rattle.wall.specs.Wall.{Wall, audited}

-- What is claimed of a whole drawing holds of the drawing at the largest fill; and every audit that accepts it,
-- whatever lists are lent to it, counts 0 overlaps.
abbrev pub LargestHolds : Type 0
LargestHolds =
    (o : Options) (N : Network) (L : Lists) (W : Work) (X : Crossings) (a : Largest)
    → (largest_fill_of o N L W X).answer ≡ Ok a
    → Wall (at_fill o a.sixty_fourths) N (largest_fill_of o N L W X).lists a.plot
    × ((A : Audit.Lists) (Z : Audit.Work) (f : Figures)
    → (audit_of (audited N (largest_fill_of o N L W X).lists a.plot.pieces) A Z).answer ≡ Ok f → f.overlaps ≡ 0)
