-- The claim about a whole drawing, of the drawing at the largest fill. Assumes nothing.
use mathlib.Core.Path.{◌≡◌, sym, subst}
use Rattle.std.specs.Prelude.{Ok}
use Rattle.drawing.specs.Network.{Lists}
use Rattle.drawing.specs.Answer.{layout_of}
use Rattle.audit.specs.declared.findings.answer.Figures.{Figures}
use Rattle.audit.specs.Drawn as Audit
use Rattle.audit.specs.Answer.{audit_of}
use Rattle.fill.specs.Fill.{at_fill, largest_fill_of}
use Rattle.fill.proofs.Calls.{filled}
use Rattle.wall.specs.Wall.{Wall, audited}
use Rattle.wall.specs.Largest.{LargestHolds}
use Rattle.wall.proofs.Whole.{wall, clean_by_search}

pub largest_holds : LargestHolds
largest_holds o N L W X a e =
    let h = filled o N L W X a e in
    let u = at_fill o a.sixty_fourths in
    subst
    (λ (D : Lists). Wall u N D a.plot × ((A : Audit.Lists) (Z : Audit.Work) (f : Figures) → (audit_of (audited N D a.plot.pieces) A Z).answer ≡ Ok f → f.overlaps ≡ 0))
    (sym h.1)
    (wall u N L W X a.plot h.0, clean_by_search u N L W X a.plot h.0 h.2)
