-- Answers for `boxes::corner::avoids`.
use mathlib.Core.Path.{◌≡◌}
use mathlib.Core.Bool.{true, false}
use Rattle.plane.specs.Plane.{shrunk}
use Rattle.plane.specs.Clip.{hits}
use Rattle.boxes.specs.Corner.{avoids}
use Rattle.boxes.proofs.corner.avoids.Goals as goal

pub returns-then-piece_hits : goal.returns-then-piece_hits
unfolding avoids
returns-then-piece_hits c =
    let e : hits c.args.p c.args.via (shrunk c.args.obstacle) ≡ true = cc (c.piece_hits.ensures, c.shrunk-s.ensures, c.if-piece_hits.true) in
    simp e

pub returns : goal.returns
unfolding avoids
returns c =
    let e : hits c.args.p c.args.via (shrunk c.args.obstacle) ≡ false = cc (c.piece_hits.ensures, c.shrunk-s.ensures, c.if-piece_hits.false) in
    let g : c.piece_hits-2.result ≡ hits c.args.via c.args.q (shrunk c.args.obstacle) = cc (c.piece_hits-2.ensures, c.shrunk-s.ensures) in
    simp (e, g)
