-- Answers for `plane::geometry::clip_by`.
use Rattle.plane.specs.Clip.{clip_by, cut}
use Rattle.plane.proofs.geometry.clip_by.Goals as goal

pub returns-in_err-t0 : goal.returns-in_err-t0
unfolding clip_by cut
returns-in_err-t0 c = simp (c.from_residual.ensures, c.in_err-t0.was)

pub returns-then-distance : goal.returns-then-distance
unfolding clip_by cut
returns-then-distance c = simp (c.in_ok-t0.was, c.if-speed.true, c.if-distance.true)

pub returns-then-speed : goal.returns-then-speed
unfolding clip_by cut
returns-then-speed c = simp (c.in_ok-t0.was, c.if-speed.true, c.if-distance.false)

pub returns-then-speed-2 : goal.returns-then-speed-2
unfolding clip_by cut
returns-then-speed-2 c = simp (c.part.ensures, c.max.ensures, c.in_ok-t0.was, c.if-speed.false, c.if-speed-2.true)

pub returns : goal.returns
unfolding clip_by cut
returns c = simp (c.part-2.ensures, c.min.ensures, c.in_ok-t0.was, c.if-speed.false, c.if-speed-2.false)
