-- Answers for `placement::free_places::find_place`.
use Rattle.placement.proofs.free_places.Searching.{found_near, found_wide, found_last}
use Rattle.placement.proofs.free_places.find_place.Goals as goal

pub returns-in-Some : goal.returns-in-Some
returns-in-Some c = found_near _ _ _ _ _ c.first_free.ensures _ c.in-Some.is

pub returns-in-Some-first_free : goal.returns-in-Some-first_free
returns-in-Some-first_free c = found_wide _ _ _ _ _ c.first_free.ensures c.in_default.is _ c.first_free-2.ensures _ c.in-Some-first_free.is

pub returns : goal.returns
returns c = found_last _ _ _ _ _ c.first_free.ensures c.in_default.is _ c.first_free-2.ensures c.in_default-first_free.is _ c.first_free-3.ensures
