-- Answers for `placement::search::place_station`.
use mathlib.Core.Path.{refl, ap, ◌∙◌}
use Rattle.placement.specs.Search.{half_sides_for}
use Rattle.placement.specs.Stages.Views.{put_box}
use Rattle.std.specs.Prelude.{Option, is_some, unwrap_or}
use Rattle.plane.specs.declared.geometry.Point.{Point}
use Rattle.plane.specs.Plane.{point_at}
use Rattle.placement.proofs.Placing.{kept_on}
use Rattle.placement.proofs.free_places.Searching.{place_found}
use Rattle.placement.proofs.search.place_station.Goals as goal

pub keep_box-requires-clause-kept : goal.keep_box-requires-clause-kept
keep_box-requires-clause-kept c = kept_on _ _ _ _ _ _ _ _ c.put_box.ensures c.requires.not_passed c.requires.boxes_kept.kept

pub returns-clause-placed : goal.returns-clause-placed
unfolding half_sides_for
returns-clause-placed c =
    record {
      at = c.unwrap_or-c.result;
      chosen =
          c.unwrap_or-c.ensures ∙ ap (λ (o : Option Point). unwrap_or o (point_at c.args.places.now c.args.station)) c.find_place-found.ensures
          ∙ place_found _ _ _ _;
      placed = refl;
      boxed = c.put_box.ensures ∙ ap (put_box c.args.boxes.now c.args.station) c.box_on.ensures;
      kept = c.keep_box.ensures.kept_after;
      listed = c.keep_box.ensures.put_in_order;
    }

pub returns-clause-free : goal.returns-clause-free
unfolding half_sides_for
returns-clause-free c = c.is_some.ensures ∙ ap is_some c.find_place-found.ensures
