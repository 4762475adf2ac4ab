-- What each stage ensures, joined.
-- Assumes nothing.
use Prim.Native.Nat.{ℕ}
use mathlib.Core.Path.{◌≡◌, ap, ◌∙◌}
use mathlib.Core.List.{List}
use lib.IntN.{ℤ}
use lib.ListN.{length}
use lib.Ieee.{Float}
use Rattle.numbers.specs.Table.{table, strided}
use Rattle.plane.specs.declared.geometry.Point.{Point}
use Rattle.network.specs.declared.options.Options.{Options}
use Rattle.network.specs.declared.words.Kind.{Kind}
use Rattle.network.specs.Words.{bus_counts, kinds}
use Rattle.network.specs.Seed as Seed
use Rattle.network.specs.Views.{counts_in, columns_in, order_in, from_rows_in, to_rows_in, points_in, boxes_in}
use Rattle.stations.specs.Column as Column
use Rattle.stations.specs.Row as Row
use Rattle.stations.specs.Size as Size
use Rattle.stations.specs.Unit as Unit
use Rattle.stations.specs.declared.measures.Measures.{Measures}
use Rattle.stations.specs.declared.measures.Typical.{Typical}
use Rattle.stations.specs.Scale as Scale
use Rattle.stations.specs.Stages.Views.{sizes_in, scales_in, row_counts_in}
use Rattle.stations.proofs.sizes.Blocks.{sizes_view}
use Rattle.offsets.specs.Offset.{offsets}
use Rattle.placement.specs.Turns.{placement_order}
use Rattle.placement.specs.Place as Place
use Rattle.placement.specs.Stages.Views.{half_sides_listed}
use Rattle.placement.specs.Stages.Plan.{Interiors, Settled}

module _ (o : Options) (sub kv : List ℕ) (from to : List ℤ) (service : List ℕ) (xy : List Float) (k : ℕ) where
  ks : List Kind
  ks = kinds sub from to service

  ss : List Point
  ss = Seed.seeds sub xy

  pub interiors_joined : (typical : Typical) (st₁ st₂ st buses ends : List ℕ) (places blocks : List Float)
      → counts_in k st₁ ≡ bus_counts sub
      → points_in k places ≡ Seed.seeds sub xy
      → columns_in (length sub) buses ≡ Column.columns sub kv
      → counts_in k st₂ ≡ counts_in k st₁
      → from_rows_in (length from) ends ≡ Row.from_rows sub (points_in k places) (kinds sub from to service)
      → to_rows_in (length from) ends ≡ Row.to_rows sub (points_in k places) (kinds sub from to service)
      → strided 2 1 0 k st ≡ table (Row.rows_in sub (kinds sub from to service)) k
      → counts_in k st ≡ counts_in k st₂
      → typical.spacing ≡ Unit.spacing (points_in k places) (counts_in k st)
      → typical.side ≡ Unit.typical (Size.sizes_for o.block_options (counts_in k st) (row_counts_in k st)) (counts_in k st)
      → sizes_in k blocks ≡ Size.sizes_for o.block_options (counts_in k st) (row_counts_in k st)
      → scales_in k blocks ≡ Scale.scales o (points_in k places) (counts_in k st) (Unit.spacing (points_in k places) (counts_in k st))
      → Interiors o sub kv from to service xy k typical st buses ends blocks
  unfolding ks ss
  interiors_joined typical st₁ st₂ st buses ends places blocks c₁ p col c₂ fr tr rs c₃ sp sd z sc =
      let c : counts_in k st ≡ bus_counts sub = c₃ ∙ c₂ ∙ c₁ in
      let v : Size.sizes_for o.block_options (counts_in k st) (row_counts_in k st) ≡ Size.sizes o.block_options sub ks (bus_counts sub) = sizes_view _ _ _ _ _ _ c rs in
      record {
        counts = c;
        columns = col;
        from_rows = fr ∙ ap (λ (z : List Point). Row.from_rows sub z ks) p;
        to_rows = tr ∙ ap (λ (z : List Point). Row.to_rows sub z ks) p;
        sizes = z ∙ v;
        scales = sc ∙ cc (p, c);
        spacing = sp ∙ cc (p, c);
        side = sd ∙ cc (c, v);
      }

pub settled_joined : (sub kv : List ℕ) (k r : ℕ) (measures : Measures) (search : ℕ) (blocks : List Float) (seeds : List Point) (st : List ℕ) (places frames : List Float)
    → counts_in k st ≡ bus_counts sub
    → order_in r st ≡ placement_order sub kv (bus_counts sub)
    → points_in k places ≡ Place.places (half_sides_listed measures k blocks) (offsets search) seeds (order_in r st)
    → boxes_in k frames ≡ Place.boxes (half_sides_listed measures k blocks) (counts_in k st) (points_in k places)
    → Settled sub kv k measures search blocks seeds st places frames
settled_joined sub kv k r measures search blocks seeds st places frames cs od ps bs =
    record {
      counts = cs;
      placed = ps ∙ cc od;
      boxes = bs ∙ cc cs;
    }
