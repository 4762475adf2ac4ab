-- The scene that the lists hold is the one that lines are to be routed through, with the mesh or without it. Assumes nothing.
use mathlib.Core.Path.{◌≡◌, sym, ap, ◌∙◌, subst}
use mathlib.Core.Bool.{Bool, true, false, not, ◌||◌}
use mathlib.Core.List.{List, []}
use Prim.Native.Nat.{ℕ, ◌+◌, ◌*◌, ◌<◌}
use native.Mathlib.Omega.{arith}
use lib.ListN.{length, get_or, take}
use lib.Ieee.{Float}
use Rattle.numbers.specs.Order.{pick}
use Rattle.numbers.specs.Table.{which}
use Rattle.numbers.proofs.order.Laws.{all_at}
use Rattle.numbers.proofs.order.Tables.{all_which, length_table}
use Rattle.numbers.proofs.order.Strides.{get_d_strided, length_strided}
use Rattle.network.specs.Mesh.{mesh_ok}
use Rattle.network.specs.Words.{occupied, is_occupied}
use Rattle.network.specs.Views.{counts_in, order_in, points_in}
use Rattle.stations.specs.Unit.{coordinates}
use Rattle.routing.specs.Route.{MeshScene}
use Rattle.routing.specs.Stages.Views.{TracedLists, line_in, lines_in, scene_in}
use Rattle.routing.specs.Stages.Store.{Rising}
use Rattle.routing.specs.Stages.Traced.{Pathless}
use Rattle.routing.proofs.crossings.Occupied.{occupied_rises}
use Rattle.routing.specs.Stages.RoundLists.{station_in}
use Rattle.std.specs.Prelude.{Option, None}
use Rattle.network.specs.declared.refusals.Refusal.{Refusal}
use Rattle.routing.specs.Routes.{mesh_used, mesh_fits}
use Rattle.routing.specs.Stages.Routed.{routed_in, Routes}
use Rattle.routing.specs.Stages.Led.{Led}
use Rattle.routing.proofs.routes.Leading.{led_none}

-- ---- the occupied stations

pub order_rises : (k c : ℕ) (before stations : List ℕ) → order_in c stations ≡ occupied (counts_in k before) → Rising (order_in c stations)
order_rises k c before stations e = subst Rising (sym e) (occupied_rises (counts_in k before))

occupied_below : (counts : List ℕ) (v : ℕ) → v < length (occupied counts) → get_or (occupied counts) v 0 < length counts
unfolding occupied
occupied_below counts v h = all_at (λ s. s < length counts) (which (is_occupied counts) (length counts)) v h (all_which (is_occupied counts) (λ s. s < length counts) (length counts) (λ i l e. l))

pub order_below : (k c : ℕ) (before stations : List ℕ) → c ≡ length (occupied (counts_in k before)) → order_in c stations ≡ occupied (counts_in k before) → (v : ℕ) → v < c → station_in stations v < k
unfolding station_in
order_below k c before stations n e v h =
    let a : get_or stations (2 * v + 1) 0 ≡ get_or (occupied (counts_in k before)) v 0 = sym (get_d_strided 2 1 0 c v stations 0 h) ∙ ap (λ (l : List ℕ). get_or l v 0) e in
    omega (arith, occupied_below (counts_in k before) v (omega (arith, n)), length_strided 2 0 0 k before)

-- ---- the scene

module _ (G : TracedLists) (k : ℕ) (before corners twins : List ℕ) (iterations : ℕ) where
  abbrev occ : List ℕ
  occ = occupied (counts_in k before)

  abbrev routed : MeshScene
  routed = routed_in G k before corners twins iterations

  routed_lines : length routed.lines ≡ length G.from
  unfolding routed_in lines_in
  routed_lines = length_table (line_in G) (length G.from)

  used_of : (c : ℕ) (u : Bool) → c ≡ length occ → mesh_used c iterations ≡ u → mesh_used (length occ) iterations ≡ u
  used_of c u n e = ap (λ (t : ℕ). mesh_used t iterations) (sym n) ∙ e

  scene_used : (c : ℕ) (stations : List ℕ) (path : List Float) → mesh_used (length occ) iterations ≡ true → order_in c stations ≡ occ
      → take (2 * c) path ≡ coordinates (points_in k G.places) occ → scene_in G k c stations path corners twins ≡ routed
  unfolding scene_in routed_in
  scene_used c stations path u o p = rw (u, o, p)

  scene_unused : mesh_used (length occ) iterations ≡ false → length routed.corners ≡ 0
  unfolding routed_in
  scene_unused u = ap (λ (b : Bool). length (pick b corners [])) u

  fits_used : mesh_used (length occ) iterations ≡ true → mesh_fits corners twins (length occ) iterations ≡ mesh_ok corners twins (length occ)
  unfolding mesh_fits
  fits_used u = ap (λ (b : Bool). not b || mesh_ok corners twins (length occ)) u

  fits_unused : mesh_used (length occ) iterations ≡ false → mesh_fits corners twins (length occ) iterations ≡ true
  unfolding mesh_fits
  fits_unused u = ap (λ (b : Bool). not b || mesh_ok corners twins (length occ)) u

  -- ---- what routing leaves

  module _ (room : ℕ) (late : Option Refusal) (stations behind : List ℕ) (ways : List Float) (counts : counts_in k stations ≡ counts_in k before) where
    led_routes : Led routed (length G.from) corners G.ends (mesh_fits corners twins (length occ) iterations) iterations room late behind ways
        → Routes G k before corners twins iterations room late stations behind ways
    led_routes l =
        record {
          late_is = l.late_is;
          counts = counts;
          from_rows = l.from_rows;
          to_rows = l.to_rows;
          along = l.along;
          short = l.short;
        }

    pub routes_used : (c : ℕ) (u : Bool) (path : List Float) → c ≡ length occ → u ≡ mesh_used c iterations → u ≡ true → order_in c stations ≡ occ
        → take (2 * c) path ≡ coordinates (points_in k G.places) occ
        → Led (scene_in G k c stations path corners twins) (length G.from) corners G.ends (mesh_ok corners twins c) iterations room late behind ways
        → Routes G k before corners twins iterations room late stations behind ways
    routes_used c u path n e t o p l =
        let w : mesh_used (length occ) iterations ≡ true = used_of c true n (sym e ∙ t) in
        led_routes
        (subst (λ (b : Bool). Led routed (length G.from) corners G.ends b iterations room late behind ways) (ap (mesh_ok corners twins) n ∙ sym (fits_used w))
        (subst (λ (s : MeshScene). Led s (length G.from) corners G.ends (mesh_ok corners twins c) iterations room late behind ways) (scene_used c stations path w o p) l))

  pub routes_unused : (room : ℕ) (stations behind : List ℕ) (ways : List Float) → counts_in k stations ≡ counts_in k before → (c : ℕ) (u : Bool) → c ≡ length occ → u ≡ mesh_used c iterations → u ≡ false
      → Pathless (length G.from) G.ends behind → Routes G k before corners twins iterations room None stations behind ways
  routes_unused room stations behind ways counts c u n e t p =
      let w : mesh_used (length occ) iterations ≡ false = used_of c false n (sym e ∙ t) in
      led_routes room None stations behind ways counts
      (subst (λ (b : Bool). Led routed (length G.from) corners G.ends b iterations room None behind ways) (sym (fits_unused w))
      (led_none routed (length G.from) corners G.ends behind iterations room ways (scene_unused w) routed_lines p))
