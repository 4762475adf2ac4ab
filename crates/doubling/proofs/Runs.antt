-- Runs, pieces and bounds of two drawings without iterations, the second one's boxes, places and bars doubled: every point of a run and every piece is doubled, as many as before. Assumes nothing.
use mathlib.Core.Path.{◌≡◌, refl, sym, ap, ◌∙◌, subst}
use mathlib.Core.Bool.{Bool, true, false, cond}
use mathlib.Core.List.{List, [], ◌∷◌, ◌++◌}
use Prim.Native.Nat.{ℕ, zero, suc, ◌^◌, ◌≤◌}
use lib.Dec.{lit≤, lit<}
use lib.ListN.{length, get_or}
use lib.Ieee.{Float, le}
use Rattle.numbers.specs.Small.{is_finite, min_of, max_of}
use Rattle.numbers.specs.Ops.{f0, f1}
use Rattle.numbers.specs.Double.{twice, Doubles}
use Rattle.numbers.proofs.float.DoubleLaws.{min_twice, max_twice, finite_twice}
use Rattle.numbers.proofs.float.DoublePairs.{lt_of_doubles, le_of_doubles, widen_doubles, abs_doubles, add_doubles, sub_doubles, div_doubles, zero_doubles}
use Rattle.numbers.specs.Order.{pick}
use Rattle.numbers.specs.Table.{joined}
use Rattle.plane.specs.declared.geometry.Point.{Point}
use Rattle.plane.specs.declared.geometry.Box.{Box}
use Rattle.network.specs.declared.options.BlockOptions.{BlockOptions}
use Rattle.network.specs.declared.words.Kind.{Kind}
use Rattle.network.specs.declared.words.Kind.TheVariants.{Undrawn, Open, Internal, Line}
use Rattle.network.specs.Words.{kind_at, station_of}
use Rattle.network.specs.Seed.{place_at}
use Rattle.plane.specs.Plane.{box_in}
use Rattle.boxes.specs.Detour.{detour}
use Rattle.stations.specs.declared.bars.Bar.{Bar}
use Rattle.stations.specs.Bar.{block_at, bar_at, position, row_end}
use Rattle.stations.specs.Exit.{exit_x, exit}
use Rattle.runs.specs.Run.{RunScene, Piece, row_end_at, led_path, line_points, run_for, run_of, apart, pieces, is_line, all_pieces}
use Rattle.results.specs.Bounds.{around, around_all, nowhere, bounds_of}
use Rattle.stations.specs.Doubles.{DoublesPoint, Paired}
use Rattle.placement.specs.Doubles.{DoublesBox}
use Rattle.doubling.specs.Doubling.{EachBlockOption}
use Rattle.doubling.specs.Twice.{TwiceBox}
use Rattle.doubling.proofs.Sizes.{BlockOption, power, two, two_positive}
use Rattle.doubling.proofs.Bars.{DoublesBar, Block, row_y_lem}

-- points of runs: multiples of 2 ^ 10 grains, up to 2 ^ 1221
abbrev pub Spot : Point → Point → Type 0
Spot p p' = DoublesPoint 10 (2 ^ 1221) p p'

-- the scenes of two drawings
pub record Scenes (S S' : RunScene) : Type 0 where
  pub sub : S'.sub ≡ S.sub
  pub kinds : S'.kinds ≡ S.kinds
  pub from_rows : S'.from_rows ≡ S.from_rows
  pub to_rows : S'.to_rows ≡ S.to_rows
  pub few : (e : ℕ) → (get_or S.from_rows e 0 ≤ 2 ^ 13) × (get_or S.to_rows e 0 ≤ 2 ^ 13)
  pub same_block_options : S'.block_options ≡ S.block_options
  pub block_options : EachBlockOption BlockOption S.block_options
  pub blocks : (s : ℕ) → Block (block_at S.blocks s) (block_at S'.blocks s)
  pub boxes : (s : ℕ) → DoublesBox 116 (2 ^ 1208) (box_in S.boxes s) (box_in S'.boxes s)
  pub places : (s : ℕ) → DoublesPoint 116 (2 ^ 1208) (place_at S.places s) (place_at S'.places s)
  pub bars : (i : ℕ) → DoublesBar 63 (2 ^ 1220) (bar_at S.bars i) (bar_at S'.bars i)
  pub led : S.led ≡ false
  pub led' : S'.led ≡ false
  pub ways : (e : ℕ) → get_or S.ways e [] ≡ []
  pub ways' : (e : ℕ) → get_or S'.ways e [] ≡ []

-- 10 is 63 - 53
pub position_doubles : (b b' : Bar) → DoublesBar 63 (2 ^ 1220) b b' → Spot (position b) (position b')
unfolding position
position_doubles b b' h = record {
  x = widen_doubles 10 (2 ^ 1221) (lit≤ tt) (lit≤ tt) h.x;
  y = div_doubles 10 (2 ^ 1221) (add_doubles h.y0 h.y1 (power 1221 (lit< tt))) two two_positive (lit≤ tt) (lit≤ tt) (lit≤ tt) (power 1221 (lit< tt));
}

pick_doubles : {lo top : ℕ} {x x' y y' : Float} (b : Bool) → Doubles lo top x x' → Doubles lo top y y' → Doubles lo top (pick b x y) (pick b x' y')
pick_doubles true f g = f
pick_doubles false f g = g

exit_x_lem : (b b' : Box) (p p' q q' : Point) → DoublesBox 116 (2 ^ 1208) b b' → DoublesPoint 116 (2 ^ 1208) p p' → DoublesPoint 116 (2 ^ 1208) q q' → Doubles 10 (2 ^ 1221) (exit_x b p q) (exit_x b' p' q')
unfolding exit_x
exit_x_lem b b' p p' q q' h f g =
    subst (λ (t : Bool). Doubles 10 (2 ^ 1221) (pick (le p.x q.x) b.right b.left) (pick t b'.right b'.left)) (sym (le_of_doubles f.x g.x))
    (widen_doubles 10 (2 ^ 1221) (lit≤ tt) (lit≤ tt) (pick_doubles (le p.x q.x) h.right h.left))

module _ (S S' : RunScene) (H : Scenes S S') where
  row_end_point : (i row : ℕ) → row ≤ 2 ^ 13 → Spot (row_end S.block_options S.sub S.blocks S.boxes S.bars i row) (row_end S.block_options S.sub S'.blocks S'.boxes S'.bars i row)
  unfolding row_end
  row_end_point i row h =
      let s = station_of S.sub i in
      record {
        x = widen_doubles 10 (2 ^ 1221) (lit≤ tt) (lit≤ tt) (H.bars i).x;
        y = widen_doubles 10 (2 ^ 1221) (lit≤ tt) (lit≤ tt) (row_y_lem S.block_options H.block_options (box_in S.boxes s) (box_in S'.boxes s) (block_at S.blocks s) (block_at S'.blocks s) (H.boxes s) (H.blocks s) row h);
      }

  row_end_at_doubles : (i row : ℕ) → row ≤ 2 ^ 13 → Spot (row_end_at S i row) (row_end_at S' i row)
  unfolding row_end_at
  row_end_at_doubles i row h =
      subst (λ (g : BlockOptions). Spot (row_end S.block_options S.sub S.blocks S.boxes S.bars i row) (row_end g S'.sub S'.blocks S'.boxes S'.bars i row)) (sym H.same_block_options)
      (subst (λ (l : List ℕ). Spot (row_end S.block_options S.sub S.blocks S.boxes S.bars i row) (row_end S.block_options l S'.blocks S'.boxes S'.bars i row)) (sym H.sub) (row_end_point i row h))

  exit_doubles : (s t : ℕ) (y y' : Float) → Doubles 10 (2 ^ 1221) y y' → Spot (exit S.boxes S.places s t y) (exit S'.boxes S'.places s t y')
  unfolding exit
  exit_doubles s t y y' h = record { x = exit_x_lem (box_in S.boxes s) (box_in S'.boxes s) (place_at S.places s) (place_at S'.places s) (place_at S.places t) (place_at S'.places t) (H.boxes s) (H.places s) (H.places t); y = h }

  -- a line without waypoints and detours: row end, exit, exit, row end
  straight : (T : RunScene) (s t : ℕ) (p q : Point) → T.led ≡ false → line_points T s t [] p q ≡ p ∷ exit T.boxes T.places s t p.y ∷ exit T.boxes T.places t s q.y ∷ q ∷ []
  unfolding line_points led_path
  straight T s t p q e =
      let path = exit T.boxes T.places s t p.y ∷ exit T.boxes T.places t s q.y ∷ [] in
      ap (λ (b : Bool). p ∷ (cond b (detour T.boxes T.occupied T.clearance s t path) path ++ (q ∷ []))) e

  line_doubles : (s t : ℕ) (p p' q q' : Point) → Spot p p' → Spot q q' → Paired (DoublesPoint 10 (2 ^ 1221)) (line_points S s t [] p q) (line_points S' s t [] p' q')
  line_doubles s t p p' q q' f g =
      subst (λ (l : List Point). Paired (DoublesPoint 10 (2 ^ 1221)) l (line_points S' s t [] p' q')) (sym (straight S s t p q H.led))
      (subst (λ (l : List Point). Paired (DoublesPoint 10 (2 ^ 1221)) (p ∷ exit S.boxes S.places s t p.y ∷ exit S.boxes S.places t s q.y ∷ q ∷ []) l) (sym (straight S' s t p' q' H.led'))
      (f, (exit_doubles s t p.y p'.y f.y, (exit_doubles t s q.y q'.y g.y, (g, tt)))))

  run_for_lem : (ra rb : ℕ) (k : Kind) → ra ≤ 2 ^ 13 → rb ≤ 2 ^ 13 → Paired (DoublesPoint 10 (2 ^ 1221)) (run_for S ra rb [] k) (run_for S' ra rb [] k)
  unfolding run_for
  run_for_lem ra rb Undrawn h k = tt
  run_for_lem ra rb (Open a b) h k = (position_doubles (bar_at S.bars a) (bar_at S'.bars a) (H.bars a), (position_doubles (bar_at S.bars b) (bar_at S'.bars b) (H.bars b), tt))
  run_for_lem ra rb (Internal a b) h k = (row_end_at_doubles a ra h, (row_end_at_doubles b rb k, tt))
  run_for_lem ra rb (Line a b) h k =
      subst (λ (l : List ℕ). Paired (DoublesPoint 10 (2 ^ 1221)) (line_points S (station_of S.sub a) (station_of S.sub b) [] (row_end_at S a ra) (row_end_at S b rb)) (line_points S' (station_of l a) (station_of l b) [] (row_end_at S' a ra) (row_end_at S' b rb))) (sym H.sub)
      (line_doubles (station_of S.sub a) (station_of S.sub b) (row_end_at S a ra) (row_end_at S' a ra) (row_end_at S b rb) (row_end_at S' b rb) (row_end_at_doubles a ra h) (row_end_at_doubles b rb k))

  pub run_doubles : (e : ℕ) → Paired (DoublesPoint 10 (2 ^ 1221)) (run_of S e) (run_of S' e)
  unfolding run_of
  run_doubles e =
      subst (λ (w : List Point). Paired (DoublesPoint 10 (2 ^ 1221)) (run_for S (get_or S.from_rows e 0) (get_or S.to_rows e 0) w (kind_at S.kinds e)) (run_of S' e)) (sym (H.ways e))
      (subst (λ (l : List Point). Paired (DoublesPoint 10 (2 ^ 1221)) (run_for S (get_or S.from_rows e 0) (get_or S.to_rows e 0) [] (kind_at S.kinds e)) l) (sym other)
      (run_for_lem (get_or S.from_rows e 0) (get_or S.to_rows e 0) (kind_at S.kinds e) (H.few e).0 (H.few e).1))
    where
      other : run_for S' (get_or S'.from_rows e 0) (get_or S'.to_rows e 0) (get_or S'.ways e []) (kind_at S'.kinds e) ≡ run_for S' (get_or S.from_rows e 0) (get_or S.to_rows e 0) [] (kind_at S.kinds e)
      other =
          ap (λ (l : List ℕ). run_for S' (get_or l e 0) (get_or S'.to_rows e 0) (get_or S'.ways e []) (kind_at S'.kinds e)) H.from_rows
          ∙ ap (λ (l : List ℕ). run_for S' (get_or S.from_rows e 0) (get_or l e 0) (get_or S'.ways e []) (kind_at S'.kinds e)) H.to_rows
          ∙ ap (λ (w : List Point). run_for S' (get_or S.from_rows e 0) (get_or S.to_rows e 0) w (kind_at S'.kinds e)) (H.ways' e)
          ∙ ap (λ (l : List Kind). run_for S' (get_or S.from_rows e 0) (get_or S.to_rows e 0) [] (kind_at l e)) H.kinds

-- ---- pieces
pub record DoublesPiece (p p' : Piece) : Type 0 where
  pub branch : p'.branch ≡ p.branch
  pub start : Spot p.start p'.start
  pub end : Spot p.end p'.end

apart_of_doubles : (p p' q q' : Point) → Spot p p' → Spot q q' → apart p' q' ≡ apart p q
unfolding apart
apart_of_doubles p p' q q' f g =
    lt_of_doubles (zero_doubles 10 (2 ^ 1223)) (add_doubles (abs_doubles (sub_doubles f.x g.x (power 1222 (lit< tt)))) (abs_doubles (sub_doubles f.y g.y (power 1222 (lit< tt)))) (power 1223 (lit< tt)))

pick_pieces : (b : Bool) (l l' m m' : List Piece) → Paired DoublesPiece l l' → Paired DoublesPiece m m' → Paired DoublesPiece (pick b l m) (pick b l' m')
pick_pieces true l l' m m' h k = h
pick_pieces false l l' m m' h k = k

pieces_doubles : (e : ℕ) (l l' : List Point) → Paired (DoublesPoint 10 (2 ^ 1221)) l l' → Paired DoublesPiece (pieces e l) (pieces e l')
unfolding pieces
pieces_doubles e [] [] h = tt
pieces_doubles e [] (p' ∷ ps') h = absurd h
pieces_doubles e (p ∷ ps) [] h = absurd h
pieces_doubles e (p ∷ []) (p' ∷ []) h = tt
pieces_doubles e (p ∷ []) (p' ∷ (q' ∷ ps')) h = absurd h.1
pieces_doubles e (p ∷ (q ∷ ps)) (p' ∷ []) h = absurd h.1
pieces_doubles e (p ∷ (q ∷ ps)) (p' ∷ (q' ∷ ps')) h =
    let r = pieces e (q ∷ ps) in
    let r' = pieces e (q' ∷ ps') in
    let i : Piece = record { branch = e; start = p; end = q } in
    let i' : Piece = record { branch = e; start = p'; end = q' } in
    let k : Paired DoublesPiece r r' = pieces_doubles e (q ∷ ps) (q' ∷ ps') h.1 in
    subst (λ (t : Bool). Paired DoublesPiece (pick (apart p q) (i ∷ r) r) (pick t (i' ∷ r') r')) (sym (apart_of_doubles p p' q q' h.0 h.1.0))
    (pick_pieces (apart p q) (i ∷ r) (i' ∷ r') r r' (record { branch = refl; start = h.0; end = h.1.0 }, k) k)

append_pieces : (l l' m m' : List Piece) → Paired DoublesPiece l l' → Paired DoublesPiece m m' → Paired DoublesPiece (l ++ m) (l' ++ m')
append_pieces [] [] m m' h k = k
append_pieces [] (x' ∷ l') m m' h k = absurd h
append_pieces (x ∷ l) [] m m' h k = absurd h
append_pieces (x ∷ l) (x' ∷ l') m m' h k = (h.0, append_pieces l l' m m' h.1 k)

joined_pieces : (f f' : ℕ → List Piece) → ((e : ℕ) → Paired DoublesPiece (f e) (f' e)) → (n : ℕ) → Paired DoublesPiece (joined f n) (joined f' n)
unfolding joined
joined_pieces f f' h zero = tt
joined_pieces f f' h (suc n) = append_pieces (joined f n) (joined f' n) (f n) (f' n) (joined_pieces f f' h n) (h n)

pub all_pieces_lem : (ks : List Kind) (rs rs' : List (List Point)) → ((e : ℕ) → Paired (DoublesPoint 10 (2 ^ 1221)) (get_or rs e []) (get_or rs' e [])) → Paired DoublesPiece (all_pieces ks rs) (all_pieces ks rs')
unfolding all_pieces
all_pieces_lem ks rs rs' h =
    append_pieces (joined (first rs) (length ks)) (joined (first rs') (length ks)) (joined (second rs) (length ks)) (joined (second rs') (length ks))
    (joined_pieces (first rs) (first rs') (λ e. pick_pieces (is_line (kind_at ks e)) [] [] (pieces e (get_or rs e [])) (pieces e (get_or rs' e [])) tt (pieces_doubles e (get_or rs e []) (get_or rs' e []) (h e))) (length ks))
    (joined_pieces (second rs) (second rs') (λ e. pick_pieces (is_line (kind_at ks e)) (pieces e (get_or rs e [])) (pieces e (get_or rs' e [])) [] [] (pieces_doubles e (get_or rs e []) (get_or rs' e []) (h e)) tt) (length ks))
  where
    -- a branch's pieces where it is no line, and where it is one
    first : List (List Point) → ℕ → List Piece
    first l e = pick (is_line (kind_at ks e)) [] (pieces e (get_or l e []))

    second : List (List Point) → ℕ → List Piece
    second l e = pick (is_line (kind_at ks e)) (pieces e (get_or l e [])) []

-- ---- bounds: a minimum and a maximum double at every float, the infinities that nothing is around included
around_doubled : (b b' c c' : Box) → TwiceBox b b' → TwiceBox c c' → TwiceBox (around b c) (around b' c')
unfolding around
around_doubled b b' c c' f g = record {
  left = ap (λ (x : Float). min_of x c'.left) f.left ∙ ap (λ (x : Float). min_of (twice b.left) x) g.left ∙ min_twice b.left c.left;
  top = ap (λ (x : Float). min_of x c'.top) f.top ∙ ap (λ (x : Float). min_of (twice b.top) x) g.top ∙ min_twice b.top c.top;
  right = ap (λ (x : Float). max_of x c'.right) f.right ∙ ap (λ (x : Float). max_of (twice b.right) x) g.right ∙ max_twice b.right c.right;
  bottom = ap (λ (x : Float). max_of x c'.bottom) f.bottom ∙ ap (λ (x : Float). max_of (twice b.bottom) x) g.bottom ∙ max_twice b.bottom c.bottom;
}

around_all_lem : (bs bs' : List Box) → ((s : ℕ) → TwiceBox (box_in bs s) (box_in bs' s)) → (b b' : Box) → TwiceBox b b' → (ss : List ℕ) → TwiceBox (around_all bs b ss) (around_all bs' b' ss)
unfolding around_all
around_all_lem bs bs' h b b' k [] = k
around_all_lem bs bs' h b b' k (s ∷ ss) = around_all_lem bs bs' h (around b (box_in bs s)) (around b' (box_in bs' s)) (around_doubled b b' (box_in bs s) (box_in bs' s) k (h s)) ss

nowhere_doubled : TwiceBox nowhere nowhere
unfolding twice
nowhere_doubled = record { left = refl; top = refl; right = refl; bottom = refl }

pub bounds_doubled : (bs bs' : List Box) → ((s : ℕ) → TwiceBox (box_in bs s) (box_in bs' s)) → (ss : List ℕ) → is_finite (around_all bs nowhere ss).left ≡ true → TwiceBox (bounds_of bs ss) (bounds_of bs' ss)
unfolding bounds_of
bounds_doubled bs bs' h ss e =
    let a = around_all bs nowhere ss in
    let a' = around_all bs' nowhere ss in
    let d : Box = record { left = f0; top = f0; right = f1; bottom = f1 } in
    let k : TwiceBox a a' = around_all_lem bs bs' h nowhere nowhere nowhere_doubled ss in
    subst (λ (t : Bool). TwiceBox (pick t a d) (pick (is_finite a'.left) a' d)) (sym e)
    (subst (λ (t : Bool). TwiceBox a (pick t a' d)) (sym (ap is_finite k.left ∙ finite_twice a.left ∙ e)) k)
