-- The lists after a call with lists of zeros that draws, cut to its pieces, are the drawing's. Assumes nothing.
use mathlib.Core.Path.{◌≡◌, refl, sym, ap, ◌∙◌}
use mathlib.Core.List.{List, [], ◌∷◌}
use Prim.Native.Nat.{ℕ, suc, ◌+◌, ◌*◌, ◌≤◌, min}
use native.Mathlib.Omega.{arith}
use lib.ListN.{length, take, length-append, length-map, length-replicate}
use Rattle.std.specs.Vec.{with_items}
use Rattle.std.proofs.lemmas.List.{with_items_is}
use Rattle.numbers.proofs.order.Tables.{length_table}
use Rattle.network.specs.declared.options.Options.{Options}
use Rattle.network.specs.Words.{station_count, bus_counts, buses_in, kind_of, kinds}
use Rattle.stations.specs.Scale.{scales}
use Rattle.placement.specs.Place.{boxes}
use Rattle.stations.specs.Bar.{bars, position}
use Rattle.runs.specs.Run.{Piece, role}
use Rattle.runs.specs.Lists.{flat, point_numbers, box_numbers, bar_numbers, piece_numbers, after}
use Rattle.std.specs.Prelude.{Float, None, Result, Ok, Err}
use Rattle.network.specs.declared.refusals.Refusal.{Refusal}
use Rattle.drawing.specs.declared.answer.Plot.{Plot}
use Rattle.drawing.specs.Network.{Network, Lists, Work, Crossings}
use Rattle.drawing.specs.Drawing.{planned, drawing}
use Rattle.drawing.specs.Answer.{room_of, early, late, lists_of, lists_after, plot_of, Call, call, call_late, call_early, layout_of}
use Rattle.drawing.specs.Number.{Answered}
use Rattle.drawing.proofs.Fitting.{fits_of}
use Rattle.layout.proofs.Drawn.{passed, pieces_fit}
use Rattle.numbers.specs.Ops.{f0}
use Rattle.tansygate.specs.declared.drawings.AskedRoom.{AskedRoom}
use Rattle.tansygate.specs.declared.lists.Lists as Heap
use Rattle.tansygate.specs.Lists.{lent_lists, lists_in, cut_to}
use Rattle.tansygate.specs.Work.{lent_work, lent_crossings, sorts}
use Rattle.tansygate.specs.Drawn.{called, most, IsDrawn, IsRefused}
use Rattle.tansygate.proofs.Fronts.{whole, front}
use Rattle.tansygate.proofs.Long.{long_enough}

-- ---- how long the parts of a drawing are
flat_length : {A B : Type 0} (g : A → List B) (n : ℕ) → ((x : A) → length (g x) ≡ n) → (l : List A) → length (flat g l) ≡ n * length l
unfolding flat
flat_length g n h [] = none n
  where
    none : (n : ℕ) → 0 ≡ n * 0
    none n = omega arith
flat_length g n h (x ∷ l) = length-append (g x) (flat g l) ∙ more (length (g x)) (length (flat g l)) n (length l) (h x) (flat_length g n h l)
  where
    more : (a b n m : ℕ) → a ≡ n → b ≡ n * m → a + b ≡ n * suc m
    more a b n m e f = omega arith

times_length : {a b : ℕ} (n : ℕ) → a ≡ n * b → {c : ℕ} → b ≡ c → a ≡ n * c
times_length n e f = e ∙ ap (λ (k : ℕ). n * k) f

counts_length : (sub : List ℕ) → length (bus_counts sub) ≡ station_count sub
unfolding bus_counts
counts_length sub = length_table (buses_in sub) (station_count sub)

module _ (O : Options) (N : Network) where
  bars_length : length (drawing O N).bars ≡ length N.station
  unfolding drawing planned bars
  bars_length = length_table _ (length N.station)

  boxes_length : length (drawing O N).boxes ≡ station_count N.station
  unfolding drawing planned boxes
  boxes_length = length_table _ (length (bus_counts N.station)) ∙ counts_length N.station

  scales_length : length (drawing O N).scales ≡ station_count N.station
  unfolding drawing planned scales
  scales_length = length_table _ (length (bus_counts N.station)) ∙ counts_length N.station

  roles_length : length (drawing O N).roles ≡ length N.from
  unfolding drawing kinds
  roles_length = length-map (kinds N.station N.from N.to N.service) role ∙ length_table (kind_of N.station N.from N.to N.service) (length N.from)

-- ---- a call that draws
pub record Exact (O : Options) (N : Network) (p : Plot) (room : ℕ) (L : Lists) : Type 0 where
  pub plot : p ≡ plot_of (drawing O N)
  pub positions : L.positions ≡ (lists_of (drawing O N)).positions
  pub bars : L.bars ≡ (lists_of (drawing O N)).bars
  pub boxes : L.boxes ≡ (lists_of (drawing O N)).boxes
  pub scales : L.scales ≡ (lists_of (drawing O N)).scales
  pub roles : L.roles ≡ (lists_of (drawing O N)).roles
  pub pieces : take (4 * min p.pieces room) L.pieces ≡ (lists_of (drawing O N)).pieces
  pub branches : take (min p.pieces room) L.branches ≡ (lists_of (drawing O N)).branches

-- lists for a network within bounds
pub record Sized (N : Network) (room : ℕ) (L : Lists) : Type 0 where
  pub positions : length L.positions ≡ 2 * min (length N.station) 4096
  pub bars : length L.bars ≡ 4 * min (length N.station) 4096
  pub boxes : length L.boxes ≡ 4 * min (station_count N.station) 4096
  pub scales : length L.scales ≡ min (station_count N.station) 4096
  pub roles : length L.roles ≡ min (length N.from) 8192
  pub branches : length L.branches ≡ room

module _ (O : Options) (N : Network) (L : Lists) (W : Work) (X : Crossings) where
  lists_drawn : None ≡ early O N (room_of L W X) → None ≡ late (drawing O N) (room_of L W X) → (layout_of O N L W X).lists ≡ lists_after None (lists_of (drawing O N)) L
  unfolding layout_of call_early call_late
  lists_drawn e f = rw (sym e, sym f)

  after_all : (p : Plot) (room : ℕ) → Sized N room L → None ≡ early O N (room_of L W X) → p ≡ plot_of (drawing O N) → p.pieces ≤ room → Exact O N p room (lists_after None (lists_of (drawing O N)) L)
  unfolding lists_after lists_of after
  after_all p room S e q h =
      let F = fits_of O N (room_of L W X) e in
      let n : min (length N.station) 4096 ≡ length N.station = omega (arith, F.shape.few) in
      let k : min (station_count N.station) 4096 ≡ station_count N.station = omega (arith, F.shape.few, F.shape.below) in
      let m : min (length N.from) 8192 ≡ length N.from = omega (arith, F.shape.many) in
      let c : length (drawing O N).pieces ≡ min p.pieces room = sym (ap (λ (y : Plot). y.pieces) q) ∙ omega (arith, h) in
      record {
        plot = q;
        positions = whole _ _ L.positions (times_length 2 (flat_length (λ b. point_numbers (position b)) 2 (λ b. refl) (drawing O N).bars) (bars_length O N ∙ sym n)) S.positions;
        bars = whole _ _ L.bars (times_length 4 (flat_length bar_numbers 4 (λ b. refl) (drawing O N).bars) (bars_length O N ∙ sym n)) S.bars;
        boxes = whole _ _ L.boxes (times_length 4 (flat_length box_numbers 4 (λ b. refl) (drawing O N).boxes) (boxes_length O N ∙ sym k)) S.boxes;
        scales = whole _ _ L.scales (scales_length O N ∙ sym k) S.scales;
        roles = whole _ _ L.roles (roles_length O N ∙ sym m) S.roles;
        pieces = front _ _ L.pieces (times_length 4 (flat_length piece_numbers 4 (λ b. refl) (drawing O N).pieces) c);
        branches = front _ _ L.branches (length-map (drawing O N).pieces (λ (x : Piece). x.branch) ∙ c);
      }

  pub exact : (p : Plot) (room : ℕ) (L' : Lists) → Sized N room L → (layout_of O N L W X).answer ≡ Ok p → L' ≡ (layout_of O N L W X).lists → Exact O N p room L'
  exact p room L' S a f =
      let P = passed O N L W X p a in
      let E : Exact O N p room (lists_after None (lists_of (drawing O N)) L) = after_all p room S P.early P.plot (omega (arith, (pieces_fit O N L W X p a).1, S.branches)) in
      let l : L' ≡ lists_after None (lists_of (drawing O N)) L = f ∙ lists_drawn P.early P.late in
      rw l E

-- ---- what the call gives, by what the lists held and hold
pub laid_by : (O : Options) (N : Network) (L L1 L2 : Lists) (W W1 : Work) (X X1 : Crossings) (a : Result Plot Refusal)
    → Answered O N L W X (call a L1 W1 X1) → L2 ≡ L1 → (a ≡ (layout_of O N L W X).answer) × (L2 ≡ (layout_of O N L W X).lists)
laid_by O N L L1 L2 W W1 X X1 a A f = (ap (λ (c : Call). c.answer) A.is, f ∙ ap (λ (c : Call). c.lists) A.is)

pub laid_over : (O : Options) (N : Network) (L L1 L2 L3 : Lists) (W : Work) (X : Crossings) (a : Result Plot Refusal)
    → a ≡ (layout_of O N L1 W X).answer → L2 ≡ (layout_of O N L1 W X).lists → L1 ≡ L → L3 ≡ L2
    → (a ≡ (layout_of O N L W X).answer) × (L3 ≡ (layout_of O N L W X).lists)
laid_over O N L L1 L2 L3 W X a e f l g =
    let q : layout_of O N L1 W X ≡ layout_of O N L W X = rw l in (e ∙ ap (λ (c : Call). c.answer) q, g ∙ f ∙ ap (λ (c : Call). c.lists) q)

-- `Vec`s that hold what their slices were left with
pub lists_held : (l : Heap.Lists) (p b x s : List Float) (r : List ℕ) (q : List Float) (n : List ℕ)
    → length p ≡ l.positions.len → length b ≡ l.bars.len → length x ≡ l.boxes.len → length s ≡ l.scales.len → length r ≡ l.roles.len → length q ≡ l.pieces.len → length n ≡ l.branches.len
    → lists_in (record { positions = with_items l.positions p; bars = with_items l.bars b; boxes = with_items l.boxes x; scales = with_items l.scales s; roles = with_items l.roles r; pieces = with_items l.pieces q; branches = with_items l.branches n })
    ≡ record { positions = p; bars = b; boxes = x; scales = s; roles = r; pieces = q; branches = n }
lists_held l p b x s r q n e0 e1 e2 e3 e4 e5 e6 =
    rw (with_items_is l.positions p e0, with_items_is l.bars b e1, with_items_is l.boxes x e2, with_items_is l.scales s e3, with_items_is l.roles r e4, with_items_is l.pieces q e5, with_items_is l.branches n e6)

pub same_call : (O : Options) (N : Network) (L : Lists) (W V : Work) (X Y : Crossings) → W ≡ V → X ≡ Y → layout_of O N L W X ≡ layout_of O N L V Y
same_call O N L W V X Y w x = rw (w, x)

-- ---- what `draw` answers
pub same_called : (O : Options) (N : Network) (r : AskedRoom) (L : Lists) (W : Work) (X : Crossings) (n m k mesh p c s : ℕ)
    → L ≡ lent_lists n m k p → W ≡ lent_work n m mesh s → X ≡ lent_crossings c
    → n ≡ min (length N.station) 4096 → m ≡ min (length N.from) 8192 → k ≡ min (station_count N.station) 4096
    → mesh ≡ min (length N.corners) 24576 → p ≡ min r.pieces most → c ≡ min r.crossings most → s ≡ sorts n m mesh c
    → layout_of O N L W X ≡ called O N r
same_called O N r L W X n m k mesh p c s l w x en em ek eh ep ec es = rw (l, w, x, es, en, em, ek, eh, ep, ec)

pub drew_ok : (O : Options) (N : Network) (r : AskedRoom) (L M : Lists) (W : Work) (X : Crossings) (a : Result Plot Refusal) (p : Plot) (l : Heap.Lists) (n m k mesh q c s d : ℕ)
    → a ≡ (layout_of O N L W X).answer → M ≡ (layout_of O N L W X).lists → a ≡ Ok p → lists_in l ≡ cut_to d M → d ≡ min p.pieces q
    → L ≡ lent_lists n m k q → W ≡ lent_work n m mesh s → X ≡ lent_crossings c
    → n ≡ min (length N.station) 4096 → m ≡ min (length N.from) 8192 → k ≡ min (station_count N.station) 4096
    → mesh ≡ min (length N.corners) 24576 → q ≡ min r.pieces most → c ≡ min r.crossings most → s ≡ sorts n m mesh c
    → IsDrawn O N r (record { plot = p; lists = l })
drew_ok O N r L M W X a p l n m k mesh q c s d A f e z ed el w x en em ek eh ep ec es =
    let S : Sized N q L =
    rw el
    (record {
      positions = length-replicate (2 * n) f0 ∙ ap (λ (x : ℕ). 2 * x) en;
      bars = length-replicate (4 * n) f0 ∙ ap (λ (x : ℕ). 4 * x) en;
      boxes = length-replicate (4 * k) f0 ∙ ap (λ (x : ℕ). 4 * x) ek;
      scales = length-replicate k f0 ∙ ek;
      roles = length-replicate m 0 ∙ em;
      branches = length-replicate q 0;
    })
    in
    let E : Exact O N p q M = exact O N L W X p q M S (sym A ∙ e) f in
    let h : layout_of O N L W X ≡ called O N r = same_called O N r L W X n m k mesh q c s el w x en em ek eh ep ec es in
    record {
      answer = sym (ap (λ (y : Call). y.answer) h) ∙ sym A ∙ e;
      plot = E.plot;
      lists = z ∙ rw (ed, E.positions, E.bars, E.boxes, E.scales, E.roles, E.pieces, E.branches);
    }

pub drew_err : (O : Options) (N : Network) (r : AskedRoom) (L : Lists) (W : Work) (X : Crossings) (a : Result Plot Refusal) (f : Refusal) (n m k mesh q c s : ℕ)
    → a ≡ (layout_of O N L W X).answer → a ≡ Err f
    → L ≡ lent_lists n m k q → W ≡ lent_work n m mesh s → X ≡ lent_crossings c
    → n ≡ min (length N.station) 4096 → m ≡ min (length N.from) 8192 → k ≡ min (station_count N.station) 4096
    → mesh ≡ min (length N.corners) 24576 → q ≡ min r.pieces most → c ≡ min r.crossings most → s ≡ sorts n m mesh c
    → IsRefused O N r f
drew_err O N r L W X a f n m k mesh q c s A e el w x en em ek eh ep ec es =
    let g : layout_of O N L W X ≡ called O N r = same_called O N r L W X n m k mesh q c s el w x en em ek eh ep ec es in
    let h : (called O N r).answer ≡ Err f = sym (ap (λ (y : Call). y.answer) g) ∙ sym A ∙ e in
    record { answer = h; long_enough = long_enough O N r f h }
