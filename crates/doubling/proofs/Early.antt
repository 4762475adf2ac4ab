-- Refusals 1 to 7 in both calls: 6 comes in neither, the others don't look at the map. What is known where none of them comes (`passed`). Assumes nothing.
use mathlib.Core.Path.{◌≡◌, refl, sym, ap, ◌∙◌, subst}
use mathlib.Core.Logic.{◌⊎◌, inl, inr}
use mathlib.Core.Bool.{Bool, true, false, not, ◌&&◌, ◌||◌, true≢false}
use mathlib.Core.List.{List, [], ◌∷◌, ◌++◌}
use Prim.Native.Nat.{ℕ, zero, suc, ◌+◌, ◌*◌, ◌^◌, ◌≤◌, ◌<◌, min}
use native.Mathlib.Nat.{le_trans, le_of_eq, lt_of_not-le, eq-or-lt_of_le, le_of_suc-le-suc, le_refl}
use native.Mathlib.Omega.{arith}
use native.Mathlib.Decide.{dec_le}
use lib.IntN.{ℤ, negsuc}
use lib.Dec.{T, ltb, leb, lt→ltb}
use lib.ListN.{length, get_or, take, length-append, length-take, get_or-append, get_or-eq_default}
use lib.Seq.{get_or-take, get_or-append_seam}
use lib.Ieee.{Float, nan, inf, fin, down, binary64, fits, lt, le, eq, of_bits}
use lib.Ieee.Fits.{down_pos}
use borrow.Author.Tests.{ltb-true, ltb-false}
use Rattle.numbers.specs.Small.{abs_of, is_finite}
use Rattle.numbers.specs.Ops.{f0, f1}
use Rattle.numbers.specs.Double.{scaled}
use Rattle.numbers.specs.Size.{most_test, AtMost}
use Rattle.numbers.proofs.float.Signs.{abs_at}
use Rattle.numbers.proofs.float.Keys.{not_both}
use Rattle.numbers.proofs.float.SizeLaws.{between_most, most_lit}
use Rattle.numbers.specs.Table.{how_many, which}
use Rattle.numbers.proofs.order.Tables.{how_many_zero, how_many_no, which_suc, which_yes, length_table}
use Rattle.plane.specs.declared.geometry.Point.{Point}
use Rattle.plane.specs.Plane.{point_at}
use Rattle.network.specs.declared.options.BlockOptions.{BlockOptions}
use Rattle.network.specs.declared.options.Options.{Options}
use Rattle.network.specs.Options.{between, search_fits, block_option_fits, block_options_fit, in_range}
use Rattle.network.specs.Words.{station_count, bus_counts, is_occupied, occupied, kind_of, kinds}
use Rattle.network.specs.Seed.{seeds, place_at}
use Rattle.std.specs.Prelude.{Option, Some, None}
use Rattle.std.specs.Option.{option_or}
use Rattle.network.specs.declared.refusals.Refusal.{Refusal}
use Rattle.network.specs.declared.refusals.Refusal.TheVariants as Refusals
use Rattle.network.specs.Refusal.{too_many, above, far_out, too_far, refuse, shape_refusal}
use Rattle.stations.specs.Unit.{coordinates}
use Rattle.drawing.specs.declared.lengths.ListLengths.{ListLengths}
use Rattle.drawing.specs.Network.{Network}
use Rattle.drawing.specs.Answer.{mesh_length, short_results, short_work, early}
use Rattle.doubling.specs.Doubling.{sixty_fourth, HasPoint, Allowed, EachBlockOption, Asked, ScaledBus, ScaledMap, with_map}
use Rattle.doubling.proofs.HalfSidesDoubled.{coordinates_at}
use Rattle.doubling.proofs.Passed.{sixteen, thousand, least_option, most_option, Ranged, Passed, lt_no}
use Rattle.doubling.proofs.Powers.{both_true, above_down}
use Rattle.doubling.proofs.Buses.{seeds_ext, same_bus, bus_kept}

-- ---- 6 comes in neither call
none_far : (p : ℕ → Bool) (n : ℕ) → ((i : ℕ) → i < n → p i ≡ false) → how_many p n ≡ 0
none_far p zero h = how_many_zero p
none_far p (suc n) h = how_many_no p n (h n (le_refl (suc n))) ∙ none_far p n (λ i l. h i (omega arith))

near_pair : (x y : Float) → (is_finite x && is_finite y ≡ true → (above x ≡ false) × (above y ≡ false)) → far_out x y ≡ false
unfolding far_out
near_pair x y h = go (is_finite x) (is_finite y) h
  where
    go : (p q : Bool) → (p && q ≡ true → (above x ≡ false) × (above y ≡ false)) → p && (q && (above x || above y)) ≡ false
    go false q h = refl
    go true false h = refl
    go true true h = ap (λ (b : Bool). b || above y) (h refl).0 ∙ (h refl).1

pub all_near : (n : ℕ) (xy : List Float) → ((i : ℕ) → i < n → HasPoint xy i → (above (get_or xy (2 * i) nan) ≡ false) × (above (get_or xy (2 * i + 1) nan) ≡ false)) → too_far n xy ≡ false
unfolding too_far
all_near n xy h =
    ap (λ (c : ℕ). ltb 0 c)
    (none_far (λ i. far_out (get_or xy (2 * i) nan) (get_or xy (2 * i + 1) nan)) n (λ i l. near_pair (get_or xy (2 * i) nan) (get_or xy (2 * i + 1) nan) (λ e. h i l (both_true _ _ e))))

-- a number within 10 ^ 12 scaled is within it as it is
near_itself : (k : ℕ) (x : Float) → above (scaled k x) ≡ false → above x ≡ false
unfolding scaled
near_itself zero x e = e
near_itself (suc k) x e = near_itself k x (above_down (scaled k x) e)

module _ (k : ℕ) (O : Options) (N : Network) (A : Asked k O N) where
  near_first : too_far (length N.station) N.xy ≡ false
  near_first = all_near (length N.station) N.xy (λ i l h. (near_itself k (get_or N.xy (2 * i) nan) (A.points i l h).0.near, near_itself k (get_or N.xy (2 * i + 1) nan) (A.points i l h).1.near))

  near_second : (xy' : List Float) → ScaledMap k (length N.station) N.xy xy' → too_far (length N.station) xy' ≡ false
  near_second xy' S = all_near (length N.station) xy' (λ i l h. let p = point i l h in (ap above ((S i l).first p) ∙ (A.points i l p).0.near, ap above ((S i l).second p) ∙ (A.points i l p).1.near))
    where
      point : (i : ℕ) → i < length N.station → HasPoint xy' i → HasPoint N.xy i
      point i l h = go (is_finite (get_or N.xy (2 * i) nan) && is_finite (get_or N.xy (2 * i + 1) nan)) refl
        where
          go : (b : Bool) → is_finite (get_or N.xy (2 * i) nan) && is_finite (get_or N.xy (2 * i + 1) nan) ≡ b → HasPoint N.xy i
          go true e = both_true _ _ e
          go false e = absurd (true≢false (sym (ap (λ (b : Bool). b && is_finite (get_or xy' (2 * i + 1) nan)) h.0 ∙ h.1) ∙ (S i l).absent e))

  pub early_same : (xy' : List Float) → ScaledMap k (length N.station) N.xy xy' → (R : ListLengths) → early O (with_map N xy') R ≡ early O N R
  unfolding early
  early_same xy' S R =
      ap (λ (b : Bool). option_or (shape_refusal N.station N.kv N.from N.to) (refuse (not (in_range O)) (Some Refusals.OptionRange) (refuse b (Some Refusals.TooFar) (refuse (short_results (length N.station) (length N.from) (station_count N.station) R) (Some Refusals.ListTooShort) (refuse (short_work (length N.station) (length N.from) (mesh_length N) R) (Some Refusals.ListTooShort) None)))))
      (near_second xy' S ∙ sym near_first)

-- ---- where 1 to 7 don't come
or_none : (a b : Option Refusal) → option_or a b ≡ None → (a ≡ None) × (b ≡ None)
or_none None b e = (refl, e)
or_none (Some r) b e = cc

refuse_none : (b : Bool) (r : Refusal) (later : Option Refusal) → refuse b (Some r) later ≡ None → (b ≡ false) × (later ≡ None)
refuse_none false r later e = (refl, e)
refuse_none true r later e = cc

neither : (a b : Bool) → a || b ≡ false → (a ≡ false) × (b ≡ false)
neither false b e = (refl, e)
neither true b e = absurd (true≢false e)

not_false : (b : Bool) → not b ≡ false → b ≡ true
not_false true e = refl
not_false false e = absurd (true≢false e)

few : (sub : List ℕ) (kv : List ℕ) (from to : List ℤ) → shape_refusal sub kv from to ≡ None → (length sub ≤ 2 ^ 12) × (length from ≤ 2 ^ 13)
unfolding shape_refusal
few sub kv from to e =
    let h = neither (ltb 4096 (length sub)) (ltb 8192 (length from)) (refuse_none (too_many sub from) Refusals.TooMany _ e).0 in
    (ltb-false 4096 (length sub) h.0, ltb-false 8192 (length from) h.1)

-- ---- options in range
parts : (a b c d e f g h z : Bool) → a && (b && (c && d && (e && f && (g && h && z)))) ≡ true → (b ≡ true) × (c ≡ true) × (d ≡ true) × (e ≡ true) × (f ≡ true) × (g ≡ true) × (h ≡ true) × (z ≡ true)
parts a b c d e f g h z w =
    let r₁ = (both_true a (b && (c && d && (e && f && (g && h && z)))) w).1 in
    let r₂ = both_true b (c && d && (e && f && (g && h && z))) r₁ in
    let r₃ = both_true (c && d) (e && f && (g && h && z)) r₂.1 in
    let r₄ = both_true (e && f) (g && h && z) r₃.1 in
    let cd = both_true c d r₃.0 in
    let ef = both_true e f r₄.0 in
    let r₅ = both_true (g && h) z r₄.1 in
    let gh = both_true g h r₅.0 in
    (r₂.0, cd.0, cd.1, ef.0, ef.1, gh.0, gh.1, r₅.1)

-- a block option that is in its range
abbrev Fitting : Float → Type 0
Fitting x = (le least_option x ≡ true) × (le x most_option ≡ true)

fitting : (G : BlockOptions) → block_options_fit G ≡ true → EachBlockOption Fitting G
unfolding block_options_fit block_option_fits between
fitting G h =
    let at : (x : Float) → le least_option x && le x most_option ≡ true → Fitting x = λ x e. both_true (le least_option x) (le x most_option) e in
    let p = both_true (block_option_fits G.bar_gap) (block_option_fits G.pad && (block_option_fits G.min_bar && block_option_fits G.buffer)) h in
    let q = both_true (block_option_fits G.pad) (block_option_fits G.min_bar && block_option_fits G.buffer) p.1 in
    let r = both_true (block_option_fits G.min_bar) (block_option_fits G.buffer) q.1 in
    record { bar_gap = at G.bar_gap p.0; pad = at G.pad q.0; min_bar = at G.min_bar r.0; buffer = at G.buffer r.1 }

options : (O : Options) → in_range O ≡ true
    → (le O.fill sixteen ≡ true) × (le f0 O.tier_radius ≡ true) × (le O.tier_radius thousand ≡ true)
    × (le sixty_fourth O.tier_scale_1 ≡ true) × (le O.tier_scale_1 f1 ≡ true) × (le sixty_fourth O.tier_scale_2 ≡ true) × (le O.tier_scale_2 f1 ≡ true)
    × EachBlockOption Fitting O.block_options
unfolding in_range between
options O r =
    let w = parts (lt f0 O.fill) (le O.fill sixteen) (le f0 O.tier_radius) (le O.tier_radius thousand) (le sixty_fourth O.tier_scale_1) (le O.tier_scale_1 f1) (le sixty_fourth O.tier_scale_2) (le O.tier_scale_2 f1)
    (search_fits O.search && (block_options_fit O.block_options && leb O.route_iterations 100)) r in
    let v = both_true (search_fits O.search) (block_options_fit O.block_options && leb O.route_iterations 100) w.7 in
    (w.0, w.1, w.2, w.3, w.4, w.5, w.6, fitting O.block_options (both_true (block_options_fit O.block_options) (leb O.route_iterations 100) v.1).0)

-- a number of a power of two at least is its own size
above_minus : (m : ℕ) (d : ℕ) → 0 < d → T (ltb 0 (m + d))
above_minus m d h = lt→ltb 0 (m + d) (omega arith)

plus_size : (k : ℕ) (x : Float) → T (le (fin false 1 (negsuc k)) x) → abs_of x ≡ x
unfolding le abs_of
plus_size k nan h = absurd h
plus_size k (inf true) h = absurd h
plus_size k (inf false) h = refl
plus_size k (fin false m e) h = refl
plus_size k (fin true m e) h = absurd (not_both (fin true m e) (fin false 1 (negsuc k)) (minus m e) h)
  where
    minus : (m : ℕ) (e : _) → T (lt (fin true m e) (fin false 1 (negsuc k)))
    minus m e = unfold lt in above_minus _ _ (one (down e) (down_pos e))
      where
        one : (d : ℕ) → 0 < d → 0 < 1 * d
        one d h = omega arith

-- 1/64 and 0.5 as powers of two
low_is : sixty_fourth ≡ fin false 1 (negsuc 5)
unfolding of_bits
low_is = refl

least_is : least_option ≡ fin false 1 (negsuc 0)
unfolding of_bits
least_is = refl

low_most : AtMost 1090 sixty_fourth
unfolding most_test is_finite of_bits
low_most = most_lit 1090 sixty_fourth tt

least_most : AtMost 1090 least_option
unfolding most_test is_finite of_bits
least_most = most_lit 1090 least_option tt

from_to : (k : ℕ) (low x high : Float) → low ≡ fin false 1 (negsuc k) → T (fits binary64 x) → AtMost 1090 low → AtMost 1090 high → le low x ≡ true → le x high ≡ true → Ranged low x high
from_to k low x high is f b h e g =
    let l : T (le low x) = subst T (sym e) tt in
    let m : T (le x high) = subst T (sym g) tt in
    let s : abs_of x ≡ x = plus_size k x (subst (λ (y : Float). T (le y x)) is l) in
    record {
      number = record { held = f; finite = (between_most 1090 x low high l m b h).finite };
      fine = λ z. ap (λ (y : Float). lt y low) s ∙ lt_no x low l;
      most = ap (λ (y : Float). lt high y) s ∙ lt_no high x m;
    }

ranged : (x high : Float) → T (fits binary64 x) → AtMost 1090 high → le sixty_fourth x ≡ true → le x high ≡ true → Ranged sixty_fourth x high
ranged x high f h e g = from_to 5 sixty_fourth x high low_is f low_most h e g

most_most : AtMost 1090 most_option
unfolding most_test is_finite of_bits
most_most = most_lit 1090 most_option tt

ranged_option : (x : Float) → T (fits binary64 x) → Fitting x → Ranged least_option x most_option
ranged_option x f h = from_to 0 least_option x most_option least_is f least_most most_most h.0 h.1

thousand_most : AtMost 1090 thousand
unfolding most_test is_finite of_bits
thousand_most = most_lit 1090 thousand tt

sixteen_most : AtMost 1090 sixteen
unfolding most_test is_finite of_bits
sixteen_most = most_lit 1090 sixteen tt

one_most : AtMost 1090 f1
unfolding most_test is_finite of_bits
one_most = most_lit 1090 f1 tt

zero_most : AtMost 1090 f0
unfolding most_test is_finite of_bits
zero_most = most_lit 1090 f0 tt

zero_under : lt thousand f0 ≡ false
unfolding lt of_bits
zero_under = refl

ranged_radius : (x : Float) → T (fits binary64 x) → (eq x f0 ≡ true) ⊎ (le sixty_fourth x ≡ true) → le f0 x ≡ true → le x thousand ≡ true → Ranged sixty_fourth x thousand
ranged_radius x f (inr e) l g = ranged x thousand f thousand_most e g
ranged_radius x f (inl e) l g = record {
  number = record { held = f; finite = (between_most 1090 x f0 thousand (subst T (sym l) tt) (subst T (sym g) tt) zero_most thousand_most).finite };
  fine = λ z. absurd (true≢false (sym e ∙ z));
  most = ap (λ (y : Float). lt thousand y) (sym (abs_at x f e)) ∙ zero_under;
}

-- ---- the i-th occupied station
index_of : (p : ℕ → Bool) (n s : ℕ) → s < n → p s ≡ true → (i : ℕ) × (i < length (which p n)) × (get_or (which p n) i 0 ≡ s)
index_of p zero s l e = absurd (never s l)
  where
    never : (s : ℕ) → s < 0 → ⊥
    never s l = omega arith
index_of p (suc n) s l e = elim (eq-or-lt_of_le (le_of_suc-le-suc l)) [ inl q ↦ last q | inr m ↦ earlier (index_of p n s m e) ]
  where
    seam : (a b : ℕ) → a < a + (1 + b)
    seam a b = omega arith

    last : s ≡ n → (i : ℕ) × (i < length (which p (suc n))) × (get_or (which p (suc n)) i 0 ≡ s)
    last q =
        let w : which p (suc n) ≡ which p n ++ (n ∷ []) = which_yes p n (ap p (sym q) ∙ e) in (
          length (which p n),
          subst (λ (k : ℕ). length (which p n) < k) (sym (ap length w ∙ length-append (which p n) (n ∷ []))) (seam (length (which p n)) 0),
          ap (λ (l : List ℕ). get_or l (length (which p n)) 0) w ∙ get_or-append_seam (which p n) n [] 0 ∙ sym q,
        )

    more : (a b i : ℕ) → i < a → i < a + b
    more a b i h = omega arith

    earlier : (i : ℕ) × (i < length (which p n)) × (get_or (which p n) i 0 ≡ s) → (i : ℕ) × (i < length (which p (suc n))) × (get_or (which p (suc n)) i 0 ≡ s)
    earlier r =
        let w = which_suc p n in (
          r.0,
          subst (λ (k : ℕ). r.0 < k) (sym (ap length w ∙ length-append (which p n) _)) (more (length (which p n)) _ r.0 r.1),
          ap (λ (l : List ℕ). get_or l r.0 0) w ∙ get_or-append (which p n) _ 0 r.0 r.1 ∙ r.2,
        )

occupied_index : (counts : List ℕ) (s : ℕ) → is_occupied counts s ≡ true → (i : ℕ) × (i < length (occupied counts)) × (get_or (occupied counts) i 0 ≡ s)
unfolding occupied
occupied_index counts s e = index_of (is_occupied counts) (length counts) s (go (dec_le (length counts) s)) e
  where
    never : (n : ℕ) → n ≡ 0 → 0 < n → ⊥
    never n a b = omega arith

    go : Dec (length counts ≤ s) → s < length counts
    go (no h) = lt_of_not-le h
    go (yes h) = absurd (never (get_or counts s 0) (get_or-eq_default counts 0 h) (ltb-true 0 (get_or counts s 0) e))

-- ---- the premises, of the map cut to the buses' coordinates
nan_held : T (fits binary64 nan)
unfolding fits
nan_held = tt

nan_infinite : is_finite nan ≡ false
unfolding is_finite
nan_infinite = refl

module _ (k : ℕ) (O : Options) (N : Network) (A : Asked k O N) where
  pub cut_at : (j : ℕ) → j < 2 * length N.station → get_or (take (2 * length N.station) N.xy) j nan ≡ get_or N.xy j nan
  cut_at j l = get_or-take (2 * length N.station) N.xy j nan l

  cut_past : (j : ℕ) → 2 * length N.station ≤ j → get_or (take (2 * length N.station) N.xy) j nan ≡ nan
  cut_past j l = get_or-eq_default (take (2 * length N.station) N.xy) nan (le_trans (le_of_eq (length-take (2 * length N.station) N.xy)) (le_trans (least (2 * length N.station) (length N.xy)) l))
    where
      least : (a b : ℕ) → min a b ≤ a
      least a b = omega arith

  even : (i n : ℕ) → i < n → 2 * i < 2 * n
  even i n l = omega arith

  odd : (i n : ℕ) → i < n → 2 * i + 1 < 2 * n
  odd i n l = omega arith

  pub cut_bus : (i : ℕ) → i < length N.station → ScaledBus 0 N.xy (take (2 * length N.station) N.xy) i
  cut_bus i l = bus_kept N.xy (take (2 * length N.station) N.xy) i (cut_at (2 * i) (even i (length N.station) l)) (cut_at (2 * i + 1) (odd i (length N.station) l))

  pub cut_seeds : seeds N.station (take (2 * length N.station) N.xy) ≡ seeds N.station N.xy
  cut_seeds = seeds_ext N.station N.xy (take (2 * length N.station) N.xy) (λ i l. same_bus 0 N.xy N.xy (take (2 * length N.station) N.xy) i (bus_kept N.xy N.xy i refl refl) (cut_bus i l))

  held : (j : ℕ) → T (fits binary64 (get_or (take (2 * length N.station) N.xy) j nan))
  held j = go (dec_le (2 * length N.station) j)
    where
      go : Dec (2 * length N.station ≤ j) → T (fits binary64 (get_or (take (2 * length N.station) N.xy) j nan))
      go (yes l) = subst (λ (x : Float). T (fits binary64 x)) (sym (cut_past j l)) nan_held
      go (no l) = subst (λ (x : Float). T (fits binary64 x)) (sym (cut_at j (lt_of_not-le l))) (A.held.map j)

  allowed : (i : ℕ) → is_finite (get_or (take (2 * length N.station) N.xy) (2 * i) nan) ≡ true → is_finite (get_or (take (2 * length N.station) N.xy) (2 * i + 1) nan) ≡ true
      → Allowed k (get_or (take (2 * length N.station) N.xy) (2 * i) nan) × Allowed k (get_or (take (2 * length N.station) N.xy) (2 * i + 1) nan)
  allowed i e f = go (dec_le (length N.station) i)
    where
      twofold : (n i : ℕ) → n ≤ i → 2 * n ≤ 2 * i
      twofold n i l = omega arith

      go : Dec (length N.station ≤ i) → Allowed k (get_or (take (2 * length N.station) N.xy) (2 * i) nan) × Allowed k (get_or (take (2 * length N.station) N.xy) (2 * i + 1) nan)
      go (yes l) = absurd (true≢false (sym e ∙ ap is_finite (cut_past (2 * i) (twofold (length N.station) i l)) ∙ nan_infinite))
      go (no g) =
          let l = lt_of_not-le g in
          let a = cut_at (2 * i) (even i (length N.station) l) in
          let b = cut_at (2 * i + 1) (odd i (length N.station) l) in
          let p = A.points i l (ap is_finite (sym a) ∙ e, ap is_finite (sym b) ∙ f) in
          (subst (Allowed k) (sym a) p.0, subst (Allowed k) (sym b) p.1)

  -- the seed of the i-th occupied station
  seed_at : (s : ℕ) (i : ℕ) → i < length (occupied (bus_counts N.station)) → get_or (occupied (bus_counts N.station)) i 0 ≡ s
      → point_at (coordinates (seeds N.station (take (2 * length N.station) N.xy)) (occupied (bus_counts N.station))) i ≡ place_at (seeds N.station N.xy) s
  seed_at s i l e =
      ap (λ (q : List Point). point_at (coordinates q (occupied (bus_counts N.station))) i) cut_seeds
      ∙ coordinates_at (seeds N.station N.xy) (occupied (bus_counts N.station)) i l
      ∙ ap (place_at (seeds N.station N.xy)) e

  pub passed : (R : ListLengths) → early O N R ≡ None → Passed k O N.station (kinds N.station N.from N.to N.service) (take (2 * length N.station) N.xy)
  unfolding early kinds
  passed R e =
      let a = or_none _ _ e in
      let n = few N.station N.kv N.from N.to a.0 in
      let r = options O (not_false (in_range O) (refuse_none (not (in_range O)) Refusals.OptionRange _ a.1).0) in
      let i = occupied_index (bus_counts N.station) A.s A.first in
      let j = occupied_index (bus_counts N.station) A.t A.second in
      record {
        buses = n.0;
        branches = le_trans (le_of_eq (length_table (kind_of N.station N.from N.to N.service) (length N.from))) n.1;
        held = held;
        allowed = allowed;
        fill = ranged O.fill sixteen A.held.fill sixteen_most A.fill r.0;
        radius = ranged_radius O.tier_radius A.held.radius A.radius r.1 r.2;
        scale_1 = ranged O.tier_scale_1 f1 A.held.scale_1 one_most r.3 r.4;
        scale_2 = ranged O.tier_scale_2 f1 A.held.scale_2 one_most r.5 r.6;
        block_options = record {
          bar_gap = ranged_option O.block_options.bar_gap A.held.block_options.bar_gap r.7.bar_gap;
          pad = ranged_option O.block_options.pad A.held.block_options.pad r.7.pad;
          min_bar = ranged_option O.block_options.min_bar A.held.block_options.min_bar r.7.min_bar;
          buffer = ranged_option O.block_options.buffer A.held.block_options.buffer r.7.buffer;
        };
        i = i.0;
        j = j.0;
        first = i.1;
        second = j.1;
        different = apart _ _ _ _ (seed_at A.s i.0 i.1 i.2) (seed_at A.t j.0 j.1 j.2) A.different;
      }
    where
      apart : (p p' q q' : Point) → p ≡ p' → q ≡ q' → (eq q'.x p'.x ≡ false) ⊎ (eq q'.y p'.y ≡ false) → (eq q.x p.x ≡ false) ⊎ (eq q.y p.y ≡ false)
      apart p p' q q' e f d = subst (λ (u : Point). (eq u.x p.x ≡ false) ⊎ (eq u.y p.y ≡ false)) (sym f) (subst (λ (v : Point). (eq q'.x v.x ≡ false) ⊎ (eq q'.y v.y ≡ false)) (sym e) d)
