-- Boxes and half sides of two drawings side by side, the second one's doubled, and what a search finds in both.
-- Definitions only.
use Rattle.std.specs.Prelude.{ℕ, ◌+◌, ◌*◌, ◌^◌, ◌≤◌, ◌≡◌, List, [], ◌∷◌, nat_abs, Option, Some, None}
use Rattle.numbers.specs.Double.{Stepped, Limit, Doubles}
use Rattle.plane.specs.declared.geometry.Box.{Box}
use Rattle.stations.specs.Doubles.{DoublesPoint, DoublesSize}
use Rattle.offsets.specs.declared.offset.Offset.{Offset}
use Rattle.plane.specs.declared.geometry.Point.{Point}
use Rattle.placement.specs.Search.{HalfSides}

pub record DoublesBox (lo top : ℕ) (b b' : Box) : Type 0 where
  pub left : Doubles lo top b.left b'.left
  pub top_side : Doubles lo top b.top b'.top
  pub right : Doubles lo top b.right b'.right
  pub bottom : Doubles lo top b.bottom b'.bottom

-- A half side is a block times a size, halved, and either costs 53 digits. The buffer is the same option in both, from
-- 0.5 to 8.
pub record DoublesHalfSides (lo top : ℕ) (r r' : HalfSides) : Type 0 where
  pub half : DoublesSize lo top r.half r'.half
  pub f : Doubles (lo + 106) top r.f r'.f
  pub same : r'.buffer ≡ r.buffer
  pub kept_free : Stepped 1021 (8 * 2 ^ 1074) r.buffer

abbrev pub DoublesFound : ℕ → ℕ → Option Point → Option Point → Type 0
DoublesFound lo top (Some c) (Some c') = DoublesPoint lo top c c'
DoublesFound lo top (Some c) None = ⊥
DoublesFound lo top None (Some c') = ⊥
DoublesFound lo top None None = Unit

-- offsets of at most 20 either way
abbrev pub Small : List Offset → Type 0
Small [] = Unit
Small (o ∷ os) = (nat_abs o.a ≤ 20) × (nat_abs o.b ≤ 20) × Small os

-- the limits that a search from seeds of up to t grains and half sides of up to u keeps to
pub record SearchLimits (lo t u : ℕ) : Type 0 where
  pub fine : 52 ≤ lo
  pub offset : Limit (20 * u)
  pub widened : Limit (80 * u)
  pub place : Limit (t + 80 * u)
  pub box : Limit (t + 80 * u + u)
  pub kept_free : Limit (8 * u)
  pub buffer : Limit (t + 80 * u + u + 8 * u)
