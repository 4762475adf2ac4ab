-- The part of a channel outside both boxes, with its least step (docs/RULES.md, 'Channels'). Definitions only.
use Rattle.std.specs.Prelude.{false, cond, Float}
use Rattle.std.specs.Float.{binary64, inf}
use Rattle.std.specs.Float.Ieee.{of_bits, lt}
use Rattle.numbers.specs.Ops.{◌⊕◌, ◌⊖◌, ◌⊗◌, ◌⊘◌, f0, f1, f2, least_normal}
use Rattle.numbers.specs.Small.{max_of, min_of, abs_of, clamp_of}
use Rattle.numbers.specs.Hypot.{hypot_of}
use Rattle.plane.specs.declared.geometry.Point.{Point}
use Rattle.plane.specs.declared.geometry.Box.{Box}
use Rattle.channels.specs.declared.channel.Channel.{Channel}

-- 1e-12
abbrev pub tiny : Float
tiny = of_bits binary64 0x3D71_9799_812D_EA11

-- how far a half side reaches along a direction whose part on its axis is d
unfoldable pub reach_on : Float → Float → Float
reach_on half d = cond (lt tiny (abs_of d)) (half ⊘ abs_of d) (inf false)

-- the distance from a box's centre along (dx, dy) to its edge
unfoldable pub reach : Box → Float → Float → Float
reach b dx dy = min_of (reach_on ((b.right ⊖ b.left) ⊘ f2) dx) (reach_on ((b.bottom ⊖ b.top) ⊘ f2) dy)

-- ends that have passed one another both become their mean; then they are held to 0..1
unfoldable pub held : Float → Float → Float → Channel
held lo hi least_step =
    let mid = (lo ⊕ hi) ⊘ f2 in
    let a = cond (lt hi lo) mid lo in
    let z = cond (lt hi lo) mid hi in
    record { lo = clamp_of a f0 f1; hi = clamp_of z f0 f1; least_step = least_step }

-- the channel between places u and w: the two stations' boxes and scales, and the drawing's clearance
unfoldable pub channel_of : Point → Point → Box → Box → Float → Float → Float → Channel
channel_of u w bu bw su sw clearance =
    let ax = w.x ⊖ u.x in
    let ay = w.y ⊖ u.y in
    let len = max_of (hypot_of ax ay) least_normal in
    let dx = ax ⊘ len in
    let dy = ay ⊘ len in
    let g = clearance ⊗ min_of su sw in
    held ((reach bu dx dy ⊕ g) ⊘ len) (f1 ⊖ (reach bw dx dy ⊕ g) ⊘ len) (g ⊘ len)
