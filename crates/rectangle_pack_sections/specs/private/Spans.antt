-- Spans: stretches of an axis.
use Rattle.std.specs.Prelude.{ℕ, ◌≡◌, ◌+◌, ◌-◌, ◌^◌, ◌<◌, ◌⊎◌, min, max}
use Rattle.rectangle_pack_sections.specs.declared.axis.Axis.{Axis}
use Rattle.rectangle_pack_sections.specs.declared.axis.Axis.TheVariants.{X, Y, Z}
use Rattle.rectangle_pack_sections.specs.declared.span.Span.{Span}
use Rattle.rectangle_pack_sections.specs.Boxes.{Cuboid, extent, start}

-- the span of a box on an axis: its start and how far it runs there
-- Example: of (4,0,0) 6x10x1 on x: 4 and 6
abbrev pub span_of : Axis → Cuboid → Span
span_of a b = record { start = start a b; length = extent a b.whd }

-- the spans of a box on x, y and z
-- Example: of (4,0,0) 6x10x1: 4 and 6, 0 and 10, 0 and 1
abbrev pub spans_of : Cuboid → Span × Span × Span
spans_of b = (span_of X b, span_of Y b, span_of Z b)

-- where a span ends: the first place beyond it
-- Example: of 4 and 6: 10
abbrev pub span_end : Span → ℕ
span_end s = s.start + s.length

-- the end of the span is a number of 32 bits
abbrev pub SpanFits : Span → Type 0
SpanFits s = span_end s < 2 ^ 32

-- some place is in both spans: the greater of the two starts is before both ends
-- Example: 2 and 3, 4 and 5: 4 < 5 and 4 < 9, they overlap; 0 and 2, 2 and 1: 2 < 2 fails
abbrev pub SpansOverlap : Span → Span → Type 0
SpansOverlap s t = (max s.start t.start < span_end s) × (max s.start t.start < span_end t)

-- one span ends where the other starts
-- Example: 0 and 2, 2 and 1
abbrev pub SpansTouch : Span → Span → Type 0
SpansTouch s t = (span_end s ≡ t.start) ⊎ (span_end t ≡ s.start)

-- the span from the lower start of two to their higher end
-- Example: of 0 and 2, 3 and 1: 0 and 4
abbrev pub hull : Span → Span → Span
hull s t = record { start = min s.start t.start; length = max (span_end s) (span_end t) - min s.start t.start }
