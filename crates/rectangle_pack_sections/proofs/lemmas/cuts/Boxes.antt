-- Cells of boxes, as facts and as tests.
use Rattle.rectangle_pack_sections.proofs.Std.{rules, arith, ◌≡◌, true, max, nat_tests}
use Rattle.rectangle_pack_sections.specs.declared.axis.Axis.TheVariants.{X, Y, Z}
use Rattle.rectangle_pack_sections.specs.Boxes.{Cuboid, Cell, IsCellOf, is_cell_of, SharesCell, AreApart, extent, start, has_cells}
use Rattle.rectangle_pack_sections.specs.private.Spans.{span_of, SpansOverlap}

-- the test says what the fact says
pub is_cell_of-true : (c : Cell) (b : Cuboid) → is_cell_of c b ≡ true → IsCellOf c b
unfolding is_cell_of
is_cell_of-true c b h = search (rules, nat_tests)

pub is_cell_of-from : (c : Cell) (b : Cuboid) → IsCellOf c b → is_cell_of c b ≡ true
unfolding is_cell_of
is_cell_of-from c b h = grind (arith, nat_tests)

-- a box that has a cell has cells
pub has_cells-from : (c : Cell) (b : Cuboid) → is_cell_of c b ≡ true → has_cells b ≡ true
has_cells-from c b h = let i = is_cell_of-true c b h in grind (arith, nat_tests)

-- the greater of the two corners is a cell of both
pub SharesCell-from_spans : (a b : Cuboid)
    → SpansOverlap (span_of X a) (span_of X b) → SpansOverlap (span_of Y a) (span_of Y b) → SpansOverlap (span_of Z a) (span_of Z b)
    → SharesCell a b
unfolding start extent
SharesCell-from_spans a b x y z = record {
  cell = record { i = max a.x b.x; j = max a.y b.y; k = max a.z b.z };
  in_first = record { from_x = omega arith; below_x = x.0; from_y = omega arith; below_y = y.0; from_z = omega arith; below_z = z.0 };
  in_second = record { from_x = omega arith; below_x = x.1; from_y = omega arith; below_y = y.1; from_z = omega arith; below_z = z.1 };
}

-- one axis on which the spans do not overlap is enough
pub AreApart-from_spans : (a b : Cuboid)
    → ¬ (SpansOverlap (span_of X a) (span_of X b) × SpansOverlap (span_of Y a) (span_of Y b) × SpansOverlap (span_of Z a) (span_of Z b))
    → AreApart a b
unfolding start extent
AreApart-from_spans a b unmet = record { none = λ c p q. unmet ((omega arith, omega arith), (omega arith, omega arith), (omega arith, omega arith)) }

pub ruleset sharing = (SharesCell-from_spans, AreApart-from_spans)

pub not_from_AreApart : (a b : Cuboid) → AreApart a b → ¬ SharesCell a b
not_from_AreApart a b apart h = apart.none h.cell h.in_first h.in_second
