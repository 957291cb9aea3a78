-- Sizes and sections are in total orders.
use Rattle.rectangle_pack_sections.proofs.Std.{IsTotalOrder, on_total, nat_cmp_total, then_total}
use Rattle.rectangle_pack_sections.specs.Boxes.{Size, Cuboid, size_order, section_order}

pub size_order_total : IsTotalOrder size_order
size_order_total = then_total (on_total (λ (s : Size). s.width) nat_cmp_total)
    (then_total (on_total (λ (s : Size). s.height) nat_cmp_total) (on_total (λ (s : Size). s.depth) nat_cmp_total))

pub section_order_total : IsTotalOrder section_order
section_order_total =
    then_total (on_total (λ (b : Cuboid). b.x) nat_cmp_total)
    (then_total (on_total (λ (b : Cuboid). b.y) nat_cmp_total)
    (then_total (on_total (λ (b : Cuboid). b.z) nat_cmp_total) (on_total (λ (b : Cuboid). b.whd) size_order_total)))
