use Rattle.rectangle_pack_c.proofs.Std.{◌≡◌, ◌≤◌, ◌*◌, take}
use Rattle.std.specs.List.{sum_by}
use Rattle.rectangle_pack_c.proofs.restoring.sections_counted.Given as goal

abbrev pub invariant-loop-bin : goal.invariant-loop-bin
invariant-loop-bin l = record {
  sum : l.counted ≡ sum_by (λ b. b.section_count) (take l.bin-index l.bins);
  most : l.counted ≤ l.bin-index * 4294967295;
}
