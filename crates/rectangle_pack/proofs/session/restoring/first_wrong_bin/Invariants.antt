use Rattle.rectangle_pack_sections.proofs.Std.{◌≡◌, ◌+◌, length, map, All, deref_pair}
use Rattle.rectangle_pack_sections.specs.Bins.{bins_of}
use Rattle.rectangle_pack.specs.Restoring.{IsWholeBin}
use Rattle.rectangle_pack.proofs.session.restoring.first_wrong_bin.Given as goal

abbrev pub invariant-loop-id : goal.invariant-loop-id
invariant-loop-id g l =
    let before = bins_of (map deref_pair l.yielded) in
    All (IsWholeBin g.B.Ord.cmp (bins_of l.bins.entries) l.outstanding) before × (length before + l.left ≡ length (bins_of l.bins.entries))
