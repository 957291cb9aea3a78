use Rattle.rectangle_pack_sections.proofs.Std.{◌≡◌, refl}
use Rattle.rectangle_pack_sections.specs.Boxes.{Size}
use Rattle.rectangle_pack_sections.specs.Bins.{Bin, IsSound}
use Rattle.rectangle_pack_lists.specs.declared.free_list.End.{End}
use Rattle.rectangle_pack_lists.specs.declared.free_list.End.TheVariants.{Keep, Undo}
use Rattle.rectangle_pack_lists.specs.private.FreeLists.{left_of, now_of, start_of}
use Rattle.rectangle_pack_lists.specs.private.FreeLists as lists
use Rattle.rectangle_pack_packing.specs.private.BinsAtWork.{left_at}
use Rattle.rectangle_pack_packing.proofs.bins_at_work.BinAtWork.end.Goals as goal

-- the sections of the list are sound, whatever the end
sound : (end : End) (size : Size) (work : lists.AtWork) → IsSound size (start_of work) → IsSound size (now_of work) → IsSound size (left_of end work)
sound Keep size work start now = now
sound Undo size work start now = start

-- and the bin has them
with_left : (end : End) (bin : Bin) (work : lists.AtWork)
    → record bin { sections = left_of end work }
    ≡ left_at end (record { start = record bin { sections = start_of work }; now = record bin { sections = now_of work } })
with_left Keep bin work = refl
with_left Undo bin work = refl

pub put_sections-requires : goal.put_sections-requires
put_sections-requires g c =
    let kept = rw (← c.into_inner-bin.ensures) at c.self.invariant in
    rw c.into_sections.ensures (sound c.args.end _ c.into_inner-bin.result.list kept.0 kept.1)

pub returns : goal.returns
returns g c =
    rw (← c.self.view_is, ← c.into_inner-bin.ensures, c.put_sections.ensures.bin, c.into_sections.ensures)
    (with_left c.args.end c.into_inner-bin.result.bin.bin c.into_inner-bin.result.list)
