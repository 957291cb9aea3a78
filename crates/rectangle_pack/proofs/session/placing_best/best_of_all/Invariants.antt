use Rattle.rectangle_pack_sections.proofs.Std.{◌<◌, All, MatchOption, map, deref_pair}
use Rattle.rectangle_pack_sections.specs.Boxes.{Holds}
use Rattle.rectangle_pack_sections.specs.Bins.{bins_of}
use Rattle.rectangle_pack.specs.private.BestPlaces.{IsBestSeen}
use Rattle.rectangle_pack.proofs.session.placing_best.best_of_all.Given as goal

abbrev pub invariant-loop-bin : goal.invariant-loop-bin
invariant-loop-bin g l =
    MatchOption l.best (All (λ e. All (λ s. ¬ Holds s l.size) e.1.sections) (bins_of (map deref_pair l.yielded)))
    (λ best. IsBestSeen g.B.Ord.cmp l.size (bins_of l.bins.entries) (bins_of (map deref_pair l.yielded)) best.bin.now best.index best.rest × (0 < best.rest))
