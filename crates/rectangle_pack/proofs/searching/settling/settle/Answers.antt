use Rattle.rectangle_pack_sections.proofs.Std.{refl, IsDistinct-from_sorted, keys_of, AllocError}
use Rattle.rectangle_pack_sections.specs.declared.box_size_heuristics.named.Heuristic.TheVariants.{Volume}
use Rattle.rectangle_pack_sections.proofs.lemmas.groups.GroupOrder.{groups_total}
use Rattle.rectangle_pack_sections.specs.Bins.{bins_of}
use Rattle.rectangle_pack_packing.specs.Fitting.{names_left}
use Rattle.rectangle_pack_packing.specs.Placed.{placements_of}
use Rattle.rectangle_pack.proofs.lemmas.searching.Guesses.{best_is_no_worse, first_or_better, none_guesses}
use Rattle.rectangle_pack.proofs.lemmas.searching.Settled.{guess-found, told-settled}
use Rattle.rectangle_pack.proofs.searching.settling.settle.Goals as goal

pub returns-then-is_first_or_better : goal.returns-then-is_first_or_better
returns-then-is_first_or_better g c =
    let groups = groups_total _ g.Id.Ord.cmp g.GroupId.Ord.cmp g.met.Id.Ord.total g.met.GroupId.Ord.total (λ a b. refl) (λ a b. refl) (λ a b. refl) (λ a b. refl) in
    let all = c.args.groups.now in
    let old = bins_of c.args.bins.now.entries in
    let may_leave = c.args.options.now.may_leave in
    let costs = c.args.options.now.costs.now.entries in
    let it = rw c.in-Some.is at c.requires.found in
    let first = c.is_first_or_better.ensures.0 c.if-is_first_or_better.true in
    let no_worse = first_or_better groups g.met.Id.Ord.total g.met.BinId.Ord.total all may_leave costs old _ refl c.args.guess c.in-Some.found.outlay
    c.requires.guess first in
    told-settled groups g.met.Id.Ord.total g.met.BinId.Ord.total all c.args.options.now.turns.now.entries may_leave costs old AllocError c.in-Some.found it no_worse
    c.in_ok-keep_rehearsed.field-0 (bins_of c.keep_rehearsed.new.bins.entries) c.in_ok-keep_rehearsed.ensures

pub returns-in_default-guess : goal.returns-in_default-guess
returns-in_default-guess g c =
    let groups = groups_total _ g.Id.Ord.cmp g.GroupId.Ord.cmp g.met.Id.Ord.total g.met.GroupId.Ord.total (λ a b. refl) (λ a b. refl) (λ a b. refl) (λ a b. refl) in
    let none = none_guesses groups g.met.Id.Ord.total g.met.BinId.Ord.total c.args.groups.now c.args.options.now.may_leave
    c.args.options.now.costs.now.entries (bins_of c.args.bins.now.entries) _ refl (rw c.in_default-guess.is at c.requires.guess) in
    ((none Volume).0, λ heuristic. (none heuristic).1, refl)

pub returns : goal.returns
returns g c =
    let groups = groups_total _ g.Id.Ord.cmp g.GroupId.Ord.cmp g.met.Id.Ord.total g.met.GroupId.Ord.total (λ a b. refl) (λ a b. refl) (λ a b. refl) (λ a b. refl) in
    let all = c.args.groups.now in
    let old = bins_of c.args.bins.now.entries in
    let may_leave = c.args.options.now.may_leave in
    let costs = c.args.options.now.costs.now.entries in
    let best = rw c.in-Some-guess.is at c.requires.guess in
    let fitted = c.in_ok-packed.ensures.answer in
    let found = guess-found groups g.met.Id.Ord.total g.met.BinId.Ord.total all c.args.options.now.turns.now.entries may_leave costs old
    (IsDistinct-from_sorted _ (keys_of all.groups) c.requires.ascend) c.in-Some-guess.heuristic c.in-Some-guess.outlay best.done
    (best_is_no_worse groups g.met.Id.Ord.total g.met.BinId.Ord.total all may_leave costs old _ refl c.in-Some-guess.heuristic c.in-Some-guess.outlay best)
    (placements_of c.in_ok-packed.field-0.packed) (names_left c.in_ok-packed.field-0.left) (bins_of c.fit_by.new.target_bins.entries) fitted.fits in
    (found.0, fitted.last, found.1)
