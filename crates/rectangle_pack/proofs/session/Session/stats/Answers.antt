use Rattle.rectangle_pack_sections.proofs.Std.{refl, ap, ◌∙◌, rules, is_at}
use Rattle.rectangle_pack_sections.specs.Boxes.{volume_of}
use Rattle.rectangle_pack_sections.specs.Counting.{total_volume}
use Rattle.rectangle_pack.specs.Session.{outstanding_in}
use Rattle.rectangle_pack.proofs.lemmas.session.Keeps.{None-bins_of}
use Rattle.rectangle_pack.proofs.lemmas.session.Stats.{IsSession-volumes, free-fits, placed-fits, parts-whole, stats-found}
use Rattle.rectangle_pack.proofs.session.Session.stats.Goals as goal

pub returns-in_err-bin-clause-stats : goal.returns-in_err-bin-clause-stats
returns-in_err-bin-clause-stats g c =
    rw (c.from_residual.ensures, ← c.self.view_is, None-bins_of (is_at (g.BinId.Ord.cmp c.args.id.now)) c.self.inside.bins.entries (search rules)) refl

pub free_volume_of-requires : goal.free_volume_of-requires
free_volume_of-requires g c =
    let held = c.in_ok-bin.bin.now in
    let outstanding = c.self.inside.outstanding.items in
    let sums = IsSession-volumes g.BinId.Ord.cmp c.self.inside.bins.entries outstanding c.self.inside.next c.args.id.now held
    c.self.invariant c.in_ok-bin.ensures.value in
    free-fits c.as_slice-sections.result.now held.bin.sections _ (volume_of held.bin.size) c.volume-bin_volume.result
    (c.as_slice-sections.ensures.value ∙ c.available_bin_sections.ensures.items) sums (c.volume-bin_volume.ensures ∙ ap volume_of c.max_size.ensures)
    c.volume-bin_volume.type_inv

pub totals_in-placed_volume-requires : goal.totals_in-placed_volume-requires
totals_in-placed_volume-requires g c =
    let held = c.in_ok-bin.bin.now in
    let outstanding = c.self.inside.outstanding.items in
    let sums = IsSession-volumes g.BinId.Ord.cmp c.self.inside.bins.entries outstanding c.self.inside.next c.args.id.now held
    c.self.invariant c.in_ok-bin.ensures.value in
    placed-fits g.BinId.Ord.cmp c.args.id.now c.as_slice.result.now outstanding _ (volume_of held.bin.size) c.volume-bin_volume.result
    c.as_slice.ensures.value sums (c.volume-bin_volume.ensures ∙ ap volume_of c.max_size.ensures) c.volume-bin_volume.type_inv

pub returns-clause-stats : goal.returns-clause-stats
returns-clause-stats g c =
    let held = c.in_ok-bin.bin.now in
    stats-found g.BinId.Ord.cmp c.self.inside.bins.entries c.self.inside.outstanding.items c.self.inside.next c.args.self.now c.self.view_is
    c.args.id.now held c.in_ok-bin.ensures.value
    c.volume-bin_volume.result c.as_slice-sections.result.now c.free_volume_of.result c.as_slice.result.now
    c.totals_in-placed_volume.result.0 c.totals_in-placed_volume.result.1
    (c.volume-bin_volume.ensures ∙ ap volume_of c.max_size.ensures)
    (c.as_slice-sections.ensures.value ∙ c.available_bin_sections.ensures.items)
    c.free_volume_of.ensures c.as_slice.ensures.value c.totals_in-placed_volume.ensures.volume c.totals_in-placed_volume.ensures.count

pub returns-clause-whole : goal.returns-clause-whole
returns-clause-whole g c =
    let sums = IsSession-volumes g.BinId.Ord.cmp c.self.inside.bins.entries c.self.inside.outstanding.items c.self.inside.next c.args.id.now
    c.in_ok-bin.bin.now c.self.invariant c.in_ok-bin.ensures.value in
    parts-whole _ _ _ _ _ _ (c.free_volume_of.ensures ∙ ap total_volume (c.as_slice-sections.ensures.value ∙ c.available_bin_sections.ensures.items))
    (c.totals_in-placed_volume.ensures.volume
    ∙ ap (λ rs. total_volume (outstanding_in g.BinId.Ord.cmp rs c.args.id.now)) c.as_slice.ensures.value)
    (c.volume-bin_volume.ensures ∙ ap volume_of c.max_size.ensures) sums
