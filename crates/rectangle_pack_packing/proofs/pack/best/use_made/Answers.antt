use Rattle.rectangle_pack_sections.proofs.Std.{ap, ◌∙◌, filter, map, nat_lt, keys_of, fun_ext}
use Rattle.rectangle_pack_packing.specs.Best.{use_by}
use Rattle.rectangle_pack_bins.proofs.lemmas.bins.Maps.{keys-bins}
use Rattle.rectangle_pack_packing.proofs.pack.best.use_made.Goals as goal

pub returns : goal.returns
returns g c =
    c.by.ensures ∙ rw (c.as_slice.ensures.value, c.in_ok-counts.ensures, keys-bins c.args.bins.now.entries)
    (ap (λ count. use_by (filter (nat_lt 0) (map count (keys_of c.args.bins.now.entries)))) (fun_ext c.in_ok-cells.ensures))
