use Rattle.rectangle_pack_sections.proofs.Std.{ap, ◌∙◌, filter, nat_lt, keys_of, fun_ext, sum_by, ℕ}
use Rattle.rectangle_pack_sections.specs.Bins.{bins_of}
use Rattle.rectangle_pack_lists.specs.Numbers.{saturated}
use Rattle.rectangle_pack.specs.Searched.{cost_of}
use Rattle.rectangle_pack.proofs.searching.outlay.cost_made.Goals as goal

pub returns : goal.returns
returns g c =
    c.cost_of_counted.ensures
    ∙ ap (λ (count : g.row.B.Denot → ℕ). saturated (sum_by (cost_of g.B.Ord.cmp c.args.costs.now.entries)
    (filter (λ id. nat_lt 0 (count id)) (keys_of (bins_of c.args.bins.now.entries))))) (fun_ext c.in_ok-cells.ensures)
