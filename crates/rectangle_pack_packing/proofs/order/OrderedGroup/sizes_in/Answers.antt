use Rattle.rectangle_pack_sections.proofs.Std.{◌≡◌, ◌+◌, ◌≤◌, ℕ, ap, ◌∙◌, arith, slice_range}
use Rattle.rectangle_pack_packing.proofs.order.OrderedGroup.sizes_in.Goals as goal

-- a part ends where as many as there are do
ends_within : (start long count all : ℕ) → long ≡ count → start + count ≤ all → start + long ≤ all
ends_within start long count all same h = omega (arith, same, h)

pub slice_bounds-result-end : goal.slice_bounds-result-end
slice_bounds-result-end g c =
    ends_within c.args.self.now.start c.len.result _ _ (c.len.ensures ∙ c.args.self.now.ids.now.ok.0) c.requires

pub returns : goal.returns
returns g c =
    ap (λ n. slice_range c.args.sizes.now c.args.self.now.start (c.args.self.now.start + n)) (c.len.ensures ∙ c.args.self.now.ids.now.ok.0)
