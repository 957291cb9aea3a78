-- A heuristic that is a function and a comparison that is a total preorder decide each packing.
use Rattle.rectangle_pack_sections.proofs.Std.{List, Contains}
use Rattle.rectangle_pack_sections.specs.Boxes.{Size}
use Rattle.rectangle_pack_sections.specs.Bins.{Bin}
use Rattle.rectangle_pack_sections.specs.Closures.{Answers}
use Rattle.rectangle_pack_sections.specs.Choice.{IsFunction, IsTotalPreorder}
use Rattle.rectangle_pack_packing.specs.Results.{MayBeCut, ClosuresDecide}
use Rattle.rectangle_pack_sections.proofs.lemmas.cuts.SmallestBox.{preorder_on_cuts}

-- and a function on all sizes is one on those that are met
pub total_decides : (boxes : List Size) (bins : List Bin) (may : Answers) → IsFunction may.rate → IsTotalPreorder may.prefer → ClosuresDecide boxes bins may
total_decides boxes bins may f o = record {
  rates = record { rate = f.rate; only = λ size answer h. f.only size answer h.1 };
  prefers = preorder_on_cuts (λ section member. MayBeCut bins section × Contains boxes member) may.prefer o;
}
