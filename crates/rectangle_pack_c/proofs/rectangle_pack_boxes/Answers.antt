use Rattle.rectangle_pack_c.proofs.Std.{[], List, ◌∷◌, subst, All-head}
use Rattle.rectangle_pack_sections.specs.declared.box_size_heuristics.named.Heuristic.TheVariants.{Volume}
use Rattle.rectangle_pack_c.specs.declared.RpBox.{RpBox}
use Rattle.rectangle_pack_c.specs.declared.collection.RpExclusion.{RpExclusion}
use Rattle.rectangle_pack_c.specs.Answers.{IsBestPacking, IsRefusedPacking}
use Rattle.rectangle_pack_c.specs.Collections.{all_boxes}
use Rattle.rectangle_pack_c.proofs.FaultLemmas.{only_boxes}
use Rattle.rectangle_pack_c.proofs.AnswerLemmas.{one_of_best, one_packing, never_both}
use Rattle.rectangle_pack_c.proofs.rectangle_pack_boxes.Goals as goal

pub returns-clause-packed : goal.returns-clause-packed
returns-clause-packed c = λ done.
    let bins = c.args.bins.now in
    let boxes = c.args.boxes.now in
    let own = c.of-collection in
    let answer = c.rectangle_pack_collection in
    let chosen = answer.new.chosen in
    one_of_best bins boxes [] Volume answer.new.placements chosen
    (subst (λ (es : List RpExclusion). IsBestPacking bins boxes es (Volume ∷ []) chosen answer.new.placements) own.ensures.exclusions
    (subst (λ (bs : List RpBox). IsBestPacking bins bs own.result.exclusions.now (Volume ∷ []) chosen answer.new.placements)
    (only_boxes own.result boxes own.ensures.boxes own.ensures.members) (answer.ensures.packed done)))

pub returns-clause-one_packing : goal.returns-clause-one_packing
returns-clause-one_packing c = λ done others.
    one_packing c.args.bins.now c.args.boxes.now [] Volume c.rectangle_pack_collection.new.placements others (returns-clause-packed c done)

pub returns-clause-never_packed : goal.returns-clause-never_packed
returns-clause-never_packed c = λ is others packed.
    let bins = c.args.bins.now in
    let boxes = c.args.boxes.now in
    let own = c.of-collection in
    never_both bins boxes [] Volume others packed
    (subst (λ (es : List RpExclusion). IsRefusedPacking bins boxes es Volume) own.ensures.exclusions
    (subst (λ (bs : List RpBox). IsRefusedPacking bins bs own.result.exclusions.now Volume)
    (only_boxes own.result boxes own.ensures.boxes own.ensures.members)
    (All-head (IsRefusedPacking bins (all_boxes own.result) own.result.exclusions.now) Volume [] (c.rectangle_pack_collection.ensures.refused is))))
