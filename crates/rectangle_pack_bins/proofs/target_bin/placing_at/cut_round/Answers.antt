use Rattle.rectangle_pack_sections.proofs.Std.{◌≡◌, ◌∙◌, ap, sym, subst, true, ◌++◌, filter, get_or, remove, length, arith, length-append, length-filter, count_by-le-length}
use Rattle.rectangle_pack_sections.specs.Boxes.{has_cells}
use Rattle.rectangle_pack_sections.specs.Bins.{Bin, Held, IsSound}
use Rattle.rectangle_pack_bins.specs.PlacedAt.{IsPlacedAt, pieces_round}
use Rattle.rectangle_pack_bins.specs.private.Indices.{IsFirstAroundAt}
use Rattle.rectangle_pack_bins.proofs.lemmas.bins.RoundABox.{IsSound-round, pushed_round, read_first}
use Rattle.rectangle_pack_bins.proofs.target_bin.placing_at.cut_round.Given.{Over}
use Rattle.rectangle_pack_bins.proofs.target_bin.placing_at.cut_round.Goals.{After-push_pieces-2}
use Rattle.rectangle_pack_bins.proofs.target_bin.placing_at.cut_round.Goals.at as goal_at
use Rattle.rectangle_pack_bins.proofs.target_bin.placing_at.cut_round.Goals as goal

-- what the bin's list has become
list_is : (g : Over) (c : After-push_pieces-2 g)
    → (at : IsFirstAroundAt c.bin.inside.available_bin_sections.items c.args.location.now c.args.index)
    → c.push_pieces-2.new.sections.items ≡ at.1.before ++ at.1.after ++ filter has_cells (pieces_round at.0 c.args.location.now)
list_is g c at =
    let old = c.bin.inside.available_bin_sections.items in
    let kept : c.remove-section.new.self.items ≡ remove old c.args.index =
    c.remove-section.ensures.items ∙ ap (λ l. remove l c.args.index) c.in_ok-reserve.ensures.items in
    let read = c.remove-section.ensures.value
    ∙ ap (λ l. get_or l c.args.index c.remove-section.result) c.in_ok-reserve.ensures.items
    ∙ read_first old c.args.location.now c.args.index at c.remove-section.result in
    pushed_round old c.args.location.now c.args.index at c.remove-section.result read c.pieces_round-first.result.0 c.pieces_round-first.result.1
    (c.pieces_round-first.ensures.pieces ∙ ap (pieces_round c.remove-section.result) c.section_at.ensures)
    _ _ _ kept c.push_pieces.ensures.items c.push_pieces-2.ensures.items

-- the section there, in the list of the bin
at_is : (g : Over) (c : After-push_pieces-2 g) → IsFirstAroundAt c.bin.inside.available_bin_sections.items c.args.location.now c.args.index
at_is g c = subst (λ (h : Held). IsFirstAroundAt h.bin.sections c.args.location.now c.args.index) (sym c.bin.view_is) c.requires.first

pub invariant_of-bin-2 : goal.invariant_of-bin-2
invariant_of-bin-2 g c =
    let after = (goal_at.invariant_of-bin-2 g c).After-push_pieces-2 in
    let (first, at, is) = at_is g after in
    rw (list_is g after (first, at, is)) (IsSound-round first c.args.location.now at.around at.before at.after c.bin.inside.max_size
    (subst (λ l. IsSound c.bin.inside.max_size l) at.splits c.bin.invariant))

pub returns-clause-ok : goal.returns-clause-ok
returns-clause-ok g c =
    let after = (goal_at.returns-clause-ok g c).After-push_pieces-2 in
    let at = at_is g after in
    let was : Bin = record {
      size = c.bin.inside.max_size;
      sections = c.bin.inside.available_bin_sections.items;
      coalesced = c.bin.inside.was_coalesced;
    } in
    subst (λ (h : Held). IsPlacedAt h.bin c.args.location.now true (record was { sections = c.push_pieces-2.new.sections.items })) c.bin.view_is
    (at.0, at.1, ap (λ l. record was { sections = l }) (list_is g after at))

pub push_pieces-requires-2 : goal.push_pieces-requires-2
push_pieces-requires-2 g c =
    let first = c.pieces_round-first.result.0 in
    omega (
      arith,
      ap length c.push_pieces.ensures.items,
      length-append c.remove-section.new.self.items (filter has_cells first),
      length-filter has_cells first,
      count_by-le-length has_cells first,
      c.pieces_round-first.ensures.three,
      c.in_ok-reserve.ensures.ok,
      c.in_ok-reserve.ensures.len,
      c.remove-section.ensures.len,
      c.remove-section.ensures.capacity,
      c.push_pieces.ensures.capacity,
      c.push_pieces.new.sections.ok.0,
      c.remove-section.new.self.ok.0,
    )
