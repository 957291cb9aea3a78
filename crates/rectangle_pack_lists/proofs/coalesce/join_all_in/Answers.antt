use Rattle.rectangle_pack_sections.proofs.Std.{List, ◌≡◌, ◌∙◌, length, All, All-filter, subst, sym}
use Rattle.rectangle_pack_sections.proofs.Std.{ap, true}
use Rattle.std.proofs.lemmas.Bool.{OnTrue_at}
use Rattle.rectangle_pack_sections.specs.Boxes.{Cuboid, FitsU32, has_cells}
use Rattle.rectangle_pack_sections.proofs.lemmas.cuts.Counting.{filter_all}
use Rattle.rectangle_pack_lists.specs.Joining.{IsSwept}
use Rattle.rectangle_pack_lists.specs.private.Corners.{full, AreNamed}
use Rattle.rectangle_pack_lists.specs.declared.corners.Corner.{Corner}
use Rattle.rectangle_pack_lists.specs.declared.corners.Corner.TheVariants.{Near}
use Rattle.rectangle_pack_lists.specs.declared.corners.Name.{Name}
use Rattle.rectangle_pack_lists.proofs.lemmas.util.Reads.{written_back}
use Rattle.rectangle_pack_lists.proofs.coalesce.join_all_in.Goals as goal

-- what is named in one view of a list is so in another
named_same : (corner : Corner) (old one other : List Cuboid) (names : List Name) → one ≡ old
    → other ≡ old
    → AreNamed corner one names → AreNamed corner other names
named_same corner old one other names same alike named =
    subst (λ s. AreNamed corner s names) (same ∙ sym alike) named

pub returns : goal.returns
returns g c =
    let old = c.args.sections.now.items in
    let slots = c.join_slots.new.sections in
    let closed : c.close_up.new.sections.items ≡ full slots =
    c.close_up.ensures ∙ ap full (written_back old slots c.args.sections.now.len (c.join_slots.auto.sections ∙ ap length c.as_mut_slice.ensures.value) c.args.sections.now.ok.0) in
    let all : All (λ (s : Cuboid). has_cells s ≡ true) old = rw c.as_slice.ensures.value at (OnTrue_at c.if-not-have_cells.false c.have_cells.ensures) in
    let same : full c.as_mut_slice.result.now ≡ old = ap full c.as_mut_slice.ensures.value ∙ filter_all has_cells old all in
    record {
      swept = subst (IsSwept old) (sym closed) (subst (λ l. IsSwept l (full slots)) same c.join_slots.ensures.swept);
      fit = subst (All FitsU32) (sym closed) (All-filter has_cells FitsU32 slots c.join_slots.ensures.fit);
    }

pub join_slots-requires-clause-near : goal.join_slots-requires-clause-near
join_slots-requires-clause-near g c =
    named_same Near _ _ _ _ c.as_slice-else-not-have_cells.ensures.value
    c.as_mut_slice.ensures.value
    (OnTrue_at c.if-not-name_slots.false c.name_slots.ensures.near)
