use Rattle.rectangle_pack_sections.proofs.Std.{refl, on_ok_weaker}
use Rattle.rectangle_pack_sections.specs.Groups.{lists_of, Collection}
use Rattle.rectangle_pack_sections.proofs.lemmas.groups.GroupOrder.{groups_by_variants}
use Rattle.rectangle_pack_groups.proofs.grouped_rects_to_place.GroupedRectsToPlace.exclude.Goals as goal

pub add-requires-clause-clones_equal : goal.add-requires-clause-clones_equal
add-requires-clause-clones_equal g c = groups_by_variants _ c.requires.ids (λ a b h. absurd h) (λ a b h. absurd h) c.requires.group_ids

pub returns-clause-ok : goal.returns-clause-ok
returns-clause-ok g c = rw (← c.self.view_is) (on_ok_weaker c.add.result (λ p. record { sizes = refl; groups = refl; pairs = p }) c.add.ensures.ok)

pub returns-clause-again : goal.returns-clause-again
returns-clause-again g c =
    rw (← c.self.view_is) (λ there.
    let again = c.add.ensures.again there in (
      again.0,
      let from : Collection g.row.Id.Denot g.row.GroupId.Denot = record {
        sizes = c.self.inside.rects.entries;
        groups = lists_of c.self.inside.groups.entries;
        partners = c.self.inside.exclusions;
      } in
          rw again.1 refl,
    ))
