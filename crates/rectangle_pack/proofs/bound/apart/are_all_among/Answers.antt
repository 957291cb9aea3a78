use Rattle.rectangle_pack_sections.proofs.Std.{◌≡◌, ◌&&◌, refl, sym, ◌∙◌, true, false, not, is_at, and_comm, Bool}
use Rattle.rectangle_pack_packing.specs.private.Excluded.{are_in}
use Rattle.rectangle_pack_sections.proofs.lemmas.util.Maps.{is_at-back}
use Rattle.rectangle_pack.proofs.lemmas.bound.Sets.{fails_at}
use Rattle.rectangle_pack.proofs.bound.apart.are_all_among.Goals.{then-eq-via-then-eq, then-eq-via-else-eq+then-not-contains}
use Rattle.rectangle_pack.proofs.bound.apart.are_all_among.Goals as goal

pub returns-then-eq : goal.returns-then-eq
returns-then-eq g c =
    let cmp = g.K.Ord.cmp in
    let name = c.args.name.now in
    let other = c.other-item.result in
    let p : g.row.K.Denot → Bool = λ x. not (is_at (cmp name) x) && are_in cmp c.args.partners.now.keys x in
    let fails : p other.now ≡ false = elim c.then-eq.branch [
      | then-eq-via-then-eq w ↦
          let same : is_at (cmp name) other.now ≡ true =
          is_at-back g.met.K.Ord.total name other.now ∙ sym (g.met.K.Ord.matches_eq _ _) ∙ sym c.eq.ensures ∙ w.if-eq.true in
          rw same refl
      | then-eq-via-else-eq+then-not-contains w ↦
          let none : are_in cmp c.args.partners.now.keys other.now ≡ false = sym w.contains.ensures ∙ w.if-not-contains.true in
          rw none (and_comm (not (is_at (cmp name) other.now)) false)
    ] in
    sym (fails_at p c.args.taken.now c.loop-other.other-index other c.loop-other-test.true c.other-item.is fails)
