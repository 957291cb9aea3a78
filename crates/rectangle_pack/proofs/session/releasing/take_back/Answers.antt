use Rattle.rectangle_pack_sections.proofs.Std.{◌≡◌, ◌-◌, rules, arith, sym, ◌∙◌, ap, true, length}
use Rattle.rectangle_pack_sections.specs.Boxes.{has_cells}
use Rattle.rectangle_pack.proofs.lemmas.session.Releasing.{bin-there, some-section, taken-back}
use Rattle.rectangle_pack.proofs.session.releasing.take_back.Goals as goal

pub overflow_sub-last : goal.overflow_sub-last
overflow_sub-last g c =
    let section : c.section_at.result ≡ c.args.location = c.section_at.ensures in
    let full : has_cells c.args.location ≡ true = search rules in
    let long : c.len-last.result ≡ length c.in-Some.bin.now.bin.sections =
    c.len-last.ensures ∙ c.available_bin_sections.result.now.ok.0 ∙ ap length c.available_bin_sections.ensures.items in
    let some = some-section g.B.Ord.cmp c.requires.given.0 c.args.id.now c.args.location c.args.bins.now.entries full c.requires.given.1 c.in-Some.bin.now
    (sym c.in-Some.ensures.value) in
    omega (arith, long, some)

pub remove_filled_section-requires : goal.remove_filled_section-requires
remove_filled_section-requires g c =
    let section : c.section_at.result ≡ c.args.location = c.section_at.ensures in
    let full : has_cells c.args.location ≡ true = search rules in
    let long : c.len-last.result ≡ length c.in-Some.bin.now.bin.sections =
    c.len-last.ensures ∙ c.available_bin_sections.result.now.ok.0 ∙ ap length c.available_bin_sections.ensures.items in
    let some = some-section g.B.Ord.cmp c.requires.given.0 c.args.id.now c.args.location c.args.bins.now.entries full c.requires.given.1 c.in-Some.bin.now
    (sym c.in-Some.ensures.value) in
    omega (arith, long, some)

pub unreachable-requires : goal.unreachable-requires
unreachable-requires g c =
    let section : c.section_at.result ≡ c.args.location = c.section_at.ensures in
    let full : has_cells c.args.location ≡ true = search rules in
    bin-there g.B.Ord.cmp c.requires.given.0 c.args.id.now c.args.location c.args.bins.now.entries full c.requires.given.1 (sym c.in-None.ensures.value)

pub returns : goal.returns
returns g c = λ before gives.
    let section : c.section_at.result ≡ c.args.location = c.section_at.ensures in
    let full : has_cells c.args.location ≡ true = search rules in
    let long : c.len-last.result ≡ length c.in-Some.bin.now.bin.sections =
    c.len-last.ensures ∙ c.available_bin_sections.result.now.ok.0 ∙ ap length c.available_bin_sections.ensures.items in
    let w = c.remove_filled_section.new.self in
    taken-back g.B.Ord.cmp before c.args.id.now c.args.location c.args.bins.now.entries full gives _ c.in-Some.bin.now w (c.len-last.result - 1)
    (sym c.in-Some.ensures.value) (c.get_mut.follows.holds w).0 (ap (λ n. n - 1) long) c.remove_filled_section.ensures
