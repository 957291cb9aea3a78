use Rattle.rectangle_pack_sections.proofs.Std.{◌≡◌, ◌&&◌, refl, sym, ◌∙◌, ap, true, false, not, map, is_at, keys_of, list_any, is_some-lookup, fun_ext, Bool, Bor}
use Rattle.std.specs.List.{list_all}
use Rattle.rectangle_pack.proofs.bound.apart.joins.Goals as goal

pub returns-then-not-contains_key : goal.returns-then-not-contains_key
returns-then-not-contains_key g c =
    let test = is_at (g.K.Ord.cmp c.args.name.now) in
    let none : list_any test (keys_of c.args.groups.now.entries) ≡ false =
    sym (is_some-lookup test c.args.groups.now.entries) ∙ sym c.contains_key.ensures ∙ c.if-not-contains_key.true in
    rw none refl

pub returns : goal.returns
returns g c =
    let test = is_at (g.K.Ord.cmp c.args.name.now) in
    let names = map (λ (other : Bor g.row.K.Denot). other.now) c.args.taken.now in
    let some : list_any test (keys_of c.args.groups.now.entries) ≡ true =
    sym (is_some-lookup test c.args.groups.now.entries) ∙ sym c.contains_key.ensures ∙ c.if-not-contains_key.false in
    rw some
    (c.are_all_among.ensures
    ∙ ap (λ (p : g.row.K.Denot → Bool). list_all p names) (fun_ext (λ other. ap (λ t. not (test other) && t) (c.in_ok-partners.ensures.partners other))))
