use Rattle.rectangle_pack_sections.proofs.Std.{◌≡◌, ◌+◌, ◌∷◌, ◌++◌, [], List, ap, subst, sym, ◌∙◌, true, false, cond, map, map_push, keys_of, take, take_more, Bor, Bool}
use Rattle.rectangle_pack.specs.Needed.{joins, AreTakenApart}
use Rattle.rectangle_pack.proofs.lemmas.bound.Taken.{taken-more}
use Rattle.rectangle_pack.proofs.bound.apart.take_joining.Goals.{then-branch+in_ok-push-2, else-branch}
use Rattle.rectangle_pack.proofs.bound.apart.take_joining.Goals as goal

pub loop-name-preserved : goal.loop-name-preserved
loop-name-preserved g c =
    let K = g.row.K.Denot in
    let cmp = g.K.Ord.cmp in
    let partners = c.args.exclusions.now in
    let names = keys_of c.args.groups.now.entries in
    let first = c.args.first.now in
    let now : Bor K → K = λ r. r.now in
    let items = c.partners-name-items.result.now in
    let i = c.loop-name.name-index in
    let name = c.name-item.result in
    let (others, taken, is) = c.loop-name.invariant in
    let test : joins cmp partners names (first ∷ others) name ≡ c.in_ok-joins.field-0 =
    sym (c.in_ok-joins.ensures ∙ ap (λ (l : List K). joins cmp partners names l name) (ap (map now) c.as_slice.ensures.value ∙ is)) in
    let one_more : take i items ++ name ∷ [] ≡ take (i + 1) items =
    ap (λ (x : K). take i items ++ x ∷ []) c.name-item.is ∙ sym (take_more items i name c.loop-name-test.true) in
    let more : (b : Bool) → c.in_ok-joins.field-0 ≡ b → AreTakenApart cmp partners names (first ∷ []) (take (i + 1) items) (cond b (others ++ name ∷ []) others) =
    λ b e. subst (λ (l : List K). AreTakenApart cmp partners names (first ∷ []) l (cond b (others ++ name ∷ []) others)) one_more
    (taken-more cmp partners names (first ∷ []) (take i items) others name b taken (test ∙ e)) in
    elim c.if-branch.branch [
      | then-branch+in_ok-push-2 w ↦ (
        others ++ name ∷ [],
        more true w.if-branch.true,
        ap (λ t. map now t.items) w.taken-is ∙ ap (map now) w.in_ok-push-2.ensures.items ∙ map_push now c.loop-name.taken.items _
            ∙ ap (λ (l : List K). l ++ name ∷ []) is,
      )
      | else-branch w ↦ (others, more false w.if-branch.false, ap (λ t. map now t.items) w.taken-is ∙ is)
    ]
