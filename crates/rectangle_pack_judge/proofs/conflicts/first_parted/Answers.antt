use Rattle.rectangle_pack_sections.proofs.Std.{◌∙◌, ◌<◌, ◌≡◌, subst, sym, ap, ℕ, Some, get_or}
use Rattle.rectangle_pack_judge.specs.declared.case.Claim.{Claim}
use Rattle.rectangle_pack_judge.specs.Judging.{StandsAlone, group_of}
use Rattle.rectangle_pack_judge.proofs.lemmas.Firsts.{IsFirst-parted, AreHomes-more, parted-more, group_of-below, one_bin-some, one_bin-none}
use Rattle.rectangle_pack_judge.proofs.conflicts.first_parted.Goals as goal
use Rattle.rectangle_pack_judge.proofs.conflicts.first_parted.Goals.{in_default-via-in-Some+else-bin-claim, in_default-via-in_default}

pub returns-in-Some : goal.returns-in-Some
returns-in-Some g c =
    let case = c.args.case.now in
    let claims = c.args.claims.now in
    let here = c.index-claims-i.result in
    let homes = c.loop-i.homes.items in
    let alone : StandsAlone case here = subst (StandsAlone case) (sym c.index-claims-i.is) (c.requires.alone c.loop-i.i here c.loop-i-test.true) in
    let at : c.index.result.now ≡ get_or homes (group_of case here) c.index.result.now = c.index.ensures ∙ ap (λ n. get_or homes n c.index.result.now) c.group_of-group.ensures in
    IsFirst-parted case claims c.args.groups c.loop-i.i here homes c.index.result.now c.in-Some.bin c.loop-i-test.true c.index-claims-i.is
    (group_of-below case claims c.args.groups here c.requires.groups alone) c.loop-i.invariant.homes at c.in-Some.is c.if-bin-claim.true c.loop-i.invariant.free

pub loop-i-preserved : goal.loop-i-preserved
loop-i-preserved g c =
    let case = c.args.case.now in
    let claims = c.args.claims.now in
    let here = c.index-claims-i.result in
    let homes = c.loop-i.homes.items in
    let v = c.index.result.now in
    let i = c.loop-i.i in
    let alone : StandsAlone case here = subst (StandsAlone case) (sym c.index-claims-i.is) (c.requires.alone i here c.loop-i-test.true) in
    let at : v ≡ get_or homes (group_of case here) v = c.index.ensures ∙ ap (λ n. get_or homes n v) c.group_of-group.ensures in
    let one_bin : (k : ℕ) (d : Claim) → k < i → group_of case (get_or claims k d) ≡ group_of case here → (get_or claims k d).bin ≡ here.bin =
    elim c.in_default.branch [
      | in_default-via-in-Some+else-bin-claim w ↦ one_bin-some case claims c.args.groups i here homes v c.loop-i.invariant.homes at (w.in-Some.is ∙ ap Some w.if-bin-claim.false)
      | in_default-via-in_default w ↦ one_bin-none case claims c.args.groups i here homes v c.loop-i.invariant.homes at w.in_default.is
    ] in
    record {
      homes = rw c.group_of-group.ensures (AreHomes-more case claims c.args.groups i here homes c.loop-i-test.true c.index-claims-i.is
          (group_of-below case claims c.args.groups here c.requires.groups alone) one_bin c.loop-i.invariant.homes);
      free = parted-more case claims i here c.loop-i-test.true c.index-claims-i.is one_bin c.loop-i.invariant.free;
    }
