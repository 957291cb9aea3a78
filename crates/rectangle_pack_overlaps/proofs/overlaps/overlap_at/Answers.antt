use Rattle.rectangle_pack_sections.proofs.Std.{All, take, subst}
use Rattle.rectangle_pack_overlaps.specs.Overlaps.{AreClear}
use Rattle.rectangle_pack_overlaps.proofs.lemmas.Piles.{IsFirstOverlap-at}
use Rattle.rectangle_pack_overlaps.proofs.overlaps.overlap_at.Goals as goal

pub returns-in_err-first : goal.returns-in_err-first
returns-in_err-first c =
    let found = c.in_ok-other.ensures.lookup in
    let earlier = take c.args.second c.args.boxes.now in
    absurd (c.requires.bad c.in_ok-other.other.now found.3.0 (subst (λ b. All (λ e. AreClear e b) earlier) found.1 c.in_err-first.ensures))

pub returns : goal.returns
returns c =
    let found = c.in_ok-other.ensures.lookup in
    IsFirstOverlap-at c.args.boxes.now c.args.second c.in_ok-first.first c.in_ok-other.other.now c.requires found.3.0 found.1
    c.in_ok-first.ensures.0 c.in_ok-first.ensures.1 c.in_ok-first.ensures.2
