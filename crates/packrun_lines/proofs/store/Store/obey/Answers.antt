use Rattle.std.proofs.Common.{ap, ◌∙◌}
use Rattle.std.specs.Fmt.{decimal}
use Rattle.rectangle_pack.specs.declared.grouped_rects_to_place.Group.TheVariants.{Grouped}
use Rattle.rectangle_pack.specs.Groups.{Excludes}
use Rattle.rectangle_pack.specs.Joining.{IsJoined, IsSwept}
use Rattle.rectangle_pack.specs.Session.{AddsBin, Releases, Coalesces}
use Rattle.packrun_lines.specs.Answers.{size_of, groups_of}
use Rattle.packrun_lines.specs.Requests as asks
use Rattle.packrun_lines.specs.Store.{name_cmp, group_order, ChangesSession, ChangesBoxes, TakesBox}
use Rattle.packrun_lines.specs.private.Commands.{words_left}
use Rattle.packrun_lines.proofs.lemmas.Obeyed.{IsObeyed-replied, IsObeyed-packed, replied}
use Rattle.packrun_lines.proofs.store.Store.obey.Goals as goal

pub returns-in-Bin : goal.returns-in-Bin
returns-in-Bin g c =
    let changes = ChangesSession (AddsBin name_cmp c.in-Bin.name.now (size_of c.in-Bin.size)) in
    rw c.in-Bin.is
    (IsObeyed-replied (asks.Bin c.in-Bin.name.now c.in-Bin.size) _ _ _ _ _ changes c.add_bin.result _ _ c.as_bytes.ensures.value
    (λ text h. h) (λ text is. replied changes _ _ _ _ text c.add_bin.ensures.added is) c.report.ensures)

pub returns-in-Rect : goal.returns-in-Rect
returns-in-Rect g c =
    let changes = ChangesBoxes (TakesBox c.in-Rect.id.now (size_of c.in-Rect.size) (groups_of (words_left c.in-Rect.groups))) in
    rw c.in-Rect.is
    (IsObeyed-replied (asks.Rect c.in-Rect.id.now c.in-Rect.size (words_left c.in-Rect.groups)) _ _ _ _ _ changes c.push_rect.result _ _ c.as_bytes-in-Rect.ensures.value
    (λ text h. h) (λ text is. c.push_rect.ensures.pushed) c.report-in-Rect.ensures)

pub returns-in-Exclude : goal.returns-in-Exclude
returns-in-Exclude g c =
    let changes = ChangesBoxes (λ before after. Excludes group_order before after (Grouped c.in-Exclude.one.now) (Grouped c.in-Exclude.other.now)) in
    rw c.in-Exclude.is
    (IsObeyed-replied (asks.Exclude c.in-Exclude.one.now c.in-Exclude.other.now) _ _ _ _ _ changes c.exclude.result _ _ c.as_bytes-in-Exclude.ensures.value
    (λ text h. h) (λ text is. c.exclude.ensures.excluded) c.report-in-Exclude.ensures)

pub returns-in-Release : goal.returns-in-Release
returns-in-Release g c =
    let changes = ChangesSession (Releases name_cmp c.in-Release.number) in
    rw c.in-Release.is
    (IsObeyed-replied (asks.Release c.in-Release.number) _ _ _ _ _ changes c.release.result _ _ (c.as_bytes-in-Release.ensures ∙ c.new-digits.ensures ∙ ap decimal c.from.ensures)
    (λ text h. h) (λ text is. c.release.ensures.released) c.report-in-Release.ensures)

pub returns-in-Coalesce : goal.returns-in-Coalesce
returns-in-Coalesce g c =
    let changes = ChangesSession (Coalesces name_cmp (IsJoined c.in-Coalesce.idx c.in-Coalesce.range.start c.in-Coalesce.range.end) c.in-Coalesce.name.now) in
    rw c.in-Coalesce.is
    (IsObeyed-replied (asks.Coalesce c.in-Coalesce.name.now c.in-Coalesce.idx c.in-Coalesce.range.start c.in-Coalesce.range.end) _ _ _ _ _ changes c.coalesce.result _ _ c.as_bytes-in-Coalesce.ensures.value
    (λ text h. h) (λ text is. replied changes _ _ _ _ text c.coalesce.ensures.joined is) c.report-in-Coalesce.ensures)

pub returns-in-Sweep : goal.returns-in-Sweep
returns-in-Sweep g c =
    let changes = ChangesSession (Coalesces name_cmp IsSwept c.in-Sweep.name.now) in
    rw c.in-Sweep.is
    (IsObeyed-replied (asks.Sweep c.in-Sweep.name.now) _ _ _ _ _ changes c.sweep.result _ _ c.as_bytes-in-Sweep.ensures.value
    (λ text h. h) (λ text is. replied changes _ _ _ _ text c.sweep.ensures.swept is) c.report-in-Sweep.ensures)

pub returns-in-Pack : goal.returns-in-Pack
returns-in-Pack g c = rw c.in-Pack.is (IsObeyed-packed _ _ _ _ _ c.pack.ensures.packed)
