use Rattle.rectangle_pack_sections.proofs.Std.{rules, IsTrue}
use Rattle.rectangle_pack_sections.proofs.lemmas.cuts.CoverVolumes.{CoverBin-from_volume, CoverBin-volume}
use Rattle.rectangle_pack_covers.proofs.covers.first_fault_of_sound.Goals.{else-from_cuts-via-then-from_cuts+in_ok-are_from_cuts+else-not-branch, else-from_cuts-via-else-from_cuts}
use Rattle.rectangle_pack_covers.proofs.covers.first_fault_of_sound.Goals as goal

pub returns-then-not-fill : goal.returns-then-not-fill
returns-then-not-fill g c = (
  c.requires,
  λ cover. let full : IsTrue c.fill.result = c.fill.ensures.1 (CoverBin-volume c.args.boxes.now c.args.size cover) in absurd (search rules),
)

-- boxes that fill the bin cover it
pub are_from_cuts-requires : goal.are_from_cuts-requires
are_from_cuts-requires g c = CoverBin-from_volume c.args.boxes.now c.args.size c.requires.inside c.requires.apart (c.fill.ensures.0 (search rules))

pub returns-then-not-branch : goal.returns-then-not-branch
returns-then-not-branch g c = (
  CoverBin-from_volume c.args.boxes.now c.args.size c.requires.inside c.requires.apart (c.fill.ensures.0 (search rules)),
  search rules,
  search rules,
)

pub returns : goal.returns
returns g c = (
  CoverBin-from_volume c.args.boxes.now c.args.size c.requires.inside c.requires.apart (c.fill.ensures.0 (search rules)),
  elim c.else-from_cuts.branch [
    | else-from_cuts-via-then-from_cuts+in_ok-are_from_cuts+else-not-branch w ↦ λ asked. search rules
    | else-from_cuts-via-else-from_cuts w ↦ λ asked. search rules
  ],
)
