use Rattle.std.proofs.lemmas.List.{get_or_default}
use Rattle.rectangle_pack_sections.proofs.Std.{sym, ◌∙◌, ℕ, ◌≡◌, ◌≤◌, ◌<◌, ap, List, Bool, Option, None, Some, IsSome, length, get_or}
use Rattle.rectangle_pack_sections.specs.Boxes.{Cuboid}
use Rattle.rectangle_pack_lists.specs.private.Places.{Places, places_of}
use Rattle.rectangle_pack_lists.proofs.lemmas.trial.GapBits.{all-flags_of}
use Rattle.rectangle_pack_lists.proofs.lemmas.trial.Places.{counted, place-full}
use Rattle.rectangle_pack_lists.proofs.lemmas.util.Reads.{below-same}
use Rattle.rectangle_pack_lists.specs.Joining.{entry}
use Rattle.rectangle_pack_lists.proofs.gap_list.GapList.take.Goals as goal

-- what is read at a place that is no gap is its section
read_full : (s : List Cuboid) (g : List Bool) (all : List (Option Cuboid)) (i : ℕ) (x : Cuboid) → places_of s g ≡ all → length s ≤ length g
    → i < length all → IsSome (get_or all i None) → x ≡ get_or s i x → get_or all i None ≡ Some x
read_full s g all i x is long within full read =
    let inside : i < length s = below-same i (length all) (length s) within (counted s g all is) in
    rw is at (place-full s g i x None long inside (rw is full) read)

pub index-section-requires : goal.index-section-requires
index-section-requires g c =
    below-same _ _ _ c.requires.within (c.self.inside.sections.ok.0 ∙ counted _ _ _ (ap (λ (v : Places). v.all) c.self.view_is))

pub returns-clause-section : goal.returns-clause-section
returns-clause-section g c =
    read_full _ _ c.args.self.now.all c.args.place c.index-section.result.now (ap (λ (v : Places). v.all) c.self.view_is) (all-flags_of c.self.inside.sections.items c.self.inside.gaps.items c.self.invariant.0) c.requires.within
    c.requires.full c.index-section.ensures

pub returns-clause-entry : goal.returns-clause-entry
returns-clause-entry g c =
    let all = ap (λ (v : Places). v.all) c.self.view_is in
    ap (λ (v : Places). entry v.under c.args.place) (sym c.self.view_is)
    ∙ get_or_default c.self.inside.sections.items c.args.place _ c.index-section.result.now (below-same _ _ _ c.requires.within (counted _ _ _ all))
    ∙ sym c.index-section.ensures
