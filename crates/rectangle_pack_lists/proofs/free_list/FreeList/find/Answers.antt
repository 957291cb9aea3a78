use Rattle.rectangle_pack_sections.proofs.Std.{◌≡◌, ◌<◌, ◌+◌, ◌-◌, ◌∙◌, ℕ, List, length, Option, Some, map, All, AllWithin, HoldsAt, ap, sym}
use Rattle.rectangle_pack_sections.specs.Boxes.{Cuboid, Size, Holds}
use Rattle.rectangle_pack_lists.specs.private.FreeLists.{AtWork, places_in}
use Rattle.rectangle_pack_lists.specs.private.Places.{IsLastHolding, NoneHolds}
use Rattle.rectangle_pack_lists.proofs.lemmas.trial.Plain.{IsLastHolding-plain, NoneHolds-plain}
use Rattle.rectangle_pack_lists.proofs.free_list.FreeList.find.Goals as goal

module _ (read sections : List Cuboid) (places : List (Option Cuboid)) (long : ℕ) (size : Size) (same : read ≡ sections)
    (are : map (λ s. Some s) sections ≡ places) (counted : long ≡ length sections) where
  found : (i : ℕ) → i < length read → HoldsAt (λ s. Holds s size) read i → AllWithin (λ s. ¬ Holds s size) read (i + 1) (length read)
      → IsLastHolding places size i (long - i)
  found i within held newest = rw (← are, counted, ← same) (IsLastHolding-plain read size i within held newest)

  none_found : All (λ s. ¬ Holds s size) read → NoneHolds places size long
  none_found none = rw (← are, counted, ← same) (NoneHolds-plain read size none)

pub returns-in-Some : goal.returns-in-Some
returns-in-Some g c =
    let (within, held, newest) = c.in-Some.ensures.some in
    found _ c.in-Plain.sections.items _ _ c.args.member.now c.as_slice.ensures.value
    (sym (ap places_in c.in-Plain.is) ∙ ap (λ (l : AtWork). l.places) c.self.view_is)
    (c.len.ensures ∙ c.in-Plain.sections.ok.0) c.in-Some.place within held newest

pub returns-in-None : goal.returns-in-None
returns-in-None g c =
    none_found _ c.in-Plain.sections.items _ _ c.args.member.now c.as_slice.ensures.value
    (sym (ap places_in c.in-Plain.is) ∙ ap (λ (l : AtWork). l.places) c.self.view_is)
    (c.len-in-None.ensures ∙ c.in-Plain.sections.ok.0) c.in-None.ensures.none
