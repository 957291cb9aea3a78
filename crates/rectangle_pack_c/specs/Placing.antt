-- A box that is placed where it fits best, in a session by its handle.
use Rattle.std.specs.Prelude.{◌≡◌, ℕ, ◌++◌, [], ◌∷◌, Option, Ok, Err}
use Rattle.std.specs.Ordering.{nat_cmp}
use Rattle.rectangle_pack_sections.specs.declared.box_size_heuristics.named.Heuristic.{Heuristic}
use Rattle.rectangle_pack.specs.declared.session.command.Reply.{Reply}
use Rattle.rectangle_pack.specs.declared.session.command.Reply.TheVariants.{Done, Packed, Refused}
use Rattle.rectangle_pack.specs.Heuristics.{named_answers}
use Rattle.rectangle_pack.specs.PlacingBest.{PlacesBest}
use Rattle.rectangle_pack.specs.Session.{State}
use Rattle.rectangle_pack_c.specs.declared.RpBox.{RpBox}
use Rattle.rectangle_pack_c.specs.declared.session.RpOutstanding.{RpOutstanding}
use Rattle.rectangle_pack_c.specs.Arguments.{box_size}
use Rattle.rectangle_pack_c.specs.Heuristics.{heuristic_number}
use Rattle.rectangle_pack_c.specs.Sessions.{record_of}

-- the box, under the id 0, is placed in the named bin, or in any, as `PlacesBest` says it with this heuristic and
-- `contains_smallest_box`. The placement stands last among the outstanding ones: its number, its bin and its corner are
-- those of `place`
-- Example: a box 4x10x1 is placed in a new bin 7, 10x10x1: number 0, bin 7 and the corner (0,0,0) are written
pub record IsPlacedBest (named : Option ℕ) (b : RpBox) (heuristic : Heuristic) (place : RpOutstanding) (old new : State ℕ ℕ) : Type 0 where
  pub placed : PlacesBest nat_cmp (named_answers heuristic) named 0 (box_size b) old (Ok place.number) new
  pub written : new.outstanding ≡ old.outstanding ++ record_of 0 b place ∷ []

-- the box is placed, or is refused, with the heuristic of this number. Placed: what is written is where it stands
-- (`IsPlacedBest`). Refused, as `PlacesBest` says it: nothing is written. `Packed` does not come
abbrev pub PlacesBox : (named : Option ℕ) → RpBox → (number : ℕ) → (old_place new_place : RpOutstanding) → State ℕ ℕ → Reply → State ℕ ℕ → Type 0
PlacesBox named b number old_place new_place old Done new =
    (h : Heuristic) × (heuristic_number h ≡ number) × IsPlacedBest named b h new_place old new
PlacesBox named b number old_place new_place old (Refused error) new =
    (h : Heuristic) × (heuristic_number h ≡ number)
    × PlacesBest nat_cmp (named_answers h) named 0 (box_size b) old (Err error) new × (new_place ≡ old_place)
PlacesBox named b number old_place new_place old (Packed numbers) new = ⊥
