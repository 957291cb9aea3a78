-- What fits with one heuristic, as a session keeps it.
use Rattle.std.specs.Prelude.{◌≡◌, Result, Ok, Err}
use Rattle.std.specs.declared.cmp.Ordering.{Ordering}
use Rattle.rectangle_pack_sections.specs.declared.box_size_heuristics.named.Heuristic.{Heuristic}
use Rattle.rectangle_pack_sections.specs.declared.group.Group.{Group}
use Rattle.rectangle_pack_sections.specs.Groups.{Collection}
use Rattle.rectangle_pack_packing.specs.declared.answer.Fitted.{Fitted}
use Rattle.rectangle_pack_packing.specs.Best.{named_rules}
use Rattle.rectangle_pack.specs.declared.session.command.Packed.{Packed}
use Rattle.rectangle_pack.specs.declared.session.command.SessionError.{SessionError}
use Rattle.rectangle_pack.specs.Session.{State}
use Rattle.rectangle_pack.specs.SessionFitting.{PacksFitting}

module _ {Id B G : Type 0} (group_cmp : Group G Id → Group G Id → Ordering) (cmp : Id → Id → Ordering) (bin_cmp : B → B → Ordering) (heuristic : Heuristic) where
  -- what a session makes of a packing of what fits with this heuristic (`PacksFitting`), which the answer names
  abbrev pub PacksFittingWith : {A : Type 0} → Collection Id G → State Id B → Result (Heuristic × Fitted Packed (Group G Id) A) SessionError → State Id B → Type 0
  PacksFittingWith all old (Ok (named, fitted)) new =
      (named ≡ heuristic) × PacksFitting group_cmp (named_rules cmp bin_cmp heuristic) all old (Ok fitted) new
  PacksFittingWith {A} all old (Err error) new = PacksFitting group_cmp (named_rules cmp bin_cmp heuristic) {A = A} all old (Err error) new
