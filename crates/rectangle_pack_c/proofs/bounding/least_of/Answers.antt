use Rattle.rectangle_pack_c.proofs.Std.{refl, ◌∙◌, ap, ℕ}
use Rattle.rectangle_pack_sections.proofs.lemmas.groups.GroupOrder.{same_order}
use Rattle.rectangle_pack.specs.Bins.{bins_of}
use Rattle.rectangle_pack.specs.Session.{State}
use Rattle.rectangle_pack_c.proofs.BoundingLemmas.{least_shown}
use Rattle.rectangle_pack_c.proofs.bounding.least_of.Goals as goal

pub returns : goal.returns
returns c =
    least_shown _ (same_order _ _ _ (λ a b. refl) (λ a b. refl) (λ a b. refl) (λ a b. refl)) c.args.bins.now c.args.collection.now c.args.turns.now
    c.in_ok-rects.rects c.in_ok-rects.ensures.collected c.in_ok-turned.turned.entries c.in_ok-turned.ensures (bins_of c.bins.result.now.entries)
    (c.bins.ensures.bins ∙ ap (λ (s : State ℕ ℕ). s.bins) c.in_ok-session.ensures) c.in_ok-least_bins.field-0 c.in_ok-least_bins.ensures.needed
    c.in_ok-least_bins.ensures.shown
