use Rattle.rectangle_pack_sections.proofs.Std.{[], ◌∷◌, refl, ◌∙◌, IsTotalOrder}
use Rattle.rectangle_pack_sections.proofs.lemmas.groups.GroupOrder.{groups_total}
use Rattle.rectangle_pack_packing.specs.Packing.{at_start}
use Rattle.rectangle_pack_packing.specs.private.ToldOnItsWay.{collection_of}
use Rattle.rectangle_pack_packing.proofs.lemmas.packing.StepsMade.{AreStepsDone-turn, ToldRefused-at, IsAt-begun, IsAt-more, step-done, step-faulty}
use Rattle.rectangle_pack_packing.proofs.pack.told.telling.make_all.Invariants.{group_cmp}
use Rattle.rectangle_pack_packing.proofs.pack.told.telling.make_all.Given.{Over}
use Rattle.rectangle_pack_packing.proofs.pack.told.telling.make_all.Goals as goal

-- the order of groups is total
total : (g : Over) → IsTotalOrder (group_cmp g)
total g =
    groups_total _ g.Id.Ord.cmp g.GroupId.Ord.cmp g.met.Id.Ord.total g.met.GroupId.Ord.total (λ a b. refl) (λ a b. refl) (λ a b. refl) (λ a b. refl)

pub loop-index-init : goal.loop-index-init
loop-index-init g c = (
  [],
  (c.requires.placements, refl),
  IsAt-begun (group_cmp g) g.Id.Ord.cmp g.B.Ord.cmp (collection_of c.args.telling.now) (total g) c.args.telling.now refl c.requires,
  refl,
)

pub make-requires : goal.make-requires
make-requires g c = c.loop-index.invariant.2.kept

pub loop-index-preserved : goal.loop-index-preserved
loop-index-preserved g c =
    let inv = c.loop-index.invariant in
    let step = c.index-steps-index.result in
    let all = collection_of c.args.telling.now in
    let made = rw c.in_default.is at c.in_ok-fault.ensures.made in
    let same = c.in_ok-fault.ensures.same in (
      (step.group, step.bin) ∷ inv.0,
      AreStepsDone-turn (group_cmp g) g.Id.Ord.cmp g.B.Ord.cmp all c.args.steps.now c.loop-index.index step (at_start c.args.telling.now.bins.now)
          (record { bins = c.loop-index.telling.bins.now; homes = inv.0 }) c.make.new.self.bins.now c.loop-index.telling.placements made.1.added
          c.make.new.self.placements c.loop-index-test.true c.index-steps-index.is made.1.placements inv.1
          (step-done (group_cmp g) g.Id.Ord.cmp g.B.Ord.cmp all step c.loop-index.telling c.make.new.self inv.0 inv.2 made.0 made.1),
      IsAt-more (group_cmp g) g.Id.Ord.cmp g.B.Ord.cmp all (total g) step c.loop-index.telling c.make.new.self inv.0 inv.2 same made.1,
      same.start ∙ inv.3,
    )

pub returns-in-Some-clause-made : goal.returns-in-Some-clause-made
returns-in-Some-clause-made g c =
    let inv = c.loop-index.invariant in
    let step = c.index-steps-index.result in
    let all = collection_of c.args.telling.now in
    ToldRefused-at (group_cmp g) g.Id.Ord.cmp g.B.Ord.cmp all c.args.steps.now c.loop-index.index step c.args.telling.now.bins.now
    c.loop-index.telling.placements (record { bins = c.loop-index.telling.bins.now; homes = inv.0 }) c.in-Some.fault c.loop-index-test.true
    c.index-steps-index.is inv.1
    (step-faulty (group_cmp g) g.Id.Ord.cmp g.B.Ord.cmp all step c.loop-index.telling inv.0 c.in-Some.fault inv.2
    (rw c.in-Some.is at c.in_ok-fault.ensures.made))
