-- What a packing as it is told places: each group whole in the bin of its step, no group twice, and excluded ones apart.
use Rattle.rectangle_pack_sections.proofs.Std.{◌≡◌, suc, ◌+◌, List, [], ◌∷◌, ◌++◌, refl, sym, ◌∙◌, ap, subst, arith, append-nil, append_assoc, true, false, Bool, map}
use Rattle.rectangle_pack_sections.proofs.Std.{reverse, reverse-append, length, length-append, All, AllPairs, AllPairs-cons, All-nil, All-cons, All-weaker}
use Rattle.rectangle_pack_sections.proofs.Std.{Ordering, IsTotalOrder, is_at}
use Rattle.rectangle_pack_sections.specs.declared.group.Group.{Group}
use Rattle.rectangle_pack_sections.specs.Bins.{Bin}
use Rattle.rectangle_pack_sections.specs.Groups.{Collection}
use Rattle.rectangle_pack_packing.specs.declared.answer.Placement.{Placement}
use Rattle.rectangle_pack_packing.specs.declared.pack.told.Step.{Step}
use Rattle.rectangle_pack_packing.specs.Best.{named_rules}
use Rattle.rectangle_pack_packing.specs.Packing.{Stage, at_start, AreKeptApart, AreAllPlaced, excludes_by}
use Rattle.rectangle_pack_packing.specs.Placed.{ArePlacedWhole}
use Rattle.rectangle_pack_packing.specs.Told.{AreStepsDone, IsStepDone, WasNamed}
use Rattle.rectangle_pack_packing.specs.ToldLaws.{home_of}
use Rattle.rectangle_pack_packing.proofs.lemmas.packing.Excluded.{placed_apart, apart-reverse}
use Rattle.rectangle_pack_packing.proofs.lemmas.packing.Whole.{placed_in}

-- a list of one, parted at an element, has no other
pub only_one : {X : Type 0} (x : X) (before : List X) (here : X) (after : List X) → x ∷ [] ≡ before ++ here ∷ after → here ≡ x
only_one x [] here after is = cc
only_one x (y ∷ before) here after is = absurd (let long = ap length is in let e = length-append before (here ∷ after) in omega arith)

module _ {Id B G : Type 0} (group_cmp : Group G Id → Group G Id → Ordering) (cmp : Id → Id → Ordering) (bin_cmp : B → B → Ordering)
    (all : Collection Id G) where
  -- a step that is done is a packing of its group alone, by the rules of its heuristic
  pub alone : (step : Step Id G B) (old : Stage (Group G Id) B) (placements : List (Placement Id B)) (new : List (B × Bin))
      → (d : IsStepDone group_cmp cmp bin_cmp all step old placements new)
      → AreAllPlaced (named_rules cmp bin_cmp step.heuristic) (excludes_by group_cmp bin_cmp all.partners) (step.bin ∷ []) ((step.group, d.members) ∷ []) old
      placements (record { bins = new; homes = home_of step ∷ old.homes }) (d.tests + 0)
  alone step old placements new d =
      let p = d.placed in
      let here : p.here ≡ step.bin = only_one step.bin p.before p.here p.after p.order_is in
      let last : Stage (Group G Id) B = record { bins = new; homes = home_of step ∷ old.homes } in
      let same : last ≡ record { bins = new; homes = (step.group, p.here) ∷ old.homes } = ap (λ b. record { bins = new; homes = (step.group, b) ∷ old.homes }) (sym here) in
      (placements, new, d.tests, [], 0, p, (refl, same, refl), sym (append-nil placements), refl)

  -- the homes are those of the steps, in order
  pub homes_told : (steps : List (Step Id G B)) (old : Stage (Group G Id) B) (placements : List (Placement Id B)) (new : Stage (Group G Id) B)
      → AreStepsDone group_cmp cmp bin_cmp all steps old placements new → reverse new.homes ≡ reverse old.homes ++ map home_of steps
  homes_told [] old placements new h = ap (λ (s : Stage (Group G Id) B). reverse s.homes) h.1 ∙ sym (append-nil (reverse old.homes))
  homes_told (step ∷ steps) old placements new (first, next, later, done, rest, joined) =
      homes_told steps (record { bins = next; homes = home_of step ∷ old.homes }) later new rest
      ∙ ap (λ hs. hs ++ map home_of steps) (reverse-append (home_of step ∷ []) old.homes)
      ∙ append_assoc (reverse old.homes) (home_of step ∷ []) (map home_of steps)

  -- each group is placed whole, in the bin of its step
  pub told_whole : (steps : List (Step Id G B)) (old : Stage (Group G Id) B) (placements : List (Placement Id B)) (new : Stage (Group G Id) B)
      → AreStepsDone group_cmp cmp bin_cmp all steps old placements new
      → ArePlacedWhole cmp bin_cmp group_cmp all.sizes all.groups (map home_of steps) placements
  told_whole [] old placements new h = h.0
  told_whole (step ∷ steps) old placements new (first, next, later, done, rest, joined) =
      let p = done.placed in
      let here : p.here ≡ step.bin = only_one step.bin p.before p.here p.after p.order_is in (
        done.members.ids,
        first,
        later,
        done.known.ids,
        rw here at (placed_in (named_rules cmp bin_cmp step.heuristic) all.sizes _ (step.bin ∷ []) done.members old.bins first next done.tests p done.known.sizes),
        told_whole steps (record { bins = next; homes = home_of step ∷ old.homes }) later new rest,
        joined,
      )

  -- groups that are excluded are apart
  told_apart : (steps : List (Step Id G B)) (old : Stage (Group G Id) B) (placements : List (Placement Id B)) (new : Stage (Group G Id) B)
      → AreStepsDone group_cmp cmp bin_cmp all steps old placements new
      → AreKeptApart group_cmp bin_cmp all.partners old.homes → AreKeptApart group_cmp bin_cmp all.partners new.homes
  told_apart [] old placements new h was = subst (λ (s : Stage (Group G Id) B). AreKeptApart group_cmp bin_cmp all.partners s.homes) (sym h.1) was
  told_apart (step ∷ steps) old placements new (first, next, later, done, rest, joined) was =
      let stage : Stage (Group G Id) B = record { bins = next; homes = home_of step ∷ old.homes } in
      told_apart steps stage later new rest (placed_apart group_cmp (named_rules cmp bin_cmp step.heuristic) all.partners (step.bin ∷ [])
      ((step.group, done.members) ∷ []) old first stage (done.tests + 0) (alone step old first next done) was)

  pub apart_told : IsTotalOrder bin_cmp → (steps : List (Step Id G B)) (old : List (B × Bin)) (placements : List (Placement Id B)) (new : Stage (Group G Id) B)
      → AreStepsDone group_cmp cmp bin_cmp all steps (at_start old) placements new
      → AreKeptApart group_cmp bin_cmp all.partners (map home_of steps)
  apart_told o [] old placements new h = λ i j d lt within. absurd (omega arith)
  apart_told o (step ∷ steps) old placements new h =
      subst (λ homes. AreKeptApart group_cmp bin_cmp all.partners homes) (homes_told (step ∷ steps) (at_start old) placements new h)
      (apart-reverse group_cmp (named_rules cmp bin_cmp step.heuristic) all.partners o new.homes
      (told_apart (step ∷ steps) (at_start old) placements new h (λ i j d lt within. absurd (omega arith))))

  -- no step names a group that was named before
  never_named : (steps : List (Step Id G B)) (old : Stage (Group G Id) B) (placements : List (Placement Id B)) (new : Stage (Group G Id) B)
      → AreStepsDone group_cmp cmp bin_cmp all steps old placements new
      → All (λ s. ¬ WasNamed group_cmp cmp bin_cmp all s.group old.homes) steps
  never_named [] old placements new h = All-nil _
  never_named (step ∷ steps) old placements new (first, next, later, done, rest, joined) =
      let Fresh : List (Group G Id × B) → Step Id G B → Type 0 = λ homes s. ¬ WasNamed group_cmp cmp bin_cmp all s.group homes in
      All-cons (Fresh old.homes) step steps done.fresh
      (All-weaker (Fresh (home_of step ∷ old.homes)) (Fresh old.homes) (λ s fresh. λ (k, x, within, at, is). fresh (suc k, x, omega arith, at, is)) steps
      (never_named steps (record { bins = next; homes = home_of step ∷ old.homes }) later new rest))

  pub named_once : (steps : List (Step Id G B)) (old : Stage (Group G Id) B) (placements : List (Placement Id B)) (new : Stage (Group G Id) B)
      → AreStepsDone group_cmp cmp bin_cmp all steps old placements new
      → AllPairs (λ one later. is_at (group_cmp later.group) one.group ≡ false) steps
  named_once [] old placements new h = λ i j d lt within. absurd (omega arith)
  named_once (step ∷ steps) old placements new (first, next, later, done, rest, joined) =
      let stage : Stage (Group G Id) B = record { bins = next; homes = home_of step ∷ old.homes } in
      let Apart : Step Id G B → Step Id G B → Type 0 = λ one later. is_at (group_cmp later.group) one.group ≡ false in
      AllPairs-cons Apart step steps
      (All-weaker (λ s. ¬ WasNamed group_cmp cmp bin_cmp all s.group stage.homes) (Apart step)
      (λ s fresh. by s (is_at (group_cmp s.group) step.group) refl fresh) steps (never_named steps stage later new rest))
      (named_once steps stage later new rest)
    where
      by : (s : Step Id G B) (b : Bool) → is_at (group_cmp s.group) step.group ≡ b → ¬ WasNamed group_cmp cmp bin_cmp all s.group (home_of step ∷ old.homes) → b ≡ false
      by s false e fresh = refl
      by s true e fresh = absurd (fresh (0, home_of step, omega arith, refl, e))
