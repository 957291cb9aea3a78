-- What a session does keeps its promise.
use Rattle.rectangle_pack_sections.proofs.Std.{◌≡◌, ℕ, ◌∙◌, arith, subst, map, Ordering, IsTotalOrder, IsPermutation-map}
use Rattle.rectangle_pack_sections.specs.declared.group.Group.{Group}
use Rattle.rectangle_pack.specs.declared.session.command.Command.{Command}
use Rattle.rectangle_pack.specs.declared.session.command.Reply.{Reply}
use Rattle.rectangle_pack.specs.declared.session.command.Reply.TheVariants.{Packed, Refused}
use Rattle.rectangle_pack.specs.declared.session.command.Packed.{Packed as PackedNumbers}
use Rattle.rectangle_pack.specs.declared.session.command.SessionError.TheVariants.{NotEnoughBinSpace}
use Rattle.rectangle_pack_sections.specs.Groups.{Collection}
use Rattle.rectangle_pack_packing.specs.Packing.{Rules, AreKeptApart, at_start}
use Rattle.rectangle_pack.specs.Promise.{PlacesWhole, PacksAsPromised, KeepsPromise}
use Rattle.rectangle_pack.specs.Session.{State, IsSession, IsKept, Packs, IsTransition}
use Rattle.rectangle_pack_packing.proofs.lemmas.packing.Excluded.{placed_apart, apart-reverse}
use Rattle.rectangle_pack_packing.proofs.lemmas.packing.Orders.{names-zip}
use Rattle.rectangle_pack_packing.proofs.lemmas.packing.Refused.{taken_nowhere}
use Rattle.rectangle_pack.proofs.lemmas.session.Transitions.{kept-transition}
use Rattle.rectangle_pack_packing.proofs.lemmas.packing.Whole.{all_whole}

module _ {Id B G : Type 0} (group_cmp : Group G Id → Group G Id → Ordering) (rules : Rules Id B) (o : IsTotalOrder rules.bin_cmp) where
  placed-whole : (all : Collection Id G) (old new : State Id B) (numbers : PackedNumbers) → IsKept group_cmp rules all old numbers new
      → PlacesWhole group_cmp rules all old new
  placed-whole all old new numbers kept =
      let done = kept.done in
      let whole = all_whole rules group_cmp all.sizes all.groups _ done.group_order _ done.groups (at_start old.bins) kept.placements _
      done.tests done.listed done.placed in
      let names : map (λ h. h.0) whole.0.added ≡ map (λ e. e.1) done.group_order = whole.0.names ∙ whole.1 in
      let order = done.by_groups in
      let apart = placed_apart group_cmp rules all.partners _ done.groups (at_start old.bins) kept.placements _ done.tests done.placed
      (λ i j d lt within. absurd (omega arith)) in
      record {
        placements = kept.placements;
        outstanding = kept.outstanding;
        homes = whole.0.added;
        groups = rw (names, ← names-zip (λ (e : ℕ × Group G Id). e.1) _ all.groups order.unsorted order.each)
            (IsPermutation-map (λ e. e.1) order.unsorted done.group_order order.permutation);
        whole = whole.0.whole;
        apart = subst (λ homes. AreKeptApart group_cmp rules.bin_cmp all.partners homes) whole.0.homes
            (apart-reverse group_cmp rules all.partners o done.homes apart);
      }

  -- what a packing answers is as promised
  pub packs-promised : (all : Collection Id G) (old : State Id B) (reply : Reply) (new : State Id B) → Packs group_cmp rules all old reply new
      → PacksAsPromised group_cmp rules all old reply new
  packs-promised all old (Packed numbers) new t = placed-whole all old new numbers t.1
  packs-promised all old (Refused NotEnoughBinSpace) new (fits, left, refused, same) =
      record { left = left; refused = refused; each = taken_nowhere group_cmp rules o all old.bins left refused }
  packs-promised all old reply new t = tt

  -- a transition from a session keeps the promise
  pub KeepsPromise-transition : {A : Type 0} (command : Command Id B G A) (old : State Id B) (reply : Reply) (new : State Id B) → IsSession rules.bin_cmp old
      → IsTransition group_cmp rules command old reply new
      → KeepsPromise group_cmp rules command old reply new
  KeepsPromise-transition command old reply new h t = record {
    done = t;
    always = (kept-transition group_cmp rules o command old reply new t h).0;
    packs = λ all is. packs-promised all old reply new (rw is at t);
  }
