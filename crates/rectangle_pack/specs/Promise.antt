-- What a packing of a session promises, and a run of commands, whole.
use Rattle.std.specs.Prelude.{◌≡◌, ℕ, List, ◌++◌, ⊤, map, IsSome, Result, Ok, Err}
use Rattle.std.specs.declared.cmp.Ordering.{Ordering}
use Rattle.std.specs.declared.vec.Vec.{Vec}
use Rattle.std.specs.List.Sorted.{IsPermutation}
use Rattle.std.specs.Map.{lookup, keys_of}
use Rattle.std.specs.BTreeMap.{is_at}
use Rattle.rectangle_pack_sections.specs.declared.group.Group.{Group}
use Rattle.rectangle_pack_packing.specs.declared.answer.Placement.{Placement}
use Rattle.rectangle_pack.specs.declared.session.command.SessionError.TheVariants.{NotEnoughBinSpace}
use Rattle.rectangle_pack.specs.declared.session.command.Reply.{Reply}
use Rattle.rectangle_pack.specs.declared.session.command.Reply.TheVariants.{Packed, Refused}
use Rattle.rectangle_pack.specs.declared.session.command.Command.{Command}
use Rattle.rectangle_pack.specs.declared.session.command.Command.TheVariants.{Pack}
use Rattle.rectangle_pack_sections.specs.Bins.{Bin}
use Rattle.rectangle_pack_sections.specs.Groups.{Collection}
use Rattle.rectangle_pack_packing.specs.Packing.{Rules, DoesNotTake, PackingRefused, excludes_by, AreKeptApart}
use Rattle.rectangle_pack_packing.specs.Placed.{ArePlacedWhole}
use Rattle.rectangle_pack.specs.Session.{State, IsSession, numbered, IsTransition, IsRun}

module _ {Id B G : Type 0} (group_cmp : Group G Id → Group G Id → Ordering) (rules : Rules Id B) where
  -- the new placements place every entry of every group once, in its size, each group in one bin. Each group of the
  -- collection has one home, a bin; the placements are those of one group after another, all of a group in its home
  -- (`ArePlacedWhole`). Groups that are excluded have different homes (`AreKeptApart`). The placements stand behind the
  -- outstanding ones, under the next numbers
  -- Example: the box h 1x1x1 alone is packed into a bin 2x1x1: the one home is that bin, for Ungrouped(h), and the one
  -- placement is h at (0,0,0), under the next number
  pub record PlacesWhole (all : Collection Id G) (old new : State Id B) : Type 0 where
    pub placements : List (Placement Id B)
    pub outstanding : new.outstanding ≡ old.outstanding ++ numbered old.next placements
    pub homes : List (Group G Id × B)
    pub groups : IsPermutation (keys_of all.groups) (map (λ home. home.0) homes)
    pub whole : ArePlacedWhole rules.id_cmp rules.bin_cmp group_cmp all.sizes all.groups homes placements
    pub apart : AreKeptApart group_cmp rules.bin_cmp all.partners homes

  -- for some group, each bin is excluded or the group's trial gets stuck there, as the groups before it left that bin:
  -- with some answers that the closures may give, a packing into these bins is refused (`refused`), and no bin takes the
  -- group at which it stops (`each`, `DoesNotTake`)
  -- Example: a group g of 1x1x1 and 3x1x1, and the box h 1x1x1 alone, into a bin 2x1x1: g goes first, as its volume is
  -- greater, and is stuck at its second member
  pub record NoBinTakes (all : Collection Id G) (bins : List (B × Bin)) : Type 0 where
    pub left : List (B × Bin)
    pub refused : PackingRefused group_cmp rules all bins left
    pub each : (id : B) → IsSome (lookup (is_at (rules.bin_cmp id)) bins) → (tests : ℕ)
        × DoesNotTake rules (excludes_by group_cmp rules.bin_cmp all.partners refused.stops.homes refused.stops.next.0)
        left refused.stops.next.1 id tests

  -- of a packing: where the reply is `Packed`, `PlacesWhole`, and where it is `NotEnoughBinSpace`, `NoBinTakes`. Of
  -- other replies nothing is said here; which of them may come is said by `IsTransition`
  abbrev pub PacksAsPromised : Collection Id G → State Id B → Reply → State Id B → Type 0
  PacksAsPromised all old (Packed numbers) new = PlacesWhole all old new
  PacksAsPromised all old (Refused NotEnoughBinSpace) new = NoBinTakes all old.bins
  PacksAsPromised all old _ new = ⊤

  -- one command, with its reply and the states before and after it: it is a transition (`done`, `IsTransition`), what
  -- always holds of a session holds after it (`always`, `IsSession`), and a packing keeps what the headline says of it
  -- (`packs`, `PacksAsPromised`). In full: each bin cell lies in exactly one free section or outstanding placement,
  -- leaves of a straight-cut tree until that bin is coalesced; a packing that is kept places every group entry once, in
  -- its size, each group in one bin, and one is refused for space only where, for some group, each bin is excluded or
  -- its trial gets stuck there
  pub record KeepsPromise {A : Type 0} (command : Command Id B G A) (old : State Id B) (reply : Reply) (new : State Id B) : Type 0 where
    pub done : IsTransition group_cmp rules command old reply new
    pub always : IsSession rules.bin_cmp new
    pub packs : (all : Collection Id G) → command ≡ Pack all → PacksAsPromised all old reply new

  -- what `run` answers: replies of which there is a run (`IsRun`), each of whose commands keeps the promise
  -- (`KeepsPromise`); or an error, and the state is as it was
  abbrev pub IsRunAnswer : {A E : Type 0} → List (Command Id B G A) → State Id B → Result (Vec Reply A) E → State Id B → Type 0
  IsRunAnswer commands old (Ok replies) new = IsRun KeepsPromise commands old replies.items new
  IsRunAnswer commands old (Err error) new = new ≡ old
