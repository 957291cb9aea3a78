-- What a session answers where a bin of it is to grow, and what becomes of it.
use Rattle.std.specs.Prelude.{◌≡◌, ℕ, ◌+◌, ◌<◌, ◌≤◌, ◌^◌, Some, None}
use Rattle.std.specs.declared.cmp.Ordering.{Ordering}
use Rattle.std.specs.Map.{lookup, set_value}
use Rattle.std.specs.BTreeMap.{is_at}
use Rattle.rectangle_pack_sections.specs.declared.axis.Axis.{Axis}
use Rattle.rectangle_pack.specs.declared.session.command.SessionError.TheVariants.{UnknownBin, TooLarge, OutOfMemory}
use Rattle.rectangle_pack.specs.declared.session.command.Reply.{Reply}
use Rattle.rectangle_pack.specs.declared.session.command.Reply.TheVariants.{Done, Refused}
use Rattle.rectangle_pack_sections.specs.Boxes.{extent}
use Rattle.rectangle_pack_sections.specs.Bins.{Bin}
use Rattle.rectangle_pack_bins.specs.GrownBins.{grown_bin}
use Rattle.rectangle_pack.specs.Session.{State}

module _ {Id B : Type 0} (bin_cmp : B → B → Ordering) where
  -- a bin that is there grows by so many cells on an axis, where its side and they add up to less than 2^32
  -- (`grown_bin`), and all else stays. Or it is refused, and nothing changes: `UnknownBin`, the bin is not there;
  -- `TooLarge`, it is there, and they add up to 2^32 or more; `OutOfMemory`, it is there, and they add up to less. A
  -- reply of which there is no case never comes
  -- Example: a bin 4x10x1 by 6 on x is then 10x10x1, and its newest free section is (4,0,0) 6x10x1; by 4294967292 on x
  -- it is `TooLarge`: 4 + 4294967292 is 2^32
  abbrev pub GrowsBin : B → Axis → ℕ → State Id B → Reply → State Id B → Type 0
  GrowsBin id axis by old Done new =
      (bin : Bin) × (lookup (is_at (bin_cmp id)) old.bins ≡ Some bin) × (extent axis bin.size + by < 2 ^ 32)
      × (new ≡ record old { bins = set_value (is_at (bin_cmp id)) old.bins (grown_bin axis by bin) })
  GrowsBin id axis by old (Refused UnknownBin) new = (lookup (is_at (bin_cmp id)) old.bins ≡ None) × (new ≡ old)
  GrowsBin id axis by old (Refused TooLarge) new =
      (bin : Bin) × (lookup (is_at (bin_cmp id)) old.bins ≡ Some bin) × (2 ^ 32 ≤ extent axis bin.size + by) × (new ≡ old)
  GrowsBin id axis by old (Refused OutOfMemory) new =
      (bin : Bin) × (lookup (is_at (bin_cmp id)) old.bins ≡ Some bin) × (extent axis bin.size + by < 2 ^ 32) × (new ≡ old)
  GrowsBin id axis by old _ new = ⊥
