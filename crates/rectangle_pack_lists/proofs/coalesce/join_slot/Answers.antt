use Rattle.rectangle_pack_sections.proofs.Std.{arith, List, Some, ◌≡◌, refl}
use Rattle.rectangle_pack_sections.proofs.Std.{false, set, All-set, get_or_default, subst}
use Rattle.rectangle_pack_sections.specs.Boxes.{Cuboid, FitsU32, has_cells}
use Rattle.rectangle_pack_lists.specs.declared.corners.Corner.TheVariants.{Near, Far}
use Rattle.rectangle_pack_lists.specs.Joining.{entry, join}
use Rattle.rectangle_pack_lists.specs.private.Corners.{IsFull, IsBeside, IsRenamed, IsLeastBeside, corner_number}
use Rattle.rectangle_pack_lists.proofs.lemmas.joining.InSlots.{AreJoinedSoFar-none, AreJoinedSoFar-more, AreJoinedSoFar-done, full-fewer, after_join-slot, written-joined}
use Rattle.rectangle_pack_lists.proofs.lemmas.joining.Names.{named-joined}
use Rattle.rectangle_pack_lists.proofs.coalesce.join_slot.Goals as goal

pub loop-other-init : goal.loop-other-init
loop-other-init g c = record {
  so_far = AreJoinedSoFar-none _ _;
  at = c.requires.full;
  fit = c.requires.fit;
  near = c.requires.near;
  far = c.requires.far;
}

pub loop-other-smaller : goal.loop-other-smaller
loop-other-smaller g c =
    let now = c.loop-other.sections in
    let other = c.in-Some.other in
    let beside : IsBeside now c.args.slot other = (rw c.in-Some.is at c.first_beside.ensures).beside in
    let at = c.loop-other.invariant.at in
    let none : has_cells c.new.result ≡ false = rw (c.new.ensures, c.any_size.ensures) refl in
    full-fewer now _ c.args.slot other c.new.result none at beside
    (written-joined now c.args.slot other _ _ c.join.result c.new.result at beside c.index-sections-slot.is c.index-sections-other-in-Some.is c.join.ensures.joined)

pub loop-other-preserved : goal.loop-other-preserved
loop-other-preserved g c =
    let now = c.loop-other.sections in
    let slot = c.args.slot in
    let other = c.in-Some.other in
    let inv = c.loop-other.invariant in
    let least : IsLeastBeside (IsFull now) now slot (Some other) = rw c.in-Some.is at c.first_beside.ensures in
    let none : has_cells c.new.result ≡ false = rw (c.new.ensures, c.any_size.ensures) refl in
    let empty_fits : FitsU32 c.new.result = rw (c.new.ensures, c.any_size.ensures) (record { fits_x = omega arith; fits_y = omega arith; fits_z = omega arith }) in
    let next : List Cuboid = set (set now slot c.join.result) other c.new.result in
    let is : next ≡ set (set now slot (join (entry now slot) (entry now other))) other c.new.result =
    written-joined now slot other _ _ c.join.result c.new.result inv.at least.beside c.index-sections-slot.is c.index-sections-other-in-Some.is c.join.ensures.joined in
    let nothing : Cuboid = record { x = 0; y = 0; z = 0; whd = record { width = 0; height = 0; depth = 0 } } in
    let read = get_or_default now other c.index-sections-other.result nothing least.beside.full.within in
    let near = c.loop-other.corners.near.items in
    let far = c.loop-other.corners.far.items in
    let after = c.rename.new.self in
    record {
      so_far = AreJoinedSoFar-more slot other c.new.result c.args.sections.now now next none inv.at least is inv.so_far;
      at = rw is (after_join-slot now slot other c.new.result none inv.at least.beside);
      fit = All-set FitsU32 (set now slot c.join.result) other c.new.result empty_fits (All-set FitsU32 now slot c.join.result c.join.ensures.fits inv.fit);
      near = named-joined Near now near inv.near slot other c.new.result next after.near.items inv.at least.beside none is
          (subst (λ (b : Cuboid). IsRenamed (corner_number Near b) slot near after.near.items) read c.rename.ensures.near);
      far = named-joined Far now far inv.far slot other c.new.result next after.far.items inv.at least.beside none is
          (subst (λ (b : Cuboid). IsRenamed (corner_number Far b) slot far after.far.items) read c.rename.ensures.far);
    }

pub returns-clause-joined : goal.returns-clause-joined
returns-clause-joined g c = AreJoinedSoFar-done _ _ _ c.loop-other.invariant.at (c.in_default.ensures {u = tt}) c.loop-other.invariant.so_far
