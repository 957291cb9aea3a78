use Rattle.rectangle_pack_c.proofs.Std.{◌≡◌, ◌++◌, map, take, drop, length}
use Rattle.rectangle_pack_c.specs.Reading.{standing_in, standing_of}
use Rattle.rectangle_pack_c.proofs.standing.write_standing.Given as goal

abbrev pub invariant-loop-placement : goal.invariant-loop-placement
invariant-loop-placement l =
    let told = standing_in l.fn.bin (take l.placement-index l.fn.outstanding) in
    record { many : l.written ≡ length told; told : l.placements ≡ map standing_of told ++ drop (length told) l.fn.placements }
