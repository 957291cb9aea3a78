use Rattle.rectangle_pack_c.proofs.Std.{◌∙◌, length}
use Rattle.rectangle_pack_c.proofs.FaultLemmas.{sound}
use Rattle.rectangle_pack_c.proofs.SearchFaultLemmas.{alone_sound}
use Rattle.rectangle_pack_c.proofs.SearchedLemmas.{records_found_are, records_found_ids, records_found_once}
use Rattle.rectangle_pack_c.proofs.SessionLemmas.{new_entries, new_part}
use Rattle.rectangle_pack_c.proofs.finding.find_and_write.Goals as goal

pub find_in-requires-clause-sound : goal.find_in-requires-clause-sound
find_in-requires-clause-sound g c = alone_sound c.args.wanted.now.collection.now (length c.args.placements.now) c.requires.sound

pub write_among-requires-clause-within : goal.write_among-requires-clause-within
write_among-requires-clause-within g c =
    let all = c.args.wanted.now.collection.now in let how = c.args.wanted.now.options.now in
    let it = c.in_ok-told.ensures.found in
    let told = c.in_ok-told.told in let old = c.args.session.now in let new = c.find_in.new.session in
    let few = sound all 0 (length c.args.placements.now) c.requires.sound in
    rw (c.outstanding-known.ensures.outstanding, new_part _ _ _ (c.outstanding.ensures.outstanding ∙ records_found_are all how told old new it), few.as_many)
    (records_found_ids all how told old new it)

pub write_among-requires-clause-once : goal.write_among-requires-clause-once
write_among-requires-clause-once g c =
    let all = c.args.wanted.now.collection.now in let how = c.args.wanted.now.options.now in
    let it = c.in_ok-told.ensures.found in
    let told = c.in_ok-told.told in let old = c.args.session.now in let new = c.find_in.new.session in
    rw (c.outstanding-known.ensures.outstanding, new_part _ _ _ (c.outstanding.ensures.outstanding ∙ records_found_are all how told old new it))
    (records_found_once all how told old new it)

pub returns-clause-written : goal.returns-clause-written
returns-clause-written g c =
    let all = c.args.wanted.now.collection.now in let how = c.args.wanted.now.options.now in
    let it = c.in_ok-told.ensures.found in
    let told = c.in_ok-told.told in let old = c.args.session.now in let new = c.find_in.new.session in
    let are = records_found_are all how told old new it in
    rw (new_entries _ _ _ are)
    (rw (c.outstanding-known.ensures.outstanding, new_part _ _ _ (c.outstanding.ensures.outstanding ∙ are)) at c.write_among.ensures)
