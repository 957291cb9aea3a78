use Rattle.rectangle_pack_c.proofs.searching.rectangle_pack_found.Goals as goal

pub returns-clause-answer : goal.returns-clause-answer
returns-clause-answer c =
    let h = c.search_new.ensures in
    record { faults = h.faults; unchanged = h.unchanged; packed = h.packed; done = h.done; apart = h.apart; refused = h.refused }
