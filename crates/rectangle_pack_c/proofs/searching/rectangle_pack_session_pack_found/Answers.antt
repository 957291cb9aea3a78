use Rattle.rectangle_pack_c.proofs.searching.rectangle_pack_session_pack_found.Goals as goal

pub returns-clause-answer : goal.returns-clause-answer
returns-clause-answer c =
    let h = c.search_into.ensures in
    record { faults = h.faults; packed = h.packed; apart = h.apart; unchanged = h.unchanged }
