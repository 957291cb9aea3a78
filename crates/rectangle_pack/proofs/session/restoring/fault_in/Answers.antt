use Rattle.rectangle_pack.proofs.session.restoring.fault_in.Goals as goal

pub returns : goal.returns
returns g c = rw (c.max_size.ensures, c.was_coalesced.ensures, c.as_slice-2.ensures.value, c.in_ok-boxes.ensures, c.as_slice.ensures.value, c.available_bin_sections.ensures.items) at
    c.first_fault_in_bin.ensures
