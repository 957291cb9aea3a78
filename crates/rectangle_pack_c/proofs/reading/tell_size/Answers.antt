use Rattle.rectangle_pack_c.proofs.Std.{refl, sym, rules, nat_cmp, is_at}
use Rattle.rectangle_pack.proofs.lemmas.session.Keeps.{Some-bins_of, None-bins_of}
use Rattle.rectangle_pack_c.proofs.reading.tell_size.Goals as goal

pub returns-in_default : goal.returns-in_default
returns-in_default c = rw (← c.bins-bins.ensures.bins, None-bins_of (is_at (nat_cmp c.args.bin)) c.bins-bins.result.now.entries (search rules)) (refl, refl)

pub returns : goal.returns
returns c =
    rw (← c.bins-bins.ensures.bins, Some-bins_of (is_at (nat_cmp c.args.bin)) c.bins-bins.result.now.entries c.in-Some.found.now (sym c.in-Some.ensures.value))
    (refl, rw (c.width.ensures, c.height.ensures, c.depth.ensures) c.max_size-whole.ensures)
