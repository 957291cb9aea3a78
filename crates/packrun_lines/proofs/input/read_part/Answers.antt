use Rattle.std.proofs.Common.{◌-◌, ◌<◌, ◌≤◌, ◌||◌, length, take, ap, refl, sym, subst, ◌∙◌, nat_lt, [], append-nil, arith}
use Rattle.std.specs.Io.BufRead.{FillKeeps}
use Rattle.std.proofs.BufReadLemmas.{Consumes_shown}
use Rattle.std.specs.Io.KnownBytes.{Consumes}
use Rattle.std.proofs.KnownBytes.{Consumes-nil, Consumes-kept}
use Rattle.std.proofs.Transfers.{starts_with_of_eq, drop-appended, StopsAt-of_none_appended, All-of_none_appended}
use Rattle.packrun_lines.specs.private.Reading.{has_ended}
use Rattle.packrun_lines.proofs.lemmas.ReadLines.{IsPartRead-of}
use Rattle.packrun_lines.proofs.input.read_part.Goals as goal

pub returns-clause-part : goal.returns-clause-part
returns-clause-part g c =
    let end = c.length_of_part-count in
    let rested = c.fill_buf.follows.lender-at-none in
    let filled =
    subst (FillKeeps _ (g.B.Read.remaining rested) (g.B.BufRead.consumable_len rested)) c.in-Ok.is
    c.fill_buf.follows.holds-at-none in
    let moved =
    Consumes_shown _ _ _ _ c.in-Ok.bytes.now end.result end.ensures.within c.in-Ok.ensures.front
    c.in-Ok.ensures.end filled.0 filled.1 c.consume.ensures.bytes in
    let done =
    ap (λ ended. ended || nat_lt 4096 c.len-too_long.result) c.has_ended-ended.ensures
    ∙ ap (λ n. has_ended (take end.result c.in-Ok.bytes.now) || nat_lt 4096 n) (c.len-too_long.ensures ∙ c.extend_from_slice.new.self.ok.0) in
    let long = c.args.line.now.ok.0 in
    let at = c.len.ensures ∙ long in
    IsPartRead-of _ _ c.in-Ok.bytes.now c.args.line.now.items c.extend_from_slice.new.self.items
    end.result (c.has_ended-ended.result || nat_lt 4096 c.len-too_long.result)
    c.in_ok-extend_from_slice.ensures.items (subst (λ n. n ≤ 4096) long c.requires)
    end.ensures.within (subst (λ n. end.result ≤ 4097 - n) at end.ensures.limit)
    (subst (λ n. 0 < 4097 - n → 0 < length c.in-Ok.bytes.now → 0 < end.result) at end.ensures.some)
    end.ensures.before done moved

pub returns-in_err-extend_from_slice-clause-appends :
    goal.returns-in_err-extend_from_slice-clause-appends
returns-in_err-extend_from_slice-clause-appends g c =
    starts_with_of_eq _ _ c.in_err-extend_from_slice.ensures.items

pub returns-in-Err-clause-part : goal.returns-in-Err-clause-part
returns-in-Err-clause-part g c =
    let line = c.args.line.now.items in
    let short = subst (λ n. n ≤ 4096) c.args.line.now.ok.0 c.requires in
    let none = sym (drop-appended line line [] (sym (append-nil line))) in
    let kept = Consumes-kept _ _ _ [] (Consumes-nil _) c.fill_buf.follows.holds-at-none.0 in
    record {
      consumed = subst (Consumes _ _) none kept;
      stops = StopsAt-of_none_appended line line 10 refl;
      within = omega (arith, short);
      goes_on = λ no. (All-of_none_appended line line 10 refl, short);
      ends = λ yes. absurd (cc yes);
      at_end = λ yes. absurd (cc yes);
    }
