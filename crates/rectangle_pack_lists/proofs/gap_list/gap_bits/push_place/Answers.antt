use Rattle.std.proofs.Common.{replicate, ◌%◌}
use Rattle.std.proofs.lemmas.List.{set_split}
use Rattle.rectangle_pack_sections.proofs.Std.{arith, rules, ℕ, suc, ◌≡◌, ◌≢◌, ◌<◌, ◌+◌, ◌*◌, ◌/◌, ◌∙◌, ap, sym, false, List, [], ◌∷◌, ◌++◌, length, take, drop, set, get_or, take_all}
use Rattle.rectangle_pack_lists.specs.private.GapBits.{bits_of, flags_of}
use Rattle.rectangle_pack_lists.proofs.lemmas.trial.GapBits.{length-flags_of, flags_of-push, set-flags_of}
use Rattle.rectangle_pack_lists.proofs.gap_list.gap_bits.push_place.Goals as goal

-- a block more, at the first of its places
more_block : (bytes new : List ℕ) (places len : ℕ) → length bytes ≡ (places + 7) / 8 → places / 8 ≡ len → len ≡ length bytes → new ≡ bytes ++ 0 ∷ []
    → flags_of new ≡ take places (flags_of bytes) ++ false ∷ replicate 7 false
more_block bytes new places len long at counted is =
    ap flags_of is ∙ flags_of-push bytes ∙ ap (λ l. l ++ replicate 8 false) (sym (take_all places (flags_of bytes) (omega (arith, length-flags_of bytes))))

-- one place more of the last block
more_place : (bytes : List ℕ) (places len old new : ℕ) → length bytes ≡ (places + 7) / 8 → places / 8 ≢ len → len ≡ length bytes
    → old ≡ get_or bytes (places / 8) old → bits_of new ≡ set (bits_of old) (places % 8) false
    → flags_of (set bytes (places / 8) new) ≡ take places (flags_of bytes) ++ false ∷ drop (suc places) (flags_of bytes)
more_place bytes places len old new long apart counted read is =
    let within : places < length bytes * 8 = omega arith in
    let written = is ∙ ap (λ b. set (bits_of b) (places % 8) false) read in
    set-flags_of bytes places new old false within written ∙ set_split (flags_of bytes) places false (omega (arith, length-flags_of bytes))

pub returns-then-block-len-clause-flags : goal.returns-then-block-len-clause-flags
returns-then-block-len-clause-flags g c =
    let bytes = c.args.gaps.now.items in
    let counted : c.len.result ≡ length bytes = search rules in
    (replicate 7 false, more_block bytes _ c.args.places c.len.result c.requires.long c.if-block-len.true counted c.push_reserved.ensures.items)

pub returns-else-block-len-clause-flags : goal.returns-else-block-len-clause-flags
returns-else-block-len-clause-flags g c =
    let bytes = c.args.gaps.now.items in
    let counted : c.len.result ≡ length bytes = search rules in
    (drop (suc c.args.places) (flags_of bytes), more_place bytes c.args.places c.len.result c.index.result.now c.marked.result c.requires.long c.if-block-len.false counted c.index.ensures c.marked.ensures)
