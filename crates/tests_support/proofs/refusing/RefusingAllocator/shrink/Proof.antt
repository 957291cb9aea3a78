-- It refuses, or answers what `Global` answers. Assumes `Logic`.
use Rattle.std.proofs.Common.{◌≡◌, ◌+◌, List, [], ◌∷◌, refl, Bool, false, Err, w64}
use Rattle.std.proofs.raw_atomic.Walks.{proved}
use mir.MapTy.{inst_fn}
use mir.Syntax.{Args, Fn, a_type}
use mir.Val.{Val, vbool, vint}
use base.Logic.{id⊢}
use base.Fml.{ftrue, fsep, flft}
use types.Kit.{‵, raw, ◌⊛◌, some, later, given, ◌$◌, ◌∵◌, !, qed, move, keep, drop, use0, use1, use2, split, join, pick, learn, fjoin, fsplit, suffices}
use types.Kit.{await, at_ret, done}
use types.Run.{stop, fld, addr, lit, no_more, and_then, first, skips, branches, exec, returns, returns_within, enter}
use types.Part.{agg}
use types.ByLocal.{alloc_all, pass_all, free_all, look_at, get, through, sets, lands_as, env}
use contract.BorrowLft.{◌⊑◌}
use contract.Monad.{fact}
use contract.Running.{tables}
use denote.Builtin.{usize, RawPtr, RefOf}
use denote.Exit.{yes}
use denote.Laws.{Is, shows}
use denote.Opens.{shr_dup}
use denote.Param.{layouts, param}
use denote.Plain.{uint_vals, uint_Tells}
use denote.RattleType.{RattleType, owns}
use denote.RawPtr.{rawptr_vals, rawptr_Tells, rawptr_Lawful}
use denote.Ref.{shr_vals}
use denote.Signature.{plain, types_at}
use denote.Steps.{nothing, peeks}
use denote.Triple.Call.{calls_at}
use denote.Triple.Spec.{triple_of}
use denote.Triple.Table.{framed}
use denote.Triple.Walked.{Stays, stay_dropped, walk_of, ends_at, Goes-dropped}
use Rattle.std.specs.Allocator.{block_with_items, resized_if_ok}
use Rattle.std.specs.contracts.impls.GlobalAllocator.TheImpl.{ghosts}
use Rattle.std.specs.contracts.impls.GlobalAllocator.shrink as g
use Rattle.std.proofs.impls.GlobalAllocator.shrink.Met as g_met
use Rattle.std.proofs.alloc.Calls.{Answer, answer_val, Answer-typed, Answer-err}
use Rattle.std.proofs.alloc.Shapes.{after}
use Rattle.tests_support.specs.contracts.refusing.Refusing as R
use Rattle.tests_support.specs.contracts.refusing.RefusingAllocator.shrink as f
use Rattle.tests_support.proofs.refusing.Refusing.TheLaws.{the_row_laws}
use Rattle.tests_support.proofs.refusing.Refusing.refuses_to_shrink.Met as r_met
use Rattle.tests_support.proofs.refusing.SelfLemmas.{Refuses, at_self, hands_self, heap_at, heap_ref, has_heap, answer_typed, has_result}
use Rattle.tests_support.proofs.refusing.RefusingAllocator.shrink.Statement.{statement}
use Rattle.tests_support.proofs.refusing.RefusingAllocator.shrink.Code as code

module _ (T : RattleType) where
  abbrev args : Args
  args = layouts (a_type ∷ []) (T, tt)

  abbrev here : Fn
  here = inst_fn args code.function

  abbrev stayed : Stays (f.ended T).signature.params (f.ended T).kept
  stayed = (stay_dropped _ yes, (stay_dropped _ yes, (stay_dropped _ yes, (stay_dropped _ yes, (stay_dropped _ yes, tt)))))

pub shrink_spec : {M : Type 1} → statement M
shrink_spec 𝓤 𝓛 𝓜 𝓡 wired T L =
    let c = f.clauses T 𝓛 𝓜.mem 𝓡.returns in
    let W = walk_of 𝓛 (f.ended T) (stayed T) c in
    let 𝓣 = tables 𝓤 𝓛.H 𝓜 𝓡 𝓡.env in
    let Counts = Refuses 𝓛 𝓜.mem 𝓡.returns in
    let counts = r_met.met 𝓤 𝓛 𝓜 𝓡 (code.calls-tests_support::refusing::Refusing::refuses_to_shrink 𝓡.env wired) in
    let Resizes = triple_of 𝓛 (g.signature T) (g.spec T 𝓛 𝓜.mem 𝓡.returns) in
    let resizes = g_met.met 𝓤 𝓛 𝓜 𝓡 (code.calls-std::impls::GlobalAllocator::shrink 𝓡.env wired) T L in
    let of_number = Goes-dropped 𝓛 2 (plain (λ _. usize)) yes (λ κs x f. refl) in
    let of_ptr = Goes-dropped 𝓛 2 (plain (λ _. RawPtr)) yes (λ κs x f. refl) in
    let of_self = Goes-dropped 𝓛 2 (RefOf (0 ∷ []) tt (plain (λ _. R.the_row)) (λ _. tt)) yes (λ κs x f. refl) in
    proved 𝓛 (f.ended T) (stayed T) c 𝓜 𝓡 (of_self, (of_ptr, (of_number, (of_number, (of_number, tt)))))
    (f.Key.name (args T)) (here T) (code.unfolded 𝓤 𝓛.H 𝓜 𝓡 wired (T, tt))
    (λ κs. (shr_vals, (rawptr_vals, (uint_vals w64, (uint_vals w64, (uint_vals w64, tt))))))
    (λ κs. ((λ r vs s. s.0), (rawptr_Tells, (uint_Tells w64, (uint_Tells w64, (uint_Tells w64, tt)))))) (λ κs qs bounds a items are.
    let κ = κs.0 in let q = qs.0 in let r = a.0 in let h = r.now.inner in let x = a.1.0 in
    let len = a.1.1.0 in let old = a.1.1.1.0 in let new = a.1.1.1.1.0 in
    let others : List Val × (List Val × (List Val × (List Val × Unit {0}))) =
    (rawptr_vals x, (vint w64 len ∷ [], (vint w64 old ∷ [], (vint w64 new ∷ [], tt)))) in
    let bound : W.Ghost = ((κs, qs, bounds, a, (shr_vals r, others)), items) in
    let z : Counts.Ghost = at_self 𝓛 𝓜.mem 𝓡.returns κ q r in
    let y : Resizes.Ghost = ((κs, qs, tt, (record { ref_ptr = (r.ref_ptr.0, r.ref_ptr.1 + 0); now = h }, a.1), (heap_at 𝓛 κ r, others)), items) in
    let ends = λ (v : Val) (answer : Answer.Denot).
    ends_at 𝓛 (f.ended T) (stayed T) c bound v answer (tt, (tt, (tt, (tt, (tt, tt))))) (tt, (tt, (tt, (tt, (tt, tt))))) in
    qed 𝓛 (((‵ (flft κ q) ⊛ (‵ (flft κs.1.0 qs.1.0) ⊛ ‵ ftrue)) ⊛ ‵ (owns (types_at (f.ended T).signature.params κs) a bound.0.4))
    ∷ raw ((c κs a).requires items) ∷ []) ∵
    split ! $ split ! $ move ! (2 ∷ []) $ fsplit ! $ fsplit ! $ keep ! (1 ∷ 3 ∷ 2 ∷ 4 ∷ 5 ∷ []) $
    shr_dup ! R.the_row the_row_laws.shr_laws r.now r.ref_ptr.0 r.ref_ptr.1 κ $ move ! (0 ∷ 2 ∷ []) $
    use2 𝓛 (raw (Counts.pre z)) (hands_self 𝓛 𝓜.mem 𝓡.returns κ q r) $
    enter ! _ _ _ _ _ $ alloc_all ! (λ l. pass_all ! refl (
      (tt, tt),
      (
        ((rawptr_Lawful 𝓛).typed x _ refl).0,
        (
          (tt, record { fits = are.1.1.0.1 }),
          ((tt, record { fits = are.1.1.1.0.1 }), ((tt, record { fits = are.1.1.1.1.0.1 }), tt)),
        ),
      ),
    ) $
    let En = env (here T).locals l in
    calls_at ! (framed 𝓤 𝓛.H 𝓜 𝓣) Counts counts z (and_then ! (get ! refl) (no_more !)) (λ u.
    use1 𝓛 (later (some (λ (x : Bool). given (u ≡ vbool x) (‵ (flft κ q))))) (has_result 𝓛 κ q vbool u) $ await ! tt $ pick ! (λ _. learn ! (λ eu.
    -- [the token; self; what the other arguments own; the other token; the `requires`]
    lands_as ! eu refl (tt, tt) $ first ! $ branches ! (get ! refl)
    (λ _. sets ! (agg ! (no_more !)) refl (tt, tt) $
    sets ! (agg ! (and_then ! (lit ! tt) (and_then ! (get ! refl) (no_more !)))) refl (Answer-typed false 0 0) $
    returns_within ! (W.post bound) refl (look_at ! 0 refl) $ free_all ! refl $ keep ! (4 ∷ 0 ∷ 3 ∷ []) $
    suffices ! _ (ends (answer_val false 0 0) (Err (record {}))) $
    use1 𝓛 (raw (fact 𝓤 (κs.1.0 ⊑ T.lives)) ⊛ (raw (f.requires-sizes T 𝓛 κs 𝓜.mem 𝓡.returns r x len old new items)
    ⊛ ‵ (block_with_items (ghosts.dealloc_token h) (param 0 T) x len old items))) (id⊢ 𝓤 _) $ split ! $ drop ! $ split ! $ drop ! $
    use0 𝓛 (‵ (Answer.own_val (Err (record {})) (answer_val false 0 0 ∷ []))) (Answer-err 𝓛) $
    nothing ! $ nothing ! $ fjoin ! $ nothing ! $ fjoin ! $ nothing ! $ fjoin ! $ nothing ! $ fjoin ! $ nothing ! $ fjoin ! $ join ! $
    move ! (2 ∷ 3 ∷ []) $ join ! $ join ! $ done !)
    (λ _. skips ! $ exec ! 𝓣.C 𝓣.Λ En (after 2 (here T).body) (at_ret En (W.post bound)) $
    sets ! (addr ! (through ! refl (fld ! refl (stop !)))) refl (tt, tt) $
    move ! (1 ∷ []) $ use1 𝓛 (‵ (heap_ref 𝓛 κ r)) (has_heap 𝓛 κ r) $ move ! (0 ∷ 2 ∷ []) $ fjoin ! $
    move ! (1 ∷ 2 ∷ []) $ join ! $ join ! $ use2 𝓛 (raw (Resizes.pre y)) (id⊢ 𝓤 _) $
    calls_at ! (framed 𝓤 𝓛.H 𝓜 𝓣) Resizes resizes y
    (and_then ! (get ! refl) (and_then ! (get ! refl) (and_then ! (get ! refl) (and_then ! (get ! refl) (and_then ! (get ! refl) (no_more !)))))) (λ v.
    use1 𝓛 (later (some (λ (answer : Answer.Denot). ((‵ (flft κ q) ⊛ (‵ (flft κs.1.0 qs.1.0) ⊛ ‵ ftrue)) ⊛ ‵ (Answer.own_val answer (v ∷ [])))
    ⊛ some (λ (ws : Unit {0} × (Unit {0} × (Unit {0} × (Unit {0} × (Unit {0} × Unit {0}))))).
    ‵ (fsep ftrue (fsep ftrue (fsep ftrue (fsep ftrue (fsep ftrue ftrue)))))
    ⊛ ‵ (resized_if_ok (ghosts.dealloc_token h) (param 0 T) x len old new items answer)))))
    (id⊢ 𝓤 _) $ await ! tt $ pick ! (λ answer. split ! $ move ! (1 ∷ []) $ pick ! (λ _. split ! $ drop ! $
    move ! (1 ∷ []) $ split ! $ move ! (1 ∷ []) $
    -- [the result; the tokens; the `ensures`]
    peeks ! Answer (Is Answer) (shows 𝓛 Answer) answer (v ∷ []) (λ is.
    lands_as ! refl refl (answer_typed 𝓛 answer v is) $ returns ! (look_at ! 0 refl) $ free_all ! refl $ suffices ! _ (ends v answer) $
    nothing ! $ nothing ! $ fjoin ! $ nothing ! $ fjoin ! $ nothing ! $ fjoin ! $ nothing ! $ fjoin ! $ nothing ! $ fjoin ! $ join ! $
    move ! (1 ∷ 0 ∷ []) $ join ! $ done !))))))))))
