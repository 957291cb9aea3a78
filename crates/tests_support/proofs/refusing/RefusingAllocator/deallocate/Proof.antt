-- It counts the call, and gives the block back to `Global`. Assumes `Logic`.
use Rattle.std.proofs.Common.{◌≡◌, ◌+◌, List, [], ◌∷◌, refl, ap, w64}
use Rattle.std.proofs.raw_atomic.Walks.{proved}
use mir.Val.{Val, vunit, vint}
use base.Logic.{id⊢}
use base.Fml.{ftrue, fsep, flft}
use types.Kit.{‵, raw, ◌⊛◌, some, later, given, ◌$◌, ◌∵◌, !, qed, done, move, keep, drop, use1, use2, split, join, pick, learn, fjoin, fsplit, feq_i}
use types.Kit.{feq_l, suffices, await}
use types.Run.{stop, fld, addr, of_opd, unit_lit, no_more, and_then, returns, enter}
use types.ByLocal.{alloc_all, pass_all, free_all, look_at, get, through, sets, lands_as}
use contract.Running.{tables}
use denote.Builtin.{usize, unit, RefOf}
use denote.Exit.{yes}
use denote.Opens.{shr_dup}
use denote.Plain.{uint_vals, uint_Tells}
use denote.RattleType.{owns}
use denote.RawPtr.{RawPtr, rawptr_vals, rawptr_Tells, rawptr_Lawful}
use denote.Ref.{shr_vals}
use denote.Signature.{plain, types_at}
use denote.Steps.{nothing, only}
use denote.Triple.Call.{calls_at}
use denote.Triple.Spec.{triple_of}
use denote.Triple.Table.{framed}
use denote.Triple.Walked.{Stays, stay_dropped, walk_of, ends_at, Goes-dropped}
use Rattle.std.specs.contracts.impls.GlobalAllocator.deallocate as g
use Rattle.std.proofs.impls.GlobalAllocator.deallocate.Met as g_met
use Rattle.tests_support.specs.contracts.refusing.Refusing as R
use Rattle.tests_support.specs.contracts.refusing.RefusingAllocator.deallocate as f
use Rattle.tests_support.proofs.refusing.Refusing.TheLaws.{the_row_laws}
use Rattle.tests_support.proofs.refusing.Refusing.give_back.Met as b_met
use Rattle.tests_support.proofs.refusing.SelfLemmas.{GivesBack, at_self, hands_self, heap_at, heap_ref, has_heap, has_result}
use Rattle.tests_support.proofs.refusing.RefusingAllocator.deallocate.Statement.{statement}
use Rattle.tests_support.proofs.refusing.RefusingAllocator.deallocate.Code as code

abbrev stayed : Stays f.ended.signature.params f.ended.kept
stayed = (stay_dropped _ yes, (stay_dropped _ yes, (stay_dropped _ yes, (stay_dropped _ yes, tt))))

pub deallocate_spec : {M : Type 1} → statement M
deallocate_spec 𝓤 𝓛 𝓜 𝓡 wired =
    let c = f.clauses 𝓛 𝓜.mem 𝓡.returns in
    let W = walk_of 𝓛 f.ended stayed c in
    let 𝓣 = tables 𝓤 𝓛.H 𝓜 𝓡 𝓡.env in
    let Counts = GivesBack 𝓛 𝓜.mem 𝓡.returns in
    let counts = b_met.met 𝓤 𝓛 𝓜 𝓡 (code.calls-tests_support::refusing::Refusing::give_back 𝓡.env wired) in
    let Gives = triple_of 𝓛 g.signature (g.spec 𝓛 𝓜.mem 𝓡.returns) in
    let gives = g_met.met 𝓤 𝓛 𝓜 𝓡 (code.calls-std::impls::GlobalAllocator::deallocate 𝓡.env wired) in
    let of_number = Goes-dropped 𝓛 1 (plain (λ _. usize)) yes (λ κs x f. refl) in
    let of_ptr = Goes-dropped 𝓛 1 (plain (λ _. RawPtr)) yes (λ κs x f. refl) in
    let of_self = Goes-dropped 𝓛 1 (RefOf (0 ∷ []) tt (plain (λ _. R.the_row)) (λ _. tt)) yes (λ κs x f. refl) in
    proved 𝓛 f.ended stayed c 𝓜 𝓡 (of_self, (of_ptr, (of_number, (of_number, tt))))
    f.Key.name code.function (code.unfolded 𝓤 𝓛.H 𝓜 𝓡 wired)
    (λ κs. (shr_vals, (rawptr_vals, (uint_vals w64, (uint_vals w64, tt)))))
    (λ κs. ((λ r vs s. s.0), (rawptr_Tells, (uint_Tells w64, (uint_Tells w64, tt))))) (λ κs qs bounds a τ are.
    let κ = κs.0 in let q = qs.0 in let r = a.0 in let h = r.now.inner in let x = a.1.0 in
    let others : List Val × (List Val × (List Val × Unit {0})) = (rawptr_vals x, (vint w64 a.1.1.0 ∷ [], (vint w64 a.1.1.1.0 ∷ [], tt))) in
    let bound : W.Ghost = ((κs, qs, bounds, a, (shr_vals r, others)), τ) in
    let z : Counts.Ghost = at_self 𝓛 𝓜.mem 𝓡.returns κ q r in
    let y : Gives.Ghost = ((κs, qs, tt, (record { ref_ptr = (r.ref_ptr.0, r.ref_ptr.1 + 0); now = h }, a.1), (heap_at 𝓛 κ r, others)), τ) in
    qed 𝓛 (((‵ (flft κ q) ⊛ ‵ ftrue) ⊛ ‵ (owns (types_at f.ended.signature.params κs) a bound.0.4)) ∷ raw ((c κs a).requires τ) ∷ []) ∵
    split ! $ split ! $ move ! (2 ∷ []) $ fsplit ! $ fsplit ! $ keep ! (1 ∷ 3 ∷ 2 ∷ 4 ∷ 5 ∷ []) $
    shr_dup ! R.the_row the_row_laws.shr_laws r.now r.ref_ptr.0 r.ref_ptr.1 κ $ move ! (0 ∷ 2 ∷ []) $
    use2 𝓛 (raw (Counts.pre z)) (hands_self 𝓛 𝓜.mem 𝓡.returns κ q r) $
    enter ! _ _ _ _ _ $ alloc_all ! (λ l. pass_all ! refl (
      (tt, tt),
      (
        ((rawptr_Lawful 𝓛).typed x _ refl).0,
        (
          (tt, record { fits = are.1.1.0.1 }),
          ((tt, record { fits = are.1.1.1.0.1 }), tt),
        ),
      ),
    ) $
    calls_at ! (framed 𝓤 𝓛.H 𝓜 𝓣) Counts counts z (and_then ! (get ! refl) (no_more !)) (λ u.
    use1 𝓛 (later (some (λ (_ : Unit {0}). given (u ≡ vunit) (‵ (flft κ q))))) (has_result 𝓛 κ q (λ (_ : Unit {0}). vunit) u) $ await ! tt $
    pick ! (λ _. learn ! (λ eu. lands_as ! eu refl (tt, tt) $
    -- [the token; self; what the other arguments own; no more tokens; the `requires`]
    sets ! (addr ! (through ! refl (fld ! refl (stop !)))) refl (tt, tt) $
    move ! (1 ∷ []) $ use1 𝓛 (‵ (heap_ref 𝓛 κ r)) (has_heap 𝓛 κ r) $ move ! (0 ∷ 2 ∷ []) $ fjoin ! $
    move ! (1 ∷ 2 ∷ []) $ join ! $ join ! $ use2 𝓛 (raw (Gives.pre y)) (id⊢ 𝓤 _) $
    calls_at ! (framed 𝓤 𝓛.H 𝓜 𝓣) Gives gives y
    (and_then ! (get ! refl) (and_then ! (get ! refl) (and_then ! (get ! refl) (and_then ! (get ! refl) (no_more !))))) (λ v.
    use1 𝓛 (later (some (λ (_ : Unit {0}). ((‵ (flft κ q) ⊛ ‵ ftrue) ⊛ ‵ (unit.own_val tt (v ∷ [])))
    ⊛ some (λ (ws : Unit {0} × (Unit {0} × (Unit {0} × (Unit {0} × Unit {0})))). ‵ (fsep ftrue (fsep ftrue (fsep ftrue (fsep ftrue ftrue)))) ⊛ ‵ ftrue))))
    (id⊢ 𝓤 _) $ await ! tt $ pick ! (λ _. split ! $ split ! $ move ! (1 ∷ []) $ feq_l ! (λ e. move ! (1 ∷ []) $ drop ! $
    -- [the tokens]
    lands_as ! (ap only e) refl (tt, tt) $ sets ! (of_opd ! (unit_lit !)) refl (tt, tt) $ returns ! (look_at ! 0 refl) $ free_all ! refl $
    suffices ! _ (ends_at 𝓛 f.ended stayed c bound vunit tt (tt, (tt, (tt, (tt, tt)))) (tt, (tt, (tt, (tt, tt))))) $
    nothing ! $ feq_i ! (List Val) (vunit ∷ []) (vunit ∷ []) refl $
    nothing ! $ nothing ! $ fjoin ! $ nothing ! $ fjoin ! $ nothing ! $ fjoin ! $ nothing ! $ fjoin ! $ join ! $
    move ! (2 ∷ []) $ join ! $ done !))))))))
