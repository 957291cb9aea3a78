-- The pointer is seen as that of a search.
use Rattle.rectangle_pack_c.proofs.Std.{List, [], ◌∷◌, ◌++◌, refl, sym, subst, IsSome, Goes-blank, proved_at}
use mir.Val.{Val, vptr}
use base.Logic.{SProp, ent, id⊢}
use base.Fml.{ftrue}
use prog.Wp.{WpFn}
use types.Kit.{‵, raw, ◌⊛◌, ◌$◌, ◌∵◌, !, qed, done, move, keep, split, join, fsplit, fjoin, suffices}
use types.Run.{stop, fld, of_opd, no_more, and_then, returns, enter}
use types.ByLocal.{alloc_all, pass_all, free_all, look_at, get, get_in, sets}
use types.Part.{agg, sub, whole}
use contract.Monad.{fact}
use contract.Running.{tables}
use denote.Exit.{yes}
use denote.RattleType.{owns}
use denote.Signature.{types_at, plain}
use denote.RawPtr.{block_ptr}
use denote.Steps.{nothing, heard}
use denote.Triple.Walked.{Stays, stay_dropped, walk_of, says, ends_at}
use Rattle.std.specs.contracts.impls.GlobalAllocator.TheImpl as heap
use Rattle.std.proofs.alloc.Global.TheLaws as global_laws
use Rattle.rectangle_pack_sections.proofs.lemmas.util.Searches.{some_of}
use Rattle.rectangle_pack_c.specs.Handle.{search_row}
use Rattle.rectangle_pack_c.proofs.HandleSteps.{two, unboxed_fits, unboxed_in, Heap}
use Rattle.rectangle_pack_c.proofs.SearchHandleSteps.{Held, held_out}
use Rattle.rectangle_pack_c.specs.contracts.handle.RpSearch.open.{ended, clauses}
use Rattle.rectangle_pack_c.specs.contracts.handle.RpSearch.open.Key.{name as #self}
use Rattle.rectangle_pack_c.proofs.handle.RpSearch.open.Statement.{statement}
use Rattle.rectangle_pack_c.proofs.handle.RpSearch.open.Code as code

pub open_spec : {M : Type 1} → statement M
open_spec 𝓤 𝓛 𝓜 𝓡 wired =
    let H = 𝓛.H in let 𝓣 = tables 𝓤 H 𝓜 𝓡 𝓡.env in let c = clauses 𝓛 𝓜.mem 𝓡.returns in let fn = code.function in
    let stays : Stays ended.signature.params ended.kept = (stay_dropped (plain (λ _. Held)) yes, tt) in
    proved_at 𝓛 ended stays c 𝓜 𝓡 (Goes-blank 𝓛 0 (plain (λ _. Held)) yes (λ κs x f. tt), tt) #self fn (code.unfolded 𝓤 H 𝓜 𝓡 wired) (λ z are.
    let κs = z.0.0 in let d = z.0.3.0 in let a = d.alloc in
    let Post : Val → SProp 𝓤 = (walk_of 𝓛 ended stays c).post z in let Run : List Val → SProp 𝓤 = λ ws. WpFn 𝓤 H 𝓣.C 𝓣.Λ fn ws Post in
    qed 𝓛 ((‵ ftrue ⊛ ‵ (owns (types_at ended.signature.params κs) z.0.3 z.0.4)) ∷ raw (fact 𝓤 (IsSome d.state)) ∷ []) ∵
    move ! (1 ∷ []) $ heard ! _ (λ some. let (x, is) = some_of d.state some in
    split ! $ move ! (1 ∷ []) $ fsplit ! $ held_out ! d x is z.0.4.0 (λ b o h e ws fits.
    let w = two (vptr b o) h in let typed = unboxed_fits search_row Heap global_laws.the_row_laws heap.ghosts b o h fits in
    suffices ! (Run (w ∷ [])) (subst (λ (us : List Val). ent 𝓤 (Run (w ∷ [])) (Run us)) (sym (λ i. ws i ++ [])) (id⊢ 𝓤 (Run (w ∷ [])))) $
    enter ! 𝓣.C 𝓣.Λ fn (w ∷ []) Post $ alloc_all ! (λ l. pass_all ! refl (typed, tt) $
    sets ! (of_opd ! (get_in ! (fld ! refl (stop !)) (sub ! 0 refl (whole !)))) refl (tt, tt) $
    sets ! (of_opd ! (get_in ! (fld ! refl (stop !)) (sub ! 1 refl (whole !)))) refl fits $
    sets ! (of_opd ! (get ! refl)) refl (tt, tt) $ sets ! (agg ! (and_then ! (get ! refl) (and_then ! (get ! refl) (no_more !)))) refl typed $
    unboxed_in search_row Heap global_laws.the_row_laws heap.ghosts ! b o h a x $
    returns ! (look_at ! 0 refl) $ free_all ! refl $ keep ! (0 ∷ 1 ∷ []) $
    suffices ! _ (ends_at 𝓛 ended stays c z w (record { at = block_ptr b o; alloc = a; value = x }) (tt, tt) (tt, tt)) $ says ! is $
    nothing ! $ nothing ! $ fjoin ! $ join ! $ move ! (1 ∷ 0 ∷ []) $ join ! $ done !))))
