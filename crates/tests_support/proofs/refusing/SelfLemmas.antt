-- A `&Refusing` in a walk: a method that counts is called with it, or its heap is reached through it. Assumes `Logic`.
use Rattle.std.proofs.Common.{◌≡◌, ◌+◌, List, [], ◌∷◌, refl, ap, Bor}
use seplogic.Ra.Ura.{Ura}
use mir.Val.{Val, has_ty, WT, vptr}
use lib.Dec.{T}
use base.Logic.{SProp, ent, sep, ex, guard, id⊢}
use base.Fml.{Fml, Lft, Share, ftrue, fsep, feq, flft}
use prog.Memory.{Memory}
use prog.Routine.{Routine}
use types.Logic.{Logic, sem}
use contract.Monad.{Fun}
use types.Kit.{Item, mean, ‵, ◌⊛◌, some, later, ◌$◌, ◌∵◌, !, qed, move, keep, use1, split, join, pick, fsplit, fjoin, feq_i, feq_l, check, show, await}
use types.Kit.{updating, now as at_once, done}
use denote.Laws.{Is}
use denote.Memory.{hidden_shr}
use denote.Opens.{unhide}
use denote.Param.{layout}
use denote.Steps.{nothing, only}
use denote.Triple.Statement.{Contract}
use denote.Triple.Spec.{triple_of}
use borrow.Table.RawPtr.{ptr_laws}
use Rattle.std.specs.contracts.alloc.AllocError as E
use Rattle.std.specs.contracts.alloc.Global as G
use Rattle.std.proofs.alloc.AllocError.TheLaws.{the_row_laws as error_laws}
use Rattle.std.proofs.alloc.Calls.{Answer}
use Rattle.std.proofs.result.Result.TheLaws.{the_row_laws as result_laws}
use denote.Builtin.{RawPtr}
use Rattle.tests_support.specs.declared.refusing.Refusing.{Refusing}
use Rattle.tests_support.specs.contracts.refusing.Refusing as R
use Rattle.tests_support.specs.contracts.refusing.Refusing.refuses as RF
use Rattle.tests_support.specs.contracts.refusing.Refusing.give_back as GB

module _ {M : Type 1} {𝓤 : Ura M} (𝓛 : Logic 𝓤) (at_mem : Memory → SProp 𝓤) (run : Routine → Fun 𝓤) where
  -- of `refuses_block` and `refuses_to_shrink` too
  abbrev pub Refuses : Contract 𝓤
  Refuses = triple_of 𝓛 RF.signature (RF.spec 𝓛 at_mem run)

  abbrev pub GivesBack : Contract 𝓤
  GivesBack = triple_of 𝓛 GB.signature (GB.spec 𝓛 at_mem run)

  -- the same of each
  abbrev pub at_self : Lft → Share → Bor Refusing → Refuses.Ghost
  at_self κ q r = (((κ, tt), (q, tt), tt, (r, tt), (vptr r.ref_ptr.0 r.ref_ptr.1 ∷ [], tt)), tt)

module _ {M : Type 1} {𝓤 : Ura M} (𝓛 : Logic 𝓤) (at_mem : Memory → SProp 𝓤) (run : Routine → Fun 𝓤) (κ : Lft) (q : Share) (r : Bor Refusing) where
  open 𝓛 use {A}

  abbrev seen : SProp 𝓤
  seen = sem 𝓛 (hidden_shr R.the_row κ r.now r.ref_ptr.0 r.ref_ptr.1)

  pub hands_self : ent 𝓤 (sep 𝓤 seen (A.lft κ q)) ((Refuses 𝓛 at_mem run).pre (at_self 𝓛 at_mem run κ q r))
  hands_self =
      let p : List Val = vptr r.ref_ptr.0 r.ref_ptr.1 ∷ [] in
      qed 𝓛 (‵ (hidden_shr R.the_row κ r.now r.ref_ptr.0 r.ref_ptr.1) ∷ ‵ (flft κ q) ∷ []) ∵ feq_i ! (List Val) p p refl $ fjoin ! $
      nothing ! $ move ! (1 ∷ []) $ fjoin ! $ nothing ! $ move ! (2 ∷ []) $ join ! $ join ! $ nothing ! $ move ! (1 ∷ []) $ done !

module _ {M : Type 1} {𝓤 : Ura M} (𝓛 : Logic 𝓤) (κ : Lft) (r : Bor Refusing) where
  abbrev pub heap_at : List Val
  heap_at = vptr r.ref_ptr.0 (r.ref_ptr.1 + 0) ∷ []

  -- the `&Global` of its field
  abbrev pub heap_ref : Fml
  heap_ref = fsep (feq (List Val) heap_at heap_at) (hidden_shr G.the_row κ r.now.inner r.ref_ptr.0 (r.ref_ptr.1 + 0))

  pub has_heap : ent 𝓤 (sem 𝓛 (hidden_shr R.the_row κ r.now r.ref_ptr.0 r.ref_ptr.1)) (sem 𝓛 heap_ref)
  has_heap =
      qed 𝓛 (‵ (hidden_shr R.the_row κ r.now r.ref_ptr.0 r.ref_ptr.1) ∷ []) ∵ unhide ! $ fsplit ! $ fsplit ! $ keep ! (0 ∷ []) $
      use1 𝓛 (‵ (hidden_shr G.the_row κ r.now.inner r.ref_ptr.0 (r.ref_ptr.1 + 0))) (id⊢ 𝓤 _) $
      feq_i ! (List Val) heap_at heap_at refl $ fjoin ! $ done !

-- what comes back of a call for a block can be stored
pub answer_typed : {M : Type 1} {𝓤 : Ura M} (𝓛 : Logic 𝓤) (a : Answer.Denot) (v : Val) → Is Answer a (v ∷ []) → T (has_ty (layout Answer) v) × WT v
answer_typed 𝓛 a v is = (((result_laws RawPtr E.the_row ptr_laws error_laws).lawful 𝓛).typed a (v ∷ []) is).0

module _ {M : Type 1} {𝓤 : Ura M} (𝓛 : Logic 𝓤) (κ : Lft) (q : Share) {R : Type 0} (value : R → Val) (v : Val) where
  open 𝓛 use {H, A}

  -- a result of which nothing is promised
  abbrev Came : Item 𝓤
  Came = later (some (λ (r : R). ((‵ (flft κ q) ⊛ ‵ ftrue) ⊛ ‵ (feq (List Val) (v ∷ []) (value r ∷ []))) ⊛ some
      (λ (ws : Unit {0} × Unit {0}). ‵ (fsep ftrue ftrue) ⊛ ‵ ftrue)))

  pub has_result : ent 𝓤 (mean 𝓛 Came) (H.⇛ (ex 𝓤 (λ (r : R). guard 𝓤 (v ≡ value r) (A.lft κ q))))
  has_result =
      qed 𝓛 (Came ∷ []) ∵ updating ! $ await ! tt $ pick ! (λ r.
      split ! $ split ! $ move ! (1 ∷ []) $ feq_l ! (λ e. split ! $ at_once ! $
      show ! (λ (r : R). guard 𝓤 (v ≡ value r) (A.lft κ q)) r $ check ! (ap only e) $ keep ! (0 ∷ []) $ done !))
