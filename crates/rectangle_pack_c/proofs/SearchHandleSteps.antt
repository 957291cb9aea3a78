-- Steps of the proofs about the handle of a search: what it owns, taken apart and put together, as `HandleSteps` has it of a session. Assumes `Logic`.
use Rattle.rectangle_pack_c.proofs.Std.{◌≡◌, ℕ, List, [], ◌∷◌, ◌++◌, refl, subst, handle_tells, box_owns, Option, None, Some}
use Rattle.rectangle_pack_c.proofs.Std.{Global}
use seplogic.Ra.Ura.{Ura}
use mir.Raw.{raw as bare}
use mir.Val.{Val, vptr, vint, of_list, vstruct}
use mir.Syntax.{w64}
use base.Logic.{never, fst∗}
use types.Logic.{Logic, sem}
use types.Kit.{Item, Goal, Seq, Step, step, ‵, ◌$◌, move, drop, fsplit, fjoin, fpick, fpack, rewrite, feq_i, feq_l}
use denote.RattleType.{RattleType, Valss}
use denote.Builtin.{RawPtr}
use denote.Memory.{lone}
use denote.RawPtr.{Ptr, block_ptr, null_ptr, ptr_val, in_a_block}
use denote.Steps.{nothing}
use denote.Param.{layout}
use denote.Struct.Struct.{within}
use denote.Struct.Owning.{shape}
use Rattle.std.specs.contracts.alloc.Global as global
use Rattle.std.specs.contracts.impls.GlobalAllocator.TheImpl as heap
use Rattle.rectangle_pack_c.specs.Handle.{search_row, holds_search}
use Rattle.rectangle_pack_c.specs.contracts.handle.RpSearch as held
use Rattle.rectangle_pack_c.proofs.HandleSteps.{two, Fits, Heap, heap_al}

abbrev pub Held : RattleType
Held = held.the_row

module _ {M : Type 1} {𝓤 : Ura M} {𝓛 : Logic 𝓤} {K : Type 0} {Γ : List (Item 𝓤)} {G : Goal 𝓤 𝓛.H} where
  -- a handle that has a search is a block's search, with the right to free it, and the heap's handle
  pub held_out : K → (d : Held.Denot) (x : search_row.Denot) → d.state ≡ Some x → (vs : List Val)
      → ((b o : ℕ) (h : Val) → d.at ≡ block_ptr b o → vs ≡ two (vptr b o) h ∷ [] → Fits (layout Heap) h
      → Seq K 𝓛 (‵ (box_owns (heap.ghosts.dealloc_token d.alloc) search_row (block_ptr b o) x) ∷ ‵ (Heap.own_val d.alloc (h ∷ [])) ∷ Γ) G)
      → Seq K 𝓛 (‵ (Held.own_val d vs) ∷ Γ) G
  held_out t d x is vs k =
      fsplit t $ fpick t (λ words. fsplit t $ feq_l t (λ vs_is. fsplit t $ feq_l t (λ at_is. fsplit t $
      handle_tells heap_al t d.alloc words.1.0 (λ h h_is fits. move t (1 ∷ []) $ drop t $ move t (1 ∷ []) $
      rewrite t 0 (λ (found : Option search_row.Denot). ‵ (holds_search d.alloc d.at found)) is refl $
      in_a_block t d.at (λ p. box_owns (heap.ghosts.dealloc_token d.alloc) search_row p x)
      (fst∗ 𝓤 (never 𝓤) (sem 𝓛 (heap.ghosts.dealloc_token d.alloc (bare (lone search_row.mir)) null_ptr))) (λ b o e.
      k b o h e
      (subst (λ (p : Ptr). vs ≡ vstruct (of_list (ptr_val p ∷ h ∷ [])) ∷ []) e
      (subst (λ (ws : List Val). vs ≡ vstruct (of_list (ptr_val d.at ∷ (ws ++ []))) ∷ []) h_is
      (subst (λ (ps : List Val). vs ≡ vstruct (of_list (ps ++ (words.1.0 ++ []))) ∷ []) at_is vs_is)))
      fits)))))

  pub held_in : K → (b o : ℕ) (h : Val) (a : Global) (x : search_row.Denot)
      → Step K 𝓛 (‵ (Held.own_val (record { at = block_ptr b o; alloc = a; state = Some x }) (two (vptr b o) h ∷ [])) ∷ Γ) G
      (‵ (box_owns (heap.ghosts.dealloc_token a) search_row (block_ptr b o) x) ∷ ‵ (Heap.own_val a (h ∷ [])) ∷ Γ) G
  held_in t b o h a x = step (λ s.
      let v = two (vptr b o) h in
      nothing t $ move t (2 ∷ 0 ∷ []) $ fjoin t $ feq_i t (List Val) (vptr b o ∷ []) (vptr b o ∷ []) refl $ fjoin t $
      feq_i t (List Val) (v ∷ []) (v ∷ []) refl $ fjoin t $
      fpack t (Valss (RawPtr ∷ (global.the_field).row ∷ [])) (within (shape held.the_type) (block_ptr b o, ((global.the_type).to a, tt)) (v ∷ []))
      (vptr b o ∷ [], (h ∷ [], tt)) $ fjoin t $ s)

  -- a handle without a search is null, and the heap's handle
  pub none_in : K → (h : Val) (a : Global)
      → Step K 𝓛 (‵ (Held.own_val (record { at = null_ptr; alloc = a; state = None }) (two (vint w64 0) h ∷ [])) ∷ Γ) G
      (‵ (Heap.own_val a (h ∷ [])) ∷ Γ) G
  none_in t h a = step (λ s.
      let v = two (vint w64 0) h in
      feq_i t Ptr null_ptr null_ptr refl $ nothing t $ move t (2 ∷ 0 ∷ []) $ fjoin t $
      feq_i t (List Val) (vint w64 0 ∷ []) (ptr_val null_ptr ∷ []) refl $ fjoin t $
      feq_i t (List Val) (v ∷ []) (v ∷ []) refl $ fjoin t $
      fpack t (Valss (RawPtr ∷ (global.the_field).row ∷ [])) (within (shape held.the_type) (null_ptr, ((global.the_type).to a, tt)) (v ∷ []))
      (vint w64 0 ∷ [], (h ∷ [], tt)) $ move t (1 ∷ 0 ∷ []) $ move t (1 ∷ 0 ∷ []) $ fjoin t $ s)
