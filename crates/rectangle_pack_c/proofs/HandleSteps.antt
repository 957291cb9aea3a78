-- Steps of the proofs about handles: what an unboxed value and a handle own, taken apart and put together. Assumes `Logic`.
use Rattle.rectangle_pack_c.proofs.Std.{◌≡◌, ℕ, List, [], ◌∷◌, ◌++◌, refl, subst, Ghosts, Al, handle_tells, box_owns, and_tt, Option, None, Some}
use Rattle.rectangle_pack_c.proofs.Std.{Global}
use mathlib.Core.Bool.{◌&&◌, true}
use lib.Dec.{T}
use seplogic.Ra.Ura.{Ura}
use mir.Syntax.{impl, tnil, dnil, Ty}
use mir.Raw.{raw as bare}
use mir.Val.{Val, vptr, vint, vstruct, vcons, vnil, of_list, has_ty, WT}
use mir.Syntax.{w64}
use base.Logic.{never, fst∗}
use types.Logic.{Logic, sem}
use types.Kit.{Item, Goal, Seq, Step, step, ‵, ◌$◌, move, drop, fsplit, fjoin, fpick, fpack, rewrite, feq_i, feq_l}
use denote.RattleType.{RattleType, Valss}
use denote.Builtin.{RawPtr}
use denote.Memory.{lone}
use denote.RawPtr.{Ptr, block_ptr, null_ptr, ptr_val, in_a_block}
use denote.Steps.{nothing}
use denote.Param.{layout}
use denote.Param.Laws.{Laws}
use denote.Struct.Struct.{within}
use denote.Struct.Owning.{shape}
use Rattle.std.specs.contracts.alloc.Global as global
use Rattle.std.specs.contracts.impls.GlobalAllocator.TheImpl as heap
use Rattle.std.proofs.alloc.Global.TheLaws as global_laws
use Rattle.rectangle_pack_c.specs.Handle.{session_row, holds}
use Rattle.rectangle_pack_c.specs.contracts.handle.Unboxed as unboxed
use Rattle.rectangle_pack_c.specs.contracts.handle.RpSession as held

-- a struct of two words
abbrev pub two : Val → Val → Val
two v w = vstruct (vcons v (vcons w vnil))

-- a machine value of a type
abbrev pub Fits : Ty → Val → Type 0
Fits ty v = T (has_ty ty v) × WT v

module _ (R Z : RattleType) (laws : Laws Z) (g : Ghosts Z.Denot) where
  abbrev pub Unboxed : RattleType
  Unboxed = unboxed.the_row R Z g

  abbrev allocator : Al
  allocator = record { row = Z; laws = laws; g = g; d = impl [] tnil dnil; drops = impl [] tnil dnil }

  pub unboxed_fits : (b o : ℕ) (h : Val) → Fits (layout Z) h → T (has_ty (layout Z) h && true) × WT (two (vptr b o) h)
  unboxed_fits b o h fits = (and_tt (has_ty (layout Z) h) fits.0, (tt, (fits.1, tt)))

  module _ {M : Type 1} {𝓤 : Ura M} {𝓛 : Logic 𝓤} {K : Type 0} {Γ : List (Item 𝓤)} {G : Goal 𝓤 𝓛.H} where
    -- an unboxed value is a block's value, with the right to free it, and the allocator's handle
    pub unboxed_out : K → (u : Unboxed.Denot) (vs : List Val)
        → ((b o : ℕ) (h : Val) → u.at ≡ block_ptr b o → vs ≡ two (vptr b o) h ∷ [] → Fits (layout Z) h
        → Seq K 𝓛 (‵ (box_owns (g.dealloc_token u.alloc) R (block_ptr b o) u.value) ∷ ‵ (Z.own_val u.alloc (h ∷ [])) ∷ Γ) G)
        → Seq K 𝓛 (‵ (Unboxed.own_val u vs) ∷ Γ) G
    unboxed_out t u vs k =
        fsplit t $ fpick t (λ words. fsplit t $ feq_l t (λ vs_is. fsplit t $ feq_l t (λ at_is. fsplit t $
        handle_tells allocator t u.alloc words.1.0 (λ h h_is fits. move t (1 ∷ []) $ drop t $ move t (1 ∷ []) $
        in_a_block t u.at (λ p. box_owns (g.dealloc_token u.alloc) R p u.value)
        (fst∗ 𝓤 (never 𝓤) (sem 𝓛 (g.dealloc_token u.alloc (bare (lone R.mir)) null_ptr))) (λ b o e.
        k b o h e
        (subst (λ (p : Ptr). vs ≡ vstruct (of_list (ptr_val p ∷ h ∷ [])) ∷ []) e
        (subst (λ (ws : List Val). vs ≡ vstruct (of_list (ptr_val u.at ∷ (ws ++ []))) ∷ []) h_is
        (subst (λ (ps : List Val). vs ≡ vstruct (of_list (ps ++ (words.1.0 ++ []))) ∷ []) at_is vs_is)))
        fits)))))

    pub unboxed_in : K → (b o : ℕ) (h : Val) (a : Z.Denot) (x : R.Denot)
        → Step K 𝓛 (‵ (Unboxed.own_val (record { at = block_ptr b o; alloc = a; value = x }) (two (vptr b o) h ∷ [])) ∷ Γ) G
        (‵ (box_owns (g.dealloc_token a) R (block_ptr b o) x) ∷ ‵ (Z.own_val a (h ∷ [])) ∷ Γ) G
    unboxed_in t b o h a x = step (λ s.
        let v = two (vptr b o) h in
        nothing t $ move t (2 ∷ 0 ∷ []) $ fjoin t $ feq_i t (List Val) (vptr b o ∷ []) (vptr b o ∷ []) refl $ fjoin t $
        feq_i t (List Val) (v ∷ []) (v ∷ []) refl $ fjoin t $
        fpack t (Valss (RawPtr ∷ Z ∷ [])) (within (shape (unboxed.the_type R Z g)) (block_ptr b o, (a, tt)) (v ∷ []))
        (vptr b o ∷ [], (h ∷ [], tt)) $ fjoin t $ s)

abbrev pub Held : RattleType
Held = held.the_row

abbrev pub Heap : RattleType
Heap = global.the_row

abbrev pub heap_al : Al
heap_al = record { row = Heap; laws = global_laws.the_row_laws; g = heap.ghosts; d = impl [] tnil dnil; drops = impl [] tnil dnil }

module _ {M : Type 1} {𝓤 : Ura M} {𝓛 : Logic 𝓤} {K : Type 0} {Γ : List (Item 𝓤)} {G : Goal 𝓤 𝓛.H} where
  -- a handle that has a session is a block's session, with the right to free it, and the heap's handle
  pub held_out : K → (d : Held.Denot) (x : session_row.Denot) → d.state ≡ Some x → (vs : List Val)
      → ((b o : ℕ) (h : Val) → d.at ≡ block_ptr b o → vs ≡ two (vptr b o) h ∷ [] → Fits (layout Heap) h
      → Seq K 𝓛 (‵ (box_owns (heap.ghosts.dealloc_token d.alloc) session_row (block_ptr b o) x) ∷ ‵ (Heap.own_val d.alloc (h ∷ [])) ∷ Γ) G)
      → Seq K 𝓛 (‵ (Held.own_val d vs) ∷ Γ) G
  held_out t d x is vs k =
      fsplit t $ fpick t (λ words. fsplit t $ feq_l t (λ vs_is. fsplit t $ feq_l t (λ at_is. fsplit t $
      handle_tells heap_al t d.alloc words.1.0 (λ h h_is fits. move t (1 ∷ []) $ drop t $ move t (1 ∷ []) $
      rewrite t 0 (λ (found : Option session_row.Denot). ‵ (holds d.alloc d.at found)) is refl $
      in_a_block t d.at (λ p. box_owns (heap.ghosts.dealloc_token d.alloc) session_row p x)
      (fst∗ 𝓤 (never 𝓤) (sem 𝓛 (heap.ghosts.dealloc_token d.alloc (bare (lone session_row.mir)) null_ptr))) (λ b o e.
      k b o h e
      (subst (λ (p : Ptr). vs ≡ vstruct (of_list (ptr_val p ∷ h ∷ [])) ∷ []) e
      (subst (λ (ws : List Val). vs ≡ vstruct (of_list (ptr_val d.at ∷ (ws ++ []))) ∷ []) h_is
      (subst (λ (ps : List Val). vs ≡ vstruct (of_list (ps ++ (words.1.0 ++ []))) ∷ []) at_is vs_is)))
      fits)))))

  pub held_in : K → (b o : ℕ) (h : Val) (a : Global) (x : session_row.Denot)
      → Step K 𝓛 (‵ (Held.own_val (record { at = block_ptr b o; alloc = a; state = Some x }) (two (vptr b o) h ∷ [])) ∷ Γ) G
      (‵ (box_owns (heap.ghosts.dealloc_token a) session_row (block_ptr b o) x) ∷ ‵ (Heap.own_val a (h ∷ [])) ∷ Γ) G
  held_in t b o h a x = step (λ s.
      let v = two (vptr b o) h in
      nothing t $ move t (2 ∷ 0 ∷ []) $ fjoin t $ feq_i t (List Val) (vptr b o ∷ []) (vptr b o ∷ []) refl $ fjoin t $
      feq_i t (List Val) (v ∷ []) (v ∷ []) refl $ fjoin t $
      fpack t (Valss (RawPtr ∷ (global.the_field).row ∷ [])) (within (shape held.the_type) (block_ptr b o, ((global.the_type).to a, tt)) (v ∷ []))
      (vptr b o ∷ [], (h ∷ [], tt)) $ fjoin t $ s)

  -- a handle without a session is null, and the heap's handle
  pub none_in : K → (h : Val) (a : Global)
      → Step K 𝓛 (‵ (Held.own_val (record { at = null_ptr; alloc = a; state = None }) (two (vint w64 0) h ∷ [])) ∷ Γ) G
      (‵ (Heap.own_val a (h ∷ [])) ∷ Γ) G
  none_in t h a = step (λ s.
      let v = two (vint w64 0) h in
      feq_i t Ptr null_ptr null_ptr refl $ nothing t $ move t (2 ∷ 0 ∷ []) $ fjoin t $
      feq_i t (List Val) (vint w64 0 ∷ []) (ptr_val null_ptr ∷ []) refl $ fjoin t $
      feq_i t (List Val) (v ∷ []) (v ∷ []) refl $ fjoin t $
      fpack t (Valss (RawPtr ∷ (global.the_field).row ∷ [])) (within (shape held.the_type) (null_ptr, ((global.the_type).to a, tt)) (v ∷ []))
      (vint w64 0 ∷ [], (h ∷ [], tt)) $ move t (1 ∷ 0 ∷ []) $ move t (1 ∷ 0 ∷ []) $ fjoin t $ s)
