-- `into_parts` tests the pointer, and moves what the handle owns.
use mathlib.Core.Path.{◌≡◌, refl, sym, subst}
use mathlib.Core.List.{List, [], ◌∷◌, ◌++◌}
use mathlib.Core.Bool.{true, ◌&&◌}
use lib.Dec.{T, lit<}
use seplogic.Ra.Ura.{Ura}
use mir.Syntax.{w64}
use mir.Val.{Val, vint, vstruct, vcons, vnil, of_list, has_ty, WT}
use mir.Raw.{raw as bare}
use Prim.Native.Nat.{ℕ}
use base.Logic.{SProp, ent, emp, id⊢, never_e, guard_i}
use base.Fml.{Fml, ftrue, ffalse, fsep, fex}
use prog.Memory.{Memory}
use prog.Routine.{Routine}
use prog.Wp.{WpFn, Tables}
use types.Logic.{Logic, sem}
use contract.Monad.{Fun, fact_use}
use contract.Running.{tables, tables_of}
use sound.WpLaws.{WpFn-mono}
use types.Kit.{Item, ‵, raw, ◌⊛◌, given, learn, rewrite, at_ret, ◌$◌, ◌∵◌, !, qed, by, move, keep, drop, use0, use1, join, split, fsplit, fjoin, fpick, feq_l, suffices, done}
use types.Part.{whole, sub, agg}
use types.Run.{stop, fld, lit, bin, no_more, and_then, of_opd, first, branches, exec, returns, enter}
use types.ByLocal.{alloc_all, pass_all, free_all, look_at, get, get_in, sets, sets_last, env}
use types.Match.{live}
use denote.Exit.{yes}
use denote.RattleType.{RattleType, Valss}
use denote.Builtin.{RawPtr}
use denote.Param.{layout}
use denote.Struct.Struct.{within}
use denote.Struct.Owning.{shape}
use denote.RawPtr.{Ptr, null_ptr, block_ptr, Testable, tests_null}
use denote.Signature.{type_at}
use denote.Steps.{nothing}
use denote.Triple.Spec.{triple_of}
use denote.Triple.Table.{entered}
use denote.Triple.Walked.{says, Stays, stay_dropped, walk_of, ends_at, Goes-dropped, walk_Meets}
use Rattle.std.specs.Prelude.{Option, Some, None}
use Rattle.std.proofs.alloc.Calls.{α, Fits, token, handle_tells}
use Rattle.std_alloc.proofs.BoxSteps.Form.{D, B, P, τ, word, owning, box_typed}
use Rattle.std_alloc.proofs.BoxSteps.Steps.{box_out, box_in}
use Rattle.std_alloc.proofs.ResultValues.{and_tt}
use Rattle.lin_embedded.specs.Held.{handle_owns}
use Rattle.lin_embedded.proofs.AsBox.{E, FromHandle as From}
use Rattle.std.proofs.alloc.Shapes.{after}
use Rattle.std.proofs.option.Made.{Some-of, none_of}
use Rattle.std_heap.proofs.GlobalToken.{dealloc_token-Testable}
use Rattle.std_heap.specs.contracts.Global as Heap
use Rattle.std_heap.specs.contracts.GlobalAllocator.TheImpl.{ghosts}
use Rattle.lin_embedded.specs.contracts.boxes.BoxParts as Parts
use Rattle.lin_embedded.specs.contracts.recorder.Recorder as Recorder
use Rattle.lin_embedded.specs.contracts.handle.Handle.into_parts as F
use Rattle.lin_embedded.specs.contracts.handle.Handle.into_parts.Key.{name as #self}
use Rattle.lin_embedded.proofs.handle.Handle.into_parts.Statement as stated
use Rattle.lin_embedded.proofs.handle.Handle.into_parts.Code as code

abbrev stayed : Stays (F.ended).signature.params (F.ended).kept
stayed = (stay_dropped From yes, tt)

abbrev nothing_at : Val → Val
nothing_at h = vstruct (vcons (vint w64 0) (vcons h vnil))

typed_at : (h : Val) → Fits E.al h → T (has_ty (α E.al) h && true) × WT (nothing_at h)
typed_at h fa = (and_tt (has_ty (α E.al) h) fa.0, (record { fits = lit< tt }, (fa.1, tt)))

abbrev Out : RattleType
Out = type_at (F.signature).result tt

abbrev Inner : RattleType
Inner = Parts.the_row Recorder.the_row Heap.the_row ghosts

some_good : (h : Val) (b o : ℕ) → Fits E.al h → T (has_ty (layout Out) (live 1 (vcons (word E h b o) vnil))) × WT (live 1 (vcons (word E h b o) vnil))
some_good h b o fa = (and_tt _ (box_typed E h b o fa).0, (record { fits = lit< tt }, ((box_typed E h b o fa).1, tt)))

module _ {M : Type 1} {𝓤 : Ura M} (𝓛 : Logic 𝓤) (at_mem : Memory → SProp 𝓤) (run : Routine → Fun 𝓤) (𝓣 : Tables 𝓤 𝓛.H) where
  open 𝓛 use {H}

  abbrev Gh : Type 0
  Gh = (walk_of 𝓛 F.ended stayed (F.clauses 𝓛 at_mem run)).Ghost

  abbrev at : Gh → Ptr → Option Recorder.the_row.Denot → Gh
  at z p s = ((z.0.0, z.0.1, z.0.2, (record { at = p; alloc = z.0.3.0.alloc; value = s }, tt), z.0.4), z.1)

  abbrev Goal : Gh → Ptr → Option Recorder.the_row.Denot → Type 1
  Goal z p s = ent 𝓤 ((walk_of 𝓛 F.ended stayed (F.clauses 𝓛 at_mem run)).pre (at z p s)) (WpFn 𝓤 H 𝓣.C 𝓣.Λ code.function (z.0.4.0 ++ []) ((walk_of 𝓛 F.ended stayed (F.clauses 𝓛 at_mem run)).post (at z p s)))

  holds_one : (z : Gh) (b o : ℕ) (s : Recorder.the_row.Denot) → Goal z (block_ptr b o) (Some s)
  holds_one z b o s =
      let y = at z (block_ptr b o) (Some s) in
      let Post = (walk_of 𝓛 F.ended stayed (F.clauses 𝓛 at_mem run)).post y in
      let a = z.0.3.0.alloc in
      let v : D E = record { ptr = block_ptr b o; alloc = a; value = s } in
      let made : Inner.Denot = record { ptr = block_ptr b o; alloc = a; value = s } in
      qed 𝓛 ((‵ ftrue ⊛ ‵ (fsep ((B E).own_val v z.0.4.0) ftrue)) ∷ raw (emp 𝓤) ∷ []) ∵ split ! $ drop ! $ fsplit ! $
      box_out E ! v z.0.4.0 (λ b' o' hv e ws fa.
      let tok = token E.al a (bare (τ E)) (block_ptr b' o') in
      move ! (1 ∷ []) $ use1 𝓛 (given (Testable (block_ptr b' o')) (‵ tok)) (fact_use 𝓤 (Testable (block_ptr b' o')) (dealloc_token-Testable 𝓛 a (bare (τ E)) (block_ptr b' o')) (guard_i 𝓤 (Testable (block_ptr b' o')) (sem 𝓛 tok))) $ learn ! (λ t. move ! (1 ∷ 0 ∷ []) $
      box_in E ! v b' o' s e refl $ use1 𝓛 (‵ (Inner.own_val made (word E hv b' o' ∷ []))) (id⊢ 𝓤 _) $ move ! (1 ∷ 2 ∷ []) $ drop ! $ drop ! $
      let w = word E hv b' o' in
      let v₁ : Val = live 1 (vcons w vnil) in
      let Γ : List (Item 𝓤) = ‵ (Inner.own_val made (w ∷ [])) ∷ [] in
      by ! (subst (λ (us : List Val). ent 𝓤 (types.Kit.⋆ 𝓛 Γ) (WpFn 𝓤 H 𝓣.C 𝓣.Λ code.function (us ++ []) Post)) (sym ws)
      (qed 𝓛 Γ ∵ enter ! 𝓣.C 𝓣.Λ code.function (w ∷ []) Post $ alloc_all ! (λ ls. pass_all ! refl (box_typed E hv b' o' fa, tt) $ let Ev = env code.function.locals ls in
      sets ! (of_opd ! (get_in ! (fld ! refl (stop !)) (sub ! 0 refl (whole !)))) refl (tt, tt) $ sets ! (of_opd ! (get_in ! (fld ! refl (stop !)) (sub ! 1 refl (whole !)))) refl fa $
      sets ! (bin ! (get ! refl) (lit ! tt) (tests_null (block_ptr b' o') t)) refl (tt, tt) $ first ! $ branches ! (get ! refl) (λ wrong. absurd wrong) (λ _.
      sets ! (of_opd ! (get ! refl)) refl (tt, tt) $ sets ! (agg ! (and_then ! (get ! refl) (and_then ! (get ! refl) (no_more !)))) refl (box_typed E hv b' o' fa) $
      sets_last ! (agg ! (and_then ! (lit ! tt) (and_then ! (get ! refl) (no_more !)))) refl (some_good hv b' o' fa) $
      exec ! 𝓣.C 𝓣.Λ Ev (after 4 code.function.body) (at_ret Ev Post) $ sets ! (of_opd ! (get ! refl)) refl (some_good hv b' o' fa) $
      use1 𝓛 (‵ (Out.own_val (Some made) (v₁ ∷ []))) (Some-of 𝓛 Inner made w) $
      returns ! (look_at ! 0 refl) $ free_all ! refl $
      suffices ! _ (ends_at 𝓛 F.ended stayed (F.clauses 𝓛 at_mem run) y v₁ (Some made) (tt, tt) (tt, tt)) $ says ! refl $
      nothing ! $ nothing ! $ fjoin ! $ join ! $ nothing ! $ join ! $ done !))))))

  holds_none : (z : Gh) → Goal z null_ptr None
  holds_none z =
      let y = at z null_ptr None in
      let Post = (walk_of 𝓛 F.ended stayed (F.clauses 𝓛 at_mem run)).post y in
      let a = z.0.3.0.alloc in
      qed 𝓛 ((‵ ftrue ⊛ ‵ (fsep (fsep (fex (Valss (RawPtr ∷ P E ∷ [])) (within (shape (owning E)) (null_ptr, (a, tt)) z.0.4.0)) ftrue) ftrue)) ∷ raw (emp 𝓤) ∷ []) ∵ split ! $ drop ! $ fsplit ! $
      fsplit ! $ fpick ! (λ vss. fsplit ! $ feq_l ! (λ ev. fsplit ! $ feq_l ! (λ ep. fsplit ! $ handle_tells E.al ! a vss.1.0 (λ h ea fa.
      keep ! [] $
      let w = nothing_at h in
      let ws : z.0.4.0 ≡ w ∷ [] = subst (λ (us : List Val). z.0.4.0 ≡ vstruct (of_list (vint w64 0 ∷ (us ++ []))) ∷ []) ea (subst (λ (ps : List Val). z.0.4.0 ≡ vstruct (of_list (ps ++ (vss.1.0 ++ []))) ∷ []) ep ev) in
      by ! (subst (λ (us : List Val). ent 𝓤 (types.Kit.⋆ 𝓛 []) (WpFn 𝓤 H 𝓣.C 𝓣.Λ code.function (us ++ []) Post)) (sym ws)
      (qed 𝓛 [] ∵ enter ! 𝓣.C 𝓣.Λ code.function (w ∷ []) Post $ alloc_all ! (λ ls. pass_all ! refl (typed_at h fa, tt) $ let Ev = env code.function.locals ls in
      sets ! (of_opd ! (get_in ! (fld ! refl (stop !)) (sub ! 0 refl (whole !)))) refl (tt, record { fits = lit< tt }) $ sets ! (of_opd ! (get_in ! (fld ! refl (stop !)) (sub ! 1 refl (whole !)))) refl fa $
      sets ! (bin ! (get ! refl) (lit ! tt) tt) refl (tt, tt) $ first ! $ branches ! (get ! refl) (λ _.
      sets_last ! (agg ! (and_then ! (lit ! tt) (no_more !))) refl (tt, (record { fits = lit< tt }, tt)) $
      exec ! 𝓣.C 𝓣.Λ Ev (after 4 code.function.body) (at_ret Ev Post) $ sets ! (of_opd ! (get ! refl)) refl (tt, (record { fits = lit< tt }, tt)) $
      use0 𝓛 (‵ (Out.own_val None (live 0 vnil ∷ []))) (none_of 𝓛 Inner) $
      returns ! (look_at ! 0 refl) $ free_all ! refl $
      suffices ! _ (ends_at 𝓛 F.ended stayed (F.clauses 𝓛 at_mem run) y (live 0 vnil) None (tt, tt) (tt, tt)) $ says ! refl $
      nothing ! $ nothing ! $ fjoin ! $ join ! $ nothing ! $ join ! $ done !) (λ wrong. absurd wrong))))))))

  nowhere : (z : Gh) (p : Ptr) (s : Option Recorder.the_row.Denot) → handle_owns z.0.3.0.alloc p s ≡ ffalse → Goal z p s
  nowhere z p s e =
      qed 𝓛 ((‵ ftrue ⊛ ‵ (fsep (fsep (fex (Valss (RawPtr ∷ P E ∷ [])) (within (shape (owning E)) (p, (z.0.3.0.alloc, tt)) z.0.4.0)) (handle_owns z.0.3.0.alloc p s)) ftrue)) ∷ raw (emp 𝓤) ∷ []) ∵ split ! $ drop ! $ fsplit ! $ fsplit ! $
      keep ! (1 ∷ []) $ rewrite ! 0 (λ (f : Fml). ‵ f) e refl $ by ! (never_e 𝓤 _)

  cases : (z : Gh) (p : Ptr) (s : Option Recorder.the_row.Denot) → Goal z p s
  cases z (block_ptr b o) (Some s) = holds_one z b o s
  cases z null_ptr None = holds_none z
  cases z (block_ptr b o) None = nowhere z (block_ptr b o) None refl
  cases z null_ptr (Some s) = nowhere z null_ptr (Some s) refl

  walk : (z : Gh) → ent 𝓤 ((walk_of 𝓛 F.ended stayed (F.clauses 𝓛 at_mem run)).pre z) (WpFn 𝓤 H 𝓣.C 𝓣.Λ code.function (z.0.4.0 ++ []) ((walk_of 𝓛 F.ended stayed (F.clauses 𝓛 at_mem run)).post z))
  walk z = cases z z.0.3.0.at z.0.3.0.value

pub into_parts_spec : {M : Type 1} → stated.statement M
unfolding tables_of
into_parts_spec 𝓤 𝓛 𝓜 𝓡 wired =
    let 𝓣 : Tables 𝓤 𝓛.H = tables_of 𝓤 𝓛.H 𝓜 (tables 𝓤 𝓛.H 𝓜 𝓡 𝓡.env) in
    entered 𝓤 𝓛.H (triple_of 𝓛 F.signature (F.spec 𝓛 𝓜.mem 𝓡.returns)) 𝓣.C 𝓣.Λ #self code.function (code.unfolded 𝓤 𝓛.H 𝓜 𝓡 wired)
    (walk_Meets 𝓛 F.ended stayed (Goes-dropped 𝓛 0 From yes (λ κs x f. refl), tt) (F.clauses 𝓛 𝓜.mem 𝓡.returns) (WpFn 𝓤 𝓛.H 𝓣.C 𝓣.Λ code.function) (WpFn-mono 𝓤 𝓛.H 𝓛.laws 𝓣 code.function)
    (walk 𝓛 𝓜.mem 𝓡.returns 𝓣))
