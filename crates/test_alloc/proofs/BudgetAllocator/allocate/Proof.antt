-- The walk of `allocate`: where a block is granted it is what the allocator below answers, and else nothing is taken from it.
use Rattle.std.proofs.Common.{ℕ, List, [], ◌∷◌, false, refl, w64}
use mir.Syntax.{Fn}
use mir.MapTy.{inst_fn}
use mir.Val.{Val, vint, vptr}
use base.Logic.{emp, id⊢}
use base.Fml.{Fml, ftrue, fsep}
use types.Kit.{Sq, ‵, raw, ◌⊛◌, some, later, prop, at_ret, ◌$◌, ◌∵◌, !, qed, move, drop, use0, use1, split, join, fsplit, feq_i, pick, suffices, await, group, done}
use types.Part.{agg}
use types.Run.{enter, of_opd, lit, first, branches, exec, no_more, and_then, returns}
use types.ByLocal.{alloc_all, pass_all, free_all, look_at, get, sets, sets_last, lands_as, lands_last, env}
use contract.BorrowLft.{◌⊑◌}
use contract.Monad.{fact, fact_i}
use contract.Running.{tables}
use denote.Builtin.{RawPtr, usize}
use denote.Exit.{yes}
use denote.Opens.{shr_dup}
use denote.Param.{param}
use denote.Param.Laws.{param_laws}
use denote.Laws.{shows}
use denote.Plain.{uint_vals, uint_Tells, uint_Makes}
use denote.RattleType.{owns}
use denote.Ref.{shr_vals}
use denote.Signature.{plain, types_at}
use denote.Steps.{nothing, heard, peeks, owned}
use denote.Triple.Call.{calls_at, calls_at_last}
use denote.Triple.Clauses.{Ended}
use denote.Triple.Table.{framed}
use denote.Triple.Walked.{Stays, stay_dropped, walk_of, ends_at, Goes-dropped}
use Rattle.std.specs.Prelude.{Err}
use Rattle.std.specs.Allocator.{HasLayout, block_if_ok, alloc_error}
use Rattle.std.proofs.alloc.Calls.{Al, Answer, answer_val, Answer-typed, Answer-err, Takes}
use Rattle.std.proofs.result.Result.TheLaws.{the_row_laws as result-laws}
use Rattle.std.proofs.alloc.AllocError.TheLaws.{the_row_laws as error-laws}
use Rattle.std.specs.contracts.alloc.AllocError as AE
use borrow.Table.RawPtr.{ptr_laws}
use Rattle.std.proofs.VecSteps.Shapes.{after}
use Rattle.std.proofs.raw_atomic.Walks.{proved}
use Rattle.test_alloc.proofs.ThroughBudget.{Handed, budget, self, args, Tokens, Inner, TakesBlock, at_self, hands_self, lends_inner, answers_bool}
use Rattle.test_alloc.proofs.Budget.TheLaws.{the_row_laws}
use Rattle.test_alloc.proofs.Budget.inner.Met.{met as inner-met}
use Rattle.test_alloc.proofs.Budget.takes_block.Met.{met as takes_block-met}
use Rattle.test_alloc.specs.contracts.BudgetAllocator.allocate as F
use Rattle.test_alloc.specs.contracts.BudgetAllocator.allocate.Key as key
use Rattle.test_alloc.proofs.BudgetAllocator.allocate.Statement.{statement}
use Rattle.test_alloc.proofs.BudgetAllocator.allocate.Code as code

module _ (Z : Al) where
  abbrev here : Fn
  here = inst_fn (args Z) code.function

  abbrev ended : Ended
  ended = F.ended Z.row Z.g Z.d Z.drops

  -- nothing is left of the parameters at the return
  abbrev stayed : Stays ended.signature.params ended.kept
  stayed = (stay_dropped (self Z) yes, (stay_dropped (plain (λ _. usize)) yes, (stay_dropped (plain (λ _. usize)) yes, tt)))

pub allocate_spec : {M : Type 1} → statement M
allocate_spec 𝓤 𝓛 𝓜 𝓡 wired A L g d dd met _ =
    let Z : Al = record { row = A; laws = L; g = g; d = d; drops = dd } in
    let c = F.clauses A g d dd 𝓛 𝓜.mem 𝓡.returns in let W = walk_of 𝓛 (ended Z) (stayed Z) c in
    let 𝓣 = tables 𝓤 𝓛.H 𝓜 𝓡 𝓡.env in let framed_calls = framed 𝓤 𝓛.H 𝓜 𝓣 in
    let word_goes = Goes-dropped 𝓛 2 (plain (λ _. usize)) yes (λ κs x f. refl) in
    proved 𝓛 (ended Z) (stayed Z) c 𝓜 𝓡 (Goes-dropped 𝓛 2 (self Z) yes (λ κs x f. refl), (word_goes, (word_goes, tt)))
    (key.name (args Z)) (here Z) (code.unfolded 𝓤 𝓛.H 𝓜 𝓡 wired (A, tt) d dd)
    (λ κs. (shr_vals, (uint_vals w64, (uint_vals w64, tt)))) (λ κs. ((λ r vs is. is.0), (uint_Tells w64, (uint_Tells w64, tt)))) (λ κs qs bounds a τ are.
    -- `&self`, the size n and the alignment m, and what is at stake: y of this call, `asked` of the call below
    let r = a.0 in let n = a.1.0 in let m = a.1.1.0 in let n_fits = are.1.0.1 in let m_fits = are.1.1.0.1 in
    let h : Handed Z = record { κ = κs.0; ρ = κs.1.0; q = qs.0; s = qs.1.0; within = bounds.0; r = r } in
    let y : W.Ghost = ((κs, qs, bounds, a, (shr_vals r, (vint w64 n ∷ [], (vint w64 m ∷ [], tt)))), τ) in
    let asked : ℕ × ℕ → (Takes Z 𝓛 𝓜.mem 𝓡.returns).Ghost = λ p.
    ((κs, qs, bounds, (record { ref_ptr = p; now = r.now }, (n, (m, tt))), (vptr p.0 p.1 ∷ [], (vint w64 n ∷ [], (vint w64 m ∷ [], tt)))), τ) in
    -- what an answer z hands over, and the function's end from it, where the machine has v for z
    let block : Answer.Denot → Fml = λ z. block_if_ok (g.dealloc_token r.now) τ z in
    let ends : (z : Answer.Denot) (v : Val) → Sq 𝓛 (‵ (Answer.own_val z (v ∷ [])) ∷ Tokens Z h 𝓛 ∷ ‵ (block z) ∷ []) (prop (W.post y v)) =
    λ z v.
    suffices ! _ (ends_at 𝓛 (ended Z) (stayed Z) c y v z (tt, (tt, (tt, tt))) (tt, (tt, (tt, tt)))) $
    nothing ! $ nothing ! $ join ! $ nothing ! $ join ! $ nothing ! $ join ! $ move ! (2 ∷ 0 ∷ 1 ∷ []) $ group ! 3 $ done ! in
    qed 𝓛 ((Tokens Z h 𝓛 ⊛ ‵ (owns (types_at (ended Z).signature.params κs) a y.0.4)) ∷ (raw (fact 𝓤 (h.ρ ⊑ A.lives)) ⊛ raw (fact 𝓤 (HasLayout τ n m))) ∷ []) ∵
    -- the `requires`: n and m are the layout of τ. Of the parameters only `&self` owns something, and it is had twice, once for each call
    move ! (1 ∷ []) $ split ! $ heard ! (h.ρ ⊑ A.lives) (λ lives. heard ! (HasLayout τ n m) (λ layout.
    split ! $ move ! (1 ∷ []) $ fsplit ! $ move ! (1 ∷ []) $ drop ! $ fsplit ! $ drop ! $
    shr_dup ! (budget Z) (the_row_laws (param 0 A) (param_laws 0 A L)).shr_laws r.now r.ref_ptr.0 r.ref_ptr.1 h.κ $ move ! (0 ∷ 2 ∷ []) $
    -- [`&self`; the tokens; `&self`]: `takes_block` is called
    enter ! _ _ _ _ _ $ alloc_all ! (λ l. pass_all ! refl ((tt, tt), ((tt, record { fits = n_fits }), ((tt, record { fits = m_fits }), tt))) $
    let E = env (here Z).locals l in let rest = after 2 (here Z).body in
    hands_self Z h 𝓛 𝓜 𝓡 ! lives $
    calls_at ! framed_calls (TakesBlock Z h 𝓛 𝓜 𝓡) (takes_block-met 𝓤 𝓛 𝓜 𝓡 (code.calls-test_alloc::Budget::takes_block 𝓡.env wired) A L) (at_self Z h 𝓛 𝓜 𝓡)
    (and_then ! (get ! refl) (no_more !)) (λ v. answers_bool Z h 𝓛 𝓜 𝓡 ! tt v (λ granted is. lands_as ! is refl (tt, tt) $
    first ! $ branches ! (get ! refl)
    -- a block is left, [the tokens; `&self`]: `inner` is called
    (λ _. move ! (1 ∷ 0 ∷ []) $ hands_self Z h 𝓛 𝓜 𝓡 ! lives $
    calls_at ! framed_calls (Inner Z h 𝓛 𝓜 𝓡) (inner-met 𝓤 𝓛 𝓜 𝓡 (code.calls-test_alloc::Budget::inner 𝓡.env wired) A L) (at_self Z h 𝓛 𝓜 𝓡)
    (and_then ! (get ! refl) (no_more !)) (λ w. lends_inner Z h 𝓛 𝓜 𝓡 ! tt w (λ p at. lands_as ! at refl (tt, tt) $
    -- [the `&` to the allocator below; the tokens]: with n, m and the layout they are what its `allocate` asks for
    use0 𝓛 (raw (fact 𝓤 (HasLayout τ n m))) (fact_i 𝓤 (HasLayout τ n m) (emp 𝓤) layout) $
    use0 𝓛 (raw (fact 𝓤 (h.ρ ⊑ A.lives))) (fact_i 𝓤 (h.ρ ⊑ A.lives) (emp 𝓤) lives) $ join ! $
    nothing ! $ owned ! usize _ (uint_Makes 𝓛 w64) m _ (refl, m_fits) $ join ! $ owned ! usize _ (uint_Makes 𝓛 w64) n _ (refl, n_fits) $ join ! $
    move ! (2 ∷ []) $ feq_i ! (List Val) (vptr p.0 p.1 ∷ []) (vptr p.0 p.1 ∷ []) refl $ join ! $ join ! $ move ! (2 ∷ 0 ∷ []) $ join ! $ join ! $
    use1 𝓛 (raw ((Takes Z 𝓛 𝓜.mem 𝓡.returns).pre (asked p))) (id⊢ 𝓤 _) $
    calls_at_last ! framed_calls (Takes Z 𝓛 𝓜.mem 𝓡.returns) (met.allocate dd) (asked p)
    (and_then ! (get ! refl) (and_then ! (get ! refl) (and_then ! (get ! refl) (no_more !)))) (λ u.
    -- its answer z, a block or a refusal, is handed on
    use1 𝓛 (later (some (λ (z : Answer.Denot). (Tokens Z h 𝓛 ⊛ ‵ (Answer.own_val z (u ∷ [])))
    ⊛ some (λ (_ : Unit {0} × (Unit {0} × (Unit {0} × Unit {0}))). ‵ (fsep ftrue (fsep ftrue (fsep ftrue ftrue))) ⊛ ‵ (block z))))) (id⊢ 𝓤 _) $
    await ! tt $ pick ! (λ z. split ! $ split ! $ move ! (2 ∷ []) $ pick ! (λ _. split ! $ drop ! $
    move ! (2 ∷ 1 ∷ 0 ∷ []) $ peeks ! Answer _ (shows 𝓛 Answer) z (u ∷ []) (λ z_is.
    let u_ok = (((result-laws RawPtr AE.the_row ptr_laws error-laws).lawful 𝓛).typed z (u ∷ []) z_is).0 in
    lands_last ! refl u_ok $ exec ! 𝓣.C 𝓣.Λ E rest (at_ret E (W.post y)) $
    sets ! (of_opd ! (get ! refl)) refl u_ok $ returns ! (look_at ! 0 refl) $ free_all ! refl $ ends z u)))))))
    -- no block is left, [the tokens; `&self`]: the refusal is made of nothing
    (λ _. sets ! (agg ! (no_more !)) refl (tt, tt) $
    sets_last ! (agg ! (and_then ! (lit ! tt) (and_then ! (get ! refl) (no_more !)))) refl (Answer-typed false 0 0) $
    exec ! 𝓣.C 𝓣.Λ E rest (at_ret E (W.post y)) $
    sets ! (of_opd ! (get ! refl)) refl (Answer-typed false 0 0) $ returns ! (look_at ! 0 refl) $ free_all ! refl $ move ! (1 ∷ []) $ drop ! $
    nothing ! $ move ! (1 ∷ []) $ use0 𝓛 (‵ (Answer.own_val (Err alloc_error) (answer_val false 0 0 ∷ []))) (Answer-err 𝓛) $
    ends (Err alloc_error) (answer_val false 0 0))))))))
