-- The walk of `deallocate`: the block goes back to the allocator below, with the size and the alignment that it came with.
use Rattle.std.proofs.Common.{◌≡◌, ℕ, List, [], ◌∷◌, refl, sym, subst, w64}
use lib.Dec.{T}
use mir.Syntax.{Fn, ty_unit}
use mir.MapTy.{inst_fn}
use mir.Val.{Val, vunit, vint, vptr, has_ty, WT}
use base.Logic.{fst∗, never}
use base.Fml.{Fml, flft}
use prog.Wp.{WpFn}
use types.Logic.{sem}
use types.Kit.{‵, raw, ◌⊛◌, later, given, prop, at_ret, ◌$◌, ◌∵◌, !, qed, move, drop, use1, use3, split, split3, join, learn, fsplit, feq_i, regoal, suffices, await, group, done}
use types.Run.{enter, of_opd, unit_lit, first, blocks, exec, no_more, and_then, returns}
use types.ByLocal.{alloc_all, pass_all, free_all, look_at, get, sets, lands_as, lands_last, env}
use contract.BorrowLft.{◌⊑◌, ⊑_trans}
use contract.Monad.{fact}
use contract.Running.{tables}
use denote.Builtin.{RawPtr, usize}
use denote.Exit.{yes}
use denote.Plain.{uint_vals, uint_Tells}
use denote.RattleType.{owns}
use denote.RawPtr.{Ptr, block_ptr, null_ptr, ptr_val, in_a_block, rawptr_vals, rawptr_Tells}
use denote.Ref.{shr_vals}
use denote.Signature.{plain, types_at}
use denote.Steps.{nothing, heard}
use denote.Triple.Call.{calls_at, calls_at_last}
use denote.Triple.Clauses.{Ended}
use denote.Triple.Table.{framed}
use denote.Triple.Walked.{Stays, stay_dropped, walk_of, ends_at, Goes-dropped}
use Rattle.std.specs.Allocator.{HasLayout, owned_block}
use Rattle.std.proofs.alloc.Calls.{Al, Gives, at_gives, Gives-goes, Gives-Gives}
use Rattle.std.proofs.VecSteps.Shapes.{after}
use Rattle.std.proofs.raw_atomic.Walks.{proved}
use Rattle.test_alloc.proofs.ThroughBudget.{Handed, self, args, Tokens, Inner, at_self, hands_self, lends_inner}
use Rattle.test_alloc.proofs.Budget.inner.Met.{met as inner-met}
use Rattle.test_alloc.specs.contracts.BudgetAllocator.deallocate as F
use Rattle.test_alloc.specs.contracts.BudgetAllocator.deallocate.Key as key
use Rattle.test_alloc.proofs.BudgetAllocator.deallocate.Statement.{statement}
use Rattle.test_alloc.proofs.BudgetAllocator.deallocate.Code as code

module _ (Z : Al) where
  abbrev here : Fn
  here = inst_fn (args Z) code.function

  abbrev ended : Ended
  ended = F.ended Z.row Z.g Z.d Z.drops

  -- nothing is left of the parameters at the return
  abbrev stayed : Stays ended.signature.params ended.kept
  stayed = (
    stay_dropped (self Z) yes,
    (
      stay_dropped (plain (λ _. RawPtr)) yes,
      (stay_dropped (plain (λ _. usize)) yes, (stay_dropped (plain (λ _. usize)) yes, tt)),
    ),
  )

pub deallocate_spec : {M : Type 1} → statement M
deallocate_spec 𝓤 𝓛 𝓜 𝓡 wired A L g d dd met _ =
    let Z : Al = record { row = A; laws = L; g = g; d = d; drops = dd } in
    let c = F.clauses A g d dd 𝓛 𝓜.mem 𝓡.returns in let W = walk_of 𝓛 (ended Z) (stayed Z) c in
    let 𝓣 = tables 𝓤 𝓛.H 𝓜 𝓡 𝓡.env in let framed_calls = framed 𝓤 𝓛.H 𝓜 𝓣 in
    let word_goes = Goes-dropped 𝓛 2 (plain (λ _. usize)) yes (λ κs x f. refl) in
    proved 𝓛 (ended Z) (stayed Z) c 𝓜 𝓡
    (Goes-dropped 𝓛 2 (self Z) yes (λ κs x f. refl), (Goes-dropped 𝓛 2 (plain (λ _. RawPtr)) yes (λ κs x f. refl), (word_goes, (word_goes, tt))))
    (key.name (args Z)) (here Z) (code.unfolded 𝓤 𝓛.H 𝓜 𝓡 wired (A, tt) d dd)
    (λ κs. (shr_vals, (rawptr_vals, (uint_vals w64, (uint_vals w64, tt)))))
    (λ κs. ((λ r vs is. is.0), (rawptr_Tells, (uint_Tells w64, (uint_Tells w64, tt))))) (λ κs qs bounds a τ are.
    -- `&self`, the size n and the alignment m, and what is at stake for a pointer x: y of this call, and the block
    let r = a.0 in let n = a.1.1.0 in let m = a.1.1.1.0 in let n_fits = are.1.1.0.1 in let m_fits = are.1.1.1.0.1 in
    let h : Handed Z = record { κ = κs.0; ρ = κs.1.0; q = qs.0; s = qs.1.0; within = bounds.0; r = r } in
    let y : Ptr → W.Ghost = λ x. ((κs, qs, bounds, (r, (x, a.1.1)), (shr_vals r, (rawptr_vals x, (vint w64 n ∷ [], (vint w64 m ∷ [], tt))))), τ) in
    let block : Ptr → Fml = λ x. owned_block (g.dealloc_token r.now) τ x in
    qed 𝓛 ((Tokens Z h 𝓛 ⊛ ‵ (owns (types_at (ended Z).signature.params κs) a (y a.1.0).0.4))
    ∷ (raw (fact 𝓤 (h.ρ ⊑ A.lives)) ⊛ raw (fact 𝓤 (HasLayout τ n m)) ⊛ ‵ (block a.1.0)) ∷ []) ∵
    -- the `requires`: n and m are the layout of τ, and the block lies somewhere, since nothing lies at null
    move ! (1 ∷ []) $ split3 ! $ heard ! (h.ρ ⊑ A.lives) (λ lives. heard ! (HasLayout τ n m) (λ layout.
    in_a_block ! a.1.0 block (fst∗ 𝓤 (never 𝓤) (sem 𝓛 (g.dealloc_token r.now τ null_ptr))) (λ b o at.
    regoal ! (λ x. prop (WpFn 𝓤 𝓛.H 𝓣.C 𝓣.Λ (here Z) (vptr r.ref_ptr.0 r.ref_ptr.1 ∷ ptr_val x ∷ vint w64 n ∷ vint w64 m ∷ []) (W.post (y x)))) at refl $
    let x = block_ptr b o in let given_back = λ (p : ℕ × ℕ). at_gives Z 𝓛 𝓜.mem 𝓡.returns h.κ h.q p r.now b o n m τ in
    -- of the parameters only `&self` owns something
    move ! (1 ∷ []) $ split ! $ move ! (1 ∷ []) $ fsplit ! $ move ! (1 ∷ []) $ drop ! $ fsplit ! $ drop ! $
    -- [`&self`; the tokens; the block]: `inner` is called
    enter ! _ _ _ _ _ $ alloc_all ! (λ l. pass_all ! refl ((tt, tt), ((tt, tt), ((tt, record { fits = n_fits }), ((tt, record { fits = m_fits }), tt)))) $
    let E = env (here Z).locals l in
    first ! $ blocks ! $ hands_self Z h 𝓛 𝓜 𝓡 ! lives $
    calls_at ! framed_calls (Inner Z h 𝓛 𝓜 𝓡) (inner-met 𝓤 𝓛 𝓜 𝓡 (code.calls-test_alloc::Budget::inner 𝓡.env wired) A L) (at_self Z h 𝓛 𝓜 𝓡)
    (and_then ! (get ! refl) (no_more !)) (λ v. lends_inner Z h 𝓛 𝓜 𝓡 ! tt v (λ p is. lands_as ! is refl (tt, tt) $
    -- [the `&` to the allocator below; the tokens; the block]: with n, m and the layout they are what its `deallocate` asks for
    move ! (1 ∷ []) $ split3 ! $ move ! (3 ∷ 0 ∷ []) $ join ! $ move ! (3 ∷ []) $ fsplit ! $
    use3 𝓛 (raw ((Gives Z 𝓛 𝓜.mem 𝓡.returns).pre (given_back p)))
    (Gives-goes Z 𝓛 𝓜.mem 𝓡.returns h.κ h.q p r.now (⊑_trans h.κ h.ρ A.lives h.within lives) b o n m τ layout.0 layout.1 n_fits m_fits) $
    calls_at_last ! framed_calls (Gives Z 𝓛 𝓜.mem 𝓡.returns) (met.deallocate dd) (given_back p)
    (and_then ! (get ! refl) (and_then ! (get ! refl) (and_then ! (get ! refl) (and_then ! (get ! refl) (no_more !))))) (λ u.
    use1 𝓛 (later (given (u ≡ vunit) (‵ (flft h.κ h.q)))) (Gives-Gives Z 𝓛 𝓜.mem 𝓡.returns h.κ h.q p r.now b o n m τ u) $ await ! tt $ learn ! (λ is_unit.
    lands_last ! refl (subst (λ w. T (has_ty ty_unit w) × WT w) (sym is_unit) (tt, tt)) $
    -- [the two tokens; nothing]: the function ends with no more than them
    exec ! 𝓣.C 𝓣.Λ E (after 1 (here Z).body) (at_ret E (W.post (y x))) $
    sets ! (of_opd ! (unit_lit !)) refl (tt, tt) $ returns ! (look_at ! 0 refl) $ free_all ! refl $ group ! 3 $
    suffices ! _ (ends_at 𝓛 (ended Z) (stayed Z) c (y x) vunit tt (tt, (tt, (tt, (tt, tt)))) (tt, (tt, (tt, (tt, tt))))) $
    nothing ! $ feq_i ! (List Val) (vunit ∷ []) (vunit ∷ []) refl $
    nothing ! $ nothing ! $ join ! $ nothing ! $ join ! $ nothing ! $ join ! $ nothing ! $ join ! $ move ! (3 ∷ []) $ group ! 3 $ done !)))))))))
