-- What both walks do through `&self`: they call `takes_block` and `inner`, whose contracts own no memory. A context is shown as [first; second; ..].
use Rattle.std.proofs.Common.{◌≡◌, ℕ, List, [], ◌∷◌, Bool, refl, ap}
use seplogic.Ra.Ura.{Ura}
use mir.Syntax.{Args, a_type, dnil, dcons}
use mir.Val.{Val, vptr, vbool}
use base.Logic.{emp, id⊢}
use base.Fml.{Lft, Share, Fml, ftrue, fsep, feq, flft}
use prog.Model.{Model}
use types.Logic.{Logic}
use types.Kit.{Goal, Seq, Step, step, Soaks, Item, ‵, raw, ◌⊛◌, some, later, ◌$◌, move, use0, use1, drop, split, join, fjoin, feq_i, feq_l, fsplit, pick, await, rewrite}
use contract.BorrowLft.{◌⊑◌}
use contract.Monad.{fact, fact_i}
use contract.Running.{Running}
use denote.Builtin.{bool, RefOf}
use denote.Memory.{hidden_shr}
use denote.Param.{bounded, param}
use denote.RattleType.{RattleType}
use denote.Ref.{Bor, shr_vals}
use denote.Signature.{Slot, plain}
use denote.Steps.{only, nothing, heard}
use denote.Triple.Spec.{triple_of}
use denote.Triple.Statement.{Contract}
use Rattle.std.proofs.alloc.Calls.{Al, seen}
use Rattle.test_alloc.specs.contracts.Budget.{the_row}
use Rattle.test_alloc.specs.contracts.Budget.inner as inner
use Rattle.test_alloc.specs.contracts.Budget.takes_block as takes_block

module _ (Z : Al) where
  -- the type of a budget over the allocator Z, as the logic sees it
  abbrev pub budget : RattleType
  budget = the_row (param 0 Z.row)

  -- the parameter `&self`
  abbrev pub self : Slot 2
  self = RefOf (0 ∷ []) tt (plain (λ _. budget)) (λ _. tt)

  -- what the impl's methods are instantiated at
  abbrev pub args : Args
  args = bounded (a_type ∷ []) (Z.row, tt) (dcons Z.d (dcons Z.drops dnil))

-- a `&self`: its lifetime κ, which ends within the allocator's ρ, a share of each one's token, and the reference
pub record Handed (Z : Al) : Type 1 where
  pub κ : Lft
  pub ρ : Lft
  pub q : Share
  pub s : Share
  pub within : κ ⊑ ρ
  pub r : Bor Z.row.Denot

module _ (Z : Al) (h : Handed Z) where
  -- what the `&` holds of the budget
  abbrev pub seen_budget : Fml
  seen_budget = hidden_shr (budget Z) h.κ h.r.now h.r.ref_ptr.0 h.r.ref_ptr.1

  module _ {M : Type 1} {𝓤 : Ura M} (𝓛 : Logic 𝓤) where
    -- the tokens, which say that both lifetimes are still alive. Each call below takes them and hands them back
    abbrev pub Tokens : Item 𝓤
    Tokens = ‵ (flft h.κ h.q) ⊛ ‵ (flft h.ρ h.s) ⊛ ‵ ftrue

    module _ (𝓜 : Model 𝓤 𝓛.H) (𝓡 : Running 𝓤 𝓛.H 𝓜) where
      -- the contracts of the two calls
      abbrev pub Inner : Contract 𝓤
      Inner = triple_of 𝓛 (inner.signature Z.row) (inner.spec Z.row 𝓛 𝓜.mem 𝓡.returns)

      abbrev pub TakesBlock : Contract 𝓤
      TakesBlock = triple_of 𝓛 (takes_block.signature Z.row) (takes_block.spec Z.row 𝓛 𝓜.mem 𝓡.returns)

      -- what both are called at: the lifetimes, the tokens' shares, and `&self`
      abbrev pub at_self : Inner.Ghost
      at_self = (((h.κ, (h.ρ, tt)), (h.q, (h.s, tt)), (h.within, tt), (h.r, tt), (shr_vals h.r, tt)), tt)

      module _ {K : Type 0} {Γ : List (Item 𝓤)} {G : Goal 𝓤 𝓛.H} where
        -- before either call: `&self` and the tokens are all that it asks for
        pub hands_self : K → h.ρ ⊑ Z.row.lives → Step K 𝓛 (raw (Inner.pre at_self) ∷ Γ) G (‵ seen_budget ∷ Tokens ∷ Γ) G
        hands_self t lives = step (λ z.
            -- what it requires: that the allocator lives as long as ρ
            nothing t $ use0 𝓛 (raw (fact 𝓤 (h.ρ ⊑ Z.row.lives))) (fact_i 𝓤 (h.ρ ⊑ Z.row.lives) (emp 𝓤) lives) $ join t $
            -- the parameter, and the tokens
            nothing t $ move t (2 ∷ []) $ feq_i t (List Val) (shr_vals h.r) (shr_vals h.r) refl $ fjoin t $ fjoin t $
            move t (2 ∷ 0 ∷ []) $ join t $ join t $ use1 𝓛 (raw (Inner.pre at_self)) (id⊢ 𝓤 _) $ z)

        -- after `inner`: a `&` to the allocator below, for the lifetime of `&self`
        pub lends_inner : K → Soaks G → (v : Val)
            → ((p : ℕ × ℕ) → v ≡ vptr p.0 p.1 → Seq K 𝓛 (‵ (seen Z h.κ p h.r.now) ∷ Tokens ∷ Γ) G)
            → Seq K 𝓛 (raw (Inner.post at_self v) ∷ Γ) G
        lends_inner t soaks v next =
            use1 𝓛 (later (some (λ (p : Bor Z.row.Denot). (Tokens ⊛ ‵ (fsep (feq (List Val) (v ∷ []) (shr_vals p)) (seen Z h.κ p.ref_ptr p.now)))
            ⊛ some (λ (_ : Unit {0} × Unit {0}). ‵ (fsep ftrue ftrue) ⊛ raw (fact 𝓤 (p.now ≡ h.r.now)))))) (id⊢ 𝓤 _) $ await t soaks $ pick t (λ p.
            split t $ split t $ move t (2 ∷ []) $ pick t (λ _. split t $ drop t $ heard t (p.now ≡ h.r.now) (λ same.
            move t (1 ∷ []) $ fsplit t $ feq_l t
            (λ is. rewrite t 0 (λ (a : Z.row.Denot). ‵ (seen Z h.κ p.ref_ptr a)) same refl $ next p.ref_ptr
            (ap only is)))))

        -- after `takes_block`: some `bool`, of which its contract says nothing
        pub answers_bool : K → Soaks G → (v : Val) → ((b : Bool) → v ≡ vbool b → Seq K 𝓛 (Tokens ∷ Γ) G)
            → Seq K 𝓛 (raw (TakesBlock.post at_self v) ∷ Γ) G
        answers_bool t soaks v next =
            use1 𝓛 (later (some (λ (b : Bool). (Tokens ⊛ ‵ (bool.own_val b (v ∷ [])))
            ⊛ some (λ (_ : Unit {0} × Unit {0}). ‵ (fsep ftrue ftrue) ⊛ ‵ ftrue)))) (id⊢ 𝓤 _) $
            await t soaks $ pick t (λ b. split t $ split t $ move t (2 ∷ []) $ drop t $ move t (1 ∷ []) $ feq_l t (λ is. next b (ap only is)))
