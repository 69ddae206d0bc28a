-- Commands of a list, one after the other.
use Rattle.std.proofs.Common.{◌≡◌, ℕ, ◌+◌, ◌<◌, ◌≤◌, List, [], ◌∷◌, ◌++◌, length, take, get_or, sym, ◌∙◌, subst}
use Rattle.std.proofs.lemmas.List.{take_all, take_more}
use Rattle.loop_disk.specs.Medium.{Medium, IsSound}
use Rattle.loop_store.specs.declared.command.Command.{Command}
use Rattle.loop_store.specs.declared.command.Reply.{Reply}
use Rattle.loop_store.specs.Calls.{Call}
use Rattle.loop_store.specs.Goes.{Goes}
use Rattle.loop_store.specs.Reopen.{TellsOne}
use Rattle.loop_store.specs.Runs.{AreCalls, IsCall, Ran}
use Rattle.loop_store.specs.Seen.{Seen}
use Rattle.loop_store.proofs.CallRuns.{goes-joined, goes-none}

calls-more : {A : Type 0} (cs : List (Command A)) (ps : List (Reply A)) (calls : List Call) (c : Command A)
    (p : Reply A) (call : Call) → AreCalls cs ps calls → IsCall c p call → AreCalls (cs ++ c ∷ []) (ps ++ p ∷ [])
    (calls ++ call ∷ [])
calls-more [] [] [] c p call are is = (is, tt)
calls-more (d ∷ cs) (q ∷ ps) (one ∷ calls) c p call are is = (are.0, calls-more cs ps calls c p call are.1 is)
calls-more [] [] (one ∷ calls) c p call are is = elim are [ ]
calls-more [] (q ∷ ps) calls c p call are is = elim are [ ]
calls-more (d ∷ cs) [] calls c p call are is = elim are [ ]
calls-more (d ∷ cs) (q ∷ ps) [] c p call are is = elim are [ ]

-- no command yet
pub ran-none : {D A : Type 0} (medium : D → Medium) (store : Seen D) (ps : List (Reply A)) → ps ≡ [] → TellsOne store
    → ((medium store.disk).honest → IsSound (medium store.disk)) → Ran {A = A} medium store store [] ps
ran-none {A = A} medium store ps none one sound = subst (λ (x : List (Reply A)). Ran {A = A} medium store store [] x)
    (sym none) (record { calls = []; are = tt; goes = goes-none medium store one sound })

-- one more
pub ran-more : {D A : Type 0} (medium : D → Medium) (old now new : Seen D) (cs : List (Command A))
    (ps more : List (Reply A)) (i : ℕ) (c : Command A) (p : Reply A) → i < length cs → c ≡ get_or cs i c → more ≡ ps
    ++ p ∷ [] → Ran medium old now (take i cs) ps
    → (call : Call) × (IsCall c p call × Goes medium now new (call ∷ [])) → Ran medium old new (take (i + 1) cs) more
ran-more {A = A} medium old now new cs ps more i c p below is pushed ran one =
    let front : take (i + 1) cs ≡ take i cs ++ c ∷ [] = take_more cs i c below ∙ (λ k. take i cs ++ sym is k ∷ []) in
    subst (λ (x : List (Reply A)). Ran medium old new (take (i + 1) cs) x) (sym pushed)
    (subst (λ (x : List (Command A)). Ran medium old new x (ps ++ p ∷ [])) (sym front)
    (record {
      calls = ran.calls ++ one.0 ∷ [];
      are = calls-more (take i cs) ps ran.calls c p one.0 ran.are one.1.0;
      goes = goes-joined medium old now new ran.calls (one.0 ∷ []) ran.goes one.1.1;
    }))

-- all of them
pub ran-all : {D A : Type 0} (medium : D → Medium) (old now : Seen D) (cs : List (Command A)) (ps : List (Reply A))
    (i : ℕ) → length cs ≤ i → Ran medium old now (take i cs) ps → Ran medium old now cs ps
ran-all {A = A} medium old now cs ps i end ran = subst (λ (x : List (Command A)). Ran medium old now x ps) (take_all i cs end) ran
