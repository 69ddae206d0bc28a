use Rattle.std.specs.Prelude.{OnErr}
use Rattle.loop_store.specs.declared.fault.StoreFault.{StoreFault}
use Rattle.loop_store.specs.Reopen.{TellsOne}
use Rattle.std.proofs.Common.{◌≡◌, ℕ, IfErr, Result, [], length, sym, ap, ◌∙◌, subst}
use Rattle.loop_disk.specs.declared.memory.MemDisk.{MemDisk}
use Rattle.loop_record.specs.Geometry.{frame_bytes}
use Rattle.loop_record.specs.Recording.{picture}
use Rattle.loop_desk.specs.Seen.{DeskGoes, SeenDesk, answer_of}
use Rattle.loop_desk.proofs.CallRuns.{desk-none}
use Rattle.loop_script.specs.Pattern.{pattern_picture}
use Rattle.loop_script.specs.Sessions.{IsSession, RefusesFrame, Shown, accepted_after, calls_of_submit}
use Rattle.loop_script.proofs.DeskCalls.{accepted-refused, memory, memory-sound, submit-goes}
use Rattle.loop_script.proofs.SessionLaws.{kept-submit, submit-refusals, submit-same}
use Rattle.loop_script.proofs.session.ScriptDesk.submit_next.Given.{Over}
use Rattle.loop_script.proofs.session.ScriptDesk.submit_next.Goals as goal
use Rattle.loop_script.proofs.session.ScriptDesk.submit_next.Goals.{in-Ok-submit, in-Err-submit}

-- a desk is the same after its spare memory was taken
pub returns-in-Err-clause-goes : goal.returns-in-Err-clause-goes
returns-in-Err-clause-goes g c =
    let d = c.args.self.now.desk in
    let same : c.next_frame.new.desk ≡ d = c.next_frame.ensures.same ∙ ap (λ (s : Shown (MemDisk g.row.A.Denot)). s.desk) c.self.view_is in
    subst (λ (x : SeenDesk (MemDisk g.row.A.Denot)). DeskGoes memory d x []) (sym same)
    (desk-none memory d (subst (λ (v : Shown (MemDisk g.row.A.Denot)). TellsOne v.desk.store) c.self.view_is
    c.opens.ensures.tells) (λ now. memory-sound d.store.disk))

pub invariant_of-self : goal.invariant_of-self
invariant_of-self g c = subst (λ (x : SeenDesk (MemDisk g.row.A.Denot)). IsSession x) (sym c.next_frame.ensures.same) c.self.invariant

pub invariant_of-self-in-Ok-submit : goal.invariant_of-self-in-Ok-submit
invariant_of-self-in-Ok-submit g c =
    let bytes = c.in-Ok.frame.bytes.items in
    let kept = subst (λ (x : SeenDesk (MemDisk g.row.A.Denot)). IsSession x) (sym c.next_frame.ensures.same) c.self.invariant in
    kept-submit c.next_frame.new.desk c.submit.new.self (picture c.in-Ok.frame) (length bytes) (answer_of c.submit.result) c.submit.ensures.goes kept

pub invariant_of-self-in-Err-submit : goal.invariant_of-self-in-Err-submit
invariant_of-self-in-Err-submit g c =
    let bytes = c.in-Ok.frame.bytes.items in
    let kept = subst (λ (x : SeenDesk (MemDisk g.row.A.Denot)). IsSession x) (sym c.next_frame.ensures.same) c.self.invariant in
    kept-submit c.next_frame.new.desk c.submit.new.self (picture c.in-Ok.frame) (length bytes) (answer_of c.submit.result) c.submit.ensures.goes kept

pub returns-clause-goes : goal.returns-clause-goes
returns-clause-goes g c =
    let d = c.self.inside.desk in
    let taken = c.next_frame.new.desk in
    let same : taken ≡ d = c.next_frame.ensures.same in
    let n = c.self.inside.accepted in
    let f = c.in-Ok.frame in
    let size = length f.bytes.items in
    let shown : picture f ≡ pattern_picture taken.store.geometry n = c.in-Ok.ensures.picture
    ∙ ap (λ (x : SeenDesk (MemDisk g.row.A.Denot)). pattern_picture x.store.geometry n) (sym same) in
    let bytes : size ≡ frame_bytes taken.store.geometry = c.in-Ok.ensures.size
    ∙ ap (λ (x : SeenDesk (MemDisk g.row.A.Denot)). frame_bytes x.store.geometry) (sym same) in
    subst (λ (v : Shown (MemDisk g.row.A.Denot)). DeskGoes memory v.desk c.match-submit.self.desk
    (calls_of_submit v.desk.store.geometry v.accepted c.match-submit.result)) c.self.view_is
    (subst (λ (x : SeenDesk (MemDisk g.row.A.Denot)). DeskGoes memory x c.match-submit.self.desk
    (calls_of_submit x.store.geometry n c.match-submit.result)) same
    (elim c.match-submit.branch [
      | in-Ok-submit w ↦ submit-goes taken c.submit.new.self c.match-submit.self.desk n size (picture f)
          (answer_of c.submit.result) c.match-submit.result c.submit.ensures.goes shown bytes
          (ap (λ (s : Shown (MemDisk g.row.A.Denot)). s.desk) w.self-is) (w.result-is ∙ sym (ap answer_of w.in-Ok-submit.is))
      | in-Err-submit w ↦ submit-goes taken c.submit.new.self c.match-submit.self.desk n size (picture f)
          (answer_of c.submit.result) c.match-submit.result c.submit.ensures.goes shown bytes
          (ap (λ (s : Shown (MemDisk g.row.A.Denot)). s.desk) w.self-is) (w.result-is ∙ sym (ap answer_of w.in-Err-submit.is))
    ]))

-- why the desk refused the frame
desk-refusals : (g : Over) (c : goal.Joined-submit-2 g) → IfErr (answer_of c.submit.result) RefusesFrame
desk-refusals g c =
    let taken = c.next_frame.new.desk in
    let f = c.in-Ok.frame in
    let kept = subst (λ (x : SeenDesk (MemDisk g.row.A.Denot)). IsSession x) (sym c.next_frame.ensures.same) c.self.invariant in
    let bytes : length f.bytes.items ≡ frame_bytes taken.store.geometry = c.in-Ok.ensures.size
    ∙ ap (λ (x : SeenDesk (MemDisk g.row.A.Denot)). frame_bytes x.store.geometry) (sym c.next_frame.ensures.same) in
    submit-refusals taken c.submit.new.self (picture f) (length f.bytes.items) (answer_of c.submit.result) c.submit.ensures.goes bytes kept

pub returns-clause-refusals : goal.returns-clause-refusals
returns-clause-refusals g c =
    let refusals = desk-refusals g c in
    elim c.match-submit.branch [
      | in-Ok-submit w ↦ subst (λ (x : Result ℕ StoreFault). IfErr x RefusesFrame) (sym (w.result-is ∙ sym (ap answer_of w.in-Ok-submit.is))) refusals
      | in-Err-submit w ↦ subst (λ (x : Result ℕ StoreFault). IfErr x RefusesFrame) (sym (w.result-is ∙ sym (ap answer_of w.in-Err-submit.is))) refusals
    ]

pub returns-clause-unchanged : goal.returns-clause-unchanged
returns-clause-unchanged g c =
    let taken = c.next_frame.new.desk in
    let f = c.in-Ok.frame in
    let same = submit-same taken c.submit.new.self (picture f) (length f.bytes.items) (answer_of c.submit.result) c.submit.ensures.goes c.submit.ensures.same in
    let Same = ◌≡◌ {A = Shown (MemDisk g.row.A.Denot)} (record { desk = c.match-submit.self.desk; accepted = c.match-submit.self.accepted }) c.args.self.now in
    elim c.match-submit.branch [
      | in-Ok-submit w ↦ subst (λ (x : Result ℕ StoreFault). OnErr x Same) (sym w.result-is) tt
      | in-Err-submit w ↦
          let back = subst (λ (x : Result ℕ StoreFault). OnErr x (c.submit.new.self ≡ taken)) (ap answer_of w.in-Err-submit.is) same in
          let desk = ap (λ (s : Shown (MemDisk g.row.A.Denot)). s.desk) w.self-is ∙ back ∙ c.next_frame.ensures.same in
          let count = ap (λ (s : Shown (MemDisk g.row.A.Denot)). s.accepted) w.self-is in
          subst (λ (x : Result ℕ StoreFault). OnErr x Same) (sym w.result-is) ((λ i. record { desk = desk i; accepted = count i }) ∙ c.self.view_is)
    ]

pub returns-clause-accepted : goal.returns-clause-accepted
returns-clause-accepted g c =
    let refusals = desk-refusals g c in
    elim c.match-submit.branch [
      | in-Ok-submit w ↦ ap (λ (s : Shown (MemDisk g.row.A.Denot)). s.accepted) w.self-is
          ∙ w.saturating_add-self-inside.ensures
          ∙ (λ i. accepted_after {T = ℕ} (c.self.view_is i).accepted (sym w.result-is i))
      | in-Err-submit w ↦
          let refuses = subst (λ (x : Result ℕ StoreFault). IfErr x RefusesFrame) (ap answer_of w.in-Err-submit.is) refusals in
          ap (λ (s : Shown (MemDisk g.row.A.Denot)). s.accepted) w.self-is
          ∙ accepted-refused c.self.inside.accepted w.in-Err-submit.fault refuses
          ∙ (λ i. accepted_after {T = ℕ} (c.self.view_is i).accepted (sym w.result-is i))
    ]
