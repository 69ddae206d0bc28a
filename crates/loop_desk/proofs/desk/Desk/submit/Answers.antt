use Rattle.std.proofs.Common.{◌≡◌, ◌≢◌, ℕ, ◌+◌, ◌<◌, Ok, Err, [], ◌∷◌, ◌++◌, length, refl, sym, ap, ◌∙◌, subst, arith}
use Rattle.std.proofs.lemmas.List.{length-append, length-map, map-append}
use Rattle.circular_buffer.specs.Buffer.{Buffer, buffer}
use Rattle.loop_record.specs.declared.frame.Frame.{Frame}
use Rattle.loop_record.specs.Geometry.{frame_bytes}
use Rattle.loop_record.specs.Plain.{pictures}
use Rattle.loop_record.specs.Recording.{last_number, picture, ring_of}
use Rattle.loop_desk.specs.Desk.{DeskState, submit_answer, submitted}
use Rattle.loop_store.specs.Reopen.{TellsOne}
use Rattle.loop_desk.specs.Seen.{DeskGoes, IsDesk, SeenDesk, TellsDesk, rules_of}
use Rattle.loop_desk.proofs.OneCall.{goes-submit}
use Rattle.loop_desk.proofs.Always.{below, keep-all, kept-pushed}
use Rattle.loop_desk.proofs.desk.Desk.submit.Goals as goal

pub invariant_of-self : goal.invariant_of-self
invariant_of-self g c =
    let s = c.self.inside in
    let d : SeenDesk g.row.D.Denot = record { store = s.store; pending = pictures s.pending.items; limits = s.limits } in
    let count = length-map s.pending.items picture in
    let e = c.in-Ok.ensures in
    let size : length c.args.frame.bytes.items ≡ frame_bytes s.store.geometry =
    subst (λ (v : SeenDesk g.row.D.Denot). length c.args.frame.bytes.items ≡ frame_bytes v.store.geometry)
    (sym c.self.view_is) e.size in
    let other : length d.pending ≢ s.limits.pending = subst (λ (v : SeenDesk g.row.D.Denot). length v.pending ≢ v.limits.pending) (sym c.self.view_is) e.room in
    let unspent : s.store.next + length d.pending ≢ last_number (ring_of s.store.geometry) =
    subst (λ (v : SeenDesk g.row.D.Denot). v.store.next + length v.pending ≢ last_number
    (ring_of v.store.geometry)) (sym c.self.view_is) e.low in
    let room : length s.pending.items < s.pending.capacity = below (length s.pending.items) s.pending.capacity
    (omega (arith, c.self.invariant.few, c.self.invariant.capacity))
    (λ same. other (count ∙ same ∙ c.self.invariant.capacity)) in
    let low : s.store.next + length s.pending.items < last_number (ring_of s.store.geometry) =
    below (s.store.next + length s.pending.items) (last_number (ring_of s.store.geometry))
    c.self.invariant.numbers (λ same. unspent (ap (λ (k : ℕ). s.store.next + k) count ∙ same)) in
    let kept = keep-all s.pending.capacity (s.pending.items ++ c.args.frame ∷ []) (omega (arith, room, length-append s.pending.items (c.args.frame ∷ []))) in
    subst (λ (b : Buffer (Frame g.row.A.Denot)). IsDesk s.store s.limits b) (sym (c.push_back.ensures.items ∙ ap (λ l. buffer l s.pending.capacity) kept))
    (kept-pushed s.store s.limits s.pending c.args.frame c.self.invariant room low size)

pub returns-in-Ok-clause-goes : goal.returns-in-Ok-clause-goes
returns-in-Ok-clause-goes g c =
    let s = c.self.inside in
    let d : SeenDesk g.row.D.Denot = record { store = s.store; pending = pictures s.pending.items; limits = s.limits } in
    let n = length c.args.frame.bytes.items in
    let count = length-map s.pending.items picture in
    let other : length d.pending ≢ s.limits.pending =
    subst (λ (v : SeenDesk g.row.D.Denot). length v.pending ≢ v.limits.pending)
    (sym c.self.view_is) c.in-Ok.ensures.room in
    let room : length s.pending.items < s.pending.capacity = below (length s.pending.items) s.pending.capacity
    (omega (arith, c.self.invariant.few, c.self.invariant.capacity))
    (λ same. other (count ∙ same ∙ c.self.invariant.capacity)) in
    let kept = keep-all s.pending.capacity (s.pending.items ++ c.args.frame ∷ []) (omega (arith, room, length-append s.pending.items (c.args.frame ∷ []))) in
    let waits : pictures c.push_back.new.self.items ≡ d.pending ++ picture c.args.frame ∷ [] =
    ap (λ (b : Buffer (Frame g.row.A.Denot)). pictures b.items)
    (c.push_back.ensures.items ∙ ap (λ l. buffer l s.pending.capacity) kept) ∙ map-append picture s.pending.items
    (c.args.frame ∷ []) in
    let answer = subst (λ (v : SeenDesk g.row.D.Denot). (s : DeskState) → TellsDesk v s
    → c.number_for.result ≡ submit_answer (rules_of v) s n) (sym c.self.view_is) c.number_for.ensures.answer in
    subst (λ (v : SeenDesk g.row.D.Denot). DeskGoes g.D.Disk.medium v
    (record { store = s.store; pending = pictures c.push_back.new.self.items; limits = s.limits })
    (submitted (picture c.args.frame) n (Ok c.in-Ok.number) ∷ [])) c.self.view_is
    (goes-submit g.D.Disk.medium d (pictures c.push_back.new.self.items) (picture c.args.frame) n
    (Ok c.in-Ok.number) c.a_store_tells.ensures (λ now. g.met.D.Disk.sound s.store.disk now)
    (λ t at. sym c.in-Ok.is ∙ answer t at) waits)

pub returns-in-Err-clause-goes : goal.returns-in-Err-clause-goes
returns-in-Err-clause-goes g c =
    let d = c.args.self.now in
    goes-submit g.D.Disk.medium d d.pending (picture c.args.frame) (length c.args.frame.bytes.items)
    (Err c.in-Err.fault) (subst (λ (v : SeenDesk g.row.D.Denot). TellsOne v.store) c.self.view_is
    c.a_store_tells.ensures) (λ now. g.met.D.Disk.sound d.store.disk now)
    (λ t at. sym c.in-Err.is ∙ c.number_for.ensures.answer t at) refl
