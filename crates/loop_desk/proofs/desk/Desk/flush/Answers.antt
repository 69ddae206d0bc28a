use Rattle.std.proofs.Common.{◌≡◌, ℕ, ◌+◌, ◌-◌, ◌<◌, ◌≤◌, min, false, Result, Ok, Err, List, [], ◌∷◌, length, take, drop, refl, sym, ap, ◌∙◌, subst, arith}
use Rattle.std.proofs.lemmas.List.{length-map, take-map, drop-map}
use Rattle.std.specs.List.{refill}
use Rattle.circular_buffer.specs.Buffer.{Buffer, buffer}
use Rattle.loop_record.specs.declared.frame.Frame.{Frame}
use Rattle.loop_record.specs.Plain.{pictures}
use Rattle.loop_record.specs.Recording.{Picture, picture}
use Rattle.loop_store.specs.Calls.{appended}
use Rattle.loop_store.specs.Goes.{Goes}
use Rattle.loop_store.specs.Seen.{Refused}
use Rattle.loop_store.specs.declared.fault.StoreFault.{StoreFault}
use Rattle.loop_store.proofs.NextNumber.{next-one}
use Rattle.loop_desk.specs.declared.limits.Flushed.{Flushed}
use Rattle.loop_desk.specs.Desk.{flushed}
use Rattle.loop_desk.specs.Seen.{DeskGoes, IsDesk, SeenDesk}
use Rattle.loop_desk.proofs.OneCall.{IsGroup, flush-none, flush-refused, flush-stored}
use Rattle.loop_desk.proofs.Always.{kept-flushed, none-of, refused-as, stored-size}
use Rattle.loop_desk.proofs.desk.Desk.flush.Goals as goal

-- a group that has a frame comes of frames that wait
some-waits : (most count waiting : ℕ) (pending : List Picture) → 0 < count → count ≡ min most waiting
    → waiting ≡ length pending → pending ≡ [] → ⊥
some-waits most count waiting pending some counted waits none = omega (arith, some, counted, waits, ap length none)

pub returns-then-count-eq0 : goal.returns-then-count-eq0
returns-then-count-eq0 g c =
    let s = c.self.inside in
    let d : SeenDesk g.row.D.Denot = record { store = s.store; pending = pictures s.pending.items; limits = s.limits } in
    let fine : s.store.must_reopen ≡ false = sym c.must_reopen.ensures ∙ c.if-must_reopen.false in
    let count : length s.pending.items ≡ 0 =
    omega (
      arith,
      c.if-count-eq0.true,
      c.min-count.ensures,
      c.min-most.ensures,
      c.room.ensures.some,
      c.self.invariant.group.0,
      c.len-waiting.ensures.len,
    ) in
    let none : pictures s.pending.items ≡ [] = ap pictures (none-of s.pending.items count) in
    record {
      goes = subst (λ (v : SeenDesk g.row.D.Denot). DeskGoes g.D.Disk.medium v v
          (flushed (Ok (record { first = c.next.result; stored = 0; left = 0 })) ∷ [])) c.self.view_is
          (flush-none g.D.Disk.medium d c.next.result c.next.ensures.next none fine c.a_store_tells.ensures (λ now. g.met.D.Disk.sound s.store.disk now));
      refused = tt;
      idle = λ waits. refl;
    }

pub invariant_of-self : goal.invariant_of-self
invariant_of-self g c =
    let s = c.self.inside in
    let items = s.pending.items in
    let count = c.min-count.result in
    let frames = c.make_contiguous.result.now in
    let same : refill (length items) items frames ≡ items = c.make_contiguous.ensures.same_len frames
    (ap length c.make_contiguous.ensures.value) ∙ c.make_contiguous.ensures.value in
    let few : count ≤ c.len-waiting.result = omega (arith, c.min-count.ensures) in
    let left : drop count (refill (length items) items frames) ≡ drop count items = ap (drop count) same in
    let goes : Goes g.D.Disk.medium s.store c.append_first.new.store
    (appended (pictures (take count frames)) (Ok c.in-Ok.first) ∷ []) =
    subst (λ (x : Result ℕ StoreFault). Goes g.D.Disk.medium s.store c.append_first.new.store
    (appended (pictures (take count frames)) x ∷ [])) c.in-Ok.is c.append_first.ensures.goes in
    let size : length (pictures (take count frames)) ≡ count =
    stored-size count items frames c.make_contiguous.ensures.value (omega (arith, few, c.len-waiting.ensures.len))
    in
    let next = next-one s.store c.append_first.new.store (appended (pictures (take count frames)) (Ok c.in-Ok.first))
    goes ∙ ap (λ (n : ℕ). s.store.next + n) size in
    subst (λ (b : Buffer (Frame g.row.A.Denot)). IsDesk c.append_first.new.store s.limits b)
    (sym (c.set_aside.ensures ∙ ap (λ l. buffer l s.pending.capacity) left))
    (kept-flushed s.store c.append_first.new.store s.limits s.pending count c.self.invariant goes.geometry next (omega (arith, few, c.len-waiting.ensures.len)))

pub returns-in-Ok : goal.returns-in-Ok
returns-in-Ok g c =
    let s = c.self.inside in
    let d : SeenDesk g.row.D.Denot = record { store = s.store; pending = pictures s.pending.items; limits = s.limits } in
    let items = s.pending.items in
    let frames = c.make_contiguous.result.now in
    let count = c.min-count.result in
    let waiting : c.len-waiting.result ≡ length d.pending = c.len-waiting.ensures.len ∙ sym (length-map items picture) in
    let group : IsGroup g.D.Disk.medium d c.min-most.result count = record {
      least = c.min-most.ensures ∙ ap (min s.limits.group) c.room.ensures.room;
      counted = c.min-count.ensures ∙ ap (min c.min-most.result) waiting;
      some = omega (arith, c.if-count-eq0.false);
    } in
    let first : pictures (take count frames) ≡ take count d.pending =
    ap (λ l. pictures (take count l)) c.make_contiguous.ensures.value ∙ sym (take-map picture count items) in
    let goes : Goes g.D.Disk.medium s.store c.append_first.new.store
    (appended (pictures (take count frames)) (Ok c.in-Ok.first) ∷ []) =
    subst (λ (x : Result ℕ StoreFault). Goes g.D.Disk.medium s.store c.append_first.new.store
    (appended (pictures (take count frames)) x ∷ [])) c.in-Ok.is c.append_first.ensures.goes in
    let same : refill (length items) items frames ≡ items = c.make_contiguous.ensures.same_len frames
    (ap length c.make_contiguous.ensures.value) ∙ c.make_contiguous.ensures.value in
    let few : count ≤ c.len-waiting.result = omega (arith, c.min-count.ensures) in
    let left : drop count (refill (length items) items frames) ≡ drop count items = ap (drop count) same in
    let pending : drop count d.pending ≡ pictures c.set_aside.new.pending.items =
    sym (ap (λ (b : Buffer (Frame g.row.A.Denot)). pictures b.items) c.set_aside.ensures ∙ ap pictures left
    ∙ sym (drop-map picture count items)) in
    record {
      goes = subst (λ (v : SeenDesk g.row.D.Denot). DeskGoes g.D.Disk.medium v
          (record {
            store = c.append_first.new.store;
            pending = pictures c.set_aside.new.pending.items;
            limits =
                s.limits;
          }) (flushed (Ok (record {
            first = c.in-Ok.first;
            stored = count;
            left =
                c.len-waiting.result - count;
          })) ∷ [])) c.self.view_is
          (subst (λ (l : List Picture). DeskGoes g.D.Disk.medium d
          (record { store = c.append_first.new.store; pending = l; limits = s.limits })
          (flushed (Ok (record { first = c.in-Ok.first; stored = count; left = c.len-waiting.result - count }))
          ∷ [])) pending
          (flush-stored g.D.Disk.medium d c.append_first.new.store c.min-most.result count c.in-Ok.first c.len-waiting.result group waiting
          (subst (λ (l : List Picture). Goes g.D.Disk.medium s.store c.append_first.new.store (appended l (Ok c.in-Ok.first) ∷ [])) first goes)));
      refused = tt;
      idle = λ none. absurd (some-waits c.min-most.result count c.len-waiting.result c.args.self.now.pending
          group.some c.min-count.ensures
          (waiting ∙ ap (λ (v : SeenDesk g.row.D.Denot). length v.pending) c.self.view_is) none);
    }

pub returns-in-Err : goal.returns-in-Err
returns-in-Err g c =
    let s = c.self.inside in
    let d : SeenDesk g.row.D.Denot = record { store = s.store; pending = pictures s.pending.items; limits = s.limits } in
    let items = s.pending.items in
    let frames = c.make_contiguous.result.now in
    let count = c.min-count.result in
    let waiting : c.len-waiting.result ≡ length d.pending = c.len-waiting.ensures.len ∙ sym (length-map items picture) in
    let group : IsGroup g.D.Disk.medium d c.min-most.result count = record {
      least = c.min-most.ensures ∙ ap (min s.limits.group) c.room.ensures.room;
      counted = c.min-count.ensures ∙ ap (min c.min-most.result) waiting;
      some = omega (arith, c.if-count-eq0.false);
    } in
    let first : pictures (take count frames) ≡ take count d.pending =
    ap (λ l. pictures (take count l)) c.make_contiguous.ensures.value ∙ sym (take-map picture count items) in
    let goes : Goes g.D.Disk.medium s.store c.append_first.new.store
    (appended (pictures (take count frames)) (Err c.in-Err.fault) ∷ []) =
    subst (λ (x : Result ℕ StoreFault). Goes g.D.Disk.medium s.store c.append_first.new.store
    (appended (pictures (take count frames)) x ∷ [])) c.in-Err.is c.append_first.ensures.goes in
    let same : refill (length items) items frames ≡ items = c.make_contiguous.ensures.same_len frames
    (ap length c.make_contiguous.ensures.value) ∙ c.make_contiguous.ensures.value in
    record {
      goes = subst (λ (v : SeenDesk g.row.D.Denot). DeskGoes g.D.Disk.medium v
          (record {
            store = c.append_first.new.store;
            pending = pictures (refill (length items) items frames);
            limits = s.limits;
          }) (flushed (Err c.in-Err.fault) ∷ [])) c.self.view_is
          (subst (λ (l : List Picture). DeskGoes g.D.Disk.medium d
          (record { store = c.append_first.new.store; pending = l; limits = s.limits })
          (flushed (Err c.in-Err.fault) ∷ [])) (sym (ap pictures same))
          (flush-refused g.D.Disk.medium d c.append_first.new.store c.min-most.result count c.in-Err.fault group
          (subst (λ (l : List Picture). Goes g.D.Disk.medium s.store c.append_first.new.store (appended l (Err c.in-Err.fault) ∷ [])) first goes)));
      refused = subst (λ (v : SeenDesk g.row.D.Denot). Refused {T = Flushed} v.store c.append_first.new.store (Err c.in-Err.fault)) c.self.view_is
          (refused-as ℕ Flushed s.store c.append_first.new.store c.in-Err.fault
          (subst (λ (x : Result ℕ StoreFault). Refused s.store c.append_first.new.store x) c.in-Err.is
          c.append_first.ensures.refused));
      idle = λ none. absurd (some-waits c.min-most.result count c.len-waiting.result c.args.self.now.pending
          group.some c.min-count.ensures
          (waiting ∙ ap (λ (v : SeenDesk g.row.D.Denot). length v.pending) c.self.view_is) none);
    }
