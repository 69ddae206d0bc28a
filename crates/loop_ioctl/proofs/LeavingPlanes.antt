-- Planes that leave a queue: DQBUF and REQBUFS, of queue and table.
use Rattle.std.proofs.Common.{◌≡◌, ℕ, zero, suc, ◌+◌, ◌==◌, Bool, true, false, ◌&&◌, nat_lt, cond, List, [], ◌∷◌, length, map, replicate, Option, Some, None, Ok, Err, refl, sym, ◌∙◌, ap, subst, arith}
use Rattle.std.specs.Prelude.{Vec, option_to_list, slice_get}
use Rattle.std.specs.List.{list_all}
use Rattle.std.proofs.lemmas.Bool.{eqb-true}
use Rattle.loop_plane.specs.Plane.{Plane}
use Rattle.loop_plane.specs.Fds.{Fds}
use Rattle.loop_plane.specs.declared.memory.Memory.{Memory}
use Rattle.loop_plane.specs.declared.memory.Memory.TheVariants.{Mmap, UserPtr, DmaBuf}
use Rattle.loop_vb2.specs.declared.buffer.Buffer.{Buffer}
use Rattle.loop_vb2.specs.declared.buffer.Dequeued.{Dequeued}
use Rattle.loop_vb2.specs.declared.planes.PlaneSet.{PlaneSet}
use Rattle.loop_vb2.specs.declared.reason.Errno.{Errno}
use Rattle.loop_vb2.specs.declared.reason.Refused.{Refused}
use Rattle.loop_vb2.specs.declared.request.Granted.{Granted}
use Rattle.loop_vb2.specs.Answers.{buffer_answer}
use Rattle.loop_vb2.specs.Buffers.{change_at, handed_over, dequeued_from}
use Rattle.loop_vb2.specs.Checks.{is_supply, grant_count, serves, request_checks}
use Rattle.loop_vb2.specs.Refusals.{request_refusal}
use Rattle.loop_vb2.specs.Planes.{read_set, read_given}
use Rattle.loop_vb2.specs.Requests.{grants_or_none, new_buffer, new_buffers, held_sets, left_in, body_requested}
use Rattle.loop_vb2.specs.State.{Body, Lined}
use Rattle.loop_vb2.specs.Events.{Happens, MayHappen, read_frame, read_grant, reqbufs, dqbuf}
use Rattle.loop_ioctl.specs.declared.call.Ioctl.TheVariants as call
use Rattle.loop_ioctl.specs.declared.call.IoctlReply.TheVariants as reply
use Rattle.loop_ioctl.specs.Names.{Names, names_in, given_back, AreAway, GivesBack}
use Rattle.loop_ioctl.proofs.Short.{values_of, values_held, names_left}
use Rattle.loop_ioctl.specs.Attached.{fd_times, values_by_fd, IsLinked}
use Rattle.loop_ioctl.specs.Calls.{read_names, planes_at, handed_out, HandsBack}
use Rattle.loop_ioctl.specs.Parts.{LetsOut, AppliesAt, AppliesOfAny}
use Rattle.loop_vb2.proofs.PassedChecks.{Passed, all_passed, true_of}
use Rattle.loop_ioctl.proofs.AttachedFds.{in_buffers, let_out, AreOnce, once_same, IsLetOut, given_once, in_more}
use Rattle.loop_ioctl.proofs.PlaneMeanings.{read_value, values_of_read, back_read, away_read}
use Rattle.loop_ioctl.proofs.QueueSteps.{stays}

-- the names, and the counts that are left
record IsLeft {P : Type 0} (m : P → Plane) (kind : Memory) (sets : List (PlaneSet Plane)) (n : ℕ → ℕ) (before : Names Plane) (after : Fds P) : Type 0 where
  names : names_left kind sets before ≡ read_names m (names_in after)
  once : AreOnce n (names_left kind sets before)

none_left : (n : ℕ → ℕ) (before : Names Plane) → AreOnce (λ x. n x + 0) before → AreOnce n before
none_left n before once = λ (x : ℕ). once_same (n x + 0) (n x) (before x) (before x) (omega arith) refl (once x)

module _ {P : Type 0} (m : P → Plane) where
  dma_left : (sets : List (PlaneSet P)) (hs : List (PlaneSet Plane)) (n : ℕ → ℕ) (a b : Fds P) (before : Names Plane)
      → before ≡ read_names m (names_in a) → GivesBack (values_of sets) a b → map (read_set m) sets ≡ hs
      → AreOnce (λ x. n x + fd_times x (values_of hs)) before → IsLeft m DmaBuf hs n before b
  dma_left sets hs n a b before is gives read once =
      let vs : values_of hs ≡ map (read_value m) (values_of sets) = ap values_of (sym read) ∙ values_of_read m sets in
      let out : IsLetOut (values_of hs) n before = given_once (values_of hs) n before once in
      let away : AreAway (map (read_value m) (values_of sets)) (read_names m (names_in a)) =
      subst (λ l. AreAway l (read_names m (names_in a))) vs (subst (λ x. AreAway (values_of hs) x) is out.away) in
      record {
        names = ap (given_back (values_of hs)) is
            ∙ (ap (λ l. given_back l (read_names m (names_in a))) vs
            ∙ (back_read m (values_of sets) (names_in a) ∙ ap (read_names m) (sym (gives (away_read m (values_of sets) (names_in a) away)))));
        once = out.once;
      }

  left : (kind : Memory) (sets : List (PlaneSet P)) (hs : List (PlaneSet Plane)) (n : ℕ → ℕ) (a b : Fds P)
      (before : Names Plane) → before ≡ read_names m (names_in a) → LetsOut kind sets a b
      → (kind ≡ DmaBuf → map (read_set m) sets ≡ hs) → AreOnce (λ x. n x + fd_times x (values_by_fd kind hs)) before
      → IsLeft m kind hs n before b
  left Mmap sets hs n a b before is lets read once = record { names = is ∙ ap (λ t. read_names m (names_in t)) (sym lets); once = none_left n before once }
  left UserPtr sets hs n a b before is lets read once = record { names = is ∙ ap (λ t. read_names m (names_in t)) (sym lets); once = none_left n before once }
  left DmaBuf sets hs n a b before is lets read once = dma_left sets hs n a b before is lets (read refl) once

-- ---- DQBUF

got : (x : Buffer Plane) (b : Buffer Plane) → Some x ≡ Some b → x.planes ≡ b.planes
got x b e = let f : x ≡ b = cc in ap (λ y. y.planes) f

pub planes_got : (bs : List (Buffer Plane)) (index : ℕ) (b : Buffer Plane) → slice_get bs index ≡ Some b
    → planes_at bs index ≡ b.planes
planes_got [] index b e = absurd (cc)
planes_got (x ∷ bs) zero b e = got x b e
planes_got (x ∷ bs) (suc index) b e = planes_got bs index b e

list_read : {P : Type 0} (m : P → Plane) (planes : Option (PlaneSet P))
    → map (read_set m) (option_to_list planes) ≡ option_to_list (read_given m planes)
list_read m None = refl
list_read m (Some set) = refl

handed_all : (kind : Memory) (planes : Option (PlaneSet Plane)) → kind ≡ DmaBuf → handed_over kind planes ≡ planes
handed_all Mmap planes e = absurd (cc)
handed_all UserPtr planes e = refl
handed_all DmaBuf planes e = refl

-- what is handed out of planes is what they mean
out_read : {P : Type 0} (m : P → Plane) (kind : Memory) (planes : Option (PlaneSet P)) (b : Option (PlaneSet Plane))
    → read_given m planes ≡ handed_over kind b → read_given m (handed_out None kind planes) ≡ handed_out None kind b
out_read m Mmap planes b e = refl
out_read m UserPtr planes b e = e
out_read m DmaBuf planes b e = refl

apart : (a b c o : ℕ) → a ≡ b + c → (b + o) + c ≡ a + o
apart a b c o e = omega arith

nothing_apart : (o : ℕ) → (0 + o) + 0 ≡ 0 + o
nothing_apart o = omega arith

-- the planes of a buffer that goes to the application are no longer the queue's
pub out_count : (bs : List (Buffer Plane)) (kind : Memory) (index o fd : ℕ)
    → (fd_times fd (values_held kind (change_at (dequeued_from kind) index bs)) + o) + fd_times fd
    (values_by_fd kind (option_to_list (planes_at bs index))) ≡ fd_times fd (values_held kind bs) + o
out_count bs Mmap index o fd = nothing_apart o
out_count bs UserPtr index o fd = nothing_apart o
out_count bs DmaBuf index o fd =
    apart (in_buffers fd bs) (in_buffers fd (change_at (dequeued_from DmaBuf) index bs))
    (fd_times fd (values_of (option_to_list (planes_at bs index)))) o
    (let_out (dequeued_from DmaBuf) index bs fd (λ b. refl))

out_once : (bs : List (Buffer Plane)) (kind : Memory) (index : ℕ) (out : List (ℕ × Plane)) (before : Names Plane)
    → AreOnce (λ fd. fd_times fd (values_held kind bs) + fd_times fd out) before
    → AreOnce (λ x. (fd_times x (values_held kind (change_at (dequeued_from kind) index bs)) + fd_times x out) +
    fd_times x (values_by_fd kind (option_to_list (planes_at bs index)))) before
out_once bs kind index out before linked =
    λ (x : ℕ). once_same (fd_times x (values_held kind bs) + fd_times x out)
    ((fd_times x (values_held kind (change_at (dequeued_from kind) index bs)) + fd_times x out) + fd_times x
    (values_by_fd kind (option_to_list (planes_at bs index)))) (before x) (before x)
    (out_count bs kind index (fd_times x out) x) refl (linked x)

module _ {P : Type 0} (m : P → Plane) where
  pub lets_one_out : (A : Type 0) (answer : Dequeued P) (told : Dequeued P) (kind : Memory) (q q' : Lined P)
      (a b : Fds P) → kind ≡ q.body.kind → Happens m q q' (dqbuf (read_frame m (Ok answer)))
      → told ≡ record answer { planes = handed_out None kind answer.planes }
      → LetsOut kind (option_to_list answer.planes) a b
      → AppliesOfAny {P = P} {A = A} m call.DqBuf (Ok (reply.Dequeued told)) q a q' b
  lets_one_out A answer told kind q q' a b is step tells lets type j stands =
      let t = step j.queue stands.queue in
      let s = j.queue in
      let k : kind ≡ s.body.kind = is ∙ ap (λ x. x.kind) stands.queue.shown.body in
      let buffer = t.0.2.0 in
      let planes : planes_at s.body.buffers answer.index ≡ buffer.planes = planes_got s.body.buffers answer.index buffer t.0.2.1 in
      let hs = option_to_list (planes_at s.body.buffers answer.index) in
      let n : ℕ → ℕ = λ x. fd_times x (values_held s.body.kind (change_at (dequeued_from s.body.kind) answer.index s.body.buffers)) + fd_times x j.out in
      let lets_here : LetsOut s.body.kind (option_to_list answer.planes) a b = subst (λ x. LetsOut x (option_to_list answer.planes) a b) k lets in
      let read : s.body.kind ≡ DmaBuf → map (read_set m) (option_to_list answer.planes) ≡ hs =
      λ (e : s.body.kind ≡ DmaBuf). list_read m answer.planes ∙ ap option_to_list
      (ap (λ x. x.planes) t.0.2.2 ∙ (handed_all s.body.kind buffer.planes e ∙ sym planes)) in
      let l : IsLeft m s.body.kind hs n j.names b = left m s.body.kind (option_to_list answer.planes) hs n a b j.names
      stands.names lets_here read (out_once s.body.buffers s.body.kind answer.index j.out j.names stands.linked) in
      subst (λ (d : Dequeued P). AppliesAt {P = P} {A = A} m j (call.DqBuf type) (Ok (reply.Dequeued d)) q' b)
      (sym (tells ∙ ap (λ x. record answer { planes = handed_out None x answer.planes }) k)) (
        (
          (
            t.0.0,
            t.0.1,
            (
              buffer,
              t.0.2.1,
              ap (λ (x : Dequeued Plane). record x { planes = handed_over s.body.kind (planes_at s.body.buffers answer.index) }) t.0.2.2
                  ∙ ap (λ (p : Option (PlaneSet Plane)). record (buffer_answer s.body.kind answer.index buffer) { planes = handed_over s.body.kind p })
                  planes,
            ),
          ),
          out_read m s.body.kind answer.planes buffer.planes (ap (λ x. x.planes) t.0.2.2) ∙ ap (handed_out None s.body.kind) (sym planes),
        ),
        record { queue = t.1; names = l.names; linked = l.once },
      )

  pub lets_none_out : {A : Type 0} (r : Refused P A) (e : Errno) (q q' : Lined P) (table : Fds P) → r.errno ≡ e
      → HandsBack None [] r → Happens m q q' (dqbuf (Err e)) → AppliesOfAny m call.DqBuf (Err r) q table q' table
  lets_none_out r e q q' table is back step type j stands = let t = step j.queue stands.queue in
      ((t.0 ∙ ap Some (sym is), back), stays m q q' table j stands t.1)

-- ---- REQBUFS

none_in_new : (count : ℕ) (fd : ℕ) → in_buffers {T = Plane} fd (replicate count (new_buffer None)) ≡ 0
none_in_new zero fd = refl
none_in_new (suc count) fd = in_more fd (new_buffer None) (replicate count (new_buffer None)) ∙ ap (λ n. 0 + n) (none_in_new count fd)

no_sets : (sets : List (PlaneSet Plane)) → (length sets == 0) ≡ true → sets ≡ []
no_sets [] e = refl
no_sets (set ∷ sets) e = absurd (omega (arith, eqb-true (length (set ∷ sets)) 0 e))

no_supply : (t u : Bool) (sets : List (PlaneSet Plane)) → cond (t && false) u (length sets == 0) ≡ true → sets ≡ []
no_supply true u sets e = no_sets sets e
no_supply false u sets e = no_sets sets e

-- a new queue of DMA-BUF memory has no planes yet
new_none : (count : ℕ) (kind : Memory) (sets : List (PlaneSet Plane)) (b : Body Plane)
    → request_refusal count kind sets b ≡ None → (fd : ℕ)
    → fd_times fd (values_held kind (body_requested count kind sets b).buffers) ≡ 0
new_none count Mmap sets b e fd = refl
new_none count UserPtr sets b e fd = refl
new_none count DmaBuf sets b e fd =
    let p : Passed (request_checks count DmaBuf sets b) = all_passed (request_checks count DmaBuf sets b) e in
    let serves_it : is_supply b.shape b.min_queued count DmaBuf sets ≡ true = true_of (is_supply b.shape b.min_queued count DmaBuf sets) p.1.1.0 in
    let none : sets ≡ [] = no_supply (nat_lt 0 count) ((length sets == grant_count b.min_queued count) && list_all (serves b.shape) sets) sets serves_it in
    ap (λ l. in_buffers fd (new_buffers (grants_or_none b.min_queued count) l)) none ∙ none_in_new (grants_or_none b.min_queued count) fd

alone : (a o : ℕ) → a ≡ 0 → a + o ≡ o
alone a o e = omega arith

new_linked : (count : ℕ) (kind : Memory) (sets : List (PlaneSet Plane)) (b : Body Plane) (out : List (ℕ × Plane))
    (n : Names Plane) → request_refusal count kind sets b ≡ None → AreOnce (λ x. fd_times x out) n
    → IsLinked (body_requested count kind sets b) out n
new_linked count kind sets b out n e once =
    λ (x : ℕ). once_same (fd_times x out)
    (fd_times x (values_held kind (body_requested count kind sets b).buffers) + fd_times x out) (n x) (n x)
    (alone (fd_times x (values_held kind (body_requested count kind sets b).buffers)) (fd_times x out)
    (new_none count kind sets b e x)) refl (once x)

left_all : (kind : Memory) (bs : List (Buffer Plane)) → kind ≡ DmaBuf → left_in kind bs ≡ held_sets bs
left_all Mmap bs e = absurd (cc)
left_all UserPtr bs e = refl
left_all DmaBuf bs e = refl

behind : (a o : ℕ) → o + a ≡ a + o
behind a o = omega arith

old_once : (bs : List (Buffer Plane)) (kind : Memory) (out : List (ℕ × Plane)) (before : Names Plane)
    → AreOnce (λ fd. fd_times fd (values_held kind bs) + fd_times fd out) before
    → AreOnce (λ x. fd_times x out + fd_times x (values_by_fd kind (held_sets bs))) before
old_once bs kind out before linked =
    λ (x : ℕ). once_same (fd_times x (values_held kind bs) + fd_times x out)
    (fd_times x out + fd_times x (values_by_fd kind (held_sets bs))) (before x) (before x)
    (behind (fd_times x (values_held kind bs)) (fd_times x out)) refl (linked x)

out_all : {P : Type 0} (m : P → Plane) (kind : Memory) (sets : List (PlaneSet P)) (bs : List (Buffer Plane))
    → map (read_set m) sets ≡ left_in kind bs → map (read_set m) (handed_out [] kind sets) ≡ handed_out [] kind
    (held_sets bs)
out_all m Mmap sets bs e = refl
out_all m UserPtr sets bs e = e
out_all m DmaBuf sets bs e = refl

module _ {P A : Type 0} (m : P → Plane) where
  pub replaces : (g told : Granted P A) (own kind : Memory) (count : ℕ) (supply : Vec (PlaneSet P) A) (q q' : Lined P)
      (a b : Fds P) → own ≡ q.body.kind
      → Happens m q q' (reqbufs count kind (map (read_set m) supply.items) (read_grant m (Ok g)))
      → told.count ≡ g.count → told.left.items ≡ handed_out [] own g.left.items → LetsOut own g.left.items a b
      → AppliesOfAny m (λ type. call.ReqBufs type count kind supply) (Ok (reply.Granted told)) q a q' b
  replaces g told own kind count supply q q' a b is step counts leaves lets type j stands =
      let t = step j.queue stands.queue in
      let s = j.queue in
      let k : own ≡ s.body.kind = is ∙ ap (λ x. x.kind) stands.queue.shown.body in
      let lets_here : LetsOut s.body.kind g.left.items a b = subst (λ x. LetsOut x g.left.items a b) k lets in
      let l : IsLeft m s.body.kind (held_sets s.body.buffers) (λ x. fd_times x j.out) j.names b =
      left m s.body.kind g.left.items (held_sets s.body.buffers) (λ x. fd_times x j.out) a b j.names stands.names
      lets_here (λ (e : s.body.kind ≡ DmaBuf). t.0.2 ∙ left_all s.body.kind s.body.buffers e)
      (old_once s.body.buffers s.body.kind j.out j.names stands.linked) in
      let after = names_left s.body.kind (held_sets s.body.buffers) j.names in (
        (
          (t.0.0, counts ∙ t.0.1, refl),
          ap (map (read_set m)) (leaves ∙ ap (λ x. handed_out [] x g.left.items) k)
              ∙ out_all m s.body.kind g.left.items s.body.buffers t.0.2,
        ),
        record {
          queue = t.1;
          names = l.names;
          linked = new_linked count kind (map (read_set m) supply.items) s.body j.out after t.0.0 l.once;
        },
      )

  pub replaces_not : (r r' : Refused P A) (kind : Memory) (count : ℕ) (supply : Vec (PlaneSet P) A) (q q' : Lined P)
      (table : Fds P) → r'.errno ≡ r.errno → HandsBack None supply.items r'
      → Happens m q q' (reqbufs count kind (map (read_set m) supply.items) (Err r.errno))
      → AppliesOfAny m (λ type. call.ReqBufs type count kind supply) (Err r') q table q' table
  replaces_not r r' kind count supply q q' table is back step type j stands =
      let t = step j.queue stands.queue in (
        (
          subst (λ x. MayHappen j.queue (reqbufs count kind (map (read_set m) supply.items) (Err x))) (sym is) t.0,
          back,
        ),
        stays m q q' table j stands t.1,
      )
