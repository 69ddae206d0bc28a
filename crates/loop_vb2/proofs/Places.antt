-- A set of planes is in one place, before and after an event.
use Rattle.std.proofs.Common.{◌≡◌, ℕ, zero, suc, ◌+◌, ◌<◌, Bool, true, false, cond, List, [], ◌∷◌, ◌++◌, length, map, replicate, Option, Some, None, option_map, Ok, Err, refl, sym, ◌∙◌, ap, arith}
use Rattle.std.proofs.lemmas.List.Sums.{sum_by-append}
use Rattle.std.specs.Prelude.{count_by, option_to_list, slice_get, is_some}
use Rattle.loop_plane.specs.Plane.{Plane}
use Rattle.loop_plane.specs.declared.memory.Memory.{Memory}
use Rattle.loop_plane.specs.declared.memory.Memory.TheVariants.{Mmap, UserPtr, DmaBuf}
use Rattle.loop_vb2.specs.declared.buffer.Buffer.{Buffer}
use Rattle.loop_vb2.specs.declared.planes.PlaneSet.{PlaneSet}
use Rattle.loop_vb2.specs.declared.planes.Shape.{Shape}
use Rattle.loop_vb2.specs.Buffers.{change_at, holds_at, handed_over, prepared_with, queued_with, failed_with, dequeued_from, wake_buffer, stop_buffer}
use Rattle.loop_vb2.proofs.Short.{completed_with, mapped_as, kept, without_planes}
use Rattle.loop_vb2.specs.Refusals.{queue_refusal, prepare_refusal}
use Rattle.loop_vb2.specs.Effects.{device_runs, awake, settle_device, with_buffer, body_streaming}
use Rattle.loop_vb2.specs.Planes.{same_memory, set_filled}
use Rattle.loop_vb2.specs.Requests.{grants_or_none, held_sets, left_in, new_buffer, new_buffers}
use Rattle.loop_vb2.specs.State.{Body, QueueState}
use Rattle.loop_vb2.specs.Events.{Event, MayHappen, after_event, reqbufs, prepare_buf, qbuf, dqbuf, streamon, streamoff, querybuf, mmap, munmap, take_planes, copy_plane, complete, fail, fatal, take_fresh}
use Rattle.loop_vb2.specs.Laws.{IsBlindTo, LeavesNone, SetsAreInOnePlace, brought_by, handed_by, dropped_by}
use Rattle.loop_vb2.proofs.FrameOrder.{not_refused}
use Rattle.loop_vb2.proofs.Steps.{queue_within, queue_empty, prepare_within, prepare_empty, take_within, held_there}
use Rattle.loop_vb2.proofs.Owners.{first_is_ended}

-- ---- counts

moved : (x y n gone got : ℕ) → x + gone ≡ y + got → (x + n) + gone ≡ (y + n) + got
moved x y n gone got e = omega arith

further : (x c n gone got : ℕ) → c + gone ≡ n + got → (x + c) + gone ≡ (x + n) + got
further x c n gone got e = omega arith

last : (n gone got before : ℕ) → n + gone ≡ before + got → n + (gone + 0) ≡ before + got
last n gone got before e = omega arith

nothing_first : (n : ℕ) → 0 + n ≡ n
nothing_first n = omega arith

still : (n m : ℕ) → n ≡ m → n + (0 + 0) ≡ m + 0
still n m e = omega arith

nothing : (n : ℕ) → n + 0 ≡ n
nothing n = omega arith

zeros : (n : ℕ) → 0 + n ≡ n + 0
zeros n = omega arith

module _ (test : PlaneSet Plane → Bool) where
  -- the sets of one buffer, or of all, that pass
  abbrev in_buffer : Option (PlaneSet Plane) → ℕ
  in_buffer planes = count_by test (option_to_list planes)

  abbrev in_buffers : List (Buffer Plane) → ℕ
  in_buffers bs = count_by test (held_sets bs)

  in_more : (b : Buffer Plane) (bs : List (Buffer Plane)) → in_buffers (b ∷ bs) ≡ in_buffer b.planes + in_buffers bs
  in_more b bs = sum_by-append (λ set. cond (test set) 1 0) (option_to_list b.planes) (held_sets bs)

  -- one buffer takes sets in and lets sets out
  at_place : (f : Buffer Plane → Buffer Plane) (bs : List (Buffer Plane)) (i gone got : ℕ) → i < length bs
      → ((b : Buffer Plane) → slice_get bs i ≡ Some b → in_buffer (f b).planes + gone ≡ in_buffer b.planes + got)
      → in_buffers (change_at f i bs) + gone ≡ in_buffers bs + got
  at_place f [] i gone got within one = absurd (omega arith)
  at_place f (b ∷ bs) zero gone got within one =
      ap (λ n. n + gone) (in_more (f b) bs)
      ∙ (moved (in_buffer (f b).planes) (in_buffer b.planes) (in_buffers bs) gone got (one b refl)
      ∙ ap (λ n. n + got) (sym (in_more b bs)))
  at_place f (b ∷ bs) (suc i) gone got within one =
      ap (λ n. n + gone) (in_more b (change_at f i bs))
      ∙ (further (in_buffer b.planes) (in_buffers (change_at f i bs)) (in_buffers bs) gone got
      (at_place f bs i gone got (omega arith) one) ∙ ap (λ n. n + got) (sym (in_more b bs)))

  -- one buffer keeps its sets
  at_kept : (f : Buffer Plane → Buffer Plane) (bs : List (Buffer Plane)) (i : ℕ)
      → ((b : Buffer Plane) → in_buffer (f b).planes ≡ in_buffer b.planes)
      → in_buffers (change_at f i bs) ≡ in_buffers bs
  at_kept f [] i keeps = refl
  at_kept f (b ∷ bs) zero keeps = in_more (f b) bs ∙ (ap (λ n. n + in_buffers bs) (keeps b) ∙ sym (in_more b bs))
  at_kept f (b ∷ bs) (suc i) keeps = in_more b (change_at f i bs) ∙ (ap (λ n. in_buffer b.planes + n) (at_kept f bs i keeps) ∙ sym (in_more b bs))

  -- ---- what calls do

  given_put : (given : Option (PlaneSet Plane)) (own into : Option (PlaneSet Plane)) → is_some own ≡ false
      → into ≡ given → in_buffer into + 0 ≡ in_buffer own + in_buffer given
  given_put given None into e is = ap (λ p. in_buffer p + 0) is ∙ sym (zeros (in_buffer given))
  given_put given (Some set) into e is = absurd (cc)

  filled : (shape : Shape) (bytes : List ℕ) (planes : Option (PlaneSet Plane))
      → ((set : PlaneSet Plane) → test (set_filled shape bytes set) ≡ test set)
      → in_buffer (option_map (set_filled shape bytes) planes) ≡ in_buffer planes
  filled shape bytes None blind = refl
  filled shape bytes (Some set) blind = ap (λ t. 0 + cond t 1 0) (blind set)

  shared : (kind : Memory) (planes : Option (PlaneSet Plane)) → in_buffer (kept kind planes) + in_buffer
      (handed_over kind planes) ≡ in_buffer planes + 0
  shared Mmap planes = refl
  shared UserPtr planes = zeros (in_buffer planes)
  shared DmaBuf planes = zeros (in_buffer planes)

kept_held : (f : Buffer Plane → Buffer Plane) (bs : List (Buffer Plane))
    → ((b : Buffer Plane) → (f b).planes ≡ b.planes) → held_sets (map f bs) ≡ held_sets bs
kept_held f [] keeps = refl
kept_held f (b ∷ bs) keeps = λ i. option_to_list (keeps b i) ++ kept_held f bs keeps i

settled_held : (b : Body Plane) → held_sets (settle_device b).buffers ≡ held_sets b.buffers
settled_held b = elim (device_runs b) as
    (λ t. held_sets (cond t (awake b) b).buffers ≡ held_sets b.buffers) [
      | true ↦ kept_held wake_buffer b.buffers
          (λ x. refl)
      | false ↦ refl
    ]

streaming_held : (b : Body Plane) → held_sets (body_streaming b).buffers ≡ held_sets b.buffers
streaming_held b = elim b.streaming as
    (λ t. held_sets (cond t b (settle_device (record b { streaming = true }))).buffers ≡ held_sets b.buffers) [
      | true ↦
          refl
      | false ↦ settled_held (record b { streaming = true })
    ]

none_new : (count : ℕ) → held_sets (replicate count (new_buffer {P = Plane} None)) ≡ []
none_new zero = refl
none_new (suc count) = none_new count

each_new : (sets : List (PlaneSet Plane)) → held_sets (map (λ s. new_buffer (Some s)) sets) ≡ sets
each_new [] = refl
each_new (set ∷ sets) = ap (λ l. set ∷ l) (each_new sets)

new_held : (count : ℕ) (sets : List (PlaneSet Plane)) → held_sets (new_buffers count sets) ≡ sets
new_held count [] = none_new count
new_held count (set ∷ sets) = each_new (set ∷ sets)

-- what REQBUFS hands out of the old buffers and what it drops are all that they held
all_left : (test : PlaneSet Plane → Bool) (kind : Memory) (bs : List (Buffer Plane))
    → count_by test (left_in kind bs) + count_by test (cond (same_memory kind Mmap) (held_sets bs) []) ≡ count_by test
    (held_sets bs)
all_left test Mmap bs = nothing_first (count_by test (held_sets bs))
all_left test UserPtr bs = nothing (count_by test (held_sets bs))
all_left test DmaBuf bs = nothing (count_by test (held_sets bs))

-- the buffer of an index is one
one_buffer : (bs : List (Buffer Plane)) (i : ℕ) (x b : Buffer Plane) → slice_get bs i ≡ Some x
    → slice_get bs i ≡ Some b → b.planes ≡ x.planes
one_buffer bs i x b e f = got b x (sym f ∙ e)
  where
    got : (x b : Buffer Plane) → Some x ≡ Some b → x.planes ≡ b.planes
    got x b e = let f : x ≡ b = cc in ap (λ y. y.planes) f

emptied_at : (f : Buffer Plane → Buffer Plane) (bs : List (Buffer Plane)) (i : ℕ)
    → ((b : Buffer Plane) → (f b).planes ≡ None) → holds_at (change_at f i bs) i ≡ false
emptied_at f [] i makes = refl
emptied_at f (b ∷ bs) zero makes = ap (λ p. is_some p) (makes b)
emptied_at f (b ∷ bs) (suc i) makes = emptied_at f bs i makes

handed_whole : (kind : Memory) (planes other : Option (PlaneSet Plane)) (set : PlaneSet Plane)
    → handed_over kind planes ≡ Some set → kept kind other ≡ None
handed_whole Mmap planes other set e = absurd (cc)
handed_whole UserPtr planes other set e = refl
handed_whole DmaBuf planes other set e = refl

-- ---- the events

module _ (test : PlaneSet Plane → Bool) (s : QueueState) where
  abbrev bs : List (Buffer Plane)
  bs = s.body.buffers

  -- a buffer that held no planes gets a set
  set_put : (f : Buffer Plane → Buffer Plane) (index : ℕ) (set : PlaneSet Plane) → index < length bs
      → holds_at bs index ≡ false → ((b : Buffer Plane) → (f b).planes ≡ Some set)
      → in_buffers test (change_at f index bs) + (0 + 0) ≡ in_buffers test bs + in_buffer test (Some set)
  set_put f index set within empty makes =
      last (in_buffers test (change_at f index bs)) 0 (in_buffer test (Some set)) (in_buffers test bs)
      (at_place test f bs index 0 (in_buffer test (Some set)) within
      (λ x e. given_put test (Some set) x.planes (f x).planes (sym (held_there bs index x e) ∙ empty) (makes x)))

  new_places : (new sets : List (PlaneSet Plane)) (left dropped old : ℕ) → new ≡ sets → left + dropped ≡ old
      → count_by test new + (left + dropped) ≡ old + count_by test sets
  new_places new sets left dropped old e f = ap (λ l. count_by test l + (left + dropped)) e ∙ swapped (count_by test sets) (left + dropped) old f
    where
      swapped : (n m k : ℕ) → m ≡ k → n + m ≡ k + n
      swapped n m k e = omega arith

  places : (event : Event) → MayHappen s event → IsBlindTo event test
      → count_by test (held_sets (after_event s event).body.buffers) +
      (count_by test (handed_by event) + count_by test (dropped_by s.body event)) ≡ count_by test
      (held_sets bs) + count_by test (brought_by event)
  places (reqbufs count kind sets (Ok g)) a blind =
      new_places (held_sets (new_buffers (grants_or_none s.body.min_queued count) sets)) sets (count_by test g.left)
      (count_by test (cond (same_memory s.body.kind Mmap) (held_sets bs) [])) (count_by test (held_sets bs))
      (new_held (grants_or_none s.body.min_queued count) sets)
      (ap (λ l. count_by test l + count_by test (cond (same_memory s.body.kind Mmap) (held_sets bs) [])) a.2 ∙ all_left test s.body.kind bs)
  places (reqbufs count kind sets (Err e)) a blind = still _ _ refl
  places (prepare_buf index kind (Some set) None) a blind =
      let passed = not_refused (prepare_refusal index kind (Some set) s.body) a in
      set_put (prepared_with (Some set)) index set (prepare_within index kind (Some set) s.body passed)
      (prepare_empty index kind set s.body passed) (λ b. refl)
  places (prepare_buf index kind None None) a blind = still _ _ (at_kept test (prepared_with None) bs index (λ b. refl))
  places (prepare_buf index kind given (Some e)) a blind = still _ _ refl
  places (qbuf index kind (Some set) None) a blind =
      let passed = not_refused (queue_refusal index kind (Some set) s.body) a in
      ap (λ l. count_by test l + (0 + 0)) (settled_held (with_buffer (queued_with (Some set)) index s.body))
      ∙ set_put (queued_with (Some set)) index set (queue_within index kind (Some set) s.body passed) (queue_empty index kind set s.body passed) (λ b. refl)
  places (qbuf index kind None None) a blind =
      still _ _ (ap (count_by test) (settled_held (with_buffer (queued_with None) index s.body))
      ∙ at_kept test (queued_with None) bs index (λ b. refl))
  places (qbuf index kind given (Some e)) a blind = still _ _ refl
  places (dqbuf (Ok d)) a blind =
      last (in_buffers test (change_at (dequeued_from s.body.kind) d.index bs)) (in_buffer test d.planes) 0 (in_buffers test bs)
      (at_place test (dequeued_from s.body.kind) bs d.index (in_buffer test d.planes) 0 (first_is_ended s d.index a.1).1
      (λ x e. ap (λ p. in_buffer test (kept s.body.kind x.planes) + in_buffer test p)
      (ap (λ x. x.planes) a.2.2 ∙ ap (handed_over s.body.kind) (one_buffer bs d.index x a.2.0 e a.2.1))
      ∙ shared test s.body.kind x.planes))
  places (dqbuf (Err e)) a blind = still _ _ refl
  places (streamon None) a blind = still _ _ (ap (count_by test) (streaming_held s.body))
  places (streamon (Some e)) a blind = still _ _ refl
  places streamoff a blind = still _ _ (ap (count_by test) (kept_held stop_buffer bs (λ b. refl)))
  places (querybuf index answer) a blind = still _ _ refl
  places (mmap index None) a blind = still _ _ (at_kept test (mapped_as true) bs index (λ b. refl))
  places (mmap index (Some e)) a blind = still _ _ refl
  places (munmap index None) a blind = still _ _ (at_kept test (mapped_as false) bs index (λ b. refl))
  places (munmap index (Some e)) a blind = still _ _ refl
  places (take_planes index (Ok set)) a blind =
      last (in_buffers test (change_at without_planes index bs)) (in_buffer test (Some set)) 0 (in_buffers test bs)
      (at_place test without_planes bs index (in_buffer test (Some set)) 0 (take_within index s.body a.0)
      (λ x e. shared test UserPtr (Some set) ∙ ap (λ p. in_buffer test p + 0) (sym a.1.2 ∙ one_buffer bs index x a.1.0 e a.1.1)))
  places (take_planes index (Err e)) a blind = still _ _ refl
  places (copy_plane index plane at count answer) a blind = still _ _ refl
  places (complete index stamp bytes None) a blind =
      still _ _ (at_kept test (completed_with s.body.shape stamp bytes) bs index
      (λ b. filled test s.body.shape bytes b.planes (blind s.body.shape)))
  places (complete index stamp bytes (Some e)) a blind = still _ _ refl
  places (fail index stamp None) a blind = still _ _ (at_kept test (failed_with stamp) bs index (λ b. refl))
  places (fail index stamp (Some e)) a blind = still _ _ refl
  places fatal a blind = still _ _ refl
  places (take_fresh fresh) a blind = still _ _ refl

leaves_none : (s : QueueState) (event : Event) → MayHappen s event → LeavesNone (after_event s event).body.buffers event
leaves_none s (dqbuf (Ok d)) a = λ (set : PlaneSet Plane) (e : d.planes ≡ Some set).
    emptied_at (dequeued_from s.body.kind) s.body.buffers d.index (λ b. handed_whole s.body.kind a.2.0.planes b.planes set (sym (ap (λ x. x.planes) a.2.2) ∙ e))
leaves_none s (dqbuf (Err e)) a = tt
leaves_none s (take_planes index (Ok set)) a = emptied_at without_planes s.body.buffers index (λ b. refl)
leaves_none s (take_planes index (Err e)) a = tt
leaves_none s e a = tt

pub sets_are_in_one_place : SetsAreInOnePlace
sets_are_in_one_place = λ s event test a blind. (places test s event a blind, leaves_none s event a)
