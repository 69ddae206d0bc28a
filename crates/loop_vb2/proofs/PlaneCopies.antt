-- Bytes copied out of a plane.
use Rattle.std.proofs.Common.{◌≡◌, ℕ, zero, suc, ◌+◌, ◌<◌, ◌≤◌, Bool, true, false, not, ◌&&◌, ◌==◌, nat_le, nat_lt, cond, List, [], ◌∷◌, length, take, drop, map, min, Option, Some, None, option_map, Ok, Err, slice_index_or, refl, sym, ◌∙◌, ap, subst, arith}
use Rattle.std.specs.Prelude.{is_some}
use Rattle.std.proofs.lemmas.Bool.Decides.{nat_tests}
use Rattle.loop_plane.specs.Plane.{Plane}
use Rattle.loop_plane.specs.declared.memory.Memory.{Memory}
use Rattle.loop_vb2.specs.declared.buffer.Buffer.{Buffer}
use Rattle.loop_vb2.specs.declared.planes.PlaneSet.{PlaneSet}
use Rattle.loop_vb2.specs.declared.planes.Shape.{Shape}
use Rattle.loop_vb2.specs.declared.reason.Errno.{Errno}
use Rattle.loop_vb2.specs.declared.reason.Reason.{Reason}
use Rattle.loop_vb2.specs.declared.reason.Reason.TheVariants.{BadIndex, BadPlanes, BadState, PlaneTooShort}
use Rattle.loop_vb2.specs.Errnos.{errno}
use Rattle.loop_vb2.specs.Owner.{is_dequeued}
use Rattle.loop_vb2.specs.Planes.{number_at, bytes_in, plane_of_set, plane_in, has_used, read_set}
use Rattle.loop_vb2.specs.Buffers.{state_at, used_at, bytes_at, readable, readable_at, read_buffer}
use Rattle.loop_vb2.proofs.Short.{has_plane_at, has_used_bytes, AllFit}
use Rattle.loop_vb2.specs.Checks.{first_reason, copy_checks}
use Rattle.loop_vb2.specs.Refusals.{copy_refusal}
use Rattle.loop_vb2.specs.Copies.{code_refusal}
use Rattle.loop_vb2.specs.State.{Body, QueueState, Lined, read_body, FitsShape, EachFits, StandsQueue}
use Rattle.loop_vb2.specs.Events.{Happens, copy_plane}
use Rattle.loop_vb2.proofs.Lines.{same}
use Rattle.loop_vb2.proofs.PassedChecks.{Passed, all_passed}
use Rattle.loop_vb2.proofs.PlaneMeanings.{length_read, state_read}

and_first : (a b : Bool) → (a && b) ≡ true → a ≡ true
and_first true b h = refl
and_first false b h = h

and_second : (a b : Bool) → (a && b) ≡ true → b ≡ true
and_second true b h = h
and_second false b h = absurd (cc)

-- ---- the used bytes of a set that fits are there

slot_enough : (n : ℕ) (o : Option Plane) → has_used_bytes n o ≡ true → is_some o ≡ true
    → min n (length (bytes_in o)) ≡ n
slot_enough n None h some = absurd (cc)
slot_enough n (Some p) h some = let e : n ≤ length p.bytes = grind (arith, nat_tests) in omega (arith, e)

-- a place that has the used bytes of its number
moved : (used : List ℕ) (o : Option Plane) (plane number : ℕ) → (plane == number) ≡ true
    → has_used_bytes (number_at used number) o ≡ true → is_some o ≡ true
    → min (number_at used plane) (length (bytes_in o)) ≡ number_at used plane
moved used o plane number e h some = slot_enough (number_at used plane) o
    (subst (λ (i : ℕ). has_used_bytes (number_at used i) o ≡ true) (sym (same plane number e)) h) some

-- a place that is filled has the used bytes
abbrev Enough : List ℕ → ℕ → Option Plane → Type 0
Enough used plane o = is_some o ≡ true → min (number_at used plane) (length (bytes_in o)) ≡ number_at used plane

none_enough : (used : List ℕ) (plane : ℕ) → Enough used plane None
none_enough used plane some = absurd (cc)

chosen : (used : List ℕ) (plane number : ℕ) (o rest : Option Plane) → has_used_bytes (number_at used number) o ≡ true
    → Enough used plane rest → Enough used plane (cond (plane == number) o rest)
chosen used plane number o rest h more = by (plane == number) refl
  where
    by : (t : Bool) → (plane == number) ≡ t → Enough used plane (cond t o rest)
    by true e = moved used o plane number e h
    by false e = more

plane_enough : (used : List ℕ) (set : PlaneSet Plane) (plane : ℕ) → has_used used set ≡ true
    → Enough used plane (plane_of_set set plane)
plane_enough used set plane h =
    let y : Bool = has_used_bytes (number_at used 0) set.planes.y in
    let cb : Bool = has_used_bytes (number_at used 1) set.planes.cb in
    let cr : Bool = has_used_bytes (number_at used 2) set.planes.cr in
    let first_two : (y && cb) ≡ true = and_first (y && cb) cr h in
    chosen used plane 0 set.planes.y _ (and_first y cb first_two)
    (chosen used plane 1 set.planes.cb _ (and_second y cb first_two)
    (chosen used plane 2 set.planes.cr None (and_second (y && cb) cr h) (none_enough used plane)))

held_enough : (shape : Shape) (kind : Memory) (used : List ℕ) (o : Option (PlaneSet Plane)) (plane : ℕ)
    → ((set : PlaneSet Plane) → o ≡ Some set → FitsShape shape kind used set) → is_some (plane_in o plane) ≡ true
    → min (number_at used plane) (length (bytes_in (plane_in o plane))) ≡ number_at used plane
held_enough shape kind used None plane h some = absurd (cc)
held_enough shape kind used (Some set) plane h some = let f : FitsShape shape kind used set = h set refl in plane_enough used set plane f.filled some

used_enough : (shape : Shape) (kind : Memory) (bs : List (Buffer Plane)) (index plane : ℕ) → EachFits shape kind bs
    → has_plane_at bs index plane ≡ true → readable_at bs index plane ≡ used_at bs index plane
used_enough shape kind [] index plane h some = refl
used_enough shape kind (b ∷ bs) zero plane h some = held_enough shape kind b.used b.planes plane h.0 some
used_enough shape kind (b ∷ bs) (suc index) plane h some = used_enough shape kind bs index plane h.1 some

-- ---- the checks of the code are those of the state

-- how many bytes may be read counts only where there is such a plane
abbrev told : ℕ → ℕ → ℕ → Body Plane → Bool → ℕ → Option Reason
told index at count b has number =
    cond (nat_le (length b.buffers) index) (Some BadIndex)
    (cond (not has) (Some BadPlanes) (cond (not (is_dequeued (state_at b.buffers index))) (Some BadState)
    (cond (nat_lt number (at + count)) (Some PlaneTooShort) None)))

copy_alike : (index plane at count n k : ℕ) (b : Body Plane) → (has_plane_at b.buffers index plane ≡ true → n ≡ k)
    → first_reason (copy_checks index plane at count n b) ≡ first_reason (copy_checks index plane at count k b)
copy_alike index plane at count n k b h = by (has_plane_at b.buffers index plane) refl
  where
    by : (t : Bool) → has_plane_at b.buffers index plane ≡ t → told index at count b t n ≡ told index at count b t k
    by true e = ap (told index at count b true) (h e)
    by false e = refl

module _ {P : Type 0} (m : P → Plane) where
  is_some_read : (o : Option P) → is_some (option_map m o) ≡ is_some o
  is_some_read None = refl
  is_some_read (Some p) = refl

  chosen_read : (t : Bool) (o x : Option P) (y : Option Plane) → is_some y ≡ is_some x
      → is_some (cond t (option_map m o) y) ≡ is_some (cond t o x)
  chosen_read true o x y e = is_some_read o
  chosen_read false o x y e = e

  plane_read : (o : Option (PlaneSet P)) (plane : ℕ) → is_some (plane_in (option_map (read_set m) o) plane) ≡ is_some
      (plane_in o plane)
  plane_read None plane = refl
  plane_read (Some set) plane = chosen_read (plane == 0) set.planes.y _ _
      (chosen_read (plane == 1) set.planes.cb _ _ (chosen_read (plane == 2) set.planes.cr None None refl))

  has_plane_read : (bs : List (Buffer P)) (index plane : ℕ)
      → has_plane_at (map (read_buffer m) bs) index plane ≡ has_plane_at bs index plane
  has_plane_read [] index plane = refl
  has_plane_read (b ∷ bs) zero plane = plane_read b.planes plane
  has_plane_read (b ∷ bs) (suc index) plane = has_plane_read bs index plane

  copy_refusal_read : (index plane at count : ℕ) (b : Body P) → AllFit (read_body m b)
      → copy_refusal index plane at count (read_body m b) ≡ code_refusal m index plane at count b
  copy_refusal_read index plane at count b fit =
      let bs : List (Buffer Plane) = map (read_buffer m) b.buffers in
      copy_alike index plane at count (used_at bs index plane) (readable_at bs index plane) (read_body m b)
      (λ some. sym (used_enough b.shape b.kind bs index plane fit some))
      ∙ rw (length_read m b.buffers, has_plane_read b.buffers index plane, state_read m b.buffers index) refl

  -- what the code reads of the buffer that it has at hand
  pub readable_here : (bs : List (Buffer P)) (index plane : ℕ) (b : Buffer P) → index < length bs
      → b ≡ slice_index_or bs index b → readable_at (map (read_buffer m) bs) index plane ≡ readable
      (read_buffer m b) plane
  readable_here [] index plane b h e = absurd (omega arith)
  readable_here (c ∷ cs) zero plane b h e = ap (λ x. readable (read_buffer m x) plane) (sym e)
  readable_here (c ∷ cs) (suc index) plane b h e = readable_here cs index plane b (omega arith) e

  bytes_here : (bs : List (Buffer P)) (index plane : ℕ) (b : Buffer P) → index < length bs
      → b ≡ slice_index_or bs index b → bytes_at (map (read_buffer m) bs) index plane ≡ bytes_in
      (plane_in (read_buffer m b).planes plane)
  bytes_here [] index plane b h e = absurd (omega arith)
  bytes_here (c ∷ cs) zero plane b h e = ap (λ x. bytes_in (plane_in (read_buffer m x).planes plane)) (sym e)
  bytes_here (c ∷ cs) (suc index) plane b h e = bytes_here cs index plane b (omega arith) e

  pub has_plane_here : (bs : List (Buffer P)) (index plane : ℕ) (b : Buffer P) → index < length bs
      → b ≡ slice_index_or bs index b → has_plane_at bs index plane ≡ is_some (plane_in (read_buffer m b).planes plane)
  has_plane_here [] index plane b h e = absurd (omega arith)
  has_plane_here (c ∷ cs) zero plane b h e = ap (λ x. is_some (plane_in x.planes plane)) (sym e) ∙ sym (plane_read b.planes plane)
  has_plane_here (c ∷ cs) (suc index) plane b h e = has_plane_here cs index plane b (omega arith) e

  -- ---- what follows where no check fails

  pub copy_within : (index plane at count : ℕ) (b : Body P) → code_refusal m index plane at count b ≡ None
      → index < length b.buffers
  copy_within index plane at count b e =
      let p : Passed (copy_checks index plane at count (readable_at (map (read_buffer m) b.buffers) index plane) b) =
      all_passed (copy_checks index plane at count (readable_at (map (read_buffer m) b.buffers) index plane) b) e in
      let f : nat_le (length b.buffers) index ≡ false = p.0 in grind (arith, nat_tests)

  pub copy_room : (index plane at count : ℕ) (now : Body P) (b : Buffer P)
      → code_refusal m index plane at count now ≡ None → b ≡ slice_index_or now.buffers index b
      → at + count ≤ length (bytes_in (plane_in (read_buffer m b).planes plane))
  copy_room index plane at count now b e here =
      let p : Passed (copy_checks index plane at count (readable_at (map (read_buffer m) now.buffers) index plane)
      now) = all_passed (copy_checks index plane at count
      (readable_at (map (read_buffer m) now.buffers) index plane) now) e in
      let f : nat_lt (readable_at (map (read_buffer m) now.buffers) index plane) (at + count) ≡ false = p.1.1.1.0 in
      let g : readable_at (map (read_buffer m) now.buffers) index plane ≡ readable (read_buffer m b) plane =
      readable_here now.buffers index plane b (copy_within index plane at count now e) here in
      let r : at + count ≤ readable_at (map (read_buffer m) now.buffers) index plane = grind (arith, nat_tests) in
      omega (arith, g, r)

  -- ---- the event

  code_checks : (index plane at count : ℕ) (now : Lined P) (s : QueueState) → StandsQueue m now s
      → copy_refusal index plane at count s.body ≡ code_refusal m index plane at count now.body
  code_checks index plane at count now s h =
      ap (λ (b : Body Plane). copy_refusal index plane at count b) (sym h.shown.body)
      ∙ copy_refusal_read index plane at count now.body (subst (λ (b : Body Plane). AllFit b) (sym h.shown.body) h.fit)

  pub copy_done : (index plane at count : ℕ) (out : List ℕ) (now : Lined P) (b : Buffer P)
      → code_refusal m index plane at count now.body ≡ None → b ≡ slice_index_or now.body.buffers index b
      → out ≡ take count (drop at (bytes_in (plane_in (read_buffer m b).planes plane))) → Happens m now now (copy_plane index plane at count (Ok out))
  copy_done index plane at count out now b e here is = λ s h.
      let bytes : bytes_at s.body.buffers index plane ≡ bytes_in (plane_in (read_buffer m b).planes plane) =
      ap (λ (x : Body Plane). bytes_at x.buffers index plane) (sym h.shown.body)
      ∙ bytes_here now.body.buffers index plane b (copy_within index plane at count now.body e) here in
      ((code_checks index plane at count now s h ∙ e, is ∙ ap (λ bs. take count (drop at bs)) (sym bytes)), h)

  pub copy_refused : (index plane at count : ℕ) (reason : Reason) (e : Errno) (now : Lined P)
      → code_refusal m index plane at count now.body ≡ Some reason → e ≡ errno reason
      → Happens m now now (copy_plane index plane at count (Err e))
  copy_refused index plane at count reason e now r is =
      λ s h. (
        ap (λ o. option_map errno o) (code_checks index plane at count now s h ∙ r) ∙ ap (λ x. Some x) (sym is),
        h,
      )

-- for a read of a plane
pub ruleset reading = (has_plane_here, readable_here)
