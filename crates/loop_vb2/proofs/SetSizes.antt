-- Each set of planes that a buffer holds fits the frames, through each event.
use Rattle.std.proofs.Common.{◌≡◌, ℕ, zero, suc, ◌+◌, ◌≤◌, Bool, true, false, ◌||◌, ◌&&◌, ◌==◌, nat_le, nat_lt, cond, List, [], ◌∷◌, length, take, drop, map, Option, Some, None, option_map, refl, sym, ◌∙◌, ap, subst, arith}
use Rattle.std.specs.Prelude.{is_some, replicate}
use Rattle.std.specs.List.{list_all}
use Rattle.std.proofs.lemmas.List.{length-take, length-drop, take_all}
use Rattle.std.proofs.lemmas.Bool.Decides.{nat_tests}
use Rattle.loop_plane.specs.Plane.{Plane, with_bytes}
use Rattle.loop_plane.specs.declared.memory.Memory.{Memory}
use Rattle.loop_plane.specs.declared.memory.Memory.TheVariants.{Mmap, UserPtr, DmaBuf}
use Rattle.loop_vb2.specs.declared.buffer.Buffer.{Buffer}
use Rattle.loop_vb2.specs.declared.buffer.Stamp.{Stamp}
use Rattle.loop_vb2.specs.declared.planes.PlaneSet.{PlaneSet}
use Rattle.loop_vb2.specs.declared.planes.Shape.{Shape}
use Rattle.loop_vb2.specs.declared.state.BufferState.TheVariants.{Done}
use Rattle.loop_vb2.specs.Planes.{number_at, same_memory, is_kind, is_long, are_kind, has_count, has_room, misfits, frame_size, slot_filled, slot_cut, set_by, set_filled}
use Rattle.loop_vb2.specs.Buffers.{change_at, no_bytes_used, prepared_with, queued_with, completed_by, dequeued_from, failed_with, stop_buffer, wake_buffer}
use Rattle.loop_vb2.proofs.Short.{completed_with, has_used_bytes, mapped_as, kept, without_planes, body_queued, AllFit}
use Rattle.loop_vb2.specs.Checks.{queue_checks, prepare_checks, request_checks, serves, is_supply, grant_count}
use Rattle.loop_vb2.specs.Refusals.{queue_refusal, prepare_refusal, request_refusal}
use Rattle.loop_vb2.specs.Effects.{awake, device_runs, settle_device, with_buffer, body_streaming, body_stopped}
use Rattle.loop_vb2.specs.Requests.{new_buffer, new_buffers, grants_or_none, body_requested}
use Rattle.loop_vb2.specs.State.{Body, FitsShape, BufferFits, EachFits}
use Rattle.loop_vb2.proofs.PassedChecks.{Passed, all_passed, true_of}

-- ---- tests that hold

and_left : (a b : Bool) → (a && b) ≡ true → a ≡ true
and_left true b h = refl
and_left false b h = h

and_right : (a b : Bool) → (a && b) ≡ true → b ≡ true
and_right true b h = h
and_right false b h = absurd (cc)

both : (a b : Bool) → a ≡ true → b ≡ true → (a && b) ≡ true
both true b h k = k
both false b h k = h

or_off : (a b : Bool) → (a || b) ≡ false → b ≡ false
or_off true b e = absurd (cc)
or_off false b e = e

-- ---- what is done to a place

kind_filled : (kind : Memory) (o : Option Plane) (part : List ℕ) → is_kind kind (slot_filled o part) ≡ is_kind kind o
kind_filled kind None part = refl
kind_filled kind (Some p) part = refl

some_filled : (o : Option Plane) (part : List ℕ) → is_some (slot_filled o part) ≡ is_some o
some_filled None part = refl
some_filled (Some p) part = refl

long_filled : (size : ℕ) (o : Option Plane) (part : List ℕ) → is_long size (slot_filled o part) ≡ is_long size o
long_filled size None part = refl
long_filled size (Some p) part = refl

at_most : (a b : ℕ) → a ≤ b → nat_le a b ≡ true
at_most a b h = grind (arith, nat_tests)

is_at_most : (a b : ℕ) → nat_le a b ≡ true → a ≤ b
is_at_most a b h = grind (arith, nat_tests)

bytes_filled : (size : ℕ) (o : Option Plane) (part : List ℕ) → size ≤ length part
    → has_used_bytes size (slot_filled o part) ≡ true
bytes_filled size None part h = refl
bytes_filled size (Some p) part h = at_most size (length part) h

no_bytes : (o : Option Plane) → has_used_bytes 0 o ≡ true
no_bytes None = refl
no_bytes (Some p) = at_most 0 (length p.bytes) (omega arith)

-- what a plane has room for is all of its part
cut_filled : (size : ℕ) (o : Option Plane) (part : List ℕ) → is_long size o ≡ true → length part ≤ size
    → slot_cut o part ≡ slot_filled o part
cut_filled size None part long h = refl
cut_filled size (Some p) part long h = ap (λ bs. Some (with_bytes p bs)) (take_all p.length part (let e = is_at_most size p.length long in omega (arith, e, h)))

-- ---- the parts of a frame

few_taken : (n : ℕ) (bytes : List ℕ) → length (take n bytes) ≤ n
few_taken n bytes = let e = length-take n bytes in omega (arith, e)

enough_taken : (n : ℕ) (bytes : List ℕ) → n ≤ length bytes → n ≤ length (take n bytes)
enough_taken n bytes h = let e = length-take n bytes in omega (arith, e, h)

enough_behind : (m n : ℕ) (bytes : List ℕ) → m + n ≤ length bytes → n ≤ length (take n (drop m bytes))
enough_behind m n bytes h = let e = length-drop m bytes in enough_taken n (drop m bytes) (omega (arith, e, h))

-- ---- a set

unused_fits : (shape : Shape) (kind : Memory) (set : PlaneSet Plane) → are_kind kind set ≡ true
    → has_count shape.count set ≡ true → has_room shape set ≡ true → FitsShape shape kind no_bytes_used set
unused_fits shape kind set of_kind counted roomy = record {
  of_kind = of_kind;
  counted = counted;
  roomy = roomy;
  filled = both (has_used_bytes 0 set.planes.y && has_used_bytes 0 set.planes.cb) (has_used_bytes 0 set.planes.cr)
      (both (has_used_bytes 0 set.planes.y) (has_used_bytes 0 set.planes.cb) (no_bytes set.planes.y)
      (no_bytes set.planes.cb)) (no_bytes set.planes.cr);
}

-- the parts that a complete frame has
record Parts (shape : Shape) (bytes : List ℕ) : Type 0 where
  first : number_at shape.sizes 0 ≤ length bytes
  second : number_at shape.sizes 0 + number_at shape.sizes 1 ≤ length bytes
  third : number_at shape.sizes 0 + number_at shape.sizes 1 + number_at shape.sizes 2 ≤ length bytes

parts_of : (shape : Shape) (bytes : List ℕ) → length bytes ≡ frame_size shape → Parts shape bytes
parts_of shape bytes e = record { first = omega (arith, e); second = omega (arith, e); third = omega (arith, e) }

module _ (shape : Shape) (kind : Memory) (bytes : List ℕ) (set : PlaneSet Plane) where
  abbrev part_y : List ℕ
  part_y = take (number_at shape.sizes 0) bytes

  abbrev part_cb : List ℕ
  part_cb = take (number_at shape.sizes 1) (drop (number_at shape.sizes 0) bytes)

  abbrev part_cr : List ℕ
  part_cr = take (number_at shape.sizes 2) (drop (number_at shape.sizes 0 + number_at shape.sizes 1) bytes)

  filled_fits : (used : List ℕ) → length bytes ≡ frame_size shape → FitsShape shape kind used set
      → FitsShape shape kind shape.sizes (set_filled shape bytes set)
  filled_fits used whole f =
      let parts : Parts shape bytes = parts_of shape bytes whole in record {
        of_kind = rw (kind_filled kind set.planes.y part_y, kind_filled kind set.planes.cb part_cb, kind_filled kind set.planes.cr part_cr) f.of_kind;
        counted = rw (some_filled set.planes.y part_y, some_filled set.planes.cb part_cb, some_filled set.planes.cr part_cr) f.counted;
        roomy = rw (
          long_filled (number_at shape.sizes 0) set.planes.y part_y,
          long_filled (number_at shape.sizes 1) set.planes.cb part_cb,
          long_filled (number_at shape.sizes 2) set.planes.cr part_cr,
        ) f.roomy;
        filled = both _ _ (both _ _ (bytes_filled (number_at shape.sizes 0) set.planes.y part_y (enough_taken (number_at shape.sizes 0) bytes parts.first))
            (bytes_filled (number_at shape.sizes 1) set.planes.cb part_cb
            (enough_behind (number_at shape.sizes 0) (number_at shape.sizes 1) bytes parts.second)))
            (bytes_filled (number_at shape.sizes 2) set.planes.cr part_cr
            (enough_behind (number_at shape.sizes 0 + number_at shape.sizes 1) (number_at shape.sizes 2) bytes
            parts.third));
      }

  cut_set : has_room shape set ≡ true → set_by slot_cut shape bytes set ≡ set_filled shape bytes set
  cut_set room =
      let y_cb : (is_long (number_at shape.sizes 0) set.planes.y && is_long (number_at shape.sizes 1) set.planes.cb) ≡
      true = and_left (is_long (number_at shape.sizes 0) set.planes.y && is_long
      (number_at shape.sizes 1) set.planes.cb) (is_long (number_at shape.sizes 2) set.planes.cr) room in
      rw (
        cut_filled (number_at shape.sizes 0) set.planes.y part_y
            (and_left (is_long (number_at shape.sizes 0) set.planes.y)
            (is_long (number_at shape.sizes 1) set.planes.cb) y_cb) (few_taken (number_at shape.sizes 0) bytes),
        cut_filled (number_at shape.sizes 1) set.planes.cb part_cb
            (and_right (is_long (number_at shape.sizes 0) set.planes.y)
            (is_long (number_at shape.sizes 1) set.planes.cb) y_cb)
            (few_taken (number_at shape.sizes 1) (drop (number_at shape.sizes 0) bytes)),
        cut_filled (number_at shape.sizes 2) set.planes.cr part_cr
            (and_right (is_long (number_at shape.sizes 0) set.planes.y && is_long
            (number_at shape.sizes 1) set.planes.cb) (is_long (number_at shape.sizes 2) set.planes.cr) room)
            (few_taken (number_at shape.sizes 2) (drop (number_at shape.sizes 0 + number_at shape.sizes 1) bytes)),
      ) refl

-- ---- a buffer

given_set : {X : Type 0} (o : Option X) (x y : X) → o ≡ Some x → o ≡ Some y → x ≡ y
given_set o x y e f = cc

nothing_given : {X : Type 0} (x : X) → None ≡ Some x → ⊥
nothing_given x e = cc

-- a set that is given fits, before any byte of it is used
abbrev GivenFits : Shape → Memory → Option (PlaneSet Plane) → Type 0
GivenFits shape kind given = (set : PlaneSet Plane) → given ≡ Some set → FitsShape shape kind no_bytes_used set

not_used : (shape : Shape) (kind : Memory) (used : List ℕ) (set : PlaneSet Plane) → FitsShape shape kind used set
    → FitsShape shape kind no_bytes_used set
not_used shape kind used set f = unused_fits shape kind set f.of_kind f.counted f.roomy

queued_fits : (shape : Shape) (kind : Memory) (given : Option (PlaneSet Plane)) → GivenFits shape kind given
    → (b : Buffer Plane) → BufferFits shape kind b → BufferFits shape kind (queued_with given b)
queued_fits shape kind None g b h = λ set e. not_used shape kind b.used set (h set e)
queued_fits shape kind (Some new) g b h = λ set e. g set e

prepared_fits : (shape : Shape) (kind : Memory) (given : Option (PlaneSet Plane)) → GivenFits shape kind given
    → (b : Buffer Plane) → BufferFits shape kind b → BufferFits shape kind (prepared_with given b)
prepared_fits shape kind None g b h = λ set e. not_used shape kind b.used set (h set e)
prepared_fits shape kind (Some new) g b h = λ set e. g set e

failed_fits : (shape : Shape) (kind : Memory) (stamp : Stamp) (b : Buffer Plane) → BufferFits shape kind b
    → BufferFits shape kind (failed_with stamp b)
failed_fits shape kind stamp b h = λ set e. not_used shape kind b.used set (h set e)

emptied_fits : (shape : Shape) (kind : Memory) (b : Buffer Plane) → BufferFits shape kind b
    → BufferFits shape kind (without_planes b)
emptied_fits shape kind b h = λ set e. absurd (nothing_given set e)

kept_fits : (shape : Shape) (kind own : Memory) (used : List ℕ) (planes : Option (PlaneSet Plane))
    → ((set : PlaneSet Plane) → planes ≡ Some set → FitsShape shape kind used set) → (set : PlaneSet Plane)
    → kept own planes ≡ Some set → FitsShape shape kind used set
kept_fits shape kind Mmap used planes h set e = h set e
kept_fits shape kind UserPtr used planes h set e = absurd (nothing_given set e)
kept_fits shape kind DmaBuf used planes h set e = absurd (nothing_given set e)

dequeued_fits : (shape : Shape) (kind own : Memory) (b : Buffer Plane) → BufferFits shape kind b
    → BufferFits shape kind (dequeued_from own b)
dequeued_fits shape kind own b h = kept_fits shape kind own b.used b.planes h

filled_planes : (shape : Shape) (kind : Memory) (bytes used : List ℕ) → length bytes ≡ frame_size shape
    → (o : Option (PlaneSet Plane)) → ((set : PlaneSet Plane) → o ≡ Some set → FitsShape shape kind used set)
    → (set : PlaneSet Plane) → option_map (set_filled shape bytes) o ≡ Some set → FitsShape shape kind shape.sizes set
filled_planes shape kind bytes used whole None h set e = absurd (nothing_given set e)
filled_planes shape kind bytes used whole (Some old) h set e =
    subst (λ (x : PlaneSet Plane). FitsShape shape kind shape.sizes x) (given_set (Some (set_filled shape bytes old)) (set_filled shape bytes old) set refl e)
    (filled_fits shape kind bytes old used whole (h old refl))

completed_fits : (shape : Shape) (kind : Memory) (stamp : Stamp) (bytes : List ℕ) → length bytes ≡ frame_size shape
    → (b : Buffer Plane) → BufferFits shape kind b → BufferFits shape kind (completed_with shape stamp bytes b)
completed_fits shape kind stamp bytes whole b h = filled_planes shape kind bytes b.used whole b.planes h

cut_planes : (shape : Shape) (kind : Memory) (bytes used : List ℕ) (o : Option (PlaneSet Plane))
    → ((set : PlaneSet Plane) → o ≡ Some set → FitsShape shape kind used set)
    → option_map (set_by slot_cut shape bytes) o ≡ option_map (set_filled shape bytes) o
cut_planes shape kind bytes used None h = refl
cut_planes shape kind bytes used (Some set) h = let f : FitsShape shape kind used set = h set refl in ap (λ x. Some x) (cut_set shape kind bytes set f.roomy)

cut_buffer : (shape : Shape) (kind : Memory) (stamp : Stamp) (bytes : List ℕ) (b : Buffer Plane)
    → BufferFits shape kind b → completed_by slot_cut shape stamp bytes b ≡ completed_with shape stamp bytes b
cut_buffer shape kind stamp bytes b h =
    ap (λ o. record b { state = Done; stamp = stamp; used = shape.sizes; planes = o })
    (cut_planes shape kind bytes b.used b.planes h)

-- ---- all buffers

each_changed : (shape : Shape) (kind : Memory) (f : Buffer Plane → Buffer Plane)
    → ((b : Buffer Plane) → BufferFits shape kind b → BufferFits shape kind (f b))
    → (i : ℕ) (bs : List (Buffer Plane)) → EachFits shape kind bs → EachFits shape kind (change_at f i bs)
each_changed shape kind f keeps i [] h = tt
each_changed shape kind f keeps zero (b ∷ bs) h = (keeps b h.0, h.1)
each_changed shape kind f keeps (suc i) (b ∷ bs) h = (h.0, each_changed shape kind f keeps i bs h.1)

each_map : (shape : Shape) (kind : Memory) (f : Buffer Plane → Buffer Plane)
    → ((b : Buffer Plane) → BufferFits shape kind b → BufferFits shape kind (f b)) → (bs : List (Buffer Plane))
    → EachFits shape kind bs → EachFits shape kind (map f bs)
each_map shape kind f keeps [] h = tt
each_map shape kind f keeps (b ∷ bs) h = (keeps b h.0, each_map shape kind f keeps bs h.1)

-- where all sets fit, nothing of a frame is cut
pub none_cut : (shape : Shape) (kind : Memory) (stamp : Stamp) (bytes : List ℕ) (i : ℕ) (bs : List (Buffer Plane))
    → EachFits shape kind bs → change_at (completed_by slot_cut shape stamp bytes) i bs ≡ change_at
    (completed_with shape stamp bytes) i bs
none_cut shape kind stamp bytes i [] h = refl
none_cut shape kind stamp bytes zero (b ∷ bs) h = ap (λ x. x ∷ bs) (cut_buffer shape kind stamp bytes b h.0)
none_cut shape kind stamp bytes (suc i) (b ∷ bs) h = ap (λ xs. b ∷ xs) (none_cut shape kind stamp bytes i bs h.1)

pub fit_changed : (f : Buffer Plane → Buffer Plane) (i : ℕ) (b : Body Plane)
    → ((x : Buffer Plane) → BufferFits b.shape b.kind x → BufferFits b.shape b.kind (f x)) → AllFit b
    → AllFit (with_buffer f i b)
fit_changed f i b keeps h = each_changed b.shape b.kind f keeps i b.buffers h

fit_settled : (b : Body Plane) → AllFit b → AllFit (settle_device b)
fit_settled b h = elim (device_runs b) as (λ t. AllFit (cond t (awake b) b)) [ true ↦ each_map b.shape b.kind wake_buffer (λ x f. f) b.buffers h | false ↦ h ]

pub fit_streaming : (b : Body Plane) → AllFit b → AllFit (body_streaming b)
fit_streaming b h = elim b.streaming as
    (λ t. AllFit (cond t b (settle_device (record b { streaming = true })))) [
      | true ↦ h
      | false ↦ fit_settled
          (record b { streaming = true }) h
    ]

pub fit_stopped : (b : Body Plane) → AllFit b → AllFit (body_stopped b)
fit_stopped b h = each_map b.shape b.kind stop_buffer (λ x f. f) b.buffers h

-- ---- the sets that a call brings

passes : (test : PlaneSet Plane → Bool) (given : Option (PlaneSet Plane)) (set : PlaneSet Plane)
    → misfits test given ≡ false → given ≡ Some set → test set ≡ true
passes test None set e is = absurd (nothing_given set is)
passes test (Some other) set e is = true_of (test set) (ap (λ o. misfits test o) (sym is) ∙ e)

given_fits : (b : Body Plane) (given : Option (PlaneSet Plane)) → misfits (are_kind b.kind) given ≡ false
    → misfits (has_count b.shape.count) given ≡ false → misfits (has_room b.shape) given ≡ false
    → GivenFits b.shape b.kind given
given_fits b given of_kind counted roomy = λ set e.
    unused_fits b.shape b.kind set (passes (are_kind b.kind) given set of_kind e)
    (passes (has_count b.shape.count) given set counted e) (passes (has_room b.shape) given set roomy e)

pub fit_queued : (index : ℕ) (kind : Memory) (given : Option (PlaneSet Plane)) (b : Body Plane)
    → queue_refusal index kind given b ≡ None → AllFit b → AllFit (body_queued index given b)
fit_queued index kind given b e h =
    let p : Passed (queue_checks index kind given b) = all_passed (queue_checks index kind given b) e in
    fit_settled (with_buffer (queued_with given) index b)
    (fit_changed (queued_with given) index b (queued_fits b.shape b.kind given (given_fits b given (or_off _ _ p.1.0) (or_off _ _ p.1.1.0) p.1.1.1.1.1.0)) h)

pub fit_prepared : (index : ℕ) (kind : Memory) (given : Option (PlaneSet Plane)) (b : Body Plane)
    → prepare_refusal index kind given b ≡ None → AllFit b → AllFit (with_buffer (prepared_with given) index b)
fit_prepared index kind given b e h =
    let p : Passed (prepare_checks index kind given b) = all_passed (prepare_checks index kind given b) e in
    fit_changed (prepared_with given) index b (prepared_fits b.shape b.kind given (given_fits b given (or_off _ _ p.1.0) (or_off _ _ p.1.1.0) p.1.1.1.1.0)) h

pub fit_completed : (index : ℕ) (stamp : Stamp) (bytes : List ℕ) (b : Body Plane) → length bytes ≡ frame_size b.shape
    → AllFit b → AllFit (with_buffer (completed_with b.shape stamp bytes) index b)
fit_completed index stamp bytes b whole h = fit_changed (completed_with b.shape stamp bytes) index b (completed_fits b.shape b.kind stamp bytes whole) h

pub fit_failed : (index : ℕ) (stamp : Stamp) (b : Body Plane) → AllFit b
    → AllFit (with_buffer (failed_with stamp) index b)
fit_failed index stamp b h = fit_changed (failed_with stamp) index b (failed_fits b.shape b.kind stamp) h

pub fit_dequeued : (index : ℕ) (b : Body Plane) → AllFit b → AllFit (with_buffer (dequeued_from b.kind) index b)
fit_dequeued index b h = fit_changed (dequeued_from b.kind) index b (dequeued_fits b.shape b.kind b.kind) h

pub fit_mapped : (mapped : Bool) (index : ℕ) (b : Body Plane) → AllFit b
    → AllFit (with_buffer (mapped_as mapped) index b)
fit_mapped mapped index b h = fit_changed (mapped_as mapped) index b (λ x f. f) h

pub fit_emptied : (index : ℕ) (b : Body Plane) → AllFit b → AllFit (with_buffer without_planes index b)
fit_emptied index b h = fit_changed without_planes index b (emptied_fits b.shape b.kind) h

-- ---- the buffers of a request

each_empty : (shape : Shape) (kind : Memory) (count : ℕ) → EachFits shape kind (replicate count (new_buffer None))
each_empty shape kind zero = tt
each_empty shape kind (suc count) = (λ set e. absurd (nothing_given set e), each_empty shape kind count)

mmap_kind : (kind : Memory) → same_memory kind Mmap ≡ true → kind ≡ Mmap
mmap_kind Mmap e = refl
mmap_kind UserPtr e = absurd (cc)
mmap_kind DmaBuf e = absurd (cc)

each_served : (shape : Shape) (sets : List (PlaneSet Plane)) → list_all (serves shape) sets ≡ true
    → EachFits shape Mmap (map (λ s. new_buffer (Some s)) sets)
each_served shape [] e = tt
each_served shape (set ∷ sets) e =
    let here : serves shape set ≡ true = and_left (serves shape set) (list_all (serves shape) sets) e in
    let counted_kind : (has_count shape.count set && are_kind Mmap set) ≡ true = and_left _ _ here in (
      λ x is. subst (λ (y : PlaneSet Plane). FitsShape shape Mmap no_bytes_used y)
          (given_set (Some set) set x refl is)
          (unused_fits shape Mmap set (and_right _ _ counted_kind) (and_left _ _ counted_kind) (and_right _ _ here)),
      each_served shape sets (and_right (serves shape set) (list_all (serves shape) sets) e),
    )

some_left : (set : PlaneSet Plane) (sets : List (PlaneSet Plane)) → (length (set ∷ sets) == 0) ≡ true → ⊥
some_left set sets e = let f : length (set ∷ sets) ≡ 0 = grind (arith, nat_tests) in absurd (omega (arith, f))

-- a request that brings sets is one of MMAP, and each serves
record Serves (shape : Shape) (kind : Memory) (sets : List (PlaneSet Plane)) : Type 0 where
  mmap : kind ≡ Mmap
  all : list_all (serves shape) sets ≡ true

served : (shape : Shape) (min_queued count : ℕ) (kind : Memory) (set : PlaneSet Plane) (sets : List (PlaneSet Plane))
    → is_supply shape min_queued count kind (set ∷ sets) ≡ true → Serves shape kind (set ∷ sets)
served shape min_queued count kind set sets e = by (nat_lt 0 count && same_memory kind Mmap) refl e
  where
    by : (t : Bool) → (nat_lt 0 count && same_memory kind Mmap) ≡ t
        → cond t ((length (set ∷ sets) == grant_count min_queued count) && list_all (serves shape) (set ∷ sets))
        (length (set ∷ sets) == 0) ≡ true → Serves shape kind (set ∷ sets)
    by true is f = record { mmap = mmap_kind kind (and_right _ _ is); all = and_right _ _ f }
    by false is f = absurd (some_left set sets f)

each_new : (shape : Shape) (min_queued count n : ℕ) (kind : Memory) (sets : List (PlaneSet Plane))
    → is_supply shape min_queued count kind sets ≡ true → EachFits shape kind (new_buffers n sets)
each_new shape min_queued count n kind [] e = each_empty shape kind n
each_new shape min_queued count n kind (set ∷ sets) e =
    let v : Serves shape kind (set ∷ sets) = served shape min_queued count kind set sets e in
    subst (λ (k : Memory). EachFits shape k (new_buffers n (set ∷ sets))) (sym v.mmap) (each_served shape (set ∷ sets) v.all)

pub fit_requested : (count : ℕ) (kind : Memory) (sets : List (PlaneSet Plane)) (b : Body Plane)
    → request_refusal count kind sets b ≡ None → AllFit (body_requested count kind sets b)
fit_requested count kind sets b e =
    let p : Passed (request_checks count kind sets b) = all_passed (request_checks count kind sets b) e in
    let supply : is_supply b.shape b.min_queued count kind sets ≡ true = true_of (is_supply b.shape b.min_queued count kind sets) p.1.1.0 in
    elim (count == 0) as (λ t. AllFit (record (cond t (body_stopped b) b) { kind = kind; buffers = new_buffers (grants_or_none b.min_queued count) sets }))
    [ true ↦ each_new b.shape b.min_queued count _ kind sets supply | false ↦ each_new b.shape b.min_queued count _ kind sets supply ]
