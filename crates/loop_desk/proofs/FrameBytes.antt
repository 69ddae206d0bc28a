-- The bytes of a frame, copied out of planes.
use Rattle.std.proofs.Common.{◌≡◌, ℕ, zero, suc, ◌+◌, ◌<◌, ◌≤◌, inl, inr, Bool, true, false, nat_le, nat_lt, List, [], ◌∷◌, ◌++◌, length, take, drop, min, Option, Some, None, Err, refl, sym, ◌∙◌, ap, subst, arith, rules, ◌-◌, length-take, length-drop}
use Rattle.std.specs.Prelude.{slice_get, option_map, is_some}
use Rattle.std.proofs.lemmas.Option.{slice_get_within}
use Rattle.std.proofs.lemmas.List.{take-take, take_all, append-nil}
use Rattle.std.proofs.lemmas.Slice.{take-put_mid_below, overwrites}
use borrow.Rule.Slice.PartMut.{put_mid}
use Rattle.std.proofs.lemmas.Bool.{cases_lt}
use Rattle.std.proofs.lemmas.Bool.Decides.{nat_tests}
use Rattle.loop_plane.specs.Plane.{Plane}
use Rattle.loop_plane.specs.declared.memory.Memory.{Memory}
use Rattle.loop_plane.specs.declared.memory.Memory.TheVariants.{Mmap, UserPtr, DmaBuf}
use Rattle.loop_vb2.specs.declared.buffer.Buffer.{Buffer}
use Rattle.loop_vb2.specs.declared.planes.PlaneSet.{PlaneSet}
use Rattle.loop_vb2.specs.declared.planes.Shape.{Shape}
use Rattle.loop_vb2.specs.declared.reason.Errno.{Errno}
use Rattle.loop_vb2.specs.declared.reason.Reason.{Reason}
use Rattle.loop_vb2.specs.Buffers.{state_at, used_at, bytes_at, handed_over, dequeued_from}
use Rattle.loop_vb2.proofs.Short.{has_plane_at, kept}
use Rattle.loop_vb2.specs.Refusals.{copy_refusal}
use Rattle.loop_vb2.specs.Errnos.{errno}
use Rattle.loop_vb2.specs.Owner.{is_dequeued}
use Rattle.loop_vb2.specs.Planes.{number_at, bytes_in, plane_in, plane_of_set, read_set}
use Rattle.loop_vb2.specs.State.{Body, QueueState, Lined}
use Rattle.loop_vb2.specs.Events.{Happens, copy_plane}
use Rattle.loop_desk.specs.Front.{part}
use Rattle.loop_desk.proofs.Short.{taken_bytes}
use Rattle.loop_desk.specs.Parts.{Appends, begin_of, begin_at, begins_of, begins_at, IsOwn, StaysIn, CopiesFrame, AppendsOwn, AppendsAllOwn}

-- ---- the buffer of an index

module _ where
  state_got : (bs : List (Buffer Plane)) (index : ℕ) (b : Buffer Plane) → slice_get bs index ≡ Some b
      → state_at bs index ≡ b.state
  state_got [] index b e = absurd (cc)
  state_got (x ∷ bs) zero b e = let g : x ≡ b = cc in ap (λ y. y.state) g
  state_got (x ∷ bs) (suc index) b e = state_got bs index b e

  used_got : (bs : List (Buffer Plane)) (index plane : ℕ) (b : Buffer Plane) → slice_get bs index ≡ Some b
      → used_at bs index plane ≡ number_at b.used plane
  used_got [] index plane b e = absurd (cc)
  used_got (x ∷ bs) zero plane b e = let g : x ≡ b = cc in ap (λ y. number_at y.used plane) g
  used_got (x ∷ bs) (suc index) plane b e = used_got bs index plane b e

  bytes_got : (bs : List (Buffer Plane)) (index plane : ℕ) (b : Buffer Plane) → slice_get bs index ≡ Some b
      → bytes_at bs index plane ≡ bytes_in (plane_in b.planes plane)
  bytes_got [] index plane b e = absurd (cc)
  bytes_got (x ∷ bs) zero plane b e = let g : x ≡ b = cc in ap (λ y. bytes_in (plane_in y.planes plane)) g
  bytes_got (x ∷ bs) (suc index) plane b e = bytes_got bs index plane b e

own_here : (s : QueueState) (b : Buffer Plane) (index most plane : ℕ) → StaysIn s.body index b
    → most ≤ number_at b.used plane → IsOwn s.body.buffers index most plane
own_here s b index most plane left less =
    let x = dequeued_from s.body.kind b in
    record {
      within = slice_get_within s.body.buffers index x left;
      free = ap is_dequeued (state_got s.body.buffers index x left);
      used = subst (λ n. most ≤ n) (sym (used_got s.body.buffers index plane x left)) less;
    }

-- ---- a frame's part in a plane

below_first : (a b : ℕ) → a < b → min b a ≡ a
below_first a b e = omega (arith, e)

first_below : (a b : ℕ) → a ≤ b → min a b ≡ a
first_below a b e = omega (arith, e)

taken_short : (a b : ℕ) (l : List ℕ) → b < a → length (take b l) ≤ a
taken_short a b l e = let f : length (take b l) ≡ min b (length l) = length-take b l in omega (arith, e, f)

take_both : (a b : ℕ) (l : List ℕ) → take (min a b) l ≡ take a (take b l)
take_both a b l =
    elim (cases_lt b a) [
      | inl e ↦ ap (λ n. take n l) (below_first b a e) ∙ sym (take_all a (take b l) (taken_short a b l e))
      | inr e ↦ ap (λ n. take n l) (first_below a b e) ∙ sym (take-take a b l e)
    ]

least_second : (a b : ℕ) → min a b ≤ b
least_second a b = omega arith

-- what DQBUF handed over is all that the buffer held
given_all : (kind : Memory) (planes : Option (PlaneSet Plane)) (set : PlaneSet Plane)
    → Some set ≡ handed_over kind planes → planes ≡ Some set
given_all Mmap planes set e = absurd (cc)
given_all UserPtr planes set e = sym e
given_all DmaBuf planes set e = sym e

-- where nothing was handed over, what the buffer held is still there
kept_all : (kind : Memory) (planes : Option (PlaneSet Plane)) → None ≡ handed_over kind planes
    → kept kind planes ≡ planes
kept_all Mmap planes e = refl
kept_all UserPtr planes e = e
kept_all DmaBuf planes e = e

abbrev counts_in : Shape → List ℕ → List ℕ
counts_in shape used =
    min (number_at shape.sizes 0) (number_at used 0)
    ∷ min (number_at shape.sizes 1) (number_at used 1)
    ∷ min (number_at shape.sizes 2) (number_at used 2) ∷ []

nothing_more : (at : ℕ) → at ≡ at + 0
nothing_more at = omega arith

same_at : (at : ℕ) → at ≤ at
same_at at = omega arith

take_nothing : (n : ℕ) → take {A = ℕ} n [] ≡ []
take_nothing zero = refl
take_nothing (suc n) = refl

mid_kept : (k n p : ℕ) → k ≤ n - p → min k (n - p) ≡ k
mid_kept k n p e = omega (arith, e)

mid_there : (at k most n : ℕ) → k ≡ most → at + most ≤ n → k ≤ n - at
mid_there at k most n e f = omega (arith, e, f)

-- the bytes between two places
pub mid_long : (at k most : ℕ) (xs : List ℕ) → k ≡ most → at + most ≤ length xs → length (take k (drop at xs)) ≡ most
mid_long at k most xs e f =
    length-take k (drop at xs) ∙ (ap (min k) (length-drop at xs) ∙ (mid_kept k (length xs) at (mid_there at k most (length xs) e f) ∙ e))

pub length_mid : (a k : ℕ) (xs ys : List ℕ) → length ys ≡ k → a + k ≤ length xs → length (put_mid a k xs ys) ≡ length xs
length_mid a k xs ys e f = search (rules, overwrites)

-- ---- nothing copied, since there is no such plane

no_bytes : (bs : List (Buffer Plane)) (index plane : ℕ) → has_plane_at bs index plane ≡ false
    → bytes_at bs index plane ≡ []
no_bytes [] index plane e = refl
no_bytes (b ∷ bs) zero plane e = none_in (plane_in b.planes plane) e
  where
    none_in : (o : Option Plane) → is_some o ≡ false → bytes_in o ≡ []
    none_in None e = refl
    none_in (Some p) e = absurd (cc)
no_bytes (b ∷ bs) (suc index) plane e = no_bytes bs index plane e

-- where a buffer is the application's and so much was used, only a plane that isn't there is refused
no_plane : (index plane most : ℕ) (b : Body Plane) → IsOwn b.buffers index most plane
    → (copy_refusal index plane 0 most b ≡ None → ⊥) → has_plane_at b.buffers index plane ≡ false
no_plane index plane most b own fails = by (has_plane_at b.buffers index plane) refl
  where
    by : (t : Bool) → has_plane_at b.buffers index plane ≡ t → t ≡ false
    by false e = refl
    by true e =
        let within : nat_le (length b.buffers) index ≡ false = let h = own.within in grind (arith, nat_tests) in
        let enough : nat_lt (used_at b.buffers index plane) (0 + most) ≡ false = let h = own.used in grind (arith, nat_tests) in
        absurd (fails (rw (within, e, own.free, enough) refl))

some_reason : (e : Errno) (why : Option Reason) → option_map errno why ≡ Some e → why ≡ None → ⊥
some_reason e None is none = absurd (cc)
some_reason e (Some reason) is none = absurd (cc)

short_at : (at most n : ℕ) → at + most ≤ n → at ≤ n
short_at at most n e = omega (arith, e)

module _ {P : Type 0} (m : P → Plane) where
  pub nothing_copied : (e : Errno) (q : Lined P) (index plane most at k : ℕ) (before after out : List ℕ)
      → Happens m q q (copy_plane index plane 0 (length before) (Err e)) → after ≡ before → length before ≡ most
      → k ≡ most → at + most ≤ length out → AppendsOwn m q index plane most at out at (put_mid at k out after)
  nothing_copied e q index plane most at k before after out step same long is room s stands own =
      let t = step s stands in
      let fails : option_map errno (copy_refusal index plane 0 most s.body) ≡ Some e =
      subst (λ n. option_map errno (copy_refusal index plane 0 n s.body) ≡ Some e) long t.0 in
      let none : bytes_at s.body.buffers index plane ≡ [] = no_bytes s.body.buffers index plane
      (no_plane index plane most s.body own (some_reason e (copy_refusal index plane 0 most s.body) fails)) in
      let begin : begin_at s.body.buffers index most plane ≡ [] = ap (take most) none ∙ take_nothing most in
      let size : length after ≡ k = ap length same ∙ (long ∙ sym is) in
      subst (λ l. Appends l at out at (put_mid at k out after)) (sym begin) (record {
        ends = nothing_more at;
        text = take-put_mid_below at k out after at (same_at at) (short_at at most (length out) room) ∙ sym (append-nil (take at out));
        long = length_mid at k out after size (subst (λ n. at + n ≤ length out) (sym is) room);
      })

module _ {P : Type 0} (m : P → Plane) where
  part_given : (shape : Shape) (b : Buffer Plane) (set : PlaneSet Plane) (i : ℕ) → b.planes ≡ Some set
      → begin_of set (min (number_at shape.sizes i) (number_at b.used i)) i ≡ part shape b i
  part_given shape b set i is =
      take_both (number_at shape.sizes i) (number_at b.used i) (bytes_in (plane_of_set set i))
      ∙ ap (λ p. take (number_at shape.sizes i) (take (number_at b.used i) (bytes_in (plane_in p i)))) (sym is)

  -- out of planes that went to the application
  pub frame_given : (shape : Shape) (q : Lined P) (index : ℕ) (used counts : List ℕ) (set : PlaneSet P)
      (before : List ℕ) (stop : ℕ) (after : List ℕ) → shape ≡ q.body.shape → counts ≡ counts_in shape used
      → Appends (begins_of (read_set m set) counts) 0 before stop after
      → CopiesFrame m q index used (Some set) before stop after
  frame_given shape q index used counts set before stop after own is appends s b stands left same planes =
      let sh : shape ≡ s.body.shape = own ∙ ap (λ x. x.shape) stands.shown.body in
      let all : b.planes ≡ Some (read_set m set) = given_all s.body.kind b.planes (read_set m set) planes in
      let c : counts ≡ counts_in s.body.shape b.used = is ∙ (ap (λ x. counts_in x used) sh ∙ ap (counts_in s.body.shape) same) in
      let bytes : begins_of (read_set m set) (counts_in s.body.shape b.used) ≡ taken_bytes s.body.shape b =
      ap (λ l. l ++ (begin_of (read_set m set) (min (number_at s.body.shape.sizes 1) (number_at b.used 1)) 1
      ++ begin_of (read_set m set) (min (number_at s.body.shape.sizes 2) (number_at b.used 2)) 2))
      (part_given s.body.shape b (read_set m set) 0 all)
      ∙ (ap (λ l. part s.body.shape b 0
      ++ (l ++ begin_of (read_set m set) (min (number_at s.body.shape.sizes 2) (number_at b.used 2)) 2))
      (part_given s.body.shape b (read_set m set) 1 all)
      ∙ ap (λ l. part s.body.shape b 0 ++ (part s.body.shape b 1 ++ l)) (part_given s.body.shape b (read_set m set) 2 all)) in
      subst (λ l. Appends l 0 before stop after) bytes (subst (λ x. Appends (begins_of (read_set m set) x) 0 before stop after) c appends)

  part_own : (s : QueueState) (index : ℕ) (b : Buffer Plane) (i : ℕ) → StaysIn s.body index b
      → kept s.body.kind b.planes ≡ b.planes → begin_at s.body.buffers index
      (min (number_at s.body.shape.sizes i) (number_at b.used i)) i ≡ part s.body.shape b i
  part_own s index b i left same =
      ap (take (min (number_at s.body.shape.sizes i) (number_at b.used i)))
      (bytes_got s.body.buffers index i (dequeued_from s.body.kind b) left ∙ ap (λ p. bytes_in (plane_in p i)) same)
      ∙ take_both (number_at s.body.shape.sizes i) (number_at b.used i) (bytes_in (plane_in b.planes i))

  -- out of planes that stayed in the queue
  pub frame_own : (shape : Shape) (q : Lined P) (index : ℕ) (used counts : List ℕ) (before : List ℕ) (stop : ℕ)
      (after : List ℕ) → shape ≡ q.body.shape → counts ≡ counts_in shape used
      → AppendsAllOwn m q index counts before stop after → CopiesFrame m q index used None before stop after
  frame_own shape q index used counts before stop after own is appends s b stands left same planes =
      let sh : shape ≡ s.body.shape = own ∙ ap (λ x. x.shape) stands.shown.body in
      let all : kept s.body.kind b.planes ≡ b.planes = kept_all s.body.kind b.planes planes in
      let c : counts ≡ counts_in s.body.shape b.used = is ∙ (ap (λ x. counts_in x used) sh ∙ ap (counts_in s.body.shape) same) in
      let n0 = min (number_at s.body.shape.sizes 0) (number_at b.used 0) in
      let n1 = min (number_at s.body.shape.sizes 1) (number_at b.used 1) in
      let n2 = min (number_at s.body.shape.sizes 2) (number_at b.used 2) in
      let there : AppendsAllOwn m q index (counts_in s.body.shape b.used) before stop after =
      subst (λ x. AppendsAllOwn m q index x before stop after) c appends in
      let text : Appends (begins_at s.body.buffers index (counts_in s.body.shape b.used)) 0 before stop after =
      there s stands (own_here s b index n0 0 left (least_second (number_at s.body.shape.sizes 0) (number_at b.used 0)))
      (own_here s b index n1 1 left (least_second (number_at s.body.shape.sizes 1) (number_at b.used 1)))
      (own_here s b index n2 2 left (least_second (number_at s.body.shape.sizes 2) (number_at b.used 2))) in
      let bytes : begins_at s.body.buffers index (counts_in s.body.shape b.used) ≡ taken_bytes s.body.shape b =
      ap (λ l. l ++ (begin_at s.body.buffers index n1 1 ++ begin_at s.body.buffers index n2 2)) (part_own s index b 0 left all)
      ∙ (ap (λ l. part s.body.shape b 0 ++ (l ++ begin_at s.body.buffers index n2 2)) (part_own s index b 1 left all)
      ∙ ap (λ l. part s.body.shape b 0 ++ (part s.body.shape b 1 ++ l)) (part_own s index b 2 left all)) in
      subst (λ l. Appends l 0 before stop after) bytes text
