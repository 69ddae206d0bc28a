-- What always holds of a desk, after a frame more and after some fewer, and what a refusal says.
use Rattle.std.proofs.Common.{◌≡◌, ℕ, ◌+◌, ◌-◌, ◌<◌, ◌≤◌, Err, List, [], ◌∷◌, ◌++◌, length, take, drop, All, refl, sym, ap, ◌∙◌, subst, arith}
use Rattle.std.proofs.lemmas.List.{length-append, length-drop, length-map, length-take-le}
use Rattle.std.proofs.lemmas.List.Elements.{All-append, All-cons, All-drop, All-nil}
use Rattle.circular_buffer.specs.Buffer.{Buffer, buffer, keep_last}
use Rattle.loop_record.specs.declared.frame.Frame.{Frame}
use Rattle.loop_record.specs.declared.geometry.Geometry.{Geometry}
use Rattle.loop_record.specs.Geometry.{frame_bytes}
use Rattle.loop_record.specs.Plain.{pictures}
use Rattle.loop_record.specs.Recording.{last_number, picture, ring_of}
use Rattle.loop_store.specs.declared.fault.StoreFault.{StoreFault}
use Rattle.loop_store.specs.declared.fault.StoreFault.TheVariants.{Disk}
use Rattle.loop_store.specs.Seen.{Refused, Seen}
use Rattle.loop_desk.specs.declared.limits.DeskLimits.{DeskLimits}
use Rattle.loop_desk.specs.Seen.{IsDesk}

-- what fits is kept
pub keep-all : {X : Type 0} (n : ℕ) (xs : List X) → length xs ≤ n → keep_last n xs ≡ xs
keep-all n xs few = let none : length xs - n ≡ 0 = omega (arith, few) in ap (λ (k : ℕ). drop k xs) none

pub kept-pushed : {D A : Type 0} (store : Seen D) (limits : DeskLimits) (b : Buffer (Frame A)) (frame : Frame A)
    → IsDesk store limits b → length b.items < b.capacity → store.next + length b.items < last_number
    (ring_of store.geometry) → length frame.bytes.items ≡ frame_bytes store.geometry
    → IsDesk store limits (buffer (b.items ++ frame ∷ []) b.capacity)
kept-pushed {A = A} store limits b frame desk room low size =
    let more : length (b.items ++ frame ∷ []) ≡ length b.items + 1 = omega (arith, length-append b.items (frame ∷ [])) in
    let right : Frame A → Type 0 = λ (f : Frame A). length f.bytes.items ≡ frame_bytes store.geometry in
    record {
      capacity = desk.capacity;
      most = desk.most;
      group = desk.group;
      few = omega (arith, more, room, desk.capacity);
      numbers = omega (arith, more, low);
      sizes = All-append right b.items (frame ∷ []) desk.sizes (All-cons right frame [] size (All-nil right));
    }

pub kept-flushed : {D A : Type 0} (old new : Seen D) (limits : DeskLimits) (b : Buffer (Frame A)) (count : ℕ)
    → IsDesk old limits b → new.geometry ≡ old.geometry → new.next ≡ old.next + count → count ≤ length b.items
    → IsDesk new limits (buffer (drop count b.items) b.capacity)
kept-flushed {A = A} old new limits b count desk same next few =
    let fewer : length (drop count b.items) ≡ length b.items - count = length-drop count b.items in
    let right : Frame A → Type 0 = λ (f : Frame A). length f.bytes.items ≡ frame_bytes old.geometry in
    let last : last_number (ring_of new.geometry) ≡ last_number (ring_of old.geometry) = ap (λ (g : Geometry). last_number (ring_of g)) same in
    record {
      capacity = desk.capacity;
      most = desk.most;
      group = desk.group;
      few = omega (arith, fewer, desk.few);
      numbers = omega (arith, fewer, few, next, last, desk.numbers);
      sizes = subst (λ (g : Geometry). All (λ (f : Frame A). length f.bytes.items ≡ frame_bytes g)
          (drop count b.items)) (sym same) (All-drop right count b.items desk.sizes);
    }

-- a call of the store that stores nothing
pub kept-same : {D A : Type 0} (old new : Seen D) (limits : DeskLimits) (b : Buffer (Frame A)) → IsDesk old limits b
    → new.geometry ≡ old.geometry → new.next ≡ old.next → IsDesk new limits b
kept-same {A = A} old new limits b desk same next =
    let last : last_number (ring_of new.geometry) ≡ last_number (ring_of old.geometry) = ap (λ (g : Geometry). last_number (ring_of g)) same in
    record {
      capacity = desk.capacity;
      most = desk.most;
      group = desk.group;
      few = desk.few;
      numbers = omega (arith, next, last, desk.numbers);
      sizes = subst (λ (g : Geometry). All (λ (f : Frame A). length f.bytes.items ≡ frame_bytes g) b.items) (sym same) desk.sizes;
    }

-- at most, and not equal
pub below : (m n : ℕ) → m ≤ n → (m ≡ n → ⊥) → m < n
below m n most other = omega (arith, most, other)

pub none-of : {X : Type 0} (xs : List X) → length xs ≡ 0 → xs ≡ []
none-of [] none = refl
none-of (x ∷ xs) none = absurd (omega (arith, none))

-- the first of the frames, and how many they are
pub stored-size : {A : Type 0} (count : ℕ) (items frames : List (Frame A)) → frames ≡ items → count ≤ length items
    → length (pictures (take count frames)) ≡ count
stored-size {A} count items frames same few =
    length-map (take count frames) picture ∙ length-take-le count frames (subst (λ (l : List (Frame A)). count ≤ length l) (sym same) few)

-- a refusal says the same of the store, whatever would have been answered
pub refused-as : {D : Type 0} (S T : Type 0) (old new : Seen D) (fault : StoreFault) → Refused {T = S} old new (Err fault) → Refused {T = T} old new (Err fault)
refused-as S T old new (Disk f) refused = refused
refused-as S T old new _ refused = refused
