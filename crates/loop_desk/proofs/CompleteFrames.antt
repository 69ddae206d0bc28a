-- A buffer completed with a whole frame has that frame's bytes.
use Rattle.std.proofs.Common.{◌≡◌, ℕ, zero, suc, ◌+◌, ◌-◌, ◌≤◌, ◌⊎◌, inl, inr, true, false, ◌&&◌, ◌==◌, List, ◌++◌, length, take, drop, Option, Some, None, refl, sym, ◌∙◌, ap, arith, length-drop}
use Rattle.std.specs.Prelude.{is_some, option_map}
use Rattle.std.proofs.lemmas.List.{take-take, take_all, take-append-drop, drop-drop}
use Rattle.loop_plane.specs.Plane.{Plane}
use Rattle.loop_record.specs.declared.geometry.PixelFormat.TheVariants.{Grey, Ym12, Ym16, Ym24}
use Rattle.loop_vb2.specs.declared.buffer.Buffer.{Buffer}
use Rattle.loop_vb2.specs.declared.buffer.Stamp.{Stamp}
use Rattle.loop_vb2.specs.declared.planes.PlaneSet.{PlaneSet}
use Rattle.loop_vb2.specs.declared.planes.Shape.{Shape}
use Rattle.loop_vb2.proofs.Short.{completed_with}
use Rattle.loop_vb2.specs.First.{shape_of}
use Rattle.loop_vb2.specs.Planes.{number_at, bytes_in, slot_filled, set_by, frame_size, has_count, alike}
use Rattle.loop_ioctl.proofs.EventRuns.{first_true, second_true}
use Rattle.loop_desk.proofs.Short.{taken_bytes}
use Rattle.loop_desk.specs.FrontLaws.{WholeFramesAreTaken}

-- a plane is there, or takes no bytes
abbrev Has : Option Plane → ℕ → Type 0
Has plane size = (is_some plane ≡ true) ⊎ (size ≡ 0)

same_size : (n : ℕ) → n ≤ n
same_size n = omega arith

full_part : (plane : Option Plane) (n : ℕ) (bytes : List ℕ) → Has plane n
    → take n (take n (bytes_in (slot_filled plane (take n bytes)))) ≡ take n bytes
full_part None zero bytes h = refl
full_part None (suc n) bytes (inl e) = absurd (cc)
full_part None (suc n) bytes (inr e) = absurd (omega (arith, e))
full_part (Some p) n bytes h = take-take n n (take n bytes) (same_size n) ∙ take-take n n bytes (same_size n)

last_size : (n a b c : ℕ) → n ≡ a + b + c → n - (a + b) ≤ c
last_size n a b c e = omega (arith, e)

-- the pieces of a frame, one after the other
pieces : (a b c : ℕ) (bytes : List ℕ) → length bytes ≡ a + b + c → take a bytes
    ++ (take b (drop a bytes) ++ take c (drop (a + b) bytes)) ≡ bytes
pieces a b c bytes e =
    let short : length (drop (a + b) bytes) ≤ c = rw (length-drop (a + b) bytes) (last_size (length bytes) a b c e) in
    ap (λ l. take a bytes ++ (take b (drop a bytes) ++ l)) (take_all c (drop (a + b) bytes) short ∙ sym (drop-drop b a bytes))
    ∙ (ap (λ l. take a bytes ++ l) (take-append-drop b (drop a bytes)) ∙ take-append-drop a bytes)

taken_whole : (shape : Shape) (stamp : Stamp) (bytes : List ℕ) (b : Buffer Plane) (set : PlaneSet Plane)
    → b.planes ≡ Some set → Has set.planes.y (number_at shape.sizes 0) → Has set.planes.cb (number_at shape.sizes 1)
    → Has set.planes.cr (number_at shape.sizes 2) → length bytes ≡ frame_size shape
    → taken_bytes shape (completed_with shape stamp bytes b) ≡ bytes
taken_whole shape stamp bytes b set is y cb cr whole =
    let n0 = number_at shape.sizes 0 in
    let n1 = number_at shape.sizes 1 in
    let n2 = number_at shape.sizes 2 in
    let x0 = take n0 (take n0 (bytes_in (slot_filled set.planes.y (take n0 bytes)))) in
    let x1 = take n1 (take n1 (bytes_in (slot_filled set.planes.cb (take n1 (drop n0 bytes))))) in
    let x2 = take n2 (take n2 (bytes_in (slot_filled set.planes.cr (take n2 (drop (n0 + n1) bytes))))) in
    ap (λ p. taken_bytes shape (record (completed_with shape stamp bytes b) { planes = option_map (set_by slot_filled shape bytes) p })) is
    ∙ (ap (λ l. l ++ (x1 ++ x2)) (full_part set.planes.y n0 bytes y)
    ∙ (ap (λ l. take n0 bytes ++ (l ++ x2)) (full_part set.planes.cb n1 (drop n0 bytes) cb)
    ∙ (ap (λ l. take n0 bytes ++ (take n1 (drop n0 bytes) ++ l)) (full_part set.planes.cr n2 (drop (n0 + n1) bytes) cr)
    ∙ pieces n0 n1 n2 bytes whole)))

is_there : (plane : Option Plane) → alike (is_some plane) true ≡ true → is_some plane ≡ true
is_there None e = e
is_there (Some p) e = refl

-- the planes that a set has, by their number
record HasThree (set : PlaneSet Plane) : Type 0 where
  y : is_some set.planes.y ≡ true
  cb : is_some set.planes.cb ≡ true
  cr : is_some set.planes.cr ≡ true

has_three : (set : PlaneSet Plane) → has_count 3 set ≡ true → HasThree set
has_three set e =
    let t0 = set.count == 3 in
    let t1 = alike (is_some set.planes.y) true in
    let t2 = alike (is_some set.planes.cb) true in
    let t3 = alike (is_some set.planes.cr) true in
    let e2 : ((t0 && t1) && t2) ≡ true = first_true ((t0 && t1) && t2) t3 e in
    let e1 : (t0 && t1) ≡ true = first_true (t0 && t1) t2 e2 in
    record {
      y = is_there set.planes.y (second_true t0 t1 e1);
      cb = is_there set.planes.cb (second_true (t0 && t1) t2 e2);
      cr = is_there set.planes.cr (second_true ((t0 && t1) && t2) t3 e);
    }

has_one : (set : PlaneSet Plane) → has_count 1 set ≡ true → is_some set.planes.y ≡ true
has_one set e =
    let t0 = set.count == 1 in
    let t1 = alike (is_some set.planes.y) true in
    let t2 = alike (is_some set.planes.cb) false in
    let t3 = alike (is_some set.planes.cr) false in
    is_there set.planes.y (second_true t0 t1 (first_true (t0 && t1) t2 (first_true ((t0 && t1) && t2) t3 e)))

three_taken : (shape : Shape) (stamp : Stamp) (bytes : List ℕ) (b : Buffer Plane) (set : PlaneSet Plane)
    → b.planes ≡ Some set → has_count 3 set ≡ true → length bytes ≡ frame_size shape
    → taken_bytes shape (completed_with shape stamp bytes b) ≡ bytes
three_taken shape stamp bytes b set is three whole =
    let h : HasThree set = has_three set three in taken_whole shape stamp bytes b set is (inl h.y) (inl h.cb) (inl h.cr) whole

pub whole_taken : WholeFramesAreTaken
whole_taken Grey width height stamp bytes b set is counted whole =
    taken_whole (shape_of Grey width height) stamp bytes b set is (inl (has_one set counted)) (inr refl)
    (inr refl) whole
whole_taken Ym12 width height stamp bytes b set is counted whole = three_taken (shape_of Ym12 width height) stamp bytes b set is counted whole
whole_taken Ym16 width height stamp bytes b set is counted whole = three_taken (shape_of Ym16 width height) stamp bytes b set is counted whole
whole_taken Ym24 width height stamp bytes b set is counted whole = three_taken (shape_of Ym24 width height) stamp bytes b set is counted whole
