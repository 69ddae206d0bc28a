-- The frames of an input, one after another.
use Rattle.std.proofs.Common.{◌≡◌, ℕ, zero, suc, ◌<◌, ◌≤◌, Bool, true, false, Option, Some, None, List, [], ◌∷◌, length, refl, ap, arith, length-drop, sym, ◌∙◌}
use Rattle.std.specs.Prelude.{Ok, Err, Result, IfSome, option_map, min, nat_lt, nat_le, if◌then◌else◌}
use Rattle.std.specs.Option.{unwrap_or}
use Rattle.std.specs.Result.{result_err}
use Rattle.std.specs.List.{position_or_len}
use Rattle.loop_y4m.specs.declared.fault.Y4mFault.{Y4mFault}
use Rattle.loop_y4m.specs.declared.fault.Y4mFault.TheVariants.{NotY4m, BadHeader, OddWidth, UnsupportedColour, UnsupportedInterlace, Truncated, Read}
use Rattle.loop_y4m.specs.declared.header.Header.{Header}
use Rattle.loop_y4m.specs.Header.{and_then, size_of_frame}
use Rattle.loop_y4m.specs.declared.frame.FrameLine.{FrameLine}
use Rattle.loop_y4m.specs.Reader.{Gives, GivesNext, gave_frame, opened_with}
use Rattle.loop_y4m.specs.Steps.{FrameIs, TimedIs}
use Rattle.loop_y4m.specs.Stream.{Frames, before, ends, ends_after, frames_by, frames_within_input, frames_within, is_frame_line, is_newline, line, next_frame, pixels}

-- ---- each frame takes a byte or more

line_by : (inside long : Bool) (bytes : List ℕ) (l : List ℕ × List ℕ) → nat_lt (position_or_len is_newline bytes)
    (min 4096 (length bytes)) ≡ inside → nat_le 4096 (length bytes) ≡ long → line bytes ≡ Ok l
    → length l.1 < length bytes
line_by inside long bytes l is at found = grind (arith, is, at, found, length-drop)

line_shorter : (bytes : List ℕ) (l : List ℕ × List ℕ) → line bytes ≡ Ok l → length l.1 < length bytes
line_shorter bytes l found = line_by (nat_lt (position_or_len is_newline bytes) (min 4096 (length bytes))) (nat_le 4096 (length bytes)) bytes l refl refl found

-- what follows a frame's bytes
behind_pixels : (is short : Bool) (size : ℕ) (l f rest : List ℕ) → nat_le size (length l) ≡ short
    → (if is then pixels size l else Err BadHeader) ≡ Ok (Some (f, rest)) → length rest ≤ length l
behind_pixels is short size l f rest which found = grind (arith, which, found, length-drop)

frame_by : (first : Result (List ℕ × List ℕ) Y4mFault) (size : ℕ) (bytes f rest : List ℕ) → line bytes ≡ first
    → and_then first (λ l. if is_frame_line l.0 then pixels size l.1 else Err BadHeader) ≡ Ok (Some (f, rest))
    → length rest < length bytes
frame_by (Err fault) size bytes f rest is found = absurd cc
frame_by (Ok l) size bytes f rest is found =
    omega (
      arith,
      line_shorter bytes l is,
      behind_pixels (is_frame_line l.0) (nat_le size (length l.1)) size l.1 f
          rest refl found,
    )

frame_shorter : (size : ℕ) (bytes f rest : List ℕ) → next_frame size bytes ≡ Ok (Some (f, rest))
    → length rest < length bytes
frame_shorter size [] f rest found = absurd cc
frame_shorter size (b ∷ bs) f rest found = frame_by (line (b ∷ bs)) size (b ∷ bs) f rest refl found

-- ---- so the frames are those of the definition, whatever count above the length bounds them

same_by : (next : Result (Option (List ℕ × List ℕ)) Y4mFault) (size m n : ℕ) (bytes : List ℕ)
    → next_frame size bytes ≡ next
    → ((f rest : List ℕ) → next ≡ Ok (Some (f, rest)) → frames_within m size rest ≡ frames_within n size rest)
    → frames_by (frames_within m size) next ≡ frames_by (frames_within n size) next
same_by (Err fault) size m n bytes is same = refl
same_by (Ok None) size m n bytes is same = refl
same_by (Ok (Some f)) size m n bytes is same = ap (before f.0) (same f.0 f.1 refl)

enough : (m n size : ℕ) (bytes : List ℕ) → length bytes < m → length bytes < n
    → frames_within m size bytes ≡ frames_within n size bytes
enough zero n size bytes first second = absurd (omega (arith, first))
enough (suc m) zero size bytes first second = absurd (omega (arith, second))
enough (suc m) (suc n) size bytes first second = same_by (next_frame size bytes) size m n bytes refl
    (λ f rest is. enough m n size rest (omega (arith, frame_shorter size bytes f rest is, first)) (omega (arith, frame_shorter size bytes f rest is, second)))

step_by : (next : Result (Option (List ℕ × List ℕ)) Y4mFault) (size : ℕ) (bytes : List ℕ)
    → next_frame size bytes ≡ next → frames_by (frames_within (length bytes) size) next ≡ frames_by
    (frames_within_input size) next
step_by (Err fault) size bytes is = refl
step_by (Ok None) size bytes is = refl
step_by (Ok (Some f)) size bytes is = ap (before f.0) (enough (length bytes) (suc (length f.1)) size f.1 (frame_shorter size bytes f.0 f.1 is) (omega arith))

-- the frames of an input are the next one and those after it
pub frames_step : (size : ℕ) (bytes : List ℕ) → frames_within_input size bytes ≡ frames_by (frames_within_input size)
    (next_frame size bytes)
frames_step size bytes = step_by (next_frame size bytes) size bytes refl

-- ---- what a call for a frame answers, given the bytes that are left

next_known : (header : Header) (size : ℕ) (bytes : List ℕ) (new : Option (List ℕ)) (result : Result Bool Y4mFault)
    (out : List ℕ) → length out ≡ size_of_frame header → FrameIs bytes result out new
    → GivesNext (frames_within_input (size_of_frame header) bytes) result out
    (opened_with header (result_err result) new).rest
next_known header size bytes new (Err NotY4m) out full is = frames_step (size_of_frame header) bytes
    ∙ ap (frames_by (frames_within_input (size_of_frame header))) (rw full at is)
next_known header size bytes new (Err BadHeader) out full is = frames_step (size_of_frame header) bytes
    ∙ ap (frames_by (frames_within_input (size_of_frame header))) (rw full at is)
next_known header size bytes new (Err UnsupportedColour) out full is = frames_step (size_of_frame header) bytes
    ∙ ap (frames_by (frames_within_input (size_of_frame header))) (rw full at is)
next_known header size bytes new (Err OddWidth) out full is = frames_step (size_of_frame header) bytes
    ∙ ap (frames_by (frames_within_input (size_of_frame header))) (rw full at is)
next_known header size bytes new (Err UnsupportedInterlace) out full is = frames_step (size_of_frame header) bytes
    ∙ ap (frames_by (frames_within_input (size_of_frame header))) (rw full at is)
next_known header size bytes new (Err Truncated) out full is = frames_step (size_of_frame header) bytes
    ∙ ap (frames_by (frames_within_input (size_of_frame header))) (rw full at is)
next_known header size bytes new (Err Read) out full is = tt
next_known header size bytes new (Ok false) out full is = (
  frames_step (size_of_frame header) bytes ∙ ap (frames_by (frames_within_input (size_of_frame header)))
      (rw full at is.0),
  ap (option_map (frames_within_input (size_of_frame header))) is.1,
)
next_known header size bytes new (Ok true) out full is = (
  frames_within_input (size_of_frame header) is.0,
  frames_step (size_of_frame header) bytes
      ∙ ap (frames_by (frames_within_input (size_of_frame header))) (rw full at is.1),
  ap (option_map (frames_within_input (size_of_frame header))) is.2,
)

pub gives_next : (header : Header) (old new : Option (List ℕ)) (result : Result Bool Y4mFault) (out : List ℕ)
    → length out ≡ size_of_frame header → IfSome old (λ bytes. FrameIs bytes result out new)
    → IfSome (option_map (frames_within_input (size_of_frame header)) old)
    (λ frames. GivesNext frames result out (opened_with header (result_err result) new).rest)
gives_next header None new result out full is = tt
gives_next header (Some bytes) new result out full is = next_known header (size_of_frame header) bytes new result out full is

frame_of : (old new : Option (List ℕ)) (result : Result (Option FrameLine) Y4mFault) (out : List ℕ)
    → IfSome old (λ bytes. TimedIs bytes result out new) → IfSome old (λ bytes. FrameIs bytes (gave_frame result) out new)
frame_of None new result out is = tt
frame_of (Some bytes) new result out is = is.0

-- the same of a call with the frame's line
pub gives_timed : (header : Header) (old new : Option (List ℕ)) (result : Result (Option FrameLine) Y4mFault)
    (out : List ℕ) → length out ≡ size_of_frame header → IfSome old (λ bytes. TimedIs bytes result out new)
    → IfSome (option_map (frames_within_input (size_of_frame header)) old)
    (λ frames. GivesNext frames (gave_frame result) out (opened_with header (result_err result) new).rest)
gives_timed header old new (Err fault) out full is =
    gives_next header old new (Err fault) out full (frame_of old new (Err fault) out is)
gives_timed header old new (Ok None) out full is =
    gives_next header old new (Ok false) out full (frame_of old new (Ok None) out is)
gives_timed header old new (Ok (Some line)) out full is =
    gives_next header old new (Ok true) out full (frame_of old new (Ok (Some line)) out is)

some_is : (a b : Frames) → Some a ≡ Some b → a ≡ b
some_is a b same = ap (λ o. unwrap_or o a) same

-- a run up to the end, or to a fault, has all frames
pub run_read : (frames : Frames) (given : List (List ℕ)) (fault : Option Y4mFault) → Gives frames given (ends fault)
    → frames ≡ ends_after given fault
run_read frames [] fault all = all
run_read frames (f ∷ fs) fault all = all.1.1 ∙ ap (before f) (sym (some_is all.0 all.1.0 all.1.2) ∙ run_read all.0 fs fault all.2)
