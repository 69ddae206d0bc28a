-- What the contracts of private functions say; no caller needs it.
use Rattle.std.specs.Prelude.{◌≡◌, ◌≤◌, ◌<◌, ℕ, Bool, Option, Some, None, Result, Ok, Err, List, [], ◌++◌, flat_map, length, take, IfOk, IfSome, ⊤, true, false}
use Rattle.std.specs.Io.KnownBytes.{Appends}
use Rattle.loop_record.specs.Recording.{Picture, Recording, holds}
use Rattle.loop_y4m.specs.declared.fault.ExportFault.{ExportFault}
use Rattle.loop_y4m.specs.declared.fault.Y4mFault.{Y4mFault}
use Rattle.loop_y4m.specs.declared.fault.Y4mFault.TheVariants.{Read}
use Rattle.loop_y4m.specs.declared.header.Header.{Header}
use Rattle.loop_y4m.specs.declared.header.Parameters.{Parameters}
use Rattle.loop_y4m.specs.Export.{Stopped, frames_between}
use Rattle.loop_y4m.specs.Header.{size_of_frame}
use Rattle.loop_y4m.specs.declared.depth.Colours.{Colours}
use Rattle.loop_y4m.specs.declared.depth.Depth.{Depth}
use Rattle.loop_y4m.specs.declared.frame.FrameLine.{FrameLine}
use Rattle.loop_y4m.specs.Reader.{SaysLine, SaysWords, gave_frame}
use Rattle.loop_y4m.specs.Stream.{frame_start, header_and_rest, next_frame}
use Rattle.loop_y4m.specs.Text.{frame}

-- each side that is given has its limit
abbrev pub HasSmallSides : Parameters → Type 0
HasSmallSides p = IfSome p.width (λ w. w ≤ 16384) × IfSome p.height (λ h. h ≤ 16384)

-- the sides of a header are in their range, and so are its frames
abbrev pub IsSmall : Header → Type 0
IsSmall h = (h.width ≤ 16384) × (h.height ≤ 16384) × (size_of_frame h ≤ 16777216)

-- the answer is the line, and what follows it is left; a reader that failed may have lost bytes
abbrev pub LineIs : Result (List ℕ × List ℕ) Y4mFault → Result ℕ Y4mFault → List ℕ → Option (List ℕ) → Type 0
LineIs whole (Err Read) buf left = ⊤
LineIs whole (Err fault) buf left = whole ≡ Err fault
LineIs whole (Ok n) buf left = (rest : List ℕ) × (whole ≡ Ok (take n buf, rest)) × (left ≡ Some rest)

-- the bytes are what the input begins with; or it is too short, and the answer is this fault; a reader that failed may
-- have lost bytes
abbrev pub FillsWith : Y4mFault → List ℕ → Result (Unit {0}) Y4mFault → List ℕ → Option (List ℕ) → Type 0
FillsWith cut bytes (Err Read) out left = ⊤
FillsWith cut bytes (Err fault) out left = (fault ≡ cut) × (length bytes < length out)
FillsWith cut bytes (Ok done) out left = (rest : List ℕ) × (bytes ≡ out ++ rest) × (left ≡ Some rest)

-- the answer is the next frame
abbrev pub FrameIs : List ℕ → Result Bool Y4mFault → List ℕ → Option (List ℕ) → Type 0
FrameIs bytes (Err Read) out left = ⊤
FrameIs bytes (Err fault) out left = next_frame (length out) bytes ≡ Err fault
FrameIs bytes (Ok false) out left = (next_frame (length out) bytes ≡ Ok None) × (left ≡ Some bytes)
FrameIs bytes (Ok true) out left =
    (rest : List ℕ) × (next_frame (length out) bytes ≡ Ok (Some (out, rest))) × (left ≡ Some rest)

-- the answer is the next frame's line, and what it says
abbrev pub StartIs : List ℕ → Result (Option FrameLine) Y4mFault → Option (List ℕ) → Type 0
StartIs bytes (Err Read) left = ⊤
StartIs bytes (Err fault) left = frame_start bytes ≡ Err fault
StartIs bytes (Ok None) left = (frame_start bytes ≡ Ok None) × (left ≡ Some bytes)
StartIs bytes (Ok (Some said)) left = (first : List ℕ) × (rest : List ℕ)
    × (frame_start bytes ≡ Ok (Some (first, rest))) × (left ≡ Some rest) × SaysWords said first

-- the answer is the next frame, with what its line says
abbrev pub TimedIs : List ℕ → Result (Option FrameLine) Y4mFault → List ℕ → Option (List ℕ) → Type 0
TimedIs bytes result out left = FrameIs bytes (gave_frame result) out left × SaysLine bytes result

-- the answer is the header, where these colours are read
abbrev pub HeaderIs : Colours → List ℕ → Result (Header × Depth) Y4mFault → Option (List ℕ) → Type 0
HeaderIs colours bytes (Err Read) left = ⊤
HeaderIs colours bytes (Err fault) left = header_and_rest colours bytes ≡ Err fault
HeaderIs colours bytes (Ok header) left =
    (rest : List ℕ) × (header_and_rest colours bytes ≡ Ok (header, rest)) × (left ≡ Some rest)

-- ---- the export of a store

-- what was written of these bytes where the disk is honest: all of them, or a prefix of them where a read or the writer
-- failed
abbrev pub Moved : {T : Type 0} → Type 0 → Option (List ℕ) → Option (List ℕ) → Result T ExportFault → List ℕ → Type 0
Moved Honest old new (Ok x) bytes = Honest → Appends old new bytes
Moved Honest old new (Err fault) bytes = Stopped Honest fault old new bytes

-- the same of the text of these frames, and at Ok they are counted
abbrev pub MovedAll : Type 0 → Option (List ℕ) → Option (List ℕ) → Result ℕ ExportFault → List (List ℕ) → Type 0
MovedAll Honest old new result frames =
    Moved Honest old new result (flat_map frame frames) × IfOk result (λ count. count ≡ length frames)

-- the bytes of the frames from a number on to another, where there are any
abbrev pub frames_left : Option ℕ → ℕ → List (ℕ × Picture) → List (List ℕ)
frames_left None to frames = []
frames_left (Some n) to frames = frames_between n to frames

-- the least number of a range that a frame has: it is held, and the frames of the range begin with its own
abbrev pub IsFirstBetween : Recording → ℕ → ℕ → Option ℕ → Type 0
IsFirstBetween r from to first =
    IfSome first (λ n. holds r n ≡ true) × (frames_between from to r.frames ≡ frames_left first to r.frames)
