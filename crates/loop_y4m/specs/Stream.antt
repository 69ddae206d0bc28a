-- How a whole input is read: line by line, and frame by frame.
use Rattle.std.specs.Prelude.{ℕ, zero, suc, Bool, ◌&&◌, ◌||◌, ◌==◌, nat_lt, nat_le, min, if◌then◌else◌, Option, Some, None, Result, Ok, Err, List, [], ◌∷◌, length, take, drop, codes, bytes_eq, slice_index}
use Rattle.std.specs.List.{before_first, after_first, position_or_len}
use Rattle.loop_y4m.specs.declared.fault.Y4mFault.{Y4mFault}
use Rattle.loop_y4m.specs.declared.fault.Y4mFault.TheVariants.{NotY4m, BadHeader, Truncated}
use Rattle.loop_y4m.specs.declared.header.Header.{Header}
use Rattle.loop_y4m.specs.declared.depth.Colours.{Colours}
use Rattle.loop_y4m.specs.declared.depth.Colours.TheVariants.{All, Eight}
use Rattle.loop_y4m.specs.declared.depth.Depth.{Depth}
use Rattle.loop_y4m.specs.Header.{and_then, header_of, header_words, number_at_most, size_of_frame}

abbrev pub is_newline : ℕ → Bool
is_newline b = b == 10

-- the first line, and what follows its 0x0A; a line has at most 4,096 bytes with it
abbrev pub line : List ℕ → Result (List ℕ × List ℕ) Y4mFault
line bytes = if nat_lt (position_or_len is_newline bytes) (min 4096 (length bytes))
    then Ok (before_first is_newline bytes, after_first is_newline bytes)
    else if nat_le 4096 (length bytes) then Err BadHeader else Err Truncated

-- the first ten bytes are `YUV4MPEG2` and a space or a 0x0A
abbrev pub is_y4m : List ℕ → Bool
is_y4m bytes = bytes_eq (take 10 bytes) (codes "YUV4MPEG2 ") || bytes_eq (take 10 bytes) (codes "YUV4MPEG2\n")

-- the header's line, and what follows it
abbrev pub header_line : List ℕ → Result (List ℕ × List ℕ) Y4mFault
header_line bytes = if is_y4m bytes then line bytes else Err NotY4m

-- the header, and what follows its line
abbrev pub header_and_rest : Colours → List ℕ → Result ((Header × Depth) × List ℕ) Y4mFault
header_and_rest colours bytes =
    and_then (header_line bytes) (λ l. and_then (header_of colours (drop 10 l.0)) (λ h. Ok (h, l.1)))

-- `FRAME`, alone or followed by a space and anything
abbrev pub is_frame_line : List ℕ → Bool
is_frame_line text = bytes_eq (take 5 text) (codes "FRAME") && (length text == 5 || slice_index text 5 == 32)

-- the number that a word says after a name of three bytes, below 2^64
abbrev pub word_says : List ℕ → List ℕ → Option ℕ
word_says name word =
    if bytes_eq (take 3 word) name then number_at_most 18446744073709551615 (drop 3 word) else None

-- the first of these, or else the other
abbrev pub or_else : Option ℕ → Option ℕ → Option ℕ
or_else (Some n) other = Some n
or_else None other = other

abbrev pub words_say : List ℕ → List (List ℕ) → Option ℕ
words_say name [] = None
words_say name (w ∷ ws) = or_else (word_says name w) (words_say name ws)

-- what a frame's line says after a name: its first word that says it
abbrev pub line_says : List ℕ → List ℕ → Option ℕ
line_says name text = words_say name (header_words text)

-- the microseconds of a frame, by its line: `Xt=MICROSECONDS`
abbrev pub frame_time : List ℕ → Option ℕ
frame_time text = line_says (codes "Xt=") text

-- the source's own number of a frame, by its line: `Xn=NUMBER`
abbrev pub frame_number : List ℕ → Option ℕ
frame_number text = line_says (codes "Xn=") text

-- the line of the next frame, and what follows it; None at the end
abbrev pub frame_start : List ℕ → Result (Option (List ℕ × List ℕ)) Y4mFault
frame_start [] = Ok None
frame_start (b ∷ bs) = and_then (line (b ∷ bs)) (λ l. if is_frame_line l.0 then Ok (Some l) else Err BadHeader)

-- as many bytes as a frame has, and what follows them
abbrev pub pixels : ℕ → List ℕ → Result (Option (List ℕ × List ℕ)) Y4mFault
pixels size bytes = if nat_le size (length bytes) then Ok (Some (take size bytes, drop size bytes)) else Err Truncated

-- the next frame, and what follows it; None at the end
abbrev pub next_frame : ℕ → List ℕ → Result (Option (List ℕ × List ℕ)) Y4mFault
next_frame size [] = Ok None
next_frame size (b ∷ bs) = and_then (line (b ∷ bs)) (λ l. if is_frame_line l.0 then pixels size l.1 else Err BadHeader)

-- frames, and the fault that follows them; None: the end follows them
pub record Frames : Type 0 where
  pub frames : List (List ℕ)
  pub fault : Option Y4mFault

-- these frames come, then this fault, or the end
abbrev pub ends_after : List (List ℕ) → Option Y4mFault → Frames
ends_after frames fault = record { frames = frames; fault = fault }

-- no frame comes, but this fault, or the end
abbrev pub ends : Option Y4mFault → Frames
ends fault = ends_after [] fault

-- a frame comes before these
abbrev pub before : List ℕ → Frames → Frames
before frame fs = record { frames = frame ∷ fs.frames; fault = fs.fault }

-- the next frame and those after it, or the end, or a fault
abbrev pub frames_by : (List ℕ → Frames) → Result (Option (List ℕ × List ℕ)) Y4mFault → Frames
frames_by behind (Err fault) = ends (Some fault)
frames_by behind (Ok None) = ends None
frames_by behind (Ok (Some f)) = before f.0 (behind f.1)

-- at most so many frames
abbrev pub frames_within : ℕ → ℕ → List ℕ → Frames
frames_within zero size bytes = ends None
frames_within (suc most) size bytes = frames_by (frames_within most size) (next_frame size bytes)

-- all frames of these bytes: with its line each frame takes at least a byte, so there are no more frames than bytes
abbrev pub frames_within_input : ℕ → List ℕ → Frames
frames_within_input size bytes = frames_within (suc (length bytes)) size bytes

-- a whole input of 8 bits a sample: its header, and its frames with what ends them
abbrev pub parse : List ℕ → Result (Header × Frames) Y4mFault
parse bytes =
    and_then (header_and_rest Eight bytes) (λ h. Ok (h.0.0, frames_within_input (size_of_frame h.0.0) h.1))

-- the same of 8 to 16 bits, and how many
abbrev pub parse_deep : List ℕ → Result ((Header × Depth) × Frames) Y4mFault
parse_deep bytes =
    and_then (header_and_rest All bytes) (λ h. Ok (h.0, frames_within_input (size_of_frame h.0.0) h.1))
