-- What an open reader is, and what its calls answer.
use Rattle.std.specs.Prelude.{◌≡◌, ℕ, Bool, Option, Some, None, Result, Ok, Err, List, [], ◌∷◌, option_map, ⊤, true, false}
use Rattle.loop_y4m.specs.declared.fault.Y4mFault.{Y4mFault}
use Rattle.loop_y4m.specs.declared.fault.Y4mFault.TheVariants.{Read}
use Rattle.loop_y4m.specs.declared.header.Header.{Header}
use Rattle.loop_y4m.specs.Header.{size_of_frame}
use Rattle.loop_y4m.specs.declared.depth.Depth.{Depth}
use Rattle.loop_y4m.specs.declared.frame.FrameLine.{FrameLine}
use Rattle.loop_y4m.specs.Stream.{Frames, before, ends, frame_number, frame_time, frames_within_input, line, parse, parse_deep}

-- an open reader: what its header says, the fault that it met, and what is still to be read, where that is known: as
-- frames, and as bytes
pub record OpenReader : Type 0 where
  pub header : Header
  pub fault : Option Y4mFault
  pub rest : Option Frames
  pub left : Option (List ℕ)

-- a reader with these bytes left; after a fault there is only that fault
abbrev pub opened_with : Header → Option Y4mFault → Option (List ℕ) → OpenReader
opened_with header None left = record {
  header = header;
  fault = None;
  rest = option_map (frames_within_input (size_of_frame header)) left;
  left = left;
}
opened_with header (Some fault) left =
    record { header = header; fault = Some fault; rest = Some (ends (Some fault)); left = None }

-- the answer to the opening of an input: what `parse` says of it, except where the reader failed
abbrev pub OpensAs : List ℕ → Result OpenReader Y4mFault → Type 0
OpensAs bytes (Err Read) = ⊤
OpensAs bytes (Err fault) = parse bytes ≡ Err fault
OpensAs bytes (Ok r) = (rest : Frames) × (parse bytes ≡ Ok (r.header, rest)) × (r.rest ≡ Some rest)

-- the same of 8 to 16 bits a sample: what `parse_deep` says
abbrev pub OpensDeepAs : List ℕ → Result (OpenReader × Depth) Y4mFault → Type 0
OpensDeepAs bytes (Err Read) = ⊤
OpensDeepAs bytes (Err fault) = parse_deep bytes ≡ Err fault
OpensDeepAs bytes (Ok r) =
    (rest : Frames) × (parse_deep bytes ≡ Ok ((r.0.header, r.1), rest)) × (r.0.rest ≡ Some rest)

-- whether a call with its line gave a frame
abbrev pub gave_frame : Result (Option FrameLine) Y4mFault → Result Bool Y4mFault
gave_frame (Err fault) = Err fault
gave_frame (Ok None) = Ok false
gave_frame (Ok (Some line)) = Ok true

-- the time and the number are those that this line says
abbrev pub SaysWords : FrameLine → List ℕ → Type 0
SaysWords said text = (said.time ≡ frame_time text) × (said.number ≡ frame_number text)

-- where a frame came, its time and its number are what the first line of these bytes says
abbrev pub SaysLine : List ℕ → Result (Option FrameLine) Y4mFault → Type 0
SaysLine bytes (Ok (Some said)) = (l : List ℕ × List ℕ) × (line bytes ≡ Ok l) × SaysWords said l.0
SaysLine bytes _ = ⊤

-- the answer to a call for a frame, and what is left to be read: the first of the frames and those after it, the end,
-- or the fault, except where the reader failed
abbrev pub GivesNext : Frames → Result Bool Y4mFault → List ℕ → Option Frames → Type 0
GivesNext frames (Err Read) out left = ⊤
GivesNext frames (Err fault) out left = frames ≡ ends (Some fault)
GivesNext frames (Ok false) out left = (frames ≡ ends None) × (left ≡ Some frames)
GivesNext frames (Ok true) out left = (rest : Frames) × (frames ≡ before out rest) × (left ≡ Some rest)

-- calls in turn gave these frames, and this is left
abbrev pub Gives : Frames → List (List ℕ) → Frames → Type 0
Gives frames [] left = frames ≡ left
Gives frames (f ∷ fs) left = (rest : Frames) × GivesNext frames (Ok true) f (Some rest) × Gives rest fs left
