-- Histories without pixels: the same definitions, over frames without their bytes.
use Rattle.std.specs.Prelude.{◌≡◌, ℕ, Result, Ok, Err, List, [], length, map}
use Rattle.loop_clips.specs.Table.{clip_list}
use Rattle.loop_record.specs.declared.frame.FrameHead.{FrameHead}
use Rattle.loop_record.specs.Recording.{Picture, Recording}
use Rattle.loop_store.specs.declared.fault.StoreFault.{StoreFault}
use Rattle.loop_store.specs.Calls.{StoreState}
use Rattle.loop_desk.specs.declared.limits.Outline.{Outline}
use Rattle.loop_desk.specs.Desk.{AreDeskAnswers, DeskCall, DeskState, Rules, clip_locked, clip_unlocked, desk_after_calls, flushed, frame_read, layout_upgraded, run_told, status_told, submitted}

-- a frame without its bytes
abbrev pub bare : Picture → Picture
bare p = record p { bytes = [] }

-- under its number
abbrev pub bare_frame : ℕ × Picture → ℕ × Picture
bare_frame f = (f.0, bare f.1)

abbrev pub bare_recording : Recording → Recording
bare_recording r = record r { frames = map bare_frame r.frames }

abbrev pub bare_store : StoreState → StoreState
bare_store s = record s { recording = bare_recording s.recording }

abbrev pub bare_state : DeskState → DeskState
bare_state s = record { store = bare_store s.store; pending = map bare s.pending }

-- what a read answers
abbrev pub bare_read : Result (FrameHead × List ℕ) StoreFault → Result (FrameHead × List ℕ) StoreFault
bare_read (Ok x) = Ok (x.0, [])
bare_read (Err fault) = Err fault

abbrev pub bare_call : DeskCall → DeskCall
bare_call (submitted p size result) = submitted (bare p) size result
bare_call (flushed result) = flushed result
bare_call (clip_locked span result) = clip_locked span result
bare_call (clip_unlocked id result) = clip_unlocked id result
bare_call (frame_read number result) = frame_read number (bare_read result)
bare_call (status_told status) = status_told status
bare_call (layout_upgraded result) = layout_upgraded result
bare_call (run_told times place run) = run_told times place run

-- Calls that were answered so are answered so without pixels too, and end in the same state without them.
pub record IsBlind (k : Rules) (s : DeskState) (calls : List DeskCall) : Type 0 where
  pub answers : AreDeskAnswers k s calls → AreDeskAnswers k (bare_state s) (map bare_call calls)
  pub state : desk_after_calls k (bare_state s) (map bare_call calls) ≡ bare_state (desk_after_calls k s calls)

-- the outline says what the state is
pub record IsOutlineOf {A : Type 0} (s : DeskState) (outline : Outline A) : Type 0 where
  pub version : outline.version ≡ s.store.version
  pub keep : outline.keep ≡ s.store.keep
  pub next : outline.next ≡ s.store.recording.next
  pub frames : outline.frames.items ≡ map (λ f. f.0) s.store.recording.frames
  pub clips : outline.clips.items ≡ clip_list 0 s.store.recording.clips
  pub pending : outline.pending ≡ length s.pending
