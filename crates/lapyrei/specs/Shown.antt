-- What the numbers and structs stand for that C gives and gets.
use Rattle.std.specs.Prelude.{ℕ, ◌==◌, if◌then◌else◌, Option, Some, None, Result, Ok, Err, List, [], ◌∷◌, option_map}
use Rattle.loop_clips.specs.declared.clip.Clip.{Clip}
use Rattle.loop_disk.specs.declared.fault.DiskFault.TheVariants as disk
use Rattle.loop_record.specs.declared.clip.Span.{Span}
use Rattle.loop_record.specs.declared.frame.FrameHead.{FrameHead}
use Rattle.loop_record.specs.declared.geometry.Geometry.{Geometry}
use Rattle.loop_record.specs.declared.geometry.PixelFormat.{PixelFormat}
use Rattle.loop_record.specs.declared.geometry.PixelFormat.TheVariants.{Grey, Ym12, Ym16, Ym24}
use Rattle.loop_record.specs.Geometry.{is_good}
use Rattle.loop_record.specs.Layout.{damage_number}
use Rattle.loop_store.specs.declared.fault.StoreFault.{StoreFault}
use Rattle.loop_store.specs.declared.fault.StoreFault.TheVariants as fault
use Rattle.loop_store.specs.Faults.{fault_number}
use Rattle.lapyrei.specs.declared.answer.Head.{Head}
use Rattle.lapyrei.specs.declared.answer.Run.{Run}
use Rattle.lapyrei.specs.declared.answer.Shape.{Shape}

-- ---- refusals

-- 0, or the number of the refusal
abbrev pub refusal_of : Result ℕ StoreFault → ℕ
refusal_of (Ok value) = 0
refusal_of (Err fault) = fault_number fault

-- what a refusal names: which call of the disk, which damage, or which number; 0 where it names nothing
abbrev pub named_by : StoreFault → ℕ
named_by (fault.Disk disk.Read) = 1
named_by (fault.Disk disk.Write) = 2
named_by (fault.Disk disk.Sync) = 3
named_by (fault.Damaged damage) = damage_number damage
named_by (fault.ClipNotHeld number) = number
named_by _ = 0

-- 0, or what the refusal names
abbrev pub detail_of : Result ℕ StoreFault → ℕ
detail_of (Ok value) = 0
detail_of (Err fault) = named_by fault

-- ---- shapes

-- the number of a format
abbrev pub format_number : PixelFormat → ℕ
format_number Grey = 0
format_number Ym12 = 1
format_number Ym16 = 2
format_number Ym24 = 3

-- the format of a number
abbrev pub format_numbered : ℕ → Option PixelFormat
format_numbered n =
    if n == 0 then Some Grey else
    if n == 1 then Some Ym12 else
    if n == 2 then Some Ym16 else
    if n == 3 then Some Ym24 else None

-- a geometry and a version of the layout as a shape
abbrev pub shown_shape : Geometry → ℕ → Shape
shown_shape g version = record {
  width = g.width;
  height = g.height;
  format = format_number g.format;
  rate_num = g.rate_num;
  rate_den = g.rate_den;
  segments = g.segments;
  slots = g.slots;
  version = version;
}

-- a shape's geometry in a format
abbrev pub geometry_as : Shape → PixelFormat → Geometry
geometry_as shape format = record {
  width = shape.width;
  height = shape.height;
  format = format;
  rate_num = shape.rate_num;
  rate_den = shape.rate_den;
  segments = shape.segments;
  slots = shape.slots;
}

-- a shape's geometry, where its format is one
abbrev pub shaped : Shape → Option Geometry
shaped shape = option_map (geometry_as shape) (format_numbered shape.format)

-- the version of the layout that is asked for: 1, or otherwise 2
abbrev pub version_asked : ℕ → ℕ
version_asked version = if version == 1 then 1 else 2

-- how many bytes something of a good geometry has; 0 where there is none
abbrev pub bytes_of_good : (Geometry → ℕ) → Option Geometry → ℕ
bytes_of_good bytes None = 0
bytes_of_good bytes (Some g) = if is_good g then bytes g else 0

-- ---- frames, clips and runs

-- a stored frame's head
abbrev pub shown_head : FrameHead → Head
shown_head found = record {
  number = found.number;
  timestamp = found.timestamp;
  sequence = found.sequence;
  flags = found.flags;
}

-- a clip
abbrev pub clip_run : Clip → Run
clip_run clip = record { id = clip.id; from = clip.from; to = clip.to; tag = clip.tag }

-- a run of numbers
abbrev pub span_run : Span → Run
span_run span = record { id = 0; from = span.from; to = span.to; tag = 0 }

-- memory with these at its front, as many as it has room for
abbrev pub put_over : {T : Type 0} → List T → List T → List T
put_over [] memory = memory
put_over (x ∷ xs) [] = []
put_over (x ∷ xs) (m ∷ memory) = x ∷ put_over xs memory
