-- Buffer types.
use Rattle.std.specs.Prelude.{Bool, true, false}
use Rattle.loop_record.specs.declared.geometry.PixelFormat.{PixelFormat}
use Rattle.loop_record.specs.declared.geometry.PixelFormat.TheVariants.{Grey}
use Rattle.loop_ioctl.specs.declared.call.BufferType.{BufferType}
use Rattle.loop_ioctl.specs.declared.call.BufferType.TheVariants.{VideoCapture, VideoCaptureMplane}
use Rattle.loop_ioctl.specs.declared.call.Ioctl.{Ioctl}
use Rattle.loop_ioctl.specs.declared.call.Ioctl.TheVariants.{ReqBufs, QueryBuf, PrepareBuf, QBuf, DqBuf, StreamOn, StreamOff, Mmap, Munmap}

-- the type of a queue for this format
abbrev pub type_of : PixelFormat → BufferType
type_of Grey = VideoCapture
type_of format = VideoCaptureMplane

-- the type that a call is for
abbrev pub named_type : {P A : Type 0} → Ioctl P A → BufferType
named_type (ReqBufs buf_type count memory supply) = buf_type
named_type (QueryBuf buf_type index) = buf_type
named_type (PrepareBuf buf_type index memory) = buf_type
named_type (QBuf buf_type index memory) = buf_type
named_type (DqBuf buf_type) = buf_type
named_type (StreamOn buf_type) = buf_type
named_type (StreamOff buf_type) = buf_type
named_type (Mmap buf_type index) = buf_type
named_type (Munmap buf_type index) = buf_type

abbrev pub same_type : BufferType → BufferType → Bool
same_type VideoCapture VideoCapture = true
same_type VideoCaptureMplane VideoCaptureMplane = true
same_type t u = false
