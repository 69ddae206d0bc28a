-- The image that headers and clips alone describe, with made-up frames.
use Rattle.std.specs.Prelude.{ℕ, ◌+◌, ◌-◌, ◌*◌, ◌/◌, ◌%◌, nat_lt, if◌then◌else◌, Option, None, Some, List, ◌++◌, map, replicate, slice_index, slice_index_or}
use Rattle.std.specs.List.{range_with_len}
use Rattle.loop_record.specs.declared.clip.Span.{Span}
use Rattle.loop_record.specs.declared.geometry.Geometry.{Geometry}
use Rattle.loop_record.specs.declared.segment.SegmentHead.{SegmentHead}
use Rattle.loop_record.specs.declared.superblock.SuperHead.{SuperHead}
use Rattle.loop_record.specs.Geometry.{disk_size, frame_bytes, segment_size, slot_size}
use Rattle.loop_record.specs.Layout.{entry_bytes, header_bytes, slot_bytes, super_bytes}
use Rattle.loop_record.specs.Recording.{Picture}

-- a made-up frame: zeros
abbrev pub blank : Geometry → Picture
blank g = record { sequence = 0; flags = 0; timestamp = 0; bytes = replicate (frame_bytes g) 0 }

-- byte k of a clip's entry
abbrev pub entry_byte : Option Span → ℕ → ℕ
entry_byte None k = 0
entry_byte (Some span) k = slice_index (entry_bytes span) k

-- byte k of the slots of a block: a made-up frame in each
abbrev pub slot_byte : Geometry → ℕ → ℕ → ℕ
slot_byte g block k = slice_index (slot_bytes (block * g.slots + k / slot_size g) (blank g)) (k % slot_size g)

-- byte k of a segment whose header says this: its gate and its block, the gates of its frames, the slots
abbrev pub segment_byte : Geometry → Option SegmentHead → ℕ → ℕ
segment_byte g None k = 0
segment_byte g (Some head) k =
    if nat_lt k 256 then slice_index (header_bytes head.block) k else
    if nat_lt k 512 then (if nat_lt (k - 256) head.frames then 0xA5 else 0) else
    slot_byte g head.block (k - 512)

-- byte k of the image, after the superblock
abbrev pub drawn_byte : Geometry → List (Option SegmentHead) → List (Option Span) → ℕ → ℕ
drawn_byte g heads clips k =
    if nat_lt k 2560 then entry_byte (slice_index_or clips ((k - 512) / 32) None) ((k - 512) % 32) else
    segment_byte g (slice_index_or heads ((k - 2560) / segment_size g) None) ((k - 2560) % segment_size g)

-- what its superblock says: the geometry, and version 2
abbrev pub drawn_super : Geometry → SuperHead
drawn_super g = record { geometry = g; version = 2 }

-- the image of these headers and clips
abbrev pub drawn_image : Geometry → List (Option SegmentHead) → List (Option Span) → List ℕ
drawn_image g heads clips =
    super_bytes (drawn_super g) ++ map (drawn_byte g heads clips) (range_with_len 512 (disk_size g - 512))
