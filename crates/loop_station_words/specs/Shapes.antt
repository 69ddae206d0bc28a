-- The frames of the pattern.
use Rattle.std.specs.Prelude.{ℕ, IsTrue, List, Option, Some, None, if◌then◌else◌}
use Rattle.loop_record.specs.declared.geometry.Geometry.{Geometry}
use Rattle.loop_record.specs.declared.geometry.PixelFormat.{PixelFormat}
use Rattle.loop_record.specs.Geometry.{format_named, is_good}
use Rattle.loop_script.specs.Script.{rate_said, small_number}
use Rattle.loop_station_words.specs.declared.ring.RingSize.{RingSize}
use Rattle.loop_station_words.specs.declared.shape.FrameShape.{FrameShape}
use Rattle.loop_station_words.specs.Cuts.{cut}
use Rattle.loop_station_words.specs.Rings.{IsRing}

-- the geometry of a store for such frames
abbrev pub shape_geometry : FrameShape → RingSize → Geometry
shape_geometry shape ring = record {
  width = shape.width;
  height = shape.height;
  format = shape.format;
  rate_num = shape.rate_num;
  rate_den = shape.rate_den;
  segments = ring.segments;
  slots = ring.slots;
}

-- a store may have such frames with each ring
abbrev pub IsShape : FrameShape → Type 0
IsShape shape = (ring : RingSize) → IsRing ring → IsTrue (is_good (shape_geometry shape ring))

-- a shape, where a store may have such frames; each store may, if the smallest one may
abbrev pub allowed : FrameShape → Option FrameShape
allowed shape =
    if is_good (shape_geometry shape (record { segments = 2; slots = 1 })) then Some shape else None

-- the shape of these parts, where there is each of them
abbrev pub shape_from : Option ℕ → Option ℕ → Option PixelFormat → Option (ℕ × ℕ) → Option FrameShape
shape_from (Some width) (Some height) (Some format) (Some rate) = allowed (record {
  width = width;
  height = height;
  format = format;
  rate_num = rate.0;
  rate_den = rate.1;
})
shape_from _ _ _ _ = None

-- the shape that four words name: width, height, pixel format, rate
unfoldable pub shape_in : List ℕ → List ℕ → List ℕ → List ℕ → Option FrameShape
shape_in width height format rate =
    shape_from (small_number width) (small_number height) (format_named format) (rate_said rate)

-- `WxH`, and `FORMAT N:D`
abbrev pub both_cut : Option (List ℕ × List ℕ) → Option (List ℕ × List ℕ) → Option FrameShape
both_cut (Some size) (Some rest) = shape_in size.0 size.1 rest.0 rest.1
both_cut _ _ = None

-- `WxH FORMAT N:D`, cut after the size
abbrev pub size_cut : Option (List ℕ × List ℕ) → Option FrameShape
size_cut (Some parts) = both_cut (cut 120 parts.0) (cut 32 parts.1)
size_cut None = None

-- the shape that a text names, `WxH FORMAT N:D`
abbrev pub shape_said : List ℕ → Option FrameShape
shape_said text = size_cut (cut 32 text)
