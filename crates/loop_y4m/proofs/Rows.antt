-- Worked examples, computed.
use Rattle.std.proofs.Common.{◌≡◌, ℕ, ◌+◌, ◌%◌, List, [], ◌∷◌, ◌++◌, length, take, map, Option, Some, None, refl, arith}
use Rattle.std.specs.Prelude.{Result, Ok, Err, codes, decimal}
use Rattle.std.proofs.lemmas.Fmt.{decimal_digit, decimal_step}
use Rattle.std.specs.List.{range_with_len}
use Rattle.loop_record.specs.declared.geometry.Geometry.{Geometry}
use Rattle.loop_record.specs.declared.geometry.PixelFormat.TheVariants.{Ym12}
use Rattle.loop_y4m.specs.declared.fault.Y4mFault.{Y4mFault}
use Rattle.loop_y4m.specs.declared.fault.Y4mFault.TheVariants.{NotY4m, BadHeader, UnsupportedColour, UnsupportedInterlace, Truncated}
use Rattle.loop_y4m.specs.declared.header.Header.{Header}
use Rattle.loop_y4m.specs.Stream.{Frames, parse}
use Rattle.loop_y4m.specs.Text.{text}

-- 4x2 pixels, 25 frames a second
abbrev pub small : Geometry
small = record { width = 4; height = 2; format = Ym12; rate_num = 25; rate_den = 1; segments = 3; slots = 2 }

abbrev pub small_header : Header
small_header = record { format = Ym12; width = 4; height = 2; rate_num = 25; rate_den = 1 }

-- frame n of a pattern
abbrev pub pixels : ℕ → List ℕ
pixels n = map (λ i. (n + i) % 256) (range_with_len 0 12)

-- an export of two frames
abbrev pub exported : List ℕ
exported = codes "YUV4MPEG2 W4 H2 F25:1 Ip A0:0 C420jpeg" ++ 10 ∷ (codes "FRAME" ++ 10 ∷ pixels 0) ++ (codes "FRAME" ++ 10 ∷ pixels 1)

decimal_of_25 : decimal 25 ≡ codes "25"
decimal_of_25 = rw (decimal_step 25 (omega arith) (omega arith)) (rw (decimal_digit 2 (omega arith)) refl)

exported_is_written : text small (pixels 0 ∷ pixels 1 ∷ []) ≡ exported
exported_is_written = rw decimal_of_25 (rw (decimal_digit 4 (omega arith)) (rw (decimal_digit 2 (omega arith)) (rw (decimal_digit 1 (omega arith)) refl)))

exported_size : length exported ≡ 75
exported_size = refl

-- the input is a header of the small geometry, these frames, and this end
abbrev pub reads : List (List ℕ) → Option Y4mFault → Result (Header × Frames) Y4mFault
reads frames fault = Ok (small_header, record { frames = frames; fault = fault })

exported_is_read : parse exported ≡ reads (pixels 0 ∷ pixels 1 ∷ []) None
exported_is_read = refl

cut_by_a_byte : parse (take 74 exported) ≡ reads (pixels 0 ∷ []) (Some Truncated)
cut_by_a_byte = refl

-- ---- the same, cut to each length

-- what is read of each prefix of so many bytes
abbrev pub cuts : ℕ → ℕ → List (Result (Header × Frames) Y4mFault)
cuts from count = map (λ n. parse (take n exported)) (range_with_len from count)

abbrev pub always : ℕ → Result (Header × Frames) Y4mFault → List (Result (Header × Frames) Y4mFault)
always count answer = map (λ _. answer) (range_with_len 0 count)

within_the_magic : cuts 0 10 ≡ always 10 (Err NotY4m)
within_the_magic = refl

within_the_header : cuts 10 29 ≡ always 29 (Err Truncated)
within_the_header = refl

behind_the_header : cuts 39 1 ≡ always 1 (reads [] None)
behind_the_header = refl

within_the_first_frame : cuts 40 17 ≡ always 17 (reads [] (Some Truncated))
within_the_first_frame = refl

behind_the_first_frame : cuts 57 1 ≡ always 1 (reads (pixels 0 ∷ []) None)
behind_the_first_frame = refl

within_the_second_frame : cuts 58 17 ≡ always 17 (reads (pixels 0 ∷ []) (Some Truncated))
within_the_second_frame = refl

-- ---- headers

abbrev pub lined : List ℕ → List ℕ
lined bytes = bytes ++ 10 ∷ []

ffmpeg_full_range : parse (lined (codes "YUV4MPEG2 W4 H2 F25:1 Ip A1:1 C420jpeg XYSCSS=420JPEG")) ≡ reads [] None
ffmpeg_full_range = refl

ffmpeg_limited_range : parse (lined
    (codes "YUV4MPEG2 W4 H2 F25:1 Ip A1:1 C420mpeg2 XYSCSS=420MPEG2 XCOLORRANGE=LIMITED")) ≡ reads [] None
ffmpeg_limited_range = refl

top_field_first : parse (lined (codes "YUV4MPEG2 W4 H2 F25:1 It A1:1 C420jpeg XYSCSS=420JPEG")) ≡ Err
    UnsupportedInterlace
top_field_first = refl

quarter_width : parse (lined (codes "YUV4MPEG2 W4 H2 F25:1 Ip A1:1 C411 XYSCSS=420JPEG")) ≡ Err UnsupportedColour
quarter_width = refl

four_bytes : parse (codes "YUV4") ≡ Err NotY4m
four_bytes = refl

header_without_its_end : parse (codes "YUV4MPEG2 W4 H2 F25:1 Ip A1:1 C420jpeg XYSCSS=420JPEG") ≡ Err Truncated
header_without_its_end = refl

-- ---- what is accepted leniently, and what isn't

last_counts : parse (lined (codes "YUV4MPEG2  W9 H2 W0004 F25:1 Q")) ≡ reads [] None
last_counts = refl

first_fault_decides : parse (lined (codes "YUV4MPEG2 W4 H2 C411 It W0 W4")) ≡ Err UnsupportedColour
first_fault_decides = refl

no_height : parse (lined (codes "YUV4MPEG2 W4 F25:1")) ≡ Err BadHeader
no_height = refl

no_parameters : parse (lined (codes "YUV4MPEG2")) ≡ Err BadHeader
no_parameters = refl

too_wide : parse (lined (codes "YUV4MPEG2 W16385 H2")) ≡ Err BadHeader
too_wide = refl

rate_of_33_bits : parse (lined (codes "YUV4MPEG2 W4 H2 F4294967296:1")) ≡ Err BadHeader
rate_of_33_bits = refl

too_large : parse (lined (codes "YUV4MPEG2 W4096 H4097 Cmono")) ≡ Err BadHeader
too_large = refl

not_a_frame_line : parse (lined (codes "YUV4MPEG2 W4 H2 F25:1") ++ lined (codes "FRAMES")) ≡ reads [] (Some BadHeader)
not_a_frame_line = refl

-- a line of 4,096 bytes with its 0x0A is read, one of 4,097 isn't
abbrev pub filled : ℕ → List ℕ
filled n = lined (codes "YUV4MPEG2 W4 H2 F25:1 X" ++ map (λ _. 65) (range_with_len 0 n))

longest_line : parse (filled 4072) ≡ reads [] None
longest_line = refl

too_long_line : parse (filled 4073) ≡ Err BadHeader
too_long_line = refl
