-- What the lines of orders mean.
use Rattle.std.specs.Prelude.{ℕ, ◌==◌, Bool, true, false, length, nat_le, List, ◌∷◌, Option, Some, None, option_map, if◌then◌else◌, codes}
use Rattle.std.specs.Str.{bytes_eq}
use Rattle.loop_script.specs.Script.{number, small_number}
use Rattle.loop_station_words.specs.declared.order.KeepTimes.{KeepTimes}
use Rattle.loop_station_words.specs.declared.order.Order.{Order}
use Rattle.loop_station_words.specs.declared.order.Order.TheVariants.{Cancel, Help, Keep, KeepBetween, Release, Reload, List as ListAll, Save, SaveEvent, Status, Stop}
use Rattle.loop_station_words.specs.Cuts.{cut}
use Rattle.loop_station_words.specs.Names.{is_label, named}
use Rattle.loop_station_words.specs.Times.{time_said}

-- the first word, and what follows the space that ends it
abbrev pub word_cut : List ℕ → Option (List ℕ × List ℕ) → List ℕ × Option (List ℕ)
word_cut text None = (text, None)
word_cut text (Some cut) = (cut.0, Some cut.1)

unfoldable pub first_word : List ℕ → List ℕ × Option (List ℕ)
first_word text = word_cut text (cut 32 text)

-- ---- keep

-- the seconds after the order, which a word such as `+10` says
abbrev pub after_cut : Option (List ℕ × List ℕ) → Option ℕ
after_cut None = None
after_cut (Some plus) = if length plus.0 == 0 then small_number plus.1 else None

unfoldable pub after_said : List ℕ → Option ℕ
after_said word = after_cut (cut 43 word)

-- the times, and the tag in the text after them, if there is one
abbrev pub tagged : Option ℕ → Option ℕ → Option (List ℕ) → Option KeepTimes
tagged seconds after None = Some (record { seconds = seconds; after = after; tag = None })
tagged seconds after (Some text) =
    option_map (λ tag. record { seconds = seconds; after = after; tag = Some tag }) (number text)

-- after the seconds: `+AFTER` and a tag, or a tag alone
abbrev pub after_in : Option ℕ → List ℕ → Option (List ℕ) → Option ℕ → Option KeepTimes
after_in seconds text rest (Some after) = tagged seconds (Some after) rest
after_in seconds text rest None = tagged seconds None (Some text)

-- the seconds, where there are any, and what follows them
unfoldable pub after_seconds : Option ℕ → Option (List ℕ) → Option KeepTimes
after_seconds None rest = None
after_seconds (Some seconds) None = tagged (Some seconds) None None
after_seconds (Some seconds) (Some text) =
    let word = first_word text in after_in (Some seconds) text word.1 (after_said word.0)

-- `+AFTER` and a tag, or seconds first
abbrev pub seconds_in : List ℕ → Option (List ℕ) → Option ℕ → Option KeepTimes
seconds_in first rest (Some after) = tagged None (Some after) rest
seconds_in first rest None = after_seconds (small_number first) rest

unfoldable pub times_in : List ℕ → Option KeepTimes
times_in text = let word = first_word text in seconds_in word.0 word.1 (after_said word.0)

-- `SECONDS`, `+AFTER` and a tag, in this order: each may be left out, but a tag never stands first
abbrev pub times_said : Option (List ℕ) → Option KeepTimes
times_said None = tagged None None None
times_said (Some text) = times_in text

-- a keep of a camera, or of all, with such times and tag
abbrev pub keep_of : Option (List ℕ) → Option KeepTimes → Option Order
keep_of camera None = None
keep_of camera (Some times) = Some (Keep camera times.seconds times.after times.tag)

-- what follows `keep `, whose first word may be a camera's name
abbrev pub keep_in : List ℕ → Option (List ℕ) → Option (List ℕ) → Option Order
keep_in text rest None = keep_of None (times_said (Some text))
keep_in text rest (Some camera) = keep_of (Some camera) (times_said rest)

unfoldable pub keep_said : List ℕ → Option Order
keep_said text = let word = first_word text in keep_in text word.1 (named word.0)

-- ---- release, save and cancel

-- a number that may be left out, where there is one
abbrev pub said_number : Option ℕ → Option (Option ℕ)
said_number (Some tag) = Some (Some tag)
said_number None = None

-- the release of a camera's clip, where there are all parts
abbrev pub release_of : Option (List ℕ) → Option ℕ → Option (Option ℕ) → Option Order
release_of (Some camera) (Some id) (Some first) = Some (Release camera id first)
release_of _ _ _ = None

-- the id of a clip, and the number of its first frame, which may be left out
abbrev pub clip_cut : Option (List ℕ) → List ℕ → Option (List ℕ × List ℕ) → Option Order
clip_cut camera text None = release_of camera (small_number text) (Some None)
clip_cut camera text (Some both) = release_of camera (small_number both.0) (said_number (number both.1))

abbrev pub release_cut : Option (List ℕ × List ℕ) → Option Order
release_cut None = None
release_cut (Some more) = clip_cut (named more.0) more.1 (cut 32 more.1)

-- what follows `release `: a camera and a clip
unfoldable pub release_said : List ℕ → Option Order
release_said text = release_cut (cut 32 text)

-- the save of a camera's clip, where there are both, and a path that isn't empty
abbrev pub save_of : Bool → Option (List ℕ) → Option ℕ → List ℕ → Option Order
save_of replace (Some camera) (Some id) (b ∷ out) = Some (Save camera id (b ∷ out) replace)
save_of _ _ _ _ = None

-- the tag of an event's clips, which a word such as `#7` says
abbrev pub event_cut : Option (List ℕ × List ℕ) → Option ℕ
event_cut None = None
event_cut (Some hash) = if length hash.0 == 0 then number hash.1 else None

unfoldable pub event_said : List ℕ → Option ℕ
event_said word = event_cut (cut 35 word)

-- the save of all clips of a camera that have a tag, where there is a camera, and a path that isn't empty
abbrev pub save_event_of : Bool → Option (List ℕ) → ℕ → List ℕ → Option Order
save_event_of replace (Some camera) tag (b ∷ out) = Some (SaveEvent camera tag (b ∷ out) replace)
save_event_of _ _ _ _ = None

-- the clips of a tag, or else the clip of an id
abbrev pub clips_in : Bool → Option (List ℕ) → List ℕ → List ℕ → Option ℕ → Option Order
clips_in replace camera word out (Some tag) = save_event_of replace camera tag out
clips_in replace camera word out None = save_of replace camera (small_number word) out

-- an event or the id of a clip, and a path
abbrev pub out_cut : Bool → Option (List ℕ) → Option (List ℕ × List ℕ) → Option Order
out_cut replace camera None = None
out_cut replace camera (Some both) = clips_in replace camera both.0 both.1 (event_said both.0)

abbrev pub save_cut : Bool → Option (List ℕ × List ℕ) → Option Order
save_cut replace None = None
save_cut replace (Some more) = out_cut replace (named more.0) (cut 32 more.1)

-- what follows `save `, or `save! ` which replaces a file: a camera, an event or a clip's id, and the rest of the line
unfoldable pub save_said : Bool → List ℕ → Option Order
save_said replace text = save_cut replace (cut 32 text)

-- the end of the save of a camera's clip, where there are both
abbrev pub cancel_of : Option (List ℕ) → Option ℕ → Option Order
cancel_of (Some camera) (Some id) = Some (Cancel camera id)
cancel_of _ _ = None

abbrev pub cancel_cut : Option (List ℕ × List ℕ) → Option Order
cancel_cut None = None
cancel_cut (Some more) = cancel_of (named more.0) (small_number more.1)

-- what follows `cancel `: a camera and the id of a clip
unfoldable pub cancel_said : List ℕ → Option Order
cancel_said text = cancel_cut (cut 32 text)

-- ---- a line without times of day

-- what a word alone asks for
abbrev pub alone_said : List ℕ → Option Order
alone_said word =
    if bytes_eq word (codes "keep") then keep_of None (times_said None)
    else if bytes_eq word (codes "help") then Some Help
    else if bytes_eq word (codes "list") then Some ListAll
    else if bytes_eq word (codes "reload") then Some Reload
    else if bytes_eq word (codes "status") then Some Status
    else if bytes_eq word (codes "stop") then Some Stop else None

-- what a word and the text after it ask for
abbrev pub more_said : List ℕ → List ℕ → Option Order
more_said word text =
    if bytes_eq word (codes "keep") then keep_said text
    else if bytes_eq word (codes "release") then release_said text
    else if bytes_eq word (codes "save") then save_said false text
    else if bytes_eq word (codes "save!") then save_said true text
    else if bytes_eq word (codes "cancel") then cancel_said text else None

abbrev pub line_cut : List ℕ → Option (List ℕ × List ℕ) → Option Order
line_cut line None = alone_said line
line_cut line (Some more) = more_said more.0 more.1

-- what a line without times of day asks for
unfoldable pub plain_said : List ℕ → Option Order
plain_said line = line_cut line (cut 32 line)

-- ---- a keep with times of day

-- a keep of what a camera, or all, held from one time to another, with a tag
abbrev pub between_of : Option (List ℕ) → Option ℕ → Option ℕ → Option (Option ℕ) → Option Order
between_of camera (Some since) (Some until) (Some tag) =
    if nat_le since until then Some (KeepBetween camera since until tag) else None
between_of _ _ _ _ = None

-- the second time, and the tag after it, if there is one
abbrev pub until_cut : Option (List ℕ) → Option ℕ → List ℕ → Option (List ℕ × List ℕ) → Option Order
until_cut camera since text None = between_of camera since (time_said text) (Some None)
until_cut camera since text (Some last) = between_of camera since (time_said last.0) (said_number (number last.1))

-- what follows the first time: `to T`, and a tag
abbrev pub to_cut : Option (List ℕ) → Option ℕ → Option (List ℕ × List ℕ) → Option Order
to_cut camera since None = None
to_cut camera since (Some more) =
    if bytes_eq more.0 (codes "to") then until_cut camera since more.1 (cut 32 more.1) else None

-- what follows `from `: `T to T`, and a tag
abbrev pub since_cut : Option (List ℕ) → Option (List ℕ × List ℕ) → Option Order
since_cut camera None = None
since_cut camera (Some more) = to_cut camera (time_said more.0) (cut 32 more.1)

-- `from T to T`, and a tag
abbrev pub from_cut : Option (List ℕ) → Option (List ℕ × List ℕ) → Option Order
from_cut camera None = None
from_cut camera (Some more) =
    if bytes_eq more.0 (codes "from") then since_cut camera (cut 32 more.1) else None

-- `from T to T`, and a tag
unfoldable pub from_said : Option (List ℕ) → List ℕ → Option Order
from_said camera text = from_cut camera (cut 32 text)

-- the first of both, if there is one
abbrev pub first_said : Option Order → Option Order → Option Order
first_said (Some order) other = Some order
first_said None other = other

-- a camera, and `from T to T` after it
abbrev pub camera_from : Option (List ℕ) → List ℕ → Option Order
camera_from None text = None
camera_from (Some camera) text = from_said (Some camera) text

abbrev pub camera_cut : Option (List ℕ × List ℕ) → Option Order
camera_cut None = None
camera_cut (Some more) = camera_from (named more.0) more.1

-- what follows `keep `: `from T to T`, with or without a camera before it
unfoldable pub times_kept : List ℕ → Option Order
times_kept text = first_said (from_said None text) (camera_cut (cut 32 text))

abbrev pub keep_cut : Option (List ℕ × List ℕ) → Option Order
keep_cut None = None
keep_cut (Some more) = if bytes_eq more.0 (codes "keep") then times_kept more.1 else None

-- what a line with times of day asks for
unfoldable pub timed_said : List ℕ → Option Order
timed_said line = keep_cut (cut 32 line)

-- what a line asks for, if it can be read
abbrev pub order_said : List ℕ → Option Order
order_said line = first_said (timed_said line) (plain_said line)

-- ---- labels

abbrev pub label_in : Option (List ℕ × List ℕ) → Option (List ℕ × List ℕ)
label_in None = None
label_in (Some more) = if is_label more.0 then Some (more.0, more.1) else None

abbrev pub label_cut : Option (List ℕ × List ℕ) → Option (List ℕ × List ℕ)
label_cut None = None
label_cut (Some more) = if length more.0 == 0 then label_in (cut 32 more.1) else None

-- the label of a line that begins with `@LABEL `, and the rest of the line
unfoldable pub label_said : List ℕ → Option (List ℕ × List ℕ)
label_said line = label_cut (cut 64 line)
