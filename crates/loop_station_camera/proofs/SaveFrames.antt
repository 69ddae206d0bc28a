-- The frames of a save's text: none yet, more of them, and all.
use Rattle.std.proofs.Common.{◌≡◌, ◌≤◌, ◌++◌, ℕ, ◌+◌, ◌-◌, List, [], ◌∷◌, Option, Some, length, map, ap, sym, subst, append_assoc, ◌∙◌, refl, arith}
use Rattle.std.proofs.KnownBytes.{Appends-nil, Appends-trans}
use Rattle.std.proofs.lemmas.Grind.{flat_map-append}
use Rattle.std.proofs.lemmas.List.{append-nil, length-append, map-append}
use Rattle.std.proofs.lemmas.List.FromFn.{map-range_with_len_more}
use Rattle.std.specs.Io.KnownBytes.{Appends}
use Rattle.std.specs.List.{flat_map, range_with_len}
use Rattle.loop_record.specs.declared.geometry.Geometry.{Geometry}
use Rattle.loop_y4m.specs.declared.depth.Depth.{Depth}
use Rattle.loop_y4m.specs.Text.{deep_header, deep_text, frame}
use Rattle.loop_station_shared.specs.declared.found.FoundClip.{FoundClip}
use Rattle.loop_station_camera.specs.declared.save.pieces.Piece.{Piece}
use Rattle.loop_station_camera.specs.Answers.{SeenAnswer, answered_bytes}
use Rattle.loop_station_camera.specs.Saves.{AreCut, AreSaved, IsSaved, frames_in_clips, piece_numbers}

-- ---- none yet

pub begun : (g : Geometry) (b : Depth) (old new : Option (List ℕ)) (answers : List SeenAnswer) → answers ≡ []
    → Appends old new (deep_header g b) → Appends old new (deep_text g b (answered_bytes answers))
begun g b old new answers none wrote =
    subst (λ (l : List SeenAnswer). Appends old new (deep_text g b (answered_bytes l))) (sym none)
    (subst (λ (l : List ℕ). Appends old new l) (sym (append-nil (deep_header g b))) wrote)

pub none-written : (now : Option (List ℕ)) (answers : List SeenAnswer) → answers ≡ []
    → Appends now now (flat_map frame (answered_bytes answers))
none-written now answers none =
    subst (λ (l : List SeenAnswer). Appends now now (flat_map frame (answered_bytes l))) (sym none) (Appends-nil now)

pub none-saved : (depth : Depth) (answers : List SeenAnswer) → answers ≡ [] → AreSaved depth [] answers
none-saved depth answers none = subst (λ (l : List SeenAnswer). AreSaved depth [] l) (sym none) tt

pub none-counted : (answers : List SeenAnswer) (clips left : List FoundClip) → answers ≡ [] → left ≡ clips
    → length answers + frames_in_clips left ≡ frames_in_clips clips
none-counted answers clips left none same =
    let zero : length answers ≡ 0 = ap length none in
    let all : frames_in_clips left ≡ frames_in_clips clips = ap frames_in_clips same in
    omega (arith, zero, all)

-- ---- more of them

-- what is written of answers, and then of more
joined : (answers more : List SeenAnswer)
    → flat_map frame (answered_bytes answers) ++ flat_map frame (answered_bytes more) ≡ flat_map frame (answered_bytes (answers ++ more))
joined answers more =
    sym (flat_map-append frame (answered_bytes answers) (answered_bytes more))
    ∙ ap (flat_map frame) (sym (map-append (λ (a : SeenAnswer). a.bytes) answers more))

-- one more frame after others
pub one-more : (old mid new : Option (List ℕ)) (answers after : List SeenAnswer) (a : SeenAnswer)
    → after ≡ answers ++ a ∷ [] → Appends old mid (flat_map frame (answered_bytes answers))
    → Appends mid new (frame a.bytes) → Appends old new (flat_map frame (answered_bytes after))
one-more old mid new answers after a is first then =
    subst (λ (l : List ℕ). Appends old new l)
    (ap (λ (l : List ℕ). flat_map frame (answered_bytes answers) ++ l) (sym (append-nil (frame a.bytes)))
    ∙ joined answers (a ∷ []) ∙ ap (λ (l : List SeenAnswer). flat_map frame (answered_bytes l)) (sym is))
    (Appends-trans old mid new (flat_map frame (answered_bytes answers)) (frame a.bytes) first then)

-- a text, and more frames
pub some-more : (g : Geometry) (b : Depth) (old mid new : Option (List ℕ)) (answers more after : List SeenAnswer)
    → after ≡ answers ++ more → Appends old mid (deep_text g b (answered_bytes answers))
    → Appends mid new (flat_map frame (answered_bytes more)) → Appends old new (deep_text g b (answered_bytes after))
some-more g b old mid new answers more after is first then =
    subst (λ (l : List ℕ). Appends old new l)
    (append_assoc (deep_header g b) (flat_map frame (answered_bytes answers)) (flat_map frame (answered_bytes more))
    ∙ ap (λ (l : List ℕ). deep_header g b ++ l) (joined answers more)
    ∙ ap (λ (l : List SeenAnswer). deep_text g b (answered_bytes l)) (sym is))
    (Appends-trans old mid new (deep_text g b (answered_bytes answers)) (flat_map frame (answered_bytes more)) first then)

-- the frames of some numbers, and then of more
saved-more : (depth : Depth) (under : List (FoundClip × ℕ)) (answers : List SeenAnswer)
    (more : List (FoundClip × ℕ)) (then : List SeenAnswer) → AreSaved depth under answers → AreSaved depth more then
    → AreSaved depth (under ++ more) (answers ++ then)
saved-more depth [] [] more then first last = last
saved-more depth [] (a ∷ rest) more then first last = absurd first
saved-more depth (u ∷ us) [] more then first last = absurd first
saved-more depth (u ∷ us) (a ∷ rest) more then first last = (first.0, saved-more depth us rest more then first.1 last)

-- the numbers of a clip from one on, and so many of them
abbrev under-clip : FoundClip → ℕ → ℕ → List (FoundClip × ℕ)
under-clip f from n = map (λ k. (f, k)) (range_with_len from n)

-- the frames of so many numbers of a clip, and the next one
pub saved-one : (depth : Depth) (f : FoundClip) (from n : ℕ) (answers after : List SeenAnswer) (a : SeenAnswer)
    → after ≡ answers ++ a ∷ [] → AreSaved depth (under-clip f from n) answers → IsSaved depth (f, from + n) a
    → AreSaved depth (under-clip f from (n + 1)) after
saved-one depth f from n answers after a same first is =
    subst (λ (l : List SeenAnswer). AreSaved depth (under-clip f from (n + 1)) l) (sym same)
    (subst (λ (under : List (FoundClip × ℕ)). AreSaved depth under (answers ++ a ∷ []))
    (sym (map-range_with_len_more (λ (k : ℕ). (f, k)) from n (from + n) refl))
    (saved-more depth (under-clip f from n) answers ((f, from + n) ∷ []) (a ∷ []) first (is, tt)))

pub counted-one : (answers after : List SeenAnswer) (a : SeenAnswer) (n : ℕ) → after ≡ answers ++ a ∷ []
    → length answers ≡ n → length after ≡ n + 1
counted-one answers after a n same is =
    ap length same ∙ (length-append answers (a ∷ []) ∙ ap (λ (k : ℕ). k + 1) is)

-- and those of pieces
pub saved-piece : (depth : Depth) (pieces : List Piece) (p : Piece) (answers more after : List SeenAnswer)
    → after ≡ answers ++ more → AreSaved depth (flat_map piece_numbers pieces) answers
    → AreSaved depth (piece_numbers p) more → AreSaved depth (flat_map piece_numbers (pieces ++ p ∷ [])) after
saved-piece depth pieces p answers more after same first then =
    subst (λ (l : List SeenAnswer). AreSaved depth (flat_map piece_numbers (pieces ++ p ∷ [])) l) (sym same)
    (subst (λ (under : List (FoundClip × ℕ)). AreSaved depth under (answers ++ more))
    (ap (λ (l : List (FoundClip × ℕ)). flat_map piece_numbers pieces ++ l) (sym (append-nil (piece_numbers p)))
    ∙ sym (flat_map-append piece_numbers pieces (p ∷ [])))
    (saved-more depth (flat_map piece_numbers pieces) answers (piece_numbers p) more first then))

pub counted-piece : (answers more after : List SeenAnswer) (clips left new : List FoundClip) (from end : ℕ)
    → after ≡ answers ++ more → length answers + frames_in_clips left ≡ frames_in_clips clips → from ≤ end
    → from + length more ≡ end + 1 → frames_in_clips left ≡ (end + 1 - from) + frames_in_clips new
    → length after + frames_in_clips new ≡ frames_in_clips clips
counted-piece answers more after clips left new from end same first some all taken =
    let both : length after ≡ length answers + length more = ap length same ∙ length-append answers more in
    omega (arith, both, first, some, all, taken)

-- ---- at the end

pub all-written : (depth : Depth) (p : Piece) (n : ℕ) (answers : List SeenAnswer) → n ≡ p.end - p.clip.clip.from + 1
    → AreSaved depth (under-clip p.clip p.clip.clip.from n) answers → AreSaved depth (piece_numbers p) answers
all-written depth p n answers is so =
    subst (λ (k : ℕ). AreSaved depth (under-clip p.clip p.clip.clip.from k) answers) is so

pub cut-whole : (clips : List FoundClip) (pieces : List Piece) (left : List FoundClip) → left ≡ []
    → AreCut clips pieces left → AreCut clips pieces []
cut-whole clips pieces left none cut = subst (λ (l : List FoundClip). AreCut clips pieces l) none cut

pub counted-whole : (answers : List SeenAnswer) (clips left : List FoundClip) → left ≡ []
    → length answers + frames_in_clips left ≡ frames_in_clips clips → length answers ≡ frames_in_clips clips
counted-whole answers clips left none all =
    let zero : frames_in_clips left ≡ 0 = ap frames_in_clips none in
    omega (arith, zero, all)
