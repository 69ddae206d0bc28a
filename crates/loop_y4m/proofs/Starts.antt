-- A frame's line, and then its bytes.
use Rattle.std.proofs.Common.{◌≡◌, ℕ, ◌<◌, Bool, true, false, Option, Some, None, List, [], ◌∷◌, length, refl, ap, sym, ◌∙◌}
use Rattle.std.specs.Prelude.{Ok, Err, Result, IfSome, if◌then◌else◌}
use Rattle.loop_y4m.specs.declared.fault.Y4mFault.{Y4mFault}
use Rattle.loop_y4m.specs.declared.fault.Y4mFault.TheVariants.{NotY4m, BadHeader, OddWidth, UnsupportedColour, UnsupportedInterlace, Truncated, Read}
use Rattle.loop_y4m.specs.declared.frame.FrameLine.{FrameLine}
use Rattle.loop_y4m.specs.Header.{and_then}
use Rattle.loop_y4m.specs.Steps.{FillsWith, StartIs, TimedIs}
use Rattle.loop_y4m.specs.Stream.{frame_start, is_frame_line, line, next_frame, pixels}
use Rattle.loop_y4m.proofs.Pixels.{pixels_cut, pixels_whole}

-- a line, and what follows it
abbrev Cut : Type 0
Cut = List ℕ × List ℕ

-- what a frame's start says, and the frame, given whether the line is a frame's
abbrev started : Bool → Cut → Result (Option Cut) Y4mFault
started is k = if is then Ok (Some k) else Err BadHeader

abbrev framed : Bool → ℕ → Cut → Result (Option Cut) Y4mFault
framed is size k = if is then pixels size k.1 else Err BadHeader

-- ---- the line is a frame's

begun_if : (is : Bool) (k l : Cut) (size : ℕ) → started is k ≡ Ok (Some l)
    → (k ≡ l) × (framed is size k ≡ pixels size l.1)
begun_if true k l size e = let same : k ≡ l = cc in (same, ap (λ (x : Cut). pixels size x.1) same)
begun_if false k l size e = absurd cc

begun_by : (first : Result Cut Y4mFault) (l : Cut) (size : ℕ)
    → and_then first (λ k. started (is_frame_line k.0) k) ≡ Ok (Some l)
    → (first ≡ Ok l) × (and_then first (λ k. framed (is_frame_line k.0) size k) ≡ pixels size l.1)
begun_by (Err fault) l size e = absurd cc
begun_by (Ok k) l size e =
    let x = begun_if (is_frame_line k.0) k l size e in (ap (λ (y : Cut). Ok y) x.0, x.1)

begun : (size : ℕ) (bytes : List ℕ) (l : Cut) → frame_start bytes ≡ Ok (Some l)
    → (line bytes ≡ Ok l) × (next_frame size bytes ≡ pixels size l.1)
begun size [] l e = absurd cc
begun size (b ∷ bs) l e = begun_by (line (b ∷ bs)) l size e

-- ---- it isn't, or there is none

failed_if : (is : Bool) (k : Cut) (fault : Y4mFault) (size : ℕ) → started is k ≡ Err fault
    → framed is size k ≡ Err fault
failed_if true k fault size e = absurd cc
failed_if false k fault size e = let same : BadHeader ≡ fault = cc in ap (λ (f : Y4mFault). Err f) same

failed_by : (first : Result Cut Y4mFault) (fault : Y4mFault) (size : ℕ)
    → and_then first (λ k. started (is_frame_line k.0) k) ≡ Err fault
    → and_then first (λ k. framed (is_frame_line k.0) size k) ≡ Err fault
failed_by (Err f) fault size e = let same : f ≡ fault = cc in ap (λ (x : Y4mFault). Err x) same
failed_by (Ok k) fault size e = failed_if (is_frame_line k.0) k fault size e

failed : (size : ℕ) (bytes : List ℕ) (fault : Y4mFault) → frame_start bytes ≡ Err fault
    → next_frame size bytes ≡ Err fault
failed size [] fault e = absurd cc
failed size (b ∷ bs) fault e = failed_by (line (b ∷ bs)) fault size e

none_if : (is : Bool) (k : Cut) → started is k ≡ Ok None → ⊥
none_if true k e = absurd cc
none_if false k e = absurd cc

none_by : (first : Result Cut Y4mFault) → and_then first (λ k. started (is_frame_line k.0) k) ≡ Ok None → ⊥
none_by (Err fault) e = absurd cc
none_by (Ok k) e = none_if (is_frame_line k.0) k e

over : (size : ℕ) (bytes : List ℕ) → frame_start bytes ≡ Ok None → next_frame size bytes ≡ Ok None
over size [] e = refl
over size (b ∷ bs) e = absurd (none_by (line (b ∷ bs)) e)

-- ---- the same, where the bytes that a reader has are known

failed_known : (bytes : List ℕ) (fault : Y4mFault) (out : List ℕ) (new : Option (List ℕ))
    → StartIs bytes (Err fault) new → TimedIs bytes (Err fault) out new
failed_known bytes NotY4m out new start = (failed (length out) bytes NotY4m start, tt)
failed_known bytes BadHeader out new start = (failed (length out) bytes BadHeader start, tt)
failed_known bytes UnsupportedColour out new start = (failed (length out) bytes UnsupportedColour start, tt)
failed_known bytes OddWidth out new start = (failed (length out) bytes OddWidth start, tt)
failed_known bytes UnsupportedInterlace out new start = (failed (length out) bytes UnsupportedInterlace start, tt)
failed_known bytes Truncated out new start = (failed (length out) bytes Truncated start, tt)
failed_known bytes Read out new start = (tt, tt)

-- the line can't be read
pub start_failed : (known new : Option (List ℕ)) (fault : Y4mFault) (out : List ℕ)
    → IfSome known (λ bytes. StartIs bytes (Err fault) new) → IfSome known (λ bytes. TimedIs bytes (Err fault) out new)
start_failed None new fault out start = tt
start_failed (Some bytes) new fault out start = failed_known bytes fault out new start

-- there is none
pub start_ended : (known new : Option (List ℕ)) (out : List ℕ) → IfSome known (λ bytes. StartIs bytes (Ok None) new)
    → IfSome known (λ bytes. TimedIs bytes (Ok None) out new)
start_ended None new out start = tt
start_ended (Some bytes) new out start = ((over (length out) bytes start.0, start.1), tt)

cut_short : (bytes first rest out : List ℕ) (fault : Y4mFault) → frame_start bytes ≡ Ok (Some (first, rest))
    → (fault ≡ Truncated) × (length rest < length out) → next_frame (length out) bytes ≡ Err fault
cut_short bytes first rest out fault e short = (begun (length out) bytes (first, rest) e).1
    ∙ pixels_cut (length out) rest short.1 ∙ ap (λ (f : Y4mFault). Err f) (sym short.0)

cut_by : (bytes first rest out : List ℕ) (new : Option (List ℕ)) (fault : Y4mFault)
    → frame_start bytes ≡ Ok (Some (first, rest)) → FillsWith Truncated rest (Err fault) out new
    → TimedIs bytes (Err fault) out new
cut_by bytes first rest out new NotY4m e filled = (cut_short bytes first rest out NotY4m e filled, tt)
cut_by bytes first rest out new BadHeader e filled = (cut_short bytes first rest out BadHeader e filled, tt)
cut_by bytes first rest out new UnsupportedColour e filled =
    (cut_short bytes first rest out UnsupportedColour e filled, tt)
cut_by bytes first rest out new OddWidth e filled = (cut_short bytes first rest out OddWidth e filled, tt)
cut_by bytes first rest out new UnsupportedInterlace e filled =
    (cut_short bytes first rest out UnsupportedInterlace e filled, tt)
cut_by bytes first rest out new Truncated e filled = (cut_short bytes first rest out Truncated e filled, tt)
cut_by bytes first rest out new Read e filled = (tt, tt)

-- the bytes end too early, or can't be read
pub start_cut : (known mid new : Option (List ℕ)) (said : FrameLine) (fault : Y4mFault) (out : List ℕ)
    → IfSome known (λ bytes. StartIs bytes (Ok (Some said)) mid)
    → IfSome mid (λ bytes. FillsWith Truncated bytes (Err fault) out new)
    → IfSome known (λ bytes. TimedIs bytes (Err fault) out new)
start_cut None mid new said fault out start filled = tt
start_cut (Some bytes) mid new said fault out start filled =
    cut_by bytes start.0 start.1 out new fault start.2 (rw (start.3) at filled)

-- the bytes come
pub start_filled : (known mid new : Option (List ℕ)) (said : FrameLine) (done : Unit {0}) (out : List ℕ)
    → IfSome known (λ bytes. StartIs bytes (Ok (Some said)) mid)
    → IfSome mid (λ bytes. FillsWith Truncated bytes (Ok done) out new)
    → IfSome known (λ bytes. TimedIs bytes (Ok (Some said)) out new)
start_filled None mid new said done out start filled = tt
start_filled (Some bytes) mid new said done out start filled =
    let full : FillsWith Truncated start.1 (Ok done) out new = rw (start.3) at filled in
    let x = begun (length out) bytes (start.0, start.1) start.2 in (
      (full.0, x.1 ∙ rw (full.1) (pixels_whole out full.0), full.2),
      ((start.0, start.1), x.0, start.4),
    )
