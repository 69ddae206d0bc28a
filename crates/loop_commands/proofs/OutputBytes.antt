-- What is known of the bytes that were written, one call after the other.
use Rattle.std.proofs.Common.{◌≡◌, ℕ, Option, Some, None, List, [], ◌++◌, ap, sym, subst, append_assoc, append-nil, ◌∙◌}
use Rattle.std.specs.Io.Buffered.{writer_buffer, writer_contents, writer_inner}
use Rattle.std.specs.Io.KnownBytes.{Appends, Keeps, append_known}
use Rattle.std.specs.Prelude.{Ok, Err, OnOk, Result}
use Rattle.std.specs.declared.io.buffered.BufWriter.{BufWriter}

-- What was appended above an empty buffer is appended beneath it, once the buffer is empty again.
beneath : (old last new : Option (List ℕ)) (before after bytes : List ℕ) → before ≡ [] → after ≡ []
    → Appends (append_known old before) last bytes → Keeps last (append_known new after) → Appends old new bytes
beneath None last new before after bytes none empty first kept = tt
beneath (Some x) None new before after bytes none empty first kept = absurd first
beneath (Some x) (Some y) None before after bytes none empty first kept = absurd kept
beneath (Some x) (Some y) (Some z) before after bytes none empty first kept =
    sym (append-nil z) ∙ ap (λ l. z ++ l) (sym empty) ∙ kept ∙ first ∙ ap (λ l. (x ++ l) ++ bytes) none ∙ ap (λ l. l ++ bytes) (append-nil x)

module _ {W A : Type 0} (contents : W → Option (List ℕ)) where
  -- So it is where the buffer is made over a writer, written to and flushed, and the writer is taken out of it again.
  pub through : (out back : W) (made start end taken done : BufWriter W A) (bytes : List ℕ) → writer_inner made ≡ out
      → writer_buffer made ≡ [] → start ≡ made → Appends (writer_contents contents start)
      (writer_contents contents end) bytes → taken ≡ end → Keeps (writer_contents contents taken)
      (writer_contents contents done) → writer_buffer done ≡ [] → back ≡ writer_inner done
      → Appends (contents out) (contents back) bytes
  through out back made start end taken done bytes inner none is first same kept empty gone =
      let given : Appends (writer_contents contents made) (writer_contents contents end) bytes =
      subst (λ (w : BufWriter W A). Appends (writer_contents contents w) (writer_contents contents end) bytes) is
      first in
      let stays : Keeps (writer_contents contents end) (writer_contents contents done) =
      subst (λ (w : BufWriter W A). Keeps (writer_contents contents w) (writer_contents contents done)) same kept in
      let whole : Appends (contents (writer_inner made)) (contents (writer_inner done)) bytes =
      beneath (contents (writer_inner made)) (writer_contents contents end) (contents (writer_inner done))
      (writer_buffer made) (writer_buffer done) bytes none empty given stays in
      subst (λ (w : W). Appends (contents w) (contents back) bytes) inner
      (subst (λ (w : W). Appends (contents (writer_inner made)) (contents w) bytes) (sym gone) whole)

-- a text, and a line after it where that could be printed
pub followed_by_line : {E : Type 0} (old now new : Option (List ℕ)) (bytes line : List ℕ) (printed : Result (Unit {0}) E)
    → Appends old now bytes → OnOk printed (Appends now new line) → OnOk printed (Appends old new (bytes ++ line))
followed_by_line old now new bytes line (Err fault) first then = tt
followed_by_line None now new bytes line (Ok done) first then = tt
followed_by_line (Some x) None new bytes line (Ok done) first then = absurd first
followed_by_line (Some x) (Some y) None bytes line (Ok done) first then = absurd then
followed_by_line (Some x) (Some y) (Some z) bytes line (Ok done) first then = then ∙ ap (λ l. l ++ line) first ∙ append_assoc x bytes line

-- what was appended after what was kept
pub kept_first : (old now new : Option (List ℕ)) (bytes : List ℕ) → Keeps old now → Appends now new bytes
    → Appends old new bytes
kept_first None now new bytes kept then = tt
kept_first (Some x) None new bytes kept then = absurd kept
kept_first (Some x) (Some y) None bytes kept then = absurd then
kept_first (Some x) (Some y) (Some z) bytes kept then = then ∙ ap (λ l. l ++ bytes) kept

-- what was appended, and then kept
pub kept_last : (old now new : Option (List ℕ)) (bytes : List ℕ) → Appends old now bytes → Keeps now new
    → Appends old new bytes
kept_last None now new bytes first kept = tt
kept_last (Some x) None new bytes first kept = absurd first
kept_last (Some x) (Some y) None bytes first kept = absurd kept
kept_last (Some x) (Some y) (Some z) bytes first kept = kept ∙ first
