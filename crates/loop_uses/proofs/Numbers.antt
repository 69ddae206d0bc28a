-- Numbers that were written at a place among zeros.
use Rattle.std.proofs.Common.{◌≡◌, ℕ, ◌+◌, ◌<◌, ◌^◌, List, ◌++◌, take, drop, replicate, sym, ◌∙◌}
use Rattle.byteorder.specs.Endian.{little_bytes, little_from}
use Rattle.byteorder.specs.Numbers.{little_number-reads_back}
use Rattle.loop_record.proofs.Fields.{little_from-drop}

-- twelve bytes of zero
abbrev zeros : List ℕ
zeros = replicate 12 0

pub small_is_read : (x : ℕ) → x < 256 ^ 4 → little_from 7 4 (take 7 zeros ++ little_bytes 4 x ++ drop 11 zeros) ≡ x
small_is_read x h =
    sym (little_from-drop 7 0 4 (take 7 zeros ++ little_bytes 4 x ++ drop 11 zeros))
    ∙ little_number-reads_back 4 x (drop 11 zeros) h

pub large_is_read : (x : ℕ) → x < 256 ^ 8 → little_from 3 8 (take 3 zeros ++ little_bytes 8 x ++ drop 11 zeros) ≡ x
large_is_read x h =
    sym (little_from-drop 3 0 8 (take 3 zeros ++ little_bytes 8 x ++ drop 11 zeros))
    ∙ little_number-reads_back 8 x (drop 11 zeros) h
