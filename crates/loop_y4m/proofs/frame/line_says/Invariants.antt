use Rattle.std.proofs.Common.{◌≡◌, ◌≤◌, length}
use Rattle.loop_y4m.specs.Header.{header_words}
use Rattle.loop_y4m.specs.Stream.{words_say}
use Rattle.loop_y4m.proofs.frame.line_says.Given as goal

-- no word so far says it
abbrev pub invariant-loop-number : goal.invariant-loop-number
invariant-loop-number l = record {
  shorter : length l.rest ≤ length l.line;
  unsaid : words_say l.name (header_words l.rest) ≡ words_say l.name (header_words l.line);
}

abbrev pub decreases-loop-number : goal.decreases-loop-number
decreases-loop-number l = length l.rest
