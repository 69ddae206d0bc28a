use Rattle.std.proofs.Common.{◌≡◌, ◌≤◌, length}
use Rattle.loop_y4m.specs.Header.{with_parameters, header_words, nothing_given}
use Rattle.loop_y4m.specs.Steps.{HasSmallSides}
use Rattle.loop_y4m.proofs.header.parse_header.Given as goal

-- the parameters that are left continue what is given so far
abbrev pub invariant-loop-given : goal.invariant-loop-given
invariant-loop-given l = record {
  shorter : length l.rest ≤ length l.text;
  sides : HasSmallSides l.given;
  parameters : with_parameters l.colours l.given (header_words l.rest)
      ≡ with_parameters l.colours nothing_given (header_words l.text);
}

abbrev pub decreases-loop-given : goal.decreases-loop-given
decreases-loop-given l = length l.rest
