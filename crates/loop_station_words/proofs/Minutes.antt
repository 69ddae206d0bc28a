-- Times that aren't a whole number of their unit.
use Rattle.std.proofs.Common.{◌≡◌, ◌&&◌, Some, None, cond, refl}
use Rattle.std.specs.Int.{w64}
use Rattle.std.specs.Float.Ieee as Ieee
use Rattle.std.specs.Float.{Float, binary64, ceil, float_to_unsigned}
use Rattle.loop_station_words.specs.Fields.{part_seconds, whole_float}
use Rattle.loop_station_words.specs.declared.fields.TheConstants.{HOUR, MINUTE, MOST}

-- the constants of the code are these numbers
pub part_is : (unit x : Float) → part_seconds unit x ≡ cond (Ieee.lt (Ieee.of_bits binary64 0) x && Ieee.lt x MOST)
    (Some (float_to_unsigned w64 (ceil binary64 (Ieee.mul binary64 x unit)))) None
unfolding part_seconds Ieee.of_int Ieee.round Ieee.of_bits
part_is unit x = refl

-- the units are these numbers of seconds
pub minute_is : MINUTE ≡ whole_float 60
unfolding Ieee.of_int Ieee.round Ieee.of_bits
minute_is = refl

pub hour_is : HOUR ≡ whole_float 3600
unfolding Ieee.of_int Ieee.round Ieee.of_bits
hour_is = refl
