use Rattle.loop_station_words.proofs.Minutes.{hour_is, minute_is}
use Rattle.loop_station_words.proofs.fields.room_at.Goals as goal

pub seconds_of-requires : goal.seconds_of-requires
seconds_of-requires c = minute_is

pub seconds_of-requires-in-Some-None-None : goal.seconds_of-requires-in-Some-None-None
seconds_of-requires-in-Some-None-None c = hour_is
