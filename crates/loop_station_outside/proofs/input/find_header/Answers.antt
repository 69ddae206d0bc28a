use Rattle.loop_station_outside.proofs.input.find_header.Goals as goal

pub returns-in-None : goal.returns-in-None
returns-in-None c = λ none. rw c.as_slice.ensures at (rw c.in-None.is at c.find.ensures)
