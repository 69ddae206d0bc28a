use Rattle.std.proofs.Common.{Some, None, sym}
use Rattle.loop_store.proofs.AppendPlaces.{found-of, newest-place}
use Rattle.loop_store.proofs.index.Index.place_of_next.Goals as goal

pub returns-in-Some-clause-place : goal.returns-in-Some-clause-place
returns-in-Some-clause-place g c = λ r image known unspent.
    let i = c.args.self.now in
    newest-place i.ring.geometry r image c.in-Some.segment known.held
    (found-of i.ring.geometry r image i.table.heads i.next c.from.result c.find.result
    (Some c.in-Some.segment) known.heads_are (sym known.next_is) c.from.ensures (c.in-Some.is) c.find.ensures.place)

pub returns-in-None-clause-place : goal.returns-in-None-clause-place
returns-in-None-clause-place g c = λ r image known unspent.
    let i = c.args.self.now in
    c.place_of_new.ensures.place r image known unspent
    (found-of i.ring.geometry r image i.table.heads i.next c.from.result c.find.result None known.heads_are
    (sym known.next_is) c.from.ensures (c.in-None.is) c.find.ensures.place)
