use Rattle.std.proofs.Common.{◌≡◌, false, subst}
use Rattle.loop_desk.specs.Seen.{Opens, SeenDesk}
use Rattle.loop_desk.proofs.desk.Desk.opens.Goals as goal

pub returns-clause-opens : goal.returns-clause-opens
returns-clause-opens g c =
    let medium = g.D.Disk.medium in
    subst (λ (v : SeenDesk g.row.D.Denot). v.store.must_reopen ≡ false → Opens medium v) c.self.view_is
    (λ fine. record {
      recording = λ now. (c.a_store_is_opened.ensures fine now).recording;
      stands = λ now. (c.a_store_is_opened.ensures fine now).stands;
      writable = fine;
    })
