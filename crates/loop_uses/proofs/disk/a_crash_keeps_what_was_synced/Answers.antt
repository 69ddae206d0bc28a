use Rattle.loop_uses.proofs.Crashes.{bytes_kept, three_calls}
use Rattle.loop_uses.proofs.disk.a_crash_keeps_what_was_synced.Goals as goal

pub returns-in-Ok-crash : goal.returns-in-Ok-crash
returns-in-Ok-crash g c =
    bytes_kept _ c.in-Ok-crash.crashed.bytes.items
    (three_calls c.in-Ok.ensures c.in-Ok-write_at.ensures.done c.in-Ok-sync.ensures.done c.in-Ok-write_at-2.ensures.done)
    c.in-Ok-crash.ensures.image
