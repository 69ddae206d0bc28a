use Rattle.std.proofs.Common.{◌∙◌, List, ℕ, length, ap}
use Rattle.loop_disk.proofs.CrashCalls.{take-within, crashed, left-after}
use Rattle.loop_disk.proofs.crash.CrashDisk.crash.Goals as goal

pub replay-requires-clause-within : goal.replay-requires-clause-within
replay-requires-clause-within g c =
    let inside = c.self.inside in
    take-within (λ v. v.items) c.args.calls (length inside.start.items) c.in_ok-bytes.bytes.items inside.calls.items c.deref-3.result.now
    (ap (λ (l : List ℕ). length l) (c.in_ok-bytes.ensures.items ∙ c.deref.ensures.value)) c.deref-3.ensures.value c.self.invariant.within

pub returns-clause-image : goal.returns-clause-image
returns-clause-image g c =
    let inside = c.self.inside in
    crashed (λ v. v.items) c.args.spoil c.args.calls c.args.self.now inside.start.items inside.calls.items
    c.deref-3.result.now inside.failures c.in_ok-bytes.bytes.items c.replay.new.image.items c.of.result.bytes.items
    c.self.view_is (c.in_ok-bytes.ensures.items ∙ c.deref.ensures.value) c.deref-3.ensures.value c.of.ensures.fresh.bytes c.replay.ensures.spoilt

pub returns-clause-left : goal.returns-clause-left
returns-clause-left g c = left-after c.args.self.now c.args.calls c.of.result.bytes.items c.requires (returns-clause-image g c).left
