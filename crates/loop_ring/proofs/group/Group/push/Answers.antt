use Rattle.std.proofs.Common.{◌≡◌, [], ◌∷◌, ◌++◌, ◌<◌, length, sym, ap, ◌∙◌, arith}
use Rattle.std.proofs.lemmas.List.{length-set, take_more_set}
use Rattle.loop_record.specs.Recording.{picture}
use Rattle.loop_ring.specs.Groups.{Grouped, first_slots, slot_stamp}
use Rattle.loop_ring.proofs.GroupSlots.{gained}
use Rattle.loop_ring.proofs.SlotStages.{frames-length, gained-frames, gained-kept}
use Rattle.loop_ring.proofs.group.Group.push.Goals as goal

pub invariant_of-self : goal.invariant_of-self
invariant_of-self g c =
    let s = c.self.inside in
    let p = picture c.args.frame.now in
    let many : length c.args.self.now.frames ≡ s.count = ap (λ (v : Grouped). length v.frames) (sym c.self.view_is)
    ∙ frames-length s.frame_bytes s.count (first_slots s.count s.heads s.bodies) in
    let limit : c.args.self.now.limit ≡ s.limit = ap (λ (v : Grouped). v.limit) (sym c.self.view_is) in
    let l : s.count < s.limit = omega (arith, c.requires.room, many, limit) in
    gained-kept s.frame_bytes s.limit s.first s.count s.heads _ s.bodies _ s.stamps _ p
    (gained s.frame_bytes s.limit s.first s.count s.heads s.bodies s.stamps c.head_of.result c.deref.result p
    c.self.invariant l c.self.told.0 c.self.told.1 c.head_of.ensures.fits
    (c.requires.size ∙ ap (λ (v : Grouped). v.size) (sym c.self.view_is))
    ((λ i. c.head_of.result ++ c.deref.ensures.value i) ∙ c.head_of.ensures.slot))
    c.self.invariant l (length-set s.stamps s.count (slot_stamp p))
    (take_more_set s.stamps s.count (slot_stamp p) (omega (arith, l, c.self.invariant.most, c.self.invariant.places)))

pub returns : goal.returns
returns g c =
    let s = c.self.inside in
    let p = picture c.args.frame.now in
    let many : length c.args.self.now.frames ≡ s.count = ap (λ (v : Grouped). length v.frames) (sym c.self.view_is)
    ∙ frames-length s.frame_bytes s.count (first_slots s.count s.heads s.bodies) in
    let limit : c.args.self.now.limit ≡ s.limit = ap (λ (v : Grouped). v.limit) (sym c.self.view_is) in
    let l : s.count < s.limit = omega (arith, c.requires.room, many, limit) in
    let frames = gained-frames s.frame_bytes s.first s.count (first_slots s.count s.heads s.bodies) _ p
    (gained s.frame_bytes s.limit s.first s.count s.heads s.bodies s.stamps c.head_of.result c.deref.result p
    c.self.invariant l c.self.told.0 c.self.told.1 c.head_of.ensures.fits
    (c.requires.size ∙ ap (λ (v : Grouped). v.size) (sym c.self.view_is))
    ((λ i. c.head_of.result ++ c.deref.ensures.value i) ∙ c.head_of.ensures.slot)) in
    (λ i. record { size = s.frame_bytes; limit = s.limit; first = s.first; frames = frames i })
    ∙ ap (λ (v : Grouped). record v { frames = v.frames ++ p ∷ [] }) c.self.view_is
