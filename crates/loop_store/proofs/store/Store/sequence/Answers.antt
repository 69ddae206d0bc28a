use Rattle.std.proofs.Common.{◌≡◌, ℕ, Option, Some, None, true, is_some, refl, sym, ap, ◌∙◌, subst}
use Rattle.std.specs.Prelude.{option_map}
use Rattle.loop_record.specs.Recording.{Picture, Recording, frame_under}
use Rattle.loop_ring.specs.declared.group.SlotStamp.{SlotStamp}
use Rattle.loop_ring.specs.Groups.{slot_stamp}
use Rattle.loop_store.specs.Numbers.{is_among}
use Rattle.loop_store.specs.Seen.{Seen, StandsFor, seen_with}
use Rattle.loop_store.proofs.Looks.{stamps-known}
use Rattle.loop_store.proofs.store.Store.sequence.Goals as goal

-- the sequence that the stamp of a held frame has
told : (stamp : SlotStamp) (o : Option Picture) → is_some o ≡ true → ((p : Picture) → o ≡ Some p → stamp ≡ slot_stamp p)
    → Some stamp.sequence ≡ option_map (λ p. p.sequence) o
told stamp None held are = absurd cc
told stamp (Some p) held are = ap (λ (s : SlotStamp). let o : Option ℕ = Some s.sequence in o) (are p refl)

pub returns : goal.returns
returns g c =
    let s = c.self.inside in
    let medium = g.D.Disk.medium in
    let among : c.holds.result ≡ is_among (seen_with s.disk s.index s.must_reopen).numbers c.args.number =
    c.holds.ensures ∙ ap (λ (v : Seen g.row.D.Denot). is_among v.numbers c.args.number) (sym c.self.view_is) in
    subst (λ (v : Seen g.row.D.Denot). (r : Recording) → StandsFor medium v r
    → Some c.stamp_under.result.sequence ≡ option_map (λ p. p.sequence) (frame_under r.frames c.args.number)) c.self.view_is
    (λ r stands. told c.stamp_under.result (frame_under r.frames c.args.number)
    (sym (stands.told.numbers_are c.args.number) ∙ sym among ∙ c.if-not-holds.false)
    (λ p there. c.stamp_under.ensures ∙ stamps-known s.disk s.index s.must_reopen r stands.told c.args.number p there))
