use Rattle.std.proofs.Common.{◌≡◌, sym, ℕ, ◌+◌, ◌*◌, ◌≤◌, ◌<◌, IsTrue, List, length, take, replicate, subst, ◌∙◌, ap, arith}
use Rattle.std.proofs.lemmas.List.{get_or-replicate, get_or-take, length-take}
use Rattle.loop_record.specs.declared.geometry.Geometry.{Geometry}
use Rattle.loop_record.specs.Geometry.{is_good, frame_bytes, slot_size, disk_size, slot_at, gate_at}
use Rattle.loop_record.specs.Layout.{whole_frames}
use Rattle.loop_record.specs.Recording.{Picture}
use Rattle.loop_record.proofs.Bounds.{limits}
use Rattle.loop_record.proofs.Parts.{apart}
use Rattle.std.specs.Borrow.{Bor}
use Rattle.loop_disk.specs.Rows.{joined}
use Rattle.loop_ring.proofs.AnswerPairs.{both_ok}
use Rattle.loop_ring.specs.Writes.{HasNoStray, slots_in, slots_of}
use Rattle.loop_ring.proofs.Commits.{AreGates, IsGroup, IsReady, slots_end, commit_moments, commit_ok, CanCommit, commit_stray_done, is_group}
use Rattle.loop_ring.proofs.ring.Ring.commit.Goals as goal

abbrev all_gates : List ℕ
all_gates = replicate 64 165

are_gates : (count : ℕ) → count ≤ 64 → AreGates count (take count all_gates)
are_gates count le = record {
  size = omega (arith, le, length-take count all_gates);
  open_all = λ i l. get_or-take count all_gates i 0 l ∙ get_or-replicate 64 i 165 0 (omega (arith, l, le));
}

can_commit : (g : Geometry) (j first count : ℕ) (bytes old : List ℕ) → IsTrue (is_good g) → j < g.segments → 1 ≤ count
    → first + count ≤ g.slots → length bytes ≡ count * slot_size g → length old ≡ disk_size g
    → whole_frames g old j ≡ first → HasNoStray g j old
    → CanCommit g j first count bytes old
can_commit g j first count bytes old good l some room size whole_disk whole stray =
    record {
      few = (limits g good).slots.1;
      some = some;
      room = room;
      size = size;
      fits =
          omega (arith, whole_disk, apart g j g.segments l);
      whole = whole;
      stray = stray;
    }

ready : (g : Geometry) (j first number count : ℕ) (frames : List Picture) (bytes : List ℕ) (at gate : ℕ)
    (old : List ℕ) → count ≤ 64 → CanCommit g j first count bytes old → IsGroup g number frames bytes count
    → at ≡ slot_at g j first → gate ≡ gate_at g j first
    → IsReady g j first number frames at gate bytes (take count all_gates) old
ready g j first number count frames bytes at gate old few can group at_is gate_is = record {
  at_is = at_is;
  gate_is = gate_is;
  staged = record {
    size = can.size ∙ ap (λ (n : ℕ). n * slot_size g) group.count_is;
    slots =
        subst (λ (n : ℕ). slots_in (frame_bytes g) bytes n ≡ slots_of (frame_bytes g) number frames) group.count_is
        group.slots;
  };
  gates_are = subst (λ (n : ℕ). AreGates n (take count all_gates)) group.count_is (are_gates count few);
  can = subst (λ (n : ℕ). CanCommit g j first n bytes old) group.count_is can;
}

-- the bytes of a group's slots
staged : (g : Geometry) (count size : ℕ) (rows : List (Bor (List ℕ))) (frames : List Picture) → count ≡ length frames
    → size ≡ frame_bytes g
    → length (joined (take (2 * length frames) rows)) ≡ length frames * (32 + size)
    → length (joined (take (2 * count) rows)) ≡ count * slot_size g
staged g count size rows frames count_is size_is long_is =
    (λ i. length (joined (take (2 * count_is i) rows))) ∙ long_is ∙ (λ i. sym count_is i * (32 + size_is i))

pub store_rows_in_turn-requires-clause-inside : goal.store_rows_in_turn-requires-clause-inside
store_rows_in_turn-requires-clause-inside g c =
    let h = c.args.self.now.geometry in
    let size = staged h c.len-count.result c.args.group.now.size c.rows-rows.result c.args.group.now.frames
    c.len-count.ensures.count c.requires.size c.rows-rows.ensures.size in
    omega (
      arith,
      c.slot_at-at.ensures,
      size,
      c.requires.extent,
      c.len-count.ensures.count,
      slots_end h c.args.segment c.args.first_slot c.len-count.result
          (omega (arith, c.requires.room, c.len-count.ensures.count)),
      apart h c.args.segment h.segments c.requires.segment,
    )

pub store_rows_in_turn-requires-clause-gate : goal.store_rows_in_turn-requires-clause-gate
store_rows_in_turn-requires-clause-gate g c =
    let h = c.args.self.now.geometry in
    omega (
      arith,
      c.gate_at-gate.ensures,
      length-take c.len-count.result all_gates,
      c.requires.extent,
      c.requires.room,
      c.len-count.ensures.count,
      (limits h c.args.self.now.good).slots.1,
      apart h c.args.segment h.segments c.requires.segment,
    )

pub returns : goal.returns
returns g c =
    let h = c.args.self.now.geometry in
    let j = c.args.segment in
    let n = c.len-count.result in
    let bytes = joined (take (2 * n) c.rows-rows.result) in
    let frames = c.args.group.now.frames in
    let old = g.D.Disk.medium c.args.disk.now in
    let size = staged h n c.args.group.now.size c.rows-rows.result frames c.len-count.ensures.count c.requires.size c.rows-rows.ensures.size in
    let slots = (λ i. slots_in c.args.group.now.size (joined (take (2 * c.len-count.ensures.count i) c.rows-rows.result)) (length frames))
    ∙ c.rows-rows.ensures.slots in
    let group = is_group h c.args.group.now.first c.args.group.now.size n frames bytes c.requires.size c.len-count.ensures.count slots in
    let can : old.honest → CanCommit h j c.args.first_slot n bytes old.bytes = λ honest.
    can_commit h j c.args.first_slot n bytes old.bytes c.args.self.now.good c.requires.segment
    (omega (arith, c.requires.some, c.len-count.ensures.count)) (omega (arith, c.requires.room, c.len-count.ensures.count)) size
    ((g.met.D.Disk.sound c.args.disk.now honest).length_is ∙ c.requires.extent) (c.requires.tail honest).0 (c.requires.tail honest).1 in
    let made : (honest : old.honest) → IsReady h j c.args.first_slot c.args.group.now.first frames c.slot_at-at.result
    c.gate_at-gate.result bytes (take n all_gates) old.bytes = λ honest.
    ready h j c.args.first_slot c.args.group.now.first n frames bytes c.slot_at-at.result c.gate_at-gate.result
    old.bytes c.len-count.ensures.few (can honest) group c.slot_at-at.ensures c.gate_at-gate.ensures in record {
      moments = λ honest. commit_moments _ _ _ _ _ _ _ _ _ _ _ _ (made honest) (c.store_rows_in_turn.ensures.disk honest);
      such = λ honest.
          both_ok c.store_rows_in_turn.result (λ shows stray. (shows, stray))
          (commit_ok _ _ _ _ _ _ _ _ _ _ _ _ (made honest) (c.store_rows_in_turn.ensures.disk honest))
          (commit_stray_done h j c.args.first_slot n _ _ _ _ _ _ _ c.slot_at-at.ensures c.gate_at-gate.ensures
          (can honest) (are_gates n c.len-count.ensures.few) (c.store_rows_in_turn.ensures.disk honest));
      settled = λ honest. (c.store_rows_in_turn.ensures.disk honest).settled;
      fault = c.store_rows_in_turn.ensures.fault;
      called = c.store_rows_in_turn.ensures.called;
    }
