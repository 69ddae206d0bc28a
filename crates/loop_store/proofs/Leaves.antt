-- What calls leave on a disk, one after the other.
use Rattle.std.proofs.Common.{◌≡◌, ℕ, List, [], ◌++◌, length, sym, subst, append_assoc}
use Rattle.std.proofs.lemmas.List.{append-nil, length-append}
use Rattle.loop_disk.specs.Medium.{Medium, IsSettled, IsSound, LeavesOnly}
use Rattle.loop_disk.specs.Calls.{Stays}
use Rattle.loop_disk.proofs.Moments.{started, goes_on}
use Rattle.loop_record.specs.declared.geometry.Geometry.{Geometry}
use Rattle.loop_record.specs.Reading.{Holds}
use Rattle.loop_record.specs.Recording.{Recording, Step, plain, ring_of}
use Rattle.loop_store.specs.Steps.{HoldsFrom, LeavesSteps}
use Rattle.loop_store.proofs.BlockImages.{held-some, later-steps, steps-joined}
use Rattle.loop_store.proofs.Names.{HoldsSome}

-- a call that only read, on a disk that holds the recording
pub leaves-looked : (g : Geometry) (r : Recording) (old new : Medium) → IsSound old → IsSettled old
    → Holds g r old.bytes → Stays old new → LeavesSteps g r [] [] old new
leaves-looked g r old new sound settled held stays = record {
  moments = goes_on old old new (HoldsSome g r []) old.may_leave (started old (HoldsSome g r []) sound here) stays.time here;
  now = λ c left. here c (stays.images c left);
}
  where
    here : (c : List ℕ) → old.may_leave c → HoldsSome g r [] c
    here c left = held-some g r [] c (subst (λ (image : List ℕ). Holds g r image) (sym (settled c left)) held)

-- no call
pub leaves-none : (g : Geometry) (r : Recording) (m : Medium) → IsSound m → IsSettled m → Holds g r m.bytes
    → LeavesSteps g r [] [] m m
leaves-none g r m sound settled held = record {
  moments = started m (HoldsSome g r []) sound here;
  now = here;
}
  where
    here : (c : List ℕ) → m.may_leave c → HoldsSome g r [] c
    here c left = held-some g r [] c (subst (λ (image : List ℕ). Holds g r image) (sym (settled c left)) held)

-- the same steps, written in another way
pub leaves-same : (g : Geometry) (r : Recording) (made made' begun begun' : List Step) (old new : Medium)
    → made ≡ made' → begun ≡ begun' → LeavesSteps g r made begun old new → LeavesSteps g r made' begun' old new
leaves-same g r made made' begun begun' old new a b run =
    subst (λ (l : List Step). LeavesSteps g r l begun' old new) a
    (subst (λ (l : List Step). LeavesSteps g r made l old new) b run)

-- calls that made all that they began, and calls after them
pub leaves-joined : (g : Geometry) (r : Recording) (a b begun : List Step) (old mid new : Medium)
    → LeavesSteps g r a [] old mid → LeavesSteps g (plain (ring_of g) r a) b begun mid new
    → LeavesSteps g r (a ++ b) begun old new
leaves-joined g r a b begun old mid new first second = record {
  moments = subst (λ (l : List Step). LeavesOnly old new (HoldsSome g r l)) (sym assoc)
      (steps-joined g r a (b ++ begun) old mid new (subst (λ (l : List Step). LeavesOnly old mid (HoldsSome g r l))
      (append-nil a) first.moments) second.moments);
  now = λ c left.
      subst (λ (l : List Step). HoldsFrom g r (length (a ++ b)) l c) (sym assoc)
      (subst (λ (n : ℕ). HoldsFrom g r n (a ++ (b ++ begun)) c) (sym (length-append a b))
      (later-steps g r a (b ++ begun) (length b) c (second.now c left)));
}
  where
    assoc : (a ++ b) ++ begun ≡ a ++ (b ++ begun)
    assoc = append_assoc a b begun
