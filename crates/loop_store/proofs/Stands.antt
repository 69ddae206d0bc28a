-- A disk that no call has reached.
use Rattle.std.proofs.Common.{ℕ, List, sym, subst}
use Rattle.loop_disk.specs.Medium.{Medium, IsSettled, IsSound, LeavesOnly}
use Rattle.loop_disk.proofs.Moments.{started, weaker}
use Rattle.loop_record.specs.declared.geometry.Geometry.{Geometry}
use Rattle.loop_record.specs.Reading.{Holds}
use Rattle.loop_record.specs.Recording.{Recording, Step}
use Rattle.loop_store.proofs.BlockImages.{held-some}
use Rattle.loop_store.proofs.Names.{HoldsSome}

-- nothing was called
pub unmoved : (m : Medium) (g : Geometry) (r : Recording) → IsSound m → IsSettled m → Holds g r m.bytes
    → LeavesOnly m m (Holds g r)
unmoved m g r sound settled held = started m (Holds g r) sound (λ c left. subst (λ (image : List ℕ). Holds g r image) (sym (settled c left)) held)

pub unmoved-some : (m : Medium) (g : Geometry) (r : Recording) (steps : List Step) → IsSound m → IsSettled m
    → Holds g r m.bytes → LeavesOnly m m (HoldsSome g r steps)
unmoved-some m g r steps sound settled held = weaker m m (Holds g r) (HoldsSome g r steps)
    (unmoved m g r sound settled held) (λ c same. held-some g r steps c same)
