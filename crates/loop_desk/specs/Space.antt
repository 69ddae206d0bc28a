-- What a store tells of the room that it has for a block.
use Rattle.std.specs.Prelude.{◌≡◌, ◌≤◌, ◌<◌, ◌↔◌, ℕ, true, Option, Some, None, length}
use Rattle.loop_record.specs.Recording.{Picture, Recording, Ring, block, frame_under, held_blocks, holds, victim}
use Rattle.loop_desk.specs.declared.limits.Space.{Space}

-- the first held frame of a block, with its number
pub record BeginsBlock (ring : Ring) (r : Recording) (b number : ℕ) (p : Picture) : Type 0 where
  pub held : frame_under r.frames number ≡ Some p
  pub of : block ring number ≡ b
  pub first : (n : ℕ) → holds r n ≡ true → block ring n ≡ b → number ≤ n

-- the sequence of the first frame of the block that goes
pub record TellsOldest (ring : Ring) (keep : ℕ) (r : Recording) (oldest : Option ℕ) : Type 0 where
  pub some : (v : ℕ) → victim ring keep r ≡ Some v
      → (number : ℕ) × (p : Picture) × BeginsBlock ring r v number p × (oldest ≡ Some p.sequence)
  pub none : victim ring keep r ≡ None → oldest ≡ None

-- and whether a segment holds no block
pub record TellsSpace (ring : Ring) (keep : ℕ) (r : Recording) (space : Space) : Type 0 where
  pub free : (space.free ≡ true) ↔ (length (held_blocks ring r) < ring.segments)
  pub oldest : TellsOldest ring keep r space.oldest
