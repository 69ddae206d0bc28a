use Rattle.std.proofs.Common.{false, subst}
use Rattle.loop_record.specs.declared.geometry.Geometry.{Geometry}
use Rattle.loop_record.specs.Plain.{pictures}
use Rattle.loop_record.specs.Recording.{empty, plain, ring_of}
use Rattle.loop_store.specs.Goes.{Stands}
use Rattle.loop_store.proofs.chain.format_and_append.Goals as goal
use Rattle.loop_store.proofs.Names.{steps_asked}

pub returns : goal.returns
returns g c =
    let formatted = c.in-Ok.ensures.formatted in
    subst (λ (h : Geometry). Stands g.D.Disk.medium c.append.new.self
    (record {
      recording = plain (ring_of h) empty (steps_asked (ring_of h) 1 empty (pictures c.args.frames.now));
      version = 2;
      keep = 1;
      must_reopen = false;
    })) formatted.geometry
    (c.in_ok-append-in-Ok.ensures.goes.stands (record { recording = empty; version = 2; keep = 1; must_reopen = false })
    (record {
      recording = c.in-Ok.ensures.stands;
      version = formatted.version;
      keep = formatted.keep;
      must_reopen = formatted.must_reopen;
    }))
