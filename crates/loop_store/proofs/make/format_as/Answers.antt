use Rattle.std.proofs.Common.{◌≡◌, ◌&&◌, true, inl, inr, eqb, refl, sym, ap, ◌∙◌}
use Rattle.loop_record.specs.Geometry.{disk_size, is_good}
use Rattle.loop_ring.specs.Heads.{Segments}
use Rattle.loop_record.proofs.TestFacts.{both, clash, equal}
use Rattle.loop_store.specs.declared.fault.StoreFault.TheVariants.{BadGeometry, NoMemory}
use Rattle.loop_store.specs.declared.index.Index.{Index}
use Rattle.loop_store.proofs.NewStore.{IsNew, fresh-kept, fresh-stands, fresh-tells, refused-formats}
use Rattle.loop_store.proofs.make.format_as.Given.{Over}
use Rattle.loop_store.proofs.make.format_as.Goals as goal

-- the geometry is good, and the disk has its size
fits : (g : Over) (c : goal.After-empty g) → let h = c.args.head.geometry in
    (is_good h && eqb (g.D.Disk.medium c.args.disk).size (disk_size h)) ≡ true
fits g c = sym c.fits.ensures ∙ c.if-not-fits.false

-- what is known of the disk in memory
abbrev index : (g : Over) → goal.After-empty g → Index g.row.A.Denot
index g c = record {
  ring = c.new-in-Ok-lay_out.result;
  version = c.args.head.version;
  table = c.in-Ok.table;
  clips = c.empty.result;
  next = 0;
  stamps = c.in-Ok-stamps_for.stamps;
}

new : (g : Over) (c : goal.After-empty g) → IsNew (index g c) c.args.head
new g c = record {
  geometry = c.new-in-Ok-lay_out.ensures;
  version = refl;
  next = refl;
  closed = ap (λ (s : Segments). s.heads) c.in-Ok.ensures;
  none = c.empty.ensures;
  counts = ap (λ (s : Segments). s.clips) c.in-Ok.ensures;
  places = c.in-Ok-stamps_for.ensures;
}

pub invariant_of-result : goal.invariant_of-result
invariant_of-result g c =
    let right = both _ _ (fits g c) in
    fresh-kept g.D.Disk.medium c.args.head c.lay_out.new.disk (index g c) (new g c) c.requires right.0
    (c.lay_out.ensures.called.size ∙ equal _ _ right.1)
    (λ now. c.in-Ok-lay_out.ensures.such (c.lay_out.ensures.called.honest.1 now))

pub returns-in-Ok-lay_out : goal.returns-in-Ok-lay_out
returns-in-Ok-lay_out g c = record {
  bad = (λ none. absurd none, λ bad. clash _ (fits g c) bad);
  refusals = tt;
  untouched = tt;
  formatted = record {
    geometry = c.new-in-Ok-lay_out.ensures;
    version = refl;
    keep = ap (λ (s : Segments). s.keep) c.in-Ok.ensures;
    tells = fresh-tells c.args.head c.lay_out.new.disk (index g c) (new g c);
    must_reopen = refl;
  };
  stands = fresh-stands g.D.Disk.medium c.args.head c.lay_out.new.disk (index g c) (new g c) c.requires
      (both _ _ (fits g c)).0 (λ now. c.in-Ok-lay_out.ensures.such (c.lay_out.ensures.called.honest.1 now));
  moments = c.lay_out.ensures.moments;
  called = c.in-Ok-lay_out.ensures.called;
}

pub returns-then-not-fits : goal.returns-then-not-fits
returns-then-not-fits g c =
    refused-formats g.D.Disk.medium c.args.head c.args.disk BadGeometry
    (λ is. sym c.fits.ensures ∙ c.if-not-fits.true, λ bad. refl) (inl refl) refl (λ honest. g.met.D.Disk.sound c.args.disk honest)

pub returns-in_default : goal.returns-in_default
returns-in_default g c =
    refused-formats g.D.Disk.medium c.args.head c.args.disk NoMemory
    (λ is. absurd cc, λ bad. absurd (clash _ (sym c.fits.ensures ∙ c.if-not-fits.false) bad)) (inr refl) refl
    (λ honest. g.met.D.Disk.sound c.args.disk honest)

pub returns-in_default-stamps_for : goal.returns-in_default-stamps_for
returns-in_default-stamps_for g c =
    refused-formats g.D.Disk.medium c.args.head c.args.disk NoMemory
    (λ is. absurd cc, λ bad. absurd (clash _ (sym c.fits.ensures ∙ c.if-not-fits.false) bad)) (inr refl) refl
    (λ honest. g.met.D.Disk.sound c.args.disk honest)

pub returns-in-Err : goal.returns-in-Err
returns-in-Err g c = record {
  bad = (λ is. absurd cc, λ bad. absurd (clash _ (sym c.fits.ensures ∙ c.if-not-fits.false) bad));
  refusals = inr (inr refl);
  untouched = λ late. absurd (clash true refl late);
  formatted = tt;
  stands = tt;
  moments = c.lay_out.ensures.moments;
  called = c.in-Err.ensures.called;
}
