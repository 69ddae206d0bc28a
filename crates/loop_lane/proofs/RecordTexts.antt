-- What was recorded is what is exported.
use Rattle.std.proofs.Common.{◌≡◌, ℕ, Bool, false, Option, Result, Ok, Err, List, sym, ap, ◌∙◌, subst}
use Rattle.std.specs.Io.KnownBytes.{Appends}
use Rattle.loop_disk.specs.Medium.{Medium}
use Rattle.loop_record.specs.declared.damage.LayoutFault.{LayoutFault}
use Rattle.loop_record.specs.declared.geometry.Geometry.{Geometry}
use Rattle.loop_record.specs.Reading.{Contents, Holds}
use Rattle.loop_record.specs.Recording.{Recording}
use Rattle.loop_store.specs.Reopen.{IsOpened}
use Rattle.loop_store.specs.Seen.{Seen, StandsFor}
use Rattle.loop_y4m.specs.Export.{IsExport, frames_between}
use Rattle.loop_y4m.specs.Text.{text}
use Rattle.loop_y4m.specs.declared.fault.ExportFault.{ExportFault}
use Rattle.loop_lane.specs.Refused.{ExportsNot}

abbrev contents_of : Contents → Result Contents LayoutFault → Contents
contents_of other (Ok c) = c
contents_of other (Err fault) = other

-- one image reads as one recording
pub one-reading : (g h : Geometry) (q r : Recording) (image : List ℕ) → Holds g q image → Holds h r image
    → ◌≡◌ {A = Contents} (record { geometry = g; recording = q }) (record { geometry = h; recording = r })
one-reading g h q r image first second = ap (contents_of (record { geometry = h; recording = r })) (sym first ∙ second)

-- what an image reads as that an honest disk kept
pub read-again : {D : Type 0} (medium : D → Medium) (kept : Seen D) (g : Geometry) (r : Recording) (image : List ℕ)
    → StandsFor medium kept r → kept.must_reopen ≡ false → (medium kept.disk).honest → kept.geometry ≡ g
    → image ≡ (medium kept.disk).bytes → Holds g r image
read-again medium kept g r image stands fine now same is =
    subst (λ (h : Geometry). Holds h r image) same
    (subst (λ (l : List ℕ). Holds kept.geometry r l) (sym is) (stands.held fine now))

-- the text of what an image reads as
pub exported : {D : Type 0} (medium : D → Medium) (kept : Seen D) (g : Geometry) (r : Recording) (opened : Seen D)
    (image : List ℕ) (from to count : ℕ) (before after : Option (List ℕ))
    → StandsFor medium kept r → kept.must_reopen ≡ false → (medium kept.disk).honest → kept.geometry ≡ g
    → image ≡ (medium kept.disk).bytes → IsOpened medium image opened → (medium opened.disk).honest
    → ((q : Recording) → StandsFor medium opened q
    → IsExport (medium opened.disk).honest opened.geometry opened.must_reopen (frames_between from to q.frames)
    before after (Ok count))
    → Appends before after (text g (frames_between from to r.frames))
exported medium kept g r opened image from to count before after stands fine now same is found honest exports =
    let there = read-again medium kept g r image stands fine now same is in
    let one = one-reading opened.geometry g found.recording r image found.held there in
    let said = exports found.recording found.stands in
    subst (λ (c : Contents). Appends before after (text c.geometry (frames_between from to c.recording.frames))) one (said.1.1.0 honest)

-- an export of what an image reads as that was refused
pub not-exported : {D : Type 0} (medium : D → Medium) (kept : Seen D) (g : Geometry) (r : Recording) (opened : Seen D)
    (image : List ℕ) (from to : ℕ) (before after : Option (List ℕ)) (fault : ExportFault)
    → StandsFor medium kept r → kept.must_reopen ≡ false → (medium kept.disk).honest → kept.geometry ≡ g
    → image ≡ (medium kept.disk).bytes → IsOpened medium image opened → opened.must_reopen ≡ false
    → (medium opened.disk).honest
    → ((q : Recording) → StandsFor medium opened q
    → IsExport (medium opened.disk).honest opened.geometry opened.must_reopen (frames_between from to q.frames)
    before after (Err fault))
    → ExportsNot medium g (frames_between from to r.frames) before after fault
not-exported medium kept g r opened image from to before after fault stands fine now same is found ready honest exports =
    let there = read-again medium kept g r image stands fine now same is in
    let one = one-reading opened.geometry g found.recording r image found.held there in
    let said = exports found.recording found.stands in
    record {
      opened = opened.disk;
      honest = honest;
      refused = subst (λ (c : Contents). IsExport (medium opened.disk).honest c.geometry false
          (frames_between from to c.recording.frames) before after (Err fault)) one
          (subst (λ (b : Bool). IsExport (medium opened.disk).honest opened.geometry b
          (frames_between from to found.recording.frames) before after (Err fault)) ready said);
    }
