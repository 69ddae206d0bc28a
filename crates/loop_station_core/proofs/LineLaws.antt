-- Lines say what is so, once.
use Rattle.std.proofs.Common.{◌≡◌, ℕ, ◌+◌, ◌/◌, ◌≤◌, ◌==◌, ◌||◌, ◌&&◌, Bool, true, false, List, [], ◌∷◌, Option, Some, None, IfSome, arith, refl, nat_lt, if◌then◌else◌, subst, sym, suc, zero, ◌∙◌, is_some, ◌⊎◌, inl, inr, ◌^◌, ◌<◌}
use Rattle.std.proofs.lemmas.Grind.{common_steps}
use Rattle.loop_station_core.specs.Laws.{Alternate, IsSo, StaysLost, is_measured, locked_lines, lost_in_line, lost_told_in, syncs_in, LinesAreSo, LockedLinesTellAll, NothingIsToldTwice}
use Rattle.loop_station_core.specs.Telling.{is_missing, known_after, lines_of, same_source, source_line, told_behind, told_locked, told_lost, told_making, told_nearly, told_slow, told_source, told_store, told_syncs, told_unusable, told_waited, FirstLooksTellAll, LinesTellAll, heard_behind, heard_store, LongWaitsAreTold, SlowDisksAreTold, LostFramesAreToldSoon}
use Rattle.loop_station_core.specs.declared.changes.SourceSeen.{SourceSeen}
use Rattle.loop_station_core.specs.declared.changes.SourceSeen.TheVariants.{Missing, Silent, Other, Unusable, On}
use Rattle.loop_station_core.specs.declared.changes.StoreSeen.{StoreSeen}
use Rattle.loop_station_core.specs.declared.changes.StoreSeen.TheVariants.{Unknown, Open, Absent, Making, Stopped}
use Rattle.loop_station_core.specs.declared.changes.DiskSeen.{DiskSeen}
use Rattle.loop_station_core.specs.declared.changes.Change.{Change}
use Rattle.loop_station_core.specs.declared.changes.Change.TheVariants.{StoreAbsent, SourceUnusable, Made}
use Rattle.loop_station_core.specs.declared.changes.LostTold.{LostTold}
use Rattle.loop_station_core.specs.declared.changes.WaitTold.{WaitTold}
use Rattle.loop_station_core.specs.declared.changes.Seen.{Seen}
use Rattle.loop_station_core.specs.declared.changes.Reported.{Reported}

-- a line that may be left out
or-none : {A : Type 0} (b : Bool) (x y : A) (s : Seen) (line : Option Change) → (b ≡ false → IfSome line (IsSo s))
    → IfSome (if b then (let p : A × Option Change = (x, None) in p) else (y, line)).1 (IsSo s)
or-none true x y s line h = tt
or-none false x y s line h = h refl

-- a line that comes where something holds
if-so : {A : Type 0} (b : Bool) (x y : A) (s : Seen) (line : Change) → (b ≡ true → IsSo s line)
    → IfSome (if b then (let p : A × Option Change = (x, Some line) in p) else (y, None)).1 (IsSo s)
if-so true x y s line h = h refl
if-so false x y s line h = tt

source-line-so : (s : Seen) (x : SourceSeen) → s.source ≡ x → IfSome (source_line x) (IsSo s)
source-line-so s Missing e = e
source-line-so s Silent e = e
source-line-so s Other e = tt
source-line-so s Unusable e = tt
source-line-so s On e = e

source-so : (s : Seen) (known : Option SourceSeen) (early : Bool) → IfSome (told_source known s.source early).1 (IsSo s)
source-so s None early = or-none (is_missing s.source && early) None (Some s.source) s (source_line s.source) (λ h. source-line-so s s.source refl)
source-so s (Some known) early = or-none (same_source known s.source) (Some known) (Some s.source) s (source_line s.source) (λ h. source-line-so s s.source refl)

store-at : (s : Seen) (x known : StoreSeen) (early : Bool) → s.store ≡ x → IfSome (told_store known x early).1 (IsSo s)
store-at s Unknown Unknown early e = tt
store-at s Unknown Open early e = tt
store-at s Unknown (Absent why) early e = tt
store-at s Unknown Stopped early e = tt
store-at s Unknown (Making p) early e = tt
store-at s Stopped Unknown early e = tt
store-at s Stopped Open early e = tt
store-at s Stopped (Absent why) early e = tt
store-at s Stopped Stopped early e = tt
store-at s Stopped (Making p) early e = tt
store-at s (Making p) Unknown early e = tt
store-at s (Making p) Open early e = tt
store-at s (Making p) (Absent why) early e = tt
store-at s (Making p) Stopped early e = tt
store-at s (Making p) (Making q) early e = tt
store-at s Open Unknown early e = e
store-at s Open Open early e = tt
store-at s Open (Absent why) early e = e
store-at s Open Stopped early e = e
store-at s Open (Making p) early e = e
store-at s (Absent cause) Unknown early e = or-none ((cause == 0) && early) Unknown (Absent cause) s (Some (StoreAbsent cause)) (λ h. e)
store-at s (Absent cause) Open early e = or-none ((cause == 0) && early) Open (Absent cause) s (Some (StoreAbsent cause)) (λ h. e)
store-at s (Absent cause) (Absent why) early e =
    or-none ((why == cause) || ((cause == 0) && early)) (Absent why) (Absent cause) s (Some (StoreAbsent cause)) (λ h. e)
store-at s (Absent cause) Stopped early e = or-none ((cause == 0) && early) Stopped (Absent cause) s (Some (StoreAbsent cause)) (λ h. e)
store-at s (Absent cause) (Making p) early e = or-none ((cause == 0) && early) (Making p) (Absent cause) s (Some (StoreAbsent cause)) (λ h. e)

lost-so : (s : Seen) (known : LostTold) → IfSome (told_lost known s.lost s.now s.stopping).1 (IsSo s)
lost-so s known = grind (arith, common_steps)

locked-so : (s : Seen) (known b : Bool) → s.locked ≡ b → IfSome (told_locked known b) (IsSo s)
locked-so s false false e = tt
locked-so s false true e = e
locked-so s true false e = e
locked-so s true true e = tt

nearly-so : (s : Seen) (known : Bool) → IfSome (told_nearly known s.room s.blocks).1 (IsSo s)
nearly-so s known = grind (arith, common_steps)

behind-so : (s : Seen) (known : ℕ) → IfSome (told_behind known s.behind).1 (IsSo s)
behind-so s known = grind (arith, common_steps)

waited-so : (s : Seen) (known : WaitTold) (waited : Option ℕ) → IfSome (told_waited known waited s.now s.stopping).1 (IsSo s)
waited-so s known (Some since) = grind (arith, common_steps)
waited-so s known None = grind (arith, common_steps)

unusable-at : (s : Seen) (x : SourceSeen) (known : Option ℕ) → s.source ≡ x → IfSome (told_unusable known x s.unusable).1 (IsSo s)
unusable-at s Unusable None e = (e, refl)
unusable-at s Unusable (Some why) e =
    or-none (why == s.unusable) (Some why) (Some s.unusable) s (Some (SourceUnusable s.unusable)) (λ h. (e, refl))
unusable-at s Missing None e = tt
unusable-at s Missing (Some why) e = tt
unusable-at s Silent None e = tt
unusable-at s Silent (Some why) e = tt
unusable-at s Other None e = tt
unusable-at s Other (Some why) e = tt
unusable-at s On None e = tt
unusable-at s On (Some why) e = tt

making-at : (s : Seen) (x : StoreSeen) (known : Option ℕ) → s.store ≡ x → IfSome (told_making known x).1 (IsSo s)
making-at s (Making percent) None e = e
making-at s (Making percent) (Some quarter) e =
    or-none (quarter == percent / 25) (Some quarter) (Some (percent / 25)) s (Some (Made percent)) (λ h. e)
making-at s Unknown None e = tt
making-at s Unknown (Some quarter) e = tt
making-at s Open None e = tt
making-at s Open (Some quarter) e = tt
making-at s (Absent why) None e = tt
making-at s (Absent why) (Some quarter) e = tt
making-at s Stopped None e = tt
making-at s Stopped (Some quarter) e = tt

syncs-so : (s : Seen) (known : Bool) → IfSome (told_syncs known s.disk) (IsSo s)
syncs-so s known = grind (arith, common_steps)

slow-so : (s : Seen) (known : Bool) → IfSome (told_slow known s.disk) (IsSo s)
slow-so s known = grind (arith, common_steps)

-- a line that is one of those that say what is so
as-so : (s : Seen) (line other : Option Change) → line ≡ other → IfSome other (IsSo s) → IfSome line (IsSo s)
as-so s line other e h = subst (λ l. IfSome l (IsSo s)) (sym e) h

pub lines-so : LinesAreSo
lines-so r s zero line h is = as-so s line _ (is.0 refl) (source-so s r.source (nat_lt s.now r.soon))
lines-so r s (suc zero) line h is = as-so s line _ (is.1 refl) (store-at s s.store r.store (nat_lt s.now r.soon) refl)
lines-so r s (suc (suc zero)) line h is = as-so s line _ (is.2 refl) (lost-so s r.lost)
lines-so r s (suc (suc (suc zero))) line h is = as-so s line _ (is.3 refl) (locked-so s r.locked s.locked refl)
lines-so r s (suc (suc (suc (suc zero)))) line h is = as-so s line _ (is.4 refl) (nearly-so s r.nearly)
lines-so r s (suc (suc (suc (suc (suc zero))))) line h is = as-so s line _ (is.5 refl) (behind-so s r.behind)
lines-so r s (suc (suc (suc (suc (suc (suc zero)))))) line h is = as-so s line _ (is.6 refl) (waited-so s r.waited s.waited)
lines-so r s (suc (suc (suc (suc (suc (suc (suc zero))))))) line h is = as-so s line _ (is.7 refl) (unusable-at s s.source r.unusable refl)
lines-so r s (suc (suc (suc (suc (suc (suc (suc (suc zero)))))))) line h is = as-so s line _ (is.8 refl) (making-at s s.store r.making refl)
lines-so r s (suc (suc (suc (suc (suc (suc (suc (suc (suc zero))))))))) line h is = as-so s line _ (is.9 refl) (syncs-so s r.disk)
lines-so r s (suc (suc (suc (suc (suc (suc (suc (suc (suc (suc zero)))))))))) line h is = as-so s line _ (is.10 refl) (slow-so s r.disk)
lines-so r s (suc (suc (suc (suc (suc (suc (suc (suc (suc (suc (suc kind))))))))))) line h is = absurd (omega (arith, h))

-- once the disk is told, it isn't told again
told-never : (r : Reported) (seen : List Seen) → r.disk ≡ true → syncs_in r seen ≡ 0
told-never r [] h = refl
told-never r (s ∷ ss) h =
    let rest = told-never (known_after r s) ss (grind (arith, common_steps)) in
    grind (arith, common_steps)

-- a disk that isn't measured isn't told
not-yet : (r : Reported) (s : Seen) → r.disk ≡ false → s.disk ≡ None → (known_after r s).disk ≡ false
not-yet r s h e = grind (arith, common_steps)

pub disk-told-once : (r : Reported) (seen : List Seen) → r.disk ≡ false
    → syncs_in r seen ≡ (if is_measured seen then 1 else 0)
disk-told-once r [] h = refl
disk-told-once r (s ∷ ss) h = at s.disk refl (λ e. disk-told-once (known_after r s) ss (not-yet r s h e)) where
  at : (d : Option DiskSeen) → s.disk ≡ d
      → (s.disk ≡ None → syncs_in (known_after r s) ss ≡ (if is_measured ss then 1 else 0))
      → syncs_in r (s ∷ ss) ≡ (if is_measured (s ∷ ss) then 1 else 0)
  at None e more = let rest = more e in grind (arith, common_steps)
  at (Some d) e more =
      let rest = told-never (known_after r s) ss (grind (arith, common_steps)) in
      grind (arith, common_steps)

-- a look tells what it then knows
told-here : (r : Reported) (s : Seen) → r.lost.frames ≤ s.lost
    → r.lost.frames + lost_in_line (lines_of r s).given_up ≡ (known_after r s).lost.frames
told-here r s h = grind (arith, common_steps)

-- and all that are lost at the end
all-told : (r : Reported) (s : Seen) → r.lost.frames ≤ s.lost → s.stopping ≡ true → (known_after r s).lost.frames ≡ s.lost
all-told r s h e = grind (arith, common_steps)

-- no more than are lost
not-more : (r : Reported) (s : Seen) → r.lost.frames ≤ s.lost → (known_after r s).lost.frames ≤ s.lost
not-more r s h = grind (arith, common_steps)

-- what ends so after more frames are lost does after fewer
ends-lower : (a b : ℕ) (s : Seen) (ss : List Seen) (last : ℕ) → b ≤ a → StaysLost a (s ∷ ss) last → StaysLost b (s ∷ ss) last
ends-lower a b s [] last h e = let lost : a ≤ s.lost = e.0 in (omega arith, e.1)
ends-lower a b s (t ∷ ss) last h e = let lost : a ≤ s.lost = e.0 in (omega arith, e.1)

pub lost-told-once : (r : Reported) (seen : List Seen) (last : ℕ) → StaysLost r.lost.frames seen last
    → r.lost.frames + lost_told_in r seen ≡ last
lost-told-once r [] last h = let e : last ≡ r.lost.frames = h in omega arith
lost-told-once r (s ∷ []) last h =
    let lost : r.lost.frames ≤ s.lost = h.0 in
    let here = told-here r s lost in
    let all = all-told r s lost h.1.0 in
    let e : last ≡ s.lost = h.1.1 in
    omega arith
lost-told-once r (s ∷ t ∷ ss) last h =
    let lost : r.lost.frames ≤ s.lost = h.0 in
    let here = told-here r s lost in
    let rest = lost-told-once (known_after r s) (t ∷ ss) last
    (ends-lower s.lost (known_after r s).lost.frames t ss last (not-more r s lost) h.1) in
    omega arith

pub lines-alternate : (known : Bool) (locked : List Bool) → Alternate known (locked_lines known locked)
lines-alternate known [] = tt
lines-alternate false (false ∷ bs) = lines-alternate false bs
lines-alternate false (true ∷ bs) = lines-alternate true bs
lines-alternate true (true ∷ bs) = lines-alternate true bs
lines-alternate true (false ∷ bs) = lines-alternate false bs

pub locked-tell : LockedLinesTellAll
locked-tell false false [] = refl
locked-tell false true [] = refl
locked-tell true false [] = refl
locked-tell true true [] = refl
locked-tell false last (false ∷ bs) = locked-tell false last bs
locked-tell false last (true ∷ bs) = locked-tell true last bs
locked-tell true last (true ∷ bs) = locked-tell true last bs
locked-tell true last (false ∷ bs) = locked-tell false last bs

-- what is known of a store is what is heard, and what is so
store-heard : (known seen : StoreSeen) (early : Bool)
    → (told_store known seen early).0 ≡ heard_store known (told_store known seen early).1
store-heard known seen early = grind (arith, common_steps)

behind-heard : (known behind : ℕ) → (told_behind known behind).0 ≡ heard_behind known (told_behind known behind).1
behind-heard known behind = grind (arith, common_steps)

pub first-tell : FirstLooksTellAll
first-tell now s fits = (
  (λ e. grind (arith, common_steps)),
  (λ e. grind (arith, common_steps)),
  (λ e. grind (arith, common_steps)),
  (λ e. grind (arith, common_steps)),
  (λ e late. grind (arith, common_steps)),
  (λ e early. grind (arith, common_steps)),
  (λ e. grind (arith, common_steps)),
  (λ some few. grind (arith, common_steps)),
  (λ far. grind (arith, common_steps)),
  (λ percent e. grind (arith, common_steps)),
)

pub lines-tell : LinesTellAll
lines-tell r s = (
  store-heard r.store s.store (nat_lt s.now r.soon),
  (λ e. grind (arith, common_steps)),
  (λ cause e late. grind (arith, common_steps)),
  behind-heard r.behind s.behind,
  (λ e. grind (arith, common_steps)),
  (λ some. (grind (arith, common_steps), grind (arith, common_steps))),
)

pub slow-told : SlowDisksAreTold
slow-told r s d new is some = (
  grind (arith, common_steps),
  (λ slow. grind (arith, common_steps)),
  (λ fast. grind (arith, common_steps)),
  grind (arith, common_steps),
  grind (arith, common_steps),
)

pub waits-told : LongWaitsAreTold
waits-told r s since none =
    ((λ new waits long. grind (arith, common_steps)), (λ known gone over long. grind (arith, common_steps)))

-- what is told once isn't told again at the same look
source-once : (known : Option SourceSeen) (seen : SourceSeen) (early : Bool)
    → (told_source (told_source known seen early).0 seen early).1 ≡ None
source-once None Missing true = refl
source-once None Missing false = refl
source-once None Silent early = refl
source-once None Other early = refl
source-once None Unusable early = refl
source-once None On early = refl
source-once (Some Missing) Missing early = refl
source-once (Some Missing) Silent early = refl
source-once (Some Missing) Other early = refl
source-once (Some Missing) Unusable early = refl
source-once (Some Missing) On early = refl
source-once (Some Silent) Missing early = refl
source-once (Some Silent) Silent early = refl
source-once (Some Silent) Other early = refl
source-once (Some Silent) Unusable early = refl
source-once (Some Silent) On early = refl
source-once (Some Other) Missing early = refl
source-once (Some Other) Silent early = refl
source-once (Some Other) Other early = refl
source-once (Some Other) Unusable early = refl
source-once (Some Other) On early = refl
source-once (Some Unusable) Missing early = refl
source-once (Some Unusable) Silent early = refl
source-once (Some Unusable) Other early = refl
source-once (Some Unusable) Unusable early = refl
source-once (Some Unusable) On early = refl
source-once (Some On) Missing early = refl
source-once (Some On) Silent early = refl
source-once (Some On) Other early = refl
source-once (Some On) Unusable early = refl
source-once (Some On) On early = refl

store-once : (known seen : StoreSeen) (early : Bool) → (told_store (told_store known seen early).0 seen early).1 ≡ None
store-once known seen early = grind (arith, common_steps)

lost-once : (known : LostTold) (lost now : ℕ) (stopping : Bool)
    → (told_lost (told_lost known lost now stopping).0 lost now stopping).1 ≡ None
lost-once known lost now stopping = grind (arith, common_steps)

nearly-once : (known : Bool) (room blocks : ℕ) → (told_nearly (told_nearly known room blocks).0 room blocks).1 ≡ None
nearly-once known room blocks = grind (arith, common_steps)

behind-once : (known behind : ℕ) → (told_behind (told_behind known behind).0 behind).1 ≡ None
behind-once known behind = grind (arith, common_steps)

waited-once : (known : WaitTold) (waits : Option ℕ) (now : ℕ) (stopping : Bool)
    → (told_waited (told_waited known waits now stopping).0 waits now stopping).1 ≡ None
waited-once known (Some since) now stopping = grind (arith, common_steps)
waited-once known None now stopping = grind (arith, common_steps)

unusable-once : (known : Option ℕ) (seen : SourceSeen) (why : ℕ)
    → (told_unusable (told_unusable known seen why).0 seen why).1 ≡ None
unusable-once known seen why = grind (arith, common_steps)

making-once : (known : Option ℕ) (seen : StoreSeen) → (told_making (told_making known seen).0 seen).1 ≡ None
making-once known seen = grind (arith, common_steps)

locked-once : (b : Bool) → told_locked b b ≡ None
locked-once true = refl
locked-once false = refl

syncs-once : (known : Bool) (d : Option DiskSeen) → told_syncs (known || is_some d) d ≡ None
syncs-once true None = refl
syncs-once true (Some d) = refl
syncs-once false None = refl
syncs-once false (Some d) = refl

slow-once : (known : Bool) (d : Option DiskSeen) → told_slow (known || is_some d) d ≡ None
slow-once true None = refl
slow-once true (Some d) = refl
slow-once false None = refl
slow-once false (Some d) = refl

pub told-twice : NothingIsToldTwice
told-twice r s zero line h is = is.0 refl ∙ source-once r.source s.source (nat_lt s.now r.soon)
told-twice r s (suc zero) line h is = is.1 refl ∙ store-once r.store s.store (nat_lt s.now r.soon)
told-twice r s (suc (suc zero)) line h is = is.2 refl ∙ lost-once r.lost s.lost s.now s.stopping
told-twice r s (suc (suc (suc zero))) line h is = is.3 refl ∙ locked-once s.locked
told-twice r s (suc (suc (suc (suc zero)))) line h is = is.4 refl ∙ nearly-once r.nearly s.room s.blocks
told-twice r s (suc (suc (suc (suc (suc zero))))) line h is = is.5 refl ∙ behind-once r.behind s.behind
told-twice r s (suc (suc (suc (suc (suc (suc zero)))))) line h is = is.6 refl ∙ waited-once r.waited s.waited s.now s.stopping
told-twice r s (suc (suc (suc (suc (suc (suc (suc zero))))))) line h is = is.7 refl ∙ unusable-once r.unusable s.source s.unusable
told-twice r s (suc (suc (suc (suc (suc (suc (suc (suc zero)))))))) line h is = is.8 refl ∙ making-once r.making s.store
told-twice r s (suc (suc (suc (suc (suc (suc (suc (suc (suc zero))))))))) line h is = is.9 refl ∙ syncs-once r.disk s.disk
told-twice r s (suc (suc (suc (suc (suc (suc (suc (suc (suc (suc zero)))))))))) line h is = is.10 refl ∙ slow-once r.disk s.disk
told-twice r s (suc (suc (suc (suc (suc (suc (suc (suc (suc (suc (suc kind))))))))))) line h is = absurd (omega (arith, h))

pub lost-soon : LostFramesAreToldSoon
lost-soon r s = ((λ more due. grind (arith, common_steps)), told)
  where
    told : is_some (lines_of r s).given_up ≡ true → ((r.lost.again ≤ s.now) ⊎ (s.stopping ≡ true))
        × (s.now + 1000000 < 2 ^ 64 → (known_after r s).lost.again ≡ s.now + 1000000)
    told some = (at s.stopping (nat_lt s.now r.lost.again) refl refl, (λ fits. grind (arith, common_steps)))
      where
        at : (b c : Bool) → s.stopping ≡ b → nat_lt s.now r.lost.again ≡ c → (r.lost.again ≤ s.now) ⊎ (s.stopping ≡ true)
        at true c e l = inr e
        at false false e l = inl (grind (arith, common_steps))
        at false true e l = absurd (grind (arith, common_steps))
