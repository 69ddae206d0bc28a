-- What holds of a camera whatever happens.
use Rattle.std.proofs.Common.{◌≡◌, true, false, List, [], ◌∷◌, is_some, arith, refl, ◌≢◌, ◌⊎◌, inl, inr, ◌+◌, ◌*◌, ◌<◌}
use Rattle.std.proofs.lemmas.Grind.{common_steps}
use Rattle.loop_station_core.specs.Cameras.{lived, step_camera, CamerasEndWithTheProgram, EndedFilmingsGoOn, LockedFilmingsWait, OffersAreAnswered, SilenceIsSeen, source_seen, stops_in, StoresAreOpenedAgain, LockedBlocksAreKnown, SourcesAreSeen}
use Rattle.loop_station_core.specs.Laws.{NoneBegins, NothingBreaks, BrokenFilmingsEnd}
use Rattle.loop_station_core.specs.declared.camera.Act.TheVariants.{GiveUp, Finish, Refuse, OpenAgain}
use Rattle.loop_station_core.specs.declared.camera.Camera.{Camera}
use Rattle.loop_station_core.specs.declared.camera.Event.{Event}
use Rattle.loop_station_core.specs.declared.camera.Event.TheVariants.{Filming, Source}
use Rattle.loop_station_core.specs.declared.camera.FilmingEvent.TheVariants.{Stop, Begin, Store, AllLocked, Break, Move, End, Leave}
use Rattle.loop_station_core.specs.declared.changes.SourceSeen.{SourceSeen}
use Rattle.loop_station_core.specs.declared.changes.SourceSeen.TheVariants.{Missing, Silent, Other, Unusable, On}
use Rattle.loop_station_core.specs.declared.camera.SourceEvent.TheVariants as its

stays : (c : Camera) (e : Event) → c.stopping ≡ true → (step_camera c e).0.stopping ≡ true
stays c e h = grind (arith, common_steps)

stays-after : (c : Camera) (es : List Event) → c.stopping ≡ true → (lived c es).stopping ≡ true
stays-after c [] h = h
stays-after c (e ∷ es) h = stays-after (step_camera c e).0 es (stays c e h)

pub stops-for-good : (c : Camera) (es : List Event) → (lived c (Filming Stop ∷ es)).stopping ≡ true
stops-for-good c es = stays-after (step_camera c (Filming Stop)).0 es refl

goes-on : (c : Camera) (es : List Event) → NothingBreaks es → c.over ≡ false → (lived c es).over ≡ false
goes-on c [] u h = h
goes-on c (Filming Stop ∷ es) u h = goes-on (step_camera c (Filming Stop)).0 es u h
goes-on c (Filming Begin ∷ es) u h = goes-on (step_camera c (Filming Begin)).0 es u refl
goes-on c (Filming (Store n) ∷ es) u h = goes-on (step_camera c (Filming (Store n))).0 es u h
goes-on c (Filming AllLocked ∷ es) u h = goes-on (step_camera c (Filming AllLocked)).0 es u h
goes-on c (Filming Break ∷ es) u h = elim u [ ]
goes-on c (Filming Move ∷ es) u h = elim u [ ]
goes-on c (Filming (End b) ∷ es) u h = goes-on (step_camera c (Filming (End b))).0 es u h
goes-on c (Filming Leave ∷ es) u h =
    let e : (step_camera c (Filming Leave)).0.over ≡ false = grind (arith, common_steps) in
    goes-on (step_camera c (Filming Leave)).0 es u e
goes-on c (Source s ∷ es) u h =
    let e : (step_camera c (Source s)).0.over ≡ false = grind (arith, common_steps) in
    goes-on (step_camera c (Source s)).0 es u e

pub filmings-on : (c : Camera) (es : List Event) → NothingBreaks es → (lived c (Filming Begin ∷ es)).over ≡ false
filmings-on c es u = goes-on (step_camera c (Filming Begin)).0 es u refl

ends : (c : Camera) (es : List Event) → NoneBegins es → c.over ≡ true → (lived c es).over ≡ true
ends c [] u h = h
ends c (Filming Stop ∷ es) u h = ends (step_camera c (Filming Stop)).0 es u h
ends c (Filming Begin ∷ es) u h = elim u [ ]
ends c (Filming (Store n) ∷ es) u h = ends (step_camera c (Filming (Store n))).0 es u h
ends c (Filming AllLocked ∷ es) u h = ends (step_camera c (Filming AllLocked)).0 es u h
ends c (Filming Break ∷ es) u h = ends (step_camera c (Filming Break)).0 es u refl
ends c (Filming Move ∷ es) u h = ends (step_camera c (Filming Move)).0 es u refl
ends c (Filming (End b) ∷ es) u h = ends (step_camera c (Filming (End b))).0 es u h
ends c (Filming Leave ∷ es) u h =
    let e : (step_camera c (Filming Leave)).0.over ≡ true = grind (arith, common_steps) in
    ends (step_camera c (Filming Leave)).0 es u e
ends c (Source s ∷ es) u h =
    let e : (step_camera c (Source s)).0.over ≡ true = grind (arith, common_steps) in
    ends (step_camera c (Source s)).0 es u e

gives-up : (c : Camera) → c.over ≡ true → (step_camera c (Filming AllLocked)).1 ≡ GiveUp
gives-up c h = grind (arith, common_steps)

pub moved-left : (c : Camera) (es : List Event) → NoneBegins es
    → (step_camera (lived c (Filming Move ∷ es)) (Filming AllLocked)).1 ≡ GiveUp
moved-left c es u = gives-up (lived c (Filming Move ∷ es)) (ends (step_camera c (Filming Move)).0 es u refl)

waits-on : (c : Camera) (e : Event) → (c.silent ≡ true → is_some c.waits ≡ true)
    → (step_camera c e).0.silent ≡ true → is_some (step_camera c e).0.waits ≡ true
waits-on c e h s = grind (arith, common_steps)

waits-after : (c : Camera) (es : List Event) → (c.silent ≡ true → is_some c.waits ≡ true)
    → (lived c es).silent ≡ true → is_some (lived c es).waits ≡ true
waits-after c [] h = h
waits-after c (e ∷ es) h = waits-after (step_camera c e).0 es (waits-on c e h)

pub silent-wait : (c : Camera) (es : List Event) → c.silent ≡ false
    → (lived c es).silent ≡ true → is_some (lived c es).waits ≡ true
silent-wait c es h = waits-after c es (λ s. grind (arith, common_steps))

-- a camera is stopping once the program ends, and not before
stops-with : (c : Camera) (es : List Event) → c.stopping ≡ false → (lived c es).stopping ≡ stops_in es
stops-with c [] h = h
stops-with c (Filming Stop ∷ es) h = stays-after (step_camera c (Filming Stop)).0 es refl
stops-with c (Filming Begin ∷ es) h = stops-with (step_camera c (Filming Begin)).0 es h
stops-with c (Filming (Store n) ∷ es) h = stops-with (step_camera c (Filming (Store n))).0 es h
stops-with c (Filming AllLocked ∷ es) h = stops-with (step_camera c (Filming AllLocked)).0 es h
stops-with c (Filming Break ∷ es) h = stops-with (step_camera c (Filming Break)).0 es h
stops-with c (Filming Move ∷ es) h = stops-with (step_camera c (Filming Move)).0 es h
stops-with c (Filming (End b) ∷ es) h = stops-with (step_camera c (Filming (End b))).0 es h
stops-with c (Filming Leave ∷ es) h =
    stops-with (step_camera c (Filming Leave)).0 es (grind (arith, common_steps))
stops-with c (Source s ∷ es) h = stops-with (step_camera c (Source s)).0 es (grind (arith, common_steps))

-- what follows, by whether it is stopping
finishes : (c : Camera) → c.stopping ≡ true → ((step_camera c (Filming (End false))).1 ≡ Finish)
    × ((step_camera c (Filming (End true))).1 ≡ OpenAgain) × ((step_camera c (Filming Leave)).1 ≡ Finish)
finishes c h = (grind (arith, common_steps), grind (arith, common_steps), grind (arith, common_steps))

goes-on-with : (c : Camera) (e : Event) → c.stopping ≡ false → (step_camera c e).1 ≢ Finish
goes-on-with c (Filming Stop) h e = absurd (cc)
goes-on-with c (Filming Begin) h e = absurd (cc)
goes-on-with c (Filming (Store n)) h e = absurd (cc)
goes-on-with c (Filming AllLocked) h e = grind (arith, common_steps)
goes-on-with c (Filming Break) h e = absurd (cc)
goes-on-with c (Filming Move) h e = absurd (cc)
goes-on-with c (Filming (End b)) h e = grind (arith, common_steps)
goes-on-with c (Filming Leave) h e = grind (arith, common_steps)
goes-on-with c (Source s) h e = grind (arith, common_steps)

pub cameras-end : CamerasEndWithTheProgram
cameras-end c es h = let is = stops-with c es h in (
  (λ e. finishes (lived c es) (grind (arith, common_steps))),
  (λ e next. goes-on-with (lived c es) next (grind (arith, common_steps))),
)

pub filmings-follow : EndedFilmingsGoOn
filmings-follow c must_reopen h = (grind (arith, common_steps), grind (arith, common_steps))

pub locked-wait : LockedFilmingsWait
locked-wait c = ((λ o s. grind (arith, common_steps)), after)
  where
    after : (c.over ≡ true) ⊎ (c.stopping ≡ true) → (step_camera c (Filming AllLocked)).1 ≡ GiveUp
    after (inl o) = grind (arith, common_steps)
    after (inr s) = grind (arith, common_steps)

pub offers-answered : OffersAreAnswered
offers-answered c = (refl, refuses c.source refl, refl)
  where
    refuses : (x : SourceSeen) → c.source ≡ x → c.source ≢ Other → (step_camera c (Source (its.Offer false))).1 ≡ Refuse
    refuses Missing e n = grind (arith, common_steps)
    refuses Silent e n = grind (arith, common_steps)
    refuses Other e n = absurd (n e)
    refuses Unusable e n = grind (arith, common_steps)
    refuses On e n = grind (arith, common_steps)

pub silence-seen : SilenceIsSeen
silence-seen c since now frame w (inl on) fits =
    ((λ a b. grind (arith, common_steps)), (λ either. early either), grind (arith, common_steps))
  where
    early : (now < since + 2000000) ⊎ (now < since + frame * 3)
        → source_seen (step_camera c (Source (its.Look now frame))).0 ≡ c.source
    early (inl a) = grind (arith, common_steps)
    early (inr b) = grind (arith, common_steps)
silence-seen c since now frame w (inr gone) fits =
    ((λ a b. grind (arith, common_steps)), (λ either. early either), grind (arith, common_steps))
  where
    early : (now < since + 2000000) ⊎ (now < since + frame * 3)
        → source_seen (step_camera c (Source (its.Look now frame))).0 ≡ c.source
    early (inl a) = grind (arith, common_steps)
    early (inr b) = grind (arith, common_steps)

pub opened-again : StoresAreOpenedAgain
opened-again c h fits = (
  (λ m. (grind (arith, common_steps), grind (arith, common_steps))),
  (λ m. (grind (arith, common_steps), grind (arith, common_steps), grind (arith, common_steps))),
)

pub locked-known : LockedBlocksAreKnown
locked-known c frames = (refl, refl, grind (arith, common_steps), λ some. grind (arith, common_steps))

pub sources-seen : SourcesAreSeen
sources-seen c = ((λ e. grind (arith, common_steps)), stays-so c.source refl, refl, refl, refl)
  where
    stays-so : (x : SourceSeen) → c.source ≡ x → c.source ≢ On → (step_camera c (Source its.Close)).0.source ≡ c.source
    stays-so Missing e n = grind (arith, common_steps)
    stays-so Silent e n = grind (arith, common_steps)
    stays-so Other e n = grind (arith, common_steps)
    stays-so Unusable e n = grind (arith, common_steps)
    stays-so On e n = absurd (n e)

pub broken-end : BrokenFilmingsEnd
broken-end c es u = (ends (step_camera c (Filming Break)).0 es u refl, ends (step_camera c (Filming Move)).0 es u refl)
