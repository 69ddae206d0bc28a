use Rattle.std.proofs.Common.{◌≡◌, List, Result, Ok, Err, length, map, refl, ◌∙◌, ap, arith}
use Rattle.std.proofs.lemmas.List.{length-map}
use Rattle.loop_clips.specs.declared.clip.Clip.{Clip}
use Rattle.loop_store.specs.declared.fault.StoreFault.{StoreFault}
use Rattle.lapyrei.specs.Shown.{clip_run, put_over}
use Rattle.lapyrei.proofs.on_store.clips.Goals as goal

pub returns-in-Ok : goal.returns-in-Ok
returns-in-Ok c =
    let clips = c.in-Ok.clips.items in
    let given : length c.deref.result.now ≡ length clips = ap (λ (l : List Clip). length l) c.deref.ensures.value in
    let count : c.len.result ≡ length (map clip_run clips) =
    omega (arith, c.len.ensures, c.deref.ensures.len, given, length-map clips clip_run) in (
      refl,
      (
        Ok clips,
        (
          record {
            must_reopen = (λ is. absurd (never _ _ _ _ refl refl is), λ must. absurd (never _ _ _ _ refl refl (c.in-Ok.ensures.must_reopen.1 must)));
            found = c.in-Ok.ensures.clips;
            refusals = tt;
          },
          (
            c.put_clips.ensures
                ∙ ap (λ (l : List Clip). put_over (map clip_run l) c.args.out.now) c.deref.ensures.value,
            ap Ok count,
          ),
        ),
      ),
    )
  where
    never : {T E : Type 0} → (a b : Result T E) → (x : T) → (e : E) → a ≡ Ok x → b ≡ Err e → a ≡ b → ⊥
    never a b x e is was same = cc

pub returns-in-Err : goal.returns-in-Err
returns-in-Err c = (
  refl,
  (
    Err c.in-Err.fault,
    (
      record {
        must_reopen = (
          λ is. c.in-Err.ensures.must_reopen.0 (ap Err (same _ _ _ _ refl refl is)),
          λ must. ap Err (same _ _ _ _ refl refl (c.in-Err.ensures.must_reopen.1 must)),
        );
        found = tt;
        refusals = c.in-Err.ensures.refusals;
      },
      (refl, refl),
    ),
  ),
)
  where
    same : {T : Type 0} → (x y : StoreFault) → (a b : Result T StoreFault) → a ≡ Err x → b ≡ Err y → a ≡ b → x ≡ y
    same x y a b is was e = cc
