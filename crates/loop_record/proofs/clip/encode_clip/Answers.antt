use Rattle.std.proofs.Common.{◌≡◌, ◌∷◌, [], drop, replicate, refl, ◌∙◌, arith}
use Rattle.std.proofs.lemmas.List.{append-nil, drop_all}
use Rattle.byteorder.specs.Endian.{little_bytes}
use Rattle.loop_record.specs.Layout.{entry_bytes}
use Rattle.loop_record.proofs.Fields.{IsFilled, IsFilled-more}
use Rattle.loop_record.proofs.clip.encode_clip.Goals as goal

pub returns : goal.returns
returns c =
    let s = c.args.span in
    let old = c.args.out.now in
    let f0 : IsFilled 0 [] old old = record { is = refl; len = refl } in
    let f1 = IsFilled-more 0 1 _ _ _ _ (165 ∷ []) f0 refl c.put.ensures in
    let f2 = IsFilled-more 1 7 _ _ _ _ (replicate 7 0) f1 refl c.put-2.ensures in
    let f3 = IsFilled-more 8 8 _ _ _ _ (little_bytes 8 s.from) f2 refl c.put_u64.ensures in
    let f4 = IsFilled-more 16 8 _ _ _ _ (little_bytes 8 s.to) f3 refl c.put_u64-2.ensures in
    let f5 = IsFilled-more 24 8 _ _ _ _ (little_bytes 8 s.tag) f4 refl c.put_u64-3.ensures in
    let none : drop 32 old ≡ [] = drop_all 32 old (omega arith) in
    f5.is ∙ rw none (append-nil (entry_bytes s))
