-- What is left of a list goes over into another, one at a time, and keeps a part of each.
use Rattle.std.proofs.Common.{◌≡◌, ◌∙◌, List, [], ◌∷◌, ◌++◌, ap, map, sym}
use Rattle.std.proofs.lemmas.List.{append-nil, append_assoc, map-append}

module _ {X Y Z : Type 0} (f : X → Z) (g : Y → Z) where
  pub mapped-none : (done : List X) (rest all : List Y) → done ≡ [] → rest ≡ all → map f done ++ map g rest ≡ map g all
  mapped-none done rest all none are = λ i. map f (none i) ++ map g (are i)

  pub mapped-more : (done more : List X) (left rest all : List Y) (x : X) (y : Y)
      → map f done ++ map g left ≡ map g all → left ≡ y ∷ rest → more ≡ done ++ x ∷ [] → f x ≡ g y
      → map f more ++ map g rest ≡ map g all
  mapped-more done more left rest all x y so is are same =
      ap (λ l. map f l ++ map g rest) are
      ∙ ap (λ l. l ++ map g rest) (map-append f done (x ∷ []))
      ∙ append_assoc (map f done) (f x ∷ []) (map g rest)
      ∙ (λ i. map f done ++ (same i ∷ map g rest))
      ∙ sym (ap (λ l. map f done ++ map g l) is)
      ∙ so

  pub mapped-all : (done : List X) (rest all : List Y) → map f done ++ map g rest ≡ map g all → rest ≡ []
      → map f done ≡ map g all
  mapped-all done rest all so none =
      sym (append-nil (map f done)) ∙ sym (ap (λ l. map f done ++ map g l) none) ∙ so
