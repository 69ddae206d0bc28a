-- Each fd that a queue holds is attached, and is there once: what takes planes in and lets them out keeps this.
use Rattle.std.proofs.Common.{◌≡◌, ℕ, zero, suc, ◌+◌, ◌<◌, ◌==◌, Bool, true, false, nat_lt, cond, List, [], ◌∷◌, ◌++◌, length, map, Option, Some, None, refl, sym, ◌∙◌, ap, subst, arith, inl, inr}
use Rattle.std.specs.Prelude.{is_some, option_to_list}
use Rattle.std.proofs.lemmas.Bool.{cases_eq}
use Rattle.std.specs.Option.{option_flatten}
use Rattle.loop_vb2.specs.declared.buffer.Buffer.{Buffer}
use Rattle.loop_vb2.specs.declared.planes.PlaneSet.{PlaneSet}
use Rattle.loop_vb2.specs.Buffers.{change_at, holds_at}
use Rattle.loop_vb2.specs.Planes.{number_at}
use Rattle.loop_vb2.specs.Requests.{held_sets}
use Rattle.loop_ioctl.specs.declared.call.PlaneFds.{PlaneFds}
use Rattle.loop_ioctl.specs.Names.{Names, renamed, fd_refusal, place_refusal, place_value, place_taken, first_taken, set_refusal, set_named, value_with_fd, values_in, given_back, AreAway}
use Rattle.loop_ioctl.proofs.Short.{values_of}
use Rattle.loop_ioctl.specs.Attached.{fd_times, IsOnce}
use Rattle.loop_ioctl.specs.Calls.{planes_at}
use Rattle.loop_ioctl.proofs.Names.{tested, differ, renamed_here, renamed_other, set_passed}

-- ---- counts

none_first : (n : ℕ) → 0 + n ≡ n
none_first n = omega arith

none_last : (n : ℕ) → n + 0 ≡ n
none_last n = omega arith

moved : (a b c d : ℕ) → b ≡ c + d → a + b ≡ (a + c) + d
moved a b c d e = omega arith

regrouped : (n a b c : ℕ) → n + (c + (b + a)) ≡ ((n + a) + b) + c
regrouped n a b c = omega arith

one_here : (n : ℕ) → n ≡ 0 → n + (1 + 0) ≡ 1
one_here n e = omega arith

none_here : (n : ℕ) → n + (0 + 0) ≡ n
none_here n = omega arith

-- one is there, so no other
no_other : (n t : ℕ) → n + (1 + t) ≡ 1 → n + t ≡ 0
no_other n t e = omega arith

some_there : (n t : ℕ) → n + (1 + t) ≡ 0 → ⊥
some_there n t e = omega arith

placed : (a b n : ℕ) → b ≡ 0 → a + n ≡ (b + n) + a
placed a b n e = omega arith

further : (a b c d : ℕ) → b ≡ c + d → a + b ≡ (a + c) + d
further a b c d e = omega arith

out_first : (a b n : ℕ) → a ≡ 0 → b + n ≡ (a + n) + b
out_first a b n e = omega arith

module _ {T : Type 0} where
  -- one list and nothing after it
  pub last_none : (vs : List (ℕ × T)) → vs ++ [] ≡ vs
  last_none [] = refl
  last_none (v ∷ vs) = ap (λ l. v ∷ l) (last_none vs)

  pub fd_times-append : (fd : ℕ) (vs ws : List (ℕ × T)) → fd_times fd (vs ++ ws) ≡ fd_times fd vs + fd_times fd ws
  fd_times-append fd [] ws = sym (none_first (fd_times fd ws))
  fd_times-append fd (v ∷ vs) ws = moved (cond (v.0 == fd) 1 0) (fd_times fd (vs ++ ws)) (fd_times fd vs) (fd_times fd ws) (fd_times-append fd vs ws)

  pub fd_times_of-append : (fd : ℕ) (xs ys : List (PlaneSet T)) → fd_times fd (values_of (xs ++ ys)) ≡ fd_times fd
      (values_of xs) + fd_times fd (values_of ys)
  fd_times_of-append fd [] ys = sym (none_first (fd_times fd (values_of ys)))
  fd_times_of-append fd (x ∷ xs) ys =
      fd_times-append fd (values_in x) (values_of (xs ++ ys))
      ∙ (moved (fd_times fd (values_in x)) (fd_times fd (values_of (xs ++ ys))) (fd_times fd (values_of xs))
      (fd_times fd (values_of ys)) (fd_times_of-append fd xs ys)
      ∙ ap (λ n. n + fd_times fd (values_of ys)) (sym (fd_times-append fd (values_in x) (values_of xs))))

  -- how often the planes of one buffer, or of all, have an fd
  abbrev pub in_buffer : ℕ → Option (PlaneSet T) → ℕ
  in_buffer fd planes = fd_times fd (values_of (option_to_list planes))

  abbrev pub in_buffers : ℕ → List (Buffer T) → ℕ
  in_buffers fd bs = fd_times fd (values_of (held_sets bs))

  pub in_more : (fd : ℕ) (b : Buffer T) (bs : List (Buffer T))
      → in_buffers fd (b ∷ bs) ≡ in_buffer fd b.planes + in_buffers fd bs
  in_more fd b bs = fd_times_of-append fd (option_to_list b.planes) (held_sets bs)

  -- a change of a buffer that leaves its fds
  abbrev pub Keeps : (Buffer T → Buffer T) → Type 0
  Keeps f = (b : Buffer T) (fd : ℕ) → in_buffer fd (f b).planes ≡ in_buffer fd b.planes

  pub kept_changed : (f : Buffer T → Buffer T) (index : ℕ) (bs : List (Buffer T)) (fd : ℕ) → Keeps f
      → in_buffers fd (change_at f index bs) ≡ in_buffers fd bs
  kept_changed f index [] fd keeps = refl
  kept_changed f zero (b ∷ bs) fd keeps = in_more fd (f b) bs ∙ (ap (λ n. n + in_buffers fd bs) (keeps b fd) ∙ sym (in_more fd b bs))
  kept_changed f (suc index) (b ∷ bs) fd keeps =
      in_more fd b (change_at f index bs) ∙ (ap (λ n. in_buffer fd b.planes + n) (kept_changed f index bs fd keeps) ∙ sym (in_more fd b bs))

  pub kept_mapped : (f : Buffer T → Buffer T) (bs : List (Buffer T)) (fd : ℕ) → Keeps f
      → in_buffers fd (map f bs) ≡ in_buffers fd bs
  kept_mapped f [] fd keeps = refl
  kept_mapped f (b ∷ bs) fd keeps =
      in_more fd (f b) (map f bs) ∙ (ap (λ n. n + in_buffers fd (map f bs)) (keeps b fd)
      ∙ (ap (λ n. in_buffer fd b.planes + n) (kept_mapped f bs fd keeps) ∙ sym (in_more fd b bs)))

  empty_none : (planes : Option (PlaneSet T)) (fd : ℕ) → is_some planes ≡ false → in_buffer fd planes ≡ 0
  empty_none None fd e = refl
  empty_none (Some set) fd e = absurd (cc)

  -- a buffer that held no planes gets these
  pub added : (f : Buffer T → Buffer T) (planes : Option (PlaneSet T)) (index : ℕ) (bs : List (Buffer T)) (fd : ℕ)
      → index < length bs → holds_at bs index ≡ false → ((b : Buffer T) → (f b).planes ≡ planes)
      → in_buffers fd (change_at f index bs) ≡ in_buffers fd bs + in_buffer fd planes
  added f planes index [] fd within empty makes = absurd (omega arith)
  added f planes zero (b ∷ bs) fd within empty makes =
      in_more fd (f b) bs
      ∙ (ap (λ p. in_buffer fd p + in_buffers fd bs) (makes b)
      ∙ (placed (in_buffer fd planes) (in_buffer fd b.planes) (in_buffers fd bs) (empty_none b.planes fd empty)
      ∙ ap (λ n. n + in_buffer fd planes) (sym (in_more fd b bs))))
  added f planes (suc index) (b ∷ bs) fd within empty makes =
      in_more fd b (change_at f index bs)
      ∙ (further (in_buffer fd b.planes) (in_buffers fd (change_at f index bs)) (in_buffers fd bs)
      (in_buffer fd planes) (added f planes index bs fd (omega arith) empty makes)
      ∙ ap (λ n. n + in_buffer fd planes) (sym (in_more fd b bs)))

  -- a buffer lets its planes out
  pub let_out : (f : Buffer T → Buffer T) (index : ℕ) (bs : List (Buffer T)) (fd : ℕ)
      → ((b : Buffer T) → (f b).planes ≡ None) → in_buffers fd bs ≡ in_buffers fd (change_at f index bs) + in_buffer
      fd (planes_at bs index)
  let_out f index [] fd makes = sym (none_first 0)
  let_out f zero (b ∷ bs) fd makes =
      in_more fd b bs
      ∙ (out_first (in_buffer fd (f b).planes) (in_buffer fd b.planes) (in_buffers fd bs)
      (ap (in_buffer fd) (makes b)) ∙ ap (λ n. n + in_buffer fd b.planes) (sym (in_more fd (f b) bs)))
  let_out f (suc index) (b ∷ bs) fd makes =
      in_more fd b bs
      ∙ (further (in_buffer fd b.planes) (in_buffers fd bs) (in_buffers fd (change_at f index bs))
      (in_buffer fd (planes_at bs index)) (let_out f index bs fd makes)
      ∙ ap (λ n. n + in_buffer fd (planes_at bs index)) (sym (in_more fd b (change_at f index bs))))

  -- ---- names

  -- how often each fd is there, and that it is attached where it is there
  abbrev pub AreOnce : (ℕ → ℕ) → Names T → Type 0
  AreOnce count before = (fd : ℕ) → IsOnce (count fd) (before fd)

  is_here : (n : ℕ) (name : Option (Option T)) (value : T) → IsOnce n name → name ≡ Some (Some value) → n ≡ 0
  is_here n name value (inl e) h = e
  is_here n name value (inr e) h = let f : name ≡ Some None = e.1 in absurd (cc)

  pub once_same : (n m : ℕ) (a b : Option (Option T)) → m ≡ n → b ≡ a → IsOnce n a → IsOnce m b
  once_same n m a b e f (inl h) = inl (e ∙ h)
  once_same n m a b e f (inr h) = inr (e ∙ h.0, f ∙ h.1)

  value_once : (n : ℕ → ℕ) (before : Names T) (fd : ℕ) (value : T) → before fd ≡ Some (Some value) → AreOnce n before
      → AreOnce (λ x. n x + fd_times x ((fd, value) ∷ [])) (renamed fd (Some None) before)
  value_once n before fd value h once =
      λ (x : ℕ). elim (cases_eq x fd) [
        | inl e ↦ inr (
          ap (λ t. n x + (cond t 1 0 + 0)) (tested fd x (sym e))
              ∙ one_here (n x) (is_here (n x) (before x) value (once x) (ap before e ∙ h)),
          renamed_here fd (Some None) before x e,
        )
        | inr e ↦ once_same (n x) (n x + fd_times x ((fd, value) ∷ [])) (before x) (renamed fd (Some None) before x)
            (ap (λ t. n x + (cond t 1 0 + 0)) (differ fd x (λ q. e (sym q))) ∙ none_here (n x)) (renamed_other fd (Some None) before x e) (once x)
      ]

  name_once : (n : ℕ → ℕ) (before : Names T) (fd : ℕ) (name : Option (Option T)) → before fd ≡ name
      → fd_refusal name ≡ None → AreOnce n before → AreOnce (λ x. n x + fd_times x (value_with_fd fd (option_flatten name)))
      (renamed fd (Some None) before)
  name_once n before fd None h e once = absurd (cc)
  name_once n before fd (Some None) h e once = absurd (cc)
  name_once n before fd (Some (Some value)) h e once = value_once n before fd value h once

  place_once : (n : ℕ → ℕ) (before : Names T) (due : Bool) (fd : ℕ) → place_refusal due fd before ≡ None
      → AreOnce n before → AreOnce (λ x. n x + fd_times x (value_with_fd fd (place_value due fd before)))
      (place_taken due fd before)
  place_once n before false fd e once = λ x. once_same (n x) (n x + 0) (before x) (before x) (none_last (n x)) refl (once x)
  place_once n before true fd e once = name_once n before fd (before fd) refl e once

  -- a set is taken in
  pub set_once : (n : ℕ → ℕ) (before : Names T) (named : PlaneFds) → set_refusal named before ≡ None
      → AreOnce n before → AreOnce (λ x. n x + fd_times x (values_in (set_named named before))) (first_taken named 3 before)
  set_once n before named e once =
      let p = set_passed named before e in
      let n1 = first_taken named 1 before in
      let n2 = first_taken named 2 before in
      let v0 = value_with_fd (number_at named.fds 0) (place_value (nat_lt 0 named.count) (number_at named.fds 0) before) in
      let v1 = value_with_fd (number_at named.fds 1) (place_value (nat_lt 1 named.count) (number_at named.fds 1) n1) in
      let v2 = value_with_fd (number_at named.fds 2) (place_value (nat_lt 2 named.count) (number_at named.fds 2) n2) in
      let first : AreOnce (λ x. n x + fd_times x v0) n1 = place_once n before (nat_lt 0 named.count) (number_at named.fds 0) p.0 once in
      let second : AreOnce (λ x. (n x + fd_times x v0) + fd_times x v1) n2 = place_once (λ x. n x + fd_times x v0) n1
      (nat_lt 1 named.count) (number_at named.fds 1) p.1 first in
      let third : AreOnce (λ x. ((n x + fd_times x v0) + fd_times x v1) + fd_times x v2) (first_taken named 3 before) =
      place_once (λ x. (n x + fd_times x v0) + fd_times x v1) n2 (nat_lt 2 named.count)
      (number_at named.fds 2) p.2 second in
      λ (x : ℕ). once_same (((n x + fd_times x v0) + fd_times x v1) + fd_times x v2)
      (n x + fd_times x (v2 ++ (v1 ++ v0))) (first_taken named 3 before x) (first_taken named 3 before x)
      (ap (λ t. n x + t) (fd_times-append x v2 (v1 ++ v0) ∙ ap (λ t. fd_times x v2 + t) (fd_times-append x v1 v0))
      ∙ regrouped (n x) (fd_times x v0) (fd_times x v1) (fd_times x v2))
      refl (third x)

  -- values that are there are away, and once they are given back the rest is as it was
  pub record IsLetOut (vs : List (ℕ × T)) (n : ℕ → ℕ) (before : Names T) : Type 0 where
    pub away : AreAway vs before
    pub once : AreOnce n (given_back vs before)

  first_away : (n t : ℕ) (name : Option (Option T)) → IsOnce (n + (1 + t)) name → (name ≡ Some None) × (n + t ≡ 0)
  first_away n t name (inl e) = absurd (some_there n t e)
  first_away n t name (inr e) = (e.1, no_other n t e.0)

  pub given_once : (vs : List (ℕ × T)) (n : ℕ → ℕ) (before : Names T) → AreOnce (λ x. n x + fd_times x vs) before
      → IsLetOut vs n before
  given_once [] n before once = record { away = tt; once = λ x. once_same (n x + 0) (n x) (before x) (before x) (sym (none_last (n x))) refl (once x) }
  given_once (v ∷ vs) n before once =
      let here : IsOnce (n v.0 + (1 + fd_times v.0 vs)) (before v.0) =
      subst (λ (t : Bool). IsOnce (n v.0 + (cond t 1 0 + fd_times v.0 vs)) (before v.0)) (tested v.0 v.0 refl)
      (once v.0) in
      let away : (before v.0 ≡ Some None) × (n v.0 + fd_times v.0 vs ≡ 0) = first_away (n v.0) (fd_times v.0 vs) (before v.0) here in
      let next : AreOnce (λ x. n x + fd_times x vs) (renamed v.0 (Some (Some v.1)) before) =
      λ (x : ℕ). elim (cases_eq x v.0) [
        | inl e ↦ inl (ap (λ y. n y + fd_times y vs) e ∙ away.1)
        | inr e ↦ once_same (n x + (cond (v.0 == x) 1 0 + fd_times x vs)) (n x + fd_times x vs) (before x) (renamed v.0 (Some (Some v.1)) before x)
            (ap (λ t. n x + t) (sym (ap (λ t. cond t 1 0 + fd_times x vs) (differ v.0 x (λ q. e (sym q)))
            ∙ none_first (fd_times x vs)))) (renamed_other v.0 (Some (Some v.1)) before x e) (once x)
      ] in
      let rest : IsLetOut vs n (renamed v.0 (Some (Some v.1)) before) = given_once vs n (renamed v.0 (Some (Some v.1)) before) next in
      record { away = (away.0, rest.away); once = rest.once }
