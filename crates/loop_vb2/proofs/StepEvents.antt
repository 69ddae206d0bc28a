-- The buffers and the lines of a queue's code stay in step, through each event.
use Rattle.std.proofs.Common.{◌≡◌, ℕ, zero, suc, ◌+◌, ◌<◌, ◌≤◌, Bool, true, false, not, ◌||◌, ◌==◌, cond, List, [], ◌∷◌, ◌++◌, length, take, drop, map, Option, slice_set, slice_index_or, refl, sym, ◌∙◌, ap, subst, arith}
use Rattle.std.specs.List.{list_any}
use Rattle.std.proofs.lemmas.Bool.Decides.{nat_tests}
use Rattle.loop_vb2.specs.declared.buffer.Buffer.{Buffer}
use Rattle.loop_vb2.specs.declared.planes.PlaneSet.{PlaneSet}
use Rattle.loop_vb2.specs.declared.state.BufferState.{BufferState}
use Rattle.loop_vb2.specs.declared.state.BufferState.TheVariants.{Dequeued, Prepared, Queued, Active, Done, Error}
use Rattle.loop_vb2.specs.Owner.{waits, is_ended, is_idle, is_dequeued, is_active, activate}
use Rattle.loop_vb2.specs.Buffers.{change_at, state_at, queued_with, prepared_with, wake_buffer, stop_buffer}
use Rattle.loop_vb2.specs.Lines.{lists, without}
use Rattle.loop_vb2.specs.Kept.{Lists, AreLinesKept, many}
use Rattle.loop_vb2.proofs.Lines.{tested, or_right}
use Rattle.loop_vb2.proofs.Lists.{room, Lists-push, Lists-stay, Lists-same, Lists-without, Lists-map, Lists-none}
use Rattle.loop_vb2.proofs.States.{length-changed, set_changed, state_at_read}

-- ---- which states pass which test

pub idle_waits_not : (s : BufferState) → is_idle s ≡ true → waits s ≡ false
idle_waits_not Dequeued h = refl
idle_waits_not Prepared h = refl
idle_waits_not Queued h = absurd (cc)
idle_waits_not Active h = absurd (cc)
idle_waits_not Done h = refl
idle_waits_not Error h = refl

pub idle_ended_not : (s : BufferState) → is_idle s ≡ true → is_ended s ≡ false
idle_ended_not Dequeued h = refl
idle_ended_not Prepared h = refl
idle_ended_not Queued h = refl
idle_ended_not Active h = refl
idle_ended_not Done h = absurd (cc)
idle_ended_not Error h = absurd (cc)

pub dequeued_idle : (s : BufferState) → is_dequeued s ≡ true → is_idle s ≡ true
dequeued_idle Dequeued h = refl
dequeued_idle Prepared h = refl
dequeued_idle Queued h = absurd (cc)
dequeued_idle Active h = absurd (cc)
dequeued_idle Done h = absurd (cc)
dequeued_idle Error h = absurd (cc)

pub active_waits : (s : BufferState) → is_active s ≡ true → waits s ≡ true
active_waits Dequeued h = h
active_waits Prepared h = h
active_waits Queued h = refl
active_waits Active h = refl
active_waits Done h = h
active_waits Error h = h

pub active_ended_not : (s : BufferState) → is_active s ≡ true → is_ended s ≡ false
active_ended_not Dequeued h = refl
active_ended_not Prepared h = refl
active_ended_not Queued h = refl
active_ended_not Active h = refl
active_ended_not Done h = absurd (cc)
active_ended_not Error h = absurd (cc)

pub ended_waits_not : (s : BufferState) → is_ended s ≡ true → waits s ≡ false
ended_waits_not Dequeued h = refl
ended_waits_not Prepared h = refl
ended_waits_not Queued h = absurd (cc)
ended_waits_not Active h = absurd (cc)
ended_waits_not Done h = refl
ended_waits_not Error h = refl

pub waits_woken : (s : BufferState) → waits (activate s) ≡ waits s
waits_woken Dequeued = refl
waits_woken Prepared = refl
waits_woken Queued = refl
waits_woken Active = refl
waits_woken Done = refl
waits_woken Error = refl

pub ended_woken : (s : BufferState) → is_ended (activate s) ≡ is_ended s
ended_woken Dequeued = refl
ended_woken Prepared = refl
ended_woken Queued = refl
ended_woken Active = refl
ended_woken Done = refl
ended_woken Error = refl

some_line : (x : ℕ) (rest : List ℕ) → false ≡ (length (x ∷ rest) == 0)
some_line x rest = grind (arith, nat_tests)

pub taken_first : (old line rest : List ℕ) (x i : ℕ) → line ≡ old → line ≡ x ∷ rest → i ≡ x → old ≡ i ∷ drop 1 old
taken_first old line rest x i e p h = let q : old ≡ x ∷ rest = sym e ∙ p in q ∙ (ap (λ k. k ∷ rest) (sym h) ∙ ap (λ ks. i ∷ drop 1 ks) (sym q))

module _ {P : Type 0} where
  pub queued_state : (planes : Option (PlaneSet P)) (b : Buffer P) → (queued_with planes b).state ≡ Queued
  queued_state planes b = refl

  pub prepared_state : (planes : Option (PlaneSet P)) (b : Buffer P) → (prepared_with planes b).state ≡ Prepared
  prepared_state planes b = refl

  few : (f : Buffer P → Buffer P) (bs : List (Buffer P)) (x : ℕ) → length bs ≤ 32 → length (change_at f x bs) ≤ 32
  few f bs x h = let e : length (change_at f x bs) ≡ length bs = length-changed f bs x in omega arith

  length-map : (f : Buffer P → Buffer P) (bs : List (Buffer P)) → length (map f bs) ≡ length bs
  length-map f [] = refl
  length-map f (b ∷ bs) = ap suc (length-map f bs)

  few_map : (f : Buffer P → Buffer P) (bs : List (Buffer P)) → length bs ≤ 32 → length (map f bs) ≤ 32
  few_map f bs h = let e : length (map f bs) ≡ length bs = length-map f bs in omega arith

  -- ---- what a line asks of a buffer that joins or leaves it

  pub room_to_queue : (bs : List (Buffer P)) (incoming done : List ℕ) (x : ℕ) → AreLinesKept bs incoming done
      → x < length bs → is_idle (state_at bs x) ≡ true → length incoming < 32
  room_to_queue bs incoming done x l h free = let e : length incoming < length bs =
      room waits bs incoming x l.waiting h (idle_waits_not (state_at bs x) free) in let f = l.few in omega arith

  pub apart_to_queue : (bs : List (Buffer P)) (incoming done : List ℕ) (x : ℕ) → AreLinesKept bs incoming done
      → is_idle (state_at bs x) ≡ true → lists incoming x ≡ false
  apart_to_queue bs incoming done x l free = l.waiting.listed x ∙ idle_waits_not (state_at bs x) free

  pub place_within : (bs : List (Buffer P)) (incoming done : List ℕ) (x : ℕ) → AreLinesKept bs incoming done
      → x < length bs → x < 32
  place_within bs incoming done x l h = let f = l.few in omega arith

  pub room_to_end : (bs : List (Buffer P)) (incoming done : List ℕ) (x : ℕ) → AreLinesKept bs incoming done
      → x < length bs → is_active (state_at bs x) ≡ true → length done < 32
  room_to_end bs incoming done x l h active = let e : length done < length bs = room is_ended bs done x l.over h
      (active_ended_not (state_at bs x) active) in let f = l.few in omega arith

  pub apart_to_end : (bs : List (Buffer P)) (incoming done : List ℕ) (x : ℕ) → AreLinesKept bs incoming done
      → is_active (state_at bs x) ≡ true → lists done x ≡ false
  apart_to_end bs incoming done x l active = l.over.listed x ∙ active_ended_not (state_at bs x) active

  pub listed_to_end : (bs : List (Buffer P)) (incoming done : List ℕ) (x : ℕ) → AreLinesKept bs incoming done
      → is_active (state_at bs x) ≡ true → lists incoming x ≡ true
  listed_to_end bs incoming done x l active = l.waiting.listed x ∙ active_waits (state_at bs x) active

  pub ended_here : (bs : List (Buffer P)) (x : ℕ) → is_ended (state_at bs x) ≡ true → x < length bs
  ended_here [] x h = absurd (cc)
  ended_here (b ∷ bs) zero h = omega arith
  ended_here (b ∷ bs) (suc x) h = let e = ended_here bs x h in omega (arith, e)

  first_ended_here : (bs : List (Buffer P)) (incoming done rest : List ℕ) (x : ℕ) → AreLinesKept bs incoming done
      → done ≡ x ∷ rest → is_ended (state_at bs x) ≡ true
  first_ended_here bs incoming done rest x l e = sym (l.over.listed x) ∙ (ap (λ ks. lists ks x) e ∙ ap (λ b. b || lists rest x) (tested x x refl))

  pub ended_within : (bs : List (Buffer P)) (incoming done rest : List ℕ) (x : ℕ) → AreLinesKept bs incoming done
      → done ≡ x ∷ rest → x < length bs
  ended_within bs incoming done rest x l e = ended_here bs x (first_ended_here bs incoming done rest x l e)

  -- ---- a buffer that the code has written

  abbrev pub put : Buffer P → Buffer P → Buffer P
  put c b = c

  -- a dequeued or prepared buffer is queued
  pub kept_queued : (bs now : List (Buffer P)) (incoming done line : List ℕ) (x : ℕ) (c : Buffer P) → bs ≡ now
      → AreLinesKept bs incoming done → x < length now → is_idle (state_at now x) ≡ true → c.state ≡ Queued
      → line ≡ incoming ++ x ∷ [] → AreLinesKept (slice_set bs x c) line done
  kept_queued bs now incoming done line x c same_list l h free is pushed =
      let h2 : x < length bs = subst (λ (xs : List (Buffer P)). x < length xs) (sym same_list) h in
      let f2 : is_idle (state_at bs x) ≡ true = ap (λ xs. is_idle (state_at xs x)) same_list ∙ free in
      let made : AreLinesKept (change_at (put c) x bs) (incoming ++ x ∷ []) done = record {
        waiting = Lists-push waits (put c) Queued bs incoming x (λ b. is) h2 (idle_waits_not (state_at bs x) f2) refl l.waiting;
        over = Lists-stay is_ended (put c) Queued bs done x (λ b. is) h2 (idle_ended_not (state_at bs x) f2) refl l.over;
        few = few (put c) bs x l.few;
      } in
      subst (λ (xs : List (Buffer P)). AreLinesKept xs line done) (sym (set_changed bs x c h2))
      (subst (λ (ks : List ℕ). AreLinesKept (change_at (put c) x bs) ks done) (sym pushed) made)

  -- an active buffer is completed or failed
  pub kept_ended : (bs now : List (Buffer P)) (incoming done fewer line : List ℕ) (x : ℕ) (c : Buffer P) → bs ≡ now
      → AreLinesKept bs incoming done → x < length now → is_active (state_at now x) ≡ true → waits c.state ≡ false
      → is_ended c.state ≡ true → fewer ≡ without x incoming → line ≡ done ++ x ∷ []
      → AreLinesKept (slice_set bs x c) fewer line
  kept_ended bs now incoming done fewer line x c same_list l h active waits_not over out pushed =
      let h2 : x < length bs = subst (λ (xs : List (Buffer P)). x < length xs) (sym same_list) h in
      let f2 : is_active (state_at bs x) ≡ true = ap (λ xs. is_active (state_at xs x)) same_list ∙ active in
      let made : AreLinesKept (change_at (put c) x bs) (without x incoming) (done ++ x ∷ []) = record {
        waiting = Lists-without waits (put c) c.state bs incoming x (λ b. refl) h2 (active_waits (state_at bs x) f2) waits_not l.waiting;
        over = Lists-push is_ended (put c) c.state bs done x (λ b. refl) h2 (active_ended_not (state_at bs x) f2) over l.over;
        few = few (put c) bs x l.few;
      } in
      subst (λ (xs : List (Buffer P)). AreLinesKept xs fewer line) (sym (set_changed bs x c h2))
      (subst (λ (ks : List ℕ). AreLinesKept (change_at (put c) x bs) ks line) (sym out)
      (subst (λ (ks : List ℕ). AreLinesKept (change_at (put c) x bs) (without x incoming) ks) (sym pushed) made))

  -- the first of those that ended is dequeued
  pub kept_dequeued : (bs : List (Buffer P)) (incoming done rest : List ℕ) (x : ℕ) (c : Buffer P)
      → AreLinesKept bs incoming done → done ≡ x ∷ rest → c.state ≡ Dequeued
      → AreLinesKept (slice_set bs x c) incoming rest
  kept_dequeued bs incoming done rest x c l e is =
      let h : is_ended (state_at bs x) ≡ true = first_ended_here bs incoming done rest x l e in
      let w : x < length bs = ended_here bs x h in
      let gone : without x done ≡ rest = ap (λ ks. without x ks) e ∙ ap (λ t. cond t rest (x ∷ without x rest)) (tested x x refl) in
      subst (λ (xs : List (Buffer P)). AreLinesKept xs incoming rest) (sym (set_changed bs x c w)) record {
        waiting = Lists-stay waits (put c) Dequeued bs incoming x (λ b. is) w (ended_waits_not (state_at bs x) h) refl l.waiting;
        over = subst (λ (ks : List ℕ). Lists is_ended (change_at (put c) x bs) ks) gone
            (Lists-without is_ended (put c) Dequeued bs done x (λ b. is) w h refl l.over);
        few = few (put c) bs x l.few;
      }

  -- a buffer changes, and waits and has ended as before
  pub kept_same : (bs : List (Buffer P)) (incoming done : List ℕ) (x : ℕ) (c : Buffer P)
      → AreLinesKept bs incoming done → x < length bs → waits c.state ≡ waits (state_at bs x)
      → is_ended c.state ≡ is_ended (state_at bs x) → AreLinesKept (slice_set bs x c) incoming done
  kept_same bs incoming done x c l h waits_same ended_same =
      subst (λ (xs : List (Buffer P)). AreLinesKept xs incoming done) (sym (set_changed bs x c h)) record {
        waiting = Lists-same waits (put c) c.state bs incoming x (λ b. refl) h waits_same l.waiting;
        over = Lists-same is_ended (put c) c.state bs done x (λ b. refl) h ended_same l.over;
        few = few (put c) bs x l.few;
      }

  -- ---- all buffers written

  -- a list written back through a slice
  front : (ys zs : List (Buffer P)) → take (length ys) (ys ++ zs) ≡ ys
  front [] zs = refl
  front (y ∷ ys) zs = ap (λ ws. y ∷ ws) (front ys zs)

  whole : (n : ℕ) (ys xs : List (Buffer P)) → length ys ≡ n → take n (ys ++ drop (length ys) xs) ≡ ys
  whole n ys xs e = ap (λ k. take k (ys ++ drop (length ys) xs)) (sym e) ∙ front ys (drop (length ys) xs)

  pub kept_woken : (bs now ys : List (Buffer P)) (incoming done : List ℕ) (n : ℕ) → AreLinesKept bs incoming done
      → now ≡ bs → ys ≡ map wake_buffer now → length now ≡ n → length ys ≡ length now
      → AreLinesKept (take n (ys ++ drop (length ys) bs)) incoming done
  kept_woken bs now ys incoming done n l e w m k =
      let made : AreLinesKept (map wake_buffer bs) incoming done = record {
        waiting = Lists-map waits wake_buffer activate bs incoming (λ b. refl) refl waits_woken l.waiting;
        over = Lists-map is_ended wake_buffer activate bs done (λ b. refl) refl ended_woken l.over;
        few = few_map wake_buffer bs l.few;
      } in
      subst (λ (xs : List (Buffer P)). AreLinesKept xs incoming done) (sym (whole n ys bs (k ∙ m)))
      (subst (λ (xs : List (Buffer P)). AreLinesKept xs incoming done) (sym (w ∙ ap (λ xs. map wake_buffer xs) e))
      made)

  pub kept_stopped : (bs now ys : List (Buffer P)) (incoming done none none2 : List ℕ) (n : ℕ)
      → AreLinesKept bs incoming done → now ≡ bs → ys ≡ map stop_buffer now → length now ≡ n → length ys ≡ length now
      → none ≡ [] → none2 ≡ [] → AreLinesKept (take n (ys ++ drop (length ys) bs)) none none2
  kept_stopped bs now ys incoming done none none2 n l e w m k f g =
      let made : AreLinesKept (map stop_buffer bs) [] [] = record {
        waiting = Lists-none waits stop_buffer bs (λ b. refl) refl;
        over = Lists-none is_ended stop_buffer bs (λ b. refl) refl;
        few = few_map stop_buffer bs l.few;
      } in
      subst (λ (xs : List (Buffer P)). AreLinesKept xs none none2) (sym (whole n ys bs (k ∙ m)))
      (subst (λ (xs : List (Buffer P)). AreLinesKept xs none none2) (sym (w ∙ ap (λ xs. map stop_buffer xs) e))
      (subst (λ (ks : List ℕ). AreLinesKept (map stop_buffer bs) ks none2) (sym f)
      (subst (λ (ks : List ℕ). AreLinesKept (map stop_buffer bs) [] ks) (sym g) made)))

  -- a dequeued buffer is prepared
  pub kept_prepared : (bs now : List (Buffer P)) (incoming done : List ℕ) (x : ℕ) (c : Buffer P) → bs ≡ now
      → AreLinesKept bs incoming done → x < length now → is_dequeued (state_at now x) ≡ true → c.state ≡ Prepared
      → AreLinesKept (slice_set bs x c) incoming done
  kept_prepared bs now incoming done x c same_list l h free is =
      let h2 : x < length bs = subst (λ (xs : List (Buffer P)). x < length xs) (sym same_list) h in
      let f2 : is_idle (state_at bs x) ≡ true = dequeued_idle (state_at bs x) (ap (λ xs. is_dequeued (state_at xs x)) same_list ∙ free) in
      kept_same bs incoming done x c l h2 (ap waits is ∙ sym (idle_waits_not (state_at bs x) f2)) (ap is_ended is ∙ sym (idle_ended_not (state_at bs x) f2))

  -- ---- which buffer ended

  any_ended : (bs : List (Buffer P)) (x : ℕ) → is_ended (state_at bs x) ≡ true
      → list_any (λ b. is_ended b.state) bs ≡ true
  any_ended [] x h = absurd (cc)
  any_ended (b ∷ bs) zero h = ap (λ t. t || list_any (λ b. is_ended b.state) bs) h
  any_ended (b ∷ bs) (suc x) h = or_right (is_ended b.state) (list_any (λ b. is_ended b.state) bs) (any_ended bs x h)

  all_not : (bs : List (Buffer P)) → ((i : ℕ) → is_ended (state_at bs i) ≡ false)
      → list_any (λ b. is_ended b.state) bs ≡ false
  all_not [] h = refl
  all_not (b ∷ bs) h = ap (λ t. t || list_any (λ b. is_ended b.state) bs) (h zero) ∙ all_not bs (λ i. h (suc i))

  -- the done line is empty where no buffer ended
  pub none_ended : (bs : List (Buffer P)) (incoming done : List ℕ) → AreLinesKept bs incoming done
      → not (list_any (λ b. is_ended b.state) bs) ≡ (length done == 0)
  none_ended bs incoming [] l = ap not (all_not bs (λ i. sym (l.over.listed i)))
  none_ended bs incoming (x ∷ rest) l = ap not (any_ended bs x (sym (l.over.listed x) ∙ ap (λ b. b || lists rest x) (tested x x refl))) ∙ some_line x rest

  -- a buffer changes, and its state doesn't
  pub kept_state : (bs now : List (Buffer P)) (incoming done : List ℕ) (x : ℕ) (b c : Buffer P) → bs ≡ now
      → AreLinesKept bs incoming done → x < length now → b ≡ slice_index_or bs x b → c.state ≡ b.state
      → AreLinesKept (slice_set bs x c) incoming done
  kept_state bs now incoming done x b c same_list l h read is =
      let h2 : x < length bs = subst (λ (xs : List (Buffer P)). x < length xs) (sym same_list) h in
      let s : state_at bs x ≡ b.state = state_at_read bs x b h2 read in
      kept_same bs incoming done x c l h2 (ap waits (is ∙ sym s)) (ap is_ended (is ∙ sym s))

  -- no buffers
  pub kept_none : (bs : List (Buffer P)) (incoming done : List ℕ) → bs ≡ [] → incoming ≡ [] → done ≡ []
      → AreLinesKept bs incoming done
  kept_none bs incoming done e f g =
      let K : List (Buffer P) → Type 0 = λ (xs : List (Buffer P)). AreLinesKept xs incoming done in
      let I : List ℕ → Type 0 = λ (ks : List ℕ). AreLinesKept {P = P} [] ks done in
      let D : List ℕ → Type 0 = λ (ks : List ℕ). AreLinesKept {P = P} [] [] ks in
      subst K (sym e) (subst I (sym f) (subst D (sym g) record {
        waiting = record { listed = λ i. refl; once = tt; counted = refl };
        over = record { listed = λ i. refl; once = tt; counted = refl };
        few = omega arith;
      }))

  -- buffers that are all the application's
  many_none : (test : BufferState → Bool) (bs : List (Buffer P)) → test Dequeued ≡ false
      → ((i : ℕ) → state_at bs i ≡ Dequeued) → many test bs ≡ 0
  many_none test [] off h = refl
  many_none test (b ∷ bs) off h = ap (λ t. cond t 1 0 + many test bs) (ap test (h zero) ∙ off)
      ∙ (ap (λ n. 0 + n) (many_none test bs off (λ i. h (suc i))) ∙ zero_sum)
    where
      zero_sum : 0 + 0 ≡ 0
      zero_sum = omega arith

  pub kept_new : (bs : List (Buffer P)) (incoming done : List ℕ) → length bs ≤ 32
      → ((i : ℕ) → state_at bs i ≡ Dequeued) → incoming ≡ [] → done ≡ [] → AreLinesKept bs incoming done
  kept_new bs incoming done w h e f =
      let I : List ℕ → Type 0 = λ (ks : List ℕ). AreLinesKept bs ks done in
      let D : List ℕ → Type 0 = λ (ks : List ℕ). AreLinesKept bs [] ks in
      subst I (sym e) (subst D (sym f) record {
        waiting = record { listed = λ i. sym (ap waits (h i)); once = tt; counted = sym (many_none waits bs refl h) };
        over = record { listed = λ i. sym (ap is_ended (h i)); once = tt; counted = sym (many_none is_ended bs refl h) };
        few = w;
      })

-- for a buffer that is queued
pub ruleset queueing = (room_to_queue, apart_to_queue, place_within)

-- for a buffer that ends
pub ruleset ending = (room_to_end, apart_to_end, listed_to_end, place_within)
