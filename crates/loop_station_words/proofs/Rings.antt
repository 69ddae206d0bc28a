-- Which ring is the largest.
use Rattle.std.proofs.Common.{◌≡◌, ℕ, ◌+◌, ◌-◌, ◌*◌, ◌<◌, ◌≤◌, inl, inr, ⊎_elim, refl, subst, arith}
use Rattle.std.proofs.lemmas.Grind.{common_steps}
use Rattle.std.proofs.Math.Nat.{mul-le-mul_left, mul-le-mul_right}
use Rattle.loop_station_words.specs.Rings.{IsLargestWithin, file_size}
use Rattle.loop_station_words.specs.declared.ring.RingSize.{RingSize}

-- after the head of the file
after-head : (bytes room size n : ℕ) → room ≡ bytes - 2560 → 1 ≤ n → 1 ≤ size → n * size ≤ room → 2560 + n * size ≤ bytes
after-head bytes room size n is some large fits =
    let one : 1 * size ≤ n * size = mul-le-mul_right size some in omega (arith, is, fits, one, large)

-- with the usual slots a segment takes no more than with more
with-more : (usual n slots slot room : ℕ) → usual ≤ slots → n * (512 + slots * slot) ≤ room
    → n * (512 + usual * slot) ≤ room
with-more usual n slots slot room large fits =
    let row : 512 + usual * slot ≤ 512 + slots * slot = omega (arith, mul-le-mul_right slot large) in
    omega (arith, mul-le-mul_left n row, fits)

-- the room of a ring's segments
segments-room : (frame bytes room : ℕ) (ring : RingSize) → room ≡ bytes - 2560 → file_size frame ring ≤ bytes
    → ring.segments * (512 + ring.slots * (32 + frame)) ≤ room
segments-room frame bytes room ring is fits = omega (arith, is, fits)

-- two to 63 segments of the usual slots
pub largest-middle : (usual frame bytes room n : ℕ) → room ≡ bytes - 2560 → 1 ≤ usual → usual ≤ 256 → 2 ≤ n → n < 64
    → n * (512 + usual * (32 + frame)) ≤ room
    → ((m : ℕ) → m ≤ 64 → m * (512 + usual * (32 + frame)) ≤ room → m ≤ n)
    → IsLargestWithin usual frame bytes (record { segments = n; slots = usual })
largest-middle usual frame bytes room n is some few two below fits most = record {
  preferred = record {
    allowed = record { two = two; segments = omega arith; one = some; slots = few };
    few = inl (omega arith);
    many = inl (omega arith);
  };
  fits = after-head bytes room (512 + usual * (32 + frame)) n is (omega arith) (omega arith) fits;
  largest = λ other preferred within.
      let all = segments-room frame bytes room other is within in
      let long : usual ≤ other.slots → other.segments ≤ n = λ large. most other.segments preferred.allowed.segments
      (with-more usual other.segments other.slots (32 + frame) room large all) in
      let segments : other.segments ≤ n = ⊎_elim long (λ (same : other.segments ≡ 2). omega (arith, same, two)) preferred.few in
      (segments, ⊎_elim (λ (le : other.slots ≤ usual). le) (λ (same : other.segments ≡ 64). absurd (omega (arith, same, segments, below))) preferred.many);
}

-- two segments
pub largest-few : (usual frame bytes room n : ℕ) → room ≡ bytes - 2560 → 1 ≤ n → n ≤ 256
    → 2 * (512 + n * (32 + frame)) ≤ room
    → ((m : ℕ) → m ≤ 64 → m * (512 + usual * (32 + frame)) ≤ room → m ≤ 1)
    → ((m : ℕ) → m ≤ 256 → 2 * (512 + m * (32 + frame)) ≤ room → m ≤ n)
    → IsLargestWithin usual frame bytes (record { segments = 2; slots = n })
largest-few usual frame bytes room n is some few fits one most =
    let short : usual ≤ n → 2 ≤ 1 = λ large. one 2 (omega arith) (with-more usual 2 n (32 + frame) room large fits) in
    let below : n ≤ usual = grind (arith, common_steps, short) in
    record {
      preferred = record {
        allowed = record { two = omega arith; segments = omega arith; one = some; slots = few };
        few = inr refl;
        many = inl below;
      };
      fits = after-head bytes room (512 + n * (32 + frame)) 2 is (omega arith) (omega arith) fits;
      largest = λ other preferred within.
          let all = segments-room frame bytes room other is within in
          let long : usual ≤ other.slots → other.segments ≤ 1 = λ large. one other.segments preferred.allowed.segments
          (with-more usual other.segments other.slots (32 + frame) room large all) in
          let two : other.segments ≡ 2 = ⊎_elim (λ (large : usual ≤ other.slots). absurd (omega (arith, long large, preferred.allowed.two)))
          (λ (same : other.segments ≡ 2). same) preferred.few in
          let fit : 2 * (512 + other.slots * (32 + frame)) ≤ room =
          subst (λ (s : ℕ). s * (512 + other.slots * (32 + frame)) ≤ room) two all in
          (omega (arith, two), most other.slots preferred.allowed.slots fit);
    }
