-- Entries of a log, put one after the other.
use Rattle.std.proofs.Common.{◌≡◌, ℕ, zero, suc, ◌+◌, ◌<◌, ◌≤◌, List, [], ◌∷◌, ◌++◌, length, map, take, drop, get_or, sym, ◌∙◌, ap, arith, length-append, length-take}
use Rattle.std.proofs.lemmas.Grind.{flat_map-append}
use Rattle.std.proofs.lemmas.List.{append-nil, append_assoc, map-append, take-append-le, take_all, take_more}
use Rattle.byteorder.specs.Endian.{little_bytes}
use Rattle.loop_disk.specs.declared.crash.DeviceCall.{DeviceCall}
use Rattle.loop_disk.specs.Crashing.{call_of}
use Rattle.loop_disk.specs.Medium.{with_bytes_at}
use Rattle.loop_disk.proofs.Images.{length-written}
use Rattle.lapyrei.specs.Bytes.{call_bytes, log_bytes, log_entry}

-- what stands before the end of bytes that were written
grown : (k n : ℕ) (v l : List ℕ) → k ≤ length l → n ≡ k + length v → take n (with_bytes_at k v l) ≡ take k l ++ v
grown k n v l fits end =
    let front : length (take k l ++ v) ≡ n = omega (arith, length-append (take k l) v, length-take k l, fits, end) in
    take-append-le n (take k l ++ v) (drop (k + length v) l) (omega (arith, front))
    ∙ take_all n (take k l ++ v) (omega (arith, front))

-- an entry: its place, its count, and its bytes
pub put_one : (k k1 k2 k3 at : ℕ) (v l0 l1 l2 l3 : List ℕ) → k1 ≡ k + 8 → k2 ≡ k1 + 8 → k3 ≡ k2 + length v
    → k3 ≤ length l0
    → l1 ≡ with_bytes_at k (little_bytes 8 at) l0
    → l2 ≡ with_bytes_at k1 (little_bytes 8 (length v)) l1
    → l3 ≡ with_bytes_at k2 v l2
    → (take k3 l3 ≡ take k l0 ++ log_entry at v) × (length l3 ≡ length l0)
put_one k k1 k2 k3 at v l0 l1 l2 l3 e1 e2 e3 fits is1 is2 is3 =
    let a = little_bytes 8 at in
    let b = little_bytes 8 (length v) in
    let n1 : length l1 ≡ length l0 = ap (λ (l : List ℕ). length l) is1 ∙ length-written k a l0 (omega (arith, fits, e1, e2, e3)) in
    let n2 : length l2 ≡ length l0 = ap (λ (l : List ℕ). length l) is2
    ∙ length-written k1 b l1 (omega (arith, fits, e2, e3, n1)) ∙ n1 in
    let n3 : length l3 ≡ length l0 = ap (λ (l : List ℕ). length l) is3
    ∙ length-written k2 v l2 (omega (arith, fits, e3, n2)) ∙ n2 in
    let t1 : take k1 l1 ≡ take k l0 ++ a = ap (λ (l : List ℕ). take k1 l) is1 ∙ grown k k1 a l0 (omega (arith, fits, e1, e2, e3)) e1 in
    let t2 : take k2 l2 ≡ take k l0 ++ a ++ b = ap (λ (l : List ℕ). take k2 l) is2
    ∙ grown k1 k2 b l1 (omega (arith, fits, e2, e3, n1)) e2 ∙ ap (λ (l : List ℕ). l ++ b) t1 in
    let t3 : take k3 l3 ≡ take k l0 ++ a ++ b ++ v = ap (λ (l : List ℕ). take k3 l) is3
    ∙ grown k2 k3 v l2 (omega (arith, fits, e3, n2)) e3 ∙ ap (λ (l : List ℕ). l ++ v) t2 in (
      t3 ∙ ap (λ (l : List ℕ). l ++ v) (append_assoc (take k l0) a b) ∙ append_assoc (take k l0) (a ++ b) v,
      n3,
    )

pub length-entry : (at : ℕ) (v : List ℕ) → length (log_entry at v) ≡ 16 + length v
length-entry at v = length-append (little_bytes 8 at ++ little_bytes 8 (length v)) v

-- one call more
pub bytes_more : {V : Type 0} (f : V → List ℕ) (calls : List (DeviceCall V)) (k : ℕ) (it : DeviceCall V)
    → k < length calls → it ≡ get_or calls k it
    → log_bytes (map (call_of f) (take (k + 1) calls))
    ≡ log_bytes (map (call_of f) (take k calls)) ++ call_bytes (call_of f it)
bytes_more f calls k it lt is =
    let c = call_of f it in
    let taken : take (k + 1) calls ≡ take k calls ++ it ∷ [] =
    take_more calls k it lt ∙ ap (λ (x : DeviceCall _). take k calls ++ x ∷ []) (sym is) in
    ap (λ (l : List (DeviceCall _)). log_bytes (map (call_of f) l)) taken
    ∙ ap log_bytes (map-append (call_of f) (take k calls) (it ∷ []))
    ∙ flat_map-append call_bytes (map (call_of f) (take k calls)) (c ∷ [])
    ∙ ap (λ (l : List ℕ). log_bytes (map (call_of f) (take k calls)) ++ l) (append-nil (call_bytes c))

-- the first calls take no more than all
pub first_fit : {V : Type 0} (f : V → DeviceCall (List ℕ)) (calls : List V) (n : ℕ)
    → length (log_bytes (map f (take n calls))) ≤ length (log_bytes (map f calls))
first_fit f [] zero = omega arith
first_fit f [] (suc n) = omega arith
first_fit f (c ∷ calls) zero = omega arith
first_fit f (c ∷ calls) (suc n) =
    omega (
      arith,
      length-append (call_bytes (f c)) (log_bytes (map f (take n calls))),
      length-append (call_bytes (f c)) (log_bytes (map f calls)),
      first_fit f calls n,
    )
