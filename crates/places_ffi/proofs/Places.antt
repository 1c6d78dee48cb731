-- Places under the salted order that a call makes.
use Rattle.std.proofs.Common.{◌≡◌, ℕ, zero, suc, Bool, true, false, cond, ◌&&◌, length, Ok, Err, Result, refl, ap, ◌∙◌, ap₂, arith}
use Rattle.digests.specs.Sha.{sha1}
use Rattle.names.specs.Refusals.{of_name}
use Rattle.names.specs.Wire.{Octets, is_name, labels_of, wire}
use Rattle.names.specs.declared.refusal.Refusal.{Refusal}
use Rattle.names.specs.declared.refusal.Refusal.TheVariants.{NoName}
use Rattle.orders.specs.Places.{iterated, place_written}
use Rattle.orders.specs.Salts.{allowed, made_of}
use Rattle.std.proofs.lemmas.Bool.{cases_Bool}
use Rattle.std.proofs.lemmas.Bool.Decides.{nat_tests}
use Rattle.std.specs.Result.{result_unwrap_or}

sha1_length : (xs : Octets) → length (sha1 xs) ≡ 20
unfolding sha1
sha1_length xs = refl

place_length : (salt x : Octets) (k : ℕ) → length (iterated sha1 salt x k) ≡ 20
place_length salt x zero = sha1_length _
place_length salt x (suc k) = sha1_length _

-- an order that was made has the salt and the further iterations that were asked for, and these were allowed
pub made : {D : Type 0} (d e : D) (salt s : Octets) (k i : ℕ) → Ok (e, (s, i)) ≡ made_of d salt k → (allowed salt k ≡ true) × (s ≡ salt) × (i ≡ k)
made d e salt s k i h =
    let a : allowed salt k ≡ true = (let c = cases_Bool (allowed salt k) in grind (arith, nat_tests)) in
    let p = ap (λ r. result_unwrap_or r (d, (salt, k))) (rw a at h) in
    (a, ap (λ y. y.1.0) p, ap (λ y. y.1.1) p)

counted : (b : Bool) (n : ℕ) → n ≡ 20 → result_unwrap_or (cond b (Ok n) (Err NoName)) 0 ≡ cond b 20 0
counted true n h = h
counted false n h = refl

-- what place_sha1 answers and leaves in its buffer
pub record Told (salt name : Octets) (k answer : ℕ) (before after : Octets) : Type 0 where
  pub value : answer ≡ cond (allowed salt k && is_name name) 20 0
  pub buffer : after ≡ cond (allowed salt k) (place_written (λ n. iterated sha1 salt (wire n) k) name before) before

pub told : (salt s name : Octets) (k i answer : ℕ) (before after : Octets) (r : Result ℕ Refusal)
    → (allowed salt k ≡ true) × (s ≡ salt) × (i ≡ k)
    → r ≡ of_name name (λ n. Ok (length (iterated sha1 s (wire n) i)))
    → answer ≡ result_unwrap_or r 0
    → after ≡ place_written (λ n. iterated sha1 s (wire n) i) name before
    → Told salt name k answer before after
told salt s name k i answer before after r m e f h =
    let a = m.0 in
    record {
      value = rw a (f ∙ ap (λ y. result_unwrap_or y 0) e ∙ counted (is_name name) _ (place_length s (wire (labels_of name)) i));
      buffer = rw a (h ∙ ap₂ (λ y z. place_written (λ n. iterated sha1 y (wire n) z) name before) m.1 m.2);
    }
