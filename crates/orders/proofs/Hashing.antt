-- Iterated digests, step by step.
use Rattle.std.specs.Prelude.{◌≡◌, ℕ, ◌+◌, ◌++◌, length, take, drop, refl}
use Rattle.std.proofs.Common.{sym, ap, ap₂, ◌∙◌}
use Rattle.std.proofs.Math.Numerals.{unary_clauses}
use Rattle.std.proofs.lemmas.List.{take_at, drop_at}
use Rattle.names.specs.Wire.{Octets}
use Rattle.orders.specs.Hashes.{iterated_length}
use Rattle.orders.specs.Places.{iterated}

-- one step more
pub record Step (hash : Octets → Octets) (w : ℕ) (salt x before : Octets) (k : ℕ) (out : Octets) : Type 0 where
  pub front : take w out ≡ iterated hash salt x k
  pub all : out ≡ iterated hash salt x k ++ drop w before

-- what lies past a digest stays
pub rest_stays : (hash : Octets → Octets) (w : ℕ) → ((xs : Octets) → length (hash xs) ≡ w) → (y before out : Octets) → out ≡ hash y ++ drop w before → drop w out ≡ drop w before
rest_stays hash w e y before out h = ap (drop w) h ∙ drop_at (hash y) (drop w before) w (e y)

pub step_more : (hash : Octets → Octets) (w : ℕ) → ((xs : Octets) → length (hash xs) ≡ w) → (salt s x before : Octets) (k n : ℕ) (last out : Octets) → s ≡ salt → n ≡ w → Step hash w salt x before k last → out ≡ hash (take n last ++ s) ++ drop w last → Step hash w salt x before (k + 1) out
step_more hash w e salt s x before k n last out i j h g =
    let f : take n last ≡ iterated hash salt x k = ap (λ z. take z last) j ∙ h.front in
    let d : drop w last ≡ drop w before = ap (drop w) h.all ∙ drop_at (iterated hash salt x k) (drop w before) w (iterated_length hash w e salt x k) in
    let u : iterated hash salt x (k + 1) ≡ hash (iterated hash salt x k ++ salt) = simp unary_clauses refl in
    let a : out ≡ iterated hash salt x (k + 1) ++ drop w before = g ∙ ap₂ (λ y z. hash (y ++ z) ++ drop w last) f i ∙ ap₂ (λ y z. y ++ z) (sym u) d in
    record { front = ap (take w) a ∙ take_at (iterated hash salt x (k + 1)) (drop w before) w (iterated_length hash w e salt x (k + 1)); all = a }
