-- The laws of names' equality and order, whatever the labels are read from.
use Rattle.std.specs.Prelude.{◌≡◌, true, Some, reverse}
use Rattle.std.specs.Cmp.Lexicographic.{pointwise_decides, bytes_decides, lists_equiv, lists_total, lists_ties}
use Rattle.std.specs.Cmp.{IsEquivalence, IsPartialOrder, IsTotalOrder, nat_cmp_total, nat_eq_equiv, unsigned_ties, both_ways, on_equiv, on_total, partial_order_from_agreeing_total}
use Rattle.std.specs.Ordering.{nat_cmp, is_eq}
use Rattle.std.proofs.Common.{refl, sym, ap, ◌∙◌}
use Rattle.std.proofs.lemmas.List.{reverse-reverse}
use Rattle.names.specs.Canonical.{by_octets, canonical, same_name}
use Rattle.names.specs.Wire.{Octets, Labels, same_octets}

-- the tests of sameness decide equality
pub octets_decide : (a b : Octets) → (same_octets a b ≡ true → a ≡ b) × (a ≡ b → same_octets a b ≡ true)
octets_decide = bytes_decides

pub names_decide : (n m : Labels) → (same_name n m ≡ true → n ≡ m) × (n ≡ m → same_name n m ≡ true)
names_decide = pointwise_decides octets_decide

pub same_octets_equiv : {X : Type 0} (read : X → Octets) → IsEquivalence (λ a b. same_octets (read a) (read b))
same_octets_equiv read = on_equiv read (lists_equiv nat_eq_equiv)

pub same_name_equiv : {X : Type 0} (read : X → Labels) → IsEquivalence (λ a b. same_name (read a) (read b))
same_name_equiv read = on_equiv read (lists_equiv (lists_equiv nat_eq_equiv))

-- and they say when a comparison finds no difference
pub octets_ties : (a b : Octets) → same_octets a b ≡ is_eq (by_octets a b)
octets_ties = lists_ties nat_cmp unsigned_ties

pub reverse_same : (n m : Labels) → reverse n ≡ reverse m → n ≡ m
reverse_same n m e = sym (reverse-reverse n) ∙ ap reverse e ∙ reverse-reverse m

pub same_reverse : (n m : Labels) → same_name (reverse n) (reverse m) ≡ same_name n m
same_reverse n m =
    both_ways _ _
    (λ e. (names_decide n m).1 (reverse_same n m ((names_decide (reverse n) (reverse m)).0 e)))
    (λ e. (names_decide (reverse n) (reverse m)).1 (ap reverse ((names_decide n m).0 e)))

pub names_ties : (n m : Labels) → same_name n m ≡ is_eq (canonical n m)
unfolding canonical
names_ties n m = sym (same_reverse n m) ∙ lists_ties by_octets octets_ties (reverse n) (reverse m)

pub canonical_total_by : {X : Type 0} (read : X → Labels) → IsTotalOrder (λ a b. canonical (read a) (read b))
unfolding canonical
canonical_total_by read = on_total (λ a. reverse (read a)) (lists_total (lists_total nat_cmp_total))

pub canonical_partial : {X : Type 0} (read : X → Labels) → IsPartialOrder (λ a b. same_name (read a) (read b)) (λ a b. Some (canonical (read a) (read b)))
canonical_partial read =
    partial_order_from_agreeing_total (λ a b. canonical (read a) (read b)) (canonical_total_by read)
    (λ a b. refl)
    (λ a b. names_ties (read a) (read b))
