-- The octets of digests.
use Rattle.std.specs.Prelude.{◌≡◌, ℕ, zero, suc, ◌/◌, ◌%◌, ◌<◌, List, [], ◌∷◌, ◌++◌, length, sum, slice_index, slice_index_or, refl}
use Rattle.std.proofs.Common.{lit<}
use Rattle.std.proofs.Math.Nat.{mod-lt}
use Rattle.digests.specs.Sums.{byte_sum}
use Rattle.digests.specs.declared.sha1.rounds.State.{State}
use Rattle.digests.specs.Sha.{word, ended, sha1, run, initial, padded}

pub sha1_length : (xs : List ℕ) → length (sha1 xs) ≡ 20
unfolding sha1
sha1_length xs = refl

is_octet : (x : ℕ) → x % 256 < 256
is_octet x = mod-lt x (lit< tt)

-- where an octet and the octets behind it are below 256, all are
octet_behind : (x : ℕ) (xs : List ℕ) → x < 256 → ((i : ℕ) → slice_index xs i < 256) → (i : ℕ) → slice_index (x ∷ xs) i < 256
octet_behind x xs h f zero = h
octet_behind x xs h f (suc i) = f i

none : (i : ℕ) → slice_index_or {A = ℕ} [] i 0 < 256
none i = lit< tt

word_behind : (x : ℕ) (xs : List ℕ) → ((i : ℕ) → slice_index xs i < 256) → (i : ℕ) → slice_index (word x ++ xs) i < 256
word_behind x xs f =
    let o3 = octet_behind (x % 256) xs (is_octet x) f in
    let o2 = octet_behind (x / 256 % 256) (x % 256 ∷ xs) (is_octet (x / 256)) o3 in
    let o1 = octet_behind (x / 65536 % 256) (x / 256 % 256 ∷ x % 256 ∷ xs) (is_octet (x / 65536)) o2 in
    octet_behind (x / 16777216 % 256) (x / 65536 % 256 ∷ x / 256 % 256 ∷ x % 256 ∷ xs) (is_octet (x / 16777216)) o1

ended_octets : (s : State) (i : ℕ) → slice_index (ended s) i < 256
ended_octets s =
    let e = word_behind s.e [] none in
    let d = word_behind s.d (word s.e) e in
    let c = word_behind s.c (word s.d ++ word s.e) d in
    let b = word_behind s.b (word s.c ++ (word s.d ++ word s.e)) c in
    word_behind s.a (word s.b ++ (word s.c ++ (word s.d ++ word s.e))) b

pub sha1_octets : (xs : List ℕ) (i : ℕ) → slice_index (sha1 xs) i < 256
unfolding sha1
sha1_octets xs = ended_octets (run initial (padded xs))

pub sum_octets : (xs : List ℕ) (i : ℕ) → slice_index (byte_sum xs) i < 256
sum_octets xs = octet_behind (sum xs % 256) [] (is_octet (sum xs)) none
