-- SHA-1 of octets, as FIPS 180-4 defines it. A word is a number below 2 ^ 32.
use Rattle.std.specs.Prelude.{ℕ, zero, suc, ◌+◌, ◌-◌, ◌*◌, ◌/◌, ◌%◌, ◌^◌, cond, List, [], ◌∷◌, ◌++◌, map, length, replicate, bit_and, bit_or, bit_xor, nat_lt, slice_index}
use Rattle.digests.specs.declared.sha1.rounds.State.{State}
use Rattle.std.specs.List.{range_with_len}

-- section 3.2: the sum of two words, a word rotated to the left by k bits, its complement
abbrev pub add : ℕ → ℕ → ℕ
add x y = (x + y) % 2 ^ 32

abbrev pub rotl : ℕ → ℕ → ℕ
rotl k x = bit_or ((x * 2 ^ k) % 2 ^ 32) (x / 2 ^ (32 - k))

abbrev pub flip : ℕ → ℕ
flip x = 4294967295 - x

-- section 4.1.1: the functions Ch, Parity and Maj, and which of them round t takes
abbrev pub ch : ℕ → ℕ → ℕ → ℕ
ch x y z = bit_xor (bit_and x y) (bit_and (flip x) z)

abbrev pub parity : ℕ → ℕ → ℕ → ℕ
parity x y z = bit_xor (bit_xor x y) z

abbrev pub maj : ℕ → ℕ → ℕ → ℕ
maj x y z = bit_xor (bit_xor (bit_and x y) (bit_and x z)) (bit_and y z)

abbrev pub mix : ℕ → ℕ → ℕ → ℕ → ℕ
mix t x y z = cond (nat_lt t 20) (ch x y z) (cond (nat_lt t 40) (parity x y z) (cond (nat_lt t 60) (maj x y z) (parity x y z)))

-- section 4.2.1: the constant of round t
abbrev pub constant : ℕ → ℕ
constant t = cond (nat_lt t 20) 0x5a827999 (cond (nat_lt t 40) 0x6ed9eba1 (cond (nat_lt t 60) 0x8f1bbcdc 0xca62c1d6))

-- section 5.1.1, padding, for a message of n octets. Behind the message stand a bit 1 and seven zeros, the fewest zero
-- octets that leave 8 octets to the end of a block of 64 octets, and in these 8 the length in bits, the highest octet
-- first. From 2 ^ 61 octets on, where the standard says nothing, it is the length in bits mod 2 ^ 64.
abbrev pub zeros : ℕ → ℕ
zeros n = (119 - n % 64) % 64

abbrev pub long : ℕ → List ℕ
long x = (x / 72057594037927936 % 256) ∷ (x / 281474976710656 % 256) ∷ (x / 1099511627776 % 256) ∷ (x / 4294967296 % 256) ∷ (x / 16777216 % 256) ∷ (x / 65536 % 256) ∷ (x / 256 % 256) ∷ (x % 256) ∷ []

abbrev pub ending : ℕ → ℕ → List ℕ
ending n bits = 128 ∷ (replicate (zeros n) 0 ++ long bits)

abbrev pub padded : List ℕ → List ℕ
padded m = m ++ ending (length m) ((length m * 8) % 2 ^ 64)

-- section 5.2.1: the word at octet i, the highest octet first, and the 16 words of the block that begins at octet i
abbrev pub word_at : List ℕ → ℕ → ℕ
word_at xs i = slice_index xs i * 16777216 + slice_index xs (i + 1) * 65536 + slice_index xs (i + 2) * 256 + slice_index xs (i + 3)

unfoldable pub words_at : List ℕ → ℕ → List ℕ
words_at xs i = map (λ t. word_at xs (i + t * 4)) (range_with_len 0 16)

-- section 5.3.1: the initial hash value
abbrev pub initial : State
initial = record { a = 0x67452301; b = 0xefcdab89; c = 0x98badcfe; d = 0x10325476; e = 0xc3d2e1f0 }

-- section 6.1.2, step 1: word t of the schedule, from the words t - 3, t - 8, t - 14 and t - 16; t is 16 + i
abbrev pub next_word : List ℕ → ℕ → ℕ
next_word ws i = rotl 1 (bit_xor (bit_xor (bit_xor (slice_index ws (i + 13)) (slice_index ws (i + 8))) (slice_index ws (i + 2))) (slice_index ws i))

-- the words of a block, and n more
unfoldable pub schedule : List ℕ → ℕ → List ℕ
schedule ws zero = ws
schedule ws (suc n) = schedule ws n ++ (next_word (schedule ws n) n ∷ [])

-- step 3: round t, and the rounds from t on, one for each word
abbrev pub stepped : ℕ → State → ℕ → State
stepped t s w = record {
  a = add (add (add (add (rotl 5 s.a) (mix t s.b s.c s.d)) s.e) (constant t)) w;
  b = s.a;
  c = rotl 30 s.b;
  d = s.c;
  e = s.d;
}

abbrev pub rounds : ℕ → State → List ℕ → State
rounds t s [] = s
rounds t s (w ∷ ws) = rounds (t + 1) (stepped t s w) ws

-- step 4: the hash value after a block of 16 words
abbrev pub plus : State → State → State
plus s t = record { a = add s.a t.a; b = add s.b t.b; c = add s.c t.c; d = add s.d t.d; e = add s.e t.e }

abbrev pub compressed : State → List ℕ → State
compressed s block = plus s (rounds 0 s (schedule block 64))

-- the hash value s after the first k blocks of octets, and after all of them
abbrev pub after : State → List ℕ → ℕ → State
after s xs zero = s
after s xs (suc k) = compressed (after s xs k) (words_at xs (k * 64))

unfoldable pub run : State → List ℕ → State
run s xs = after s xs (length xs / 64)

-- the octets of a hash value
abbrev pub word : ℕ → List ℕ
word x = (x / 16777216 % 256) ∷ (x / 65536 % 256) ∷ (x / 256 % 256) ∷ (x % 256) ∷ []

abbrev pub ended : State → List ℕ
ended s = word s.a ++ (word s.b ++ (word s.c ++ (word s.d ++ word s.e)))

unfoldable pub sha1 : List ℕ → List ℕ
sha1 m = ended (run initial (padded m))
