-- Rounds of one kind, and windows of the schedule: how the code goes about SHA-1.
use Rattle.std.specs.Prelude.{ℕ, List, drop}
use Rattle.std.specs.List.{fold}
use Rattle.digests.specs.declared.sha1.rounds.State.{State}
use Rattle.digests.specs.Sha.{add, rotl, ch, parity, maj, schedule, words_at, compressed}

-- a round, of which f is the function's value and k the constant
abbrev pub turned : ℕ → ℕ → State → ℕ → State
turned k f s w = record {
  a = add (add (add (add (rotl 5 s.a) f) s.e) k) w;
  b = s.a;
  c = rotl 30 s.b;
  d = s.c;
  e = s.d;
}

-- the rounds with Ch, with Parity and with Maj
abbrev pub choosing : State → ℕ → State
choosing s w = turned 0x5a827999 (ch s.b s.c s.d) s w

abbrev pub parting : ℕ → State → ℕ → State
parting k s w = turned k (parity s.b s.c s.d) s w

abbrev pub majoring : State → ℕ → State
majoring s w = turned 0x8f1bbcdc (maj s.b s.c s.d) s w

-- the 16 words of a schedule after 16 others
abbrev pub window : List ℕ → List ℕ
window w = drop 16 (schedule w 16)

-- the hash value s after blocks of 64 octets
abbrev pub absorbed : State → List (List ℕ) → State
absorbed s blocks = fold (λ x b. compressed x (words_at b 0)) s blocks
