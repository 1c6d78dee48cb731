-- The steps of the reader of lines.
use Rattle.std.proofs.Common.{◌≡◌, ℕ, suc, ◌<◌, true, false, eqb, ◌⊎◌, List, [], ◌∷◌, ◌++◌, length, get_or, drop, Some, None, Ok, Err, codes, Option, Result, unwrap_or, sym, refl, ap, ◌∙◌, ap₂, inl, inr, arith, Bor, lit<}
use Rattle.std.proofs.lemmas.Str.{encode_ascii}
use Rattle.std.proofs.lemmas.Str.Pattern.{IsSplitOnceResult, split_parts, drop_at_char}
use Rattle.std.specs.Option.{IfSome}
use Rattle.std.specs.Str.Pattern.{FindsCharPrefix, CutsPrefixes, IsTrimStartMatches}
use Rattle.std.proofs.lemmas.Bool.Decides.{nat_tests}
use Rattle.names.specs.Wire.{Octets, none}
use Rattle.names.specs.Types.{Words}
use Rattle.script.proofs.TypeSteps.{apart_from}
use Rattle.script.specs.NameText.{read_name}
use Rattle.script.specs.SetText.{read_set}
use Rattle.script.specs.declared.fault.Fault.{Fault}
use Rattle.script.specs.declared.fault.Fault.TheVariants.{NoMemory, NotACommand, NotTypes}
use Rattle.script.specs.Lines.{up_to, past, next_word, Said, name, both, two_words, name_line, command, read_line}

-- c is not among the characters
abbrev pub Without : ℕ → Octets → Type 0
Without c p = (i : ℕ) → i < length p → get_or p i 0 ≡ c → ⊥

pub up_to_mark : (c : ℕ) (p r : Octets) → Without c p → (up_to c (p ++ c ∷ r) ≡ p) × (past c (p ++ c ∷ r) ≡ r)
up_to_mark c [] r n = (grind (arith, nat_tests), grind (arith, nat_tests))
up_to_mark c (x ∷ xs) r n =
    let ih = up_to_mark c xs r (λ i h. n (suc i) (omega arith)) in
    let d = n 0 (omega arith) in
    (let a = ih.0 in grind (arith, nat_tests), let b = ih.1 in grind (arith, nat_tests))

pub no_mark : (c : ℕ) (p : Octets) → Without c p → (up_to c p ≡ p) × (past c p ≡ [])
no_mark c [] n = (refl, refl)
no_mark c (x ∷ xs) n =
    let ih = no_mark c xs (λ i h. n (suc i) (omega arith)) in
    let d = n 0 (omega arith) in
    (let a = ih.0 in grind (arith, nat_tests), let b = ih.1 in grind (arith, nat_tests))

-- what follows a mark is shorter than the text
pub past_shorter : (c : ℕ) (s : Octets) → 0 < length s → length (past c s) < length s
past_shorter c [] h = absurd (omega arith)
past_shorter c (x ∷ []) h = grind arith
past_shorter c (x ∷ (y ∷ ys)) h = let ih = past_shorter c (y ∷ ys) (omega arith) in grind arith

-- the parts that a text is cut into at a mark, or the whole text where it has none
pub cut_parts : (c : ℕ) (s : Octets) (r : Option (Bor Octets × Bor Octets)) (d x : Bor Octets × Bor Octets) → IsSplitOnceResult c s r → c < 128 → d.0.now ≡ s → d.1.now ≡ [] → x ≡ unwrap_or r d → (x.0.now ≡ up_to c s) × (x.1.now ≡ past c s)
cut_parts c s None d x h k e f g =
    let n = no_mark c s (split_parts c s None h k) in
    rw g (e ∙ sym n.0, f ∙ sym n.1)
cut_parts c s (Some y) d x h k e f g =
    let p = split_parts c s (Some y) h k in
    let m = up_to_mark c y.0.now y.1.now p.1 in
    rw (g, p.0) (sym m.0, sym m.1)

-- spaces cut off the front of a text
spaces_cut : (s : Octets) (ns : List ℕ) (r : Octets) → CutsPrefixes (FindsCharPrefix 32) s ns r → next_word s ≡ next_word r
spaces_cut s [] r e = ap next_word (sym e)
spaces_cut s (n ∷ ns) r (m, h, p, e) = spaces_cut s ns m h ∙ ap next_word (drop_at_char 32 m 0 n p (lit< tt)) ∙ ap next_word (sym e)

-- a text that begins with no space begins with its first word
first_word : (s : Octets) → ((rest : Octets) → s ≡ 32 ∷ rest → ⊥) → next_word s ≡ (up_to 32 s, past 32 s)
first_word [] h = refl
first_word (x ∷ xs) h = let n : x ≡ 32 → ⊥ = λ e. h xs (ap (λ y. y ∷ xs) e) in grind (arith, nat_tests)

-- no space is left at the front of a trimmed text
no_space : (s : Octets) (o : Option ℕ) → FindsCharPrefix 32 s o → IfSome o (λ n. n ≡ 0) → (rest : Octets) → s ≡ 32 ∷ rest → ⊥
no_space s None h z rest e = h rest (e ∙ ap (λ t. t ++ rest) (sym (encode_ascii 32 (lit< tt))))
no_space s (Some n) h z rest e =
    let d : s ≡ 32 ∷ s = drop_at_char 32 s 0 n h (lit< tt) ∙ ap (λ k. 32 ∷ drop k s) z in
    omega (arith, ap length d)

pub none_length : (s : Octets) → none s ≡ eqb (length s) 0
none_length [] = refl
none_length (x ∷ xs) = grind (arith, nat_tests)

-- the first word of a text whose front has been trimmed
pub word_trimmed : (s t word tail : Octets) → IsTrimStartMatches (FindsCharPrefix 32) s t → word ≡ up_to 32 t → tail ≡ past 32 t → (word, tail) ≡ next_word s
word_trimmed s t word tail ((ns, cuts), (o, finds, none)) before after =
    let f = first_word t (no_space t o finds none) in
    let g = spaces_cut s ns t cuts in
    cc

-- the words of a line with `name`
pub name_words : (s n r t q m z : Octets) → (n, r) ≡ next_word s → (t, q) ≡ next_word r → (m, z) ≡ next_word q → name_line s ≡ two_words n t m
name_words s n r t q m z e f g = rw (← e, ← f, ← g)

pub line_words : (s c w r : Octets) → c ≡ up_to 35 s → (w, r) ≡ next_word c → read_line s ≡ command w r
line_words s c w r e f = rw (← e, ← f)

pub words_two : (n t m : Octets) → false ≡ eqb (length t) 0 → true ≡ eqb (length m) 0 → two_words n t m ≡ both (read_name n) (read_set t)
words_two n t m e f = let a = none_length t in let b = none_length m in grind arith

pub types_fault : (x : Result Said Fault) (e : Fault) (o : Option Octets) (w : Option Words) (s : Octets) → x ≡ both o w → o ≡ Some s → (e ≡ NoMemory) ⊎ ((e ≡ NotTypes) × (w ≡ None)) → (e ≡ NoMemory) ⊎ (x ≡ Err e)
types_fault x e o w s h k (inl m) = inl m
types_fault x e o w s h k (inr p) = inr (h ∙ ap₂ both k p.1 ∙ ap Err (sym p.0))

pub both_read : (x : Result Said Fault) (o : Option Octets) (w : Option Words) (s : Octets) (v : Words) → x ≡ both o w → o ≡ Some s → w ≡ Some v → x ≡ Ok (name s v)
both_read x o w s v h k l = h ∙ ap₂ both k l

pub no_command : (w r : Octets) → (w ≡ [] → ⊥) → (w ≡ codes "list" → ⊥) → (w ≡ codes "name" → ⊥) → command w r ≡ Err NotACommand
no_command [] r e f g = absurd (e refl)
no_command (x ∷ xs) r e f g = rw (apart_from (x ∷ xs) (codes "list") f, apart_from (x ∷ xs) (codes "name") g)
