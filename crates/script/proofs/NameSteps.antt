-- The steps of the readers of names, as the code takes them.
use Rattle.std.proofs.Common.{◌≡◌, ℕ, ◌+◌, ◌-◌, ◌*◌, ◌<◌, ◌≤◌, Bool, true, false, cond, eqb, List, ◌&&◌, zero, suc, [], ◌∷◌, ◌++◌, length, get_or, take, drop, Some, None, Option, sym, refl, ap, ◌∙◌, arith}
use Rattle.std.proofs.lemmas.List.{append_assoc, take_rest, at_drop_more}
use Rattle.std.proofs.lemmas.Bool.Decides.{nat_tests}
use Rattle.std.proofs.lemmas.Bool.{false≢true}
use Rattle.std.proofs.lemmas.Option.{cond_some}
use Rattle.std.proofs.lemmas.Cmp.{nat_list_eq_equiv}
use Rattle.std.specs.Cmp.Lexicographic.{pointwise}
use Rattle.std.specs.Simd.{first_chunks}
use Rattle.names.specs.Wire.{Octets, Label}
use Rattle.script.specs.NameText.{before, read_hex, is_hex, hex_value, read_labels, is_octet3, decimal3, is_whole}

-- octets before octets before a rest
pub before_more : (v x : Octets) (o : Option Octets) → before (v ++ x) o ≡ before v (before x o)
before_more v x None = refl
before_more v x (Some t) = ap Some (append_assoc v x t)

pub before_nothing : (o : Option Octets) → before [] o ≡ o
before_nothing None = refl
before_nothing (Some t) = refl

-- a text that a comparison tells apart from another is not that other
pub differs : (s t : Octets) → false ≡ pointwise eqb s t → s ≡ t → ⊥
differs s t h e = false≢true ((rw e at h) ∙ nat_list_eq_equiv.refl t)

-- a test that was passed
pub passed : (b : Bool) (x y : ℕ) → Some x ≡ cond b (Some y) None → (b ≡ true) × (x ≡ y)
passed true x y e = (refl, cc)
passed false x y e = absurd (let z : ◌≡◌ {A = ℕ} 0 1 = cc in omega arith)

-- the octet that a pair of digits writes, and those that several write
abbrev pub hex_octet : Octets → Option ℕ
hex_octet p = cond (is_hex (get_or p 0 0) && is_hex (get_or p 1 0)) (Some (16 * hex_value (get_or p 0 0) + hex_value (get_or p 1 0))) None

abbrev pub octet_before : Option ℕ → Option Octets → Option Octets
octet_before None o = None
octet_before (Some x) o = before (x ∷ []) o

abbrev pub read_pairs : List Octets → Option Octets
read_pairs [] = Some []
read_pairs (p ∷ ps) = octet_before (hex_octet p) (read_pairs ps)

hex_first : (t : Bool) (x : ℕ) (o : Option Octets) → octet_before (cond t (Some x) None) o ≡ cond t (before (x ∷ []) o) None
hex_first true x o = refl
hex_first false x o = refl

pairs_whole : (k : ℕ) (s : Octets) → length s ≡ k * 2 → read_pairs (first_chunks 2 k s) ≡ read_hex s
pairs_whole zero [] h = refl
pairs_whole zero (x ∷ xs) h = absurd (omega arith)
pairs_whole (suc k) [] h = absurd (omega arith)
pairs_whole (suc k) (a ∷ []) h = absurd (omega arith)
pairs_whole (suc k) (a ∷ b ∷ t) h =
    hex_first (is_hex a && is_hex b) (16 * hex_value a + hex_value b) (read_pairs (first_chunks 2 k t))
    ∙ ap (λ o. cond (is_hex a && is_hex b) (before ((16 * hex_value a + hex_value b) ∷ []) o) None) (pairs_whole k t (omega arith))

-- the pairs that are left: all, behind one more, and where the next writes nothing
pub pairs_none : (k : ℕ) (s v : Octets) (ps : List Octets) → v ≡ [] → ps ≡ first_chunks 2 k s → length s ≡ k * 2 → before v (read_pairs ps) ≡ read_hex s
pairs_none k s v ps e f h = rw (e, f) (before_nothing (read_pairs (first_chunks 2 k s)) ∙ pairs_whole k s h)

pub pairs_more : (ps : List Octets) (i x : ℕ) (v w : Octets) → i < length ps → Some x ≡ hex_octet (get_or ps i []) → w ≡ v ++ x ∷ [] → before w (read_pairs (drop (i + 1) ps)) ≡ before v (read_pairs (drop i ps))
pairs_more ps i x v w h p e =
    let d = at_drop_more read_pairs ps i [] h ∙ ap (λ o. octet_before o (read_pairs (drop (i + 1) ps))) (sym p) in
    rw (e, d) (before_more v (x ∷ []) (read_pairs (drop (i + 1) ps)))

pub pairs_fail : (ps : List Octets) (i : ℕ) (v : Octets) → i < length ps → None ≡ hex_octet (get_or ps i []) → before v (read_pairs (drop i ps)) ≡ None
pairs_fail ps i v h p = rw (at_drop_more read_pairs ps i [] h ∙ ap (λ o. octet_before o (read_pairs (drop (i + 1) ps))) (sym p))

-- an odd digit stands for nothing
pub odd_hex : (k : ℕ) (s : Octets) → length s ≡ k * 2 + 1 → read_hex s ≡ None
odd_hex zero [] h = absurd (omega arith)
odd_hex zero (a ∷ []) h = refl
odd_hex zero (a ∷ b ∷ t) h = absurd (omega arith)
odd_hex (suc k) [] h = absurd (omega arith)
odd_hex (suc k) (a ∷ []) h = absurd (omega arith)
odd_hex (suc k) (a ∷ b ∷ t) h = let ih = odd_hex k t (omega arith) in grind arith

dot_first : (s v : Octets) (l : Label) → 0 < length s → get_or s 0 0 ≡ 46 → is_whole l ≡ true → before v (before (length l ∷ l) (read_labels [] (drop 1 s))) ≡ before v (read_labels l s)
dot_first [] v l h d w = absurd (omega arith)
dot_first (x ∷ xs) v l h d w = let e : eqb x 46 ≡ true = grind (arith, nat_tests) in rw (e, w)

-- a dot ends a label
pub dot_step : (s v w : Octets) (l m : Label) → 0 < length s → get_or s 0 0 ≡ 46 → cond (is_whole l) (Some (v ++ length l ∷ l)) None ≡ Some w → m ≡ [] → before w (read_labels m (take (length s - 1) (drop 1 s))) ≡ before v (read_labels l s)
dot_step s v w l m h d p z =
    let i = cond_some (is_whole l) (v ++ length l ∷ l) w p in
    rw (z, ← i.1, take_rest s 1, before_more v (length l ∷ l) (read_labels [] (drop 1 s))) (dot_first s v l h d i.0)

escape_four : (s : Octets) (l : Label) → 4 ≤ length s → get_or s 0 0 ≡ 92 → read_labels l s ≡ cond (is_octet3 (get_or s 1 0) (get_or s 2 0) (get_or s 3 0)) (read_labels (l ++ decimal3 (get_or s 1 0) (get_or s 2 0) (get_or s 3 0) ∷ []) (drop 4 s)) None
escape_four [] l h d = absurd (omega arith)
escape_four (x ∷ []) l h d = absurd (omega arith)
escape_four (x ∷ a ∷ []) l h d = absurd (omega arith)
escape_four (x ∷ a ∷ b ∷ []) l h d = absurd (omega arith)
escape_four (x ∷ a ∷ b ∷ c ∷ cs) l h d =
    let e : eqb x 46 ≡ false = grind (arith, nat_tests) in
    let f : eqb x 92 ≡ true = grind (arith, nat_tests) in
    rw (e, f)

-- a `\` with three digits gives an octet
pub escape_step : (s v : Octets) (l m : Label) (x : ℕ) → 4 ≤ length s → get_or s 0 0 ≡ 92 → Some x ≡ cond (is_octet3 (get_or s 1 0) (get_or s 2 0) (get_or s 3 0)) (Some (decimal3 (get_or s 1 0) (get_or s 2 0) (get_or s 3 0))) None → m ≡ l ++ x ∷ [] → before v (read_labels m (take (length s - 4) (drop 4 s))) ≡ before v (read_labels l s)
escape_step s v l m x h d p q =
    let i = passed (is_octet3 (get_or s 1 0) (get_or s 2 0) (get_or s 3 0)) x (decimal3 (get_or s 1 0) (get_or s 2 0) (get_or s 3 0)) p in
    rw (q, i.1, take_rest s 4) (ap (before v) (sym (escape_four s l h d ∙ rw i.0)))
