-- Names. A name is a list of labels, the leftmost first, each a list of octets in lower case;
-- the root is the empty list. `wire` and `parse` go between names and octets.
use Rattle.std.specs.Prelude.{◌≡◌, ℕ, zero, suc, ◌+◌, ◌-◌, Bool, true, false, cond, ◌&&◌, List, [], ◌∷◌, ◌++◌, length, take, drop, Some, None, Option, ◌==◌, nat_eq, nat_le}
use Rattle.std.specs.Cmp.Lexicographic.{pointwise}
use Rattle.std.specs.List.{list_all}

abbrev pub Octets : Type 0
Octets = List ℕ

abbrev pub Label : Type 0
Label = List ℕ

abbrev pub Labels : Type 0
Labels = List (List ℕ)

-- two octet strings are the same
abbrev pub same_octets : Octets → Octets → Bool
same_octets a b = pointwise nat_eq a b

-- octets 65 to 90, the letters A to Z, count as 97 to 122
abbrev pub lower : ℕ → ℕ
lower x = cond (nat_le 65 x && nat_le x 90) (x + 32) x

-- the wire form: each label behind its length, then one octet 0
abbrev pub wire : Labels → Octets
wire [] = 0 ∷ []
wire (l ∷ ls) = length l ∷ (l ++ wire ls)

abbrev pub none : {X : Type 0} → List X → Bool
none [] = true
none (x ∷ xs) = false

-- whether the octets end a wire form in which k octets of a label are still to come:
-- labels of 1 to 63 octets, one octet 0 and nothing after it
abbrev pub ends : ℕ → Octets → Bool
ends zero [] = false
ends (suc k) [] = false
ends zero (x ∷ xs) = cond (x == 0) (none xs) (nat_le x 63 && ends x xs)
ends (suc k) (x ∷ xs) = ends k xs

-- exactly the octet strings that are names
unfoldable pub is_name : Octets → Bool
is_name s = nat_le (length s) 255 && ends 0 s

-- a whole label stands behind the length octet x
abbrev pub whole : ℕ → Octets → Bool
whole x xs = nat_le 1 x && (nat_le x 63 && nat_le x (length xs))

-- what is left of a label of which k octets are still to come, and the labels after it, in lower case
abbrev pub split : ℕ → Octets → Label × Labels
split zero [] = ([], [])
split (suc k) [] = ([], [])
split zero (x ∷ xs) = ([], cond (whole x xs) ((split x xs).0 ∷ (split x xs).1) [])
split (suc k) (x ∷ xs) = (lower x ∷ (split k xs).0, (split k xs).1)

-- the labels of a name; of other octets, those that stand whole at their front
unfoldable pub labels_of : Octets → Labels
labels_of s = (split 0 s).1

-- the name that the octets are, or none
abbrev pub parse : Octets → Option Labels
parse s = cond (is_name s) (Some (labels_of s)) None

-- no octet is a letter in upper case
abbrev pub lower_octets : Octets → Bool
lower_octets s = list_all (λ x. lower x == x) s

-- a label of a name: 1 to 63 octets, in lower case
abbrev pub is_label : Label → Bool
is_label l = nat_le 1 (length l) && (nat_le (length l) 63 && lower_octets l)

abbrev pub are_labels : Labels → Bool
are_labels [] = true
are_labels (l ∷ ls) = is_label l && are_labels ls

-- the lists of labels that are names
unfoldable pub is_labels : Labels → Bool
is_labels n = nat_le (length (wire n)) 255 && are_labels n

-- a buffer after some octets were written to its front: what lies past them stays
abbrev pub written : Octets → Octets → Octets
written s buffer = s ++ drop (length s) buffer

-- the first label of a wire form, as it stands there, and the octets after it
abbrev pub first_label : Octets → Option (Octets × Octets)
first_label [] = None
first_label (x ∷ xs) = cond (whole x xs) (Some (take x xs, drop x xs)) None

-- the octets after the first label
abbrev pub after_label : Octets → Octets
after_label [] = []
after_label (x ∷ xs) = drop x xs

-- the octets after the first k labels
abbrev pub after_labels : ℕ → Octets → Octets
after_labels zero s = s
after_labels (suc k) s = after_labels k (after_label s)

-- the name without its first label; the root has no parent
abbrev pub parent_of : Labels → Option Labels
parent_of [] = None
parent_of (l ∷ ls) = Some ls

-- the name's ancestor with k labels, or the name itself where it has as many
abbrev pub ancestor_of : ℕ → Labels → Option Labels
ancestor_of k n = cond (nat_le k (length n)) (Some (drop (length n - k) n)) None

-- the label `*`
abbrev pub star : Label
star = 42 ∷ []

-- the name with the label `*` before it
abbrev pub star_name : Labels → Labels
star_name n = star ∷ n

-- some octets were written to a buffer's front, and their number was answered
pub record Wrote (s before : Octets) (answer : ℕ) (after : Octets) : Type 0 where
  pub count : answer ≡ length s
  pub buffer : after ≡ written s before

-- the star name of n was written to a buffer's front, and the number of its octets answered; or, where it is no name
-- since it would have over 255 octets, nothing
pub record WroteStar (n : Labels) (before : Octets) (answer : Option ℕ) (after : Octets) : Type 0 where
  pub count : answer ≡ cond (nat_le (length (wire (star_name n))) 255) (Some (length (wire (star_name n)))) None
  pub buffer : after ≡ cond (nat_le (length (wire (star_name n))) 255) (written (wire (star_name n)) before) before
