-- What a record says of a name.
use Rattle.std.specs.Prelude.{Bool, cond, not, ◌&&◌, ◌||◌, Some, None, Option}
use Rattle.names.specs.Types.{Words, has, no_types}
use Rattle.names.specs.Wire.{Octets, Labels, same_octets}
use Rattle.model.specs.Chains.{Meaning, Record, lesser}

-- a place lies inside a record: between owner and next or, where the ring closes, after the owner or before the next
abbrev pub inside : Meaning → Record → Octets → Bool
inside o r p =
    cond (lesser o r.owner r.next) (lesser o r.owner p && lesser o p r.next) (lesser o r.owner p || lesser o p r.next)

abbrev pub is_owner : Meaning → Record → Labels → Bool
is_owner o r n = same_octets (o.place n) r.owner

-- with families: a place of the ring is below that of n
abbrev pub under : Meaning → Octets → Labels → Bool
under o p n = o.families && o.beneath p (o.place n)

-- the record shows that c stands and is no cut
abbrev pub encloses : Meaning → Record → Labels → Bool
encloses o r c =
    (is_owner o r c && (not (has r.types 2) || has r.types 6)) || (under o r.owner c || under o r.next c)

-- the record shows that n is not charted
abbrev pub excludes : Meaning → Record → Labels → Bool
excludes o r n = inside o r (o.place n) && not (under o r.next n)

-- the types that the record tells of m: those of its owner; with families none, where m only has names below it
abbrev pub tells : Meaning → Record → Labels → Option Words
tells o r m =
    cond (is_owner o r m) (Some r.types)
    (cond (inside o r (o.place m) && under o r.next m) (Some no_types) None)
