-- The refusals: their numbers, and the one that comes before all others.
use Rattle.std.specs.Prelude.{ℕ, List, cond, Err, Result, codes}
use Rattle.names.specs.Wire.{Octets, Labels, is_name, labels_of}
use Rattle.names.specs.declared.refusal.Refusal.{Refusal}
use Rattle.names.specs.declared.refusal.Refusal.TheVariants.{
  NoName,
  OutsideZone,
  TypesNotAllowed,
  Held,
  NotHeld,
  IsApex,
  CrossesCut,
  BookFull,
  SharedPlace,
  TooFewSlots,
  SettingNotAllowed,
  NotAskedType,
  NotSealed,
  DsAtApex,
  PlaceTaken,
  ListTooShort,
  ClaimNotAllowed,
  RecordsNotAllowed,
  NoEncloser,
  NextCloserNotExcluded,
  WildcardNotExcluded,
  TypesNotTold,
  ToldOtherwise,
}

-- the number by which a host knows a refusal
abbrev pub number : Refusal → ℕ
number NoName = 1
number OutsideZone = 2
number TypesNotAllowed = 3
number Held = 4
number NotHeld = 5
number IsApex = 6
number CrossesCut = 7
number BookFull = 8
number (SharedPlace i j) = 9
number TooFewSlots = 10
number SettingNotAllowed = 11
number NotAskedType = 12
number NotSealed = 13
number DsAtApex = 14
number (PlaceTaken i) = 15
number ListTooShort = 16
number ClaimNotAllowed = 17
number RecordsNotAllowed = 18
number NoEncloser = 19
number NextCloserNotExcluded = 20
number WildcardNotExcluded = 21
number TypesNotTold = 22
number ToldOtherwise = 23

-- what is printed of a refusal
abbrev pub refusal_text : Refusal → List ℕ
refusal_text NoName = codes "no name"
refusal_text OutsideZone = codes "not at or below the apex"
refusal_text TypesNotAllowed = codes "types that the name may not hold"
refusal_text Held = codes "held already"
refusal_text NotHeld = codes "not held"
refusal_text IsApex = codes "the apex"
refusal_text CrossesCut = codes "below a zone cut, or a zone cut above a held name"
refusal_text BookFull = codes "no room in the book"
refusal_text (SharedPlace i j) = codes "two names with one place"
refusal_text TooFewSlots = codes "fewer record slots than records"
refusal_text SettingNotAllowed = codes "a setting that is not allowed"
refusal_text NotAskedType = codes "a type that may not be asked for"
refusal_text NotSealed = codes "not sealed"
refusal_text DsAtApex = codes "type DS at the apex"
refusal_text (PlaceTaken i) = codes "a name to exclude has the place of a record"
refusal_text ListTooShort = codes "an answer list under three records"
refusal_text ClaimNotAllowed = codes "no such claim, or a label count out of range"
refusal_text RecordsNotAllowed = codes "records that are not allowed"
refusal_text NoEncloser = codes "no record encloses an ancestor"
refusal_text NextCloserNotExcluded = codes "the next closer name is not excluded"
refusal_text WildcardNotExcluded = codes "the wildcard is not excluded"
refusal_text TypesNotTold = codes "the types are not told"
refusal_text ToldOtherwise = codes "the types told say otherwise"

-- the answer of a call that is given octets: what is no name is refused before all else
abbrev pub of_name : {X : Type 0} → Octets → (Labels → Result X Refusal) → Result X Refusal
of_name s answer = cond (is_name s) (answer (labels_of s)) (Err NoName)
