-- What a book of the root alone holds.
use Rattle.std.specs.Prelude.{◌≡◌, true, [], ◌∷◌, Some, None, Option, refl}
use Rattle.names.specs.TypeView.{words}
use Rattle.names.specs.Wire.{is_labels}
use Rattle.names.specs.declared.types.TypeSet.{TypeSet}
use Rattle.books.specs.Held.{Held, rises}

-- the root with its types, if it is held
abbrev pub root_held : Option TypeSet → Held
root_held None = []
root_held (Some types) = ([], words types) ∷ []

pub root_rises : (o : Option TypeSet) → rises (root_held o) ≡ true
unfolding is_labels
root_rises None = refl
root_rises (Some types) = refl
