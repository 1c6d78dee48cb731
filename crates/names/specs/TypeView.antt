-- What a set of types holds.
use Rattle.std.specs.Prelude.{ℕ, List}
use Rattle.names.specs.declared.types.TypeSet.{TypeSet}

-- the words of a set, the first types first
abbrev pub words : TypeSet → List ℕ
words s = s.words
