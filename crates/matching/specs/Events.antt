-- An event of the code as its words.
use Rattle.std.specs.Prelude.{List, [], ◌∷◌, ℕ}
use Rattle.matching.specs.declared.Event.{Event}

abbrev pub words_of : Event → List ℕ
words_of e = e.kind ∷ e.thread ∷ e.number ∷ e.value ∷ []
