-- A history as words (document 01, "Judge"): an event is four words, kind, thread, call number, value.
use Rattle.std.specs.Prelude.{List, [], ◌∷◌, ◌++◌, ℕ}
use Rattle.history.specs.Event.{Event, History, enqueue_started, enqueue_ended, dequeue_started, gave_item, gave_empty}

abbrev pub encode : Event → List ℕ
encode (enqueue_started t n v) = 1 ∷ t ∷ n ∷ v ∷ []
encode (enqueue_ended t n v) = 2 ∷ t ∷ n ∷ v ∷ []
encode dequeue_started = 3 ∷ 0 ∷ 0 ∷ 0 ∷ []
encode (gave_item n v) = 4 ∷ 0 ∷ n ∷ v ∷ []
encode gave_empty = 5 ∷ 0 ∷ 0 ∷ 0 ∷ []

-- The words of a history, the oldest event first.
unfoldable pub words_of : History → List ℕ
words_of [] = []
words_of (e ∷ h) = words_of h ++ encode e
