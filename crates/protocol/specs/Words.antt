-- The fixed byte strings of the program's input and output (document 01, "Program").
use Rattle.std.specs.Prelude.{List, [], ◌∷◌, ℕ}

abbrev pub space : ℕ
space = 32

abbrev pub newline : ℕ
newline = 10

-- Input words, with the space that follows where numbers do: "open ", "e ", "d", "s ".
abbrev pub open_word : List ℕ
open_word = 111 ∷ 112 ∷ 101 ∷ 110 ∷ space ∷ []

abbrev pub enqueue_word : List ℕ
enqueue_word = 101 ∷ space ∷ []

abbrev pub dequeue_word : List ℕ
dequeue_word = 100 ∷ []

abbrev pub step_word : List ℕ
step_word = 115 ∷ space ∷ []

-- Reply words, with the newline or the space that follows: "ok", "ok ", "going", "end ", "empty ", "item ", "refused ".
abbrev pub ok_line : List ℕ
ok_line = 111 ∷ 107 ∷ newline ∷ []

abbrev pub ok_word : List ℕ
ok_word = 111 ∷ 107 ∷ space ∷ []

abbrev pub going_line : List ℕ
going_line = 103 ∷ 111 ∷ 105 ∷ 110 ∷ 103 ∷ newline ∷ []

abbrev pub end_word : List ℕ
end_word = 101 ∷ 110 ∷ 100 ∷ space ∷ []

abbrev pub empty_word : List ℕ
empty_word = 101 ∷ 109 ∷ 112 ∷ 116 ∷ 121 ∷ space ∷ []

abbrev pub item_word : List ℕ
item_word = 105 ∷ 116 ∷ 101 ∷ 109 ∷ space ∷ []

abbrev pub refused_word : List ℕ
refused_word = 114 ∷ 101 ∷ 102 ∷ 117 ∷ 115 ∷ 101 ∷ 100 ∷ space ∷ []

-- What ends the output: "bad line", "bad line ", "too long", "explained", "unexplained".
abbrev pub bad_line : List ℕ
bad_line = 98 ∷ 97 ∷ 100 ∷ space ∷ 108 ∷ 105 ∷ 110 ∷ 101 ∷ newline ∷ []

abbrev pub bad_line_word : List ℕ
bad_line_word = 98 ∷ 97 ∷ 100 ∷ space ∷ 108 ∷ 105 ∷ 110 ∷ 101 ∷ space ∷ []

abbrev pub too_long_line : List ℕ
too_long_line = 116 ∷ 111 ∷ 111 ∷ space ∷ 108 ∷ 111 ∷ 110 ∷ 103 ∷ newline ∷ []

abbrev pub explained_line : List ℕ
explained_line = 101 ∷ 120 ∷ 112 ∷ 108 ∷ 97 ∷ 105 ∷ 110 ∷ 101 ∷ 100 ∷ newline ∷ []

abbrev pub unexplained_line : List ℕ
unexplained_line = 117 ∷ 110 ∷ explained_line
