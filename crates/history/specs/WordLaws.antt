-- How many words a history has.
use Rattle.std.specs.Prelude.{◌≡◌, refl, [], ◌∷◌, ◌*◌, length}
use Rattle.std.proofs.Common.{arith, length-append}
use Rattle.history.specs.Event.{Event, History, enqueue_started, enqueue_ended, dequeue_started, gave_item, gave_empty}
use Rattle.history.specs.Words.{encode, words_of}

pub length_encode : (e : Event) → length (encode e) ≡ 4
length_encode (enqueue_started t n v) = refl
length_encode (enqueue_ended t n v) = refl
length_encode dequeue_started = refl
length_encode (gave_item n v) = refl
length_encode gave_empty = refl

pub length_words : (h : History) → length (words_of h) ≡ length h * 4
unfolding words_of
length_words [] = refl
length_words (e ∷ h) = rw length-append (omega (arith, length_encode e, length_words h))
