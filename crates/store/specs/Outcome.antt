-- What a call answers means: document 01's reply for each case, and a refusal by its number. The items of a drain are in the lent buffer (document 02, U5).
use Rattle.std.specs.Prelude as std
use Rattle.std.specs.Prelude.{List, [], ◌∷◌, ℕ, zero, suc, get_or, Ok, Err}
use Rattle.history.specs.Linearization as history
use Rattle.rules.specs.Sizes.{Sizes}
use Rattle.rules.specs.Cell.{Reader, reader}
use Rattle.rules.specs.Rule as rule
use Rattle.rules.specs.Rule.{Effect, Response, refused, accepted, ok, started, going, ended, empty, item, drained}
use Rattle.rules.specs.Request.{Result, applied}
use Rattle.store.specs.declared.Shape.{Shape}
use Rattle.store.specs.Shape.{sizes}
use Rattle.store.specs.declared.Counted.{Counted}
use Rattle.store.specs.declared.Refusal.{Refusal}
use Rattle.store.specs.declared.Reply.{Reply}
use Rattle.store.specs.declared.Reply.TheVariants.{Done, Started, Going, Ended, Empty, Item, Drained}
use Rattle.store.specs.Refusal.{refusal_number}

-- n items in a buffer from a word on: call number and value of each.
abbrev pub items_at : (buffer : List ℕ) (from n : ℕ) → List history.Item
items_at b i zero = []
items_at b i (suc n) = record { number = get_or b i 0; value = get_or b (suc i) 0 } ∷ items_at b (suc (suc i)) n

-- An accepted call's reply, with the buffer after the call and the word that the caller named.
abbrev pub reply_in : (buffer : List ℕ) (from : ℕ) → Reply → rule.Reply
reply_in b i Done = ok
reply_in b i (Started n) = started n
reply_in b i Going = going
reply_in b i Ended = ended
reply_in b i Empty = empty
reply_in b i (Item n v) = item n v
reply_in b i (Drained n) = drained (items_at b i n)

-- The same of any call: refused by its number, or accepted with so many steps.
abbrev pub response_in : (buffer : List ℕ) (from steps : ℕ) → std.Result Reply Refusal → Response
response_in b i k (Err e) = refused (refusal_number e)
response_in b i k (Ok r) = accepted (reply_in b i r) k

-- The same where no word of a buffer is looked at.
abbrev pub response_after : (steps : ℕ) → std.Result Reply Refusal → Response
response_after k r = response_in [] 0 k r

-- of a call that carries no step, and of a step that is not yet counted
abbrev pub response : std.Result Reply Refusal → Response
response r = response_after 0 r

-- of a call with the number of its accepted steps
abbrev pub counted_in : (buffer : List ℕ) (from : ℕ) → std.Result Counted Refusal → Response
counted_in b i (Err e) = refused (refusal_number e)
counted_in b i (Ok c) = accepted (reply_in b i c.reply) c.steps

-- What a call leaves: the reply and the words, of the store and of the buffer, with the word that the caller named. The contract of a
-- function that looks at no buffer is an equation over all of them: left r m ≡ does rule z n.
abbrev pub left_with : (steps : ℕ) → std.Result Reply Refusal → (words : List ℕ) → (buffer : List ℕ) (from : ℕ) → Result
left_with k r m = λ b i. record { reply = response_in b i k r; words = m; buffer = b }

abbrev pub left : std.Result Reply Refusal → (words : List ℕ) → (buffer : List ℕ) (from : ℕ) → Result
left r m = left_with 0 r m

-- the same with the number of accepted steps
abbrev pub left_after : std.Result Counted Refusal → (words : List ℕ) → (buffer : List ℕ) (from : ℕ) → Result
left_after c m = λ b i. record { reply = counted_in b i c; words = m; buffer = b }

-- What an effect, and a rule, leave of the words, the reply with so many accepted steps.
abbrev pub leaves_after : (steps : ℕ) → Sizes → (words : List ℕ) → Effect → (buffer : List ℕ) (from : ℕ) → Result
leaves_after k z m a = λ b i. applied k z m b i a

abbrev pub does_after : (steps : ℕ) → (Sizes → Reader → Effect) → Shape → (words : List ℕ) → (buffer : List ℕ) (from : ℕ) → Result
does_after k rule z m = leaves_after k (sizes z) m (rule (sizes z) (reader (sizes z) m))

-- the same, the step not yet counted
abbrev pub leaves : Sizes → (words : List ℕ) → Effect → (buffer : List ℕ) (from : ℕ) → Result
leaves z m a = leaves_after 0 z m a

abbrev pub does : (Sizes → Reader → Effect) → Shape → (words : List ℕ) → (buffer : List ℕ) (from : ℕ) → Result
does rule z m = does_after 0 rule z m
