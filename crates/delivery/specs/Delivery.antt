-- What an export gives back, from what the call inside it says.
use Rattle.std.specs.Prelude as std
use Rattle.std.specs.Prelude.{◌≡◌, refl, List, [], ℕ, set, Ok, Err}
use Rattle.std.proofs.Common.{ap, subst, sym, ◌∙◌}
use Rattle.rules.specs.Request.{Result}
use Rattle.store.specs.declared.Counted.{Counted}
use Rattle.store.specs.declared.Refusal.{Refusal}
use Rattle.store.specs.declared.Reply.{Reply}
use Rattle.store.specs.declared.Reply.TheVariants.{Done, Started, Going, Ended, Empty, Item, Drained}
use Rattle.store.specs.Items.{length_items}
use Rattle.store.specs.Outcome.{response, response_in, response_after, counted_in, left, left_after}
use Rattle.delivery.specs.Export.{code, reply_words, Returned, returned, Replied, replied, Stepped, stepped}

-- The returned number tells neither the accepted steps nor the items.
pub same_code : (b c : List ℕ) (i j k l : ℕ) (r : std.Result Reply Refusal) → code (response_in b i k r) ≡ code (response_in c j l r)
same_code b c i j k l (Err e) = refl
same_code b c i j k l (Ok Done) = refl
same_code b c i j k l (Ok (Started n)) = refl
same_code b c i j k l (Ok Going) = refl
same_code b c i j k l (Ok Ended) = refl
same_code b c i j k l (Ok Empty) = refl
same_code b c i j k l (Ok (Item n v)) = refl
same_code b c i j k l (Ok (Drained n)) = refl

-- Of the items the words of the reply tell only how many they are.
pub same_words_lem : (b : List ℕ) (i k : ℕ) (r : std.Result Reply Refusal) (w : List ℕ) → reply_words (response_after k r) w ≡ reply_words (response_in b i k r) w
same_words_lem b i k (Err e) w = refl
same_words_lem b i k (Ok Done) w = refl
same_words_lem b i k (Ok (Started n)) w = refl
same_words_lem b i k (Ok Going) w = refl
same_words_lem b i k (Ok Ended) w = refl
same_words_lem b i k (Ok Empty) w = refl
same_words_lem b i k (Ok (Item n v)) w = refl
same_words_lem b i k (Ok (Drained n)) w = ap (λ (x : ℕ). set (set (set w 0 x) 1 0) 2 k) (length_items [] 0 n ∙ sym (length_items b i n))

-- the same of a reply with the number of its steps
code_counted : (b : List ℕ) (i : ℕ) (r : std.Result Counted Refusal) → code (counted_in [] 0 r) ≡ code (counted_in b i r)
code_counted b i (Err e) = refl
code_counted b i (Ok c) = same_code [] b 0 i c.steps c.steps (Ok c.reply)

words_counted : (b : List ℕ) (i : ℕ) (r : std.Result Counted Refusal) (w : List ℕ) → reply_words (counted_in [] 0 r) w ≡ reply_words (counted_in b i r) w
words_counted b i (Err e) w = refl
words_counted b i (Ok c) w = same_words_lem b i c.steps (Ok c.reply) w

pub returned_of : (r : std.Result Reply Refusal) {n : ℕ} {m : List ℕ} {l : Result} → n ≡ code (response r) → left r m [] 0 ≡ l
    → ◌≡◌ {A = Returned} (record { number = n; store = m }) (returned l)
returned_of r {n} {m} c e = subst (λ (l : Result). ◌≡◌ {A = Returned} (record { number = n; store = m }) (returned l)) e (rw c refl)

-- a start enqueue's reply
pub replied_of : (r : std.Result Counted Refusal) (w : List ℕ) {n : ℕ} {m v : List ℕ} {l : Result} → n ≡ code (counted_in [] 0 r) → v ≡ reply_words (counted_in [] 0 r) w
    → left_after r m [] 0 ≡ l → ◌≡◌ {A = Replied} (record { number = n; store = m; reply = v }) (replied l w)
replied_of r w {n} {m} {v} c f e =
    subst (λ (l : Result). ◌≡◌ {A = Replied} (record { number = n; store = m; reply = v }) (replied l w)) e (rw (c, f) refl)

-- a step's
pub stepped_of : (r : std.Result Counted Refusal) (b : List ℕ) (i : ℕ) (w : List ℕ) {n : ℕ} {m v : List ℕ} {l : Result} → n ≡ code (counted_in [] 0 r) → v ≡ reply_words (counted_in [] 0 r) w
    → left_after r m b i ≡ l → ◌≡◌ {A = Stepped} (record { number = n; store = m; buffer = b; reply = v }) (stepped l w)
stepped_of r b i w {n} {m} {v} c f e =
    subst (λ (l : Result). ◌≡◌ {A = Stepped} (record { number = n; store = m; buffer = b; reply = v }) (stepped l w)) e
    (rw (c, f, code_counted b i r, words_counted b i r w) refl)
