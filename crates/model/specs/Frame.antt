-- What a move must leave alone for the clause of a producer, or of the consumer, to hold after it. From the invariant's clauses;
-- a move shows these few facts and need not look at the phases.
use Rattle.std.specs.Prelude.{◌≡◌, refl, ◌⊎◌, ◌≢◌, ℕ, suc, ◌*◌, ◌≤◌, ◌<◌}
use Rattle.std.proofs.Common.{sym, ap, ◌∙◌, inl, inr, arith}
use Rattle.std.proofs.Math.Option.{some}
use Rattle.history.specs.Event.{History}
use Rattle.history.specs.Linearization.{Item}
use Rattle.criterion.specs.Explained.{Started, Ended, Taken, EndedBefore, EndedBeforeDequeue}
use Rattle.model.specs.State.{Entry, blank, put, Producer, idle, seeking, ahead, shifting, behind, writing, setting, done, Consumer, resting, front, reading, scanning, looking, rescanning, found, holding, retiring, State, owner, call_of}
use Rattle.model.specs.Invariant.{Open, AtPosition, ProducerOk, ConsumerOk, Passed, Rescanned, Reached, Found}

-- call n stays as it is: started, open, taken
pub record KeptCall (n : ℕ) (h h' : History) : Type 0 where
  pub stays_started : (v : ℕ) → Started n v h → Started n v h'
  pub stays_open : Ended n h' → Ended n h
  pub stays_taken : Taken n h → Taken n h'

-- its entry stays empty, or set until it is taken, and holds what it held
pub record KeptEntry (n : ℕ) (entry entry' : ℕ → Entry) (content content' : ℕ → Item) (h' : History) : Type 0 where
  pub stays_blank : (p : ℕ) → owner p ≡ n → entry p ≡ blank → entry' p ≡ blank
  pub stays_put : (p : ℕ) → owner p ≡ n → entry p ≡ put → Taken n h' ⊎ (entry' p ≡ put)
  pub stays_content : (p : ℕ) → owner p ≡ n → content' p ≡ content p

-- nothing that the clause of a producer with call number n speaks of is lost from s to s'
pub record Kept (s s' : State) (n : ℕ) : Type 0 where
  pub numbers : (s.tail ≤ s'.tail) × (s.tp ≤ s'.tp) × (s.hi ≤ s'.hi)
  pub call : KeptCall n s.history s'.history
  pub state : KeptEntry n s.entry s'.entry s.content s'.content s'.history

-- what a move does not touch is kept
pub same_call : (n : ℕ) (h : History) → KeptCall n h h
same_call n h = record { stays_started = λ v e. e; stays_open = λ e. e; stays_taken = λ e. e }

pub same_entry : (n : ℕ) (entry : ℕ → Entry) (content : ℕ → Item) (h' : History) → KeptEntry n entry entry content content h'
same_entry n entry content h' =
    record { stays_blank = λ p o e. e; stays_put = λ p o e. inr e; stays_content = λ p o. refl }

-- a move after which tail and places are no lower
module _ (s s' : State) (n : ℕ) (up : (s.tail ≤ s'.tail) × (s.tp ≤ s'.tp) × (s.hi ≤ s'.hi)) where
  -- where it leaves entries and contents alone, a call is kept that stays as it is
  pub kept_call : s'.entry ≡ s.entry → s'.content ≡ s.content → KeptCall n s.history s'.history → Kept s s' n
  kept_call entry-same content-same k =
      record {
        numbers = up;
        call = k;
        state = rw (entry-same, content-same) (same_entry n s.entry s.content s'.history);
      }

  -- where it leaves the history alone, and entries and contents but at L, a call is kept that does not own L
  pub kept_elsewhere : s'.history ≡ s.history → (L : ℕ) → owner L ≢ n
      → ((p : ℕ) → p ≢ L → (s'.entry p ≡ s.entry p) × (s'.content p ≡ s.content p)) → Kept s s' n
  kept_elsewhere history_same L other same =
      record {
        numbers = up;
        call = rw history_same (same_call n s.history);
        state =
            record {
              stays_blank = λ p o b. (same p (elsewhere p o)).0 ∙ b;
              stays_put = λ p o b. inr ((same p (elsewhere p o)).0 ∙ b);
              stays_content = λ p o. (same p (elsewhere p o)).1;
            };
      }
    where
      elsewhere : (p : ℕ) → owner p ≡ n → p ≢ L
      elsewhere p o q = other (ap owner (sym q) ∙ o)

module _ (B : ℕ) (s s' : State) where
  open_kept : (n v : ℕ) → Kept s s' n → Open n v s.history → Open n v s'.history
  open_kept n v k o =
      record { is_started = k.call.stays_started v o.is_started; not_ended = λ e. o.not_ended (k.call.stays_open e) }

  placed_kept : (n v L : ℕ) → Kept s s' n → AtPosition s.tail n v L s.entry s.history
      → AtPosition s'.tail n v L s'.entry s'.history
  placed_kept n v L k o =
      record {
        is_open = open_kept n v k o.is_open;
        taken = omega (arith, k.numbers, o.taken);
        is_blank = k.state.stays_blank L o.owns o.is_blank;
        owns = o.owns;
      }

  settled_kept : (n L : ℕ) → Kept s s' n → owner L ≡ n → Taken n s.history ⊎ (s.entry L ≡ put)
      → Taken n s'.history ⊎ (s'.entry L ≡ put)
  settled_kept n L k o (inl e) = inl (k.call.stays_taken e)
  settled_kept n L k o (inr e) = k.state.stays_put L o e

  pub producer_kept : (x : Producer) → ((y : Item) → call_of x ≡ some y → Kept s s' y.number) → ProducerOk B s x
      → ProducerOk B s' x
  producer_kept idle k o = tt
  producer_kept (seeking n v L) k o = placed_kept n v L (k _ refl) o
  producer_kept (ahead n v L j) k o =
      let e : Kept s s' n = k _ refl in
      (placed_kept n v L e o.0, omega (arith, e.numbers), o.2)
  producer_kept (shifting n v L j) k o =
      let e : Kept s s' n = k _ refl in
      (placed_kept n v L e o.0, omega (arith, e.numbers), o.2, omega (arith, e.numbers))
  producer_kept (behind n v L j) k o =
      let e : Kept s s' n = k _ refl in
      (placed_kept n v L e o.0, omega (arith, e.numbers), o.2)
  producer_kept (writing n v L j) k o =
      let e : Kept s s' n = k _ refl in
      (placed_kept n v L e o.0, omega (arith, e.numbers), o.2)
  producer_kept (setting n v L j) k o =
      let e : Kept s s' n = k _ refl in
      (placed_kept n v L e o.0, omega (arith, e.numbers), o.2, e.state.stays_content L o.0.owns ∙ o.3)
  producer_kept (done n v L j) k o =
      let e : Kept s s' n = k _ refl in (
        open_kept n v e o.0,
        omega (arith, e.numbers),
        o.2,
        omega (arith, e.numbers),
        o.4,
        settled_kept n L e o.2 o.5,
      )

-- the consumer keeps its set entries, and no set entry comes to have ended before its dequeue, or before a later position's call
pub record Watched (s s' : State) : Type 0 where
  pub numbers : (s.tail ≤ s'.tail) × (s.tp ≤ s'.tp) × (s'.hp ≡ s.hp) × (s'.lo ≡ s.lo)
  pub stays_put : (p : ℕ) → s.entry p ≡ put → s'.entry p ≡ put
  pub stays_content : (p : ℕ) → s.entry p ≡ put → s'.content p ≡ s.content p
  pub none_before_dequeue : (p : ℕ) → s'.entry p ≡ put → EndedBeforeDequeue (owner p) s'.history
      → (s.entry p ≡ put) × EndedBeforeDequeue (owner p) s.history
  pub none_before : (p f : ℕ) → f < s.tail → s'.entry p ≡ put → EndedBefore (owner p) (owner f) s'.history
      → (s.entry p ≡ put) × EndedBefore (owner p) (owner f) s.history

module _ (B : ℕ) (s s' : State) (w : Watched s s') where
  passed_kept : (c c' : ℕ) → c' ≤ c → Passed B s c → Passed B s' c'
  passed_kept c c' l o p b e d = let was = w.none_before_dequeue p e d in o p (omega arith) was.0 was.1

  rescanned_kept : (c f : ℕ) → f < s.tail → Rescanned B s c f → Rescanned B s' c f
  rescanned_kept c f l o p b e d = let was = w.none_before p f l e d in o p b was.0 was.1

  reached_kept : (p k : ℕ) → Reached B s p k → Reached B s' p k
  reached_kept p k o = omega arith

  found_kept : (f g : ℕ) → Found B s f g → Found B s' f g
  found_kept f g o = (omega arith, omega arith, w.stays_put f o.2, omega arith, omega arith, o.5)

  inside_kept : s.hp < B * s.lo → s'.hp < B * s'.lo
  inside_kept l = rw (w.numbers.2, w.numbers.3) l

  pub consumer_kept : (x : Consumer) → ConsumerOk B s x → ConsumerOk B s' x
  consumer_kept resting o = tt
  consumer_kept front o = tt
  consumer_kept reading o = (inside_kept o.0, passed_kept (suc s.hp) (suc s'.hp) (omega arith) o.1)
  consumer_kept (scanning c k) o =
      (inside_kept o.0, omega arith, omega arith, reached_kept c k o.3, passed_kept c c (omega arith) o.4)
  consumer_kept (looking c k) o =
      (inside_kept o.0, omega arith, omega arith, o.3, reached_kept c k o.4, passed_kept c c (omega arith) o.5)
  consumer_kept (rescanning c k f g) o =
      (inside_kept o.0, omega arith, o.2, reached_kept c k o.3, found_kept f g o.4, rescanned_kept c f o.4.1 o.5)
  consumer_kept (found f g) o = (inside_kept o.0, found_kept f g o.1, rescanned_kept f f o.1.1 o.2)
  consumer_kept (holding f g x) o =
      (inside_kept o.0, found_kept f g o.1, rescanned_kept f f o.1.1 o.2, w.stays_content f o.1.2 ∙ o.3)
  consumer_kept retiring o = (rw (w.numbers.2, w.numbers.3) o.0, omega (arith, w.numbers))
