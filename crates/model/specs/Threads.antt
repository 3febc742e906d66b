-- Moves that change one thread, and perhaps places: what is under way after them, the clauses of the other threads, and the
-- invariant. From the frames of producers and consumer.
use Rattle.std.specs.Prelude.{◌≡◌, refl, ◌≢◌, Bool, true, false, cond, ◌∷◌, ℕ, ◌+◌, ◌*◌, ◌≤◌, ◌<◌, eqb}
use Rattle.std.proofs.Common.{sym, ◌∙◌, ap, subst, mul-le-mul_left, arith}
use Rattle.std.proofs.Math.Option.{Option, some, some-injective, none-ne-some}
use Rattle.history.specs.Event.{History, enqueue_started, enqueue_ended}
use Rattle.history.specs.Linearization.{Item}
use Rattle.criterion.specs.Explained.{current}
use Rattle.model.specs.State.{gone, Producer, idle, seeking, ahead, shifting, behind, writing, setting, done, Consumer, State, override, call_of}
use Rattle.model.specs.Invariant.{Open, Calls, ProducerOk, ConsumerOk, Invariant, is_busy}
use Rattle.model.specs.Moves.{with_producer, with_consumer}
use Rattle.model.specs.Facts.{override_all}
use Rattle.model.specs.Frame.{Kept, same_call, producer_kept, Watched, consumer_kept, kept_call}

-- no two producers have calls of one number
abbrev pub Apart : (ℕ → Producer) → Type 0
Apart f = (t u : ℕ) (x y : Item) → call_of (f t) ≡ some x → call_of (f u) ≡ some y → x.number ≡ y.number → t ≡ u

pub apart_at : (f : ℕ → Producer) (t : ℕ) (z : Producer) → Apart f
    → ((u : ℕ) (x y : Item) → u ≢ t → call_of z ≡ some x → call_of (f u) ≡ some y → x.number ≡ y.number → ⊥)
    → Apart (override f t z)
apart_at f t z old new a b x y ex ey n = override_all f t z (λ c p. call_of p ≡ some x → c ≡ b) changed unchanged a ex
  where
    changed : call_of z ≡ some x → t ≡ b
    changed ex' =
        override_all f t z (λ d q. call_of q ≡ some y → t ≡ d) (λ ey'. refl) (λ d ne ey'. absurd (new d x y ne ex' ey' n)) b ey

    unchanged : (c : ℕ) → c ≢ t → call_of (f c) ≡ some x → c ≡ b
    unchanged c ne ex' =
        override_all f t z (λ d q. call_of q ≡ some y → c ≡ d) (λ ey'. absurd (new c y x ne ey' ex' (sym n)))
        (λ d ne' ey'. old c d x y ex' ey' n) b ey

-- a producer goes on with its call
pub calls_same : (f : ℕ → Producer) (t : ℕ) (z : Producer) (b : Bool) (h : History) → call_of z ≡ call_of (f t) → Calls f b h
    → Calls (override f t z) b h
calls_same f t z b h e c =
    record {
      of_producers = override_all f t z (λ u p. current u h ≡ call_of p) (c.of_producers t ∙ sym e) (λ u ne. c.of_producers u);
      of_consumer_lem = c.of_consumer_lem;
      apart = apart_at f t z c.apart (λ u x y ne ex ey n. ne (sym (c.apart t u x y (sym e ∙ ex) ey n)));
    }

call_at : (b : Bool) (z p : Producer) (o : Option Item) → o ≡ call_of p → cond b (call_of z) o ≡ call_of (cond b z p)
call_at true z p o e = refl
call_at false z p o e = e

-- it begins one with a new number
pub calls_begin : (f : ℕ → Producer) (t n v L : ℕ) (b : Bool) (h : History)
    → ((u : ℕ) (y : Item) → call_of (f u) ≡ some y → n ≢ y.number)
    → Calls f b h → Calls (override f t (seeking n v L)) b (enqueue_started t n v ∷ h)
calls_begin f t n v L b h new c =
    record {
      of_producers = λ u. call_at (eqb t u) (seeking n v L) (f u) (current u h) (c.of_producers u);
      of_consumer_lem = c.of_consumer_lem;
      apart = apart_at f t (seeking n v L) c.apart
          (λ u x y ne ex ey e. new u y ey (ap (λ (i : Item). i.number) (some-injective _ _ ex) ∙ e));
    }

-- it ends its call
pub calls_end : (f : ℕ → Producer) (t n v : ℕ) (b : Bool) (h : History) → Calls f b h
    → Calls (override f t idle) b (enqueue_ended t n v ∷ h)
calls_end f t n v b h c =
    record {
      of_producers = λ u. call_at (eqb t u) idle (f u) (current u h) (c.of_producers u);
      of_consumer_lem = c.of_consumer_lem;
      apart = apart_at f t idle c.apart (λ u x y ne ex ey e. none-ne-some x ex);
    }

module _ (B : ℕ) (s : State) where
  open_is : (n v : ℕ) (y : Item) → Open n v s.history → some (record { number = n; value = v }) ≡ some y
      → Open y.number y.value s.history
  open_is n v y o e = subst (λ (x : Item). Open x.number x.value s.history) (some-injective _ _ e) o

  open_call : (x : Producer) (y : Item) → ProducerOk B s x → call_of x ≡ some y → Open y.number y.value s.history
  open_call idle y o e = absurd (none-ne-some y e)
  open_call (seeking n v L) y o e = open_is n v y o.is_open e
  open_call (ahead n v L k) y o e = open_is n v y o.0.is_open e
  open_call (shifting n v L k) y o e = open_is n v y o.0.is_open e
  open_call (behind n v L k) y o e = open_is n v y o.0.is_open e
  open_call (writing n v L k) y o e = open_is n v y o.0.is_open e
  open_call (setting n v L k) y o e = open_is n v y o.0.is_open e
  open_call (done n v L k) y o e = open_is n v y o.0 e

  -- a call under way has started and not ended
  pub call_is_open : Invariant B s → (t : ℕ) (y : Item) → call_of (s.producer t) ≡ some y
      → Open y.number y.value s.history
  call_is_open i t y e = open_call (s.producer t) y (i.producers t) e

  -- the producers after a move of thread t that loses nothing of the calls of other numbers than its own
  pub producers_after : Invariant B s → (s' : State) (t : ℕ) (x z : Producer) (y : Item) → s.producer t ≡ x → call_of x ≡ some y
      → ((m : ℕ) → m ≢ y.number → Kept s s' m) → ProducerOk B s' z → (u : ℕ) → ProducerOk B s' (override s.producer t z u)
  producers_after i s' t x z y is_x has-y kept ok =
      override_all s.producer t z (λ u p. ProducerOk B s' p) ok
      (λ u ne. producer_kept B s s' (s.producer u)
      (λ w has-w. kept w.number (λ e. ne (i.calls.apart u t w y has-w (ap call_of is_x ∙ has-y) e)))
      (i.producers u))

-- s with other places and threads
abbrev pub moved : State → (hp lo tp hi : ℕ) → (ℕ → Producer) → Consumer → State
moved s hp lo tp hi producer consumer =
    record {
      tail = s.tail;
      hp = hp;
      lo = lo;
      tp = tp;
      hi = hi;
      starts = s.starts;
      entry = s.entry;
      content = s.content;
      producer = producer;
      consumer = consumer;
      history = s.history;
    }

module _ (s : State) (hp lo tp hi : ℕ) (f : ℕ → Producer) (c : Consumer) where
  pub kept_moved : s.tp ≤ tp → s.hi ≤ hi → (n : ℕ) → Kept s (moved s hp lo tp hi f c) n
  kept_moved tp-up hi-up n =
      kept_call s (moved s hp lo tp hi f c) n (omega arith) refl refl (same_call n s.history)

  pub watched_moved : s.tp ≤ tp → hp ≡ s.hp → lo ≡ s.lo → Watched s (moved s hp lo tp hi f c)
  watched_moved tp-up hp-same lo-same =
      record {
        numbers = omega arith;
        stays_put = λ p e. e;
        stays_content = λ p e. refl;
        none_before_dequeue = λ p e d. (e, d);
        none_before = λ p f l e d. (e, d);
      }

module _ (B : ℕ) (s : State) (i : Invariant B s) where
  -- a producer goes on, and the tail record or the last record may move on
  pub producer_moves : (tp hi : ℕ) → s.tp ≤ tp → s.hi ≤ hi → tp ≤ hi → (f : ℕ → Producer)
      → Calls f (is_busy s.consumer) s.history
      → let s' = moved s s.hp s.lo tp hi f s.consumer in ((u : ℕ) → ProducerOk B s' (f u)) → Invariant B s'
  producer_moves tp hi tp-up hi-up below f calls ok =
      record {
        places = omega (arith, i.places);
        entries =
            record {
              blank_past = i.entries.blank_past;
              blank_ahead = λ p l. i.entries.blank_ahead p (omega (arith, mul-le-mul_left B tp-up));
              gone_below = i.entries.gone_below;
            };
        owners = i.owners;
        contents = i.contents;
        past = i.past;
        calls = calls;
        producers = ok;
        consuming =
            consumer_kept B s (moved s s.hp s.lo tp hi f s.consumer)
            (watched_moved s s.hp s.lo tp hi f s.consumer tp-up refl refl)
            s.consumer
            i.consuming;
      }

  -- a producer with a call goes on, and nothing else changes
  pub producer_goes_on : (t : ℕ) (x z : Producer) (y : Item) → s.producer t ≡ x → call_of x ≡ some y → call_of z ≡ some y
      → ProducerOk B (with_producer s t z) z → Invariant B (with_producer s t z)
  producer_goes_on t x z y is_x x-has z-has ok =
      producer_moves s.tp s.hi (omega arith) (omega arith) (omega (arith, i.places)) (override s.producer t z)
      (calls_same s.producer t z _ _ (z-has ∙ sym (ap call_of is_x ∙ x-has)) i.calls)
      (producers_after B s i (with_producer s t z) t x z y is_x x-has
      (λ m ne. kept_moved s s.hp s.lo s.tp s.hi (override s.producer t z) s.consumer (omega arith) (omega arith) m)
      ok)

  -- the consumer goes on, and the head or the head record may move on
  pub consumer_moves : (hp lo : ℕ) (c : Consumer) → 1 ≤ lo → lo ≤ s.tp → B * lo ≤ hp + B → hp ≤ B * lo → hp ≤ s.tail
      → ((p : ℕ) → p < hp → s.entry p ≡ gone)
      → is_busy c ≡ is_busy s.consumer
      → let s' = moved s hp lo s.tp s.hi s.producer c in ConsumerOk B s' c → Invariant B s'
  consumer_moves hp lo c first below from to tail gone_below same ok =
      record {
        places = omega (arith, i.places);
        entries = record { blank_past = i.entries.blank_past; blank_ahead = i.entries.blank_ahead; gone_below = gone_below };
        owners = i.owners;
        contents = i.contents;
        past = i.past;
        calls = record { of_producers = i.calls.of_producers; of_consumer_lem = i.calls.of_consumer_lem ∙ sym same; apart = i.calls.apart };
        producers =
            λ u. producer_kept B s (moved s hp lo s.tp s.hi s.producer c) (s.producer u)
            (λ y e. kept_moved s hp lo s.tp s.hi s.producer c (omega arith) (omega arith) y.number)
            (i.producers u);
        consuming = ok;
      }

  -- the consumer goes on, and nothing else changes
  pub consumer_goes_on : (x c : Consumer) → s.consumer ≡ x → is_busy c ≡ is_busy x
      → ConsumerOk B (with_consumer s c) c → Invariant B (with_consumer s c)
  consumer_goes_on x c is_x same ok =
      consumer_moves s.hp s.lo c i.places.first i.places.head_tail i.places.head_from i.places.head_to
      i.places.head_below i.entries.gone_below (same ∙ sym (ap is_busy is_x)) ok
