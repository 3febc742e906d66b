-- The invariant holds at first, and an enqueue's start, which takes its position, and its end keep it. From the frames of producers and consumer.
use Rattle.std.specs.Prelude.{◌≡◌, refl, ◌⊎◌, ◌≢◌, ◌∷◌, ℕ, suc, ◌≤◌, ◌<◌}
use Rattle.std.proofs.Common.{sym, ◌∙◌, ap, subst, inl, inr, ⊎_elim, arith}
use Rattle.std.proofs.Math.Logic.{by_cases}
use Rattle.std.proofs.Math.Option.{none-ne-some}
use Rattle.std.proofs.Math.Decide.{dec_lt}
use Rattle.history.specs.Event.{History, enqueue_started, enqueue_ended}
use Rattle.criterion.specs.Explained.{Started, Begun, Ended, Taken, EndedBefore}
use Rattle.model.specs.State.{Entry, blank, put, gone, idle, seeking, done, State, owner, initial}
use Rattle.model.specs.Invariant.{Has, ProducerOk, Invariant}
use Rattle.model.specs.Moves.{begin_enqueue, finish}
use Rattle.model.specs.Facts.{started_begun, ended_before_ended, put_not_blank, override_all}
use Rattle.model.specs.Frame.{Kept, kept_call, producer_kept, Watched, consumer_kept}
use Rattle.model.specs.Threads.{call_is_open, calls_begin, calls_end, producers_after}
use Rattle.model.specs.Known.{below_suc, has_kept, open_numbered, ended_begun}
use Rattle.model.specs.Walking.{producer_clause}

pub initial_keeps : (B : ℕ) → Invariant B initial
initial_keeps B =
    record {
      places = omega arith;
      entries = record { blank_past = λ p l. refl; blank_ahead = λ p l. refl; gone_below = λ p l. absurd (omega arith) };
      owners = record { all_placed = refl; begun = λ p l. absurd (omega arith); in_order = λ p q l d e. e };
      contents = record { number_is = λ p e. absurd (blank-not-put e); value_is = λ p e. absurd (blank-not-put e) };
      past =
          record {
            explained = tt;
            numbered = λ n e. absurd e;
            one_value = λ n v w e. absurd e;
            ended_has = λ n e. absurd e;
            taken_has = λ n e. absurd e;
          };
      calls = record { of_producers = λ t. refl; of_consumer_lem = refl; apart = λ t u x y e. absurd (none-ne-some x e) };
      producers = λ t. tt;
      consuming = tt;
    }
  where
    blank-not-put : blank ≡ put → ⊥
    blank-not-put e = put_not_blank blank e refl

module _ (B : ℕ) (s : State) (i : Invariant B s) (t v : ℕ) where
  open s use {tail, starts, entry, history}

  -- the history with the start
  abbrev after : History
  after = enqueue_started t (suc starts) v ∷ history

  -- the new number neither began before nor ended
  not_begun : (n : ℕ) → starts < n → Begun n history → ⊥
  not_begun n l e = omega (arith, i.past.numbered n e)

  not_ended : (n : ℕ) → starts < n → Ended n history → ⊥
  not_ended n l e = not_begun n l (ended_begun B s i n e)

  -- a call at an earlier position did not start just now, so what ended before it started had ended before
  was_before : (a p : ℕ) → p < tail → EndedBefore a (owner p) after → EndedBefore a (owner p) history
  was_before a p l (inl e) = absurd (omega (arith, i.owners.all_placed, e.0))
  was_before a p l (inr e) = e

  -- the new call has not ended, so that it ended before no other call started
  in-order-begin : (p q : ℕ) → p ≤ q → q < suc tail → EndedBefore (owner q) (owner p) after → ⊥
  in-order-begin p q le l (inl e) = not_ended (owner q) (omega (arith, e.0)) e.1
  in-order-begin p q le l (inr e) =
      by_cases (dec_lt q tail) (λ lt. i.owners.in_order p q le lt e)
      (λ nlt. not_ended (owner q) (omega (arith, i.owners.all_placed)) (ended_before_ended _ _ history e))

  numbered_begin : (n : ℕ) → Begun n after → (1 ≤ n) × (n ≤ suc starts)
  numbered_begin n (inl e) = omega arith
  numbered_begin n (inr e) = omega (arith, i.past.numbered n e)

  one_value_begin : (n w x : ℕ) → Started n w after → Started n x after → w ≡ x
  one_value_begin n w x (inl e) (inl d) = e.1 ∙ sym d.1
  one_value_begin n w x (inl e) (inr d) = absurd (not_begun n (omega (arith, e.0)) (started_begun n x history d))
  one_value_begin n w x (inr e) (inl d) = absurd (not_begun n (omega (arith, d.0)) (started_begun n w history e))
  one_value_begin n w x (inr e) (inr d) = i.past.one_value n w x e d

  has_begin : (x : Entry) (n : ℕ) → Has tail entry x n → Has (suc tail) entry x n
  has_begin x n = has_kept tail (suc tail) entry entry x n (λ p l is_x. (omega arith, is_x))

  kept_begin : (n : ℕ) → Kept s (begin_enqueue s t v) n
  kept_begin n =
      kept_call s (begin_enqueue s t v) n (omega arith) refl refl
      (record { stays_started = λ w e. inr e; stays_open = λ e. e; stays_taken = λ e. e })

  watched_begin : Watched s (begin_enqueue s t v)
  watched_begin =
      record {
        numbers = omega arith;
        stays_put = λ p e. e;
        stays_content = λ p e. refl;
        none_before_dequeue = λ p e d. (e, d);
        none_before = λ p f l e d. (e, was_before (owner p) f l d);
      }

  pub begin_enqueue_lem : Invariant B (begin_enqueue s t v)
  begin_enqueue_lem =
      record {
        places = omega (arith, i.places);
        entries =
            record {
              blank_past = λ p l. i.entries.blank_past p (omega arith);
              blank_ahead = i.entries.blank_ahead;
              gone_below = i.entries.gone_below;
            };
        owners =
            record {
              all_placed = ap suc i.owners.all_placed;
              begun = below_suc (λ p. Begun (owner p) after) tail (λ p l. inr (i.owners.begun p l)) (inl (ap suc (sym i.owners.all_placed)));
              in_order = in-order-begin;
            };
        contents = record { number_is = i.contents.number_is; value_is = λ p e. inr (i.contents.value_is p e) };
        past =
            record {
              explained = i.past.explained;
              numbered = numbered_begin;
              one_value = one_value_begin;
              ended_has = λ n d. ⊎_elim inl (λ h. inr (has_begin put n h)) (i.past.ended_has n d);
              taken_has = λ n d. has_begin gone n (i.past.taken_has n d);
            };
        calls =
            calls_begin s.producer t (suc starts) v tail _ _
            (λ u y has e. omega (arith, open_numbered B s i y.number y.value (call_is_open B s i u y has)))
            i.calls;
        producers =
            override_all s.producer t (seeking (suc starts) v tail) (λ u p. ProducerOk B (begin_enqueue s t v) p)
            (record {
              is_open = record { is_started = inl (refl, refl); not_ended = not_ended (suc starts) (omega arith) };
              taken = omega arith;
              is_blank = i.entries.blank_past tail (omega arith);
              owns = ap suc (sym i.owners.all_placed);
            })
            (λ u ne. producer_kept B s (begin_enqueue s t v) (s.producer u) (λ y e. kept_begin y.number) (i.producers u));
        consuming = consumer_kept B s (begin_enqueue s t v) watched_begin s.consumer i.consuming;
      }

module _ (B : ℕ) (s : State) (i : Invariant B s) (t n v L k : ℕ) (e : s.producer t ≡ done n v L k) where
  open s use {tail, entry, history}

  -- the ended call is taken, or its entry is set
  ended_finish : (m : ℕ) → Ended m (enqueue_ended t n v ∷ history) → Taken m history ⊎ Has tail entry put m
  ended_finish m (inr d) = i.past.ended_has m d
  ended_finish m (inl d) =
      let o = producer_clause B s i t _ e in
      subst (λ (a : ℕ). Taken a history ⊎ Has tail entry put a) (sym d)
      (⊎_elim inl (λ is_put. inr (L, o.1, o.2, is_put)) o.5)

  kept_finish : (m : ℕ) → m ≢ n → Kept s (finish s t n v) m
  kept_finish m ne =
      kept_call s (finish s t n v) m (omega arith) refl refl
      (record { stays_started = λ w d. d; stays_open = ⊎_elim (λ d. absurd (ne d)) (λ d. d); stays_taken = λ d. d })

  watched_finish : Watched s (finish s t n v)
  watched_finish =
      record {
        numbers = omega arith;
        stays_put = λ p d. d;
        stays_content = λ p d. refl;
        none_before_dequeue = λ p d b. (d, b);
        none_before = λ p f l d b. (d, b);
      }

  pub finish_keeps : Invariant B (finish s t n v)
  finish_keeps =
      record {
        places = i.places;
        entries = i.entries;
        owners = search i.owners;
        contents = record { number_is = i.contents.number_is; value_is = i.contents.value_is };
        past =
            record {
              explained = i.past.explained;
              numbered = i.past.numbered;
              one_value = i.past.one_value;
              ended_has = ended_finish;
              taken_has = i.past.taken_has;
            };
        calls = calls_end s.producer t n v _ _ i.calls;
        producers = producers_after B s i (finish s t n v) t _ idle _ e refl kept_finish tt;
        consuming = consumer_kept B s (finish s t n v) watched_finish s.consumer i.consuming;
      }
