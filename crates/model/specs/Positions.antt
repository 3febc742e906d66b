-- A producer writes its entry and sets it, phases 8 and 9: each keeps the invariant. From the frames of producers and consumer. Set-entry is
-- where a set entry may appear behind the cursor: its call has not ended.
use Rattle.std.specs.Prelude.{◌≡◌, refl, ◌≢◌, ℕ}
use Rattle.std.proofs.Common.{sym, ◌∙◌, ap, subst, inl, inr, ⊎_elim, mul-le-mul_left, arith}
use Rattle.history.specs.Linearization.{Item}
use Rattle.criterion.specs.Explained.{Started, Ended}
use Rattle.model.specs.State.{Entry, put, gone, writing, setting, done, State, owner, override, call_of}
use Rattle.model.specs.Invariant.{Has, ProducerOk, Invariant}
use Rattle.model.specs.Moves.{write_entry, set_entry}
use Rattle.model.specs.Facts.{ended_before_ended, ended_before_dequeue_ended, put_not_blank, gone_not_blank, override_same, override_other, override_all}
use Rattle.model.specs.Frame.{Kept, kept_elsewhere, Watched, consumer_kept}
use Rattle.model.specs.Threads.{calls_same, producers_after}
use Rattle.model.specs.Known.{has_kept}
use Rattle.model.specs.Walking.{producer_clause}

module _ (B : ℕ) (s : State) (i : Invariant B s) (t n v L k : ℕ) where
  open s use {tail, entry, content, history}

  pub write_entry_lem : s.producer t ≡ writing n v L k → Invariant B (write_entry s t n v L k)
  write_entry_lem e =
      record {
        places = i.places;
        entries = i.entries;
        owners = i.owners;
        contents =
            record {
              number_is = λ p d. ap (λ (x : Item). x.number) (same p (not_there p d)) ∙ i.contents.number_is p d;
              value_is = λ p d. rw (same p (not_there p d)) (i.contents.value_is p d);
            };
        past = i.past;
        calls = calls_same s.producer t (setting n v L k) _ _ (sym (ap call_of e)) i.calls;
        producers =
            producers_after B s i (write_entry s t n v L k) t _ (setting n v L k) _ e refl kept (o.0, o.1, o.2, override_same content L _);
        consuming = consumer_kept B s (write_entry s t n v L k) watched s.consumer i.consuming;
      }
    where
      o : ProducerOk B s (writing n v L k)
      o = producer_clause B s i t _ e

      same : (p : ℕ) → p ≢ L → override content L (record { number = n; value = v }) p ≡ content p
      same = override_other content L (record { number = n; value = v })

      not_there : (p : ℕ) → entry p ≡ put → p ≢ L
      not_there p d q = put_not_blank _ d (ap entry q ∙ o.0.is_blank)

      kept : (m : ℕ) → m ≢ n → Kept s (write_entry s t n v L k) m
      kept m ne =
          kept_elsewhere s (write_entry s t n v L k) m (omega arith) refl L (λ d. ne (sym d ∙ o.0.owns)) (λ p q. (refl, same p q))

      watched : Watched s (write_entry s t n v L k)
      watched =
          record {
            numbers = omega arith;
            stays_put = λ p d. d;
            stays_content = λ p d. same p (not_there p d);
            none_before_dequeue = λ p d b. (d, b);
            none_before = λ p f l d b. (d, b);
          }

  pub set_entry_lem : s.producer t ≡ setting n v L k → Invariant B (set_entry s t n v L k)
  set_entry_lem e =
      record {
        places = i.places;
        entries =
            record {
              blank_past = λ p l. same p (omega (arith, o.0.taken)) ∙ i.entries.blank_past p l;
              blank_ahead = λ p l. same p (omega (arith, o.2, mul-le-mul_left B o.1)) ∙ i.entries.blank_ahead p l;
              gone_below = λ p l. still_gone p (i.entries.gone_below p l);
            };
        owners = i.owners;
        contents =
            record {
              number_is = override_all entry L put (λ p a. a ≡ put → (content p).number ≡ owner p)
                  (λ d. ap (λ (x : Item). x.number) o.3 ∙ sym o.0.owns)
                  (λ p ne d. i.contents.number_is p d);
              value_is = override_all entry L put (λ p a. a ≡ put → Started (content p).number (content p).value history)
                  (λ d. subst (λ (x : Item). Started x.number x.value history) (sym o.3) o.0.is_open.is_started)
                  (λ p ne d. i.contents.value_is p d);
            };
        past =
            record {
              explained = i.past.explained;
              numbered = i.past.numbered;
              one_value = i.past.one_value;
              ended_has = λ m d. ⊎_elim inl (λ h. inr (has m put still-put h)) (i.past.ended_has m d);
              taken_has = λ m d. has m gone still_gone (i.past.taken_has m d);
            };
        calls = calls_same s.producer t (done n v L k) _ _ (sym (ap call_of e)) i.calls;
        producers =
            producers_after B s i (set_entry s t n v L k) t _ (done n v L k) _ e refl kept
            (o.0.is_open, o.0.taken, o.0.owns, o.1, o.2, inr (override_same entry L put));
        consuming = consumer_kept B s (set_entry s t n v L k) watched s.consumer i.consuming;
      }
    where
      o : ProducerOk B s (setting n v L k)
      o = producer_clause B s i t _ e

      same : (p : ℕ) → p ≢ L → override entry L put p ≡ entry p
      same = override_other entry L put

      still-put : (p : ℕ) → entry p ≡ put → override entry L put p ≡ put
      still-put = override_all entry L put (λ p a. entry p ≡ put → a ≡ put) (λ d. refl) (λ p ne d. d)

      still_gone : (p : ℕ) → entry p ≡ gone → override entry L put p ≡ gone
      still_gone p d = same p (λ q. gone_not_blank _ d (ap entry q ∙ o.0.is_blank)) ∙ d

      has : (m : ℕ) (x : Entry) → ((p : ℕ) → entry p ≡ x → override entry L put p ≡ x) → Has tail entry x m → Has tail (override entry L put) x m
      has m x still = has_kept tail tail entry (override entry L put) x m (λ p l is_x. (l, still p is_x))

      kept : (m : ℕ) → m ≢ n → Kept s (set_entry s t n v L k) m
      kept m ne =
          kept_elsewhere s (set_entry s t n v L k) m (omega arith) refl L (λ d. ne (sym d ∙ o.0.owns)) (λ p q. (same p q, refl))

      -- an entry set after the move was set before, or its call has not ended
      was_put : (p : ℕ) → override entry L put p ≡ put → Ended (owner p) history → entry p ≡ put
      was_put = override_all entry L put (λ p a. a ≡ put → Ended (owner p) history → entry p ≡ put)
          (λ d ended. absurd (o.0.is_open.not_ended (subst (λ (m : ℕ). Ended m history) o.0.owns ended)))
          (λ p ne d ended. d)

      watched : Watched s (set_entry s t n v L k)
      watched =
          record {
            numbers = omega arith;
            stays_put = still-put;
            stays_content = λ p d. refl;
            none_before_dequeue = λ p d b. (was_put p d (ended_before_dequeue_ended _ history b), b);
            none_before = λ p f l d b. (was_put p d (ended_before_ended _ _ history b), b);
          }
