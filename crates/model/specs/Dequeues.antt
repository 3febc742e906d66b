-- A dequeue's beginning and its ends, empty or with an item, keep the invariant, and with it that the history is explained. From
-- the frame of producers and from what the invariant says of set entries.
use Rattle.std.specs.Prelude.{◌≡◌, refl, ◌⊎◌, ◌∷◌, ℕ, suc, ◌*◌, ◌<◌}
use Rattle.std.proofs.Common.{sym, ◌∙◌, ap, subst, subst₂, inl, inr, ⊎_elim, arith}
use Rattle.std.proofs.Math.Logic.{by_cases}
use Rattle.std.proofs.Math.Decide.{dec_lt}
use Rattle.history.specs.Event.{Event, History, dequeue_started, gave_item, gave_empty}
use Rattle.history.specs.Linearization.{Item}
use Rattle.criterion.specs.Explained.{Started, Taken, EndedBefore, EndedBeforeDequeue, MayGive, MayBeEmpty}
use Rattle.model.specs.State.{blank, put, gone, Consumer, resting, front, scanning, holding, State, owner, override}
use Rattle.model.specs.Invariant.{Has, Places, Owners, Contents, Past, Calls, ConsumerOk, Invariant, is_busy}
use Rattle.model.specs.Moves.{with_consumer, with_event, with_places, begin_dequeue, answer_empty, take_item, take_front}
use Rattle.model.specs.Facts.{ended_before_ended, ended_before_dequeue_ended, put_not_blank, put_not_gone, override_same, override_other, override_all}
use Rattle.model.specs.Frame.{Kept, KeptCall, same_call, kept_call, producer_kept}
use Rattle.model.specs.Known.{put_below_tail, put_in_records, put_past_head, put_untaken}

module _ (B : ℕ) (s : State) (i : Invariant B s) where
  open s use {tail, hp, lo, tp, hi, entry, content, history}

  -- the clause of the phase that the consumer is in
  pub consumer_clause : (x : Consumer) → s.consumer ≡ x → ConsumerOk B s x
  consumer_clause x e = subst (ConsumerOk B s) e i.consuming

  -- an event of the consumer that says nothing of any enqueue
  dequeue_event : (d : Event) (c : Consumer) → Owners tail s.starts (d ∷ history) → Contents entry content (d ∷ history)
      → Past tail s.starts entry (d ∷ history) → Calls s.producer (is_busy c) (d ∷ history)
      → ((n : ℕ) → KeptCall n history (d ∷ history)) → ConsumerOk B (with_event (with_consumer s c) d) c
      → Invariant B (with_event (with_consumer s c) d)
  dequeue_event d c owners contents past calls same ok =
      record {
        places = i.places;
        entries = i.entries;
        owners = owners;
        contents = contents;
        past = past;
        calls = calls;
        producers = λ u. producer_kept B s (with_event (with_consumer s c) d) (s.producer u) (λ y e. kept y.number) (i.producers u);
        consuming = ok;
      }
    where
      kept : (n : ℕ) → Kept s (with_event (with_consumer s c) d) n
      kept n = kept_call s (with_event (with_consumer s c) d) n (omega arith) refl refl (same n)

  pub begin_dequeue_lem : Invariant B (begin_dequeue s)
  begin_dequeue_lem =
      dequeue_event dequeue_started front (search i.owners) (search i.contents) (search i.past)
      (record { of_producers = i.calls.of_producers; of_consumer_lem = refl; apart = i.calls.apart })
      (λ n. search (same_call n history))
      tt

  -- A dequeue may answer empty if no set entry's call had ended before it started.
  pub answer_empty_lem : ((p : ℕ) → entry p ≡ put → EndedBeforeDequeue (owner p) history → ⊥) → Invariant B (answer_empty s)
  answer_empty_lem none =
      dequeue_event gave_empty resting (search i.owners) (search i.contents) (search (may, i.past))
      (record { of_producers = i.calls.of_producers; of_consumer_lem = refl; apart = i.calls.apart })
      (λ n. search (same_call n history))
      tt
    where
      may : MayBeEmpty history
      may m d = ⊎_elim (λ taken. taken)
          (λ has. absurd (none has.0 has.3 (subst (λ (a : ℕ). EndedBeforeDequeue a history) (sym has.2) d)))
          (i.past.ended_has m (ended_before_dequeue_ended m history d))

  pub empty_at_head_end : hp ≡ B * lo → lo ≡ tp → Invariant B (answer_empty s)
  empty_at_head_end at_end_lem last =
      answer_empty_lem (λ p e d. let same : B * lo ≡ B * tp = ap (λ (k : ℕ). B * k) last in
      omega (arith, put_past_head B s i p e, put_in_records B s i p e))

  pub empty_at_tail : tail ≡ hp → Invariant B (answer_empty s)
  empty_at_tail same = answer_empty_lem (λ p e d. omega (arith, put_past_head B s i p e, put_below_tail B s i p e))

  pub empty_scanned_records : (c k : ℕ) → s.consumer ≡ scanning c k → c ≡ B * k → k ≡ tp → Invariant B (answer_empty s)
  empty_scanned_records c k e at_end_lem last =
      answer_empty_lem (λ p is_put d. let same : B * k ≡ B * tp = ap (λ (j : ℕ). B * j) last in
      (consumer_clause _ e).4 p (omega (arith, put_in_records B s i p is_put)) is_put d)

  pub empty_scanned_tail : (c k : ℕ) → s.consumer ≡ scanning c k → c ≡ tail → Invariant B (answer_empty s)
  empty_scanned_tail c k e at_tail =
      answer_empty_lem (λ p is_put d. (consumer_clause _ e).4 p (omega (arith, put_below_tail B s i p is_put)) is_put d)

module _ (B : ℕ) (s : State) (i : Invariant B s) (f g : ℕ) (x : Item) (e : s.consumer ≡ holding f g x) where
  open s use {tail, hp, lo, tp, hi, entry, content, history}

  is_put : entry f ≡ put
  is_put = (consumer_clause B s i _ e).1.2

  owner_is : owner f ≡ x.number
  owner_is = sym (i.contents.number_is f is_put) ∙ ap (λ (y : Item). y.number) (consumer_clause B s i _ e).3

  -- what ended before the found call started is taken: it has no set entry, neither before found nor past it
  first : (m : ℕ) → EndedBefore m x.number history → Taken m history
  first m d =
      ⊎_elim (λ taken. taken) (λ has. absurd (unset has.0 has.1 has.3 (before has.0 has.2)))
      (i.past.ended_has m (ended_before_ended m _ history d))
    where
      before : (p : ℕ) → owner p ≡ m → EndedBefore (owner p) (owner f) history
      before p o = subst₂ (λ (a b : ℕ). EndedBefore a b history) (sym o) (sym owner_is) d

      unset : (p : ℕ) → p < tail → entry p ≡ put → EndedBefore (owner p) (owner f) history → ⊥
      unset p l p-put b =
          by_cases (dec_lt p f) (λ lt. (consumer_clause B s i _ e).2 p lt p-put b)
          (λ nlt. i.owners.in_order f p (omega arith) l b)

  may_give : MayGive x.number x.value history
  may_give =
      record {
        is_started =
            subst (λ (y : Item). Started y.number y.value history) (consumer_clause B s i _ e).3 (i.contents.value_is f is_put);
        is_untaken = put_untaken B s i f x.number is_put owner_is;
        is_first = first;
      }

  still_gone : (p : ℕ) → entry p ≡ gone → override entry f gone p ≡ gone
  still_gone = override_all entry f gone (λ p a. entry p ≡ gone → a ≡ gone) (λ d. refl) (λ p ne d. d)

  still_blank : (p : ℕ) → entry p ≡ blank → override entry f gone p ≡ blank
  still_blank p d = override_other entry f gone p (λ q. put_not_blank _ is_put (ap entry (sym q) ∙ d)) ∙ d

  was_put : (p : ℕ) → override entry f gone p ≡ put → entry p ≡ put
  was_put = override_all entry f gone (λ p a. a ≡ put → entry p ≡ put) (λ d. absurd (put_not_gone gone d refl)) (λ p ne d. d)

  abbrev after : History
  after = gave_item x.number x.value ∷ history

  -- a set entry's call is the one taken, or its entry is still set
  taken_or_put : (m p : ℕ) → owner p ≡ m → entry p ≡ put → Taken m after ⊎ (override entry f gone p ≡ put)
  taken_or_put m p o p-put =
      override_all entry f gone (λ q a. owner q ≡ m → entry q ≡ put → Taken m after ⊎ (a ≡ put)) (λ o d. inl (inl (sym o ∙ owner_is)))
      (λ q ne o d. inr d) p o p-put

  ended_take : (m : ℕ) → Taken m history ⊎ Has tail entry put m → Taken m after ⊎ Has tail (override entry f gone) put m
  ended_take m (inl taken) = inl (inr taken)
  ended_take m (inr (p, l, o, p-put)) = ⊎_elim inl (λ d. inr (p, l, o, d)) (taken_or_put m p o p-put)

  taken_take : (m : ℕ) → Taken m after → Has tail (override entry f gone) gone m
  taken_take m (inl d) = (f, (consumer_clause B s i _ e).1.1, owner_is ∙ sym d, override_same entry f gone)
  taken_take m (inr d) = let (p, l, o, is_gone) = i.past.taken_has m d in (p, l, o, still_gone p is_gone)

  -- the item is given, and the head may move on
  take_found : (hp' : ℕ) → Places B tail hp' lo tp hi → ((p : ℕ) → p < hp' → override entry f gone p ≡ gone)
      → Invariant B (with_places (take_item s f x) hp' lo tp hi)
  take_found hp' places gone_below =
      record {
        places = places;
        entries =
            record {
              blank_past = λ p l. still_blank p (i.entries.blank_past p l);
              blank_ahead = λ p l. still_blank p (i.entries.blank_ahead p l);
              gone_below = gone_below;
            };
        owners = search i.owners;
        contents =
            record {
              number_is = λ p d. i.contents.number_is p (was_put p d);
              value_is = λ p d. i.contents.value_is p (was_put p d);
            };
        past =
            record {
              explained = (may_give, i.past.explained);
              numbered = i.past.numbered;
              one_value = i.past.one_value;
              ended_has = λ m d. ended_take m (i.past.ended_has m d);
              taken_has = taken_take;
            };
        calls = record { of_producers = i.calls.of_producers; of_consumer_lem = refl; apart = i.calls.apart };
        producers =
            λ u. producer_kept B s (with_places (take_item s f x) hp' lo tp hi) (s.producer u) (λ y d. kept y.number) (i.producers u);
        consuming = tt;
      }
    where
      kept : (m : ℕ) → Kept s (with_places (take_item s f x) hp' lo tp hi) m
      kept m =
          record {
            numbers = omega arith;
            call = record { stays_started = λ v d. d; stays_open = λ d. d; stays_taken = inr };
            state = record { stays_blank = λ p o d. still_blank p d; stays_put = taken_or_put m; stays_content = λ p o. refl };
          }

  pub take_item_lem : Invariant B (take_item s f x)
  take_item_lem = take_found hp i.places (λ p l. still_gone p (i.entries.gone_below p l))

  pub take_front_lem : f ≡ hp → Invariant B (take_front s f x)
  take_front_lem at_head =
      take_found (suc hp) (omega (arith, i.places, (consumer_clause B s i _ e).0, (consumer_clause B s i _ e).1.1))
      (override_all entry f gone (λ p a. p < suc hp → a ≡ gone) (λ l. refl) (λ p ne l. i.entries.gone_below p (omega arith)))
