-- Laws of turns: a call of the engine, recorded and printed, is a turn.
use Rattle.std.specs.Prelude.{Option, Ok, Err, ◌≡◌, refl, ℕ, ◌≤◌}
use Rattle.std.proofs.Math.Path.{ap}
use Rattle.std.proofs.Common.{sym, ◌∙◌, subst, arith}
use mathlib.Core.List.{List, [], ◌++◌}
use Rattle.history.specs.Event.{History}
use Rattle.rules.specs.Sizes.{Sizes}
use Rattle.rules.specs.Request.{Result, Request, lending, open_store, result}
use Rattle.rules.specs.Play.{events}
use Rattle.std.specs.Prelude as std
use Rattle.store.specs.declared.Reply.{Reply}
use Rattle.store.specs.declared.Reply.TheVariants.{Done, Started, Going, Ended, Empty, Item, Drained}
use Rattle.store.specs.declared.Refusal.{Refusal}
use Rattle.store.specs.Outcome.{response, response_in, response_after, left_with}
use Rattle.text.specs.Wrote.{Wrote}
use Rattle.protocol.specs.Printed.{printed}
use Rattle.protocol.specs.Laws.{length_printed}
use Rattle.session.specs.declared.Place.{Place}
use Rattle.events.specs.declared.Noted.{Noted}
use Rattle.session.specs.Session.{Session, Turn, reopened, open_turn, call_turn, opening, calling}
use Rattle.events.specs.Events.{Recorded, noted_events, Records}
use Rattle.session.specs.Turns.{Stands, Turned}

-- The events of a reply, and what is printed of it, do not go by the buffer; the events do not go by its count.
same_events_lem : (q : Request) (h : History) (b : List ℕ) (k : ℕ) (r : std.Result Reply Refusal) → events q h (response_in b 0 k r) ≡ events q h (response r)
same_events_lem q h b k (Err e) = refl
same_events_lem q h b k (Ok Done) = refl
same_events_lem q h b k (Ok (Started n)) = refl
same_events_lem q h b k (Ok Going) = refl
same_events_lem q h b k (Ok Ended) = refl
same_events_lem q h b k (Ok Empty) = refl
same_events_lem q h b k (Ok (Item n v)) = refl
same_events_lem q h b k (Ok (Drained n)) = refl

same_printed : (b : List ℕ) (k : ℕ) (r : std.Result Reply Refusal) → printed (response_after k r) ≡ printed (response_in b 0 k r)
unfolding printed
same_printed b k (Err e) = refl
same_printed b k (Ok Done) = refl
same_printed b k (Ok (Started n)) = refl
same_printed b k (Ok Going) = refl
same_printed b k (Ok Ended) = refl
same_printed b k (Ok Empty) = refl
same_printed b k (Ok (Item n v)) = refl
same_printed b k (Ok (Drained n)) = refl

module _ {store history out store' out' : List ℕ} {at next : Place} (reply : std.Result Reply Refusal) (steps : ℕ) (writes : Wrote out at.bytes (printed (response_after steps reply)) out' next.bytes) where
  -- a start or a step
  module _ {history' : List ℕ} (q : Request) (noted : Option Noted) (buffer : List ℕ) (does : left_with steps reply store' buffer 0 ≡ result (lending [] 0 q) store) (adds : (h : History) → noted_events noted h ≡ events q h (response reply)) (records : Records (noted_events noted) history at.events history' next.events) where
    call_is : (x : Session) → Stands x store history at.events → calling q x ≡ call_turn q (left_with steps reply store' buffer 0) x.history
    unfolding calling
    call_is x s = ap (λ (w : List ℕ). call_turn q (result (lending [] 0 q) w) x.history) s.words_are ∙ ap (λ (r : Result). call_turn q r x.history) (sym does)

    pub call_turned : Turned (calling q) store history out at store' history' out' next
    call_turned =
        record {
          stands =
              λ x s. subst (λ (t : Turn). Stands t.session store' history' next.events) (sym (call_is x s))
              (record {
                words_are = refl;
                recorded =
                    subst (λ (g : History). Recorded history' next.events (g ++ x.history)) (adds x.history ∙ sym (same_events_lem q x.history buffer steps reply))
                    (records.events x.history s.recorded);
              });
          prints =
              λ x s. subst (λ (t : Turn). Wrote out at.bytes (printed t.reply) out' next.bytes) (sym (call_is x s))
              (subst (λ (bytes : List ℕ). Wrote out at.bytes bytes out' next.bytes) (same_printed buffer steps reply) writes);
          most = records.most;
          short = omega (arith, writes.next_is, length_printed (response_after steps reply));
        }

  -- an open
  module _ (z : Sizes) (does : left_with steps reply store' [] 0 ≡ open_store z store) (keeps : (b : List ℕ) (h : History) → Recorded b at.events h → Recorded b next.events (reopened (response_after steps reply) h)) (few : next.events ≤ at.events) where
    open_is : (x : Session) → Stands x store history at.events → opening z x ≡ open_turn (left_with steps reply store' [] 0) x.history
    unfolding opening
    open_is x s = ap (λ (w : List ℕ). open_turn (open_store z w) x.history) s.words_are ∙ ap (λ (r : Result). open_turn r x.history) (sym does)

    pub open_turned : Turned (opening z) store history out at store' history out' next
    open_turned =
        record {
          stands =
              λ x s. subst (λ (t : Turn). Stands t.session store' history next.events) (sym (open_is x s))
              (record { words_are = refl; recorded = keeps history x.history s.recorded });
          prints = λ x s. subst (λ (t : Turn). Wrote out at.bytes (printed t.reply) out' next.bytes) (sym (open_is x s)) writes;
          most = omega arith;
          short = omega (arith, writes.next_is, length_printed (response_after steps reply));
        }
