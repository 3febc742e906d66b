-- Words that are read as a history are its words; so its events are the rows, thread by thread.
use Rattle.std.specs.Prelude.{◌≡◌, refl, Bool, true, false, ◌&&◌, ◌||◌, not, cond, List, [], ◌∷◌, ◌++◌, ℕ, zero, suc, ◌/◌, ◌%◌, ◌≤◌, leb, eqb, ltb, length}
use Rattle.std.proofs.Common.{sym, ap, ◌∙◌, append_assoc, append-nil, arith, leb-true, eqb-true, ltb-false}
use Rattle.std.proofs.Math.Bool.{and-eq-true_iff}
use Rattle.std.proofs.Math.Option.{Option, none, some}
use Rattle.history.specs.Lists.{All}
use Rattle.history.specs.Event.{Event, History, enqueue_started, enqueue_ended, dequeue_started, gave_item, gave_empty, most_producers, is_producer, given, decode}
use Rattle.history.specs.Words.{encode, words_of}
use Rattle.history.specs.WordLaws.{length_words}
use Rattle.history.specs.Calls.{calls}
use Rattle.history.specs.Form.{most_events, well_formed, follows, refused, history, read_event, read_events, read}
use Rattle.reading.specs.Admitted.{refused_not_read, read_lets_through}
use Rattle.equivalence.specs.Threads.{thread_of}

-- a thread that a history may name
abbrev pub Thread : Event → Type 0
Thread e = thread_of e ≤ most_producers

-- The words are those of a history that reading lets through.
pub record Spelled (ws : List ℕ) (h : History) : Type 0 where
  pub are_words : ws ≡ words_of h
  pub threads : All Thread h
  pub formed : well_formed h ≡ true
  pub few : length h ≤ most_events

given_event : (b : Bool) (e f : Event) → given b e ≡ some f → (b ≡ true) × (e ≡ f)
given_event true e f q = (refl, cc)
given_event false e f q = absurd (let z : ◌≡◌ {A = ℕ} 0 1 = cc in omega arith)

-- Four words that are an event are its words.
record Decoded (k t n v : ℕ) (e : Event) : Type 0 where
  encodes : encode e ≡ k ∷ t ∷ n ∷ v ∷ []
  thread : Thread e

producer_thread : (t n : ℕ) → (is_producer t && leb 1 n) ≡ true → t ≤ most_producers
producer_thread t n e =
    leb-true t most_producers ((and-eq-true_iff (leb 1 t) (leb t most_producers)).0 ((and-eq-true_iff (is_producer t) (leb 1 n)).0 e).0).1

zeros : (t n v : ℕ) → (eqb t 0 && eqb n 0 && eqb v 0) ≡ true → (t ≡ 0) × (n ≡ 0) × (v ≡ 0)
zeros t n v e =
    let a = (and-eq-true_iff (eqb t 0 && eqb n 0) (eqb v 0)).0 e in
    let b = (and-eq-true_iff (eqb t 0) (eqb n 0)).0 a.0 in
    (eqb-true t 0 b.0, eqb-true n 0 b.1, eqb-true v 0 a.1)

decoded : (k t n v : ℕ) (e : Event) → decode k t n v ≡ some e → Decoded k t n v e
unfolding decode
decoded zero t n v e q = absurd (let z : ◌≡◌ {A = ℕ} 0 1 = cc in omega arith)
decoded (suc zero) t n v e q =
    let g = given_event (is_producer t && leb 1 n) (enqueue_started t n v) e q in
    rw (← g.1) (record { encodes = refl; thread = producer_thread t n g.0 })
decoded (suc (suc zero)) t n v e q =
    let g = given_event (is_producer t && leb 1 n) (enqueue_ended t n v) e q in
    rw (← g.1) (record { encodes = refl; thread = producer_thread t n g.0 })
decoded (suc (suc (suc zero))) t n v e q =
    let g = given_event (eqb t 0 && eqb n 0 && eqb v 0) dequeue_started e q in
    let z = zeros t n v g.0 in
    rw (← g.1, z.0, z.1, z.2) (record { encodes = refl; thread = omega arith })
decoded (suc (suc (suc (suc zero)))) t n v e q =
    let g = given_event (eqb t 0 && leb 1 n) (gave_item n v) e q in
    let z = eqb-true t 0 ((and-eq-true_iff (eqb t 0) (leb 1 n)).0 g.0).0 in
    rw (← g.1, z) (record { encodes = refl; thread = omega arith })
decoded (suc (suc (suc (suc (suc zero))))) t n v e q =
    let g = given_event (eqb t 0 && eqb n 0 && eqb v 0) gave_empty e q in
    let z = zeros t n v g.0 in
    rw (← g.1, z.0, z.1, z.2) (record { encodes = refl; thread = omega arith })
decoded (suc (suc (suc (suc (suc (suc k)))))) t n v e q = absurd (let z : ◌≡◌ {A = ℕ} 0 1 = cc in omega arith)

-- The events of the words, each in turn.
record Spells (g : History) (ws : List ℕ) (h : History) : Type 0 where
  are_words : words_of g ++ ws ≡ words_of h
  threads : All Thread h

same_history : (g h : History) → history g ≡ history h → g ≡ h
same_history g h e = cc

one_event :
    (k t n v : ℕ) (g : History) (ws : List ℕ) (h : History) (o : Option Event) → decode k t n v ≡ o → All Thread g
    → ((f : Event) → All Thread (f ∷ g) → read_events (f ∷ g) ws ≡ history h → Spells (f ∷ g) ws h)
    → read_event o g (λ x. read_events x ws) ≡ history h → Spells g (k ∷ t ∷ n ∷ v ∷ ws) h
unfolding words_of
one_event k t n v g ws h none d a next q = absurd (refused_not_read 12 h q)
one_event k t n v g ws h (some e) d a next q = go (follows e (calls g)) q
  where
    go : (b : Bool) → elim b [ true ↦ read_events (e ∷ g) ws | false ↦ refused 13 ] ≡ history h → Spells g (k ∷ t ∷ n ∷ v ∷ ws) h
    go true r =
        let was = decoded k t n v e d in
        let s = next e (was.thread, a) r in
        record {
          are_words = ap (λ x. words_of g ++ (x ++ ws)) (sym was.encodes) ∙ sym (append_assoc (words_of g) (encode e) ws) ∙ s.are_words;
          threads = s.threads;
        }
    go false r = absurd (refused_not_read 13 h r)

events_spell : (g : History) (ws : List ℕ) (h : History) → All Thread g → length ws % 4 ≡ 0 → read_events g ws ≡ history h → Spells g ws h
events_spell g [] h a m q =
    let e = same_history g h q in
    rw (← e) (record { are_words = append-nil (words_of g); threads = a })
events_spell g (x ∷ []) h a m q = absurd (omega arith)
events_spell g (x ∷ y ∷ []) h a m q = absurd (omega arith)
events_spell g (x ∷ y ∷ z ∷ []) h a m q = absurd (omega arith)
events_spell g (k ∷ t ∷ n ∷ v ∷ ws) h a m q =
    one_event k t n v g ws h (decode k t n v) refl a (λ f b r. events_spell (f ∷ g) ws h b (omega arith) r) q

pub read_spells : (ws : List ℕ) (h : History) → read most_events ws ≡ history h → Spelled ws h
unfolding read words_of
read_spells ws h q = go (eqb (length ws % 4) 0) (ltb most_events (length ws / 4)) refl refl q
  where
    go :
        (a b : Bool) → eqb (length ws % 4) 0 ≡ a → ltb most_events (length ws / 4) ≡ b
        → cond (not a || b) (refused 10) (cond b (refused 11) (read_events [] ws)) ≡ history h → Spelled ws h
    go false b e f r = absurd (refused_not_read 10 h r)
    go true true e f r = absurd (refused_not_read 10 h r)
    go true false e f r =
        let m = eqb-true (length ws % 4) 0 e in
        let s = events_spell [] ws h tt m r in
        let l = ltb-false most_events (length ws / 4) f in
        record {
          are_words = s.are_words;
          threads = s.threads;
          formed = (rw q at (read_lets_through most_events ws)).formed;
          few = omega (arith, length_words h, ap length s.are_words);
        }
