-- The words of a history are read back as that history: no event of a well-formed, explained history whose enqueues have a
-- producer's thread and a call number is refused.
use Rattle.std.specs.Prelude.{◌≡◌, refl, Bool, true, false, List, [], ◌∷◌, ◌++◌, ℕ, ◌/◌, ◌%◌, ◌≤◌, leb, length}
use Rattle.std.proofs.Common.{ap, sym, ◌∙◌, ⊎_elim, append_assoc, append-nil, arith, le-ltb}
use Rattle.std.proofs.Math.Bool.{and-eq-true_iff}
use Rattle.std.proofs.Math.Option.{Option, some}
use Rattle.history.specs.Event.{Event, History, is_producer, decode, enqueue_started, enqueue_ended, dequeue_started, gave_item, gave_empty}
use Rattle.history.specs.Words.{encode, words_of}
use Rattle.history.specs.WordLaws.{length_words}
use Rattle.history.specs.Calls.{calls}
use Rattle.history.specs.Form.{follows, well_formed, refused, history, read_event, read_events, read}
use Rattle.criterion.specs.Explained.{Started, Explained}

-- a producer's thread and a call number
abbrev pub Names : (t n : ℕ) → Type 0
Names t n = (is_producer t ≡ true) × (leb 1 n ≡ true)

-- Every enqueue's start and end has them.
abbrev pub Named : History → Type 0
Named [] = Unit
Named (enqueue_started t n v ∷ h) = Names t n × Named h
Named (enqueue_ended t n v ∷ h) = Names t n × Named h
Named (dequeue_started ∷ h) = Named h
Named (gave_item n v ∷ h) = Named h
Named (gave_empty ∷ h) = Named h

started_named : (n v : ℕ) (h : History) → Named h → Started n v h → leb 1 n ≡ true
started_named n v [] a s = absurd s
started_named n v (enqueue_started t m w ∷ h) a s = ⊎_elim (λ e. rw e.0 a.0.1) (started_named n v h a.1) s
started_named n v (enqueue_ended t m w ∷ h) a s = started_named n v h a.1 s
started_named n v (dequeue_started ∷ h) a s = started_named n v h a s
started_named n v (gave_item m w ∷ h) a s = started_named n v h a s
started_named n v (gave_empty ∷ h) a s = started_named n v h a s

-- one event more
read_one : (kind t n v : ℕ) (e : Event) (h : History) (ws : List ℕ) → decode kind t n v ≡ some e → follows e (calls h) ≡ true → read_events h (kind ∷ t ∷ n ∷ v ∷ ws) ≡ read_events (e ∷ h) ws
read_one kind t n v e h ws d f =
    ap (λ (o : Option Event). read_event o h (λ g. read_events g ws)) d
    ∙ ap (λ (b : Bool). elim b [ true ↦ read_events (e ∷ h) ws | false ↦ refused 13 ]) f

reads : (h : History) → well_formed h ≡ true → Named h → Explained h → (ws : List ℕ) → read_events [] (words_of h ++ ws) ≡ read_events h ws
unfolding words_of decode
reads [] w a x ws = refl
reads (enqueue_started t n v ∷ h) w a x ws =
    let b = (and-eq-true_iff (follows (enqueue_started t n v) (calls h)) (well_formed h)).0 w in
    rw append_assoc (reads h b.1 a.1 x (encode (enqueue_started t n v) ++ ws))
    ∙ read_one 1 t n v (enqueue_started t n v) h ws (simp (a.0.0, a.0.1)) b.0
reads (enqueue_ended t n v ∷ h) w a x ws =
    let b = (and-eq-true_iff (follows (enqueue_ended t n v) (calls h)) (well_formed h)).0 w in
    rw append_assoc (reads h b.1 a.1 x (encode (enqueue_ended t n v) ++ ws))
    ∙ read_one 2 t n v (enqueue_ended t n v) h ws (simp (a.0.0, a.0.1)) b.0
reads (dequeue_started ∷ h) w a x ws =
    let b = (and-eq-true_iff (follows dequeue_started (calls h)) (well_formed h)).0 w in
    rw append_assoc (reads h b.1 a x (encode dequeue_started ++ ws)) ∙ read_one 3 0 0 0 dequeue_started h ws refl b.0
reads (gave_item n v ∷ h) w a x ws =
    let b = (and-eq-true_iff (follows (gave_item n v) (calls h)) (well_formed h)).0 w in
    rw append_assoc (reads h b.1 a x.1 (encode (gave_item n v) ++ ws))
    ∙ read_one 4 0 n v (gave_item n v) h ws (simp (started_named n v h a x.0.is_started)) b.0
reads (gave_empty ∷ h) w a x ws =
    let b = (and-eq-true_iff (follows gave_empty (calls h)) (well_formed h)).0 w in
    rw append_assoc (reads h b.1 a x.1 (encode gave_empty ++ ws)) ∙ read_one 5 0 0 0 gave_empty h ws refl b.0

-- The judge reads the words of at most 4,096 events as their history.
pub words_read : (h : History) → well_formed h ≡ true → Named h → Explained h → length h ≤ 4096 → read 4096 (words_of h) ≡ history h
unfolding read
words_read h w a x few =
    let l = length_words h in
    let m : length (words_of h) % 4 ≡ 0 = omega arith in
    let d : length (words_of h) / 4 ≡ length h = omega arith in
    let e : read_events [] (words_of h) ≡ history h = ap (read_events []) (sym (append-nil (words_of h))) ∙ reads h w a x [] in
    simp (m, d, le-ltb 4096 (length h) few, e)
