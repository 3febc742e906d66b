-- Reading the events, each in turn: what holds after k of them.
use mathlib.Core.Path.{◌≡◌, refl, ap, sym, subst, ◌∙◌}
use mathlib.Core.Bool.{Bool, true, false, cond}
use mathlib.Core.List.{List, [], ◌∷◌}
use mathlib.Core.Option.{Option, none, some}
use Rattle.std.specs.Prelude.{Result, Ok, Err}
use Prim.Native.Nat.{ℕ, suc, ◌+◌, ◌*◌, ◌/◌, ◌%◌, ◌≤◌, ◌<◌}
use mathlib.Core.Logic.{◌≢◌}
use borrow.Author.Tests.{ne_eqb, lt-ltb, le-ltb}
use native.Mathlib.Omega.{arith}
use lib.ListN.{length, get_or, drop, length-drop}
use lib.Seq.{drop-cons}
use Rattle.history.specs.Event.{Event, History, enqueue_started, enqueue_ended, dequeue_started, gave_item, gave_empty, decode}
use Rattle.history.specs.Calls.{calls, enter}
use Rattle.history.specs.Form.{Reading, refused, history, follows, read_event, read_events, read}
use Rattle.reading.specs.declared.Refusal.{Refusal}
use Rattle.reading.specs.declared.Refusal.TheVariants.{Form, Follows}
use Rattle.reading.specs.Refusal.{refusal_number}
use Rattle.reading.specs.Table.{Table, call_at, calls_in}
use Rattle.reading.specs.Steps.{started_by, Stepped, entered, Holds, Read}
use Rattle.reading.proofs.Builds.{length_build}

pub record Progress (ws m : List ℕ) (c k : ℕ) : Type 0 where
  pub past : History
  pub length_is : length past ≡ k
  pub are_calls : calls_in m c ≡ calls past
  pub table : Table m c
  pub few : c ≤ k
  pub to_come : read_events [] ws ≡ read_events past (drop (4 * k) ws)

pub none_read : (ws m : List ℕ) → Table m 0 → Progress ws m 0 0
none_read ws m table = record { past = []; length_is = refl; are_calls = refl; table = table; few = omega arith; to_come = refl }

-- the next four words
four :
    (ws : List ℕ) (i : ℕ) → i + 3 < length ws
    → drop i ws ≡ get_or ws i 0 ∷ get_or ws (i + 1) 0 ∷ get_or ws (i + 2) 0 ∷ get_or ws (i + 3) 0 ∷ drop (i + 4) ws
four ws i l =
    let a = drop-cons ws i 0 (omega arith) in
    let b = drop-cons ws (suc i) 0 (omega arith) in
    let c = drop-cons ws (suc (suc i)) 0 (omega arith) in
    let d = drop-cons ws (suc (suc (suc i))) 0 (omega arith) in
    let e₁ : i + 1 ≡ suc i = omega arith in
    let e₂ : i + 2 ≡ suc (suc i) = omega arith in
    let e₃ : i + 3 ≡ suc (suc (suc i)) = omega arith in
    let e₄ : i + 4 ≡ suc (suc (suc (suc i))) = omega arith in
    cc

same_history : (g h : History) → history g ≡ history h → g ≡ h
same_history g h e = cc

pub refused_not_read : (n : ℕ) (h : History) → refused n ≡ history h → ⊥
refused_not_read n h e = let z : ◌≡◌ {A = ℕ} 0 1 = cc in omega arith

-- an event that was taken in
record Taken (o : Option Event) (h : History) (k c : ℕ) (m : List ℕ) (d : ℕ) : Type 0 where
  event : Event
  is_event : o ≡ some event
  follows_on : follows event (calls h) ≡ true
  table : Table m d
  entered : calls_in m d ≡ enter k event (calls h)
  few : d ≤ c + 1

at_most_one : (e : Event) (c : ℕ) → started_by e c ≤ c + 1
at_most_one (enqueue_started t n v) c = omega arith
at_most_one (enqueue_ended t n v) c = omega arith
at_most_one dequeue_started c = omega arith
at_most_one (gave_item n v) c = omega arith
at_most_one gave_empty c = omega arith

module _ (h : History) (k : ℕ) (m : List ℕ) (c : ℕ) (m' : List ℕ) (r : Result ℕ Refusal) (are : calls_in m c ≡ calls h) where
  was_taken : (o : Option Event) (d : ℕ) → Stepped o k m c m' r → r ≡ Ok d → Taken o h k c m' d
  was_taken none d s e = absurd (let z : Err Form ≡ Ok d = sym s.replies ∙ e in cc)
  was_taken (some x) d s e = go (follows x (calls_in m c)) refl (sym e ∙ s.replies)
    where
      go : (b : Bool) → follows x (calls_in m c) ≡ b → Ok d ≡ cond b (Ok (started_by x c)) (Err Follows) → Taken (some x) h k c m' d
      go true f q =
          let z : started_by x c ≡ d = cc in
          let en = s.enters x refl in
          record {
            event = x;
            is_event = refl;
            follows_on = rw are at f;
            table = rw z at (en.table f);
            entered = rw (z, are) at (en.entered f);
            few = rw z at (at_most_one x c);
          }
      go false f q = absurd (cc)

  was_refused : (o : Option Event) (n : Refusal) (go : History → Reading) → Stepped o k m c m' r → r ≡ Err n → read_event o h go ≡ refused (refusal_number n)
  was_refused none n f s e = let z : Form ≡ n = cc (s.replies) in ap (λ i. refused (refusal_number i)) z
  was_refused (some x) n f s e = go (follows x (calls_in m c)) refl (sym e ∙ s.replies)
    where
      go : (b : Bool) → follows x (calls_in m c) ≡ b → Err n ≡ cond b (Ok (started_by x c)) (Err Follows) → read_event (some x) h f ≡ refused (refusal_number n)
      go true t q = absurd (cc)
      go false t q = let z : follows x (calls h) ≡ false = rw are at t in let y : Follows ≡ n = cc in rw (z, read_event) (ap (λ i. refused (refusal_number i)) y)

  reads_on : (o : Option Event) (x : Event) (go : History → Reading) → o ≡ some x → follows x (calls h) ≡ true → read_event o h go ≡ go (x ∷ h)
  reads_on o x go e f = rw (e, f, read_event)

module _ (ws m : List ℕ) (c k : ℕ) (p : Progress ws m c k) (more : 4 * k + 3 < length ws) (m' : List ℕ) (r : Result ℕ Refusal)
    (s :
    Stepped (decode (get_or ws (4 * k) 0) (get_or ws (4 * k + 1) 0) (get_or ws (4 * k + 2) 0) (get_or ws (4 * k + 3) 0)) (k + 1) m c m' r)
  where
    abbrev words : Option Event
    words = decode (get_or ws (4 * k) 0) (get_or ws (4 * k + 1) 0) (get_or ws (4 * k + 2) 0) (get_or ws (4 * k + 3) 0)

    onward : read_events [] ws ≡ read_event words p.past (λ g. read_events g (drop (4 * k + 4) ws))
    onward = p.to_come ∙ ap (read_events p.past) (four ws (4 * k) more)

    pub event_refused : (n : Refusal) → r ≡ Err n → read_events [] ws ≡ refused (refusal_number n)
    event_refused n e =
        onward ∙ was_refused p.past (k + 1) m c m' r p.are_calls words n (λ g. read_events g (drop (4 * k + 4) ws)) s e

    pub event_read : (d : ℕ) → r ≡ Ok d → Progress ws m' d (k + 1)
    event_read d e =
        let t = was_taken p.past (k + 1) m c m' r p.are_calls words d s e in
        let z : k + 1 ≡ suc (length p.past) = omega (arith, p.length_is) in
        let y : 4 * k + 4 ≡ 4 * (k + 1) = omega arith in
        record {
          past = t.event ∷ p.past;
          length_is = sym z;
          are_calls = rw (← z) t.entered;
          table = t.table;
          few = omega (arith, t.few, p.few);
          to_come =
              onward
              ∙ reads_on p.past (k + 1) m c m' r p.are_calls words t.event _ t.is_event t.follows_on
              ∙ ap (λ i. read_events (t.event ∷ p.past) (drop i ws)) y;
        }

-- fewer than four words are left
no_more : (h : History) (ws : List ℕ) → length ws < 4 → read_events h ws ≡ history h
no_more h [] l = refl
no_more h (a ∷ []) l = refl
no_more h (a ∷ b ∷ []) l = refl
no_more h (a ∷ b ∷ c ∷ []) l = refl
no_more h (a ∷ b ∷ c ∷ d ∷ ws) l = absurd (omega arith)

pub all_read :
    (ws m : List ℕ) (c k : ℕ) → Progress ws m c k → length ws / 4 ≤ k → k ≤ length ws / 4 → Read (read_events [] ws) (length ws / 4) m (Ok c)
all_read ws m c k p l u =
    let is_read : read_events [] ws ≡ history p.past = p.to_come ∙ no_more p.past (drop (4 * k) ws) (rw length-drop (omega arith)) in
    let count : c ≡ length (calls p.past) = sym (length_build (call_at m) c) ∙ ap length p.are_calls in
    let holds : Holds p.past (length ws / 4) m = record { are_calls = rw count at p.are_calls; table = rw count at p.table; few = omega (arith, p.few) } in
    record {
      replies = ap Ok count ∙ sym (ap entered is_read);
      holds = λ h e. subst (λ g. Holds g (length ws / 4) m) (same_history p.past h (sym is_read ∙ e)) holds;
    }

-- The words are refused.
pub is_refused : (x : Reading) (limit : ℕ) (m : List ℕ) (n : Refusal) → x ≡ refused (refusal_number n) → Read x limit m (Err n)
is_refused x limit m n e = record { replies = sym (ap entered e); holds = λ h f. absurd (refused_not_read (refusal_number n) h (sym e ∙ f)) }

-- Refusals 10 and 11, and neither.
module _ (entries : ℕ) (ws : List ℕ) where
  pub no_multiple : length ws % 4 ≢ 0 → read entries ws ≡ refused 10
  unfolding read
  no_multiple d = rw (ne_eqb (length ws % 4) 0 d)

  pub too_many : length ws % 4 ≡ 0 → 4096 < length ws / 4 → read entries ws ≡ refused 10
  unfolding read
  too_many e l = rw (e, lt-ltb 4096 (length ws / 4) l)

  pub too_few_entries : length ws % 4 ≡ 0 → length ws / 4 ≤ 4096 → entries < length ws / 4 → read entries ws ≡ refused 11
  unfolding read
  too_few_entries e l f = rw (e, le-ltb 4096 (length ws / 4) l, lt-ltb entries (length ws / 4) f)

  pub reads_all : length ws % 4 ≡ 0 → length ws / 4 ≤ 4096 → length ws / 4 ≤ entries → read entries ws ≡ read_events [] ws
  unfolding read
  reads_all e l f = rw (e, le-ltb 4096 (length ws / 4) l, le-ltb entries (length ws / 4) f)

pub same_reading : (x y : Reading) (limit : ℕ) (m : List ℕ) (r : Result ℕ Refusal) → x ≡ y → Read y limit m r → Read x limit m r
same_reading x y limit m r e p = rw e p
