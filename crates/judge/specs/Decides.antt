-- What the judge's reply and the words that it writes mean: a refusal exactly when the words are refused, explained exactly when the
-- history is linearizable, and then the order in the buffer shows it.
use Rattle.std.specs.Prelude.{◌≡◌, refl, ◌↔◌, ◌≢◌, Bool, true, false, cond, List, ℕ, ◌<◌, ltb, length, take, drop, Option, None, Some, Result, Ok, Err}
use Rattle.std.proofs.Common.{ap, sym, ◌∙◌, arith, ltb-true, lt-ltb}
use Rattle.std.proofs.Math.Seq.{take-append_seam, drop-append_seam}
use Rattle.history.specs.Event.{History}
use Rattle.history.specs.Calls.{calls}
use Rattle.history.specs.Form.{Reading, refused, history, read}
use Rattle.history.specs.Linearization.{Linearizable}
use Rattle.history.specs.Shows.{Shows}
use Rattle.criterion.specs.Pass.{explains}
use Rattle.criterion.specs.Criterion.{verdict}
use Rattle.criterion.specs.Order.{order_numbers}
use Rattle.criterion.specs.Shown.{order_shows}
use Rattle.judge.specs.declared.Call.{Call}
use Rattle.judge.specs.Contract.{admit, judged, reply, written, order_written}
use Rattle.reading.specs.Admitted.{refused_not_read, LetThrough, read_lets_through}
use Rattle.judge.specs.Admitted.{judged_admitted}

-- what two replies that are one say
explained_only :
    (k n : ℕ) (b : Bool) → ◌≡◌ {A = Result (Option ℕ) ℕ} (Ok (cond b (Some k) None)) (Ok (Some n)) → (b ≡ true) × (k ≡ n)
explained_only k n true e = (refl, cc)
explained_only k n false e = absurd (cc)

unexplained_only : (k : ℕ) (b : Bool) → ◌≡◌ {A = Result (Option ℕ) ℕ} (Ok (cond b (Some k) None)) (Ok None) → b ≡ false
unexplained_only k true e = absurd (cc)
unexplained_only k false e = refl

-- On words that are admitted as a history the judge says explained, with the length of its order, exactly when it is linearizable, and
-- else unexplained.
pub explained_exactly_when_linearizable :
    (entries room : ℕ) (words : List ℕ) (h : History) → judged entries room words ≡ history h
    → (reply (judged entries room words) ≡ Ok (Some (length (order_numbers (calls h))))) ↔ Linearizable h
explained_exactly_when_linearizable entries room words h e =
    let v = verdict h (judged_admitted entries room words h e).formed in
    let count = length (order_numbers (calls h)) in (
      λ x. v.0 (explained_only count count (explains h) (sym (ap reply e) ∙ x)).0,
      λ l. ap reply e ∙ ap (λ b. Ok (cond b (Some count) None)) (v.1 l),
    )

-- The judge refuses with a number exactly when the words are refused with it.
pub refused_exactly_when_not_admitted :
    (entries room : ℕ) (words : List ℕ) (n : ℕ) → (reply (judged entries room words) ≡ Err n) ↔ (judged entries room words ≡ refused n)
refused_exactly_when_not_admitted entries room words n = (only (judged entries room words), λ e. ap reply e)
  where
    only : (x : Reading) → reply x ≡ Err n → x ≡ refused n
    only (refused k) e = ap refused (cc)
    only (history h) e = absurd (cc)

-- That is 16 exactly when the words are read as a history with more calls than the buffer has words, and any other number exactly
-- when reading refuses with it (document 01's table, 10 to 13).
pub refused_for_room_exactly_when_more_calls :
    (entries room : ℕ) (words : List ℕ)
    → (judged entries room words ≡ refused 16) ↔ ((h : History) × (read entries words ≡ history h) × (room < length (calls h)))
refused_for_room_exactly_when_more_calls entries room words = (
  from (read entries words) refl (read_lets_through entries words),
  λ x. ap (admit room) x.1 ∙ ap (λ b. cond b (refused 16) (history x.0)) (lt-ltb room (length (calls x.0)) x.2),
)
  where
    from :
        (x : Reading) → read entries words ≡ x → LetThrough entries words x → admit room x ≡ refused 16
        → (h : History) × (read entries words ≡ history h) × (room < length (calls h))
    from (refused k) i l e = absurd (let z : k ≡ 16 = cc in omega arith)
    from (history h) i l e = next (ltb room (length (calls h))) refl e
      where
        next :
            (b : Bool) → ltb room (length (calls h)) ≡ b → cond b (refused 16) (history h) ≡ refused 16
            → (g : History) × (read entries words ≡ history g) × (room < length (calls g))
        next true p e = (h, i, ltb-true room (length (calls h)) p)
        next false p e = absurd (refused_not_read 16 h (sym e))

pub refused_else_exactly_when_reading_refuses :
    (entries room : ℕ) (words : List ℕ) (n : ℕ) → n ≢ 16 → (judged entries room words ≡ refused n) ↔ (read entries words ≡ refused n)
refused_else_exactly_when_reading_refuses entries room words n other = (from (read entries words), λ e. ap (admit room) e)
  where
    from : (x : Reading) → admit room x ≡ refused n → x ≡ refused n
    from (refused k) e = e
    from (history h) e = next (ltb room (length (calls h))) e
      where
        next : (b : Bool) → cond b (refused 16) (history h) ≡ refused n → history h ≡ refused n
        next true e = absurd (other (let z : n ≡ 16 = cc in z))
        next false e = e

-- What is replied explained was admitted as a history.
pub explained_was_admitted : (x : Reading) (n : ℕ) → reply x ≡ Ok (Some n) → (h : History) × (x ≡ history h)
explained_was_admitted (refused k) n e = absurd (cc)
explained_was_admitted (history h) n e = (h, refl)

-- Where the reply is explained, the first words of the buffer, as many as the reply says, show the history.
pub explained_order_shows :
    (entries room : ℕ) (words order : List ℕ) (h : History) (n : ℕ) → judged entries room words ≡ history h
    → reply (judged entries room words) ≡ Ok (Some n) → Shows h (take n (order_written (judged entries room words) order))
explained_order_shows entries room words order h n i e =
    let ns = order_numbers (calls h) in
    let only = explained_only (length ns) n (explains h) (sym (ap reply i) ∙ e) in
    rw (i, only.0, ← only.1, take-append_seam ns (drop (length ns) order))
    (order_shows h (judged_admitted entries room words h i).formed only.0)

-- The words past those are as they were; on any other reply all are, and where it is a refusal the table is too.
pub words_past_the_order_stay :
    (x : Reading) (order : List ℕ) (n : ℕ) → reply x ≡ Ok (Some n) → drop n (order_written x order) ≡ drop n order
words_past_the_order_stay (refused k) order n e = absurd (cc)
words_past_the_order_stay (history h) order n e =
    let ns = order_numbers (calls h) in
    let only = explained_only (length ns) n (explains h) e in
    rw (only.0, ← only.1) (drop-append_seam ns (drop (length ns) order))

pub unexplained_leaves_order : (x : Reading) (order : List ℕ) → reply x ≡ Ok None → order_written x order ≡ order
unexplained_leaves_order (refused k) order e = absurd (cc)
unexplained_leaves_order (history h) order e = rw (unexplained_only (length (order_numbers (calls h))) (explains h) e)

pub refused_leaves_all :
    (x : Reading) (order : List ℕ) (table : List Call) (n : ℕ) → reply x ≡ Err n → (order_written x order ≡ order) × (written x table ≡ table)
refused_leaves_all (refused k) order table n e = (refl, refl)
refused_leaves_all (history h) order table n e = absurd (cc)
