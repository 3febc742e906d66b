-- What the check's reply means. It says yes exactly when the numbers show that the history is linearizable; it refuses exactly when
-- the words are refused, with 10, 12 or 13.
use Rattle.std.specs.Prelude.{◌≡◌, refl, ◌⊎◌, ◌≢◌, ◌↔◌, Bool, true, false, ◌||◌, not, List, [], ◌∷◌, ℕ, suc, ◌+◌, ◌<◌, ◌≤◌, eqb, length, get_or, Ok, Err}
use Rattle.std.proofs.Common.{sym, ap, subst, ◌∙◌, inl, inr, arith, eqb-true, eq-eqb}
use Rattle.std.proofs.lemmas.Bool.{eqb-false}
use Rattle.history.specs.Lists.{All, Pairwise, Member}
use Rattle.history.specs.Event.{History}
use Rattle.history.specs.Calls.{Call, start_of, end_of, calls}
use Rattle.history.specs.Form.{most_events, Reading, refused, history, read}
use Rattle.history.specs.Linearization.{Precedes, run, Linearizable}
use Rattle.reading.specs.Admitted.{Refusal, refused_by_10_12_or_13}
use Rattle.history.specs.Shows.{no_call, numbered, listed, Numbers, Shows}
use Rattle.order_check.specs.Check.{every, every_two, is_some, has, is_number, precedes, orderly, keeps, is_order, checked}
use Rattle.history.specs.Starts.{start_tells_number}
use Rattle.order_check.specs.Tests.{both, and_true, either, not_then, then_not, every_all, all_every, every_two_pairwise, pairwise_every_two, is_some_lem, all_at, in_map, from_map, all_map, has_member, member_has, is_number_lem, number_is, numbered_member, precedes_true, true_precedes}

-- what the tests of `orderly` say, one by one
pub record Orderly (cs : List Call) (ns : List ℕ) : Type 0 where
  pub numbers : every (is_number cs) ns ≡ true
  pub once : every_two (λ a b. not (eqb a b)) ns ≡ true
  pub timely : every_two (λ a b. not (precedes b a)) (listed cs ns) ≡ true
  pub runs : is_some (run [] (listed cs ns)) ≡ true

pub orderly_parts : (cs : List Call) (ns : List ℕ) → orderly cs ns ≡ true → Orderly cs ns
unfolding orderly
orderly_parts cs ns e =
    let a = both _ (is_some (run [] (listed cs ns))) e in
    let b = both _ (every_two (λ a b. not (precedes b a)) (listed cs ns)) a.0 in
    let c = both _ (every_two (λ a b. not (eqb a b)) ns) b.0 in
    record { numbers = c.0; once = c.1; timely = b.1; runs = a.1 }

pub parts_orderly : (cs : List Call) (ns : List ℕ) → Orderly cs ns → orderly cs ns ≡ true
unfolding orderly
parts_orderly cs ns p = rw (p.numbers, p.once, p.timely, p.runs)

-- All ended calls are kept: by number, and by membership.
module _ (h : History) (ns : List ℕ) (numbers : All (Numbers (calls h)) ns) where
  abbrev Kept : Call → Type 0
  Kept c = end_of c ≢ 0 → Member c (listed (calls h) ns)

  -- the calls from number n on
  abbrev From : ℕ → List Call → Type 0
  From n cs = (i k : ℕ) → k ≡ n + i → i < length cs → get_or cs i no_call ≡ numbered (calls h) k

  keeps_kept :
      (n : ℕ) (cs : List Call) → From n cs → keeps n cs ns ≡ true → All Kept cs
  keeps_kept n [] f e = tt
  keeps_kept n (c ∷ cs) f e =
      let b = both (eqb (end_of c) 0 || has n ns) (keeps (suc n) cs ns) e in
      (λ ended. here ended (either (eqb (end_of c) 0) (has n ns) b.0), keeps_kept (suc n) cs (λ i k e l. f (suc i) k (omega arith) (omega arith)) b.1)
    where
      here : end_of c ≢ 0 → (eqb (end_of c) 0 ≡ true) ⊎ (has n ns ≡ true) → Member c (listed (calls h) ns)
      here ended (inl z) = absurd (ended (eqb-true (end_of c) 0 z))
      here ended (inr m) =
          subst (λ x. Member x (listed (calls h) ns)) (sym (f 0 n (omega arith) (omega arith)))
          (in_map (numbered (calls h)) n ns (has_member n ns m))

  kept_keeps :
      (n : ℕ) (cs : List Call) → 1 ≤ n → n + length cs ≤ suc (length (calls h))
      → From n cs → All Kept cs → keeps n cs ns ≡ true
  kept_keeps n [] low few f k = refl
  kept_keeps n (c ∷ cs) low few f k =
      and_true (eqb (end_of c) 0 || has n ns) (keeps (suc n) cs ns) (here (eqb (end_of c) 0) refl)
      (kept_keeps (suc n) cs (omega arith) (omega arith) (λ i k e l. f (suc i) k (omega arith) (omega arith)) k.1)
    where
      here : (b : Bool) → eqb (end_of c) 0 ≡ b → (b || has n ns) ≡ true
      here true z = refl
      here false z =
          let r = from_map (numbered (calls h)) c ns (k.0 (eqb-false (end_of c) 0 z)) in
          let e : numbered (calls h) r.0 ≡ numbered (calls h) n = sym r.2 ∙ f 0 n (omega arith) (omega arith) in
          let same = start_tells_number h r.0 n (all_at (Numbers (calls h)) ns numbers r.0 r.1) (low, omega arith) (ap start_of e) in
          member_has n ns (subst (λ x. Member x ns) same r.1)

-- No number twice, and no start twice.
once_starts :
    (h : History) (ns : List ℕ) → All (Numbers (calls h)) ns → Pairwise ◌≢◌ ns
    → Pairwise (λ a b. start_of a ≢ start_of b) (listed (calls h) ns)
once_starts h [] p o = tt
once_starts h (n ∷ ns) p o = (later ns p.1 o.0, once_starts h ns p.1 o.1)
  where
    later : (ks : List ℕ) → All (Numbers (calls h)) ks → All (λ k. n ≢ k) ks → All (λ b. start_of (numbered (calls h) n) ≢ start_of b) (listed (calls h) ks)
    later [] q d = tt
    later (k ∷ ks) q d = (λ e. d.0 (start_tells_number h n k p.0 q.0 e), later ks q.1 d.1)

starts_once : (cs : List Call) (ns : List ℕ) → Pairwise (λ a b. start_of a ≢ start_of b) (listed cs ns) → Pairwise ◌≢◌ ns
starts_once cs [] o = tt
starts_once cs (n ∷ ns) o = (later ns o.0, starts_once cs ns o.1)
  where
    later : (ks : List ℕ) → All (λ b. start_of (numbered cs n) ≢ start_of b) (listed cs ks) → All (λ k. n ≢ k) ks
    later [] d = tt
    later (k ∷ ks) d = (λ e. d.0 (ap (λ x. start_of (numbered cs x)) e), later ks d.1)

-- The check says yes to exactly the orders that are linearizations.
shown : (h : History) (ns : List ℕ) → is_order h ns ≡ true → Shows h ns
unfolding is_order
shown h ns e =
    let b = both (orderly (calls h) ns) (keeps 1 (calls h) ns) e in
    let p = orderly_parts (calls h) ns b.0 in
    let numbers = every_all (is_number (calls h)) (Numbers (calls h)) (is_number_lem (calls h)) ns p.numbers in
    let left = is_some_lem (run [] (listed (calls h) ns)) p.runs in
    record {
      numbers = numbers;
      left = left.0;
      linearizes = record {
        theirs = all_map (λ c. Member c (calls h)) (numbered (calls h)) ns (every_all (is_number (calls h)) (λ n. Member (numbered (calls h) n) (calls h)) (λ n i. numbered_member (calls h) n (is_number_lem (calls h) n i)) ns p.numbers);
        once =
            once_starts h ns numbers
            (every_two_pairwise (λ a b. not (eqb a b)) ◌≢◌ (λ a b t s. not_then (eqb a b) t (eq-eqb a b s)) ns p.once);
        whole = keeps_kept h ns numbers 1 (calls h) (λ i k e l. ap (λ j. get_or (calls h) j no_call) (omega arith)) b.1;
        timely =
            every_two_pairwise (λ a b. not (precedes b a)) (λ a b. Precedes b a → ⊥)
            (λ a b t s. not_then (precedes b a) t (precedes_true b a s)) (listed (calls h) ns) p.timely;
        runs = left.1;
      };
    }

shows : (h : History) (ns : List ℕ) → Shows h ns → is_order h ns ≡ true
unfolding is_order
shows h ns s =
    let l = s.linearizes in
    and_true (orderly (calls h) ns) (keeps 1 (calls h) ns)
    (parts_orderly (calls h) ns
    (record {
      numbers = all_every (is_number (calls h)) (Numbers (calls h)) (number_is (calls h)) ns s.numbers;
      once =
          pairwise_every_two (λ a b. not (eqb a b)) ◌≢◌ (λ a b d. then_not (eqb a b) (λ e. d (eqb-true a b e))) ns
          (starts_once (calls h) ns l.once);
      timely =
          pairwise_every_two (λ a b. not (precedes b a)) (λ a b. Precedes b a → ⊥)
          (λ a b d. then_not (precedes b a) (λ e. d (true_precedes b a e))) (listed (calls h) ns) l.timely;
      runs = rw l.runs;
    }))
    (kept_keeps h ns s.numbers 1 (calls h) (omega arith) (omega arith) (λ i k e l. ap (λ j. get_or (calls h) j no_call) (omega arith)) l.whole)

pub is_order_exactly_when_shows : (h : History) (ns : List ℕ) → (is_order h ns ≡ true) ↔ Shows h ns
is_order_exactly_when_shows h ns = (shown h ns, shows h ns)

-- On words that are read as a history the check says yes exactly when the order shows that it is linearizable, and else no.
pub yes_exactly_when_shows :
    (words order : List ℕ) (h : History) → read most_events words ≡ history h → (checked (read most_events words) order ≡ Ok true) ↔ Shows h order
yes_exactly_when_shows words order h e = (
  λ x. shown h order (let z : Ok (is_order h order) ≡ Ok true = sym (ap (λ r. checked r order) e) ∙ x in cc),
  λ s. ap (λ r. checked r order) e ∙ ap Ok (shows h order s),
)

-- So a yes alone, whoever wrote the order, is enough to accept the history as linearizable.
pub yes_linearizable : (words order : List ℕ) → checked (read most_events words) order ≡ Ok true → (h : History) × (read most_events words ≡ history h) × Linearizable h
yes_linearizable words order y = go (read most_events words) refl
  where
    go : (x : Reading) → read most_events words ≡ x → (h : History) × (read most_events words ≡ history h) × Linearizable h
    go (refused n) e = let z : Err n ≡ Ok true = sym (ap (λ r. checked r order) e) ∙ y in cc
    go (history h) e =
        let s = (yes_exactly_when_shows words order h e).0 y in
        (h, e, (listed (calls h) order, s.left, s.linearizes))

-- The check refuses with a number exactly when the words are refused with it.
pub refused_exactly_when_reading_refuses :
    (words order : List ℕ) (n : ℕ) → (checked (read most_events words) order ≡ Err n) ↔ (read most_events words ≡ refused n)
refused_exactly_when_reading_refuses words order n = (only (read most_events words), λ e. ap (λ r. checked r order) e)
  where
    only : (x : Reading) → checked x order ≡ Err n → x ≡ refused n
    only (refused k) e = ap refused (cc)
    only (history h) e = cc

-- The numbers that it refuses with: 11 is about a table, which it is not lent.
pub refusals_are_10_12_or_13 : (words order : List ℕ) (n : ℕ) → checked (read most_events words) order ≡ Err n → Refusal n
refusals_are_10_12_or_13 words order n e = refused_by_10_12_or_13 words n ((refused_exactly_when_reading_refuses words order n).0 e)
