-- The line by places among the calls is the order's: the enqueues of the items given, then those of the items left. A call's starting
-- number is its place plus one.
use mathlib.Core.Path.{◌≡◌, refl, sym, ap, ◌∙◌}
use mathlib.Core.Logic.{◌⊎◌, inl, inr, ◌≢◌}
use mathlib.Core.Bool.{Bool, true, false, ◌&&◌, ◌||◌, not, cond, or_assoc}
use mathlib.Core.List.{List, [], ◌∷◌, ◌++◌, map, append_assoc}
use Prim.Native.Nat.{ℕ, zero, suc, ◌≤◌, ◌<◌, suc-le-suc}
use native.Mathlib.Omega.{arith}
use native.Mathlib.Numerals.{add-one}
use lib.Dec.{eqb}
use lib.ListN.{length, get_or, length-append}
use borrow.Author.Tests.{eqb-true, eqb-false, eq-eqb, ne_eqb}
use Rattle.std.specs.List.{filter, range_with_len}
use Rattle.std.proofs.lemmas.List.{map-id}
use Rattle.std.proofs.lemmas.List.FromFn.{filter_of_map_range_with_len_more}
use Rattle.history.specs.Lists.{All}
use Rattle.history.specs.Calls.{Enqueue, Call, start_of}
use Rattle.history.specs.Form.{any}
use Rattle.criterion.specs.Members.{all_append}
use Rattle.criterion.specs.Parts.{gather, dequeue_of, dequeues_of, look, gives}
use Rattle.criterion.specs.Pass.{has}
use Rattle.criterion.specs.Order.{look_answer, taken, if_left, remain, starting_number}
use Rattle.reading.specs.Build.{build}
use Rattle.reading.specs.Table.{start_at, end_at, answer_at, thread_at, number_at, value_at, call_of, call_at, calls_in}
use Rattle.reading.proofs.Logic.{same_or_not}
use Rattle.reading.proofs.Builds.{build_snoc}
use Rattle.marking.specs.Marks.{Numbered, Located, enqueue_at}
use Rattle.marking.proofs.Passing.{looked}
use Rattle.laying.specs.Line.{count_to, gather_to, answers_at, gives_at, item_at, is_left, left_at}

-- Lists that are put together.
gather_append : {A B : Type 0} (f : A → List B) (xs ys : List A) → gather f (xs ++ ys) ≡ gather f xs ++ gather f ys
gather_append f [] ys = refl
gather_append f (x ∷ xs) ys = ap (λ z. f x ++ z) (gather_append f xs ys) ∙ sym (append_assoc (f x) (gather f xs) (gather f ys))

pub map_append : {A B : Type 0} (f : A → B) (xs ys : List A) → map f (xs ++ ys) ≡ map f xs ++ map f ys
map_append f [] ys = refl
map_append f (x ∷ xs) ys = ap (λ z. f x ∷ z) (map_append f xs ys)

any_append : (p : Call → Bool) (xs ys : List Call) → any p (xs ++ ys) ≡ (any p xs || any p ys)
any_append p [] ys = refl
any_append p (x ∷ xs) ys = ap (λ z. p x || z) (any_append p xs ys) ∙ sym (or_assoc (p x) (any p xs) (any p ys))

pub has_append : (i : ℕ) (xs ys : List ℕ) → has i (xs ++ ys) ≡ (has i xs || has i ys)
has_append i [] ys = refl
has_append i (x ∷ xs) ys = ap (λ z. eqb x i || z) (has_append i xs ys) ∙ sym (or_assoc (eqb x i) (has i xs) (has i ys))

pub all_get_d : (P : ℕ → Type 0) (xs : List ℕ) (k : ℕ) → All P xs → k < length xs → P (get_or xs k 0)
all_get_d P [] k a l = absurd (omega arith)
all_get_d P (x ∷ xs) zero a l = a.0
all_get_d P (x ∷ xs) (suc k) a l = all_get_d P xs k a.1 (omega arith)

-- Starting numbers.
starting :
    (f : ℕ → Call) (c i : ℕ) → ((a b : ℕ) → a < b → b < c → start_of (f a) < start_of (f b)) → i < c
    → starting_number (build f c) (f i) ≡ suc i
starting f zero i r l = absurd (omega arith)
starting f (suc c) zero r l = let e = eq-eqb (start_of (f 0)) (start_of (f 0)) refl in rw e
starting f (suc c) (suc i) r l =
    let e = ne_eqb (start_of (f 0)) (start_of (f (suc i))) (λ z. let o = r 0 (suc i) (omega arith) l in omega arith) in
    rw e (ap suc (starting (λ j. f (suc j)) c i (λ a b o k. r (suc a) (suc b) (suc-le-suc o) (suc-le-suc k)) (omega arith)))

start_of_lem : (t n v s e a : ℕ) → start_of (call_of t n v s e a) ≡ s
start_of_lem zero n v s e a = refl
start_of_lem (suc t) n v s e a = refl

pub starting_number_lem :
    (m : List ℕ) (c i : ℕ) → ((i j : ℕ) → i < j → j < c → start_at m i < start_at m j) → i < c
    → starting_number (calls_in m c) (call_at m i) ≡ suc i
starting_number_lem m c i r l = starting (call_at m) c i (λ a b o k. rw (at a, at b) (r a b o k)) l
  where
    at : (j : ℕ) → start_of (call_at m j) ≡ start_at m j
    at j = start_of_lem (thread_at m j) (number_at m j) (value_at m j) (start_at m j) (end_at m j) (answer_at m j)

-- What one call gives, by its words.
pub not_zero : (n : ℕ) → eqb (suc n) 0 ≡ false
not_zero n = ne_eqb (suc n) 0 (λ q. omega arith)

cond_neither : (a b : Bool) (xs ys : List ℕ) → cond (not a && not b) xs ys ≡ cond (a || b) ys xs
cond_neither true b xs ys = refl
cond_neither false true xs ys = refl
cond_neither false false xs ys = refl

module _ (cs : List Call) (f : ℕ → Enqueue) where
  item_word :
      (t n v s e a i : ℕ) → (t ≡ 0 → e ≢ 0 → a ≢ 0 → look a cs ≡ f i ∷ [])
      → map f (cond (eqb t 0 && not (eqb e 0) && not (eqb a 0)) (i ∷ []) [])
      ≡ gather (λ d. look_answer cs d.answer) (dequeue_of (call_of t n v s e a) ++ [])
  item_word (suc t) n v s e a i h = rw (not_zero t)
  item_word zero n v s zero a i h = refl
  item_word zero n v s (suc e) zero i h = rw (not_zero e)
  item_word zero n v s (suc e) (suc a) i h =
      let z = h refl (λ q. omega arith) (λ q. omega arith) in
      rw (not_zero e, not_zero a, z)

  left_word :
      (t n v s e a i : ℕ) (b : Bool) → f i ≡ record { thread = t; number = n; value = v; start = s; end = e }
      → (t ≢ 0 → b ≡ any (gives n) cs) → map f (cond (not (eqb t 0) && not (eqb e 0) && not b) (i ∷ []) []) ≡ if_left cs (call_of t n v s e a) ++ []
  left_word zero n v s e a i b q h = refl
  left_word (suc t) n v s e a i b q h =
      rw (not_zero t)
      (ap (map f) (cond_neither (eqb e 0) b (i ∷ []) []) ∙ go (eqb e 0 || b) (ap (λ z. eqb e 0 || z) (h (λ z. omega arith))))
    where
      go :
          (z : Bool) → z ≡ (eqb e 0 || any (gives n) cs)
          → map f (cond z [] (i ∷ []))
          ≡ cond (eqb e 0 || any (gives n) cs) [] (record { thread = suc t; number = n; value = v; start = s; end = e } ∷ []) ++ []
      go true w = rw (← w)
      go false w = rw (← w) (ap (λ z. z ∷ []) q)

has_word :
    (t n v s e a k i number : ℕ) → (t ≡ 0 → e ≢ 0 → a ≢ 0 → eqb a number ≡ eqb k i)
    → any (gives number) (call_of t n v s e a ∷ []) ≡ has i (cond (eqb t 0 && not (eqb e 0) && not (eqb a 0)) (k ∷ []) [])
has_word (suc t) n v s e a k i number h = rw (not_zero t)
has_word zero n v s zero a k i number h = refl
has_word zero n v s (suc e) zero k i number h = rw (not_zero e)
has_word zero n v s (suc e) (suc a) k i number h =
    let z = h refl (λ q. omega arith) (λ q. omega arith) in
    rw (not_zero e, not_zero a, z)

answer_word : (t n v s e a : ℕ) → length (dequeue_of (call_of t n v s e a) ++ []) ≡ cond (eqb t 0 && not (eqb e 0)) 1 0
answer_word (suc t) n v s e a = rw (not_zero t)
answer_word zero n v s zero a = refl
answer_word zero n v s (suc e) zero = rw (not_zero e)
answer_word zero n v s (suc e) (suc a) = rw (not_zero e)

length_cond : (b : Bool) (i : ℕ) → length (cond b (i ∷ []) []) ≡ cond b 1 0
length_cond true i = refl
length_cond false i = refl

short_cond : (b : Bool) (i : ℕ) → length (cond b [] (i ∷ [])) ≤ 1
short_cond true i = omega arith
short_cond false i = omega arith

-- How many there are.
pub short_gather : (f : ℕ → List ℕ) → ((j : ℕ) → length (f j) ≤ 1) → (n : ℕ) → length (gather_to f n) ≤ n
short_gather f h zero = omega arith
short_gather f h (suc n) = let e = length-append (gather_to f n) (f n) in let r = short_gather f h n in let o = h n in omega arith

pub all_gather :
    (P : ℕ → Type 0) (f : ℕ → List ℕ) (n : ℕ) → ((j : ℕ) → j < n → All P (f j)) → All P (gather_to f n)
all_gather P f zero h = tt
all_gather P f (suc n) h = all_append P (gather_to f n) (f n) (all_gather P f n (λ j l. h j (omega arith))) (h n (omega arith))

pub count_is : (f : ℕ → Bool) (n : ℕ) → length (filter f (range_with_len 0 n)) ≡ count_to f n
count_is f zero = refl
count_is f (suc n) =
    let more = simp map-id at (filter_of_map_range_with_len_more f (λ j. j) 0 n n (omega arith)) in
    ap (λ k. length (filter f (range_with_len 0 k))) (sym (add-one n))
    ∙ ap length more
    ∙ length-append (filter f (range_with_len 0 n)) (cond (f n) (n ∷ []) [])
    ∙ (let r = count_is f n in let o = length_cond (f n) n in cc)

module _ (m : List ℕ) where
  pub answers_count : (n : ℕ) → length (dequeues_of (calls_in m n)) ≡ count_to (answers_at m) n
  answers_count zero = refl
  answers_count (suc n) =
      ap (λ z. length (gather dequeue_of z)) (build_snoc (call_at m) n)
      ∙ ap length (gather_append dequeue_of (calls_in m n) (call_at m n ∷ []))
      ∙ length-append (dequeues_of (calls_in m n)) (gather dequeue_of (call_at m n ∷ []))
      ∙ (let r = answers_count n in
      let o = answer_word (thread_at m n) (number_at m n) (value_at m n) (start_at m n) (end_at m n) (answer_at m n) in
      cc)

  pub items_count : (items : List ℕ) (n : ℕ) → length (gather_to (item_at m items) n) ≡ count_to (gives_at m) n
  items_count items zero = refl
  items_count items (suc n) =
      length-append (gather_to (item_at m items) n) (item_at m items n)
      ∙ (let r = items_count items n in
      let o = length_cond (eqb (thread_at m n) 0 && not (eqb (end_at m n) 0) && not (eqb (answer_at m n) 0)) (get_or items n 0) in
      cc)

-- The line.
module _ (m items : List ℕ) (c : ℕ) (numbered : Numbered m c) (located : Located m items c c) where
  abbrev cs : List Call
  cs = calls_in m c

  -- a place among the calls where an enqueue stands
  abbrev pub Stands : ℕ → Type 0
  Stands i = (i < c) × (thread_at m i ≢ 0)

  stands_item : (j : ℕ) → j < c → thread_at m j ≡ 0 → end_at m j ≢ 0 → answer_at m j ≢ 0 → Stands (get_or items j 0)
  stands_item j l t e a =
      let k = located j l t e a in
      (k.0, λ z. a (sym k.1 ∙ numbered.plain (get_or items j 0) k.0 z))

  pub items_stand : (n : ℕ) → n ≤ c → All Stands (gather_to (item_at m items) n)
  items_stand n l = all_gather Stands (item_at m items) n (λ j o. go j (omega arith) (thread_at m j) (end_at m j) (answer_at m j) (stands_item j (omega arith)))
    where
      go :
          (j : ℕ) → j < c → (t e a : ℕ) → (t ≡ 0 → e ≢ 0 → a ≢ 0 → Stands (get_or items j 0))
          → All Stands (cond (eqb t 0 && not (eqb e 0) && not (eqb a 0)) (get_or items j 0 ∷ []) [])
      go j o (suc t) e a h = rw (not_zero t) tt
      go j o zero zero a h = tt
      go j o zero (suc e) zero h = rw (not_zero e) tt
      go j o zero (suc e) (suc a) h =
          let z = h refl (λ q. omega arith) (λ q. omega arith) in
          rw (not_zero e, not_zero a) (z, tt)

  pub items_taken : (n : ℕ) → n ≤ c → map (enqueue_at m) (gather_to (item_at m items) n) ≡ taken cs (dequeues_of (calls_in m n))
  items_taken zero l = refl
  items_taken (suc n) l =
      map_append (enqueue_at m) (gather_to (item_at m items) n) (item_at m items n)
      ∙ (let r = items_taken n (omega arith) in
      let o =
      item_word cs (enqueue_at m) (thread_at m n) (number_at m n) (value_at m n) (start_at m n) (end_at m n) (answer_at m n) (get_or items n 0)
      (λ t e a. let k = located n l t e a in looked m c numbered n 0 t e a (get_or items n 0) k.0 k.1) in
      cc)
      ∙ sym (gather_append (λ d. look_answer cs d.answer) (dequeues_of (calls_in m n)) (gather dequeue_of (call_at m n ∷ [])))
      ∙ ap (taken cs) (sym (gather_append dequeue_of (calls_in m n) (call_at m n ∷ [])))
      ∙ ap (λ z. taken cs (dequeues_of z)) (sym (build_snoc (call_at m) n))

  -- an item was given exactly if its enqueue is in the line of those
  same_number : (i k : ℕ) → i < c → k < c → number_at m k ≢ 0 → eqb (number_at m k) (number_at m i) ≡ eqb k i
  same_number i k l o d = go (eqb k i) refl
    where
      go : (b : Bool) → eqb k i ≡ b → eqb (number_at m k) (number_at m i) ≡ b
      go true e = eq-eqb _ _ (ap (number_at m) (eqb-true k i e))
      go false e = ne_eqb _ _ (λ z. eqb-false k i e (numbered.distinct k i o l z d))

  pub given_has : (i : ℕ) → i < c → (n : ℕ) → n ≤ c → any (gives (number_at m i)) (calls_in m n) ≡ has i (gather_to (item_at m items) n)
  given_has i b zero l = refl
  given_has i b (suc n) l =
      ap (any (gives (number_at m i))) (build_snoc (call_at m) n)
      ∙ any_append (gives (number_at m i)) (calls_in m n) (call_at m n ∷ [])
      ∙ (let r = given_has i b n (omega arith) in
      let o =
      has_word (thread_at m n) (number_at m n) (value_at m n) (start_at m n) (end_at m n) (answer_at m n) (get_or items n 0) i (number_at m i)
      (λ t e a. let k = located n l t e a in
      ap (λ z. eqb z (number_at m i)) (sym k.1) ∙ same_number i (get_or items n 0) b k.0 (λ z. a (sym k.1 ∙ z))) in
      cc)
      ∙ sym (has_append i (gather_to (item_at m items) n) (item_at m items n))

  -- the rest of the line
  module _ (flags : List Bool) (flagged : (i : ℕ) → i < c → get_or flags i false ≡ has i (gather_to (item_at m items) c)) where
    pub left_stand : (n : ℕ) → n ≤ c → All Stands (gather_to (left_at m flags) n)
    left_stand n l = all_gather Stands (left_at m flags) n (λ j o. go j (omega arith) (same_or_not (thread_at m j) 0))
      where
        go : (j : ℕ) → j < c → (thread_at m j ≡ 0) ⊎ (thread_at m j ≢ 0) → All Stands (left_at m flags j)
        go j o (inl e) = let z = eq-eqb (thread_at m j) 0 e in rw z tt
        go j o (inr d) = by (is_left m flags j)
          where
            by : (b : Bool) → All Stands (cond b (j ∷ []) [])
            by true = ((o, d), tt)
            by false = tt

    left_remain_to : (n : ℕ) → n ≤ c → map (enqueue_at m) (gather_to (left_at m flags) n) ≡ gather (if_left cs) (calls_in m n)
    left_remain_to zero l = refl
    left_remain_to (suc n) l =
        map_append (enqueue_at m) (gather_to (left_at m flags) n) (left_at m flags n)
        ∙ (let r = left_remain_to n (omega arith) in
        let o =
        left_word cs (enqueue_at m) (thread_at m n) (number_at m n) (value_at m n) (start_at m n) (end_at m n) (answer_at m n) n (get_or flags n false) refl
        (λ t. flagged n l ∙ sym (given_has n l c (omega arith))) in
        cc)
        ∙ sym (gather_append (if_left cs) (calls_in m n) (call_at m n ∷ []))
        ∙ ap (gather (if_left cs)) (sym (build_snoc (call_at m) n))

    pub line_is :
        map (enqueue_at m) (gather_to (item_at m items) c ++ gather_to (left_at m flags) c) ≡ taken cs (dequeues_of cs) ++ remain cs
    line_is =
        map_append (enqueue_at m) (gather_to (item_at m items) c) (gather_to (left_at m flags) c)
        ∙ (let r = left_remain_to c (omega arith) in let o = items_taken c (omega arith) in cc)
