-- The end of a drain, where it goes on, and what the code says of that (document 02, U5).
use Rattle.std.specs.Prelude.{◌≡◌, Bool, ℕ, zero, suc, ◌+◌, ◌-◌, ◌*◌, ◌<◌, ◌≤◌, get_or, set, take, drop, Ok, Err}
use Rattle.std.proofs.Math.Path.{refl, ap, sym}
use Rattle.std.proofs.Common.{ap₂, ◌∙◌, zero-add, length-append, length-drop, drop-drop, take_all}
use Rattle.std.proofs.Math.Bool.{true, false}
use mathlib.Core.List.{List, [], ◌∷◌, ◌++◌, append_assoc, append-nil}
use native.Mathlib.Omega.{arith}
use Rattle.std.proofs.Math.ListN.{length}
use Rattle.std.proofs.lemmas.List.Edits.{sets, sets-eq}
use Rattle.std.proofs.Math.Seq.{drop-length}
use borrow.Rule.Slice.PartMut.{mid_of, put_mid}
use borrow.Author.Tests.{le-ltb, lt-ltb}
use Rattle.history.specs.Linearization.{Item}
use Rattle.rules.specs.Sizes.{Sizes, most_drained, first_drain}
use Rattle.rules.specs.Cell.{Reader, reader, Write, write, writes, ◌:=◌, clear_consumer, clear_drain, consumer_phase, found_record, found_position, item_number, item_value, pair}
use Rattle.rules.specs.Rule.{Effect, reply, drained, goes}
use Rattle.rules.specs.Consumer.{pair_at, items_marked, goes_on}
use Rattle.rules.specs.Request.{applied, item_words}
use Rattle.store.specs.declared.Reply.TheVariants.{Drained}
use Rattle.store.specs.declared.Refusal.TheVariants.{BufferShort}
use Rattle.store.specs.Outcome.{items_at, left, leaves}
use Rattle.store.specs.Items.{items_at_lem, length_marked, words_more, sets_then}
use Rattle.store.specs.Words.{word_at, writes_then}
use Rattle.draining.specs.Room.{ends_at}

-- It ends with its first n items.
abbrev pub ends_with : (n : ℕ) → Sizes → Reader → Effect
ends_with n z σ = reply (drained (items_marked σ n)) (clear_consumer ∷ clear_drain ∷ [])

-- It goes back to phase 1.
abbrev pub to_front : List Write
to_front = found_record := 0 ∷ found_position := 0 ∷ item_number := 0 ∷ item_value := 0 ∷ consumer_phase := 1 ∷ []

abbrev pub onward : (n : ℕ) (ends : Bool) → Sizes → Reader → Effect
onward n true z σ = ends_with n z σ
onward n false z σ = goes to_front

-- the words of n pairs from a word on, pair by pair
abbrev pub pair_words : (m : List ℕ) (at n : ℕ) → List ℕ
pair_words m at zero = []
pair_words m at (suc n) = pair_words m at n ++ (get_or m (at + 2 * n) 0 ∷ get_or m (at + 2 * n + 1) 0 ∷ [])

length_pairs : (m : List ℕ) (at n : ℕ) → length (pair_words m at n) ≡ 2 * n
length_pairs m at zero = refl
length_pairs m at (suc n) = let h = length_pairs m at n in simp length-append (omega arith)

-- They go over one by one.
pub pair_more : (m l : List ℕ) (at n : ℕ)
    → set (set (sets l 0 (pair_words m at n)) (2 * n) (get_or m (at + 2 * n) 0)) (2 * n + 1) (get_or m (at + 2 * n + 1) 0) ≡ sets l 0 (pair_words m at (suc n))
pair_more m l at n =
    let ws = pair_words m at n in
    ap₂ (λ (x y : ℕ). set (set (sets l 0 ws) x (get_or m (at + 2 * n) 0)) y (get_or m (at + 2 * n + 1) 0)) {x = 2 * n} {y = 0 + length ws}
    (omega (arith, length_pairs m at n)) (omega (arith, length_pairs m at n))
    ∙ sym (sets_then ws (get_or m (at + 2 * n) 0 ∷ get_or m (at + 2 * n + 1) 0 ∷ []) l 0)

-- They are the items that the drain has marked.
pub pairs_are : (z : Sizes) (m : List ℕ) (at n : ℕ) → at ≡ first_drain z + 2 → n ≤ most_drained → pair_words m at n ≡ item_words (items_marked (reader z m) n)
pairs_are z m at zero e h = refl
pairs_are z m at (suc n) e h =
    let σ = reader z m in
    let number : get_or m (at + 2 * n) 0 ≡ σ (pair n 0) = ap (λ (x : ℕ). get_or m x 0) (omega arith) ∙ sym (word_at z m (pair n 0) (omega arith, omega arith)) in
    let value : get_or m (at + 2 * n + 1) 0 ≡ σ (pair n 1) = ap (λ (x : ℕ). get_or m x 0) (omega arith) ∙ sym (word_at z m (pair n 1) (omega arith, omega arith)) in
    rw (number, value, pairs_are z m at n e (omega arith)) (sym (words_more (items_marked σ n) (pair_at σ n)))

-- The part of the buffer from a word on, with words written from its first on and put back, is the buffer with them from that word on.
pub put_part : (b vs : List ℕ) (i : ℕ) → i + length vs ≤ length b
    → put_mid i (length b - i) b (sets (mid_of i (length b - i) b) 0 vs) ≡ sets b i vs
put_part b vs i h =
    let rest : take (length b - i) (drop i b) ≡ drop i b = take_all (length b - i) (drop i b) (simp length-drop (omega arith)) in
    let none : drop (length b - i) (drop i b) ≡ [] =
    drop-drop (length b - i) i b ∙ ap (λ (n : ℕ). drop n b) {x = i + (length b - i)} {y = length b} (omega arith) ∙ drop-length b in
    rw (rest, none, append-nil, sets-eq vs (drop i b) 0 (simp length-drop (omega arith)), zero-add (length vs), drop-drop (length vs) i b)
    (sym (append_assoc (take i b) vs (drop (i + length vs) b)) ∙ sym (sets-eq vs b i h))

-- The items are handed over, or turned down.
module _ (z : Sizes) (m b : List ℕ) (i n : ℕ) (xs : List Item) (ws : List Write) (is : length xs ≡ n) where
  pub handed : i + 2 * n ≤ length b → left (Ok (Drained n)) (writes z m ws) (sets b i (item_words xs)) i ≡ leaves z m (reply (drained xs) ws) b i
  unfolding applied
  handed h =
      let room : i + 2 * length xs ≤ length b = omega arith in
      let read : items_at (sets b i (item_words xs)) i n ≡ xs = rw (← is) (items_at_lem xs b i room) in
      rw (le-ltb (length b) (i + 2 * length xs) room, read) refl

  pub turned_down : length b < i + 2 * n → left (Err BufferShort) m b i ≡ leaves z m (reply (drained xs) ws) b i
  unfolding applied
  turned_down h = rw (is, lt-ltb (length b) (i + 2 * n) h) refl

-- The drain ends after one write more, which leaves its items.
pub ends_after : (z : Sizes) (m b : List ℕ) (i n : ℕ) (w : Write) → items_marked (reader z (write z m w)) n ≡ items_marked (reader z m) n → i + 2 * n ≤ length b
    → leaves z (write z m w) (ends_with n z (reader z (write z m w))) b i ≡ leaves z m (reply (drained (items_marked (reader z m) n)) (w ∷ clear_consumer ∷ clear_drain ∷ [])) b i
unfolding applied writes
ends_after z m b i n w items room = rw (items, length_marked (reader z m) n, le-ltb (length b) (i + 2 * n) room) refl

-- The code goes on from the words after a step's writes, where the rule speaks of those before.
module _ (z : Sizes) (m b : List ℕ) (i n : ℕ) (xs : List Item) (ws : List Write) where
  -- The step ends the drain, and the buffer is too short.
  pub gives_short : ends_at (reader z m) n ≡ true → length xs ≡ n → length b < i + 2 * n → left (Err BufferShort) m b i ≡ leaves z m (goes_on z (reader z m) n xs ws) b i
  gives_short e is h = rw e (turned_down z m b i n xs (ws ++ (clear_consumer ∷ clear_drain ∷ [])) is h)

  -- It does not, or the buffer has room: the items are those that the area holds after the writes.
  pub gives : (m' : List ℕ) → m' ≡ writes z m ws → (ends : Bool) → ends_at (reader z m) n ≡ ends
      → items_marked (reader z m') n ≡ xs → (ends ≡ true → i + 2 * n ≤ length b)
      → leaves z m' (onward n ends z (reader z m')) b i ≡ leaves z m (goes_on z (reader z m) n xs ws) b i
  unfolding applied
  gives m' w true e items room =
      let short = le-ltb (length b) (i + 2 * n) (room refl) in
      let count : length xs ≡ n = sym (ap length items) ∙ length_marked (reader z m') n in
      let words : writes z m' (clear_consumer ∷ clear_drain ∷ []) ≡ writes z m (ws ++ (clear_consumer ∷ clear_drain ∷ [])) = then (clear_consumer ∷ clear_drain ∷ []) in
      rw (e, items, count, short, words) refl
    where
      then : (vs : List Write) → writes z m' vs ≡ writes z m (ws ++ vs)
      then vs = ap (λ (l : List ℕ). writes z l vs) w ∙ sym (writes_then z m ws vs)
  gives m' w false e items room = rw (e, ap (λ (l : List ℕ). writes z l to_front) w ∙ sym (writes_then z m ws to_front)) refl
