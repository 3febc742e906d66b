-- What matching says of two recordings that are read as histories: whether they have the same calls, and whether the second keeps the
-- precedence of the first.
use Rattle.std.specs.Prelude.{◌≡◌, refl, Bool, true, false, List, [], ◌∷◌, ◌++◌, map, ℕ, ◌≤◌, ◌<◌, length, get_or}
use Rattle.std.proofs.Common.{sym, ap, subst, ◌∙◌, append-nil, arith}
use Rattle.std.proofs.Math.Decide.{ℕ_discrete, dec_le}
use Rattle.history.specs.Lists.{All}
use Rattle.history.specs.Event.{History, most_producers}
use Rattle.history.specs.Words.{encode, words_of}
use Rattle.history.specs.WordLaws.{length_words}
use Rattle.equivalence.specs.Threads.{events_of}
use Rattle.equivalence.specs.Statement.{SameCalls}
use Rattle.equivalence.specs.Tests.{same_calls, keeps_precedence}
use Rattle.equivalence.specs.Same.{encode_tells, no_event}
use Rattle.equivalence.proofs.Decides.{same_exactly}
use Rattle.matching.specs.Rows.{events_in, thread_in, rows_of, Threaded, ordered}
use Rattle.matching.specs.Match.{Placed, Matches}
use Rattle.matching.specs.Spelled.{Thread, Spelled}
use Rattle.matching.specs.Places.{thread_at, words_more, rows_are, test_is}

-- Events with the same words are the same, one by one.
same_each : (h g : History) → map encode h ≡ map encode g → h ≡ g
same_each [] [] q = refl
same_each [] (f ∷ g) q = absurd (let z : ◌≡◌ {A = ℕ} 0 1 = cc in omega arith)
same_each (e ∷ h) [] q = absurd (let z : ◌≡◌ {A = ℕ} 0 1 = cc in omega arith)
same_each (e ∷ h) (f ∷ g) q = let a = encode_tells e f (heads q) in let b = same_each h g (tails q) in cc
  where
    heads : encode e ∷ map encode h ≡ encode f ∷ map encode g → encode e ≡ encode f
    heads q = cc

    tails : encode e ∷ map encode h ≡ encode f ∷ map encode g → map encode h ≡ map encode g
    tails q = cc

threads_fit : (h : History) (rest : List ℕ) → All Thread h → (k : ℕ) → k < length h → thread_in (words_of h ++ rest) k ≤ most_producers
threads_fit [] rest a k l = absurd (omega arith)
threads_fit (e ∷ h) rest a k l = rw words_more (go (ℕ_discrete k (length h)) (threads_fit h (encode e ++ rest) a.1 k))
  where
    go :
        Dec (k ≡ length h) → (k < length h → thread_in (words_of h ++ (encode e ++ rest)) k ≤ most_producers)
        → thread_in (words_of h ++ (encode e ++ rest)) k ≤ most_producers
    go (yes q) ih = let t = thread_at h e rest in rw q (omega (arith, a.0))
    go (no n) ih = ih (omega arith)

module _ {ws : List ℕ} {h : History} (s : Spelled ws h) where
  pub so_many_events : events_in ws ≡ length h
  so_many_events = let e = ap length s.are_words in omega (arith, length_words h)

  pub rows_of_all : (t : ℕ) → rows_of t ws (events_in ws) ≡ map encode (events_of t h)
  rows_of_all t =
      let q : ws ≡ words_of h ++ [] = s.are_words ∙ sym (append-nil (words_of h)) in
      ap (rows_of t ws) so_many_events ∙ ap (λ xs. rows_of t xs (length h)) q ∙ rows_are t h []

  -- every event has a thread
  pub threaded : Threaded ws
  threaded =
      let q : ws ≡ words_of h ++ [] = s.are_words ∙ sym (append-nil (words_of h)) in
      record {
        few = let n = so_many_events in omega (arith, s.few);
        threads = λ k l. subst (λ xs. thread_in xs k ≤ most_producers) (sym q) (threads_fit h [] s.threads k (let n = so_many_events in omega arith));
      }

-- Both recordings are read as histories, and matched.
module _ {xs ys places : List ℕ} {h g : History} {r : Bool} (one : Spelled xs h) (two : Spelled ys g) (m : Matches xs ys places r) where
  same : r ≡ true → SameCalls h g
  same e t = go (dec_le t most_producers)
    where
      go : Dec (t ≤ most_producers) → events_of t h ≡ events_of t g
      go (yes l) = same_each (events_of t h) (events_of t g) (sym (rows_of_all one t) ∙ m.same e t l ∙ rows_of_all two t)
      go (no n) = no_event most_producers h one.threads t (omega arith) ∙ sym (no_event most_producers g two.threads t (omega arith))

  other : r ≡ false → SameCalls h g → ⊥
  other e s =
      let d = m.other e in
      d.other_rows (rows_of_all one d.thread ∙ ap (map encode) (s d.thread) ∙ sym (rows_of_all two d.thread))

  pub decides_same : r ≡ same_calls h g
  decides_same = go r refl (same_calls h g) refl
    where
      go : (a : Bool) → r ≡ a → (b : Bool) → same_calls h g ≡ b → r ≡ same_calls h g
      go true e b f = e ∙ sym ((same_exactly h g one.threads two.threads).1 (same e))
      go false e true f = absurd (other e ((same_exactly h g one.threads two.threads).0 f))
      go false e false f = e ∙ sym f

  pub decides_order : r ≡ true → ordered ys places (events_in ys) ≡ keeps_precedence h g
  decides_order e =
      let q : ys ≡ words_of g ++ [] = two.are_words ∙ sym (append-nil (words_of g)) in
      let n = so_many_events two in
      ap (ordered ys places) n
      ∙ (test_is h ys places g [] q (λ k l. subst (λ ws. Placed ws ys k (get_or places k 0)) one.are_words (m.placed e k (omega arith)))).1
