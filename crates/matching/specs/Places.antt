-- From rows to events: a thread's rows are its events, and the place of a row is that of its event.
use Rattle.std.specs.Prelude.{◌≡◌, refl, Bool, ◌&&◌, ◌||◌, not, cond, ℕ, suc, ◌+◌, ◌*◌, ◌<◌, max, ltb, length, get_or}
use Rattle.std.proofs.Common.{sym, subst, ◌∙◌, arith, get_or-append-add}
use Rattle.std.proofs.Math.Path.{ap}
use mathlib.Core.List.{List, [], ◌∷◌, ◌++◌, map, append_assoc, append-nil}
use Rattle.std.proofs.Math.Decide.{ℕ_discrete}
use Rattle.std.proofs.lemmas.List.{length-map}
use Rattle.history.specs.Event.{Event, History, enqueue_started, enqueue_ended, dequeue_started, gave_item, gave_empty}
use Rattle.history.specs.Words.{encode, words_of}
use Rattle.history.specs.WordLaws.{length_words}
use Rattle.equivalence.specs.Threads.{thread_of, events_of}
use Rattle.equivalence.specs.Tests.{is_start, place, place_in, latest_end, keeps_precedence}
use Rattle.equivalence.specs.Place.{own_event, other_event, place_last, place_stays}
use Rattle.matching.specs.Rows.{kind_in, thread_in, row_at, rows_of, starts_in, latest_of, ordered}
use Rattle.matching.specs.Match.{Placed}
use Rattle.matching.specs.RowLaws.{rows_more, rows_skip, longer_rows}

-- The words of a history, an event, and what follows.
module _ (h : History) (e : Event) (rest : List ℕ) where
  abbrev words : List ℕ
  words = words_of h ++ (encode e ++ rest)

  word_at : (j : ℕ) → get_or words (4 * length h + j) 0 ≡ get_or (encode e ++ rest) j 0
  word_at j =
      let l : 4 * length h + j ≡ length (words_of h) + j = omega (arith, length_words h) in
      ap (λ i. get_or words i 0) l ∙ get_or-append-add (words_of h) (encode e ++ rest) j 0

  kind_at : kind_in words (length h) ≡ get_or (encode e ++ rest) 0 0
  kind_at = let l : 4 * length h ≡ 4 * length h + 0 = omega arith in ap (λ i. get_or words i 0) l ∙ word_at 0

  pub row_at_lem : row_at words (length h) ≡ encode e
  row_at_lem = go e kind_at (word_at 1) (word_at 2) (word_at 3)
    where
      go :
          (f : Event) → kind_in words (length h) ≡ get_or (encode f ++ rest) 0 0 → thread_in words (length h) ≡ get_or (encode f ++ rest) 1 0
          → get_or words (4 * length h + 2) 0 ≡ get_or (encode f ++ rest) 2 0 → get_or words (4 * length h + 3) 0 ≡ get_or (encode f ++ rest) 3 0
          → row_at words (length h) ≡ encode f
      go (enqueue_started t n v) a b c d = cc
      go (enqueue_ended t n v) a b c d = cc
      go dequeue_started a b c d = cc
      go (gave_item n v) a b c d = cc
      go gave_empty a b c d = cc

  pub thread_at : thread_in words (length h) ≡ thread_of e
  thread_at = go e (word_at 1)
    where
      go : (f : Event) → thread_in words (length h) ≡ get_or (encode f ++ rest) 1 0 → thread_in words (length h) ≡ thread_of f
      go (enqueue_started t n v) q = q
      go (enqueue_ended t n v) q = q
      go dequeue_started q = q
      go (gave_item n v) q = q
      go gave_empty q = q

  pub start_at : starts_in words (length h) ≡ is_start e
  start_at = go e kind_at
    where
      go : (f : Event) → kind_in words (length h) ≡ get_or (encode f ++ rest) 0 0 → starts_in words (length h) ≡ is_start f
      go (enqueue_started t n v) q = rw q
      go (enqueue_ended t n v) q = rw q
      go dequeue_started q = rw q
      go (gave_item n v) q = rw q
      go gave_empty q = rw q

-- the words of one event more
pub words_more : (e : Event) (h : History) (rest : List ℕ) → words_of (e ∷ h) ++ rest ≡ words_of h ++ (encode e ++ rest)
unfolding words_of
words_more e h rest = append_assoc (words_of h) (encode e) rest

-- A thread's rows are the words of its events.
pub rows_are : (t : ℕ) (h : History) (rest : List ℕ) → rows_of t (words_of h ++ rest) (length h) ≡ map encode (events_of t h)
rows_are t [] rest = refl
rows_are t (e ∷ h) rest =
    subst (λ ws. rows_of t ws (suc (length h)) ≡ map encode (events_of t (e ∷ h))) (sym (words_more e h rest))
    (go (ℕ_discrete (thread_of e) t) (rows_are t h (encode e ++ rest)))
  where
    go : Dec (thread_of e ≡ t) → rows_of t (words h e rest) (length h) ≡ map encode (events_of t h) → rows_of t (words h e rest) (suc (length h)) ≡ map encode (events_of t (e ∷ h))
    go (yes q) ih =
        rows_more t (words h e rest) (length h) (thread_at h e rest ∙ q)
        ∙ ap (λ r. r ∷ rows_of t (words h e rest) (length h)) (row_at_lem h e rest)
        ∙ ap (λ rs. encode e ∷ rs) ih
        ∙ sym (ap (map encode) (own_event e h t q))
    go (no d) ih =
        rows_skip t (words h e rest) (length h) (λ q. d (sym (thread_at h e rest) ∙ q)) ∙ ih ∙ sym (ap (map encode) (other_event e h t d))

-- The place of a row, counted from 1, is that of the event.
pub place_of_row :
    (t : ℕ) (h : History) (rest : List ℕ) (p : ℕ) → p < length h → thread_in (words_of h ++ rest) p ≡ t
    → place h t (suc (length (rows_of t (words_of h ++ rest) p))) ≡ suc p
place_of_row t [] rest p l q = absurd (omega arith)
place_of_row t (e ∷ h) rest p l q =
    let q' : thread_in (words_of h ++ (encode e ++ rest)) p ≡ t = rw words_more at q in
    rw words_more (go (ℕ_discrete p (length h)) q' (place_of_row t h (encode e ++ rest) p))
  where
    so-many : length (rows_of t (words h e rest) (length h)) ≡ length (events_of t h)
    so-many = ap length (rows_are t h (encode e ++ rest)) ∙ length-map (events_of t h) encode

    go :
        Dec (p ≡ length h) → thread_in (words h e rest) p ≡ t
        → (p < length h → thread_in (words h e rest) p ≡ t → place h t (suc (length (rows_of t (words h e rest) p))) ≡ suc p)
        → place (e ∷ h) t (suc (length (rows_of t (words h e rest) p))) ≡ suc p
    go (yes y) r ih =
        let own : thread_of e ≡ t = sym (thread_at h e rest) ∙ ap (thread_in (words h e rest)) (sym y) ∙ r in
        rw (y, so-many) (place_last e h t own)
    go (no n) r ih =
        let fewer = longer_rows t (words h e rest) (length h) p (omega arith) r in
        place_stays e h t (suc (length (rows_of t (words h e rest) p))) (λ z. let w = so-many in omega arith) ∙ ih (omega arith) r

same_latest : {s s' : Bool} {l l' p p' : ℕ} → s ≡ s' → l ≡ l' → p ≡ p' → cond s l (max l p) ≡ cond s' l' (max l' p')
same_latest a b c = cc

same_test :
    {o o' s s' : Bool} {l l' p p' : ℕ} → o ≡ o' → s ≡ s' → l ≡ l' → p ≡ p' → (o && (not s || ltb l p)) ≡ (o' && (not s' || ltb l' p'))
same_test a b c d = cc

-- Where each event of ys has its place in the words of h, the test over the places is the one over the histories.
module _ (h : History) (ys places : List ℕ) where
  abbrev AllPlaced : ℕ → Type 0
  AllPlaced n = (k : ℕ) → k < n → Placed (words_of h) ys k (get_or places k 0)

  place_is :
      (e : Event) (past : History) (rest : List ℕ) → ys ≡ words_of past ++ (encode e ++ rest) → AllPlaced (suc (length past))
      → get_or places (length past) 0 ≡ place_in h e past
  place_is e past rest q all =
      let d = all (length past) (omega arith) in
      let t = thread_of e in
      let thread : thread_in ys (length past) ≡ t = ap (λ ws. thread_in ws (length past)) q ∙ thread_at past e rest in
      let rows : rows_of t (words_of h) d.event ≡ map encode (events_of t past) =
      subst (λ u. rows_of u (words_of h) d.event ≡ rows_of u ys (length past)) thread d.same_rows
      ∙ ap (λ ws. rows_of t ws (length past)) q
      ∙ rows_are t past (encode e ++ rest) in
      let inside : d.event < length h = omega (arith, d.within, length_words h) in
      let there =
      subst (λ ws. thread_in ws d.event ≡ t → place h t (suc (length (rows_of t ws d.event))) ≡ suc d.event) (append-nil (words_of h))
      (place_of_row t h [] d.event inside) (d.same_thread ∙ thread) in
      d.place_is ∙ sym there ∙ ap (λ n. place h t (suc n)) (ap length rows ∙ length-map (events_of t past) encode)

  pub test_is :
      (past : History) (rest : List ℕ) → ys ≡ words_of past ++ rest → AllPlaced (length past)
      → (latest_of ys places (length past) ≡ latest_end h past) × (ordered ys places (length past) ≡ keeps_precedence h past)
  unfolding ordered keeps_precedence
  test_is [] rest q all = (refl, refl)
  test_is (e ∷ past) rest q all =
      let more = q ∙ words_more e past rest in
      let ih = test_is past (encode e ++ rest) more (λ k l. all k (omega arith)) in
      let start : starts_in ys (length past) ≡ is_start e = ap (λ ws. starts_in ws (length past)) more ∙ start_at past e rest in
      let p = place_is e past rest more all in
      (same_latest start ih.0 p, same_test ih.1 start ih.0 p)
