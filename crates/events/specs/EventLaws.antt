-- Laws of a history as words: one event more, and the last start of a thread.
use Rattle.std.specs.Prelude.{Option, Some, None, ◌≡◌, refl, Bool, true, false, ◌&&◌, cond, eqb, length, take, drop}
use Rattle.std.proofs.Math.Path.{ap, sym}
use Rattle.std.proofs.Common.{◌∙◌, subst, add-zero, length-append, take-take, get_or-take, length-take-le, eqb-true}
use mathlib.Core.List.{List, [], ◌∷◌, ◌++◌}
use Prim.Native.Nat.{ℕ, zero, suc, ◌+◌, ◌-◌, ◌*◌, ◌≤◌, ◌<◌}
use native.Mathlib.Omega.{arith}
use Rattle.std.proofs.Math.ListN.{get_or}
use Rattle.std.proofs.lemmas.List.Edits.{sets, sets-eq}
use Rattle.std.proofs.Math.Seq.{take_at, get_or-append-add}
use Rattle.history.specs.Event.{Event, History, enqueue_started, enqueue_ended, dequeue_started, gave_item, gave_empty}
use Rattle.rules.specs.Play.{end_of_enqueue}
use Rattle.history.specs.Words.{encode, words_of}
use Rattle.history.specs.WordLaws.{length_encode, length_words}
use Rattle.events.specs.Events.{Recorded, start_found, Records}

-- no event
pub none_recorded : (b : List ℕ) → Recorded b 0 []
unfolding words_of
none_recorded b = record { counted = refl; held = refl }

-- One event more.
pub recorded_more : {b : List ℕ} {k : ℕ} {h : History} (e : Event) → k * 4 + 4 ≤ length b → Recorded b k h → Recorded (sets b (k * 4) (encode e)) (k + 1) (e ∷ h)
unfolding words_of
recorded_more {b} {k} {h} e room r =
    let l = length_encode e in
    let s = sets-eq (encode e) b (k * 4) (omega arith) in
    let t = length-take-le (k * 4) b (omega arith) in
    let m : length (take (k * 4) b ++ encode e) ≡ (k + 1) * 4 = rw length-append (omega arith) in
    record {
      counted = omega (arith, r.counted);
      held = rw s (take_at (take (k * 4) b ++ encode e) (drop (k * 4 + length (encode e)) b) ((k + 1) * 4) m) ∙ ap (λ (w : List ℕ). w ++ encode e) r.held;
    }

pub records_one : {b : List ℕ} {k : ℕ} (e : Event) → k * 4 + 4 ≤ length b → Records (λ h. e ∷ []) b k (sets b (k * 4) (encode e)) (k + 1)
records_one e room = record { events = λ h r. recorded_more e room r; most = omega arith }

-- The last event of a history in the buffer, and those before it.
module _ (b : List ℕ) (e : Event) (h : History) (held : take (suc (length h) * 4) b ≡ words_of (e ∷ h)) where
  rest_held : take (length h * 4) b ≡ words_of h
  unfolding words_of
  rest_held =
      sym (take-take (length h * 4) (suc (length h) * 4) b (omega arith))
      ∙ ap (take (length h * 4)) held
      ∙ take_at (words_of h) (encode e) (length h * 4) (length_words h)

  last_at : (j : ℕ) → j < 4 → get_or b (length h * 4 + j) 0 ≡ get_or (encode e) j 0
  unfolding words_of
  last_at j l =
      sym (get_or-take (suc (length h) * 4) b (length h * 4 + j) 0 (omega arith))
      ∙ ap (λ (w : List ℕ). get_or w (length h * 4 + j) 0) held
      ∙ ap (λ (n : ℕ). get_or (words_of h ++ encode e) (n + j) 0) (sym (length_words h))
      ∙ get_or-append-add (words_of h) (encode e) j 0

  kind_at : get_or b (length h * 4) 0 ≡ get_or (encode e) 0 0
  kind_at = sym (ap (λ (n : ℕ). get_or b n 0) (add-zero (length h * 4))) ∙ last_at 0 (omega arith)

-- the end that a found start gives
abbrev pub end_at : List ℕ → ℕ → Option ℕ → History
end_at b t None = []
end_at b t (Some i) = enqueue_ended t (get_or b (i * 4 + 2) 0) (get_or b (i * 4 + 3) 0) ∷ []

start_found_lem : (b : List ℕ) (t : ℕ) (h : History) → take (length h * 4) b ≡ words_of h → end_of_enqueue t h ≡ end_at b t (start_found b t (length h))
unfolding start_found
start_found_lem b t [] held = refl
start_found_lem b t (enqueue_started u n v ∷ h) held =
    rw (kind_at b (enqueue_started u n v) h held, last_at b (enqueue_started u n v) h held 1 (omega arith))
    (go (eqb u t) refl (start_found_lem b t h (rest_held b (enqueue_started u n v) h held)))
  where
    go : (x : Bool) → eqb u t ≡ x → end_of_enqueue t h ≡ end_at b t (start_found b t (length h)) → elim x [ true ↦ enqueue_ended u n v ∷ [] | false ↦ end_of_enqueue t h ] ≡ end_at b t (cond x (Some (length h)) (start_found b t (length h)))
    go true e i =
        rw (last_at b (enqueue_started u n v) h held 2 (omega arith), last_at b (enqueue_started u n v) h held 3 (omega arith), eqb-true u t e)
    go false e i = i
start_found_lem b t (enqueue_ended u n v ∷ h) held =
    rw (kind_at b (enqueue_ended u n v) h held) (start_found_lem b t h (rest_held b (enqueue_ended u n v) h held))
start_found_lem b t (dequeue_started ∷ h) held = rw (kind_at b dequeue_started h held) (start_found_lem b t h (rest_held b dequeue_started h held))
start_found_lem b t (gave_item n v ∷ h) held = rw (kind_at b (gave_item n v) h held) (start_found_lem b t h (rest_held b (gave_item n v) h held))
start_found_lem b t (gave_empty ∷ h) held = rw (kind_at b gave_empty h held) (start_found_lem b t h (rest_held b gave_empty h held))

pub end_found : {b : List ℕ} {k : ℕ} {h : History} (t : ℕ) → Recorded b k h → end_of_enqueue t h ≡ end_at b t (start_found b t k)
end_found {b} {k} {h} t r =
    start_found_lem b t h (rw r.counted r.held) ∙ ap (λ (n : ℕ). end_at b t (start_found b t n)) r.counted

-- the last of the first i events is the start, or it is not
module _ (b : List ℕ) (t : ℕ) where
  abbrev pub is_start : ℕ → Bool
  is_start i = eqb (get_or b (i * 4) 0) 1 && eqb (get_or b (i * 4 + 1) 0) t

  pub found_here : (i : ℕ) → 0 < i → is_start (i - 1) ≡ true → start_found b t i ≡ Some (i - 1)
  unfolding start_found
  found_here zero h e = absurd (omega arith)
  found_here (suc i) h e = let p : suc i - 1 ≡ i = omega arith in rw p (simp (rw p at e))

  pub found_before : (i : ℕ) → 0 < i → is_start (i - 1) ≡ false → start_found b t i ≡ start_found b t (i - 1)
  unfolding start_found
  found_before zero h e = absurd (omega arith)
  found_before (suc i) h e = let p : suc i - 1 ≡ i = omega arith in rw p (simp (rw p at e))

-- What the end of an enqueue adds.
module _ {b : List ℕ} {k : ℕ} (t : ℕ) where
  pub records_no_end : None ≡ start_found b t k → Records (end_of_enqueue t) b k b k
  records_no_end m =
      record {
        events = λ h r. subst (λ (g : History). Recorded b k (g ++ h)) (sym (end_found t r ∙ ap (end_at b t) (sym m))) r;
        most = omega arith;
      }

  pub records_end : (i n v : ℕ) → Some i ≡ start_found b t k → n ≡ get_or b (i * 4 + 2) 0 → v ≡ get_or b (i * 4 + 3) 0 → k * 4 + 4 ≤ length b → Records (end_of_enqueue t) b k (sets b (k * 4) (2 ∷ t ∷ n ∷ v ∷ [])) (k + 1)
  records_end i n v f p q room =
      let e : end_at b t (Some i) ≡ enqueue_ended t n v ∷ [] = rw (← p, ← q) in
      record {
        events =
            λ h r. subst (λ (g : History). Recorded (sets b (k * 4) (2 ∷ t ∷ n ∷ v ∷ [])) (k + 1) (g ++ h))
            (sym (end_found t r ∙ ap (end_at b t) (sym f) ∙ e))
            (recorded_more (enqueue_ended t n v) room r);
        most = omega arith;
      }
