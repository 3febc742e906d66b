-- What a reply adds to the items given is what it hands over and what it does to the items marked. From what the call does to the drain area
-- (`Hands`), and from the history, whose last item is the last one marked.
use Rattle.std.specs.Prelude.{◌≡◌, refl, Bool, true, false, List, [], ◌∷◌, ◌++◌, ℕ, zero, suc, ◌<◌, eqb, length}
use Rattle.std.proofs.Common.{ap, ap₂, sym, ◌∙◌, inl, inr, append-nil, append_assoc, arith, eq-eqb, ne_eqb, lt-ltb}
use Rattle.history.specs.Event.{History, enqueue_started, enqueue_ended, dequeue_started, gave_item, gave_empty, withdrawn}
use Rattle.history.specs.Linearization.{Item}
use Rattle.criterion.specs.Late.{Late, marked, then_started, then_ended}
use Rattle.rules.specs.Cell.{Reader, drain_count, pair_number, pair_value}
use Rattle.rules.specs.Rule.{Reply, ok, started, going, ended, empty, item, drained}
use Rattle.rules.specs.Consumer.{pair_at, items_marked}
use Rattle.rules.specs.Request.{Request}
use Rattle.rules.specs.Play.{end_of_enqueue, thread_of, gone_on, drain_ended, recorded}
use Rattle.simulation.specs.Told.{gone_on_lem}
use Rattle.simulation.specs.DrainWords.{marked_length, ended_with}
use Rattle.receiving.specs.Statement.{items_given, handed}
use Rattle.receiving.specs.Hands.{MarkedStay, SameMarked, Hands}

-- The last item marked is the last one given, and a dequeue was opened after it; since then there were enqueue events alone.
abbrev pub LastMarked : Reader → History → Type 0
LastMarked σ h = (c : ℕ) → σ drain_count ≡ suc c → Late (σ (pair_number c)) (σ (pair_value c)) h (withdrawn h)

-- The item whose end is withdrawn is the last one given.
late_given : {n v : ℕ} {g h : History} → Late n v g h → items_given g ≡ items_given h ++ (record { number = n; value = v } ∷ [])
late_given marked = refl
late_given (then_started l) = late_given l
late_given (then_ended l) = late_given l

-- The end of an enqueue gives nothing.
given_ended : (t : ℕ) (h g : History) → items_given (end_of_enqueue t h ++ g) ≡ items_given g
given_ended t [] g = refl
given_ended t (enqueue_started u n v ∷ h) g = go (eqb u t) (given_ended t h g)
  where
    go : (b : Bool) → items_given (end_of_enqueue t h ++ g) ≡ items_given g → items_given ((elim b as (λ _. History) [ true ↦ enqueue_ended u n v ∷ [] | false ↦ end_of_enqueue t h ]) ++ g) ≡ items_given g
    go true rest = refl
    go false rest = rest
given_ended t (enqueue_ended u n v ∷ h) g = given_ended t h g
given_ended t (dequeue_started ∷ h) g = given_ended t h g
given_ended t (gave_item n v ∷ h) g = given_ended t h g
given_ended t (gave_empty ∷ h) g = given_ended t h g

-- items marked that stay
marked_stay : (σ τ : Reader) (n : ℕ) → ((i : ℕ) → i < n → pair_at τ i ≡ pair_at σ i) → items_marked τ n ≡ items_marked σ n
marked_stay σ τ zero f = refl
marked_stay σ τ (suc n) f =
    ap₂ (λ (xs : List Item) (x : Item). xs ++ (x ∷ [])) (marked_stay σ τ n (λ i l. f i (omega arith))) (f n (omega arith))

same_items : (σ τ : Reader) → SameMarked σ τ → items_marked τ (τ drain_count) ≡ items_marked σ (σ drain_count)
same_items σ τ s = ap (items_marked τ) s.0 ∙ marked_stay σ τ (σ drain_count) s.1

none_marked : (σ : Reader) → σ drain_count ≡ 0 → items_marked σ (σ drain_count) ≡ []
none_marked σ e = ap (items_marked σ) e

-- A call before which the caller had received `had`, where h was the history.
module _ (σ τ : Reader) (h : History) (had : List Item) (kept : items_given h ≡ had ++ items_marked σ (σ drain_count)) where
  -- nothing is handed over, and the same items are marked
  nothing_new : SameMarked σ τ → items_given h ≡ (had ++ []) ++ items_marked τ (τ drain_count)
  nothing_new s = kept ∙ ap₂ (λ (xs ys : List Item). xs ++ ys) (sym (append-nil had)) (sym (same_items σ τ s))

  -- one item more is marked, and given at its mark
  one_marked : τ drain_count ≡ suc (σ drain_count) → MarkedStay σ τ → items_given (gone_on σ τ h) ≡ (had ++ []) ++ items_marked τ (τ drain_count)
  one_marked more stay =
      let c : ℕ = σ drain_count in
      rw (lt-ltb c (τ drain_count) (omega arith), more, append-nil had)
      (ap (λ (xs : List Item). xs ++ (pair_at τ c ∷ [])) (kept ∙ ap (λ (xs : List Item). had ++ xs) (sym (marked_stay σ τ c stay)))
      ∙ append_assoc had (items_marked τ c) (pair_at τ c ∷ []))

  -- a dequeue ends
  none_kept : σ drain_count ≡ 0 → items_given h ≡ had
  none_kept none = kept ∙ ap (λ (xs : List Item). had ++ xs) (none_marked σ none) ∙ append-nil had

  all_handed : (xs : List Item) (g : History) → τ drain_count ≡ 0 → items_given g ≡ had ++ xs → items_given g ≡ (had ++ xs) ++ items_marked τ (τ drain_count)
  all_handed xs g none e = e ∙ sym (append-nil (had ++ xs)) ∙ ap (λ (ys : List Item). (had ++ xs) ++ ys) (sym (none_marked τ none))

  -- a drain ends with the items that were marked
  marked_handed : (c : ℕ) → σ drain_count ≡ c → LastMarked σ h
      → items_given (drain_ended c (items_marked σ c) h) ≡ had ++ items_marked σ c
  marked_handed zero e late = kept ∙ ap (λ (n : ℕ). had ++ items_marked σ n) e
  marked_handed (suc c) e late =
      ap items_given (ended_with (suc c) (items_marked σ c) (pair_at σ c) h)
      ∙ rw (eq-eqb (suc (length (items_marked σ c))) (suc c) (ap suc (marked_length σ c))) (sym (late_given (late c e)))
      ∙ kept
      ∙ ap (λ (n : ℕ). had ++ items_marked σ n) e

  -- and with those and the one that it takes
  taken_handed : (y : Item) → items_given (drain_ended (σ drain_count) (items_marked σ (σ drain_count) ++ (y ∷ [])) h) ≡ had ++ (items_marked σ (σ drain_count) ++ (y ∷ []))
  taken_handed y =
      let n : suc (length (items_marked σ (σ drain_count))) ≡ σ drain_count → ⊥ = λ e. omega (arith, marked_length σ (σ drain_count)) in
      ap items_given (ended_with (σ drain_count) (items_marked σ (σ drain_count)) y h)
      ∙ rw (ne_eqb (suc (length (items_marked σ (σ drain_count)))) (σ drain_count) n)
      (ap (λ (xs : List Item). xs ++ (y ∷ [])) kept ∙ append_assoc had (items_marked σ (σ drain_count)) (y ∷ []))

  pub handed_on : (q : Request) (r : Reply) → Hands σ τ r → LastMarked σ h
      → items_given (recorded q σ τ r h) ≡ (had ++ handed r) ++ items_marked τ (τ drain_count)
  handed_on q ok s late = nothing_new s
  handed_on q (started n) s late = nothing_new s
  handed_on q going (inl same, stay) late = ap items_given (gone_on_lem σ τ h same) ∙ nothing_new (same, stay)
  handed_on q going (inr more, stay) late = one_marked more stay
  handed_on q ended s late = given_ended (thread_of q) h h ∙ nothing_new s
  handed_on q empty s late = all_handed [] (gave_empty ∷ h) s.1 (none_kept s.0 ∙ sym (append-nil had))
  handed_on q (item n v) s late =
      all_handed (record { number = n; value = v } ∷ []) (gave_item n v ∷ h) s.1 (ap (λ (xs : List Item). xs ++ (record { number = n; value = v } ∷ [])) (none_kept s.0))
  handed_on q (drained xs) (inl e, none) late =
      all_handed xs (drain_ended (σ drain_count) xs h) none (rw e (marked_handed (σ drain_count) refl late))
  handed_on q (drained xs) (inr e, none) late =
      all_handed xs (drain_ended (σ drain_count) xs h) none (rw e.1 (taken_handed e.0))
