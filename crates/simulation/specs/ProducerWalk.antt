-- Producer phases 2, 3, 6 and 7, which move a producer along the records.
use Rattle.std.specs.Prelude.{◌≡◌, ◌≢◌, Bool, true, false, cond, List, [], ◌∷◌, leb, ltb, eqb, get_or}
use Rattle.std.proofs.Math.Path.{refl, ap, subst⁻¹}
use Rattle.std.proofs.Common.{sym, ◌∙◌, subst, inl, arith}
use Prim.Native.Nat.{ℕ, suc, ◌+◌, ◌*◌, ◌≤◌, ◌<◌}
use borrow.Author.Tests.{eq-eqb, eqb-true, eqb-false, ltb-true}
use Rattle.history.specs.Lists.{All}
use Rattle.rules.specs.Sizes.{Sizes}
use Rattle.rules.specs.Cell.{Reader, Write, ◌:=◌, producer, place, next, used, tail_record, phase, call, value, position, held, claimed, backed, prev, of_producer}
use Rattle.rules.specs.Update.{after, Own, own_leaves}
use Rattle.rules.specs.InRange.{InSort}
use Rattle.rules.specs.Range.{link, record_number, producer_sorts, placed_sorts}
use Rattle.rules.specs.Rule.{going}
use Rattle.rules.specs.Producer.{choose, look_next, load_tail, go_back, shift_tail}
use Rattle.rules.specs.Request.{step}
use Rattle.model.specs.State.{Producer, ahead, shifting, behind, writing}
use Rattle.model.specs.Invariant.{Invariant}
use Rattle.model.specs.Moves.{with_producer, chosen}
use Rattle.model.specs.Walking.{producer_clause, pass_on_lem, load_tail_lem, go_back_lem, shift_tail_lem, leave_tail_lem}
use Rattle.memory.specs.Memory.{Holdable, Held, TrailFrom, row_of, Memory, tail_listed, tail_joined}
use Rattle.memory.specs.LastRecord.{held_before_last}
use Rattle.memory.specs.OtherThreads.{others_kept}
use Rattle.memory.specs.GoingBack.{goes_back}
use Rattle.simulation.specs.View.{Ghost, places_of, place_of, producer_at, producers_of, view}
use Rattle.simulation.specs.Good.{Good, Goes, Fine, by_need, by_cond}
use Rattle.simulation.specs.Rows.{ProducerWords, of_sort_lem, has_sort, producer_row_of}
use Rattle.simulation.specs.ProducerSteps.{as_seen, producers_after, goes_on_same, unclaimed, own_words, seen_at, producer_goes}
use Rattle.simulation.specs.OwnWords.{producer_own}
use Rattle.simulation.specs.Awaiting.{behind_awaited}

module _ (z : Sizes) (σ : Reader) (γ : Ghost) (good : Good z σ γ) (t : ℕ) (a-producer : (1 ≤ t) × (t ≤ z.P)) where
  self : eqb t t ≡ true
  self = eq-eqb t t refl

  -- What a producer's words are in phase p', one of 2 to 9 but 5, with the record x held and the flag f.
  record Row (σ' : Reader) (p' x f : ℕ) : Type 0 where
    in_phase : σ' (producer t 0) ≡ p'
    call : σ' (producer t 1) ≡ σ (producer t 1)
    value : σ' (producer t 2) ≡ σ (producer t 2)
    position : σ' (producer t 3) ≡ σ (producer t 3)
    held : σ' (producer t 4) ≡ x
    claimed : σ' (producer t 5) ≡ σ (producer t 5)
    backed : σ' (producer t 6) ≡ f
    steps : σ' (producer t 7) ≡ σ (producer t 7)

  -- A step in such a phase p that goes on to such a phase p'.
  walks : (p p' x f : ℕ) (ws : List Write) (y : Producer) → σ (phase t) ≡ p
      → get_or producer_sorts p [] ≡ placed_sorts → get_or producer_sorts p' [] ≡ placed_sorts → p' ≤ 9 → (p' ≡ 5 → ⊥)
      → All (Own (of_producer t)) ws → Row (after σ ws) p' x f
      → x ≤ z.N → f ≤ 1 → Held σ x → (3 ≤ p' → x ≢ 0) → (p' ≡ 7 → TrailFrom z.B σ (σ (position t)) x)
      → producer_at p' (σ (call t)) (σ (value t)) (σ (position t)) (place_of (places_of σ) x) ≡ y
      → Invariant z.B (with_producer (view σ γ) t y)
      → Goes z σ γ (step t) going ws
  walks p p' x f ws y e sorts sorts' l not_five own row fits flag holding some way seen model =
      producer_own z σ γ good t a-producer going tt ws y γ.history own
      (producer_row_of z (row_of σ' t) p' row.in_phase (omega arith)
      (subst⁻¹ (ProducerWords z (row_of σ' t)) sorts'
      (record { call = rw row.call old.call; value = tt; position = rw row.position old.position; held = rw row.held fits; claimed = none; backed = rw row.backed flag; steps = rw row.steps old.steps })))
      (unclaimed z σ (row_of σ' t) (rw row.held holding) none
      (λ h. rw row.held (some (omega (arith, row.in_phase))))
      (λ q. not_five (sym row.in_phase ∙ q))
      (λ q. omega (arith, row.in_phase))
      (λ q. rw (row.position, row.held) (way (sym row.in_phase ∙ q))))
      none
      (shows ∙ seen)
      model
      good.formed
      refl
    where
      σ' : Reader
      σ' = after σ ws

      old : ProducerWords z (row_of σ t) placed_sorts
      old = subst (ProducerWords z (row_of σ t)) sorts (own_words z σ γ good t a-producer p e)

      none : σ' (producer t 5) ≡ 0
      none = row.claimed ∙ old.claimed

      shows : producers_of σ' t ≡ producer_at p' (σ (call t)) (σ (value t)) (σ (position t)) (place_of (places_of σ) x)
      shows =
          λ i. producer_at (row.in_phase i) (row.call i) (row.value i) (row.position i)
          (place_of (λ r. own_leaves (of_producer t) σ ws own (place r) refl i) (row.held i))

  -- the producer's place before the step
  k : ℕ
  k = place_of (places_of σ) (σ (held t))

  -- the flag stays as it was
  flag_most : (p : ℕ) → σ (phase t) ≡ p → get_or producer_sorts p [] ≡ placed_sorts → σ (producer t 6) ≤ 1
  flag_most p e q = (subst (ProducerWords z (row_of σ t)) q (own_words z σ γ good t a-producer p e)).backed

  held_most : (p : ℕ) → σ (phase t) ≡ p → get_or producer_sorts p [] ≡ placed_sorts → σ (held t) ≤ z.N
  held_most p e q = (subst (ProducerWords z (row_of σ t)) q (own_words z σ γ good t a-producer p e)).held

  -- a step that writes the phase alone, with a record held before and after
  phase_alone : (p p' : ℕ) (y : Producer) → σ (phase t) ≡ p → 3 ≤ p
      → get_or producer_sorts p [] ≡ placed_sorts → get_or producer_sorts p' [] ≡ placed_sorts → p' ≤ 9 → (p' ≡ 5 → ⊥) × (p' ≡ 7 → ⊥)
      → producer_at p' (σ (call t)) (σ (value t)) (σ (position t)) (place_of (places_of σ) (σ (held t))) ≡ y
      → Invariant z.B (with_producer (view σ γ) t y)
      → Goes z σ γ (step t) going (phase t := p' ∷ [])
  phase_alone p p' y e past sorts sorts' l others seen model =
      walks p p' (σ (held t)) (σ (producer t 6)) (phase t := p' ∷ []) y e sorts sorts' l others.0
      ((refl, omega arith), tt)
      (record { in_phase = rw self refl; call = refl; value = refl; position = refl; held = refl; claimed = refl; backed = refl; steps = refl })
      (held_most p e sorts)
      (flag_most p e sorts)
      (good.memory.threads t).holding
      (λ h. (good.memory.threads t).has_held (omega arith))
      (λ q. absurd (others.1 q))
      seen
      model

  -- 3. Look at next of held: none goes to 4, otherwise 6.
  pub look_next_fine : σ (phase t) ≡ 3 → Fine z σ γ (step t) (look_next z σ t)
  unfolding look_next
  look_next_fine e =
      by_need (Fine z σ γ (step t)) (σ (held t)) _ ((good.memory.threads t).has_held (omega arith)) (λ h q. each h q (eqb (σ (next h)) 0) refl)
    where
      seen : (view σ γ).producer t ≡ ahead (σ (call t)) (σ (value t)) (σ (position t)) (place_of (places_of σ) (σ (held t)))
      seen = seen_at z σ γ good t a-producer 3 e

      each : (h : ℕ) → σ (held t) ≡ suc h → (b : Bool) → eqb (σ (next h)) 0 ≡ b → Goes z σ γ (step t) going (phase t := cond b 4 6 ∷ [])
      each h q true n =
          phase_alone 3 4 _ e (omega arith) refl refl (omega arith) ((λ x. omega arith), (λ x. omega arith)) refl
          (goes_on_same z.B (view σ γ) t _ seen good.model)
      each h q false n =
          let l : σ (place h) < γ.shape.hi = held_before_last good.memory t h q (eqb-false (σ (next h)) 0 n) in
          phase_alone 3 6 _ e (omega arith) refl refl (omega arith) ((λ x. omega arith), (λ x. omega arith)) refl
          (pass_on_lem z.B (view σ γ) good.model t _ _ _ _ seen (rw q l))

  -- "choose" by its two tests
  abbrev phase_by : Bool → Bool → ℕ
  phase_by b c = cond b 3 (cond c 7 8)

  chosen_at : (b c : Bool) (n v L j : ℕ)
      → producer_at (phase_by b c) n v L j ≡ cond b (ahead n v L j) (cond c (behind n v L j) (writing n v L j))
  chosen_at true c n v L j = refl
  chosen_at false true n v L j = refl
  chosen_at false false n v L j = refl

  chosen_phase : (b c : Bool) → (get_or producer_sorts (phase_by b c) [] ≡ placed_sorts) × (phase_by b c ≤ 9) × (phase_by b c ≡ 5 → ⊥)
  chosen_phase true c = (refl, omega arith, λ x. omega arith)
  chosen_phase false true = (refl, omega arith, λ x. omega arith)
  chosen_phase false false = (refl, omega arith, λ x. omega arith)

  -- it chooses to go back where the position is before the record
  chose_back : (b c : Bool) → phase_by b c ≡ 7 → c ≡ true
  chose_back true c e = absurd (omega arith)
  chose_back false true e = refl
  chose_back false false e = absurd (omega arith)

  goes_past : (x : ℕ) → choose z σ t x ≡ 7 → σ (position t) + z.B < z.B * σ (place x)
  goes_past x e =
      ltb-true (σ (position t) + z.B) (z.B * σ (place x))
      (chose_back (leb (z.B * σ (place x)) (σ (position t))) (ltb (σ (position t) + z.B) (z.B * σ (place x))) e)

  -- a step that holds the record x and chooses
  chooses : (p x f : ℕ) (ws : List Write) → σ (phase t) ≡ p → get_or producer_sorts p [] ≡ placed_sorts → All (Own (of_producer t)) ws
      → Row (after σ ws) (choose z σ t x) (suc x) f → suc x ≤ z.N → f ≤ 1 → Holdable σ x → (choose z σ t x ≡ 7 → TrailFrom z.B σ (σ (position t)) (suc x)) → (j : ℕ) → σ (place x) ≡ j
      → Invariant z.B (with_producer (view σ γ) t (chosen z.B (σ (call t)) (σ (value t)) (σ (position t)) j))
      → Goes z σ γ (step t) going ws
  chooses p x f ws e sorts own row fits flag holding way j placed model =
      let b = leb (z.B * σ (place x)) (σ (position t)) in
      let c = ltb (σ (position t) + z.B) (z.B * σ (place x)) in
      let w = chosen_phase b c in
      walks p (choose z σ t x) (suc x) f ws _ e sorts w.0 w.1 w.2 own row fits flag holding (λ h q. omega arith) way
      (chosen_at b c (σ (call t)) (σ (value t)) (σ (position t)) (σ (place x))
      ∙ ap (chosen z.B (σ (call t)) (σ (value t)) (σ (position t))) placed)
      model

  -- 2. Load: hold the tail record; choose.
  pub load_tail_fine : σ (phase t) ≡ 2 → Fine z σ γ (step t) (load_tail z σ t)
  unfolding load_tail
  load_tail_fine e =
      by_need (Fine z σ γ (step t)) (σ tail_record) _ (λ q. omega (arith, m.tail_is))
      (λ r q.
      let is : r ≡ γ.shape.at γ.shape.tp = omega (arith, m.tail_is) in
      let linked : σ (used r) ≡ 2 = ap (λ (x : ℕ). σ (used x)) is ∙ m.chain.linked γ.shape.tp (tail_listed m) in
      chooses 2 r (σ (producer t 6)) (held t := suc r ∷ phase t := choose z σ t r ∷ []) e refl
      ((refl, omega arith), ((refl, omega arith), tt))
      (record { in_phase = rw self refl; call = refl; value = refl; position = refl; held = rw self refl; claimed = refl; backed = refl; steps = refl })
      (omega (arith, (has_sort z record_number (σ tail_record) (good.range.words tail_record (omega arith))).1))
      (flag_most 2 e refl)
      (inl linked)
      (λ c. (0, (linked, omega (arith, goes_past r c))))
      γ.shape.tp
      (ap (λ (x : ℕ). σ (place x)) is ∙ m.chain.placed γ.shape.tp (tail_listed m))
      (load_tail_lem z.B (view σ γ) good.model t _ _ _ (seen_at z σ γ good t a-producer 2 e)))
    where
      m : Memory z σ γ.shape
      m = good.memory

  -- 7. Back: hold prev of held; choose.
  pub go_back_fine : σ (phase t) ≡ 7 → Fine z σ γ (step t) (go_back z σ t)
  unfolding go_back
  go_back_fine e =
      by_need (Fine z σ γ (step t)) (σ (held t)) _ ((m.threads t).has_held (omega arith))
      (λ h q.
      let seen : (view σ γ).producer t ≡ behind (σ (call t)) (σ (value t)) (σ (position t)) (σ (place h)) =
      seen_at z σ γ good t a-producer 7 e ∙ ap (behind (σ (call t)) (σ (value t)) (σ (position t))) (ap (place_of (places_of σ)) q) in
      let a = behind_awaited z σ γ good t _ _ _ _ seen in
      let b = goes_back m t h e q a.1 a.0 in
      by_need (Fine z σ γ (step t)) (σ (prev h)) _ (λ n. omega (arith, b.back))
      (λ p r.
      let same : b.to ≡ p = omega (arith, b.back) in
      chooses 7 p 1 (held t := suc p ∷ backed t := 1 ∷ phase t := choose z σ t p ∷ []) e refl
      ((refl, omega arith), ((refl, omega arith), ((refl, omega arith), tt)))
      (record { in_phase = rw self refl; call = refl; value = refl; position = refl; held = rw self refl; claimed = refl; backed = rw self refl; steps = refl })
      (omega (arith, has_sort z link (σ (prev h)) (good.range.words (prev h) (fits h q, omega arith))))
      (omega arith)
      (rw same at b.may_hold)
      (λ c. rw same at b.way)
      (σ (place p))
      refl
      (go_back_lem z.B (view σ γ) good.model t _ _ _ (σ (place h)) (σ (place p)) seen (rw same at b.falls))))
    where
      m : Memory z σ γ.shape
      m = good.memory

      fits : (h : ℕ) → σ (held t) ≡ suc h → h < z.N
      fits h q = omega (arith, held_most 7 e refl)

  -- 6. Shift: if the tail record is the held one, it becomes next of held. To 2.
  abbrev shift_writes : ℕ → List Write
  shift_writes n = tail_record := suc n ∷ phase t := 2 ∷ []

  -- the held record, where it is the tail record in phase 6: its place, and its next
  module _ (h : ℕ) (e : σ (phase t) ≡ 6) (q : σ (held t) ≡ suc h) (b : σ tail_record ≡ suc h) where
    seen_shifting : (view σ γ).producer t ≡ shifting (σ (call t)) (σ (value t)) (σ (position t)) (place_of (places_of σ) (σ (held t)))
    seen_shifting = seen_at z σ γ good t a-producer 6 e

    is_tail : h ≡ γ.shape.at γ.shape.tp
    is_tail = omega (arith, good.memory.tail_is)

    tail_placed : place_of (places_of σ) (σ (held t)) ≡ γ.shape.tp
    tail_placed =
        ap (place_of (places_of σ)) q
        ∙ ap (λ (x : ℕ). σ (place x)) is_tail
        ∙ good.memory.chain.placed γ.shape.tp (tail_listed good.memory)

    tail_below : place_of (places_of σ) (σ (held t)) < γ.shape.hi
    tail_below = (producer_clause z.B (view σ γ) good.model t _ seen_shifting).3

    tail_next : σ (next h) ≡ suc (γ.shape.at (suc (place_of (places_of σ) (σ (held t)))))
    tail_next =
        ap (λ (x : ℕ). σ (next x)) is_tail
        ∙ good.memory.chain.nexts γ.shape.tp (suc γ.shape.tp) (tail_joined good.memory (omega (arith, tail_placed, tail_below)))
        ∙ ap (λ (x : ℕ). suc (γ.shape.at (suc x))) (sym tail_placed)

    shifts : (n : ℕ) → σ (next h) ≡ suc n → Goes z σ γ (step t) going (shift_writes n)
    shifts n r =
        producer_goes z σ γ good t a-producer going tt (shift_writes n)
        (suc (place_of (places_of σ) (σ (held t)))) γ.entry γ.content γ.history
        in_sort
        (omega arith, ((a-producer.0, a-producer.1, omega arith), tt))
        (record { parts = λ x j. refl; entries = λ x u i j. refl })
        (refl, refl, refl, refl)
        (producer_row_of z (row_of σ' t) 2 two (omega arith) (record { call = old.call; value = old.value; position = old.position; held = old.held; claimed = old.claimed; backed = old.backed; steps = old.steps }))
        (unclaimed z σ (row_of σ' t) (good.memory.threads t).holding none
        (λ l. absurd (omega (arith, two))) (λ x. omega (arith, two)) (λ x. omega (arith, two)) (λ x. absurd (omega (arith, two))))
        none
        (omega (arith, tail_placed), tail_below, sym r ∙ tail_next)
        good.agrees
        (as_seen (shift_tail_lem z.B (view σ γ) good.model t _ _ _ _ seen_shifting tail_placed)
        (producers_after t σ σ' (others_kept z t σ (shift_writes n) in_sort) (λ u x. refl) _ (rw self refl)))
        good.formed
        refl
        (omega arith)
        (λ p. ((λ x. x), (λ x. x)))
      where
        σ' : Reader
        σ' = after σ (shift_writes n)

        fits : h < z.N
        fits = rw is_tail (good.memory.chain.fits γ.shape.tp (tail_listed good.memory))

        in_sort : All (InSort z t) (shift_writes n)
        in_sort = (
          of_sort_lem z record_number (suc n) (omega arith, omega (arith, has_sort z link (σ (next h)) (good.range.words (next h) (fits, omega arith)))),
          (refl, tt),
        )

        old : ProducerWords z (row_of σ t) placed_sorts
        old = own_words z σ γ good t a-producer 6 e

        none : σ (claimed t) ≡ 0
        none = old.claimed

        two : row_of σ' t 0 ≡ 2
        two = rw self refl

  pub shift_tail_fine : σ (phase t) ≡ 6 → Fine z σ γ (step t) (shift_tail z σ t)
  unfolding shift_tail
  shift_tail_fine e =
      by_need (Fine z σ γ (step t)) (σ (held t)) _ ((good.memory.threads t).has_held (omega arith))
      (λ h q.
      by_cond (Fine z σ γ (step t)) (eqb (σ tail_record) (suc h)) _ _
      (λ b.
      let c : σ tail_record ≡ suc h = eqb-true (σ tail_record) (suc h) b in
      by_need (Fine z σ γ (step t)) (σ (next h)) _ (λ n. omega (arith, tail_next h e q c)) (shifts h e q c))
      (λ b.
      phase_alone 6 2 _ e (omega arith) refl refl (omega arith) ((λ x. omega arith), (λ x. omega arith)) refl
      (leave_tail_lem z.B (view σ γ) good.model t _ _ _ _ (seen_at z σ γ good t a-producer 6 e))))
