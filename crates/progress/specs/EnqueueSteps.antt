-- An enqueue's own steps lower what it has left.
use Rattle.std.specs.Prelude.{◌≡◌, ◌≢◌, Bool, ◌&&◌, List, [], ◌∷◌, leb, ltb, get_or}
use Rattle.std.proofs.Math.Path.{refl, ap}
use Rattle.std.proofs.Common.{sym, ◌∙◌, inl, inr, ⊎_elim}
use Rattle.std.proofs.Math.Bool.{true, false, cond, and-false}
use Prim.Native.Nat.{ℕ, zero, suc, ◌+◌, ◌*◌, ◌≤◌, ◌<◌}
use Rattle.std.proofs.Math.Decide.{ℕ_discrete}
use native.Mathlib.Omega.{arith}
use Rattle.std.proofs.Math.Dec.{eqb}
use borrow.Author.Tests.{eq-eqb, ne_eqb, eqb-true, eqb-false, leb-true, leb-false, lt-ltb, le-ltb, ltb-true, le-leb}
use Rattle.rules.specs.Sizes.{Sizes}
use Rattle.rules.specs.Cell.{Reader, Write, ◌:=◌, clear_producer, tail, tail_record, phase, position, held, claimed, backed, place, next, prev, used, state, entry_number, entry_value, call, value}
use Rattle.rules.specs.Update.{after, both, and_true}
use Rattle.rules.specs.Range.{link, record_number}
use Rattle.rules.specs.Rule.{refuse, reply, ended, goes, index}
use Rattle.rules.specs.Producer.{choose, load_tail, look_next, claim, claim_record, link_claimed, shift_tail, go_back, write_entry, set_entry, claim_ahead, link_ahead, producer_rules, producer_step}
use Rattle.rules.specs.Request.{start_writes}
use Rattle.model.specs.Walking.{producer_clause}
use Rattle.model.specs.Count.{start_room}
use Rattle.memory.specs.Memory.{Holdable, Memory, held_is, claimed_is, row_of, tail_listed, tail_joined}
use Rattle.memory.specs.GoingBack.{goes_back}
use Rattle.memory.specs.Loose.{Loose, LooseChoice}
use Rattle.memory.specs.Claiming.{claim_writes}
use Rattle.simulation.specs.View.{Ghost, places_of, place_of, producer_at, view}
use Rattle.simulation.specs.Good.{Good, by_cond}
use Rattle.simulation.specs.Limits.{limits}
use Rattle.simulation.specs.Rows.{has_sort}
use Rattle.simulation.specs.Awaiting.{behind_awaited}
use Rattle.simulation.specs.ProducerSteps.{own_words, not_in_one, seen_at}
use Rattle.simulation.specs.RecordSteps.{place_same}
use Rattle.progress.specs.Arithmetic.{count_less, count_below, count_below_two, count_some, ahead_less, ahead_next, ahead_within, ahead_some}
use Rattle.progress.specs.Measure.{most_enqueue, is_between, records_back, round_steps, load_steps, enqueue_at, enqueue_left}
use Rattle.progress.specs.Lowers.{Lowers, refused_lowers, goes_lowers, ended_lowers}
use Rattle.progress.specs.Leaves.{each_need, each_up_to, each_inside}

-- what an enqueue has left, by the words that say it
enqueue_is : (z : Sizes) (σ : Reader) (t p L k tp : ℕ) → σ (phase t) ≡ p → σ (position t) ≡ L → place_of (places_of σ) (σ (held t)) ≡ k
    → place_of (places_of σ) (σ tail_record) ≡ tp → enqueue_left z σ t ≡ enqueue_at z σ p L k tp (σ (held t)) (σ (backed t))
unfolding enqueue_left
enqueue_is z σ t p L k tp a b c d = rw (a, b, c, d) refl

at_most_one : (b : Bool) → cond b 0 1 ≤ 1
at_most_one true = omega arith
at_most_one false = omega arith

-- phases 8 and 9 are left, and 10 and 11 if phase 7 was never taken
to_write : (b : ℕ) → cond (eqb b 0) 4 2 ≤ 4
to_write b = go (eqb b 0)
  where
    go : (c : Bool) → cond c 4 2 ≤ 4
    go true = omega arith
    go false = omega arith

to_set : (b : ℕ) → 1 + cond (eqb b 0) 3 1 ≡ cond (eqb b 0) 4 2
to_set b = go (eqb b 0)
  where
    go : (c : Bool) → 1 + cond c 3 1 ≡ cond c 4 2
    go true = refl
    go false = refl

module _ (z : Sizes) (σ : Reader) (γ : Ghost) (good : Good z σ γ) (p : ℕ) (there : (1 ≤ suc p) × (suc p ≤ z.P)) where
  self : eqb (suc p) (suc p) ≡ true
  self = eq-eqb (suc p) (suc p) refl

  abbrev L : ℕ
  L = σ (position (suc p))

  abbrev k : ℕ
  k = place_of (places_of σ) (σ (held (suc p)))

  abbrev tp : ℕ
  tp = place_of (places_of σ) (σ tail_record)

  -- the held record, and whether phase 7 was taken
  abbrev held_word : ℕ
  held_word = σ (held (suc p))

  abbrev back : ℕ
  back = σ (backed (suc p))

  m : Memory z σ γ.shape
  m = good.memory

  tail_placed : tp ≡ γ.shape.tp
  tail_placed = ap (place_of (places_of σ)) m.tail_is ∙ m.chain.placed γ.shape.tp (tail_listed m)

  tail_linked : (r : ℕ) → σ tail_record ≡ suc r → σ (used r) ≡ 2
  tail_linked r q =
      let is : γ.shape.at γ.shape.tp ≡ r = omega (arith, m.tail_is) in
      ap (λ (x : ℕ). σ (used x)) (sym is) ∙ m.chain.linked γ.shape.tp (tail_listed m)

  some_entries : 0 < z.B
  some_entries = omega (arith, (limits z good.sizes).two_entries)

  -- what is left in phase b after these writes is less than in phase a
  abbrev Fewer : (ws : List Write) (a b L' k' tp' : ℕ) → Type 0
  Fewer ws a b L' k' tp' =
      enqueue_at z (after σ ws) b L' k' tp' (after σ ws (held (suc p))) (after σ ws (backed (suc p))) < enqueue_at z σ a L k tp held_word back

  -- a step from phase a to phase b
  from_to : (a b L' k' tp' : ℕ) (ws : List Write) → σ (phase (suc p)) ≡ a → after σ ws (phase (suc p)) ≡ b → after σ ws (position (suc p)) ≡ L'
      → place_of (places_of (after σ ws)) (after σ ws (held (suc p))) ≡ k' → place_of (places_of (after σ ws)) (after σ ws tail_record) ≡ tp' → b ≢ 0
      → Fewer ws a b L' k' tp' → Lowers z σ (suc p) (goes ws)
  from_to a b L' k' tp' ws e f g h i some less =
      goes_lowers z σ (suc p) ws (λ x. some (sym f ∙ x)) (rw (enqueue_is z σ (suc p) a L k tp e refl refl refl, enqueue_is z (after σ ws) (suc p) b L' k' tp' f g h i) less) tt

  -- What a start leaves: the take is made.
  pub start_leaves : (v : ℕ) → σ (phase (suc p)) ≡ 0 → suc (enqueue_left z (after σ (start_writes σ (suc p) v)) (suc p)) ≤ most_enqueue z
  start_leaves v e =
      omega (
        arith,
        enqueue_is z (after σ (start_writes σ (suc p) v)) (suc p) 2 (σ tail) k tp (rw self refl) (rw self refl) refl refl,
        room,
        ahead_within z.B (σ tail) tp z.P some_entries (omega (arith, room, ap (λ (x : ℕ). z.B * x) tail_placed)),
        ahead_some z.B z.P some_entries (omega (arith, there)),
        at_most_one (ltb 0 held_word && leb (z.B * k) (σ tail)),
      )
    where
      room : σ tail < z.B * γ.shape.tp + z.P
      room =
          start_room z.B (view σ γ) good.model good.formed z.P
          (λ u n. ap (λ (x : ℕ). producer_at x (row_of σ u 1) (row_of σ u 2) (row_of σ u 3) (place_of (places_of σ) (row_of σ u 4))) (m.outside u 0 n))
          (suc p) there (seen_at z σ γ good (suc p) there 0 e)

  -- "choose" with record r, whose place is j, held: by where it leads
  chosen : (a r j : ℕ) (ws : List Write) → σ (phase (suc p)) ≡ a → σ (place r) ≡ j → after σ ws (phase (suc p)) ≡ choose z σ (suc p) r
      → after σ ws (position (suc p)) ≡ L → place_of (places_of (after σ ws)) (after σ ws (held (suc p))) ≡ j → place_of (places_of (after σ ws)) (after σ ws tail_record) ≡ tp
      → (z.B * j ≤ L → Fewer ws a 3 L j tp)
      → (L + z.B < z.B * j → Fewer ws a 7 L j tp)
      → (L < z.B * j → Fewer ws a 8 L j tp)
      → Lowers z σ (suc p) (goes ws)
  chosen a r j ws e q f g h i far near here = outer (leb (z.B * σ (place r)) L) refl
    where
      inner : (b : Bool) → ltb (L + z.B) (z.B * σ (place r)) ≡ b → L < z.B * σ (place r) → choose z σ (suc p) r ≡ cond b 7 8 → Lowers z σ (suc p) (goes ws)
      inner true b l c = from_to a 7 L j tp ws e (f ∙ c) g h i (λ x. omega arith) (near (rw q at (ltb-true (L + z.B) (z.B * σ (place r)) b)))
      inner false b l c = from_to a 8 L j tp ws e (f ∙ c) g h i (λ x. omega arith) (here (rw q at l))

      outer : (b : Bool) → leb (z.B * σ (place r)) L ≡ b → Lowers z σ (suc p) (goes ws)
      outer true b = from_to a 3 L j tp ws e (f ∙ rw b refl) g h i (λ x. omega arith) (far (rw q at (leb-true (z.B * σ (place r)) L b)))
      outer false b = inner (ltb (L + z.B) (z.B * σ (place r))) refl (leb-false (z.B * σ (place r)) L b) (rw b refl)

  -- 2.
  load_lowers : σ (phase (suc p)) ≡ 2 → Lowers z σ (suc p) (load_tail z σ (suc p))
  unfolding load_tail
  load_lowers e =
      each_need (Lowers z σ (suc p)) (refused_lowers z σ (suc p)) (σ tail_record) _
      (λ r q.
      let placed : tp ≡ σ (place r) = ap (place_of (places_of σ)) q in
      let fits : r < z.N = omega (arith, (has_sort z record_number (σ tail_record) (good.range.words tail_record (omega arith))).1) in
      chosen 2 r tp (held (suc p) := suc r ∷ phase (suc p) := choose z σ (suc p) r ∷ []) e (sym placed) (rw self refl) refl (rw self (sym placed)) refl
      (λ l. omega (arith, ahead_next z.B L tp some_entries l))
      (λ l. omega (arith, to-go-back r placed fits l held_word refl))
      (λ l. omega (arith, to_write back)))
    where
      -- of the records that are gone back over none is the tail record, nor one before L's that it holds
      not-tail : (r : ℕ) → tp ≡ σ (place r) → is_between z σ L tp r ≡ false
      not-tail r e = rw (le-ltb (σ (place r)) tp (omega arith), and-false (ltb L (z.B * σ (place r)))) refl

      not_earlier : (r : ℕ) → z.B * σ (place r) ≤ L → is_between z σ L tp r ≡ false
      not_earlier r l = rw (le-ltb L (z.B * σ (place r)) l) refl

      to-go-back : (r : ℕ) → tp ≡ σ (place r) → r < z.N → L + z.B < z.B * tp → (h : ℕ) → held_word ≡ h
          → 1 + records_back z σ L tp < z.N + cond (ltb 0 h && leb (z.B * k) L) 0 1
      to-go-back r placed fits l zero q = omega (arith, count_below z.N (is_between z σ L tp) r fits (not-tail r placed))
      to-go-back r placed fits l (suc h) q = go (leb (z.B * k) L) refl
        where
          own : k ≡ σ (place h)
          own = ap (place_of (places_of σ)) q

          go : (b : Bool) → leb (z.B * k) L ≡ b → 1 + records_back z σ L tp < z.N + cond (ltb 0 (suc h) && b) 0 1
          go true b =
              let low : z.B * k ≤ L = leb-true (z.B * k) L b in
              let other : r ≢ h = λ i. omega (arith, ap (λ (x : ℕ). z.B * x) (own ∙ ap (λ (x : ℕ). σ (place x)) (sym i) ∙ sym placed)) in
              let fits-too : h < z.N = omega (arith, (own_words z σ γ good (suc p) there 2 e).held) in
              omega (arith, count_below_two z.N (is_between z σ L tp) r h fits fits-too other (not-tail r placed) (not_earlier h (rw own at low)))
          go false b = rw (and-false (ltb 0 (suc h))) (omega (arith, count_below z.N (is_between z σ L tp) r fits (not-tail r placed)))

  -- 3.
  look_lowers : σ (phase (suc p)) ≡ 3 → Lowers z σ (suc p) (look_next z σ (suc p))
  unfolding look_next
  look_lowers e =
      each_need (Lowers z σ (suc p)) (refused_lowers z σ (suc p)) (σ (held (suc p))) _ (λ h q. go (eqb (σ (next h)) 0))
    where
      go : (b : Bool) → Lowers z σ (suc p) (goes (phase (suc p) := cond b 4 6 ∷ []))
      go true = from_to 3 4 L k tp (phase (suc p) := 4 ∷ []) e (rw self refl) refl refl refl (λ x. omega arith) (omega arith)
      go false = from_to 3 6 L k tp (phase (suc p) := 6 ∷ []) e (rw self refl) refl refl refl (λ x. omega arith) (omega arith)

  -- Claims of a loose record r, in phase a on the way to b: the place of the held record stays.
  claim_lowers : (a b r : ℕ) → σ (phase (suc p)) ≡ a → Loose σ r → b ≢ 0 → Fewer (claim_writes (suc p) r b) a b L k tp
      → Lowers z σ (suc p) (claim z σ (suc p) r b)
  claim_lowers a b r e loose some less =
      from_to a b L k tp (claim_writes (suc p) r b) e (rw self refl) refl
      (place_same σ (after σ (claim_writes (suc p) r b)) r places (σ (held (suc p))) (loose.not_held (suc p)))
      (place_same σ (after σ (claim_writes (suc p) r b)) r places (σ tail_record) (λ q. loose.not_linked (tail_linked r q)))
      some
      less
    where
      places : (y : ℕ) → (y ≡ r → ⊥) → after σ (claim_writes (suc p) r b) (place y) ≡ σ (place y)
      places y n = rw (ne_eqb r y (λ q. n (sym q))) refl

  -- 4.
  claim_record_lowers : σ (phase (suc p)) ≡ 4 → (c : ℕ) → LooseChoice z σ c → Lowers z σ (suc p) (claim_record z σ (suc p) c)
  unfolding claim_record
  claim_record_lowers e zero none = refused_lowers z σ (suc p) 8
  claim_record_lowers e (suc r) one = claim_lowers 4 5 r e one.1 (λ x. omega arith) (omega arith)

  -- 10.
  claim_ahead_lowers : σ (phase (suc p)) ≡ 10 → (c : ℕ) → LooseChoice z σ c → Lowers z σ (suc p) (claim_ahead z σ (suc p) c)
  unfolding claim_ahead
  claim_ahead_lowers e zero none = ended_lowers z σ p _ (rw self refl)
  claim_ahead_lowers e (suc r) one = claim_lowers 10 11 r e one.1 (λ x. omega arith) (omega arith)

  -- 5.
  abbrev link_writes : (h c : ℕ) → List Write
  link_writes h c = next h := suc c ∷ used c := 2 ∷ prev c := suc h ∷ place c := suc (σ (place h)) ∷ claimed (suc p) := 0 ∷ phase (suc p) := 6 ∷ []

  link_lowers : σ (phase (suc p)) ≡ 5 → Lowers z σ (suc p) (link_claimed z σ (suc p))
  unfolding link_claimed
  link_lowers e =
      each_need (Lowers z σ (suc p)) (refused_lowers z σ (suc p)) (σ (held (suc p))) _
      (λ h q.
      each_need (Lowers z σ (suc p)) (refused_lowers z σ (suc p)) (σ (claimed (suc p))) _
      (λ c w.
      by_cond (Lowers z σ (suc p)) (eqb (σ (next h)) 0) _ _
      (λ b.
      each_up_to (Lowers z σ (suc p)) (refused_lowers z σ (suc p)) _ (suc (σ (place h))) _
      (λ l.
      from_to 5 6 L k tp (link_writes h c) e (rw self refl) refl
      (place_same σ (after σ (link_writes h c)) c (places h c) (σ (held (suc p))) (λ x. not_held c w x))
      (place_same σ (after σ (link_writes h c)) c (places h c) (σ tail_record) (tail-not c w))
      (λ x. omega arith)
      (omega arith)))
      (λ b. from_to 5 6 L k tp (used c := 0 ∷ claimed (suc p) := 0 ∷ phase (suc p) := 6 ∷ []) e (rw self refl) refl refl refl (λ x. omega arith) (omega arith))))
    where
      places : (h c y : ℕ) → (y ≡ c → ⊥) → after σ (link_writes h c) (place y) ≡ σ (place y)
      places h c y n = rw (ne_eqb c y (λ q. n (sym q))) refl

      not_held : (c : ℕ) → σ (claimed (suc p)) ≡ suc c → σ (held (suc p)) ≡ suc c → ⊥
      not_held c w x =
          let b = claimed_is m (suc p) c w in
          ⊎_elim (λ (l : σ (used c) ≡ 2). omega (arith, b.claimed_use)) (λ l. omega (arith, b.claimed_use)) (held_is m (suc p) c x)

      tail-not : (c : ℕ) → σ (claimed (suc p)) ≡ suc c → σ tail_record ≡ suc c → ⊥
      tail-not c w x = omega (arith, tail_linked c x, (claimed_is m (suc p) c w).claimed_use)

  -- 6.
  shift_lowers : σ (phase (suc p)) ≡ 6 → Lowers z σ (suc p) (shift_tail z σ (suc p))
  unfolding shift_tail
  shift_lowers e =
      each_need (Lowers z σ (suc p)) (refused_lowers z σ (suc p)) (σ (held (suc p))) _
      (λ h q.
      by_cond (Lowers z σ (suc p)) (eqb (σ tail_record) (suc h)) _ _
      (λ b.
      each_need (Lowers z σ (suc p)) (refused_lowers z σ (suc p)) (σ (next h)) _
      (λ n w.
      from_to 6 2 L k (σ (place n)) (tail_record := suc n ∷ phase (suc p) := 2 ∷ []) e (rw self refl) refl refl refl (λ x. omega arith)
      (less h q (σ (place n)) (onward h n q (eqb-true (σ tail_record) (suc h) b) w))))
      (λ b.
      from_to 6 2 L k tp (phase (suc p) := 2 ∷ []) e (rw self refl) refl refl refl (λ x. omega arith)
      (less h q tp (passed h q (eqb-false (σ tail_record) (suc h) b)))))
    where
      clause : (k ≤ γ.shape.tp) × (z.B * k ≤ L) × (k < γ.shape.hi)
      clause = let c = producer_clause z.B (view σ γ) good.model (suc p) _ (seen_at z σ γ good (suc p) there 6 e) in (c.1, c.2, c.3)

      -- it goes on holding a record before L's
      less : (h : ℕ) → held_word ≡ suc h → (j : ℕ) → suc k ≤ j → load_steps z σ L held_word k j < 1 + round_steps z σ L (suc k)
      less h q j l =
          rw (and_true (lt-ltb 0 held_word (omega arith)) (le-leb (z.B * k) L clause.1)) (omega (arith, ahead_less z.B L (suc k) j some_entries l))

      -- the record after the tail record
      onward : (h n : ℕ) → σ (held (suc p)) ≡ suc h → σ tail_record ≡ suc h → σ (next h) ≡ suc n → suc k ≤ σ (place n)
      onward h n q b w =
          let same : k ≡ tp = ap (place_of (places_of σ)) (q ∙ sym b) in
          let is : h ≡ γ.shape.at γ.shape.tp = omega (arith, m.tail_is) in
          let more : γ.shape.tp < γ.shape.hi = omega (arith, clause.0, clause.2, tail_placed) in
          let next_is : n ≡ γ.shape.at (suc γ.shape.tp) = omega (arith, ap (λ (x : ℕ). σ (next x)) is, m.chain.nexts γ.shape.tp (suc γ.shape.tp) (tail_joined m more)) in
          omega (arith, tail_placed, ap (λ (x : ℕ). σ (place x)) next_is, m.chain.placed (suc γ.shape.tp) (tail_joined m more).right)

      -- the tail record has moved on
      passed : (h : ℕ) → σ (held (suc p)) ≡ suc h → σ tail_record ≢ suc h → suc k ≤ tp
      passed h q n = go (ℕ_discrete k tp) (held_is m (suc p) h q)
        where
          placed : k ≡ σ (place h)
          placed = ap (place_of (places_of σ)) q

          go : Dec (k ≡ tp) → Holdable σ h → suc k ≤ tp
          go (no d) held = omega (arith, clause.0, clause.2, tail_placed)
          go (yes d) (inl u) =
              let is : γ.shape.at γ.shape.tp ≡ h = ap γ.shape.at (sym tail_placed ∙ sym d ∙ placed) ∙ (m.chain.only h u).1 in
              absurd (n (m.tail_is ∙ ap suc is))
          go (yes d) (inr u) = omega (arith, placed, (m.retired h u).before_tail, tail_placed)

  -- 7.
  back_lowers : σ (phase (suc p)) ≡ 7 → Lowers z σ (suc p) (go_back z σ (suc p))
  unfolding go_back
  back_lowers e =
      each_need (Lowers z σ (suc p)) (refused_lowers z σ (suc p)) (σ (held (suc p))) _
      (λ h q.
      each_need (Lowers z σ (suc p)) (refused_lowers z σ (suc p)) (σ (prev h)) _
      (λ r w.
      let before = back h r q w in
      let placed : σ (place r) < k = before.0 in
      let fits : r < z.N = before.1 in
      let low : L < z.B * σ (place r) = before.2 in
      let passes : is_between z σ L k r ≡ true =
      and_true (lt-ltb L (z.B * σ (place r)) low) (lt-ltb (σ (place r)) k (omega arith)) in
      chosen 7 r (σ (place r)) (held (suc p) := suc r ∷ backed (suc p) := 1 ∷ phase (suc p) := choose z σ (suc p) r ∷ []) e refl (rw self refl) refl (rw self refl) refl
      (λ l. absurd (omega arith))
      (λ l.
      omega (
        arith,
        count_less z.N (is_between z σ L (σ (place r))) (is_between z σ L k)
            (λ y g c. weaker (σ (place r)) y (omega arith) c) r fits (fails r) passes,
      ))
      (λ l. rw self (omega (arith, count_some z.N (is_between z σ L k) r fits passes)))))
    where
      weaker : (j y : ℕ) → j ≤ k → is_between z σ L j y ≡ true → is_between z σ L k y ≡ true
      weaker j y l c =
          let b = both (ltb L (z.B * σ (place y))) (ltb (σ (place y)) j) c in
          and_true b.0 (lt-ltb (σ (place y)) k (omega (arith, ltb-true (σ (place y)) j b.1)))

      fails : (r : ℕ) → is_between z σ L (σ (place r)) r ≡ false
      fails r = rw (le-ltb (σ (place r)) (σ (place r)) (omega arith), and-false (ltb L (z.B * σ (place r)))) refl

      -- prev of the held record: of a smaller place, with L before its end
      back : (h r : ℕ) → σ (held (suc p)) ≡ suc h → σ (prev h) ≡ suc r → (σ (place r) < k) × (r < z.N) × (L < z.B * σ (place r))
      back h r q w =
          let placed : k ≡ σ (place h) = ap (place_of (places_of σ)) q in
          let a = behind_awaited z σ γ good (suc p) _ _ _ _ (seen_at z σ γ good (suc p) there 7 e) in
          let b = goes_back m (suc p) h e q a.1 (rw placed at a.0) in
          let same : b.to ≡ r = omega (arith, b.back) in
          let fits : h < z.N = omega (arith, (own_words z σ γ good (suc p) there 7 e).held) in (
            omega (arith, placed, rw same at b.falls),
            omega (arith, has_sort z link (σ (prev h)) (good.range.words (prev h) (fits, omega arith))),
            rw same at b.past,
          )

  -- 8.
  write_lowers : σ (phase (suc p)) ≡ 8 → Lowers z σ (suc p) (write_entry z σ (suc p))
  unfolding write_entry
  write_lowers e =
      each_need (Lowers z σ (suc p)) (refused_lowers z σ (suc p)) (σ (held (suc p))) _
      (λ h q.
      each_inside (Lowers z σ (suc p)) (refused_lowers z σ (suc p)) z σ h L
      (λ i. goes (entry_number h i := σ (call (suc p)) ∷ entry_value h i := σ (value (suc p)) ∷ phase (suc p) := 9 ∷ []))
      (λ a b.
      from_to 8 9 L k tp (entry_number h (index z σ h L) := σ (call (suc p)) ∷ entry_value h (index z σ h L) := σ (value (suc p)) ∷ phase (suc p) := 9 ∷ []) e (rw self refl) refl refl refl (λ x. omega arith) (omega (arith, to_set back))))

  -- 9.
  set_lowers : σ (phase (suc p)) ≡ 9 → Lowers z σ (suc p) (set_entry z σ (suc p))
  unfolding set_entry
  set_lowers e =
      each_need (Lowers z σ (suc p)) (refused_lowers z σ (suc p)) (σ (held (suc p))) _
      (λ h q.
      each_inside (Lowers z σ (suc p)) (refused_lowers z σ (suc p)) z σ h L
      (λ i. cond (eqb i 1 && eqb (σ (backed (suc p))) 0)
      (goes (state h i := 1 ∷ phase (suc p) := 10 ∷ []))
      (reply ended (state h i := 1 ∷ clear_producer (suc p) ∷ [])))
      (λ a b.
      by_cond (Lowers z σ (suc p)) (eqb (index z σ h L) 1 && eqb (σ (backed (suc p))) 0) _ _
      (λ c. from_to 9 10 L k tp (state h (index z σ h L) := 1 ∷ phase (suc p) := 10 ∷ []) e (rw self refl) refl refl refl (λ x. omega arith)
      (rw (both (eqb (index z σ h L) 1) (eqb back 0) c).1 (omega arith)))
      (λ c. ended_lowers z σ p _ (rw self refl))))

  -- 11.
  link_ahead_lowers : Lowers z σ (suc p) (link_ahead z σ (suc p))
  unfolding link_ahead
  link_ahead_lowers =
      each_need (Lowers z σ (suc p)) (refused_lowers z σ (suc p)) (σ (held (suc p))) _
      (λ h q.
      each_need (Lowers z σ (suc p)) (refused_lowers z σ (suc p)) (σ (claimed (suc p))) _
      (λ c w.
      by_cond (Lowers z σ (suc p)) (eqb (σ (next h)) 0) _ _
      (λ b. each_up_to (Lowers z σ (suc p)) (refused_lowers z σ (suc p)) _ (suc (σ (place h))) _ (λ l. ended_lowers z σ p _ (rw self refl)))
      (λ b. ended_lowers z σ p _ (rw self refl))))

  pub enqueue_lowers : (c : ℕ) → LooseChoice z σ c → Lowers z σ (suc p) (producer_step c z σ (suc p))
  unfolding producer_step
  enqueue_lowers c choice = by-phase (σ (phase (suc p))) refl
    where
      by-phase : (x : ℕ) → σ (phase (suc p)) ≡ x → Lowers z σ (suc p) (get_or (producer_rules c) x (λ z σ t. refuse 7) z σ (suc p))
      by-phase zero e = refused_lowers z σ (suc p) 7
      by-phase (suc zero) e = absurd (not_in_one z σ γ good (suc p) there e)
      by-phase (suc (suc zero)) e = load_lowers e
      by-phase (suc (suc (suc zero))) e = look_lowers e
      by-phase (suc (suc (suc (suc zero)))) e = claim_record_lowers e c choice
      by-phase (suc (suc (suc (suc (suc zero))))) e = link_lowers e
      by-phase (suc (suc (suc (suc (suc (suc zero)))))) e = shift_lowers e
      by-phase (suc (suc (suc (suc (suc (suc (suc zero))))))) e = back_lowers e
      by-phase (suc (suc (suc (suc (suc (suc (suc (suc zero)))))))) e = write_lowers e
      by-phase (suc (suc (suc (suc (suc (suc (suc (suc (suc zero))))))))) e = set_lowers e
      by-phase (suc (suc (suc (suc (suc (suc (suc (suc (suc (suc zero)))))))))) e = claim_ahead_lowers e c choice
      by-phase (suc (suc (suc (suc (suc (suc (suc (suc (suc (suc (suc zero))))))))))) e = link_ahead_lowers
      by-phase (suc (suc (suc (suc (suc (suc (suc (suc (suc (suc (suc (suc x)))))))))))) e = refused_lowers z σ (suc p) 7
