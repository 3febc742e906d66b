-- A dequeue's own steps lower what it has left, and so do a drain's.
use Rattle.std.specs.Prelude.{◌≡◌, ◌≢◌, Bool, true, false, ◌&&◌, ◌||◌, not, eqb, ltb, length, get_or}
use Rattle.std.proofs.Math.Path.{refl, ap}
use Rattle.std.proofs.Common.{sym, ◌∙◌, subst, mul_comm, length-append}
use Rattle.std.proofs.Math.Bool.{cond, and-false}
use mathlib.Core.List.{List, [], ◌∷◌, ◌++◌}
use Prim.Native.Nat.{ℕ, zero, suc, ◌+◌, ◌-◌, ◌*◌, ◌≤◌, ◌<◌}
use Rattle.std.proofs.Math.Decide.{dec_lt, ℕ_discrete}
use native.Mathlib.Omega.{arith}
use borrow.Author.Tests.{eq-eqb, ne_eqb, eqb-true, eqb-false, lt-ltb, le-ltb, ltb-true}
use Rattle.history.specs.Linearization.{Item}
use Rattle.rules.specs.Sizes.{Sizes}
use Rattle.rules.specs.Cell.{Reader, Write, ◌:=◌, clear_consumer, clear_drain, scanned, drain, drain_limit, drain_count, tail, tail_record, head_record, head_position, all_handled, consumer_phase, cursor_record, cursor_position, found_record, found_position, item_number, item_value, place, next, prev, used, state, entry_number, entry_value}
use Rattle.rules.specs.Update.{after, both, neither, and_true}
use Rattle.rules.specs.Rule.{Effect, refuse, goes, need, up_to, at_end, index}
use Rattle.rules.specs.Consumer.{by_state, items_marked, by_call, ends_empty, replies_item, goes_on, front, read_tail, entered, folded, is_read, scan, still_handled, read_entry, through_scan, rescanned, rescan, read_item, drained_at, marks, keep_item, mark_handled, retire_head, consumer_rules, consumer_step}
use Rattle.model.specs.State.{gone, rescanning}
use Rattle.model.specs.Dequeues.{consumer_clause}
use Rattle.memory.specs.Listed.{onward}
use Rattle.memory.specs.Memory.{ListedIn, Memory, last_listed}
use Rattle.simulation.specs.View.{Ghost, places_of, place_of, view, code_of}
use Rattle.simulation.specs.Good.{Good, Read, by_cond}
use Rattle.simulation.specs.Limits.{limits}
use Rattle.simulation.specs.DrainWords.{drain_in, marked_length}
use Rattle.simulation.specs.ConsumerCursor.{linked_most}
use Rattle.simulation.specs.ConsumerSteps.{consumer_at_lem, head_placed, head_record_linked}
use Rattle.progress.specs.Arithmetic.{count_most, count_grows, count_less, count_below, scaled, scaled_less, triangle_less}
use Rattle.progress.specs.Measure.{rank, first_handled, along, read_steps, item_steps, items_after, dequeue_at, consumer_left}
use Rattle.progress.specs.Leaves.{each_need, each_up_to, each_inside, each_cross}
use Rattle.progress.specs.Lowers.{Lowers, refused_lowers, goes_lowers, empty_lowers, item_lowers, drained_lowers}

-- what a dequeue or drain has left, by the words that say it
consumer_is : (z : Sizes) (σ : Reader) (p hp lo c k f g l n : ℕ) → σ consumer_phase ≡ p → σ head_position ≡ hp → place_of (places_of σ) (σ head_record) ≡ lo
    → σ cursor_position ≡ c → place_of (places_of σ) (σ cursor_record) ≡ k → σ found_position ≡ f → place_of (places_of σ) (σ found_record) ≡ g
    → σ drain_limit ≡ l → σ drain_count ≡ n → consumer_left z σ ≡ dequeue_at z σ p hp lo c k f g n + item_steps z * items_after p l n
unfolding consumer_left
consumer_is z σ p hp lo c k f g l n a b d e h i j x y = rw (a, b, d, e, h, i, j, x, y) refl

-- an entry's state by cases
each_state : (P : Effect → Type 0) (x : ℕ) (a b c : Effect) → P a → P b → P c → P (by_state x a b c)
each_state P zero a b c f g h = f
each_state P (suc zero) a b c f g h = g
each_state P (suc (suc x)) a b c f g h = h

module _ (z : Sizes) (σ : Reader) (γ : Ghost) (good : Good z σ γ) where
  abbrev hp : ℕ
  hp = σ head_position

  abbrev lo : ℕ
  lo = place_of (places_of σ) (σ head_record)

  abbrev c : ℕ
  c = σ cursor_position

  abbrev k : ℕ
  k = place_of (places_of σ) (σ cursor_record)

  abbrev f : ℕ
  f = σ found_position

  abbrev g : ℕ
  g = place_of (places_of σ) (σ found_record)

  -- a drain's limit, and the items that it has marked
  abbrev limit : ℕ
  limit = σ drain_limit

  abbrev marked : ℕ
  marked = σ drain_count

  m : Memory z σ γ.shape
  m = good.memory

  two : 2 ≤ z.B
  two = (limits z good.sizes).two_entries

  -- Ranks: a linked record is counted at every greater place, and not at its own.
  counted_at : (r j : ℕ) → σ (used r) ≡ 2 → σ (place r) < j → (eqb (σ (used r)) 2 && ltb (σ (place r)) j) ≡ true
  counted_at r j u l = and_true (eq-eqb (σ (used r)) 2 u) (lt-ltb (σ (place r)) j l)

  not_at : (r : ℕ) → (eqb (σ (used r)) 2 && ltb (σ (place r)) (σ (place r))) ≡ false
  not_at r = rw (le-ltb (σ (place r)) (σ (place r)) (omega arith), and-false (eqb (σ (used r)) 2)) refl

  rank_grows : (r j : ℕ) → σ (used r) ≡ 2 → σ (place r) < j → rank z σ (σ (place r)) < rank z σ j
  rank_grows r j u l =
      count_less z.N _ _
      (λ y h b.
      let w = both (eqb (σ (used y)) 2) (ltb (σ (place y)) (σ (place r))) b in
      and_true w.0 (lt-ltb (σ (place y)) j (omega (arith, ltb-true (σ (place y)) (σ (place r)) w.1))))
      r (linked_most z σ γ good r u) (not_at r) (counted_at r j u l)

  rank_below : (r : ℕ) → σ (used r) ≡ 2 → rank z σ (σ (place r)) < z.N
  rank_below r u = count_below z.N _ r (linked_most z σ γ good r u) (not_at r)

  -- the record after a linked one is of greater place
  next_placed : (r n : ℕ) → σ (used r) ≡ 2 → σ (next r) ≡ suc n → σ (place r) < σ (place n)
  next_placed r n u e = go (dec_lt (σ (place r)) γ.shape.hi)
    where
      o : ListedIn γ.shape (σ (place r)) × (γ.shape.at (σ (place r)) ≡ r)
      o = m.chain.only r u

      go : Dec (σ (place r) < γ.shape.hi) → σ (place r) < σ (place n)
      go (yes l) =
          let w = onward (σ (place r)) γ.shape.hi o.0 (last_listed m) l in
          let is : n ≡ γ.shape.at w.place = omega (arith, ap (λ (x : ℕ). σ (next x)) o.1, m.chain.nexts (σ (place r)) w.place w.joined) in
          omega (arith, ap (λ (x : ℕ). σ (place x)) is, m.chain.placed w.place w.joined.right, w.joined.rises)
      go (no l) =
          let last : σ (place r) ≡ γ.shape.hi = omega (arith, o.0.to) in
          absurd (omega (arith, ap (λ (x : ℕ). σ (next x)) (sym o.1 ∙ ap γ.shape.at last), m.chain.last))

  -- a step from phase a to phase b, with n items marked after it
  moves_to : (a b hp' lo' c' k' f' g' n' : ℕ) (ws : List Write) → σ consumer_phase ≡ a → after σ ws consumer_phase ≡ b → after σ ws head_position ≡ hp'
      → place_of (places_of (after σ ws)) (after σ ws head_record) ≡ lo' → after σ ws cursor_position ≡ c'
      → place_of (places_of (after σ ws)) (after σ ws cursor_record) ≡ k' → after σ ws found_position ≡ f'
      → place_of (places_of (after σ ws)) (after σ ws found_record) ≡ g' → after σ ws drain_limit ≡ limit → after σ ws drain_count ≡ n' → b ≢ 0
      → dequeue_at z (after σ ws) b hp' lo' c' k' f' g' n' + item_steps z * items_after b limit n' < dequeue_at z σ a hp lo c k f g marked + item_steps z * items_after a limit marked
      → Lowers z σ 0 (goes ws)
  moves_to a b hp' lo' c' k' f' g' n' ws e e' h i j l n o x y some less =
      goes_lowers z σ 0 ws (λ x. some (sym e' ∙ x))
      (rw (consumer_is z σ a hp lo c k f g limit marked e refl refl refl refl refl refl refl refl, consumer_is z (after σ ws) b hp' lo' c' k' f' g' limit n' e' h i j l n o x y) less)
      x

  -- one that marks nothing, before phase 8
  from_to : (a b hp' lo' c' k' f' g' : ℕ) (ws : List Write) → σ consumer_phase ≡ a → after σ ws consumer_phase ≡ b → after σ ws head_position ≡ hp'
      → place_of (places_of (after σ ws)) (after σ ws head_record) ≡ lo' → after σ ws cursor_position ≡ c'
      → place_of (places_of (after σ ws)) (after σ ws cursor_record) ≡ k' → after σ ws found_position ≡ f'
      → place_of (places_of (after σ ws)) (after σ ws found_record) ≡ g' → ((d : ℕ) → after σ ws (drain d) ≡ σ (drain d)) → (a < 8) × (1 ≤ b) × (b < 8)
      → dequeue_at z (after σ ws) b hp' lo' c' k' f' g' marked < dequeue_at z σ a hp lo c k f g marked → Lowers z σ 0 (goes ws)
  from_to a b hp' lo' c' k' f' g' ws e e' h i j l n o area early less =
      moves_to a b hp' lo' c' k' f' g' marked ws e e' h i j l n o (area 0) (area 1) (λ x. omega (arith, early.1))
      (rw (ne_eqb a 8 (λ x. omega (arith, early.0)), ne_eqb b 8 (λ x. omega (arith, early.2))) (omega arith))

  -- 1. The first entry of a head record whose end the head has reached is handled.
  first_handled_lem : (h : ℕ) → σ head_record ≡ suc h → hp ≡ z.B * σ (place h) → σ (state h 0) ≡ 2
  first_handled_lem h q e = go (σ (place h)) refl
    where
      u : σ (used h) ≡ 2
      u = head_record_linked z σ γ good h q

      o : ListedIn γ.shape (σ (place h)) × (γ.shape.at (σ (place h)) ≡ h)
      o = m.chain.only h u

      go : (j : ℕ) → σ (place h) ≡ j → σ (state h 0) ≡ 2
      go zero x = absurd (omega (arith, o.0.from, good.model.places.first))
      go (suc j) x =
          let is : γ.shape.at (suc j) ≡ h = ap γ.shape.at (sym x) ∙ o.1 in
          let below : z.B * j + 0 < hp = omega (arith, e, ap (λ (y : ℕ). z.B * y) x, two) in
          ap (λ (y : ℕ). σ (state y 0)) (sym is)
          ∙ good.agrees.states j 0 (rw x at o.0) (omega (arith, two))
          ∙ ap code_of (good.model.entries.gone_below (z.B * j + 0) below)

  -- Its retirement leaves fewer of those.
  fewer_first_handled : (h : ℕ) (ws : List Write) → σ (used h) ≡ 2 → σ (state h 0) ≡ 2
      → ((r : ℕ) → after σ ws (used r) ≡ cond (eqb h r) 3 (σ (used r))) → ((r : ℕ) → after σ ws (state r 0) ≡ σ (state r 0))
      → first_handled z (after σ ws) < first_handled z σ
  fewer_first_handled h ws u d uses states =
      count_less z.N _ _ (λ r l b. weaker r (ℕ_discrete h r) b) h (linked_most z σ γ good h u) fails
      (and_true (eq-eqb (σ (used h)) 2 u) (eq-eqb (σ (state h 0)) 2 d))
    where
      fails : (eqb (after σ ws (used h)) 2 && eqb (after σ ws (state h 0)) 2) ≡ false
      fails = rw (uses h, eq-eqb h h refl) refl

      weaker : (r : ℕ) → Dec (h ≡ r) → (eqb (after σ ws (used r)) 2 && eqb (after σ ws (state r 0)) 2) ≡ true → (eqb (σ (used r)) 2 && eqb (σ (state r 0)) 2) ≡ true
      weaker r (yes e) b =
          let w = both (eqb (after σ ws (used r)) 2) (eqb (after σ ws (state r 0)) 2) b in
          let three : after σ ws (used r) ≡ 3 = uses r ∙ rw (eq-eqb h r e) refl in
          absurd (omega (arith, eqb-true (after σ ws (used r)) 2 w.0))
      weaker r (no n) b =
          let w = both (eqb (after σ ws (used r)) 2) (eqb (after σ ws (state r 0)) 2) b in
          let same : after σ ws (used r) ≡ σ (used r) = uses r ∙ rw (ne_eqb h r n) refl in
          and_true (eq-eqb (σ (used r)) 2 (sym same ∙ eqb-true (after σ ws (used r)) 2 w.0))
          (eq-eqb (σ (state r 0)) 2 (sym (states r) ∙ eqb-true (after σ ws (state r 0)) 2 w.1))

  counted : marked ≤ limit
  counted = (drain_in z σ good.range.draining).counted

  ends_empty_lem : Lowers z σ 0 (ends_empty z σ)
  ends_empty_lem =
      by_cond (Lowers z σ 0) (eqb limit 0) _ _ (λ b. empty_lowers z σ (all_handled := 0 ∷ clear_consumer ∷ []) refl)
      (λ b. drained_lowers z σ (items_marked σ marked) (all_handled := 0 ∷ clear_consumer ∷ clear_drain ∷ []) refl (let n : limit ≢ 0 = eqb-false limit 0 b in (omega arith, omega (arith, marked_length σ marked, counted))))

  -- phase 1 leaves three steps at the least, and those after a move are no more than before
  three : (b : Bool) → 3 ≤ cond b (read_steps z σ) 3
  three true = omega (arith, two)
  three false = omega arith

  no_more : (b : Bool) (σ' : Reader) → first_handled z σ' ≤ first_handled z σ → cond b (read_steps z σ') 3 ≤ cond b (read_steps z σ) 3
  no_more true σ' l = omega (arith, scaled (suc (2 * z.B)) (z.N + first_handled z σ') (z.N + first_handled z σ) (omega arith))
  no_more false σ' l = omega arith

  front_lowers : σ consumer_phase ≡ 1 → Lowers z σ 0 (front z σ)
  unfolding front
  front_lowers e =
      each_need (Lowers z σ 0) (refused_lowers z σ 0) (σ head_record) _
      (λ h q.
      let placed : lo ≡ σ (place h) = ap (place_of (places_of σ)) q in
      by_cond (Lowers z σ 0) (at_end z σ h hp) _ _
      (λ b.
      by_cond (Lowers z σ 0) (eqb (σ tail_record) (suc h)) _ _ (λ d. ends_empty_lem)
      (λ d.
      each_cross (Lowers z σ 0) (refused_lowers z σ 0) z σ h (λ n q. goes (head_record := suc n ∷ head_position := q ∷ used h := 3 ∷ []))
      (λ n j w x. moves h n j q (eqb-true hp (z.B * σ (place h)) b) x)))
      (λ b.
      each_inside (Lowers z σ 0) (refused_lowers z σ 0) z σ h hp
      (λ i. by_state (σ (state h i)) (cond (eqb marked 0) (goes (consumer_phase := 2 ∷ [])) (ends_empty z σ))
      (goes (found_record := suc h ∷ found_position := hp ∷ consumer_phase := 6 ∷ []))
      (up_to z.M (suc hp) (goes (head_position := suc hp ∷ []))))
      (λ l d.
      each_state (Lowers z σ 0) (σ (state h (index z σ h hp))) _ _ _
      (by_cond (Lowers z σ 0) (eqb marked 0) _ _
      (λ none.
      from_to 1 2 hp lo c k f g (consumer_phase := 2 ∷ []) e refl refl refl refl refl refl refl (λ d. refl) (omega arith) (rw none (omega arith)))
      (λ some. ends_empty_lem))
      (from_to 1 6 hp lo c k hp (σ (place h)) (found_record := suc h ∷ found_position := hp ∷ consumer_phase := 6 ∷ []) e refl refl refl refl refl refl refl (λ d. refl) (omega arith) (omega (arith, three (eqb marked 0))))
      (each_up_to (Lowers z σ 0) (refused_lowers z σ 0) z.M (suc hp) _
      (λ y.
      from_to 1 1 (suc hp) lo c k f g (head_position := suc hp ∷ []) e e refl refl refl refl refl refl (λ d. refl) (omega arith)
      (omega (arith, ap (λ (x : ℕ). z.B * x) placed)))))))
    where
      moves : (h n j : ℕ) → σ head_record ≡ suc h → hp ≡ z.B * σ (place h) → σ (place n) ≡ suc j
          → Lowers z σ 0 (goes (head_record := suc n ∷ head_position := z.B * j ∷ used h := 3 ∷ []))
      moves h n j q d x =
          from_to 1 1 (z.B * j) (σ (place n)) c k f g ws e e refl refl refl refl refl refl (λ d. refl) (omega arith)
          (omega (
            arith,
            fewer,
            scaled_less (suc z.B) (first_handled z (after σ ws)) (first_handled z σ) fewer,
            no_more (eqb marked 0) (after σ ws) (omega (arith, fewer)),
            ap (λ (y : ℕ). z.B * y) x,
          ))
        where
          ws : List Write
          ws = head_record := suc n ∷ head_position := z.B * j ∷ used h := 3 ∷ []

          fewer : first_handled z (after σ ws) < first_handled z σ
          fewer = fewer_first_handled h ws (head_record_linked z σ γ good h q) (first_handled_lem h q d) (λ r. refl) (λ r. refl)

  -- 2.
  read_lowers : σ consumer_phase ≡ 2 → Lowers z σ 0 (read_tail z σ)
  unfolding read_tail
  read_lowers e =
      by_cond (Lowers z σ 0) (eqb (σ tail) hp) _ _ (λ b. ends_empty_lem)
      (λ b.
      each_up_to (Lowers z σ 0) (refused_lowers z σ 0) z.M (suc hp) _
      (λ l.
      from_to 2 3 hp lo (suc hp) lo f g (cursor_record := σ head_record ∷ cursor_position := suc hp ∷ consumer_phase := 3 ∷ []) e refl refl refl refl refl refl refl (λ d. refl) (omega arith)
      (omega (
        arith,
        scaled (suc (2 * z.B)) (z.N - rank z σ lo + first_handled z σ) (z.N + first_handled z σ) (omega arith),
        good.model.places.head_from,
        ap (λ (x : ℕ). z.B * x) (head_placed z σ γ good),
        two,
      ))))

  -- the cursor's record
  module _ (r : ℕ) (q : σ cursor_record ≡ suc r) where
    placed : k ≡ σ (place r)
    placed = ap (place_of (places_of σ)) q

    linked : σ (used r) ≡ 2
    linked = rw q at m.cursor

    -- its rank is below N
    ranked : rank z σ k < z.N
    ranked = rw placed (rank_below r linked)

    -- a crossing leads to a greater rank
    crossed : (n j : ℕ) → σ (next r) ≡ suc n → σ (place n) ≡ suc j → rank z σ k < rank z σ (suc j)
    crossed n j w x = rw placed (rank_grows r (suc j) linked (omega (arith, next_placed r n linked w)))

    -- the fold of a record that the scan has read: its rank is that of the next one then, and its first entry was handled
    module _ (b n j : ℕ) (read : σ all_handled ≡ 1) (end : c ≡ z.B * σ (place r)) (e : σ consumer_phase ≡ 3) (w : σ (next r) ≡ suc n) (x : σ (place n) ≡ suc j) where
      abbrev ws : List Write
      ws = folded z σ r b n ++ entered z σ n (z.B * j)

      still_ranked : rank z σ k ≤ rank z (after σ ws) (suc j)
      still_ranked =
          rw placed
          (count_grows z.N _ _
          (λ y h d.
          let p = both (eqb (σ (used y)) 2) (ltb (σ (place y)) (σ (place r))) d in
          let less : σ (place y) < σ (place r) = ltb-true (σ (place y)) (σ (place r)) p.1 in
          let other : r ≡ y → ⊥ = λ q. let same : σ (place r) ≡ σ (place y) = ap (λ (v : ℕ). σ (place v)) q in omega arith in
          rw (ne_eqb r y other) (and_true p.0 (lt-ltb (σ (place y)) (suc j) (omega (arith, next_placed r n linked w))))))

      first_read : σ (state r 0) ≡ 2
      first_read = go (σ (place r)) refl (m.chain.only r linked)
        where
          all : (q : ℕ) → z.B * k ≤ q + z.B → q < c → γ.entry q ≡ gone
          all = subst (Read z.B γ.entry) (consumer_at_lem z σ γ good 3 e) (good.read read)

          go : (i : ℕ) → σ (place r) ≡ i → ListedIn γ.shape (σ (place r)) × (γ.shape.at (σ (place r)) ≡ r) → σ (state r 0) ≡ 2
          go zero y o = absurd (omega (arith, o.0.from, good.model.places.first))
          go (suc i) y o =
              let is : γ.shape.at (suc i) ≡ r = ap γ.shape.at (sym y) ∙ o.1 in
              let bound : z.B * σ (place r) ≡ z.B * i + z.B = ap (λ (v : ℕ). z.B * v) y ∙ omega arith in
              ap (λ (v : ℕ). σ (state v 0)) (sym is)
              ∙ good.agrees.states i 0 (rw y at o.0) (omega (arith, two))
              ∙ ap code_of (all (z.B * i + 0) (omega (arith, ap (λ (v : ℕ). z.B * v) placed)) (omega (arith, two)))

      fewer : first_handled z (after σ ws) < first_handled z σ
      fewer = fewer_first_handled r ws linked first_read (λ y. refl) (λ y. refl)

      fold_lowers : Lowers z σ 0 (goes ws)
      fold_lowers =
          from_to 3 3 hp lo (z.B * j) (suc j) f g ws e e refl refl refl x refl refl (λ d. refl) (omega arith)
          (omega (
            arith,
            scaled_less (suc (2 * z.B)) (z.N - rank z (after σ ws) (suc j) + first_handled z (after σ ws)) (z.N - rank z σ k + first_handled z σ) (omega (arith, still_ranked, fewer)),
          ))

  -- 3.
  scan_lowers : σ consumer_phase ≡ 3 → Lowers z σ 0 (scan z σ)
  unfolding scan
  scan_lowers e =
      each_need (Lowers z σ 0) (refused_lowers z σ 0) (σ cursor_record) _
      (λ r q.
      by_cond (Lowers z σ 0) (at_end z σ r c) _ _
      (λ b.
      by_cond (Lowers z σ 0) (eqb (σ tail_record) (suc r)) _ _ (λ d. ends_empty_lem)
      (λ d.
      each_cross (Lowers z σ 0) (refused_lowers z σ 0) z σ r
      (λ n x. cond (is_read z σ r) (need (σ (prev r)) λ i. goes (folded z σ r i n ++ entered z σ n x)) (goes (entered z σ n x)))
      (λ n j w x.
      by_cond (Lowers z σ 0) (is_read z σ r) _ _
      (λ y.
      each_need (Lowers z σ 0) (refused_lowers z σ 0) (σ (prev r)) _
      (λ i v.
      fold_lowers r q i n j (eqb-true (σ all_handled) 1 (both (eqb (σ all_handled) 1) (not (eqb (σ head_record) (suc r))) y).0)
      (eqb-true c (z.B * σ (place r)) b) e w x))
      (λ y.
      from_to 3 3 hp lo (z.B * j) (suc j) f g (entered z σ n (z.B * j)) e e refl refl refl x refl refl (λ d. refl) (omega arith)
      (omega (
        arith,
        scaled_less (suc (2 * z.B)) (z.N - rank z σ (suc j) + first_handled z σ) (z.N - rank z σ k + first_handled z σ) (omega (arith, crossed r q n j w x, ranked r q)),
      ))))))
      (λ b.
      by_cond (Lowers z σ 0) (eqb c (σ tail)) _ _ (λ d. ends_empty_lem)
      (λ d. from_to 3 4 hp lo c k f g (consumer_phase := 4 ∷ []) e refl refl refl refl refl refl refl (λ d. refl) (omega arith) (omega arith))))

  -- An entry is fewer steps along the list than there are in all.
  along_less : (r p : ℕ) → σ (used r) ≡ 2 → p < z.B * σ (place r) → along z σ p (σ (place r)) < z.N * suc z.B
  along_less r p u l =
      omega (arith, scaled_less (suc z.B) (rank z σ (σ (place r))) z.N (rank_below r u), mul_comm z.N (suc z.B))

  -- 4.
  entry_lowers : σ consumer_phase ≡ 4 → Lowers z σ 0 (read_entry z σ)
  unfolding read_entry
  entry_lowers e =
      each_need (Lowers z σ 0) (refused_lowers z σ 0) (σ cursor_record) _
      (λ r q.
      each_inside (Lowers z σ 0) (refused_lowers z σ 0) z σ r c
      (λ i. cond (eqb (σ (state r i)) 1)
      (goes (found_record := suc r ∷ found_position := c ∷ cursor_record := σ head_record ∷ cursor_position := hp ∷ all_handled := 0 ∷ consumer_phase := 5 ∷ []))
      (up_to z.M (suc c) (goes (cursor_position := suc c ∷ all_handled := still_handled z σ r i ∷ consumer_phase := 3 ∷ []))))
      (λ l d.
      let inside-k : c < z.B * k = rw (placed r q) l in
      by_cond (Lowers z σ 0) (eqb (σ (state r (index z σ r c))) 1) _ _
      (λ b.
      from_to 4 5 hp lo hp lo c k (found_record := suc r ∷ found_position := c ∷ cursor_record := σ head_record ∷ cursor_position := hp ∷ all_handled := 0 ∷ consumer_phase := 5 ∷ []) e refl refl refl refl refl refl (sym (placed r q)) (λ d. refl) (omega arith)
      (omega (
        arith,
        two,
        triangle_less (along z σ c k) (z.N * suc z.B) (rw (placed r q) (along_less r c (linked r q) l)),
        scaled (suc (2 * z.B)) 1 (z.N - rank z σ k + first_handled z σ) (omega (arith, ranked r q)),
      )))
      (λ b.
      each_up_to (Lowers z σ 0) (refused_lowers z σ 0) z.M (suc c) _
      (λ x.
      from_to 4 3 hp lo (suc c) k f g (cursor_position := suc c ∷ all_handled := still_handled z σ r (index z σ r c) ∷ consumer_phase := 3 ∷ []) e refl refl refl refl refl refl refl (λ d. refl) (omega arith) (omega arith)))))

  -- 5. The cursor is before found along the list.
  module _ (e : σ consumer_phase ≡ 5) where
    -- where the position machine has the cursor and found
    clause : (c < f) × (c ≤ z.B * k) × (z.B * k ≤ c + z.B) × (f < z.B * g) × (z.B * g ≤ f + z.B)
    clause =
        let o = consumer_clause z.B (view σ γ) good.model (rescanning c k f g) (consumer_at_lem z σ γ good 5 e) in
        (o.2, o.3.2, o.3.3, o.4.5.0, o.4.5.1)

    before_found : (r : ℕ) → σ cursor_record ≡ suc r → along z σ c k < along z σ f g
    before_found r q = go (dec_lt k g) (dec_lt g k)
      where
        go : Dec (k < g) → Dec (g < k) → along z σ c k < along z σ f g
        go (yes l) d =
            let more : rank z σ k < rank z σ g = rw (placed r q) (rank_grows r g (linked r q) (rw (placed r q) at l)) in
            omega (arith, clause, scaled_less (suc z.B) (rank z σ k) (rank z σ g) more)
        go (no l) (yes d) = absurd (omega (arith, clause, scaled_less z.B g k d))
        go (no l) (no d) = let same : k ≡ g = omega arith in rw (← same) (omega (arith, clause, ap (λ (x : ℕ). z.B * x) same))

    -- When the cursor's position then equals that of found, to 6; otherwise stay, with fewer steps.
    settles : (x y : ℕ) (stays moved : List Write) → along z σ c k < along z σ f g
        → (x ≢ y → Lowers z σ 0 (goes (moved ++ stays)))
        → after σ (moved ++ (cursor_record := 0 ∷ scanned := through_scan z σ ∷ consumer_phase := 6 ∷ [])) consumer_phase ≡ 6
        → ((d : ℕ) → after σ (moved ++ (cursor_record := 0 ∷ scanned := through_scan z σ ∷ consumer_phase := 6 ∷ [])) (drain d) ≡ σ (drain d))
        → Lowers z σ 0 (rescanned z σ x y stays moved)
    settles x y stays moved less on six area =
        by_cond (Lowers z σ 0) (eqb x y) _ _
        (λ b.
        from_to 5 6 _ _ _ _ _ _ (moved ++ (cursor_record := 0 ∷ scanned := through_scan z σ ∷ consumer_phase := 6 ∷ [])) e six refl refl refl refl refl refl area (omega arith)
        (omega arith))
        (λ b. on (eqb-false x y b))

    rescan_lowers : Lowers z σ 0 (rescan z σ)
    unfolding rescan
    rescan_lowers =
        each_need (Lowers z σ 0) (refused_lowers z σ 0) (σ cursor_record) _
        (λ r q.
        let less = before_found r q in
        by_cond (Lowers z σ 0) (at_end z σ r c) _ _
        (λ b.
        each_cross (Lowers z σ 0) (refused_lowers z σ 0) z σ r (λ n x. rescanned z σ x f (cursor_record := suc n ∷ cursor_position := x ∷ []) [])
        (λ n j w x.
        let end : c ≡ z.B * k = eqb-true c (z.B * σ (place r)) b ∙ ap (λ (y : ℕ). z.B * y) (sym (placed r q)) in
        settles (z.B * j) f (cursor_record := suc n ∷ cursor_position := z.B * j ∷ []) [] less
        (λ d.
        from_to 5 5 hp lo (z.B * j) (suc j) f g (cursor_record := suc n ∷ cursor_position := z.B * j ∷ []) e e refl refl refl x refl refl (λ d. refl) (omega arith)
        (omega (arith, scaled_less (suc z.B) (rank z σ k) (rank z σ (suc j)) (crossed r q n j w x))))
        refl
        (λ d. refl)))
        (λ b.
        each_inside (Lowers z σ 0) (refused_lowers z σ 0) z σ r c
        (λ i. cond (eqb (σ (state r i)) 1)
        (rescanned z σ hp c (cursor_record := σ head_record ∷ cursor_position := hp ∷ []) (found_record := suc r ∷ found_position := c ∷ []))
        (up_to z.M (suc c) (rescanned z σ (suc c) f (cursor_position := suc c ∷ []) [])))
        (λ l d.
        by_cond (Lowers z σ 0) (eqb (σ (state r (index z σ r c))) 1) _ _
        (λ x.
        settles hp c (cursor_record := σ head_record ∷ cursor_position := hp ∷ []) (found_record := suc r ∷ found_position := c ∷ []) less
        (λ y.
        from_to 5 5 hp lo hp lo c k (found_record := suc r ∷ found_position := c ∷ cursor_record := σ head_record ∷ cursor_position := hp ∷ []) e e refl refl refl refl refl (sym (placed r q)) (λ d. refl) (omega arith)
        (omega (arith, triangle_less (along z σ c k) (along z σ f g) less)))
        refl
        (λ d. refl))
        (λ x.
        each_up_to (Lowers z σ 0) (refused_lowers z σ 0) z.M (suc c) _
        (λ y.
        settles (suc c) f (cursor_position := suc c ∷ []) [] less
        (λ w.
        from_to 5 5 hp lo (suc c) k f g (cursor_position := suc c ∷ []) e e refl refl refl refl refl refl (λ d. refl) (omega arith)
        (omega (arith, clause)))
        refl
        (λ d. refl))))))

  -- 6.
  item_read_lowers : σ consumer_phase ≡ 6 → Lowers z σ 0 (read_item z σ)
  unfolding read_item
  item_read_lowers e =
      each_need (Lowers z σ 0) (refused_lowers z σ 0) (σ found_record) _
      (λ r q.
      each_inside (Lowers z σ 0) (refused_lowers z σ 0) z σ r f
      (λ i. goes (item_number := σ (entry_number r i) ∷ item_value := σ (entry_value r i) ∷ consumer_phase := 7 ∷ []))
      (λ a b.
      from_to 6 7 _ _ _ _ _ _ (item_number := σ (entry_number r (index z σ r f)) ∷ item_value := σ (entry_value r (index z σ r f)) ∷ consumer_phase := 7 ∷ []) e refl refl refl refl refl refl refl (λ d. refl) (omega arith) (omega arith)))

  -- Where a drain goes back to phase 1, what was left for one more item is enough to pass the front and take it.
  abbrev back : List Write
  back = found_record := 0 ∷ found_position := 0 ∷ item_number := 0 ∷ item_value := 0 ∷ consumer_phase := 1 ∷ []

  on_or_end : (n : ℕ) (items : List Item) (ws : List Write) → length items ≡ n → (1 ≤ limit) × (n ≤ limit) → after σ (ws ++ (clear_consumer ∷ clear_drain ∷ [])) consumer_phase ≡ 0
      → (n ≢ limit → Lowers z σ 0 (goes (ws ++ back))) → Lowers z σ 0 (goes_on z σ n items ws)
  on_or_end n items ws many fit idle on =
      by_cond (Lowers z σ 0) (eqb n limit || eqb (σ scanned) 1) _ _ (λ b. drained_lowers z σ items (ws ++ (clear_consumer ∷ clear_drain ∷ [])) idle (fit.0, omega arith))
      (λ b. on (eqb-false n limit (neither (eqb n limit) (eqb (σ scanned) 1) b).0))

  -- n items are marked then, and in phase a there was room for them and one more
  goes_back : (a hp' lo' n : ℕ) (ws : List Write) → σ consumer_phase ≡ a → after σ ws consumer_phase ≡ 1 → after σ ws head_position ≡ hp'
      → place_of (places_of (after σ ws)) (after σ ws head_record) ≡ lo' → after σ ws drain_limit ≡ limit → after σ ws drain_count ≡ n
      → z.B * lo' ≤ hp' + z.B → 1 ≤ n → n < limit → items_after a limit marked ≡ limit - n → 1 ≤ dequeue_at z σ a hp lo c k f g marked
      → Lowers z σ 0 (goes ws)
  goes_back a hp' lo' n ws e one h i x y near some more is left =
      moves_to a 1 hp' lo' _ _ _ _ n ws e one h i refl refl refl refl x y (λ w. omega arith)
      (rw (is, ne_eqb n 0 (λ w. omega arith))
      (omega (
        arith,
        scaled (suc z.B) (first_handled z (after σ ws)) z.N (count_most z.N _),
        scaled_less (item_steps z) (limit - suc n) (limit - n) (omega arith),
      )))

  -- 7. The items with the one that is marked now.
  abbrev now : List Item
  now = items_marked σ marked ++ (record { number = σ item_number; value = σ item_value } ∷ [])

  now_many : length now ≡ suc marked
  now_many = length-append (items_marked σ marked) (record { number = σ item_number; value = σ item_value } ∷ []) ∙ omega (arith, marked_length σ marked)

  -- the head stands in its record, or one position on
  near_head : z.B * lo ≤ hp + z.B
  near_head = omega (arith, good.model.places.head_from, ap (λ (x : ℕ). z.B * x) (head_placed z σ γ good))

  mark_lowers : σ consumer_phase ≡ 7 → Lowers z σ 0 (mark_handled z σ)
  unfolding mark_handled
  mark_lowers e =
      each_need (Lowers z σ 0) (refused_lowers z σ 0) (σ found_record) _
      (λ r q.
      each_inside (Lowers z σ 0) (refused_lowers z σ 0) z σ r f
      (λ i. by_call z σ (marks z σ r i [] (replies_item z σ))
      (up_to limit (suc marked)
      (marks z σ r i (keep_item z σ) (goes_on z σ (suc marked) now))))
      (λ a b.
      by_cond (Lowers z σ 0) (eqb limit 0) _ _
      (λ d.
      let none : limit ≡ 0 = eqb-true limit 0 d in
      at-marks r (index z σ r f) [] (replies_item z σ)
      (item_lowers z σ _ _ (state r (index z σ r f) := 2 ∷ clear_consumer ∷ []) refl)
      (item_lowers z σ _ _ (state r (index z σ r f) := 2 ∷ head_position := suc hp ∷ clear_consumer ∷ []) refl)
      (moves_to 7 8 _ _ _ _ _ _ marked (to_retire r (index z σ r f) []) e refl refl refl refl refl refl refl refl refl (λ x. omega arith) (omega (arith, scaled (item_steps z) (limit - marked) (limit - suc marked) (omega arith)))))
      (λ d.
      each_up_to (Lowers z σ 0) (refused_lowers z σ 0) limit (suc marked) _
      (λ room.
      at-marks r (index z σ r f) (keep_item z σ) (goes_on z σ (suc marked) now)
      (on_or_end (suc marked) now (state r (index z σ r f) := 2 ∷ keep_item z σ) now_many (omega arith, room) refl
      (λ more. goes_back 7 hp lo (suc marked) ((state r (index z σ r f) := 2 ∷ keep_item z σ) ++ back) e refl refl refl refl refl near_head (omega arith) (omega arith) refl (omega arith)))
      (on_or_end (suc marked) now (state r (index z σ r f) := 2 ∷ head_position := suc hp ∷ keep_item z σ) now_many (omega arith, room) refl
      (λ more. goes_back 7 (suc hp) lo (suc marked) ((state r (index z σ r f) := 2 ∷ head_position := suc hp ∷ keep_item z σ) ++ back) e refl refl refl refl refl (omega (arith, near_head)) (omega arith) (omega arith) refl (omega arith)))
      (moves_to 7 8 _ _ _ _ _ _ (suc marked) (to_retire r (index z σ r f) (keep_item z σ)) e refl refl refl refl refl refl refl refl refl (λ x. omega arith) (omega arith))))))
    where
      to_retire : (r i : ℕ) → List Write → List Write
      to_retire r i kept = state r i := 2 ∷ head_position := suc hp ∷ found_record := 0 ∷ found_position := 0 ∷ consumer_phase := 8 ∷ kept

      -- the rule of the mark, at each of its leaves
      at-marks : (r i : ℕ) (kept : List Write) (rest : List Write → Effect) → Lowers z σ 0 (rest (state r i := 2 ∷ kept))
          → Lowers z σ 0 (rest (state r i := 2 ∷ head_position := suc hp ∷ kept))
          → Lowers z σ 0 (goes (state r i := 2 ∷ head_position := suc hp ∷ found_record := 0 ∷ found_position := 0 ∷ consumer_phase := 8 ∷ kept))
          → Lowers z σ 0 (marks z σ r i kept rest)
      at-marks r i kept rest of-item of-front to-8 =
          by_cond (Lowers z σ 0) (eqb f hp) _ _
          (λ b.
          each_up_to (Lowers z σ 0) (refused_lowers z σ 0) z.M (suc hp) _
          (λ l.
          each_need (Lowers z σ 0) (refused_lowers z σ 0) (σ head_record) _
          (λ h w. by_cond (Lowers z σ 0) (drained_at z σ h (suc hp)) _ _ (λ d. to-8) (λ d. of-front))))
          (λ b. of-item)

  -- 8.
  retire_lowers : σ consumer_phase ≡ 8 → Lowers z σ 0 (retire_head z σ)
  unfolding retire_head
  retire_lowers e =
      each_need (Lowers z σ 0) (refused_lowers z σ 0) (σ head_record) _
      (λ h q.
      each_cross (Lowers z σ 0) (refused_lowers z σ 0) z σ h
      (λ n x. by_call z σ (replies_item z σ (moved h n x)) (goes_on z σ marked (items_marked σ marked) (moved h n x)))
      (λ n j w x.
      by_cond (Lowers z σ 0) (eqb limit 0) _ _
      (λ b. item_lowers z σ _ _ (moved h n (z.B * j) ++ (clear_consumer ∷ [])) refl)
      (λ b.
      let some : marked ≢ 0 = good.pending.some (eqb-false limit 0 b) e in
      on_or_end marked (items_marked σ marked) (moved h n (z.B * j)) (marked_length σ marked) (omega (arith, some, counted), counted) refl
      (λ more.
      goes_back 8 (z.B * j) (σ (place n)) marked (moved h n (z.B * j) ++ back) e refl refl refl refl refl (omega (arith, ap (λ (y : ℕ). z.B * y) x)) (omega arith)
      (omega (arith, counted))
      refl
      (omega arith)))))
    where
      moved : (h n x : ℕ) → List Write
      moved h n x = head_record := suc n ∷ head_position := x ∷ used h := 3 ∷ []

  pub dequeue_lowers : Lowers z σ 0 (consumer_step z σ)
  unfolding consumer_step
  dequeue_lowers = by-phase (σ consumer_phase) refl
    where
      by-phase : (x : ℕ) → σ consumer_phase ≡ x → Lowers z σ 0 (get_or consumer_rules x (λ z σ. refuse 7) z σ)
      by-phase zero e = refused_lowers z σ 0 7
      by-phase (suc zero) e = front_lowers e
      by-phase (suc (suc zero)) e = read_lowers e
      by-phase (suc (suc (suc zero))) e = scan_lowers e
      by-phase (suc (suc (suc (suc zero)))) e = entry_lowers e
      by-phase (suc (suc (suc (suc (suc zero))))) e = rescan_lowers e
      by-phase (suc (suc (suc (suc (suc (suc zero)))))) e = item_read_lowers e
      by-phase (suc (suc (suc (suc (suc (suc (suc zero))))))) e = mark_lowers e
      by-phase (suc (suc (suc (suc (suc (suc (suc (suc zero)))))))) e = retire_lowers e
      by-phase (suc (suc (suc (suc (suc (suc (suc (suc (suc x))))))))) e = refused_lowers z σ 0 7
