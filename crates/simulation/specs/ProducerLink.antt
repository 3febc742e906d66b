-- Producer phases 5 and 11, which link the claimed record or give it back.
use Rattle.std.specs.Prelude.{◌≡◌, ◌⊎◌, List, [], ◌∷◌, ◌++◌, ℕ, suc, ◌*◌, ◌≤◌, ◌<◌}
use Rattle.std.proofs.Math.Path.{refl, ap}
use Rattle.std.proofs.Common.{sym, ◌∙◌, inl, inr, ⊎_elim, mul-le-mul_left, arith}
use Rattle.std.proofs.Math.Bool.{true, false, and-false}
use Rattle.std.proofs.Math.Option.{some}
use Rattle.std.proofs.Math.Decide.{ℕ_discrete}
use Rattle.std.proofs.Math.Dec.{eqb}
use borrow.Author.Tests.{eq-eqb, ne_eqb, eqb-true, eqb-false}
use Rattle.history.specs.Lists.{All}
use Rattle.history.specs.Event.{History, enqueue_ended}
use Rattle.history.specs.Form.{well_formed}
use Rattle.rules.specs.Sizes.{Sizes, most_place}
use Rattle.rules.specs.Cell.{Cell, Reader, Write, ◌:=◌, clear_producer, tail, head_position, starts, producer, part, entry, consumer, place, next, prev, used, phase, call, value, position, held, claimed, tail_record, head_record, cursor_record, found_record, of_producer}
use Rattle.rules.specs.Update.{after, update, area_of, OtherKind, owner_of, Own, own_leaves}
use Rattle.rules.specs.Range.{number, link, most, producer_in_range}
use Rattle.rules.specs.Rule.{Reply, Effect, going, ended, goes, reply}
use Rattle.rules.specs.Producer.{linked, link_claimed, link_ahead}
use Rattle.rules.specs.Request.{step}
use Rattle.rules.specs.Play.{reply_events}
use Rattle.rules.specs.InRange.{InSort, others_untouched}
use Rattle.rules.specs.Readback.{WriteThere}
use Rattle.model.specs.State.{blank, Producer, idle, ahead, done, call_of}
use Rattle.model.specs.Invariant.{Invariant}
use Rattle.model.specs.Moves.{with_producer, link_last}
use Rattle.model.specs.Walking.{producer_clause, pass_on_lem, link_last_lem}
use Rattle.model.specs.Enqueues.{finish_keeps}
use Rattle.memory.specs.Chain.{with_place, with_place_other}
use Rattle.memory.specs.Memory.{Blank, row_of, Memory, claimed_is, held_is, last_listed}
use Rattle.memory.specs.LastRecord.{held_last, held_before_last}
use Rattle.memory.specs.OtherThreads.{Untouched, OthersKept, others_kept}
use Rattle.memory.specs.Linking.{LetGo, give_back_keeps, link_keeps}
use Rattle.simulation.specs.View.{Ghost, places_of, place_of, producer_at, producer_of, producers_of, consumer_of, view, cell_of}
use Rattle.simulation.specs.Good.{Good, Goes, Fine, places_stay, by_need, by_cond, by_up_to}
use Rattle.simulation.specs.Told.{ToEnqueue}
use Rattle.simulation.specs.Rows.{of_sort_lem, has_sort, producer_row_of}
use Rattle.simulation.specs.Limits.{limits, place_fits}
use Rattle.simulation.specs.ProducerSteps.{producers_after, own_words, seen_at}
use Rattle.simulation.specs.OwnWords.{of_producer_lem, own_in_sort, own_there, with_history, later}
use Rattle.simulation.specs.RecordSteps.{record_goes, place_same, consumer_same, seen_as, agrees_kept, agrees_grows}
use Rattle.simulation.specs.EnqueueEnd.{end_formed, end_adds, idle_in_range, idle_seen}

module _ (z : Sizes) (σ : Reader) (γ : Ghost) (good : Good z σ γ) (t : ℕ) (a-producer : (1 ≤ t) × (t ≤ z.P))
    (h c : ℕ) (holds : σ (held t) ≡ suc h) (claims : σ (claimed t) ≡ suc c) where
  m : Memory z σ γ.shape
  m = good.memory

  c_blank : Blank z.N σ c
  c_blank = claimed_is m t c claims

  not_linked : σ (used c) ≡ 2 → ⊥
  not_linked e = omega (arith, c_blank.claimed_use)

  -- nobody holds the claimed record
  not_held : (u : ℕ) → σ (held u) ≡ suc c → ⊥
  not_held u e = ⊎_elim (λ (l : σ (used c) ≡ 2). omega (arith, c_blank.claimed_use)) (λ l. omega (arith, c_blank.claimed_use)) (held_is m u c e)

  h_not_c : h ≡ c → ⊥
  h_not_c e = not_held t (rw e at holds)

  -- how thread t is seen after the step goes by the places before it
  own_seen : (σ' : Reader) → ((y : ℕ) → (y ≡ c → ⊥) → σ' (place y) ≡ σ (place y)) → LetGo σ σ' t
      → producers_of σ' t ≡ producer_of (places_of σ) (row_of σ' t)
  own_seen σ' places let_go =
      ap (producer_at (row_of σ' t 0) (row_of σ' t 1) (row_of σ' t 2) (row_of σ' t 3))
      (place_same σ σ' c places (row_of σ' t 4) (λ e. ⊎_elim (λ q. not_held t (sym q ∙ e)) (λ q. omega arith) let_go.holds_on))

  -- How the step goes on: what thread t writes of its own words, what it replies, how it is seen then, and the history.
  module _ (rest : List Write) (own : All (Own (of_producer t)) rest) (r : Reply) (to : ToEnqueue r) (x : Producer) (H : History)
      (formed : well_formed H ≡ true) (grown : H ≡ reply_events (step t) γ.history r ++ γ.history) where
    -- giving it back
    abbrev pub give_writes : List Write
    give_writes = used c := 0 ∷ rest

    -- linking it
    abbrev pub link_writes : List Write
    link_writes = next h := suc c ∷ used c := 2 ∷ prev c := suc h ∷ place c := suc (σ (place h)) ∷ rest

    rest_sorted : All (InSort z t) rest
    rest_sorted = own_in_sort z t (of_producer t) (of_producer_lem z t a-producer) rest own

    rest_there : All (WriteThere z) rest
    rest_there = own_there z t (of_producer t) (of_producer_lem z t a-producer) rest own

    module _ (in_row : producer_in_range z (after σ give_writes) t ≡ true) (let_go : LetGo σ (after σ give_writes) t)
        (seen : producer_of (places_of σ) (row_of (after σ give_writes) t) ≡ x)
        (model : Invariant z.B (with_history (with_producer (view σ γ) t x) H)) where
      pub gives : Goes z σ γ (step t) r give_writes
      gives =
          record_goes z σ γ good t a-producer (step t) r to give_writes (later γ H) in_sort ((c_blank.fits, omega arith), rest_there) in_row
          (give_back_keeps z σ σ' γ.shape m t h c a-producer holds claims kept let_go
          (same tail_record refl)
          (same head_record refl)
          (same cursor_record refl)
          (same found_record refl)
          (same (used c) refl ∙ rw (eq-eqb c c refl) refl)
          (λ i k. same (entry c i k) refl)
          others)
          (agrees_kept z.B γ.shape.lo γ.shape.hi γ.shape.gap γ.shape.at γ.entry γ.content (cell_of σ) (cell_of σ')
          (λ k i j l. same (entry (γ.shape.at (suc k)) i j) refl) good.agrees)
          (seen_as model (sym (same tail refl)) (sym (same head_position refl)) (sym (same starts refl))
          (producers_after t σ σ' kept (λ u n. place_same σ σ' c places (σ (held u)) (not_held u)) x (own_seen σ' places let_go ∙ seen))
          (sym consumer_seen))
          consumer_seen
          (λ p e. e)
          formed
          grown
          (places_stay z t σ γ (later γ H) give_writes in_sort (λ y. same (place y) refl) (omega (arith, same tail refl)) (omega arith) (omega arith)
          (λ l. record { same_head = same head_position refl; same_first = refl; same_gaps = λ k. refl; same_records = λ k h. refl; was_gone = λ p e. e }))
        where
          σ' : Reader
          σ' = after σ give_writes

          same : (d : Cell) → OtherKind (of_producer t) (owner_of (area_of d)) → σ' d ≡ update σ (used c := 0) d
          same = own_leaves (of_producer t) (update σ (used c := 0)) rest own

          in_sort : All (InSort z t) give_writes
          in_sort = (refl, rest_sorted)

          kept : OthersKept t σ σ'
          kept = others_kept z t σ give_writes in_sort

          others : (y : ℕ) → (y ≡ c → ⊥) → Untouched σ σ' y
          others y n =
              ((λ k. same (part y k) refl ∙ rw (ne_eqb c y (λ e. n (sym e)), and-false (eqb 3 k)) refl), (λ i k. same (entry y i k) refl))

          places : (y : ℕ) → (y ≡ c → ⊥) → σ' (place y) ≡ σ (place y)
          places y n = (others y n).0 0

          consumer_seen : consumer_of σ' ≡ consumer_of σ
          consumer_seen = consumer_same σ σ' c (λ k. same (consumer k) refl) places not_linked m.cursor m.found

    -- what stands beside the store when the claimed record is linked behind the last one
    abbrev linked_ghost : Ghost
    linked_ghost =
        record {
          shape = record { lo = γ.shape.lo; tp = γ.shape.tp; hi = suc γ.shape.hi; at = with_place γ.shape.at (suc γ.shape.hi) c; gap = γ.shape.gap };
          entry = γ.entry;
          content = γ.content;
          history = H;
        }

    module _ (none : σ (next h) ≡ 0) (fits : suc (σ (place h)) ≤ most_place)
        (in_row : producer_in_range z (after σ link_writes) t ≡ true) (let_go : LetGo σ (after σ link_writes) t)
        (seen : producer_of (places_of σ) (row_of (after σ link_writes) t) ≡ x)
        (model : Invariant z.B (with_history (with_producer (link_last (view σ γ)) t x) H)) where
      τ : Reader
      τ = after σ (next h := suc c ∷ used c := 2 ∷ prev c := suc h ∷ place c := suc (σ (place h)) ∷ [])

      σ' : Reader
      σ' = after σ link_writes

      same : (d : Cell) → OtherKind (of_producer t) (owner_of (area_of d)) → σ' d ≡ τ d
      unfolding σ' τ
      same = own_leaves (of_producer t) τ rest own

      last : (σ (used h) ≡ 2) × (σ (place h) ≡ γ.shape.hi) × (γ.shape.at γ.shape.hi ≡ h)
      last = held_last m t h holds none

      h_fits : h < z.N
      h_fits = rw (← last.2) (m.chain.fits γ.shape.hi (last_listed m))

      in_sort : All (InSort z t) link_writes
      in_sort = (
        of_sort_lem z link (suc c) c_blank.fits,
        (refl, (of_sort_lem z link (suc h) h_fits, (of_sort_lem z (most most_place) (suc (σ (place h))) fits, rest_sorted))),
      )

      there : All (WriteThere z) link_writes
      there =
          ((h_fits, omega arith), ((c_blank.fits, omega arith), ((c_blank.fits, omega arith), ((c_blank.fits, omega arith), rest_there))))

      kept : OthersKept t σ σ'
      unfolding σ'
      kept = others_kept z t σ link_writes in_sort

      -- records but the claimed one keep their place, prev and use; those but the held one too keep their next
      others : (y : ℕ) → (y ≡ c → ⊥) → (σ' (place y) ≡ σ (place y)) × (σ' (prev y) ≡ σ (prev y)) × (σ' (used y) ≡ σ (used y))
      unfolding τ
      others y n =
          let e : eqb c y ≡ false = ne_eqb c y (λ q. n (sym q)) in
          (same (place y) refl ∙ rw e refl, same (prev y) refl ∙ rw e refl, same (used y) refl ∙ rw e refl)

      nexts : (y : ℕ) → (y ≡ c → ⊥) → (y ≡ h → ⊥) → σ' (next y) ≡ σ (next y)
      unfolding τ
      nexts y n k = same (next y) refl ∙ rw (ne_eqb h y (λ q. k (sym q))) refl

      places : (y : ℕ) → (y ≡ c → ⊥) → σ' (place y) ≡ σ (place y)
      places y n = (others y n).0

      cells : (y i k : ℕ) → σ' (entry y i k) ≡ σ (entry y i k)
      unfolding τ
      cells y i k = same (entry y i k) refl

      consumer_seen : consumer_of σ' ≡ consumer_of σ
      unfolding τ
      consumer_seen = consumer_same σ σ' c (λ k. same (consumer k) refl) places not_linked m.cursor m.found

      -- nothing is set or handled past the last record
      blanks : (p : ℕ) → z.B * γ.shape.hi ≤ p → γ.entry p ≡ blank
      blanks p l = good.model.entries.blank_ahead p (omega (arith, mul-le-mul_left z.B m.tail_last))

      pub links : Goes z σ γ (step t) r link_writes
      unfolding σ' τ
      links =
          record_goes z σ γ good t a-producer (step t) r to link_writes linked_ghost in_sort there in_row
          (link_keeps z σ σ' γ.shape m t h c a-producer holds claims kept let_go
          (same tail_record refl)
          (same head_record refl)
          (same cursor_record refl)
          (same found_record refl)
          none
          (same (place c) refl ∙ rw self refl)
          (same (next c) refl ∙ rw (ne_eqb h c h_not_c) refl)
          (same (prev c) refl ∙ rw self refl)
          (same (used c) refl ∙ rw self refl)
          (same (next h) refl ∙ rw (eq-eqb h h refl) refl)
          others
          nexts
          cells)
          (agrees_grows z.B γ.shape.lo γ.shape.hi γ.shape.gap γ.shape.at γ.entry γ.content (cell_of σ) (cell_of σ') c cells
          c_blank.no_entry blanks good.agrees)
          (seen_as model (sym (same tail refl)) (sym (same head_position refl)) (sym (same starts refl))
          (producers_after t σ σ' kept (λ u n. place_same σ σ' c places (σ (held u)) (not_held u)) x (own_seen σ' places let_go ∙ seen))
          (sym consumer_seen))
          consumer_seen
          (λ p e. e)
          formed
          grown
          (record {
            others = others_untouched z t σ link_writes in_sort;
            tail_grows = omega (arith, same tail refl);
            shifts_on = omega arith;
            last_grows = omega arith;
            had_place = λ y l b. old-place y b (ℕ_discrete y c);
            held_places = λ u n. place_same σ σ' c places (σ (held u)) (not_held u);
            behind =
                λ l. record {
                  same_head = same head_position refl;
                  same_first = refl;
                  same_gaps = λ k. refl;
                  same_records = λ k b. with_place_other γ.shape.at (suc γ.shape.hi) c k (λ e. omega arith);
                  was_gone = λ p e. e;
                };
          })
        where
          self : eqb c c ≡ true
          self = eq-eqb c c refl

          -- the linked record's place is past the old last one
          old-place : (y : ℕ) → σ' (place y) ≤ γ.shape.hi → Dec (y ≡ c) → σ (place y) ≡ σ' (place y)
          old-place y b (yes q) =
              let new : σ' (place y) ≡ suc (σ (place h)) = same (place y) refl ∙ rw (eq-eqb c y (sym q)) refl in
              absurd (omega (arith, last.1))
          old-place y b (no n) = sym (places y n)

module _ (z : Sizes) (σ : Reader) (γ : Ghost) (good : Good z σ γ) (t : ℕ) (a-producer : (1 ≤ t) × (t ≤ z.P)) where
  self : eqb t t ≡ true
  self = eq-eqb t t refl

  -- Either end of a link: the claimed record is linked behind the last one, or given back.
  by_linked : (p : ℕ) (f : List Write → Effect) → σ (phase t) ≡ p → 3 ≤ p → (p ≡ 5) ⊎ (p ≡ 11)
      → ((h c : ℕ) → σ (held t) ≡ suc h → σ (claimed t) ≡ suc c → σ (next h) ≡ 0 → suc (σ (place h)) ≤ most_place
      → Fine z σ γ (step t) (f (next h := suc c ∷ used c := 2 ∷ prev c := suc h ∷ place c := suc (σ (place h)) ∷ [])))
      → ((h c : ℕ) → σ (held t) ≡ suc h → σ (claimed t) ≡ suc c → σ (place h) < γ.shape.hi → Fine z σ γ (step t) (f (used c := 0 ∷ [])))
      → ((h : ℕ) → σ (held t) ≡ suc h → suc (σ (place h)) ≤ most_place)
      → Fine z σ γ (step t) (linked z σ t f)
  by_linked p f e past linking on-link on-give fits =
      by_need (Fine z σ γ (step t)) (σ (held t)) _ ((good.memory.threads t).has_held (omega arith))
      (λ h q.
      by_need (Fine z σ γ (step t)) (σ (claimed t)) _ ((good.memory.threads t).has_claimed (⊎_elim (λ i. inl (e ∙ i)) (λ i. inr (e ∙ i)) linking))
      (λ c w.
      by_cond (Fine z σ γ (step t)) (eqb (σ (next h)) 0) _ _
      (λ b. by_up_to (Fine z σ γ (step t)) most_place (suc (σ (place h))) _ (fits h q) (on-link h c q w (eqb-true (σ (next h)) 0 b) (fits h q)))
      (λ b. on-give h c q w (held_before_last good.memory t h q (eqb-false (σ (next h)) 0 b)))))

  -- the store with the claimed record linked and t's own words written
  abbrev linked_then : (h c : ℕ) → List Write → Reader
  linked_then h c rest = after σ (next h := suc c ∷ used c := 2 ∷ prev c := suc h ∷ place c := suc (σ (place h)) ∷ rest)

  -- 5. Link. To 6.
  abbrev onward : List Write
  onward = claimed t := 0 ∷ phase t := 6 ∷ []

  -- thread t's words then
  record Onward (σ' : Reader) : Type 0 where
    in_phase : σ' (producer t 0) ≡ 6
    call : σ' (producer t 1) ≡ σ (producer t 1)
    position : σ' (producer t 3) ≡ σ (producer t 3)
    held : σ' (producer t 4) ≡ σ (producer t 4)
    claimed : σ' (producer t 5) ≡ 0
    backed : σ' (producer t 6) ≡ σ (producer t 6)
    steps : σ' (producer t 7) ≡ σ (producer t 7)

  onward_in_range : (σ' : Reader) → σ (phase t) ≡ 5 → Onward σ' → producer_in_range z σ' t ≡ true
  onward_in_range σ' e w =
      let old = own_words z σ γ good t a-producer 5 e in
      producer_row_of z (row_of σ' t) 6 w.in_phase (omega arith)
      (record {
        call = rw w.call old.call;
        value = tt;
        position = rw w.position old.position;
        held = rw w.held old.held;
        claimed = w.claimed;
        backed = rw w.backed old.backed;
        steps = rw w.steps old.steps;
      })

  onward_lets_go : (σ' : Reader) → Onward σ' → LetGo σ σ' t
  onward_lets_go σ' w =
      record { claims_none = w.claimed; in_phase = λ p. ⊎_elim (λ q. omega (arith, w.in_phase)) (λ q. omega (arith, w.in_phase)) p; not_back = λ q. omega (arith, w.in_phase); holds_on = inl w.held }

  -- where a position was taken, the place of the record that leads to it is below the limit
  taken_below : (L : ℕ) → L < σ tail → L < z.M
  taken_below L l = omega (arith, has_sort z number (σ tail) (good.range.words tail (omega arith)))

  pub link_claimed_fine : σ (phase t) ≡ 5 → Fine z σ γ (step t) (link_claimed z σ t)
  unfolding link_claimed
  link_claimed_fine e =
      by_linked 5 (λ ws. goes (ws ++ onward)) e (omega arith) (inl refl)
      (λ h c q w none fits.
      let now : Onward (linked_then h c onward) = record { in_phase = rw self refl; call = refl; position = refl; held = refl; claimed = rw self refl; backed = refl; steps = refl } in
      links z σ γ good t a-producer h c q w onward own going tt _ γ.history good.formed refl none fits
      (onward_in_range (linked_then h c onward) e now)
      (onward_lets_go (linked_then h c onward) now)
      (rw self refl)
      (pass_on_lem z.B (link_last (view σ γ)) (link_last_lem z.B (view σ γ) good.model) t _ _ _ _ seen
      (rw q (omega (arith, (held_last good.memory t h q none).1)))))
      (λ h c q w below.
      let now : Onward (after σ (used c := 0 ∷ onward)) = record { in_phase = rw self refl; call = refl; position = refl; held = refl; claimed = rw self refl; backed = refl; steps = refl } in
      gives z σ γ good t a-producer h c q w onward own going tt _ γ.history good.formed refl
      (onward_in_range (after σ (used c := 0 ∷ onward)) e now)
      (onward_lets_go (after σ (used c := 0 ∷ onward)) now)
      (rw self refl)
      (pass_on_lem z.B (view σ γ) good.model t _ _ _ _ seen (rw q below)))
      (λ h q.
      let o = producer_clause z.B (view σ γ) good.model t _ seen in
      place_fits z (limits z good.sizes) (σ (place h)) (σ (position t)) (omega (arith, ap (λ (x : ℕ). z.B * place_of (places_of σ) x) q, o.2)) (taken_below (σ (position t)) o.0.taken))
    where
      own : All (Own (of_producer t)) onward
      own = ((refl, omega arith), ((refl, omega arith), tt))

      seen : (view σ γ).producer t ≡ ahead (σ (call t)) (σ (value t)) (σ (position t)) (place_of (places_of σ) (σ (held t)))
      seen = seen_at z σ γ good t a-producer 5 e

  -- 11. As 5, then end. The tail record does not move.
  abbrev idling : List Write
  idling = clear_producer t ∷ []

  idle_lets_go : (σ' : Reader) → ((j : ℕ) → σ' (producer t j) ≡ 0) → LetGo σ σ' t
  idle_lets_go σ' none =
      record {
        claims_none = none 5;
        in_phase = λ p. ⊎_elim (λ q. omega (arith, none 0)) (λ q. omega (arith, none 0)) p;
        not_back = λ q. omega (arith, none 0);
        holds_on = inr (none 4, none 0);
      }

  pub link_ahead_fine : σ (phase t) ≡ 11 → Fine z σ γ (step t) (link_ahead z σ t)
  unfolding link_ahead
  link_ahead_fine e =
      by_linked 11 (λ ws. reply ended (ws ++ idling)) e (omega arith) (inr refl)
      (λ h c q w none fits.
      let now : (j : ℕ) → linked_then h c idling (producer t j) ≡ 0 = λ j. rw self refl in
      links z σ γ good t a-producer h c q w idling own ended tt idle H (end_formed z σ γ good t _ is) (end_adds z σ γ good t _ is) none fits
      (idle_in_range z σ _ now)
      (idle_lets_go _ now)
      (idle_seen z σ _ now (places_of σ))
      (finish_keeps z.B (link_last (view σ γ)) (link_last_lem z.B (view σ γ) good.model) t _ _ _ _ seen))
      (λ h c q w below.
      let now : (j : ℕ) → after σ (used c := 0 ∷ idling) (producer t j) ≡ 0 = λ j. rw self refl in
      gives z σ γ good t a-producer h c q w idling own ended tt idle H (end_formed z σ γ good t _ is) (end_adds z σ γ good t _ is)
      (idle_in_range z σ _ now)
      (idle_lets_go _ now)
      (idle_seen z σ _ now (places_of σ))
      (finish_keeps z.B (view σ γ) good.model t _ _ _ _ seen))
      (λ h q.
      let o = producer_clause z.B (view σ γ) good.model t _ seen in
      place_fits z (limits z good.sizes) (σ (place h)) (σ (position t)) (omega (arith, ap (λ (x : ℕ). z.B * place_of (places_of σ) x) q, o.4.1)) (taken_below (σ (position t)) o.1))
    where
      own : All (Own (of_producer t)) idling
      own = ((refl, omega arith), tt)

      seen : (view σ γ).producer t ≡ done (σ (call t)) (σ (value t)) (σ (position t)) (place_of (places_of σ) (σ (held t)))
      seen = seen_at z σ γ good t a-producer 11 e

      is : call_of ((view σ γ).producer t) ≡ some (record { number = σ (call t); value = σ (value t) })
      is = ap call_of seen

      H : History
      H = enqueue_ended t (σ (call t)) (σ (value t)) ∷ γ.history
