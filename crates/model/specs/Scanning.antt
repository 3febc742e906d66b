-- Consumer moves from the head along the records, phases 1 to 6 and 8, keep the invariant. From the frame of moves that change the
-- consumer and the head. A move of the head record and a crossing lead from the end of one record to the beginning of some later one
-- where every position between is handled; of two records that follow on each other there is none between.
use Rattle.std.specs.Prelude.{◌≡◌, refl, ◌≢◌, ℕ, suc, ◌*◌, ◌≤◌, ◌<◌}
use Rattle.std.proofs.Common.{sym, subst, mul-le-mul_left, arith}
use Rattle.std.proofs.Math.Logic.{by_cases}
use Rattle.std.proofs.Math.Decide.{dec_le, dec_lt}
use Rattle.std.proofs.Math.Nat.{lt_of_mul-lt-mul_left}
use Rattle.criterion.specs.Explained.{EndedBefore, EndedBeforeDequeue}
use Rattle.model.specs.State.{blank, put, gone, front, reading, scanning, looking, rescanning, found, holding, State, owner}
use Rattle.model.specs.Invariant.{HandledFrom, ConsumerOk, Invariant, Rescanned}
use Rattle.model.specs.Moves.{with_consumer, retire_head, advance_head}
use Rattle.model.specs.Facts.{put_not_blank, put_not_gone, gone_not_blank}
use Rattle.model.specs.Threads.{consumer_moves, consumer_goes_on}
use Rattle.model.specs.Known.{lt_unless, below_suc, put_below_tail, none_put_below_head, handled_to_tail, put_below}
use Rattle.model.specs.Dequeues.{consumer_clause}

module _ (B : ℕ) (s : State) (i : Invariant B s) where
  open s use {tail, hp, lo, tp, hi, entry, content, history}

  -- the head, and the head record

  -- to the record that begins where place k ends, of a consumer whose phase says nothing of the head
  pub retire_head_lem : (k : ℕ) → lo ≤ k → k < tp → HandledFrom B s hp (B * k) → ConsumerOk B (retire_head B s k) s.consumer
      → Invariant B (retire_head B s k)
  retire_head_lem k from to handled ok =
      consumer_moves B s i (B * k) (suc k) s.consumer (omega arith) (omega arith) (omega arith) (omega arith)
      (handled_to_tail B s i hp (B * k) i.places.head_below handled)
      (λ p l. by_cases (dec_lt p hp) (λ b. i.entries.gone_below p b) (λ nb. handled p (omega arith) l)) refl ok

  pub advance_head_lem : s.consumer ≡ front → hp ≢ B * lo → entry hp ≡ gone → Invariant B (advance_head s)
  advance_head_lem e inside is_gone =
      consumer_moves B s i (suc hp) lo s.consumer i.places.first i.places.head_tail (omega (arith, i.places))
      (omega (arith, i.places)) (lt_unless hp tail (λ l. gone_not_blank _ is_gone (i.entries.blank_past hp l)))
      (below_suc (λ p. entry p ≡ gone) hp i.entries.gone_below is_gone) refl (subst (ConsumerOk B (advance_head s)) (sym e) tt)

  pub front_found : s.consumer ≡ front → hp ≢ B * lo → entry hp ≡ put → Invariant B (with_consumer s (found hp lo))
  front_found e inside is_put =
      consumer_goes_on B s i _ (found hp lo) e refl (
        omega (arith, i.places),
        (
          omega arith,
          put_below_tail B s i hp is_put,
          is_put,
          omega arith,
          i.places.head_tail,
          (omega (arith, i.places), i.places.head_from),
        ),
        λ p l p-put d. none_put_below_head B s i p l p-put,
      )

  pub front_blank : s.consumer ≡ front → hp ≢ B * lo → entry hp ≡ blank → Invariant B (with_consumer s reading)
  front_blank e inside is_blank =
      consumer_goes_on B s i _ reading e refl (
        omega (arith, i.places),
        below_suc (λ p. entry p ≡ put → EndedBeforeDequeue (owner p) history → ⊥) hp
            (λ p l p-put d. none_put_below_head B s i p l p-put)
            (λ is_put d. put_not_blank _ is_put is_blank),
      )

  pub read_tail_lem : s.consumer ≡ reading → tail ≢ hp → Invariant B (with_consumer s (scanning (suc hp) lo))
  read_tail_lem e more =
      let o = consumer_clause B s i _ e in
      consumer_goes_on B s i _ (scanning (suc hp) lo) e refl
      (o.0, omega arith, omega (arith, i.places), omega (arith, i.places), o.1)

  -- the first scan

  pub scan_cross : (c k j : ℕ) → s.consumer ≡ scanning c k → c ≡ B * k → k ≤ j → j < tp → HandledFrom B s c (B * j)
      → Invariant B (with_consumer s (scanning (B * j) (suc j)))
  scan_cross c k j e at_end_lem from to handled =
      let o = consumer_clause B s i _ e in
      consumer_goes_on B s i _ (scanning (B * j) (suc j)) e refl (
        o.0,
        omega (arith, mul-le-mul_left B from),
        handled_to_tail B s i c (B * j) o.2 handled,
        omega arith,
        put_below B s i (λ p. EndedBeforeDequeue (owner p) history → ⊥) c (B * j) handled o.4,
      )

  pub scan_look : (c k : ℕ) → s.consumer ≡ scanning c k → c ≢ B * k → c ≢ tail → Invariant B (with_consumer s (looking c k))
  scan_look c k e inside more =
      let o = consumer_clause B s i _ e in
      consumer_goes_on B s i _ (looking c k) e refl (o.0, o.1, omega arith, omega arith, o.3, o.4)

  pub look_found : (c k : ℕ) → s.consumer ≡ looking c k → entry c ≡ put → Invariant B (with_consumer s (rescanning hp lo c k))
  look_found c k e is_put =
      let o = consumer_clause B s i _ e in
      consumer_goes_on B s i _ (rescanning hp lo c k) e refl (
        o.0,
        omega arith,
        o.1,
        omega (arith, i.places),
        (omega arith, o.2, is_put, omega arith, omega arith, omega arith),
        λ p l p-put d. none_put_below_head B s i p l p-put,
      )

  pub look_pass : (c k : ℕ) → s.consumer ≡ looking c k → entry c ≢ put → Invariant B (with_consumer s (scanning (suc c) k))
  look_pass c k e not-put =
      let o = consumer_clause B s i _ e in
      consumer_goes_on B s i _ (scanning (suc c) k) e refl (
        o.0,
        omega arith,
        o.2,
        omega arith,
        below_suc (λ p. entry p ≡ put → EndedBeforeDequeue (owner p) history → ⊥) c o.5 (λ is_put d. not-put is_put),
      )

  -- the rescan

  -- where it lands, it is not past found
  module _ (c k f g j : ℕ) (e : s.consumer ≡ rescanning c k f g) (at_end_lem : c ≡ B * k) (from : k ≤ j) (handled : HandledFrom B s c (B * j)) where
    up_to_found : B * j ≤ f
    up_to_found =
        let o = consumer_clause B s i _ e in
        by_cases (dec_le (B * j) f) (λ l. l) (λ nl. absurd (put_not_gone _ o.4.2 (handled f (omega arith) (omega arith))))

    rescanned_to : Rescanned B s (B * j) f
    rescanned_to =
        put_below B s i (λ p. EndedBefore (owner p) (owner f) history → ⊥) c (B * j) handled (consumer_clause B s i _ e).5

    pub rescan_cross : B * j ≢ f → Invariant B (with_consumer s (rescanning (B * j) (suc j) f g))
    rescan_cross more =
        let o = consumer_clause B s i _ e in
        let before : j < g = lt_of_mul-lt-mul_left B (omega (arith, up_to_found)) in
        consumer_goes_on B s i _ (rescanning (B * j) (suc j) f g) e refl
        (o.0, omega (arith, mul-le-mul_left B from), omega (arith, up_to_found), omega arith, o.4, rescanned_to)

    pub rescan_cross_done : B * j ≡ f → Invariant B (with_consumer s (found f g))
    rescan_cross_done last =
        let o = consumer_clause B s i _ e in
        consumer_goes_on B s i _ (found f g) e refl (o.0, o.4, subst (λ (d : ℕ). Rescanned B s d f) last rescanned_to)

  module _ (c k f g : ℕ) (e : s.consumer ≡ rescanning c k f g) (inside : c ≢ B * k) where
    pub rescan_again : entry c ≡ put → c ≢ hp → Invariant B (with_consumer s (rescanning hp lo c k))
    rescan_again is_put past =
        let o = consumer_clause B s i _ e in
        consumer_goes_on B s i _ (rescanning hp lo c k) e refl (
          o.0,
          omega arith,
          omega arith,
          omega (arith, i.places),
          (o.1, omega arith, is_put, omega arith, omega arith, omega arith),
          λ p l p-put d. none_put_below_head B s i p l p-put,
        )

    pub rescan_front : entry c ≡ put → c ≡ hp → Invariant B (with_consumer s (found c k))
    rescan_front is_put at_head =
        let o = consumer_clause B s i _ e in
        consumer_goes_on B s i _ (found c k) e refl (
          o.0,
          (o.1, omega arith, is_put, omega arith, omega arith, omega arith),
          λ p l p-put d. none_put_below_head B s i p (omega arith) p-put,
        )

    -- an entry that is not set is passed
    rescan_suc : entry c ≢ put → Rescanned B s (suc c) f
    rescan_suc not-put =
        below_suc (λ p. entry p ≡ put → EndedBefore (owner p) (owner f) history → ⊥) c (consumer_clause B s i _ e).5
        (λ is_put d. not-put is_put)

    pub rescan_pass : entry c ≢ put → suc c ≢ f → Invariant B (with_consumer s (rescanning (suc c) k f g))
    rescan_pass not-put more =
        let o = consumer_clause B s i _ e in
        consumer_goes_on B s i _ (rescanning (suc c) k f g) e refl
        (o.0, omega arith, omega arith, omega arith, o.4, rescan_suc not-put)

    pub rescan_done : entry c ≢ put → suc c ≡ f → Invariant B (with_consumer s (found f g))
    rescan_done not-put last =
        let o = consumer_clause B s i _ e in
        consumer_goes_on B s i _ (found f g) e refl (o.0, o.4, subst (λ (d : ℕ). Rescanned B s d f) last (rescan_suc not-put))

  -- the item

  pub read_item_lem : (f g : ℕ) → s.consumer ≡ found f g → Invariant B (with_consumer s (holding f g (content f)))
  read_item_lem f g e =
      let o = consumer_clause B s i _ e in
      consumer_goes_on B s i _ (holding f g (content f)) e refl (o.0, o.1, o.2, refl)
