-- What the invariant says at once of set entries, owners and taken calls. From its parts on entries, owners and the past.
use Rattle.std.specs.Prelude.{◌≡◌, ◌⊎◌, ℕ, suc, ◌*◌, ◌≤◌, ◌<◌}
use Rattle.std.proofs.Common.{◌∙◌, ap, subst, inl, inr, arith}
use Rattle.std.proofs.Math.Logic.{by_cases}
use Rattle.std.proofs.Math.Decide.{dec_le, dec_lt}
use Rattle.criterion.specs.Explained.{Begun, Ended, Taken}
use Rattle.model.specs.State.{Entry, blank, put, gone, State, owner}
use Rattle.model.specs.Invariant.{Has, Open, HandledFrom, Invariant}
use Rattle.model.specs.Facts.{put_not_blank, put_not_gone, gone_not_blank, started_begun}

-- a bound by contradiction
pub lt_unless : (a b : ℕ) → (b ≤ a → ⊥) → a < b
lt_unless a b no_le = by_cases (dec_lt a b) (λ l. l) (λ nl. absurd (no_le (omega arith)))

-- what holds below c, and at c, holds below its successor
pub below_suc : (P : ℕ → Type 0) (c : ℕ) → ((p : ℕ) → p < c → P p) → P c → (p : ℕ) → p < suc c → P p
below_suc P c below here p l = by_cases (dec_lt p c) (below p) (λ n. subst P (omega arith) here)

-- a position of one state is of that state elsewhere too, where the move keeps it
pub has_kept : (tail tail' : ℕ) (entry entry' : ℕ → Entry) (e : Entry) (n : ℕ)
    → ((p : ℕ) → p < tail → entry p ≡ e → (p < tail') × (entry' p ≡ e)) → Has tail entry e n → Has tail' entry' e n
has_kept tail tail' entry entry' e n keep (p, l, o, is-e) =
    let k = keep p l is-e in
    (p, k.0, o, k.1)

module _ (B : ℕ) (s : State) (i : Invariant B s) where
  pub put_below_tail : (p : ℕ) → s.entry p ≡ put → p < s.tail
  put_below_tail p e = lt_unless p s.tail (λ l. put_not_blank _ e (i.entries.blank_past p l))

  pub put_in_records : (p : ℕ) → s.entry p ≡ put → p < B * s.tp
  put_in_records p e = lt_unless p (B * s.tp) (λ l. put_not_blank _ e (i.entries.blank_ahead p l))

  pub none_put_below_head : (p : ℕ) → p < s.hp → s.entry p ≡ put → ⊥
  none_put_below_head p l e = put_not_gone _ e (i.entries.gone_below p l)

  pub put_past_head : (p : ℕ) → s.entry p ≡ put → s.hp ≤ p
  put_past_head p e =
      by_cases (dec_le s.hp p) (λ g. g) (λ ng. absurd (none_put_below_head p (omega arith) e))

  pub blank_past_head : (p : ℕ) → s.entry p ≡ blank → s.hp ≤ p
  blank_past_head p e =
      by_cases (dec_le s.hp p) (λ g. g) (λ ng. absurd (gone_not_blank _ (i.entries.gone_below p (omega arith)) e))

  -- nothing is handled at or past tail
  pub handled_to_tail : (p q : ℕ) → p ≤ s.tail → HandledFrom B s p q → q ≤ s.tail
  handled_to_tail p q l handled =
      by_cases (dec_le q s.tail) (λ g. g)
      (λ ng. absurd (gone_not_blank _ (handled s.tail l (omega arith)) (i.entries.blank_past s.tail (omega arith))))

  -- what holds of every set entry below p holds below q, where every position between is handled
  pub put_below : (P : ℕ → Type 0) (p q : ℕ) → HandledFrom B s p q → ((r : ℕ) → r < p → s.entry r ≡ put → P r)
      → (r : ℕ) → r < q → s.entry r ≡ put → P r
  put_below P p q handled below r l e =
      by_cases (dec_lt r p) (λ b. below r b e) (λ nb. absurd (put_not_gone _ e (handled r (omega arith) l)))

  -- the owner of a set entry is not taken
  pub put_untaken : (p n : ℕ) → s.entry p ≡ put → owner p ≡ n → Taken n s.history → ⊥
  put_untaken p n e o taken =
      let (q, l, o', is_gone) = i.past.taken_has n taken in
      put_not_gone _ e (ap s.entry (omega arith) ∙ is_gone)

  -- a call that has begun has a number from 1 to starts
  pub open_numbered : (n v : ℕ) → Open n v s.history → (1 ≤ n) × (n ≤ s.starts)
  open_numbered n v o = i.past.numbered n (started_begun n v s.history o.is_started)

  -- an untaken call that has ended has a set entry
  pub ended_put : (n : ℕ) → Ended n s.history → (Taken n s.history → ⊥) → Has s.tail s.entry put n
  ended_put n e untaken = go (i.past.ended_has n e)
    where
      go : Taken n s.history ⊎ Has s.tail s.entry put n → Has s.tail s.entry put n
      go (inl taken) = absurd (untaken taken)
      go (inr has) = has

  -- a call that has ended has a position, and so it has begun
  pub ended_begun : (n : ℕ) → Ended n s.history → Begun n s.history
  ended_begun n e = go (i.past.ended_has n e)
    where
      owned : (x : Entry) → Has s.tail s.entry x n → Begun n s.history
      owned x (p, l, o, d) = subst (λ (m : ℕ). Begun m s.history) o (i.owners.begun p l)

      go : Taken n s.history ⊎ Has s.tail s.entry put n → Begun n s.history
      go (inl taken) = owned gone (i.past.taken_has n taken)
      go (inr has) = owned put has
