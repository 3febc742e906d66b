-- The producer's phases 2 to 11 (document 01, "Calls"; *start enqueue* takes the position: document 02, U8). Each rule stands under the
-- sentence that it renders.
use Rattle.std.specs.Prelude.{◌&&◌, cond, List, [], ◌∷◌, ◌++◌, ℕ, zero, suc, ◌+◌, ◌*◌, leb, ltb, eqb, get_or}
use Rattle.rules.specs.Sizes.{Sizes, most_place}
use Rattle.rules.specs.Cell.{Reader, Write, ◌:=◌, clear_producer, wipe, last_claimed, tail_record, phase, call, value, position, held, claimed, backed, place, next, prev, used, state, entry_number, entry_value}
use Rattle.rules.specs.Rule.{Effect, refuse, reply, ended, goes, need, up_to, inside}

module _ (z : Sizes) (σ : Reader) (t : ℕ) where
  -- "choose" means: L at or past B × place of the held record goes to 3; L below B × (place − 1) goes to 7; otherwise 8.
  abbrev pub choose : ℕ → ℕ
  choose r =
      cond (leb (z.B * σ (place r)) (σ (position t))) 3
      (cond (ltb (σ (position t) + z.B) (z.B * σ (place r))) 7 8)

  -- 2. Load: hold the tail record; choose.
  unfoldable pub load_tail : Effect
  load_tail = need (σ tail_record) λ r. goes (held t := suc r ∷ phase t := choose r ∷ [])

  -- 3. Look at next of held: none goes to 4, otherwise 6.
  unfoldable pub look_next : Effect
  look_next = need (σ (held t)) λ r. goes (phase t := cond (eqb (σ (next r)) 0) 4 6 ∷ [])

  -- Claiming zeroes the record that it takes and gives it use 1; word 11 holds it. Then to phase p.
  abbrev pub claim : (r p : ℕ) → Effect
  claim r p = goes (wipe r ∷ used r := 1 ∷ last_claimed := suc r ∷ claimed t := suc r ∷ phase t := p ∷ [])

  -- 4. Claim a record; to 5. Refusal 8: no record free.
  unfoldable pub claim_record : (choice : ℕ) → Effect
  claim_record zero = refuse 8
  claim_record (suc r) = claim r 5

  -- Link: if next of held is none, the claimed record becomes it, linked, prev held, place one more. Otherwise it is given
  -- back, use 0. What follows gets these writes.
  abbrev pub linked : (List Write → Effect) → Effect
  linked f =
      need (σ (held t))
      λ h. need (σ (claimed t))
      λ c. cond (eqb (σ (next h)) 0)
      (up_to most_place (suc (σ (place h)))
      (f (next h := suc c ∷ used c := 2 ∷ prev c := suc h ∷ place c := suc (σ (place h)) ∷ [])))
      (f (used c := 0 ∷ []))

  -- 5. Link. To 6.
  unfoldable pub link_claimed : Effect
  link_claimed = linked λ ws. goes (ws ++ (claimed t := 0 ∷ phase t := 6 ∷ []))

  -- 6. Shift: if the tail record is the held one, it becomes next of held. To 2.
  unfoldable pub shift_tail : Effect
  shift_tail =
      need (σ (held t))
      λ h. cond (eqb (σ tail_record) (suc h))
      (need (σ (next h)) λ n. goes (tail_record := suc n ∷ phase t := 2 ∷ []))
      (goes (phase t := 2 ∷ []))

  -- 7. Back: hold prev of held; choose.
  unfoldable pub go_back : Effect
  go_back =
      need (σ (held t)) λ h. need (σ (prev h)) λ p. goes (held t := suc p ∷ backed t := 1 ∷ phase t := choose p ∷ [])

  -- 8. Write call number and value into the entry; to 9.
  unfoldable pub write_entry : Effect
  write_entry =
      need (σ (held t))
      λ h. inside z σ h (σ (position t))
      λ i. goes (entry_number h i := σ (call t) ∷ entry_value h i := σ (value t) ∷ phase t := 9 ∷ [])

  -- 9. Set the entry. If the index is 1 and phase 7 was never taken, to 10; otherwise end.
  unfoldable pub set_entry : Effect
  set_entry =
      need (σ (held t))
      λ h. inside z σ h (σ (position t))
      λ i. cond (eqb i 1 && eqb (σ (backed t)) 0)
      (goes (state h i := 1 ∷ phase t := 10 ∷ []))
      (reply ended (state h i := 1 ∷ clear_producer t ∷ []))

  -- 10. If none is free, end; else claim; to 11.
  unfoldable pub claim_ahead : (choice : ℕ) → Effect
  claim_ahead zero = reply ended (clear_producer t ∷ [])
  claim_ahead (suc r) = claim r 11

  -- 11. As 5, then end. The tail record does not move.
  unfoldable pub link_ahead : Effect
  link_ahead = linked λ ws. reply ended (ws ++ (clear_producer t ∷ []))

-- A producer's rule in each phase, where a claim takes this record (plus one; zero for none); refusal 7 while it is idle. (Phase 1 is out of
-- range, and no step comes to it.)
abbrev pub producer_rules : (choice : ℕ) → List (Sizes → Reader → ℕ → Effect)
producer_rules choice =
    (λ z σ t. refuse 7)
    ∷ (λ z σ t. refuse 7)
    ∷ load_tail
    ∷ look_next
    ∷ (λ z σ t. claim_record z σ t choice)
    ∷ link_claimed
    ∷ shift_tail
    ∷ go_back
    ∷ write_entry
    ∷ set_entry
    ∷ (λ z σ t. claim_ahead z σ t choice)
    ∷ link_ahead
    ∷ []

unfoldable pub producer_step : (choice : ℕ) → Sizes → Reader → ℕ → Effect
producer_step choice z σ t = get_or (producer_rules choice) (σ (phase t)) (λ z σ t. refuse 7) z σ t
