-- A producer's step on two stores alike, in every phase but 4 and 10: answers alike. From what the stores share of the records
-- that it holds and has claimed.
use Rattle.std.specs.Prelude.{◌≡◌, ◌⊎◌, Bool, ◌&&◌, List, [], ◌∷◌, ◌++◌}
use Rattle.std.proofs.Math.Path.{refl}
use Rattle.std.proofs.Common.{ap, subst, inr, arith, eqb-true}
use Rattle.std.proofs.Math.Logic.{inl}
use Rattle.std.proofs.Math.Bool.{true, false, cond}
use Prim.Native.Nat.{ℕ, suc}
use Rattle.std.proofs.Math.Dec.{eqb}
use Rattle.rules.specs.Sizes.{Sizes, most_place}
use Rattle.rules.specs.Cell.{Reader, Write, ◌:=◌, clear_producer, tail_record, phase, call, value, position, held, claimed, backed, place, next, prev, used, state, entry_number, entry_value}
use Rattle.rules.specs.Update.{after}
use Rattle.rules.specs.Rule.{Reply, going, ended, reply}
use Rattle.rules.specs.Producer.{choose, load_tail, look_next, linked, link_claimed, shift_tail, go_back, write_entry, set_entry, link_ahead}
use Rattle.memory.specs.Memory.{Holdable, Memory}
use Rattle.renaming.specs.Renaming.{writes_to}
use Rattle.renaming.specs.Plain.{all_plain, not_written, plain_writes}
use Rattle.renaming.specs.Alike.{Same, Body, WayAlike, Alike}
use Rattle.renaming.specs.AlikeWays.{linked_way, way_placed, way_after}
use Rattle.renaming.specs.AlikeEffects.{Like, by_cond, by_up_to, by_inside, by_need, by_reply, by_plain, by_records}
use Rattle.renaming.specs.AlikeRecords.{Twins, tail_linked, tail_test, held_next, held_prev, claimed_same}

module _ {z : Sizes} {σ τ : Reader} (pair : Twins z σ τ) (t : ℕ) where
  abbrev f : ℕ → ℕ
  f = pair.stores.renaming.to

  abbrev a : Alike f σ τ
  a = pair.stores.alike

  m : Memory z σ pair.γ.shape
  m = pair.good.memory

  position_same : τ (position t) ≡ σ (position t)
  position_same = a.words (position t) tt

  -- A record comes to be held from which the way back is the same, and the phase is chosen by its place.
  module _ (r : ℕ) (may_hold : Holdable σ r) (way : WayAlike f σ τ r) where
    placed : Same f σ τ (place r)
    placed = way_placed a r may_hold way

    choose_same : choose z τ t (f r) ≡ choose z σ t r
    choose_same = rw (placed, position_same) refl

    now_held : (b : Bool) (x s : ℕ) → cond b (suc r) x ≡ suc s → (x ≡ suc s) ⊎ Same f σ τ (place s)
    now_held true x s e = inr (subst (λ (y : ℕ). Same f σ τ (place y)) (omega arith) placed)
    now_held false x s e = inl e

    now_back : (b : Bool) (p v x : ℕ) → cond b p (σ (phase v)) ≡ 7 → cond b (suc r) (σ (held v)) ≡ suc x → WayAlike f σ τ x
    now_back true p v x e q = subst (WayAlike f σ τ) (omega arith) way
    now_back false p v x e q = a.ways v x e q

  -- 2. Load.
  pub load_tail_alike : Like z σ τ (load_tail z σ t) (load_tail z τ t)
  unfolding load_tail
  load_tail_alike =
      by_need pair.stores (σ tail_record) (τ tail_record) _ _ (a.words tail_record tt)
      (λ r q.
      let u : σ (used r) ≡ 2 = tail_linked m r q in
      let way : WayAlike f σ τ r = linked_way a r u in
      by_reply pair.stores going (held t := suc r ∷ phase t := choose z σ t r ∷ []) _ (rw (choose_same r (inl u) way) refl) (λ s w. inl w)
      (λ v s e. now_held r (inl u) way (eqb t v) (σ (held v)) s e)
      (λ v x e k. way_after a _ x (now_back r (inl u) way (eqb t v) (choose z σ t r) v x e k) (λ y i w. inl (w, refl))))

  -- 3. Look at next of held.
  pub look_next_alike : Like z σ τ (look_next z σ t) (look_next z τ t)
  unfolding look_next
  look_next_alike =
      by_need pair.stores (σ (held t)) (τ (held t)) _ _ (a.words (held t) tt)
      (λ h q.
      by_plain pair.stores going (phase t := cond (eqb (σ (next h)) 0) 4 6 ∷ []) _
      (rw (held_next pair t h q) refl) (not_back (eqb (σ (next h)) 0)))
    where
      not_back : (b : Bool) → all_plain (phase t := cond b 4 6 ∷ []) ≡ true
      not_back true = refl
      not_back false = refl

  -- what a link writes of the held record h and the claimed one, c
  abbrev link_writes : (h c : ℕ) → List Write
  link_writes h c = next h := suc c ∷ used c := 2 ∷ prev c := suc h ∷ place c := suc (σ (place h)) ∷ []

  -- Either end of a link, with the writes of t's own words that follow it.
  link_alike : (r : Reply) (rest : List Write) → writes_to f rest ≡ rest → all_plain rest ≡ true
      → Like z σ τ (linked z σ t λ ws. reply r (ws ++ rest)) (linked z τ t λ ws. reply r (ws ++ rest))
  link_alike r rest same plainly =
      by_need pair.stores (σ (held t)) (τ (held t)) _ _ (a.words (held t) tt)
      (λ h q.
      let e : τ (place (f h)) ≡ σ (place h) = a.holding t h q in
      by_need pair.stores (σ (claimed t)) (τ (claimed t)) _ _ (a.words (claimed t) tt)
      (λ c w.
      by_cond (eqb (σ (next h)) 0) (eqb (τ (next (f h))) 0) (held_next pair t h q)
      (λ b.
      by_up_to most_place (suc (σ (place h))) (suc (τ (place (f h)))) (ap suc e)
      (by_records pair.stores r (link_writes h c ++ rest) _ (rw (e, same) refl) (plain_writes (after σ (link_writes h c)) rest plainly) (λ v k. refl)
      (λ s u. now-linked c w s (eqb c s) refl u)
      (λ v x y d k i u. let n = not_written (eqb c y) 2 (σ (used y)) 3 (λ j. omega arith) u in inl (rw n at u, rw n refl))))
      (λ b.
      by_records pair.stores r (used c := 0 ∷ rest) _ (rw same refl) (plain_writes (after σ (used c := 0 ∷ [])) rest plainly) (λ v k. refl)
      (λ s u. inl (rw (not_written (eqb c s) 0 (σ (used s)) 2 (λ j. omega arith) u) at u))
      (λ v x y d k i u. inl (rw (not_written (eqb c y) 0 (σ (used y)) 3 (λ j. omega arith) u) at u, refl)))))
    where
      now-linked : (c : ℕ) → σ (claimed t) ≡ suc c → (s : ℕ) (b : Bool) → eqb c s ≡ b → cond b 2 (σ (used s)) ≡ 2 → (σ (used s) ≡ 2) ⊎ Body f σ τ s
      now-linked c w s true e u = inr (subst (Body f σ τ) (eqb-true c s e) (claimed_same pair t c w))
      now-linked c w s false e u = inl u

  -- 5. Link. To 6.
  pub link_claimed_alike : Like z σ τ (link_claimed z σ t) (link_claimed z τ t)
  unfolding link_claimed
  link_claimed_alike = link_alike going (claimed t := 0 ∷ phase t := 6 ∷ []) refl refl

  -- 11. As 5, then end.
  pub link_ahead_alike : Like z σ τ (link_ahead z σ t) (link_ahead z τ t)
  unfolding link_ahead
  link_ahead_alike = link_alike ended (clear_producer t ∷ []) refl refl

  -- 6. Shift.
  pub shift_tail_alike : Like z σ τ (shift_tail z σ t) (shift_tail z τ t)
  unfolding shift_tail
  shift_tail_alike =
      by_need pair.stores (σ (held t)) (τ (held t)) _ _ (a.words (held t) tt)
      (λ h q.
      by_cond (eqb (σ tail_record) (suc h)) (eqb (τ tail_record) (suc (f h)))
      (tail_test pair h)
      (λ b.
      let u : σ (used h) ≡ 2 = tail_linked m h (eqb-true (σ tail_record) (suc h) b) in
      by_need pair.stores (σ (next h)) (τ (next (f h))) _ _ (a.linked h u).onward
      (λ n e. by_plain pair.stores going (tail_record := suc n ∷ phase t := 2 ∷ []) _ refl refl))
      (λ b. by_plain pair.stores going (phase t := 2 ∷ []) _ refl refl))

  -- 7. Back.
  pub go_back_alike : σ (phase t) ≡ 7 → Like z σ τ (go_back z σ t) (go_back z τ t)
  unfolding go_back
  go_back_alike e =
      by_need pair.stores (σ (held t)) (τ (held t)) _ _ (a.words (held t) tt)
      (λ h q.
      let b = held_prev pair t e h q in
      by_need pair.stores (σ (prev h)) (τ (prev (f h))) _ _ b.same
      (λ r w.
      let o = b.onward r w in
      by_reply pair.stores going (held t := suc r ∷ backed t := 1 ∷ phase t := choose z σ t r ∷ []) _ (rw (choose_same r o.0 o.1) refl) (λ s x. inl x)
      (λ v s x. now_held r o.0 o.1 (eqb t v) (σ (held v)) s x)
      (λ v x d k. way_after a _ x (now_back r o.0 o.1 (eqb t v) (choose z σ t r) v x d k) (λ y i u. inl (u, refl)))))

  -- 8. Write call number and value into the entry.
  pub write_entry_alike : Like z σ τ (write_entry z σ t) (write_entry z τ t)
  unfolding write_entry
  write_entry_alike =
      let number : τ (call t) ≡ σ (call t) = a.words (call t) tt in
      let what : τ (value t) ≡ σ (value t) = a.words (value t) tt in
      by_need pair.stores (σ (held t)) (τ (held t)) _ _ (a.words (held t) tt)
      (λ h q.
      by_inside h (f h) (σ (position t)) (τ (position t)) (a.holding t h q) position_same
      (λ i.
      by_plain pair.stores going (entry_number h i := σ (call t) ∷ entry_value h i := σ (value t) ∷ phase t := 9 ∷ [])
      (entry_number (f h) i := τ (call t) ∷ entry_value (f h) i := τ (value t) ∷ phase t := 9 ∷ [])
      (rw (number, what) refl) refl))

  -- 9. Set the entry.
  pub set_entry_alike : Like z σ τ (set_entry z σ t) (set_entry z τ t)
  unfolding set_entry
  set_entry_alike =
      let flag : τ (backed t) ≡ σ (backed t) = a.words (backed t) tt in
      by_need pair.stores (σ (held t)) (τ (held t)) _ _ (a.words (held t) tt)
      (λ h q.
      by_inside h (f h) (σ (position t)) (τ (position t)) (a.holding t h q) position_same
      (λ i.
      by_cond (eqb i 1 && eqb (σ (backed t)) 0) (eqb i 1 && eqb (τ (backed t)) 0) (rw flag refl)
      (λ b. by_plain pair.stores going (state h i := 1 ∷ phase t := 10 ∷ []) _ refl refl)
      (λ b. by_plain pair.stores ended (state h i := 1 ∷ clear_producer t ∷ []) _ refl refl)))
