-- The judge's order: on an explained history its starting numbers show that the history is linearizable, and they are no more than the
-- calls.
use Rattle.std.specs.Prelude.{◌≡◌, refl, ◌≢◌, Bool, true, false, cond, List, [], ◌∷◌, map, ℕ, zero, suc, ◌≤◌, ◌<◌, eqb, length}
use Rattle.std.proofs.Common.{sym, ap, subst, ◌∙◌, inl, inr, arith, eqb-true}
use Rattle.std.proofs.Math.Numerals.{unary_clauses}
use Rattle.std.proofs.lemmas.List.{length-map}
use Rattle.std.proofs.lemmas.Bool.{eqb-false}
use Rattle.history.specs.Lists.{All, Pairwise, Member}
use Rattle.history.specs.Event.{History}
use Rattle.history.specs.Calls.{Enqueue, Call, enq, start_of, calls}
use Rattle.history.specs.Form.{well_formed}
use Rattle.history.specs.Linearization.{Linearization}
use Rattle.history.specs.Shows.{numbered, listed, Numbers, Shows}
use Rattle.criterion.specs.Parts.{item_of}
use Rattle.criterion.specs.Members.{all_at, all_of, from_map}
use Rattle.criterion.specs.Apart.{starts_rise, same_number}
use Rattle.criterion.specs.Found.{look_finds}
use Rattle.criterion.specs.Order.{left, order, remain, remaining, ordered, starting_number, order_numbers}
use Rattle.criterion.specs.Remaining.{some_rest, remain_from}
use Rattle.criterion.specs.Pass.{explains}
use Rattle.criterion.specs.Judged.{explains_is}
use Rattle.criterion.specs.Sound.{sound}

-- The starting number of a call leads to it.
abbrev Leads : List Call → Call → ℕ → Type 0
Leads cs c n = Numbers cs n × (numbered cs n ≡ c)

leads_on : (b : Call) (cs : List Call) (c : Call) (n : ℕ) → Leads cs c n → Leads (b ∷ cs) c (suc n)
leads_on b cs c zero l = absurd (let z = l.0.0 in omega arith)
leads_on b cs c (suc n) l = (let z = l.0 in (omega arith, omega arith), simp unary_clauses (simp unary_clauses at l.1))

leads : (cs : List Call) → Pairwise (λ a b. start_of a < start_of b) cs → (c : Call) → Member c cs → Leads cs c (starting_number cs c)
leads (b ∷ cs) r c m = go (eqb (start_of b) (start_of c)) refl m (leads cs r.1 c)
  where
    go :
        (t : Bool) → eqb (start_of b) (start_of c) ≡ t → Member c (b ∷ cs)
        → (Member c cs → Leads cs c (starting_number cs c)) → Leads (b ∷ cs) c (cond t 1 (suc (starting_number cs c)))
    go true e (inl q) ih = ((omega arith, omega arith), sym q)
    go true e (inr k) ih = absurd (let l = all_at _ cs r.0 c k in let s = eqb-true (start_of b) (start_of c) e in omega arith)
    go false e (inl q) ih = absurd (eqb-false _ _ e (ap start_of (sym q)))
    go false e (inr k) ih = leads_on b cs c (starting_number cs c) (ih k)
leads [] r c m = elim m [ ]

numbers_listed :
    (cs : List Call) → Pairwise (λ a b. start_of a < start_of b) cs → (o : List Call) → All (λ c. Member c cs) o
    → listed cs (map (starting_number cs) o) ≡ o
numbers_listed cs r [] a = refl
numbers_listed cs r (c ∷ o) a = rw ((leads cs r c a.0).1, numbers_listed cs r o a.1)

-- Calls of a list that start apart are no more than the list has.
without : (c : Call) (cs : List Call) → Member c cs → (rest : List Call) × (length cs ≡ suc (length rest)) × ((b : Call) → Member b cs → start_of c ≢ start_of b → Member b rest)
without c (b ∷ cs) (inl e) = (cs, refl, λ a m f. elim m [ inl q ↦ absurd (f (ap start_of (e ∙ sym q))) | inr k ↦ k ])
without c (b ∷ cs) (inr m) =
    let r = without c cs m in
    (b ∷ r.0, ap suc r.1, λ a k f. elim k [ inl q ↦ inl q | inr l ↦ inr (r.2 a l f) ])
without c [] m = elim m [ ]

few : (o cs : List Call) → All (λ c. Member c cs) o → Pairwise (λ a b. start_of a ≢ start_of b) o → length o ≤ length cs
few [] cs a p = omega arith
few (c ∷ o) cs a p =
    let r = without c cs a.0 in
    let l = few o r.0 (all_of _ o (λ b m. r.2 b (all_at _ o a.1 b m) (all_at _ o p.0 b m))) p.1 in
    let e = r.1 in
    omega arith

module _ (h : History) (w : well_formed h ≡ true) where
  -- the order that leaves what remains is the judge's
  left_again : (xs : List Enqueue) → All (λ x. Member (enq x) (calls h)) xs → left (calls h) (map item_of xs) ≡ xs
  left_again [] a = refl
  left_again (x ∷ xs) a =
      rw
      (look_finds x.number x (calls h) a.0 refl (λ y m e. same_number h w y x m a.0 e))
      (ap (λ z. x ∷ z) (left_again xs a.1))

  order_is : order h (remaining h) ≡ ordered (calls h)
  unfolding order remaining ordered
  order_is = rw (left_again (remain (calls h)) (all_of _ (remain (calls h)) (λ x m. remain_from h w x m)))

  linearizes : explains h ≡ true → Linearization h (ordered (calls h)) (remaining h)
  linearizes e = subst (λ o. Linearization h o (remaining h)) order_is (sound h w ((explains_is h w).0 e) (remaining h) (some_rest h w))

-- The starting numbers of the order show that an explained history is linearizable.
pub order_shows : (h : History) → well_formed h ≡ true → explains h ≡ true → Shows h (order_numbers (calls h))
unfolding order_numbers
order_shows h w e =
    let cs = calls h in
    let l = linearizes h w e in
    let o = ordered cs in
    record {
      numbers =
          all_of (Numbers cs) (map (starting_number cs) o)
          (λ n m. let r = from_map (starting_number cs) n o m in
          subst (Numbers cs) (sym r.2) (leads cs (starts_rise h w) r.0 (all_at _ o l.theirs r.0 r.1)).0);
      left = remaining h;
      linearizes = subst (λ c. Linearization h c (remaining h)) (sym (numbers_listed cs (starts_rise h w) o l.theirs)) l;
    }

-- They are no more than the calls.
pub order_fits : (h : History) → well_formed h ≡ true → explains h ≡ true → length (order_numbers (calls h)) ≤ length (calls h)
unfolding order_numbers
order_fits h w e =
    let l = linearizes h w e in
    let n = length-map (ordered (calls h)) (starting_number (calls h)) in
    let f = few (ordered (calls h)) (calls h) l.theirs l.once in
    omega arith
