-- What a run on a queue tells: the items that were in it and those put into it are, in order, the items removed and those left,
-- and each item removed was removed by a dequeue of the run.
use Rattle.std.specs.Prelude.{◌≡◌, refl, ◌⊎◌, Bool, true, false, ◌&&◌, cond, List, [], ◌∷◌, ◌++◌, map, ℕ, eqb}
use Rattle.std.proofs.Common.{sym, ap, ◌∙◌, inl, inr, append-nil, append_assoc, eqb-true}
use Rattle.std.proofs.Math.Bool.{and-eq-true_iff}
use Rattle.std.proofs.Math.Option.{Option, none, some, none-ne-some, some-injective}
use Rattle.history.specs.Lists.{All, Member}
use Rattle.history.specs.Calls.{Answer, nothing, item, empty, Dequeue, Call, enq, deq}
use Rattle.history.specs.Linearization.{Item, Queue, dequeue, perform, run}
use Rattle.criterion.specs.Parts.{item_of, enqueues_of}
use Rattle.criterion.specs.Members.{all_map, all_append, in_left, in_right}
use Rattle.criterion.specs.Entering.{enq_not_deq, same_deq}
use Rattle.criterion.specs.Orderly.{item_not_nothing, item_not_empty}
use Rattle.criterion.specs.Fits.{run_step}

-- a run, one call at a time and in two parts
pub run_first :
    (c : Call) (cs : List Call) (q left : Queue) → run q (c ∷ cs) ≡ some left
    → (r : Queue) × (perform c q ≡ some r) × (run r cs ≡ some left)
run_first c cs q left e = go (perform c q) refl e
  where
    go :
        (o : Option Queue) → perform c q ≡ o → (elim o as (λ _. Option Queue) [ none ↦ none | some r ↦ run r cs ]) ≡ some left
        → (r : Queue) × (perform c q ≡ some r) × (run r cs ≡ some left)
    go none p f = absurd (none-ne-some left f)
    go (some r) p f = (r, p, f)

pub run_parts : (b c : List Call) (q left : Queue) → run q (b ++ c) ≡ some left → (r : Queue) × (run q b ≡ some r) × (run r c ≡ some left)
run_parts [] c q left e = (q, refl, e)
run_parts (a ∷ b) c q left e =
    let f = run_first a (b ++ c) q left e in
    let g = run_parts b c f.0 left f.2 in
    (g.0, run_step a q f.0 b f.1 ∙ g.1, g.2)

-- what one dequeue removes
pub gives_its_item : (n v : ℕ) (q r : Queue) → dequeue (item n v) q ≡ some r → q ≡ record { number = n; value = v } ∷ r
gives_its_item n v [] r e = absurd (none-ne-some r e)
gives_its_item n v (x ∷ q) r e = go (eqb x.number n && eqb x.value v) refl e
  where
    go :
        (b : Bool) → (eqb x.number n && eqb x.value v) ≡ b → cond b (some q) none ≡ some r
        → x ∷ q ≡ record { number = n; value = v } ∷ r
    go true p f =
        let t = (and-eq-true_iff (eqb x.number n) (eqb x.value v)).0 p in
        let g = eqb-true x.number n t.0 in
        let k = eqb-true x.value v t.1 in
        λ i. record { number = g i; value = k i } ∷ some-injective q r f i
    go false p f = absurd (none-ne-some r f)

pub finds_nothing : (q r : Queue) → dequeue empty q ≡ some r → q ≡ []
finds_nothing [] r e = refl
finds_nothing (x ∷ q) r e = absurd (none-ne-some r e)

-- an item that a dequeue may have removed: it gave that item, or it has not answered
abbrev Removes : Answer → Item → Type 0
Removes a g = (a ≡ item g.number g.value) ⊎ (a ≡ nothing)

record Removed (a : Answer) (q r : Queue) : Type 0 where
  items : Queue
  in_turn : q ≡ items ++ r
  removes : All (Removes a) items
  given : (n v : ℕ) → a ≡ item n v → Member (record { number = n; value = v }) items

same_item : {n v m w : ℕ} → item n v ≡ item m w → ◌≡◌ {A = Item} (record { number = m; value = w }) (record { number = n; value = v })
same_item {n} {v} {m} {w} e = let p : m ≡ n = cc in let q : w ≡ v = cc in λ i. record { number = p i; value = q i }

no_item : (a : Answer) (q : Queue) → ((n v : ℕ) → a ≡ item n v → ⊥) → (n v : ℕ) → a ≡ item n v → Member (record { number = n; value = v }) q
no_item a q f n v e = absurd (f n v e)

removed : (a : Answer) (q r : Queue) → dequeue a q ≡ some r → Removed a q r
removed nothing [] r e =
    record {
      items = [];
      in_turn = some-injective [] r e;
      removes = tt;
      given = no_item nothing []
          (λ n v p. item_not_nothing (sym p));
    }
removed nothing (x ∷ q) r e =
    record {
      items = x ∷ [];
      in_turn = ap (λ z. x ∷ z) (some-injective q r e);
      removes = (inr refl, tt);
      given = no_item nothing (x ∷ []) (λ n v p. item_not_nothing (sym p));
    }
removed (item n v) q r e =
    record { items = record { number = n; value = v } ∷ []; in_turn = gives_its_item n v q r e; removes = (inl refl, tt); given = λ m w p. inl (same_item p) }
removed empty [] r e =
    record { items = []; in_turn = some-injective [] r e; removes = tt; given = no_item empty [] (λ n v p. item_not_empty (sym p)) }
removed empty (x ∷ q) r e = absurd (none-ne-some r e)

pub record RemovedBy (cs : List Call) (g : Item) : Type 0 where
  pub by : Dequeue
  pub member : Member (deq by) cs
  pub removes : (by.answer ≡ item g.number g.value) ⊎ (by.answer ≡ nothing)

pub record Gone (q : Queue) (cs : List Call) (left : Queue) : Type 0 where
  pub gone : Queue
  pub in_turn : q ++ map item_of (enqueues_of cs) ≡ gone ++ left
  pub removed_by : All (RemovedBy cs) gone
  pub given : (d : Dequeue) (n v : ℕ) → Member (deq d) cs → d.answer ≡ item n v → Member (record { number = n; value = v }) gone

by_later : (c : Call) (cs : List Call) (g : Item) → RemovedBy cs g → RemovedBy (c ∷ cs) g
by_later c cs g r = record { by = r.by; member = inr r.member; removes = r.removes }

pub fifo : (cs : List Call) (q left : Queue) → run q cs ≡ some left → Gone q cs left
fifo [] q left e = record { gone = []; in_turn = append-nil q ∙ some-injective q left e; removed_by = tt; given = λ d n v m p. m }
fifo (enq x ∷ cs) q left e =
    let r = fifo cs (q ++ (item_of x ∷ [])) left e in
    record {
      gone = r.gone;
      in_turn = sym (append_assoc q (item_of x ∷ []) (map item_of (enqueues_of cs))) ∙ r.in_turn;
      removed_by = all_map (RemovedBy cs) (RemovedBy (enq x ∷ cs)) r.gone (by_later (enq x) cs) r.removed_by;
      given = λ d n v m p. elim m [ inl f ↦ absurd (enq_not_deq (sym f)) | inr k ↦ r.given d n v k p ];
    }
fifo (deq d ∷ cs) q left e =
    let f = run_first (deq d) cs q left e in
    let r = fifo cs f.0 left f.2 in
    let m = removed d.answer q f.0 f.1 in
    record {
      gone = m.items ++ r.gone;
      in_turn =
          ap (λ z. z ++ map item_of (enqueues_of cs)) m.in_turn
          ∙ append_assoc m.items f.0 (map item_of (enqueues_of cs))
          ∙ ap (λ z. m.items ++ z) r.in_turn
          ∙ sym (append_assoc m.items r.gone left);
      removed_by =
          all_append (RemovedBy (deq d ∷ cs)) m.items r.gone
          (all_map (Removes d.answer) (RemovedBy (deq d ∷ cs)) m.items
          (λ g a. record { by = d; member = inl refl; removes = a }) m.removes)
          (all_map (RemovedBy cs) (RemovedBy (deq d ∷ cs)) r.gone (by_later (deq d) cs) r.removed_by);
      given =
          λ b n v k p.
          elim k [
            | inl e ↦ in_left _ m.items r.gone (m.given n v (ap (λ (z : Dequeue). z.answer) (sym (same_deq e)) ∙ p))
            | inr l ↦ in_right _ m.items r.gone (r.given b n v l p)
          ];
    }
