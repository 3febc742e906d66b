-- The answers of a well-formed history's calls, in starting order, are the items that it gave: an end answers the one dequeue that is
-- under way, and no dequeue starts after that one.
use Rattle.std.specs.Prelude.{◌≡◌, refl, Bool, true, false, ◌||◌, cond, List, [], ◌∷◌, ◌++◌, map, ℕ, suc, ◌<◌, eqb, length}
use Rattle.std.proofs.Common.{sym, ap, ◌∙◌, append-nil, append_assoc, eqb-true}
use Rattle.std.proofs.lemmas.Bool.{false≢true}
use Rattle.history.specs.Lists.{All, Pairwise, Member}
use Rattle.history.specs.Event.{History, enqueue_started, enqueue_ended, dequeue_started, gave_item, gave_empty}
use Rattle.history.specs.Calls.{Answer, nothing, item, empty, Call, enq, deq, start_of, end_enqueue, end_dequeue, calls}
use Rattle.history.specs.Form.{any, dequeues, well_formed}
use Rattle.criterion.specs.Members.{all_of, all_map, pairwise_with}
use Rattle.criterion.specs.Following.{head_follows, tail_formed}
use Rattle.criterion.specs.Tidy.{dequeue_tells}
use Rattle.criterion.specs.Apart.{starts_rise, one_at_a_time}
use Rattle.receiving.specs.Statement.{items_given, answered, items_answered}

-- one call more
answers_snoc : (cs : List Call) (c : Call) → items_answered (cs ++ (c ∷ [])) ≡ items_answered cs ++ items_answered (c ∷ [])
answers_snoc [] c = refl
answers_snoc (enq x ∷ cs) c = answers_snoc cs c
answers_snoc (deq d ∷ cs) c = ap (λ l. answered d.answer ++ l) (answers_snoc cs c) ∙ sym (append_assoc (answered d.answer) (items_answered cs) (items_answered (c ∷ [])))

-- the end of an enqueue answers nothing
answers_ended : (t k : ℕ) (cs : List Call) → items_answered (map (end_enqueue t k) cs) ≡ items_answered cs
answers_ended t k [] = refl
answers_ended t k (enq x ∷ cs) = answers_ended t k cs
answers_ended t k (deq d ∷ cs) = ap (λ l. answered d.answer ++ l) (answers_ended t k cs)

-- A dequeue under way has no dequeue after it, and it has not answered.
abbrev IsEnqueue : Call → Type 0
IsEnqueue (enq x) = Unit
IsEnqueue (deq d) = ⊥

abbrev LastIfOpen : Call → Call → Type 0
LastIfOpen (enq x) b = Unit
LastIfOpen (deq d) b = d.end ≡ 0 → IsEnqueue b

abbrev SilentIfOpen : Call → Type 0
SilentIfOpen (enq x) = Unit
SilentIfOpen (deq d) = d.end ≡ 0 → d.answer ≡ nothing

-- enqueues alone answer nothing, before and after an end
no_answers : (cs : List Call) → All IsEnqueue cs → items_answered cs ≡ []
no_answers [] a = refl
no_answers (enq x ∷ cs) a = no_answers cs a.1
no_answers (deq d ∷ cs) a = absurd a.0

no_answers_ended : (k : ℕ) (a : Answer) (cs : List Call) → All IsEnqueue cs → items_answered (map (end_dequeue k a) cs) ≡ []
no_answers_ended k a [] p = refl
no_answers_ended k a (enq x ∷ cs) p = no_answers_ended k a cs p.1
no_answers_ended k a (deq d ∷ cs) p = absurd p.0

-- The end of the dequeue under way puts its answer behind the others.
answers_last : (k : ℕ) (a : Answer) (cs : List Call) → Pairwise LastIfOpen cs → All SilentIfOpen cs → any dequeues cs ≡ true
    → items_answered (map (end_dequeue k a) cs) ≡ items_answered cs ++ answered a
answers_last k a [] p s e = absurd (false≢true e)
answers_last k a (enq x ∷ cs) p s e = answers_last k a cs p.1 s.1 e
answers_last k a (deq d ∷ cs) p s e = go (eqb d.end 0) refl e (answers_last k a cs p.1 s.1)
  where
    go : (b : Bool) → eqb d.end 0 ≡ b → (b || any dequeues cs) ≡ true
        → (any dequeues cs ≡ true → items_answered (map (end_dequeue k a) cs) ≡ items_answered cs ++ answered a)
        → answered (cond b a d.answer) ++ items_answered (map (end_dequeue k a) cs) ≡ (answered d.answer ++ items_answered cs) ++ answered a
    go true q t ih =
        let others : All IsEnqueue cs = all_map (LastIfOpen (deq d)) IsEnqueue cs (λ c l. l (eqb-true d.end 0 q)) p.0 in
        let silent : d.answer ≡ nothing = s.0 (eqb-true d.end 0 q) in
        rw (no_answers_ended k a cs others, no_answers cs others, silent) (append-nil (answered a))
    go false q t ih = ap (λ l. answered d.answer ++ l) (ih t) ∙ sym (append_assoc (answered d.answer) (items_answered cs) (answered a))

module _ (h : History) (w : well_formed h ≡ true) where
  last_if_open : Pairwise LastIfOpen (calls h)
  last_if_open = pairwise_with (λ a b. start_of a < start_of b) LastIfOpen (calls h) (starts_rise h w) last
    where
      last : (a b : Call) → Member a (calls h) → Member b (calls h) → start_of a < start_of b → LastIfOpen a b
      last (enq x) b m n l = tt
      last (deq d) (enq y) m n l = λ q. tt
      last (deq d) (deq e) m n l = λ q. (one_at_a_time h w d e m n l).0 q

  silent_if_open : All SilentIfOpen (calls h)
  silent_if_open = all_of SilentIfOpen (calls h) silent
    where
      silent : (c : Call) → Member c (calls h) → SilentIfOpen c
      silent (enq x) m = tt
      silent (deq d) m = (dequeue_tells h w d m).unanswered

  answers_next : (a : Answer) → any dequeues (calls h) ≡ true → items_answered (map (end_dequeue (suc (length h)) a) (calls h)) ≡ items_answered (calls h) ++ answered a
  answers_next a = answers_last (suc (length h)) a (calls h) last_if_open silent_if_open

pub answers_of_calls : (h : History) → well_formed h ≡ true → items_answered (calls h) ≡ items_given h
answers_of_calls [] w = refl
answers_of_calls (enqueue_started t n v ∷ h) w =
    answers_snoc (calls h) _ ∙ append-nil (items_answered (calls h)) ∙ answers_of_calls h (tail_formed (enqueue_started t n v) h w)
answers_of_calls (enqueue_ended t n v ∷ h) w = answers_ended t _ (calls h) ∙ answers_of_calls h (tail_formed (enqueue_ended t n v) h w)
answers_of_calls (dequeue_started ∷ h) w =
    answers_snoc (calls h) _ ∙ append-nil (items_answered (calls h)) ∙ answers_of_calls h (tail_formed dequeue_started h w)
answers_of_calls (gave_item n v ∷ h) w =
    let formed = tail_formed (gave_item n v) h w in
    answers_next h formed (item n v) (head_follows (gave_item n v) h w) ∙ ap (λ l. l ++ answered (item n v)) (answers_of_calls h formed)
answers_of_calls (gave_empty ∷ h) w =
    let formed = tail_formed gave_empty h w in
    answers_next h formed empty (head_follows gave_empty h w) ∙ append-nil (items_answered (calls h)) ∙ answers_of_calls h formed
