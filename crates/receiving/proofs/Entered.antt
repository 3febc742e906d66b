-- The enqueues of a linearization with no call under way put in the items that its dequeues answer and those that it leaves, in order: the
-- queue is first in, first out, and every dequeue of it has answered.
use Rattle.std.specs.Prelude.{◌≡◌, refl, ◌≢◌, List, [], ◌∷◌, ◌++◌}
use Rattle.std.proofs.Common.{sym, ap, subst, ◌∙◌, append-nil, append_assoc}
use Rattle.std.proofs.Math.Option.{some, none-ne-some, some-injective}
use Rattle.history.specs.Lists.{All, Member}
use Rattle.history.specs.Calls.{Answer, nothing, item, empty, Call, enq, deq, end_of, calls}
use Rattle.history.specs.Linearization.{Queue, dequeue, run}
use Rattle.criterion.specs.Members.{all_at, all_map}
use Rattle.criterion.specs.Tidy.{Gave, dequeue_tells}
use Rattle.criterion.specs.Fifo.{run_first, gives_its_item}
use Rattle.receiving.specs.Statement.{answered, items_answered, items_entered, EnteredInOrder}
use Rattle.receiving.proofs.InOrder.{given_in_order}

-- a call that is no dequeue without an answer
abbrev HasAnswered : Call → Type 0
HasAnswered (enq x) = Unit
HasAnswered (deq d) = d.answer ≢ nothing

-- what one dequeue that has answered takes from the front
takes_answer : (a : Answer) (q r : Queue) → a ≢ nothing → dequeue a q ≡ some r → q ≡ answered a ++ r
takes_answer nothing q r f e = absurd (f refl)
takes_answer (item n v) q r f e = gives_its_item n v q r e
takes_answer empty [] r f e = some-injective [] r e
takes_answer empty (x ∷ q) r f e = absurd (none-ne-some r e)

first_in_first_out : (cs : List Call) (q left : Queue) → All HasAnswered cs → run q cs ≡ some left → q ++ items_entered cs ≡ items_answered cs ++ left
first_in_first_out [] q left p e = append-nil q ∙ some-injective q left e
first_in_first_out (enq x ∷ cs) q left p e = sym (append_assoc q _ (items_entered cs)) ∙ first_in_first_out cs _ left p.1 e
first_in_first_out (deq d ∷ cs) q left p e =
    let f = run_first (deq d) cs q left e in
    ap (λ z. z ++ items_entered cs) (takes_answer d.answer q f.0 p.0 f.1)
    ∙ append_assoc (answered d.answer) f.0 (items_entered cs)
    ∙ ap (λ z. answered d.answer ++ z) (first_in_first_out cs f.0 left p.1 f.2)
    ∙ sym (append_assoc (answered d.answer) (items_answered cs) left)

pub entered_in_order : EnteredInOrder
entered_in_order h order left w settled lin =
    first_in_first_out order [] left (all_map (λ c. Member c (calls h)) HasAnswered order has-answered lin.theirs) lin.runs
    ∙ ap (λ z. z ++ left) (given_in_order h order left w lin)
  where
    has-answered : (c : Call) → Member c (calls h) → HasAnswered c
    has-answered (enq x) m = tt
    has-answered (deq d) m = λ e. subst (λ a. Gave a d.end h) e ((dequeue_tells h w d m).ended (all_at (λ c. end_of c ≢ 0) (calls h) settled (deq d) m))
