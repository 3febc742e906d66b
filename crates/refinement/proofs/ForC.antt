-- What C gets of a call determines its response, so what holds of calls holds of what C sees.
use Rattle.std.specs.Prelude.{◌≡◌, ◌≢◌, Bool, true, false, cond, List, [], ◌∷◌, map, ℕ, ◌≤◌, eqb, length, get_or, set}
use Rattle.std.proofs.Math.Path.{refl, ap, subst⁻¹}
use Rattle.std.proofs.Common.{sym, ◌∙◌, subst, arith, length-set, get_or-set_same, get_or-set_other}
use borrow.Author.Tests.{ne_eqb, eqb-true}
use Rattle.history.specs.Lists.{All}
use Rattle.rules.specs.Sizes.{Sizes}
use Rattle.rules.specs.Rule.{Reply, Response, refused, accepted, ok, started, going, ended, empty, item, drained}
use Rattle.rules.specs.Request.{Request, start_enqueue, start_dequeue, start_drain, step, Invocation, lending, Result, handed_over, effect, open_store, sizes_of, admitted, result}
use Rattle.rules.specs.Play.{Played}
use Rattle.rules.specs.Refusal.{by_applied, by_open}
use Rattle.delivery.specs.Export.{accepted_code, code, reply_words, Returned, returned, Replied, Stepped}
use Rattle.store.specs.Outcome.{items_at}
use Rattle.refinement.specs.Calls.{Made, Meets, Chain, noted, recorded, fresh, Exchange, Exports, ExchangeChain, says, invocation_of, buffer_of, made_of, Demand3ForC, StepCountsForC}
use Rattle.refinement.specs.Effects.{kind_of, kind_for, Sound, admitted_sound}
use Rattle.refinement.specs.Theorem.{demand_3_of_calls, step_counts_of_calls, StartsAtNone, May, result_may, Handed, result_handed}

-- a start of the consumer's replies ok
ok_says : (q : Request) → kind_for q ≡ 0 → ((k : ℕ) → StartsAtNone q k → k ≡ 0) → (r : Response) → May q r → cond (eqb (code r) 0) (accepted ok 0) (refused (code r)) ≡ r
ok_says q is none (refused n) h = rw (ne_eqb n 0 (λ e. omega arith)) refl
ok_says q is none (accepted ok k) h = ap (accepted ok) (sym (none k h.1))
ok_says q is none (accepted (started n) k) h = absurd (omega (arith, h.0))
ok_says q is none (accepted going k) h = absurd (omega (arith, h.0))
ok_says q is none (accepted ended k) h = absurd (omega (arith, h.0))
ok_says q is none (accepted empty k) h = absurd (omega (arith, h.0))
ok_says q is none (accepted (item n x) k) h = absurd (omega (arith, h.0))
ok_says q is none (accepted (drained xs) k) h = absurd (omega (arith, h.0))

-- What C gets says the response.
module _ (w : List ℕ) (four : length w ≡ 4) where
  number_at_lem : (n : ℕ) → get_or (set w 0 n) 0 0 ≡ n
  number_at_lem n = get_or-set_same w 0 n 0 (omega arith)

  steps_at : (k : ℕ) → get_or (set w 2 k) 2 0 ≡ k
  steps_at k = get_or-set_same w 2 k 0 (omega arith)

  -- an enqueue's start has two
  start_number_at : (n k : ℕ) → get_or (set (set w 0 n) 2 k) 0 0 ≡ n
  start_number_at n k = get_or-set_other (set w 0 n) 2 0 k 0 (λ e. omega arith) ∙ number_at_lem n

  start_steps_at : (n k : ℕ) → get_or (set (set w 0 n) 2 k) 2 0 ≡ k
  start_steps_at n k = get_or-set_same (set w 0 n) 2 k 0 (simp length-set (omega arith))

  -- an item's three
  abbrev item_words : (n v k : ℕ) → List ℕ
  item_words n v k = set (set (set w 0 n) 1 v) 2 k

  item_number_at : (n v k : ℕ) → get_or (item_words n v k) 0 0 ≡ n
  item_number_at n v k =
      get_or-set_other (set (set w 0 n) 1 v) 2 0 k 0 (λ e. omega arith) ∙ get_or-set_other (set w 0 n) 1 0 v 0 (λ e. omega arith) ∙ number_at_lem n

  item_value_at : (n v k : ℕ) → get_or (item_words n v k) 1 0 ≡ v
  item_value_at n v k =
      get_or-set_other (set (set w 0 n) 1 v) 2 1 k 0 (λ e. omega arith) ∙ get_or-set_same (set w 0 n) 1 v 0 (simp length-set (omega arith))

  item_steps_at : (n v k : ℕ) → get_or (item_words n v k) 2 0 ≡ k
  item_steps_at n v k = get_or-set_same (set (set w 0 n) 1 v) 2 k 0 (simp length-set (omega arith))

  pub says_is : (q : Request) (r : Response) (a : List ℕ) (i : ℕ) → May q r → Handed a i r → says q (code r) a i (reply_words r w) ≡ r
  unfolding says
  says_is (start_enqueue t v) (refused n) a i h d = rw (ne_eqb n 0 (λ e. omega arith)) refl
  says_is (start_enqueue t v) (accepted ok k) a i h d = absurd (omega arith)
  says_is (start_enqueue t v) (accepted (started n) k) a i h d = rw (start_number_at n k, start_steps_at n k) refl
  says_is (start_enqueue t v) (accepted going k) a i h d = absurd (omega arith)
  says_is (start_enqueue t v) (accepted ended k) a i h d = absurd (omega arith)
  says_is (start_enqueue t v) (accepted empty k) a i h d = absurd (omega arith)
  says_is (start_enqueue t v) (accepted (item n x) k) a i h d = absurd (omega arith)
  says_is (start_enqueue t v) (accepted (drained xs) k) a i h d = absurd (omega arith)
  says_is start_dequeue r a i h d = ok_says start_dequeue refl (λ k e. e) r h
  says_is (start_drain l) r a i h d = ok_says (start_drain l) refl (λ k e. e) r h
  says_is (step t) (refused n) a i h d =
      rw (ne_eqb n 100 (λ e. omega arith), ne_eqb n 101 (λ e. omega arith), ne_eqb n 102 (λ e. omega arith), ne_eqb n 103 (λ e. omega arith), ne_eqb n 104 (λ e. omega arith)) refl
  says_is (step t) (accepted ok k) a i h d = absurd (omega arith)
  says_is (step t) (accepted (started n) k) a i h d = absurd (omega arith)
  says_is (step t) (accepted going k) a i h d = ap (accepted going) (steps_at k)
  says_is (step t) (accepted ended k) a i h d = ap (accepted ended) (steps_at k)
  says_is (step t) (accepted empty k) a i h d = ap (accepted empty) (steps_at k)
  says_is (step t) (accepted (item n v) k) a i h d = rw (item_number_at n v k, item_value_at n v k, item_steps_at n v k) refl
  says_is (step t) (accepted (drained xs) k) a i h d = rw (item_number_at (length xs) 0 k, item_steps_at (length xs) 0 k, d) refl

-- So an exchange that meets its export's contract is a call that meets the rules.
module _ (v : Invocation) (m lent : List ℕ) (four : length lent ≡ 4) (n : ℕ) (s a w : List ℕ) where
  abbrev r : Result
  r = result v m

  abbrev q : Request
  q = v.request

  by_parts : s ≡ r.words → a ≡ r.buffer → says q n a v.from w ≡ says q (code r.reply) r.buffer v.from (reply_words r.reply lent)
      → Meets m (record { call = v; response = says q n a v.from w; words = s; buffer = a })
  by_parts e d h =
      let f : says q n a v.from w ≡ r.reply = h ∙ says_is lent four q r.reply r.buffer v.from (result_may v m) (result_handed v m) in
      λ i. record { reply = f i; words = e i; buffer = d i }

-- a start is lent no buffer
start_leaves : (v : Invocation) (m : List ℕ) → v.buffer ≡ [] → (kind_for v.request ≡ 2 → ⊥) → (result v m).buffer ≡ []
unfolding result
start_leaves v m none start =
    by_applied (λ r. r.buffer ≡ []) _ (sizes_of m) m v.buffer v.from (admitted m (effect v.request))
    (λ n e. none)
    (λ r ws e short. none)
    (λ r ws e long. go r (subst (Sound (sizes_of m) v.request) e (admitted_sound v.request m)).0)
  where
    go : (r : Reply) → kind_of r ≡ kind_for v.request → handed_over v.buffer v.from r ≡ []
    go ok is = none
    go (started n) is = none
    go going is = none
    go ended is = none
    go empty is = none
    go (item n w) is = none
    go (drained xs) is = absurd (start (sym is))

exports_meet : (q : Request) (m lent : List ℕ) → length lent ≡ 4 → (b : List ℕ) (i n : ℕ) (s a w : List ℕ) → Exports q m lent b i n s a w
    → Meets m (record { call = invocation_of q b i; response = says q n a i w; words = s; buffer = buffer_of q a })
unfolding says
exports_meet (start_enqueue t v) m lent four b i n s a w e =
    let call : Invocation = lending [] 0 (start_enqueue t v) in
    by_parts call m lent four n s [] w (ap (λ (x : Replied). x.store) e) (sym (start_leaves call m refl (λ x. omega arith)))
    (ap (λ (x : Replied). says (start_enqueue t v) x.number [] 0 x.reply) e)
exports_meet start_dequeue m lent four b i n s a w e =
    let call : Invocation = lending [] 0 start_dequeue in
    by_parts call m lent four n s [] w (ap (λ (x : Returned). x.store) e) (sym (start_leaves call m refl (λ x. omega arith)))
    (ap (λ (x : Returned). says start_dequeue x.number [] 0 w) e)
exports_meet (start_drain l) m lent four b i n s a w e =
    let call : Invocation = lending [] 0 (start_drain l) in
    by_parts call m lent four n s [] w (ap (λ (x : Returned). x.store) e) (sym (start_leaves call m refl (λ x. omega arith)))
    (ap (λ (x : Returned). says (start_drain l) x.number [] 0 w) e)
exports_meet (step t) m lent four b i n s a w e =
    by_parts (lending b i (step t)) m lent four n s a w (ap (λ (x : Stepped). x.store) e) (ap (λ (x : Stepped). x.buffer) e)
    (ap (λ (x : Stepped). says (step t) x.number x.buffer i x.reply) e)

pub chain_of : (m : List ℕ) (xs : List Exchange) → ExchangeChain m xs → Chain m (map made_of xs)
chain_of m [] h = tt
chain_of m (x ∷ xs) h =
    (exports_meet x.request m x.lent h.0 x.given x.from x.number x.store x.buffer x.reply h.1, chain_of x.store xs h.2)

-- An open that returned 0 was accepted.
pub opened_ok : (z : Sizes) (before m : List ℕ) → ◌≡◌ {A = Returned} (record { number = 0; store = m }) (returned (open_store z before))
    → ◌≡◌ {A = Result} (record { reply = accepted ok 0; words = m; buffer = [] }) (open_store z before)
opened_ok z before m =
    by_open (λ r. ◌≡◌ {A = Returned} (record { number = 0; store = m }) (returned r) → ◌≡◌ {A = Result} (record { reply = accepted ok 0; words = m; buffer = [] }) r)
    z before
    (λ n h e. let f : 0 ≡ n = ap (λ (x : Returned). x.number) e in absurd (omega arith))
    (λ a b e i. record { reply = accepted ok 0; words = (e i).store; buffer = [] })

-- a call that returned 3 or 9 was refused so
says_refused : (q : Request) (a : List ℕ) (i : ℕ) (w : List ℕ) → (says q 3 a i w ≡ refused 3) × (says q 9 a i w ≡ refused 9)
unfolding says
says_refused (start_enqueue t v) a i w = (refl, refl)
says_refused start_dequeue a i w = (refl, refl)
says_refused (start_drain l) a i w = (refl, refl)
says_refused (step t) a i w = (refl, refl)

-- what an exchange says
abbrev said : Exchange → Response
said x = says x.request x.number x.buffer x.from x.reply

recorded_replies : (P : Response → Type 0) (xs : List Exchange) (p : Played) → All P (recorded (map made_of xs) p).replies
    → All (λ x. P (said x)) xs × All P p.replies
unfolding recorded
recorded_replies P [] p a = (tt, a)
recorded_replies P (x ∷ xs) p a =
    let b = recorded_replies P xs (noted (made_of x) p) a in
    ((b.1.0, b.0), b.1.1)

numbers : (xs : List Exchange)
    → All (λ x. (said x ≢ refused 3) × (said x ≢ refused 9)) xs
    → All (λ x. (x.number ≢ 3) × (x.number ≢ 9)) xs
numbers [] a = tt
numbers (x ∷ xs) a =
    let s = says_refused x.request x.buffer x.from x.reply in (
      (
        (λ e. a.0.0 (ap (λ (n : ℕ). says x.request n x.buffer x.from x.reply) e ∙ s.0)),
        (λ e. a.0.1 (ap (λ (n : ℕ). says x.request n x.buffer x.from x.reply) e ∙ s.1)),
      ),
      numbers xs a.1,
    )

pub demand_3_for_c : Demand3ForC
demand_3_for_c z before m xs o h =
    let d = demand_3_of_calls z before m (map made_of xs) (opened_ok z before m o) (chain_of m xs h) in
    (d, numbers xs (recorded_replies _ xs (fresh m) d.answered).0)

-- What a step that returned 100 or more says.
says_steps : (t n : ℕ) (a : List ℕ) (i : ℕ) (w : List ℕ) → 100 ≤ n → May (step t) (says (step t) n a i w)
    → (r : Reply) × (says (step t) n a i w ≡ accepted r (get_or w 2 0)) × (n ≡ accepted_code r)
unfolding says
says_steps t n a i w l = first (eqb n 100) (eqb n 101) (eqb n 102) (eqb n 103) (eqb n 104) (eqb-true n 100) (eqb-true n 101) (eqb-true n 102) (eqb-true n 103) (eqb-true n 104)
  where
    k : ℕ
    k = get_or w 2 0

    answer : (b c d e f : Bool) → Response
    answer b c d e f =
        cond b (accepted going k)
        (cond c (accepted ended k)
        (cond d (accepted empty k) (cond e (accepted (item (get_or w 0 0) (get_or w 1 0)) k) (cond f (accepted (drained (items_at a i (get_or w 0 0))) k) (refused n)))))

    first : (b c d e f : Bool) → (b ≡ true → n ≡ 100) → (c ≡ true → n ≡ 101) → (d ≡ true → n ≡ 102) → (e ≡ true → n ≡ 103) → (f ≡ true → n ≡ 104)
        → May (step t) (answer b c d e f) → (r : Reply) × (answer b c d e f ≡ accepted r k) × (n ≡ accepted_code r)
    first true c d e f p q r s u m = (going, refl, p refl)
    first false true d e f p q r s u m = (ended, refl, q refl)
    first false false true e f p q r s u m = (empty, refl, r refl)
    first false false false true f p q r s u m = (item (get_or w 0 0) (get_or w 1 0), refl, s refl)
    first false false false false true p q r s u m = (drained (items_at a i (get_or w 0 0)), refl, u refl)
    first false false false false false p q r s u m = absurd (omega arith)

-- 100 is going alone
is_going : (r : Reply) → accepted_code r ≡ 100 → r ≡ going
is_going ok e = absurd (omega arith)
is_going (started n) e = absurd (omega arith)
is_going going e = refl
is_going ended e = absurd (omega arith)
is_going empty e = absurd (omega arith)
is_going (item n v) e = absurd (omega arith)
is_going (drained xs) e = absurd (omega arith)

pub step_counts_for_c : StepCountsForC
step_counts_for_c z before m xs o h t n i lent b s a w four e l =
    let words : List ℕ = (recorded (map made_of xs) (fresh m)).words in
    let made : Made = record { call = lending b i (step t); response = says (step t) n a i w; words = s; buffer = a } in
    let met : Meets words made = exports_meet (step t) words lent four b i n s a w e in
    let may : May (step t) (says (step t) n a i w) = subst⁻¹ (May (step t)) (ap (λ (x : Result). x.reply) met) (result_may (lending b i (step t)) words) in
    let said = says_steps t n a i w l may in
    let counts = step_counts_of_calls z before m (map made_of xs) made (opened_ok z before m o) (chain_of m xs h) met t said.0 (get_or w 2 0) refl said.1 in
    let as_said : n ≡ accepted_code said.0 = said.2 in (
      counts.0,
      (
        (λ d. let consumer = counts.1.0 d in (consumer.0, λ last e. consumer.1 last (is_going said.0 (sym as_said ∙ e)))),
        (λ d. let enqueue = counts.1.1 d in (enqueue.0, enqueue.1, λ last. as_said ∙ ap accepted_code (enqueue.2 last))),
      ),
    )
