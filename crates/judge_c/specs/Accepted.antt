-- The check says yes to what the judge writes (document 02, U9).
use Rattle.std.specs.Prelude.{◌≢◌, ◌≡◌, refl, Bool, true, false, cond, List, ℕ, ◌<◌, length, take, get_or, Option, None, Some, Result, Ok}
use Rattle.std.proofs.Common.{ap, sym, ◌∙◌, arith, get_or-set_same}
use Rattle.history.specs.Calls.{calls}
use Rattle.history.specs.Form.{most_events, Reading, refused, history, read}
use Rattle.criterion.specs.Pass.{explains}
use Rattle.criterion.specs.Order.{order_numbers}
use Rattle.order_check.specs.Check.{checked}
use Rattle.order_check.specs.Decides.{yes_exactly_when_shows}
use Rattle.judge.specs.declared.Call.{Call}
use Rattle.judge.specs.Contract.{judged, reply, Judges}
use Rattle.reading.specs.Admitted.{read_with_largest}
use Rattle.judge.specs.Admitted.{admitted_was_read, judged_refusal}
use Rattle.judge.specs.Decides.{explained_was_admitted, explained_order_shows}
use Rattle.judge_c.specs.Reply.{number_of, reply_words, Replies, number_of_checked}

-- Where the judge replies explained with n, the first n words of the buffer pass the check.
pub judged_order_is_accepted :
    (words order order' : List ℕ) (table table' : List Call) (n : ℕ) → Judges words table table' order order' (Ok (Some n))
    → checked (read most_events words) (take n order') ≡ Ok true
judged_order_is_accepted words order order' table table' n j =
    let x = judged (length table) (length order) words in
    let h = explained_was_admitted x n (sym j.replies) in
    let was = (admitted_was_read (length table) (length order) words h.0 h.1).0 in
    let shows = explained_order_shows (length table) (length order) words order h.0 n h.1 (sym j.replies) in
    (yes_exactly_when_shows words (take n order') h.0 (read_with_largest (length table) words h.0 was)).1 (rw j.orders shows)

-- What returned 0 was replied explained.
returned_0 : (x : Reading) → ((n : ℕ) → x ≡ refused n → n ≢ 0) → number_of (reply x) ≡ 0 → (n : ℕ) × (reply x ≡ Ok (Some n))
returned_0 (refused n) f e = absurd (f n refl e)
returned_0 (history h) f e = go (explains h) e
  where
    count : ℕ
    count = length (order_numbers (calls h))

    go : (b : Bool) → number_of (Ok (cond b (Some count) None)) ≡ 0 → (n : ℕ) × ◌≡◌ {A = Result (Option ℕ) ℕ} (Ok (cond b (Some count) None)) (Ok (Some n))
    go true e = (count, refl)
    go false e = absurd (let z : 1 ≡ 0 = e in omega arith)

-- The same as C sees it: where `judge_history` returns 0, `order_check` returns 0 for as many words of the buffer as the reply says.
pub judged_order_is_accepted_in_c :
    (words order order' said said' : List ℕ) (table table' : List Call) → 0 < length said
    → Replies words table table' order order' said said' 0
    → number_of_checked (checked (read most_events words) (take (get_or said' 0 0) order')) ≡ 0
judged_order_is_accepted_in_c words order order' said said' table table' four r =
    let x = judged (length table) (length order) words in
    let e = returned_0 x (judged_refusal (length table) (length order) words) (sym r.replies) in
    let count : get_or said' 0 0 ≡ e.0 = ap (λ ws. get_or ws 0 0) (r.says ∙ ap (λ v. reply_words v said) e.1) ∙ get_or-set_same said 0 e.0 0 four in
    let judges : Judges words table table' order order' (Ok (Some e.0)) = record { replies = sym e.1; fills = r.fills; orders = r.orders } in
    rw count (ap number_of_checked (judged_order_is_accepted words order order' table table' e.0 judges))
