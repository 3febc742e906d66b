-- The census fed from the intake, proved: what the caller received is what was given (`receiving`), every linearization answers that in its
-- order, and the board goes by the calls made on it (`census_rules`).
use Rattle.std.specs.Prelude.{◌≡◌, refl, ◌≢◌, ◌&&◌, cond, List, [], ◌∷◌, ◌++◌, map, ℕ, ◌≤◌, eqb, set}
use Rattle.std.proofs.Common.{sym, ap, ◌∙◌}
use Rattle.std.proofs.Math.Path.{subst⁻¹, fun_ext}
use Rattle.history.specs.Lists.{All}
use Rattle.history.specs.Linearization.{Item, Settled}
use Rattle.rules.specs.Play.{Played}
use Rattle.receiving.specs.Statement.{items_answered, items_received, items_given}
use Rattle.receiving.proofs.Theorem.{given_in_order, entered_in_order, received_is_given}
use Rattle.refinement.specs.Calls.{Made, Chain, recorded, fresh, made_of}
use Rattle.refinement.specs.Theorem.{accepts, after_open}
use Rattle.refinement.proofs.ForC.{chain_of, opened_ok, demand_3_for_c}
use Rattle.census_rules.specs.Table.{last_office}
use Rattle.census_rules.specs.Census.{Outcome, accepting, open_board, bed_in, state_in, is_item, counting}
use Rattle.census_rules.specs.Statement.{Call, take, read_table, count, number_of, leaves, board_after, state_after, rules_after, no_rules, census_of}
use Rattle.census_rules.proofs.Theorem.{always_right}
use Rattle.intake_census.specs.Statement.{values_of, fed, state_by, values_taken, Exchanged, Keeps, BoardChain, last_board, calls_of, CensusForC}

-- What a contract says of the number and of the board.
module _ (b : List ℕ) (n : ℕ) (b' w : List ℕ) where
  number_is : (c : Call) → Keeps c b n b' w → n ≡ number_of c b
  number_is (take v) k = ap (λ (o : Outcome). o.number) k
  number_is (read_table ws) k = ap (λ (o : Outcome). o.number) k
  number_is (count o r) k = ap (λ (o : Outcome). o.number) k.0

  leaves_is : (c : Call) → Keeps c b n b' w → b' ≡ leaves c b
  leaves_is (take v) k = ap (λ (o : Outcome). o.words) k
  leaves_is (read_table ws) k = ap (λ (o : Outcome). o.words) k
  leaves_is (count o r) k = k.1

-- The board goes by the calls made on it,
board_is : (b : List ℕ) (ys : List Exchanged) → BoardChain b ys → last_board b ys ≡ board_after (calls_of ys) b
board_is b [] h = refl
board_is b (y ∷ ys) h = board_is y.board ys h.1 ∙ ap (board_after (calls_of ys)) (leaves_is b y.number y.board y.reply y.call h.0)

-- and a bed's state by the values taken alone.
state_is : (cs : List Call) (s bed : ℕ) → state_after cs s bed ≡ state_by (values_taken cs) s bed
state_is [] s bed = refl
state_is (take v ∷ cs) s bed = state_is cs (cond (is_item v && eqb (bed_in v) bed) (state_in v) s) bed
state_is (read_table ws ∷ cs) s bed = state_is cs s bed
state_is (count o r ∷ cs) s bed = state_is cs s bed

one_more : (done : List Call) (c : Call) (b : List ℕ) → board_after (done ++ (c ∷ [])) b ≡ leaves c (board_after done b)
one_more [] c b = refl
one_more (d ∷ done) c b = one_more done c (leaves d b)

-- No call on it returned 22.
never_22 : (done : List Call) (b : List ℕ) → b ≡ board_after done open_board → (ys : List Exchanged) → BoardChain b ys → All (λ y. y.number ≢ 22) ys
never_22 done b e [] h = tt
never_22 done b e (y ∷ ys) h =
    let c : Call = y.call in
    let n : y.number ≡ number_of c b = number_is b y.number y.board y.reply c h.0 in
    let l : y.board ≡ leaves c b = leaves_is b y.number y.board y.reply c h.0 in (
      (λ q. (always_right done).answered c (sym (n ∙ ap (number_of c) e) ∙ q)),
      never_22 (done ++ (c ∷ [])) y.board (l ∙ ap (leaves c) e ∙ sym (one_more done c open_board)) ys h.1,
    )

-- The census of such calls, by the values that they took.
census_is : (ys : List Exchanged) → BoardChain open_board ys → (vs : List ℕ) → values_taken (calls_of ys) ≡ vs → (office : ℕ) → office ≤ last_office → (reply : List ℕ)
    → counting office (last_board open_board ys) reply ≡ accepting (set reply 0 (census_of (rules_after (calls_of ys) no_rules) (state_by vs 0) office))
census_is ys h vs e office l reply =
    ap (λ (b : List ℕ). counting office b reply) (board_is open_board ys h)
    ∙ (always_right (calls_of ys)).census office l reply
    ∙ ap (λ (state : ℕ → ℕ). accepting (set reply 0 (census_of (rules_after (calls_of ys) no_rules) state office)))
    (fun_ext (λ bed. state_is (calls_of ys) 0 bed ∙ ap (λ (us : List ℕ). state_by us 0 bed) e))

pub census_for_c : CensusForC
census_for_c z before m xs o h settled =
    let cs : List Made = map made_of xs in
    let chain : Chain m cs = chain_of m xs h in
    let p : Played = recorded cs (fresh m) in
    let d = (demand_3_for_c z before m xs o h).0 in
    let opens = opened_ok z before m o in
    let reached = after_open z before m opens cs chain in
    let received : items_received p.replies ≡ items_given p.history =
    subst⁻¹ (λ (q : Played). Settled q.history → items_received q.replies ≡ items_given q.history) reached
    (received_is_given z before (map (λ c. c.call) cs) (accepts z before m opens)) settled in (
      d.leaves settled,
      λ order left lin.
          let answered : items_received p.replies ≡ items_answered order = received ∙ sym (given_in_order p.history order left d.formed lin) in (
            record {
              same_board = λ b. ap (λ (items : List Item). fed (values_of items) b) answered;
              enqueued = entered_in_order p.history order left d.formed settled lin ∙ ap (λ (items : List Item). items ++ left) (sym received);
            },
            λ ys on taken. (
              census_is ys on (values_of (items_answered order)) (taken ∙ ap values_of answered),
              never_22 [] open_board refl ys on,
            ),
          ),
    )
