-- Two runs of the same calls from an accepted open, whose claims find a record at the same steps, give the same replies, whichever loose
-- records they take: their stores stay alike. (Free records are loose. The rules' own run is the one whose claims take the next free
-- record: `Theorem.play_is`.)
use Rattle.std.specs.Prelude.{◌≡◌, refl, Bool, cond, List, [], ◌∷◌, ℕ}
use Rattle.std.proofs.Math.Path.{ap}
use Rattle.std.proofs.Common.{ap₂, sym}
use Rattle.std.proofs.Math.Bool.{true, false}
use Rattle.history.specs.Event.{History}
use Rattle.rules.specs.Sizes.{Sizes}
use Rattle.rules.specs.Cell.{Reader, reader, writes, drain_count, pair_number, pair_value}
use Rattle.rules.specs.Rule.{Effect, refuse, reply, Response, refused, accepted, ok, started, going, ended, empty, item, drained}
use Rattle.rules.specs.Request.{Request, Invocation, Result, too_short, handed_over, applied, steps_so_far, open_store}
use Rattle.rules.specs.Play.{Played, drain_ended, history_with}
use Rattle.rules.specs.Readback.{reader_writes}
use Rattle.simulation.specs.Every.{effect_taking}
use Rattle.progress.specs.Paced.{Keeps, call_keeps}
use Rattle.renaming.specs.Renaming.{unchanged}
use Rattle.renaming.specs.Alike.{alike_itself}
use Rattle.renaming.specs.AlikeEffects.{Stores, Like}
use Rattle.renaming.specs.AlikeRecords.{Twins}
use Rattle.renaming.specs.AlikeClaims.{BothChoose}
use Rattle.renaming.specs.AlikeEvery.{steps_same, answer_alike}
use Rattle.ordering.specs.Theorem.{Maintained, result_of, play_taking, cells_are, keeps_taking, opened_kept}

-- A call in two runs: the records that its claim takes in the first and in the second, plus one; zero for none.
pub record PairedCall : Type 0 where
  pub call : Invocation
  pub in_first : ℕ
  pub in_second : ℕ

-- The two runs.
pub record TwoRuns : Type 0 where
  pub first : Played
  pub second : Played

abbrev pub call_both : Sizes → PairedCall → TwoRuns → TwoRuns
call_both z x r = record { first = play_taking z x.in_first x.call r.first; second = play_taking z x.in_second x.call r.second }

abbrev pub run_both : Sizes → List PairedCall → TwoRuns → TwoRuns
run_both z [] r = r
run_both z (x ∷ xs) r = run_both z xs (call_both z x r)

-- Along them every claim takes a loose record in both, or none in both.
abbrev pub Choosing : Sizes → List PairedCall → TwoRuns → Type 0
Choosing z [] r = Unit
Choosing z (x ∷ xs) r =
    BothChoose z (reader z r.first.words) (reader z r.second.words) x.in_first x.in_second × Choosing z xs (call_both z x r)

-- Every reply of the first is that of the second, and so is every event.
pub record SameReplies (r : TwoRuns) : Type 0 where
  pub replies : r.first.replies ≡ r.second.replies
  pub history : r.first.history ≡ r.second.history

-- What every call keeps of two runs.
record StillAlike (z : Sizes) (r : TwoRuns) : Type 0 where
  first : Maintained z r.first
  second : Maintained z r.second
  stores : Stores z (reader z r.first.words) (reader z r.second.words)
  so_far : SameReplies r

-- Two results with one reply and stores alike.
record Both (z : Sizes) (a b : Result) : Type 0 where
  reply_same : a.reply ≡ b.reply
  stores : Stores z (reader z a.words) (reader z b.words)

-- The drain area is the same in both, so a reply's history is.
history_alike : {z : Sizes} {σ τ σ' τ' : Reader} (q : Request) → Stores z σ τ → Stores z σ' τ' → (a : Response) (h : History) → history_with q σ σ' a h ≡ history_with q τ τ' a h
history_alike q s s' (refused n) h = refl
history_alike q s s' (accepted ok n) h = refl
history_alike q s s' (accepted (started x) n) h = refl
history_alike {z} {σ} {τ} {σ'} {τ'} q s s' (accepted going n) h =
    let before : τ drain_count ≡ σ drain_count = s.alike.words drain_count tt in
    let after : τ' drain_count ≡ σ' drain_count = s'.alike.words drain_count tt in
    let number : τ' (pair_number (σ drain_count)) ≡ σ' (pair_number (σ drain_count)) = s'.alike.words (pair_number (σ drain_count)) tt in
    let value : τ' (pair_value (σ drain_count)) ≡ σ' (pair_value (σ drain_count)) = s'.alike.words (pair_value (σ drain_count)) tt in
    rw (before, after, number, value) refl
history_alike q s s' (accepted ended n) h = refl
history_alike q s s' (accepted empty n) h = refl
history_alike q s s' (accepted (item x w) n) h = refl
history_alike {z} {σ} {τ} q s s' (accepted (drained xs) n) h = ap (λ (c : ℕ). drain_ended c xs h) (sym (s.alike.words drain_count tt))

-- One call.
module _ {z : Sizes} {r : TwoRuns} (k : StillAlike z r) (x : PairedCall)
    (choice : BothChoose z (reader z r.first.words) (reader z r.second.words) x.in_first x.in_second) where
  abbrev σ : Reader
  σ = reader z r.first.words

  abbrev τ : Reader
  τ = reader z r.second.words

  abbrev v : Invocation
  v = x.call

  abbrev q : Request
  q = v.request

  by_answers : (i : ℕ) (a b : Effect) → Keeps z σ k.first.beside q a → Keeps z τ k.second.beside q b
      → Like z σ τ a b → Both z (applied i z r.first.words v.buffer v.from a) (applied i z r.second.words v.buffer v.from b)
  unfolding applied
  by_answers i (refuse n) (refuse m) f g l = record { reply_same = ap refused l.answers; stores = k.stores }
  by_answers i (refuse n) (reply s vs) f g l = absurd l.answers
  by_answers i (reply s ws) (refuse m) f g l = absurd l.answers
  by_answers i (reply s ws) (reply t vs) f g l = rw (← l.answers.0) (go (too_short v.buffer v.from s))
    where
      go : (c : Bool)
          → Both z
          (cond c (record { reply = refused 15; words = r.first.words; buffer = v.buffer }) (record { reply = accepted s i; words = writes z r.first.words ws; buffer = handed_over v.buffer v.from s }))
          (cond c (record { reply = refused 15; words = r.second.words; buffer = v.buffer }) (record { reply = accepted s i; words = writes z r.second.words vs; buffer = handed_over v.buffer v.from s }))
      go true = record { reply_same = refl; stores = k.stores }
      go false =
          record {
            reply_same = refl;
            stores =
                rw (
                  reader_writes z r.first.words ws k.first.fits f.goes.there,
                  reader_writes z r.second.words vs k.second.fits g.goes.there,
                )
                l.answers.1;
          }

  twins : Twins z σ τ
  twins =
      record {
        γ = k.first.beside;
        δ = k.second.beside;
        good = k.first.good;
        good' = k.second.good;
        stores = k.stores;
      }

  abbrev first_result : Result
  first_result = result_of z r.first v (effect_taking x.in_first q z σ)

  abbrev second_result : Result
  second_result = result_of z r.second v (effect_taking x.in_second q z τ)

  results : Both z first_result second_result
  results =
      rw (steps_same twins q)
      (by_answers (steps_so_far q σ) (effect_taking x.in_first q z σ) (effect_taking x.in_second q z τ)
      (call_keeps z σ k.first.beside k.first.good k.first.paced x.in_first choice.first q)
      (call_keeps z τ k.second.beside k.second.good k.second.paced x.in_second choice.second q)
      (answer_alike twins x.in_first x.in_second choice q))

  first_kept : Maintained z (play_taking z x.in_first v r.first)
  first_kept = keeps_taking k.first v x.in_first choice.first

  second_kept : Maintained z (play_taking z x.in_second v r.second)
  second_kept = keeps_taking k.second v x.in_second choice.second

  history_same : (play_taking z x.in_first v r.first).history ≡ (play_taking z x.in_second v r.second).history
  history_same =
      rw (
        cells_are z r.first.words k.first.good.range,
        cells_are z r.second.words k.second.good.range,
        cells_are z first_result.words first_kept.good.range,
        cells_are z second_result.words second_kept.good.range,
        ← results.reply_same,
        ← k.so_far.history,
      )
      (history_alike q k.stores results.stores first_result.reply r.first.history)

  goes_on_lem : StillAlike z (call_both z x r)
  goes_on_lem =
      record {
        first = first_kept;
        second = second_kept;
        stores = results.stores;
        so_far =
            record {
              replies = ap₂ (λ (a : Response) (rs : List Response). a ∷ rs) results.reply_same k.so_far.replies;
              history = history_same;
            };
      }

-- All of them.
all_go_on : {z : Sizes} (xs : List PairedCall) {r : TwoRuns} → StillAlike z r → Choosing z xs r → StillAlike z (run_both z xs r)
all_go_on [] k h = k
all_go_on (x ∷ xs) k h = all_go_on xs (goes_on_lem k x h.0) h.1

pub any_claims : (z : Sizes) (m : List ℕ) (xs : List PairedCall) → (open_store z m).reply ≡ accepted ok 0
    → let start : Played = record { words = (open_store z m).words; replies = []; history = [] } in
    let both : TwoRuns = record { first = start; second = start } in
    Choosing z xs both → SameReplies (run_both z xs both)
any_claims z m xs opens h =
    let start : Maintained z (record { words = (open_store z m).words; replies = []; history = [] }) = opened_kept z m opens in
    (all_go_on xs
    (record {
      first = start;
      second = start;
      stores = record { renaming = unchanged z.N; alike = alike_itself (reader z (open_store z m).words) };
      so_far = record { replies = refl; history = refl };
    })
    h
    ).so_far
