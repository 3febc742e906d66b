-- From a phase's step to the counted step: its reply carries the number, and the thread's word holds it where the call goes on.
use Rattle.std.specs.Prelude as std
use Rattle.std.specs.Prelude.{Ok, Err}
use mathlib.Core.Path.{◌≡◌, refl, ap, ap₂, sym, ◌∙◌}
use mathlib.Core.Bool.{Bool, true, false}
use mathlib.Core.List.{List, [], ◌∷◌, ◌++◌, append-nil}
use Prim.Native.Nat.{ℕ, suc, ◌<◌}
use borrow.Author.Tests.{le-leb}
use Rattle.rules.specs.Sizes.{Sizes, most_steps}
use Rattle.rules.specs.Cell.{Cell, write, writes, ◌:=◌}
use Rattle.rules.specs.Rule.{Effect, refuse, reply, Response, refused, accepted, ok, started, going, ended, empty, item, drained}
use Rattle.rules.specs.Rule as rule
use Rattle.rules.specs.Refusal.{accepted_not_refused}
use Rattle.rules.specs.Request.{Result, too_short, handed_over, applied, count_kept, counted}
use Rattle.store.specs.declared.Refusal.{Refusal}
use Rattle.store.specs.declared.Reply.{Reply}
use Rattle.store.specs.declared.Reply.TheVariants.{Going}
use Rattle.store.specs.Outcome.{reply_in, response_in, left, left_with, left_after, leaves}
use Rattle.store.specs.Words.{writes_then}
use Rattle.store.proofs.Replies.{only_going}

-- a response with another number of steps
abbrev recount : (k : ℕ) → Response → Response
recount k (refused n) = refused n
recount k (accepted r j) = accepted r k

recounted : (b : List ℕ) (i k : ℕ) (r : std.Result Reply Refusal) → response_in b i k r ≡ recount k (response_in b i 0 r)
recounted b i k (Err e) = refl
recounted b i k (Ok r) = refl

-- what means going is Going
goes : (b : List ℕ) (i : ℕ) (r : std.Result Reply Refusal) → response_in b i 0 r ≡ accepted going 0 → r ≡ Ok Going
goes b i (Err e) h = absurd (accepted_not_refused (sym h))
goes b i (Ok r) h = let g : reply_in b i r ≡ going = cc in ap Ok (only_going b i r g)

-- a reply but going keeps no number
keeps_none : (b : List ℕ) (i : ℕ) (r : std.Result Reply Refusal) (a : rule.Reply) (c : Cell) (k : ℕ) → response_in b i 0 r ≡ accepted a 0 → (r ≡ Ok Going → ⊥) → count_kept c k a ≡ []
keeps_none b i r ok c k e n = refl
keeps_none b i r (started j) c k e n = refl
keeps_none b i r going c k e n = absurd (n (goes b i r e))
keeps_none b i r ended c k e n = refl
keeps_none b i r empty c k e n = refl
keeps_none b i r (item j v) c k e n = refl
keeps_none b i r (drained xs) c k e n = refl

-- a result with another number of steps
abbrev recount_result : (k : ℕ) → Result → Result
recount_result k r = record { reply = recount k r.reply; words = r.words; buffer = r.buffer }

module _ (z : Sizes) (m b m' b' : List ℕ) (i : ℕ) (c : Cell) (k : ℕ) (below : k < most_steps) where
  -- The call goes on.
  pub counts_on : (e : Effect) → left (Ok Going) m' b' i ≡ leaves z m e b i
      → left_after (Ok (record { reply = Going; steps = suc k })) (write z m' (c := suc k)) b' i ≡ applied (suc k) z m b i (counted c (suc k) e)
  unfolding applied counted writes
  counts_on (refuse n) h = absurd (accepted_not_refused (ap (λ (x : Result). x.reply) h))
  counts_on (reply a ws) h = go (too_short b i a) refl
    where
      go : (short : Bool) → too_short b i a ≡ short
          → left_after (Ok (record { reply = Going; steps = suc k })) (write z m' (c := suc k)) b' i ≡ applied (suc k) z m b i (counted c (suc k) (reply a ws))
      go true s = absurd (accepted_not_refused (ap (λ (x : Result). x.reply) (rw s at h)))
      go false s =
          let d = rw s at h in
          let same : accepted going 0 ≡ accepted a 0 = ap (λ (x : Result). x.reply) d in
          let is : a ≡ going = cc in
          let words : write z m' (c := suc k) ≡ writes z m (ws ++ (c := suc k ∷ [])) =
          ap (λ (x : Result). write z x.words (c := suc k)) d ∙ sym (writes_then z m ws (c := suc k ∷ [])) in
          let buffer : b' ≡ b = ap (λ (x : Result). x.buffer) (rw is at d) in
          rw (le-leb (suc k) most_steps below, is)
          (ap₂ (λ (x y : List ℕ). record { reply = accepted going (suc k); words = x; buffer = y }) words buffer)

  -- It does not: the reply of any result carries the number, and a refusal none.
  again : (r : std.Result Reply Refusal) (x : Result) → left r m' b' i ≡ x → left_with (suc k) r m' b' i ≡ recount_result (suc k) x
  again r x h = ap (λ (y : Response). record { reply = y; words = m'; buffer = b' }) (recounted b' i (suc k) r) ∙ ap (recount_result (suc k)) h

  pub counts_last : (e : Effect) (r : std.Result Reply Refusal) → (r ≡ Ok Going → ⊥) → left r m' b' i ≡ leaves z m e b i
      → left_with (suc k) r m' b' i ≡ applied (suc k) z m b i (counted c (suc k) e)
  unfolding applied counted
  counts_last (refuse n) r o h = again r (record { reply = refused n; words = m; buffer = b }) h
  counts_last (reply a ws) r o h = go (too_short b i a) refl
    where
      go : (short : Bool) → too_short b i a ≡ short
          → left_with (suc k) r m' b' i ≡ applied (suc k) z m b i (counted c (suc k) (reply a ws))
      go true s = rw (le-leb (suc k) most_steps below, s) (again r (record { reply = refused 15; words = m; buffer = b }) (rw s at h))
      go false s =
          let d = rw s at h in
          rw (le-leb (suc k) most_steps below, s, keeps_none b' i r a c (suc k) (ap (λ (x : Result). x.reply) d) o, append-nil ws)
          (again r (record { reply = accepted a 0; words = writes z m ws; buffer = handed_over b i a }) d)
