-- Two runs of the same calls have the same replies and leave the same words in the store, whatever the two stores held before they were
-- opened: what a call does goes by the cells alone, and every word of the store is one.
use Rattle.std.specs.Prelude.{◌≡◌, refl, cond, List, [], ◌∷◌, ℕ, take}
use Rattle.std.proofs.Common.{ap, ap₂, sym, ◌∙◌, subst}
use Rattle.std.proofs.Math.Path.{subst⁻¹}
use Rattle.rules.specs.Sizes.{Sizes, store_words}
use Rattle.rules.specs.Cell.{Reader, reader}
use Rattle.rules.specs.Update.{after}
use Rattle.rules.specs.Free.{next_free}
use Rattle.rules.specs.Rule.{Effect, refuse, reply, Response, refused, accepted, ok}
use Rattle.rules.specs.Request.{Request, Invocation, Result, too_short, applied, effect, steps_so_far, result, open_store}
use Rattle.rules.specs.Play.{Played, play_one, play}
use Rattle.rules.specs.Readback.{reader_writes}
use Rattle.rules.specs.Refusal.{by_applied}
use Rattle.rules.specs.EveryWord.{same_cells_same_words}
use Rattle.simulation.specs.Every.{effect_is, next_choice}
use Rattle.progress.specs.Paced.{Keeps, call_keeps}
use Rattle.ordering.specs.Theorem.{Maintained, result_is, keeps, opened_kept, opened_cells}

-- What an effect answers, lent this buffer, and what it leaves of the cells.
abbrev answers : (steps : ℕ) (buffer : List ℕ) (from : ℕ) → Effect → Response
answers k b i (refuse n) = refused n
answers k b i (reply r ws) = cond (too_short b i r) (refused 15) (accepted r k)

abbrev leaves : Reader → (buffer : List ℕ) (from : ℕ) → Effect → Reader
leaves σ b i (refuse n) = σ
leaves σ b i (reply r ws) = cond (too_short b i r) σ (after σ ws)

-- One call.
module _ {z : Sizes} {p : Played} (k : Maintained z p) (v : Invocation) where
  abbrev σ : Reader
  σ = reader z p.words

  abbrev q : Request
  q = v.request

  applied_reply : (n : ℕ) (a : Effect) → (applied n z p.words v.buffer v.from a).reply ≡ answers n v.buffer v.from a
  applied_reply n a =
      by_applied (λ x. x.reply ≡ answers n v.buffer v.from a) n z p.words v.buffer v.from a
      (λ m e. rw e refl)
      (λ r ws e short. rw (e, short) refl)
      (λ r ws e long. rw (e, long) refl)

  applied_reads : (n : ℕ) (a : Effect) → Keeps z σ k.beside q a → reader z (applied n z p.words v.buffer v.from a).words ≡ leaves σ v.buffer v.from a
  applied_reads n a f =
      by_applied (λ x. reader z x.words ≡ leaves σ v.buffer v.from a) n z p.words v.buffer v.from a
      (λ m e. rw e refl)
      (λ r ws e short. rw (e, short) refl)
      (λ r ws e long. rw (e, long) (reader_writes z p.words ws k.fits (subst (Keeps z σ k.beside q) e f).goes.there))

  pub call_reply : (result v p.words).reply ≡ answers (steps_so_far q σ) v.buffer v.from (effect q z σ)
  call_reply = ap (λ (r : Result). r.reply) (result_is k v) ∙ applied_reply (steps_so_far q σ) (effect q z σ)

  call_reads : reader z (result v p.words).words ≡ leaves σ v.buffer v.from (effect q z σ)
  call_reads =
      ap (λ (r : Result). reader z r.words) (result_is k v)
      ∙ applied_reads (steps_so_far q σ) (effect q z σ)
      (subst⁻¹ (Keeps z σ k.beside q) (effect_is q z σ)
      (call_keeps z σ k.beside k.good k.paced (next_free z σ) (next_choice z σ k.beside k.good) q))

-- What two runs keep.
record Same (z : Sizes) (p p' : Played) : Type 0 where
  first : Maintained z p
  second : Maintained z p'
  cells : reader z p.words ≡ reader z p'.words
  replies : p.replies ≡ p'.replies

same_call : {z : Sizes} {p p' : Played} → Same z p p' → (v : Invocation) → Same z (play_one v p) (play_one v p')
same_call {z} s v =
    let q : Request = v.request in
    record {
      first = keeps s.first v;
      second = keeps s.second v;
      cells = call_reads s.first v ∙ ap (λ (σ : Reader). leaves σ v.buffer v.from (effect q z σ)) s.cells ∙ sym (call_reads s.second v);
      replies =
          ap₂ (λ (r : Response) (rs : List Response). r ∷ rs)
          (call_reply s.first v ∙ ap (λ (σ : Reader). answers (steps_so_far q σ) v.buffer v.from (effect q z σ)) s.cells ∙ sym (call_reply s.second v))
          s.replies;
    }

same_calls : {z : Sizes} (vs : List Invocation) {p p' : Played} → Same z p p' → Same z (play vs p) (play vs p')
unfolding play
same_calls [] s = s
same_calls (v ∷ vs) s = same_calls vs (same_call s v)

pub same_words_lem : (z : Sizes) (m m' : List ℕ) (calls : List Invocation) → (open_store z m).reply ≡ accepted ok 0 → (open_store z m').reply ≡ accepted ok 0
    → let p : Played = play calls (record { words = (open_store z m).words; replies = []; history = [] }) in
    let p' : Played = play calls (record { words = (open_store z m').words; replies = []; history = [] }) in
    (p.replies ≡ p'.replies) × (take (store_words z) p.words ≡ take (store_words z) p'.words)
same_words_lem z m m' calls opens opens' =
    let s =
    same_calls calls
    (record {
      first = opened_kept z m opens;
      second = opened_kept z m' opens';
      cells = opened_cells z m opens ∙ sym (opened_cells z m' opens');
      replies = refl;
    }) in
    (s.replies, same_cells_same_words z _ _ s.first.fits s.second.fits s.cells)
