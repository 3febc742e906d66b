-- What a call and an open leave, by whether they are refused. (That a refused call changes no word is in proofs/Refusal.antt.)
use Rattle.std.specs.Prelude.{◌≡◌, refl, Bool, true, false, ◌||◌, not, cond, List, [], ℕ, ◌≤◌, ltb, length}
use Rattle.std.proofs.Common.{arith, ltb-false}
use Rattle.rules.specs.Sizes.{Sizes, sizes_in_range, store_words}
use Rattle.rules.specs.Rule.{Effect, refuse, reply, refused, accepted, ok}
use Rattle.rules.specs.Cell.{Write, writes}
use Rattle.rules.specs.Request.{Result, too_short, handed_over, applied, opened, open_store}
use Rattle.rules.specs.Update.{neither}

-- an accepted call is not refused
pub accepted_not_refused : {r : Rattle.rules.specs.Rule.Reply} {k n : ℕ} → accepted r k ≡ refused n → ⊥
accepted_not_refused e = let z : ◌≡◌ {A = ℕ} 0 1 = cc in omega arith

-- To show something of what a call leaves, show it of a refusal, by its own or by 15, and of what it is accepted with.
pub by_applied : (P : Result → Type 0) (k : ℕ) (z : Sizes) (m b : List ℕ) (i : ℕ) (a : Effect)
    → ((n : ℕ) → a ≡ refuse n → P (record { reply = refused n; words = m; buffer = b }))
    → ((r : Rattle.rules.specs.Rule.Reply) (ws : List Write) → a ≡ reply r ws → too_short b i r ≡ true → P (record { reply = refused 15; words = m; buffer = b }))
    → ((r : Rattle.rules.specs.Rule.Reply) (ws : List Write) → a ≡ reply r ws → too_short b i r ≡ false → P (record { reply = accepted r k; words = writes z m ws; buffer = handed_over b i r }))
    → P (applied k z m b i a)
unfolding applied
by_applied P k z m b i (refuse n) down short up = down n refl
by_applied P k z m b i (reply r ws) down short up = go (too_short b i r) refl
  where
    go : (c : Bool) → too_short b i r ≡ c
        → P (cond c (record { reply = refused 15; words = m; buffer = b }) (record { reply = accepted r k; words = writes z m ws; buffer = handed_over b i r }))
    go true e = short r ws refl e
    go false e = up r ws refl e

-- To show something of what *open* leaves, show it of a refusal, which changes no word, and of an opened store.
pub by_open : (P : Result → Type 0) (z : Sizes) (m : List ℕ)
    → ((n : ℕ) → (1 ≤ n) × (n ≤ 2) → P (record { reply = refused n; words = m; buffer = [] }))
    → (sizes_in_range z ≡ true → store_words z ≤ length m → P (record { reply = accepted ok 0; words = opened z m; buffer = [] }))
    → P (open_store z m)
unfolding open_store
by_open P z m down up = go (sizes_in_range z) refl (ltb (length m) 16 || ltb (length m) (store_words z)) refl
  where
    answered : Bool → Bool → Result
    answered a b =
        cond (not a) (record { reply = refused 1; words = m; buffer = [] })
        (cond b (record { reply = refused 2; words = m; buffer = [] }) (record { reply = accepted ok 0; words = opened z m; buffer = [] }))

    go : (a : Bool) → sizes_in_range z ≡ a → (b : Bool) → (ltb (length m) 16 || ltb (length m) (store_words z)) ≡ b → P (answered a b)
    go false e b f = down 1 (omega arith)
    go true e true f = down 2 (omega arith)
    go true e false f =
        up e (ltb-false (length m) (store_words z) (neither (ltb (length m) 16) (ltb (length m) (store_words z)) f).1)

pub refused_open_changes_nothing : (z : Sizes) (m : List ℕ) (n : ℕ) → (open_store z m).reply ≡ refused n → (open_store z m).words ≡ m
refused_open_changes_nothing z m n =
    by_open (λ r. r.reply ≡ refused n → r.words ≡ m) z m (λ k h e. refl) (λ s l e. absurd (accepted_not_refused e))
