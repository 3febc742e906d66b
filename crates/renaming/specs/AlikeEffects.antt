-- Answers alike: the same refusal, or the same reply with writes that leave stores alike. To show two answers of a rule alike,
-- show it at each leaf.
use Rattle.std.specs.Prelude.{◌≡◌, refl, ◌⊎◌, Bool, true, false, cond, List, ℕ, zero, suc, ◌*◌, leb}
use Rattle.std.proofs.Common.{sym, ◌∙◌, inl, inr}
use Rattle.std.proofs.Math.Path.{subst⁻¹}
use Rattle.rules.specs.Sizes.{Sizes}
use Rattle.rules.specs.Cell.{Reader, Write, producer, phase, held, place, next, used}
use Rattle.rules.specs.Update.{after}
use Rattle.rules.specs.Rule.{Reply, Effect, refuse, reply, need, up_to, within, index, inside, cross}
use Rattle.renaming.specs.Renaming.{Renaming, renamed, writes_to}
use Rattle.renaming.specs.Ways.{Reaches}
use Rattle.renaming.specs.Plain.{all_plain, Plain, plain_writes}
use Rattle.renaming.specs.Alike.{Body, Alike, LinksSame, HoldsSame, WaysSame, alike_after}
use Rattle.renaming.specs.AlikeWays.{WasRetired, NewlyRetired, way_after}

-- Two stores that are alike under some renaming.
pub record Stores (z : Sizes) (σ τ : Reader) : Type 0 where
  pub renaming : Renaming z.N
  pub alike : Alike renaming.to σ τ

abbrev pub Answers : Sizes → (σ τ : Reader) → Effect → Effect → Type 0
Answers z σ τ (refuse n) (refuse m) = n ≡ m
Answers z σ τ (refuse n) (reply s vs) = ⊥
Answers z σ τ (reply r ws) (refuse m) = ⊥
Answers z σ τ (reply r ws) (reply s vs) = (r ≡ s) × Stores z (after σ ws) (after τ vs)

pub record Like (z : Sizes) (σ τ : Reader) (x y : Effect) : Type 0 where
  pub answers : Answers z σ τ x y

module _ {z : Sizes} {σ τ : Reader} where
  pub by_refusal : (n : ℕ) → Like z σ τ (refuse n) (refuse n)
  by_refusal n = record { answers = refl }

  pub by_cond : (b d : Bool) {x y x' y' : Effect} → d ≡ b → (b ≡ true → Like z σ τ x x') → (b ≡ false → Like z σ τ y y')
      → Like z σ τ (cond b x y) (cond d x' y')
  by_cond true d e f g = rw e (f refl)
  by_cond false d e f g = rw e (g refl)

  pub by_up_to : (most n m : ℕ) {x x' : Effect} → m ≡ n → Like z σ τ x x' → Like z σ τ (up_to most n x) (up_to most m x')
  by_up_to most n m e h = rw e (by_cond (leb n most) (leb n most) refl (λ b. h) (λ b. by_refusal 9))

  -- a position inside a record, of the same place in both stores
  pub by_inside : (r s p q : ℕ) {k k' : ℕ → Effect} → τ (place s) ≡ σ (place r) → q ≡ p
      → ((i : ℕ) → Like z σ τ (k i) (k' i)) → Like z σ τ (inside z σ r p k) (inside z τ s q k')
  by_inside r s p q e w h =
      rw (e, w) (by_cond (within z σ r p) (within z σ r p) refl (λ b. h (index z σ r p)) (λ b. by_refusal 9))

  module _ (stores : Stores z σ τ) where
    abbrev f : ℕ → ℕ
    f = stores.renaming.to

    abbrev a : Alike f σ τ
    a = stores.alike

    pub by_need : (x y : ℕ) (k k' : ℕ → Effect) → y ≡ renamed f x → ((r : ℕ) → x ≡ suc r → Like z σ τ (k r) (k' (f r)))
        → Like z σ τ (need x k) (need y k')
    by_need zero y k k' e h = rw e (by_refusal 9)
    by_need (suc r) y k k' e h = rw e (h r refl)

    -- to cross from a linked record to its next, linked too
    pub by_cross : (r : ℕ) (k k' : ℕ → ℕ → Effect) → σ (used r) ≡ 2 → ((n : ℕ) → σ (next r) ≡ suc n → σ (used n) ≡ 2)
        → ((n p : ℕ) → σ (used n) ≡ 2 → Like z σ τ (k n p) (k' (f n) p))
        → Like z σ τ (cross z σ r k) (cross z τ (f r) k')
    by_cross r k k' u linked h =
        by_need (σ (next r)) (τ (next (f r))) _ _ (a.linked r u).onward
        (λ n e. rw (a.linked n (linked n e)).placed (placed n (linked n e) (σ (place n))))
      where
        placed : (n : ℕ) → σ (used n) ≡ 2 → (p : ℕ)
            → Like z σ τ (need p λ q. up_to z.M (z.B * q) (k n (z.B * q))) (need p λ q. up_to z.M (z.B * q) (k' (f n) (z.B * q)))
        placed n l zero = by_refusal 9
        placed n l (suc q) = by_up_to z.M (z.B * q) (z.B * q) refl (h n (z.B * q) l)

    -- the same reply, with renamed writes
    pub by_reply : (r : Reply) (ws vs : List Write) → vs ≡ writes_to f ws → LinksSame f σ τ ws → HoldsSame f σ τ ws → WaysSame f σ τ ws
        → Like z σ τ (reply r ws) (reply r vs)
    by_reply r ws vs e links holds ways =
        let same : Alike f (after σ ws) (after τ vs) =
        subst⁻¹ (λ (l : List Write). Alike f (after σ ws) (after τ l)) e (alike_after stores.renaming σ τ a ws links holds ways) in
        record { answers = (refl, record { renaming = stores.renaming; alike = same }) }

    -- The same where the first ones, to κ, write no producer's word, and the rest are plain: from what they link, and what they retire on a way back.
    pub by_records : {κ : Reader} (r : Reply) (ws vs : List Write) → vs ≡ writes_to f ws → Plain κ (after σ ws)
        → ((t k : ℕ) → κ (producer t k) ≡ σ (producer t k))
        → ((s : ℕ) → κ (used s) ≡ 2 → (σ (used s) ≡ 2) ⊎ Body f σ τ s)
        → ((t x y : ℕ) → σ (phase t) ≡ 7 → σ (held t) ≡ suc x → Reaches σ x y → κ (used y) ≡ 3 → WasRetired σ κ y ⊎ NewlyRetired f σ τ κ y)
        → Like z σ τ (reply r ws) (reply r vs)
    by_records {κ} r ws vs e p rows links retires =
        by_reply r ws vs e (λ s u. links s (sym (p.uses s) ∙ u)) (λ t s u. inl (held-before t s u))
        (λ t x d q.
        way_after a (after σ ws) x (a.ways t x (back-before t d) (held-before t x q))
        (λ y i u. rest_plain y (retires t x y (back-before t d) (held-before t x q) i (sym (p.uses y) ∙ u))))
      where
        held-before : (t s : ℕ) → after σ ws (held t) ≡ suc s → σ (held t) ≡ suc s
        held-before t s u = sym (rows t 4) ∙ p.holds t s u

        back-before : (t : ℕ) → after σ ws (phase t) ≡ 7 → σ (phase t) ≡ 7
        back-before t u = sym (rows t 0) ∙ p.backs t u

        rest_plain : (y : ℕ) → WasRetired σ κ y ⊎ NewlyRetired f σ τ κ y → WasRetired σ (after σ ws) y ⊎ NewlyRetired f σ τ (after σ ws) y
        rest_plain y (inl o) = inl (o.0, p.prevs y ∙ o.1)
        rest_plain y (inr o) = inr (record { same = o.same; ends = λ w q u. o.ends w (sym (p.prevs y) ∙ q) (sym (p.uses w) ∙ u) })

    -- The same where all of them are plain.
    pub by_plain : (r : Reply) (ws vs : List Write) → vs ≡ writes_to f ws → all_plain ws ≡ true → Like z σ τ (reply r ws) (reply r vs)
    by_plain r ws vs e h = by_records r ws vs e (plain_writes σ ws h) (λ t k. refl) (λ s u. inl u) (λ t x y d q i u. inl (u, refl))
