-- What a step leaves alone: a thread's clause from one reader to the next, and every thread's from one thread's.
use Rattle.std.specs.Prelude.{◌≡◌, refl, List, ℕ, zero, suc, ◌≤◌}
use Rattle.std.proofs.Common.{ap, sym, ◌∙◌, subst, inl, inr, arith}
use Rattle.std.proofs.Math.Path.{subst⁻¹, fun_ext}
use Rattle.std.proofs.Math.Decide.{ℕ_discrete}
use Rattle.history.specs.Lists.{All}
use Rattle.rules.specs.Sizes.{Sizes}
use Rattle.rules.specs.Cell.{Reader, Write, producer, part, entry}
use Rattle.rules.specs.Update.{after}
use Rattle.rules.specs.InRange.{InSort, others_untouched}
use Rattle.memory.specs.Memory.{Holdable, Held, Blank, Claimed, TrailFrom, ThreadOk, row_of}
use Rattle.memory.specs.Trails.{SameWay, trail_from_stays}

module _ (z : Sizes) (σ σ' : Reader) where
  pub held_kept : (x : ℕ) → ((r : ℕ) → x ≡ suc r → Holdable σ r → Holdable σ' r) → Held σ x → Held σ' x
  held_kept zero f h = h
  held_kept (suc r) f h = f r refl h

  claimed_kept : (x : ℕ) → ((r : ℕ) → x ≡ suc r → Blank z.N σ r → Blank z.N σ' r) → Claimed z.N σ x → Claimed z.N σ' x
  claimed_kept zero f h = h
  claimed_kept (suc r) f h = f r refl h

  -- A thread's clause is kept where the records that it holds and has claimed are, and its way back.
  pub thread_kept : (row : ℕ → ℕ)
      → ((r : ℕ) → row 4 ≡ suc r → Holdable σ r → Holdable σ' r)
      → ((r : ℕ) → row 5 ≡ suc r → Blank z.N σ r → Blank z.N σ' r)
      → (row 0 ≡ 7 → TrailFrom z.B σ (row 3) (row 4) → TrailFrom z.B σ' (row 3) (row 4))
      → ThreadOk z σ row → ThreadOk z σ' row
  thread_kept row f g h i =
      record {
        holding = held_kept (row 4) f i.holding;
        claiming = claimed_kept (row 5) g i.claiming;
        has_held = i.has_held;
        has_claimed = i.has_claimed;
        trail = λ e. h e (i.trail e);
      }

-- A record whose words stay as they were may be held, or is claimed, as before.
abbrev pub Untouched : Reader → Reader → ℕ → Type 0
Untouched σ σ' x = ((k : ℕ) → σ' (part x k) ≡ σ (part x k)) × ((i k : ℕ) → σ' (entry x i k) ≡ σ (entry x i k))

pub holdable_kept : (σ σ' : Reader) (x : ℕ) → ((k : ℕ) → σ' (part x k) ≡ σ (part x k)) → Holdable σ x → Holdable σ' x
holdable_kept σ σ' x e (inl u) = inl (e 3 ∙ u)
holdable_kept σ σ' x e (inr u) = inr (e 3 ∙ u)

-- A way back stays where what it goes by does, of all linked and retired records.
pub trail_kept : (z : Sizes) (σ σ' : Reader) (L x : ℕ) → ((y : ℕ) → Holdable σ y → SameWay σ σ' y)
    → TrailFrom z.B σ L x → TrailFrom z.B σ' L x
trail_kept z σ σ' L x same = trail_from_stays z.B σ σ' L x (λ r e y b. same y)

pub blank_kept : (N : ℕ) (σ σ' : Reader) (x : ℕ) → Untouched σ σ' x → Blank N σ x → Blank N σ' x
blank_kept N σ σ' x e b =
    record {
      fits = b.fits;
      claimed_use = e.0 3 ∙ b.claimed_use;
      no_place = e.0 0 ∙ b.no_place;
      no_next = e.0 1 ∙ b.no_next;
      no_prev = e.0 2 ∙ b.no_prev;
      no_entry = λ i k. e.1 i k ∙ b.no_entry i k;
    }

-- The other producers' words stay as they were.
abbrev pub OthersKept : ℕ → Reader → Reader → Type 0
OthersKept t σ σ' = (u : ℕ) → (t ≡ u → ⊥) → (k : ℕ) → row_of σ' u k ≡ row_of σ u k

pub others_kept : (z : Sizes) (t : ℕ) (σ : Reader) (ws : List Write) → All (InSort z t) ws → OthersKept t σ (after σ ws)
others_kept z t σ ws h u n k = others_untouched z t σ ws h (producer u k) n

-- What holds of every row holds after a call of thread t, if it holds of t's row then and goes on to hold of the others.
pub every_row : (t : ℕ) (σ σ' : Reader) → OthersKept t σ σ' → (Q : ℕ → (ℕ → ℕ) → Type 0)
    → Q t (row_of σ' t) → ((u : ℕ) → (t ≡ u → ⊥) → Q u (row_of σ u)) → (u : ℕ) → Q u (row_of σ' u)
every_row t σ σ' kept Q here others u = go (ℕ_discrete t u)
  where
    go : Dec (t ≡ u) → Q u (row_of σ' u)
    go (yes e) = subst (λ (x : ℕ). Q x (row_of σ' x)) e here
    go (no n) = subst⁻¹ (Q u) (fun_ext (kept u n)) (others u n)

-- A producer's words outside 1 to P stay zero.
pub outside_kept : (z : Sizes) (t : ℕ) (σ σ' : Reader) → (1 ≤ t) × (t ≤ z.P) → OthersKept t σ σ'
    → ((u k : ℕ) → ((1 ≤ u) × (u ≤ z.P) → ⊥) → σ (producer u k) ≡ 0)
    → (u k : ℕ) → ((1 ≤ u) × (u ≤ z.P) → ⊥) → σ' (producer u k) ≡ 0
outside_kept z t σ σ' a kept old u k n = kept u (λ e. n (rw e at a)) k ∙ old u k n

-- No two have claimed one record, where thread t's claim is none afterwards.
pub apart_kept : (t : ℕ) (σ σ' : Reader) → OthersKept t σ σ' → row_of σ' t 5 ≡ 0
    → ((u v x : ℕ) → row_of σ u 5 ≡ suc x → row_of σ v 5 ≡ suc x → u ≡ v)
    → (u v x : ℕ) → row_of σ' u 5 ≡ suc x → row_of σ' v 5 ≡ suc x → u ≡ v
apart_kept t σ σ' kept none old u v x e f = go (ℕ_discrete t u) (ℕ_discrete t v)
  where
    not_t : (w : ℕ) → t ≡ w → row_of σ' w 5 ≡ suc x → ⊥
    not_t w q h = let p : row_of σ' w 5 ≡ row_of σ' t 5 = ap (λ (y : ℕ). row_of σ' y 5) (sym q) in omega arith

    go : Dec (t ≡ u) → Dec (t ≡ v) → u ≡ v
    go (yes p) q = absurd (not_t u p e)
    go (no p) (yes q) = absurd (not_t v q f)
    go (no p) (no q) = old u v x (sym (kept u p 5) ∙ e) (sym (kept v q 5) ∙ f)
