-- Phases 4 and 10 on two stores alike: where a loose record is claimed in each, the renaming is changed to take the one to the other.
use Rattle.std.specs.Prelude.{◌≡◌, ◌⊎◌, ◌≢◌, Bool, true, false, ◌||◌, cond, [], ◌∷◌, eqb}
use Rattle.std.proofs.Math.Path.{refl}
use Rattle.std.proofs.Common.{ap, sym, ◌∙◌, subst, inl, inr, ⊎_elim, arith, eqb-true}
use Prim.Native.Nat.{ℕ, zero, suc, ◌<◌}
use Rattle.rules.specs.Sizes.{Sizes}
use Rattle.rules.specs.Cell.{Cell, content, last_claimed, all_handled, spare, consumer, producer, part, entry, drain, pair, Reader, ◌:=◌, clear_producer, wipe, place, next, prev, used, phase, held, claimed}
use Rattle.rules.specs.Update.{after}
use Rattle.rules.specs.Rule.{going, ended}
use Rattle.rules.specs.Producer.{claim, claim_record, claim_ahead}
use Rattle.memory.specs.Memory.{ChainShape, Memory}
use Rattle.memory.specs.Loose.{Loose, LooseChoice}
use Rattle.memory.specs.Claiming.{claim_writes}
use Rattle.renaming.specs.Renaming.{Renaming, to_apart, renamed, is_link, seen, exchanged, by_exchanged}
use Rattle.renaming.specs.Ways.{Reaches, back}
use Rattle.renaming.specs.Plain.{not_written, plain_writes}
use Rattle.renaming.specs.Alike.{NoRecord, kind, Same, Body, WayAlike, Alike}
use Rattle.renaming.specs.AlikeEffects.{Like, by_refusal, by_plain, by_records}
use Rattle.renaming.specs.AlikeRecords.{Twins, kind_two, tail_linked, head_linked, cursor_linked, found_linked, next_linked, way_not_loose}

kind_one : (x : ℕ) → kind x ≡ 1 → x ≡ 1
kind_one zero e = absurd (omega arith)
kind_one (suc zero) e = refl
kind_one (suc (suc zero)) e = absurd (omega arith)
kind_one (suc (suc (suc x))) e = absurd (omega arith)

-- a use but 1 and 2 is of the kind of 0
loose_kind : (x : ℕ) → (x ≡ 2 → ⊥) → (x ≡ 1 → ⊥) → kind x ≡ 0
loose_kind zero n m = refl
loose_kind (suc zero) n m = absurd (m refl)
loose_kind (suc (suc zero)) n m = absurd (n refl)
loose_kind (suc (suc (suc x))) n m = refl

-- one of two numbers, by its tests
either : (k a b : ℕ) → (eqb k a || eqb k b) ≡ true → (k ≡ a) ⊎ (k ≡ b)
either k a b e = go (eqb k a) refl e
  where
    go : (c : Bool) → eqb k a ≡ c → (c || eqb k b) ≡ true → (k ≡ a) ⊎ (k ≡ b)
    go true q h = inl (eqb-true k a q)
    go false q h = inr (eqb-true k b h)

-- A record that is not linked, not claimed, and that nobody holds or has claimed. (A loose one, but that somebody may keep it.)
record Unowned (σ : Reader) (r : ℕ) : Type 0 where
  not_linked : σ (used r) ≡ 2 → ⊥
  not_claimed : σ (used r) ≡ 1 → ⊥
  not_held : (u : ℕ) → σ (held u) ≡ suc r → ⊥
  nobodys_claim : (u : ℕ) → σ (claimed u) ≡ suc r → ⊥

loose_unowned : {σ : Reader} {r : ℕ} → Loose σ r → Unowned σ r
loose_unowned l = record { not_linked = l.not_linked; not_claimed = l.not_claimed; not_held = l.not_held; nobodys_claim = l.nobodys_claim }

-- No thread and no word of the contents names such a record, but for the record claimed last.
link_words : {z : Sizes} {σ : Reader} {g : ChainShape} → Memory z σ g → (c : Cell) → NoRecord c → is_link c ≡ true → (r : ℕ) → σ c ≡ suc r → Unowned σ r → ⊥
link_words {z} {σ} m (content k) n l r e unowned =
    ⊎_elim
    (λ q. unowned.not_linked (tail_linked m r (ap (λ (x : ℕ). σ (content x)) (sym q) ∙ e)))
    (λ q. unowned.not_linked (head_linked m r (ap (λ (x : ℕ). σ (content x)) (sym q) ∙ e)))
    (either k 7 8 l)
link_words m last_claimed n l r e unowned = absurd n
link_words m all_handled n l r e unowned = let z : ◌≡◌ {A = ℕ} 0 1 = cc in omega arith
link_words m (spare k) n l r e unowned = let z : ◌≡◌ {A = ℕ} 0 1 = cc in omega arith
link_words m (drain k) n l r e unowned = let z : ◌≡◌ {A = ℕ} 0 1 = cc in omega arith
link_words m (pair i k) n l r e unowned = let z : ◌≡◌ {A = ℕ} 0 1 = cc in omega arith
link_words {z} {σ} m (consumer k) n l r e unowned =
    ⊎_elim
    (λ q. unowned.not_linked (cursor_linked m r (ap (λ (x : ℕ). σ (consumer x)) (sym q) ∙ e)))
    (λ q. unowned.not_linked (found_linked m r (ap (λ (x : ℕ). σ (consumer x)) (sym q) ∙ e)))
    (either k 1 3 l)
link_words {z} {σ} m (producer t k) n l r e unowned =
    ⊎_elim
    (λ q. unowned.not_held t (ap (λ (x : ℕ). σ (producer t x)) (sym q) ∙ e))
    (λ q. unowned.nobodys_claim t (ap (λ (x : ℕ). σ (producer t x)) (sym q) ∙ e))
    (either k 4 5 l)
link_words m (part s k) n l r e unowned = absurd n
link_words m (entry s i k) n l r e unowned = absurd n

-- A record is found by both claims or by neither.
abbrev pub Together : (c d : ℕ) → Type 0
Together zero zero = Unit
Together zero (suc s) = ⊥
Together (suc r) zero = ⊥
Together (suc r) (suc s) = Unit

-- What two claims may take: a loose record each, or none both.
pub record BothChoose (z : Sizes) (σ τ : Reader) (c d : ℕ) : Type 0 where
  pub first : LooseChoice z σ c
  pub second : LooseChoice z τ d
  pub together : Together c d

module _ {z : Sizes} {σ τ : Reader} (pair : Twins z σ τ) where
  abbrev ρ : Renaming z.N
  ρ = pair.stores.renaming

  abbrev f : ℕ → ℕ
  f = ρ.to

  abbrev a : Alike f σ τ
  a = pair.stores.alike

  m : Memory z σ pair.γ.shape
  m = pair.good.memory

  -- A record is nobody's if its renamed one is.
  unowned_back : (r : ℕ) → Unowned τ (f r) → Unowned σ r
  unowned_back r l =
      record {
        not_linked = λ u. l.not_linked (kind_two (τ (used (f r))) (a.kinds r ∙ ap kind u));
        not_claimed = λ u. l.not_claimed (kind_one (τ (used (f r))) (a.kinds r ∙ ap kind u));
        not_held = λ t q. l.not_held t (a.words (held t) tt ∙ ap (renamed f) q);
        nobodys_claim = λ t q. l.nobodys_claim t (a.words (claimed t) tt ∙ ap (renamed f) q);
      }

  -- Of two loose records, one in each store, a renaming takes the one to the other, and every record that somebody can reach to the same
  -- as before.
  module _ (r s : ℕ) (r-fits : r < z.N) (s-fits : s < z.N) (r-loose : Loose σ r) (s-loose : Loose τ s) where
    ρ' : Renaming z.N
    ρ' = exchanged ρ (f r) s (ρ.to_below r r-fits) s-fits

    abbrev f' : ℕ → ℕ
    f' = ρ'.to

    by_renaming : (Q : ℕ → ℕ → Type 0) → Q (f r) s → Q s (f r) → ((y : ℕ) → y ≢ f r → y ≢ s → Q y y) → (x : ℕ) → Q (f x) (f' x)
    unfolding ρ'
    by_renaming = by_exchanged ρ (f r) s (ρ.to_below r r-fits) s-fits

    takes : f' r ≡ s
    takes = by_renaming (λ y w. y ≡ f r → w ≡ s) (λ e. refl) (λ e. sym e) (λ y n k e. absurd (n e)) r refl

    keeps_other : (x : ℕ) → (Loose σ x → ⊥) → (Loose τ (f x) → ⊥) → f' x ≡ f x
    keeps_other x n k =
        by_renaming (λ y w. y ≡ f x → w ≡ f x)
        (λ e. absurd (n (subst (Loose σ) (to_apart ρ e) r-loose)))
        (λ e. absurd (k (subst (Loose τ) e s-loose)))
        (λ y i j e. e)
        x
        refl

    keeps : (x : ℕ) → (Unowned σ x → ⊥) → f' x ≡ f x
    keeps x n = keeps_other x (λ l. n (loose_unowned l)) (λ l. n (unowned_back x (loose_unowned l)))

    -- also on ways back
    way_keeps : (t x : ℕ) → σ (phase t) ≡ 7 → σ (held t) ≡ suc x → {y : ℕ} → Reaches σ x y → f' y ≡ f y
    way_keeps t x e q {y} i = let n = way_not_loose pair t x e q i in keeps_other y n.0 n.1

    r_kind : kind (σ (used r)) ≡ 0
    r_kind = loose_kind (σ (used r)) r-loose.not_linked r-loose.not_claimed

    s_kind : kind (τ (used s)) ≡ 0
    s_kind = loose_kind (τ (used s)) s-loose.not_linked s-loose.not_claimed

    kinds_kept : (x : ℕ) → kind (τ (used (f' x))) ≡ kind (σ (used x))
    kinds_kept x =
        by_renaming (λ y w. y ≡ f x → kind (τ (used w)) ≡ kind (σ (used x)))
        (λ e. s_kind ∙ sym r_kind ∙ ap (λ (w : ℕ). kind (σ (used w))) (to_apart ρ e))
        (λ e. a.kinds r ∙ r_kind ∙ sym s_kind ∙ ap (λ (w : ℕ). kind (τ (used w))) e ∙ a.kinds x)
        (λ y n k e. ap (λ (w : ℕ). kind (τ (used w))) e ∙ a.kinds x)
        x
        refl

    renamed_kept : (x : ℕ) → ((y : ℕ) → x ≡ suc y → f' y ≡ f y) → renamed f x ≡ renamed f' x
    renamed_kept zero n = refl
    renamed_kept (suc y) n = ap suc (sym (n y refl))

    seen_kept : (c : Cell) → NoRecord c → seen f c (σ c) ≡ seen f' c (σ c)
    seen_kept c n = go (is_link c) refl
      where
        go : (b : Bool) → is_link c ≡ b → cond b (renamed f (σ c)) (σ c) ≡ cond b (renamed f' (σ c)) (σ c)
        go true e = renamed_kept (σ c) (λ y q. keeps y (link_words m c n e y q))
        go false e = refl

    words_kept : (c : Cell) → NoRecord c → Same f' σ τ c
    words_kept (content k) n = a.words (content k) n ∙ seen_kept (content k) n
    words_kept last_claimed n = absurd n
    words_kept all_handled n = a.words all_handled n
    words_kept (spare k) n = a.words (spare k) n
    words_kept (consumer k) n = a.words (consumer k) n ∙ seen_kept (consumer k) n
    words_kept (producer t k) n = a.words (producer t k) n ∙ seen_kept (producer t k) n
    words_kept (part x k) n = absurd n
    words_kept (entry x i k) n = absurd n
    words_kept (drain k) n = a.words (drain k) n
    words_kept (Cell.pair i k) n = a.words (Cell.pair i k) n

    body_kept : (x : ℕ) → σ (used x) ≡ 2 → Body f' σ τ x
    body_kept x u =
        let is : f' x ≡ f x = keeps x (λ l. l.not_linked u) in
        let b : Body f σ τ x = a.linked x u in
        record {
          placed = ap (λ (y : ℕ). τ (place y)) is ∙ b.placed;
          onward =
              ap (λ (y : ℕ). τ (next y)) is
              ∙ b.onward
              ∙ renamed_kept (σ (next x)) (λ y e. keeps y (λ l. l.not_linked (next_linked m x u y e).0));
          entries = λ i k. ap (λ (y : ℕ). τ (entry y i k)) is ∙ b.entries i k;
        }

    way_kept : (t x : ℕ) → σ (phase t) ≡ 7 → σ (held t) ≡ suc x → WayAlike f' σ τ x
    way_kept t x e q y i u =
        let b = a.ways t x e q y i u in
        let is : f' y ≡ f y = way_keeps t x e q i in (
          ap (λ (w : ℕ). τ (place w)) is ∙ b.0,
          ap (λ (w : ℕ). τ (prev w)) is ∙ b.1 ∙ renamed_kept (σ (prev y)) (λ w k. way_keeps t x e q (back i u k)),
        )

    alike_kept : Alike f' σ τ
    alike_kept =
        record {
          words = words_kept;
          kinds = kinds_kept;
          linked = body_kept;
          holding = λ t x e. ap (λ (y : ℕ). τ (place y)) (keeps x (λ l. l.not_held t e)) ∙ a.holding t x e;
          ways = way_kept;
        }

    claim_alike : (t p : ℕ) → eqb p 7 ≡ false → Like z σ τ (claim z σ t r p) (claim z τ t s p)
    claim_alike t p not_back =
        by_records (record { renaming = ρ'; alike = alike_kept }) going (claim_writes t r p) (claim_writes t s p) (rw takes refl)
        (plain_writes (after σ (wipe r ∷ used r := 1 ∷ [])) (last_claimed := suc r ∷ claimed t := suc r ∷ phase t := p ∷ []) (rw not_back refl))
        (λ v k. refl)
        (λ x u. inl (rw (not_written (eqb r x) 1 _ 2 (λ e. omega arith) u) at u))
        (λ v x y d q i u. let n = not_written (eqb r y) 1 _ 3 (λ e. omega arith) u in inl (rw n at u, rw n refl))

  -- 4. Claim a record, in both stores or in neither.
  pub claim_record_alike : (t c d : ℕ) → BothChoose z σ τ c d → Like z σ τ (claim_record z σ t c) (claim_record z τ t d)
  unfolding claim_record
  claim_record_alike t zero zero b = by_refusal 8
  claim_record_alike t zero (suc s) b = absurd b.together
  claim_record_alike t (suc r) zero b = absurd b.together
  claim_record_alike t (suc r) (suc s) b =
      claim_alike r s b.first.0 b.second.0 b.first.1 b.second.1 t 5 refl

  -- 10. If none is free, end; else claim.
  pub claim_ahead_alike : (t c d : ℕ) → BothChoose z σ τ c d → Like z σ τ (claim_ahead z σ t c) (claim_ahead z τ t d)
  unfolding claim_ahead
  claim_ahead_alike t zero zero b =
      by_plain pair.stores ended (clear_producer t ∷ []) _ refl refl
  claim_ahead_alike t zero (suc s) b = absurd b.together
  claim_ahead_alike t (suc r) zero b = absurd b.together
  claim_ahead_alike t (suc r) (suc s) b =
      claim_alike r s b.first.0 b.second.0 b.first.1 b.second.1 t 11 refl
