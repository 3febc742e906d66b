-- Records under other numbers: a renaming of the records of a store, what it makes of cells and writes, and the renaming that
-- differs from it by an exchange of two records.
use Rattle.std.specs.Prelude.{◌≡◌, refl, ◌≢◌, Bool, true, false, ◌||◌, cond, List, [], ◌∷◌, ℕ, zero, suc, ◌<◌, eqb}
use Rattle.std.proofs.Common.{ap, sym, ◌∙◌, arith, eq-eqb, ne_eqb}
use Rattle.std.proofs.Math.Decide.{ℕ_discrete}
use Rattle.rules.specs.Cell.{Cell, content, last_claimed, all_handled, spare, consumer, producer, part, entry, drain, pair, Area, contents, of_scan, spares, of_consumer, of_producer, of_record, of_drain, Write, ◌:=◌, clear}

-- One number for each record, another for each, and the way back.
pub record Renaming (N : ℕ) : Type 0 where
  pub to : ℕ → ℕ
  pub from : ℕ → ℕ
  pub to_from : (r : ℕ) → to (from r) ≡ r
  pub from_to : (r : ℕ) → from (to r) ≡ r
  pub to_below : (r : ℕ) → r < N → to r < N
  pub from_below : (r : ℕ) → r < N → from r < N

abbrev pub unchanged : (N : ℕ) → Renaming N
unchanged N =
    record { to = λ r. r; from = λ r. r; to_from = λ r. refl; from_to = λ r. refl; to_below = λ r l. l; from_below = λ r l. l }

pub to_apart : {N : ℕ} (ρ : Renaming N) {a b : ℕ} → ρ.to a ≡ ρ.to b → a ≡ b
to_apart ρ {a} {b} e = sym (ρ.from_to a) ∙ ap ρ.from e ∙ ρ.from_to b

-- two tests of equality that come out alike
pub eqb_alike : (a b c d : ℕ) → (a ≡ b → c ≡ d) → (c ≡ d → a ≡ b) → eqb a b ≡ eqb c d
eqb_alike a b c d f g = go (ℕ_discrete a b)
  where
    go : Dec (a ≡ b) → eqb a b ≡ eqb c d
    go (yes e) = eq-eqb a b e ∙ sym (eq-eqb c d (f e))
    go (no n) = ne_eqb a b n ∙ sym (ne_eqb c d (λ e. n (g e)))

-- A record number that is stored plus one, zero for none.
abbrev pub renamed : (ℕ → ℕ) → ℕ → ℕ
renamed f zero = 0
renamed f (suc r) = suc (f r)

pub renamed_is : {N : ℕ} (ρ : Renaming N) (x r : ℕ) → renamed ρ.to x ≡ suc (ρ.to r) → x ≡ suc r
renamed_is ρ zero r e = absurd (omega arith)
renamed_is ρ (suc s) r e = ap suc (to_apart ρ (omega arith))

pub eqb_renamed : {N : ℕ} (ρ : Renaming N) (x r : ℕ) → eqb (renamed ρ.to x) (suc (ρ.to r)) ≡ eqb x (suc r)
eqb_renamed ρ x r = eqb_alike (renamed ρ.to x) (suc (ρ.to r)) x (suc r) (renamed_is ρ x r) (λ e. rw e refl)

-- The cells that hold record numbers: tail and head record; the record claimed last; cursor and found record; held and claimed record;
-- next and prev.
abbrev pub is_link : Cell → Bool
is_link (content k) = eqb k 7 || eqb k 8
is_link last_claimed = true
is_link all_handled = false
is_link (spare k) = false
is_link (consumer k) = eqb k 1 || eqb k 3
is_link (producer t k) = eqb k 4 || eqb k 5
is_link (part r k) = eqb k 1 || eqb k 2
is_link (entry r i k) = false
is_link (drain k) = false
is_link (pair i k) = false

-- what cell c holds, with records renamed
abbrev pub seen : (ℕ → ℕ) → Cell → ℕ → ℕ
seen f c x = cond (is_link c) (renamed f x) x

abbrev pub cell_to : (ℕ → ℕ) → Cell → Cell
cell_to f (content k) = content k
cell_to f last_claimed = last_claimed
cell_to f all_handled = all_handled
cell_to f (spare k) = spare k
cell_to f (consumer k) = consumer k
cell_to f (producer t k) = producer t k
cell_to f (part r k) = part (f r) k
cell_to f (entry r i k) = entry (f r) i k
cell_to f (drain k) = drain k
cell_to f (pair i k) = pair i k

abbrev pub area_to : (ℕ → ℕ) → Area → Area
area_to f contents = contents
area_to f of_scan = of_scan
area_to f spares = spares
area_to f of_consumer = of_consumer
area_to f (of_producer t) = of_producer t
area_to f (of_record r) = of_record (f r)
area_to f of_drain = of_drain

abbrev pub write_to : (ℕ → ℕ) → Write → Write
write_to f (c := v) = cell_to f c := seen f c v
write_to f (clear a) = clear (area_to f a)

abbrev pub writes_to : (ℕ → ℕ) → List Write → List Write
writes_to f [] = []
writes_to f (w ∷ ws) = write_to f w ∷ writes_to f ws

-- x, but a and b exchanged
abbrev swap : (a b x : ℕ) → ℕ
swap a b x = cond (eqb a x) b (cond (eqb b x) a x)

module _ (a b : ℕ) where
  swap_first : swap a b a ≡ b
  swap_first = rw (eq-eqb a a refl) refl

  swap_second : swap a b b ≡ a
  swap_second = go (ℕ_discrete a b)
    where
      go : Dec (a ≡ b) → swap a b b ≡ a
      go (yes e) = rw (eq-eqb a b e) (sym e)
      go (no n) = rw (ne_eqb a b n, eq-eqb b b refl) refl

  swap_other : (x : ℕ) → x ≢ a → x ≢ b → swap a b x ≡ x
  swap_other x n k = rw (ne_eqb a x (λ e. n (sym e)), ne_eqb b x (λ e. k (sym e))) refl

  -- to show something of x and what becomes of it, show it at a, at b, and elsewhere
  by_swap : (Q : ℕ → ℕ → Type 0) → Q a b → Q b a → ((x : ℕ) → x ≢ a → x ≢ b → Q x x) → (x : ℕ) → Q x (swap a b x)
  by_swap Q first second other x = go (ℕ_discrete x a) (ℕ_discrete x b)
    where
      go : Dec (x ≡ a) → Dec (x ≡ b) → Q x (swap a b x)
      go (yes e) d = rw (e, swap_first) first
      go (no n) (yes e) = rw (e, swap_second) second
      go (no n) (no k) = rw (swap_other x n k) (other x n k)

  swap_twice : (x : ℕ) → swap a b (swap a b x) ≡ x
  swap_twice = by_swap (λ x y. swap a b y ≡ x) swap_second swap_first swap_other

  swap_below : (N : ℕ) → a < N → b < N → (x : ℕ) → x < N → swap a b x < N
  swap_below N la lb = by_swap (λ x y. x < N → y < N) (λ l. lb) (λ l. la) (λ x n k l. l)

-- A renaming with two of its numbers exchanged.
module _ {N : ℕ} (ρ : Renaming N) (a b : ℕ) (la : a < N) (lb : b < N) where
  pub exchanged : Renaming N
  exchanged =
      record {
        to = λ r. swap a b (ρ.to r);
        from = λ r. ρ.from (swap a b r);
        to_from = λ r. ap (swap a b) (ρ.to_from (swap a b r)) ∙ swap_twice a b r;
        from_to = λ r. ap ρ.from (swap_twice a b (ρ.to r)) ∙ ρ.from_to r;
        to_below = λ r l. swap_below a b N la lb (ρ.to r) (ρ.to_below r l);
        from_below = λ r l. ρ.from_below (swap a b r) (swap_below a b N la lb r l);
      }

  -- to show something of a record's number before and after, show it at a, at b, and elsewhere
  pub by_exchanged : (Q : ℕ → ℕ → Type 0) → Q a b → Q b a → ((x : ℕ) → x ≢ a → x ≢ b → Q x x) → (r : ℕ) → Q (ρ.to r) (exchanged.to r)
  unfolding exchanged
  by_exchanged Q first second other r = by_swap a b Q first second other (ρ.to r)
