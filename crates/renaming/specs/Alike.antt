-- Two stores that differ only in which records are used: what is the same in both under a renaming of the records. Renamed
-- writes keep it, where they link, hold and retire only what is the same.
use Rattle.std.specs.Prelude.{◌≡◌, refl, ◌⊎◌, Bool, true, false, cond, List, [], ◌∷◌, ℕ, zero, suc}
use Rattle.std.proofs.Common.{ap, sym, ◌∙◌, ⊎_elim}
use Rattle.rules.specs.Cell.{Cell, content, last_claimed, all_handled, spare, consumer, producer, part, entry, drain, pair, Reader, Area, contents, of_scan, spares, of_consumer, of_producer, of_record, of_drain, Write, ◌:=◌, clear, place, next, prev, used, phase, held}
use Rattle.rules.specs.Update.{area_of, same_area, same, update, after, same_eq, same_cell, same_area_lem, same_area_eq}
use Rattle.renaming.specs.Renaming.{Renaming, renamed, is_link, seen, cell_to, area_to, write_to, writes_to}
use Rattle.renaming.specs.Ways.{Reaches}

-- Every cell but a record's and the one that holds the record claimed last: which it is says nothing of what can be reached.
abbrev pub NoRecord : Cell → Type 0
NoRecord (content k) = Unit
NoRecord last_claimed = ⊥
NoRecord all_handled = Unit
NoRecord (spare k) = Unit
NoRecord (consumer k) = Unit
NoRecord (producer u k) = Unit
NoRecord (part r k) = ⊥
NoRecord (entry r i k) = ⊥
NoRecord (drain k) = Unit
NoRecord (pair i k) = Unit

-- A use, where 0 and 3 are not told apart: which of them a record is of that nobody holds depends on what was claimed before.
abbrev pub kind : ℕ → ℕ
kind zero = 0
kind (suc zero) = 1
kind (suc (suc zero)) = 2
kind (suc (suc (suc n))) = 0

-- A cell holds the same, with records renamed.
abbrev pub Same : (ℕ → ℕ) → Reader → Reader → Cell → Type 0
Same f σ τ c = τ (cell_to f c) ≡ seen f c (σ c)

-- A record has the same place, next and entries.
pub record Body (f : ℕ → ℕ) (σ τ : Reader) (r : ℕ) : Type 0 where
  pub placed : Same f σ τ (place r)
  pub onward : Same f σ τ (next r)
  pub entries : (i k : ℕ) → Same f σ τ (entry r i k)

-- A record has the same place and prev.
abbrev pub SameBack : (ℕ → ℕ) → Reader → Reader → ℕ → Type 0
SameBack f σ τ y = Same f σ τ (place y) × Same f σ τ (prev y)

-- The way back from record x is the same: every retired record that it reaches is so.
abbrev pub WayAlike : (ℕ → ℕ) → Reader → Reader → ℕ → Type 0
WayAlike f σ τ x = (y : ℕ) → Reaches σ x y → σ (used y) ≡ 3 → SameBack f σ τ y

pub record Alike (f : ℕ → ℕ) (σ τ : Reader) : Type 0 where
  pub words : (c : Cell) → NoRecord c → Same f σ τ c
  pub kinds : (r : ℕ) → kind (τ (used (f r))) ≡ kind (σ (used r))
  pub linked : (r : ℕ) → σ (used r) ≡ 2 → Body f σ τ r
  pub holding : (t r : ℕ) → σ (held t) ≡ suc r → Same f σ τ (place r)
  -- a producer in phase 7 goes back by the same records
  pub ways : (t x : ℕ) → σ (phase t) ≡ 7 → σ (held t) ≡ suc x → WayAlike f σ τ x

-- What is linked, held, or on a way back, after some writes was so before, or is the same.
abbrev pub LinksSame : (ℕ → ℕ) → Reader → Reader → List Write → Type 0
LinksSame f σ τ ws = (r : ℕ) → after σ ws (used r) ≡ 2 → (σ (used r) ≡ 2) ⊎ Body f σ τ r

abbrev pub HoldsSame : (ℕ → ℕ) → Reader → Reader → List Write → Type 0
HoldsSame f σ τ ws = (t r : ℕ) → after σ ws (held t) ≡ suc r → (σ (held t) ≡ suc r) ⊎ Same f σ τ (place r)

abbrev pub WaysSame : (ℕ → ℕ) → Reader → Reader → List Write → Type 0
WaysSame f σ τ ws =
    (t x : ℕ) → after σ ws (phase t) ≡ 7 → after σ ws (held t) ≡ suc x
    → (y : ℕ) → Reaches (after σ ws) x y → after σ ws (used y) ≡ 3 → SameBack f σ τ y

-- A store is like itself.
pub alike_itself : (σ : Reader) → Alike (λ r. r) σ σ
alike_itself σ =
    record {
      words = λ c n. same_word c n;
      kinds = λ r. refl;
      linked = λ r u. record { placed = refl; onward = sym (same-link (σ (next r))); entries = λ i k. refl };
      holding = λ t r e. refl;
      ways = λ t x e q y r u. (refl, sym (same-link (σ (prev y))));
    }
  where
    same-link : (x : ℕ) → renamed (λ r. r) x ≡ x
    same-link zero = refl
    same-link (suc r) = refl

    same_seen : (b : Bool) (x : ℕ) → x ≡ cond b (renamed (λ r. r) x) x
    same_seen true x = sym (same-link x)
    same_seen false x = refl

    same_word : (c : Cell) → NoRecord c → Same (λ r. r) σ σ c
    same_word (content k) n = same_seen (is_link (content k)) (σ (content k))
    same_word last_claimed n = absurd n
    same_word all_handled n = refl
    same_word (spare k) n = same_seen (is_link (spare k)) (σ (spare k))
    same_word (consumer k) n = same_seen (is_link (consumer k)) (σ (consumer k))
    same_word (producer t k) n = same_seen (is_link (producer t k)) (σ (producer t k))
    same_word (part r k) n = absurd n
    same_word (entry r i k) n = absurd n
    same_word (drain k) n = refl
    same_word (pair i k) n = refl

module _ {N : ℕ} (ρ : Renaming N) where
  abbrev f : ℕ → ℕ
  f = ρ.to

  -- a cell and an area are renamed back
  cell_back : (c : Cell) → cell_to ρ.from (cell_to f c) ≡ c
  cell_back (content k) = refl
  cell_back last_claimed = refl
  cell_back all_handled = refl
  cell_back (spare k) = refl
  cell_back (consumer k) = refl
  cell_back (producer t k) = refl
  cell_back (part r k) = ap (λ (x : ℕ). part x k) (ρ.from_to r)
  cell_back (entry r i k) = ap (λ (x : ℕ). entry x i k) (ρ.from_to r)
  cell_back (drain k) = refl
  cell_back (pair i k) = refl

  area_back : (a : Area) → area_to ρ.from (area_to f a) ≡ a
  area_back contents = refl
  area_back of_scan = refl
  area_back spares = refl
  area_back of_consumer = refl
  area_back (of_producer t) = refl
  area_back (of_record r) = ap of_record (ρ.from_to r)
  area_back of_drain = refl

  area_to_lem : (d : Cell) → area_of (cell_to f d) ≡ area_to f (area_of d)
  area_to_lem (content k) = refl
  area_to_lem last_claimed = refl
  area_to_lem all_handled = refl
  area_to_lem (spare k) = refl
  area_to_lem (consumer k) = refl
  area_to_lem (producer t k) = refl
  area_to_lem (part r k) = refl
  area_to_lem (entry r i k) = refl
  area_to_lem (drain k) = refl
  area_to_lem (pair i k) = refl

  -- two tests that come out alike
  tests_alike : (a b : Bool) → (a ≡ true → b ≡ true) → (b ≡ true → a ≡ true) → a ≡ b
  tests_alike true b f g = sym (f refl)
  tests_alike false true f g = g refl
  tests_alike false false f g = refl

  same_to : (c d : Cell) → same (cell_to f c) (cell_to f d) ≡ same c d
  same_to c d =
      tests_alike (same (cell_to f c) (cell_to f d)) (same c d)
      (λ e.
      let q : c ≡ d = sym (cell_back c) ∙ ap (cell_to ρ.from) (same_eq (cell_to f c) (cell_to f d) e) ∙ cell_back d in
      rw q (same_cell d))
      (λ e. rw (same_eq c d e) (same_cell (cell_to f d)))

  touched_to : (a : Area) (d : Cell) → same_area (area_to f a) (area_of (cell_to f d)) ≡ same_area a (area_of d)
  touched_to a d =
      rw (area_to_lem d)
      (tests_alike (same_area (area_to f a) (area_to f (area_of d))) (same_area a (area_of d))
      (λ e.
      let q : a ≡ area_of d = sym (area_back a) ∙ ap (area_to ρ.from) (same_area_eq (area_to f a) (area_to f (area_of d)) e) ∙ area_back (area_of d) in
      rw q (same_area_lem (area_of d)))
      (λ e. rw (same_area_eq a (area_of d) e) (same_area_lem (area_to f (area_of d)))))

  seen_zero : (d : Cell) → 0 ≡ seen f d 0
  seen_zero d = go (is_link d)
    where
      go : (b : Bool) → 0 ≡ cond b (renamed f 0) 0
      go true = refl
      go false = refl

  -- What a write and its renamed one do to a cell: both put the same there, or both leave it.
  record Put (σ τ σ' τ' : Reader) (d : Cell) : Type 0 where
    hit : Bool
    what : ℕ
    left : σ' d ≡ cond hit what (σ d)
    right : τ' (cell_to f d) ≡ cond hit (seen f d what) (τ (cell_to f d))

  puts : (σ τ : Reader) (w : Write) (d : Cell) → Put σ τ (update σ w) (update τ (write_to f w)) d
  puts σ τ (c := v) d = record { hit = same c d; what = v; left = refl; right = rw (same_to c d) (go (same c d) refl) }
    where
      go : (b : Bool) → same c d ≡ b → cond b (seen f c v) (τ (cell_to f d)) ≡ cond b (seen f d v) (τ (cell_to f d))
      go true e = ap (λ (x : Cell). seen f x v) (same_eq c d e)
      go false e = refl
  puts σ τ (clear a) d =
      record { hit = same_area a (area_of d); what = 0; left = refl; right = rw (touched_to a d, ← seen_zero d) refl }

  same_after : (σ τ : Reader) (ws : List Write) (d : Cell) → Same f σ τ d → Same f (after σ ws) (after τ (writes_to f ws)) d
  same_after σ τ [] d e = e
  same_after σ τ (w ∷ ws) d e = same_after (update σ w) (update τ (write_to f w)) ws d (go p.hit p.left p.right)
    where
      p : Put σ τ (update σ w) (update τ (write_to f w)) d
      p = puts σ τ w d

      go : (b : Bool) → update σ w d ≡ cond b p.what (σ d) → update τ (write_to f w) (cell_to f d) ≡ cond b (seen f d p.what) (τ (cell_to f d))
          → Same f (update σ w) (update τ (write_to f w)) d
      go true l r = r ∙ ap (seen f d) (sym l)
      go false l r = r ∙ e ∙ ap (seen f d) (sym l)

  kind_after : (σ τ : Reader) (ws : List Write) (r : ℕ) → kind (τ (used (f r))) ≡ kind (σ (used r))
      → kind (after τ (writes_to f ws) (used (f r))) ≡ kind (after σ ws (used r))
  kind_after σ τ [] r e = e
  kind_after σ τ (w ∷ ws) r e = kind_after (update σ w) (update τ (write_to f w)) ws r (go p.hit p.left p.right)
    where
      p : Put σ τ (update σ w) (update τ (write_to f w)) (used r)
      p = puts σ τ w (used r)

      go : (b : Bool) → update σ w (used r) ≡ cond b p.what (σ (used r)) → update τ (write_to f w) (used (f r)) ≡ cond b p.what (τ (used (f r)))
          → kind (update τ (write_to f w) (used (f r))) ≡ kind (update σ w (used r))
      go true l q = ap kind (q ∙ sym l)
      go false l q = ap kind q ∙ e ∙ ap kind (sym l)

  -- Renamed writes, where what is linked, held or on a way back afterwards was so before or is the same.
  pub alike_after : (σ τ : Reader) → Alike f σ τ → (ws : List Write) → LinksSame f σ τ ws → HoldsSame f σ τ ws → WaysSame f σ τ ws
      → Alike f (after σ ws) (after τ (writes_to f ws))
  alike_after σ τ a ws links holds ways =
      record {
        words = λ c n. same_after σ τ ws c (a.words c n);
        kinds = λ r. kind_after σ τ ws r (a.kinds r);
        linked = λ r u. ⊎_elim (λ l. body r (a.linked r l)) (body r) (links r u);
        holding = λ t r e. same_after σ τ ws (place r) (⊎_elim (a.holding t r) (λ s. s) (holds t r e));
        ways =
            λ t x e q y r u.
            let b = ways t x e q y r u in
            (same_after σ τ ws (place y) b.0, same_after σ τ ws (prev y) b.1);
      }
    where
      body : (r : ℕ) → Body f σ τ r → Body f (after σ ws) (after τ (writes_to f ws)) r
      body r b =
          record {
            placed = same_after σ τ ws (place r) b.placed;
            onward = same_after σ τ ws (next r) b.onward;
            entries = λ i k. same_after σ τ ws (entry r i k) (b.entries i k);
          }
