-- An opened store, whatever the words held before.
use Rattle.std.specs.Prelude.{◌≡◌, refl, Bool, true, false, cond, List, [], ◌++◌, ℕ, zero, suc, ◌≤◌, ◌<◌, eqb, length, get_or, replicate}
use Rattle.std.proofs.Math.Path.{ap, fun_ext}
use Rattle.std.proofs.Common.{sym, ◌∙◌, ⊎_elim, arith, length-append, eqb-true}
use Rattle.std.proofs.Math.ListN.{drop, get_or-append}
use Rattle.std.proofs.lemmas.List.{length-replicate, get_or-replicate}
use Rattle.history.specs.Lists.{All}
use Rattle.rules.specs.Sizes.{Sizes, sizes_in_range, most_place, store_words}
use Rattle.rules.specs.Cell.{Cell, content, last_claimed, all_handled, spare, consumer, producer, part, entry, drain, pair, Reader, reader, there, address, used}
use Rattle.rules.specs.Update.{after, true_false}
use Rattle.rules.specs.Range.{number, link, most, any, of_sort, content_sorts, last_claimed_sort, spare_sorts, part_sorts, entry_sorts}
use Rattle.rules.specs.Request.{open_writes, opened}
use Rattle.rules.specs.Address.{There, there_has, address_below}
use Rattle.rules.specs.Readback.{WriteThere, length_writes, reader_writes}
use Rattle.rules.specs.InRange.{sort_of, row_at_lem, InRange}
use Rattle.model.specs.State.{blank}
use Rattle.model.specs.Enqueues.{initial_keeps}
use Rattle.memory.specs.Memory.{Memory}
use Rattle.simulation.specs.View.{Ghost}
use Rattle.simulation.specs.Good.{Good}
use Rattle.simulation.specs.Limits.{Limits, limits}
use Rattle.simulation.specs.Rows.{OfSorts, of_sort_lem, of_sorts_lem}
use Rattle.simulation.specs.DrainWords.{drain_from, no_drain}
use Rattle.simulation.specs.Told.{none_pending}

-- every cell of a store of zeros is zero
zero_words : (z : Sizes) (m : List ℕ) → reader z (replicate (store_words z) 0 ++ drop (store_words z) m) ≡ (λ (c : Cell). 0)
unfolding reader
zero_words z m = fun_ext (λ c. go c (there z c) refl)
  where
    ws : List ℕ
    ws = replicate (store_words z) 0 ++ drop (store_words z) m

    go : (c : Cell) (b : Bool) → there z c ≡ b → cond b (get_or ws (address z c) 0) 0 ≡ 0
    go c true e =
        let b : address z c < store_words z = address_below z c (there_has z c e) in
        get_or-append (replicate (store_words z) 0) (drop (store_words z) m) 0 (address z c) (simp length-replicate b)
        ∙ get_or-replicate (store_words z) (address z c) 0 0 b
    go c false e = refl

-- an opened store is long enough
pub open_fits : (z : Sizes) (m : List ℕ) → store_words z ≤ length (opened z m)
unfolding opened
open_fits z m = simp (length_writes, length-append, length-replicate) (omega arith)

-- the store after *open*, cell by cell
abbrev pub open_reader : Sizes → Reader
open_reader z = after (λ c. 0) (open_writes z)

-- what stands beside it: record 0 alone is linked, no position is taken, nothing has happened
abbrev pub open_ghost : Ghost
open_ghost =
    record {
      shape = record { lo = 1; tp = 1; hi = 1; at = λ k. 0; gap = λ k. false };
      entry = λ p. blank;
      content = λ p. record { number = 0; value = 0 };
      history = [];
    }

module _ (z : Sizes) (sizes : sizes_in_range z ≡ true) where
  l : Limits z
  l = limits z sizes

  open_there : All (WriteThere z) (open_writes z)
  open_there =
      let a : 0 < z.N = omega (arith, l.two_records) in
      (omega arith, (omega arith, (omega arith, (omega arith, (omega arith, (omega arith, (omega arith, (omega arith, (tt, ((a, omega arith), ((a, omega arith), tt)))))))))))

  -- the words of an opened store
  pub open_reads : (m : List ℕ) → reader z (opened z m) ≡ open_reader z
  unfolding opened
  open_reads m =
      reader_writes z (replicate (store_words z) 0 ++ drop (store_words z) m) (open_writes z)
      (simp (length-append, length-replicate) (omega arith)) open_there
      ∙ ap (λ (σ : Reader). after σ (open_writes z)) (zero_words z m)

  -- record 0 is linked, of place 1; the others are free
  first_part : (r k : ℕ) → of_sort z (get_or part_sorts k any) (open_reader z (part r k)) ≡ true
  first_part r zero = go (eqb 0 r)
    where
      go : (b : Bool) → of_sort z (most most_place) (cond b 1 0) ≡ true
      go true = refl
      go false = refl
  first_part r (suc zero) = of_sort_lem z link 0 (omega arith)
  first_part r (suc (suc zero)) = of_sort_lem z link 0 (omega arith)
  first_part r (suc (suc (suc zero))) = go (eqb 0 r)
    where
      go : (b : Bool) → of_sort z (most 3) (cond b 2 0) ≡ true
      go true = refl
      go false = refl
  first_part r (suc (suc (suc (suc k)))) = refl

  no_entry : (k : ℕ) → of_sort z (get_or entry_sorts k any) 0 ≡ true
  no_entry zero = refl
  no_entry (suc zero) = of_sort_lem z number 0 (omega arith)
  no_entry (suc (suc zero)) = refl
  no_entry (suc (suc (suc k))) = refl

  no_spare : (k : ℕ) → of_sort z (get_or spare_sorts k any) 0 ≡ true
  no_spare zero = refl
  no_spare (suc zero) = refl
  no_spare (suc (suc zero)) = refl
  no_spare (suc (suc (suc k))) = refl

  open_range : InRange z (open_reader z)
  open_range = record { words = words; consuming = refl; producing = λ t a b. refl; draining = drain_from z (open_reader z) (no_drain z (open_reader z) refl refl (λ i k. refl)); scanning = refl }
    where
      contents : OfSorts z (λ j. open_reader z (content j)) 0 (content_sorts z)
      contents =
          let one : (1 ≤ 1) × (1 ≤ z.N) = (omega arith, omega (arith, l.two_records)) in
          let none : 0 ≤ z.M = omega arith in (
            refl,
            (
              refl,
              (
                refl,
                (refl, (refl, (refl, (none, (one, (one, (none, (none, tt)))))))),
              ),
            ),
          )

      words : (c : Cell) → There z c → of_sort z (sort_of z c) (open_reader z c) ≡ true
      words (content k) h =
          row_at_lem z (λ j. open_reader z (content j)) (content_sorts z) (of_sorts_lem z (λ j. open_reader z (content j)) 0 (content_sorts z) contents) k h
      words last_claimed h = of_sort_lem z last_claimed_sort 1 (omega arith, omega (arith, l.two_records))
      words all_handled h = refl
      words (spare k) h = no_spare k
      words (consumer k) h = refl
      words (producer t k) h = refl
      words (part r k) h = first_part r k
      words (entry r i k) h = no_entry k
      words (drain k) h = refl
      words (pair i k) h = refl

  -- use 2 is record 0's alone
  only_first : (x : ℕ) → open_reader z (used x) ≡ 2 → x ≡ 0
  only_first x = go (eqb 0 x) refl
    where
      go : (b : Bool) → eqb 0 x ≡ b → ◌≡◌ {A = ℕ} (cond b 2 0) 2 → x ≡ 0
      go true e q = sym (eqb-true 0 x e)
      go false e q = absurd (omega arith)

  -- and use 3 is no record's
  none_retired : (x : ℕ) → open_reader z (used x) ≡ 3 → ⊥
  none_retired x = go (eqb 0 x)
    where
      go : (b : Bool) → ◌≡◌ {A = ℕ} (cond b 2 0) 3 → ⊥
      go true q = omega arith
      go false q = omega arith

  open_memory : Memory z (open_reader z) open_ghost.shape
  open_memory =
      record {
        head_tail = omega arith;
        tail_last = omega arith;
        head_in = refl;
        tail_in = λ k a. refl;
        chain =
            record {
              fits = λ k a. omega (arith, l.two_records);
              linked = λ k a. refl;
              placed = λ k a. omega (arith, a.from, a.to);
              nexts = λ j k q. absurd (omega (arith, q.rises, q.left.from, q.right.to));
              last = refl;
              prevs = λ j k q. absurd (omega (arith, q.rises, q.left.from, q.right.to));
              only = λ x u. let e = only_first x u in rw e (record { from = omega arith; to = omega arith; no_gap = refl }, refl);
            };
        retired = λ x u. absurd (none_retired x u);
        tail_is = refl;
        head_is = refl;
        threads = λ t. record { holding = tt; claiming = tt; has_held = λ h. absurd (omega arith); has_claimed = λ h. absurd (⊎_elim (λ e. omega arith) (λ e. omega arith) h); trail = λ e. tt };
        apart = λ t u r a b. absurd (omega arith);
        cursor = tt;
        found = tt;
        unset = λ r i a b n e. omega arith;
        outside = λ t k n. refl;
      }

  pub open_good : Good z (open_reader z) open_ghost
  open_good =
      record {
        sizes = sizes;
        range = open_range;
        memory = open_memory;
        agrees = record { states = λ k i a s. refl; numbers = λ k i a s. refl; values = λ k i a s. refl; folded = λ k i g s. absurd (true_false g refl); fresh = λ p h. refl };
        model = initial_keeps z.B;
        formed = refl;
        pending = none_pending (open_reader z) [] (omega arith) refl refl;
        read = λ e. absurd (omega arith);
      }
