-- The number that admission answers decides whether a call goes on (Request's `admitted`), and on what words.
use Rattle.std.specs.Prelude.{◌≡◌, Bool, true, false, ◌&&◌, not, cond, List, ℕ, ◌≤◌, ◌<◌, leb, length, replicate}
use Rattle.std.proofs.Math.Path.{refl, subst}
use Rattle.std.proofs.Common.{le_refl, arith, leb-true, ltb-false, lt-ltb, le-ltb}
use Rattle.std.proofs.Math.Dec.{ltb}
use Rattle.std.proofs.lemmas.List.{length-replicate}
use Rattle.history.specs.Event.{most_producers}
use Rattle.rules.specs.Sizes.{Sizes, between, sizes_in_range, store_words, content_words, most_entries, most_records, most_starts}
use Rattle.rules.specs.Cell.{Reader, reader}
use Rattle.rules.specs.Range.{in_range}
use Rattle.rules.specs.Rule.{Effect, refuse}
use Rattle.rules.specs.Request.{sizes_of, admitted}
use Rattle.rules.specs.Update.{both}
use Rattle.rules.specs.InRange.{range_has}
use Rattle.store.specs.Store.{Room, Admitted}
use Rattle.admission.specs.Refusal.{refusal}

-- sizes in their limits, and words enough
pub room_of : (z : Sizes) (m : List ℕ) → sizes_in_range z ≡ true → store_words z ≤ length m → Room z m
room_of z m e f =
    let p = both (between 2 most_entries z.B && between 2 most_records z.N && between 1 most_producers z.P) (between 1 most_starts z.M) e in
    let q = both (between 2 most_entries z.B && between 2 most_records z.N) (between 1 most_producers z.P) p.0 in
    let r = both (between 2 most_entries z.B) (between 2 most_records z.N) q.0 in
    let B = both (leb 2 z.B) (leb z.B most_entries) r.0 in
    let N = both (leb 2 z.N) (leb z.N most_records) r.1 in
    let P = both (leb 1 z.P) (leb z.P most_producers) q.1 in
    let M = both (leb 1 z.M) (leb z.M most_starts) p.1 in
    record {
      entries_least = leb-true 2 z.B B.0;
      entries_most = leb-true z.B most_entries B.1;
      records_least = leb-true 2 z.N N.0;
      records_most = leb-true z.N most_records N.1;
      producers_least = leb-true 1 z.P P.0;
      producers_most = leb-true z.P most_producers P.1;
      starts_least = leb-true 1 z.M M.0;
      starts_most = leb-true z.M most_starts M.1;
      fits = f;
    }

-- the largest sizes
pub sizes_most : (z : Sizes) → sizes_in_range z ≡ true → (z.B ≤ most_entries) × (z.N ≤ most_records) × (z.P ≤ most_producers)
sizes_most z e =
    let r = room_of z (replicate (store_words z) 0) e (rw length-replicate (le_refl (store_words z))) in
    (r.entries_most, r.records_most, r.producers_most)

-- the number by the tests that led to it, in their order
module _ (m : List ℕ) where
  pub refuse_length : length m < content_words → refusal m ≡ 2
  unfolding refusal
  refuse_length h = rw (lt-ltb (length m) content_words h) refl

  module _ (z : Sizes) (e : z ≡ sizes_of m) (l : content_words ≤ length m) where
    pub refuse_sizes : sizes_in_range z ≡ false → refusal m ≡ 3
    unfolding refusal
    refuse_sizes s = rw (le-ltb (length m) content_words l, subst (λ (y : Sizes). sizes_in_range y ≡ false) e s) refl

    pub refuse_short : sizes_in_range z ≡ true → length m < store_words z → refusal m ≡ 2
    unfolding refusal
    refuse_short s h =
        rw (le-ltb (length m) content_words l, subst (λ (y : Sizes). sizes_in_range y ≡ true) e s, subst (λ (y : Sizes). ltb (length m) (store_words y) ≡ true) e (lt-ltb (length m) (store_words z) h)) refl

    pub by_range : sizes_in_range z ≡ true → store_words z ≤ length m → (b : Bool) → in_range z (reader z m) ≡ b → refusal m ≡ cond (not b) 3 0
    unfolding refusal
    by_range s h b r =
        rw (le-ltb (length m) content_words l, subst (λ (y : Sizes). sizes_in_range y ≡ true) e s, subst (λ (y : Sizes). ltb (length m) (store_words y) ≡ false) e (le-ltb (length m) (store_words z) h), subst (λ (y : Sizes). in_range y (reader y m) ≡ b) e r) refl

-- a call on words that are refused, whatever it is
pub refused_by : (m : List ℕ) (f : Sizes → Reader → Effect) (n : ℕ) → refusal m ≡ n → (n ≡ 0 → ⊥) → admitted m f ≡ refuse n
unfolding refusal admitted
refused_by m f n e h =
    go (ltb (length m) content_words) (sizes_in_range (sizes_of m)) (ltb (length m) (store_words (sizes_of m))) (in_range (sizes_of m) (reader (sizes_of m) m)) e
  where
    go : (a b c d : Bool) → cond a 2 (cond (not b) 3 (cond c 2 (cond (not d) 3 0))) ≡ n
        → cond a (refuse 2) (cond (not b) (refuse 3) (cond c (refuse 2) (cond (not d) (refuse 3) (f (sizes_of m) (reader (sizes_of m) m))))) ≡ refuse n
    go true b c d e = cc
    go false false c d e = cc
    go false true true d e = cc
    go false true false false e = cc
    go false true false true e = absurd (h (omega arith))

-- words that are admitted, and a call on them
pub admitted_by : (m : List ℕ) → refusal m ≡ 0 → Admitted (sizes_of m) m
unfolding refusal
admitted_by m e =
    go (ltb (length m) content_words) (sizes_in_range (sizes_of m)) (ltb (length m) (store_words (sizes_of m))) (in_range (sizes_of m) (reader (sizes_of m) m)) refl refl refl e
  where
    go : (a b c d : Bool) → sizes_in_range (sizes_of m) ≡ b → ltb (length m) (store_words (sizes_of m)) ≡ c → in_range (sizes_of m) (reader (sizes_of m) m) ≡ d
        → ◌≡◌ {A = ℕ} (cond a 2 (cond (not b) 3 (cond c 2 (cond (not d) 3 0)))) 0 → Admitted (sizes_of m) m
    go true b c d p q r e = absurd (omega arith)
    go false false c d p q r e = absurd (omega arith)
    go false true true d p q r e = absurd (omega arith)
    go false true false false p q r e = absurd (omega arith)
    go false true false true p q r e =
        record {
          room = room_of (sizes_of m) m p (ltb-false (length m) (store_words (sizes_of m)) q);
          ranges = range_has (sizes_of m) (reader (sizes_of m) m) r;
        }

pub goes_on_lem : (m : List ℕ) (f : Sizes → Reader → Effect) → refusal m ≡ 0 → admitted m f ≡ f (sizes_of m) (reader (sizes_of m) m)
unfolding refusal admitted
goes_on_lem m f e =
    go (ltb (length m) content_words) (sizes_in_range (sizes_of m)) (ltb (length m) (store_words (sizes_of m))) (in_range (sizes_of m) (reader (sizes_of m) m)) e
  where
    go : (a b c d : Bool) → ◌≡◌ {A = ℕ} (cond a 2 (cond (not b) 3 (cond c 2 (cond (not d) 3 0)))) 0
        → cond a (refuse 2) (cond (not b) (refuse 3) (cond c (refuse 2) (cond (not d) (refuse 3) (f (sizes_of m) (reader (sizes_of m) m))))) ≡ f (sizes_of m) (reader (sizes_of m) m)
    go true b c d e = absurd (omega arith)
    go false false c d e = absurd (omega arith)
    go false true true d e = absurd (omega arith)
    go false true false false e = absurd (omega arith)
    go false true false true e = refl
