-- The range test of the drain area as the code makes it: the pairs below the count, then the words behind them.
use Rattle.std.specs.Prelude.{◌≡◌, refl, Bool, true, false, ◌&&◌, cond, List, ℕ, zero, suc, ◌+◌, ◌-◌, ◌*◌, ◌≤◌, ◌<◌, leb, eqb, get_or}
use Rattle.std.proofs.Common.{ap, ap₂, sym, ◌∙◌, arith, lt-ltb, le-ltb}
use Rattle.std.proofs.Math.Bool.{and-true}
use Rattle.rules.specs.Sizes.{Sizes, content_words, first_drain, most_drained}
use Rattle.rules.specs.Cell.{reader, consumer, drain, pair}
use Rattle.rules.specs.Range.{every, pair_in_range, area_in_range, drain_in_range}
use Rattle.store.specs.Words.{word_at}
use Rattle.records.specs.Rows.{every_same}

group : (a b x : Bool) → ((a && b) && x) ≡ (a && (b && x))
group true b x = refl
group false b x = refl

-- the first numbers, then those behind
every_then : (c k : ℕ) (p : ℕ → Bool) → every (c + k) p ≡ (every c p && every k (λ i. p (c + i)))
every_then c zero p = ap (λ (n : ℕ). every n p) {x = c + 0} {y = c} (omega arith) ∙ sym (and-true (every c p))
every_then c (suc k) p =
    ap (λ (n : ℕ). every n p) {x = c + suc k} {y = suc (c + k)} (omega arith)
    ∙ ap (λ (b : Bool). b && p (c + k)) (every_then c k p)
    ∙ group (every c p) (every k (λ i. p (c + i))) (p (c + k))

-- two numbers at a time
every_two : (k : ℕ) (q : ℕ → Bool) → every (2 * k) q ≡ every k (λ i. q (2 * i) && q (2 * i + 1))
every_two zero q = refl
every_two (suc k) q =
    ap (λ (n : ℕ). every n q) {x = 2 * suc k} {y = suc (suc (2 * k))} (omega arith)
    ∙ ap (λ (n : ℕ). every (2 * k) q && q (2 * k) && q n) {x = suc (2 * k)} {y = 2 * k + 1} (omega arith)
    ∙ rw (every_two k q) (group (every k (λ i. q (2 * i) && q (2 * i + 1))) (q (2 * k)) (q (2 * k + 1)))

-- The pairs below the count have a call number each; the words behind them are zero.
module _ (z : Sizes) (m : List ℕ) (at : ℕ) (e : at ≡ first_drain z) where
  word : (i k j : ℕ) → i < most_drained → k < 2 → j ≡ at + 2 + 2 * i + k → reader z m (pair i k) ≡ get_or m j 0
  word i k j h l p = word_at z m (pair i k) (h, l) ∙ ap (λ (x : ℕ). get_or m x 0) (omega arith)

  pub pairs_test : (c : ℕ) → c ≤ most_drained → every most_drained (pair_in_range z c (λ i k. reader z m (pair i k)))
      ≡ (every c (λ i. leb (get_or m (at + 2 + 2 * i) 0) z.M) && every (2 * most_drained - 2 * c) (λ j. eqb (get_or m (at + 2 + 2 * c + j) 0) 0))
  pairs_test c h =
      ap (λ (n : ℕ). every n test) {x = most_drained} {y = c + (most_drained - c)} (omega arith)
      ∙ every_then c (most_drained - c) test
      ∙ ap₂ ◌&&◌ (every_same c _ _ below) (every_same (most_drained - c) _ _ behind ∙ sym (every_two (most_drained - c) zeros) ∙ ap (λ (n : ℕ). every n zeros) {x = 2 * (most_drained - c)} {y = 2 * most_drained - 2 * c} (omega arith))
    where
      test : ℕ → Bool
      test = pair_in_range z c (λ i k. reader z m (pair i k))

      zeros : ℕ → Bool
      zeros j = eqb (get_or m (at + 2 + 2 * c + j) 0) 0

      below : (i : ℕ) → i < c → test i ≡ leb (get_or m (at + 2 + 2 * i) 0) z.M
      below i l = rw (lt-ltb i c l, word i 0 (at + 2 + 2 * i) (omega arith) (omega arith) (omega arith)) (and-true (leb (get_or m (at + 2 + 2 * i) 0) z.M))

      behind : (i : ℕ) → i < most_drained - c → test (c + i) ≡ (zeros (2 * i) && zeros (2 * i + 1))
      behind i l =
          rw (le-ltb (c + i) c (omega arith), word (c + i) 0 (at + 2 + 2 * c + 2 * i) (omega arith) (omega arith) (omega arith), word (c + i) 1 (at + 2 + 2 * c + (2 * i + 1)) (omega arith) (omega arith) (omega arith))
          (ap (λ (b : Bool). zeros (2 * i) && b) (and-true (zeros (2 * i + 1))))

  -- the words that the test goes by
  pub area_words : drain_in_range z (reader z m) ≡ area_in_range z (get_or m content_words 0) (get_or m at 0) (get_or m (at + 1) 0) (λ i k. reader z m (pair i k))
  area_words =
      let phase : reader z m (consumer 0) ≡ get_or m content_words 0 = word_at z m (consumer 0) (omega arith) in
      let limit : reader z m (drain 0) ≡ get_or m at 0 = word_at z m (drain 0) (omega arith) ∙ ap (λ (x : ℕ). get_or m x 0) (omega arith) in
      let count : reader z m (drain 1) ≡ get_or m (at + 1) 0 = word_at z m (drain 1) (omega arith) ∙ ap (λ (x : ℕ). get_or m x 0) (omega arith) in
      λ x. area_in_range z (phase x) (limit x) (count x) (λ i k. reader z m (pair i k))

-- the most that the limit may be
pub most : (b : Bool) {x : ℕ} → x ≡ cond b 0 most_drained → x ≤ most_drained
most true e = omega arith
most false e = omega arith
