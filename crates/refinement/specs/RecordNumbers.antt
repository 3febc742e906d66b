-- Words that hold record numbers are at most N on a store in range, a thread's in every phase.
use Rattle.std.specs.Prelude.{◌≡◌, Bool, true, false, ◌&&◌, List, [], ◌∷◌, ℕ, zero, suc, ◌+◌, ◌≤◌, ◌<◌, leb, length, get_or}
use Rattle.std.proofs.Math.Path.{refl}
use Rattle.std.proofs.Common.{arith, leb-true, eqb-true}
use Rattle.rules.specs.Sizes.{Sizes, last_claimed_word}
use Rattle.rules.specs.Cell.{Reader, content, last_claimed, consumer, producer, part}
use Rattle.rules.specs.Range.{Sort, unused, exactly, number, link, record_number, most, any, nothing, of_sort, of_sorts, thread_in_range, last_claimed_sort, consumer_sorts, producer_sorts, last_consumer_phase, last_producer_phase}
use Rattle.rules.specs.Update.{both, true_false}
use Rattle.rules.specs.InRange.{InRange, sort_of}

-- a sort that allows record numbers alone, or nothing
unfoldable pub is_link : Sort → Bool
is_link unused = true
is_link (exactly n) = false
is_link number = false
is_link link = true
is_link record_number = true
is_link (most n) = false
is_link any = false
is_link nothing = true

link_most : (z : Sizes) (s : Sort) (x : ℕ) → is_link s ≡ true → of_sort z s x ≡ true → x ≤ z.N
unfolding is_link
link_most z unused x l e = omega (arith, eqb-true x 0 e)
link_most z (exactly n) x l e = absurd (true_false l refl)
link_most z number x l e = absurd (true_false l refl)
link_most z link x l e = leb-true x z.N e
link_most z record_number x l e = leb-true x z.N (both (leb 1 x) (leb x z.N) e).1
link_most z (most n) x l e = absurd (true_false l refl)
link_most z any x l e = absurd (true_false l refl)
link_most z nothing x l e = absurd (true_false e refl)

-- word k of a row, where its sort is such a one
link_at : (z : Sizes) (row : ℕ → ℕ) (i j k : ℕ) (ss : List Sort) → i + j ≡ k → is_link (get_or ss j any) ≡ true → of_sorts z row i ss ≡ true → row k ≤ z.N
unfolding is_link
link_at z row i j k [] q l e = absurd (true_false l refl)
link_at z row i zero k (s ∷ ss) q l e =
    let p : i ≡ k = omega arith in
    rw (← p) (link_most z s (row i) l (both (of_sort z s (row i)) (of_sorts z row (suc i) ss) e).0)
link_at z row i (suc j) k (s ∷ ss) q l e =
    link_at z row (suc i) j k ss (omega arith) l (both (of_sort z s (row i)) (of_sorts z row (suc i) ss) e).1

-- Word k + 1 of a thread is a record number in every phase of the table.
unfoldable pub links : (k : ℕ) → List (List Sort) → Bool
links k [] = true
links k (ss ∷ table) = is_link (get_or ss k any) && links k table

links_at : (k : ℕ) (table : List (List Sort)) (p : ℕ) → links k table ≡ true → p < length table → is_link (get_or (get_or table p []) k any) ≡ true
unfolding links
links_at k [] p l h = absurd (omega arith)
links_at k (ss ∷ table) zero l h = (both (is_link (get_or ss k any)) (links k table) l).0
links_at k (ss ∷ table) (suc p) l h = links_at k table p (both (is_link (get_or ss k any)) (links k table) l).1 (omega arith)

thread_link : (z : Sizes) (last : ℕ) (table : List (List Sort)) (row : ℕ → ℕ) (k : ℕ) → links k table ≡ true → suc last ≡ length table
    → thread_in_range z last table row ≡ true → row (suc k) ≤ z.N
thread_link z last table row k l n e =
    let b = both (leb (row 0) last) (of_sorts z row 1 (get_or table (row 0) [])) e in
    let p = leb-true (row 0) last b.0 in
    link_at z row 1 k (suc k) (get_or table (row 0) []) (omega arith) (links_at k table (row 0) l (omega arith)) b.1

module _ {z : Sizes} {σ : Reader} (range : InRange z σ) where
  pub consumer_link : (k : ℕ) → links k consumer_sorts ≡ true → σ (consumer (suc k)) ≤ z.N
  consumer_link k l = thread_link z last_consumer_phase consumer_sorts (λ j. σ (consumer j)) k l refl range.consuming

  pub producer_link : (t : ℕ) → (1 ≤ t) × (t ≤ z.P) → (k : ℕ) → links k producer_sorts ≡ true → σ (producer t (suc k)) ≤ z.N
  producer_link t a k l = thread_link z last_producer_phase producer_sorts (λ j. σ (producer t j)) k l refl (range.producing t a.0 a.1)

  pub last_claimed_link : σ last_claimed ≤ z.N
  unfolding is_link
  last_claimed_link = link_most z last_claimed_sort (σ last_claimed) refl (range.words last_claimed tt)

  pub content_link : (k : ℕ) → k < last_claimed_word → is_link (sort_of z (content k)) ≡ true → σ (content k) ≤ z.N
  content_link k h l = link_most z (sort_of z (content k)) (σ (content k)) l (range.words (content k) h)

  pub part_link : (r k : ℕ) → (r < z.N) × (k < 4) → is_link (sort_of z (part r k)) ≡ true → σ (part r k) ≤ z.N
  part_link r k h l = link_most z (sort_of z (part r k)) (σ (part r k)) l (range.words (part r k) h)
