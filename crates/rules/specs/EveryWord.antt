-- Every word of a store has a name: so the cells are all that there is to look at, and two stores with the same cells are the same words.
use Rattle.std.specs.Prelude.{◌≡◌, Bool, cond, List, ℕ, ◌+◌, ◌-◌, ◌*◌, ◌/◌, ◌%◌, ◌≤◌, ◌<◌, length, get_or, take}
use Rattle.std.proofs.Math.Path.{refl}
use Rattle.std.proofs.Common.{ap, sym, ◌∙◌, div-lt_iff_lt-mul, length-take, ext_get_or, get_or-take}
use Rattle.std.proofs.Math.Bool.{true, false}
use Rattle.std.proofs.Math.Nat.{mod-lt, div-add-mod'}
use native.Mathlib.Omega.{arith}
use Rattle.std.proofs.Math.Dec.{ltb}
use borrow.Author.Tests.{ltb-true, ltb-false}
use Rattle.rules.specs.Sizes.{Sizes, content_words, last_claimed_word, all_handled_word, thread_words, record_words, first_record, first_drain, store_words}
use Rattle.rules.specs.Cell.{Cell, content, last_claimed, all_handled, spare, consumer, producer, part, entry, drain, pair, address, Reader, reader}
use Rattle.rules.specs.Address.{There, there_is, in_contents, in_scan, in_record, in_drain, cell_at}

-- The cell is there, at word n.
pub record Names (z : Sizes) (n : ℕ) (c : Cell) : Type 0 where
  pub there : There z c
  pub at : address z c ≡ n

module _ (z : Sizes) where
  contents_named : (n : ℕ) → n < content_words → Names z n (in_contents n)
  unfolding in_contents in_scan
  contents_named n h = go (ltb n last_claimed_word) refl (ltb n all_handled_word) refl (ltb (n - all_handled_word) 1) refl
    where
      go : (b : Bool) → ltb n last_claimed_word ≡ b → (c : Bool) → ltb n all_handled_word ≡ c → (d : Bool) → ltb (n - all_handled_word) 1 ≡ d
          → Names z n (cond b (content n) (cond c last_claimed (cond d all_handled (spare (n - all_handled_word - 1)))))
      go true e c f d g = record { there = ltb-true n last_claimed_word e; at = refl }
      go false e true f d g = record { there = tt; at = omega (arith, ltb-false n last_claimed_word e, ltb-true n all_handled_word f) }
      go false e false f true g = record { there = tt; at = omega (arith, ltb-false n all_handled_word f, ltb-true (n - all_handled_word) 1 g) }
      go false e false f false g =
          let l = ltb-false n all_handled_word f in
          let m = ltb-false (n - all_handled_word) 1 g in
          record { there = omega arith; at = omega arith }

  -- a word of record r, o words into it
  record_named : (n r o : ℕ) → r < z.N → o < record_words z → first_record z + r * record_words z + o ≡ n → Names z n (in_record r o)
  unfolding in_record
  record_named n r o hr ho e = go (ltb o 4) refl
    where
      go : (b : Bool) → ltb o 4 ≡ b → Names z n (cond b (part r o) (entry r ((o - 4) / 3) ((o - 4) % 3)))
      go true f = record { there = (hr, ltb-true o 4 f); at = e }
      go false f =
          let l = ltb-false o 4 f in
          let d : (o - 4) / 3 * 3 + (o - 4) % 3 ≡ o - 4 = div-add-mod' (o - 4) 3 in
          let k : (o - 4) % 3 < 3 = mod-lt (o - 4) (omega arith) in
          record { there = (hr, omega arith, k); at = omega arith }

  -- a word of the drain area
  drain_named : (n o : ℕ) → first_drain z + o ≡ n → n < store_words z → Names z n (in_drain o)
  unfolding in_drain
  drain_named n o e h = go (ltb o 2) refl
    where
      go : (b : Bool) → ltb o 2 ≡ b → Names z n (cond b (drain o) (pair ((o - 2) / 2) ((o - 2) % 2)))
      go true f = record { there = ltb-true o 2 f; at = e }
      go false f =
          let l = ltb-false o 2 f in
          let d : (o - 2) / 2 * 2 + (o - 2) % 2 ≡ o - 2 = div-add-mod' (o - 2) 2 in
          let k : (o - 2) % 2 < 2 = mod-lt (o - 2) (omega arith) in
          record { there = (omega arith, k); at = omega arith }

  behind_named : (n : ℕ) → first_record z ≤ n → n < first_drain z
      → Names z n (in_record ((n - first_record z) / record_words z) ((n - first_record z) % record_words z))
  behind_named n l h =
      let o : ℕ = n - first_record z in
      let d : o / record_words z * record_words z + o % record_words z ≡ o = div-add-mod' o (record_words z) in
      let k : o % record_words z < record_words z = mod-lt o (omega arith) in
      let r : o / record_words z < z.N = (div-lt_iff_lt-mul {k = record_words z} {x = o} {y = z.N} (omega arith)).1 (omega arith) in
      record_named n (o / record_words z) (o % record_words z) r k (omega arith)

  pub every_word : (n : ℕ) → n < store_words z → Names z n (cell_at z n)
  unfolding cell_at
  every_word n h = go (ltb n content_words) refl (ltb n (content_words + thread_words)) refl (ltb n (first_record z)) refl (ltb n (first_drain z)) refl
    where
      go : (b : Bool) → ltb n content_words ≡ b → (c : Bool) → ltb n (content_words + thread_words) ≡ c → (d : Bool) → ltb n (first_record z) ≡ d
          → (a : Bool) → ltb n (first_drain z) ≡ a → Names z n
          (cond b (in_contents n)
          (cond c (consumer (n - content_words))
          (cond d (producer ((n - content_words) / thread_words) ((n - content_words) % thread_words))
          (cond a (in_record ((n - first_record z) / record_words z) ((n - first_record z) % record_words z)) (in_drain (n - first_drain z))))))
      go true e c f d g a i = contents_named n (ltb-true n content_words e)
      go false e true f d g a i =
          let a = ltb-false n content_words e in
          let b = ltb-true n (content_words + thread_words) f in
          record { there = omega arith; at = omega arith }
      go false e false f true g a i =
          let a = ltb-false n (content_words + thread_words) f in
          let b = ltb-true n (first_record z) g in
          let d : (n - content_words) / thread_words * thread_words + (n - content_words) % thread_words ≡ n - content_words = div-add-mod' (n - content_words) thread_words in
          let k : (n - content_words) % thread_words < thread_words = mod-lt (n - content_words) (omega arith) in
          record { there = (omega arith, omega arith, k); at = omega arith }
      go false e false f false g true i = behind_named n (ltb-false n (first_record z) g) (ltb-true n (first_drain z) i)
      go false e false f false g false i = drain_named n (n - first_drain z) (omega (arith, ltb-false n (first_drain z) i)) h

-- The store's words are those of its cells.
pub same_cells_same_words : (z : Sizes) (m n : List ℕ) → store_words z ≤ length m → store_words z ≤ length n → reader z m ≡ reader z n
    → take (store_words z) m ≡ take (store_words z) n
unfolding reader
same_cells_same_words z m n fits fits' e =
    ext_get_or 0 (take (store_words z) m) (take (store_words z) n) (simp length-take (omega arith))
    (λ k h.
    let l : k < store_words z = omega (arith, simp length-take at h) in
    let w = every_word z k l in
    let word : (x : List ℕ) → reader z x (cell_at z k) ≡ get_or x k 0 = λ x. rw (there_is z (cell_at z k) w.there, w.at) refl in
    get_or-take (store_words z) m k 0 l ∙ sym (word m) ∙ ap (λ (σ : Reader). σ (cell_at z k)) e ∙ word n ∙ sym (get_or-take (store_words z) n k 0 l))
