-- Reading after writing: the cells of the words after some writes are what the writes make of the cells before.
use Rattle.std.specs.Prelude.{◌≡◌, refl, Bool, true, false, cond, List, [], ◌∷◌, ℕ, zero, suc, ◌+◌, ◌≤◌, ◌<◌, length, get_or, set, drop, replicate}
use Rattle.std.proofs.Common.{ap, sym, ◌∙◌, subst, arith, length-set, get_or-set_same, get_or-set_other, drop-set-lt}
use Rattle.std.proofs.Math.Path.{fun_ext}
use Rattle.std.proofs.Math.Decide.{dec_le, dec_lt}
use Rattle.std.proofs.lemmas.List.{length-replicate}
use Rattle.std.proofs.lemmas.List.Edits.{sets}
use Rattle.std.proofs.Math.Seq.{length-sets}
use Rattle.history.specs.Lists.{All}
use Rattle.rules.specs.Sizes.{Sizes, store_words}
use Rattle.rules.specs.Cell.{Cell, address, there, Reader, reader, Area, area_start, area_words, Write, ◌:=◌, clear, write, writes}
use Rattle.rules.specs.Update.{area_of, same_area, same, update, after, same_eq, same_cell, same_area_lem, same_area_eq, true_false}
use Rattle.rules.specs.Address.{There, there_is, there_has, AreaThere, address_in, area_below, address_below, address_apart, in_area}

-- a row of zeros written from i on: the old word before and behind it, zero inside
zeros_before : (n : ℕ) (l : List ℕ) (i j : ℕ) → j < i → get_or (sets l i (replicate n 0)) j 0 ≡ get_or l j 0
zeros_before zero l i j h = refl
zeros_before (suc n) l i j h =
    zeros_before n (set l i 0) (suc i) j (omega arith) ∙ get_or-set_other l i j 0 0 (λ e. omega arith)

zeros_behind : (n : ℕ) (l : List ℕ) (i j : ℕ) → i + n ≤ j → get_or (sets l i (replicate n 0)) j 0 ≡ get_or l j 0
zeros_behind zero l i j h = refl
zeros_behind (suc n) l i j h =
    zeros_behind n (set l i 0) (suc i) j (omega arith) ∙ get_or-set_other l i j 0 0 (λ e. omega arith)

zeros_inside : (n : ℕ) (l : List ℕ) (i j : ℕ) → i ≤ j → j < i + n → i + n ≤ length l → get_or (sets l i (replicate n 0)) j 0 ≡ 0
zeros_inside zero l i j a b c = absurd (omega arith)
zeros_inside (suc n) l i j a b c =
    go (dec_le (suc i) j)
    (λ h. zeros_inside n (set l i 0) (suc i) j h (omega arith) (simp length-set (omega arith)))
  where
    go : Dec (suc i ≤ j) → (suc i ≤ j → get_or (sets (set l i 0) (suc i) (replicate n 0)) j 0 ≡ 0) → get_or (sets (set l i 0) (suc i) (replicate n 0)) j 0 ≡ 0
    go (yes h) rest = rest h
    go (no h) rest =
        let e : j ≡ i = omega arith in
        zeros_before n (set l i 0) (suc i) j (omega arith) ∙ rw e (get_or-set_same l i 0 0 (omega arith))

-- A write of a cell that is there, or of an area that is.
abbrev pub WriteThere : Sizes → Write → Type 0
WriteThere z (c := v) = There z c
WriteThere z (clear a) = AreaThere z a

module _ (z : Sizes) (m : List ℕ) (fits : store_words z ≤ length m) where
  -- a reader whose word at a cell is known
  reader_there : (l : List ℕ) (d : Cell) → There z d → reader z l d ≡ get_or l (address z d) 0
  unfolding reader
  reader_there l d h = rw (there_is z d h)

  reader_not : (l : List ℕ) (d : Cell) → there z d ≡ false → reader z l d ≡ 0
  unfolding reader
  reader_not l d e = rw e

  -- what is read at a cell after words have changed, by whether the cell is there
  by_there : (l : List ℕ) (d : Cell) (b : Bool) (x : ℕ)
      → (There z d → get_or l (address z d) 0 ≡ cond b x (get_or m (address z d) 0))
      → (there z d ≡ false → cond b x 0 ≡ 0)
      → reader z l d ≡ cond b x (reader z m d)
  by_there l d b x inside outside = go (there z d) refl
    where
      go : (t : Bool) → there z d ≡ t → reader z l d ≡ cond b x (reader z m d)
      go true e = let h = there_has z d e in rw (reader_there l d h, reader_there m d h) (inside h)
      go false e = rw (reader_not l d e, reader_not m d e) (sym (outside e))

  reader_put : (c : Cell) (v : ℕ) → There z c → (d : Cell) → reader z (set m (address z c) v) d ≡ cond (same c d) v (reader z m d)
  reader_put c v hc d = by_there (set m (address z c) v) d (same c d) v (inside (same c d) refl) (outside (same c d) refl)
    where
      inside : (b : Bool) → same c d ≡ b → There z d → get_or (set m (address z c) v) (address z d) 0 ≡ cond b v (get_or m (address z d) 0)
      inside true e hd =
          rw (← same_eq c d e) (get_or-set_same m (address z c) v 0 (omega (arith, address_below z c hc)))
      inside false e hd =
          get_or-set_other m (address z c) (address z d) v 0 (λ p. true_false (rw (address_apart z c d hc hd (sym p)) (same_cell d)) e)

      outside : (b : Bool) → same c d ≡ b → there z d ≡ false → cond b v 0 ≡ 0
      outside true e h = absurd (true_false (there_is z d (subst (There z) (same_eq c d e) hc)) h)
      outside false e h = refl

  -- an area's words, cleared
  reader_clear : (a : Area) → AreaThere z a → (d : Cell)
      → reader z (sets m (area_start z a) (replicate (area_words z a) 0)) d ≡ cond (same_area a (area_of d)) 0 (reader z m d)
  reader_clear a ha d =
      by_there (sets m start (replicate n 0)) d (same_area a (area_of d)) 0
      (λ h. inside (same_area a (area_of d)) refl h (dec_le start (address z d)) (dec_lt (address z d) (start + n)))
      (outside (same_area a (area_of d)))
    where
      start : ℕ
      start = area_start z a

      n : ℕ
      n = area_words z a

      inside : (b : Bool) → same_area a (area_of d) ≡ b → There z d → Dec (start ≤ address z d) → Dec (address z d < start + n)
          → get_or (sets m start (replicate n 0)) (address z d) 0 ≡ cond b 0 (get_or m (address z d) 0)
      inside true e h p q =
          let w : area_of d ≡ a = sym (same_area_eq a (area_of d) e) in
          let i = rw w at (address_in z d h) in
          zeros_inside n m start (address z d) i.0 i.1 (omega (arith, area_below z a ha))
      inside false e h (yes p) (yes q) = absurd (true_false (rw (← in_area z a d ha h p q) (same_area_lem a)) e)
      inside false e h (yes p) (no q) = zeros_behind n m start (address z d) (omega arith)
      inside false e h (no p) q = zeros_before n m start (address z d) (omega arith)

      outside : (b : Bool) → there z d ≡ false → ◌≡◌ {A = ℕ} (cond b 0 0) 0
      outside true e = refl
      outside false e = refl

  -- One write, read back.
  reader_write : (w : Write) → WriteThere z w → (d : Cell) → reader z (write z m w) d ≡ update (reader z m) w d
  reader_write (c := v) h d = reader_put c v h d
  reader_write (clear a) h d = reader_clear a h d

-- a write leaves the length
pub length_write : (z : Sizes) (m : List ℕ) (w : Write) → length (write z m w) ≡ length m
length_write z m (c := v) = length-set m (address z c) v
length_write z m (clear a) = length-sets m (area_start z a) (replicate (area_words z a) 0)

pub length_writes : (z : Sizes) (m : List ℕ) (ws : List Write) → length (writes z m ws) ≡ length m
unfolding writes
length_writes z m [] = refl
length_writes z m (w ∷ ws) = length_writes z (write z m w) ws ∙ length_write z m w

-- Read after write, for lists of writes.
pub reader_writes : (z : Sizes) (m : List ℕ) (ws : List Write) → store_words z ≤ length m → All (WriteThere z) ws
    → reader z (writes z m ws) ≡ after (reader z m) ws
unfolding writes
reader_writes z m [] fits h = refl
reader_writes z m (w ∷ ws) fits h =
    reader_writes z (write z m w) ws (rw (length_write z m w) fits) h.1
    ∙ ap (λ (σ : Reader). after σ ws) (fun_ext (reader_write z m fits w h.0))

-- Words past the store are never written.
drop_sets : (n : ℕ) (l : List ℕ) (i : ℕ) (vs : List ℕ) → i + length vs ≤ n → drop n (sets l i vs) ≡ drop n l
drop_sets n l i [] h = refl
drop_sets n l i (v ∷ vs) h = drop_sets n (set l i v) (suc i) vs (omega arith) ∙ drop-set-lt n l i v (omega arith)

drop_write : (z : Sizes) (m : List ℕ) (w : Write) → WriteThere z w → drop (store_words z) (write z m w) ≡ drop (store_words z) m
drop_write z m (c := v) h = drop-set-lt (store_words z) m (address z c) v (address_below z c h)
drop_write z m (clear a) h =
    drop_sets (store_words z) m (area_start z a) (replicate (area_words z a) 0)
    (simp length-replicate (omega (arith, area_below z a h)))

pub drop_writes : (z : Sizes) (m : List ℕ) (ws : List Write) → All (WriteThere z) ws
    → drop (store_words z) (writes z m ws) ≡ drop (store_words z) m
unfolding writes
drop_writes z m [] h = refl
drop_writes z m (w ∷ ws) h = drop_writes z (write z m w) ws h.1 ∙ drop_write z m w h.0
