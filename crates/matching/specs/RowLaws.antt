-- A thread's rows: one event more, and rows that cannot be the same.
use Rattle.std.specs.Prelude.{◌≡◌, refl, ◌≢◌, Bool, true, false, List, [], ◌∷◌, ◌++◌, ℕ, zero, suc, ◌+◌, ◌-◌, ◌≤◌, ◌<◌, eqb, length, drop}
use Rattle.std.proofs.Common.{sym, ap, ◌∙◌, arith, zero-add, length-append, drop_at, eq-eqb, ne_eqb}
use Rattle.matching.specs.Rows.{thread_in, row_at, rows_of}

module _ (t : ℕ) (ws : List ℕ) where
  pub rows_more : (k : ℕ) → thread_in ws k ≡ t → rows_of t ws (suc k) ≡ row_at ws k ∷ rows_of t ws k
  rows_more k e = rw (eq-eqb (thread_in ws k) t e)

  pub rows_skip : (k : ℕ) → thread_in ws k ≢ t → rows_of t ws (suc k) ≡ rows_of t ws k
  rows_skip k e = rw (ne_eqb (thread_in ws k) t e)

  -- the rows of more events end with those of fewer
  pub record Grown (m k : ℕ) : Type 0 where
    pub front : List (List ℕ)
    pub split : rows_of t ws m ≡ front ++ rows_of t ws k

  one_more : (m k : ℕ) → Grown m k → Grown (suc m) k
  one_more m k g = go (eqb (thread_in ws m) t) refl
    where
      go : (b : Bool) → eqb (thread_in ws m) t ≡ b → Grown (suc m) k
      go true e = record { front = row_at ws m ∷ g.front; split = rw e (ap (λ l. row_at ws m ∷ l) g.split) }
      go false e = record { front = g.front; split = rw e g.split }

  grown : (d k : ℕ) → Grown (d + k) k
  grown zero k = rw zero-add (record { front = []; split = refl })
  grown (suc d) k = let e : suc d + k ≡ suc (d + k) = omega arith in rw e (one_more (d + k) k (grown d k))

  pub end_of : (m k : ℕ) → k ≤ m → Grown m k
  end_of m k l = let e : m - k + k ≡ m = omega arith in rw e at (grown (m - k) k)

-- Two lists that are the same have the same ends.
same_ends : {A : Type 0} (a x b y : List A) → a ++ x ≡ b ++ y → length x ≡ length y → x ≡ y
same_ends a x b y e l =
    let n : length a ≡ length b = omega (arith, simp length-append at (ap length e)) in
    sym (drop_at a x (length b) n) ∙ ap (drop (length b)) e ∙ drop_at b y (length b) refl

-- After k events of ys and p of xs with the same rows of thread t, the next row differs.
pub next_differs :
    (t : ℕ) (xs ys : List ℕ) (n m p k : ℕ) → p < n → k < m → thread_in xs p ≡ t → thread_in ys k ≡ t → rows_of t xs p ≡ rows_of t ys k
    → row_at xs p ≢ row_at ys k → rows_of t xs n ≢ rows_of t ys m
next_differs t xs ys n m p k l q a b e d same =
    let g = end_of t xs n (suc p) (omega arith) in
    let f = end_of t ys m (suc k) (omega arith) in
    let x = rows_more t xs p a in
    let y = rows_more t ys k b in
    let long : length (rows_of t xs (suc p)) ≡ length (rows_of t ys (suc k)) = ap length x ∙ ap (λ l. suc (length l)) e ∙ sym (ap length y) in
    let z = same_ends g.front (rows_of t xs (suc p)) f.front (rows_of t ys (suc k)) (sym g.split ∙ same ∙ f.split) long in
    d (heads (sym x ∙ z ∙ y))
  where
    heads : row_at xs p ∷ rows_of t xs p ≡ row_at ys k ∷ rows_of t ys k → row_at xs p ≡ row_at ys k
    heads e = cc

-- Past an event of thread t there are more rows of it than before.
pub longer_rows : (t : ℕ) (ws : List ℕ) (m k : ℕ) → k < m → thread_in ws k ≡ t → length (rows_of t ws k) < length (rows_of t ws m)
longer_rows t ws m k q b =
    let f = end_of t ws m (suc k) (omega arith) in
    let y = ap length (rows_more t ws k b) in
    let z = simp length-append at (ap length f.split) in
    omega arith

-- So they are not the same.
pub one_too_many :
    (t : ℕ) (ws : List ℕ) (m k : ℕ) (rows : List (List ℕ)) → k < m → thread_in ws k ≡ t → rows ≡ rows_of t ws k → rows ≢ rows_of t ws m
one_too_many t ws m k rows q b e same = let l = longer_rows t ws m k q b in let u = ap length (sym e ∙ same) in omega arith
