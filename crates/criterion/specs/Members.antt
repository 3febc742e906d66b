-- General facts on lists: what holds of every element, of every two, and of one, under `++` and `map`, and where an element
-- splits a list.
use Rattle.std.specs.Prelude.{◌≡◌, refl, ◌⊎◌, List, [], ◌∷◌, ◌++◌, map, ℕ}
use Rattle.std.proofs.Common.{sym, ap, subst, inl, inr, arith}
use Rattle.criterion.specs.Parts.{gather}
use Rattle.history.specs.Lists.{All, Pairwise, Member}

module _ {A : Type 0} where
  pub all_at : (P : A → Type 0) (xs : List A) → All P xs → (a : A) → Member a xs → P a
  all_at P (x ∷ xs) p a (inl e) = subst P (sym e) p.0
  all_at P (x ∷ xs) p a (inr m) = all_at P xs p.1 a m
  all_at P [] p a m = elim m [ ]

  pub all_of : (P : A → Type 0) (xs : List A) → ((a : A) → Member a xs → P a) → All P xs
  all_of P [] f = tt
  all_of P (x ∷ xs) f = (f x (inl refl), all_of P xs (λ a m. f a (inr m)))

  pub all_map : (P Q : A → Type 0) (xs : List A) → ((a : A) → P a → Q a) → All P xs → All Q xs
  all_map P Q xs f p = all_of Q xs (λ a m. f a (all_at P xs p a m))

  pub in_left : (a : A) (xs ys : List A) → Member a xs → Member a (xs ++ ys)
  in_left a (x ∷ xs) ys (inl e) = inl e
  in_left a (x ∷ xs) ys (inr m) = inr (in_left a xs ys m)
  in_left a [] ys m = elim m [ ]

  pub in_right : (a : A) (xs ys : List A) → Member a ys → Member a (xs ++ ys)
  in_right a [] ys m = m
  in_right a (x ∷ xs) ys m = inr (in_right a xs ys m)

  pub in_either : (a : A) (xs ys : List A) → Member a (xs ++ ys) → Member a xs ⊎ Member a ys
  in_either a [] ys m = inr m
  in_either a (x ∷ xs) ys (inl e) = inl (inl e)
  in_either a (x ∷ xs) ys (inr m) = elim (in_either a xs ys m) [ inl l ↦ inl (inr l) | inr r ↦ inr r ]

  -- the last of a list with one more
  pub in_snoc : (a : A) (xs : List A) (x : A) → Member a (xs ++ (x ∷ [])) → Member a xs ⊎ (a ≡ x)
  in_snoc a xs x m = elim (in_either a xs (x ∷ []) m) [ inl l ↦ inl l | inr (inl e) ↦ inr e | inr (inr n) ↦ absurd n ]

  pub all_append : (P : A → Type 0) (xs ys : List A) → All P xs → All P ys → All P (xs ++ ys)
  all_append P [] ys p q = q
  all_append P (x ∷ xs) ys p q = (p.0, all_append P xs ys p.1 q)

  pub all_right : (P : A → Type 0) (xs ys : List A) → All P (xs ++ ys) → All P ys
  all_right P [] ys p = p
  all_right P (x ∷ xs) ys p = all_right P xs ys p.1

  pub pairwise_left : (R : A → A → Type 0) (xs ys : List A) → Pairwise R (xs ++ ys) → Pairwise R xs
  pairwise_left R [] ys p = tt
  pairwise_left R (x ∷ xs) ys p =
      (all_of (R x) xs (λ a m. all_at (R x) (xs ++ ys) p.0 a (in_left a xs ys m)), pairwise_left R xs ys p.1)

  pub pairwise_right : (R : A → A → Type 0) (xs ys : List A) → Pairwise R (xs ++ ys) → Pairwise R ys
  pairwise_right R [] ys p = p
  pairwise_right R (x ∷ xs) ys p = pairwise_right R xs ys p.1

  -- the earlier of two parts against the later one
  pub pairwise_across : (R : A → A → Type 0) (xs ys : List A) → Pairwise R (xs ++ ys) → (a b : A) → Member a xs → Member b ys → R a b
  pairwise_across R (x ∷ xs) ys p a b (inl e) n = subst (λ z. R z b) (sym e) (all_at (R x) (xs ++ ys) p.0 b (in_right b xs ys n))
  pairwise_across R (x ∷ xs) ys p a b (inr m) n = pairwise_across R xs ys p.1 a b m n
  pairwise_across R [] ys p a b m n = elim m [ ]

  pub pairwise_append :
      (R : A → A → Type 0) (xs ys : List A) → Pairwise R xs → Pairwise R ys → All (λ a. All (R a) ys) xs → Pairwise R (xs ++ ys)
  pairwise_append R [] ys p q r = q
  pairwise_append R (x ∷ xs) ys p q r = (all_append (R x) xs ys p.0 r.0, pairwise_append R xs ys p.1 q r.1)

  -- two elements of a list, one R to the other or the same
  pub pairwise_at : (R : A → A → Type 0) (xs : List A) → Pairwise R xs → (a b : A) → Member a xs → Member b xs → (a ≡ b) ⊎ (R a b ⊎ R b a)
  pairwise_at R (x ∷ xs) p a b (inl e) (inl f) = inl (cc)
  pairwise_at R (x ∷ xs) p a b (inl e) (inr n) = inr (inl (subst (λ z. R z b) (sym e) (all_at (R x) xs p.0 b n)))
  pairwise_at R (x ∷ xs) p a b (inr m) (inl f) = inr (inr (subst (λ z. R z a) (sym f) (all_at (R x) xs p.0 a m)))
  pairwise_at R (x ∷ xs) p a b (inr m) (inr n) = pairwise_at R xs p.1 a b m n
  pairwise_at R [] p a b m _ = elim m [ ]

  pub pairwise_both : (R S : A → A → Type 0) (xs : List A) → Pairwise R xs → Pairwise S xs → Pairwise (λ a b. R a b × S a b) xs
  pairwise_both R S [] p q = tt
  pairwise_both R S (x ∷ xs) p q =
      (all_of _ xs (λ a m. (all_at (R x) xs p.0 a m, all_at (S x) xs q.0 a m)), pairwise_both R S xs p.1 q.1)

  pub pairwise_with :
      (R S : A → A → Type 0) (xs : List A) → Pairwise R xs → ((a b : A) → Member a xs → Member b xs → R a b → S a b)
      → Pairwise S xs
  pairwise_with R S [] p f = tt
  pairwise_with R S (x ∷ xs) p f = (
    all_of (S x) xs (λ a m. f x a (inl refl) (inr m) (all_at (R x) xs p.0 a m)),
    pairwise_with R S xs p.1
        (λ a b m n. f a b (inr m) (inr n)),
  )

  pub nil_not_cons : {x : A} {xs : List A} → [] ≡ x ∷ xs → ⊥
  nil_not_cons e = let z : ◌≡◌ {A = ℕ} 0 1 = cc in omega arith

  -- where an element stands
  pub split_at : (a : A) (xs : List A) → Member a xs → (b c : List A) × (xs ≡ b ++ (a ∷ c))
  split_at a (x ∷ xs) (inl e) = ([], xs, ap (λ z. z ∷ xs) (sym e))
  split_at a (x ∷ xs) (inr m) = let s = split_at a xs m in (x ∷ s.0, s.1, ap (λ z. x ∷ z) s.2)
  split_at a [] m = elim m [ ]

module _ {A B : Type 0} where
  pub in_map : (f : A → B) (a : A) (xs : List A) → Member a xs → Member (f a) (map f xs)
  in_map f a (x ∷ xs) (inl e) = inl (ap f e)
  in_map f a (x ∷ xs) (inr m) = inr (in_map f a xs m)
  in_map f a [] m = elim m [ ]

  pub from_map : (f : A → B) (b : B) (xs : List A) → Member b (map f xs) → (a : A) × Member a xs × (b ≡ f a)
  from_map f b (x ∷ xs) (inl e) = (x, inl refl, e)
  from_map f b (x ∷ xs) (inr m) = let r = from_map f b xs m in (r.0, inr r.1, r.2)
  from_map f b [] m = elim m [ ]

  pub pairwise_map :
      (R : B → B → Type 0) (S : A → A → Type 0) (f : A → B) (xs : List A) → ((a b : A) → S a b → R (f a) (f b)) → Pairwise S xs
      → Pairwise R (map f xs)
  pairwise_map R S f [] g p = tt
  pairwise_map R S f (x ∷ xs) g p = (later xs p.0, pairwise_map R S f xs g p.1)
    where
      later : (ys : List A) → All (S x) ys → All (R (f x)) (map f ys)
      later [] q = tt
      later (y ∷ ys) q = (g x y q.0, later ys q.1)

  pub pairwise_unmap : (R : B → B → Type 0) (f : A → B) (xs : List A) → Pairwise R (map f xs) → Pairwise (λ a b. R (f a) (f b)) xs
  pairwise_unmap R f [] p = tt
  pairwise_unmap R f (x ∷ xs) p =
      (all_of _ xs (λ a m. all_at (R (f x)) (map f xs) p.0 (f a) (in_map f a xs m)), pairwise_unmap R f xs p.1)

  -- what stands where in a mapped list, stands there in the list
  pub split_map :
      (f : A → B) (xs : List A) (ys : List B) (z : B) (zs : List B) → map f xs ≡ ys ++ (z ∷ zs)
      → (b : List A) × (a : A) × (c : List A) × (xs ≡ b ++ (a ∷ c)) × (map f b ≡ ys) × (f a ≡ z)
  split_map f [] [] z zs e = absurd (nil_not_cons e)
  split_map f [] (y ∷ ys) z zs e = absurd (nil_not_cons e)
  split_map f (x ∷ xs) [] z zs e = ([], x, xs, refl, refl, cc)
  split_map f (x ∷ xs) (y ∷ ys) z zs e =
      let r = split_map f xs ys z zs (cc) in
      (x ∷ r.0, r.1, r.2, cc r.3, cc (e, r.4), r.5)

  pub in_gather : (f : A → List B) (a : A) (b : B) (xs : List A) → Member a xs → Member b (f a) → Member b (gather f xs)
  in_gather f a b (x ∷ xs) (inl e) m = in_left b (f x) (gather f xs) (subst (λ z. Member b (f z)) e m)
  in_gather f a b (x ∷ xs) (inr n) m = in_right b (f x) (gather f xs) (in_gather f a b xs n m)
  in_gather f a b [] h m = elim h [ ]

  pub from_gather : (f : A → List B) (b : B) (xs : List A) → Member b (gather f xs) → (a : A) × Member a xs × Member b (f a)
  from_gather f b (x ∷ xs) m =
      elim (in_either b (f x) (gather f xs) m) [
        | inl l ↦ (x, inl refl, l)
        | inr l ↦ let r =
            from_gather f b xs l in (r.0, inr r.1, r.2)
      ]
  from_gather f b [] m = elim m [ ]

  pub pairwise_gather :
      (R : A → A → Type 0) (S : B → B → Type 0) (f : A → List B) (xs : List A) → Pairwise R xs → ((a : A) → Pairwise S (f a))
      → ((a c : A) (b d : B) → R a c → Member b (f a) → Member d (f c) → S b d) → Pairwise S (gather f xs)
  pairwise_gather R S f [] p own across = tt
  pairwise_gather R S f (x ∷ xs) p own across =
      pairwise_append S (f x) (gather f xs) (own x) (pairwise_gather R S f xs p.1 own across)
      (all_of _ (f x)
      (λ b m. all_of (S b) (gather f xs)
      (λ d n. let r = from_gather f d xs n in across x r.0 b d (all_at (R x) xs p.0 r.0 r.1) m r.2)))
