-- Lists that rise: two with the same elements are the same, and an insertion keeps one rising.
use Rattle.std.specs.Prelude.{◌≡◌, refl, ◌⊎◌, Bool, true, false, List, [], ◌∷◌, ◌≤◌, ◌<◌, leb}
use Rattle.std.proofs.Common.{ap, ap₂, sym, ◌∙◌, subst, inl, inr, arith, leb-true, leb-false}
use Rattle.history.specs.Lists.{All, Pairwise, Member}
use Rattle.rules.specs.Play.{Placed, insert}

abbrev pub Rising : List Placed → Type 0
Rising ps = Pairwise (λ p q. p.at < q.at) ps

pub all_member : (P : Placed → Type 0) (ps : List Placed) → All P ps → (p : Placed) → Member p ps → P p
all_member P [] a p m = absurd m
all_member P (q ∷ ps) a p (inl e) = subst P (sym e) a.0
all_member P (q ∷ ps) a p (inr m) = all_member P ps a.1 p m

pub member_all : (P : Placed → Type 0) (ps : List Placed) → ((p : Placed) → Member p ps → P p) → All P ps
member_all P [] f = tt
member_all P (q ∷ ps) f = (f q (inl refl), member_all P ps (λ p m. f p (inr m)))

-- Two rising lists with the same elements are the same.
pub rising_same : (ps qs : List Placed) → Rising ps → Rising qs → ((x : Placed) → Member x ps → Member x qs) → ((x : Placed) → Member x qs → Member x ps) → ps ≡ qs
rising_same [] [] rp rq f g = refl
rising_same [] (q ∷ qs) rp rq f g = absurd (g q (inl refl))
rising_same (p ∷ ps) [] rp rq f g = absurd (f p (inl refl))
rising_same (p ∷ ps) (q ∷ qs) rp rq f g =
    ap₂ ◌∷◌ heads (rising_same ps qs rp.1 rq.1 (λ x m. down p ps q qs rp.0 heads x m (f x (inr m))) (λ x m. down q qs p ps rq.0 (sym heads) x m (g x (inr m))))
  where
    above : (a : Placed) (more : List Placed) (x : Placed) → All (λ b. a.at < b.at) more → Member x more → a.at < x.at
    above a more x l m = all_member (λ b. a.at < b.at) more l x m

    same : (p ≡ q) ⊎ Member p qs → (q ≡ p) ⊎ Member q ps → p ≡ q
    same (inl e) m = e
    same (inr m) (inl e) = sym e
    same (inr m) (inr n) = absurd (omega (arith, above q qs p rq.0 m, above p ps q rp.0 n))

    heads : p ≡ q
    heads = same (f p (inl refl)) (g q (inl refl))

    down : (a : Placed) (more : List Placed) (b : Placed) (rest : List Placed) → All (λ c. a.at < c.at) more → a ≡ b → (x : Placed)
        → Member x more → (x ≡ b) ⊎ Member x rest → Member x rest
    down a more b rest l e x m (inl q) = let w : x.at ≡ a.at = ap (λ (y : Placed). y.at) (q ∙ sym e) in absurd (omega (arith, above a more x l m))
    down a more b rest l e x m (inr n) = n

-- What is inserted is there, with what was.
pub insert_has : (p : Placed) (ps : List Placed) (x : Placed) → Member x (insert p ps) → (x ≡ p) ⊎ Member x ps
insert_has p [] x = λ m. m
insert_has p (q ∷ ps) x = go (leb p.at q.at) (insert_has p ps x)
  where
    swap : (x ≡ q) ⊎ ((x ≡ p) ⊎ Member x ps) → (x ≡ p) ⊎ ((x ≡ q) ⊎ Member x ps)
    swap (inl e) = inr (inl e)
    swap (inr (inl e)) = inl e
    swap (inr (inr m)) = inr (inr m)

    go : (b : Bool) → (Member x (insert p ps) → (x ≡ p) ⊎ Member x ps)
        → Member x (elim b [ true ↦ p ∷ q ∷ ps | false ↦ q ∷ insert p ps ]) → (x ≡ p) ⊎ Member x (q ∷ ps)
    go true rest m = m
    go false rest (inl e) = swap (inl e)
    go false rest (inr m) = swap (inr (rest m))

pub insert_of : (p : Placed) (ps : List Placed) (x : Placed) → (x ≡ p) ⊎ Member x ps → Member x (insert p ps)
insert_of p [] x = λ m. m
insert_of p (q ∷ ps) x = go (leb p.at q.at) (insert_of p ps x)
  where
    go : (b : Bool) → ((x ≡ p) ⊎ Member x ps → Member x (insert p ps)) → (x ≡ p) ⊎ Member x (q ∷ ps)
        → Member x (elim b [ true ↦ p ∷ q ∷ ps | false ↦ q ∷ insert p ps ])
    go true rest m = m
    go false rest (inl e) = inr (rest (inl e))
    go false rest (inr (inl e)) = inl e
    go false rest (inr (inr m)) = inr (rest (inr m))

-- An insertion at a new place keeps it rising.
pub insert_rises : (p : Placed) (ps : List Placed) → Rising ps → ((x : Placed) → Member x ps → x.at ≡ p.at → ⊥) → Rising (insert p ps)
insert_rises p [] r n = (tt, tt)
insert_rises p (q ∷ ps) r n = go (leb p.at q.at) refl (insert_rises p ps r.1 (λ x m. n x (inr m)))
  where
    differs : q.at ≡ p.at → ⊥
    differs = n q (inl refl)

    go : (b : Bool) → leb p.at q.at ≡ b → Rising (insert p ps) → Rising (elim b [ true ↦ p ∷ q ∷ ps | false ↦ q ∷ insert p ps ])
    go true e rest =
        let l : p.at ≤ q.at = leb-true p.at q.at e in
        let s : p.at < q.at = omega (arith, differs) in
        ((s, member_all (λ x. p.at < x.at) ps (λ x m. omega (arith, all_member (λ y. q.at < y.at) ps r.0 x m))), r)
    go false e rest =
        let l : q.at < p.at = leb-false p.at q.at e in
        (member_all (λ x. q.at < x.at) (insert p ps) (λ x m. after x (insert_has p ps x m)), rest)
      where
        after : (x : Placed) → (x ≡ p) ⊎ Member x ps → q.at < x.at
        after x (inl w) = let v : x.at ≡ p.at = ap (λ (y : Placed). y.at) w in omega (arith, leb-false p.at q.at e)
        after x (inr m) = all_member (λ y. q.at < y.at) ps r.0 x m
