-- Laws of the items in a buffer: what is written there is read back, and how many words they take.
use Rattle.std.specs.Prelude.{◌≡◌, refl, List, [], ◌∷◌, ◌++◌, ℕ, zero, suc, ◌+◌, ◌*◌, ◌≤◌, ◌<◌, length, get_or, set}
use Rattle.std.proofs.Common.{ap, ap₂, ◌∙◌, arith, length-set, length-append, get_or-set_same, get_or-set_other}
use Rattle.std.proofs.lemmas.List.Edits.{sets}
use Rattle.history.specs.Linearization.{Item}
use Rattle.rules.specs.Cell.{Reader}
use Rattle.rules.specs.Consumer.{items_marked}
use Rattle.rules.specs.Request.{Result, item_words}
use Rattle.store.specs.Outcome.{items_at}

-- words written from j on leave those before
sets_before : (vs l : List ℕ) (j i : ℕ) → i < j → get_or (sets l j vs) i 0 ≡ get_or l i 0
sets_before [] l j i h = refl
sets_before (v ∷ vs) l j i h = sets_before vs (set l j v) (suc j) i (omega arith) ∙ get_or-set_other l j i v 0 (λ e. omega arith)

-- two rows of words, one after the other
pub sets_then : (vs ws l : List ℕ) (i : ℕ) → sets l i (vs ++ ws) ≡ sets (sets l i vs) (i + length vs) ws
sets_then [] ws l i = ap (λ (j : ℕ). sets l j ws) (omega arith)
sets_then (v ∷ vs) ws l i = sets_then vs ws (set l i v) (suc i) ∙ ap (λ (j : ℕ). sets (sets (set l i v) (suc i) vs) j ws) (omega arith)

-- Items written into a buffer that has room are the items read there.
pub items_at_lem : (xs : List Item) (b : List ℕ) (i : ℕ) → i + 2 * length xs ≤ length b → items_at (sets b i (item_words xs)) i (length xs) ≡ xs
items_at_lem [] b i h = refl
items_at_lem (x ∷ xs) b i h =
    let one = set b i x.number in
    let two = set one (suc i) x.value in
    let number : get_or (sets two (suc (suc i)) (item_words xs)) i 0 ≡ x.number =
    sets_before (item_words xs) two (suc (suc i)) i (omega arith)
    ∙ get_or-set_other one (suc i) i x.value 0 (λ e. omega arith)
    ∙ get_or-set_same b i x.number 0 (omega arith) in
    let value : get_or (sets two (suc (suc i)) (item_words xs)) (suc i) 0 ≡ x.value =
    sets_before (item_words xs) two (suc (suc i)) (suc i) (omega arith)
    ∙ get_or-set_same one (suc i) x.value 0 (simp length-set (omega arith)) in
    ap₂ (λ (y : Item) (ys : List Item). y ∷ ys) (ap₂ (λ (n v : ℕ). record { number = n; value = v }) number value)
    (items_at_lem xs two (suc (suc i)) (simp (length-set, length-set) (omega arith)))

pub length_items : (b : List ℕ) (i n : ℕ) → length (items_at b i n) ≡ n
length_items b i zero = refl
length_items b i (suc n) = ap suc (length_items b (suc (suc i)) n)

-- the words of items, and of items and one more
pub length_words : (xs : List Item) → length (item_words xs) ≡ 2 * length xs
length_words [] = refl
length_words (x ∷ xs) = let h = length_words xs in omega arith

pub words_more : (xs : List Item) (x : Item) → item_words (xs ++ (x ∷ [])) ≡ item_words xs ++ (x.number ∷ x.value ∷ [])
words_more [] x = refl
words_more (y ∷ ys) x = ap (λ (ws : List ℕ). y.number ∷ y.value ∷ ws) (words_more ys x)

-- so many pairs are so many items
pub length_marked : (σ : Reader) (n : ℕ) → length (items_marked σ n) ≡ n
length_marked σ zero = refl
length_marked σ (suc n) = let h = length_marked σ n in simp length-append (omega arith)

-- what a function leaves of every buffer, it leaves of the one that is lent
pub lent : {f g : (buffer : List ℕ) (from : ℕ) → Result} → f ≡ g → (b : List ℕ) (i : ℕ) → f b i ≡ g b i
lent e b i = ap (λ (f : List ℕ → ℕ → Result). f b i) e
