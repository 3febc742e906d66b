-- What writes make of the cells: which cells a write touches, and that it leaves every other one alone. A cell is told from another
-- by its kind first, then by its field: so different fields are told apart by computing.
use Rattle.std.specs.Prelude.{◌≡◌, refl, Bool, true, false, ◌&&◌, ◌||◌, not, cond, List, [], ◌∷◌, ◌++◌, ℕ, zero, suc, ◌<◌, eqb, get_or}
use Rattle.std.proofs.Common.{ap, ap₂, sym, ◌∙◌, arith, eq-eqb, ne_eqb, eqb-true}
use Rattle.std.proofs.Math.Path.{fun_ext}
use Rattle.history.specs.Lists.{All}
use Rattle.rules.specs.Sizes.{thread_words}
use Rattle.rules.specs.Cell.{Cell, content, last_claimed, all_handled, spare, consumer, producer, part, entry, drain, pair, Reader, Area, contents, of_scan, spares, of_consumer, of_producer, of_record, of_drain, Write, ◌:=◌, clear, step_count}

-- The area of a cell.
abbrev pub area_of : Cell → Area
area_of (content k) = contents
area_of last_claimed = contents
area_of all_handled = of_scan
area_of (spare k) = spares
area_of (consumer k) = of_consumer
area_of (producer t k) = of_producer t
area_of (part r k) = of_record r
area_of (entry r i k) = of_record r
area_of (drain k) = of_drain
area_of (pair i k) = of_drain

-- An area by its kind, and by its number among those of its kind.
abbrev pub area_kind : Area → ℕ
area_kind contents = 0
area_kind of_consumer = 1
area_kind (of_producer t) = 2
area_kind (of_record r) = 3
area_kind of_drain = 4
area_kind of_scan = 5
area_kind spares = 6

abbrev pub area_number : Area → ℕ
area_number contents = 0
area_number of_consumer = 0
area_number (of_producer t) = t
area_number (of_record r) = r
area_number of_drain = 0
area_number of_scan = 0
area_number spares = 0

abbrev pub same_area : Area → Area → Bool
same_area a b = eqb (area_kind a) (area_kind b) && eqb (area_number a) (area_number b)

-- A cell by its kind, its field, the entry or pair that it belongs to, and its area's number.
abbrev pub cell_kind : Cell → ℕ
cell_kind (content k) = 0
cell_kind (consumer k) = 1
cell_kind (producer t k) = 2
cell_kind (part r k) = 3
cell_kind (entry r i k) = 4
cell_kind last_claimed = 5
cell_kind (spare k) = 6
cell_kind (drain k) = 7
cell_kind (pair i k) = 8
cell_kind all_handled = 9

abbrev pub cell_field : Cell → ℕ
cell_field (content k) = k
cell_field last_claimed = 0
cell_field all_handled = 0
cell_field (spare k) = k
cell_field (consumer k) = k
cell_field (producer t k) = k
cell_field (part r k) = k
cell_field (entry r i k) = k
cell_field (drain k) = k
cell_field (pair i k) = k

abbrev pub cell_entry : Cell → ℕ
cell_entry (content k) = 0
cell_entry last_claimed = 0
cell_entry all_handled = 0
cell_entry (spare k) = 0
cell_entry (consumer k) = 0
cell_entry (producer t k) = 0
cell_entry (part r k) = 0
cell_entry (entry r i k) = i
cell_entry (drain k) = 0
cell_entry (pair i k) = i

abbrev pub same : Cell → Cell → Bool
same c d = eqb (cell_kind c) (cell_kind d) && (eqb (cell_field c) (cell_field d) && (eqb (cell_entry c) (cell_entry d) && eqb (area_number (area_of c)) (area_number (area_of d))))

-- Whether a write touches a cell, and what it leaves there.
abbrev pub touches : Write → Cell → Bool
touches (c := v) d = same c d
touches (clear a) d = same_area a (area_of d)

abbrev pub value_left : Write → ℕ
value_left (c := v) = v
value_left (clear a) = 0

-- A write, and a list of them in order, on a reader.
abbrev pub update : Reader → Write → Reader
update σ w d = cond (touches w d) (value_left w) (σ d)

abbrev pub after : Reader → List Write → Reader
after σ [] = σ
after σ (w ∷ ws) = after (update σ w) ws

-- a list of writes, and one more
pub after_more : (σ : Reader) (ws : List Write) (w : Write) → after σ (ws ++ (w ∷ [])) ≡ update (after σ ws) w
after_more σ [] w = refl
after_more σ (v ∷ ws) w = after_more (update σ v) ws w

-- The word of a thread's count, by the kind of thread.
abbrev pub count_of : (t : ℕ) → Cell
count_of zero = consumer 7
count_of (suc p) = producer (suc p) 7

pub count_is : (t : ℕ) → step_count t ≡ count_of t
count_is zero = refl
count_is (suc p) = rw (ne_eqb (suc p) 0 (λ e. omega arith)) refl

-- both sides of a conjunction of tests
pub both : (a b : Bool) → (a && b) ≡ true → (a ≡ true) × (b ≡ true)
both true b e = (refl, e)
both false b e = let z : ◌≡◌ {A = ℕ} 0 1 = cc in absurd (omega arith)

-- both sides of a disjunction of tests that fails
pub neither : (a b : Bool) → (a || b) ≡ false → (a ≡ false) × (b ≡ false)
neither true b e = let z : ◌≡◌ {A = ℕ} 0 1 = cc in absurd (omega arith)
neither false b e = (refl, e)

pub and_true : {a b : Bool} → a ≡ true → b ≡ true → (a && b) ≡ true
and_true {a} {b} p q = rw (p, q) refl

-- no test is both true and false
pub true_false : {b : Bool} → b ≡ true → b ≡ false → ⊥
true_false p q = let z : ◌≡◌ {A = ℕ} 0 1 = cc in omega arith

-- a test whose opposite passes fails
pub not_true : (b : Bool) → not b ≡ true → b ≡ false
not_true true e = absurd (true_false e refl)
not_true false e = refl

-- an area and a cell are known by their numbers
area_from : (cell_kind number : ℕ) → Area
area_from k n = get_or (contents ∷ of_consumer ∷ of_producer n ∷ of_record n ∷ of_drain ∷ of_scan ∷ spares ∷ []) k contents

area_from_lem : (a : Area) → area_from (area_kind a) (area_number a) ≡ a
unfolding area_from
area_from_lem contents = refl
area_from_lem of_consumer = refl
area_from_lem (of_producer t) = refl
area_from_lem (of_record r) = refl
area_from_lem of_drain = refl
area_from_lem of_scan = refl
area_from_lem spares = refl

cell_from : (cell_kind cell_field cell_entry number : ℕ) → Cell
cell_from x k i n =
    get_or (content k ∷ consumer k ∷ producer n k ∷ part n k ∷ entry n i k ∷ last_claimed ∷ spare k ∷ drain k ∷ pair i k ∷ all_handled ∷ []) x (content k)

cell_from_lem : (c : Cell) → cell_from (cell_kind c) (cell_field c) (cell_entry c) (area_number (area_of c)) ≡ c
unfolding cell_from
cell_from_lem (content k) = refl
cell_from_lem last_claimed = refl
cell_from_lem all_handled = refl
cell_from_lem (spare k) = refl
cell_from_lem (consumer k) = refl
cell_from_lem (producer t k) = refl
cell_from_lem (part r k) = refl
cell_from_lem (entry r i k) = refl
cell_from_lem (drain k) = refl
cell_from_lem (pair i k) = refl

pub same_area_eq : (a b : Area) → same_area a b ≡ true → a ≡ b
same_area_eq a b e =
    let p = both (eqb (area_kind a) (area_kind b)) (eqb (area_number a) (area_number b)) e in
    sym (area_from_lem a) ∙ ap₂ area_from (eqb-true (area_kind a) (area_kind b) p.0) (eqb-true (area_number a) (area_number b) p.1) ∙ area_from_lem b

pub same_area_lem : (a : Area) → same_area a a ≡ true
same_area_lem a = and_true (eq-eqb (area_kind a) (area_kind a) refl) (eq-eqb (area_number a) (area_number a) refl)

pub same_eq : (c d : Cell) → same c d ≡ true → c ≡ d
same_eq c d e =
    let n : Cell → ℕ = λ x. area_number (area_of x) in
    let p = both (eqb (cell_kind c) (cell_kind d)) (eqb (cell_field c) (cell_field d) && (eqb (cell_entry c) (cell_entry d) && eqb (n c) (n d))) e in
    let q = both (eqb (cell_field c) (cell_field d)) (eqb (cell_entry c) (cell_entry d) && eqb (n c) (n d)) p.1 in
    let r = both (eqb (cell_entry c) (cell_entry d)) (eqb (n c) (n d)) q.1 in
    let a = eqb-true (cell_kind c) (cell_kind d) p.0 in
    let b = eqb-true (cell_field c) (cell_field d) q.0 in
    let i = eqb-true (cell_entry c) (cell_entry d) r.0 in
    let k = eqb-true (n c) (n d) r.1 in
    sym (cell_from_lem c) ∙ (λ x. cell_from (a x) (b x) (i x) (k x)) ∙ cell_from_lem d

pub same_cell : (c : Cell) → same c c ≡ true
same_cell c =
    and_true (eq-eqb (cell_kind c) (cell_kind c) refl)
    (and_true (eq-eqb (cell_field c) (cell_field c) refl)
    (and_true (eq-eqb (cell_entry c) (cell_entry c) refl) (eq-eqb (area_number (area_of c)) (area_number (area_of c)) refl)))

-- The frame law: a write leaves a cell that it does not touch.
pub untouched : (σ : Reader) (w : Write) (d : Cell) → touches w d ≡ false → update σ w d ≡ σ d
untouched σ w d e = rw e

-- A write of what is there already changes nothing.
pub written_already : (σ : Reader) (c : Cell) (v : ℕ) → σ c ≡ v → update σ (c := v) ≡ σ
written_already σ c v e = fun_ext (λ d. go d (same c d) refl)
  where
    go : (d : Cell) (b : Bool) → same c d ≡ b → cond b v (σ d) ≡ σ d
    go d true q = sym e ∙ ap σ (same_eq c d q)
    go d false q = refl

-- the area that a write touches
abbrev pub area_touched : Write → Area
area_touched (c := v) = area_of c
area_touched (clear a) = a

pub touches_area : (w : Write) (d : Cell) → touches w d ≡ true → area_touched w ≡ area_of d
touches_area (c := v) d e = ap area_of (same_eq c d e)
touches_area (clear a) d e = same_area_eq a (area_of d) e

-- Writes of other areas leave the cell.
pub other_area : (σ : Reader) (w : Write) (d : Cell) → (area_touched w ≡ area_of d → ⊥) → update σ w d ≡ σ d
other_area σ w d n = go (touches w d) refl
  where
    go : (b : Bool) → touches w d ≡ b → cond b (value_left w) (σ d) ≡ σ d
    go true e = absurd (n (touches_area w d e))
    go false e = refl

-- Areas of two kinds.
abbrev pub OtherKind : Area → Area → Type 0
OtherKind a b = eqb (area_kind a) (area_kind b) ≡ false

pub other_kind : (a b : Area) → OtherKind a b → a ≡ b → ⊥
other_kind a b n e = true_false (eq-eqb (area_kind a) (area_kind b) (ap area_kind e)) n

-- Whose area it is: the scan's word is the consumer's too.
abbrev pub owner_of : Area → Area
owner_of contents = contents
owner_of of_scan = of_consumer
owner_of spares = spares
owner_of of_consumer = of_consumer
owner_of (of_producer t) = of_producer t
owner_of (of_record r) = of_record r
owner_of of_drain = of_drain

-- A write of one of the words of a thread.
abbrev pub field_touched : Write → ℕ
field_touched (c := v) = cell_field c
field_touched (clear a) = 0

abbrev pub Own : Area → Write → Type 0
Own a w = (owner_of (area_touched w) ≡ a) × (field_touched w < thread_words)

-- Writes of a thread's words leave the cells of areas of other kinds.
pub own_leaves : (a : Area) (σ : Reader) (ws : List Write) → All (Own a) ws → (d : Cell) → OtherKind a (owner_of (area_of d)) → after σ ws d ≡ σ d
own_leaves a σ [] h d n = refl
own_leaves a σ (w ∷ ws) h d n =
    own_leaves a (update σ w) ws h.1 d n
    ∙ other_area σ w d (λ e. other_kind a (owner_of (area_of d)) n (sym h.0.0 ∙ ap owner_of e))
