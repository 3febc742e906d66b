-- Holding and free records (document 01, "Store" and "Calls"; document 02, U6), and the record that a claim takes (document 02, U1).
use Rattle.std.specs.Prelude.{Bool, true, false, ◌&&◌, ◌||◌, not, ℕ, zero, suc, ◌-◌, ltb, eqb}
use Rattle.rules.specs.Sizes.{Sizes}
use Rattle.rules.specs.Cell.{Reader, last_claimed, held, claimed, place, used}
use Rattle.rules.specs.Range.{every}

-- Who holds record x keeps record r: it is x, or x is a retired record of greater place, whose links may lead back to it. (A record number is
-- stored plus one; zero is none.)
abbrev pub kept_by : Reader → (x r : ℕ) → Bool
kept_by σ zero r = false
kept_by σ (suc x) r = eqb x r || (eqb (σ (used x)) 3 && ltb (σ (place r)) (σ (place x)))

-- Producer t holds the record it last loaded or went back to, and the one it has claimed.
abbrev pub keeps : Reader → (t r : ℕ) → Bool
keeps σ t r = kept_by σ (σ (held t)) r || kept_by σ (σ (claimed t)) r

-- Let go: its use is 3, and no producer holds it or any retired record of greater place. (Producers are threads 1 to P.)
abbrev pub let_go : Sizes → Reader → ℕ → Bool
let_go z σ r = eqb (σ (used r)) 3 && every z.P (λ t. not (keeps σ (suc t) r))

-- Free: its use is 0, or its use is 3 and it was let go.
unfoldable pub free : Sizes → Reader → ℕ → Bool
free z σ r = eqb (σ (used r)) 0 || let_go z σ r

-- The first of n records from record k on that passes the test. (Plus one, as record numbers are stored; zero is none.)
abbrev pub first_from : (k n : ℕ) → (ℕ → Bool) → ℕ
first_from k zero p = 0
first_from k (suc n) p = elim (p k) [ true ↦ suc k | false ↦ first_from (suc k) n p ]

-- A claim takes the first free record after the one claimed last, counting upward and past the end to record 0. So the one claimed last
-- comes last of all. (Word 11 holds its number plus one, which is the number of the record after it.)
unfoldable pub next_free : Sizes → Reader → ℕ
next_free z σ =
    elim (first_from (σ last_claimed) (z.N - σ last_claimed) (free z σ))
    [ zero ↦ first_from 0 (σ last_claimed) (free z σ) | suc r ↦ suc r ]
