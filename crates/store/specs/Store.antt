-- What the code may assume of the lent words once they are admitted, and what its accessors say.
use Rattle.std.specs.Prelude.{◌≡◌, List, ℕ, ◌≤◌, length}
use Rattle.history.specs.Event.{most_producers}
use Rattle.rules.specs.Sizes.{Sizes, store_words, most_entries, most_records, most_starts}
use Rattle.rules.specs.Cell.{Cell, reader, address}
use Rattle.rules.specs.Address.{There}
use Rattle.rules.specs.InRange.{InRange}
use Rattle.store.specs.Caps.{cap_of}

-- Sizes within their limits, and words enough for them.
pub record Room (z : Sizes) (m : List ℕ) : Type 0 where
  pub entries_least : 2 ≤ z.B
  pub entries_most : z.B ≤ most_entries
  pub records_least : 2 ≤ z.N
  pub records_most : z.N ≤ most_records
  pub producers_least : 1 ≤ z.P
  pub producers_most : z.P ≤ most_producers
  pub starts_least : 1 ≤ z.M
  pub starts_most : z.M ≤ most_starts
  pub fits : store_words z ≤ length m

-- A store that passed admission: every word is in its range besides.
pub record Admitted (z : Sizes) (m : List ℕ) : Type 0 where
  pub room : Room z m
  pub ranges : InRange z (reader z m)

-- r is what the cell holds.
pub record Reads (z : Sizes) (m : List ℕ) (c : Cell) (r : ℕ) : Type 0 where
  pub is : reader z m c ≡ r
  pub most : r ≤ cap_of z c

-- x is what the cell at an address holds.
pub record Holds (z : Sizes) (m : List ℕ) (at x : ℕ) : Type 0 where
  pub reads : (c : Cell) → There z c → at ≡ address z c → Reads z m c x
