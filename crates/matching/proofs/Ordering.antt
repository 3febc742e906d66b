-- One event more: a start is tested against the latest end before it, an end may be the latest.
use Rattle.std.proofs.Common.{◌≡◌, refl, Bool, true, false, ◌&&◌, List, ℕ, suc, max, get_or}
use Rattle.std.proofs.Math.Dec.{ltb}
use Rattle.matching.specs.Rows.{starts_in, latest_of, ordered}

module _ (ws places : List ℕ) (k : ℕ) where
  pub start_kept : {all : Bool} {latest : ℕ} → all ≡ ordered ws places k → latest ≡ latest_of ws places k → starts_in ws k ≡ true → (all && ltb latest (get_or places k 0)) ≡ ordered ws places (suc k)
  unfolding ordered
  start_kept a l s = rw (s, a, l)

  pub end_kept : {all : Bool} → all ≡ ordered ws places k → starts_in ws k ≡ false → all ≡ ordered ws places (suc k)
  unfolding ordered
  end_kept a s = rw (s, a) (elim (ordered ws places k) as (λ b. b ≡ (b && true)) [ true ↦ refl | false ↦ refl ])

  pub start_latest : {latest : ℕ} → latest ≡ latest_of ws places k → starts_in ws k ≡ true → latest ≡ latest_of ws places (suc k)
  start_latest l s = rw (s, l)

  pub end_latest : {latest : ℕ} → latest ≡ latest_of ws places k → starts_in ws k ≡ false → max latest (get_or places k 0) ≡ latest_of ws places (suc k)
  end_latest l s = rw (s, l)
