-- A recording is refused with its number, or read as a history.
use mathlib.Core.Path.{◌≡◌, refl, ap}
use mathlib.Core.List.{List}
use Prim.Native.Nat.{ℕ}
use native.Mathlib.Omega.{arith}
use Rattle.std.proofs.Common.{Ok, Err}
use Rattle.history.specs.Event.{History}
use Rattle.history.specs.Form.{Reading, refused, history}
use Rattle.reading.specs.declared.Refusal.{Refusal}
use Rattle.reading.specs.Refusal.{refusal_number, numbered}
use Rattle.reading.specs.Steps.{entered}
use Rattle.matching.specs.Rows.{Threaded}
use Rattle.matching.specs.Spelled.{read_spells}
use Rattle.matching.specs.Decides.{threaded}
use Rattle.comparison.specs.declared.Recording.TheVariants.{First, Second}
use Rattle.comparison.specs.Compared.{Refused, reply_to}
use Rattle.comparison.specs.Parts.{Both}

pub was_refused : (x : Reading) (e : Refusal) → numbered {A = ℕ} (Err e) ≡ entered x → x ≡ refused (refusal_number e)
was_refused (refused k) e q = ap refused (cc)
was_refused (history h) e q = absurd (let z : ◌≡◌ {A = ℕ} 0 1 = cc in omega arith)

pub was_read : (x : Reading) (c : ℕ) → numbered (Ok c) ≡ entered x → (h : History) × (x ≡ history h)
was_read (refused k) c q = absurd (let z : ◌≡◌ {A = ℕ} 0 1 = cc in omega arith)
was_read (history h) c q = (h, refl)

-- The reply where a recording is refused.
pub first_refused : (x y : Reading) (n : ℕ) → x ≡ refused n → reply_to x y ≡ Refused First n
first_refused x y n e = rw e

pub second_refused : (x y : Reading) (n : ℕ) → (h : History) × (x ≡ history h) → y ≡ refused n → reply_to x y ≡ Refused Second n
second_refused x y n h e = rw (h.1, e)

module _ {xs ys : List ℕ} (b : Both xs ys) where
  pub first_threaded : Threaded xs
  first_threaded = threaded (read_spells xs b.first b.first_is)

  pub second_threaded : Threaded ys
  second_threaded = threaded (read_spells ys b.second b.second_is)
