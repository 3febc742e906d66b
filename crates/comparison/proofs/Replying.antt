-- The reply on what two recordings are read as.
use mathlib.Core.Path.{◌≡◌, refl, sym, ◌∙◌}
use mathlib.Core.Bool.{Bool, true, false}
use mathlib.Core.List.{List}
use Prim.Native.Nat.{ℕ}
use lib.ListN.{length}
use Rattle.history.specs.Form.{most_events, Reading, refused, history, read}
use Rattle.equivalence.specs.Tests.{same_calls}
use Rattle.matching.specs.Rows.{events_in, ordered}
use Rattle.matching.specs.Match.{Matches}
use Rattle.matching.specs.Spelled.{read_spells}
use Rattle.matching.specs.Decides.{decides_same, decides_order}
use Rattle.std.proofs.Common.{Ok}
use Rattle.comparison.specs.declared.Recording.{Recording}
use Rattle.comparison.specs.declared.Recording.TheVariants.{First}
use Rattle.comparison.specs.Compared.{Refused, Comparison, reply_to, rest_of_longer, compared, keeps_to}
use Rattle.comparison.specs.Parts.{reply_of, Both, same_in}
use Rattle.comparison.specs.Decides.{no_refusal}

-- Neither is refused.
module _ {xs ys : List ℕ} (b : Both xs ys) where
  abbrev x : Reading
  x = read most_events xs

  abbrev y : Reading
  y = read most_events ys

  abbrev with_calls : Bool → Comparison
  with_calls same = record { reply = reply_of (Ok same); rest = rest_of_longer xs ys }

  pub calls_compared : (same : Bool) → same ≡ same_in x y → with_calls same ≡ compared xs ys
  calls_compared true e =
      let s : same_calls b.first b.second ≡ true = sym (rw (b.first_is, b.second_is) at e) in
      rw (b.first_is, b.second_is, s)
  calls_compared false e =
      let s : same_calls b.first b.second ≡ false = sym (rw (b.first_is, b.second_is) at e) in
      rw (b.first_is, b.second_is, s)

  module _ {places : List ℕ} {r : Bool} (m : Matches xs ys places r) where
    same_is : r ≡ same_calls b.first b.second
    same_is = decides_same (read_spells xs b.first b.first_is) (read_spells ys b.second b.second_is) m

    pub calls_are : r ≡ same_in x y
    calls_are = rw (b.first_is, b.second_is) same_is

    pub keeps_not : r ≡ false → false ≡ keeps_to x y
    keeps_not e =
        let s : same_calls b.first b.second ≡ false = sym same_is ∙ e in
        rw (b.first_is, b.second_is, s)

    pub keeps_are : r ≡ true → ordered ys places (events_in ys) ≡ keeps_to x y
    keeps_are e =
        let s : same_calls b.first b.second ≡ true = sym same_is ∙ e in
        let o = decides_order (read_spells xs b.first b.first_is) (read_spells ys b.second b.second_is) m e in
        rw (b.first_is, b.second_is, s) o

-- One is refused.
pub refused_compared :
    (xs ys : List ℕ) (r : Recording) (n : ℕ) → reply_to (read most_events xs) (read most_events ys) ≡ Refused r n
    → ◌≡◌ {A = Comparison} (record { reply = Refused r n; rest = record { recording = First; from = length xs } }) (compared xs ys)
refused_compared xs ys r n e = rw e

pub refused_keeps_not : (x y : Reading) (r : Recording) (n : ℕ) → reply_to x y ≡ Refused r n → false ≡ keeps_to x y
refused_keeps_not (refused k) y r n e = refl
refused_keeps_not (history h) (refused k) r n e = refl
refused_keeps_not (history h) (history g) r n e = absurd (no_refusal (same_calls h g) r n e)
