-- `admission::contents_in_range` meets its contract.
use Rattle.std.proofs.Common.{◌≡◌, refl, ◌∙◌, arith, Bool, true, false, cond, leb, eqb, get_or}
use mir.Val.{bool_byte}
use mathlib.Core.Bool.{and-true}
use Rattle.rules.specs.Sizes.{first_record}
use Rattle.store.specs.Shape.{sizes}
use Rattle.admission.specs.Contents.{contents_test}
use Rattle.admission.proofs.contents_in_range.Goals as goal

-- a bool as a number
digit : (b : Bool) → bool_byte b ≡ cond b 1 0
digit true = refl
digit false = refl

pub returns : goal.returns
returns c =
    let b = c.args in
    let first : c.record_at-first.result ≡ first_record (sizes b.z) = omega arith in
    contents_test (sizes b.z) b.s.now c.requires.z_value ∙ rw (and-true (leb (get_or b.s.now 10 0) b.z.starts), and-true (eqb (get_or b.s.now 15 0) 0), first, c.from.ensures, digit) refl
