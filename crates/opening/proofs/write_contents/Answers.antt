-- `opening::write_contents` meets its contract.
use Rattle.std.proofs.Common.{◌≡◌, refl, arith}
use Rattle.rules.specs.Cell.{writes}
use Rattle.rules.specs.Sizes.{first_record}
use Rattle.store.specs.Shape.{sizes}
use Rattle.opening.proofs.write_contents.Goals as goal

pub returns : goal.returns
unfolding writes
returns c =
    let first : c.record_at.result ≡ first_record (sizes c.args.z) = omega arith in
    rw (c.put_content-6.ensures, c.put_content-5.ensures, c.put_content-4.ensures, c.put_content-3.ensures, c.put_content-2.ensures, c.put_content.ensures, first) refl
