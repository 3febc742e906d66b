-- `store::clear` meets its contract.
use Rattle.std.proofs.Common.{◌≡◌, refl, ◌+◌, ◌-◌, arith, rules, replicate}
use Rattle.std.proofs.lemmas.List.{length-replicate, append_assoc, drop-drop}
use Rattle.std.proofs.lemmas.List.Edits.{sets-eq}
use Rattle.store.proofs.clear.Goals as goal

pub returns : goal.returns
returns c =
    let a = c.args in
    let count : a.at + a.n - a.at ≡ a.n = omega arith in
    let zeros : c.fill.new.self ≡ replicate a.n 0 = search rules in
    rw (count, zeros, sets-eq (replicate a.n 0) a.s.now a.at (simp length-replicate (omega arith)), length-replicate, append_assoc, drop-drop) refl
