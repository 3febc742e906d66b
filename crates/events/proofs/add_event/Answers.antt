-- `events::add_event` meets its contract: the four words stand between what was before them and after them.
use Rattle.std.proofs.Common.{◌≡◌, [], ◌∷◌, ◌+◌, ◌-◌, ◌*◌, refl, sym, ◌∙◌, arith}
use Rattle.std.proofs.lemmas.List.Edits.{sets-eq}
use Rattle.std.proofs.lemmas.Slice.{put_mid-paste}
use Rattle.events.specs.Events.{first_word}
use Rattle.events.proofs.add_event.Goals as goal

pub returns : goal.returns
returns c =
    let b = c.args.history.now in
    let at = c.args.k * 4 in
    let event = first_word c.args.kind ∷ c.args.thread ∷ c.args.number ∷ c.args.value ∷ [] in
    let n : 4 ≡ at + 4 - at = omega arith in
    (refl, put_mid-paste at (at + 4 - at) b c.copy_from_slice.new.self event 4 (rw c.from.ensures at c.copy_from_slice.ensures.after) n refl ∙ sym (sets-eq event b at c.requires))
