-- `text::write_bytes` meets its contract: the copied part stands between what was before it and after it.
use Rattle.std.proofs.Common.{◌≡◌, ℕ, List, ◌+◌, ◌-◌, ◌++◌, refl, ap, sym, ◌∙◌, arith, length, take, drop, take_all}
use Rattle.std.proofs.lemmas.List.Edits.{sets-eq}
use Rattle.std.proofs.lemmas.Slice.{put_mid-paste}
use Rattle.text.proofs.write_bytes.Goals as goal

pub returns : goal.returns
returns c =
    let o = c.args.out.now in
    let bs = c.args.bytes.now in
    let at = c.args.at in
    let n : length bs ≡ at + length bs - at = omega arith in
    record {
      next_is = refl;
      after_is =
          put_mid-paste at (at + length bs - at) o c.copy_from_slice.new.self bs (length bs) c.copy_from_slice.ensures.after n refl
          ∙ ap (λ (l : List ℕ). take at o ++ l ++ drop (at + length bs) o) (take_all (length bs) bs (omega arith))
          ∙ sym (sets-eq bs o at c.requires);
    }
