-- What longer input prints.
use Rattle.std.proofs.Common.{◌≡◌, List, ℕ, ◌<◌, length, lt-ltb}
use Rattle.protocol.specs.Words.{too_long_line}
use Rattle.session.specs.Session.{most_input, output}

pub output_long : (input : List ℕ) → most_input < length input → output input ≡ too_long_line
unfolding output
output_long input l = simp (lt-ltb most_input (length input) l)
