-- Single calls on stores that the engine did not write, computed: the reply, and what some cells hold afterwards.
use Rattle.std.specs.Prelude.{◌≡◌, true, ◌&&◌, List, [], ◌∷◌, map, ℕ, replicate}
use Rattle.std.proofs.Common.{ap}
use Rattle.rules.specs.Sizes.{Sizes, store_words}
use Rattle.rules.specs.Cell.{Cell, Write, reader, writes}
use Rattle.rules.specs.Rule.{Response}
use Rattle.rules.specs.Request.{Request, opened}
use Rattle.rules.specs.Play.{Played}
use Rattle.rules.specs.Update.{both}
use Rattle.rules.specs.Runs.{plain, played_on, quick_on, played_on_lem, computed}
use Rattle.rules.specs.Sameness.{Sameness, lists, responses, word_lists}

-- A call on an opened store where some cells were then written: its reply, and what some cells hold afterwards.
pub record Single : Type 0 where
  pub sizes : Sizes
  pub cells : List Write
  pub request : Request
  pub looks : List Cell
  pub reply : List Response
  pub holds : List ℕ

-- what is seen of a call
pub record Seen : Type 0 where
  pub reply : List Response
  pub holds : List ℕ

unfoldable pub sights : Sameness Seen
unfolding responses word_lists
sights =
    record {
      test = λ x y. responses.test x.reply y.reply && word_lists.test x.holds y.holds;
      sound =
          λ x y e.
          let b = both (responses.test x.reply y.reply) (word_lists.test x.holds y.holds) e in
          λ i. record { reply = responses.sound x.reply y.reply b.0 i; holds = word_lists.sound x.holds y.holds b.1 i };
    }

abbrev before : Single → List ℕ
before s = writes s.sizes (opened s.sizes (replicate (store_words s.sizes) 0)) s.cells

abbrev look_at : Single → Played → Seen
look_at s p = record { reply = p.replies; holds = map (reader s.sizes p.words) s.looks }

unfoldable pub seen_of : Single → Seen
seen_of s = look_at s (played_on (plain s.request ∷ []) (before s))

unfoldable pub quick_seen : Single → Seen
unfolding quick_on opened writes reader
quick_seen s = look_at s (quick_on (plain s.request ∷ []) (before s))

seen_is : (s : Single) → seen_of s ≡ quick_seen s
unfolding seen_of quick_seen
seen_is s = ap (look_at s) (played_on_lem (plain s.request ∷ []) (before s))

abbrev pub seen_as : Single → Seen
seen_as s = record { reply = s.reply; holds = s.holds }

-- To compute a table of them, compute it so, and test it.
pub singles_hold : (xs : List Single) → (lists sights).test (map quick_seen xs) (map seen_as xs) ≡ true → map seen_of xs ≡ map seen_as xs
singles_hold xs = computed sights seen_of quick_seen seen_as seen_is xs
