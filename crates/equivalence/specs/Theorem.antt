-- Linearizability carries over to a history with the same calls that orders no more of them: each call of a linearization of the
-- first is replaced by the call of the second that it is matched with.
use Rattle.std.specs.Prelude.{◌≡◌, refl, ◌≢◌, List, [], ◌∷◌, map}
use Rattle.std.proofs.Common.{sym, ap, subst, subst₂, ◌∙◌}
use Rattle.std.proofs.Math.Option.{Option, none, some}
use Rattle.history.specs.Lists.{All, Member}
use Rattle.history.specs.Event.{History}
use Rattle.history.specs.Calls.{Call, start_of, end_of, calls}
use Rattle.history.specs.Linearization.{Queue, perform, run, Precedes, Linearization}
use Rattle.criterion.specs.Members.{all_at, all_of, in_map, from_map, pairwise_with, pairwise_map}
use Rattle.equivalence.specs.Threads.{caller_of}
use Rattle.equivalence.specs.Statement.{SameCalls, KeepsPrecedence, counterpart, LinearizationsCarryOver, LinearizableCarriesOver}
use Rattle.equivalence.specs.Ranks.{rank_in, rank_of}
use Rattle.equivalence.specs.Matched.{counterpart_member, counterpart_performs, counterpart_ended, counterpart_back, counterpart_once}

-- A run of other calls that do the same.
runs_alike :
    (f : Call → Call) (q : Queue) (cs : List Call) → All (λ c. (r : Queue) → perform (f c) r ≡ perform c r) cs
    → run q (map f cs) ≡ run q cs
runs_alike f q [] p = refl
runs_alike f q (c ∷ cs) p = rw (p.0 q, run) (go (perform c q) (λ r. runs_alike f r cs p.1))
  where
    go :
        (o : Option Queue) → ((r : Queue) → run r (map f cs) ≡ run r cs)
        → ◌≡◌ {A = Option Queue} (elim o [ none ↦ none | some r ↦ run r (map f cs) ]) (elim o [ none ↦ none | some r ↦ run r cs ])
    go none ih = refl
    go (some r) ih = ih r

module _ (h g : History) (same : SameCalls h g) (keeps : KeepsPrecedence h g) where
  matched_precedes :
      (a b : Call) → Member a (calls h) → Member b (calls h) → Precedes (counterpart h g a) (counterpart h g b)
      → Precedes a b
  matched_precedes a b m n p =
      subst₂ Precedes (sym (rank_of h a m).1) (sym (rank_of h b n).1) (keeps (caller_of a) (rank_in h a) (caller_of b) (rank_in h b) p)

  module _ (order : List Call) (left : Queue) (l : Linearization h order left) where
    abbrev other : Call → Call
    other = counterpart h g

    there : (c : Call) → Member c order → Member c (calls h)
    there = all_at (λ c. Member c (calls h)) order l.theirs

    back : SameCalls g h
    back t = sym (same t)

    theirs : (d : Call) → Member d (map other order) → Member d (calls g)
    theirs d m =
        let r = from_map other d order m in
        subst (λ x. Member x (calls g)) (sym r.2) (counterpart_member h g same r.0 (there r.0 r.1))

    once : (a b : Call) → Member a order → Member b order → start_of a ≢ start_of b → start_of (other a) ≢ start_of (other b)
    once a b m n f e = f (ap start_of (counterpart_once h g same a b (there a m) (there b n) e))

    -- an ended call is matched with one that has ended, which is kept
    whole : (d : Call) → Member d (calls g) → end_of d ≢ 0 → Member d (map other order)
    whole d m ended =
        let c = counterpart g h d in
        let kept = all_at (λ x. end_of x ≢ 0 → Member x order) (calls h) l.whole c (counterpart_member g h back d m) in
        subst (λ x. Member x (map other order)) (counterpart_back g h back d m)
        (in_map other c order (kept (counterpart_ended g h back d m ended)))

    timely : (a b : Call) → Member a order → Member b order → (Precedes b a → ⊥) → Precedes (other b) (other a) → ⊥
    timely a b m n f p = f (matched_precedes b a (there b n) (there a m) p)

    carries : Linearization g (map other order) left
    carries = record {
      theirs = all_of _ (map other order) theirs;
      once =
          pairwise_map (λ a b. start_of a ≢ start_of b) _ other order (λ a b f. f)
          (pairwise_with (λ a b. start_of a ≢ start_of b) (λ a b. start_of (other a) ≢ start_of (other b)) order l.once once);
      whole = all_of _ (calls g) whole;
      timely =
          pairwise_map (λ a b. Precedes b a → ⊥) _ other order (λ a b f. f)
          (pairwise_with (λ a b. Precedes b a → ⊥) (λ a b. Precedes (other b) (other a) → ⊥) order l.timely timely);
      runs = runs_alike other [] order (all_of _ order (λ c m. counterpart_performs h g same c (there c m))) ∙ l.runs;
    }

pub linearizations_carry_over : LinearizationsCarryOver
linearizations_carry_over = carries

pub linearizable_carries_over : LinearizableCarriesOver
linearizable_carries_over h g same keeps l = (map (counterpart h g) l.0, l.1, carries h g same keeps l.0 l.1 l.2)
