-- Linking a recording's events from the back.
use mathlib.Core.Path.{◌≡◌, refl, sym, ap, subst, ◌∙◌}
use mathlib.Core.List.{List}
use Prim.Native.Nat.{ℕ, suc, ◌≤◌, ◌<◌}
use native.Mathlib.Omega.{arith}
use native.Mathlib.Decide.{ℕ_discrete}
use lib.ListN.{length, set, get_or, length-set, replicate, length-replicate, get_or-replicate}
use lib.Seq.{get_or-set_same, get_or-set_other}
use Rattle.history.specs.Event.{most_producers}
use Rattle.history.specs.Form.{most_events}
use Rattle.matching.specs.Rows.{events_in, thread_in, Threaded}
use Rattle.matching.specs.Match.{Next, Linked}
use Rattle.matching.specs.RowLaws.{rows_skip}

-- No event is linked yet.
pub none_linked :
    (ws links heads : List ℕ) → length links ≡ most_events → heads ≡ replicate 17 (events_in ws) → Linked ws links heads (events_in ws)
none_linked ws links heads sized e =
    record {
      links_sized = sized;
      heads_sized = ap length e ∙ length-replicate 17 (events_in ws);
      within = omega arith;
      links_are = λ q l k. absurd (omega arith);
      heads_are = λ t l. subst (Next ws t (events_in ws)) (sym (ap (λ h. get_or h t 0) e ∙ get_or-replicate 17 t (events_in ws) 0 (omega arith))) none_left;
    }
  where
    none_left : {t : ℕ} → Next ws t (events_in ws) (events_in ws)
    none_left = record { within = omega arith; skips = refl; is_its = λ l. absurd (omega arith) }

-- Event p is linked to its thread's head, and becomes the head.
module _ (ws links heads : List ℕ) (p : ℕ) (ok : Threaded ws) (l : Linked ws links heads (suc p)) where
  abbrev thread : ℕ
  thread = thread_in ws p

  abbrev links' : List ℕ
  links' = set links p (get_or heads thread 0)

  abbrev heads' : List ℕ
  heads' = set heads thread p

  low : thread ≤ most_producers
  low = ok.threads p (omega (arith, l.within))

  link_at : (q : ℕ) → p ≤ q → q < events_in ws → Next ws (thread_in ws q) (suc q) (get_or links' q 0)
  link_at q a b = go (ℕ_discrete q p)
    where
      go : Dec (q ≡ p) → Next ws (thread_in ws q) (suc q) (get_or links' q 0)
      go (yes e) =
          let at_p : get_or links' p 0 ≡ get_or heads thread 0 = get_or-set_same links p (get_or heads thread 0) 0 (omega (arith, l.links_sized, ok.few)) in
          rw (e, at_p) (l.heads_are thread low)
      go (no n) = rw (get_or-set_other links p q (get_or heads thread 0) 0 n) (l.links_are q (omega arith) b)

  head_at : (t : ℕ) → t ≤ most_producers → Next ws t p (get_or heads' t 0)
  head_at t a = go (ℕ_discrete t thread)
    where
      go : Dec (t ≡ thread) → Next ws t p (get_or heads' t 0)
      go (yes e) =
          let at-t : get_or heads' thread 0 ≡ p = get_or-set_same heads thread p 0 (omega (arith, l.heads_sized, low)) in
          rw (e, at-t) (record { within = omega (arith, l.within); skips = refl; is_its = λ k. refl })
      go (no n) =
          let was = l.heads_are t a in
          rw (get_or-set_other heads thread t p 0 n)
          (record { within = was.within; skips = was.skips ∙ rows_skip t ws p (λ e. n (sym e)); is_its = was.is_its })

  pub one_linked : Linked ws links' heads' p
  one_linked =
      record {
        links_sized = length-set links p _ ∙ l.links_sized;
        heads_sized = length-set heads thread p ∙ l.heads_sized;
        within = omega (arith, l.within);
        links_are = link_at;
        heads_are = head_at;
      }
