-- From the phase that the code reads to the rule of that phase.
use Rattle.std.specs.Prelude.{◌≡◌, List, ℕ, zero, suc, ◌+◌, ◌≤◌, ◌<◌, get_or}
use Rattle.std.proofs.Math.Path.{refl}
use Rattle.std.proofs.Common.{arith}
use borrow.Author.Tests.{le-ltb, eq-eqb, ne_eqb}
use Rattle.rules.specs.Sizes.{Sizes}
use Rattle.rules.specs.Cell.{reader}
use Rattle.rules.specs.Free.{next_free}
use Rattle.rules.specs.Rule.{refuse}
use Rattle.rules.specs.Producer.{producer_rules, producer_step}
use Rattle.rules.specs.Consumer.{consumer_rules, consumer_step}
use Rattle.rules.specs.Request.{phase_step}
use Rattle.store.specs.declared.Consumer.{Consumer}
use Rattle.store.specs.declared.Producer.{Producer}
use Rattle.store.specs.Rows.{ReadsConsumer, ReadsProducer}

-- p is none of j + 1 to j + k
abbrev pub Avoids : (j k p : ℕ) → Type 0
Avoids j zero p = Unit
Avoids j (suc k) p = Avoids j k p × (p ≡ suc (k + j) → ⊥)

pub past : (j k p : ℕ) → Avoids j k p → j < p → k + j < p
past j zero p a n = omega arith
past j (suc k) p a n = let h = past j k p a.0 n in let d = a.1 in omega arith

-- The step of an idle thread, and of one in phase k + 1: the rule of that phase. It is not yet counted.
module _ {z : Sizes} {m : List ℕ} {c : Consumer} {t : ℕ} (r : ReadsConsumer z m c) (b : t ≤ z.P) (o : t ≡ 0) where
  pub consumer_idle : c.phase ≡ 0 → phase_step (next_free z (reader z m)) t z (reader z m) ≡ refuse 7
  unfolding phase_step
  consumer_idle p = rw (le-ltb z.P t b, eq-eqb t 0 o, r.phase, p) refl

  pub consumer_steps : (k : ℕ) → c.phase ≡ suc k
      → phase_step (next_free z (reader z m)) t z (reader z m) ≡ get_or consumer_rules (suc k) (λ z σ. refuse 7) z (reader z m)
  unfolding phase_step consumer_step
  consumer_steps k p = rw (le-ltb z.P t b, eq-eqb t 0 o, r.phase, p, ne_eqb (suc k) 0 (λ e. omega arith)) refl

module _ {z : Sizes} {m : List ℕ} {p : Producer} {t : ℕ} (r : ReadsProducer z m t p) (b : t ≤ z.P) (o : t ≡ 0 → ⊥) where
  producer_idle : p.phase ≡ 0 → phase_step (next_free z (reader z m)) t z (reader z m) ≡ refuse 7
  unfolding phase_step
  producer_idle e = rw (le-ltb z.P t b, ne_eqb t 0 o, r.phase, e) refl

  pub producer_steps : (k : ℕ) → p.phase ≡ suc k
      → phase_step (next_free z (reader z m)) t z (reader z m) ≡ get_or (producer_rules (next_free z (reader z m))) (suc k) (λ z σ t. refuse 7) z (reader z m) t
  unfolding phase_step producer_step
  producer_steps k e = rw (le-ltb z.P t b, ne_eqb t 0 o, r.phase, e, ne_eqb (suc k) 0 (λ h. omega arith)) refl

  -- idle, or in phase 1
  pub producer_stays : (k : ℕ) → p.phase ≡ k → Avoids 1 10 k → phase_step (next_free z (reader z m)) t z (reader z m) ≡ refuse 7
  producer_stays zero e a = producer_idle e
  producer_stays (suc zero) e a = producer_steps 0 e
  producer_stays (suc (suc k)) e a = absurd (omega (arith, past 1 10 (suc (suc k)) a (omega arith), r.phase_most))
