-- What *start enqueue* comes to, test by test.
use Rattle.std.specs.Prelude.{◌≡◌, ◌≢◌, ℕ, suc, ◌≤◌, ◌<◌}
use Rattle.std.proofs.Math.Path.{refl}
use Rattle.std.proofs.Common.{arith}
use borrow.Author.Tests.{eq-eqb, ne_eqb, lt-ltb, le-ltb}
use Rattle.rules.specs.Sizes.{Sizes}
use Rattle.rules.specs.Cell.{Reader, tail, starts, phase}
use Rattle.rules.specs.Rule.{refuse, reply, started}
use Rattle.rules.specs.Request.{start_writes, starting_enqueue}

module _ (t v : ℕ) (z : Sizes) (σ : Reader) where
  -- 4: no such producer
  pub consumers_thread : t ≡ 0 → starting_enqueue t v z σ ≡ refuse 4
  unfolding starting_enqueue
  consumers_thread e = rw (eq-eqb t 0 e) refl

  pub past_the_last : z.P < t → starting_enqueue t v z σ ≡ refuse 4
  unfolding starting_enqueue
  past_the_last l = rw (ne_eqb t 0 (λ e. omega arith), lt-ltb z.P t l) refl

  module _ (there : (1 ≤ t) × (t ≤ z.P)) where
    -- 5: that thread has a call under way
    pub under_way : σ (phase t) ≢ 0 → starting_enqueue t v z σ ≡ refuse 5
    unfolding starting_enqueue
    under_way busy = rw (ne_eqb t 0 (λ e. omega arith), le-ltb z.P t there.1, ne_eqb (σ (phase t)) 0 busy) refl

    module _ (idle : σ (phase t) ≡ 0) where
      -- 6: starts equal M
      pub no_start_left : σ starts ≡ z.M → starting_enqueue t v z σ ≡ refuse 6
      unfolding starting_enqueue
      no_start_left e = rw (ne_eqb t 0 (λ e. omega arith), le-ltb z.P t there.1, idle, eq-eqb (σ starts) z.M e) refl

      module _ (some : σ starts ≢ z.M) where
        -- 9: tail equals M
        pub no_position_left : σ tail ≡ z.M → starting_enqueue t v z σ ≡ refuse 9
        unfolding starting_enqueue
        no_position_left e =
            rw (ne_eqb t 0 (λ e. omega arith), le-ltb z.P t there.1, idle, ne_eqb (σ starts) z.M some, eq-eqb (σ tail) z.M e) refl

        pub accepted : σ tail ≢ z.M → starting_enqueue t v z σ ≡ reply (started (suc (σ starts))) (start_writes σ t v)
        unfolding starting_enqueue
        accepted n =
            rw (ne_eqb t 0 (λ e. omega arith), le-ltb z.P t there.1, idle, ne_eqb (σ starts) z.M some, ne_eqb (σ tail) z.M n) refl
