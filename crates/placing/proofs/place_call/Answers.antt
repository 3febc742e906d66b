-- `placing::place_call` meets its contract.
use Rattle.std.proofs.Common.{◌≡◌, refl, List, [], ◌∷◌, ℕ, suc, arith}
use Rattle.rules.specs.Sizes.{Sizes}
use Rattle.rules.specs.Cell.{Reader, reader, writes, ◌:=◌, starts, tail, phase, call, value, position, enqueue_steps}
use Rattle.rules.specs.Request.{start_writes}
use Rattle.store.specs.Shape.{sizes}
use Rattle.placing.proofs.place_call.Goals as goal

-- the words of a start, number by number
number-by-number : (z : Sizes) (m : List ℕ) (σ : Reader) (t v : ℕ) {a b p c x y k : ℕ} → a ≡ suc (σ starts) → b ≡ suc (σ tail) → p ≡ 2 → c ≡ suc (σ starts) → x ≡ v → y ≡ σ tail → k ≡ 1
    → writes z m (starts := a ∷ tail := b ∷ phase t := p ∷ call t := c ∷ value t := x ∷ position t := y ∷ enqueue_steps t := k ∷ []) ≡ writes z m (start_writes σ t v)
number-by-number z m σ t v e f g h i j o = rw (e, f, g, h, i, j, o) refl

pub returns : goal.returns
unfolding writes
returns c =
    let a = c.args in
    let q = c.contents-q in (
      omega (arith, q.ensures.starts),
      rw (c.put_producer-5.ensures, c.put_producer-4.ensures, c.put_producer-3.ensures, c.put_producer-2.ensures, c.put_producer.ensures, c.put_content-2.ensures, c.put_content.ensures)
          (number-by-number (sizes a.z) a.s.now (reader (sizes a.z) a.s.now) a.t a.v (omega (arith, q.ensures.starts)) (omega (arith, q.ensures.tail)) (omega arith) (omega (arith, q.ensures.starts)) (omega arith) (omega (arith, q.ensures.tail)) (omega arith)),
    )
