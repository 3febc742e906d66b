-- From the line to the order: the line of the items given and left is the one of the order, and its calls are all that the order has.
use mathlib.Core.Path.{◌≡◌, sym, ap, ◌∙◌}
use mathlib.Core.Logic.{◌≢◌}
use mathlib.Core.Bool.{Bool, false, ◌||◌}
use mathlib.Core.List.{List, [], ◌++◌, map}
use Prim.Native.Nat.{ℕ, ◌+◌, ◌<◌}
use native.Mathlib.Omega.{arith}
use lib.ListN.{length, length-map, length-append, get_or, take, drop, replicate, get_or-replicate}
use lib.Seq.{length-take-le, take-length}
use Rattle.history.specs.Lists.{All}
use Rattle.criterion.specs.Members.{all_append}
use Rattle.criterion.specs.Parts.{dequeues_of}
use Rattle.criterion.specs.Pass.{has}
use Rattle.criterion.specs.Order.{place, taken, remain, ordered, starting_number, order_numbers}
use Rattle.reading.specs.Table.{thread_at, calls_in}
use Rattle.marking.specs.Marks.{enqueue_at}
use Rattle.laying.specs.Laying.{Laying, Laid}
use Rattle.laying.specs.Line.{count_to, gather_to, answers_at, item_at, left_at, Flags, Lined, Lays, enqueues_in, line_numbers}
use Rattle.laying.proofs.Placing.{length_place}
use Rattle.laying.proofs.Lining.{all_get_d, answers_count, items_count, items_stand, left_stand, line_is}

module _ (m items : List ℕ) (c room : ℕ) (asked : Laying m items c room) (n : ℕ) (whole : n ≡ 4096) (flags : List Bool)
    (flagging : Flags (replicate n false) flags (gather_to (item_at m items) c)) where
  abbrev given : List ℕ
  given = gather_to (item_at m items) c

  abbrev rest : List ℕ
  rest = gather_to (left_at m flags) c

  flagged : (i : ℕ) → i < c → get_or flags i false ≡ has i given
  flagged i l =
      let few = asked.few in
      flagging.flagged i (omega arith) ∙ ap (λ z. z || has i given) (get_or-replicate n i false false (omega arith))

  module _ (none first line : List ℕ) (t e : ℕ) (empty : none ≡ []) (lines-given : first ≡ none ++ given) (are : t ≡ length first) (lines-rest : line ≡ first ++ rest)
      (answered : e ≡ count_to (answers_at m) c) where
    abbrev p : ℕ
    p = length line

    first_is : first ≡ given
    first_is = lines-given ∙ ap (λ z. z ++ given) empty

    lines : line ≡ given ++ rest
    lines = lines-rest ∙ ap (λ z. z ++ rest) first_is

    standing : All (λ i. (i < c) × (thread_at m i ≢ 0)) line
    standing =
        rw lines
        (all_append _ given rest (items_stand m items c asked.numbered asked.located c (omega arith))
        (left_stand m items c asked.numbered asked.located flags flagged c (omega arith)))

    lined : Lined m line c p
    lined = record {
      few = omega arith;
      within = λ k l. (all_get_d _ line k standing l).0;
      enqueues = λ k l. (all_get_d _ line k standing l).1;
    }

    queue_is : enqueues_in m line p ≡ taken (calls_in m c) (dequeues_of (calls_in m c)) ++ remain (calls_in m c)
    queue_is =
        ap (map (enqueue_at m)) (take-length line ∙ lines)
        ∙ line_is m items c asked.numbered asked.located flags flagged

    order_is : order_numbers (calls_in m c) ≡ line_numbers m line c p
    unfolding order_numbers ordered line_numbers
    order_is = rw queue_is

    pub order_length : length (order_numbers (calls_in m c)) ≡ p + e
    unfolding line_numbers
    order_length =
        let cs = calls_in m c in
        let ds = dequeues_of cs in
        let q = enqueues_in m line p in
        let a = length-map (place ds [] q) (starting_number cs) in
        let b = length_place ds [] q in
        let d = answers_count m c in
        let g = length-map (take p line) (enqueue_at m) in
        let h = length-take-le p line (omega arith) in
        ap length order_is ∙ (omega arith)

    pub may_lay : Lays m line c t p e room
    may_lay =
        let o = order_length in
        let f = asked.fits in
        let a = items_count m items c in
        let b = ap length first_is in
        let d = ap length lines-rest in
        let g = length-append first rest in
        record {
          few = asked.few;
          lined = lined;
          items = omega arith;
          within = omega arith;
          dequeues = answered;
          rising = asked.rising;
          fits = omega arith;
        }

    pub laid_is :
        (before after : List ℕ) → after ≡ line_numbers m line c p ++ drop (p + e) before → Laid (calls_in m c) before after (p + e)
    laid_is before after q = record { count = sym order_length; laid = q ∙ ap (λ z. z ++ drop (p + e) before) (sym order_is) }
