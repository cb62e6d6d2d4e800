-- What store answers and leaves, for every head, lists, identifier and entry. Assumes nothing.
use Rattle.std.specs.Prelude.{ℕ, ◌+◌, cond, List, length, eqb}
use Rattle.arrangement.specs.Table.{Cell, Table}
use Rattle.arrangement.specs.Walk.{End, found, absent, endless}
use Rattle.arrangement.specs.Changes.{First, after, none, first_empty, any_far, stored}
use Rattle.register.specs.declared.head.Head.{Head}
use Rattle.register.specs.Head.{head_of, most_live_of}
use Rattle.register.specs.Slices.{table_of, words_of, counts_of}
use Rattle.register.specs.Answers.{Out, out, answer_of, refusal, open_number}
use Rattle.register.specs.Find.{walk_of}

-- the record x with entry v as it stands with count p
abbrev pub cell_of : ℕ → ℕ → ℕ → Cell
cell_of p x v = record { count = p; identifier = x; entry = v }

-- the head with one live record more
abbrev pub one_more : Head → Head
one_more h = head_of h.slots h.rule h.salt (h.live + 1)

-- done: the first empty slot lies k slots after s
abbrev pub store_done : Head → Table → ℕ → ℕ → ℕ → ℕ → ℕ → Out
store_done h t x v s p k =
    let u = stored h.slots s k (cell_of p x v) t in
    out (answer_of 0 s v p k (one_more h)) (words_of h.slots u) (counts_of h.slots u)

-- the rest of 6: no empty slot exists, or a record to be moved has count M-1 or more
abbrev pub store_run : Head → List ℕ → List ℕ → ℕ → ℕ → ℕ → ℕ → First → Out
store_run h ws cs x v s p none = out (refusal 6 h) ws cs
store_run h ws cs x v s p (after k) =
    cond (any_far h.slots s (table_of ws cs) k) (out (refusal 6 h) ws cs) (store_done h (table_of ws cs) x v s p k)

-- 4 where live is M-1, then 6 where p is M
abbrev pub store_at_of : Head → List ℕ → List ℕ → ℕ → ℕ → ℕ → ℕ → Out
store_at_of h ws cs x v s p =
    cond (eqb h.live (most_live_of h)) (out (refusal 4 h) ws cs)
    (cond (eqb p h.slots) (out (refusal 6 h) ws cs)
    (store_run h ws cs x v s p (first_empty h.slots s (table_of ws cs))))

abbrev pub store_by : Head → List ℕ → List ℕ → ℕ → ℕ → End → Out
store_by h ws cs x v (found i p) = out (answer_of 3 i (table_of ws cs i).entry p 0 h) ws cs
store_by h ws cs x v (absent s p) = store_at_of h ws cs x v s p
store_by h ws cs x v endless = out (refusal 6 h) ws cs

-- store: 1, 2, the walk (6 or 3), 4, the rest of 6
unfoldable pub store_of : Head → List ℕ → List ℕ → ℕ → ℕ → Out
store_of h ws cs x v =
    let n = open_number h (length ws) (length cs) in
    cond (eqb n 0) (store_by h ws cs x v (walk_of h (table_of ws cs) x)) (out (refusal n h) ws cs)
