-- What remove answers and leaves, for every head, lists and identifier. Assumes nothing.
use Rattle.std.specs.Prelude.{ℕ, ◌-◌, cond, List, length, eqb}
use Rattle.arrangement.specs.Table.{Table}
use Rattle.arrangement.specs.Walk.{End, found, absent, endless}
use Rattle.arrangement.specs.Changes.{First, after, none, first_settled, removed}
use Rattle.register.specs.declared.head.Head.{Head}
use Rattle.register.specs.Head.{head_of}
use Rattle.register.specs.Slices.{table_of, words_of, counts_of}
use Rattle.register.specs.Answers.{Out, out, answer_of, refusal, absent_answer, open_number}
use Rattle.register.specs.Find.{walk_of}

-- the head with one live record fewer
abbrev pub one_fewer : Head → Head
one_fewer h = head_of h.slots h.rule h.salt (h.live - 1)

-- done: k records move back
abbrev pub remove_done : Head → Table → ℕ → ℕ → ℕ → Out
remove_done h t s p k =
    let u = removed h.slots s k t in
    out (answer_of 0 s (t s).entry p k (one_fewer h)) (words_of h.slots u) (counts_of h.slots u)

-- 6 where every other slot has count 2 or more
abbrev pub remove_run : Head → List ℕ → List ℕ → ℕ → ℕ → First → Out
remove_run h ws cs s p none = out (refusal 6 h) ws cs
remove_run h ws cs s p (after e) = remove_done h (table_of ws cs) s p (e - 1)

-- 6 where live is 0
abbrev pub remove_at_of : Head → List ℕ → List ℕ → ℕ → ℕ → Out
remove_at_of h ws cs s p =
    cond (eqb h.live 0) (out (refusal 6 h) ws cs)
    (remove_run h ws cs s p (first_settled h.slots s (table_of ws cs)))

abbrev pub remove_by : Head → List ℕ → List ℕ → End → Out
remove_by h ws cs (found s p) = remove_at_of h ws cs s p
remove_by h ws cs (absent i p) = out (absent_answer h i p) ws cs
remove_by h ws cs endless = out (refusal 6 h) ws cs

-- remove: 1, 2, the walk (6 or 5), the rest of 6
unfoldable pub remove_of : Head → List ℕ → List ℕ → ℕ → Out
remove_of h ws cs x =
    let n = open_number h (length ws) (length cs) in
    cond (eqb n 0) (remove_by h ws cs (walk_of h (table_of ws cs) x)) (out (refusal n h) ws cs)
