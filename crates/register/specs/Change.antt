-- What change answers and leaves, for every head, lists, identifier and entry. Assumes nothing.
use Rattle.std.specs.Prelude.{ℕ, cond, List, length, eqb}
use Rattle.arrangement.specs.Table.{Table}
use Rattle.arrangement.specs.Walk.{End, found, absent, endless}
use Rattle.arrangement.specs.Changes.{changed}
use Rattle.register.specs.declared.head.Head.{Head}
use Rattle.register.specs.Slices.{table_of, words_of, counts_of}
use Rattle.register.specs.Answers.{Out, out, answer_of, refusal, absent_answer, open_number}
use Rattle.register.specs.Find.{walk_of}

-- done: one word is written
abbrev pub change_done : Head → Table → ℕ → ℕ → ℕ → Out
change_done h t v s p =
    let u = changed s v t in
    out (answer_of 0 s v p 0 h) (words_of h.slots u) (counts_of h.slots u)

abbrev pub change_by : Head → List ℕ → List ℕ → ℕ → End → Out
change_by h ws cs v (found s p) = change_done h (table_of ws cs) v s p
change_by h ws cs v (absent i p) = out (absent_answer h i p) ws cs
change_by h ws cs v endless = out (refusal 6 h) ws cs

-- change: 1, 2, then the walk (6 or 5)
unfoldable pub change_of : Head → List ℕ → List ℕ → ℕ → ℕ → Out
change_of h ws cs x v =
    let n = open_number h (length ws) (length cs) in
    cond (eqb n 0) (change_by h ws cs v (walk_of h (table_of ws cs) x)) (out (refusal n h) ws cs)
