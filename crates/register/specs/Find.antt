-- What find answers, for every head, lists and identifier. Assumes nothing.
use Rattle.std.specs.Prelude.{ℕ, cond, List, length, eqb}
use Rattle.arrangement.specs.Table.{Table}
use Rattle.arrangement.specs.Walk.{End, found, absent, endless, walk}
use Rattle.register.specs.declared.head.Head.{Head}
use Rattle.register.specs.declared.answer.Answer.{Answer}
use Rattle.register.specs.Slices.{table_of}
use Rattle.register.specs.Homes.{home_of}
use Rattle.register.specs.Answers.{answer_of, refusal, absent_answer, open_number}

-- the walk for x from its home
abbrev pub walk_of : Head → Table → ℕ → End
walk_of h t x = walk h.slots (home_of h x) x t

abbrev pub find_by : Head → Table → End → Answer
find_by h t (found i p) = answer_of 0 i (t i).entry p 0 h
find_by h t (absent i p) = absent_answer h i p
find_by h t endless = refusal 6 h

-- find: 1, 2, then the walk
unfoldable pub find_of : Head → List ℕ → List ℕ → ℕ → Answer
find_of h ws cs x =
    let n = open_number h (length ws) (length cs) in
    cond (eqb n 0) (find_by h (table_of ws cs) (walk_of h (table_of ws cs) x)) (refusal n h)
