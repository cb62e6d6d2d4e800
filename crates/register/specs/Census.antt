-- What census answers, for every head and lists: it sums any table, damaged or not. Assumes nothing.
use Rattle.std.specs.Prelude.{ℕ, ◌+◌, max, cond, List, [], ◌∷◌, length, eqb}
use Rattle.register.specs.declared.head.Head.{Head}
use Rattle.register.specs.declared.answer.Census.{Census}
use Rattle.register.specs.Answers.{open_number}

-- the greatest count
unfoldable pub greatest_of : List ℕ → ℕ
greatest_of [] = 0
greatest_of (c ∷ cs) = max c (greatest_of cs)

-- the stored total: the sum of all counts
unfoldable pub stored_of : List ℕ → ℕ
stored_of [] = 0
stored_of (c ∷ cs) = c + stored_of cs

-- the absent total: the stored total plus M
abbrev pub absent_of : ℕ → List ℕ → ℕ
absent_of m cs = stored_of cs + m

abbrev pub census_answer : ℕ → ℕ → ℕ → ℕ → Head → Census
census_answer number greatest stored absent head = record { number = number; greatest = greatest; stored = stored; absent = absent; head = head }

-- census knows only 1 and 2
unfoldable pub census_of : Head → List ℕ → List ℕ → Census
census_of h ws cs =
    let n = open_number h (length ws) (length cs) in
    cond (eqb n 0) (census_answer 0 (greatest_of cs) (stored_of cs) (absent_of h.slots cs) h) (census_answer n 0 0 0 h)
