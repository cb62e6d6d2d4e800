-- What clear answers and leaves, for every old head, settings and lists. Assumes nothing.
use Rattle.std.specs.Prelude.{ℕ, ◌*◌, cond, List, length, replicate, eqb}
use Rattle.register.specs.declared.head.Head.{Head}
use Rattle.register.specs.Head.{head_of}
use Rattle.register.specs.Answers.{Out, out, refusal, done_answer, open_number}

-- the settings M, rule and salt with live count 0
abbrev pub new_head : ℕ → ℕ → ℕ → Head
new_head m rule salt = head_of m rule salt 0

-- clear tests the new M and rule, not the old head, which it hands back when it refuses; else it zeroes both slices
unfoldable pub clear_of : Head → ℕ → ℕ → ℕ → List ℕ → List ℕ → Out
clear_of old m rule salt ws cs =
    let n = open_number (new_head m rule salt) (length ws) (length cs) in
    cond (eqb n 0) (out (done_answer (new_head m rule salt)) (replicate (2 * m) 0) (replicate m 0)) (out (refusal n old) ws cs)
