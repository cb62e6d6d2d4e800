-- The line of an answer: document 01, "Frames". Assumes nothing.
use Rattle.std.specs.Prelude.{ℕ, cond, List, ◌++◌, length, drop, ltb}
use Rattle.digits.specs.Digits.{ended}
use Rattle.register.specs.declared.answer.Answer.{Answer}

-- number (2), slot (4), entry (16), probes (4), moved (4), live (4; always that of the head then held), parted by one blank, and a newline
unfoldable pub line_of : Answer → List ℕ
line_of a =
    ended 2 a.number 32 ++
    (ended 4 a.slot 32 ++ (ended 16 a.entry 32 ++ (ended 4 a.probes 32 ++ (ended 4 a.moved 32 ++ ended 4 a.head.live 10))))

-- a buffer of at least 40 bytes begins with the line, and is otherwise as it was; a shorter one stays as it is
unfoldable pub print_of : Answer → List ℕ → List ℕ
print_of a buffer = cond (ltb (length buffer) 40) buffer (line_of a ++ drop 40 buffer)
