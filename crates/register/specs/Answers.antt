-- Answers and refusals: document 01, "Numbers that come back". Assumes nothing.
use Rattle.std.specs.Prelude.{ℕ, ◌*◌, cond, List, eqb}
use Rattle.register.specs.declared.head.Head.{Head}
use Rattle.register.specs.declared.answer.Answer.{Answer}
use Rattle.register.specs.declared.refusal.Refusal.{Refusal}
use Rattle.register.specs.declared.refusal.Refusal.TheVariants.{BadHead, BadLength, AlreadyNamed, Full, Absent, Damaged, BadFrame}
use Rattle.register.specs.Head.{good_head}

-- the number of a refusal, row by row of the table
abbrev pub number_of : Refusal → ℕ
number_of BadHead = 1
number_of BadLength = 2
number_of AlreadyNamed = 3
number_of Full = 4
number_of Absent = 5
number_of Damaged = 6
number_of BadFrame = 7

-- an answer with all its fields
abbrev pub answer_of : ℕ → ℕ → ℕ → ℕ → ℕ → Head → Answer
answer_of number slot entry probes moved head = record { number = number; slot = slot; entry = entry; probes = probes; moved = moved; head = head }

-- a refusal with zeros; it returns the given head
abbrev pub refusal : ℕ → Head → Answer
refusal number head = answer_of number 0 0 0 0 head

-- done with zeros, as clear and check answer
abbrev pub done_answer : Head → Answer
done_answer head = answer_of 0 0 0 0 0 head

-- absent: the walk ended at a slot with p, and the answer carries both (request One)
abbrev pub absent_answer : Head → ℕ → ℕ → Answer
absent_answer head slot p = answer_of 5 slot 0 p 0 head

-- an answer with both lists afterwards
pub record Out : Type 0 where
  pub answer : Answer
  pub words : List ℕ
  pub counts : List ℕ

abbrev pub out : Answer → List ℕ → List ℕ → Out
out a ws cs = record { answer = a; words = ws; counts = cs }

-- 2: the words are not 2M or the counts not M
unfoldable pub length_number : ℕ → ℕ → ℕ → ℕ
length_number m words counts = cond (eqb words (2 * m)) (cond (eqb counts m) 0 2) 2

-- 1: a bad head; then the lengths; 0 where neither refuses
unfoldable pub open_number : Head → ℕ → ℕ → ℕ
open_number h words counts = cond (good_head h) (length_number h.slots words counts) 1
