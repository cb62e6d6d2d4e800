-- What the private helpers' contracts cite: what an opened register holds, and the helpers' results as document 01's numbers and the arrangement's ends. Assumes nothing.
use Rattle.std.specs.Prelude.{ℕ, ◌*◌, ◌<◌, ◌≡◌, List, length, Option, Some, None, Result, Ok, Err, ⊤}
use Rattle.std.specs.declared.cmp.Ordering.{Ordering}
use Rattle.std.specs.declared.cmp.Ordering.TheVariants.{Less, Equal, Greater}
use Rattle.arrangement.specs.Table.{Table}
use Rattle.arrangement.specs.Walk.{End as Ended, found, absent, endless, Turn, hit, miss, on}
use Rattle.arrangement.specs.Changes.{First, after, none}
use Rattle.register.specs.declared.head.Head.{Head}
use Rattle.register.specs.declared.answer.Answer.{Answer}
use Rattle.register.specs.declared.answer.Census.{Census}
use Rattle.register.specs.declared.refusal.Refusal.{Refusal}
use Rattle.register.specs.declared.walk.End.{End}
use Rattle.register.specs.declared.walk.End.TheVariants.{Found, Absent, Endless}
use Rattle.register.specs.declared.table.Opened.{Opened}
use Rattle.register.specs.declared.table.OpenedMut.{OpenedMut}
use Rattle.register.specs.Answers.{refusal, done_answer, number_of}
use Rattle.register.specs.Census.{census_answer}
use Rattle.register.specs.Slices.{table_of}

-- both lists hold, slot by slot, the table t of m slots
pub record Holds (m : ℕ) (t : Table) (ws cs : List ℕ) : Type 0 where
  pub words : length ws ≡ 2 * m
  pub counts : length cs ≡ m
  pub slots : (i : ℕ) → i < m → table_of ws cs i ≡ t i

-- what stands in the slots of an opened register
abbrev pub table_in : Opened → Table
table_in r = table_of r.words.now r.counts.now

abbrev pub table_in_mut : OpenedMut → Table
table_in_mut r = table_of r.words.now r.counts.now

-- the same head and the same two slices
pub record Kept (r q : OpenedMut) : Type 0 where
  pub head : q.head ≡ r.head
  pub words : q.words.ghost_name ≡ r.words.ghost_name
  pub counts : q.counts.ghost_name ≡ r.counts.ghost_name

-- the same head and slices, which hold the table t
pub record Leaves (r q : OpenedMut) (t : Table) : Type 0 where
  pub kept : Kept r q
  pub holds : Holds r.head.slots t q.words.now q.counts.now

-- the number that an opening comes to: 0 where it does not refuse
abbrev pub number_in : {A : Type 0} → Result A Refusal → ℕ
number_in (Ok a) = 0
number_in (Err r) = number_of r

-- what a call answers: a refusal's number with zeros and the given head
abbrev pub answered : Head → Result Answer Refusal → Answer
answered h (Ok a) = a
answered h (Err r) = refusal (number_of r) h

-- what a call answers that has nothing but its number to say
abbrev pub numbered : Head → Result ⊤ Refusal → Answer
numbered h (Ok u) = done_answer h
numbered h (Err r) = refusal (number_of r) h

abbrev pub counted : Head → Result Census Refusal → Census
counted h (Ok c) = c
counted h (Err r) = census_answer (number_of r) 0 0 0 h

-- x at p is before the record of a slot, at it, or behind it
abbrev pub turn_of : Ordering → Turn
turn_of Less = miss
turn_of Equal = hit
turn_of Greater = on

abbrev pub end_of : End → Ended
end_of (Found i p) = found i p
end_of (Absent i p) = absent i p
end_of Endless = endless

abbrev pub first_of : Option ℕ → First
first_of (Some k) = after k
first_of None = none
