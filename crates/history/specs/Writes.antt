-- What a call may write, on every input, damaged or not: document 01, "The walk and the changes". Assumes nothing.
use Rattle.std.specs.Prelude.{ℕ, ◌<◌, ◌≡◌, List}
use Rattle.arrangement.specs.Table.{rank}
use Rattle.register.specs.declared.head.Head.{Head}
use Rattle.register.specs.Slices.{table_of}
use Rattle.register.specs.Answers.{Out}
use Rattle.history.specs.Mapped.{Untouched}

-- a refusal returns the given head and writes nothing; a call done writes no slot but those from its slot on, as many after it as records moved
pub record Writes (h : Head) (ws cs : List ℕ) (o : Out) : Type 0 where
  pub refused : (o.answer.number ≡ 0 → ⊥) → Untouched h ws cs o
  pub outside : o.answer.number ≡ 0 → (i : ℕ) → i < h.slots → o.answer.moved < rank h.slots o.answer.slot i
      → table_of o.words o.counts i ≡ table_of ws cs i
