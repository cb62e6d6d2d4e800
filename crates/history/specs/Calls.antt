-- Calls with any arguments, and a list of them run over a head and two slices by the definitions that the contracts cite. Assumes nothing.
use Rattle.std.specs.Prelude.{ℕ, List, [], ◌∷◌}
use Rattle.register.specs.declared.head.Head.{Head}
use Rattle.register.specs.Answers.{Out}
use Rattle.register.specs.Clear.{clear_of}
use Rattle.register.specs.Find.{find_of}
use Rattle.register.specs.Store.{store_of}
use Rattle.register.specs.Remove.{remove_of}
use Rattle.register.specs.Change.{change_of}
use Rattle.register.specs.Check.{check_of}
use Rattle.register.specs.Census.{census_of}

-- the public calls: clear with slot count, rule and salt; the others with identifier and entry
pub data Call : Type 0 where
  clear : ℕ → ℕ → ℕ → Call
  find : ℕ → Call
  store : ℕ → ℕ → Call
  remove : ℕ → Call
  change : ℕ → ℕ → Call
  check : Call
  census : Call

-- a register: the head then held and the two lent slices
pub record State : Type 0 where
  pub head : Head
  pub words : List ℕ
  pub counts : List ℕ

-- the head that a call returned, and both slices as it left them
abbrev pub left : Out → State
left o = record { head = o.answer.head; words = o.words; counts = o.counts }

-- the head that a call returned which writes nothing
abbrev pub kept : Head → State → State
kept h s = record { head = h; words = s.words; counts = s.counts }

-- the register after a call
unfoldable pub after : Call → State → State
after (clear m rule salt) s = left (clear_of s.head m rule salt s.words s.counts)
after (find x) s = kept (find_of s.head s.words s.counts x).head s
after (store x v) s = left (store_of s.head s.words s.counts x v)
after (remove x) s = left (remove_of s.head s.words s.counts x)
after (change x v) s = left (change_of s.head s.words s.counts x v)
after check s = kept (check_of s.head s.words s.counts).head s
after census s = kept (census_of s.head s.words s.counts).head s

-- the register after a list of calls, the first one first
unfoldable pub run : List Call → State → State
run [] s = s
run (c ∷ cs) s = run cs (after c s)
