-- One line served: document 01, "Frames". It cites the register's own definitions. Assumes nothing.
use Rattle.std.specs.Prelude.{ℕ, ◌*◌, Option, Some, None, List, ◌++◌, take, drop}
use Rattle.register.specs.declared.head.Head.{Head}
use Rattle.register.specs.Answers.{Out, out, refusal}
use Rattle.register.specs.Clear.{clear_of}
use Rattle.register.specs.Store.{store_of}
use Rattle.register.specs.Find.{find_of}
use Rattle.register.specs.Remove.{remove_of}
use Rattle.register.specs.Change.{change_of}
use Rattle.register.specs.Check.{check_of}
use Rattle.frames.specs.declared.frame.Frame.{Frame}
use Rattle.frames.specs.declared.frame.Frame.TheVariants.{Clear, Store, Find, Remove, Change, Check}
use Rattle.frames.specs.Parsing.{parse_of}
use Rattle.frames.specs.Printing.{print_of}

-- the call of a frame: each is the register's own; find and check write nothing
abbrev pub call_of : Head → List ℕ → List ℕ → Frame → Out
call_of h ws cs (Clear m rule salt) = clear_of h m rule salt ws cs
call_of h ws cs (Store x v) = store_of h ws cs x v
call_of h ws cs (Find x) = out (find_of h ws cs x) ws cs
call_of h ws cs (Remove x) = remove_of h ws cs x
call_of h ws cs (Change x v) = change_of h ws cs x v
call_of h ws cs Check = out (check_of h ws cs) ws cs

-- a clear is for the M that it asks, every other call for the M of the head
abbrev pub slots_of : Head → Frame → ℕ
slots_of h (Clear m rule salt) = m
slots_of h (Store x v) = h.slots
slots_of h (Find x) = h.slots
slots_of h (Remove x) = h.slots
slots_of h (Change x v) = h.slots
slots_of h Check = h.slots

-- the register has the room's first 2M words and M counts, or all where there are fewer (the call then answers 2, or 1); the rest stays
unfoldable pub room_of : Head → List ℕ → List ℕ → Frame → Out
room_of h ws cs f =
    let m = slots_of h f in
    let o = call_of h (take (2 * m) ws) (take m cs) f in
    out o.answer (o.words ++ drop (2 * m) ws) (o.counts ++ drop m cs)

-- a line that yields no frame gets answer 7
abbrev pub answered_of : Head → List ℕ → List ℕ → Option Frame → Out
answered_of h ws cs (Some f) = room_of h ws cs f
answered_of h ws cs None = out (refusal 7 h) ws cs

-- the head, both lists and the buffer after a line
pub record Served : Type 0 where
  pub head : Head
  pub words : List ℕ
  pub counts : List ℕ
  pub buffer : List ℕ

abbrev pub served : Head → List ℕ → List ℕ → List ℕ → Served
served h ws cs buffer = record { head = h; words = ws; counts = cs; buffer = buffer }

abbrev pub served_by : Out → List ℕ → Served
served_by o buffer = served o.answer.head o.words o.counts (print_of o.answer buffer)

-- each line gives one answer line
unfoldable pub serve_of : Head → List ℕ → List ℕ → List ℕ → List ℕ → Served
serve_of h ws cs line buffer = served_by (answered_of h ws cs (parse_of line)) buffer
