-- The program's room, a list of lines served in it, and the records that the lines leave live, counted from the lines by the map's rule
-- and never from the answers: document 01, "Frames" and "How tight each call's statement is". Assumes nothing.
use Rattle.std.specs.Prelude.{ℕ, ◌*◌, Bool, false, cond, Option, Some, None, List, [], ◌∷◌, take, leb}
use Rattle.register.specs.declared.head.Head.{Head}
use Rattle.register.specs.Head.{good_head}
use Rattle.register.specs.Answers.{Out}
use Rattle.register.specs.Clear.{new_head}
use Rattle.history.specs.Calls.{State, store, remove, change}
use Rattle.history.specs.Live.{Live, none_live, after_live}
use Rattle.frames.specs.declared.frame.Frame.{Frame}
use Rattle.frames.specs.declared.frame.Frame.TheVariants.{Clear, Store, Find, Remove, Change, Check}
use Rattle.frames.specs.Parsing.{parse_of}
use Rattle.frames.specs.Serving.{answered_of}

-- the room: the head then held, and all its words and counts
pub record Room : Type 0 where
  pub head : Head
  pub words : List ℕ
  pub counts : List ℕ

-- the register in the room: the head's first 2M words and M counts
abbrev pub register_in : Room → State
register_in r = record { head = r.head; words = take (2 * r.head.slots) r.words; counts = take r.head.slots r.counts }

-- the room that an answer leaves
abbrev pub leaves : Out → Room
leaves o = record { head = o.answer.head; words = o.words; counts = o.counts }

-- the room after a line: the head and both slices that serve gives
abbrev pub after_line : List ℕ → Room → Room
after_line line r = leaves (answered_of r.head r.words r.counts (parse_of line))

-- the room after a list of lines, the first one first
unfoldable pub after_lines : List (List ℕ) → Room → Room
after_lines [] r = r
after_lines (line ∷ lines) r = after_lines lines (after_line line r)

-- a clear is accepted: its head is good, and the room has 2M words and M counts
abbrev pub room_clear : ℕ → ℕ → ℕ → ℕ → ℕ → Bool
room_clear m rule salt words counts = cond (good_head (new_head m rule salt)) (cond (leb (2 * m) words) (leb m counts) false) false

-- what is live after a frame: an accepted clear empties, the other calls are as in every history
abbrev pub frame_live : ℕ → ℕ → Frame → Live → Live
frame_live words counts (Clear m rule salt) l = cond (room_clear m rule salt words counts) (none_live m rule salt) l
frame_live words counts (Store x v) l = after_live words counts (store x v) l
frame_live words counts (Find x) l = l
frame_live words counts (Remove x) l = after_live words counts (remove x) l
frame_live words counts (Change x v) l = after_live words counts (change x v) l
frame_live words counts Check l = l

-- a bad line leaves all as it is
abbrev pub line_live : ℕ → ℕ → Option Frame → Live → Live
line_live words counts (Some f) l = frame_live words counts f l
line_live words counts None l = l

-- what is live after a list of lines
unfoldable pub lines_live : ℕ → ℕ → List (List ℕ) → Live → Live
lines_live words counts [] l = l
lines_live words counts (line ∷ lines) l = lines_live words counts lines (line_live words counts (parse_of line) l)
