-- The live records counted from the calls by the map's rule, never from answers: document 01, "How tight each call's statement is". Assumes nothing.
use Rattle.std.specs.Prelude.{ℕ, ◌*◌, ◌<◌, ◌≤◌, ◌≡◌, Bool, true, false, cond, List, [], ◌∷◌, ◌++◌, length, eqb, ltb}
use Rattle.arrangement.specs.Table.{Cell, Record, Among, without}
use Rattle.arrangement.specs.Afresh.{arranged}
use Rattle.register.specs.declared.head.Head.{Head}
use Rattle.register.specs.declared.answer.Answer.{Answer}
use Rattle.register.specs.Head.{head_of, most_live_of, good_head}
use Rattle.register.specs.Homes.{space_of}
use Rattle.register.specs.Clear.{new_head}
use Rattle.register.specs.Slices.{table_of, words_of, counts_of}
use Rattle.register.specs.Find.{find_of}
use Rattle.history.specs.Map.{Found, live, missing, lookup}
use Rattle.history.specs.Calls.{Call, clear, find, store, remove, change, check, census, State, run}

-- the settings of the latest valid clear, and the records live since, by rising identifier
pub record Live : Type 0 where
  pub slots : ℕ
  pub rule : ℕ
  pub salt : ℕ
  pub records : List Record

-- these settings with other records
abbrev pub having : List Record → Live → Live
having rs l = record { slots = l.slots; rule = l.rule; salt = l.salt; records = rs }

-- the head of the live records: their settings and their number
abbrev pub head_for : Live → Head
head_for l = head_of l.slots l.rule l.salt (length l.records)

-- a record put among records, before the first with a larger identifier
unfoldable pub insert : Record → List Record → List Record
insert r [] = r ∷ []
insert r (q ∷ qs) = let rest = insert r qs in cond (ltb r.identifier q.identifier) (r ∷ q ∷ qs) (q ∷ rest)

-- a clear is valid: its head is good, and the slices are 2M words and M counts
abbrev pub valid_clear : ℕ → ℕ → ℕ → ℕ → ℕ → Bool
valid_clear m rule salt words counts = cond (good_head (new_head m rule salt)) (cond (eqb words (2 * m)) (eqb counts m) false) false

-- under these settings nothing is live
abbrev pub none_live : ℕ → ℕ → ℕ → Live
none_live m rule salt = record { slots = m; rule = rule; salt = salt; records = [] }

-- fewer than M-1 are live
abbrev pub has_room : Live → Bool
has_room l = ltb (length l.records) (most_live_of (head_for l))

-- a store adds its record if the identifier isn't live and fewer than M-1 are
abbrev pub added : ℕ → ℕ → Live → Found → Live
added x v l (live e) = l
added x v l missing = cond (has_room l) (having (insert (record { identifier = x; entry = v }) l.records) l) l

-- a change of a live identifier takes its record out and puts it in with the new entry
abbrev pub renewed : ℕ → ℕ → Live → Found → Live
renewed x v l (live e) = having (insert (record { identifier = x; entry = v }) (without x l.records)) l
renewed x v l missing = l

-- what is live after a call on slices of these lengths: a valid clear empties, a remove takes out, and a call that asks leaves all as it is
unfoldable pub after_live : ℕ → ℕ → Call → Live → Live
after_live words counts (clear m rule salt) l = cond (valid_clear m rule salt words counts) (none_live m rule salt) l
after_live words counts (find x) l = l
after_live words counts (store x v) l = added x v l (lookup x l.records)
after_live words counts (remove x) l = having (without x l.records) l
after_live words counts (change x v) l = renewed x v l (lookup x l.records)
after_live words counts check l = l
after_live words counts census l = l

-- what is live after a list of calls
unfoldable pub run_live : ℕ → ℕ → List Call → Live → Live
run_live words counts [] l = l
run_live words counts (c ∷ cs) l = run_live words counts cs (after_live words counts c l)

-- records by rising identifier, none twice: each lies below all that follow it
unfoldable pub Rising : List Record → Type 0
Rising [] = Unit {0}
Rising (r ∷ rs) = ((q : Record) → Among q rs → r.identifier < q.identifier) × Rising rs

-- a register is, in every word and count, the arrangement worked out afresh from its live records
pub record Afresh (s : State) (l : Live) : Type 0 where
  pub some : 0 < l.slots
  pub few : length l.records ≤ most_live_of (head_for l)
  pub rising : Rising l.records
  pub head : s.head ≡ head_for l
  pub words : s.words ≡ words_of l.slots (arranged (space_of (head_for l) some) l.records)
  pub counts : s.counts ≡ counts_of l.slots (arranged (space_of (head_for l) some) l.records)

-- a history: slices of any contents under any head, a valid clear, and then any calls
pub record History : Type 0 where
  pub before : State
  pub slots : ℕ
  pub rule : ℕ
  pub salt : ℕ
  pub calls : List Call
  pub valid : valid_clear slots rule salt (length before.words) (length before.counts) ≡ true

-- all its calls
abbrev pub calls_of : History → List Call
calls_of H = clear H.slots H.rule H.salt ∷ H.calls

-- the register at its end
abbrev pub ended : History → State
ended H = run (calls_of H) H.before

-- what is live at its end
abbrev pub live_in : History → Live
live_in H = run_live (length H.before.words) (length H.before.counts) H.calls (none_live H.slots H.rule H.salt)

-- demand 3, of a way to run lists of calls: at the end of every history the register is its live records' arrangement
abbrev pub Kept : (List Call → State → State) → Type 0
Kept runs = (H : History) → Afresh (runs (calls_of H) H.before) (live_in H)

-- the same settings and the same live records
pub record SameLive (l k : Live) : Type 0 where
  pub slots : l.slots ≡ k.slots
  pub rule : l.rule ≡ k.rule
  pub salt : l.salt ≡ k.salt
  pub records : (x : ℕ) → lookup x l.records ≡ lookup x k.records

-- a history with one call more
abbrev pub and : History → Call → History
and H c = record { before = H.before; slots = H.slots; rule = H.rule; salt = H.salt; calls = H.calls ++ c ∷ []; valid = H.valid }

-- slot i at the end of a history
abbrev pub slot_in : History → ℕ → Cell
slot_in H i = table_of (ended H).words (ended H).counts i

-- what find answers at the end of a history
abbrev pub find_in : History → ℕ → Answer
find_in H x = find_of (ended H).head (ended H).words (ended H).counts x
