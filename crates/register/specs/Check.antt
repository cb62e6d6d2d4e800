-- What check answers, for every head and lists: from each slot and the one before it. Assumes nothing.
use Rattle.std.specs.Prelude.{ℕ, zero, suc, ◌+◌, ◌-◌, Bool, true, false, cond, List, length, eqb, leb, ltb}
use Rattle.arrangement.specs.Table.{Cell, Table, occupied}
use Rattle.arrangement.specs.Proper.{slot_at}
use Rattle.arrangement.specs.Changes.{prior}
use Rattle.register.specs.declared.head.Head.{Head}
use Rattle.register.specs.declared.answer.Answer.{Answer}
use Rattle.register.specs.Slices.{table_of}
use Rattle.register.specs.Homes.{home_of}
use Rattle.register.specs.Answers.{refusal, done_answer, open_number}

-- an empty slot's two words are 0
abbrev pub is_empty_good : ℕ → ℕ → Bool
is_empty_good x v = cond (eqb x 0) (eqb v 0) false

-- behind a slot with count d and identifier y: a count c of 2 or more is not larger by 2 or more, and where larger by 1 its identifier x is above y
abbrev pub behind_good : ℕ → ℕ → ℕ → ℕ → Bool
behind_good d y c x = cond (leb c 1) true (cond (leb c d) true (cond (eqb c (d + 1)) (ltb y x) false))

-- a record's count is at most M-1, agrees with its home, and may stand behind the slot before
abbrev pub record_good : ℕ → ℕ → ℕ → Cell → Cell → Bool
record_good m home i before c =
    cond (leb c.count (m - 1))
    (cond (eqb (slot_at m home c.count) i) (behind_good before.count before.identifier c.count c.identifier) false)
    false

-- what check says of slot i, from that slot and the one before it
unfoldable pub is_slot_good : Head → Table → ℕ → Bool
is_slot_good h t i =
    cond (eqb (t i).count 0) (is_empty_good (t i).identifier (t i).entry)
    (record_good h.slots (home_of h (t i).identifier) i (t (prior h.slots i)) (t i))

-- what it says of n slots from slot i on
unfoldable pub are_slots_good : Head → Table → ℕ → ℕ → Bool
are_slots_good h t i zero = true
are_slots_good h t i (suc n) = cond (is_slot_good h t i) (are_slots_good h t (suc i) n) false

-- check accepts: every slot is good, and the number of occupied slots equals the live count
unfoldable pub accepts : Head → Table → Bool
accepts h t = cond (are_slots_good h t 0 h.slots) (eqb (occupied h.slots t) h.live) false

-- check: 1, 2, then 6 where it does not accept
unfoldable pub check_of : Head → List ℕ → List ℕ → Answer
check_of h ws cs =
    let n = open_number h (length ws) (length cs) in
    cond (eqb n 0) (cond (accepts h (table_of ws cs)) (done_answer h) (refusal 6 h)) (refusal n h)
