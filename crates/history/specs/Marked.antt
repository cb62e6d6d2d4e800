-- The twelve marked cases of document 01, as data: a register, one call, the answer, and every slot afterwards. Assumes nothing.
use Rattle.std.specs.Prelude.{ℕ, ◌*◌, List, [], ◌∷◌, replicate}
use Rattle.register.specs.declared.answer.Answer.{Answer}
use Rattle.register.specs.declared.answer.Census.{Census}
use Rattle.register.specs.Head.{head_of}
use Rattle.register.specs.Answers.{answer_of}
use Rattle.register.specs.Clear.{clear_of}
use Rattle.register.specs.Find.{find_of}
use Rattle.register.specs.Store.{store_of}
use Rattle.register.specs.Remove.{remove_of}
use Rattle.register.specs.Change.{change_of}
use Rattle.register.specs.Check.{check_of}
use Rattle.register.specs.Census.{census_of, census_answer}
use Rattle.history.specs.Calls.{Call, clear, find, store, remove, change, check, census, State, after, run}

-- what a call answers
pub data Reply : Type 0 where
  answered : Answer → Reply
  counted : Census → Reply

unfoldable pub reply_to : Call → State → Reply
reply_to (clear m rule salt) s = answered (clear_of s.head m rule salt s.words s.counts).answer
reply_to (find x) s = answered (find_of s.head s.words s.counts x)
reply_to (store x v) s = answered (store_of s.head s.words s.counts x v).answer
reply_to (remove x) s = answered (remove_of s.head s.words s.counts x).answer
reply_to (change x v) s = answered (change_of s.head s.words s.counts x v).answer
reply_to check s = answered (check_of s.head s.words s.counts)
reply_to census s = counted (census_of s.head s.words s.counts)

-- what comes of a call: the answer with all its fields, and both slices afterwards
pub record Outcome : Type 0 where
  pub reply : Reply
  pub words : List ℕ
  pub counts : List ℕ

-- a marked case: its number, a register, a call on it, and what is to come of it
pub record Case : Type 0 where
  pub number : ℕ
  pub register : State
  pub call : Call
  pub wanted : Outcome

-- what does come of it
abbrev pub outcome : Case → Outcome
outcome c =
    let s = after c.call c.register in
    record { reply = reply_to c.call c.register; words = s.words; counts = s.counts }

-- m slots of junk, cleared under rule 0, and then these calls
abbrev pub built : ℕ → List Call → State
built m calls = run (clear m 0 0 ∷ calls) (record { head = head_of 0 0 0 0; words = replicate (2 * m) 9; counts = replicate m 9 })

-- an answer by its number, slot, entry, probes and moved, with the head of m slots under rule 0 and its live count
abbrev pub says : ℕ → ℕ → ℕ → ℕ → ℕ → ℕ → ℕ → Reply
says number slot entry probes moved m live = answered (answer_of number slot entry probes moved (head_of m 0 0 live))

-- the calls that lead to P2, P3 and P4
abbrev pub to_p2 : List Call
to_p2 = store 0x07 0xa7 ∷ store 0x0f 0xaf ∷ store 0x08 0xa8 ∷ store 0x10 0xb0 ∷ []

abbrev pub to_p3 : List Call
to_p3 = store 0x07 0xa7 ∷ store 0x0f 0xaf ∷ store 0x08 0xa8 ∷ store 0x10 0xb0 ∷ store 0x01 0xa1 ∷ []

abbrev pub to_p4 : List Call
to_p4 = store 0x07 0xa7 ∷ store 0x0f 0xaf ∷ store 0x08 0xa8 ∷ store 0x10 0xb0 ∷ store 0x01 0xa1 ∷ remove 0x07 ∷ []

-- two slots of words 0 and counts 2, live 0
abbrev pub two_twos : State
two_twos = record { head = head_of 2 0 0 0; words = 0 ∷ 0 ∷ 0 ∷ 0 ∷ []; counts = 2 ∷ 2 ∷ [] }

-- both slices by slot: identifier, entry; count
abbrev pub p1_words : List ℕ
p1_words = 0x08 ∷ 0xa8 ∷ 0x10 ∷ 0xb0 ∷ 0 ∷ 0 ∷ 0 ∷ 0 ∷ 0 ∷ 0 ∷ 0 ∷ 0 ∷ 0 ∷ 0 ∷ 0 ∷ 0 ∷ []

abbrev pub p1_counts : List ℕ
p1_counts = 1 ∷ 2 ∷ 0 ∷ 0 ∷ 0 ∷ 0 ∷ 0 ∷ 0 ∷ []

abbrev pub p4_words : List ℕ
p4_words = 0x08 ∷ 0xa8 ∷ 0x10 ∷ 0xb0 ∷ 0x01 ∷ 0xa1 ∷ 0 ∷ 0 ∷ 0 ∷ 0 ∷ 0 ∷ 0 ∷ 0 ∷ 0 ∷ 0x0f ∷ 0xaf ∷ []

abbrev pub p4_counts : List ℕ
p4_counts = 1 ∷ 2 ∷ 2 ∷ 0 ∷ 0 ∷ 0 ∷ 0 ∷ 1 ∷ []

abbrev pub case_of : ℕ → State → Call → Reply → List ℕ → List ℕ → Case
case_of number register call reply words counts =
    record { number = number; register = register; call = call; wanted = record { reply = reply; words = words; counts = counts } }

-- P1 to P12
unfoldable pub cases : List Case
cases =
    -- P1: 08, 10, either order: slots 0, 1; counts 1, 2
    case_of 1 (built 8 (store 0x08 0xa8 ∷ [])) (store 0x10 0xb0) (says 0 1 0xb0 2 0 8 2) p1_words p1_counts
    ∷ case_of 1 (built 8 (store 0x10 0xb0 ∷ [])) (store 0x08 0xa8) (says 0 0 0xa8 1 1 8 2) p1_words p1_counts
    -- P2: 07, 0f, 08, 10: slots 7, 0, 1, 2; counts 1, 2, 2, 3
    ∷ case_of 2 (built 8 (store 0x07 0xa7 ∷ store 0x0f 0xaf ∷ store 0x08 0xa8 ∷ [])) (store 0x10 0xb0) (says 0 2 0xb0 3 0 8 4)
    (0x0f ∷ 0xaf ∷ 0x08 ∷ 0xa8 ∷ 0x10 ∷ 0xb0 ∷ 0 ∷ 0 ∷ 0 ∷ 0 ∷ 0 ∷ 0 ∷ 0 ∷ 0 ∷ 0x07 ∷ 0xa7 ∷ [])
    (2 ∷ 2 ∷ 3 ∷ 0 ∷ 0 ∷ 0 ∷ 0 ∷ 1 ∷ [])
    -- P3: 01 stored in P2: slot 3, count 3
    ∷ case_of 3 (built 8 to_p2) (store 0x01 0xa1) (says 0 3 0xa1 3 0 8 5)
    (0x0f ∷ 0xaf ∷ 0x08 ∷ 0xa8 ∷ 0x10 ∷ 0xb0 ∷ 0x01 ∷ 0xa1 ∷ 0 ∷ 0 ∷ 0 ∷ 0 ∷ 0 ∷ 0 ∷ 0x07 ∷ 0xa7 ∷ [])
    (2 ∷ 2 ∷ 3 ∷ 3 ∷ 0 ∷ 0 ∷ 0 ∷ 1 ∷ [])
    -- P4: 07 removed from P3: 08, 10, 01 at slots 0, 1, 2, counts 1, 2, 2; 0f at slot 7, count 1
    ∷ case_of 4 (built 8 to_p3) (remove 0x07) (says 0 7 0xa7 1 4 8 4) p4_words p4_counts
    -- P5: find 09 in P4: absent, 3 probes, slot 3
    ∷ case_of 5 (built 8 to_p4) (find 0x09) (says 5 3 0 3 0 8 4) p4_words p4_counts
    -- P6: find 00 in P4: absent, 1 probe, slot 0
    ∷ case_of 6 (built 8 to_p4) (find 0x00) (says 5 0 0 1 0 8 4) p4_words p4_counts
    -- P7: M = 2, 05 stored at slot 1; store 05 gives 3, store 04 gives 4
    ∷ case_of 7 (built 2 []) (store 0x05 0xa5) (says 0 1 0xa5 1 0 2 1) (0 ∷ 0 ∷ 0x05 ∷ 0xa5 ∷ []) (0 ∷ 1 ∷ [])
    ∷ case_of 7 (built 2 (store 0x05 0xa5 ∷ [])) (store 0x05 0xa6) (says 3 1 0xa5 1 0 2 1) (0 ∷ 0 ∷ 0x05 ∷ 0xa5 ∷ []) (0 ∷ 1 ∷ [])
    ∷ case_of 7 (built 2 (store 0x05 0xa5 ∷ [])) (store 0x04 0xa4) (says 4 0 0 0 0 2 1) (0 ∷ 0 ∷ 0x05 ∷ 0xa5 ∷ []) (0 ∷ 1 ∷ [])
    -- P8: M = 2, words 0, counts 2, 2, live 0: find 01 gives 6
    ∷ case_of 8 two_twos (find 0x01) (says 6 0 0 0 0 2 0) (0 ∷ 0 ∷ 0 ∷ 0 ∷ []) (2 ∷ 2 ∷ [])
    -- P9: the same table: find 00 gives 0, slot 1, 2 probes
    ∷ case_of 9 two_twos (find 0x00) (says 0 1 0 2 0 2 0) (0 ∷ 0 ∷ 0 ∷ 0 ∷ []) (2 ∷ 2 ∷ [])
    -- P10: all-ones identifier: home 7
    ∷ case_of 10 (built 8 []) (store 0xffffffffffffffff 0xaa) (says 0 7 0xaa 1 0 8 1)
    (0 ∷ 0 ∷ 0 ∷ 0 ∷ 0 ∷ 0 ∷ 0 ∷ 0 ∷ 0 ∷ 0 ∷ 0 ∷ 0 ∷ 0 ∷ 0 ∷ 0xffffffffffffffff ∷ 0xaa ∷ [])
    (0 ∷ 0 ∷ 0 ∷ 0 ∷ 0 ∷ 0 ∷ 0 ∷ 1 ∷ [])
    -- P11: remove from a cleared register: absent, 1 probe, the identifier's home
    ∷ case_of 11 (built 8 []) (remove 0x0d) (says 5 5 0 1 0 8 0) (replicate 16 0) (replicate 8 0)
    -- P12: census of P4: greatest 2, stored 6, absent total 14
    ∷ case_of 12 (built 8 to_p4) census (counted (census_answer 0 2 6 14 (head_of 8 0 0 4))) p4_words p4_counts
    ∷ []
