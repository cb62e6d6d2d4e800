-- What an absent answer says: the slot at which the walk ended, where a store that comes next is done: document 02, request One. Assumes nothing.
use Rattle.std.specs.Prelude.{ℕ, ◌*◌, ◌<◌, ◌≡◌, true, List, replicate}
use Rattle.arrangement.specs.Proper.{slot_at}
use Rattle.arrangement.specs.Walk.{absent}
use Rattle.register.specs.declared.head.Head.{Head}
use Rattle.register.specs.declared.answer.Answer.{Answer}
use Rattle.register.specs.Head.{most_live_of, good_head}
use Rattle.register.specs.Homes.{home_of}
use Rattle.register.specs.Slices.{table_of}
use Rattle.register.specs.Answers.{Out, out, answer_of}
use Rattle.register.specs.Clear.{new_head}
use Rattle.register.specs.Find.{walk_of, find_of}
use Rattle.register.specs.Remove.{remove_of}
use Rattle.register.specs.Change.{change_of}
use Rattle.history.specs.Mapped.{Accepted, Version}

-- a store's answer is as an earlier answer said: done, at that slot, with those probes
pub record AsSaid (said stored : Answer) : Type 0 where
  pub done : stored.number ≡ 0
  pub slot : stored.slot ≡ said.slot
  pub probes : stored.probes ≡ said.probes

-- the store of x with entry v that comes after a call
abbrev pub stored_next : Version → Out → ℕ → ℕ → Answer
stored_next W o x v = (W.store o.answer.head o.words o.counts x v).answer

-- of a version, on an accepted register with live below M-1: where a call answered absent, a store of the same identifier that comes next is done there
pub record SaysWhere (W : Version) : Type 0 where
  pub finds : (h : Head) (ws cs : List ℕ) → Accepted h ws cs → h.live < most_live_of h → (x v : ℕ)
      → let a = W.find h ws cs x in a.number ≡ 5 → AsSaid a (stored_next W (out a ws cs) x v)
  pub removes : (h : Head) (ws cs : List ℕ) → Accepted h ws cs → h.live < most_live_of h → (x v : ℕ)
      → let o = W.remove h ws cs x in o.answer.number ≡ 5 → AsSaid o.answer (stored_next W o x v)
  pub changes : (h : Head) (ws cs : List ℕ) → Accepted h ws cs → h.live < most_live_of h → (x e v : ℕ)
      → let o = W.change h ws cs x e in o.answer.number ≡ 5 → AsSaid o.answer (stored_next W o x v)

-- an absent answer's slot and probes are those at which the walk ended: the slot is home + probes - 1 modulo M, and so one of the M slots
pub record EndsAt (h : Head) (ws cs : List ℕ) (x : ℕ) (a : Answer) : Type 0 where
  pub walk : a.number ≡ 5 → walk_of h (table_of ws cs) x ≡ absent a.slot a.probes
  pub slot : a.number ≡ 5 → a.slot ≡ slot_at h.slots (home_of h x) a.probes
  pub below : a.number ≡ 5 → a.slot < h.slots

-- on every input, damaged or not
pub record AllEndAt : Type 0 where
  pub find : (h : Head) (ws cs : List ℕ) (x : ℕ) → EndsAt h ws cs x (find_of h ws cs x)
  pub remove : (h : Head) (ws cs : List ℕ) (x : ℕ) → EndsAt h ws cs x (remove_of h ws cs x).answer
  pub change : (h : Head) (ws cs : List ℕ) (x v : ℕ) → EndsAt h ws cs x (change_of h ws cs x v).answer

-- P11 of every cleared register and every identifier: absent, 1 probe, the identifier's home; nothing is written
abbrev pub RemoveCleared : Type 0
RemoveCleared = (m rule salt : ℕ) → good_head (new_head m rule salt) ≡ true → (x : ℕ)
    → let h = new_head m rule salt in
    remove_of h (replicate (2 * m) 0) (replicate m 0) x ≡ out (answer_of 5 (home_of h x) 0 1 0 h) (replicate (2 * m) 0) (replicate m 0)
