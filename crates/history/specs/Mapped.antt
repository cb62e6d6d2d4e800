-- What demand 2 says of each call on a register that check accepts, for any version of the call. Assumes nothing.
use Rattle.std.specs.Prelude.{ℕ, suc, ◌+◌, ◌≤◌, ◌<◌, ◌≡◌, true, ◌↔◌, List, length}
use Rattle.arrangement.specs.Table.{Table, records_of, occupied}
use Rattle.arrangement.specs.Proper.{Proper, Clean}
use Rattle.arrangement.specs.Walk.{found, absent}
use Rattle.arrangement.specs.Changes.{after, first_empty, first_settled}
use Rattle.register.specs.declared.head.Head.{Head}
use Rattle.register.specs.declared.answer.Answer.{Answer}
use Rattle.register.specs.Head.{most_live_of}
use Rattle.register.specs.Homes.{space_of}
use Rattle.register.specs.Slices.{table_of}
use Rattle.register.specs.Answers.{Out, open_number}
use Rattle.register.specs.Clear.{new_head, clear_of}
use Rattle.register.specs.Find.{walk_of, find_of}
use Rattle.register.specs.Store.{one_more, store_of}
use Rattle.register.specs.Remove.{one_fewer, remove_of}
use Rattle.register.specs.Change.{change_of}
use Rattle.register.specs.Check.{accepts, check_of}
use Rattle.history.specs.Moved.{moved_to}
use Rattle.history.specs.Map.{Found, live, missing, map_of, with}

-- a register that check accepts
pub record Accepted (h : Head) (ws cs : List ℕ) : Type 0 where
  pub opens : open_number h (length ws) (length cs) ≡ 0
  pub accepted : accepts h (table_of ws cs) ≡ true

-- what check accepts: the table is proper, empty slots are zero, and the number of occupied slots equals the live count
pub record AcceptedMeans (h : Head) (some : 0 < h.slots) (t : Table) : Type 0 where
  pub proper : Proper (space_of h some) (records_of h.slots t) t
  pub clean : Clean h.slots t
  pub live : occupied h.slots t ≡ h.live

-- its map, read off its slots
abbrev pub the_map : Head → List ℕ → List ℕ → ℕ → Found
the_map h ws cs = map_of h.slots (table_of ws cs)

-- mapped to some entry
abbrev pub IsLive : Found → Type 0
IsLive f = (v : ℕ) × (f ≡ live v)

-- a call that was refused wrote nothing and returned the given head
pub record Untouched (h : Head) (ws cs : List ℕ) (o : Out) : Type 0 where
  pub head : o.answer.head ≡ h
  pub words : o.words ≡ ws
  pub counts : o.counts ≡ cs

module _ (h : Head) (ws cs : List ℕ) (x : ℕ) where
  -- find, remove and change: slot and probes are the walk's own; found takes at most n probes, absent at most n+1
  pub record Walked (a : Answer) : Type 0 where
    pub done_walk : a.number ≡ 0 → walk_of h (table_of ws cs) x ≡ found a.slot a.probes
    pub missed_walk : a.number ≡ 5 → walk_of h (table_of ws cs) x ≡ absent a.slot a.probes
    pub done_bound : a.number ≡ 0 → a.probes ≤ h.live
    pub missed_bound : a.number ≡ 5 → a.probes ≤ h.live + 1

  -- find
  pub record FindMapped (a : Answer) : Type 0 where
    -- 0 with its entry exactly when x is live, 5 exactly when it is not
    pub done : (v : ℕ) → ((a.number ≡ 0) × (a.entry ≡ v)) ↔ (the_map h ws cs x ≡ live v)
    pub missed : (a.number ≡ 5) ↔ (the_map h ws cs x ≡ missing)
    pub sound : a.number ≡ 6 → ⊥
    pub walked : Walked a
    pub head : a.head ≡ h

  -- store of x with entry v
  pub record StoreMapped (v : ℕ) (o : Out) : Type 0 where
    -- 3 exactly when x is live, 4 exactly when it is not and live is M-1, else 0
    pub named : (o.answer.number ≡ 3) ↔ IsLive (the_map h ws cs x)
    pub full : (o.answer.number ≡ 4) ↔ (the_map h ws cs x ≡ missing) × (h.live ≡ most_live_of h)
    pub done : (o.answer.number ≡ 0) ↔ (the_map h ws cs x ≡ missing) × (h.live < most_live_of h)
    pub sound : o.answer.number ≡ 6 → ⊥
    pub named_entry : o.answer.number ≡ 3 → the_map h ws cs x ≡ live o.answer.entry
    pub done_entry : o.answer.number ≡ 0 → o.answer.entry ≡ v
    -- and then the map is the old one with the record
    pub mapped : o.answer.number ≡ 0 → (y : ℕ) → the_map o.answer.head o.words o.counts y ≡ with x (live v) (the_map h ws cs) y
    pub head : o.answer.number ≡ 0 → o.answer.head ≡ one_more h
    pub refused : (o.answer.number ≡ 0 → ⊥) → Untouched h ws cs o
    -- slot and probes are the walk's own, moved the number of records that changed slot: as far as the first empty slot lies
    pub named_walk : o.answer.number ≡ 3 → walk_of h (table_of ws cs) x ≡ found o.answer.slot o.answer.probes
    pub done_walk : o.answer.number ≡ 0 → walk_of h (table_of ws cs) x ≡ absent o.answer.slot o.answer.probes
    pub moved : o.answer.number ≡ 0 → o.answer.moved ≡ moved_to h.slots (table_of ws cs) (table_of o.words o.counts)
    pub reach : o.answer.number ≡ 0 → first_empty h.slots o.answer.slot (table_of ws cs) ≡ after o.answer.moved
    pub named_bound : o.answer.number ≡ 3 → o.answer.probes ≤ h.live
    pub done_bound : o.answer.number ≡ 0 → o.answer.probes ≤ h.live + 1
    pub accepted : Accepted o.answer.head o.words o.counts

  -- remove
  pub record RemoveMapped (o : Out) : Type 0 where
    -- 0 with its entry exactly when x is live, 5 exactly when it is not
    pub done : (v : ℕ) → ((o.answer.number ≡ 0) × (o.answer.entry ≡ v)) ↔ (the_map h ws cs x ≡ live v)
    pub missed : (o.answer.number ≡ 5) ↔ (the_map h ws cs x ≡ missing)
    pub sound : o.answer.number ≡ 6 → ⊥
    -- and then the map is the old one without x
    pub mapped : o.answer.number ≡ 0 → (y : ℕ) → the_map o.answer.head o.words o.counts y ≡ with x missing (the_map h ws cs) y
    pub head : o.answer.number ≡ 0 → o.answer.head ≡ one_fewer h
    pub refused : (o.answer.number ≡ 0 → ⊥) → Untouched h ws cs o
    -- moved is the number of records that changed slot: those before the first slot with count 0 or 1
    pub moved : o.answer.number ≡ 0 → o.answer.moved ≡ moved_to h.slots (table_of o.words o.counts) (table_of ws cs)
    pub reach : o.answer.number ≡ 0 → first_settled h.slots o.answer.slot (table_of ws cs) ≡ after (suc o.answer.moved)
    pub walked : Walked o.answer
    pub accepted : Accepted o.answer.head o.words o.counts

  -- change of x to entry v
  pub record ChangeMapped (v : ℕ) (o : Out) : Type 0 where
    -- 0 exactly when x is live, 5 exactly when it is not
    pub done : (o.answer.number ≡ 0) ↔ IsLive (the_map h ws cs x)
    pub missed : (o.answer.number ≡ 5) ↔ (the_map h ws cs x ≡ missing)
    pub sound : o.answer.number ≡ 6 → ⊥
    pub done_entry : o.answer.number ≡ 0 → o.answer.entry ≡ v
    -- and then the map is the old one with the new entry
    pub mapped : o.answer.number ≡ 0 → (y : ℕ) → the_map o.answer.head o.words o.counts y ≡ with x (live v) (the_map h ws cs) y
    pub head : o.answer.head ≡ h
    pub refused : (o.answer.number ≡ 0 → ⊥) → Untouched h ws cs o
    -- nothing moves
    pub moved : o.answer.moved ≡ 0
    pub walked : Walked o.answer
    pub accepted : Accepted o.answer.head o.words o.counts

-- clear: 0 exactly for a good new head that the slices fit; then nothing is live under its settings
pub record ClearMapped (old : Head) (m rule salt : ℕ) (ws cs : List ℕ) (o : Out) : Type 0 where
  pub done : (o.answer.number ≡ 0) ↔ (open_number (new_head m rule salt) (length ws) (length cs) ≡ 0)
  pub mapped : o.answer.number ≡ 0 → (y : ℕ) → the_map o.answer.head o.words o.counts y ≡ missing
  pub head : o.answer.number ≡ 0 → o.answer.head ≡ new_head m rule salt
  pub refused : (o.answer.number ≡ 0 → ⊥) → Untouched old ws cs o
  pub accepted : o.answer.number ≡ 0 → Accepted o.answer.head o.words o.counts

-- a version of the calls
pub record Version : Type 0 where
  pub clear : Head → ℕ → ℕ → ℕ → List ℕ → List ℕ → Out
  pub find : Head → List ℕ → List ℕ → ℕ → Answer
  pub store : Head → List ℕ → List ℕ → ℕ → ℕ → Out
  pub remove : Head → List ℕ → List ℕ → ℕ → Out
  pub change : Head → List ℕ → List ℕ → ℕ → ℕ → Out
  pub check : Head → List ℕ → List ℕ → Answer

-- the one that the contracts cite
abbrev pub cited : Version
cited = record { clear = clear_of; find = find_of; store = store_of; remove = remove_of; change = change_of; check = check_of }

-- demand 2, of a version
pub record Mapped (W : Version) : Type 0 where
  pub clears : (old : Head) (m rule salt : ℕ) (ws cs : List ℕ) → ClearMapped old m rule salt ws cs (W.clear old m rule salt ws cs)
  pub finds : (h : Head) (ws cs : List ℕ) → Accepted h ws cs → (x : ℕ) → FindMapped h ws cs x (W.find h ws cs x)
  pub stores : (h : Head) (ws cs : List ℕ) → Accepted h ws cs → (x v : ℕ) → StoreMapped h ws cs x v (W.store h ws cs x v)
  pub removes : (h : Head) (ws cs : List ℕ) → Accepted h ws cs → (x : ℕ) → RemoveMapped h ws cs x (W.remove h ws cs x)
  pub changes : (h : Head) (ws cs : List ℕ) → Accepted h ws cs → (x v : ℕ) → ChangeMapped h ws cs x v (W.change h ws cs x v)
  -- check answers 0 exactly where it accepts
  pub checks : (h : Head) (ws cs : List ℕ) → ((W.check h ws cs).number ≡ 0) ↔ Accepted h ws cs
