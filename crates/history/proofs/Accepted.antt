-- Check accepts exactly the registers that hold the proper, clean arrangement of as many records as the head says.
-- What check says of neighbouring slots is the arrangement's own notion, and the number of occupied slots leaves one free.
use Prim.Native.Nat.{ℕ, ◌-◌, ◌≤◌, ◌<◌}
use native.Mathlib.Omega.{arith}
use mathlib.Core.Path.{◌≡◌, sym, ◌∙◌}
use mathlib.Core.Bool.{true}
use mathlib.Core.Logic.{◌↔◌}
use mathlib.Core.List.{List}
use lib.ListN.{length}
use Rattle.arrangement.specs.Table.{Table, Record, records_of, occupied}
use Rattle.arrangement.proofs.Local.{counts_below}
use Rattle.arrangement.proofs.Records.{occupied_length}
use Rattle.arrangement.proofs.Accepted.{proper_of_occupied, local_of_proper, room_of_proper, occupied_of_proper, records_of_proper}
use Rattle.register.specs.declared.head.Head.{Head}
use Rattle.register.specs.Homes.{space_of}
use Rattle.register.specs.Slices.{table_of}
use Rattle.register.specs.Answers.{open_number}
use Rattle.register.specs.Check.{accepts}
use Rattle.register.proofs.Opened.{opened_good}
use Rattle.register.proofs.Accepts.{accepts_good, accepts_live, good_accepts, good_local, good_clean, local_good}
use Rattle.history.specs.Map.{lookup}
use Rattle.history.specs.Mapped.{AcceptedMeans, Accepted, the_map}
use Rattle.history.proofs.Lookup.{lookup_same}
use Rattle.history.proofs.Holding.{Holding}

accepted_means : (h : Head) (some : 0 < h.slots) (t : Table) → h.live < h.slots → accepts h t ≡ true → AcceptedMeans h some t
accepted_means h some t few e =
    let good = accepts_good h t e in
    let n : occupied h.slots t ≡ h.live = occupied_length h.slots t ∙ accepts_live h t e in
    record { proper = proper_of_occupied (space_of h some) t (good_local h some t good) (omega arith); clean = good_clean h some t good; live = n }

means_holding : {h : Head} {ws cs : List ℕ} → open_number h (length ws) (length cs) ≡ 0 → (some : 0 < h.slots) → AcceptedMeans h some (table_of ws cs)
    → Holding h ws cs (records_of h.slots (table_of ws cs))
means_holding {h} {ws} {cs} opens some a =
    record { opens = opens; some = some; proper = a.proper; clean = a.clean; live = sym a.live ∙ occupied_length h.slots (table_of ws cs) }

pub accepted_holding : {h : Head} {ws cs : List ℕ} → Accepted h ws cs → Holding h ws cs (records_of h.slots (table_of ws cs))
accepted_holding {h} {ws} {cs} A =
    let g = opened_good h (length ws) (length cs) A.opens in
    let some : 0 < h.slots = omega arith in
    means_holding A.opens some (accepted_means h some (table_of ws cs) (omega arith) A.accepted)

pub holding_accepted : {h : Head} {ws cs : List ℕ} {rs : List Record} → Holding h ws cs rs → Accepted h ws cs
holding_accepted {h} {ws} {cs} {rs} H =
    let t : Table = table_of ws cs in
    let local = local_of_proper H.proper in
    let near : (i : ℕ) → i < h.slots → (t i).count ≤ h.slots - 1 = λ i l. omega (arith, counts_below (space_of h H.some) t local (room_of_proper H.proper) i l) in
    record {
      opens = H.opens;
      accepted = good_accepts h t (local_good h H.some t local H.clean near) (sym (occupied_length h.slots t) ∙ occupied_of_proper H.proper ∙ sym H.live);
    }

-- check accepts exactly then
pub accepts_exactly : (h : Head) (ws cs : List ℕ) → open_number h (length ws) (length cs) ≡ 0 → (some : 0 < h.slots)
    → (accepts h (table_of ws cs) ≡ true) ↔ AcceptedMeans h some (table_of ws cs)
accepts_exactly h ws cs opens some =
    let g = opened_good h (length ws) (length cs) opens in
    (accepted_means h some (table_of ws cs) (omega arith), λ a. (holding_accepted {ws = ws} {cs = cs} (means_holding opens some a)).accepted)

-- the map of a register is that of the records it holds
pub map_of_lem : {h : Head} {ws cs : List ℕ} {rs : List Record} → Holding h ws cs rs → (y : ℕ) → the_map h ws cs y ≡ lookup y rs
map_of_lem {h} {ws} {cs} {rs} H = lookup_same (records_of h.slots (table_of ws cs)) rs H.proper.distinct (records_of_proper H.proper)
