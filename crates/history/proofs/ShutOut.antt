-- The versions that document 01 names meet neither demand: each breaks a statement on a register of two slots.
-- Demands 2 and 3 are said of any version of the calls; here a version that refuses, repeats itself, does nothing or pretends is led to a contradiction.
use Prim.Native.Nat.{ℕ}
use native.Mathlib.Omega.{arith}
use mathlib.Core.Path.{◌≡◌, refl, ap}
use mathlib.Core.List.{List, [], ◌∷◌}
use Rattle.arrangement.specs.Table.{records_from, records_of, occupied_from, occupied, without}
use Rattle.register.specs.declared.head.Head.{Head}
use Rattle.register.specs.declared.answer.Answer.{Answer}
use Rattle.register.specs.Head.{head_of, good_head}
use Rattle.register.specs.Homes.{home_number, home_of}
use Rattle.register.specs.Answers.{length_number, open_number}
use Rattle.register.specs.Find.{find_of}
use Rattle.register.specs.Store.{store_of}
use Rattle.register.specs.Remove.{remove_of}
use Rattle.register.specs.Check.{is_slot_good, are_slots_good, accepts}
use Rattle.history.specs.Map.{Found, live, missing, lookup}
use Rattle.history.specs.Calls.{Call, clear, store, State}
use Rattle.history.specs.Turned.{two_slots, TurnedAway}
use Rattle.history.specs.Live.{insert, after_live, run_live, Kept}
use Rattle.history.specs.Mapped.{Accepted, the_map, Untouched, Version, Mapped}
use Rattle.history.proofs.Mapped.{mapped}

-- two slots under rule 0: cleared, and with 5 in slot 1
cleared_two : Accepted (head_of 2 0 0 0) (0 ∷ 0 ∷ 0 ∷ 0 ∷ []) (0 ∷ 0 ∷ [])
unfolding open_number length_number good_head accepts are_slots_good is_slot_good occupied occupied_from
cleared_two = record { opens = refl; accepted = refl }

holding_five : Accepted (head_of 2 0 0 1) (0 ∷ 0 ∷ 5 ∷ 7 ∷ []) (0 ∷ 1 ∷ [])
unfolding open_number length_number good_head accepts are_slots_good is_slot_good occupied occupied_from home_of home_number
holding_five = record { opens = refl; accepted = refl }

nothing_live : the_map (head_of 2 0 0 0) (0 ∷ 0 ∷ 0 ∷ 0 ∷ []) (0 ∷ 0 ∷ []) 5 ≡ missing
unfolding lookup records_of records_from
nothing_live = refl

five_live : (the_map (head_of 2 0 0 1) (0 ∷ 0 ∷ 5 ∷ 7 ∷ []) (0 ∷ 1 ∷ []) 5 ≡ live 7) × (the_map (head_of 2 0 0 1) (0 ∷ 0 ∷ 5 ∷ 7 ∷ []) (0 ∷ 1 ∷ []) 4 ≡ missing)
unfolding lookup records_of records_from
five_live = (refl, refl)

module _ (W : Version) (M : Mapped W) where
  -- a store into a cleared register is done
  five_stored : (W.store (head_of 2 0 0 0) (0 ∷ 0 ∷ 0 ∷ 0 ∷ []) (0 ∷ 0 ∷ []) 5 7).answer.number ≡ 0
  five_stored = (M.stores _ _ _ cleared_two 5 7).done.1 (nothing_live, omega arith)

  -- one that refuses everything
  pub refuses_everything : ((h : Head) (ws cs : List ℕ) (x v : ℕ) → (W.store h ws cs x v).answer.number ≡ 0 → ⊥) → ⊥
  refuses_everything refuses = refuses _ _ _ _ _ five_stored

  -- one that answers alike each time
  pub answers_alike : ((h : Head) (ws cs : List ℕ) (x y : ℕ) → W.find h ws cs x ≡ W.find h ws cs y) → ⊥
  answers_alike alike =
      let a = ((M.finds _ _ _ holding_five 5).done 7).1 five_live.0 in
      let b = (M.finds _ _ _ holding_five 4).missed.1 five_live.1 in
      let e = ap (λ (r : Answer). r.number) (alike (head_of 2 0 0 1) (0 ∷ 0 ∷ 5 ∷ 7 ∷ []) (0 ∷ 1 ∷ []) 5 4) in
      omega (arith, a.0)

  -- one that does nothing: after a store that is done the map has the record
  pub does_nothing : ((h : Head) (ws cs : List ℕ) (x v : ℕ) → Untouched h ws cs (W.store h ws cs x v)) → ⊥
  does_nothing idle =
      let u = idle (head_of 2 0 0 0) (0 ∷ 0 ∷ 0 ∷ 0 ∷ []) (0 ∷ 0 ∷ []) 5 7 in
      let new = (M.stores _ _ _ cleared_two 5 7).mapped five_stored 5 in
      let old = rw (u.head, u.words, u.counts, nothing_live) at new in
      let z : ◌≡◌ {A = ℕ} 0 1 = cc in
      omega arith

  -- one that invents slots, probes or moved: on an accepted register they are the walk's and the change's own, as in the calls proved

  pub own_find : (h : Head) (ws cs : List ℕ) → Accepted h ws cs → (x : ℕ)
      → ((W.find h ws cs x).slot ≡ (find_of h ws cs x).slot) × ((W.find h ws cs x).probes ≡ (find_of h ws cs x).probes)
  own_find h ws cs A x = go (the_map h ws cs x) refl
    where
      go : (f : Found) → the_map h ws cs x ≡ f → ((W.find h ws cs x).slot ≡ (find_of h ws cs x).slot) × ((W.find h ws cs x).probes ≡ (find_of h ws cs x).probes)
      go (live v) e =
          let a = M.finds h ws cs A x in
          let b = mapped.finds h ws cs A x in
          let p = a.walked.done_walk ((a.done v).1 e).0 in
          let q = b.walked.done_walk ((b.done v).1 e).0 in
          (cc, cc)
      go missing e =
          let a = M.finds h ws cs A x in
          let b = mapped.finds h ws cs A x in
          let p = a.walked.missed_walk (a.missed.1 e) in
          let q = b.walked.missed_walk (b.missed.1 e) in
          (cc, cc)

  pub own_store : (h : Head) (ws cs : List ℕ) → Accepted h ws cs → (x v : ℕ) → (W.store h ws cs x v).answer.number ≡ 0
      → ((W.store h ws cs x v).answer.probes ≡ (store_of h ws cs x v).answer.probes) × ((W.store h ws cs x v).answer.moved ≡ (store_of h ws cs x v).answer.moved)
  own_store h ws cs A x v done =
      let a = M.stores h ws cs A x v in
      let b = mapped.stores h ws cs A x v in
      let other = b.done.1 (a.done.0 done) in
      let p = a.done_walk done in
      let q = b.done_walk other in
      let k = a.reach done in
      let l = b.reach other in
      (cc, cc)

  pub own_remove : (h : Head) (ws cs : List ℕ) → Accepted h ws cs → (x v : ℕ) → the_map h ws cs x ≡ live v
      → ((W.remove h ws cs x).answer.probes ≡ (remove_of h ws cs x).answer.probes) × ((W.remove h ws cs x).answer.moved ≡ (remove_of h ws cs x).answer.moved)
  own_remove h ws cs A x v e =
      let a = M.removes h ws cs A x in
      let b = mapped.removes h ws cs A x in
      let done = ((a.done v).1 e).0 in
      let other = ((b.done v).1 e).0 in
      let p = a.walked.done_walk done in
      let q = b.walked.done_walk other in
      let k = a.reach done in
      let l = b.reach other in
      (cc, cc)

-- one that works on the first call and pretends afterwards
pub pretends_afterwards : (runs : List Call → State → State) → Kept runs → ((c : Call) (cs : List Call) (s : State) → runs (c ∷ cs) s ≡ runs (c ∷ []) s) → ⊥
unfolding run_live after_live lookup insert
pretends_afterwards runs K pretends =
    let a = (K (two_slots (store 5 7 ∷ []))).head in
    let b = (K (two_slots [])).head in
    let e = ap (λ (s : State). s.head.live) (pretends (clear 2 0 0) (store 5 7 ∷ []) (two_slots []).before) in
    omega (arith, ap (λ (h : Head). h.live) a, ap (λ (h : Head). h.live) b)

-- one that does nothing, by the live records
pub does_nothing_ever : (runs : List Call → State → State) → Kept runs → ((cs : List Call) (s : State) → runs cs s ≡ s) → ⊥
unfolding run_live
does_nothing_ever runs K idle =
    let a = ap (λ (h : Head). h.slots) (K (two_slots [])).head in
    let e = ap (λ (s : State). s.head.slots) (idle (clear 2 0 0 ∷ []) (two_slots []).before) in
    omega arith

-- "as though never stored" is over the live records, not the history
pub turned_away : TurnedAway
unfolding run_live after_live lookup insert without
turned_away = (refl, refl)
