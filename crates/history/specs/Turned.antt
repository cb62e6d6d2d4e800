-- "As though never stored" is said of the live records and not of the history: a record that filled the last place turned another away. Assumes nothing.
use Rattle.std.specs.Prelude.{◌≡◌, refl, true, List, [], ◌∷◌}
use Rattle.register.specs.Head.{head_of, good_head}
use Rattle.history.specs.Calls.{Call, store, remove}
use Rattle.history.specs.Live.{valid_clear, History, live_in}

pub two_slots_valid : valid_clear 2 0 0 4 2 ≡ true
unfolding good_head
two_slots_valid = refl

-- a history of two slots of junk, cleared under rule 0
abbrev pub two_slots : List Call → History
two_slots calls =
    record {
      before = record { head = head_of 0 0 0 0; words = 9 ∷ 9 ∷ 9 ∷ 9 ∷ []; counts = 9 ∷ 9 ∷ [] };
      slots = 2;
      rule = 0;
      salt = 0;
      calls = calls;
      valid = two_slots_valid;
    }

-- 5 fills the last place, 4 is turned away, 5 is removed: nothing is live; without the store of 5, 4 is
abbrev pub TurnedAway : Type 0
TurnedAway =
    ((live_in (two_slots (store 5 7 ∷ store 4 6 ∷ remove 5 ∷ []))).records ≡ [])
    × ((live_in (two_slots (store 4 6 ∷ []))).records ≡ record { identifier = 4; entry = 6 } ∷ [])
