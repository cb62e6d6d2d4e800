-- P1 to P12 of document 01 as a single statement over one list.
-- The checker computes both sides: every definition that the cases call is unfolded.
use mathlib.Core.Path.{◌≡◌, refl}
use mathlib.Core.List.{map}
use Rattle.arrangement.specs.Walk.{turn, walk_from, walk}
use Rattle.arrangement.specs.Changes.{first_from, first_empty, first_settled, stored, removed, any_far}
use Rattle.register.specs.Head.{good_head}
use Rattle.register.specs.Homes.{home_number, home_of}
use Rattle.register.specs.Slices.{words_from, counts_from}
use Rattle.register.specs.Answers.{length_number, open_number}
use Rattle.register.specs.Clear.{clear_of}
use Rattle.register.specs.Find.{find_of}
use Rattle.register.specs.Store.{store_of}
use Rattle.register.specs.Remove.{remove_of}
use Rattle.register.specs.Census.{greatest_of, stored_of, census_of}
use Rattle.history.specs.Calls.{after, run}
use Rattle.history.specs.Marked.{Case, reply_to, outcome, cases}

-- the answer with all its fields, and every word and count afterwards, in each of the twelve cases
pub marked : map outcome cases ≡ map (λ (c : Case). c.wanted) cases
unfolding cases reply_to run after clear_of find_of store_of remove_of census_of open_number length_number good_head home_of home_number walk walk_from turn first_empty first_settled first_from stored removed any_far words_from counts_from greatest_of stored_of
marked = refl
