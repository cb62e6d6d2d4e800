-- Homes: document 01, "Homes". Rule 0 is the identifier's remainder by M, rule 1 the remainder of the hash of salt and identifier. Assumes nothing.
use Rattle.std.specs.Prelude.{ℕ, ◌%◌, ◌<◌, cond, eqb}
use Rattle.std.proofs.Common.{mod-lt}
use Rattle.arrangement.specs.Proper.{Space}
use Rattle.hash.specs.Fnv.{key_hash}
use Rattle.register.specs.declared.head.Head.{Head}

-- the number whose remainder by M is the home
unfoldable pub home_number : Head → ℕ → ℕ
home_number h x = cond (eqb h.rule 0) x (key_hash h.salt x)

-- the home of an identifier
unfoldable pub home_of : Head → ℕ → ℕ
home_of h x = home_number h x % h.slots

pub home_below : (h : Head) (x : ℕ) → 0 < h.slots → home_of h x < h.slots
unfolding home_of
home_below h x some = mod-lt (home_number h x) some

-- the slots of a head that has some, with the home of every identifier
abbrev pub space_of : (h : Head) → 0 < h.slots → Space
space_of h some = record { size = h.slots; home = home_of h; home_in = λ x. home_below h x some }
