-- The line that a part of the input ends, behind what is kept of it.
use Rattle.std.specs.Prelude.{ℕ, List, [], ◌∷◌, ◌++◌, take}

-- a whole line as it stands, and of one that is kept in parts the first 37 bytes
abbrev pub joined_line : List ℕ → List ℕ → List ℕ
joined_line [] part = part
joined_line (b ∷ bs) part = take 37 ((b ∷ bs) ++ part)
