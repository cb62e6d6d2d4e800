-- The two lent slices as a table, and a table as two lists: document 01, "The register". Assumes nothing.
use Rattle.std.specs.Prelude.{ℕ, zero, suc, ◌+◌, ◌*◌, List, [], ◌∷◌, get_or}
use Rattle.arrangement.specs.Table.{Table}

-- slot i: identifier at 2i, entry at 2i+1 of the words; its count at i of the counts
abbrev pub table_of : List ℕ → List ℕ → Table
table_of words counts i = record { count = get_or counts i 0; identifier = get_or words (2 * i) 0; entry = get_or words (2 * i + 1) 0 }

-- the words of n slots from slot i on
unfoldable pub words_from : Table → ℕ → ℕ → List ℕ
words_from t i zero = []
words_from t i (suc n) = (t i).identifier ∷ (t i).entry ∷ words_from t (suc i) n

-- the counts of n slots from slot i on
unfoldable pub counts_from : Table → ℕ → ℕ → List ℕ
counts_from t i zero = []
counts_from t i (suc n) = (t i).count ∷ counts_from t (suc i) n

-- the 2m words and the m counts of a table of m slots
abbrev pub words_of : ℕ → Table → List ℕ
words_of m t = words_from t 0 m

abbrev pub counts_of : ℕ → Table → List ℕ
counts_of m t = counts_from t 0 m
