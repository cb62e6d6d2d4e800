-- What a line yields, for every list of bytes: document 01, "Frames". Assumes nothing.
use Rattle.std.specs.Prelude.{ℕ, Bool, cond, Option, Some, None, option_map, List, length, get_or, eqb}
use Rattle.digits.specs.Digits.{field_of}
use Rattle.frames.specs.declared.frame.Frame.{Frame}
use Rattle.frames.specs.declared.frame.Frame.TheVariants.{Clear, Store, Find, Remove, Change, Check}

-- fields are parted by one blank
abbrev pub blank_at : List ℕ → ℕ → Bool
blank_at line i = eqb (get_or line i 0) 32

-- a code and an identifier (16)
unfoldable pub single_of : List ℕ → Option ℕ
single_of line = cond (eqb (length line) 19) (cond (blank_at line 2) (field_of line 3 16) None) None

abbrev pub both : Option ℕ → Option ℕ → Option (ℕ × ℕ)
both (Some x) (Some v) = Some (x, v)
both (Some x) None = None
both None v = None

-- a code, an identifier (16) and an entry (16): exactly 36 bytes
unfoldable pub pair_of : List ℕ → Option (ℕ × ℕ)
pair_of line =
    cond (eqb (length line) 36)
    (cond (blank_at line 2) (cond (blank_at line 19) (both (field_of line 3 16) (field_of line 20 16)) None) None)
    None

abbrev pub clear_by : Option ℕ → Option ℕ → Option ℕ → Option Frame
clear_by (Some m) (Some rule) (Some salt) = Some (Clear m rule salt)
clear_by (Some m) (Some rule) None = None
clear_by (Some m) None salt = None
clear_by None rule salt = None

-- 00, M (4 digits), rule (2), salt (16): clear
unfoldable pub clear_frame_of : List ℕ → Option Frame
clear_frame_of line =
    cond (eqb (length line) 27)
    (cond (blank_at line 2)
    (cond (blank_at line 7)
    (cond (blank_at line 10) (clear_by (field_of line 3 4) (field_of line 8 2) (field_of line 11 16)) None) None) None) None

-- 01, identifier (16), entry (16): store
abbrev pub store_frame_of : List ℕ → Option Frame
store_frame_of line = option_map (λ p. Store p.0 p.1) (pair_of line)

-- 02, identifier: find
abbrev pub find_frame_of : List ℕ → Option Frame
find_frame_of line = option_map (λ x. Find x) (single_of line)

-- 03, identifier: remove
abbrev pub remove_frame_of : List ℕ → Option Frame
remove_frame_of line = option_map (λ x. Remove x) (single_of line)

-- 04, identifier, entry: change
abbrev pub change_frame_of : List ℕ → Option Frame
change_frame_of line = option_map (λ p. Change p.0 p.1) (pair_of line)

-- 05: check
abbrev pub check_frame_of : List ℕ → Option Frame
check_frame_of line = cond (eqb (length line) 2) (Some Check) None

abbrev pub by_code : List ℕ → Option ℕ → Option Frame
by_code line (Some c) =
    cond (eqb c 0) (clear_frame_of line)
    (cond (eqb c 1) (store_frame_of line)
    (cond (eqb c 2) (find_frame_of line)
    (cond (eqb c 3) (remove_frame_of line)
    (cond (eqb c 4) (change_frame_of line)
    (cond (eqb c 5) (check_frame_of line)
    None)))))
by_code line None = None

-- the first two digits choose the call
unfoldable pub parse_of : List ℕ → Option Frame
parse_of line = by_code line (field_of line 0 2)
