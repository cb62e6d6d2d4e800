-- The line of a frame: document 01, "Frames". Assumes nothing.
use Rattle.std.specs.Prelude.{ℕ, ◌^◌, ◌<◌, List, ◌++◌}
use Rattle.digits.specs.Digits.{digits_of, ended}
use Rattle.frames.specs.declared.frame.Frame.{Frame}
use Rattle.frames.specs.declared.frame.Frame.TheVariants.{Clear, Store, Find, Remove, Change, Check}

-- fields of fixed width parted by one blank, with nothing before or after
abbrev pub frame_line : Frame → List ℕ
frame_line (Clear m rule salt) = ended 2 0 32 ++ (ended 4 m 32 ++ (ended 2 rule 32 ++ digits_of 16 salt))
frame_line (Store x v) = ended 2 1 32 ++ (ended 16 x 32 ++ digits_of 16 v)
frame_line (Find x) = ended 2 2 32 ++ digits_of 16 x
frame_line (Remove x) = ended 2 3 32 ++ digits_of 16 x
frame_line (Change x v) = ended 2 4 32 ++ (ended 16 x 32 ++ digits_of 16 v)
frame_line Check = digits_of 2 5

-- each number has as many digits as its field
abbrev pub Fitting : Frame → Type 0
Fitting (Clear m rule salt) = (m < 16 ^ 4) × (rule < 16 ^ 2) × (salt < 16 ^ 16)
Fitting (Store x v) = (x < 16 ^ 16) × (v < 16 ^ 16)
Fitting (Find x) = x < 16 ^ 16
Fitting (Remove x) = x < 16 ^ 16
Fitting (Change x v) = (x < 16 ^ 16) × (v < 16 ^ 16)
Fitting Check = Unit {0}
