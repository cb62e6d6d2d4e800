-- A field placed in a line: what stands in the line once its digits are lent out and back and the byte after them is set.
-- By splitting the line at both places. Assumes nothing.
use Prim.Native.Nat.{ℕ, suc, ◌+◌, ◌-◌, ◌<◌, ◌≤◌}
use mathlib.Core.Path.{◌≡◌, refl, ◌∙◌, ap}
use mathlib.Core.List.{List, append_assoc}
use native.Mathlib.Omega.{arith}
use lib.ListN.{length, take, drop, set, length-append, length-drop}
use lib.Seq.{length-take-le}
use borrow.Author.Tests.{le-leb, lt-leb}
use borrow.Rule.Slice.PartMut.{put_mid}
use Rattle.std.proofs.lemmas.List.{set_split}
use Rattle.std.proofs.lemmas.Slice.{take-put_mid, drop-put_mid}
use Rattle.digits.specs.Digits.{digits_of, write_of}
use Rattle.digits.proofs.Filling.{length_digits}

pub part_length : (line : List ℕ) (i w : ℕ) → i + w ≤ length line → length (take w (drop i line)) ≡ w
part_length line i w h = length-take-le w (drop i line) (rw length-drop (omega arith))

pub placed : (line d : List ℕ) (i w n end : ℕ) → i + w < length line → d ≡ digits_of (length (take (i + w - i) (drop i line))) n →
    set (put_mid i (i + w - i) line d) (i + w) end ≡ write_of line i w n end
unfolding write_of
placed line d i w n end h e =
    let k : i + w - i ≡ w = omega arith in
    let f : d ≡ digits_of w n = e ∙ (rw (k, part_length line i w (omega arith)) refl) in
    let l : length d ≡ w = ap length f ∙ length_digits w n in
    let r : i + (w + 1) ≡ suc (i + w) = omega arith in
    let room : i + w < length (put_mid i w line d) = grind (arith, length-append, length-take-le, length-drop) in
    rw (
      k,
      set_split (put_mid i w line d) (i + w) end room,
      take-put_mid i w line d (i + w) (omega arith) (omega arith),
      drop-put_mid i w line d (suc (i + w)) (omega arith) (omega arith) l,
      f,
      r,
      le-leb (suc (i + w)) (length line) h,
    )
    (simp append_assoc)

pub no_place : (line : List ℕ) (i w n end : ℕ) → length line ≤ i + w → line ≡ write_of line i w n end
unfolding write_of
no_place line i w n end h = rw (lt-leb (i + (w + 1)) (length line) (omega arith))
