-- What the room decides: a register too large for it is refused with 2, a refused clear changes nothing, and before the first accepted
-- clear every other frame is answered 1. By computing the register's own definitions. Assumes nothing.
use Prim.Native.Nat.{ℕ, ◌*◌, ◌-◌, ◌≤◌}
use mathlib.Core.Path.{◌≡◌, refl}
use mathlib.Core.List.{List}
use native.Mathlib.Omega.{arith}
use lib.ListN.{length, take, take-append-drop}
use lib.Seq.{take_all}
use borrow.Author.Tests.{le-ltb, ne_eqb}
use Rattle.register.specs.declared.head.Head.{Head}
use Rattle.register.specs.Head.{good_head, head_of}
use Rattle.register.specs.Answers.{out, refusal, open_number, length_number}
use Rattle.register.specs.Clear.{clear_of, new_head}
use Rattle.register.specs.Store.{store_of}
use Rattle.register.specs.Find.{find_of}
use Rattle.register.specs.Remove.{remove_of}
use Rattle.register.specs.Change.{change_of}
use Rattle.register.specs.Check.{check_of}
use Rattle.frames.specs.declared.frame.Frame.{Frame}
use Rattle.frames.specs.declared.frame.Frame.TheVariants.{Clear, Store, Find, Remove, Change, Check}
use Rattle.frames.specs.Serving.{room_of}

-- a clear that the register refuses leaves the head and the whole room as they were
pub clear_refused : (h : Head) (ws cs : List ℕ) (m rule salt n : ℕ) → (n ≡ 0 → ⊥) →
    open_number (new_head m rule salt) (length (take (2 * m) ws)) (length (take m cs)) ≡ n → room_of h ws cs (Clear m rule salt) ≡ out (refusal n h) ws cs
unfolding room_of clear_of
clear_refused h ws cs m rule salt n z e = rw (e, ne_eqb n 0 z, take-append-drop (2 * m) ws, take-append-drop m cs)

-- in a room of 2,048 slots a clear with a good rule and M from 2,049 to 32,768 is answered 2
pub room_refuses : (h : Head) (ws cs : List ℕ) (m rule salt : ℕ) → length ws ≡ 4096 → length cs ≡ 2048 → 2049 ≤ m → m ≤ 32768 → rule ≤ 1 →
    room_of h ws cs (Clear m rule salt) ≡ out (refusal 2 h) ws cs
unfolding open_number length_number good_head
room_refuses h ws cs m rule salt lw lc least most good =
    clear_refused h ws cs m rule salt 2 (λ e. absurd (omega arith))
    (rw (le-ltb m 2 (omega arith), le-ltb 32768 m most, le-ltb 1 rule good, le-ltb (m - 1) 0 (omega arith), take_all (2 * m) ws (omega arith), ne_eqb (length ws) (2 * m) (λ e. absurd (omega arith))))

-- before the first accepted clear the head is all zeros: every frame but a clear is answered 1
pub before_a_clear : (ws cs : List ℕ) (f : Frame) → ((m rule salt : ℕ) → f ≡ Clear m rule salt → ⊥) →
    room_of (head_of 0 0 0 0) ws cs f ≡ out (refusal 1 (head_of 0 0 0 0)) ws cs
unfolding room_of store_of find_of remove_of change_of check_of open_number good_head
before_a_clear ws cs (Clear m rule salt) n = absurd (n m rule salt refl)
before_a_clear ws cs (Store x v) n = refl
before_a_clear ws cs (Find x) n = refl
before_a_clear ws cs (Remove x) n = refl
before_a_clear ws cs (Change x v) n = refl
before_a_clear ws cs Check n = refl
