-- A line yields a frame exactly when it is that frame's own line. One way by reading the digits back, the other by the digits that a
-- field's number has. Assumes nothing.
use Prim.Native.Nat.{ℕ, ◌^◌, ◌<◌}
use mathlib.Core.Path.{◌≡◌, refl, ◌∙◌, ap}
use mathlib.Core.List.{List}
use native.Mathlib.Omega.{arith}
use lib.ListN.{length, get_or}
use borrow.Author.Tests.{eq-eqb}
use Rattle.std.specs.Prelude.{Some, option_map}
use Rattle.digits.specs.Digits.{digits_of, number_from, field_of}
use Rattle.digits.proofs.Back.{read_back}
use Rattle.frames.specs.declared.frame.Frame.{Frame}
use Rattle.frames.specs.declared.frame.Frame.TheVariants.{Clear, Store, Find, Remove, Change, Check}
use Rattle.frames.specs.Parsing.{parse_of, clear_frame_of, by_code, single_of, pair_of}
use Rattle.frames.specs.Lines.{frame_line, Fitting}

-- what a line's fields, once known, make of its definition
module _ (line : List ℕ) where
  pair_fields : (x v : ℕ) → length line ≡ 36 → get_or line 2 0 ≡ 32 → get_or line 19 0 ≡ 32 →
      field_of line 3 16 ≡ Some x → field_of line 20 16 ≡ Some v → pair_of line ≡ Some (x, v)
  unfolding pair_of
  pair_fields x v l p q e f = rw (eq-eqb (length line) 36 l, eq-eqb (get_or line 2 0) 32 p, eq-eqb (get_or line 19 0) 32 q, e, f)

  clear_fields : (m rule salt : ℕ) → length line ≡ 27 → get_or line 2 0 ≡ 32 → get_or line 7 0 ≡ 32 → get_or line 10 0 ≡ 32 →
      field_of line 3 4 ≡ Some m → field_of line 8 2 ≡ Some rule → field_of line 11 16 ≡ Some salt → clear_frame_of line ≡ Some (Clear m rule salt)
  unfolding clear_frame_of
  clear_fields m rule salt l p q r e f g =
      rw (eq-eqb (length line) 27 l, eq-eqb (get_or line 2 0) 32 p, eq-eqb (get_or line 7 0) 32 q, eq-eqb (get_or line 10 0) 32 r, e, f, g)

  code_read : (k : ℕ) → k < 16 ^ 2 → field_of line 0 2 ≡ number_from 0 (digits_of 2 k) → parse_of line ≡ by_code line (Some k)
  unfolding parse_of
  code_read k h e = ap (by_code line) (e ∙ read_back 2 k h)

pub own_line : (f : Frame) → Fitting f → parse_of (frame_line f) ≡ Some f
unfolding digits_of field_of single_of
own_line (Clear m rule salt) h =
    let line = frame_line (Clear m rule salt) in
    code_read line 0 (omega arith) refl ∙
    clear_fields line m rule salt refl refl refl refl (read_back 4 m h.0) (read_back 2 rule h.1) (read_back 16 salt h.2)
own_line (Store x v) h =
    let line = frame_line (Store x v) in
    code_read line 1 (omega arith) refl ∙
    ap (option_map (λ p. Store p.0 p.1)) (pair_fields line x v refl refl refl (read_back 16 x h.0) (read_back 16 v h.1))
own_line (Find x) h = code_read (frame_line (Find x)) 2 (omega arith) refl ∙ ap (option_map (λ y. Find y)) (read_back 16 x h)
own_line (Remove x) h = code_read (frame_line (Remove x)) 3 (omega arith) refl ∙ ap (option_map (λ y. Remove y)) (read_back 16 x h)
own_line (Change x v) h =
    let line = frame_line (Change x v) in
    code_read line 4 (omega arith) refl ∙
    ap (option_map (λ p. Change p.0 p.1)) (pair_fields line x v refl refl refl (read_back 16 x h.0) (read_back 16 v h.1))
own_line Check h = code_read (frame_line Check) 5 (omega arith) refl
