-- A line that yields a frame is that frame's own line: each test that it passed gives a blank, each number a field's digits.
-- By taking the definition apart, test by test. Assumes nothing.
use Prim.Native.Nat.{ℕ, suc, ◌+◌, ◌^◌, ◌<◌}
use mathlib.Core.Path.{◌≡◌, refl, sym, subst, ◌∙◌, ap}
use mathlib.Core.Bool.{Bool, true, false, cond}
use mathlib.Core.List.{List, [], ◌∷◌, ◌++◌, append_assoc, append-nil}
use native.Mathlib.Omega.{arith}
use lib.ListN.{length, drop, get_or, take-append-drop, drop_of_length-le}
use lib.Seq.{drop-cons, drop-drop}
use lib.Dec.{eqb}
use borrow.Author.Tests.{eqb-true}
use Rattle.std.specs.Prelude.{Option, Some, None, option_map}
use Rattle.std.proofs.lemmas.Option.{none-some, same_Some, some_pair_parts}
use Rattle.digits.specs.Digits.{digits_of, field_of, ended}
use Rattle.digits.proofs.Back.{field_below, field_digits, test_passed}
use Rattle.frames.specs.declared.frame.Frame.{Frame}
use Rattle.frames.specs.declared.frame.Frame.TheVariants.{Clear, Store, Find, Remove, Change, Check}
use Rattle.frames.specs.Parsing.{parse_of, by_code, clear_frame_of, clear_by, store_frame_of, find_frame_of, remove_frame_of, change_frame_of, check_frame_of, pair_of, both, single_of, blank_at}
use Rattle.frames.specs.Lines.{frame_line, Fitting}

-- the line is the frame's own, and each number fits its field
pub record Own (line : List ℕ) (f : Frame) : Type 0 where
  pub is : line ≡ frame_line f
  pub fitting : Fitting f

-- something made of what is there was made of it
made_of : {A B : Type 0} (g : A → B) (o : Option A) (y : B) → option_map g o ≡ Some y → (x : A) × (o ≡ Some x) × (g x ≡ y)
made_of g (Some x) y e = (x, refl, same_Some (g x) y e)
made_of g None y e = absurd (none-some y e)

both_numbers : (a b : Option ℕ) (x v : ℕ) → both a b ≡ Some (x, v) → (a ≡ Some x) × (b ≡ Some v)
both_numbers (Some y) (Some w) x v e = let p = some_pair_parts y x w v e in (ap (λ n. Some n) p.0, ap (λ n. Some n) p.1)
both_numbers (Some y) None x v e = absurd (none-some (x, v) e)
both_numbers None b x v e = absurd (none-some (x, v) e)

module _ (line : List ℕ) where
  field_first : (i w n : ℕ) → field_of line i w ≡ Some n → drop i line ≡ digits_of w n ++ drop (i + w) line
  field_first i w n e = sym (take-append-drop w (drop i line)) ∙ (rw (field_digits line i w n e, drop-drop w i line))

  ended_first : (i w n : ℕ) → field_of line i w ≡ Some n → i + w < length line → blank_at line (i + w) ≡ true →
      drop i line ≡ ended w n 32 ++ drop (suc (i + w)) line
  ended_first i w n e l b =
      let c : get_or line (i + w) 0 ≡ 32 = eqb-true (get_or line (i + w) 0) 32 b in
      field_first i w n e ∙ (rw (drop-cons line (i + w) 0 l, c) (sym (append_assoc (digits_of w n) (32 ∷ []) (drop (suc (i + w)) line))))

  field_last : (i w n : ℕ) → field_of line i w ≡ Some n → length line ≡ i + w → drop i line ≡ digits_of w n
  field_last i w n e l = field_first i w n e ∙ (rw (drop_of_length-le line {i = i + w} (omega arith)) (append-nil (digits_of w n)))

  own_clear : (m rule salt : ℕ) → field_of line 0 2 ≡ Some 0 → length line ≡ 27 →
      blank_at line 2 ≡ true → blank_at line 7 ≡ true → blank_at line 10 ≡ true →
      field_of line 3 4 ≡ Some m → field_of line 8 2 ≡ Some rule → field_of line 11 16 ≡ Some salt → Own line (Clear m rule salt)
  own_clear m rule salt k l p q r a b c =
      record {
        is = ended_first 0 2 0 k (omega arith) p ∙
            (rw (ended_first 3 4 m a (omega arith) q, ended_first 8 2 rule b (omega arith) r, field_last 11 16 salt c l));
        fitting = (field_below line 3 4 m a, field_below line 8 2 rule b, field_below line 11 16 salt c);
      }

  own_clear_by : (a b c : Option ℕ) (f : Frame) → field_of line 0 2 ≡ Some 0 → length line ≡ 27 →
      blank_at line 2 ≡ true → blank_at line 7 ≡ true → blank_at line 10 ≡ true →
      field_of line 3 4 ≡ a → field_of line 8 2 ≡ b → field_of line 11 16 ≡ c → clear_by a b c ≡ Some f → Own line f
  own_clear_by (Some m) (Some rule) (Some salt) f k l p q r d g h e = rw (sym (same_Some (Clear m rule salt) f e)) (own_clear m rule salt k l p q r d g h)
  own_clear_by (Some m) (Some rule) None f k l p q r d g h e = absurd (none-some f e)
  own_clear_by (Some m) None c f k l p q r d g h e = absurd (none-some f e)
  own_clear_by None b c f k l p q r d g h e = absurd (none-some f e)

  only_clear : (f : Frame) → field_of line 0 2 ≡ Some 0 → clear_frame_of line ≡ Some f → Own line f
  unfolding clear_frame_of
  only_clear f k e =
      let body : Option Frame = clear_by (field_of line 3 4) (field_of line 8 2) (field_of line 11 16) in
      let r = test_passed (eqb (length line) 27) (cond (blank_at line 2) (cond (blank_at line 7) (cond (blank_at line 10) body None) None) None) f e in
      let s = test_passed (blank_at line 2) (cond (blank_at line 7) (cond (blank_at line 10) body None) None) f r.1 in
      let t = test_passed (blank_at line 7) (cond (blank_at line 10) body None) f s.1 in
      let u = test_passed (blank_at line 10) body f t.1 in
      own_clear_by (field_of line 3 4) (field_of line 8 2) (field_of line 11 16) f k (eqb-true (length line) 27 r.0) s.0 t.0 u.0 refl refl refl u.1

  -- a line of one number after its code k
  only_single : (k : ℕ) (g : ℕ → Frame) → ((x : ℕ) → line ≡ ended 2 k 32 ++ digits_of 16 x → x < 16 ^ 16 → Own line (g x)) →
      (f : Frame) → field_of line 0 2 ≡ Some k → option_map g (single_of line) ≡ Some f → Own line f
  unfolding single_of
  only_single k g own f e p =
      let q = made_of g (single_of line) f p in
      let r = test_passed (eqb (length line) 19) (cond (blank_at line 2) (field_of line 3 16) None) q.0 q.1 in
      let s = test_passed (blank_at line 2) (field_of line 3 16) q.0 r.1 in
      let l : length line ≡ 19 = eqb-true (length line) 19 r.0 in
      subst (Own line) q.2
      (own q.0 (ended_first 0 2 k e (omega arith) s.0 ∙ (rw (field_last 3 16 q.0 s.1 l))) (field_below line 3 16 q.0 s.1))

  -- a line of two numbers after its code k
  only_pair : (k : ℕ) (g : ℕ × ℕ → Frame) →
      ((x v : ℕ) → line ≡ ended 2 k 32 ++ (ended 16 x 32 ++ digits_of 16 v) → (x < 16 ^ 16) × (v < 16 ^ 16) → Own line (g (x, v))) →
      (f : Frame) → field_of line 0 2 ≡ Some k → option_map g (pair_of line) ≡ Some f → Own line f
  unfolding pair_of
  only_pair k g own f e p =
      let q = made_of g (pair_of line) f p in
      let x = q.0.0 in
      let v = q.0.1 in
      let body = both (field_of line 3 16) (field_of line 20 16) in
      let r = test_passed (eqb (length line) 36) (cond (blank_at line 2) (cond (blank_at line 19) body None) None) q.0 q.1 in
      let s = test_passed (blank_at line 2) (cond (blank_at line 19) body None) q.0 r.1 in
      let t = test_passed (blank_at line 19) body q.0 s.1 in
      let n = both_numbers (field_of line 3 16) (field_of line 20 16) x v t.1 in
      let l : length line ≡ 36 = eqb-true (length line) 36 r.0 in
      subst (Own line) q.2
      (own x v (ended_first 0 2 k e (omega arith) s.0 ∙ (rw (ended_first 3 16 x n.0 (omega arith) t.0, field_last 20 16 v n.1 l)))
      (field_below line 3 16 x n.0, field_below line 20 16 v n.1))

  only_check : (f : Frame) → field_of line 0 2 ≡ Some 5 → check_frame_of line ≡ Some f → Own line f
  only_check f k e =
      let r = test_passed (eqb (length line) 2) (Some Check) f e in
      subst (Own line) (same_Some Check f r.1) (record { is = field_last 0 2 5 k (eqb-true (length line) 2 r.0); fitting = tt })

  only_code : (n : ℕ) (f : Frame) → field_of line 0 2 ≡ Some n → by_code line (Some n) ≡ Some f → Own line f
  only_code n f e g =
      go (eqb n 0) (eqb n 1) (eqb n 2) (eqb n 3) (eqb n 4) (eqb n 5) refl refl refl refl refl refl g
    where
      code : (k : ℕ) → eqb n k ≡ true → field_of line 0 2 ≡ Some k
      code k t = e ∙ ap (λ m. Some m) (eqb-true n k t)

      go : (a b c d h i : Bool) → eqb n 0 ≡ a → eqb n 1 ≡ b → eqb n 2 ≡ c → eqb n 3 ≡ d → eqb n 4 ≡ h → eqb n 5 ≡ i →
          cond a (clear_frame_of line) (cond b (store_frame_of line) (cond c (find_frame_of line) (cond d (remove_frame_of line) (cond h (change_frame_of line) (cond i (check_frame_of line) None))))) ≡ Some f →
          Own line f
      go true b c d h i p q r s t u w = only_clear f (code 0 p) w
      go false true c d h i p q r s t u w = only_pair 1 (λ p. Store p.0 p.1) (λ x v is fits. record { is = is; fitting = fits }) f (code 1 q) w
      go false false true d h i p q r s t u w = only_single 2 (λ x. Find x) (λ x is fits. record { is = is; fitting = fits }) f (code 2 r) w
      go false false false true h i p q r s t u w = only_single 3 (λ x. Remove x) (λ x is fits. record { is = is; fitting = fits }) f (code 3 s) w
      go false false false false true i p q r s t u w = only_pair 4 (λ p. Change p.0 p.1) (λ x v is fits. record { is = is; fitting = fits }) f (code 4 t) w
      go false false false false false true p q r s t u w = only_check f (code 5 u) w
      go false false false false false false p q r s t u w = absurd (none-some f w)

  only_field : (a : Option ℕ) (f : Frame) → field_of line 0 2 ≡ a → by_code line a ≡ Some f → Own line f
  only_field None f e g = absurd (none-some f g)
  only_field (Some n) f e g = only_code n f e g

pub only_line : (line : List ℕ) (f : Frame) → parse_of line ≡ Some f → Own line f
unfolding parse_of
only_line line f e = only_field line (field_of line 0 2) f refl e
