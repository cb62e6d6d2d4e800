-- What a call knows once its opening has not refused. Assumes nothing.
use Prim.Native.Nat.{ℕ, ◌*◌, ◌≤◌, ◌<◌}
use mathlib.Core.Path.{◌≡◌, refl, sym}
use mathlib.Core.Bool.{true, false, false≢true}
use mathlib.Core.List.{List}
use native.Mathlib.Omega.{arith}
use lib.Dec.{eqb}
use lib.ListN.{length}
use borrow.Author.Tests.{ltb-false, eqb-true}
use Rattle.register.specs.declared.head.Head.{Head}
use Rattle.register.specs.declared.refusal.Refusal.{Refusal}
use Rattle.register.specs.declared.refusal.Refusal.TheVariants.{BadHead, BadLength, AlreadyNamed, Full, Absent, Damaged, BadFrame}
use Rattle.register.specs.Head.{good_head, most_live_of}
use Rattle.register.specs.Lent.{Lent}
use Rattle.register.specs.Answers.{number_of, length_number, open_number}
use Rattle.register.proofs.Picks.{picked_first, picked_second}

-- a good head, as numbers
pub record Good (h : Head) : Type 0 where
  pub least : 2 ≤ h.slots
  pub most : h.slots ≤ 32768
  pub rule : h.rule ≤ 1
  pub live : h.live ≤ most_live_of h

pub good_head_lem : (h : Head) → good_head h ≡ true → Good h
unfolding good_head
good_head_lem h e =
    let a : _ = picked_second _ e false≢true in
    let b : _ = picked_second _ a.1 false≢true in
    let c : _ = picked_second _ b.1 false≢true in
    let d : _ = picked_second _ c.1 false≢true in
    record {
      least = ltb-false _ _ a.0;
      most = ltb-false _ _ b.0;
      rule = ltb-false _ _ c.0;
      live = ltb-false _ _ d.0;
    }

pub good_lengths : (m words counts : ℕ) → length_number m words counts ≡ 0 → (words ≡ 2 * m) × (counts ≡ m)
unfolding length_number
good_lengths m words counts e =
    let a : _ = picked_first (eqb words (2 * m)) {y = 2} {z = 0} e two in
    let b : _ = picked_first (eqb counts m) {y = 2} {z = 0} a.1 two in
    (eqb-true _ _ a.0, eqb-true _ _ b.0)
  where
    two : ◌≡◌ {A = ℕ} 2 0 → ⊥
    two q = omega arith

-- neither refusal: the head is good, and the slices fit it
pub opened_good : (h : Head) (words counts : ℕ) → open_number h words counts ≡ 0 → Good h
unfolding open_number
opened_good h words counts e = good_head_lem h (picked_first (good_head h) {y = 1} {z = 0} e (λ q. omega arith)).0

pub opened_lent : (h : Head) (ws cs : List ℕ) → open_number h (length ws) (length cs) ≡ 0 → Lent h.slots ws cs
unfolding open_number
opened_lent h ws cs e =
    let g : Good h = opened_good h (length ws) (length cs) e in
    let l : _ = good_lengths _ _ _ (picked_first (good_head h) {y = 1} {z = 0} e (λ q. omega arith)).1 in
    record { least = g.least; most = g.most; words = l.0; counts = l.1 }

-- what the opened register's invariant asks
pub opened : (h : Head) (ws cs : List ℕ) → 0 ≡ open_number h (length ws) (length cs) → record { lent : Lent h.slots ws cs; room : h.live < h.slots }
opened h ws cs e =
    let g = opened_good h (length ws) (length cs) (sym e) in
    record { lent = opened_lent h ws cs (sym e); room = omega (arith, g.least, g.live) }

-- no refusal's number is 0
pub refused : (r : Refusal) → eqb (number_of r) 0 ≡ false
refused BadHead = refl
refused BadLength = refl
refused AlreadyNamed = refl
refused Full = refl
refused Absent = refl
refused Damaged = refl
refused BadFrame = refl
