-- `Opened::are_slots_good` meets its contract: the chain asks slot after slot, as the specs do.
use Rattle.std.specs.Prelude.{ℕ, zero, suc, ◌+◌, ◌≡◌, Bool, true, false, ◌&&◌, cond}
use Rattle.std.specs.List.{list_all, range_with_len}
use Rattle.std.proofs.Common.{rules, refl, ap, ◌∙◌, add-one, arith}
use Rattle.std.proofs.lemmas.Iterator.{YieldsList-from_range}
use Rattle.std.proofs.lemmas.Iterator.Search.{all_from_yields_List}
use Rattle.arrangement.specs.Table.{Table}
use Rattle.register.specs.declared.head.Head.{Head}
use Rattle.register.specs.Private.{table_in}
use Rattle.register.specs.Check.{is_slot_good, are_slots_good}
use Rattle.register.proofs.table.Opened.are_slots_good.Goals as goal

all_slots : (h : Head) (t : Table) (i n : ℕ) → list_all (is_slot_good h t) (range_with_len i n) ≡ are_slots_good h t i n
unfolding are_slots_good
all_slots h t i zero = refl
all_slots h t i (suc n) = go (is_slot_good h t i) (ap (λ (k : ℕ). list_all (is_slot_good h t) (range_with_len k n)) (add-one i) ∙ all_slots h t (suc i) n)
  where
    go : (b : Bool) → list_all (is_slot_good h t) (range_with_len (i + 1) n) ≡ are_slots_good h t (suc i) n → (b && list_all (is_slot_good h t) (range_with_len (i + 1) n)) ≡ cond b (are_slots_good h t (suc i) n) false
    go true e = e
    go false e = refl

pub returns : goal.returns
returns c =
    let r = c.args.self.now in
    let m = r.head.slots in
    all_from_yields_List (is_slot_good r.head (table_in r)) _ _ _ c.all.ensures.ran (YieldsList-from_range 0 m m refl (omega arith)) (λ x b q k. search rules)
    ∙ all_slots r.head (table_in r) 0 m
