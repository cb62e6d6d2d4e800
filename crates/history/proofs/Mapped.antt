-- Demand 2: on every register that check accepts, each call answers by the map and is its update, and check accepts the result.
-- The map says whether the identifier is live; the walk ends accordingly, and the change holds the arrangement of the updated map.
use Prim.Native.Nat.{ℕ, ◌+◌, ◌*◌, ◌≤◌, ◌<◌}
use native.Mathlib.Decide.{dec_lt}
use native.Mathlib.Omega.{arith}
use mathlib.Core.Path.{◌≡◌, refl, sym, ap, ◌∙◌}
use mathlib.Core.Bool.{Bool, true, false, cond, false≢true}
use mathlib.Core.Logic.{◌↔◌}
use mathlib.Core.List.Memᴰ
use mathlib.Core.List.{List, []}
use lib.ListN.{length, replicate}
use lib.Dec.{eqb}
use borrow.Author.Tests.{eqb-true, eqb-false}
use Rattle.arrangement.specs.Table.{Record, Fresh, records_of}
use Rattle.arrangement.specs.Walk.{found, absent}
use Rattle.arrangement.proofs.Bounds.{found_le, absent_le}
use Rattle.register.specs.declared.head.Head.{Head}
use Rattle.register.specs.declared.answer.Answer.{Answer}
use Rattle.register.specs.Head.{most_live_of}
use Rattle.register.specs.Homes.{space_of}
use Rattle.register.specs.Slices.{table_of}
use Rattle.register.specs.Answers.{out, answer_of, refusal, absent_answer, open_number}
use Rattle.register.specs.Clear.{new_head, clear_of}
use Rattle.register.specs.Find.{walk_of, find_of}
use Rattle.register.specs.Store.{store_of}
use Rattle.register.specs.Remove.{remove_of}
use Rattle.register.specs.Change.{change_of}
use Rattle.register.specs.Check.{accepts, check_of}
use Rattle.register.proofs.Slices.{lists_hold}
use Rattle.history.specs.Map.{Found, live, missing}
use Rattle.history.specs.Mapped.{Accepted, the_map, Untouched, Walked, FindMapped, StoreMapped, RemoveMapped, ChangeMapped, ClearMapped, cited, Mapped}
use Rattle.history.proofs.Exactly.{both, neither}
use Rattle.history.proofs.Lookup.{Looked, is_live, is_missing, looked, lookup_fresh, lookup_put, lookup_without, lookup_renew}
use Rattle.history.proofs.Holding.{Holding, cleared_holding, live_found, fresh_missed, find_by_lem, store_by_lem, remove_by_lem, change_by_lem, store_full, store_done_lem, remove_done_lem, change_done_lem}
use Rattle.history.proofs.Moved.{store_moved, remove_moved}
use Rattle.history.proofs.Accepted.{accepted_holding, holding_accepted, map_of_lem}

not_both : {f : Found} {v : ℕ} → f ≡ live v → f ≡ missing → ⊥
not_both e m = let z : ◌≡◌ {A = ℕ} 0 1 = cc in omega arith

-- the answer carries the entry of the live one: that and no other
entry_is : {f : Found} {v e : ℕ} → f ≡ live v → e ≡ v → (w : ℕ) → (◌≡◌ {A = ℕ} 0 0 × (e ≡ w)) ↔ (f ≡ live w)
entry_is {f} {v} {e} u q w = (λ a. u ∙ ap live (sym q ∙ a.1), λ b. (refl, q ∙ same b))
  where
    same : f ≡ live w → v ≡ w
    same b = cc

entry_not : {f : Found} {e n : ℕ} → f ≡ missing → (n ≡ 0 → ⊥) → (w : ℕ) → ((n ≡ 0) × (e ≡ w)) ↔ (f ≡ live w)
entry_not m z w = neither (λ a. z a.0) (λ b. not_both b m)

entry_of : {q r : Record} → q ≡ r → q.entry ≡ r.entry
entry_of e = ap (λ (r : Record). r.entry) e

module _ (h : Head) (ws cs : List ℕ) (A : Accepted h ws cs) (x : ℕ) where
  H : Holding h ws cs (records_of h.slots (table_of ws cs))
  H = accepted_holding A

  -- how many probes
  found_bound : {j p : ℕ} → walk_of h (table_of ws cs) x ≡ found j p → p ≤ h.live
  found_bound {j} {p} e = omega (arith, H.live, found_le (space_of h H.some) (records_of h.slots (table_of ws cs)) (table_of ws cs) H.proper x j p e)

  absent_bound : {j p : ℕ} → walk_of h (table_of ws cs) x ≡ absent j p → p ≤ h.live + 1
  absent_bound {j} {p} e = omega (arith, H.live, absent_le (space_of h H.some) (records_of h.slots (table_of ws cs)) (table_of ws cs) H.proper x j p e)

  found_walked : {j p e k : ℕ} {g : Head} → walk_of h (table_of ws cs) x ≡ found j p → Walked h ws cs x (answer_of 0 j e p k g)
  found_walked w =
      record {
        done_walk = λ z. w;
        missed_walk = λ z. absurd (omega arith);
        done_bound = λ z. found_bound w;
        missed_bound = λ z. absurd (omega arith);
      }

  missed_walked : {j p : ℕ} → walk_of h (table_of ws cs) x ≡ absent j p → Walked h ws cs x (absent_answer h j p)
  missed_walked w =
      record {
        done_walk = λ z. absurd (omega arith);
        missed_walk = λ z. w;
        done_bound = λ z. absurd (omega arith);
        missed_bound = λ z. absent_bound w;
      }

  pub find_mapped : FindMapped h ws cs x (find_of h ws cs x)
  find_mapped = go refl (looked x (records_of h.slots (table_of ws cs)))
    where
      go : {f : Found} → the_map h ws cs x ≡ f → Looked x (records_of h.slots (table_of ws cs)) f → FindMapped h ws cs x (find_of h ws cs x)
      go e (is_live v a) =
          let w = live_found H a in
          rw
          (find_by_lem h ws cs H.opens x 0 w.2)
          (record {
            done = entry_is e (entry_of w.3);
            missed = neither (λ z. omega arith) (not_both e);
            sound = λ z. omega arith;
            walked = found_walked w.2;
            head = refl;
          })
      go e (is_missing f) =
          let w = fresh_missed H f in
          rw
          (find_by_lem h ws cs H.opens x 0 w.2)
          (record {
            done = entry_not e (λ z. omega arith);
            missed = both refl e;
            sound = λ z. omega arith;
            walked = missed_walked w.2;
            head = refl;
          })

  -- a refusal leaves the register as it was, so check accepts it still
  untouched : (a : Answer) → a.head ≡ h → Untouched h ws cs (out a ws cs)
  untouched a e = record { head = e; words = refl; counts = refl }

  pub store_mapped : (v : ℕ) → StoreMapped h ws cs x v (store_of h ws cs x v)
  store_mapped v = go refl (looked x (records_of h.slots (table_of ws cs)))
    where
      fits : the_map h ws cs x ≡ missing → Fresh x (records_of h.slots (table_of ws cs)) → Dec (h.live < most_live_of h) → StoreMapped h ws cs x v (store_of h ws cs x v)
      fits e f (yes l) =
          let d = store_done_lem H x v f l in
          rw
          d.answers
          (record {
            named = neither (λ z. omega arith) (λ u. not_both u.1 e);
            full = neither (λ z. omega arith) (λ u. omega (arith, u.1));
            done = both refl (e, l);
            sound = λ z. omega arith;
            named_entry = λ z. absurd (omega arith);
            done_entry = λ z. refl;
            mapped = λ z y. map_of_lem d.holds y ∙ lookup_put x v (records_of h.slots (table_of ws cs)) y;
            head = λ z. refl;
            refused = λ n. absurd (n refl);
            named_walk = λ z. absurd (omega arith);
            done_walk = λ z. d.walks;
            moved = λ z. sym (store_moved H.proper x v d.walks d.first _ (lists_hold h.slots _).slots);
            reach = λ z. d.first;
            named_bound = λ z. absurd (omega arith);
            done_bound = λ z. absent_bound d.walks;
            accepted = holding_accepted d.holds;
          })
      fits e f (no l) =
          let g = H.live in
          let full : h.live ≡ most_live_of h = omega (arith, H.proper.few) in
          rw
          (store_full H x v f full)
          (record {
            named = neither (λ z. omega arith) (λ u. not_both u.1 e);
            full = both refl (e, full);
            done = neither (λ z. omega arith) (λ u. l u.1);
            sound = λ z. omega arith;
            named_entry = λ z. absurd (omega arith);
            done_entry = λ z. absurd (omega arith);
            mapped = λ z. absurd (omega arith);
            head = λ z. absurd (omega arith);
            refused = λ n. untouched _ refl;
            named_walk = λ z. absurd (omega arith);
            done_walk = λ z. absurd (omega arith);
            moved = λ z. absurd (omega arith);
            reach = λ z. absurd (omega arith);
            named_bound = λ z. absurd (omega arith);
            done_bound = λ z. absurd (omega arith);
            accepted = A;
          })

      go : {f : Found} → the_map h ws cs x ≡ f → Looked x (records_of h.slots (table_of ws cs)) f → StoreMapped h ws cs x v (store_of h ws cs x v)
      go e (is_live w a) =
          let d = live_found H a in
          rw
          (store_by_lem h ws cs H.opens x v d.2)
          (record {
            named = both refl (w, e);
            full = neither (λ z. omega arith) (λ u. not_both e u.0);
            done = neither (λ z. omega arith) (λ u. not_both e u.0);
            sound = λ z. omega arith;
            named_entry = λ z. e ∙ ap live (sym (entry_of d.3));
            done_entry = λ z. absurd (omega arith);
            mapped = λ z. absurd (omega arith);
            head = λ z. absurd (omega arith);
            refused = λ n. untouched _ refl;
            named_walk = λ z. d.2;
            done_walk = λ z. absurd (omega arith);
            moved = λ z. absurd (omega arith);
            reach = λ z. absurd (omega arith);
            named_bound = λ z. found_bound d.2;
            done_bound = λ z. absurd (omega arith);
            accepted = A;
          })
      go e (is_missing f) = fits e f (dec_lt h.live (most_live_of h))

  pub remove_mapped : RemoveMapped h ws cs x (remove_of h ws cs x)
  remove_mapped = go refl (looked x (records_of h.slots (table_of ws cs)))
    where
      go : {f : Found} → the_map h ws cs x ≡ f → Looked x (records_of h.slots (table_of ws cs)) f → RemoveMapped h ws cs x (remove_of h ws cs x)
      go e (is_live w a) =
          let d = remove_done_lem H a in
          rw
          d.answers
          (record {
            done = entry_is e (entry_of d.stands);
            missed = neither (λ z. omega arith) (not_both e);
            sound = λ z. omega arith;
            mapped = λ z y. map_of_lem d.holds y ∙ lookup_without x (records_of h.slots (table_of ws cs)) y;
            head = λ z. refl;
            refused = λ n. absurd (n refl);
            walked = found_walked d.walks;
            moved = λ z. sym (remove_moved H.proper x d.walks d.first _ (lists_hold h.slots _).slots);
            reach = λ z. d.first;
            accepted = holding_accepted d.holds;
          })
      go e (is_missing f) =
          let w = fresh_missed H f in
          rw
          (remove_by_lem h ws cs H.opens x 0 w.2)
          (record {
            done = entry_not e (λ z. omega arith);
            missed = both refl e;
            sound = λ z. omega arith;
            mapped = λ z. absurd (omega arith);
            head = λ z. absurd (omega arith);
            refused = λ n. untouched _ refl;
            walked = missed_walked w.2;
            moved = λ z. absurd (omega arith);
            reach = λ z. absurd (omega arith);
            accepted = A;
          })

  pub change_mapped : (v : ℕ) → ChangeMapped h ws cs x v (change_of h ws cs x v)
  change_mapped v = go refl (looked x (records_of h.slots (table_of ws cs)))
    where
      go : {f : Found} → the_map h ws cs x ≡ f → Looked x (records_of h.slots (table_of ws cs)) f → ChangeMapped h ws cs x v (change_of h ws cs x v)
      go e (is_live w a) =
          let d = change_done_lem H v a in
          rw
          d.answers
          (record {
            done = both refl (w, e);
            missed = neither (λ z. omega arith) (not_both e);
            sound = λ z. omega arith;
            done_entry = λ z. refl;
            mapped = λ z y. map_of_lem d.holds y ∙ lookup_renew x v (records_of h.slots (table_of ws cs)) y;
            head = refl;
            refused = λ n. absurd (n refl);
            walked = found_walked d.walks;
            moved = refl;
            accepted = holding_accepted d.holds;
          })
      go e (is_missing f) =
          let w = fresh_missed H f in
          rw
          (change_by_lem h ws cs H.opens x v w.2)
          (record {
            done = neither (λ z. omega arith) (λ u. not_both u.1 e);
            missed = both refl e;
            sound = λ z. omega arith;
            done_entry = λ z. absurd (omega arith);
            mapped = λ z. absurd (omega arith);
            head = refl;
            refused = λ n. untouched _ refl;
            walked = missed_walked w.2;
            moved = refl;
            accepted = A;
          })

pub check_mapped : (h : Head) (ws cs : List ℕ) → ((check_of h ws cs).number ≡ 0) ↔ Accepted h ws cs
unfolding check_of
check_mapped h ws cs = go (eqb (open_number h (length ws) (length cs)) 0) (accepts h (table_of ws cs)) refl refl
  where
    go : (b a : Bool) → eqb (open_number h (length ws) (length cs)) 0 ≡ b → accepts h (table_of ws cs) ≡ a
        → ((cond b (cond a (refusal 0 h) (refusal 6 h)) (refusal (open_number h (length ws) (length cs)) h)).number ≡ 0) ↔ Accepted h ws cs
    go true true p q = both refl (record { opens = eqb-true _ _ p; accepted = q })
    go true false p q = neither (λ z. omega arith) (λ A. false≢true (sym q ∙ A.accepted))
    go false a p q = neither (eqb-false _ _ p) (λ A. eqb-false _ _ p A.opens)

pub clear_mapped : (old : Head) (m rule salt : ℕ) (ws cs : List ℕ) → ClearMapped old m rule salt ws cs (clear_of old m rule salt ws cs)
unfolding clear_of
clear_mapped old m rule salt ws cs = go (eqb (open_number (new_head m rule salt) (length ws) (length cs)) 0) refl
  where
    n : ℕ
    n = open_number (new_head m rule salt) (length ws) (length cs)

    go : (b : Bool) → eqb n 0 ≡ b → ClearMapped old m rule salt ws cs (cond b (out (answer_of 0 0 0 0 0 (new_head m rule salt)) (replicate (2 * m) 0) (replicate m 0)) (out (refusal n old) ws cs))
    go true e =
        let H = cleared_holding m rule salt (length ws) (length cs) (eqb-true n 0 e) in
        record {
          done = both refl (eqb-true n 0 e);
          mapped = λ z y. map_of_lem H y ∙ lookup_fresh y [] (λ r a. absurd (Memᴰ.not-nil a));
          head = λ z. refl;
          refused = λ f. absurd (f refl);
          accepted = λ z. holding_accepted H;
        }
    go false e =
        record {
          done = neither (eqb-false n 0 e) (eqb-false n 0 e);
          mapped = λ z. absurd (eqb-false n 0 e z);
          head = λ z. absurd (eqb-false n 0 e z);
          refused = λ f. record { head = refl; words = refl; counts = refl };
          accepted = λ z. absurd (eqb-false n 0 e z);
        }

-- all together
pub mapped : Mapped cited
mapped =
    record {
      clears = clear_mapped;
      finds = find_mapped;
      stores = store_mapped;
      removes = remove_mapped;
      changes = change_mapped;
      checks = check_mapped;
    }
