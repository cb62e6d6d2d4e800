-- What the request asks of the register, in its words, for every history.
-- Each follows from the history's end being the arrangement of what is live.
use Prim.Native.Nat.{ℕ, ◌+◌, ◌≤◌, ◌<◌}
use native.Mathlib.Bridge.{le_prop}
use native.Mathlib.Omega.{arith}
use mathlib.Core.Path.{◌≡◌, refl, sym, ap, ◌∙◌, subst}
use mathlib.Core.Bool.{Bool, true, false, cond}
use mathlib.Core.Logic.{◌⊎◌, inl, inr}
use mathlib.Core.List.Memᴰ
use mathlib.Core.List.{List, [], ◌∷◌, ◌++◌, Memᴰ}
use lib.ListN.{length}
use lib.Dec.{ltb}
use borrow.Author.Tests.{eq-eqb, lt-ltb}
use Rattle.arrangement.specs.Table.{Record, Fresh, empty, without}
use Rattle.arrangement.specs.Proper.{Proper}
use Rattle.arrangement.specs.Afresh.{arranged}
use Rattle.arrangement.proofs.Records.{without_among}
use Rattle.arrangement.proofs.Accepted.{gone}
use Rattle.register.specs.Head.{most_live_of}
use Rattle.register.specs.Homes.{space_of}
use Rattle.register.specs.Slices.{words_of, counts_of}
use Rattle.register.specs.Answers.{Out}
use Rattle.register.specs.Clear.{clear_of}
use Rattle.register.specs.Find.{find_of}
use Rattle.register.specs.Store.{store_of}
use Rattle.register.specs.Remove.{remove_of}
use Rattle.register.specs.Change.{change_of}
use Rattle.history.specs.Map.{Found, live, missing, lookup}
use Rattle.history.specs.Calls.{Call, clear, find, store, remove, change, check, census, State, left, after}
use Rattle.history.specs.Live.{Live, head_for, having, insert, added, renewed, valid_clear, none_live, after_live, run_live, Rising, Afresh, History, ended, live_in, SameLive, and, slot_in, find_in}
use Rattle.history.specs.Mapped.{Accepted, the_map, Untouched, FindMapped}
use Rattle.history.proofs.Lookup.{Looked, is_live, is_missing, looked, lookup_fresh, lookup_among, lookup_without, same_lookup}
use Rattle.history.proofs.Rising.{rising_distinct, rising_same, insert_among, insert_rising}
use Rattle.history.proofs.Holding.{Holding}
use Rattle.history.proofs.History.{kept, history}
use Rattle.history.proofs.Accepted.{holding_accepted, map_of_lem}
use Rattle.history.proofs.Mapped.{clear_mapped, find_mapped}
use Rattle.history.proofs.Writes.{store_writes, remove_writes, change_writes}

left_same : {s : State} {o : Out} → Untouched s.head s.words s.counts o → left o ≡ s
left_same u = λ i. record { head = u.head i; words = u.words i; counts = u.counts i }

-- the same settings and the same records are one
same_live : {l k : Live} → Rising l.records → Rising k.records → SameLive l k → l ≡ k
same_live {l} {k} u w same =
    let records : l.records ≡ k.records = rising_same l.records k.records u w (same_lookup l.records k.records (rising_distinct l.records u) (rising_distinct k.records w) same.records) in
    λ i. record { slots = same.slots i; rule = same.rule i; salt = same.salt i; records = records i }

-- one arrangement
afresh_once : {s u : State} {l : Live} → Afresh s l → Afresh u l → s ≡ u
afresh_once {s} {u} {l} A B =
    let one : A.some ≡ B.some = le_prop A.some B.some in
    let words : s.words ≡ u.words = A.words ∙ ap (λ (z : 0 < l.slots). words_of l.slots (arranged (space_of (head_for l) z) l.records)) one ∙ sym B.words in
    let counts : s.counts ≡ u.counts = A.counts ∙ ap (λ (z : 0 < l.slots). counts_of l.slots (arranged (space_of (head_for l) z) l.records)) one ∙ sym B.counts in
    let heads : s.head ≡ u.head = A.head ∙ sym B.head in
    λ i. record { head = heads i; words = words i; counts = counts i }

-- order of calls, removed records and refused calls leave no mark: the same live records under the same settings, the same head and the same slices
pub no_mark : (G H : History) → SameLive (live_in G) (live_in H) → ended G ≡ ended H
no_mark G H same =
    let e = same_live (history G).rising (history H).rising same in
    afresh_once (history G) (subst (λ (l : Live). Afresh (ended H) l) (sym e) (history H))

module _ (H : History) where
  holding : Holding (head_for (live_in H)) (ended H).words (ended H).counts (live_in H).records
  holding = (kept H).holding

  -- an identifier that is not live
  fresh_of : (x : ℕ) → lookup x (live_in H).records ≡ missing → Fresh x (live_in H).records
  fresh_of x = go (looked x (live_in H).records)
    where
      go : {f : Found} → Looked x (live_in H).records f → f ≡ missing → Fresh x (live_in H).records
      go (is_live v a) e = let z : ◌≡◌ {A = ℕ} 0 1 = cc in absurd (omega arith)
      go (is_missing f) e = f

  -- a finished job's name is in no slot: only a zeroed one can have it as its word
  pub name_gone : (x : ℕ) → lookup x (live_in H).records ≡ missing → (i : ℕ) → i < (live_in H).slots → (slot_in H i).identifier ≡ x → slot_in H i ≡ empty
  name_gone x e = gone holding.proper (fresh_of x e) holding.clean

  -- empty slots are zero in both words
  pub empty_zero : (i : ℕ) → i < (live_in H).slots → (slot_in H i).count ≡ 0 → slot_in H i ≡ empty
  empty_zero = holding.clean

  -- two live jobs never share an identifier
  pub never_shared : (i j : ℕ) → i < (live_in H).slots → j < (live_in H).slots → 0 < (slot_in H i).count → 0 < (slot_in H j).count → (slot_in H i).identifier ≡ (slot_in H j).identifier → i ≡ j
  never_shared = holding.proper.once

  -- the slots are the proper arrangement of the live records, as document 01 defines it
  pub proper_always : (some : 0 < (live_in H).slots) × Proper (space_of (head_for (live_in H)) some) (live_in H).records (slot_in H)
  proper_always = (holding.some, holding.proper)

  -- check accepts, always
  pub accepted_always : Accepted (ended H).head (ended H).words (ended H).counts
  accepted_always = rw (kept H).head (holding_accepted holding)

  -- find is the map of the live records
  pub live_is_found : (x v : ℕ) → lookup x (live_in H).records ≡ live v → ((find_in H x).number ≡ 0) × ((find_in H x).entry ≡ v)
  live_is_found x v e =
      rw
      (kept H).head
      (((find_mapped (head_for (live_in H)) (ended H).words (ended H).counts (holding_accepted holding) x).done v).1 (map_of_lem holding x ∙ e))

  pub missing_is_absent : (x : ℕ) → lookup x (live_in H).records ≡ missing → (find_in H x).number ≡ 5
  missing_is_absent x e =
      rw
      (kept H).head
      ((find_mapped (head_for (live_in H)) (ended H).words (ended H).counts (holding_accepted holding) x).missed.1 (map_of_lem holding x ∙ e))

  -- no search takes more probes than there are live records and one, however many came and went
  pub never_slow : (x : ℕ) → (find_in H x).probes ≤ length (live_in H).records + 1
  never_slow x = rw (kept H).head (go (the_map (head_for (live_in H)) (ended H).words (ended H).counts x) refl)
    where
      m : FindMapped (head_for (live_in H)) (ended H).words (ended H).counts x (find_of (head_for (live_in H)) (ended H).words (ended H).counts x)
      m = find_mapped (head_for (live_in H)) (ended H).words (ended H).counts (holding_accepted holding) x

      go : (f : Found) → the_map (head_for (live_in H)) (ended H).words (ended H).counts x ≡ f → (find_of (head_for (live_in H)) (ended H).words (ended H).counts x).probes ≤ length (live_in H).records + 1
      go (live v) e = omega (arith, m.walked.done_bound ((m.done v).1 e).0)
      go missing e = m.walked.missed_bound (m.missed.1 e)

-- one call more

run_more : (calls : List Call) (c : Call) (w n : ℕ) (l : Live) → run_live w n (calls ++ c ∷ []) l ≡ after_live w n c (run_live w n calls l)
unfolding run_live
run_more [] c w n l = refl
run_more (d ∷ calls) c w n l = run_more calls c w n (after_live w n d l)

module _ (H : History) (x : ℕ) where
  live_more : (c : Call) → live_in (and H c) ≡ after_live (length H.before.words) (length H.before.counts) c (live_in H)
  live_more c = run_more H.calls c (length H.before.words) (length H.before.counts) (none_live H.slots H.rule H.salt)

  -- a stored one is found
  pub stored_found : (v : ℕ) → lookup x (live_in H).records ≡ missing → length (live_in H).records < most_live_of (head_for (live_in H))
      → ((find_in (and H (store x v)) x).number ≡ 0) × ((find_in (and H (store x v)) x).entry ≡ v)
  unfolding after_live
  stored_found v e few = live_is_found (and H (store x v)) x v (ap (λ (l : Live). lookup x l.records) (live_more (store x v)) ∙ now)
    where
      r : Record
      r = record { identifier = x; entry = v }

      rising : Rising (insert r (live_in H).records)
      rising = insert_rising r (live_in H).records (fresh_of H x e) (history H).rising

      now : lookup x (added x v (live_in H) (lookup x (live_in H).records)).records ≡ live v
      now =
          rw
          (e, lt-ltb (length (live_in H).records) (most_live_of (head_for (live_in H))) few)
          (lookup_among x v (insert r (live_in H).records) (rising_distinct _ rising) ((insert_among r (live_in H).records r).0 (Memᴰ.head refl)))

  -- a removed one is absent
  pub removed_absent : (find_in (and H (remove x)) x).number ≡ 5
  unfolding after_live
  removed_absent = missing_is_absent (and H (remove x)) x (ap (λ (l : Live). lookup x l.records) (live_more (remove x)) ∙ lookup_without x (live_in H).records x ∙ rw (eq-eqb x x refl))

-- one that no call stored

put_fresh : (x y v : ℕ) (rs : List Record) → (y ≡ x → ⊥) → Fresh x rs → Fresh x (insert (record { identifier = y; entry = v }) rs)
put_fresh x y v rs n f q a e = go (Memᴰ.cases_cons ((insert_among (record { identifier = y; entry = v }) rs q).1 a))
  where
    go : (q ≡ record { identifier = y; entry = v }) ⊎ Memᴰ q rs → ⊥
    go (inl same) = n (ap (λ (r : Record). r.identifier) (sym same) ∙ e)
    go (inr b) = f q b e

fresh_after : (x w n : ℕ) (c : Call) (l : Live) → ((v : ℕ) → c ≡ store x v → ⊥) → Fresh x l.records → Fresh x (after_live w n c l).records
unfolding after_live
fresh_after x w n (clear m rule salt) l u f = go (valid_clear m rule salt w n)
  where
    go : (b : Bool) → Fresh x (cond b (none_live m rule salt) l).records
    go true = λ r a. absurd (Memᴰ.not-nil a)
    go false = f
fresh_after x w n (find y) l u f = f
fresh_after x w n (store y v) l u f = go (lookup y l.records) (ltb (length l.records) (most_live_of (head_for l)))
  where
    apart : y ≡ x → ⊥
    apart e = u v (ap (λ (z : ℕ). store z v) e)

    fits : (b : Bool) → Fresh x (cond b (having (insert (record { identifier = y; entry = v }) l.records) l) l).records
    fits true = put_fresh x y v l.records apart f
    fits false = f

    go : (e : Found) (b : Bool) → Fresh x (added y v l e).records
    go (live e) b = f
    go missing b = fits (ltb (length l.records) (most_live_of (head_for l)))
fresh_after x w n (remove y) l u f = λ r a. f r (without_among y l.records r a).0
fresh_after x w n (change y v) l u f = go (looked y l.records)
  where
    go : {e : Found} → Looked y l.records e → Fresh x (renewed y v l e).records
    go (is_live e a) = put_fresh x y v (without y l.records) (λ q. f _ a q) (λ r b. f r (without_among y l.records r b).0)
    go (is_missing g) = f
fresh_after x w n check l u f = f
fresh_after x w n census l u f = f

fresh_run : (x w n : ℕ) (calls : List Call) (l : Live) → ((v : ℕ) → Memᴰ (store x v) calls → ⊥) → Fresh x l.records → Fresh x (run_live w n calls l).records
unfolding run_live
fresh_run x w n [] l u f = f
fresh_run x w n (c ∷ calls) l u f =
    fresh_run x w n calls (after_live w n c l) (λ v a. u v (Memᴰ.tail a)) (fresh_after x w n c l (λ v e. u v (Memᴰ.head (sym e))) f)

-- a never stored one is absent
pub never_stored_absent : (H : History) (x : ℕ) → ((v : ℕ) → Memᴰ (store x v) H.calls → ⊥) → (find_in H x).number ≡ 5
never_stored_absent H x u =
    missing_is_absent H x (lookup_fresh x (live_in H).records (fresh_run x (length H.before.words) (length H.before.counts) H.calls (none_live H.slots H.rule H.salt) u (λ r a. absurd (Memᴰ.not-nil a))))

-- refused calls leave the register as it was, whatever it is

module _ (s : State) where
  pub refused_clear : (m rule salt : ℕ) → ((clear_of s.head m rule salt s.words s.counts).answer.number ≡ 0 → ⊥) → after (clear m rule salt) s ≡ s
  unfolding after
  refused_clear m rule salt n = left_same ((clear_mapped s.head m rule salt s.words s.counts).refused n)

  pub refused_store : (x v : ℕ) → ((store_of s.head s.words s.counts x v).answer.number ≡ 0 → ⊥) → after (store x v) s ≡ s
  unfolding after
  refused_store x v n = left_same ((store_writes s.head s.words s.counts x v).refused n)

  pub refused_remove : (x : ℕ) → ((remove_of s.head s.words s.counts x).answer.number ≡ 0 → ⊥) → after (remove x) s ≡ s
  unfolding after
  refused_remove x n = left_same ((remove_writes s.head s.words s.counts x).refused n)

  pub refused_change : (x v : ℕ) → ((change_of s.head s.words s.counts x v).answer.number ≡ 0 → ⊥) → after (change x v) s ≡ s
  unfolding after
  refused_change x v n = left_same ((change_writes s.head s.words s.counts x v).refused n)
