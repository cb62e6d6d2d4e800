-- After every list of calls from a cleared register, head and both slices are those of the one arrangement of the live records.
-- Each call keeps the register holding the arrangement of what the calls leave live; a set of records has one arrangement.
use Prim.Native.Nat.{ℕ, ◌+◌, ◌*◌, ◌-◌, ◌≤◌}
use native.Mathlib.Omega.{arith}
use mathlib.Core.Path.{◌≡◌, refl, sym, ap, ◌∙◌, subst}
use mathlib.Core.Bool.{Bool, true, false, cond}
use mathlib.Core.List.{List, [], ◌∷◌}
use lib.ListN.{length, length-replicate}
use borrow.Author.Tests.{ltb-true, ltb-false, eqb-true}
use Rattle.arrangement.specs.Table.{Record, Fresh, SameRecords, without}
use Rattle.arrangement.specs.Afresh.{arranged}
use Rattle.arrangement.proofs.Records.{same_length, without_among, without_fresh}
use Rattle.arrangement.proofs.Accepted.{proper_of_same}
use Rattle.arrangement.proofs.Afresh.{exactly_one}
use Rattle.register.specs.declared.head.Head.{Head}
use Rattle.register.specs.Head.{head_of, most_live_of}
use Rattle.register.specs.Homes.{space_of}
use Rattle.register.specs.Slices.{table_of}
use Rattle.register.specs.Private.{Holds}
use Rattle.register.specs.Answers.{Out, open_number}
use Rattle.register.specs.Clear.{new_head}
use Rattle.register.proofs.Slices.{held_words, held_counts, holds_own, holds_as}
use Rattle.register.proofs.Opened.{opened_lent}
use Rattle.history.specs.Map.{Found}
use Rattle.history.specs.Calls.{Call, clear, find, store, remove, change, check, census, State, left, after, run}
use Rattle.history.specs.Live.{Live, having, head_for, insert, valid_clear, none_live, has_room, added, renewed, after_live, run_live, Rising, Afresh, History, ended, live_in, Kept}
use Rattle.history.proofs.Lookup.{Looked, is_live, is_missing, looked}
use Rattle.history.proofs.Holding.{Holding, cleared_holding, live_found, fresh_missed, store_by_lem, remove_by_lem, change_by_lem, store_full, store_done_lem, remove_done_lem, change_done_lem}
use Rattle.history.proofs.Rising.{rising_distinct, insert_among, insert_rising, without_rising}
use Rattle.history.proofs.Asked.{find_leaves, check_leaves, census_leaves, valid_opens, clear_taken, clear_refused}

-- what every call keeps, over slices of w words and c counts
pub record KeptAt (w c : ℕ) (s : State) (l : Live) : Type 0 where
  pub head : s.head ≡ head_for l
  pub holding : Holding (head_for l) s.words s.counts l.records
  pub rising : Rising l.records
  pub words : length s.words ≡ w
  pub counts : length s.counts ≡ c

-- the same records in another order
pub holding_same : {h : Head} {ws cs : List ℕ} {rs : List Record} → Holding h ws cs rs → (qs : List Record) → Rising qs → SameRecords rs qs → Holding h ws cs qs
holding_same {h} {ws} {cs} {rs} H qs u same =
    let d = rising_distinct qs u in
    record {
      opens = H.opens;
      some = H.some;
      proper = proper_of_same H.proper qs d same;
      clean = H.clean;
      live = H.live ∙ same_length rs qs H.proper.distinct d same;
    }

-- a register of the live records l over these slices
abbrev pub at : Live → List ℕ → List ℕ → State
at l ws cs = record { head = head_for l; words = ws; counts = cs }

clear_kept : (old : Head) (m rule salt : ℕ) (ws cs : List ℕ) → valid_clear m rule salt (length ws) (length cs) ≡ true
    → KeptAt (length ws) (length cs) (after (clear m rule salt) (record { head = old; words = ws; counts = cs })) (none_live m rule salt)
unfolding after Rising
clear_kept old m rule salt ws cs e =
    let n : open_number (new_head m rule salt) (length ws) (length cs) ≡ 0 = eqb-true _ _ (valid_opens m rule salt (length ws) (length cs) ∙ e) in
    let g = opened_lent (new_head m rule salt) ws cs n in
    rw
    (clear_taken old m rule salt ws cs e)
    (record {
      head = refl;
      holding = cleared_holding m rule salt (length ws) (length cs) n;
      rising = tt;
      words = length-replicate (2 * m) 0 ∙ sym g.words;
      counts = length-replicate m 0 ∙ sym g.counts;
    })

module _ (l : Live) (ws cs : List ℕ) (K : KeptAt (length ws) (length cs) (at l ws cs) l) where
  -- another table in the slices, of the records qs
  kept_table : (n : ℕ) {ps : List Record} (qs : List Record) {us ds : List ℕ} → Holding (head_of l.slots l.rule l.salt n) us ds ps → Rising qs → SameRecords ps qs
      → KeptAt (length ws) (length cs) (record { head = head_of l.slots l.rule l.salt n; words = us; counts = ds }) (having qs l)
  kept_table n qs {us} {ds} H rising same =
      let G = holding_same H qs rising same in
      let was = opened_lent (head_for l) ws cs K.holding.opens in
      let now = opened_lent (head_of l.slots l.rule l.salt n) us ds H.opens in
      record {
        head = ap (head_of l.slots l.rule l.salt) G.live;
        holding = subst (λ (k : ℕ). Holding (head_of l.slots l.rule l.salt k) us ds qs) G.live G;
        rising = rising;
        words = now.words ∙ sym was.words;
        counts = now.counts ∙ sym was.counts;
      }

  -- what a call leaves, by what it is known to leave
  kept_by : {o u : Out} {q : Live} → o ≡ u → KeptAt (length ws) (length cs) (left u) q → KeptAt (length ws) (length cs) (left o) q
  kept_by {q = q} e k = subst (λ (p : Out). KeptAt (length ws) (length cs) (left p) q) (sym e) k

  clear_step : (m rule salt : ℕ) → KeptAt (length ws) (length cs) (after (clear m rule salt) (at l ws cs)) (after_live (length ws) (length cs) (clear m rule salt) l)
  unfolding after after_live
  clear_step m rule salt = go (valid_clear m rule salt (length ws) (length cs)) refl
    where
      go : (b : Bool) → valid_clear m rule salt (length ws) (length cs) ≡ b → KeptAt (length ws) (length cs) (after (clear m rule salt) (at l ws cs)) (cond b (none_live m rule salt) l)
      go true e = clear_kept (head_for l) m rule salt ws cs e
      go false e = kept_by (clear_refused (head_for l) m rule salt ws cs e) K

  store_step : (x v : ℕ) → KeptAt (length ws) (length cs) (after (store x v) (at l ws cs)) (after_live (length ws) (length cs) (store x v) l)
  unfolding after after_live
  store_step x v = go (looked x l.records)
    where
      H : Holding (head_for l) ws cs l.records
      H = K.holding

      r : Record
      r = record { identifier = x; entry = v }

      fits : Fresh x l.records → (b : Bool) → has_room l ≡ b
          → KeptAt (length ws) (length cs) (after (store x v) (at l ws cs)) (cond b (having (insert r l.records) l) l)
      fits f true e =
          let d = store_done_lem H x v f (ltb-true _ _ e) in
          kept_by d.answers (kept_table (length l.records + 1) (insert r l.records) d.holds (insert_rising r l.records f K.rising) (insert_among r l.records))
      fits f false e =
          let most : most_live_of (head_for l) ≤ length l.records = ltb-false _ _ e in
          let full : length l.records ≡ most_live_of (head_for l) = omega (arith, H.proper.few) in
          kept_by (store_full H x v f full) K

      go : {f : Found} → Looked x l.records f → KeptAt (length ws) (length cs) (after (store x v) (at l ws cs)) (added x v l f)
      go (is_live e a) = kept_by (store_by_lem (head_for l) ws cs H.opens x v (live_found H a).2) K
      go (is_missing f) = fits f (has_room l) refl

  remove_step : (x : ℕ) → KeptAt (length ws) (length cs) (after (remove x) (at l ws cs)) (after_live (length ws) (length cs) (remove x) l)
  unfolding after after_live
  remove_step x = go (looked x l.records)
    where
      H : Holding (head_for l) ws cs l.records
      H = K.holding

      go : {f : Found} → Looked x l.records f → KeptAt (length ws) (length cs) (after (remove x) (at l ws cs)) (having (without x l.records) l)
      go (is_live e a) =
          let d = remove_done_lem H a in
          kept_by d.answers (kept_table (length l.records - 1) (without x l.records) d.holds (without_rising x l.records K.rising) (λ r. (λ b. b, λ b. b)))
      go (is_missing f) = rw (without_fresh x l.records f) (kept_by (remove_by_lem (head_for l) ws cs H.opens x 0 (fresh_missed H f).2) K)

  change_step : (x v : ℕ) → KeptAt (length ws) (length cs) (after (change x v) (at l ws cs)) (after_live (length ws) (length cs) (change x v) l)
  unfolding after after_live
  change_step x v = go (looked x l.records)
    where
      H : Holding (head_for l) ws cs l.records
      H = K.holding

      r : Record
      r = record { identifier = x; entry = v }

      go : {f : Found} → Looked x l.records f → KeptAt (length ws) (length cs) (after (change x v) (at l ws cs)) (renewed x v l f)
      go (is_live e a) =
          let d = change_done_lem H v a in
          let rest = without x l.records in
          kept_by d.answers (kept_table (length l.records) (insert r rest) d.holds (insert_rising r rest (λ q b. (without_among x l.records q b).1) (without_rising x l.records K.rising)) (insert_among r rest))
      go (is_missing f) = kept_by (change_by_lem (head_for l) ws cs H.opens x v (fresh_missed H f).2) K

  step : (c : Call) → KeptAt (length ws) (length cs) (after c (at l ws cs)) (after_live (length ws) (length cs) c l)
  unfolding after_live
  step (clear m rule salt) = clear_step m rule salt
  step (find x) = rw (find_leaves (at l ws cs) x) K
  step (store x v) = store_step x v
  step (remove x) = remove_step x
  step (change x v) = change_step x v
  step check = rw (check_leaves (at l ws cs)) K
  step census = rw (census_leaves (at l ws cs)) K

pub kept_after : {w c : ℕ} {s : State} {l : Live} → KeptAt w c s l → (call : Call) → KeptAt w c (after call s) (after_live w c call l)
kept_after {w} {c} {s} {l} K call =
    let here : s ≡ at l s.words s.counts = λ i. record { head = K.head i; words = s.words; counts = s.counts } in
    let there = step l s.words s.counts (record { head = refl; holding = K.holding; rising = K.rising; words = refl; counts = refl }) call in
    subst (λ (q : State). KeptAt w c (after call q) (after_live w c call l)) (sym here)
    (subst (λ (n : ℕ). KeptAt n c (after call (at l s.words s.counts)) (after_live n c call l)) K.words
    (subst (λ (n : ℕ). KeptAt (length s.words) n (after call (at l s.words s.counts)) (after_live (length s.words) n call l)) K.counts there))

pub kept_run : {w c : ℕ} {s : State} {l : Live} → KeptAt w c s l → (calls : List Call) → KeptAt w c (run calls s) (run_live w c calls l)
unfolding run run_live
kept_run K [] = K
kept_run {s = s} K (call ∷ calls) = kept_run {s = after call s} (kept_after K call) calls

-- a register that holds the arrangement of its live records is that arrangement, word by word and count by count
pub afresh : {w c : ℕ} {s : State} {l : Live} → KeptAt w c s l → Afresh s l
afresh {w} {c} {s} {l} K =
    record {
      some = H.some;
      few = omega (arith, H.proper.few);
      rising = K.rising;
      head = K.head;
      words = held_words lists;
      counts = held_counts lists;
    }
  where
    H : Holding (head_for l) s.words s.counts l.records
    H = K.holding

    lists : Holds l.slots (arranged (space_of (head_for l) H.some) l.records) s.words s.counts
    lists =
        let fit = opened_lent (head_for l) s.words s.counts H.opens in
        holds_as (holds_own fit.words fit.counts) (exactly_one (space_of (head_for l) H.some) l.records (table_of s.words s.counts) H.proper H.clean)

-- every history
pub kept : (H : History) → KeptAt (length H.before.words) (length H.before.counts) (ended H) (live_in H)
unfolding run
kept H = kept_run (clear_kept H.before.head H.slots H.rule H.salt H.before.words H.before.counts H.valid) H.calls

pub history : Kept run
history H = afresh (kept H)
