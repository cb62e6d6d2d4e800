-- No count, and no walk that finds, takes more than there are records; a walk that misses takes at most one more.
-- The slots passed are occupied by distinct records, and the pigeonhole counts them.
use Prim.Native.Nat.{ℕ, suc, ◌-◌, ◌≤◌, ◌<◌}
use native.Mathlib.Omega.{arith}
use native.Mathlib.Decide.{ℕ_discrete, dec_lt}
use mathlib.Core.Path.{◌≡◌, sym, ap, ◌∙◌, subst}
use mathlib.Core.List.Memᴰ
use mathlib.Core.List.{List}
use lib.ListN.{length}
use Rattle.arrangement.specs.Table.{Table, Occupied, Record, Among, records_of, onward, rank}
use Rattle.arrangement.specs.Proper.{Space, slot_at, Proper}
use Rattle.arrangement.specs.Walk.{found, absent, walk}
use Rattle.arrangement.proofs.Cycle.{slot_suc, onward_in, rank_onward}
use Rattle.arrangement.proofs.Walk.{found_at, found_in, absent_at}
use Rattle.arrangement.proofs.Records.{Once, stands_of_among, distinct_records, length_full, pigeonhole}

module _ (s : Space) (rs : List Record) (t : Table) (P : Proper s rs t) where
  -- a run of occupied slots is no longer than there are records
  run_le : (h n : ℕ) → h < s.size → n ≤ s.size → ((k : ℕ) → k < n → Occupied t (onward s.size h k)) → n ≤ length rs
  run_le h n l w full = omega (arith, length_full n run full, pigeonhole (records_of n run) rs (distinct_records n run once) among)
    where
      run : Table
      run k = t (onward s.size h k)

      once : Once n run
      once i j u v o p e =
          let same = P.once _ _ (onward_in i l) (onward_in j l) o p e in
          sym (rank_onward l (omega arith)) ∙ ap (rank s.size h) same ∙ rank_onward l (omega arith)

      among : (r : Record) → Among r (records_of n run) → Among r rs
      among r a =
          let st = stands_of_among n run r a in
          Memᴰ.cast (sym st.3) (P.others _ (onward_in st.0 l) st.2)

  -- no count exceeds the number of records
  pub count_le : (i : ℕ) → i < s.size → (t i).count ≤ length rs
  count_le i l = go (dec_lt s.size (t i).count)
    where
      h : ℕ
      h = s.home (t i).identifier

      on_way : (k : ℕ) → suc k < (t i).count → Occupied t (onward s.size h k)
      on_way k g = subst (Occupied t) (slot_suc s.size h k) (P.no_gap i (suc k) (record { within = l; from = omega arith; below = g }))

      last : (k : ℕ) → suc k ≡ (t i).count → Occupied t (onward s.size h k)
      last k e =
          let here : i ≡ onward s.size h k = P.far i l (omega arith) ∙ ap (slot_at s.size h) (sym e) ∙ slot_suc s.size h k in
          subst (Occupied t) here (omega arith)

      each : (k : ℕ) → k < (t i).count → Dec (suc k ≡ (t i).count) → Occupied t (onward s.size h k)
      each k g (yes e) = last k e
      each k g (no n) = on_way k (omega arith)

      go : Dec (s.size < (t i).count) → (t i).count ≤ length rs
      go (yes g) = absurd (omega (arith, P.few, run_le h s.size (s.home_in _) (omega arith) (λ k w. on_way k (omega arith))))
      go (no n) = run_le h (t i).count (s.home_in _) (omega arith) (λ k g. each k g (ℕ_discrete (suc k) (t i).count))

  -- found takes at most as many probes as there are records
  pub found_le : (x i p : ℕ) → walk s.size (s.home x) x t ≡ found i p → p ≤ length rs
  found_le x i p e =
      let f = found_at s.size (s.home x) x t e in
      omega (arith, count_le i (found_in s t x e))

  -- absent at most one more
  pub absent_le : (x j p : ℕ) → walk s.size (s.home x) x t ≡ absent j p → p ≤ suc (length rs)
  absent_le x j p e =
      let m = s.size in
      let a = absent_at m (s.home x) x t e in
      let on_way : (k : ℕ) → k < p - 1 → Occupied t (onward m (s.home x) k) = λ k l. subst (Occupied t) (slot_suc m (s.home x) k) (omega (arith, (a.passed (suc k) (omega arith) (omega arith)).ge)) in
      omega (arith, run_le (s.home x) (p - 1) (s.home_in x) (omega arith) on_way)
