-- A table whose neighbours agree is ordered, and the other way round: from a record, back along its way, the one before
-- beats it, the one before that beats that one, and so on.
use Prim.Native.Nat.{ℕ, zero, suc, ◌+◌, ◌-◌, ◌≤◌, ◌<◌}
use mathlib.Core.Path.{◌≡◌, sym, ap, ◌∙◌, subst}
use native.Mathlib.Decide.{dec_lt}
use native.Mathlib.Numerals.{add-one}
use native.Mathlib.Omega.{arith}
use Rattle.arrangement.specs.Table.{Cell, Table, Record, Occupied, record_of, rank}
use Rattle.arrangement.specs.Proper.{Space, slot_at, Beats, Passed, Local, Room}
use Rattle.arrangement.specs.Changes.{raised, lowered, prior, next}
use Rattle.arrangement.proofs.Cycle.{next_in, prior_next, next_prior, slot_at_in, slot_step, slot_back, slot_reach, rank_in}
use Rattle.arrangement.proofs.Beats.{CellBeats, Follows, beats_trans, beats_lower}

-- the record r stands in a slot of t
abbrev pub Stands : ℕ → Table → Record → Type 0
Stands m t r = (i : ℕ) × (i < m) × Occupied t i × (record_of (t i) ≡ r)

-- r has another identifier than the record in slot j
abbrev pub Other : Table → ℕ → Record → Type 0
Other t j r = r.identifier ≡ (t j).identifier → ⊥

-- what a proper arrangement says of its slots alone
pub record Ordered (s : Space) (t : Table) : Type 0 where
  pub once : (i j : ℕ) → i < s.size → j < s.size → Occupied t i → Occupied t j → (t i).identifier ≡ (t j).identifier → i ≡ j
  pub far : (i : ℕ) → i < s.size → Occupied t i → i ≡ slot_at s.size (s.home (t i).identifier) (t i).count
  pub no_gap : (i p : ℕ) → Passed s t i p → Occupied t (slot_at s.size (s.home (t i).identifier) p)
  pub wins : (i p : ℕ) → Passed s t i p
      → let j = slot_at s.size (s.home (t i).identifier) p in Beats (t j).count (t j).identifier p (t i).identifier

-- the slot at p for the record in slot i
abbrev pub way : Space → Table → ℕ → ℕ → ℕ
way s t i p = slot_at s.size (s.home (t i).identifier) p

module _ (s : Space) (t : Table) (local : Local s t) where
  open s use {size as m, home, home_in}

  behind_at : (j : ℕ) {i : ℕ} → i < m → prior m i ≡ j → Follows (t j) (t i)
  behind_at j {i} h e = subst (λ (k : ℕ). Follows (t k) (t i)) e (local i h).behind

  -- back along the way of the record in slot i, n slots and one
  beaten : {i : ℕ} → i < m → (n p : ℕ) → 1 ≤ p → p + suc n ≡ (t i).count → CellBeats (t (way s t i p)) p (t i).identifier
  beaten {i} h zero p l e =
      let c : (t i).count ≡ suc p = omega arith in
      let back : prior m i ≡ way s t i p =
      ap (prior m) ((local i h).far (omega arith) ∙ ap (way s t i) c) ∙ slot_back (home_in _) l in
      let b = behind_at _ h back (omega arith) in
      record { ge = omega arith; tie = λ k. b.tie (omega arith) }
  beaten {i} h (suc n) p l e =
      let ih = beaten h n (suc p) (omega arith) (omega arith) in
      let f : Follows (t (way s t i p)) (t (way s t i (suc p))) =
      behind_at _ (slot_at_in (suc p) (home_in _)) (slot_back (home_in _) l) in
      beats_lower (beats_trans (f (omega arith)) ih)

  local_wins : (i p : ℕ) → Passed s t i p → CellBeats (t (way s t i p)) p (t i).identifier
  local_wins i p q = beaten q.within ((t i).count - suc p) p q.from (omega arith)

  -- the same identifier twice would have passed itself
  never_twice : (i j : ℕ) → i < m → j < m → Occupied t i → (t i).identifier ≡ (t j).identifier → (t i).count < (t j).count → ⊥
  never_twice i j h k o e l =
      let w = local_wins j (t i).count (record { within = k; from = o; below = l }) in
      let here : way s t j (t i).count ≡ i = rw (← e) (sym ((local i h).far o)) in
      omega (arith, (rw (here, e) at w).tie (omega arith))

  pub ordered_of_local : Ordered s t
  ordered_of_local =
      record {
        once = once;
        far = λ i h. (local i h).far;
        no_gap = λ i p q. omega (arith, (local_wins i p q).ge, q.from);
        wins = local_wins;
      }
    where
      once : (i j : ℕ) → i < m → j < m → Occupied t i → Occupied t j → (t i).identifier ≡ (t j).identifier → i ≡ j
      once i j h k o u e = go (dec_lt (t i).count (t j).count) (dec_lt (t j).count (t i).count)
        where
          go : Dec ((t i).count < (t j).count) → Dec ((t j).count < (t i).count) → i ≡ j
          go (yes l) d = absurd (never_twice i j h k o e l)
          go (no l) (yes r) = absurd (never_twice j i k h u (sym e) r)
          go (no l) (no r) =
              let c : (t i).count ≡ (t j).count = omega arith in
              (local i h).far o ∙ rw (c, e) (sym ((local j k).far u))

  -- every slot up to a record's own is occupied
  full_to : (i p : ℕ) → i < m → 1 ≤ p → p ≤ (t i).count → Occupied t (way s t i p)
  full_to i p h l k = go (dec_lt p (t i).count)
    where
      go : Dec (p < (t i).count) → Occupied t (way s t i p)
      go (yes b) = omega (arith, (local_wins i p (record { within = h; from = l; below = b })).ge)
      go (no b) =
          let c : p ≡ (t i).count = omega arith in
          rw (c, ← (local i h).far (omega arith)) (omega arith)

  -- a free slot lies on every way of m slots
  pub counts_below : Room s t → (i : ℕ) → i < m → (t i).count < m
  counts_below (f, fl, z) i h = go (dec_lt (t i).count m)
    where
      go : Dec ((t i).count < m) → (t i).count < m
      go (yes l) = l
      go (no l) =
          let p : ℕ = suc (rank m (home (t i).identifier) f) in
          let b = rank_in f (home_in (t i).identifier) in
          let o : Occupied t (way s t i p) = full_to i p h (omega arith) (omega arith) in
          let u : Occupied t f = subst (Occupied t) (slot_reach (home_in (t i).identifier) fl) o in
          absurd (omega arith)

pub local_of_ordered : {s : Space} {t : Table} → Ordered s t → Local s t
local_of_ordered {s} {t} o i h = record { far = o.far i h; behind = behind }
  where
    behind : Follows (t (prior s.size i)) (t i)
    behind l =
        let p : ℕ = (t i).count - 1 in
        let w = o.wins i p (record { within = h; from = omega arith; below = omega arith }) in
        let c : (t i).count ≡ suc p = omega arith in
        let back : way s t i p ≡ prior s.size i =
        sym (ap (prior s.size) (o.far i h (omega arith) ∙ ap (way s t i) c) ∙ slot_back (s.home_in _) (omega arith)) in
        let b = rw back at w in
        record { ge = omega arith; tie = λ k. b.tie (omega arith) }

-- the count agrees with the home
abbrev pub Placed : Space → ℕ → Cell → Type 0
Placed s i c = 0 < c.count → i ≡ slot_at s.size (s.home c.identifier) c.count

pub placed_raised : (s : Space) {i : ℕ} (c : Cell) → i < s.size → 0 < c.count → Placed s (prior s.size i) c
    → Placed s i (raised c)
placed_raised s c h z f l =
    sym (next_prior h) ∙ ap (next s.size) (f z) ∙ rw (add-one c.count) (sym (slot_step s.size (s.home c.identifier) z))

pub placed_lowered : (s : Space) {i : ℕ} (c : Cell) → i < s.size → 2 ≤ c.count → Placed s (next s.size i) c
    → Placed s i (lowered c)
placed_lowered s {i} c h z f l =
    let e : c.count ≡ suc (c.count - 1) = omega arith in
    let g : next s.size i ≡ slot_at s.size (s.home c.identifier) (suc (c.count - 1)) =
    f (omega arith) ∙ ap (slot_at s.size (s.home c.identifier)) e in
    sym (prior_next h) ∙ ap (prior s.size) g ∙ slot_back (s.home_in _) (omega arith)

-- forwards: the next slot's cell may stand behind this one's
pub local_next : (s : Space) (t : Table) → Local s t → (i : ℕ) → i < s.size → Follows (t i) (t (next s.size i))
local_next s t local i h = behind_at s t local i (next_in h) (prior_next h)
