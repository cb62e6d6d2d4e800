-- The walk: how it ends on any table, and on an ordered one that it finds exactly what stands.
-- At each slot the walk's record meets itself, beats the occupant, or is beaten by it; one induction carries that evidence.
use Prim.Native.Nat.{ℕ, zero, suc, ◌+◌, ◌≤◌, ◌<◌}
use mathlib.Core.Path.{◌≡◌, refl, subst}
use mathlib.Core.Bool.{Bool, true, false, cond, ◌&&◌, ◌||◌}
use native.Mathlib.Decide.{dec_lt, ℕ_discrete}
use native.Mathlib.Omega.{arith}
use lib.Dec.{eqb, ltb}
use borrow.Author.Tests.{ltb-true, ltb-false, eqb-true, eqb-false}
use Rattle.arrangement.specs.Table.{Cell, Table, Occupied, rank}
use Rattle.arrangement.specs.Proper.{Space, slot_at, Local, Room}
use Rattle.arrangement.specs.Walk.{End, found, absent, endless, Turn, hit, miss, on, turn, end_at, walk_from, walk}
use Rattle.arrangement.proofs.Cycle.{slot_at_in, slot_reach, rank_in}
use Rattle.arrangement.proofs.Beats.{CellBeats, BeatsCell, beats_not_both, beats_more}
use Rattle.arrangement.proofs.Local.{Ordered, way, ordered_of_local, counts_below}

-- why the walk for x does what it does at a cell with p
pub data Judged (p x : ℕ) (c : Cell) : Turn → Type 0 where
  meets : c.count ≡ p → c.identifier ≡ x → Judged p x c hit
  beats : BeatsCell p x c → Judged p x c miss
  beaten : CellBeats c p x → Judged p x c on

pub judged : (p x : ℕ) (c : Cell) → Judged p x c (turn p x c)
unfolding turn
judged p x c = go _ _ _ _ refl refl refl refl
  where
    go : (a b l g : Bool) → eqb c.count p ≡ a → eqb c.identifier x ≡ b → ltb c.count p ≡ l → ltb x c.identifier ≡ g
        → Judged p x c (cond (a && b) hit (cond (l || (a && g)) miss on))
    go true true l g ea eb el eg = meets (eqb-true c.count p ea) (eqb-true c.identifier x eb)
    go true false true g ea eb el eg = absurd (omega (arith, eqb-true c.count p ea, ltb-true c.count p el))
    go true false false true ea eb el eg = beats (record { ge = omega (arith, eqb-true c.count p ea); tie = λ k. ltb-true x c.identifier eg })
    go true false false false ea eb el eg =
        let n = eqb-false c.identifier x eb in
        beaten (record { ge = omega (arith, eqb-true c.count p ea); tie = λ k. omega (arith, ltb-false x c.identifier eg) })
    go false b true g ea eb el eg = beats (beats_more _ _ (ltb-true c.count p el))
    go false b false g ea eb el eg =
        let n = eqb-false c.count p ea in
        beaten (beats_more _ _ (omega (arith, ltb-false c.count p el)))

judged_hit : {p x : ℕ} {c : Cell} {τ : Turn} → Judged p x c τ → c.count ≡ p → c.identifier ≡ x → τ ≡ hit
judged_hit (meets d y) e f = refl
judged_hit (beats b) e f = absurd (omega (arith, b.tie (omega arith)))
judged_hit (beaten b) e f = absurd (omega (arith, b.tie (omega arith)))

judged_miss : {p x : ℕ} {c : Cell} {τ : Turn} → Judged p x c τ → BeatsCell p x c → τ ≡ miss
judged_miss (meets d y) b = absurd (omega (arith, b.tie (omega arith)))
judged_miss (beats a) b = refl
judged_miss (beaten a) b = absurd (beats_not_both a b)

judged_on : {p x : ℕ} {c : Cell} {τ : Turn} → Judged p x c τ → CellBeats c p x → τ ≡ on
judged_on (meets d y) b = absurd (omega (arith, b.tie (omega arith)))
judged_on (beats a) b = absurd (beats_not_both a b)
judged_on (beaten a) b = refl

pub turn_hit : (p x : ℕ) (c : Cell) → c.count ≡ p → c.identifier ≡ x → turn p x c ≡ hit
turn_hit p x c = judged_hit (judged p x c)

pub turn_miss : (p x : ℕ) (c : Cell) → BeatsCell p x c → turn p x c ≡ miss
turn_miss p x c = judged_miss (judged p x c)

pub turn_on : (p x : ℕ) (c : Cell) → CellBeats c p x → turn p x c ≡ on
turn_on p x c = judged_on (judged p x c)

-- the walk for x goes on at each p from a to before b
abbrev pub Onto : ℕ → ℕ → ℕ → Table → ℕ → ℕ → Type 0
Onto m h x t a b = (q : ℕ) → a ≤ q → q < b → CellBeats (t (slot_at m h q)) q x

-- how the walk for x over p from a to before b ends, and why
pub data Ended (m h x : ℕ) (t : Table) (a b : ℕ) : End → Type 0 where
  at_found : (p : ℕ) → a ≤ p → p < b → Onto m h x t a p → (t (slot_at m h p)).count ≡ p → (t (slot_at m h p)).identifier ≡ x
      → Ended m h x t a b (found (slot_at m h p) p)
  at_absent : (p : ℕ) → a ≤ p → p < b → Onto m h x t a p → BeatsCell p x (t (slot_at m h p))
      → Ended m h x t a b (absent (slot_at m h p) p)
  at_none : Onto m h x t a b → Ended m h x t a b endless

module _ (m h x : ℕ) (t : Table) where
  onto_more : (a b : ℕ) → CellBeats (t (slot_at m h a)) a x → Onto m h x t (suc a) b → Onto m h x t a b
  onto_more a b w o q k l = go (ℕ_discrete a q)
    where
      go : Dec (a ≡ q) → CellBeats (t (slot_at m h q)) q x
      go (yes e) = subst (λ (r : ℕ). CellBeats (t (slot_at m h r)) r x) e w
      go (no n) = o q (omega arith) l

  ended_more : (a b c : ℕ) {e : End} → c ≡ b → CellBeats (t (slot_at m h a)) a x → Ended m h x t (suc a) c e → Ended m h x t a b e
  ended_more a b c u w (at_found p k l o d y) = at_found p (omega arith) (omega arith) (onto_more a p w o) d y
  ended_more a b c u w (at_absent p k l o d) = at_absent p (omega arith) (omega arith) (onto_more a p w o) d
  ended_more a b c u w (at_none o) = at_none (onto_more a b w (λ q k l. o q k (omega arith)))

  walked_from : (n p : ℕ) → Ended m h x t p (p + n) (walk_from m h x t n p)
  unfolding walk_from
  walked_from zero p = at_none (λ q k l. absurd (omega arith))
  walked_from (suc n) p = go (judged p x (t (slot_at m h p))) (walked_from n (suc p))
    where
      go : {τ : Turn} {e : End} → Judged p x (t (slot_at m h p)) τ → Ended m h x t (suc p) (suc p + n) e
          → Ended m h x t p (p + suc n) (end_at τ (slot_at m h p) p e)
      go (meets d y) r = at_found p (omega arith) (omega arith) (λ q k l. absurd (omega arith)) d y
      go (beats b) r = at_absent p (omega arith) (omega arith) (λ q k l. absurd (omega arith)) b
      go (beaten b) r = ended_more p (p + suc n) (suc p + n) (omega arith) b r

  pub walked : Ended m h x t 1 (1 + m) (walk m h x t)
  unfolding walk
  walked = walked_from m 1

-- what a walk that ends found, or absent, says of any table

pub record FoundAt (m h x : ℕ) (t : Table) (i p : ℕ) : Type 0 where
  pub slot : i ≡ slot_at m h p
  pub from : 1 ≤ p
  pub to : p ≤ m
  pub count : (t i).count ≡ p
  pub identifier : (t i).identifier ≡ x
  pub passed : Onto m h x t 1 p

pub record AbsentAt (m h x : ℕ) (t : Table) (i p : ℕ) : Type 0 where
  pub slot : i ≡ slot_at m h p
  pub from : 1 ≤ p
  pub to : p ≤ m
  pub wins : BeatsCell p x (t i)
  pub passed : Onto m h x t 1 p

module _ (m h x : ℕ) (t : Table) where
  pub found_at : {i p : ℕ} → walk m h x t ≡ found i p → FoundAt m h x t i p
  found_at {i} {p} = go (walked m h x t)
    where
      go : {e : End} → Ended m h x t 1 (1 + m) e → e ≡ found i p → FoundAt m h x t i p
      go (at_found q k l o d y) u =
          let s : slot_at m h q ≡ i = cc in
          let c : q ≡ p = cc in
          record {
            slot = cc;
            from = omega arith;
            to = omega arith;
            count = cc;
            identifier = cc;
            passed = λ r a b. o r a (omega arith);
          }
      go (at_absent q k l o d) u = let z : ◌≡◌ {A = ℕ} 0 1 = cc in absurd (omega arith)
      go (at_none o) u = let z : ◌≡◌ {A = ℕ} 0 1 = cc in absurd (omega arith)

  pub absent_at : {i p : ℕ} → walk m h x t ≡ absent i p → AbsentAt m h x t i p
  absent_at {i} {p} = go (walked m h x t)
    where
      go : {e : End} → Ended m h x t 1 (1 + m) e → e ≡ absent i p → AbsentAt m h x t i p
      go (at_absent q k l o d) u =
          let s : slot_at m h q ≡ i = cc in
          let c : q ≡ p = cc in
          record {
            slot = cc;
            from = omega arith;
            to = omega arith;
            wins = rw (s, c) at d;
            passed = λ r a b. o r a (omega arith);
          }
      go (at_found q k l o d y) u = let z : ◌≡◌ {A = ℕ} 0 1 = cc in absurd (omega arith)
      go (at_none o) u = let z : ◌≡◌ {A = ℕ} 0 1 = cc in absurd (omega arith)

  pub absent_turn : {i p : ℕ} → AbsentAt m h x t i p → turn p x (t i) ≡ miss
  absent_turn a = turn_miss _ x _ a.wins

  pub earlier_turns : {p : ℕ} → Onto m h x t 1 p → (q : ℕ) → 1 ≤ q → q < p → turn q x (t (slot_at m h q)) ≡ on
  earlier_turns o q k l = turn_on q x _ (o q k l)

pub found_in : (s : Space) (t : Table) (x : ℕ) {j p : ℕ} → walk s.size (s.home x) x t ≡ found j p → j < s.size
found_in s t x {j} {p} e = rw (found_at s.size (s.home x) x t e).slot (slot_at_in p (s.home_in x))

pub absent_in : (s : Space) (t : Table) (x : ℕ) {j p : ℕ} → walk s.size (s.home x) x t ≡ absent j p → j < s.size
absent_in s t x {j} {p} e = rw (absent_at s.size (s.home x) x t e).slot (slot_at_in p (s.home_in x))

-- on a table with a free slot the walk ends

module _ (s : Space) (t : Table) (room : Room s t) (x : ℕ) where
  open s use {size as m, home, home_in}

  never_all : Onto m (home x) x t 1 (1 + m) → ⊥
  never_all o =
      let q : ℕ = suc (rank m (home x) room.0) in
      let b = rank_in room.0 (home_in x) in
      let w = o q (omega arith) (omega arith) in
      let u = rw (slot_reach (home_in x) room.1) at w.ge in
      omega (arith, room.2)

  pub walk_ends : walk m (home x) x t ≡ endless → ⊥
  walk_ends = go (walked m (home x) x t)
    where
      go : {e : End} → Ended m (home x) x t 1 (1 + m) e → e ≡ endless → ⊥
      go (at_found q k l o d y) u = let z : ◌≡◌ {A = ℕ} 0 1 = cc in absurd (omega arith)
      go (at_absent q k l o d) u = let z : ◌≡◌ {A = ℕ} 0 1 = cc in absurd (omega arith)
      go (at_none o) u = never_all o

  pub walk_misses : ((i : ℕ) → i < m → Occupied t i → (t i).identifier ≡ x → ⊥)
      → (j : ℕ) × (p : ℕ) × (walk m (home x) x t ≡ absent j p)
  walk_misses none = go (walked m (home x) x t)
    where
      go : {e : End} → Ended m (home x) x t 1 (1 + m) e → (j : ℕ) × (p : ℕ) × (e ≡ absent j p)
      go (at_found q k l o d y) = absurd (none (slot_at m (home x) q) (slot_at_in q (home_in x)) (omega arith) y)
      go (at_absent q k l o d) = (slot_at m (home x) q, q, refl)
      go (at_none o) = absurd (never_all o)

-- on an ordered table it finds what stands there

module _ (s : Space) (t : Table) (local : Local s t) (room : Room s t) where
  open s use {size as m, home, home_in}

  module _ (i : ℕ) (h : i < m) (occ : Occupied t i) where
    -- the walk for a record does not go on at the record's own slot
    own_slot : {b : ℕ} → Onto m (home (t i).identifier) (t i).identifier t 1 b → (t i).count < b → ⊥
    own_slot o l =
        let w = rw (← (local i h).far occ) at (o (t i).count occ l) in
        omega (arith, w.tie (omega arith))

    pub walk_finds : walk m (home (t i).identifier) (t i).identifier t ≡ found i (t i).count
    walk_finds = go (walked m (home (t i).identifier) (t i).identifier t)
      where
        ordered : Ordered s t
        ordered = ordered_of_local s t local

        misses : (q : ℕ) → 1 ≤ q → Onto m (home (t i).identifier) (t i).identifier t 1 q
            → BeatsCell q (t i).identifier (t (way s t i q)) → ⊥
        misses q k o b = compare (dec_lt q (t i).count) (dec_lt (t i).count q)
          where
            compare : Dec (q < (t i).count) → Dec ((t i).count < q) → ⊥
            compare (yes l) d = beats_not_both b (ordered.wins i q (record { within = h; from = k; below = l }))
            compare (no l) (yes g) = own_slot o g
            compare (no l) (no g) =
                let e : q ≡ (t i).count = omega arith in
                let w = rw (e, ← (local i h).far occ) at b in
                omega (arith, w.tie (omega arith))

        go : {e : End} → Ended m (home (t i).identifier) (t i).identifier t 1 (1 + m) e → e ≡ found i (t i).count
        go (at_found q k l o d y) =
            let e : way s t i q ≡ i = ordered.once (way s t i q) i (slot_at_in q (home_in _)) h (omega arith) occ y in
            cc
        go (at_absent q k l o b) = absurd (misses q k o b)
        go (at_none o) = absurd (own_slot o (omega (arith, counts_below s t local room i h)))

  pub absent_means : {x j p : ℕ} → walk m (home x) x t ≡ absent j p → (i : ℕ) → i < m → Occupied t i → (t i).identifier ≡ x → ⊥
  absent_means {x} e i h o y =
      let f = rw y at (walk_finds i h o) in
      let z : ◌≡◌ {A = ℕ} 0 1 = cc in
      omega arith
