-- Two proper arrangements of the same records are equal, place by place.
-- A record further on in one than in the other leads to another such record nearer to a free place, without end.
use Prim.Native.Nat.{ℕ, zero, suc, ◌+◌, ◌-◌, ◌*◌, ◌/◌, ◌%◌, ◌≤◌, ◌<◌}
use native.Mathlib.Nat.{eq-zero-or-pos, mod-lt, div-lt_iff_lt-mul, div-add-mod', mul-zero}
use native.Mathlib.Omega.{arith}
use native.Mathlib.Numerals.{add-one}
use native.Mathlib.Decide.{ℕ_discrete, dec_lt}
use mathlib.Core.Path.{◌≡◌, refl, sym, ap, ◌∙◌, subst}
use mathlib.Core.Logic.{◌↔◌, ◌⊎◌, inl, inr, ⊎_elim, ◌≢◌}
use mathlib.Core.List.Memᴰ
use mathlib.Core.List.{List, ◌∷◌}
use Rattle.arrangement.specs.Table.{Cell, Table, Occupied, Record, record_of, Among, Fresh, Distinct, records_of, rank, SameRecords}
use Rattle.arrangement.specs.Proper.{Space, slot_at, Beats, Passed, Proper, Clean}
use Rattle.arrangement.specs.Buckets.{Buckets, Held, Place, PassedBucket, ProperBuckets, InOrder, CleanPlaces, one_each}
use Rattle.arrangement.specs.Changes.{prior, next}
use Rattle.arrangement.proofs.Cycle.{prior_next, slot_at_in, slot_step, next_in, rank_step}
use Rattle.arrangement.proofs.Beats.{beats_trans, beats_not_both}
use Rattle.arrangement.proofs.Local.{Stands}
use Rattle.arrangement.proofs.Records.{Once, stands_of_among, among_of_stands, distinct_records, length_le, length_full, pigeonhole, some_or_all, free_of_few}

-- a record that stands further on in B than in A, and in A nearer than a bound
record Further (A B : ℕ → ℕ → Type 0) (distance : ℕ → ℕ → ℕ) (bound : ℕ) : Type 0 where
  who : ℕ
  less : ℕ
  more : ℕ
  stands_less : A who less
  stands_more : B who more
  further : less < more
  nearer : distance who less < bound

-- the core: A x c and B x d say that x stands with count c here and d there; if each record further on there leads to a nearer one, there is none
module _ (A B : ℕ → ℕ → Type 0) (distance : ℕ → ℕ → ℕ) (exchange : (x c d : ℕ) → A x c → B x d → c < d → Further A B distance (distance x c)) where
  never_further : (n x c d : ℕ) → distance x c < n → A x c → B x d → c < d → ⊥
  never_further zero x c d l a b h = omega arith
  never_further (suc n) x c d l a b h =
      let f = exchange x c d a b h in
      never_further n f.who f.less f.more (omega arith) f.stands_less f.stands_more f.further

-- the bucket at p for identifier x
abbrev bucket_at : Space → ℕ → ℕ → ℕ
bucket_at s x p = slot_at s.size (s.home x) p

-- identifier x stands with count c
pub record At (s : Space) (b : ℕ) (t : Buckets) (x c : ℕ) : Type 0 where
  pub place : ℕ
  pub within : place < b
  pub from : 1 ≤ c
  pub named : (t (bucket_at s x c) place).identifier ≡ x
  pub counted : (t (bucket_at s x c) place).count ≡ c

-- the places of all buckets in one row
abbrev flat : ℕ → Buckets → Table
flat b t i = t (i / b) (i % b)

module _ {s : Space} {b : ℕ} {rs : List Record} {t : Buckets} (P : ProperBuckets s b rs t) where
  bucket_of : {j q x : ℕ} → Place s b j q → Held t j q → (t j q).identifier ≡ x → bucket_at s x (t j q).count ≡ j
  bucket_of {j} {q} w h e = ap (λ (y : ℕ). bucket_at s y (t j q).count) (sym e) ∙ sym (P.far j q w h)

  at_place : {j q x : ℕ} → Place s b j q → Held t j q → (t j q).identifier ≡ x → At s b t x (t j q).count
  at_place {j} {q} w h e =
      record {
        place = q;
        within = w.place;
        from = h;
        named = ap (λ (k : ℕ). (t k q).identifier) (bucket_of w h e) ∙ e;
        counted = ap (λ (k : ℕ). (t k q).count) (bucket_of w h e);
      }

  -- where a record stands
  standing : {r : Record} → Among r rs → (c : ℕ) × (a : At s b t r.identifier c) × (record_of (t (bucket_at s r.identifier c) a.place) ≡ r)
  unfolding at_place
  standing {r} m =
      let st = P.stands r m in
      let e : (t st.0 st.1).identifier ≡ r.identifier = ap (λ (q : Record). q.identifier) st.4 in
      ((t st.0 st.1).count, at_place st.2 st.3 e, ap (λ (k : ℕ). record_of (t k st.1)) (bucket_of st.2 st.3 e) ∙ st.4)

  at_held : {x c : ℕ} (a : At s b t x c) → Held t (bucket_at s x c) a.place
  at_held a = omega (arith, a.from, a.counted)

  at_within : {x c : ℕ} (a : At s b t x c) → Place s b (bucket_at s x c) a.place
  at_within {x} {c} a = record { bucket = slot_at_in c (s.home_in x); place = a.within }

  passed_bucket : {x c p : ℕ} (a : At s b t x c) → 1 ≤ p → p < c → PassedBucket s b t (bucket_at s x c) a.place p
  passed_bucket {x} {c} a f l = record { within = at_within a; from = f; below = omega arith }

  passed_held : {x c p o : ℕ} → At s b t x c → 1 ≤ p → p < c → o < b → Held t (bucket_at s x p) o
  passed_held {x} {c} {p} {o} a f l w = subst (λ (y : ℕ). Held t (bucket_at s y p) o) a.named (P.no_gap _ _ p o (passed_bucket a f l) w)

  passed_beats : {x c p o : ℕ} → At s b t x c → 1 ≤ p → p < c → o < b → let k = bucket_at s x p in Beats (t k o).count (t k o).identifier p x
  passed_beats {x} {c} {p} {o} a f l w = subst (λ (y : ℕ). let k = bucket_at s y p in Beats (t k o).count (t k o).identifier p y) a.named (P.wins _ _ p o (passed_bucket a f l) w)

  -- a place is free
  free_place : (j : ℕ) × (q : ℕ) × Place s b j q × ((t j q).count ≡ 0)
  free_place = go (eq-zero-or-pos b)
    where
      within : 0 < b → {i : ℕ} → i < s.size * b → Place s b (i / b) (i % b)
      within z {i} l = record { bucket = (div-lt_iff_lt-mul z).1 l; place = mod-lt i z }

      once : 0 < b → Once (s.size * b) (flat b t)
      once z i j k l o p e =
          let same = P.once _ _ _ _ (within z k) (within z l) o p e in
          let q : i / b * b ≡ j / b * b = ap (λ (n : ℕ). n * b) same.0 in
          omega (arith, div-add-mod' i b, div-add-mod' j b)

      go : (b ≡ 0) ⊎ (0 < b) → (j : ℕ) × (q : ℕ) × Place s b j q × ((t j q).count ≡ 0)
      go (inl e) = absurd (omega (arith, P.few, ap (λ (n : ℕ). s.size * n) e, mul-zero s.size))
      go (inr z) =
          let f = free_of_few (s.size * b) (flat b t) rs (once z) (λ i l o. P.others _ _ (within z l) o) P.few in
          (f.0 / b, f.0 % b, within z f.1, f.2)

-- how far after the bucket behind E the bucket of x with count c lies
abbrev distance : Space → ℕ → ℕ → ℕ → ℕ
distance s E x c = rank s.size (next s.size E) (bucket_at s x c)

module _ {s : Space} {b : ℕ} {rs : List Record} {t : Buckets} (P : ProperBuckets s b rs t) (E o : ℕ) (inside : Place s b E o) (free : (t E o).count ≡ 0) where
  -- a record on its way passes no free place, so each step takes it one further
  farther : {x d : ℕ} → At s b t x d → (c n : ℕ) → 1 ≤ c → c + n ≤ d → distance s E x (c + n) ≡ distance s E x c + n
  farther {x} a c zero f l =
      let e : c + 0 ≡ c = omega arith in
      ap (distance s E x) e ∙ omega arith
  farther {x} a c (suc n) f l =
      let m = s.size in
      let k = bucket_at s x (c + n) in
      let inner : k < m = slot_at_in (c + n) (s.home_in x) in
      let full : Held t k o = passed_held P a (omega arith) (omega arith) inside.place in
      let apart : k ≢ E = λ e. omega (arith, free, full, ap (λ (i : ℕ). (t i o).count) e) in
      let on : next m k ≢ next m E = λ e. apart (sym (prior_next inner) ∙ ap (prior m) e ∙ prior_next inside.bucket) in
      let e : c + suc n ≡ suc (c + n) = omega arith in
      let step : bucket_at s x (c + suc n) ≡ next m k = ap (bucket_at s x) e ∙ slot_step m (s.home x) (omega arith) in
      let one : distance s E x (c + suc n) ≡ suc (distance s E x (c + n)) = ap (rank m (next m E)) step ∙ rank_step (next_in inside.bucket) inner on in
      omega (arith, farther a c n f (omega arith))

  nearer : {x c d : ℕ} → At s b t x d → 1 ≤ c → c < d → distance s E x c < distance s E x d
  nearer {x} {c} {d} a f l =
      let e : c + (d - c) ≡ d = omega arith in
      omega (arith, farther a c (d - c) f (omega arith), ap (distance s E x) e)

module _ {s : Space} {b : ℕ} {rs qs : List Record} {t u : Buckets} (P : ProperBuckets s b rs t) (Q : ProperBuckets s b qs u) (sub : (r : Record) → Among r qs → Among r rs) (E o : ℕ) (inside : Place s b E o) (free : (u E o).count ≡ 0) where
  module _ (x c d : ℕ) (a : At s b t x c) (z : At s b u x d) (l : c < d) where
    -- x passed the bucket of its place in t, so that is full in u
    full : {q : ℕ} → q < b → Held u (bucket_at s x c) q
    full w = passed_held Q z a.from l w

    there : {q : ℕ} → q < b → Place s b (bucket_at s x c) q
    there w = record { bucket = slot_at_in c (s.home_in x); place = w }

    -- not all its records in u stand there in t too: with x they would be too many
    too_many : ((q : ℕ) → q < b → Stands b (t (bucket_at s x c)) (record_of (u (bucket_at s x c) q))) → ⊥
    unfolding Distinct
    too_many all = omega (arith, length_full b (u B) (λ q w. full w), length_le b (t B), pigeonhole (record_of (t B a.place) ∷ records_of b (u B)) (records_of b (t B)) (fresh, distinct_records b (u B) once) (λ r m. both r (Memᴰ.cases_cons m)))
      where
        B : ℕ
        B = bucket_at s x c

        once : Once b (u B)
        once i j v w o p e = (Q.once B i B j (there v) (there w) o p e).1

        fresh : Fresh (t B a.place).identifier (records_of b (u B))
        fresh r m e =
            let st = stands_of_among b (u B) r m in
            let n : (u B st.0).identifier ≡ x = ap (λ (y : Record). y.identifier) st.3 ∙ e ∙ a.named in
            let same = (Q.once _ _ _ _ (there st.1) (at_within Q z) st.2 (at_held Q z) (n ∙ sym z.named)).0 in
            omega (arith, nearer Q E o inside free z a.from l, ap (rank s.size (next s.size E)) same)

        both : (r : Record) → (r ≡ record_of (t B a.place)) ⊎ Among r (records_of b (u B)) → Among r (records_of b (t B))
        both r (inl e) = among_of_stands b (t B) r (a.place, a.within, at_held P a, sym e)
        both r (inr m) =
            let st = stands_of_among b (u B) r m in
            let v = all st.0 st.1 in
            among_of_stands b (t B) r (v.0, v.1, v.2, v.3 ∙ st.3)

    -- a record in that bucket in u stands elsewhere in t, and there nearer, or in that bucket too
    each : (q : ℕ) → q < b → Further (At s b t) (At s b u) (distance s E) (distance s E x c) ⊎ Stands b (t (bucket_at s x c)) (record_of (u (bucket_at s x c) q))
    each q w = go (ℕ_discrete (bucket_at s y e) B)
      where
        m : ℕ
        m = s.size

        B : ℕ
        B = bucket_at s x c

        y : ℕ
        y = (u B q).identifier

        f : ℕ
        f = (u B q).count

        st : (e : ℕ) × (v : At s b t y e) × (record_of (t (bucket_at s y e) v.place) ≡ record_of (u B q))
        st = standing P (sub _ (Q.others B q (there w) (full w)))

        e : ℕ
        e = st.0

        back : bucket_at s y f ≡ B
        back = bucket_of Q (there w) (full w) refl

        -- it did not pass that bucket in t, where x stands
        not_past : f < e → ⊥
        not_past g =
            let beaten = passed_beats P st.1 (full w) g a.within in
            let at_b : Beats (t B a.place).count (t B a.place).identifier f y = subst (λ (k : ℕ). Beats (t k a.place).count (t k a.place).identifier f y) back beaten in
            let x-beats : Beats c x f y = rw (a.counted, a.named) at at_b in
            beats_not_both x-beats (passed_beats Q z a.from l w)

        below : Dec (e < f) → e ≢ f → e < f
        below (yes g) n = g
        below (no g) n = absurd (not_past (omega arith))

        go : Dec (bucket_at s y e ≡ B) → Further (At s b t) (At s b u) (distance s E) (distance s E x c) ⊎ Stands b (t B) (record_of (u B q))
        go (yes i) = inr (st.1.place, st.1.within, subst (λ (k : ℕ). Held t k st.1.place) i (at_held P st.1), ap (λ (k : ℕ). record_of (t k st.1.place)) (sym i) ∙ st.2)
        go (no n) =
            let apart : e ≢ f = λ i. n (ap (bucket_at s y) i ∙ back) in
            let l : e < f = below (dec_lt e f) apart in
            let v : At s b u y f = at_place Q (there w) (full w) refl in
            inl (record {
              who = y;
              less = e;
              more = f;
              stands_less = st.1;
              stands_more = v;
              further = l;
              nearer = omega (arith, nearer Q E o inside free v st.1.from l, ap (rank m (next m E)) back);
            })

    exchange : Further (At s b t) (At s b u) (distance s E) (distance s E x c)
    exchange = ⊎_elim (λ f. f.2) (λ all. absurd (too_many all)) (some_or_all b _ _ each)

  no_further : {x c d : ℕ} → At s b t x c → At s b u x d → d ≤ c
  no_further {x} {c} {d} a z = go (dec_lt c d)
    where
      go : Dec (c < d) → d ≤ c
      go (yes l) = absurd (never_further (At s b t) (At s b u) (distance s E) exchange (suc (distance s E x c)) x c d (omega arith) a z l)
      go (no n) = omega arith

-- the same records have the same counts
pub same_count : {s : Space} {b : ℕ} {rs qs : List Record} {t u : Buckets} → ProperBuckets s b rs t → ProperBuckets s b qs u → SameRecords rs qs → {x c d : ℕ} → At s b t x c → At s b u x d → c ≡ d
same_count P Q same a z =
    let f = free_place P in
    let g = free_place Q in
    omega (arith, no_further P Q (λ r. (same r).1) g.0 g.1 g.2 g.3 a z, no_further Q P (λ r. (same r).0) f.0 f.1 f.2 f.3 z a)

-- so each record stands in the same bucket, as the same cell
module _ {s : Space} {b : ℕ} {rs qs : List Record} {t u : Buckets} (P : ProperBuckets s b rs t) (Q : ProperBuckets s b qs u) (same : SameRecords rs qs) where
  same_bucket : {j q : ℕ} → Place s b j q → Held t j q → (o : ℕ) × (o < b) × (u j o ≡ t j q)
  same_bucket {j} {q} w h = (o, v.within, λ i. record { count = counts i; identifier = (records i).identifier; entry = (records i).entry })
    where
      x : ℕ
      x = (t j q).identifier

      st : (d : ℕ) × (v : At s b u x d) × (record_of (u (bucket_at s x d) v.place) ≡ record_of (t j q))
      st = standing Q ((same _).0 (P.others j q w h))

      v : At s b u x st.0
      v = st.1

      o : ℕ
      o = v.place

      even : (t j q).count ≡ st.0
      even = same_count P Q same (at_place P w h refl) v

      here : bucket_at s x st.0 ≡ j
      here = ap (bucket_at s x) (sym even) ∙ bucket_of P w h refl

      counts : (u j o).count ≡ (t j q).count
      counts = ap (λ (k : ℕ). (u k o).count) (sym here) ∙ v.counted ∙ sym even

      records : record_of (u j o) ≡ record_of (t j q)
      records = ap (λ (k : ℕ). record_of (u k o)) (sym here) ∙ st.2

-- larger counts first, then smaller identifiers, empty slots last, for any two slots
abbrev Sorted : ℕ → Table → Type 0
Sorted b t = (q o : ℕ) → q < o → o < b → Occupied t o → Beats (t q).count (t q).identifier (t o).count (t o).identifier

sorted : (s : Space) (b : ℕ) (t : Buckets) → InOrder s b t → (j : ℕ) → j < s.size → Sorted b (t j)
sorted s b t order j h q zero l w k = absurd (omega arith)
sorted s b t order j h q (suc o) l w k = go (ℕ_discrete q o) (λ g f. sorted s b t order j h q o g (omega arith) f)
  where
    last : Beats (t j o).count (t j o).identifier (t j (suc o)).count (t j (suc o)).identifier
    last = rw add-one at (order j o (record { bucket = h; place = omega arith }) (rw add-one k))

    go : Dec (q ≡ o) → (q < o → Occupied (t j) o → Beats (t j q).count (t j q).identifier (t j o).count (t j o).identifier) → Beats (t j q).count (t j q).identifier (t j (suc o)).count (t j (suc o)).identifier
    go (yes e) below = rw e last
    go (no n) below = beats_trans (below (omega arith) (omega (arith, last.ge))) last

-- the cell of each occupied slot of t is that of a slot of u
abbrev Included : ℕ → Table → Table → Type 0
Included b t u = (q : ℕ) → q < b → Occupied t q → (o : ℕ) × (o < b) × (u o ≡ t q)

-- the cell in slot q of t stands in u there or later, if the slots before q agree
here_or_later : (b : ℕ) (t u : Table) → Once b t → Included b t u → (q : ℕ) → q < b → ((k : ℕ) → k < q → t k ≡ u k) → Occupied t q → (u q ≡ t q) ⊎ ((o : ℕ) × (q < o) × (o < b) × (u o ≡ t q))
here_or_later b t u once included q w agree h = go (dec_lt o q) (ℕ_discrete o q)
  where
    o : ℕ
    o = (included q w h).0

    cell : u o ≡ t q
    cell = (included q w h).2

    go : Dec (o < q) → Dec (o ≡ q) → (u q ≡ t q) ⊎ ((k : ℕ) × (q < k) × (k < b) × (u k ≡ t q))
    go (yes l) d =
        let e : t o ≡ t q = agree o l ∙ cell in
        absurd (omega (arith, once o q (omega arith) w (subst (λ (c : Cell). 0 < c.count) (sym e) h) h (ap (λ (c : Cell). c.identifier) e)))
    go (no n) (yes e) = inl (ap u (sym e) ∙ cell)
    go (no n) (no d) = inr (o, omega arith, (included q w h).1, cell)

-- two sorted tables with the same cells are equal
module _ (b : ℕ) (t u : Table) (once-t : Once b t) (once-u : Once b u) (sorted-t : Sorted b t) (sorted-u : Sorted b u) (clean-t : Clean b t) (clean-u : Clean b u) (in-u : Included b t u) (in-t : Included b u t) where
  same_cell : (q : ℕ) → q < b → ((k : ℕ) → k < q → t k ≡ u k) → t q ≡ u q
  same_cell q w agree = go (eq-zero-or-pos (t q).count) (eq-zero-or-pos (u q).count)
    where
      Later : Table → Table → Type 0
      Later v w = (o : ℕ) × (q < o) × (o < b) × (w o ≡ v q)

      -- a later one is beaten by what stands here
      beaten : (v w : Table) → Sorted b w → Occupied v q → Later v w → Beats (w q).count (w q).identifier (v q).count (v q).identifier
      beaten v w sort h l = subst (λ (c : Cell). Beats (w q).count (w q).identifier c.count c.identifier) l.3 (sort q l.0 l.1 l.2 (subst (λ (c : Cell). 0 < c.count) (sym l.3) h))

      both : Occupied t q → Occupied u q → (u q ≡ t q) ⊎ Later t u → (t q ≡ u q) ⊎ Later u t → t q ≡ u q
      both h k (inl e) d = sym e
      both h k (inr l) (inl e) = e
      both h k (inr l) (inr g) = absurd (beats_not_both (beaten t u sorted-u h l) (beaten u t sorted-t k g))

      one : (v w : Table) → Sorted b w → Occupied v q → (w q).count ≡ 0 → (w q ≡ v q) ⊎ Later v w → w q ≡ v q
      one v w sort h z (inl e) = e
      one v w sort h z (inr l) = absurd (omega (arith, (beaten v w sort h l).ge))

      from_t : Occupied t q → (u q ≡ t q) ⊎ Later t u
      from_t h = here_or_later b t u once-t in-u q w agree h

      from_u : Occupied u q → (t q ≡ u q) ⊎ Later u t
      from_u h = here_or_later b u t once-u in-t q w (λ k l. sym (agree k l)) h

      go : ((t q).count ≡ 0) ⊎ (0 < (t q).count) → ((u q).count ≡ 0) ⊎ (0 < (u q).count) → t q ≡ u q
      go (inl y) (inl z) = clean-t q w y ∙ sym (clean-u q w z)
      go (inl y) (inr k) = one u t sorted-t k y (from_u k)
      go (inr h) (inl z) = sym (one t u sorted-u h z (from_t h))
      go (inr h) (inr k) = both h k (from_t h) (from_u k)

  same_cells : (n q : ℕ) → q < n → n ≤ b → t q ≡ u q
  same_cells zero q l w = absurd (omega arith)
  same_cells (suc n) q l w = same_cell q (omega arith) (λ k g. same_cells n k (omega arith) (omega arith))

-- at most one proper arrangement, for every number of places a bucket
pub unique_buckets : (s : Space) (b : ℕ) (rs qs : List Record) (t u : Buckets) → ProperBuckets s b rs t → ProperBuckets s b qs u → SameRecords rs qs → InOrder s b t → InOrder s b u → CleanPlaces s b t → CleanPlaces s b u → (j q : ℕ) → Place s b j q → t j q ≡ u j q
unique_buckets s b rs qs t u P Q same order-t order-u clean-t clean-u j q w = same_cells b (t j) (u j) (once P) (once Q) (sorted s b t order-t j w.bucket) (sorted s b u order-u j w.bucket) (λ o l. clean-t j o (at l)) (λ o l. clean-u j o (at l)) (λ o l h. same_bucket P Q same (at l) h) (λ o l h. same_bucket Q P (λ r. ((same r).1, (same r).0)) (at l) h) b q w.place (omega arith)
  where
    at : {o : ℕ} → o < b → Place s b j o
    at l = record { bucket = w.bucket; place = l }

    once : {ps : List Record} {v : Buckets} → ProperBuckets s b ps v → Once b (v j)
    once R i k g l x y e = (R.once j i j k (at g) (at l) x y e).1

-- slots are the case of one place
buckets_of_proper : (s : Space) (rs : List Record) (t : Table) → Proper s rs t → ProperBuckets s 1 rs (one_each t)
buckets_of_proper s rs t P =
    record {
      distinct = P.distinct;
      few = omega (arith, P.few);
      stands = λ r m. let st = P.stands r m in (st.0, 0, record { bucket = st.1; place = omega arith }, st.2, st.3);
      once = λ j q k o v w h g e. (P.once j k v.bucket w.bucket h g e, omega (arith, v.place, w.place));
      far = λ j q w. P.far j w.bucket;
      others = λ j q w. P.others j w.bucket;
      no_gap = λ j q p o a l. P.no_gap j p (passed a);
      wins = λ j q p o a l. P.wins j p (passed a);
    }
  where
    passed : {j q p : ℕ} → PassedBucket s 1 (one_each t) j q p → Passed s t j p
    passed a = record { within = a.within.bucket; from = a.from; below = a.below }

proper_of_buckets : (s : Space) (rs : List Record) (t : Table) → ProperBuckets s 1 rs (one_each t) → Proper s rs t
proper_of_buckets s rs t P =
    record {
      distinct = P.distinct;
      few = omega (arith, P.few);
      stands = λ r m. let st = P.stands r m in (st.0, st.2.bucket, st.3, st.4);
      once = λ i j k l h g e. (P.once i 0 j 0 (only k) (only l) h g e).0;
      far = λ i l. P.far i 0 (only l);
      others = λ i l. P.others i 0 (only l);
      no_gap = λ i p a. P.no_gap i 0 p 0 (passed a) (omega arith);
      wins = λ i p a. P.wins i 0 p 0 (passed a) (omega arith);
    }
  where
    only : {i : ℕ} → i < s.size → Place s 1 i 0
    only l = record { bucket = l; place = omega arith }

    passed : {i p : ℕ} → Passed s t i p → PassedBucket s 1 (one_each t) i 0 p
    passed a = record { within = only a.within; from = a.from; below = a.below }

pub proper_one_each : (s : Space) (rs : List Record) (t : Table) → Proper s rs t ↔ ProperBuckets s 1 rs (one_each t)
proper_one_each s rs t = (buckets_of_proper s rs t, proper_of_buckets s rs t)

-- at most one proper arrangement
pub unique : (s : Space) (rs qs : List Record) (t u : Table) → Proper s rs t → Proper s qs u → SameRecords rs qs → Clean s.size t → Clean s.size u → (i : ℕ) → i < s.size → t i ≡ u i
unique s rs qs t u P Q same clean-t clean-u i l = unique_buckets s 1 rs qs (one_each t) (one_each u) (buckets_of_proper s rs t P) (buckets_of_proper s qs u Q) same (λ j q w. absurd (omega (arith, w.place))) (λ j q w. absurd (omega (arith, w.place))) (λ j q w. clean-t j w.bucket) (λ j q w. clean-u j w.bucket) i 0 (record { bucket = l; place = omega arith })
