-- Between a table and its two lists: both lists are determined by the slots they hold, and a table is read back from its own lists.
-- Assumes nothing.
use Prim.Native.Nat.{ℕ, zero, suc, ◌+◌, ◌*◌, ◌<◌}
use mathlib.Core.Path.{◌≡◌, refl, sym, ap, ◌∙◌}
use mathlib.Core.Bool.{Bool, cond}
use mathlib.Core.List.{List, [], ◌∷◌}
use native.Mathlib.Decide.{ℕ_discrete}
use native.Mathlib.Omega.{arith}
use borrow.Author.Tests.{eq-eqb, ne_eqb}
use lib.Dec.{eqb}
use lib.ListN.{length, get_or, set, length-set}
use lib.Seq.{get_or-set_same, get_or-set_other}
use Rattle.arrangement.specs.Table.{Cell, Table}
use Rattle.arrangement.specs.Changes.{changed}
use Rattle.arrangement.proofs.Outside.{changed_here, changed_same}
use Rattle.register.specs.Slices.{table_of, words_from, counts_from, words_of, counts_of}
use Rattle.register.specs.Private.{Holds}

-- three equal numbers make equal cells
pub same_cell : {a b : Cell} → a.count ≡ b.count → a.identifier ≡ b.identifier → a.entry ≡ b.entry → a ≡ b
same_cell p q r = λ j. record { count = p j; identifier = q j; entry = r j }

-- lists from a table

-- the words ws are those of n slots of t from slot a on
pub record WordsAt (t : Table) (a n : ℕ) (ws : List ℕ) : Type 0 where
  pub long : length ws ≡ 2 * n
  pub identifiers : (i : ℕ) → i < n → get_or ws (2 * i) 0 ≡ (t (a + i)).identifier
  pub entries : (i : ℕ) → i < n → get_or ws (2 * i + 1) 0 ≡ (t (a + i)).entry

-- one slot further on: two words less
later : (x y i : ℕ) (ws : List ℕ) → (get_or (x ∷ (y ∷ ws)) (2 * suc i) 0 ≡ get_or ws (2 * i) 0) × (get_or (x ∷ (y ∷ ws)) (2 * suc i + 1) 0 ≡ get_or ws (2 * i + 1) 0)
later x y i ws =
    let e : 2 * suc i ≡ suc (suc (2 * i)) = omega arith in
    let f : 2 * suc i + 1 ≡ suc (suc (2 * i + 1)) = omega arith in
    (ap (λ (k : ℕ). get_or (x ∷ (y ∷ ws)) k 0) e, ap (λ (k : ℕ). get_or (x ∷ (y ∷ ws)) k 0) f)

pub words_from_lem : (t : Table) (a n : ℕ) (ws : List ℕ) → WordsAt t a n ws → ws ≡ words_from t a n
unfolding words_from
words_from_lem t a zero [] w = refl
words_from_lem t a zero (x ∷ ws) w = absurd (omega (arith, w.long))
words_from_lem t a (suc n) [] w = absurd (omega (arith, w.long))
words_from_lem t a (suc n) (x ∷ []) w = absurd (omega (arith, w.long))
words_from_lem t a (suc n) (x ∷ (y ∷ ws)) w =
    let z : a + 0 ≡ a = omega arith in
    let first : x ≡ (t a).identifier = w.identifiers 0 (omega arith) ∙ ap (λ (k : ℕ). (t k).identifier) z in
    let second : y ≡ (t a).entry = w.entries 0 (omega arith) ∙ ap (λ (k : ℕ). (t k).entry) z in
    let next : (i : ℕ) → a + suc i ≡ suc a + i = λ i. omega arith in
    let rest : WordsAt t (suc a) n ws =
    record {
      long = omega (arith, w.long);
      identifiers = λ i l. sym (later x y i ws).0 ∙ w.identifiers (suc i) (omega arith) ∙ ap (λ (k : ℕ). (t k).identifier) (next i);
      entries = λ i l. sym (later x y i ws).1 ∙ w.entries (suc i) (omega arith) ∙ ap (λ (k : ℕ). (t k).entry) (next i);
    } in
    cc (first, second, words_from_lem t (suc a) n ws rest)

pub counts_from_lem : (t : Table) (a n : ℕ) (cs : List ℕ) → length cs ≡ n → ((i : ℕ) → i < n → get_or cs i 0 ≡ (t (a + i)).count) → cs ≡ counts_from t a n
unfolding counts_from
counts_from_lem t a zero [] l h = refl
counts_from_lem t a zero (c ∷ cs) l h = absurd (omega arith)
counts_from_lem t a (suc n) [] l h = absurd (omega arith)
counts_from_lem t a (suc n) (c ∷ cs) l h =
    let z : a + 0 ≡ a = omega arith in
    let first : c ≡ (t a).count = h 0 (omega arith) ∙ ap (λ (k : ℕ). (t k).count) z in
    let next : (i : ℕ) → a + suc i ≡ suc a + i = λ i. omega arith in
    let rest = counts_from_lem t (suc a) n cs (omega arith) (λ i k. h (suc i) (omega arith) ∙ ap (λ (j : ℕ). (t j).count) (next i)) in
    cc (first, rest)

-- lists that hold a table are its lists
pub held_words : {m : ℕ} {t : Table} {ws cs : List ℕ} → Holds m t ws cs → ws ≡ words_of m t
held_words {m} {t} {ws} {cs} h =
    words_from_lem t 0 m ws
    (record {
      long = h.words;
      identifiers = λ i l. ap (λ (c : Cell). c.identifier) (h.slots i l) ∙ ap (λ (k : ℕ). (t k).identifier) (zero_first i);
      entries = λ i l. ap (λ (c : Cell). c.entry) (h.slots i l) ∙ ap (λ (k : ℕ). (t k).entry) (zero_first i);
    })
  where
    zero_first : (i : ℕ) → i ≡ 0 + i
    zero_first i = omega arith

pub held_counts : {m : ℕ} {t : Table} {ws cs : List ℕ} → Holds m t ws cs → cs ≡ counts_of m t
held_counts {m} {t} {ws} {cs} h = counts_from_lem t 0 m cs h.counts (λ i l. ap (λ (c : Cell). c.count) (h.slots i l) ∙ ap (λ (k : ℕ). (t k).count) (zero_first i))
  where
    zero_first : (i : ℕ) → i ≡ 0 + i
    zero_first i = omega arith

-- a table is read back from its lists

words_at : (t : Table) (a n : ℕ) → WordsAt t a n (words_from t a n)
unfolding words_from
words_at t a zero = record { long = refl; identifiers = λ i l. absurd (omega arith); entries = λ i l. absurd (omega arith) }
words_at t a (suc n) =
    record { long = omega (arith, (words_at t (suc a) n).long); identifiers = ids (words_at t (suc a) n); entries = ents (words_at t (suc a) n) }
  where
    ids : WordsAt t (suc a) n (words_from t (suc a) n) → (i : ℕ) → i < suc n → get_or ((t a).identifier ∷ ((t a).entry ∷ words_from t (suc a) n)) (2 * i) 0 ≡ (t (a + i)).identifier
    ids w zero l = let z : a ≡ a + 0 = omega arith in ap (λ (k : ℕ). (t k).identifier) z
    ids w (suc i) l =
        let z : suc a + i ≡ a + suc i = omega arith in
        (later (t a).identifier (t a).entry i (words_from t (suc a) n)).0 ∙ w.identifiers i (omega arith) ∙ ap (λ (k : ℕ). (t k).identifier) z

    ents : WordsAt t (suc a) n (words_from t (suc a) n) → (i : ℕ) → i < suc n → get_or ((t a).identifier ∷ ((t a).entry ∷ words_from t (suc a) n)) (2 * i + 1) 0 ≡ (t (a + i)).entry
    ents w zero l = let z : a ≡ a + 0 = omega arith in ap (λ (k : ℕ). (t k).entry) z
    ents w (suc i) l =
        let z : suc a + i ≡ a + suc i = omega arith in
        (later (t a).identifier (t a).entry i (words_from t (suc a) n)).1 ∙ w.entries i (omega arith) ∙ ap (λ (k : ℕ). (t k).entry) z

counts_at : (t : Table) (a n i : ℕ) → i < n → get_or (counts_from t a n) i 0 ≡ (t (a + i)).count
unfolding counts_from
counts_at t a zero i l = absurd (omega arith)
counts_at t a (suc n) zero l = let z : a ≡ a + 0 = omega arith in ap (λ (k : ℕ). (t k).count) z
counts_at t a (suc n) (suc i) l = let z : suc a + i ≡ a + suc i = omega arith in counts_at t (suc a) n i (omega arith) ∙ ap (λ (k : ℕ). (t k).count) z

pub counts_long : (t : Table) (a n : ℕ) → length (counts_from t a n) ≡ n
unfolding counts_from
counts_long t a zero = refl
counts_long t a (suc n) = ap suc (counts_long t (suc a) n)

pub lists_hold : (m : ℕ) (t : Table) → Holds m t (words_of m t) (counts_of m t)
lists_hold m t =
    record {
      words = (words_at t 0 m).long;
      counts = counts_long t 0 m;
      slots = λ i l.
          let z : 0 + i ≡ i = omega arith in
          same_cell (counts_at t 0 m i l ∙ ap (λ (k : ℕ). (t k).count) z)
          ((words_at t 0 m).identifiers i l ∙ ap (λ (k : ℕ). (t k).identifier) z)
          ((words_at t 0 m).entries i l ∙ ap (λ (k : ℕ). (t k).entry) z);
    }

-- lists hold the table that is read off them, and any table equal to it slot by slot

pub holds_own : {m : ℕ} {ws cs : List ℕ} → length ws ≡ 2 * m → length cs ≡ m → Holds m (table_of ws cs) ws cs
holds_own w c = record { words = w; counts = c; slots = λ i l. refl }

pub holds_as : {m : ℕ} {t u : Table} {ws cs : List ℕ} → Holds m t ws cs → ((i : ℕ) → i < m → t i ≡ u i) → Holds m u ws cs
holds_as h e = record { words = h.words; counts = h.counts; slots = λ i l. h.slots i l ∙ e i l }

-- one slot written: it holds the new cell, every other slot what it held

pub put_at : ℕ → Cell → Table → Table
put_at j c t i = cond (eqb i j) c (t i)

pub put_here : (j : ℕ) (c : Cell) (t : Table) {i : ℕ} → i ≡ j → put_at j c t i ≡ c
unfolding put_at
put_here j c t {i} e = ap (λ (b : Bool). cond b c (t i)) (eq-eqb i j e)

pub put_other : (j : ℕ) (c : Cell) (t : Table) {i : ℕ} → (i ≡ j → ⊥) → put_at j c t i ≡ t i
unfolding put_at
put_other j c t {i} n = ap (λ (b : Bool). cond b c (t i)) (ne_eqb i j n)

pub put_holds : {m : ℕ} {t : Table} {ws cs : List ℕ} (j : ℕ) (c : Cell) → j < m → Holds m t ws cs
    → Holds m (put_at j c t) (set (set ws (2 * j) c.identifier) (2 * j + 1) c.entry) (set cs j c.count)
put_holds {m} {t} {ws} {cs} j c l h =
    record { words = simp length-set h.words; counts = simp length-set h.counts; slots = slots }
  where
    once : List ℕ
    once = set ws (2 * j) c.identifier

    long : 2 * j + 1 < length once
    long = simp length-set (omega (arith, h.words))

    slots : (i : ℕ) → i < m → table_of (set once (2 * j + 1) c.entry) (set cs j c.count) i ≡ put_at j c t i
    slots i k = go (ℕ_discrete i j)
      where
        go : Dec (i ≡ j) → table_of (set once (2 * j + 1) c.entry) (set cs j c.count) i ≡ put_at j c t i
        go (yes e) =
            ap (table_of (set once (2 * j + 1) c.entry) (set cs j c.count)) e
            ∙ same_cell (get_or-set_same cs j c.count 0 (omega (arith, h.counts)))
            (get_or-set_other once (2 * j + 1) (2 * j) c.entry 0 (omega arith) ∙ get_or-set_same ws (2 * j) c.identifier 0 (omega (arith, h.words)))
            (get_or-set_same once (2 * j + 1) c.entry 0 long)
            ∙ sym (put_here j c t e)
        go (no n) =
            same_cell (get_or-set_other cs j i c.count 0 n)
            (get_or-set_other once (2 * j + 1) (2 * i) c.entry 0 (omega arith) ∙ get_or-set_other ws (2 * j) (2 * i) c.identifier 0 (λ e. n (omega arith)))
            (get_or-set_other once (2 * j + 1) (2 * i + 1) c.entry 0 (λ e. n (omega arith)) ∙ get_or-set_other ws (2 * j) (2 * i + 1) c.identifier 0 (omega arith))
            ∙ h.slots i k ∙ sym (put_other j c t n)

-- one word written: the entry of one slot is another
pub change_holds : {m : ℕ} (ws cs : List ℕ) (i v : ℕ) → i < m → length ws ≡ 2 * m → length cs ≡ m → Holds m (changed i v (table_of ws cs)) (set ws (2 * i + 1) v) cs
change_holds {m} ws cs i v l w c = record { words = simp length-set w; counts = c; slots = slots }
  where
    same : (j : ℕ) → get_or (set ws (2 * i + 1) v) (2 * j) 0 ≡ get_or ws (2 * j) 0
    same j = get_or-set_other ws (2 * i + 1) (2 * j) v 0 (omega arith)

    slots : (j : ℕ) → j < m → table_of (set ws (2 * i + 1) v) cs j ≡ changed i v (table_of ws cs) j
    slots j k = go (ℕ_discrete j i)
      where
        go : Dec (j ≡ i) → table_of (set ws (2 * i + 1) v) cs j ≡ changed i v (table_of ws cs) j
        go (yes e) =
            let there : get_or (set ws (2 * i + 1) v) (2 * j + 1) 0 ≡ v
            = ap (λ (q : ℕ). get_or (set ws (2 * i + 1) v) (2 * q + 1) 0) e ∙ get_or-set_same ws (2 * i + 1) v 0 (omega arith) in
            same_cell refl (same j) there ∙ sym (changed_here i v (table_of ws cs) j e)
        go (no n) =
            same_cell refl (same j) (get_or-set_other ws (2 * i + 1) (2 * j + 1) v 0 (λ e. n (omega arith)))
            ∙ sym (changed_same i v (table_of ws cs) j n)
