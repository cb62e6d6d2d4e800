-- For each set of records that fits there is exactly one proper arrangement: the one worked out afresh, in whatever order.
-- Each store keeps the table proper, and two proper arrangements of the same records are equal.
use Prim.Native.Nat.{ℕ, ◌<◌}
use native.Mathlib.Omega.{arith}
use mathlib.Core.Path.{◌≡◌, refl, sym, ap, ◌∙◌, subst}
use mathlib.Core.List.Memᴰ
use mathlib.Core.List.{List, [], ◌∷◌}
use lib.ListN.{length}
use Rattle.arrangement.specs.Table.{Table, Record, Distinct, SameRecords}
use Rattle.arrangement.specs.Proper.{Space, Proper, Clean}
use Rattle.arrangement.specs.Walk.{absent, walk}
use Rattle.arrangement.specs.Changes.{after, first_empty, stored}
use Rattle.arrangement.specs.Afresh.{cleared, placed_at, placed_by, placed, arranged}
use Rattle.arrangement.proofs.Store.{cell}
use Rattle.arrangement.proofs.Records.{same_length}
use Rattle.arrangement.proofs.Unique.{unique}
use Rattle.arrangement.proofs.Changed.{stored_proper}

pub cleared_proper : (s : Space) → 0 < s.size → Proper s [] cleared
unfolding Distinct
cleared_proper s room =
    record {
      distinct = tt;
      few = room;
      stands = λ r a. absurd (Memᴰ.not-nil a);
      once = λ i j k l o p e. absurd (omega arith);
      far = λ i l o. absurd (omega arith);
      others = λ i l o. absurd (omega arith);
      no_gap = λ i p a. absurd (omega (arith, a.below));
      wins = λ i p a. absurd (omega (arith, a.below));
    }

-- a record is placed by the store
placed_stored : (s : Space) (r : Record) (t : Table) {j p k : ℕ} → walk s.size (s.home r.identifier) r.identifier t ≡ absent j p → first_empty s.size j t ≡ after k → placed s r t ≡ stored s.size j k (cell p r.identifier r.entry) t
unfolding placed
placed_stored s r t {j} {p} ends first = ap (λ e. placed_by s.size r e t) ends ∙ ap (λ f. placed_at s.size j p r f t) first

-- worked out afresh, it is proper and clean
pub record Arranged (s : Space) (rs : List Record) : Type 0 where
  pub proper : Proper s rs (arranged s rs)
  pub clean : Clean s.size (arranged s rs)

pub arranged_proper : (s : Space) (rs : List Record) → Distinct rs → length rs < s.size → Arranged s rs
unfolding arranged Distinct
arranged_proper s [] distinct few = record { proper = cleared_proper s few; clean = λ i l z. refl }
arranged_proper s (r ∷ rs) distinct few =
    let below = arranged_proper s rs distinct.1 (omega arith) in
    let st = stored_proper r.identifier r.entry below.proper distinct.0 few in
    let e = sym (placed_stored s r (arranged s rs) st.3 st.4) in
    record { proper = subst (Proper s (r ∷ rs)) e st.5.proper; clean = subst (Clean s.size) e (st.5.clean below.clean) }

-- every proper and clean arrangement is that one
pub exactly_one : (s : Space) (rs : List Record) (t : Table) → Proper s rs t → Clean s.size t → (i : ℕ) → i < s.size → t i ≡ arranged s rs i
exactly_one s rs t P clean =
    let a = arranged_proper s rs P.distinct P.few in
    unique s rs rs t (arranged s rs) P a.proper (λ r. (λ m. m, λ m. m)) clean a.clean

-- whatever the order
pub order_free : (s : Space) (rs qs : List Record) → Distinct rs → Distinct qs → length rs < s.size → SameRecords rs qs → (i : ℕ) → i < s.size → arranged s rs i ≡ arranged s qs i
order_free s rs qs distinct other few same =
    let a = arranged_proper s rs distinct few in
    let b = arranged_proper s qs other (omega (arith, same_length rs qs distinct other same)) in
    unique s rs qs (arranged s rs) (arranged s qs) a.proper b.proper same a.clean b.clean
