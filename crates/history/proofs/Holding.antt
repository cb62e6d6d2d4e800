-- A register that holds the arrangement of some records: what each call answers on it, and what it holds afterwards.
-- The walk decides by the records; each change is the arrangement's own, read back from the two lists.
use Prim.Native.Nat.{ℕ, suc, ◌+◌, ◌*◌, ◌-◌, ◌<◌}
use native.Mathlib.Bridge.{le_prop}
use native.Mathlib.Omega.{arith}
use mathlib.Core.Path.{◌≡◌, refl, sym, ◌∙◌, subst}
use mathlib.Core.List.{List, [], ◌∷◌}
use mathlib.Core.Logic.{◌↔◌}
use lib.ListN.{length, replicate, length-replicate, get_or-replicate}
use borrow.Author.Tests.{le-ltb, eq-eqb, ne_eqb}
use Rattle.arrangement.specs.Table.{Table, Record, record_of, Among, Fresh, without}
use Rattle.arrangement.specs.Proper.{Space, Proper, Local, LocalAt, Room, Clean}
use Rattle.arrangement.specs.Walk.{End, found, absent}
use Rattle.arrangement.specs.Changes.{after, first_empty, first_settled, stored, removed, changed, prior}
use Rattle.arrangement.specs.Afresh.{cleared}
use Rattle.arrangement.proofs.Cycle.{prior_in}
use Rattle.arrangement.proofs.Local.{Stands}
use Rattle.arrangement.proofs.Records.{without_length}
use Rattle.arrangement.proofs.Accepted.{proper_of_stands, local_of_proper, room_of_proper, stands_of_proper}
use Rattle.arrangement.proofs.Changed.{fresh_absent, among_found, stored_proper, removed_proper, changed_proper}
use Rattle.arrangement.proofs.Afresh.{cleared_proper}
use Rattle.register.specs.declared.head.Head.{Head}
use Rattle.register.specs.Head.{head_of, most_live_of, good_head}
use Rattle.register.specs.Homes.{home_number, home_of, home_below, space_of}
use Rattle.register.specs.Slices.{table_of, words_of, counts_of}
use Rattle.register.specs.Answers.{out, refusal, length_number, open_number}
use Rattle.register.specs.Clear.{new_head}
use Rattle.register.specs.Find.{walk_of, find_by, find_of}
use Rattle.register.specs.Store.{cell_of, one_more, store_done, store_by, store_of}
use Rattle.register.specs.Remove.{one_fewer, remove_done, remove_by, remove_of}
use Rattle.register.specs.Change.{change_done, change_by, change_of}
use Rattle.register.proofs.Slices.{lists_hold}
use Rattle.register.proofs.Opened.{Good, opened_good}

-- a good head and slices that fit it are not refused
pub opens_of : (h : Head) (w c : ℕ) → Good h → w ≡ 2 * h.slots → c ≡ h.slots → open_number h w c ≡ 0
unfolding open_number length_number good_head
opens_of h w c g e f =
    rw
    (le-ltb h.slots 2 g.least, le-ltb 32768 h.slots g.most, le-ltb 1 h.rule g.rule, le-ltb (most_live_of h) h.live g.live, eq-eqb w (2 * h.slots) e, eq-eqb c h.slots f)

-- each call once it is not refused, by the end of its walk
module _ (h : Head) (ws cs : List ℕ) (opens : open_number h (length ws) (length cs) ≡ 0) (x v : ℕ) {e : End} (ends : walk_of h (table_of ws cs) x ≡ e) where
  pub find_by_lem : find_of h ws cs x ≡ find_by h (table_of ws cs) e
  unfolding find_of
  find_by_lem = rw (opens, ends)

  pub store_by_lem : store_of h ws cs x v ≡ store_by h ws cs x v e
  unfolding store_of
  store_by_lem = rw (opens, ends)

  pub remove_by_lem : remove_of h ws cs x ≡ remove_by h ws cs e
  unfolding remove_of
  remove_by_lem = rw (opens, ends)

  pub change_by_lem : change_of h ws cs x v ≡ change_by h ws cs v e
  unfolding change_of
  change_by_lem = rw (opens, ends)

-- a table equal to another in every slot of the space is as proper and as clean
module _ {s : Space} {rs : List Record} {t u : Table} (same : (i : ℕ) → i < s.size → t i ≡ u i) where
  pub proper_as : Proper s rs t → Proper s rs u
  proper_as P = proper_of_stands s rs u local room P.distinct standing
    where
      local : Local s u
      local i l =
          let a : LocalAt s t (prior s.size i) i = local_of_proper P i l in
          let e = same (prior s.size i) (prior_in l) in
          record { far = rw (← same i l) a.far; behind = rw (← same i l, ← e) a.behind }

      room : Room s u
      room = let f = room_of_proper P in (f.0, f.1, rw (← same f.0 f.1) f.2)

      standing : (r : Record) → Stands s.size u r ↔ Among r rs
      standing r = (
        λ st. (stands_of_proper P r).0 (st.0, st.1, rw (same st.0 st.1) st.2, rw (same st.0 st.1) st.3),
        λ a.
            let st = P.stands r a in
            (st.0, st.1, rw (← same st.0 st.1) st.2, rw (← same st.0 st.1) st.3),
      )

pub clean_as : {m : ℕ} {t u : Table} → ((i : ℕ) → i < m → t i ≡ u i) → Clean m t → Clean m u
clean_as same clean i l z = sym (same i l) ∙ clean i l (rw (same i l) z)

-- the live count is no part of the space
pub space_live : (h : Head) (n : ℕ) (some : 0 < h.slots) → space_of h some ≡ space_of (head_of h.slots h.rule h.salt n) some
unfolding home_of home_number
space_live h n some =
    λ i.
    record {
      size = h.slots;
      home = home_of h;
      home_in = λ x. le_prop (home_below h x some) (home_below (head_of h.slots h.rule h.salt n) x some) i;
    }

-- head and slices fit, and the table is the proper and clean arrangement of as many records as the head says
pub record Holding (h : Head) (ws cs : List ℕ) (rs : List Record) : Type 0 where
  pub opens : open_number h (length ws) (length cs) ≡ 0
  pub some : 0 < h.slots
  pub proper : Proper (space_of h some) rs (table_of ws cs)
  pub clean : Clean h.slots (table_of ws cs)
  pub live : h.live ≡ length rs

-- a register cleared
pub cleared_holding : (m rule salt w c : ℕ) → open_number (new_head m rule salt) w c ≡ 0 → Holding (new_head m rule salt) (replicate (2 * m) 0) (replicate m 0) []
cleared_holding m rule salt w c e =
    let g = opened_good (new_head m rule salt) w c e in
    let some : 0 < m = omega arith in
    let same : (i : ℕ) → i < m → cleared i ≡ table_of (replicate (2 * m) 0) (replicate m 0) i = λ i l.
    λ j. record {
      count = sym (get_or-replicate m i 0 0 l) j;
      identifier = sym (get_or-replicate (2 * m) (2 * i) 0 0 (omega arith)) j;
      entry = sym (get_or-replicate (2 * m) (2 * i + 1) 0 0 (omega arith)) j;
    } in
    record {
      opens = opens_of (new_head m rule salt) _ _ g (length-replicate (2 * m) 0) (length-replicate m 0);
      some = some;
      proper = proper_as same (cleared_proper (space_of (new_head m rule salt) some) some);
      clean = clean_as same (λ i l z. refl);
      live = refl;
    }

-- a store done on it: where the walk ended, how far the first empty slot lies, and what it holds afterwards
pub record StoreDone (h : Head) (ws cs : List ℕ) (rs : List Record) (x v : ℕ) : Type 0 where
  pub slot : ℕ
  pub probes : ℕ
  pub moved : ℕ
  pub walks : walk_of h (table_of ws cs) x ≡ absent slot probes
  pub first : first_empty h.slots slot (table_of ws cs) ≡ after moved
  pub answers : store_of h ws cs x v ≡ store_done h (table_of ws cs) x v slot probes moved
  pub holds : let u = stored h.slots slot moved (cell_of probes x v) (table_of ws cs) in
      Holding (one_more h) (words_of h.slots u) (counts_of h.slots u) (record { identifier = x; entry = v } ∷ rs)

-- a remove done on it
pub record RemoveDone (h : Head) (ws cs : List ℕ) (rs : List Record) (r : Record) : Type 0 where
  pub slot : ℕ
  pub probes : ℕ
  pub moved : ℕ
  pub walks : walk_of h (table_of ws cs) r.identifier ≡ found slot probes
  pub stands : record_of (table_of ws cs slot) ≡ r
  pub first : first_settled h.slots slot (table_of ws cs) ≡ after (suc moved)
  pub answers : remove_of h ws cs r.identifier ≡ remove_done h (table_of ws cs) slot probes moved
  pub holds : let u = removed h.slots slot moved (table_of ws cs) in
      Holding (one_fewer h) (words_of h.slots u) (counts_of h.slots u) (without r.identifier rs)

-- a change done on it
pub record ChangeDone (h : Head) (ws cs : List ℕ) (rs : List Record) (r : Record) (v : ℕ) : Type 0 where
  pub slot : ℕ
  pub probes : ℕ
  pub walks : walk_of h (table_of ws cs) r.identifier ≡ found slot probes
  pub answers : change_of h ws cs r.identifier v ≡ change_done h (table_of ws cs) v slot probes
  pub holds : let u = changed slot v (table_of ws cs) in
      Holding h (words_of h.slots u) (counts_of h.slots u) (record { identifier = r.identifier; entry = v } ∷ without r.identifier rs)

module _ {h : Head} {ws cs : List ℕ} {rs : List Record} (H : Holding h ws cs rs) where
  -- another table of the same head, with its own live count
  pub holding_table : (n : ℕ) {qs : List Record} {u : Table} → n ≡ length qs → Proper (space_of h H.some) qs u → Clean h.slots u
      → Holding (head_of h.slots h.rule h.salt n) (words_of h.slots u) (counts_of h.slots u) qs
  holding_table n {qs} {u} e P clean =
      let l = lists_hold h.slots u in
      let g = opened_good h (length ws) (length cs) H.opens in
      let same : (i : ℕ) → i < h.slots → u i ≡ table_of (words_of h.slots u) (counts_of h.slots u) i = λ i b. sym (l.slots i b) in
      record {
        opens = opens_of _ _ _ (record { least = g.least; most = g.most; rule = g.rule; live = omega (arith, P.few) }) l.words l.counts;
        some = H.some;
        proper = proper_as same (subst (λ (s : Space). Proper s qs u) (space_live h n H.some) P);
        clean = clean_as same clean;
        live = e;
      }

  -- a live identifier

  pub live_found : {r : Record} → Among r rs → (j : ℕ) × (p : ℕ) × (walk_of h (table_of ws cs) r.identifier ≡ found j p) × (record_of (table_of ws cs j) ≡ r)
  live_found a = among_found H.proper a

  pub fresh_missed : {x : ℕ} → Fresh x rs → (j : ℕ) × (p : ℕ) × (walk_of h (table_of ws cs) x ≡ absent j p)
  fresh_missed f = fresh_absent H.proper f

  -- store where the register is full, and where it is not

  pub store_full : (x v : ℕ) → Fresh x rs → h.live ≡ most_live_of h → store_of h ws cs x v ≡ out (refusal 4 h) ws cs
  store_full x v f e =
      let w = fresh_missed f in
      store_by_lem h ws cs H.opens x v w.2 ∙ rw (eq-eqb h.live (most_live_of h) e)

  pub store_done_lem : (x v : ℕ) → Fresh x rs → h.live < most_live_of h → StoreDone h ws cs rs x v
  store_done_lem x v f l =
      let n = H.live in
      let st = stored_proper x v H.proper f (omega arith) in
      let s = st.5 in
      record {
        slot = st.0;
        probes = st.1;
        moved = st.2;
        walks = st.3;
        first = st.4;
        answers =
            store_by_lem h ws cs H.opens x v st.3
            ∙ rw (ne_eqb h.live (most_live_of h) (omega arith), ne_eqb st.1 h.slots (omega (arith, s.near)), st.4, s.none_far);
        holds = holding_table (h.live + 1) (omega arith) s.proper (s.clean H.clean);
      }

  pub remove_done_lem : {r : Record} → Among r rs → RemoveDone h ws cs rs r
  remove_done_lem {r} a =
      let n = H.live in
      let st = removed_proper H.proper a in
      let s = st.6 in
      let less = without_length rs r H.proper.distinct a in
      let one : suc st.2 - 1 ≡ st.2 = omega arith in
      record {
        slot = st.0;
        probes = st.1;
        moved = st.2;
        walks = st.3;
        stands = st.4;
        first = st.5;
        answers = remove_by_lem h ws cs H.opens r.identifier 0 st.3 ∙ rw (ne_eqb h.live 0 (omega arith), st.5, one);
        holds = holding_table (h.live - 1) (omega arith) s.proper (s.clean H.clean);
      }

  pub change_done_lem : (v : ℕ) {r : Record} → Among r rs → ChangeDone h ws cs rs r v
  change_done_lem v {r} a =
      let n = H.live in
      let st = changed_proper v H.proper a in
      let s = st.4 in
      record {
        slot = st.0;
        probes = st.1;
        walks = st.2;
        answers = change_by_lem h ws cs H.opens r.identifier v st.2;
        holds = holding_table h.live (omega (arith, without_length rs r H.proper.distinct a)) s.proper (s.clean H.clean);
      }
