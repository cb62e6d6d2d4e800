-- `Opened::reach_settled` meets its contract: the search in mid-way, `Seeking`, is the loop's invariant.
use Prim.Native.Nat.{◌<◌}
use mathlib.Core.Path.{◌≡◌}
use Rattle.arrangement.specs.Table.{onward}
use Rattle.arrangement.specs.Changes.{is_settled, first_settled}
use Rattle.register.specs.Private.{table_in}
use Rattle.register.proofs.Reaching.{Seeking}
use Rattle.register.proofs.table.Opened.reach_settled.Given as goal

abbrev pub invariant-loop-k : goal.invariant-loop-k
invariant-loop-k l = let m = l.self.head.slots in (l.i ≡ onward m l.s l.k) × (l.i < m) × Seeking is_settled m l.s (table_in l.self) (first_settled m l.s (table_in l.self)) l.k
