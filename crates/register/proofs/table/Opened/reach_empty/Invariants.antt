-- `Opened::reach_empty` meets its contract: the search in mid-way, `Storing`, is the loop's invariant.
use Prim.Native.Nat.{◌<◌}
use mathlib.Core.Path.{◌≡◌}
use Rattle.arrangement.specs.Table.{onward}
use Rattle.register.specs.Private.{table_in}
use Rattle.register.proofs.Reaching.{Storing}
use Rattle.register.proofs.table.Opened.reach_empty.Given as goal

abbrev pub invariant-loop-k : goal.invariant-loop-k
invariant-loop-k l = (l.i ≡ onward l.m l.s l.k) × (l.i < l.m) × Storing l.m l.s (table_in l.self) l.k
