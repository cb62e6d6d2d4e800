-- The head: document 01, "The register". Assumes nothing.
use Rattle.std.specs.Prelude.{ℕ, ◌-◌, Bool, true, false, cond, ltb}
use Rattle.register.specs.declared.head.Head.{Head}

-- a head of these settings and live count
abbrev pub head_of : ℕ → ℕ → ℕ → ℕ → Head
head_of slots rule salt live = record { slots = slots; salt = salt; live = live; rule = rule }

-- the greatest number of live records: M-1, so one slot is always empty
abbrev pub most_live_of : Head → ℕ
most_live_of h = h.slots - 1

-- M lies from 2 to 32,768, the rule is 0 or 1, and the live count is at most M-1
unfoldable pub good_head : Head → Bool
good_head h =
    cond (ltb h.slots 2) false
    (cond (ltb 32768 h.slots) false
    (cond (ltb 1 h.rule) false
    (cond (ltb (most_live_of h) h.live) false true)))
