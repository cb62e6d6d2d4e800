-- An answer printed where it is to stand: the bytes behind those in hand are lent, and come back written.
use Rattle.std.proofs.Common.{◌≡◌, ◌++◌, [], List, ℕ, ◌-◌, length, take, drop, arith}
use Rattle.std.proofs.Math.Seq.{take-append_seam, drop-append_seam, take-length, drop-length}
use Rattle.std.proofs.lemmas.List.{length-append, append-nil}
use Rattle.std.specs.List.{refill}
use Rattle.arrayvec.proofs.ArrayVecLemmas.{items-with_items}

module _ (old new : List ℕ) where
  -- how many bytes are lent
  lent : length (old ++ new) - length old ≡ length new
  lent = omega (arith, length-append old new)

  -- what is lent
  pub lent_is : take (length (old ++ new) - length old) (drop (length old) (old ++ new)) ≡ new
  lent_is = rw (lent, drop-append_seam old new) (take-length new)

  -- nothing stands behind it
  none_behind : drop (length (old ++ new) - length old) (drop (length old) (old ++ new)) ≡ []
  none_behind = rw (lent, drop-append_seam old new) (drop-length new)

  -- what stands in hand once the lent bytes are b
  pub placed : (b : List ℕ) → length b ≡ length new → refill (length (old ++ new)) (old ++ new) (take (length old) (old ++ new) ++ (b ++ drop (length (old ++ new) - length old) (drop (length old) (old ++ new)))) ≡ old ++ b
  placed b same =
      let long : length (old ++ b) ≡ length (old ++ new) = omega (arith, length-append old b, length-append old new, same) in
      rw (none_behind, append-nil b, take-append_seam old new) (items-with_items (record { items = old ++ new }) (old ++ b) long)
