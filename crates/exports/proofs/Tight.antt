-- Each exported call's own contract is tight: any two answers, with both slices afterwards, that meet it are equal.
-- Each contract is an equation, and two things equal to a third are equal.
use mathlib.Core.Path.{refl, sym, ap, ◌∙◌}
use Rattle.tight.specs.Determined.{Determined}
use Rattle.register.specs.Answers.{Out}
use Rattle.exports.proofs.register_hash_bytes.Kinds as hash-bytes-kinds
use Rattle.exports.proofs.register_hash_bytes.Reads as hash-bytes-contract
use Rattle.exports.proofs.register_hash_key.Kinds as hash-key-kinds
use Rattle.exports.proofs.register_hash_key.Reads as hash-key-contract
use Rattle.exports.proofs.register_clear.Kinds as clear-kinds
use Rattle.exports.proofs.register_clear.Reads as clear-contract
use Rattle.exports.proofs.register_find.Kinds as find-kinds
use Rattle.exports.proofs.register_find.Reads as find-contract
use Rattle.exports.proofs.register_store.Kinds as store-kinds
use Rattle.exports.proofs.register_store.Reads as store-contract
use Rattle.exports.proofs.register_remove.Kinds as remove-kinds
use Rattle.exports.proofs.register_remove.Reads as remove-contract
use Rattle.exports.proofs.register_change.Kinds as change-kinds
use Rattle.exports.proofs.register_change.Reads as change-contract
use Rattle.exports.proofs.register_check.Kinds as check-kinds
use Rattle.exports.proofs.register_check.Reads as check-contract
use Rattle.exports.proofs.register_census.Kinds as census-kinds
use Rattle.exports.proofs.register_census.Reads as census-contract

pub hash_bytes_tight : Determined hash-bytes-kinds.ps hash-bytes-kinds.r hash-bytes-contract.Post
hash_bytes_tight κs a z w u v p q = (p ∙ sym q, refl)

pub hash_key_tight : Determined hash-key-kinds.ps hash-key-kinds.r hash-key-contract.Post
hash_key_tight κs a z w u v p q = (p ∙ sym q, refl)

pub clear_tight : Determined clear-kinds.ps clear-kinds.r clear-contract.Post
clear_tight κs a z w u v p q = let e = p ∙ sym q in (ap (λ (o : Out). o.answer) e, λ i. (tt, (tt, (tt, (tt, ((e i).words, ((e i).counts, tt)))))))

pub find_tight : Determined find-kinds.ps find-kinds.r find-contract.Post
find_tight κs a z w u v p q = (p ∙ sym q, refl)

pub store_tight : Determined store-kinds.ps store-kinds.r store-contract.Post
store_tight κs a z w u v p q = let e = p ∙ sym q in (ap (λ (o : Out). o.answer) e, λ i. (tt, ((e i).words, ((e i).counts, v.1.1.1))))

pub remove_tight : Determined remove-kinds.ps remove-kinds.r remove-contract.Post
remove_tight κs a z w u v p q = let e = p ∙ sym q in (ap (λ (o : Out). o.answer) e, λ i. (tt, ((e i).words, ((e i).counts, v.1.1.1))))

pub change_tight : Determined change-kinds.ps change-kinds.r change-contract.Post
change_tight κs a z w u v p q = let e = p ∙ sym q in (ap (λ (o : Out). o.answer) e, λ i. (tt, ((e i).words, v.1.1)))

pub check_tight : Determined check-kinds.ps check-kinds.r check-contract.Post
check_tight κs a z w u v p q = (p ∙ sym q, refl)

pub census_tight : Determined census-kinds.ps census-kinds.r census-contract.Post
census_tight κs a z w u v p q = (p ∙ sym q, refl)
