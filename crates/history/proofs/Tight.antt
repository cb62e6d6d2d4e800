-- Every public call's statement is tight: any two answers that meet it are equal.
-- Each is an equation, and two things equal to a third are equal.
use mathlib.Core.Path.{sym, ap, ◌∙◌}
use Rattle.register.specs.Answers.{Out}
use Rattle.history.specs.Tight.{One, OneOut, Tight}

one : {A : Type 0} (c : A) → One c
one c a b p q = p ∙ sym q

one_out : (o : Out) → OneOut o
one_out o a b ws us cs ds p q =
    let e = p ∙ sym q in
    (ap (λ (u : Out). u.answer) e, ap (λ (u : Out). u.words) e, ap (λ (u : Out). u.counts) e)

pub tight : Tight
tight =
    record {
      bytes = λ s. one _;
      key = λ salt id. one _;
      clear = λ old m rule salt ws cs. one_out _;
      find = λ h ws cs x. one _;
      store = λ h ws cs x v. one_out _;
      remove = λ h ws cs x. one_out _;
      change = λ h ws cs x v. one_out _;
      check = λ h ws cs. one _;
      census = λ h ws cs. one _;
      head_cleared = λ m rule salt. one _;
      head_with_live = λ h live. one _;
      head_most_live = λ h. one _;
      head_is_good = λ h. one _;
      answer_refused = λ number h. one _;
      answer_done = λ h. one _;
      answer_absent = λ h slot p. one _;
      refusal_number = λ r. one _;
      refusal_answer = λ r h. one _;
      refusal_census = λ r h. one _;
    }
