-- Each public call's statement determines its answer and all of both slices afterwards: document 01, "How tight each call's statement is". Assumes nothing.
use Rattle.std.specs.Prelude.{ℕ, ◌≡◌, List}
use Rattle.hash.specs.Fnv.{fnv, key_hash}
use Rattle.register.specs.declared.head.Head.{Head}
use Rattle.register.specs.declared.answer.Answer.{Answer}
use Rattle.register.specs.declared.refusal.Refusal.{Refusal}
use Rattle.register.specs.Head.{head_of, most_live_of, good_head}
use Rattle.register.specs.Answers.{Out, out, number_of, refusal, done_answer, absent_answer}
use Rattle.register.specs.Clear.{clear_of}
use Rattle.register.specs.Find.{find_of}
use Rattle.register.specs.Store.{store_of}
use Rattle.register.specs.Remove.{remove_of}
use Rattle.register.specs.Change.{change_of}
use Rattle.register.specs.Check.{check_of}
use Rattle.register.specs.Census.{census_answer, census_of}

-- any two answers that meet the statement "the answer is c" are equal
abbrev pub One : {A : Type 0} → A → Type 0
One {A} c = (a b : A) → a ≡ c → b ≡ c → a ≡ b

-- any two answers, with both slices afterwards, that meet the statement "the answer and both slices are o" are equal
abbrev pub OneOut : Out → Type 0
OneOut o = (a b : Answer) (ws us cs ds : List ℕ) → out a ws cs ≡ o → out b us ds ≡ o → (a ≡ b) × (ws ≡ us) × (cs ≡ ds)

-- every public function of the hash and the register, by the statement of its contract
pub record Tight : Type 0 where
  pub bytes : (s : List ℕ) → One (fnv s)
  pub key : (salt id : ℕ) → One (key_hash salt id)
  pub clear : (old : Head) (m rule salt : ℕ) (ws cs : List ℕ) → OneOut (clear_of old m rule salt ws cs)
  pub find : (h : Head) (ws cs : List ℕ) (x : ℕ) → One (find_of h ws cs x)
  pub store : (h : Head) (ws cs : List ℕ) (x v : ℕ) → OneOut (store_of h ws cs x v)
  pub remove : (h : Head) (ws cs : List ℕ) (x : ℕ) → OneOut (remove_of h ws cs x)
  pub change : (h : Head) (ws cs : List ℕ) (x v : ℕ) → OneOut (change_of h ws cs x v)
  pub check : (h : Head) (ws cs : List ℕ) → One (check_of h ws cs)
  pub census : (h : Head) (ws cs : List ℕ) → One (census_of h ws cs)
  pub head_cleared : (m rule salt : ℕ) → One (head_of m rule salt 0)
  pub head_with_live : (h : Head) (live : ℕ) → One (head_of h.slots h.rule h.salt live)
  pub head_most_live : (h : Head) → One (most_live_of h)
  pub head_is_good : (h : Head) → One (good_head h)
  pub answer_refused : (number : ℕ) (h : Head) → One (refusal number h)
  pub answer_done : (h : Head) → One (done_answer h)
  pub answer_absent : (h : Head) (slot p : ℕ) → One (absent_answer h slot p)
  pub refusal_number : (r : Refusal) → One (number_of r)
  pub refusal_answer : (r : Refusal) (h : Head) → One (refusal (number_of r) h)
  pub refusal_census : (r : Refusal) (h : Head) → One (census_answer (number_of r) 0 0 0 h)
