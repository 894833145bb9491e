-- Words ask for one request at most, whose options and task are what the words name in turn.
use Rattle.std.proofs.Common.{◌≡◌, ℕ, List, [], ◌∷◌, ◌++◌, length, drop, get_or, Option, None, Some, Result, Ok, IfSome, refl, sym, ◌∙◌, ap, subst, codes, arith}
use Rattle.std.specs.Prelude.{decimal}
use Rattle.std.specs.Str.Parse.{ParsesUnsigned}
use Rattle.std.proofs.lemmas.Fmt.{parse-decimal, decimal_injective}
use Rattle.tptp_commands.specs.code.Options.{BeginOtherwise, NameRoot, NameNoRoot, NameLimit, NameNoLimit, NameNoTask}
use Rattle.tptp_commands.specs.Words.{Task, Verify, Format, Parse, Check, Make, Prove, Model, Request, IsFileName, IsLimit, HasNames, IsForm, HaveNoForm, root_words, limit_words, limit_of, task_words}

abbrev Words : Type 0
Words = List (List ℕ)

-- ---- what lists of words tell

abbrev first_byte : Words → ℕ
first_byte words = get_or (get_or words 0 []) 0 0

abbrev second_byte : Words → ℕ
second_byte words = get_or (get_or words 0 []) 1 0

abbrev third_byte : Words → ℕ
third_byte words = get_or (get_or words 0 []) 2 0

abbrev second : Words → List ℕ
second words = get_or words 1 []

abbrev third : Words → List ℕ
third words = get_or words 2 []

abbrev fourth : Words → List ℕ
fourth words = get_or words 3 []

none_some : {A T : Type 0} (x : A) → Some x ≡ None → T
none_some x e = absurd cc

verify_is : (a b c d : List ℕ) (l m : Option (List ℕ)) → a ≡ c → b ≡ d → l ≡ m → Verify a b l ≡ Verify c d m
verify_is a b c d l m first then last = cc

check_is : (a b c d : List ℕ) → a ≡ c → b ≡ d → Check a b ≡ Check c d
check_is a b c d first then = cc

model_is : (a b c d : List ℕ) → a ≡ c → b ≡ d → Model a b ≡ Model c d
model_is a b c d first then = cc

-- the words of a task begin with its name
task_no_root : (task : Task) → BeginOtherwise (codes "--root") (task_words task)
task_no_root (Verify problem derivation None) rest e = let bytes : 118 ≡ 45 = ap first_byte e in omega (arith, bytes)
task_no_root (Verify problem derivation (Some log)) rest e = let bytes : 118 ≡ 45 = ap first_byte e in omega (arith, bytes)
task_no_root (Format file) rest e = let bytes : 102 ≡ 45 = ap first_byte e in omega (arith, bytes)
task_no_root (Parse file) rest e = let bytes : 112 ≡ 45 = ap first_byte e in omega (arith, bytes)
task_no_root (Check problem log) rest e = let bytes : 99 ≡ 45 = ap first_byte e in omega (arith, bytes)
task_no_root (Make count) rest e = let bytes : 109 ≡ 45 = ap first_byte e in omega (arith, bytes)
task_no_root (Prove problem) rest e = let bytes : 112 ≡ 45 = ap first_byte e in omega (arith, bytes)
task_no_root (Model problem model) rest e = let bytes : 109 ≡ 45 = ap first_byte e in omega (arith, bytes)

task_no_limit : (task : Task) → BeginOtherwise (codes "--limit") (task_words task)
task_no_limit (Verify problem derivation None) rest e = let bytes : 118 ≡ 45 = ap first_byte e in omega (arith, bytes)
task_no_limit (Verify problem derivation (Some log)) rest e = let bytes : 118 ≡ 45 = ap first_byte e in omega (arith, bytes)
task_no_limit (Format file) rest e = let bytes : 102 ≡ 45 = ap first_byte e in omega (arith, bytes)
task_no_limit (Parse file) rest e = let bytes : 112 ≡ 45 = ap first_byte e in omega (arith, bytes)
task_no_limit (Check problem log) rest e = let bytes : 99 ≡ 45 = ap first_byte e in omega (arith, bytes)
task_no_limit (Make count) rest e = let bytes : 109 ≡ 45 = ap first_byte e in omega (arith, bytes)
task_no_limit (Prove problem) rest e = let bytes : 112 ≡ 45 = ap first_byte e in omega (arith, bytes)
task_no_limit (Model problem model) rest e = let bytes : 109 ≡ 45 = ap first_byte e in omega (arith, bytes)

limit_no_root : (limit : Option ℕ) (task : Task) → BeginOtherwise (codes "--root") (limit_words limit ++ task_words task)
limit_no_root None task = task_no_root task
limit_no_root (Some limit) task = λ rest e. let bytes : 108 ≡ 114 = ap third_byte e in omega (arith, bytes)

-- what is named as the root, and what stands behind it
behind_root : (root : Option (List ℕ)) (words others rest : Words) (other : Option (List ℕ)) → NameRoot words root rest → root_words other ++ others ≡ words → BeginOtherwise (codes "--root") others → (root ≡ other) × (rest ≡ others)
behind_root None words others rest None named e otherwise = (refl, named.words_are ∙ sym e)
behind_root None words others rest (Some other) named e otherwise = absurd (named.otherwise refl (other ∷ others) (sym e))
behind_root (Some root) words others rest None named e otherwise = absurd (otherwise (root ∷ rest) (e ∙ sym named.words_are))
behind_root (Some root) words others rest (Some other) named e otherwise =
    let same : (codes "--root" ∷ root ∷ rest) ≡ (codes "--root" ∷ other ∷ others) = named.words_are ∙ sym e in
    (ap (λ (ws : Words). Some (second ws)) same, ap (drop 2) same)

behind_limit : (limit : Option ℕ) (words others rest : Words) (other : Option ℕ) → NameLimit words limit rest → limit_words other ++ others ≡ words → BeginOtherwise (codes "--limit") others → rest ≡ others
behind_limit None words others rest None named e otherwise = named.words_are ∙ sym e
behind_limit None words others rest (Some other) named e otherwise = absurd (named.otherwise refl (decimal other ∷ others) (sym e))
behind_limit (Some limit) words others rest None named e otherwise = absurd (otherwise (decimal limit ∷ rest) (e ∙ sym named.words_are))
behind_limit (Some limit) words others rest (Some other) named e otherwise =
    let same : (codes "--limit" ∷ decimal limit ∷ rest) ≡ (codes "--limit" ∷ decimal other ∷ others) = named.words_are ∙ sym e in
    ap (drop 2) same

-- ---- words that ask for nothing

root_begins : (root : Option (List ℕ)) (words others : Words) → NameNoRoot words → root_words root ++ others ≡ words → BeginOtherwise (codes "--root") others → IfSome root IsFileName → ⊥
root_begins None words others none e otherwise name = none.begun (λ rest is. otherwise rest (e ∙ is))
root_begins (Some root) words others none e otherwise name = none.no_name root others (sym e) name

limit_begins : (limit : Option ℕ) (words others : Words) → NameNoLimit words → limit_words limit ++ others ≡ words → BeginOtherwise (codes "--limit") others → IfSome limit IsLimit → ⊥
limit_begins None words others none e otherwise number = none.begun (λ rest is. otherwise rest (e ∙ is))
limit_begins (Some limit) words others none e otherwise number = none.no_number limit others (sym e) number

pub no_root_no_form : (words : Words) → NameNoRoot words → HaveNoForm words
no_root_no_form words none request form = root_begins request.root words (limit_words form.named_limit ++ task_words request.task) none form.words_are (limit_no_root form.named_limit request.task) form.root

module _ (words rest : Words) (root : Option (List ℕ)) (named : NameRoot words root rest) where
  form_rest : (request : Request) (form : IsForm words request) → rest ≡ limit_words form.named_limit ++ task_words request.task
  form_rest request form = (behind_root root words (limit_words form.named_limit ++ task_words request.task) rest request.root named form.words_are (limit_no_root form.named_limit request.task)).1

  pub no_limit_no_form : NameNoLimit rest → HaveNoForm words
  no_limit_no_form none request form = limit_begins form.named_limit rest (task_words request.task) none (sym (form_rest request form)) (task_no_limit request.task) form.limit

  module _ (last : Words) (limit : Option ℕ) (then_named : NameLimit rest limit last) where
    pub no_task_no_form : NameNoTask last → HaveNoForm words
    no_task_no_form none request form =
        none request.task (sym (behind_limit limit rest (task_words request.task) last form.named_limit then_named (sym (form_rest request form)) (task_no_limit request.task))) form.names

    -- the words that name these ask for them
    pub asked : (number : ℕ) (task : Task) → number ≡ limit_of limit → task_words task ≡ last → HasNames task → IsForm words (record { root = root; limit = number; task = task })
    asked number task is words_are names = record {
      named_limit = limit;
      words_are = ap (λ (ws : Words). root_words root ++ (limit_words limit ++ ws)) words_are ∙ ap (λ (ws : Words). root_words root ++ ws) then_named.words_are ∙ named.words_are;
      root = named.name;
      limit = then_named.number;
      limit_is = is;
      names = names;
    }

-- ---- one task

as_named : (words : Words) (request : Request) (form : IsForm words request) → NameRoot words request.root (limit_words form.named_limit ++ task_words request.task)
as_named words request form = record {
  words_are = form.words_are;
  name = form.root;
  otherwise = λ none rest e. limit_no_root form.named_limit request.task rest (sym (subst (λ (r : Option (List ℕ)). words ≡ root_words r ++ (limit_words form.named_limit ++ task_words request.task)) none (sym form.words_are)) ∙ e);
}

limit_as_named : (limit : Option ℕ) (task : Task) → IfSome limit IsLimit → NameLimit (limit_words limit ++ task_words task) limit (task_words task)
limit_as_named None task number = record { words_are = refl; number = number; otherwise = λ none. task_no_limit task }
limit_as_named (Some limit) task number = record { words_are = refl; number = number; otherwise = λ none. none_some _ none }

one_task_words : (first second : Task) → HasNames first → HasNames second → task_words first ≡ task_words second → first ≡ second
one_task_words (Verify a b None) (Verify c d None) h k e = verify_is a b c d None None (ap second e) (ap third e) refl
one_task_words (Verify a b (Some l)) (Verify c d (Some m)) h k e = verify_is a b c d (Some l) (Some m) (ap second e) (ap third e) (ap (λ (ws : Words). Some (fourth ws)) e)
one_task_words (Format a) (Format b) h k e = ap (λ (ws : Words). Format (second ws)) e
one_task_words (Make m) (Make n) h k e = ap (λ (count : ℕ). Make count) (decimal_injective m n (omega (arith, h.1)) (omega (arith, k.1)) (ap second e))
one_task_words (Make n) (Verify a b None) h k e = let lengths : 2 ≡ 3 = ap length e in absurd (omega (arith, lengths))
one_task_words (Verify a b None) (Make n) h k e = let lengths : 3 ≡ 2 = ap length e in absurd (omega (arith, lengths))
one_task_words (Make n) (Verify a b (Some l)) h k e = let lengths : 2 ≡ 4 = ap length e in absurd (omega (arith, lengths))
one_task_words (Verify a b (Some l)) (Make n) h k e = let lengths : 4 ≡ 2 = ap length e in absurd (omega (arith, lengths))
one_task_words (Make n) (Format a) h k e = let bytes : 109 ≡ 102 = ap first_byte e in absurd (omega (arith, bytes))
one_task_words (Format a) (Make n) h k e = let bytes : 102 ≡ 109 = ap first_byte e in absurd (omega (arith, bytes))
one_task_words (Make n) (Parse a) h k e = let bytes : 109 ≡ 112 = ap first_byte e in absurd (omega (arith, bytes))
one_task_words (Parse a) (Make n) h k e = let bytes : 112 ≡ 109 = ap first_byte e in absurd (omega (arith, bytes))
one_task_words (Make n) (Check a b) h k e = let lengths : 2 ≡ 3 = ap length e in absurd (omega (arith, lengths))
one_task_words (Check a b) (Make n) h k e = let lengths : 3 ≡ 2 = ap length e in absurd (omega (arith, lengths))
one_task_words (Make n) (Model a b) h k e = let lengths : 2 ≡ 3 = ap length e in absurd (omega (arith, lengths))
one_task_words (Model a b) (Make n) h k e = let lengths : 3 ≡ 2 = ap length e in absurd (omega (arith, lengths))
one_task_words (Prove a) (Prove b) h k e = ap (λ (ws : Words). Prove (second ws)) e
one_task_words (Prove a) (Verify b c None) h k e = let lengths : 2 ≡ 3 = ap length e in absurd (omega (arith, lengths))
one_task_words (Verify a b None) (Prove c) h k e = let lengths : 3 ≡ 2 = ap length e in absurd (omega (arith, lengths))
one_task_words (Prove a) (Verify b c (Some m)) h k e = let lengths : 2 ≡ 4 = ap length e in absurd (omega (arith, lengths))
one_task_words (Verify a b (Some l)) (Prove c) h k e = let lengths : 4 ≡ 2 = ap length e in absurd (omega (arith, lengths))
one_task_words (Prove a) (Format b) h k e = let bytes : 112 ≡ 102 = ap first_byte e in absurd (omega (arith, bytes))
one_task_words (Format a) (Prove b) h k e = let bytes : 102 ≡ 112 = ap first_byte e in absurd (omega (arith, bytes))
one_task_words (Prove a) (Parse b) h k e = let bytes : 114 ≡ 97 = ap second_byte e in absurd (omega (arith, bytes))
one_task_words (Parse a) (Prove b) h k e = let bytes : 97 ≡ 114 = ap second_byte e in absurd (omega (arith, bytes))
one_task_words (Prove a) (Check b c) h k e = let lengths : 2 ≡ 3 = ap length e in absurd (omega (arith, lengths))
one_task_words (Check a b) (Prove c) h k e = let lengths : 3 ≡ 2 = ap length e in absurd (omega (arith, lengths))
one_task_words (Prove a) (Make n) h k e = let bytes : 112 ≡ 109 = ap first_byte e in absurd (omega (arith, bytes))
one_task_words (Make n) (Prove a) h k e = let bytes : 109 ≡ 112 = ap first_byte e in absurd (omega (arith, bytes))
one_task_words (Prove a) (Model b c) h k e = let lengths : 2 ≡ 3 = ap length e in absurd (omega (arith, lengths))
one_task_words (Model a b) (Prove c) h k e = let lengths : 3 ≡ 2 = ap length e in absurd (omega (arith, lengths))
one_task_words (Model a b) (Model c d) h k e = model_is a b c d (ap second e) (ap third e)
one_task_words (Model a b) (Check c d) h k e = let bytes : 109 ≡ 99 = ap first_byte e in absurd (omega (arith, bytes))
one_task_words (Model a b) (Verify c d None) h k e = let bytes : 109 ≡ 118 = ap first_byte e in absurd (omega (arith, bytes))
one_task_words (Model a b) (Verify c d (Some m)) h k e = let lengths : 3 ≡ 4 = ap length e in absurd (omega (arith, lengths))
one_task_words (Model a b) (Format c) h k e = let lengths : 3 ≡ 2 = ap length e in absurd (omega (arith, lengths))
one_task_words (Model a b) (Parse c) h k e = let lengths : 3 ≡ 2 = ap length e in absurd (omega (arith, lengths))
one_task_words (Check a b) (Model c d) h k e = let bytes : 99 ≡ 109 = ap first_byte e in absurd (omega (arith, bytes))
one_task_words (Verify a b None) (Model c d) h k e = let bytes : 118 ≡ 109 = ap first_byte e in absurd (omega (arith, bytes))
one_task_words (Verify a b (Some l)) (Model c d) h k e = let lengths : 4 ≡ 3 = ap length e in absurd (omega (arith, lengths))
one_task_words (Format a) (Model c d) h k e = let lengths : 2 ≡ 3 = ap length e in absurd (omega (arith, lengths))
one_task_words (Parse a) (Model c d) h k e = let lengths : 2 ≡ 3 = ap length e in absurd (omega (arith, lengths))
one_task_words (Check a b) (Check c d) h k e = check_is a b c d (ap second e) (ap third e)
one_task_words (Check a b) (Verify c d None) h k e = let bytes : 99 ≡ 118 = ap first_byte e in absurd (omega (arith, bytes))
one_task_words (Check a b) (Verify c d (Some m)) h k e = let lengths : 3 ≡ 4 = ap length e in absurd (omega (arith, lengths))
one_task_words (Check a b) (Format c) h k e = let lengths : 3 ≡ 2 = ap length e in absurd (omega (arith, lengths))
one_task_words (Check a b) (Parse c) h k e = let lengths : 3 ≡ 2 = ap length e in absurd (omega (arith, lengths))
one_task_words (Verify a b None) (Check c d) h k e = let bytes : 118 ≡ 99 = ap first_byte e in absurd (omega (arith, bytes))
one_task_words (Verify a b (Some l)) (Check c d) h k e = let lengths : 4 ≡ 3 = ap length e in absurd (omega (arith, lengths))
one_task_words (Format a) (Check c d) h k e = let lengths : 2 ≡ 3 = ap length e in absurd (omega (arith, lengths))
one_task_words (Parse a) (Check c d) h k e = let lengths : 2 ≡ 3 = ap length e in absurd (omega (arith, lengths))
one_task_words (Parse a) (Parse b) h k e = ap (λ (ws : Words). Parse (second ws)) e
one_task_words (Format a) (Parse b) h k e = let bytes : 102 ≡ 112 = ap first_byte e in absurd (omega (arith, bytes))
one_task_words (Parse a) (Format b) h k e = let bytes : 112 ≡ 102 = ap first_byte e in absurd (omega (arith, bytes))
one_task_words (Verify a b None) (Parse c) h k e = let lengths : 3 ≡ 2 = ap length e in absurd (omega (arith, lengths))
one_task_words (Verify a b (Some l)) (Parse c) h k e = let lengths : 4 ≡ 2 = ap length e in absurd (omega (arith, lengths))
one_task_words (Parse a) (Verify c d None) h k e = let lengths : 2 ≡ 3 = ap length e in absurd (omega (arith, lengths))
one_task_words (Parse a) (Verify c d (Some m)) h k e = let lengths : 2 ≡ 4 = ap length e in absurd (omega (arith, lengths))
one_task_words (Verify a b None) (Verify c d (Some m)) h k e = let lengths : 3 ≡ 4 = ap length e in absurd (omega (arith, lengths))
one_task_words (Verify a b (Some l)) (Verify c d None) h k e = let lengths : 4 ≡ 3 = ap length e in absurd (omega (arith, lengths))
one_task_words (Verify a b None) (Format c) h k e = let lengths : 3 ≡ 2 = ap length e in absurd (omega (arith, lengths))
one_task_words (Verify a b (Some l)) (Format c) h k e = let lengths : 4 ≡ 2 = ap length e in absurd (omega (arith, lengths))
one_task_words (Format a) (Verify c d None) h k e = let lengths : 2 ≡ 3 = ap length e in absurd (omega (arith, lengths))
one_task_words (Format a) (Verify c d (Some m)) h k e = let lengths : 2 ≡ 4 = ap length e in absurd (omega (arith, lengths))

-- the words name one root at most
pub one_root : (words : Words) (first second : Request) → IsForm words first → IsForm words second → first.root ≡ second.root
one_root words first second form other =
    (behind_root first.root words (limit_words other.named_limit ++ task_words second.task) (limit_words form.named_limit ++ task_words first.task) second.root (as_named words first form) other.words_are (limit_no_root other.named_limit second.task)).0

-- the words ask for one task at most
pub one_task : (words : Words) (first second : Request) → IsForm words first → IsForm words second → first.task ≡ second.task
one_task words first second form other =
    let rests = behind_root first.root words (limit_words other.named_limit ++ task_words second.task) (limit_words form.named_limit ++ task_words first.task) second.root (as_named words first form) other.words_are (limit_no_root other.named_limit second.task) in
    one_task_words first.task second.task form.names other.names
    (behind_limit form.named_limit (limit_words form.named_limit ++ task_words first.task) (task_words second.task) (task_words first.task) other.named_limit (limit_as_named form.named_limit first.task form.limit) (sym rests.1) (task_no_limit second.task))

-- ---- what the code meets in turn

pub root_named : (words rest last : Words) (folder : List ℕ) → words ≡ codes "--root" ∷ rest → rest ≡ folder ∷ last → IsFileName folder → NameRoot words (Some folder) last
root_named words rest last folder begins goes_on name = record { words_are = sym (begins ∙ ap (λ (ws : Words). codes "--root" ∷ ws) goes_on); name = name; otherwise = λ none. none_some _ none }

pub no_root : (words : Words) → BeginOtherwise (codes "--root") words → NameRoot words None words
no_root words otherwise = record { words_are = refl; name = tt; otherwise = λ none. otherwise }

pub root_missing : (words rest : Words) → words ≡ codes "--root" ∷ rest → rest ≡ [] → NameNoRoot words
root_missing words rest begins ends = record {
  begun = λ otherwise. otherwise rest begins;
  no_name = λ folder more e name. omega (arith, ap length (sym begins ∙ e), ap length ends);
}

pub root_no_name : (words rest last : Words) (first : List ℕ) → words ≡ codes "--root" ∷ rest → rest ≡ first ∷ last → (IsFileName first → ⊥) → NameNoRoot words
root_no_name words rest last first begins goes_on no_name = record {
  begun = λ otherwise. otherwise rest begins;
  no_name = λ folder more e name. no_name (subst IsFileName (ap second (sym e ∙ begins ∙ ap (λ (ws : Words). codes "--root" ∷ ws) goes_on)) name);
}

pub limit_named : (words rest last : Words) (word : List ℕ) (limit : ℕ) → words ≡ codes "--limit" ∷ rest → rest ≡ word ∷ last → word ≡ decimal limit → IsLimit limit → NameLimit words (Some limit) last
limit_named words rest last word limit begins goes_on is number = record {
  words_are = sym (begins ∙ ap (λ (ws : Words). codes "--limit" ∷ ws) (goes_on ∙ ap (λ (w : List ℕ). w ∷ last) is));
  number = number;
  otherwise = λ none. none_some _ none;
}

pub no_limit : (words : Words) → BeginOtherwise (codes "--limit") words → NameLimit words None words
no_limit words otherwise = record { words_are = refl; number = tt; otherwise = λ none. otherwise }

pub limit_missing : (words rest : Words) → words ≡ codes "--limit" ∷ rest → rest ≡ [] → NameNoLimit words
limit_missing words rest begins ends = record {
  begun = λ otherwise. otherwise rest begins;
  no_number = λ limit more e number. omega (arith, ap length (sym begins ∙ e), ap length ends);
}

pub limit_no_number : (words rest last : Words) (word : List ℕ) → words ≡ codes "--limit" ∷ rest → rest ≡ word ∷ last → ((limit : ℕ) → word ≡ decimal limit → IsLimit limit → ⊥) → NameNoLimit words
limit_no_number words rest last word begins goes_on no_number = record {
  begun = λ otherwise. otherwise rest begins;
  no_number = λ limit more e number. no_number limit (sym (ap second (sym e ∙ begins ∙ ap (λ (ws : Words). codes "--limit" ∷ ws) goes_on))) number;
}

-- a limit in decimal is read
pub limit_read : {E : Type 0} (limit : ℕ) (word : List ℕ) (r : Result ℕ E) → word ≡ decimal limit → IsLimit limit → ParsesUnsigned 32 10 word r → r ≡ Ok limit
limit_read limit word r is number parses = parse-decimal 32 limit word r (omega (arith, number.1)) (omega (arith, number.1)) is parses

ok_is : {E : Type 0} {a b : ℕ} {r : Result ℕ E} → r ≡ Ok a → r ≡ Ok b → a ≡ b
ok_is first second = cc

limit_same : {E : Type 0} (m n : ℕ) (word : List ℕ) (r : Result ℕ E) → r ≡ Ok m → ParsesUnsigned 32 10 word r → word ≡ decimal n → IsLimit n → m ≡ n
limit_same m n word r read parses is number = ok_is read (limit_read n word r is number parses)

pub out_of_range : {E : Type 0} (m : ℕ) (word : List ℕ) (r : Result ℕ E) → r ≡ Ok m → ParsesUnsigned 32 10 word r → (IsLimit m → ⊥) → (n : ℕ) → word ≡ decimal n → IsLimit n → ⊥
out_of_range m word r read parses fails n is number = fails (subst IsLimit (sym (limit_same m n word r read parses is number)) number)

pub other_text : {E : Type 0} (m : ℕ) (word : List ℕ) (r : Result ℕ E) → r ≡ Ok m → ParsesUnsigned 32 10 word r → (word ≡ decimal m → ⊥) → (n : ℕ) → word ≡ decimal n → IsLimit n → ⊥
other_text m word r read parses differs n is number = differs (is ∙ ap decimal (sym (limit_same m n word r read parses is number)))

-- ---- one request

limits_are : (a b : Option ℕ) (first second : Task) → IfSome a IsLimit → IfSome b IsLimit → limit_words a ++ task_words first ≡ limit_words b ++ task_words second → a ≡ b
limits_are None None first second number other e = refl
limits_are None (Some n) first second number other e = absurd (task_no_limit first (decimal n ∷ task_words second) e)
limits_are (Some m) None first second number other e = absurd (task_no_limit second (decimal m ∷ task_words first) (sym e))
limits_are (Some m) (Some n) first second number other e = ap (λ (k : ℕ). Some k) (decimal_injective m n (omega (arith, number.1)) (omega (arith, other.1)) (ap (λ (ws : Words). get_or ws 1 []) e))

-- the words name one limit at most
one_limit : (words : Words) (first second : Request) → IsForm words first → IsForm words second → first.limit ≡ second.limit
one_limit words first second form other =
    let rests = behind_root first.root words (limit_words other.named_limit ++ task_words second.task) (limit_words form.named_limit ++ task_words first.task) second.root (as_named words first form) other.words_are (limit_no_root other.named_limit second.task) in
    form.limit_is ∙ ap limit_of (limits_are form.named_limit other.named_limit first.task second.task form.limit other.limit rests.1) ∙ sym other.limit_is

abbrev request : Option (List ℕ) → ℕ → Task → Request
request root limit task = record { root = root; limit = limit; task = task }

-- the words ask for one request at most
pub one_request : (words : Words) (first second : Request) → IsForm words first → IsForm words second → first ≡ second
one_request words first second form other =
    ap (λ (r : Option (List ℕ)). request r first.limit first.task) (one_root words first second form other)
    ∙ ap (λ (n : ℕ). request second.root n first.task) (one_limit words first second form other)
    ∙ ap (λ (t : Task). request second.root second.limit t) (one_task words first second form other)
