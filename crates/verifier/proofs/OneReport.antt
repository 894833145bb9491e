-- Two runs of one derivation from one theory, where the one goes by rules alone: their answers say the same and cite what
-- is marked alike, whatever their entries are.
use Rattle.std.proofs.Common.{◌≡◌, ℕ, suc, ◌+◌, ◌-◌, ◌<◌, ◌≤◌, ◌==◌, ◌||◌, ◌⊎◌, inl, inr, Bool, true, false, List, [], ◌∷◌, length, map, Option, None, Some, slice_get, replicate, refl, sym, ◌∙◌, ap, subst, arith}
use Rattle.std.specs.List.{list_any}
use Rattle.std.proofs.lemmas.Bool.Decides.{nat_tests}
use Rattle.std.proofs.lemmas.Option.{slice_get_within}
use Rattle.fof_terms.specs.Vocabulary.{Vocabulary}
use Rattle.fof_terms.specs.declared.form.Form.{Form}
use Rattle.clause_form.specs.declared.path.Parent.{Parent}
use Rattle.kernel.specs.Statements.{Statements}
use Rattle.kernel.specs.declared.entry.Entry.{Entry}
use Rattle.elaborate.specs.ByRule.{IsFirst, IsFirstAlone, rules, leaf_rules}
use Rattle.elaborate.specs.declared.answer.Reason.{Reason}
use Rattle.elaborate.specs.Answers.{IsSearchAnswer}
use Rattle.elaborate.specs.declared.answer.Reason.TheVariants.{Dry, Full, Heavy, Wide, Leaf}
use Rattle.elaborate.specs.declared.answer.Rule.{Rule}
use Rattle.elaborate.specs.declared.answer.StepAnswer.TheVariants as step
use Rattle.tstp_graph.specs.declared.shape.Ref.{Ref}
use Rattle.tstp_graph.specs.declared.shape.Ref.TheVariants as ref
use Rattle.tstp_graph.specs.Order.{is_taken, first_left}
use Rattle.verifier.specs.Marks.{answer_cites_marked, cites_marked}
use Rattle.verifier.specs.Lines.{Derivation, Line, with_number, accepted, parent_of, both, parents_of, candidates_of, sources_of}
use Rattle.verifier.specs.Report.{said_of}
use Rattle.verifier.specs.Run.{Progress, AnswersKind, AnswersPlace, AreAnswered, IsAnswered, IsRun, begun, with_answered}
use Rattle.verifier.specs.Unsearched.{AreUnsearched, IsUnsearched}
use Rattle.verifier.specs.declared.answer.LineAnswer.{LineAnswer}
use Rattle.verifier.specs.declared.answer.LineAnswer.TheVariants.{Accepted, Unverified, Skipped}
use Rattle.clause_form.specs.Paths.{forms_of}
use Rattle.verifier.proofs.Accepting.{kind_follows, not_searched}
use Rattle.verifier.proofs.Derived.{ByARule, ByASearch, IsRuled, IsUnruled, kind_reason, kind_unruled, kind_ways, ruled_theory}
use Rattle.verifier.proofs.Goodness.{candidates_alike, never_unruled, same_line}
use Rattle.verifier.proofs.Marking.{answered_marked}
use Rattle.verifier.proofs.Numbers.{IsNumbered, answer_numbered, begun_numbered}
use Rattle.verifier.proofs.Renumbering.{Alike, first_alike_rule, alone_alike_rule}
use Rattle.verifier.proofs.Slots.{set_here, set_elsewhere, one_value, has_value}
use Rattle.verifier.proofs.Symbols.{SameSymbols, same_symbols, other_way, GainsByRule, gained_fresh, ruled_gains, ruled_still}
use Rattle.verifier.proofs.Turns.{none_left}

-- ---- the first rule is one

one_rule : (rs : List Rule) (t : Statements) (parents : List Parent) (line : Form) (r s : Rule) → IsFirst rs t parents line r → IsFirst rs t parents line s → r ≡ s
one_rule [] t parents line r s first second = absurd first
one_rule (q ∷ rs) t parents line r s (inl (is, holds)) (inl (also, again)) = is ∙ sym also
one_rule (q ∷ rs) t parents line r s (inl (is, holds)) (inr (fails, rest)) = absurd (fails holds)
one_rule (q ∷ rs) t parents line r s (inr (fails, rest)) (inl (also, again)) = absurd (fails again)
one_rule (q ∷ rs) t parents line r s (inr (fails, rest)) (inr (nor, more)) = one_rule rs t parents line r s rest more

one_leaf_rule : (rs : List Rule) (t : Statements) (candidates : List Parent) (line : Form) (r s : Rule) (i j : ℕ) → IsFirstAlone rs t candidates line r i → IsFirstAlone rs t candidates line s j → r ≡ s
one_leaf_rule [] t candidates line r s i j first second = absurd first
one_leaf_rule (q ∷ rs) t candidates line r s i j (inl (is, gives)) (inl (also, again)) = is ∙ sym also
one_leaf_rule (q ∷ rs) t candidates line r s i j (inl (is, gives)) (inr (none, rest)) = absurd (none i gives.0)
one_leaf_rule (q ∷ rs) t candidates line r s i j (inr (none, rest)) (inl (also, again)) = absurd (none j again.0)
one_leaf_rule (q ∷ rs) t candidates line r s i j (inr (none, rest)) (inr (nor, more)) = one_leaf_rule rs t candidates line r s i j rest more

-- ---- the answers to a line in theories with the same symbols

never_both : (b : Bool) → b ≡ true → b ≡ false → ⊥
never_both b one other = let wrong : true ≡ false = sym one ∙ other in cc

-- a leaf that names nothing is not searched for
never_free : (is_leaf cited : Bool) → is_leaf ≡ true → cited ≡ false → (is_leaf ≡ false) ⊎ (cited ≡ true) → ⊥
never_free is_leaf cited leaf free (inl is) = never_both is_leaf leaf is
never_free is_leaf cited leaf free (inr is) = never_both cited is free

-- what is left open is so by a search
never_open : (t : Statements) (sources : List Parent) (form : Form) (limit : ℕ) (reason : Reason) → IsUnsearched (Unverified reason) → IsSearchAnswer t sources form limit (step.Unverified reason) → ⊥
never_open t sources form limit Dry direct open_ = direct
never_open t sources form limit Full direct open_ = direct
never_open t sources form limit Heavy direct open_ = direct
never_open t sources form limit Wide direct open_ = direct
never_open t sources form limit Leaf direct open_ = open_.1

-- a line that a rule gives here has a rule there
not_unruled : (is_leaf : Bool) (given : List Form) (cited : Bool) (refs : List Ref) (form : Form) (t u : Statements) (ps qs : List Parent) (r : Rule) (cites : List ℕ) → SameSymbols t u → Alike ps qs → IsRuled is_leaf t given cited ps form r cites → IsUnruled is_leaf u given cited qs form → ⊥
not_unruled is_leaf given cited refs form t u ps qs r cites same alike ruled none =
    let follows = kind_follows is_leaf t t given cited refs ps form r cites (same_symbols t) ruled in
    never_unruled is_leaf u t given cited refs follows.0 qs (forms_of ps) form same (sym alike) follows.1 none

module _ (d : Derivation) (cited : Bool) (refs : List Ref) (form : Form) (t u : Statements) (ps qs : List Parent) (same : SameSymbols t u) (alike : Alike ps qs) where
  kinds_rule : (is_leaf : Bool) (r s : Rule) (cites others : List ℕ) → IsRuled is_leaf t d.given cited ps form r cites → IsRuled is_leaf u d.given cited qs form s others → r ≡ s
  kinds_rule false r s cites others (by, is) (also, are) = one_rule rules u qs form r s (first_alike_rule rules t u form r ps qs same alike by) also
  kinds_rule true r s cites others (i, c, there, by, is) (j, e, here, also, are) =
      one_leaf_rule leaf_rules u (candidates_of d.given cited qs) form r s i j (alone_alike_rule leaf_rules t u form r i (candidates_of d.given cited ps) (candidates_of d.given cited qs) same (candidates_alike d.given cited ps qs alike) by) also

  -- a line that a rule gives here is accepted by a rule there
  rule_there : (is_leaf : Bool) (r s : Rule) (cites others : List ℕ) (more : List Entry) → IsRuled is_leaf t d.given cited ps form r cites → AnswersKind is_leaf u d cited qs form (step.Accepted s others more) → ByARule is_leaf u d.given cited qs form s others more
  rule_there is_leaf r s cites others more ruled answers = by (kind_ways is_leaf u d cited qs form s others more answers)
    where
      by : ByARule is_leaf u d.given cited qs form s others more ⊎ ByASearch is_leaf u d.given cited qs form s others more → ByARule is_leaf u d.given cited qs form s others more
      by (inl again) = again
      by (inr found) = absurd (not_unruled is_leaf d.given cited refs form t u ps qs r cites same alike ruled found.unruled)

  -- a leaf that names nothing and is left open is not accepted there
  not_there : (is_leaf : Bool) (reason : Reason) (s : Rule) (others : List ℕ) (more : List Entry) → IsUnsearched (Unverified reason) → AnswersKind is_leaf t d cited ps form (step.Unverified reason) → AnswersKind is_leaf u d cited qs form (step.Accepted s others more) → ⊥
  not_there is_leaf reason s others more direct none answers = by (kind_ways is_leaf u d cited qs form s others more answers) (kind_reason is_leaf t d cited ps form reason none)
    where
      by : ByARule is_leaf u d.given cited qs form s others more ⊎ ByASearch is_leaf u d.given cited qs form s others more
          → ((reason ≡ Leaf) × (is_leaf ≡ true) × (cited ≡ false)) ⊎ (((is_leaf ≡ false) ⊎ (cited ≡ true)) × IsSearchAnswer t (sources_of is_leaf d.given cited ps) form d.limit (step.Unverified reason)) → ⊥
      by (inl ruled) why = not_unruled is_leaf d.given cited refs form u t qs ps s others (other_way t u same) (sym alike) ruled.ruled (kind_unruled is_leaf t d cited ps form reason none)
      by (inr found) (inl (is, leaf, free)) = never_free is_leaf cited leaf free found.may
      by (inr found) (inr (may, open_)) = never_open t (sources_of is_leaf d.given cited ps) form d.limit reason direct open_

  kinds_reason : (is_leaf : Bool) (r s : Reason) → IsUnsearched (Unverified r) → AnswersKind is_leaf t d cited ps form (step.Unverified r) → AnswersKind is_leaf u d cited qs form (step.Unverified s) → r ≡ s
  kinds_reason is_leaf r s direct none nothing = by (kind_reason is_leaf t d cited ps form r none) (kind_reason is_leaf u d cited qs form s nothing)
    where
      by : ((r ≡ Leaf) × (is_leaf ≡ true) × (cited ≡ false)) ⊎ (((is_leaf ≡ false) ⊎ (cited ≡ true)) × IsSearchAnswer t (sources_of is_leaf d.given cited ps) form d.limit (step.Unverified r))
          → ((s ≡ Leaf) × (is_leaf ≡ true) × (cited ≡ false)) ⊎ (((is_leaf ≡ false) ⊎ (cited ≡ true)) × IsSearchAnswer u (sources_of is_leaf d.given cited qs) form d.limit (step.Unverified s)) → r ≡ s
      by (inl (is, leaf, free)) (inl (also, leaf_too, free_too)) = is ∙ sym also
      by (inl (is, leaf, free)) (inr (may, open_)) = absurd (never_free is_leaf cited leaf free may)
      by (inr (may, open_)) why = absurd (never_open t (sources_of is_leaf d.given cited ps) form d.limit r direct open_)

-- ---- two runs of the same lines

-- both lines have a number, or neither
abbrev LevelSlots : Option (Option ℕ) → Option (Option ℕ) → Type 0
LevelSlots None None = Unit {0}
LevelSlots None (Some b) = ⊥
LevelSlots (Some a) None = ⊥
LevelSlots (Some None) (Some None) = Unit {0}
LevelSlots (Some None) (Some (Some m)) = ⊥
LevelSlots (Some (Some n)) (Some None) = ⊥
LevelSlots (Some (Some n)) (Some (Some m)) = Unit {0}

level_itself : (a : Option (Option ℕ)) → LevelSlots a a
level_itself None = tt
level_itself (Some None) = tt
level_itself (Some (Some n)) = tt

-- the theories have the same symbols, and the same lines have numbers
record AreLevel (p q : Progress) : Type 0 where
  same : SameSymbols p.theory q.theory
  slots : (k : ℕ) → LevelSlots (slice_get p.numbers k) (slice_get q.numbers k)

abbrev LevelParents : Option Parent → Option Parent → Type 0
LevelParents None None = Unit {0}
LevelParents None (Some y) = ⊥
LevelParents (Some x) None = ⊥
LevelParents (Some x) (Some y) = x.form ≡ y.form

abbrev LevelLists : Option (List Parent) → Option (List Parent) → Type 0
LevelLists None None = Unit {0}
LevelLists None (Some qs) = ⊥
LevelLists (Some ps) None = ⊥
LevelLists (Some ps) (Some qs) = Alike ps qs

both_level : (x y : Option Parent) (xs ys : Option (List Parent)) → LevelParents x y → LevelLists xs ys → LevelLists (both x xs) (both y ys)
both_level None None xs ys one rest = tt
both_level None (Some y) xs ys one rest = absurd one
both_level (Some x) None xs ys one rest = absurd one
both_level (Some x) (Some y) None None one rest = tt
both_level (Some x) (Some y) None (Some qs) one rest = absurd rest
both_level (Some x) (Some y) (Some ps) None one rest = absurd rest
both_level (Some x) (Some y) (Some ps) (Some qs) one rest =
    ap (λ (f : Form). f ∷ map (λ (p : Parent). p.form) ps) one ∙ ap (λ (fs : List Form). y.form ∷ fs) rest

accepted_level : (a b : Option (Option ℕ)) (form : Option Form) → LevelSlots a b → LevelParents (accepted a form) (accepted b form)
accepted_level None None form level = tt
accepted_level None (Some b) form level = absurd level
accepted_level (Some a) None form level = absurd level
accepted_level (Some None) (Some None) form level = tt
accepted_level (Some None) (Some (Some m)) form level = absurd level
accepted_level (Some (Some n)) (Some None) form level = absurd level
accepted_level (Some (Some n)) (Some (Some m)) None level = tt
accepted_level (Some (Some n)) (Some (Some m)) (Some form) level = refl

given_level : (place : ℕ) (form : Option Form) → LevelParents (with_number place form) (with_number place form)
given_level place None = tt
given_level place (Some form) = refl

module _ (d : Derivation) (p q : Progress) (level : AreLevel p q) where
  parent_level : (r : Ref) → LevelParents (parent_of d.given d.forms p.numbers r) (parent_of d.given d.forms q.numbers r)
  parent_level (ref.Given place) = given_level place (slice_get d.given place)
  parent_level (ref.Line place) = accepted_level (slice_get p.numbers place) (slice_get q.numbers place) (slice_get d.forms place) (level.slots place)

  parents_level : (rs : List Ref) → LevelLists (parents_of d.given d.forms p.numbers rs) (parents_of d.given d.forms q.numbers rs)
  parents_level [] = refl
  parents_level (r ∷ rs) =
      both_level (parent_of d.given d.forms p.numbers r) (parent_of d.given d.forms q.numbers r) (parents_of d.given d.forms p.numbers rs) (parents_of d.given d.forms q.numbers rs) (parent_level r) (parents_level rs)

-- a line that both gain
gained_level : (t u v w : Statements) (line : Form) → SameSymbols t u → GainsByRule t v line → GainsByRule u w line → SameSymbols v w
gained_level t u v w line same first second = record {
  vocabulary = ap (λ (x : Statements). x.vocabulary) first.made ∙ same.vocabulary ∙ sym (ap (λ (x : Statements). x.vocabulary) second.made);
  forth = λ k fresh. let parts = gained_fresh t v line k (ruled_gains t v line first) fresh in ruled_still u w line k second (same.forth k parts.0) parts.1;
  back = λ k fresh. let parts = gained_fresh u w line k (ruled_gains u w line second) fresh in ruled_still t v line k first (same.back k parts.0) parts.1;
}

-- the line at the place is accepted in both
placed_level : (p q : Progress) (place : ℕ) (v w : Statements) → place < length p.numbers → place < length q.numbers → AreLevel p q → SameSymbols v w → AreLevel (with_answered p place v) (with_answered q place w)
placed_level p q place v w in_first in_second level same = record { same = same; slots = slots }
  where
    n : ℕ
    n = length v.formulas - 1

    m : ℕ
    m = length w.formulas - 1

    slots : (k : ℕ) → LevelSlots (slice_get (with_answered p place v).numbers k) (slice_get (with_answered q place w).numbers k)
    slots k = by (k == place) refl
      where
        by : (b : Bool) → (k == place) ≡ b → LevelSlots (slice_get (with_answered p place v).numbers k) (slice_get (with_answered q place w).numbers k)
        by true test =
            let here : place ≡ k = grind (arith, nat_tests) in
            subst (λ (i : ℕ). LevelSlots (slice_get (with_answered p place v).numbers i) (slice_get (with_answered q place w).numbers i)) here
            (subst (λ (o : Option (Option ℕ)). LevelSlots (slice_get (with_answered p place v).numbers place) o) (sym (set_here q.numbers place (Some m) in_second))
            (subst (λ (o : Option (Option ℕ)). LevelSlots o (Some (Some m))) (sym (set_here p.numbers place (Some n) in_first)) tt))
        by false test =
            let apart : k ≡ place → ⊥ = λ here. grind (arith, nat_tests) in
            subst (λ (o : Option (Option ℕ)). LevelSlots (slice_get (with_answered p place v).numbers k) o) (sym (set_elsewhere q.numbers place k (Some m) apart))
            (subst (λ (o : Option (Option ℕ)). LevelSlots o (slice_get q.numbers k)) (sym (set_elsewhere p.numbers place k (Some n) apart)) (level.slots k))

-- the answers say the same, and cite what is marked alike
record AreOfOneLine (d : Derivation) (a b : LineAnswer) : Type 0 where
  said : said_of a ≡ said_of b
  marked : (marks : List Bool) → length marks ≤ length d.given → answer_cites_marked marks a ≡ answer_cites_marked marks b

record AnsweredLevel (d : Derivation) (a b : LineAnswer) (v w : Progress) : Type 0 where
  alike : AreOfOneLine d a b
  level : AreLevel v w

module _ (d : Derivation) (p q : Progress) (place : ℕ) (line : Line) (within : place < length d.nodes) (level : AreLevel p q) (first : IsNumbered (length d.given) d p) (second : IsNumbered (length d.given) d q) where
  both_accepted : (ps qs : List Parent) (r s : Rule) (cites others : List ℕ) (entries more : List Entry) (v w : Progress) → parents_of d.given d.forms p.numbers line.node.parents ≡ Some ps → parents_of d.given d.forms q.numbers line.node.parents ≡ Some qs → Alike ps qs → IsUnsearched (Accepted r cites)
      → IsAnswered d p place line (Some ps) (Accepted r cites) entries v → IsAnswered d q place line (Some qs) (Accepted s others) more w → AnsweredLevel d (Accepted r cites) (Accepted s others) v w
  both_accepted ps qs r s cites others entries more v w known also alike direct here there =
      let is : ByARule line.node.leaf p.theory d.given line.node.cited ps line.form r cites entries = not_searched line.node.leaf p.theory d line.node.cited ps line.form r cites entries direct here.0 in
      let are : ByARule line.node.leaf q.theory d.given line.node.cited qs line.form s others more = rule_there d line.node.cited line.node.parents line.form p.theory q.theory ps qs level.same alike line.node.leaf r s cites others more is.ruled there.0 in
      let rule : r ≡ s = kinds_rule d line.node.cited line.node.parents line.form p.theory q.theory ps qs level.same alike line.node.leaf r s cites others is.ruled are.ruled in
      let follows = kind_follows line.node.leaf p.theory p.theory d.given line.node.cited line.node.parents ps line.form r cites (same_symbols p.theory) is.ruled in
      record {
        alike = record {
          said = ap (λ (x : Rule). said_of (Accepted x cites)) rule;
          marked = λ marks short.
              answered_marked marks d p place line p.theory follows.0 ps (forms_of ps) (Accepted r cites) entries v short first (same_symbols p.theory) refl known follows.1 tt here
              ∙ sym (answered_marked marks d q place line p.theory follows.0 qs (forms_of ps) (Accepted s others) more w short second level.same (sym alike) also follows.1 tt there);
        };
        level = subst (λ (x : Progress). AreLevel x w) (sym here.1.2) (subst (λ (x : Progress). AreLevel (with_answered p place here.1.0) x) (sym there.1.2)
            (placed_level p q place here.1.0 there.1.0 (omega (arith, within, first.count)) (omega (arith, within, second.count)) level
            (gained_level p.theory q.theory here.1.0 there.1.0 line.form level.same
            (ruled_theory p.theory here.1.0 cites entries line.form is.derived here.1.1)
            (ruled_theory q.theory there.1.0 others more line.form are.derived there.1.1))));
      }

  stays_level : (a b : LineAnswer) (v w : Progress) → said_of a ≡ said_of b → ((marks : List Bool) → answer_cites_marked marks a ≡ answer_cites_marked marks b) → v ≡ p → w ≡ q → AnsweredLevel d a b v w
  stays_level a b v w said marked is also = record {
    alike = record { said = said; marked = λ marks short. marked marks };
    level = subst (λ (x : Progress). AreLevel x w) (sym is) (subst (λ (x : Progress). AreLevel p x) (sym also) level);
  }

  by_parents : (ps qs : Option (List Parent)) (a b : LineAnswer) (entries more : List Entry) (v w : Progress) → parents_of d.given d.forms p.numbers line.node.parents ≡ ps → parents_of d.given d.forms q.numbers line.node.parents ≡ qs → LevelLists ps qs → IsUnsearched a
      → IsAnswered d p place line ps a entries v → IsAnswered d q place line qs b more w → AnsweredLevel d a b v w
  by_parents None None Skipped Skipped entries more v w known also alike direct here there = stays_level Skipped Skipped v w refl (λ marks. refl) here.1 there.1
  by_parents None None (Accepted r cites) b entries more v w known also alike direct here there = absurd here
  by_parents None None (Unverified reason) b entries more v w known also alike direct here there = absurd here
  by_parents None None Skipped (Accepted s others) entries more v w known also alike direct here there = absurd there
  by_parents None None Skipped (Unverified reason) entries more v w known also alike direct here there = absurd there
  by_parents None (Some qs) a b entries more v w known also alike direct here there = absurd alike
  by_parents (Some ps) None a b entries more v w known also alike direct here there = absurd alike
  by_parents (Some ps) (Some qs) Skipped b entries more v w known also alike direct here there = absurd here
  by_parents (Some ps) (Some qs) (Accepted r cites) Skipped entries more v w known also alike direct here there = absurd there
  by_parents (Some ps) (Some qs) (Unverified reason) Skipped entries more v w known also alike direct here there = absurd there
  by_parents (Some ps) (Some qs) (Accepted r cites) (Accepted s others) entries more v w known also alike direct here there = both_accepted ps qs r s cites others entries more v w known also alike direct here there
  by_parents (Some ps) (Some qs) (Accepted r cites) (Unverified reason) entries more v w known also alike direct here there =
      let is = not_searched line.node.leaf p.theory d line.node.cited ps line.form r cites entries direct here.0 in
      absurd (not_unruled line.node.leaf d.given line.node.cited line.node.parents line.form p.theory q.theory ps qs r cites level.same alike is.ruled (kind_unruled line.node.leaf q.theory d line.node.cited qs line.form reason there.0))
  by_parents (Some ps) (Some qs) (Unverified reason) (Accepted s others) entries more v w known also alike direct here there =
      absurd (not_there d line.node.cited line.node.parents line.form p.theory q.theory ps qs level.same alike line.node.leaf reason s others more direct here.0 there.0)
  by_parents (Some ps) (Some qs) (Unverified reason) (Unverified other) entries more v w known also alike direct here there =
      let same : reason ≡ other = kinds_reason d line.node.cited line.node.parents line.form p.theory q.theory ps qs level.same alike line.node.leaf reason other direct here.0 there.0 in
      stays_level (Unverified reason) (Unverified other) v w (ap (λ (x : Reason). said_of (Unverified x)) same) (λ marks. refl) here.2 there.2

-- ---- the lines in turn

-- the line at this place has answers in both that say the same
abbrev AtPlace : Derivation → List LineAnswer → List LineAnswer → ℕ → Type 0
AtPlace d answers others k = (a : LineAnswer) × (b : LineAnswer) × (slice_get answers k ≡ Some a) × (slice_get others k ≡ Some b) × AreOfOneLine d a b

module _ (d : Derivation) (answers others : List LineAnswer) (direct : AreUnsearched answers) where
  place_level : (p q : Progress) (place : ℕ) (entries more : List Entry) (v w : Progress) → AreLevel p q → IsNumbered (length d.given) d p → IsNumbered (length d.given) d q
      → (a : AnswersPlace d answers p place entries v) (b : AnswersPlace d others q place more w) → AnsweredLevel d a.answer b.answer v w
  place_level p q place entries more v w level first second a b =
      let same : b.line ≡ a.line = same_line d place b.line a.line b.there a.there in
      let there : IsAnswered d q place a.line (parents_of d.given d.forms q.numbers a.line.node.parents) b.answer more w =
      subst (λ (l : Line). IsAnswered d q place l (parents_of d.given d.forms q.numbers l.node.parents) b.answer more w) same b.is in
      by_parents d p q place a.line (slice_get_within d.nodes place a.line.node a.there.node) level first second (parents_of d.given d.forms p.numbers a.line.node.parents) (parents_of d.given d.forms q.numbers a.line.node.parents) a.answer b.answer entries more v w refl refl
      (parents_level d p q level a.line.node.parents) (direct place a.answer a.answer_there) a.is there

  turns_level : (p q : Progress) (places : List ℕ) (entries more : List Entry) (v w : Progress) (k : ℕ) → AreLevel p q → IsNumbered (length d.given) d p → IsNumbered (length d.given) d q
      → AreAnswered d answers p places entries v → AreAnswered d others q places more w → is_taken places k ≡ true → AtPlace d answers others k
  turns_level p q [] entries more v w k level first second are also is = absurd (cc)
  turns_level p q (place ∷ places) entries more v w k level first second (own, mid, a, (later, entries_are, rest)) (own_too, mid_too, b, (later_too, more_are, rest_too)) is =
      let here = place_level p q place own own_too mid mid_too level first second a b in
      by (place == k) refl is (a.answer, b.answer, a.answer_there, b.answer_there, here.alike)
      (turns_level mid mid_too places later later_too v w k here.level
      (answer_numbered (length d.given) d p place a.line (parents_of d.given d.forms p.numbers a.line.node.parents) a.answer own mid a.there a.is first)
      (answer_numbered (length d.given) d q place b.line (parents_of d.given d.forms q.numbers b.line.node.parents) b.answer own_too mid_too b.there b.is second) rest rest_too)
    where
      by : (b : Bool) → (place == k) ≡ b → (b || is_taken places k) ≡ true → AtPlace d answers others place → (is_taken places k ≡ true → AtPlace d answers others k) → AtPlace d answers others k
      by false test is here on = on is
      by true test is here on = let same : place ≡ k = grind (arith, nat_tests) in subst (AtPlace d answers others) same here

-- ---- whole runs

-- a function that gives the same at each place
same_map : {X : Type 0} (f : LineAnswer → X) (xs ys : List LineAnswer) → length xs ≡ length ys → ((k : ℕ) (a b : LineAnswer) → slice_get xs k ≡ Some a → slice_get ys k ≡ Some b → f a ≡ f b) → map f xs ≡ map f ys
same_map f [] [] count each = refl
same_map f [] (y ∷ ys) count each = absurd (omega (arith, count))
same_map f (x ∷ xs) [] count each = absurd (omega (arith, count))
same_map {X} f (x ∷ xs) (y ∷ ys) count each =
    ap (λ (z : X). z ∷ map f xs) (each 0 x y refl refl) ∙ ap (λ (zs : List X). f y ∷ zs) (same_map f xs ys (omega (arith, count)) (λ k a b here there. each (suc k) a b here there))

same_any : (f : LineAnswer → Bool) (xs ys : List LineAnswer) → length xs ≡ length ys → ((k : ℕ) (a b : LineAnswer) → slice_get xs k ≡ Some a → slice_get ys k ≡ Some b → f a ≡ f b) → list_any f xs ≡ list_any f ys
same_any f [] [] count each = refl
same_any f [] (y ∷ ys) count each = absurd (omega (arith, count))
same_any f (x ∷ xs) [] count each = absurd (omega (arith, count))
same_any f (x ∷ xs) (y ∷ ys) count each =
    ap (λ (b : Bool). b || list_any f xs) (each 0 x y refl refl) ∙ ap (λ (b : Bool). f y || b) (same_any f xs ys (omega (arith, count)) (λ k a b here there. each (suc k) a b here there))

module _ (start : Statements) (d : Derivation) (order : List ℕ) (answers others : List LineAnswer) (entries more : List Entry) (end last : Statements) (given : start.formulas ≡ d.given) (all : first_left (is_taken order) 0 d.nodes ≡ None) (direct : AreUnsearched answers) (run : IsRun start d order answers entries end) (other : IsRun start d order others more last) where
  starts : IsNumbered (length d.given) d (begun start d)
  starts = subst (λ (fs : List Form). IsNumbered (length fs) d (begun start d)) given (begun_numbered start d)

  at_each : (k : ℕ) (a b : LineAnswer) → slice_get answers k ≡ Some a → slice_get others k ≡ Some b → AreOfOneLine d a b
  at_each k a b here there =
      let node = has_value d.nodes k (omega (arith, run.count, slice_get_within answers k a here)) in
      let zero_more : 0 + k ≡ k = omega arith in
      let taken : is_taken order k ≡ true = ap (is_taken order) (sym zero_more) ∙ none_left (is_taken order) 0 d.nodes k node.0 all node.1 in
      let found =
      turns_level d answers others direct (begun start d) (begun start d) order entries more (record { theory = end; numbers = run.numbers }) (record { theory = last; numbers = other.numbers }) k
      (record { same = same_symbols start; slots = λ i. level_itself (slice_get (replicate (length d.nodes) None) i) }) starts starts run.answered other.answered taken in
      subst (λ (x : LineAnswer). AreOfOneLine d x b) (one_value (slice_get answers k) found.0 a found.2 here)
      (subst (λ (y : LineAnswer). AreOfOneLine d found.0 y) (one_value (slice_get others k) found.1 b found.3 there) found.4)

  counts : length answers ≡ length others
  counts = run.count ∙ sym other.count

  -- the answers say the same
  pub one_said : map said_of answers ≡ map said_of others
  one_said = same_map said_of answers others counts (λ k a b here there. (at_each k a b here there).said)

  -- and cite what is marked alike
  pub one_marked : (marks : List Bool) → length marks ≤ length d.given → cites_marked marks answers ≡ cites_marked marks others
  one_marked marks short = same_any (answer_cites_marked marks) answers others counts (λ k a b here there. (at_each k a b here there).marked marks short)
