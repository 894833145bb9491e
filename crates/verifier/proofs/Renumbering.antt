-- The rules look at the formulas of parents alone, so their numbers do not matter; and of a theory they look at the symbols,
-- and at which of them are new to its formulas.
use Rattle.std.proofs.Common.{◌≡◌, ℕ, zero, suc, inl, inr, List, [], ◌∷◌, map, Option, Some, slice_get, refl, sym, ◌∙◌, ap, subst}
use Rattle.fof_terms.specs.Vocabulary.{Vocabulary}
use Rattle.fof_terms.specs.declared.form.Form.{Form}
use Rattle.clause_form.specs.ClauseView.{clause_of}
use Rattle.clause_form.specs.declared.clause.Clause.{Clause}
use Rattle.clause_form.specs.declared.path.Parent.{Parent}
use Rattle.clause_rules.specs.Answers.{ShapeRule as Word, norm, cover, tautology, resolution, paramodulation, eqfactor, rewrite, Holds as Gives}
use Rattle.clause_rules.specs.Steps.{IsClauseAt, clauses_of}
use Rattle.kernel.specs.Statements.{Statements}
use Rattle.skolem_fresh.proofs.Alike.{choice_alike, skolem_alike}
use Rattle.skolem_fresh.specs.SkolemRule.{IsSkolemStep}
use Rattle.split_defs.proofs.DefinitionRuleFacts.{definition_alike}
use Rattle.split_defs.specs.SplitRule.{IsSplitStep}
use Rattle.clause_form.specs.Paths.{forms_of}
use Rattle.elaborate.specs.ByRule.{Applies, IsFirst, GivesAlone, GivesNowhere, IsFirstAlone}
use Rattle.elaborate.specs.declared.answer.Rule.{Rule}
use Rattle.elaborate.specs.declared.answer.Rule.TheVariants.{Norm, Cover, Tautology, Resolution, Paramodulation, EqFactor, Rewrite, Split, Skolem, Definition, Choice, Search, Sat}
use Rattle.verifier.proofs.Symbols.{SameSymbols, other_way}

-- both have the same formulas
abbrev pub Alike : List Parent → List Parent → Type 0
Alike ps qs = map (λ (p : Parent). p.form) ps ≡ map (λ (p : Parent). p.form) qs

first_alike : (p q : Parent) (ps qs : List Parent) → Alike (p ∷ ps) (q ∷ qs) → (p.form ≡ q.form) × Alike ps qs
first_alike p q ps qs same = (cc, cc)

record IsAlikeAt (qs : List Parent) (a : ℕ) (p : Parent) : Type 0 where
  parent : Parent
  there : slice_get qs a ≡ Some parent
  same : parent.form ≡ p.form

alike_at : (ps qs : List Parent) (a : ℕ) (p : Parent) → Alike ps qs → slice_get ps a ≡ Some p → IsAlikeAt qs a p
alike_at [] qs a p same at = absurd (cc)
alike_at (x ∷ ps) [] a p same at = absurd (cc)
alike_at (x ∷ ps) (y ∷ qs) zero p same at =
    let parts = first_alike x y ps qs same in
    let is : x ≡ p = cc in
    record { parent = y; there = refl; same = sym parts.0 ∙ ap (λ (q : Parent). q.form) is }
alike_at (x ∷ ps) (y ∷ qs) (suc a) p same at =
    let found = alike_at ps qs a p (first_alike x y ps qs same).1 at in
    record { parent = found.parent; there = found.there; same = found.same }

clauses_alike : (ps qs : List Parent) → Alike ps qs → clauses_of ps ≡ clauses_of qs
clauses_alike [] [] same = refl
clauses_alike [] (y ∷ qs) same = absurd (cc)
clauses_alike (x ∷ ps) [] same = absurd (cc)
clauses_alike (x ∷ ps) (y ∷ qs) same =
    let parts = first_alike x y ps qs same in
    ap (λ (f : Form). clause_of f ∷ clauses_of ps) parts.0 ∙ ap (λ (cs : List (Option Clause)). clause_of y.form ∷ cs) (clauses_alike ps qs parts.1)

clause_alike : (ps qs : List Parent) (a : ℕ) (c : Clause) → Alike ps qs → IsClauseAt ps a c → IsClauseAt qs a c
clause_alike ps qs a c same is = ap (λ (cs : List (Option Clause)). slice_get cs a) (sym (clauses_alike ps qs same)) ∙ is

-- each rule that is recognised by shape
gives_alike : (v : Vocabulary) (line : Form) (word : Word) (ps qs : List Parent) → Alike ps qs → Gives v ps line word → Gives v qs line word
gives_alike v line norm ps qs same (a, h) =
    let p = alike_at ps qs a h.of_parent.parent same h.of_parent.there in (
      a,
      record {
        made = h.made;
        of_line = h.of_line;
        of_parent = record { parent = p.parent; there = p.there; alike = rw p.same h.of_parent.alike };
      },
    )
gives_alike v line cover ps qs same (a, path, c, e, more, s, h) =
    let p = alike_at ps qs a h.reaches.parent same h.reaches.there in (
      a,
      path,
      c,
      e,
      more,
      s,
      record {
        reaches = record { parent = p.parent; there = p.there; small = rw p.same h.reaches.small; clause = rw p.same h.reaches.clause };
        line_clause = h.line_clause;
        covers = h.covers;
      },
    )
gives_alike v line tautology ps qs same h = h
gives_alike v line resolution ps qs same (a, b, i, j, left, right, e, more, s, h) = (
  a,
  b,
  i,
  j,
  left,
  right,
  e,
  more,
  s,
  record {
    line_clause = h.line_clause;
    left_clause = clause_alike ps qs a left same h.left_clause;
    right_clause = clause_alike ps qs b right same h.right_clause;
    resolves = h.resolves;
  },
)
gives_alike v line paramodulation ps qs same (a, b, i, place, j, flipped, into, from, e, more, s, h) = (
  a,
  b,
  i,
  place,
  j,
  flipped,
  into,
  from,
  e,
  more,
  s,
  record {
    line_clause = h.line_clause;
    into_clause = clause_alike ps qs a into same h.into_clause;
    from_clause = clause_alike ps qs b from same h.from_clause;
    paramodulates = h.paramodulates;
  },
)
gives_alike v line eqfactor ps qs same (a, i, first_flipped, j, second_flipped, c, e, more, s, h) = (
  a,
  i,
  first_flipped,
  j,
  second_flipped,
  c,
  e,
  more,
  s,
  record {
    line_clause = h.line_clause;
    parent_clause = clause_alike ps qs a c same h.parent_clause;
    factors = h.factors;
  },
)
gives_alike v line rewrite ps qs same (a, b, target, flipped, into, by, e, further, r, more, s, h) = (
  a,
  b,
  target,
  flipped,
  into,
  by,
  e,
  further,
  r,
  more,
  s,
  record {
    line_clause = h.line_clause;
    into_clause = clause_alike ps qs a into same h.into_clause;
    by_clause = clause_alike ps qs b by same h.by_clause;
    rewrites = h.rewrites;
  },
)

-- by its shape
shaped_alike : (t u : Statements) (line : Form) (word : Word) (ps qs : List Parent) → SameSymbols t u → Alike ps qs → Gives t.vocabulary ps line word → Gives u.vocabulary qs line word
shaped_alike t u line word ps qs same alike gives = subst (λ (v : Vocabulary). Gives v qs line word) same.vocabulary (gives_alike t.vocabulary line word ps qs alike gives)

-- A rule holds where it holds of parents with the same formulas and of a theory with the same symbols.
pub holds_alike : (t u : Statements) (line : Form) (rule : Rule) (ps qs : List Parent) → SameSymbols t u → Alike ps qs → Applies t ps line rule → Applies u qs line rule
holds_alike t u line Norm ps qs same alike holds = shaped_alike t u line norm ps qs same alike holds
holds_alike t u line Cover ps qs same alike holds = shaped_alike t u line cover ps qs same alike holds
holds_alike t u line Tautology ps qs same alike holds = shaped_alike t u line tautology ps qs same alike holds
holds_alike t u line Resolution ps qs same alike holds = shaped_alike t u line resolution ps qs same alike holds
holds_alike t u line Paramodulation ps qs same alike holds = shaped_alike t u line paramodulation ps qs same alike holds
holds_alike t u line EqFactor ps qs same alike holds = shaped_alike t u line eqfactor ps qs same alike holds
holds_alike t u line Rewrite ps qs same alike holds = shaped_alike t u line rewrite ps qs same alike holds
holds_alike t u line Split ps qs same alike holds = subst (λ (v : Vocabulary). IsSplitStep v (forms_of qs) line) same.vocabulary (subst (λ (fs : List Form). IsSplitStep t.vocabulary fs line) alike holds)
holds_alike t u line Skolem ps qs same alike holds = skolem_alike t u same.vocabulary same.forth (forms_of qs) line (subst (λ (fs : List Form). IsSkolemStep t fs line) alike holds)
holds_alike t u line Definition ps qs same alike holds = definition_alike t u line same.vocabulary same.forth holds
holds_alike t u line Choice ps qs same alike holds = choice_alike t u same.vocabulary same.forth line holds
holds_alike t u line Search ps qs same alike holds = absurd holds
holds_alike t u line Sat ps qs same alike holds = absurd holds

-- nor does it hold there where it does not here
fails_alike : (t u : Statements) (line : Form) (rule : Rule) (ps qs : List Parent) → SameSymbols t u → Alike ps qs → (Applies t ps line rule → ⊥) → Applies u qs line rule → ⊥
fails_alike t u line rule ps qs same alike fails holds = fails (holds_alike u t line rule qs ps (other_way t u same) (sym alike) holds)

-- the first rule of steps that holds
pub first_alike_rule : (rs : List Rule) (t u : Statements) (line : Form) (rule : Rule) (ps qs : List Parent) → SameSymbols t u → Alike ps qs → IsFirst rs t ps line rule → IsFirst rs u qs line rule
first_alike_rule [] t u line rule ps qs same alike first = first
first_alike_rule (r ∷ rs) t u line rule ps qs same alike (inl (is, holds)) = inl (is, holds_alike t u line r ps qs same alike holds)
first_alike_rule (r ∷ rs) t u line rule ps qs same alike (inr (fails, rest)) =
    inr (λ holds. fails_alike t u line r ps qs same alike fails holds, first_alike_rule rs t u line rule ps qs same alike rest)

-- ---- leaves

gives_alone : (t u : Statements) (line : Form) (rule : Rule) (ps qs : List Parent) (i : ℕ) → SameSymbols t u → Alike ps qs → GivesAlone t ps line rule i → GivesAlone u qs line rule i
gives_alone t u line rule ps qs i same alike (p, there, holds) =
    let q = alike_at ps qs i p alike there in
    (q.parent, q.there, holds_alike t u line rule (p ∷ []) (q.parent ∷ []) same (ap (λ (f : Form). f ∷ []) (sym q.same)) holds)

gives_nowhere : (t u : Statements) (line : Form) (rule : Rule) (ps qs : List Parent) → SameSymbols t u → Alike ps qs → GivesNowhere t ps line rule → GivesNowhere u qs line rule
gives_nowhere t u line rule ps qs same alike none = λ j gives. none j (gives_alone u t line rule qs ps j (other_way t u same) (sym alike) gives)

-- the first rule of leaves that holds
pub alone_alike_rule : (rs : List Rule) (t u : Statements) (line : Form) (rule : Rule) (i : ℕ) (ps qs : List Parent) → SameSymbols t u → Alike ps qs → IsFirstAlone rs t ps line rule i → IsFirstAlone rs u qs line rule i
alone_alike_rule [] t u line rule i ps qs same alike first = first
alone_alike_rule (r ∷ rs) t u line rule i ps qs same alike (inl (is, (gives, before))) =
    inl (is, (gives_alone t u line r ps qs i same alike gives, λ j lt found. before j lt (gives_alone u t line r qs ps j (other_way t u same) (sym alike) found)))
alone_alike_rule (r ∷ rs) t u line rule i ps qs same alike (inr (none, rest)) =
    inr (gives_nowhere t u line r ps qs same alike none, alone_alike_rule rs t u line rule i ps qs same alike rest)
