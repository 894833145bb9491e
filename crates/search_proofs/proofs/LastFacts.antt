-- All facts of a refutation, falsehood at last.
use Rattle.std.specs.Prelude.{ℕ, ◌≡◌, ◌+◌, Bool, List, [], ◌∷◌, ◌++◌, length, Option, Some, None, slice_get, refl}
use Rattle.std.specs.List.{All as Each}
use Rattle.std.proofs.Common.{sym, ap, subst, ◌∙◌, arith, inl, inr}
use Rattle.fof_terms.specs.Vocabulary.{Vocabulary}
use Rattle.fof_terms.specs.Sorts.{Sorted}
use Rattle.std.proofs.lemmas.List.Elements.{recursion_from_All}
use Rattle.fof_terms.proofs.Scoped.{member_of, raised}
use Rattle.fof_terms.specs.declared.form.Form.{Form, Or}
use Rattle.clause_form.specs.declared.clause.Clause.{Clause}
use Rattle.clause_form.specs.declared.clause.Lit.{Lit}
use Rattle.clause_form.specs.ClauseView.{closed_by}
use Rattle.clause_proofs.specs.Bodies.{body_of}
use Rattle.clause_rules.specs.Steps.{IsReady}
use Rattle.kernel.specs.Statements.{Statements}
use Rattle.kernel.specs.declared.proof.Proof.{Proof}
use Rattle.input_proofs.specs.Formulas.{formula_of, has_or}
use Rattle.negated_lemmas.specs.Negated.{with_denied}
use Rattle.saturation.specs.Members.{clauses_of}
use Rattle.search_proofs.specs.code.Derived.{AreDerived, IsDerived}
use Rattle.saturation.specs.declared.member.Member.{Member}
use Rattle.saturation.specs.declared.member.Origin.TheVariants.{Input}
use Rattle.superpose.specs.Drafts.{IsClause}
use Rattle.search_proofs.specs.Falsehood.{IsFalsehoodBy}
use Rattle.search_proofs.specs.Needed.{Names, AreNeeded}
use Rattle.search_proofs.specs.code.Contradictions.{AreNeededFor, ContradictsIn, IsByContradiction, StandIn, Suffice}
use Rattle.search_proofs.specs.code.Ended.{IsEnded, IsEndedByLast}
use Rattle.search_proofs.specs.code.Facts.{Setting, IsOf, StandsAt}
use Rattle.search_proofs.specs.code.Marks.{NameMarked}
use Rattle.search_proofs.specs.Placed.{there, numbers_from}
use Rattle.search_proofs.specs.code.Members.{IsPassed, InputStands, IsMembers, IsLater, MembersStand, ShowMore, PassMembers, LeadOn}
use Rattle.search_proofs.specs.declared.contradicting.Contradiction.{Contradiction}
use Rattle.search_proofs.proofs.Contradicted.{enough_names}
use Rattle.search_proofs.proofs.Forms.{formula_ready}
use Rattle.search_proofs.proofs.InTurn.{one_of, shown_twice, shown_as, stands_in, stands_on}
use Rattle.search_proofs.proofs.Inputs.{numbers_count}
use Rattle.search_proofs.proofs.Passing.{passed}
use Rattle.search_proofs.proofs.Symbols.{clause_at}

-- the formula of an empty clause
empty_form : (c : Clause) → c.lits ≡ [] → formula_of c ≡ closed_by c.sorts (Or [])
empty_form c e = ap (λ (lits : List Lit). closed_by c.sorts (body_of (has_or lits) lits)) e

module _ (w : Vocabulary) (start : ℕ) (members : List Member) (needed : List Bool) (last : Member) (needs : AreNeeded members last needed) (of_inputs numbers : List ℕ) where
  -- by the number of the last member, which is empty
  pub leads_on : (first mid later proofs : List Proof) (n : ℕ) (p : Proof) → IsClause w last.clause → last.clause.lits ≡ [] → PassMembers w start members needed of_inputs numbers first mid
      → IsPassed w start members numbers of_inputs last.clause last.origin mid later n → IsFalsehoodBy n last.clause.sorts p → proofs ≡ later ++ p ∷ [] → LeadOn w start members needed last of_inputs first proofs
  leads_on first mid later proofs n p fit empty before h falsehood is s voc starts facts shown inputs own =
      let P = IsLater members last in
      let so_far = before s voc starts facts shown inputs in
      let all = so_far.0 in
      let begun : ShowMore s P mid facts all = shown_as s (IsMembers members) P (λ a m. inl m) mid facts all so_far.1 in
      let input = λ (i k : ℕ) (o : last.origin ≡ Input i) (e : slice_get of_inputs i ≡ Some k). own_stands s all facts mid so_far.1 own i k o e in
      let named = λ (i k : ℕ) (c : Clause) (name : Names last.origin i) (number : slice_get numbers i ≡ Some k) (clause : slice_get (clauses_of members) i ≡ Some c).
      (let found = clause_at members i c clause in subst (λ (x : Clause). StandsAt s all k (formula_of x)) found.2 (so_far.2 i found.0 k found.1 (needs.of_last i name) number)) in
      let one = passed s w voc start starts all members numbers of_inputs mid later n P last.clause last.origin so_far.1.shown h input named (inr (inl refl)) in
      let stands : StandsAt s one.0 n (closed_by last.clause.sorts (Or [])) = subst (λ (a : Form). StandsAt s one.0 n a) (empty_form last.clause empty) one.2 in
      let ready : IsReady w (closed_by last.clause.sorts (Or [])) = subst (IsReady w) (empty_form last.clause empty) (formula_ready w last.clause fit) in
      let shows = λ (t : Statements) (of : IsOf s t).
      (let closed : Sorted t.vocabulary [] (closed_by last.clause.sorts (Or [])) =
      subst (λ (v : Vocabulary). Sorted v [] (closed_by last.clause.sorts (Or []))) (sym (of.vocabulary ∙ voc)) (raised w [] 1000000000 2147483647 (closed_by last.clause.sorts (Or [])) (omega arith) ready) in
      falsehood (with_denied t s.line one.0) closed (stands_in s one.0 n (closed_by last.clause.sorts (Or [])) t of stands)) in
      let ended = one_of s P later proofs one.0 p (Or []) one.1.shown shows (inr (inr refl)) is in
      record {
        facts = one.0 ++ Or [] ∷ [];
        shown = shown_twice s P later proofs facts one.0 (one.0 ++ Or [] ∷ []) (shown_twice s P mid later facts all one.0 begun one.1) ended;
        rest = one.0;
        ends = refl;
      } where
        own_stands : (s : Setting) (all facts : List Form) (mid : List Proof) → ShowMore s (IsMembers members) mid facts all → InputStands s facts of_inputs last → InputStands s all of_inputs last
        own_stands s all facts mid more own i k o e = stands_on s (IsMembers members) mid facts all k (formula_of last.clause) more (own i k o e)

-- by a contradiction among the members
module _ (w : Vocabulary) (start : ℕ) (members : List Member) (needed : List Bool) (last : Member) (of_inputs numbers : List ℕ) (c : Contradiction) (found : ContradictsIn w members c) (needs : AreNeededFor members c needed) where
  named_stand : Each (λ m. IsClause w m.clause) members → (s : Setting) (all : List Form) → s.vocabulary ≡ w → MembersStand s all members needed numbers → (t : Statements) → IsOf s t → StandIn (with_denied t s.line all) members numbers c
  named_stand fit s all voc stand t of i named m n at number =
      let form = formula_of m.clause in
      let own : IsClause w m.clause = member_of (λ (x : Member). IsClause w x.clause) members i m (recursion_from_All (λ (x : Member). IsClause w x.clause) members fit) at in
      let ready : IsReady w form = formula_ready w m.clause own in
      let there : IsClause t.vocabulary m.clause = subst (λ (v : Vocabulary). IsClause v m.clause) (sym (of.vocabulary ∙ voc)) own in (
        there,
        record {
          sorted = subst (λ (v : Vocabulary). Sorted v [] form) (sym (of.vocabulary ∙ voc)) (raised w [] 1000000000 2147483647 form (omega arith) ready);
          lits_sorted = there.fit.sorted;
          there = stands_in s all n form t of (stand i m n at (needs.named i named) number);
        },
      )

  pub leads_by : (first mid proofs : List Proof) (p : Proof) → Each (λ m. IsClause w m.clause) members → PassMembers w start members needed of_inputs numbers first mid → IsByContradiction members numbers c p → proofs ≡ mid ++ p ∷ []
      → LeadOn w start members needed last of_inputs first proofs
  leads_by first mid proofs p fit before falsehood is s voc starts facts shown inputs own =
      let P = IsLater members last in
      let so_far = before s voc starts facts shown inputs in
      let all = so_far.0 in
      let begun : ShowMore s P mid facts all = shown_as s (IsMembers members) P (λ a m. inl m) mid facts all so_far.1 in
      let shows = λ (t : Statements) (of : IsOf s t). falsehood (with_denied t s.line all) (subst (λ (v : Vocabulary). ContradictsIn v members c) (sym (of.vocabulary ∙ voc)) found) (named_stand fit s all voc so_far.2 t of) in
      let ended = one_of s P mid proofs all p (Or []) so_far.1.shown shows (inr (inr refl)) is in
      record {
        facts = all ++ Or [] ∷ [];
        shown = shown_twice s P mid proofs facts all (all ++ Or [] ∷ []) begun ended;
        rest = all;
        ends = refl;
      }

-- by the one or by the other
leads_either : (w : Vocabulary) (start : ℕ) (members : List Member) (needed : List Bool) (last : Member) (of_inputs numbers : List ℕ) (found : Option Contradiction) (first mid proofs : List Proof) → Suffice w members last found needed → Each (λ m. IsClause w m.clause) members → IsClause w last.clause
    → last.clause.lits ≡ [] → PassMembers w start members needed of_inputs numbers first mid → IsEnded w start members numbers of_inputs last found mid proofs → LeadOn w start members needed last of_inputs first proofs
leads_either w start members needed last of_inputs numbers None first mid proofs needs each fit empty passes e = leads_on w start members needed last needs of_inputs numbers first mid e.mid proofs e.number e.proof fit empty passes e.passed e.falsehood e.is
leads_either w start members needed last of_inputs numbers (Some c) first mid proofs needs each fit empty passes e = leads_by w start members needed last of_inputs numbers c needs.0 needs.1 first mid proofs e.proof each passes e.falsehood e.is

-- as code has it
pub leads_as : (w : Vocabulary) (start : ℕ) (members : List Member) (needed : List Bool) (last : Member) (found : Option Contradiction) (of_inputs lent numbers lent_numbers : List ℕ) (facts first mid proofs : List Proof) (inputs : List (Option Proof))
    → Suffice w members last found needed → Each (λ m. IsClause w m.clause) members → IsClause w last.clause → last.clause.lits ≡ [] → of_inputs ≡ numbers_from (start + length facts) inputs → first ≡ facts ++ there inputs → lent ≡ of_inputs → lent_numbers ≡ numbers
    → (NameMarked members needed → PassMembers w start members needed lent numbers first mid) → IsEnded w start members lent_numbers lent last found mid proofs
    → LeadOn w start members needed last (numbers_from (start + length facts) inputs) (facts ++ there inputs) proofs
leads_as w start members needed last found of_inputs lent numbers lent_numbers facts first mid proofs inputs needs each fit empty placed first_is lent_is numbers_is passes ended =
    let own : IsEnded w start members numbers lent last found mid proofs = subst (λ (ns : List ℕ). IsEnded w start members ns lent last found mid proofs) numbers_is ended in
    let whole = leads_either w start members needed last lent numbers found first mid proofs needs each fit empty (passes (enough_names w members last found needed needs)) own in
    subst (λ (ns : List ℕ). LeadOn w start members needed last ns (facts ++ there inputs) proofs) (lent_is ∙ placed) (subst (λ (ps : List Proof). LeadOn w start members needed last lent ps proofs) first_is whole)

-- ended by the last member, as code has it
pub ended_by_last : (w : Vocabulary) (start : ℕ) (members : List Member) (numbers of_inputs sorts : List ℕ) (last : Member) (old mid new : List Proof) (n : ℕ) (p q : Proof) → IsPassed w start members numbers of_inputs last.clause last.origin old mid n → IsFalsehoodBy n sorts p → sorts ≡ last.clause.sorts → q ≡ p
    → new ≡ mid ++ q ∷ [] → IsEndedByLast w start members numbers of_inputs last old new
ended_by_last w start members numbers of_inputs sorts last old mid new n p q passes falsehood sorts_are q_is is = record {
  mid = mid;
  number = n;
  proof = p;
  passed = passes;
  falsehood = subst (λ (ss : List ℕ). IsFalsehoodBy n ss p) sorts_are falsehood;
  is = is ∙ ap (λ (x : Proof). mid ++ x ∷ []) q_is;
}

-- the inputs of a refutation, as many as have a number
pub inputs_made : (w : Vocabulary) (members : List Member) (last : Member) (base : ℕ) (inputs : List (Option Proof)) (of_inputs lent : List ℕ) → (clauses : List Clause) × (length clauses ≡ length inputs) × AreDerived w clauses members × IsDerived w clauses (clauses_of members) last
    → of_inputs ≡ numbers_from base inputs → lent ≡ of_inputs → (clauses : List Clause) × (length clauses ≡ length lent) × AreDerived w clauses members
inputs_made w members last base inputs of_inputs lent made placed lent_is =
    let many = ap (λ (ns : List ℕ). length ns) (lent_is ∙ placed) ∙ numbers_count base inputs in
    (made.0, made.1 ∙ sym many, made.2)

pub last_made : (w : Vocabulary) (members : List Member) (last : Member) (base : ℕ) (inputs : List (Option Proof)) (of_inputs lent : List ℕ) → (clauses : List Clause) × (length clauses ≡ length inputs) × AreDerived w clauses members × IsDerived w clauses (clauses_of members) last
    → of_inputs ≡ numbers_from base inputs → lent ≡ of_inputs → (clauses : List Clause) × (length clauses ≡ length lent) × IsDerived w clauses (clauses_of members) last
last_made w members last base inputs of_inputs lent made placed lent_is =
    let many = ap (λ (ns : List ℕ). length ns) (lent_is ∙ placed) ∙ numbers_count base inputs in
    (made.0, made.1 ∙ sym many, made.3)
