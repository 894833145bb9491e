-- Members that are made by inferences still follow by rules where their literals stand once.
use Rattle.std.specs.Prelude.{ℕ, true, false, ◌≡◌, ◌<◌, List, [], ◌∷◌, length, Some, slice_get, take, refl}
use Rattle.std.specs.List.{All as Each, AllByRecursion, AllZip}
use Rattle.std.proofs.Common.{ap, sym, subst, ◌∙◌, arith, zero, suc, inl, inr}
use Rattle.std.proofs.lemmas.List.Elements.{All-nil, All-cons, All-from_recursion, recursion_from_All}
use Rattle.std.proofs.lemmas.Option.{slice_get_within}
use Rattle.fof_terms.proofs.Scoped.{member_of}
use Rattle.fof_terms.specs.Vocabulary.{Vocabulary}
use Rattle.clause_form.specs.declared.clause.Lit.{Lit}
use Rattle.clause_form.specs.declared.clause.Clause.{Clause}
use Rattle.clause_form.specs.declared.path.Parent.{Parent}
use Rattle.clause_form.specs.ClauseView.{clause_of}
use Rattle.clause_form.specs.Covers.{is_sorted_atom, scope_of}
use Rattle.clause_rules.proofs.ListPlaces.{get_lifted}
use Rattle.clause_rules.specs.Steps.{IsReady, AreReady}
use Rattle.inference_proofs.proofs.Covered.{inferred_is_step}
use Rattle.inference_proofs.proofs.Kept.{Has}
use Rattle.inference_proofs.specs.Inferred.{IsInferred, IsRuleStep}
use Rattle.input_proofs.proofs.ClauseFormulas.{formula_view}
use Rattle.input_proofs.specs.Formulas.{formula_of}
use Rattle.saturation.specs.Members.{clauses_of}
use Rattle.saturation.specs.Origins.{Makes, AreMade}
use Rattle.saturation.specs.declared.member.Member.{Member}
use Rattle.saturation.specs.declared.member.Origin.{Origin}
use Rattle.saturation.specs.declared.member.Origin.TheVariants.{Input, Inferred}
use Rattle.superpose.specs.Absent.{stands_in_atom, AreWithout}
use Rattle.superpose.specs.Drafts.{IsClause}
use Rattle.unify_terms.specs.Substitution.{image_at}
use Rattle.search_proofs.specs.code.Derived.{AreDerived, Derives}
use Rattle.search_proofs.specs.code.Repeats.{IsMerged, IsMergedBy}
use Rattle.search_proofs.proofs.Clashing.{zip_at}
use Rattle.search_proofs.proofs.Contradicted.{zip_long}
use Rattle.search_proofs.proofs.Forms.{formula_ready}
use Rattle.search_proofs.proofs.Repeated.{Keeps, once_keeps, same_keeps, step_kept, with_lits}
use Rattle.search_proofs.proofs.Symbols.{clause_at, taken}

-- over the same variables, with the same literals
pub record IsKept (c d : Clause) : Type 0 where
  pub sorts : d.sorts ≡ c.sorts
  pub lits : Keeps c.lits d.lits

kept_by : (o : Origin) (c d : Clause) → IsMergedBy o c d → IsKept c d
kept_by (Input i) c d h = subst (IsKept c) (sym h) (record { sorts = refl; lits = same_keeps c.lits })
kept_by (Inferred a b images) c d h = record { sorts = h.sorts; lits = once_keeps c.lits d.lits h.lits }

kept_is : (c d : Clause) → IsKept c d → d ≡ with_lits c d.lits
kept_is c d k = ap (λ (ss : List ℕ). record { sorts = ss; lits = d.lits }) k.sorts

-- what holds of all literals holds of fewer
every : {X : Type 0} (P : X → Type 0) (xs : List X) → ((i : ℕ) (x : X) → slice_get xs i ≡ Some x → P x) → AllByRecursion P xs
every P [] h = tt
every P (x ∷ xs) h = (h 0 x refl, every P xs (λ i. h (suc i)))

fewer_all : (P : Lit → Type 0) (lits fewer : List Lit) → ((l : Lit) → Has fewer l → Has lits l) → Each P lits → Each P fewer
fewer_all P lits fewer none all = All-from_recursion P fewer (every P fewer (λ i l at. let h = none l (i, at) in member_of P lits h.0 l (recursion_from_All P lits all) h.1))

kept_has : (lits made : List Lit) → Keeps lits made → (l : Lit) → Has lits l → Has made l
kept_has lits made k l h = let s = k.each h.0 l h.1 in (s.place, s.there)

kept_fits : (v : Vocabulary) (c d : Clause) → IsKept c d → IsClause v c → IsClause v d
kept_fits v c d k h =
    subst (IsClause v) (sym (kept_is c d k))
    (record {
      fit = record {
        sorted = record { fits = fewer_all (λ (l : Lit). is_sorted_atom v (scope_of c) l.atom ≡ true) c.lits d.lits k.lits.none h.fit.sorted.fits };
        few = h.fit.few;
      };
      exist = h.exist;
    })

-- the clauses of the one list stand in the other one, each kept
abbrev pub AreListed : Vocabulary → List Clause → List Clause → Type 0
AreListed v list made = (a : ℕ) (c : Clause) → slice_get list a ≡ Some c → (d : Clause) × (slice_get made a ≡ Some d) × IsKept c d × IsClause v c

module _ (v : Vocabulary) (c d e c_too d_too e_too : Clause) (kc : IsKept c c_too) (kd : IsKept d d_too) (ke : IsKept e e_too) (fc : IsClause v c) (fd : IsClause v d) where
  abbrev pub own_parent : Clause → Parent
  own_parent x = record { number = 0; form = formula_of x }

  abbrev pub own_parents : List Parent
  own_parents = own_parent c ∷ own_parent d ∷ []

  own_ready : AreReady v own_parents
  own_ready =
      All-cons (λ (x : Parent). IsReady v x.form) (own_parent c) (own_parent d ∷ []) (formula_ready v c fc)
      (All-cons (λ (x : Parent). IsReady v x.form) (own_parent d) [] (formula_ready v d fd) (All-nil (λ (x : Parent). IsReady v x.form)))

  pub follows_too : IsInferred v own_parents (formula_of e) → (p q : Parent) → clause_of p.form ≡ Some c_too → clause_of q.form ≡ Some d_too → IsRuleStep v (p ∷ q ∷ []) (formula_of e_too)
  follows_too i p q pc qd =
      step_kept v (own_parent c) (own_parent d) p q (formula_of e) (formula_of e_too) c d e c_too.lits d_too.lits e_too.lits kc.lits kd.lits ke.lits (formula_view c) (formula_view d) (formula_view e)
      (pc ∙ ap Some (kept_is c c_too kc)) (qd ∙ ap Some (kept_is d d_too kd)) (formula_view e_too ∙ ap Some (kept_is e e_too ke)) (inferred_is_step v own_parents (formula_of e) own_ready i)

  pub without_too : ((k : ℕ) → AreWithout k c.lits → AreWithout k d.lits → AreWithout k e.lits) → (k : ℕ) → AreWithout k c_too.lits → AreWithout k d_too.lits → AreWithout k e_too.lits
  without_too no_new k first second =
      let P = λ (l : Lit). stands_in_atom k l.atom ≡ false in
      let one = fewer_all P c_too.lits c.lits (kept_has c.lits c_too.lits kc.lits) first in
      let two = fewer_all P d_too.lits d.lits (kept_has d.lits d_too.lits kd.lits) second in
      fewer_all P e.lits e_too.lits ke.lits.none (no_new k one two)

-- one clause that is made
pub derived_by : (v : Vocabulary) (inputs list made : List Clause) → AreListed v list made → (o : Origin) (e e_too : Clause) → Makes v inputs list e o → IsMergedBy o e e_too → Derives v inputs made e_too o
derived_by v inputs list made listed (Input i) e e_too at h = at ∙ ap Some (sym h)
derived_by v inputs list made listed (Inferred a b images) e e_too (inl two) h =
    let ke = kept_by (Inferred a b images) e e_too h in
    let one = listed a two.first two.first_at in
    let other = listed b two.second two.second_at in
    let inferred : IsInferred v (own_parents v two.first two.second e one.0 other.0 e_too one.2 other.2 ke one.3 other.3) (formula_of e) = inl (record {
      a = 0;
      b = 1;
      first = two.first;
      second = two.second;
      conclusion = e;
      images = image_at images;
      first_clause = ap Some (formula_view two.first);
      second_clause = ap Some (formula_view two.second);
      line_clause = formula_view e;
      infers = two.infers;
    }) in
    record {
      first = one.0;
      second = other.0;
      first_at = one.1;
      second_at = other.1;
      step = follows_too v two.first two.second e one.0 other.0 e_too one.2 other.2 ke one.3 other.3 inferred;
      no_new = without_too v two.first two.second e one.0 other.0 e_too one.2 other.2 ke one.3 other.3 two.no_new;
    }
derived_by v inputs list made listed (Inferred a b images) e e_too (inr only) h =
    let ke = kept_by (Inferred a b images) e e_too h in
    let one = listed a only.premise only.premise_at in
    let inferred : IsInferred v (own_parents v only.premise only.premise e one.0 one.0 e_too one.2 one.2 ke one.3 one.3) (formula_of e) = inr (record {
      a = 0;
      premise = only.premise;
      conclusion = e;
      images = image_at images;
      parent_clause = ap Some (formula_view only.premise);
      line_clause = formula_view e;
      infers = only.infers;
    }) in
    record {
      first = one.0;
      second = one.0;
      first_at = one.1;
      second_at = ap (slice_get made) (sym only.twice) ∙ one.1;
      step = follows_too v only.premise only.premise e one.0 one.0 e_too one.2 one.2 ke one.3 one.3 inferred;
      no_new = without_too v only.premise only.premise e one.0 one.0 e_too one.2 one.2 ke one.3 one.3 (λ k first second. only.no_new k first);
    }

get_taken : {X : Type 0} (xs : List X) (j i : ℕ) (x : X) → i < j → slice_get xs i ≡ Some x → slice_get (take j xs) i ≡ Some x
get_taken xs zero i x lt e = absurd (omega arith)
get_taken [] (suc j) i x lt e = cc
get_taken (y ∷ xs) (suc j) zero x lt e = e
get_taken (y ∷ xs) (suc j) (suc i) x lt e = get_taken xs j i x (omega arith) e

there_too : (made : List Member) (i n : ℕ) → i < n → length made ≡ n → (k : Member) × (slice_get made i ≡ Some k)
there_too [] i n lt size = absurd (omega arith)
there_too (m ∷ made) zero n lt size = (m, refl)
there_too (m ∷ made) (suc i) zero lt size = absurd (omega arith)
there_too (m ∷ made) (suc i) (suc n) lt size = there_too made i n (omega arith) (omega arith)

-- a list of members
module _ (v : Vocabulary) (inputs : List Clause) (members made : List Member) (h : AllZip IsMerged members made) (fit : Each (λ (m : Member). IsClause v m.clause) members) where
  listed_at : (a : ℕ) (m : Member) → slice_get members a ≡ Some m → (k : Member) × (slice_get made a ≡ Some k) × IsKept m.clause k.clause × IsClause v m.clause
  listed_at a m at =
      let k = there_too made a (length members) (slice_get_within members a m at) (zip_long IsMerged members made h) in
      let one = zip_at IsMerged members made a m k.0 h at k.1 in
      (k.0, k.1, kept_by m.origin m.clause k.0.clause one.clause, member_of (λ (x : Member). IsClause v x.clause) members a m (recursion_from_All (λ (x : Member). IsClause v x.clause) members fit) at)

  pub all_listed : AreListed v (clauses_of members) (clauses_of made)
  all_listed a c at =
      let m = clause_at members a c at in
      let k = listed_at a m.0 m.1 in
      (k.0.clause, get_lifted (λ (x : Member). x.clause) made a k.0 k.1, subst (λ (x : Clause). IsKept x k.0.clause) m.2 k.2, subst (IsClause v) m.2 k.3)

  front_listed : (j : ℕ) → AreListed v (clauses_of (take j members)) (clauses_of (take j made))
  front_listed j a c at =
      let m = clause_at (take j members) a c at in
      let there = taken members j a m.0 m.1 in
      let k = listed_at a m.0 there.1 in
      (k.0.clause, get_lifted (λ (x : Member). x.clause) (take j made) a k.0 (get_taken made j a k.0 there.0 k.1), subst (λ (x : Clause). IsKept x k.0.clause) m.2 k.2, subst (IsClause v) m.2 k.3)

  pub merged_derived : AreMade v inputs members → AreDerived v inputs made
  merged_derived all i k at =
      let m = there_too_member i (slice_get_within made i k at) in
      let one = zip_at IsMerged members made i m.0 k h m.1 at in
      subst (Derives v inputs (clauses_of (take i made)) k.clause) (sym one.origin)
      (derived_by v inputs (clauses_of (take i members)) (clauses_of (take i made)) (front_listed i) m.0.origin m.0.clause k.clause (all i m.0 m.1) one.clause) where
        there_too_member : (i : ℕ) → i < length made → (m : Member) × (slice_get members i ≡ Some m)
        there_too_member i lt = there_too members i (length made) lt (sym (zip_long IsMerged members made h))

  pub merged_fit : Each (λ (m : Member). IsClause v m.clause) made
  merged_fit =
      let P = λ (m : Member). IsClause v m.clause in
      All-from_recursion P made (every P made (λ i k at.
      let m = there_too members i (length made) (slice_get_within made i k at) (sym (zip_long IsMerged members made h)) in
      let one = zip_at IsMerged members made i m.0 k h m.1 at in
      kept_fits v m.0.clause k.clause (kept_by m.0.origin m.0.clause k.clause one.clause) (listed_at i m.0 m.1).3))

-- the last member, which stays as it is
pub last_derived : (v : Vocabulary) (inputs : List Clause) (members made : List Member) → AllZip IsMerged members made → Each (λ (m : Member). IsClause v m.clause) members → (last : Member) → Makes v inputs (clauses_of members) last.clause last.origin
    → last.clause.lits ≡ [] → Derives v inputs (clauses_of made) last.clause last.origin
last_derived v inputs members made h fit last at empty =
    derived_by v inputs (clauses_of members) (clauses_of made) (all_listed v inputs members made h fit) last.origin last.clause last.clause at (stays last.origin) where
      none_stands : (l : Lit) → Has last.clause.lits l → ⊥
      none_stands l s = let no : slice_get [] s.0 ≡ Some l = ap (λ (ls : List Lit). slice_get ls s.0) (sym empty) ∙ s.1 in cc

      stays : (o : Origin) → IsMergedBy o last.clause last.clause
      stays (Input i) = refl
      stays (Inferred a b images) = record {
        sorts = refl;
        lits = record { all = λ l s. s; none = λ l s. s; once = λ m n l f g. absurd (none_stands l (m, f)) };
      }
