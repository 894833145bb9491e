-- A clause's flat form has the heads that the clause has.
use Rattle.std.specs.Prelude.{ℕ, ◌≡◌, ◌+◌, ◌<◌, ◌≤◌, Bool, true, false, List, [], ◌∷◌, length, map, flat_map, refl}
use Rattle.std.specs.Prelude.{Option, Some, None, slice_get}
use Rattle.std.specs.Option.{option_map}
use Rattle.std.specs.List.{AllByRecursion, list_any}
use Rattle.std.proofs.Common.{ap, ◌∙◌, sym, subst, arith}
use Rattle.std.proofs.lemmas.Option.{slice_get_within}
use Rattle.std.proofs.lemmas.List.Concat.{flat_map-cons}
use Rattle.fof_terms.specs.declared.term.Term.{Var}
use Rattle.fof_terms.specs.declared.form.Form.{Form, Not}
use Rattle.fof_terms.specs.declared.form.Form.TheViews.{outs-Atom, outs-Eq, outs-Not}
use Rattle.fof_terms.proofs.Induction.{form_induction}
use Rattle.fof_terms.proofs.Walks.{placing, lifting}
use Rattle.fof_terms.specs.Lift.{lifted}
use Rattle.fof_terms.specs.Variables.{has_variable}
use Rattle.clause_form.specs.ClauseView.{all_there, closed_by}
use Rattle.clause_form.specs.Norm.{norm_of, join, members_of, ends, quantified}
use Rattle.clause_form.proofs.NormFacts.{norm_of-Atom, norm_of-Eq, norm_of-Not, norm_of-Or, norm_of-All, quantified-kept, quantified-dropped, joined_flat-alone}
use Rattle.clause_form.specs.Norm as norms
use Rattle.clause_form.specs.declared.path.Parent.{Parent}
use Rattle.clause_rules.specs.NormRule.{IsNormStep}
use Rattle.clause_rules.proofs.Firsts.{one_at}
use Rattle.flat_form.specs.Flat.{kept, bodies_of, pulled, sorts_of, sort_of, new_number, closed_in, flat_of, HasFlat}
use Rattle.flat_form.specs.Renumbered.{renumbered}
use Rattle.flat_form.proofs.PulledFacts.{pulled-Atom, pulled-Eq, kept-Not, node_body, all_body}
use Rattle.flat_form.proofs.Renumbering.{renumbering}
use Rattle.rule_steps.specs.declared.outline.Head.{Head}
use Rattle.rule_steps.specs.code.Outline.{Sketch, sketch, head_in, alone, denied, HasOthers}
use Rattle.rule_steps.proofs.Sketches.{sketch-Atom, sketch-Eq, sketch-Not, sketch-And, sketch-Or, sketch-Imp, sketch-Iff, sketch-All, sketch-Ex, walk_keeps}

-- an atom or equation is as it is, also denied
record Atomic (a : Form) : Type 0 where
  same : norm_of true a ≡ a
  denied : norm_of false a ≡ Not a

atomic : (a : Form) (s : Option ℕ) → (sketch a).atom ≡ Some s → Atomic a
atomic = form_induction _ (record {
  atom = λ p ts s e. record { same = norm_of-Atom true p ts; denied = norm_of-Atom false p ts };
  eq = λ l r s e. record { same = norm_of-Eq true l r; denied = norm_of-Eq false l r };
  not = λ a ih s e. absurd (let never : None ≡ Some s = rw (sketch-Not a) at e in cc);
  and = λ as_ ih s e. absurd (let never : None ≡ Some s = rw (sketch-And as_) at e in cc);
  or = λ as_ ih s e. absurd (let never : None ≡ Some s = rw (sketch-Or as_) at e in cc);
  imp = λ a b ih jh s e. absurd (let never : None ≡ Some s = rw (sketch-Imp a b) at e in cc);
  iff = λ a b ih jh s e. absurd (let never : None ≡ Some s = rw (sketch-Iff a b) at e in cc);
  all = λ t a ih s e. absurd (let never : None ≡ Some s = rw (sketch-All t a) at e in cc);
  ex = λ t a ih s e. absurd (let never : None ≡ Some s = rw (sketch-Ex t a) at e in cc);
})

-- a literal with a head is as it is
record Bare (a : Form) (h : Head) : Type 0 where
  same : norm_of true a ≡ a
  members : members_of false a ≡ a ∷ []
  goes_on : ends false a ≡ false
  kept : pulled a ≡ kept a
  heads : (sketch a).heads ≡ Some (alone h)

denied_bare : (a : Form) (h : Head) (atom : Option (Option ℕ)) → (sketch a).atom ≡ atom → option_map denied atom ≡ Some h → Bare (Not a) h
unfolding members_of ends
denied_bare a h None is e = absurd (cc)
denied_bare a h (Some s) is e = record {
  same = norm_of-Not true a ∙ (atomic a s is).denied;
  members = rw (outs-Not a) refl;
  goes_on = rw (outs-Not a) refl;
  kept = kept-Not a;
  heads = rw (sketch-Not a, is) (ap (option_map alone) e);
}

bare : (a : Form) (h : Head) → (sketch a).head ≡ Some h → Bare a h
unfolding members_of ends
bare = form_induction _ (record {
  atom = λ p ts h e. record {
    same = norm_of-Atom true p ts;
    members = rw (outs-Atom p ts) refl;
    goes_on = rw (outs-Atom p ts) refl;
    kept = pulled-Atom p ts;
    heads = rw (sketch-Atom p ts) (ap (option_map alone) (rw (sketch-Atom p ts) at e));
  };
  eq = λ l r h e. record {
    same = norm_of-Eq true l r;
    members = rw (outs-Eq l r) refl;
    goes_on = rw (outs-Eq l r) refl;
    kept = pulled-Eq l r;
    heads = rw (sketch-Eq l r) (ap (option_map alone) (rw (sketch-Eq l r) at e));
  };
  not = λ a ih h e. denied_bare a h (sketch a).atom refl (rw (sketch-Not a) at e);
  and = λ as_ ih h e. absurd (let never : None ≡ Some h = rw (sketch-And as_) at e in cc);
  or = λ as_ ih h e. absurd (let never : None ≡ Some h = rw (sketch-Or as_) at e in cc);
  imp = λ a b ih jh h e. absurd (let never : None ≡ Some h = rw (sketch-Imp a b) at e in cc);
  iff = λ a b ih jh h e. absurd (let never : None ≡ Some h = rw (sketch-Iff a b) at e in cc);
  all = λ t a ih h e. absurd (let never : None ≡ Some h = rw (sketch-All t a) at e in cc);
  ex = λ t a ih h e. absurd (let never : None ≡ Some h = rw (sketch-Ex t a) at e in cc);
})

abbrev heads_in : List Form → Option (List Head)
heads_in as_ = all_there (map head_in (map sketch as_))

abbrev IsBare : Form → Type 0
IsBare a = (h : Head) × ((sketch a).head ≡ Some h)

behind : (h : Head) (rest : Option (List Head)) (hs : List Head) → option_map (λ ys. h ∷ ys) rest ≡ Some hs → (ks : List Head) × (rest ≡ Some ks)
behind h None hs e = absurd (let never : None ≡ Some hs = e in cc)
behind h (Some ks) hs e = (ks, refl)

first_is : (head : Option Head) (heads : List (Option Head)) (hs : List Head) → all_there (head ∷ heads) ≡ Some hs → (h : Head) × (ks : List Head) × (head ≡ Some h) × (all_there heads ≡ Some ks)
first_is None heads hs e = absurd (let never : None ≡ Some hs = e in cc)
first_is (Some h) heads hs e = let rest = behind h (all_there heads) hs e in (h, rest.0, refl, rest.1)

bares : (as_ : List Form) (hs : List Head) → heads_in as_ ≡ Some hs → AllByRecursion IsBare as_
bares [] hs e = tt
bares (a ∷ as_) hs e = let (h, ks, is, there) = first_is (sketch a).head (map head_in (map sketch as_)) hs e in ((h, is), bares as_ ks there)

same_norms : (as_ : List Form) → AllByRecursion IsBare as_ → map (norm_of true) as_ ≡ as_
same_norms [] all = refl
same_norms (a ∷ as_) all = rw ((bare a all.0.0 all.0.1).same, same_norms as_ all.1) refl

same_members : (as_ : List Form) → AllByRecursion IsBare as_ → flat_map (members_of false) as_ ≡ as_
same_members [] all = refl
same_members (a ∷ as_) all = rw (flat_map-cons (members_of false) a as_, (bare a all.0.0 all.0.1).members, same_members as_ all.1) refl

going_on : (as_ : List Form) → AllByRecursion IsBare as_ → list_any (ends false) as_ ≡ false
going_on [] all = refl
going_on (a ∷ as_) all = rw ((bare a all.0.0 all.0.1).goes_on, going_on as_ all.1) refl

alone_heads : (as_ : List Form) (hs : List Head) → AllByRecursion IsBare as_ → heads_in as_ ≡ Some hs → (sketch (norms.alone false as_)).heads ≡ Some hs
alone_heads [] hs all e = rw (sketch-Or []) e
alone_heads (a ∷ []) hs all e = (bare a all.0.0 all.0.1).heads ∙ (rw all.0.1 at e)
alone_heads (a ∷ b ∷ as_) hs all e = rw (sketch-Or (a ∷ b ∷ as_)) e

join_heads : (as_ : List Form) (hs : List Head) → heads_in as_ ≡ Some hs → (sketch (join false as_)).heads ≡ Some hs
join_heads as_ hs e =
    let all = bares as_ hs e in
    rw (same_members as_ all, joined_flat-alone false as_ (going_on as_ all)) (alone_heads as_ hs all e)

headed : (head : Option Head) (hs : List Head) → option_map alone head ≡ Some hs → (h : Head) × (head ≡ Some h)
headed None hs e = absurd (let never : None ≡ Some hs = e in cc)
headed (Some h) hs e = (h, refl)

not_bare : (a : Form) (hs : List Head) → (sketch (Not a)).heads ≡ Some hs → (h : Head) × Bare (Not a) h
not_bare a hs e =
    let (h, is) = headed (option_map denied (sketch a).atom) hs (rw (sketch-Not a) at e) in
    (h, bare (Not a) h (rw (sketch-Not a) is))

abbrev heads_from : Sketch → Option (List Head)
heads_from s = s.heads

quantified_heads : (s : ℕ) (a : Form) (hs : List Head) (occurs : Bool) → has_variable 0 a ≡ occurs → (sketch a).heads ≡ Some hs → (sketch (quantified true s a)).heads ≡ Some hs
quantified_heads s a hs true is e = rw (quantified-kept true s a is, sketch-All s a) e
quantified_heads s a hs false is e =
    rw (quantified-dropped true s a is) (rw (walk_keeps _ _ (placing (Var 0) (λ d. d) (λ d. refl)) a 0) e)

abbrev Keeps : Form → Type 0
Keeps a = (hs : List Head) → (sketch a).heads ≡ Some hs → (sketch (norm_of true a)).heads ≡ Some hs

norm_keeps : (a : Form) → Keeps a
norm_keeps = form_induction Keeps (record {
  atom = λ p ts hs e. rw (norm_of-Atom true p ts) e;
  eq = λ l r hs e. rw (norm_of-Eq true l r) e;
  not = λ a ih hs e. rw (not_bare a hs e).1.same e;
  and = λ as_ ih hs e. absurd (let never : None ≡ Some hs = rw (sketch-And as_) at e in cc);
  or = λ as_ ih hs e.
      let there : heads_in as_ ≡ Some hs = rw (sketch-Or as_) at e in
      rw (norm_of-Or true as_, same_norms as_ (bares as_ hs there)) (join_heads as_ hs there);
  imp = λ a b ih jh hs e. absurd (let never : None ≡ Some hs = rw (sketch-Imp a b) at e in cc);
  iff = λ a b ih jh hs e. absurd (let never : None ≡ Some hs = rw (sketch-Iff a b) at e in cc);
  all = λ s a ih hs e. rw (norm_of-All true s a) (quantified_heads s (norm_of true a) hs (has_variable 0 (norm_of true a)) refl (ih hs (rw (sketch-All s a) at e)));
  ex = λ s a ih hs e. absurd (let never : None ≡ Some hs = rw (sketch-Ex s a) at e in cc);
})

lifted_keeps : (by : ℕ) (a : Form) → sketch (lifted by 0 a) ≡ sketch a
lifted_keeps by a = walk_keeps _ _ (lifting by (λ d. d) (λ d. refl)) a 0

bodies_keep : (f : ℕ) (as_ : List Form) → AllByRecursion IsBare as_ → map sketch (bodies_of f (map pulled as_)) ≡ map sketch as_
bodies_keep f [] all = refl
bodies_keep f (a ∷ as_) all =
    rw ((bare a all.0.0 all.0.1).kept, lifted_keeps (length (sorts_of (map pulled as_))) (lifted f 0 a), lifted_keeps f a, bodies_keep (f + 0) as_ all.1) refl

abbrev PulledKeeps : Form → Type 0
PulledKeeps a = (hs : List Head) → (sketch a).heads ≡ Some hs → (sketch (pulled a).body).heads ≡ Some hs

pulled_keeps : (a : Form) → PulledKeeps a
pulled_keeps = form_induction PulledKeeps (record {
  atom = λ p ts hs e. rw (pulled-Atom p ts) e;
  eq = λ l r hs e. rw (pulled-Eq l r) e;
  not = λ a ih hs e. rw (kept-Not a) e;
  and = λ as_ ih hs e. absurd (let never : None ≡ Some hs = rw (sketch-And as_) at e in cc);
  or = λ as_ ih hs e.
      let there : heads_in as_ ≡ Some hs = rw (sketch-Or as_) at e in
      rw (node_body false as_) (join_heads (bodies_of 0 (map pulled as_)) hs (ap (λ xs. all_there (map head_in xs)) (bodies_keep 0 as_ (bares as_ hs there)) ∙ there));
  imp = λ a b ih jh hs e. absurd (let never : None ≡ Some hs = rw (sketch-Imp a b) at e in cc);
  iff = λ a b ih jh hs e. absurd (let never : None ≡ Some hs = rw (sketch-Iff a b) at e in cc);
  all = λ s a ih hs e. rw (all_body s a) (ih hs (rw (sketch-All s a) at e));
  ex = λ s a ih hs e. absurd (let never : None ≡ Some hs = rw (sketch-Ex s a) at e in cc);
})

closed_keeps : (sorts : List ℕ) (a : Form) → (sketch (closed_by sorts a)).heads ≡ (sketch a).heads
closed_keeps [] a = refl
closed_keeps (s ∷ sorts) a = rw (sketch-All s (closed_by sorts a)) (closed_keeps sorts a)

closed_in_keeps : (order sorts : List ℕ) (a : Form) → (sketch (closed_in order sorts a)).heads ≡ (sketch a).heads
closed_in_keeps order sorts a =
    closed_keeps (map (sort_of sorts) order) (renumbered (new_number order (length sorts)) 0 a)
    ∙ ap heads_from (walk_keeps _ _ (renumbering (new_number order (length sorts))) a 0)

-- the flat form of a clause has its heads
pub flat_keeps : (a : Form) (hs : List Head) → (sketch a).heads ≡ Some hs → (sketch (flat_of a)).heads ≡ Some hs
flat_keeps a hs e = closed_in_keeps _ (pulled (norm_of true a)).sorts (pulled (norm_of true a)).body ∙ pulled_keeps (norm_of true a) hs (norm_keeps a hs e)

-- clauses with different heads have different flat forms
pub not_alike : (line a made : Form) (hs : List Head) → (sketch line).heads ≡ Some hs → HasOthers hs a → HasFlat line made → HasFlat a made → ⊥
not_alike line a made hs e others has also =
    let here : (sketch made).heads ≡ Some hs = rw (sym has.same) (flat_keeps line hs e) in
    let there : (sketch made).heads ≡ Some others.0 = rw (sym also.same) (flat_keeps a others.0 others.1) in
    others.2 (cc)

abbrev pub OthersAt : List Head → List Parent → ℕ → Type 0
OthersAt heads parents k = (parent : Parent) → slice_get parents k ≡ Some parent → HasOthers heads parent.form

pub others_here : (heads : List Head) (parents : List Parent) (i : ℕ) (p : Parent) → slice_get parents i ≡ Some p → HasOthers heads p.form → OthersAt heads parents i
others_here heads parents i p at others q there = subst (λ (r : Parent). HasOthers heads r.form) (sym (one_at parents i q p there at)) others

pub others_everywhere : (heads : List Head) (parents : List Parent) (i : ℕ) → length parents ≤ i → ((k : ℕ) → k < i → OthersAt heads parents k) → (k : ℕ) → OthersAt heads parents k
others_everywhere heads parents i h others k p there =
    let lt = slice_get_within parents k p there in
    others k (omega arith) p there

-- no parent has the line's flat form where all have other heads
pub never_alike : (parents : List Parent) (line : Form) (hs : List Head) → (sketch line).heads ≡ Some hs → ((k : ℕ) → OthersAt hs parents k) → IsNormStep parents line → ⊥
never_alike parents line hs e others h =
    let of_parent = h.1.of_parent in
    not_alike line of_parent.parent.form h.1.made hs e (others h.0 of_parent.parent of_parent.there) h.1.of_line of_parent.alike
