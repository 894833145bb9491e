-- The clause that a well-sorted formula is is well-sorted.
use Rattle.std.specs.Prelude.{ℕ, ◌≡◌, ◌+◌, ◌≤◌, nat_lt, true, List, [], ◌∷◌, ◌++◌, length, map, reverse, Option, Some, None, refl}
use Rattle.std.specs.List.{AllByRecursion}
use Rattle.std.specs.Option.{option_map}
use Rattle.std.proofs.Common.{ap, sym, subst, ◌∙◌, arith, append_assoc, append-nil}
use Rattle.std.proofs.lemmas.List.{reverse-append}
use Rattle.std.proofs.lemmas.List.Elements.{All-from_recursion}
use Rattle.fof_terms.specs.Vocabulary.{Vocabulary}
use Rattle.fof_terms.specs.declared.form.Form.{Form}
use Rattle.fof_terms.proofs.Induction.{form_induction}
use Rattle.fof_terms.proofs.LiftingLaws.{both, each_true}
use Rattle.fof_terms.specs.Sorts.{is_sorted, binder_depth}
use Rattle.fof_terms.proofs.SortsFacts.{is_sorted-Atom, is_sorted-Eq, is_sorted-Not, is_sorted-Or, is_sorted-All, binder_depth-All}
use Rattle.clause_form.specs.declared.clause.AtomOf.{AtomOf}
use Rattle.clause_form.specs.declared.clause.AtomOf.TheVariants.{Pred, Eq as Equation, True, False}
use Rattle.clause_form.specs.declared.clause.Lit.{Lit}
use Rattle.clause_form.specs.declared.clause.Clause.{Clause}
use Rattle.clause_form.specs.ClauseView.{View, view_of, clause_of, all_there, stated, denied, alone_lit, open_clause, within, no_view, view_of_atom, view_of_lit, view_of_lits, view_of_and, view_of_or}
use Rattle.clause_form.proofs.ClauseViewFacts.{view_of-Atom, view_of-Eq, view_of-Not, view_of-And, view_of-Or, view_of-Imp, view_of-Iff, view_of-All, view_of-Ex}
use Rattle.clause_form.specs.Covers.{is_sorted_atom, AreSorted}

abbrev next : Option Lit → Option (List Lit) → Option (List Lit)
next None ls = None
next (Some l) ls = option_map (λ ys. l ∷ ys) ls

module _ (v : Vocabulary) where
  abbrev pub LitFits : List ℕ → Lit → Type 0
  LitFits scope l = is_sorted_atom v scope l.atom ≡ true

  -- what a view has is well-sorted
  pub record ViewFits (scope : List ℕ) (depth : ℕ) (view : View) : Type 0 where
    pub atom : (b : AtomOf) → view.atom ≡ Some b → is_sorted_atom v scope b ≡ true
    pub lit : (l : Lit) → view.lit ≡ Some l → LitFits scope l
    pub clause : (c : Clause) → view.clause ≡ Some c → AllByRecursion (LitFits (reverse c.sorts ++ scope)) c.lits
    pub depth_of : (c : Clause) → view.clause ≡ Some c → length c.sorts ≤ depth

  open_fits : (scope : List ℕ) (lits : List Lit) (c : Clause) → AllByRecursion (LitFits scope) lits → Some (open_clause lits) ≡ Some c → AllByRecursion (LitFits (reverse c.sorts ++ scope)) c.lits
  open_fits scope lits c h e = let same : open_clause lits ≡ c = cc in subst (λ (d : Clause). AllByRecursion (LitFits (reverse d.sorts ++ scope)) d.lits) same h

  open_depth : (depth : ℕ) (lits : List Lit) (c : Clause) → Some (open_clause lits) ≡ Some c → length c.sorts ≤ depth
  open_depth depth lits c e = let same : open_clause lits ≡ c = cc in subst (λ (d : Clause). length d.sorts ≤ depth) same (omega arith)

  atom_fits : (scope : List ℕ) (depth : ℕ) (a : AtomOf) → is_sorted_atom v scope a ≡ true → ViewFits scope depth (view_of_atom a)
  atom_fits scope depth a h = record {
    atom = λ b e. let same : a ≡ b = cc in subst (λ x. is_sorted_atom v scope x ≡ true) same h;
    lit = λ l e. let same : stated a ≡ l = cc in subst (LitFits scope) same h;
    clause = λ c e. open_fits scope (alone_lit (stated a)) c (h, tt) e;
    depth_of = λ c e. open_depth depth (alone_lit (stated a)) c e;
  }

  nothing_fits : (scope : List ℕ) (depth : ℕ) → ViewFits scope depth no_view
  nothing_fits scope depth = record {
    atom = λ b e. cc;
    lit = λ l e. cc;
    clause = λ c e. cc;
    depth_of = λ c e. cc;
  }

  denied_fits : (scope : List ℕ) (depth : ℕ) (a : Option AtomOf) → ((b : AtomOf) → a ≡ Some b → is_sorted_atom v scope b ≡ true) → ViewFits scope depth (view_of_lit (option_map denied a))
  denied_fits scope depth None h = nothing_fits scope depth
  denied_fits scope depth (Some a) h = record {
    atom = λ b e. cc;
    lit = λ l e. let same : denied a ≡ l = cc in subst (LitFits scope) same (h a refl);
    clause = λ c e. open_fits scope (alone_lit (denied a)) c (h a refl, tt) e;
    depth_of = λ c e. open_depth depth (alone_lit (denied a)) c e;
  }

  abbrev pub Goal : Form → Type 0
  Goal a = (scope : List ℕ) → is_sorted v scope a ≡ true → ViewFits scope (binder_depth a) (view_of a)

  -- a list of literals and one more, where they are there
  more_fits : (scope : List ℕ) (l : Option Lit) (ls : Option (List Lit)) (lits : List Lit) → ((k : Lit) → l ≡ Some k → LitFits scope k) → ((ks : List Lit) → ls ≡ Some ks → AllByRecursion (LitFits scope) ks) → next l ls ≡ Some lits
      → AllByRecursion (LitFits scope) lits
  more_fits scope None ls lits h g e = cc
  more_fits scope (Some l) None lits h g e = cc
  more_fits scope (Some l) (Some ls) lits h g e = let same : l ∷ ls ≡ lits = cc in subst (AllByRecursion (LitFits scope)) same (h l refl, g ls refl)

  there_is : (l : Option Lit) (rest : List (Option Lit)) → all_there (l ∷ rest) ≡ next l (all_there rest)
  there_is None rest = refl
  there_is (Some l) rest = refl

  there_fits : (scope : List ℕ) (as_ : List Form) (lits : List Lit) → AllByRecursion Goal as_ → AllByRecursion (λ a. is_sorted v scope a ≡ true) as_ → all_there (map (λ (u : View). u.lit) (map view_of as_)) ≡ Some lits
      → AllByRecursion (LitFits scope) lits
  there_fits scope [] lits all h e = let same : [] ≡ lits = cc in subst (AllByRecursion (LitFits scope)) same tt
  there_fits scope (a ∷ as_) lits all h e =
      more_fits scope (view_of a).lit (all_there (map (λ (u : View). u.lit) (map view_of as_))) lits (all.0 scope h.0).lit (λ ls k. there_fits scope as_ ls all.1 h.1 k) (sym (there_is (view_of a).lit (map (λ (u : View). u.lit) (map view_of as_))) ∙ e)

  and_fits : (scope : List ℕ) (depth : ℕ) (views : List View) → ViewFits scope depth (view_of_and views)
  and_fits scope depth [] = atom_fits scope depth True refl
  and_fits scope depth (u ∷ views) = nothing_fits scope depth

  lits_fit : (scope : List ℕ) (depth : ℕ) (lits : Option (List Lit)) → ((ls : List Lit) → lits ≡ Some ls → AllByRecursion (LitFits scope) ls) → ViewFits scope depth (view_of_lits lits)
  lits_fit scope depth None h = record {
    atom = λ b e. cc;
    lit = λ l e. cc;
    clause = λ c e. cc;
    depth_of = λ c e. cc;
  }
  lits_fit scope depth (Some lits) h = record {
    atom = λ b e. cc;
    lit = λ l e. cc;
    clause = λ c e. open_fits scope lits c (h lits refl) e;
    depth_of = λ c e. open_depth depth lits c e;
  }

  or_fits : (scope : List ℕ) (depth : ℕ) (as_ : List Form) → AllByRecursion Goal as_ → AllByRecursion (λ a. is_sorted v scope a ≡ true) as_ → ViewFits scope depth (view_of_or (map view_of as_))
  or_fits scope depth [] all h = record {
    atom = λ b e. let same : False ≡ b = cc in subst (λ x. is_sorted_atom v scope x ≡ true) same refl;
    lit = λ l e. let same : stated False ≡ l = cc in subst (LitFits scope) same refl;
    clause = λ c e. open_fits scope [] c tt e;
    depth_of = λ c e. open_depth depth [] c e;
  }
  or_fits scope depth (a ∷ as_) all h = lits_fit scope depth (all_there (map (λ (u : View). u.lit) (map view_of (a ∷ as_)))) (λ ls e. there_fits scope (a ∷ as_) ls all h e)

  all_fits : (scope : List ℕ) (s depth : ℕ) (c : Option Clause) → ((d : Clause) → c ≡ Some d → AllByRecursion (LitFits (reverse d.sorts ++ (s ∷ scope))) d.lits × (length d.sorts ≤ depth))
      → ViewFits scope (depth + 1) (record { atom = None; lit = None; lits = None; clause = option_map (within s) c })
  all_fits scope s depth None h = record {
    atom = λ b e. cc;
    lit = λ l e. cc;
    clause = λ c e. cc;
    depth_of = λ c e. cc;
  }
  all_fits scope s depth (Some d) h = record {
    atom = λ b e. cc;
    lit = λ l e. cc;
    clause = λ c e.
        let same : within s d ≡ c = cc in
        let moved : reverse d.sorts ++ (s ∷ scope) ≡ reverse (s ∷ d.sorts) ++ scope = sym (ap (λ ss. ss ++ scope) (reverse-append (s ∷ []) d.sorts) ∙ append_assoc (reverse d.sorts) (s ∷ []) scope) in
        subst (λ (x : Clause). AllByRecursion (LitFits (reverse x.sorts ++ scope)) x.lits) same (subst (λ ss. AllByRecursion (LitFits ss) d.lits) moved (h d refl).0);
    depth_of = λ c e.
        let same : within s d ≡ c = cc in
        subst (λ (x : Clause). length x.sorts ≤ depth + 1) same (omega (arith, (h d refl).1));
  }

  pub view_fits : (a : Form) → Goal a
  view_fits = form_induction _ (record {
    atom = λ p ts scope e. rw view_of-Atom (atom_fits scope _ (Pred p ts) (rw is_sorted-Atom at e));
    eq = λ l r scope e. rw view_of-Eq (atom_fits scope _ (Equation l r) (rw is_sorted-Eq at e));
    not = λ a ih scope e. rw view_of-Not (denied_fits scope _ (view_of a).atom (ih scope (rw is_sorted-Not at e)).atom);
    and = λ as_ all scope e. rw view_of-And (and_fits scope _ (map view_of as_));
    or = λ as_ all scope e. rw view_of-Or (or_fits scope _ as_ all (each_true (is_sorted v scope) as_ (rw is_sorted-Or at e)));
    imp = λ a b ih jh scope e. rw view_of-Imp (nothing_fits scope _);
    iff = λ a b ih jh scope e. rw view_of-Iff (nothing_fits scope _);
    all = λ s a ih scope e.
        let parts = both (nat_lt s (length v.sorts)) (is_sorted v (s ∷ scope) a) (rw is_sorted-All at e) in
        rw (view_of-All, binder_depth-All) (all_fits scope s (binder_depth a) (view_of a).clause (λ d f. ((ih (s ∷ scope) parts.1).clause d f, (ih (s ∷ scope) parts.1).depth_of d f)));
    ex = λ s a ih scope e. rw view_of-Ex (nothing_fits scope _);
  })

  pub clause_sorted : (a : Form) (c : Clause) → is_sorted v [] a ≡ true → clause_of a ≡ Some c → AreSorted v (reverse c.sorts) c.lits × (length c.sorts ≤ binder_depth a)
  clause_sorted a c h e =
      let fits = view_fits a [] h in
      let moved : reverse c.sorts ++ [] ≡ reverse c.sorts = append-nil (reverse c.sorts) in
      (record { fits = All-from_recursion (LitFits (reverse c.sorts)) c.lits (subst (λ ss. AllByRecursion (LitFits ss) c.lits) moved (fits.clause c e)) }, fits.depth_of c e)
