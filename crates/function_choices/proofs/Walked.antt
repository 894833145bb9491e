-- The walk through a normal form for functions in place of its existential variables, as code meets its steps.
use Rattle.std.specs.Prelude.{ℕ, suc, ◌≡◌, ◌+◌, ◌<◌, Bool, true, false, List, [], ◌∷◌, ◌++◌, length, take, drop, get_or, Option, Some, None, refl}
use Rattle.std.proofs.Common.{ap, sym, subst, ◌∙◌, add-one, append_assoc}
use Rattle.std.proofs.lemmas.List.{append-nil}
use Rattle.fof_terms.specs.declared.term.Term.{Term}
use Rattle.fof_terms.specs.declared.form.Form.{Form, Atom, Eq, Not, Imp, Iff, All, Ex}
use Rattle.fof_terms.specs.Instance.{instance_of}
use Rattle.fof_terms.specs.Sorts.{sort_of_term}
use Rattle.fof_terms.specs.Vocabulary.{Vocabulary}
use Rattle.clause_form.specs.Norm.{node}
use Rattle.clause_form.specs.Sizes.{norm_size_of}
use Rattle.clause_form.proofs.SizesFacts.{norm_size_of-Ex}
use Rattle.skolem_fresh.specs.declared.just.Use.{Use}
use Rattle.skolem_fresh.specs.Choosing.{IsWithin}
use Rattle.skolem_fresh.specs.Uses.{value_of}
use Rattle.skolem_fresh.proofs.Opened.{within_value}
use Rattle.skolem_fresh.proofs.WalkCode.{taken_snoc, whole_from, instance_size}
use Rattle.function_choices.specs.declared.atoms.Placed.{Placed}
use Rattle.function_choices.specs.Choices.{IsChosen, AreChosen, IsRefused, AreRefused, an_atom, an_equation, a_negation, a_conjunction, a_disjunction, for_each, for_some, none, more, an_implication, an_equivalence, in_conjunction, in_disjunction, under_each, no_function, under_some, here, further}
use Rattle.function_choices.specs.code.Walked.{IsReplaced, IsWalkedTo, IsWalked, AreWalkedTo, AreWalked}

module _ (v : Vocabulary) (atoms : List Placed) (fs : List ℕ) where
  -- one formula behind others
  chosen_snoc : (scope : List ℕ) (old first rest : List Use) (as_ bs : List Form) (a b : Form) → AreChosen v atoms fs scope old as_ first bs → IsChosen v atoms fs scope (old ++ first) a rest b → AreChosen v atoms fs scope old (as_ ++ a ∷ []) (first ++ rest) (bs ++ b ∷ [])
  chosen_snoc scope old first rest as_ bs a b (none sc before) h =
      subst (λ us. AreChosen v atoms fs sc before (a ∷ []) us (b ∷ [])) (append-nil rest)
      (more sc before rest [] a b [] [] (subst (λ us. IsChosen v atoms fs sc us a rest b) (append-nil before) h) (none sc (before ++ rest)))
  chosen_snoc scope old first rest as_ bs a b (more sc before one others c d cs ds k g) h =
      subst (λ us. AreChosen v atoms fs sc before (c ∷ (cs ++ a ∷ [])) us (d ∷ (ds ++ b ∷ []))) (sym (append_assoc one others rest))
      (more sc before one (others ++ rest) c d (cs ++ a ∷ []) (ds ++ b ∷ []) k
      (chosen_snoc sc (before ++ one) others rest cs ds a b g (subst (λ us. IsChosen v atoms fs sc us a rest b) (sym (append_assoc before one others)) h)))

  refused_behind : (scope : List ℕ) (old first : List Use) (as_ bs rest : List Form) (a : Form) → AreChosen v atoms fs scope old as_ first bs → IsRefused v atoms fs scope (old ++ first) a → AreRefused v atoms fs scope old (as_ ++ a ∷ rest)
  refused_behind scope old first as_ bs rest a (none sc before) h = here sc before a rest (subst (λ us. IsRefused v atoms fs sc us a) (append-nil before) h)
  refused_behind scope old first as_ bs rest a (more sc before one others c d cs ds k g) h =
      further sc before one c d (cs ++ a ∷ rest) k (refused_behind sc (before ++ one) others cs ds rest a g (subst (λ us. IsRefused v atoms fs sc us a) (sym (append_assoc before one others)) h))

  module _ (scope : List ℕ) where
    -- Each of some formulas.
    pub walk_starts : (forms : List Form) (uses : List Use) (made : List Form) → made ≡ [] → AreWalkedTo v atoms fs scope (take 0 forms) uses uses made
    walk_starts forms uses made e = record {
      uses = [];
      gained = sym (append-nil uses);
      chosen = subst (AreChosen v atoms fs scope uses [] []) (sym e) (none scope uses);
    }

    pub walk_more : (forms made made' : List Form) (i : ℕ) (form next : Form) (found : Option Form) (old us new : List Use) → i < length forms → form ≡ get_or forms i form → found ≡ Some next → made' ≡ made ++ next ∷ []
        → AreWalkedTo v atoms fs scope (take i forms) old us made → IsWalked v atoms fs scope form us new found → AreWalkedTo v atoms fs scope (take (i + 1) forms) old new made'
    walk_more forms made made' i form next found old us new lt is e em w x =
        let x' : IsWalkedTo v atoms fs scope form us new next = subst (IsWalked v atoms fs scope form us new) e x in
        let taken : take (i + 1) forms ≡ take i forms ++ form ∷ [] = (rw add-one refl) ∙ taken_snoc forms i form lt is in
        record {
          uses = w.uses ++ x'.uses;
          gained = x'.gained ∙ ap (λ (ls : List Use). ls ++ x'.uses) w.gained ∙ append_assoc old w.uses x'.uses;
          chosen = subst (λ as_. AreChosen v atoms fs scope old as_ (w.uses ++ x'.uses) made') (sym taken)
              (subst (AreChosen v atoms fs scope old (take i forms ++ form ∷ []) (w.uses ++ x'.uses)) (sym em)
              (chosen_snoc scope old w.uses x'.uses (take i forms) made form next w.chosen (subst (λ ls. IsChosen v atoms fs scope ls form x'.uses next) w.gained x'.chosen)));
        }

    pub walk_stops : (forms made : List Form) (i : ℕ) (form : Form) (found : Option Form) (old us new : List Use) → i < length forms → form ≡ get_or forms i form → found ≡ None
        → AreWalkedTo v atoms fs scope (take i forms) old us made → IsWalked v atoms fs scope form us new found → AreWalked v atoms fs scope forms old new None
    walk_stops forms made i form found old us new lt is e w x =
        let x' : IsRefused v atoms fs scope us form = subst (IsWalked v atoms fs scope form us new) e x in
        subst (AreRefused v atoms fs scope old) (sym (whole_from forms i form lt is))
        (refused_behind scope old w.uses (take i forms) made (drop (suc i) forms) form w.chosen (subst (λ ls. IsRefused v atoms fs scope ls form) w.gained x'))

    -- A literal.
    itself : (a b : Form) (uses : List Use) → b ≡ a → IsChosen v atoms fs scope uses a [] a → IsWalkedTo v atoms fs scope a uses uses b
    itself a b uses e h = record { uses = []; gained = sym (append-nil uses); chosen = subst (IsChosen v atoms fs scope uses a []) (sym e) h }

    pub atom_walked : (form copy : Form) (p : ℕ) (ts : List Term) (uses : List Use) → form ≡ Atom p ts → copy ≡ form → IsWalkedTo v atoms fs scope form uses uses copy
    atom_walked form copy p ts uses is e = itself form copy uses e (subst (λ a. IsChosen v atoms fs scope uses a [] a) (sym is) (an_atom scope uses p ts))

    pub equation_walked : (form copy : Form) (l r : Term) (uses : List Use) → form ≡ Eq l r → copy ≡ form → IsWalkedTo v atoms fs scope form uses uses copy
    equation_walked form copy l r uses is e = itself form copy uses e (subst (λ a. IsChosen v atoms fs scope uses a [] a) (sym is) (an_equation scope uses l r))

    pub negation_walked : (form copy a : Form) (uses : List Use) → form ≡ Not a → copy ≡ form → IsWalkedTo v atoms fs scope form uses uses copy
    negation_walked form copy a uses is e = itself form copy uses e (subst (λ b. IsChosen v atoms fs scope uses b [] b) (sym is) (a_negation scope uses a))

    pub implication_fails : (form a b : Form) (uses : List Use) → form ≡ Imp a b → IsRefused v atoms fs scope uses form
    implication_fails form a b uses is = subst (IsRefused v atoms fs scope uses) (sym is) (an_implication scope uses a b)

    pub equivalence_fails : (form a b : Form) (uses : List Use) → form ≡ Iff a b → IsRefused v atoms fs scope uses form
    equivalence_fails form a b uses is = subst (IsRefused v atoms fs scope uses) (sym is) (an_equivalence scope uses a b)

    -- A node.
    node_chosen : (g : Bool) (before uses : List Use) (as_ bs : List Form) → AreChosen v atoms fs scope before as_ uses bs → IsChosen v atoms fs scope before (node g as_) uses (node g bs)
    node_chosen true before uses as_ bs h = a_conjunction scope before uses as_ bs h
    node_chosen false before uses as_ bs h = a_disjunction scope before uses as_ bs h

    node_refused : (g : Bool) (before : List Use) (as_ : List Form) → AreRefused v atoms fs scope before as_ → IsRefused v atoms fs scope before (node g as_)
    node_refused true before as_ h = in_conjunction scope before as_ h
    node_refused false before as_ h = in_disjunction scope before as_ h

    pub node_done : (g : Bool) (form : Form) (members as_ : List Form) (old new : List Use) (found : Option (List Form)) (made : List Form) → form ≡ node g as_ → members ≡ as_ → found ≡ Some made
        → AreWalked v atoms fs scope members old new found → IsWalked v atoms fs scope form old new (Some (node g made))
    node_done g form members as_ old new found made is em e w =
        let w' : AreWalkedTo v atoms fs scope members old new made = subst (AreWalked v atoms fs scope members old new) e w in
        record {
          uses = w'.uses;
          gained = w'.gained;
          chosen = subst (λ a. IsChosen v atoms fs scope old a w'.uses (node g made)) (sym (is ∙ ap (node g) (sym em))) (node_chosen g old w'.uses members made w'.chosen);
        }

    pub node_fails : (g : Bool) (form : Form) (members as_ : List Form) (old new : List Use) (found : Option (List Form)) → form ≡ node g as_ → members ≡ as_ → found ≡ None
        → AreWalked v atoms fs scope members old new found → IsWalked v atoms fs scope form old new None
    node_fails g form members as_ old new found is em e w =
        subst (IsRefused v atoms fs scope old) (sym (is ∙ ap (node g) (sym em))) (node_refused g old members (subst (AreWalked v atoms fs scope members old new) e w))

    -- A universal quantifier.
    pub all_done : (sc : List ℕ) (s : ℕ) (form body b0 : Form) (old new : List Use) (found : Option Form) (made boxed : Form) → sc ≡ s ∷ scope → form ≡ All s b0 → body ≡ b0 → found ≡ Some made → boxed ≡ made
        → IsWalked v atoms fs sc body old new found → IsWalked v atoms fs scope form old new (Some (All s boxed))
    all_done sc s form body b0 old new found made boxed es is eb e em w =
        let w' : IsWalkedTo v atoms fs (s ∷ scope) body old new made = subst (λ x. IsWalked v atoms fs x body old new (Some made)) es (subst (IsWalked v atoms fs sc body old new) e w) in
        record {
          uses = w'.uses;
          gained = w'.gained;
          chosen = subst (λ a. IsChosen v atoms fs scope old a w'.uses (All s boxed)) (sym (is ∙ ap (All s) (sym eb)))
              (subst (λ b. IsChosen v atoms fs scope old (All s body) w'.uses (All s b)) (sym em) (for_each scope old w'.uses s body made w'.chosen));
        }

    pub all_fails : (sc : List ℕ) (s : ℕ) (form body b0 : Form) (old new : List Use) (found : Option Form) → sc ≡ s ∷ scope → form ≡ All s b0 → body ≡ b0 → found ≡ None
        → IsWalked v atoms fs sc body old new found → IsWalked v atoms fs scope form old new None
    all_fails sc s form body b0 old new found es is eb e w =
        subst (IsRefused v atoms fs scope old) (sym (is ∙ ap (All s) (sym eb)))
        (under_each scope old s body (subst (λ x. IsRefused v atoms fs x old body) es (subst (IsWalked v atoms fs sc body old new) e w)))

    -- An existential quantifier.
    module _ (s : ℕ) (form body b0 : Form) (old mid : List Use) (found : Option Form) (is : form ≡ Ex s b0) (eb : body ≡ b0) (r : IsReplaced v atoms fs scope s body old mid found) where
      form_is : form ≡ Ex s body
      form_is = is ∙ ap (Ex s) (sym eb)

      pub some_fails : (new : List Use) → found ≡ None → IsWalked v atoms fs scope form old new None
      some_fails new e = subst (IsRefused v atoms fs scope old) (sym form_is) (no_function scope old s body (subst (IsReplaced v atoms fs scope s body old mid) e r))

      module _ (next boxed : Form) (e : found ≡ Some boxed) (en : next ≡ boxed) where
        by : IsReplaced v atoms fs scope s body old mid (Some next)
        by = subst (IsReplaced v atoms fs scope s body old mid) (e ∙ ap Some (sym en)) r

        pub next_within : IsWithin v scope form → IsWithin v scope next
        next_within w =
            let u = by.0 in
            let first = by.1 in
            let fits = subst (λ (x : Use). sort_of_term v scope (value_of x) ≡ Some s) (sym first.1) first.2.may.fits in
            subst (IsWithin v scope) (sym by.3) (within_value v scope s body (subst (IsWithin v scope) form_is w) (value_of u) fits)

        pub next_size : norm_size_of form ≡ 1 + norm_size_of next
        next_size =
            let same : norm_size_of next ≡ norm_size_of body = ap norm_size_of by.3 ∙ instance_size (value_of by.0) body in
            ap norm_size_of form_is ∙ norm_size_of-Ex s body ∙ ap (λ n. 1 + n) (sym same)

        pub some_done : (new : List Use) (answer : Option Form) → IsWalked v atoms fs scope next mid new answer → IsWalked v atoms fs scope form old new answer
        some_done new None w =
            let u = by.0 in
            let first = by.1 in
            subst (IsRefused v atoms fs scope old) (sym form_is)
            (under_some scope old s body first.0 u first.1 first.2 (subst (λ us. IsRefused v atoms fs scope us (instance_of body (value_of u))) by.2 (subst (IsRefused v atoms fs scope mid) by.3 w)))
        some_done new (Some b) w =
            let u = by.0 in
            let first = by.1 in
            let h : IsChosen v atoms fs scope (old ++ u ∷ []) (instance_of body (value_of u)) w.uses b = subst (λ us. IsChosen v atoms fs scope us (instance_of body (value_of u)) w.uses b) by.2 (subst (λ a. IsChosen v atoms fs scope mid a w.uses b) by.3 w.chosen) in
            record {
              uses = u ∷ w.uses;
              gained = w.gained ∙ ap (λ (ls : List Use). ls ++ w.uses) by.2 ∙ append_assoc old (u ∷ []) w.uses;
              chosen = subst (λ a. IsChosen v atoms fs scope old a (u ∷ w.uses) b) (sym form_is) (for_some scope old w.uses s body b first.0 u first.1 first.2 h);
            }

-- The whole formula stands under no quantifier.
pub whole_walked : (v : Vocabulary) (atoms : List Placed) (fs : List ℕ) (a : Form) (scope : List ℕ) (old new : List Use) (answer : Option Form) → scope ≡ [] → IsWalked v atoms fs scope a old new answer → IsWalked v atoms fs [] a old new answer
whole_walked v atoms fs a scope old new answer e w = subst (λ sc. IsWalked v atoms fs sc a old new answer) e w
