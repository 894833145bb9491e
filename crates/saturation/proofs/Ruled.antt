-- What the indexes rule out has no inference.
use Rattle.std.specs.Prelude.{ℕ, ◌+◌, Bool, true, false, not, List, [], ◌∷◌, ◌≡◌, map, length, slice_get, Option, Some, None, refl}
use Rattle.std.specs.List.{Contains}
use Rattle.std.specs.Option.{option_map}
use Rattle.std.proofs.Common.{ap, sym, subst, ◌∙◌, arith, inl, inr}
use Rattle.std.proofs.lemmas.Option.{slice_get-map}
use Rattle.fof_terms.specs.declared.term.Term.{Term, Var, App}
use Rattle.fof_terms.specs.declared.term.Term.TheViews.{out-Term, outs-Var, outs-App}
use Rattle.fof_terms.specs.Vocabulary.{Vocabulary}
use Rattle.fof_terms.specs.Lift.{lifted_term}
use Rattle.fof_terms.proofs.Induction.{term_induction}
use Rattle.fof_terms.proofs.LiftFacts.{lifted_term-App}
use Rattle.fof_terms.proofs.LiftingLaws.{moves}
use Rattle.clause_form.specs.declared.clause.AtomOf.{AtomOf}
use Rattle.clause_form.specs.declared.clause.AtomOf.TheVariants.{Pred, Eq, True, False}
use Rattle.clause_form.specs.declared.clause.Lit.{Lit}
use Rattle.clause_form.specs.declared.clause.Clause.{Clause}
use Rattle.clause_form.specs.Covers.{at_terms, lit_apart}
use Rattle.clause_form.specs.Images.{image}
use Rattle.clause_form.proofs.ImagesFacts.{image_of_lifted}
use Rattle.clause_rules.specs.Places.{args_of, args_of_atom, term_at, down_into, lit_term_at}
use Rattle.clause_index.specs.Keys.{keys_of}
use Rattle.clause_rules.proofs.PlaceLaws.{args_of-Var, args_of-App}
use Rattle.clause_index.specs.declared.entry.Entry.{Entry}
use Rattle.clause_index.proofs.KeyFacts.{equal_no_clash}
use Rattle.subsumption.specs.Mask.{head_number}
use Rattle.superpose.specs.Inferences.{InfersFromTwo}
use Rattle.saturation.specs.declared.offers.Offer.{Offer}
use Rattle.saturation.specs.code.Entered.{IsEntered}
use Rattle.saturation.specs.code.Marked.{IsRuledOut}
use Rattle.saturation.proofs.Passing.{AreOffered}
use Rattle.fof_terms.specs.declared.term.Term.TheOpen as term

no_variable : (f k : ℕ) (ts : List Term) → App f ts ≡ Var k → ⊥
no_variable f k ts e = let layers : term.App f ts ≡ term.Var k = sym (outs-App f ts) ∙ ap out-Term e ∙ outs-Var k in cc

head_of : (f g : ℕ) (ts us : List Term) → App f ts ≡ App g us → f ≡ g
head_of f g ts us e = let layers : term.App f ts ≡ term.App g us = sym (outs-App f ts) ∙ ap out-Term e ∙ outs-App g us in cc

from_map : {X Y : Type 0} (f : X → Y) (o : Option X) (y : Y) → option_map f o ≡ Some y → (x : X) × (o ≡ Some x) × (f x ≡ y)
from_map f None y e = cc
from_map f (Some x) y e = (x, refl, cc)

-- what was moved apart
apart_at : (m : ℕ) (lits : List Lit) (j : ℕ) (l : Lit) → slice_get (map (lit_apart m) lits) j ≡ Some l → (k : Lit) × (slice_get lits j ≡ Some k) × (lit_apart m k ≡ l)
apart_at m lits j l e = from_map (lit_apart m) (slice_get lits j) l (sym (slice_get-map (lit_apart m) lits j) ∙ e)

apart_atom : (m : ℕ) (a : AtomOf) (p : ℕ) (us : List Term) → at_terms (lifted_term m 0) a ≡ Pred p us → (ts : List Term) × (a ≡ Pred p ts) × (us ≡ map (lifted_term m 0) ts)
apart_atom m (Pred q ts) p us e =
    let heads : q + 3 ≡ p + 3 = ap head_number e in
    let head : q ≡ p = omega arith in
    let args : map (lifted_term m 0) ts ≡ us = ap args_of_atom e in
    (ts, ap (λ n. Pred n ts) head, sym args)
apart_atom m (Eq l r) p us e = cc
apart_atom m True p us e = cc
apart_atom m False p us e = cc

-- terms below what was moved apart
args_moved : (m : ℕ) (t : Term) → args_of (lifted_term m 0 t) ≡ map (lifted_term m 0) (args_of t)
args_moved m = term_induction _ (record {
  var = λ k. ap args_of (moves m 0 k (omega arith)) ∙ args_of-Var (k + m) ∙ ap (map (lifted_term m 0)) (sym (args_of-Var k));
  app = λ f ts all. ap args_of (lifted_term-App m 0 f ts) ∙ args_of-App f (map (lifted_term m 0) ts) ∙ ap (map (lifted_term m 0)) (sym (args_of-App f ts));
})

moved_below : (m i : ℕ) (place : List ℕ) → ((ts : List Term) → term_at (i ∷ place) (map (lifted_term m 0) ts) ≡ option_map (lifted_term m 0) (term_at (i ∷ place) ts))
    → (o : Option Term) → down_into (term_at (i ∷ place)) (option_map (lifted_term m 0) o) ≡ option_map (lifted_term m 0) (down_into (term_at (i ∷ place)) o)
moved_below m i place h None = refl
moved_below m i place h (Some t) = ap (term_at (i ∷ place)) (args_moved m t) ∙ h (args_of t)

term_moved : (m : ℕ) (place : List ℕ) (ts : List Term) → term_at place (map (lifted_term m 0) ts) ≡ option_map (lifted_term m 0) (term_at place ts)
term_moved m [] ts = refl
term_moved m (n ∷ []) ts = slice_get-map (lifted_term m 0) ts n
term_moved m (n ∷ i ∷ place) ts =
    ap (down_into (term_at (i ∷ place))) (slice_get-map (lifted_term m 0) ts n) ∙ moved_below m i place (λ us. term_moved m (i ∷ place) us) (slice_get ts n)

args_apart : (m : ℕ) (a : AtomOf) → args_of_atom (at_terms (lifted_term m 0) a) ≡ map (lifted_term m 0) (args_of_atom a)
args_apart m (Pred p ts) = refl
args_apart m (Eq l r) = refl
args_apart m True = refl
args_apart m False = refl

moved_app : (m g : ℕ) (args : List Term) (t : Term) → lifted_term m 0 t ≡ App g args → (us : List Term) × (t ≡ App g us)
moved_app m g args = term_induction _ (record {
  var = λ k e. absurd (no_variable g (k + m) args (sym e ∙ moves m 0 k (omega arith)));
  app = λ f ts all e. (ts, ap (λ n. App n ts) (head_of f g (map (lifted_term m 0) ts) args (sym (lifted_term-App m 0 f ts) ∙ e)));
})

-- the term at a place of a literal that was moved apart
apart_term : (m : ℕ) (place : List ℕ) (k : Lit) (g : ℕ) (args : List Term) → lit_term_at place (lit_apart m k) ≡ Some (App g args)
    → (us : List Term) × (lit_term_at place k ≡ Some (App g us)) × (lifted_term m 0 (App g us) ≡ App g args)
apart_term m place k g args e =
    let found = from_map (lifted_term m 0) (lit_term_at place k) (App g args) (sym (term_moved m place (args_of_atom k.atom)) ∙ sym (ap (term_at place) (args_apart m k.atom)) ∙ e) in
    let shape = moved_app m g args found.0 found.2 in
    (shape.0, found.1 ∙ ap Some shape.1, ap (lifted_term m 0) (sym shape.1) ∙ found.2)

-- an entry that has an instance in common with an offer is no entry for what is ruled out
ruled : (entries : List Entry) (sign : Bool) (o : Offer) (n : ℕ) (t : Term) (r s : ℕ → Term) → IsRuledOut entries sign o n → o.positive ≡ sign
    → Contains entries (record { place = n; positive = not sign; keys = keys_of t }) → image r t ≡ image s o.term → ⊥
ruled entries sign o n t r s out same there equal =
    out same (record { place = n; positive = not sign; keys = keys_of t }) there (refl, equal_no_clash r s t o.term equal) refl

-- the literal that was moved apart, where a predicate atom is what it became
apart_lit : (m : ℕ) (lits : List Lit) (j : ℕ) (sign : Bool) (p : ℕ) (us : List Term) → slice_get (map (lit_apart m) lits) j ≡ Some (record { positive = sign; atom = Pred p us })
    → (ts : List Term) × (slice_get lits j ≡ Some (record { positive = sign; atom = Pred p ts })) × (lifted_term m 0 (App p ts) ≡ App p us)
apart_lit m lits j sign p us e =
    let found = apart_at m lits j (record { positive = sign; atom = Pred p us }) e in
    let atom = apart_atom m found.0.atom p us (ap (λ (l : Lit). l.atom) found.2) in
    let signs : found.0.positive ≡ sign = ap (λ (l : Lit). l.positive) found.2 in
    let whole : found.0 ≡ record { positive = sign; atom = Pred p atom.0 } =
    ap (λ (b : Bool). record { positive = b; atom = found.0.atom }) signs ∙ ap (λ (a : AtomOf). record { positive = sign; atom = a }) atom.1 in
    (atom.0, found.1 ∙ ap Some whole, lifted_term-App m 0 p atom.0 ∙ ap (App p) (sym atom.2))

-- the last clause as the first premise, with a clause for whose number all partners are ruled out
pub no_into : (v : Vocabulary) (last c e : Clause) (s : ℕ → Term) (n : ℕ) (literals terms : List Offer) (literal_entries term_entries : List Entry) → AreOffered last.lits literals terms → IsEntered n c literal_entries term_entries
    → ((o : Offer) → Contains literals o → IsRuledOut literal_entries true o n) → ((o : Offer) → Contains terms o → IsRuledOut term_entries true o n) → InfersFromTwo v last c e s → ⊥
no_into v last c e s n literals terms literal_entries term_entries offered entered literals_out terms_out h =
    let m = length last.sorts in
    elim h.1 [
      | inl r ↦
          let at = r.at in
          let apart = apart_lit m c.lits r.j false at.p at.us at.there in
          let o : Offer = record { positive = true; term = App at.p at.ts } in
          let equal : image (λ k. s (k + m)) (App at.p apart.0) ≡ image s (App at.p at.ts) =
          sym (image_of_lifted s m (App at.p apart.0)) ∙ ap (image s) (apart.2 ∙ sym at.other) ∙ sym h.2.unified ∙ ap (image s) at.one in
          ruled literal_entries true o n (App at.p apart.0) (λ k. s (k + m)) s (literals_out o (offered.atoms r.i true at.p at.ts at.first at.here)) refl
          (entered.atoms r.j false at.p apart.0 at.second apart.1) equal
      | inr r ↦
          let at = r.at in
          let lit = apart_at m c.lits r.j at.target at.there in
          let apart = apart_term m r.place lit.0 at.g at.args (subst (λ (l : Lit). lit_term_at r.place l ≡ Some (App at.g at.args)) (sym lit.2) at.stands) in
          let o : Offer = record { positive = true; term = at.l } in
          let equal : image (λ k. s (k + m)) (App at.g apart.0) ≡ image s at.l =
          sym (image_of_lifted s m (App at.g apart.0)) ∙ ap (image s) (apart.2 ∙ sym at.other) ∙ sym h.2.unified ∙ ap (image s) at.one in
          ruled term_entries true o n (App at.g apart.0) (λ k. s (k + m)) s (terms_out o (offered.sides r.i r.flipped at.l at.r at.first at.here at.not_less)) refl
          (entered.spots r.j r.place lit.0 at.g apart.0 at.second lit.1 apart.1) equal
    ]

-- the same with the last clause as the second premise
pub no_from : (v : Vocabulary) (last c e : Clause) (s : ℕ → Term) (n : ℕ) (literals terms : List Offer) (literal_entries term_entries : List Entry) → AreOffered last.lits literals terms → IsEntered n c literal_entries term_entries
    → ((o : Offer) → Contains literals o → IsRuledOut literal_entries false o n) → ((o : Offer) → Contains terms o → IsRuledOut term_entries false o n) → InfersFromTwo v c last e s → ⊥
no_from v last c e s n literals terms literal_entries term_entries offered entered literals_out terms_out h =
    let m = length c.sorts in
    elim h.1 [
      | inl r ↦
          let at = r.at in
          let apart = apart_lit m last.lits r.j false at.p at.us at.there in
          let o : Offer = record { positive = false; term = App at.p apart.0 } in
          let equal : image s (App at.p at.ts) ≡ image (λ k. s (k + m)) (App at.p apart.0) =
          ap (image s) (sym at.one) ∙ h.2.unified ∙ ap (image s) (at.other ∙ sym apart.2) ∙ image_of_lifted s m (App at.p apart.0) in
          ruled literal_entries false o n (App at.p at.ts) s (λ k. s (k + m)) (literals_out o (offered.atoms r.j false at.p apart.0 at.second apart.1)) refl
          (entered.atoms r.i true at.p at.ts at.first at.here) equal
      | inr r ↦
          let at = r.at in
          let lit = apart_at m last.lits r.j at.target at.there in
          let apart = apart_term m r.place lit.0 at.g at.args (subst (λ (l : Lit). lit_term_at r.place l ≡ Some (App at.g at.args)) (sym lit.2) at.stands) in
          let o : Offer = record { positive = false; term = App at.g apart.0 } in
          let equal : image s at.l ≡ image (λ k. s (k + m)) (App at.g apart.0) =
          ap (image s) (sym at.one) ∙ h.2.unified ∙ ap (image s) (at.other ∙ sym apart.2) ∙ image_of_lifted s m (App at.g apart.0) in
          ruled term_entries false o n at.l s (λ k. s (k + m)) (terms_out o (offered.spots r.j r.place lit.0 at.g apart.0 at.second lit.1 apart.1)) refl
          (entered.sides r.i r.flipped at.l at.r at.first at.here at.not_less) equal
    ]
